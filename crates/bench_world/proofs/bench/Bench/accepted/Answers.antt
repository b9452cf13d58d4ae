use Rattle.std.proofs.Common.{◌≡◌, false, ◌∙◌, ap}
use Rattle.snep_core.specs.Server.{messages_of}
use Rattle.bench_world.specs.Obeying.{Benched}
use Rattle.bench_world.specs.Stories.{gained_on}
use Rattle.bench_world.proofs.link_law.Gained.{gained_same}
use Rattle.bench_world.proofs.bench.Bench.accepted.Goals as goal

pub returns : goal.returns
returns c sound =
    let inside : c.self.inside.spoiled ≡ false = ap (λ (b : Benched). b.spoiled) c.self.view_is ∙ sound in
    c.accepted_on.ensures ∙ ap messages_of (gained_same c.self.inside.machines c.args.link (c.self.invariant inside).0.places)
    ∙ ap (λ (b : Benched). messages_of (gained_on b.state c.args.link)) c.self.view_is
