use Rattle.std.proofs.Common.{List, option_copied, sym, ◌∙◌, ap}
use Rattle.snep_core.specs.Server.{Received as Accepted, ServerState, sources_of}
use Rattle.bench_world.specs.private.Gains.{accepted_above}
use Rattle.bench_world.specs.Inbox.{chosen, is_in}
use Rattle.bench_world.proofs.link_law.Gained.{shown_on}
use Rattle.bench_world.proofs.machines.Machines.sources_on.Goals as goal

pub returns-in-Some-end_of : goal.returns-in-Some-end_of
returns-in-Some-end_of c =
    let there : List Accepted = c.in-Some-end_of.end.now.service.accepted in
    c.in_range.ensures
    ∙ ap (chosen (is_in c.in-Some.range) 0) (c.sources.ensures ∙ ap (λ (s : ServerState). sources_of s.accepted) c.as_service.ensures)
    ∙ shown_on (λ (m : Accepted). m.source) c.args.self.now c.args.number c.in-Some.range there (sym c.in-Some.is ∙ c.range.ensures)
    (ap (λ o. accepted_above (option_copied o)) (sym c.in-Some-end_of.is) ∙ c.end_of.ensures)
