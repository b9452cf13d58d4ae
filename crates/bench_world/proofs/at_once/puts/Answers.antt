use Rattle.std.proofs.Common.{rules, ◌≡◌, sym, subst}
use Rattle.link_calls.specs.AtOnce.{AreApart}
use Rattle.bench_world.specs.Asked.{slot_messages}
use Rattle.bench_world.specs.Legal.{MayPuts}
use Rattle.bench_world.proofs.link_law.Talked.{puts_apart}
use Rattle.bench_world.proofs.at_once.puts.Goals as goal

pub talk-requires-clause-may : goal.talk-requires-clause-may
talk-requires-clause-may c =
    let may : MayPuts c.args.all.now = search rules in
    let is : c.deref.result.now ≡ slot_messages c.args.all.now = search rules in
    subst AreApart (sym is) (puts_apart c.args.all.now may.own may.each)
