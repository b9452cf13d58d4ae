use Rattle.std.proofs.Common.{rules, ◌≡◌, ◌∷◌, subst}
use Rattle.llcp_pdu.specs.Ranges.{AreParts}
use Rattle.llcp_pdu.specs.Views.{IsFirst, parts_in, shown}
use Rattle.llcp_link.specs.private.Stepping.{stepped}
use Rattle.llcp_link.proofs.StepsSoFar.{goes_on, same_on}
use Rattle.llcp_link.proofs.llc.Llc.take_parts.Goals as goal

pub inner-preserved : goal.inner-preserved
inner-preserved g c =
    let left = parts_in c.inner.pdu-iterator in
    let ps = parts_in c.next.new.self in
    let f : IsFirst c.in-Some.pdu left ps = c.in-Some.ensures.steps in
    let ok : c.take_part.new.self ≡ stepped g.S.Service.serving c.inner.self (shown c.in-Some.pdu) = search rules in
    let range : AreParts (f.0 ∷ ps) = subst AreParts f.2 c.inner.invariant.range in record {
      range = range.2;
      steps = goes_on g.S.Service.serving c.args.self.now (parts_in c.args.inner.now) left ps f.0 c.inner.self c.take_part.new.self (shown c.in-Some.pdu) c.inner.invariant.steps f.2 f.1 ok;
      same = same_on c.args.self.now c.inner.self c.take_part.new.self c.inner.invariant.same c.take_part.ensures.same;
    }
