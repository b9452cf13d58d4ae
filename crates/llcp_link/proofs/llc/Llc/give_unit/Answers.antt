use Rattle.std.proofs.Common.{rules, ◌≡◌, ◌<◌, ◌≤◌, ◌-◌, ◌+◌, Some, None, sym, ap, subst, ◌∙◌, arith}
use Rattle.llcp_link.specs.Giving.{first_from, first_of_all, informs}
use Rattle.llcp_link.specs.Offering.{IsLonger, LeavesNext, Tried, part_of}
use Rattle.llcp_link.specs.declared.giving.Next.TheVariants.{Given, Nothing, TooLong}
use Rattle.llcp_pdu.specs.Wire.{sap_count}
use Rattle.llcp_link.proofs.Circle.{ends_at, found_here, goes_round, longer_here, next_left}
use Rattle.llcp_link.proofs.llc.Llc.give_unit.Goals as goal

pub returns-in-Ok-Given-clause-next : goal.returns-in-Ok-Given-clause-next
returns-in-Ok-Given-clause-next g c =
    let l = c.args.self.now in
    let f = informs g.S.Service.serving l in
    let t : Tried c.args.room (informs g.S.Service.serving c.clients.self c.clients.client) c.clients.self c.give_unit_at.new.self (Given c.in-Ok-Given.part) =
    subst (Tried c.args.room (informs g.S.Service.serving c.clients.self c.clients.client) c.clients.self c.give_unit_at.new.self) c.in-Ok-Given.field-0-is c.in-Ok-Given.ensures.next in
    let lt : c.clients.counter < sap_count = search rules in
    let d : f c.clients.client ≡ Some (record { llc = c.give_unit_at.new.self; part = c.in-Ok-Given.part }) =
    ap (λ k. informs g.S.Service.serving k c.clients.client) (sym c.clients.invariant.same) ∙ t.0 in
    (found_here sap_count c.clients.counter c.clients.client f (first_of_all l.last f) (record { llc = c.give_unit_at.new.self; part = c.in-Ok-Given.part }) lt c.clients.invariant.left d, t.1, t.2)

pub clients-preserved : goal.clients-preserved
clients-preserved g c =
    let l = c.args.self.now in
    let f = informs g.S.Service.serving l in
    let t : Tried c.args.room (informs g.S.Service.serving c.clients.self c.clients.client) c.clients.self c.give_unit_at.new.self Nothing =
    subst (Tried c.args.room (informs g.S.Service.serving c.clients.self c.clients.client) c.clients.self c.give_unit_at.new.self) c.in-Ok-Nothing.field-0-is c.in-Ok-Nothing.ensures.next in
    let lt : c.clients.counter < sap_count = search rules in
    let d : f c.clients.client ≡ None = ap (λ k. informs g.S.Service.serving k c.clients.client) (sym c.clients.invariant.same) ∙ t.0 in record {
      client = c.sap_after-client.ensures.range;
      same = t.1 ∙ c.clients.invariant.same;
      left =
          goes_round sap_count c.clients.counter c.clients.client f (first_of_all l.last f) lt c.clients.invariant.left d
          ∙ ap (λ s. first_from (sap_count - (c.clients.counter + 1)) s f) (sym c.sap_after-client.ensures.after);
    }

pub returns-clause-next : goal.returns-clause-next
returns-clause-next g c =
    let l = c.args.self.now in
    let f = informs g.S.Service.serving l in
    let past : sap_count ≤ c.clients.counter = search rules in
    let z : sap_count - c.clients.counter ≡ 0 = omega arith in
    (ends_at (sap_count - c.clients.counter) c.clients.client f (first_of_all l.last f) z c.clients.invariant.left, c.clients.invariant.same)

pub returns-in-Err-clause-err : goal.returns-in-Err-clause-err
returns-in-Err-clause-err g c =
    let l = c.args.self.now in
    let m = g.S.Service.serving in
    let f = informs m l in
    let lt : c.clients.counter < sap_count = search rules in
    let left : LeavesNext m (informs m c.clients.self c.clients.client) c.clients.self.service c.give_unit_at.new.self.service = search rules in
    let moved : LeavesNext m (f c.clients.client) l.service c.give_unit_at.new.self.service =
    subst (λ k. LeavesNext m (informs m k c.clients.client) k.service c.give_unit_at.new.self.service) c.clients.invariant.same left in
    next_left m sap_count c.clients.counter c.clients.client f (first_of_all l.last f) l.service c.give_unit_at.new.self.service lt c.clients.invariant.left moved

pub returns-in-Ok-TooLong-clause-next : goal.returns-in-Ok-TooLong-clause-next
returns-in-Ok-TooLong-clause-next g c =
    let l = c.args.self.now in
    let m = g.S.Service.serving in
    let f = informs m l in
    let t : Tried c.args.room (informs m c.clients.self c.clients.client) c.clients.self c.give_unit_at.new.self TooLong =
    subst (Tried c.args.room (informs m c.clients.self c.clients.client) c.clients.self c.give_unit_at.new.self)
    c.in-Ok-TooLong.field-0-is c.in-Ok-TooLong.ensures.next in
    let lt : c.clients.counter < sap_count = search rules in
    let k : IsLonger c.args.room (part_of (f c.clients.client)) =
    subst (λ x. IsLonger c.args.room (part_of (informs m x c.clients.client))) c.clients.invariant.same t.1 in (
      t.0 ∙ c.clients.invariant.same,
      longer_here sap_count c.clients.counter c.clients.client f (first_of_all l.last f) c.args.room lt c.clients.invariant.left k,
    )
