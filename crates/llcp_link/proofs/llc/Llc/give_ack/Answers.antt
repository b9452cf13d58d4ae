use Rattle.std.proofs.Common.{rules, ◌≡◌, ◌<◌, ◌≤◌, ◌-◌, ◌+◌, Some, None, sym, ap, subst, ◌∙◌, arith}
use Rattle.llcp_link.specs.Giving.{first_from, first_of_all, acknowledges}
use Rattle.llcp_link.specs.Offering.{IsLonger, part_of}
use Rattle.llcp_pdu.specs.Wire.{sap_count}
use Rattle.llcp_link.proofs.Circle.{ends_at, found_here, goes_round, longer_here}
use Rattle.llcp_link.proofs.llc.Llc.give_ack.Goals as goal

pub returns-in-Given-clause-next : goal.returns-in-Given-clause-next
returns-in-Given-clause-next g c =
    let l = c.args.self.now in
    let f = acknowledges l in
    let t = c.in-Given.ensures.next in
    let lt : c.clients.counter < sap_count = search rules in
    let d : f c.clients.client ≡ Some (record { llc = c.give_ack_at.new.self; part = c.in-Given.part }) = ap (λ k. acknowledges k c.clients.client) (sym c.clients.invariant.same) ∙ t.0 in
    (found_here sap_count c.clients.counter c.clients.client f (first_of_all l.last f) (record { llc = c.give_ack_at.new.self; part = c.in-Given.part }) lt c.clients.invariant.left d, t.1, t.2)

pub clients-preserved : goal.clients-preserved
clients-preserved g c =
    let l = c.args.self.now in
    let f = acknowledges l in
    let t = c.in-Nothing.ensures.next in
    let lt : c.clients.counter < sap_count = search rules in
    let d : f c.clients.client ≡ None = ap (λ k. acknowledges k c.clients.client) (sym c.clients.invariant.same) ∙ t.0 in record {
      client = c.sap_after-client.ensures.range;
      same = t.1 ∙ c.clients.invariant.same;
      left =
          goes_round sap_count c.clients.counter c.clients.client f (first_of_all l.last f) lt c.clients.invariant.left d
          ∙ ap (λ s. first_from (sap_count - (c.clients.counter + 1)) s f) (sym c.sap_after-client.ensures.after);
    }

pub returns-clause-next : goal.returns-clause-next
returns-clause-next g c =
    let l = c.args.self.now in
    let f = acknowledges l in
    let past : sap_count ≤ c.clients.counter = search rules in
    let z : sap_count - c.clients.counter ≡ 0 = omega arith in
    (ends_at (sap_count - c.clients.counter) c.clients.client f (first_of_all l.last f) z c.clients.invariant.left, c.clients.invariant.same)

pub returns-in-TooLong-clause-next : goal.returns-in-TooLong-clause-next
returns-in-TooLong-clause-next g c =
    let l = c.args.self.now in
    let f = acknowledges l in
    let t = c.in-TooLong.ensures.next in
    let lt : c.clients.counter < sap_count = search rules in
    let k : IsLonger c.args.room (part_of (f c.clients.client)) =
    subst (λ x. IsLonger c.args.room (part_of (acknowledges x c.clients.client))) c.clients.invariant.same t.1 in (
      t.0 ∙ c.clients.invariant.same,
      longer_here sap_count c.clients.counter c.clients.client f (first_of_all l.last f) c.args.room lt c.clients.invariant.left k,
    )
