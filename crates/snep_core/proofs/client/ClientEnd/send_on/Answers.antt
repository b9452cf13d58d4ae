use Rattle.std.proofs.Common.{◌≡◌, ◌<◌, ap, ◌∙◌, length, rules, Some}
use Rattle.llcp_link.specs.Asking.{standing_of}
use Rattle.snep_core.specs.Talk.{miu_of, own_of, sends_on}
use Rattle.snep_core.proofs.jobs.Submits.{sends_end, sent_none, sent_one}
use Rattle.snep_core.proofs.client.ClientEnd.send_on.Goals as goal

pub returns-then-not-taken-clause-ok : goal.returns-then-not-taken-clause-ok
returns-then-not-taken-clause-ok c =
    let e : miu_of (standing_of (own_of c.args.sap c.args.self.now.llc)) ≡ Some c.in-Some.miu = search rules in
    let n = sent_none c.args.sap c.in-Some.miu c.args.most c.units.self.llc c.offer_front.new.self.llc c.units.rest c.offer_front.new.bytes c.in_ok-taken.taken
    c.in-Some.ensures.some c.if-not-taken.true c.in_ok-taken.ensures.ok c.in_ok-taken.ensures.rest in
    ap (λ o. sends_on c.args.self.now.llc c.args.sap c.args.most c.args.bytes o) e ∙ c.units.invariant.sends ∙ n

pub units-preserved : goal.units-preserved
units-preserved c =
    let some : 0 < length c.units.rest = search rules in
    let n = sent_one c.args.sap c.in-Some.miu c.args.most c.units.self.llc c.offer_front.new.self.llc c.units.rest c.offer_front.new.bytes c.in_ok-taken.taken
    c.in-Some.ensures.some some c.if-not-taken.false c.in_ok-taken.ensures.ok c.in_ok-taken.ensures.rest in record {
      spent = c.in_ok-taken.ensures.going ∙ c.units.invariant.spent;
      sends = c.units.invariant.sends ∙ n;
    }

pub returns-clause-ok : goal.returns-clause-ok
returns-clause-ok c =
    let e : miu_of (standing_of (own_of c.args.sap c.args.self.now.llc)) ≡ Some c.in-Some.miu = search rules in
    let none : length c.units.rest ≡ 0 = search rules in
    ap (λ o. sends_on c.args.self.now.llc c.args.sap c.args.most c.args.bytes o) e ∙ c.units.invariant.sends
    ∙ sends_end c.in-Some.miu c.args.sap c.args.most c.in-Some.ensures.some c.units.self.llc c.units.rest none
