use Rattle.std.proofs.Common.{rules, ◌≡◌, ◌<◌, ap, ◌∙◌, length, Some}
use Rattle.llcp_link.specs.Asking.{standing_of}
use Rattle.snep_core.specs.Talk.{begins_on, miu_of, own_of}
use Rattle.snep_core.proofs.jobs.Submits.{begin_not, begin_part, begin_whole}
use Rattle.snep_core.proofs.client.ClientEnd.begin_on.Goals as goal

pub returns-then-not-taken-clause-ok : goal.returns-then-not-taken-clause-ok
returns-then-not-taken-clause-ok c =
    let e : miu_of (standing_of (own_of c.args.sap c.args.self.now.llc)) ≡ Some c.in-Some.miu = search rules in
    ap (λ o. begins_on c.args.self.now.llc c.args.sap c.args.most c.args.bytes o) e
    ∙ begin_not c.args.sap c.in-Some.miu c.args.most c.args.self.now.llc c.offer_front.new.self.llc c.args.bytes c.offer_front.new.bytes c.in_ok-taken.taken
    c.in_ok-taken.ensures.ok c.in_ok-taken.ensures.rest c.if-not-taken.true

pub returns-then-is_empty-clause-ok : goal.returns-then-is_empty-clause-ok
returns-then-is_empty-clause-ok c =
    let e : miu_of (standing_of (own_of c.args.sap c.args.self.now.llc)) ≡ Some c.in-Some.miu = search rules in
    let none : length c.offer_front.new.bytes ≡ 0 = search rules in
    ap (λ o. begins_on c.args.self.now.llc c.args.sap c.args.most c.args.bytes o) e
    ∙ begin_whole c.args.sap c.in-Some.miu c.args.most c.args.self.now.llc c.offer_front.new.self.llc c.args.bytes c.offer_front.new.bytes c.in_ok-taken.taken
    c.in_ok-taken.ensures.ok c.in_ok-taken.ensures.rest c.if-not-taken.false none

pub returns-clause-ok : goal.returns-clause-ok
returns-clause-ok c =
    let e : miu_of (standing_of (own_of c.args.sap c.args.self.now.llc)) ≡ Some c.in-Some.miu = search rules in
    let some : 0 < length c.offer_front.new.bytes = search rules in
    ap (λ o. begins_on c.args.self.now.llc c.args.sap c.args.most c.args.bytes o) e
    ∙ begin_part c.args.sap c.in-Some.miu c.args.most c.args.self.now.llc c.offer_front.new.self.llc c.args.bytes c.offer_front.new.bytes c.in_ok-taken.taken
    c.in_ok-taken.ensures.ok c.in_ok-taken.ensures.rest c.if-not-taken.false some
