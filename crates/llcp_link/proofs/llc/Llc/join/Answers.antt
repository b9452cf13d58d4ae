use Rattle.std.proofs.Common.{rules, ◌≡◌, ◌<◌, ◌≤◌, ◌⊎◌, ◌-◌, ◌+◌, ◌++◌, ◌∷◌, [], refl, sym, ap, ◌∙◌, subst, inl, inr, length, length-append, arith}
use Rattle.std.proofs.lemmas.Bool.{cases_lt}
use Rattle.llcp_pdu.specs.Writing.{inner_bytes, part_bytes, parts_bytes}
use Rattle.llcp_link.specs.Giving.{gave}
use Rattle.llcp_link.specs.private.Joining.{Joins}
use Rattle.llcp_link.specs.Offering.{LeavesNext, Tried}
use Rattle.llcp_link.specs.declared.giving.Next.TheVariants.{Given, Nothing, TooLong}
use Rattle.llcp_link.proofs.JoinsOn.{JoinsSoFar, one_joined, parts_more, joins_all, joins_now, halts_now, full_end, full_long, full_nothing}
use Rattle.llcp_link.proofs.GivesNext.{left_by}
use Rattle.llcp_link.proofs.StepsSoFar.{same_on}
use Rattle.llcp_link.proofs.llc.Llc.join.Goals as goal

pub returns-clause-joined : goal.returns-clause-joined
returns-clause-joined g c = go (cases_lt 0 c.others.room)
  where
    go : ((0 < c.others.room) ⊎ (c.others.room ≤ 0)) → Joins g.S.Service.serving c.args.first c.args.most c.args.self.now c.others.others.items c.others.self
    go (inl some) =
        let m = g.S.Service.serving in
        let ps = c.others.others.items in
        let few = c.others.invariant.few in
        let many : c.args.most ≤ length ps = search rules in
        joins_all m c.args.first c.args.most c.args.self.now ps (c.args.first + length (parts_bytes ps)) c.others.self c.others.invariant.joined (omega arith)
    go (inr none) =
        let m = g.S.Service.serving in
        let ps = c.others.others.items in
        let used = c.args.first + length (parts_bytes ps) in
        let far = c.others.invariant.same.far_miu in
        let room = c.others.invariant.room in
        let past : c.others.self.far_miu ≤ used = omega arith in
        joins_now m c.args.first c.args.most c.args.self.now ps used c.others.self c.others.invariant.joined c.others.invariant.few
        (full_end m used c.others.self past)

pub returns-in-Err-clause-err : goal.returns-in-Err-clause-err
returns-in-Err-clause-err g c =
    let m = g.S.Service.serving in
    let ps = c.others.others.items in
    let left : LeavesNext m (gave m c.others.self) c.others.self.service c.give_next.new.self.service = search rules in
    halts_now m c.args.first c.args.self.now ps (c.args.first + length (parts_bytes ps)) c.others.self c.give_next.new.self.service
    c.others.invariant.joined left

pub returns-in-Ok-Nothing-clause-joined : goal.returns-in-Ok-Nothing-clause-joined
returns-in-Ok-Nothing-clause-joined g c =
    let m = g.S.Service.serving in
    let ps = c.others.others.items in
    let used = c.args.first + length (parts_bytes ps) in
    let t : Tried c.others.room (gave m c.others.self) c.others.self c.give_next.new.self Nothing =
    subst (Tried c.others.room (gave m c.others.self) c.others.self c.give_next.new.self) c.in-Ok-Nothing.field-0-is
    c.in-Ok-Nothing.ensures.next in
    subst (Joins m c.args.first c.args.most c.args.self.now ps) (sym t.1)
    (joins_now m c.args.first c.args.most c.args.self.now ps used c.others.self c.others.invariant.joined c.others.invariant.few (full_nothing m used c.others.self t.0))

pub returns-in-Ok-TooLong-clause-joined : goal.returns-in-Ok-TooLong-clause-joined
returns-in-Ok-TooLong-clause-joined g c =
    let m = g.S.Service.serving in
    let ps = c.others.others.items in
    let used = c.args.first + length (parts_bytes ps) in
    let t : Tried c.others.room (gave m c.others.self) c.others.self c.give_next.new.self TooLong =
    subst (Tried c.others.room (gave m c.others.self) c.others.self c.give_next.new.self) c.in-Ok-TooLong.field-0-is
    c.in-Ok-TooLong.ensures.next in
    let room : c.others.room ≡ c.others.self.far_miu - used =
    c.others.invariant.room ∙ ap (λ k. k - used) (sym c.others.invariant.same.far_miu) in
    subst (Joins m c.args.first c.args.most c.args.self.now ps) (sym t.0)
    (joins_now m c.args.first c.args.most c.args.self.now ps used c.others.self c.others.invariant.joined c.others.invariant.few
    (full_long m used c.others.room c.others.self room t.1))

pub returns-in-Err-push-clause-err : goal.returns-in-Err-push-clause-err
returns-in-Err-push-clause-err g c =
    let m = g.S.Service.serving in
    let ps = c.others.others.items in
    let t : Tried c.others.room (gave m c.others.self) c.others.self c.give_next.new.self (Given c.in-Ok-Given.part) =
    subst (Tried c.others.room (gave m c.others.self) c.others.self c.give_next.new.self) c.in-Ok-Given.field-0-is
    c.in-Ok-Given.ensures.next in
    let left : LeavesNext m (gave m c.others.self) c.others.self.service c.give_next.new.self.service =
    inr (left_by (gave m c.others.self) (record { llc = c.give_next.new.self; part = c.in-Ok-Given.part })
    c.give_next.new.self.service t.0 refl) in
    halts_now m c.args.first c.args.self.now ps (c.args.first + length (parts_bytes ps)) c.others.self c.give_next.new.self.service
    c.others.invariant.joined left

pub others-preserved : goal.others-preserved
others-preserved g c =
    let m = g.S.Service.serving in
    let p = c.in-Ok-Given.part in
    let old = c.args.self.now in
    let ps = c.others.others.items in
    let used = c.args.first + length (parts_bytes ps) in
    let new = c.give_next.new.self in
    let t : Tried c.others.room (gave m c.others.self) c.others.self new (Given p) =
    subst (Tried c.others.room (gave m c.others.self) c.others.self new) c.in-Ok-Given.field-0-is c.in-Ok-Given.ensures.next in
    let room : length (inner_bytes p) ≤ old.far_miu - used = subst (λ k. length (inner_bytes p) ≤ k) c.others.invariant.room t.2 in
    let items : c.push.new.self.items ≡ ps ++ p ∷ [] = search rules in
    let len : c.part_len.result ≡ length (part_bytes p) = search rules in
    let more = parts_more m ps p in
    let one = one_joined m c.args.first old ps used c.others.self p new c.others.invariant.joined c.others.invariant.same.far_miu
    t.0 t.1 room in
    let sum : used + (length (part_bytes p) + 2) ≡ c.args.first + length (parts_bytes (ps ++ p ∷ [])) = omega arith in
    let was = c.others.invariant.room in
    let less : length ps < c.args.most = search rules in record {
      room = subst (λ xs. c.others.room - (c.part_len.result + 2) ≡ old.far_miu - (c.args.first + length (parts_bytes xs))) (sym items) (omega arith);
      few = subst (λ xs. length xs ≤ c.args.most) (sym items) (let k = length-append ps (p ∷ []) in omega arith);
      same = same_on old c.others.self new c.others.invariant.same c.give_next.ensures.same;
      joined = subst (λ xs. JoinsSoFar m c.args.first old xs (c.args.first + length (parts_bytes xs)) new) (sym items)
          (subst (λ u. JoinsSoFar m c.args.first old (ps ++ p ∷ []) u new) sum one);
    }
