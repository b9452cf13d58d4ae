use Rattle.std.proofs.Common.{rules, ◌≡◌, ◌+◌, length, true, sym, ap, ◌∙◌, subst, arith, inl}
use Rattle.std.proofs.lemmas.Result.{on_ok_weaker}
use Rattle.llcp_pdu.specs.Writing.{inner_bytes}
use Rattle.llcp_link.specs.Answering.{Gives}
use Rattle.llcp_link.specs.Giving.{gave, others}
use Rattle.llcp_link.specs.private.Joining.{HaltsJoining, Joins}
use Rattle.llcp_link.specs.Offering.{LeavesNext, Tried, most_inner}
use Rattle.llcp_link.specs.declared.giving.Next.TheVariants.{Given, Nothing}
use Rattle.llcp_link.proofs.GivesAll.{gives_symm, on_err_with, gives_with, halts_with, halts_behind, halts_first, same_others}
use Rattle.llcp_link.proofs.llc.Llc.give_payload.Goals as goal

pub returns-in-Err-clause-err : goal.returns-in-Err-clause-err
returns-in-Err-clause-err g c =
    let m = g.S.Service.serving in
    let left : LeavesNext m (gave m c.args.self.now) c.args.self.now.service c.give_next.new.self.service = search rules in
    halts_first m c.args.self.now c.give_next.new.self.service left

pub returns-in-Ok-Nothing-clause-ok : goal.returns-in-Ok-Nothing-clause-ok
returns-in-Ok-Nothing-clause-ok g c =
    let m = g.S.Service.serving in
    let old = c.args.self.now in
    let t : Tried most_inner (gave m old) old c.give_next.new.self Nothing =
    subst (Tried most_inner (gave m old) old c.give_next.new.self) c.in-Ok-Nothing.field-0-is c.in-Ok-Nothing.ensures.next in
    let r : old.readable ≡ true = search rules in
    on_ok_weaker c.write_one.result (λ b. subst (Gives m c.args.count old c.write_one.new.target.items) (sym t.1) (gives_symm m old c.args.count c.write_one.new.target.items r t.0 b))
    c.write_one.ensures.ok

pub returns-in-Ok-Nothing-clause-err : goal.returns-in-Ok-Nothing-clause-err
returns-in-Ok-Nothing-clause-err g c =
    let m = g.S.Service.serving in
    let old = c.args.self.now in
    let t : Tried most_inner (gave m old) old c.give_next.new.self Nothing =
    subst (Tried most_inner (gave m old) old c.give_next.new.self) c.in-Ok-Nothing.field-0-is c.in-Ok-Nothing.ensures.next in
    on_err_with c.write_one.result (halts_first m old c.give_next.new.self.service (inl (inl (ap (λ l. l.service) t.1))))

pub returns-in-Err-join-clause-err : goal.returns-in-Err-join-clause-err
returns-in-Err-join-clause-err g c =
    let m = g.S.Service.serving in
    let old = c.args.self.now in
    let p = c.in-Ok-Given.part in
    let l = c.give_next.new.self in
    let t : Tried most_inner (gave m old) old l (Given p) =
    subst (Tried most_inner (gave m old) old l) c.in-Ok-Given.field-0-is c.in-Ok-Given.ensures.next in
    let used : c.part_len.result + 2 ≡ length (inner_bytes p) = grind (arith, c.part_len.ensures) in
    let halts : HaltsJoining m (c.part_len.result + 2) l c.join.new.self.service = search rules in
    halts_with m old p l t.0 c.join.new.self.service (subst (λ k. HaltsJoining m k l c.join.new.self.service) used halts)

pub returns-in-Ok-clause-ok : goal.returns-in-Ok-clause-ok
returns-in-Ok-clause-ok g c =
    let m = g.S.Service.serving in
    let old = c.args.self.now in
    let p = c.in-Ok-Given.part in
    let l = c.give_next.new.self in
    let ps = c.in-Ok.others.items in
    let t : Tried most_inner (gave m old) old l (Given p) =
    subst (Tried most_inner (gave m old) old l) c.in-Ok-Given.field-0-is c.in-Ok-Given.ensures.next in
    let used : c.part_len.result + 2 ≡ length (inner_bytes p) = grind (arith, c.part_len.ensures) in
    let joins : Joins m (c.part_len.result + 2) c.most_others-others.result l ps c.join.new.self = search rules in
    let far : l.far_miu ≡ old.far_miu = c.give_next.ensures.same.far_miu in
    let most : c.most_others-others.result ≡ others m old c.args.count = c.most_others-others.ensures ∙ same_others m old l far c.args.count in
    let j : Joins m (length (inner_bytes p)) (others m old c.args.count) l ps c.join.new.self =
    subst (λ k. Joins m k (others m old c.args.count) l ps c.join.new.self) used
    (subst (λ k. Joins m (c.part_len.result + 2) k l ps c.join.new.self) most joins) in
    let r : old.readable ≡ true = search rules in
    on_ok_weaker c.write_parts.result (gives_with m old p l t.0 c.args.count ps c.join.new.self c.write_parts.new.target.items r j) c.write_parts.ensures.ok

pub returns-in-Ok-clause-err : goal.returns-in-Ok-clause-err
returns-in-Ok-clause-err g c =
    let m = g.S.Service.serving in
    let old = c.args.self.now in
    let p = c.in-Ok-Given.part in
    let l = c.give_next.new.self in
    let ps = c.in-Ok.others.items in
    let t : Tried most_inner (gave m old) old l (Given p) =
    subst (Tried most_inner (gave m old) old l) c.in-Ok-Given.field-0-is c.in-Ok-Given.ensures.next in
    let used : c.part_len.result + 2 ≡ length (inner_bytes p) = grind (arith, c.part_len.ensures) in
    let joins : Joins m (c.part_len.result + 2) c.most_others-others.result l ps c.join.new.self = search rules in
    let j : Joins m (length (inner_bytes p)) c.most_others-others.result l ps c.join.new.self =
    subst (λ k. Joins m k c.most_others-others.result l ps c.join.new.self) used joins in
    on_err_with c.write_parts.result (halts_behind m old p l t.0 c.most_others-others.result ps c.join.new.self j)
