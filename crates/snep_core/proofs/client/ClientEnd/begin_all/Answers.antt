use Rattle.std.proofs.Common.{rules, ◌≡◌, ◌<◌, ◌+◌, suc, ◌∷◌, ◌++◌, length, drop, sym, ap, subst, ◌∙◌, arith}
use Rattle.std.proofs.Math.Seq.{drop-cons}
use Rattle.snep_core.specs.Slots.{AllFit, puts_from}
use Rattle.snep_core.specs.Talk.{all_opening, own_of}
use Rattle.snep_core.proofs.accord.AllJobs.{behind}
use Rattle.snep_core.proofs.jobs.SlotOpens.{AreCounted, counted_next, opened_elsewhere, opened_next, opened_slot}
use Rattle.snep_core.proofs.client.ClientEnd.begin_all.Goals as goal

pub begin_slot-requires-clause-fit : goal.begin_slot-requires-clause-fit
begin_slot-requires-clause-fit c =
    let xs = c.args.slots.now in
    let i = c.slots.slot-index in
    let x = c.slot-item.result in
    let less : i < length xs = search rules in
    let next : drop i xs ≡ x ∷ drop (suc i) xs = drop-cons xs i _ less ∙ ap (λ z. z ∷ drop (suc i) xs) (sym c.slot-item.is) in
    (subst AllFit next c.slots.invariant.fit).0

pub slots-preserved : goal.slots-preserved
slots-preserved c =
    let xs = c.args.slots.now in
    let i = c.slots.slot-index in
    let a = c.slots.sap in
    let x = c.slot-item.result in
    let l = c.slots.self.llc in
    let less : i < length xs = search rules in
    let next : drop i xs ≡ x ∷ drop (i + 1) xs =
    drop-cons xs i _ less ∙ ap (λ z. z ∷ drop (suc i) xs) (sym c.slot-item.is) ∙ ap (λ n. x ∷ drop n xs) (let k : suc i ≡ i + 1 = omega arith in k) in
    let more = drop (i + 1) xs in
    let llc_is : c.begin_slot.new.self.llc ≡ (opened_slot a x l).llc = c.in-Ok.ensures.llc in
    let jobs_are : c.begin_slot.new.jobs.items ≡ c.slots.jobs.items ++ (opened_slot a x l).jobs = c.in-Ok.ensures.jobs in record {
      spent = search rules;
      sap_is = search rules;
      fit = (subst AllFit next c.slots.invariant.fit).1;
      opens =
          c.slots.invariant.opens ∙ ap (λ zs. behind c.slots.jobs.items (all_opening (puts_from a zs) l)) next ∙ opened_next c.slots.jobs.items a x more l
          ∙ ap (λ js. behind js (all_opening (puts_from (a + 1) more) (opened_slot a x l).llc)) (sym jobs_are)
          ∙ ap (λ z. behind c.begin_slot.new.jobs.items (all_opening (puts_from (a + 1) more) z)) (sym llc_is);
      others = λ t h. ap (own_of t) llc_is ∙ opened_elsewhere a x l t h ∙ c.slots.invariant.others t (omega (arith, h));
      counted = λ k. c.slots.invariant.counted
          (subst (AreCounted c.args.self.now.llc a) (sym next) (counted_next c.args.self.now.llc l a x more (c.slots.invariant.others a (omega arith)) c.in-Ok.ensures.counted k));
    }
