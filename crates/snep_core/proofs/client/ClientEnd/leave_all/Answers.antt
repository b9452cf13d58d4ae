use Rattle.std.proofs.Common.{rules, ◌≡◌, ◌<◌, ◌+◌, ℕ, eqb, suc, [], ◌∷◌, ◌++◌, get_or, length, drop, sym, ap, subst, ◌∙◌, arith}
use Rattle.std.proofs.Math.Seq.{drop-cons}
use Rattle.std.specs.List.{AllByRecursion, IsDistinct}
use Rattle.snep_core.specs.RepliesLeft.{IsBelowCountEnd}
use Rattle.snep_core.specs.Talk.{OnSap, all_opening, leave_from}
use Rattle.snep_core.proofs.accord.AllJobs.{behind}
use Rattle.snep_core.proofs.jobs.Leaving.{AreSame, counted_then, distinct_next, leaves_next, same_first, same_next}
use Rattle.snep_core.proofs.client.ClientEnd.leave_all.Goals as goal

pub saps-init : goal.saps-init
saps-init c = record {
  spent = search rules;
  apart = c.requires;
  opens = search rules;
  others = same_first c.args.self.now.llc c.args.saps.now;
  counted = λ k. k;
}

pub saps-preserved : goal.saps-preserved
saps-preserved c =
    let xs = c.args.saps.now in
    let i = c.saps.sap-index in
    let s : ℕ = get_or xs i 0 in
    let l = c.saps.self.llc in
    let less : i < length xs = search rules in
    let next : drop i xs ≡ s ∷ drop (i + 1) xs =
    drop-cons xs i 0 less ∙ ap (λ n. s ∷ drop n xs) (let k : suc i ≡ i + 1 = omega arith in k) in
    let more = drop (i + 1) xs in
    let apart = distinct_next s more (subst (IsDistinct eqb) next c.saps.invariant.apart) in
    let same : AreSame c.args.self.now.llc l (s ∷ more) = subst (AreSame c.args.self.now.llc l) next c.saps.invariant.others in
    let job : OnSap = record { sap = s; job = c.in-Ok.job } in
    let jobs_are : c.push.new.self.items ≡ c.saps.jobs.items ++ job ∷ [] = search rules in record {
      spent = search rules;
      apart = apart.1;
      opens =
          c.saps.invariant.opens ∙ ap (λ zs. behind c.saps.jobs.items (all_opening (leave_from zs) l)) next
          ∙ leaves_next c.saps.jobs.items s more l c.leave.new.self.llc c.in-Ok.job c.in-Ok.ensures.ok
          ∙ ap (λ js. behind js (all_opening (leave_from more) c.leave.new.self.llc)) (sym jobs_are);
      others = same_next c.args.self.now.llc l c.leave.new.self.llc s c.in-Ok.job more c.in-Ok.ensures.ok apart.0 same.1;
      counted = λ k. c.saps.invariant.counted
          (subst (AllByRecursion (IsBelowCountEnd c.args.self.now.llc)) (sym next) (counted_then c.args.self.now.llc l s same.0 c.in-Ok.ensures.counted, k));
    }
