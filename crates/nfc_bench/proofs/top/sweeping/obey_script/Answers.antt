use Rattle.std.proofs.Common.{◌≡◌, ◌-◌, [], ℕ, List, get_or, take, inl, ◌∙◌, ap, subst, arith}
use Rattle.std.proofs.lemmas.List.{take_all}
use Rattle.bench_world.specs.Obeying.{Benched}
use Rattle.nfc_bench.specs.declared.top.obeying.Unobeyed.{Unobeyed}
use Rattle.nfc_bench.specs.declared.top.obeying.Unobeyed.TheVariants.{Refused, Memory}
use Rattle.nfc_bench.specs.Reading.{Scripted}
use Rattle.nfc_bench.specs.Run.{FirstAreObeyed, HaveNoFates, IsWrite}
use Rattle.nfc_bench.specs.Stops.{FirstUntaken, ObeyedBy, Unobeys}
use Rattle.nfc_bench.specs.SweepStops.{StandsTo}
use Rattle.nfc_bench.proofs.Sweeping.{none_within, not_swept, untaken_unswept, front_within}
use Rattle.nfc_bench.proofs.top.sweeping.obey_script.Goals as goal

pub returns-in_default-clause-err : goal.returns-in_default-clause-err
returns-in_default-clause-err c = λ lines a. none_within lines c.args.bench.now c.requires

pub returns-in-Err-Refused-clause-err : goal.returns-in-Err-Refused-clause-err
returns-in-Err-Refused-clause-err c = λ lines a.
    let s : Scripted = c.args.script.now in
    let n : ℕ = c.in-Ok.count in
    let b : Benched = c.obey_all.new.bench in
    let kept : c.keep.new.self.lines ≡ take n s.lines = ap (λ (x : Scripted). x.lines) c.keep.ensures in
    let P : Unobeyed → Type 0 = λ why. Unobeys c.keep.new.self.lines b why in
    let untaken : P (Refused c.in-Err-Refused.line) = subst P c.in-Err-Refused.field-0-is c.in-Err-Refused.ensures.err in
    inl (untaken_unswept s lines n c.in-Err-Refused.line b a c.in-Ok.ensures.ok.none (subst (λ ls. FirstUntaken ls b c.in-Err-Refused.line) kept untaken))

pub returns-in-Err-Memory-clause-err : goal.returns-in-Err-Memory-clause-err
returns-in-Err-Memory-clause-err c = λ lines a.
    let s : Scripted = c.args.script.now in
    let n : ℕ = c.in-Ok.count in
    let b : Benched = c.obey_all.new.bench in
    let kept : c.keep.new.self.lines ≡ take n s.lines = ap (λ (x : Scripted). x.lines) c.keep.ensures in
    let P : Unobeyed → Type 0 = λ why. Unobeys c.keep.new.self.lines b why in
    let first : P Memory = subst P c.in-Err-Memory.field-0-is c.in-Err-Memory.ensures.err in
    front_within s lines n b a (subst (λ ls. FirstAreObeyed ls b) kept first)

pub returns-in-Ok-obey_all-clause-ok : goal.returns-in-Ok-obey_all-clause-ok
returns-in-Ok-obey_all-clause-ok c =
    let s : Scripted = c.args.script.now in
    let n : ℕ = c.in-Ok.count in
    let st : StandsTo s n = c.in-Ok.ensures.ok in
    let (size, whole, some) = c.is_whole-is_swept.ensures.yes c.if-is_swept.true in
    let all : take n s.lines ≡ s.lines = take_all n s.lines (omega (arith, size)) in
    let kept : c.keep.new.self.lines ≡ take n s.lines = ap (λ (x : Scripted). x.lines) c.keep.ensures in
    record {
      whole = whole;
      some = omega (arith, size, some);
      none = subst HaveNoFates all st.none;
      write = subst (λ k. IsWrite (get_or s.lines (k - 1) [])) size (st.write size some whole);
      obeyed = subst (λ ls. ObeyedBy ls c.obey_all.new.bench) (kept ∙ all) c.in-Ok-obey_all.ensures.ok;
    }

pub returns-in-Ok-2-clause-err : goal.returns-in-Ok-2-clause-err
returns-in-Ok-2-clause-err c = λ lines a.
    let s : Scripted = c.args.script.now in
    let n : ℕ = c.in-Ok.count in
    let kept : c.keep.new.self.lines ≡ take n s.lines = ap (λ (x : Scripted). x.lines) c.keep.ensures in
    not_swept s lines n c.obey_all.new.bench a c.in-Ok.ensures.ok (subst (λ ls. ObeyedBy ls c.obey_all.new.bench) kept c.in-Ok-2.ensures.ok) (c.is_whole-is_swept.ensures.no c.if-is_swept.false)
