use Rattle.std.proofs.Common.{◌≡◌, ℕ, ◌+◌, ◌-◌, ◌++◌, List, OnOk, is_ok, cond, Result, Ok, Err, take, drop, sym, ◌∙◌, ap, arith, append_assoc}
use Rattle.std.specs.List.{range_with_len}
use Rattle.std.proofs.lemmas.List.{map-append}
use Rattle.tlv_area.specs.Layout.{free, bytes_at}
use Rattle.tlv_area.specs.Map.{in_ranges}
use Rattle.tlv_area.proofs.Runs.{run_at, run_behind, run_bytes}
use Rattle.tlv_area.proofs.message.push_runs.Goals as goal

pub loop-range-preserved : goal.loop-range-preserved
loop-range-preserved c =
    let known : List ℕ = c.args.known.now in
    let at : ℕ = c.loop-range.at in
    let to : ℕ = c.run_before-run.result.to in
    let later : List ℕ = free (in_ranges (drop (c.loop-range.range-index + 1) c.args.reserved.now)) c.run_before-run.result.next c.args.to in
    let cells = run_at c.args.reserved.now c.requires.ordered c.loop-range.range-index c.loop-range-test.true at c.args.to to
    c.run_before-run.result.next c.loop-range.invariant.high c.run_before-run.ensures.to c.run_before-run.ensures.next in
    let copied : bytes_at known (range_with_len at (to - at)) ≡ take (to - at) (drop at known) =
    run_bytes known at to (omega (arith, c.requires.known, c.loop-range.invariant.high, c.run_before-run.ensures.to)) in
    record {
      low = omega (arith, c.loop-range.invariant.low, c.run_before-run.ensures.to, c.run_before-run.ensures.next);
      high = omega (arith, c.loop-range.invariant.high, c.run_before-run.ensures.to, c.run_before-run.ensures.next);
      bytes = ap (λ bs. bs ++ bytes_at known later) c.in_ok-extend_from_slice.ensures.items
          ∙ append_assoc c.loop-range.message.items (take (to - at) (drop at known)) (bytes_at known later)
          ∙ ap (λ bs. c.loop-range.message.items ++ bs)
          (ap (λ bs. bs ++ bytes_at known later) (sym copied)
          ∙ sym (ap (λ cs. bytes_at known cs) cells ∙ map-append _ (range_with_len at (to - at)) later))
          ∙ c.loop-range.invariant.bytes;
    }

pub returns : goal.returns
returns c =
    let known : List ℕ = c.args.known.now in
    let at : ℕ = c.loop-range.at in
    let copied : bytes_at known (free (in_ranges (drop c.loop-range.range-index c.args.reserved.now)) at c.args.to) ≡ take (c.args.to - at) (drop at known) =
    ap (λ cs. bytes_at known cs) (run_behind c.args.reserved.now c.loop-range.range-index c.loop-range-test.false at c.args.to)
    ∙ run_bytes known at c.args.to c.requires.known in
    all_of c.extend_from_slice-2.result c.extend_from_slice-2.new.self.items c.loop-range.message.items (take (c.args.to - at) (drop at known)) _
    c.extend_from_slice-2.ensures.items
    (ap (λ bs. c.loop-range.message.items ++ bs) (sym copied) ∙ c.loop-range.invariant.bytes)
  where
    all_of : {T E : Type 0} (r : Result T E) (after before more whole : List ℕ) → after ≡ cond (is_ok r) (before ++ more) before →
        before ++ more ≡ whole → OnOk r (after ≡ whole)
    all_of (Ok x) after before more whole is all = is ∙ all
    all_of (Err e) after before more whole is all = tt
