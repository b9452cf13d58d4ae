use Rattle.std.proofs.Common.{◌≡◌, ℕ, ◌+◌, ◌-◌, ◌≤◌, ◌++◌, Bool, List, length, take, drop, sym, ◌∙◌, ap, arith, subst, length-take, length-drop}
use Rattle.std.proofs.lemmas.List.{take-append-drop}
use Rattle.tlv_area.specs.Map.{in_ranges}
use Rattle.tlv_area.specs.Writing.{IsPut}
use Rattle.tlv_area.proofs.Putting.{length-row, put_row, put_last}
use Rattle.tlv_area.proofs.Runs.{run_at, length-run_at, run_behind, length-run_behind}
use Rattle.tlv_area.proofs.writing.put.Goals as goal

put_as : (cells other old new bytes same : List ℕ) → cells ≡ other → bytes ≡ same → IsPut other old new bytes → IsPut cells old new same
put_as cells other old new bytes same cells_are bytes_are is =
    subst (λ cs. IsPut cs old new same) (sym cells_are) (subst (λ bs. IsPut other old new bs) bytes_are is)

pub split_at-requires : goal.split_at-requires
split_at-requires c =
    let sizes = length-run_at c.args.reserved.now c.requires.ordered c.loop-range.range-index c.loop-range-test.true c.loop-range.at c.args.to c.run_before-run.result.to
    c.run_before-run.result.next c.loop-range.invariant.high c.run_before-run.ensures.to c.run_before-run.ensures.next in
    omega (arith, sizes, c.loop-range.invariant.fits)

pub copy_from_slice-requires-2 : goal.copy_from_slice-requires-2
copy_from_slice-requires-2 c =
    let sizes = length-run_behind c.args.reserved.now c.loop-range.range-index c.loop-range-test.false c.loop-range.at c.args.to in
    omega (
      arith,
      sizes,
      c.loop-range.invariant.fits,
      c.loop-range.invariant.high,
      c.loop-range.invariant.room,
      c.requires.within,
      length-take (c.args.to - c.loop-range.at) (drop c.loop-range.at c.loop-range.memory),
      length-drop c.loop-range.at c.loop-range.memory,
    )

pub loop-range-preserved : goal.loop-range-preserved
loop-range-preserved c =
    let r : ℕ → Bool = in_ranges (drop (c.loop-range.range-index + 1) c.args.reserved.now) in
    let at : ℕ = c.loop-range.at in
    let n : ℕ = c.run_before-run.result.to - at in
    let row : List ℕ = c.copy_from_slice.new.self in
    let cells = run_at c.args.reserved.now c.requires.ordered c.loop-range.range-index c.loop-range-test.true at c.args.to c.run_before-run.result.to
    c.run_before-run.result.next c.loop-range.invariant.high c.run_before-run.ensures.to c.run_before-run.ensures.next in
    let sizes = length-run_at c.args.reserved.now c.requires.ordered c.loop-range.range-index c.loop-range-test.true at c.args.to c.run_before-run.result.to
    c.run_before-run.result.next c.loop-range.invariant.high c.run_before-run.ensures.to c.run_before-run.ensures.next in
    let row_is : row ≡ take n c.loop-range.left.now = c.copy_from_slice.ensures.after ∙ c.split_at.ensures.front in
    let size : length row ≡ n = omega (arith, ap length row_is ∙ length-take n c.loop-range.left.now, sizes, c.loop-range.invariant.fits) in
    let within : at + n ≤ length c.loop-range.memory =
    omega (arith, c.loop-range.invariant.high, c.loop-range.invariant.room, c.requires.within, c.run_before-run.ensures.to) in
    let whole : row ++ c.split_at.result.1.now ≡ c.loop-range.left.now =
    ap (λ bs. bs ++ c.split_at.result.1.now) row_is ∙ ap (λ bs. take n c.loop-range.left.now ++ bs) c.split_at.ensures.back
    ∙ take-append-drop n c.loop-range.left.now in
    record {
      low = omega (arith, c.loop-range.invariant.low, c.run_before-run.ensures.to, c.run_before-run.ensures.next);
      high = omega (arith, c.loop-range.invariant.high, c.run_before-run.ensures.to, c.run_before-run.ensures.next);
      room = length-row c.loop-range.memory row at n size within ∙ c.loop-range.invariant.room;
      fits = omega (arith, ap length c.split_at.ensures.back ∙ length-drop n c.loop-range.left.now, sizes, c.loop-range.invariant.fits);
      rest = λ new is. c.loop-range.invariant.rest new
          (put_as _ _ c.loop-range.memory new _ _ cells whole
          (put_row c.loop-range.memory row at n size within r c.run_before-run.result.next c.args.to new c.split_at.result.1.now
          (omega (arith, c.run_before-run.ensures.to, c.run_before-run.ensures.next)) is));
    }

pub returns : goal.returns
returns c =
    let at : ℕ = c.loop-range.at in
    let n : ℕ = c.args.to - at in
    let row : List ℕ = c.copy_from_slice-2.new.self in
    let cells = run_behind c.args.reserved.now c.loop-range.range-index c.loop-range-test.false at c.args.to in
    let sizes = length-run_behind c.args.reserved.now c.loop-range.range-index c.loop-range-test.false at c.args.to in
    let size : length row ≡ n = omega (arith, ap length c.copy_from_slice-2.ensures.after, sizes, c.loop-range.invariant.fits) in
    let within : at + n ≤ length c.loop-range.memory = omega (arith, c.loop-range.invariant.high, c.loop-range.invariant.room, c.requires.within) in
    c.loop-range.invariant.rest _
    (put_as _ _ c.loop-range.memory _ _ _ cells c.copy_from_slice-2.ensures.after (put_last c.loop-range.memory row at n size within))
