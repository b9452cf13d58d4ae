use Rattle.std.proofs.Common.{◌≡◌, ℕ, Bool, ◌+◌, ◌-◌, ◌++◌, take, drop, sym, ◌∙◌, ap, arith}
use Rattle.std.specs.Prelude.{slice_index}
use Rattle.std.proofs.lemmas.List.{get_or-take}
use Rattle.tlv_area.specs.Layout.{free, bytes_at}
use Rattle.tlv_area.specs.Map.{in_ranges, map_cells, message_place, message_cells}
use Rattle.tlv_area.proofs.Steps.{cell_at, cells_front}
use Rattle.tlv_area.proofs.message.copy_message.Goals as goal

pub push_runs-requires-clause-known : goal.push_runs-requires-clause-known
push_runs-requires-clause-known c =
    let r : ℕ → Bool = in_ranges c.args.map.now.reserved.items in
    let n : ℕ = c.args.map.now.length in
    let there = rw c.as_slice-reserved.ensures.value at c.in-Some.ensures.some in
    let up : n - 1 + 1 ≡ n = omega arith in
    let last : slice_index (free r c.value_start-from.result c.args.map.now.space.end) (n - 1) ≡ c.in-Some.to - 1 =
    cell_at r c.value_start-from.result c.args.map.now.space.end (n - 1) c.in-Some.to c.value_start-from.ensures.high (rw up there) in
    let same : slice_index (message_cells c.args.map.now) (n - 1) ≡ c.in-Some.to - 1 =
    get_or-take n (drop (message_place c.args.map.now) (map_cells c.args.map.now)) (n - 1) 0 (omega arith)
    ∙ ap (λ cs. slice_index cs (n - 1)) (sym c.value_start-from.ensures.cells) ∙ last in
    omega (arith, same, c.requires.placed.below (n - 1) (omega arith))

pub returns : goal.returns
returns c =
    let r : ℕ → Bool = in_ranges c.args.map.now.reserved.items in
    let there = rw c.as_slice-reserved.ensures.value at c.in-Some.ensures.some in
    let cells : free r c.value_start-from.result c.in-Some.to ≡ message_cells c.args.map.now =
    cells_front r c.value_start-from.result c.args.map.now.space.end c.args.map.now.length c.in-Some.to there
    ∙ ap (λ cs. take c.args.map.now.length cs) c.value_start-from.ensures.cells in
    let added = rw c.as_slice-reserved.ensures.value at c.in_ok-push_runs-in-Some.ensures in
    record {
      bytes = added ∙ ap (λ bs. bs ++ bytes_at c.args.known.now (free r c.value_start-from.result c.in-Some.to)) c.in_ok-message.ensures.items
          ∙ ap (λ cs. bytes_at c.args.known.now cs) cells;
    }
