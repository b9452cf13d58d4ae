use Rattle.std.proofs.Common.{◌++◌, [], ◌∷◌, ℕ, List, length, ◌∙◌, ap}
use Rattle.std.specs.Prelude.{codes, if◌then◌else◌}
use Rattle.std.specs.List.{flat_map}
use Rattle.std.specs.Fmt.{decimal}
use Rattle.bench_world.specs.Report.{seen_text}
use Rattle.bench_world.proofs.lines.Joined.{found_parts}
use Rattle.bench_world.proofs.pieces.found.Goals as goal

pub returns : goal.returns
returns c =
    let n : List ℕ = decimal (length c.args.devices.now) in
    let head = c.push_number.ensures.value ∙ ap (λ x. x ++ n) c.begun-head.ensures.value in
    found_parts (decimal c.args.line ++ 32 ∷ []) (codes "found ") n (flat_map seen_text c.args.devices.now) (if c.args.crowd then codes " crowd" else []) (10 ∷ []) c.push_number.new.piece.items
    c.ended.result.items
    head (c.ended.ensures ∙ ap (λ x. x ++ 10 ∷ []) c.crowd_text.ensures.value)
