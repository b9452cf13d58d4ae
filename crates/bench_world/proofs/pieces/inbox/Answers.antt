use Rattle.std.proofs.Common.{◌++◌, [], ◌∷◌, ℕ, List, length, ◌∙◌, ap}
use Rattle.std.specs.Prelude.{codes}
use Rattle.std.specs.List.{flat_map}
use Rattle.std.specs.Fmt.{decimal}
use Rattle.bench_world.specs.Report.{received_text}
use Rattle.bench_world.proofs.lines.Joined.{inbox_parts}
use Rattle.bench_world.proofs.pieces.inbox.Goals as goal

pub returns : goal.returns
returns c =
    let n : List ℕ = decimal (length c.args.messages.now) in
    let head = c.push_number.ensures.value ∙ ap (λ x. x ++ n) c.begun-head.ensures.value in
    inbox_parts (decimal c.args.line ++ 32 ∷ []) (codes "inbox ") n (flat_map received_text c.args.messages.now) (10 ∷ []) c.push_number.new.piece.items c.ended.result.items
    head c.ended.ensures
