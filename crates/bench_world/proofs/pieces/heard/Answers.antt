use Rattle.std.proofs.Common.{◌++◌, [], ◌∷◌, ℕ, List, sym, ◌∙◌, append-nil}
use Rattle.std.specs.Prelude.{codes}
use Rattle.std.specs.List.{flat_map}
use Rattle.std.specs.Fmt.{decimal}
use Rattle.bench_world.specs.Report.{heard_text}
use Rattle.bench_world.proofs.lines.Joined.{inbox_parts}
use Rattle.bench_world.proofs.pieces.heard.Goals as goal

pub returns : goal.returns
returns c =
    let front : List ℕ = decimal c.args.line ++ 32 ∷ [] in
    inbox_parts front (codes "heard") [] (flat_map heard_text c.args.all.now) (10 ∷ []) c.begun.result.items c.ended.result.items
    (c.begun.ensures.value ∙ sym (append-nil (front ++ codes "heard"))) c.ended.ensures
