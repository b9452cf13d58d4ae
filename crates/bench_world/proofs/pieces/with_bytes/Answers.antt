use Rattle.std.proofs.Common.{◌++◌, [], ◌∷◌, ℕ, List, ◌∙◌, ap}
use Rattle.std.specs.Fmt.{decimal}
use Rattle.hex.specs.Hex.{encode_upper}
use Rattle.bench_script.specs.Canonical.{hex_text}
use Rattle.bench_world.proofs.lines.Joined.{signed_parts}
use Rattle.bench_world.proofs.pieces.with_bytes.Goals as goal

pub returns : goal.returns
returns c =
    let s : List ℕ = c.sign_of_none.result.now in
    let head = c.push_text.ensures.value ∙ ap (λ x. x ++ s) c.begun-head.ensures.value in
    signed_parts (decimal c.args.line ++ 32 ∷ []) c.args.words.now s (encode_upper c.args.bytes.now) c.args.end.now (10 ∷ []) (hex_text c.args.bytes.now) c.push_text.new.piece.items
    c.ended.result.items
    head c.ended.ensures c.sign_of_none.ensures.value
