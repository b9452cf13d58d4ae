use Rattle.std.proofs.Common.{[], ◌++◌, ◌∙◌, ap}
use Rattle.hex.specs.Hex.{encode_upper}
use Rattle.bench_world.proofs.lines.Joined.{one_piece}
use Rattle.bench_world.proofs.pieces.whole.Goals as goal

pub returns : goal.returns
returns c = ap (λ x. c.push_text.new.piece.items ++ (encode_upper [] ++ ([] ++ x))) c.new.ensures ∙ one_piece c.push_text.new.piece.items ∙ c.push_text.ensures.value
