use Rattle.std.proofs.Common.{◌≡◌, ◌++◌, drop, length}
use Rattle.t5t_tag.specs.Mask.{kept}
use Rattle.t5t_tag.proofs.identifier.kept.Given as goal

abbrev pub invariant-loop-byte : goal.invariant-loop-byte
invariant-loop-byte l = (l.result.items ++ kept l.left (drop l.byte-index l.bytes) ≡ kept l.bits l.bytes) × (length l.result.items ≡ l.byte-index)
