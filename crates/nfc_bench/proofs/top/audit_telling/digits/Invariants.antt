use Rattle.std.proofs.Common.{◌≡◌, ◌*◌, ◌++◌, length, drop}
use Rattle.hex.specs.Hex.{encode_upper}
use Rattle.nfc_bench.proofs.top.audit_telling.digits.Given as goal

abbrev pub invariant-bytes : goal.invariant-bytes
invariant-bytes l = record {
  value : l.piece.items ++ encode_upper (drop l.byte-index l.bytes) ≡ encode_upper l.bytes;
  size : length l.piece.items ≡ 2 * l.byte-index;
}
