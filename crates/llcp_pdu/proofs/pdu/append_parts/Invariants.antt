use Rattle.std.proofs.Common.{◌≡◌, ◌++◌, drop}
use Rattle.llcp_pdu.specs.Ranges.{AreParts}
use Rattle.llcp_pdu.specs.Writing.{parts_bytes}
use Rattle.llcp_pdu.proofs.pdu.append_parts.Given as goal

abbrev pub invariant-parts : goal.invariant-parts
invariant-parts l = record {
  left : AreParts (drop l.part-index l.parts);
  bytes : l.target.items ++ parts_bytes (drop l.part-index l.parts) ≡ l.fn.target.items ++ parts_bytes l.parts;
}
