use Rattle.std.proofs.Common.{arith}
use Rattle.tlv_area.proofs.CutHeld.{cut_not_held}
use Rattle.tag_reader.proofs.block_finding.cut_fault.Goals as goal

pub unreachable-requires : goal.unreachable-requires
unreachable-requires c = cut_not_held c.args.space c.args.known.now c.in-Held.map c.requires.begins (omega arith) c.requires.more c.in-Held.ensures.walk
