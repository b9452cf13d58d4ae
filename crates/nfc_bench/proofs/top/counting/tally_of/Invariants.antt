use Rattle.std.proofs.Common.{◌≡◌, take}
use Rattle.nfc_bench.specs.Made.{tally_of}
use Rattle.nfc_bench.proofs.top.counting.tally_of.Given as goal

abbrev pub invariant-entries : goal.invariant-entries
invariant-entries l = record { counted : l.tally ≡ tally_of (take l.entry-index l.journal) }
