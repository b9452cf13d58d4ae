use Rattle.std.proofs.Common.{ap, arith}
use Rattle.nfc_bench.specs.declared.top.counting.Tally.{Tally}
use Rattle.nfc_bench.proofs.Counting.{size_room}
use Rattle.nfc_bench.proofs.top.counting.tally_of.Goals as goal

pub add-requires-clause-bytes : goal.add-requires-clause-bytes
add-requires-clause-bytes c =
    let bytes = ap (λ (t : Tally). t.bytes) c.entries.invariant.counted in
    let room = size_room c.args.journal.now c.entries.entry-index (omega (arith, c.entries-test.true)) c.requires.few c.requires.short in
    omega (arith, bytes, room)
