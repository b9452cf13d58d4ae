-- A script is read in chunks.
use Rattle.std.proofs.Common.{ℕ, ◌≤◌, List, [], ◌++◌, length, Option, sym, arith}
use Rattle.std.proofs.lemmas.List.{length-append}
use Rattle.nfc_io.proofs.Moves.{with_front-nil}
use Rattle.nfc_bench.specs.Limits.{longest_script, most_read}
use Rattle.nfc_bench.specs.Run.{ReadsInTime, ReadsAtMost}
use Rattle.nfc_bench.proofs.Limits.{within_short, no_limits}

-- nothing was read
pub stops_at_once : (a : Option (List ℕ)) → ReadsInTime a a
stops_at_once a = record {
  front = [];
  chunk = [];
  read = sym (with_front-nil a);
  short = no_limits;
  size = omega arith;
}

pub reads_at_most : (a b : Option (List ℕ)) → ReadsInTime a b → ReadsAtMost most_read a b
reads_at_most a b r =
    let short : length r.front ≤ longest_script = within_short r.front r.short in
    let chunk : length r.chunk ≤ 4096 = r.size in
    record { bytes = r.front ++ r.chunk; read = r.read; size = omega (arith, length-append r.front r.chunk) }
