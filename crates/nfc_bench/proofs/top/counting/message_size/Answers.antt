use Rattle.std.proofs.Common.{◌+◌, ◌%◌, length, sym, ◌∙◌, ap}
use Rattle.std.proofs.lemmas.List.FromFn.{length-map-range_with_len}
use Rattle.bench_script.specs.Messages.{message_of}
use Rattle.nfc_bench.proofs.top.counting.message_size.Goals as goal

pub returns-in-Gen : goal.returns-in-Gen
returns-in-Gen c = sym (ap (λ m. length (message_of m)) c.in-Gen.is ∙ length-map-range_with_len (λ k. (c.in-Gen.start + k) % 256) 0 c.in-Gen.count)
