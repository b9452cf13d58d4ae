use Rattle.std.proofs.Common.{rules, ◌≡◌, ◌+◌, ◌%◌, length}
use Rattle.std.proofs.lemmas.List.FromFn.{length-map-range_with_len}
use Rattle.bench_script.specs.Messages.{counted}
use Rattle.bench_world.proofs.calling.is_too_long.Goals as goal

pub returns-in-Gen : goal.returns-in-Gen
returns-in-Gen c =
    let long : length (counted c.in-Gen.start c.in-Gen.count) ≡ c.in-Gen.count = length-map-range_with_len (λ i. (c.in-Gen.start + i) % 256) 0 c.in-Gen.count in
    search rules
