use Rattle.std.proofs.Common.{◌≡◌, ◌+◌, ◌-◌, List, length, None, arith}
use Rattle.bench_world.specs.declared.inbox.LinkRange.{LinkRange}
use Rattle.bench_world.proofs.open_link.Unlinking.{last_set}
use Rattle.bench_world.proofs.machines.end_last.Goals as goal

pub returns-then-count-gt0 : goal.returns-then-count-gt0
returns-then-count-gt0 c =
    let links : List LinkRange = c.args.links.now in
    let last : (length links - 1) + 1 ≡ length links = omega (arith, c.if-count-gt0.true) in
    last_set c.args.end links (length links - 1) (record { peer = 0; start = 0; end = None }) last
