use Rattle.std.proofs.Common.{None, sym, ap}
use Rattle.bench_world.specs.Stories.{range_of}
use Rattle.bench_world.proofs.link_law.Gained.{range_at, range_past}
use Rattle.bench_world.proofs.gains.range_of.Goals.{then-number-eq0-via-then-number-eq0, then-number-eq0-via-else-number-eq0+then-number-links}
use Rattle.bench_world.proofs.gains.range_of.Goals as goal

pub returns-then-number-eq0 : goal.returns-then-number-eq0
returns-then-number-eq0 c =
    elim c.then-number-eq0.branch [
      | then-number-eq0-via-then-number-eq0 w ↦ sym (ap (λ n. range_of n c.args.links.now) w.if-number-eq0.true)
      | then-number-eq0-via-else-number-eq0+then-number-links w ↦ range_past c.args.number c.args.links.now w.if-number-links.true
    ]

pub returns : goal.returns
returns c = range_at c.args.number c.args.links.now (record { peer = 0; start = 0; end = None }) c.if-number-eq0.false c.if-number-links.false
