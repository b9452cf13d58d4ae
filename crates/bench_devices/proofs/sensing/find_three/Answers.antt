use Rattle.std.proofs.Common.{arith, refl, sym, ap, ◌∙◌}
use Rattle.bench_devices.specs.Sensing.{is_three}
use Rattle.bench_devices.proofs.finding.Sensed.{no_three, three_at, three_past}
use Rattle.bench_devices.proofs.sensing.find_three.Goals as goal

pub returns-then-is_three : goal.returns-then-is_three
returns-then-is_three c =
    three_at c.args.id.now c.args.devices.now c.loop-place.place c.index-devices-place.result (omega (arith, c.loop-place-test.true))
    (ap (is_three c.args.id.now) (sym c.index-devices-place.is) ∙ sym c.is_three.ensures ∙ c.if-is_three.true)

pub returns : goal.returns
returns c =
    (refl, no_three c.args.id.now c.args.devices.now (sym c.loop-place.invariant ∙ three_past c.args.id.now c.args.devices.now c.loop-place.place (omega (arith, c.loop-place-test.false))))
