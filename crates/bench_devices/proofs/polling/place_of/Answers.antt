use Rattle.std.proofs.Common.{nat_eq, arith, ap, sym, ◌∙◌}
use Rattle.std.specs.Cmp.Lexicographic.{pointwise}
use Rattle.bench_devices.specs.Device.{device_id}
use Rattle.bench_devices.proofs.finding.SelectingPlaces.{stands_at}
use Rattle.bench_devices.proofs.polling.place_of.Goals as goal

pub returns-then-is_named : goal.returns-then-is_named
returns-then-is_named c =
    stands_at c.args.id.now c.args.devices.now c.loop-place.place c.index-devices-place.result (omega (arith, c.loop-place-test.true))
    (ap (λ d. pointwise nat_eq (device_id d) c.args.id.now) (sym c.index-devices-place.is) ∙ sym c.is_named.ensures ∙ c.if-is_named.true)
