use Rattle.std.proofs.Common.{◌≡◌, ℕ, slice_set, true, refl, sym, ◌∙◌, ap, arith}
use Rattle.air_core.specs.Turn.{Air}
use Rattle.bench_devices.specs.declared.device.Device.{Device}
use Rattle.bench_devices.specs.Choosing.{StandsAt}
use Rattle.bench_devices.specs.Device.{may_be_busy, device_busy}
use Rattle.bench_script.specs.DeviceIds.{bytes_of}
use Rattle.bench_world.proofs.devices.Locking.{stands_there, at_place, of_device, made_busy}
use Rattle.bench_world.proofs.bench.set_busy.Goals as goal

pub returns-then-not-may_be_busy-clause-cause : goal.returns-then-not-may_be_busy-clause-cause
returns-then-not-may_be_busy-clause-cause c = λ _ ends peers link has.
    let old : Air Device = c.args.field.now in
    let place : ℕ = c.place_of-place.result in
    let stands : StandsAt (bytes_of c.args.id.now) old.listeners place =
    stands_there old c.args.id.now c.bytes-bytes.result.now c.listeners-devices.result.now place c.bytes-bytes.ensures c.listeners-devices.ensures c.place_of-place.ensures in
    let found : c.index-devices-place.result ≡ stands.device =
    at_place old c.args.id.now place c.requires stands c.listeners-devices.result.now c.index-devices-place.result c.listeners-devices.ensures c.index-devices-place.is in
    let may : may_be_busy stands.device ≡ true = of_device old c.args.id.now place c.requires stands (λ d. may_be_busy d ≡ true) has.device in
    let told : c.may_be_busy.result ≡ true = c.may_be_busy.ensures ∙ ap may_be_busy found ∙ may in
    cc

pub returns-clause-ok : goal.returns-clause-ok
returns-clause-ok c =
    let old : Air Device = c.args.field.now in
    let place : ℕ = c.place_of-place.result in
    let stands : StandsAt (bytes_of c.args.id.now) old.listeners place =
    stands_there old c.args.id.now c.bytes-bytes.result.now c.listeners-devices.result.now place c.bytes-bytes.ensures c.listeners-devices.ensures c.place_of-place.ensures in
    let found : c.index-devices-place.result ≡ stands.device =
    at_place old c.args.id.now place c.requires stands c.listeners-devices.result.now c.index-devices-place.result c.listeners-devices.ensures c.index-devices-place.is in
    let may : may_be_busy stands.device ≡ true = sym (c.may_be_busy.ensures ∙ ap may_be_busy found) ∙ cc in
    let lent : c.listener.result.now ≡ stands.device = at_place old c.args.id.now place c.requires stands old.listeners c.listener.result.now refl c.listener.ensures.value in
    made_busy old c.args.id.now place c.requires stands _ c.args.count c.args.times may (omega arith) (omega arith, omega arith)
    (ap (λ x. record { lit = old.lit; listeners = slice_set old.listeners place x; fates = old.fates; trace = old.trace }) (c.set_busy.ensures ∙ ap (device_busy c.args.count c.args.times) lent))
