use Rattle.std.proofs.Common.{◌≡◌, ℕ, ◌<◌, slice_set, refl, ◌∙◌, ap, arith}
use Rattle.air_core.specs.Turn.{Air}
use Rattle.bench_devices.specs.declared.device.Device.{Device}
use Rattle.bench_devices.specs.Choosing.{StandsAt}
use Rattle.bench_devices.specs.Device.{blocks_of, device_locked}
use Rattle.bench_script.specs.DeviceIds.{bytes_of}
use Rattle.bench_world.proofs.devices.Locking.{stands_there, at_place, of_device, block_locked}
use Rattle.bench_world.proofs.bench.lock_block.Goals as goal

pub returns-then-block-blocks-clause-cause : goal.returns-then-block-blocks-clause-cause
returns-then-block-blocks-clause-cause c = λ _ ends peers link has.
    let old : Air Device = c.args.field.now in
    let place : ℕ = c.place_of-place.result in
    let stands : StandsAt (bytes_of c.args.id.now) old.listeners place =
    stands_there old c.args.id.now c.bytes-bytes.result.now c.listeners-devices.result.now place c.bytes-bytes.ensures c.listeners-devices.ensures c.place_of-place.ensures in
    let found : c.index-devices-place.result ≡ stands.device =
    at_place old c.args.id.now place c.requires stands c.listeners-devices.result.now c.index-devices-place.result c.listeners-devices.ensures c.index-devices-place.is in
    let count : c.blocks-2.result ≡ blocks_of stands.device = c.blocks-2.ensures ∙ ap blocks_of found in
    let within : c.args.block < blocks_of stands.device = of_device old c.args.id.now place c.requires stands (λ d. c.args.block < blocks_of d) has in
    omega (arith, count, within)

pub returns-clause-ok : goal.returns-clause-ok
returns-clause-ok c =
    let old : Air Device = c.args.field.now in
    let place : ℕ = c.place_of-place.result in
    let stands : StandsAt (bytes_of c.args.id.now) old.listeners place =
    stands_there old c.args.id.now c.bytes-bytes.result.now c.listeners-devices.result.now place c.bytes-bytes.ensures c.listeners-devices.ensures c.place_of-place.ensures in
    let found : c.index-devices-place.result ≡ stands.device =
    at_place old c.args.id.now place c.requires stands c.listeners-devices.result.now c.index-devices-place.result c.listeners-devices.ensures c.index-devices-place.is in
    let count : c.blocks-2.result ≡ blocks_of stands.device = c.blocks-2.ensures ∙ ap blocks_of found in
    let within : c.args.block < blocks_of stands.device = omega (arith, count) in
    let lent : c.listener.result.now ≡ stands.device = at_place old c.args.id.now place c.requires stands old.listeners c.listener.result.now refl c.listener.ensures.value in
    block_locked old c.args.id.now place c.requires stands _ c.args.block within
    (ap (λ x. record { lit = old.lit; listeners = slice_set old.listeners place x; fates = old.fates; trace = old.trace }) (c.lock.ensures ∙ ap (device_locked c.args.block) lent))
