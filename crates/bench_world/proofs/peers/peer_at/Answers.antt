use Rattle.std.proofs.Common.{◌≡◌, ℕ, true, false, sym, ◌∙◌, ap}
use Rattle.air_core.specs.Turn.{Air}
use Rattle.bench_devices.specs.declared.device.Device.{Device}
use Rattle.bench_devices.specs.Choosing.{StandsAt}
use Rattle.bench_devices.specs.Device.{is_tag}
use Rattle.bench_script.specs.DeviceIds.{bytes_of}
use Rattle.bench_world.proofs.devices.Locking.{stands_there, at_place, of_device, of_placed}
use Rattle.bench_world.proofs.peers.peer_at.Goals as goal

pub returns-then-is_tag-clause-none : goal.returns-then-is_tag-clause-none
returns-then-is_tag-clause-none c = λ _ has.
    let old : Air Device = c.args.machines.now.air in
    let place : ℕ = c.place_of-place.result in
    let stands : StandsAt (bytes_of c.args.id.now) old.listeners place =
    stands_there old c.args.id.now c.bytes-bytes.result.now c.devices-devices.result.now place c.bytes-bytes.ensures c.devices-devices.ensures c.place_of-place.ensures in
    let found : c.index-devices-place.result ≡ stands.device =
    at_place old c.args.id.now place c.requires.idle stands c.devices-devices.result.now c.index-devices-place.result c.devices-devices.ensures c.index-devices-place.is in
    let tag : is_tag stands.device ≡ true = sym (ap is_tag found) ∙ sym c.is_tag.ensures ∙ c.if-is_tag.true in
    let peer : is_tag stands.device ≡ false = of_device old c.args.id.now place c.requires.idle stands (λ d. is_tag d ≡ false) has in
    (let clash : false ≡ true = sym peer ∙ tag in cc)

pub returns-else-is_tag-clause-peer : goal.returns-else-is_tag-clause-peer
returns-else-is_tag-clause-peer c =
    let old : Air Device = c.args.machines.now.air in
    let place : ℕ = c.place_of-place.result in
    let stands : StandsAt (bytes_of c.args.id.now) old.listeners place =
    stands_there old c.args.id.now c.bytes-bytes.result.now c.devices-devices.result.now place c.bytes-bytes.ensures c.devices-devices.ensures c.place_of-place.ensures in
    let found : c.index-devices-place.result ≡ stands.device =
    at_place old c.args.id.now place c.requires.idle stands c.devices-devices.result.now c.index-devices-place.result c.devices-devices.ensures c.index-devices-place.is in
    of_placed old c.args.id.now place c.requires.idle stands (λ d. is_tag d ≡ false) (sym (ap is_tag found) ∙ sym c.is_tag.ensures ∙ c.if-is_tag.false)
