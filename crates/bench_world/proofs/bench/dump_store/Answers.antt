use Rattle.std.proofs.Common.{◌≡◌, ℕ, List, true, false, sym, ◌∙◌, ap, subst}
use Rattle.air_core.specs.Turn.{Air}
use Rattle.bench_script.specs.declared.command.Command.TheVariants.{Dump}
use Rattle.bench_devices.specs.declared.device.Device.{Device}
use Rattle.bench_world.specs.declared.entry.Answer.TheVariants.{Store}
use Rattle.bench_devices.specs.Choosing.{StandsAt}
use Rattle.bench_devices.specs.Device.{memory_in, is_tag}
use Rattle.bench_world.specs.Obeying.{ObeyedBelow}
use Rattle.bench_script.specs.DeviceIds.{bytes_of}
use Rattle.bench_world.proofs.devices.Locking.{stands_there, at_place, of_device, memory_told}
use Rattle.bench_world.proofs.bench.dump_store.Goals as goal

pub returns-in-Ok-clause-ok : goal.returns-in-Ok-clause-ok
returns-in-Ok-clause-ok c =
    let old : Air Device = c.args.field.now in
    let place : ℕ = c.place_of-place.result in
    let stands : StandsAt (bytes_of c.args.id.now) old.listeners place =
    stands_there old c.args.id.now c.bytes-bytes.result.now c.listeners-devices.result.now place c.bytes-bytes.ensures c.listeners-devices.ensures c.place_of-place.ensures in
    let found : c.index-devices-place.result ≡ stands.device =
    at_place old c.args.id.now place c.requires stands c.listeners-devices.result.now c.index-devices-place.result c.listeners-devices.ensures c.index-devices-place.is in
    let tag : is_tag stands.device ≡ true = sym (ap is_tag found) ∙ sym c.is_tag.ensures ∙ c.if-not-is_tag.false in
    let again : c.index-devices-place-2.result ≡ stands.device =
    at_place old c.args.id.now place c.requires stands c.listeners-devices.result.now c.index-devices-place-2.result c.listeners-devices.ensures c.index-devices-place-2.is in
    let held : c.in-Ok.store ≡ memory_in stands.device = c.in-Ok.ensures ∙ c.memory.ensures ∙ ap memory_in again in
    let O : List ℕ → Type 0 = λ bytes. ObeyedBelow old old (Dump c.args.id.now) (Store bytes) in
    subst O (sym held) (memory_told old c.args.id.now place c.requires stands tag)

pub returns-then-not-is_tag-clause-cause : goal.returns-then-not-is_tag-clause-cause
returns-then-not-is_tag-clause-cause c = λ _ ends peers link has.
    let old : Air Device = c.args.field.now in
    let place : ℕ = c.place_of-place.result in
    let stands : StandsAt (bytes_of c.args.id.now) old.listeners place =
    stands_there old c.args.id.now c.bytes-bytes.result.now c.listeners-devices.result.now place c.bytes-bytes.ensures c.listeners-devices.ensures c.place_of-place.ensures in
    let found : c.index-devices-place.result ≡ stands.device =
    at_place old c.args.id.now place c.requires stands c.listeners-devices.result.now c.index-devices-place.result c.listeners-devices.ensures c.index-devices-place.is in
    let peer : is_tag stands.device ≡ false = sym (ap is_tag found) ∙ sym c.is_tag.ensures ∙ c.if-not-is_tag.true in
    let tag : is_tag stands.device ≡ true = of_device old c.args.id.now place c.requires stands (λ d. is_tag d ≡ true) has in
    (let clash : false ≡ true = sym peer ∙ tag in cc)
