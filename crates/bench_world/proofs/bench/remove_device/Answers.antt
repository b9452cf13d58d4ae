use Rattle.std.proofs.Common.{ℕ, List, rules, ◌∙◌, ap, subst}
use Rattle.bench_devices.specs.declared.device.Device.{Device}
use Rattle.bench_devices.specs.Choosing.{StandsAt}
use Rattle.bench_world.specs.Legal.{IsPlaced}
use Rattle.bench_world.specs.Obeying.{Machines, state_at, taken_out}
use Rattle.bench_script.specs.DeviceIds.{bytes_of}
use Rattle.bench_world.proofs.open_link.Unlinking.{taken_away}
use Rattle.bench_world.proofs.bench.remove_device.Goals as goal

pub returns-clause-ok : goal.returns-clause-ok
returns-clause-ok c =
    let old : Machines = c.args.machines.now in
    let place : ℕ = c.place_of-place.result in
    let P : List ℕ → Type 0 = λ id. StandsAt id c.devices-2.result.now place in
    let Q : List Device → Type 0 = λ ls. StandsAt (bytes_of c.args.id.now) ls place in
    let stands : StandsAt (bytes_of c.args.id.now) old.air.listeners place = subst Q c.devices-2.ensures (subst P c.bytes-bytes.ensures c.place_of-place.ensures) in
    let placed : IsPlaced (state_at old) c.args.id.now = search rules in
    taken_away old c.take_out.new.self c.args.id.now place c.requires placed stands (c.take_out.ensures ∙ ap (λ m. taken_out m place) c.end_link_to.ensures.ended)
