use Rattle.std.proofs.Common.{◌≡◌, ℕ, ◌*◌, List, rules, false, ◌∙◌, ap}
use Rattle.t5t_tag.specs.Store.{T5State, fresh}
use Rattle.bench_devices.specs.declared.device.Device.TheVariants.{T5}
use Rattle.bench_devices.specs.Device.{device_darkened}
use Rattle.bench_world.specs.Legal.{MayPlaceT5, memory_of}
use Rattle.bench_world.specs.Obeying.{Machines, state_at}
use Rattle.bench_world.proofs.devices.Placed.{one_more, t5_placed}
use Rattle.bench_world.proofs.bench.place_t5.Goals as goal

pub returns-in-Ok-put_in-clause-ok : goal.returns-in-Ok-put_in-clause-ok
returns-in-Ok-put_in-clause-ok c =
    let old : Machines = c.args.machines.now in
    let size : ℕ = c.args.size in
    let store : List ℕ = memory_of (size * c.args.blocks) c.args.head.now in
    let held : c.in-Ok-new.tag ≡ fresh c.args.id size store = c.in-Ok-new.ensures.ok ∙ ap (fresh c.args.id size) c.in-Ok.ensures in
    let powered : c.new-2.result ≡ record { tag = fresh c.args.id size store; lit = false } = c.new-2.ensures ∙ ap (λ (t : T5State). record { tag = t; lit = false }) held in
    let may : MayPlaceT5 (state_at old) c.args.id c.args.blocks size c.args.head.now = record {
      free = record { room = search rules; fresh = search rules };
      fits = search rules;
      store = search rules;
    } in
    t5_placed old c.put_in.new.self c.args.id c.args.blocks size c.args.head.now c.requires (search rules) (search rules) may
    (c.in-Ok-put_in.ensures.ok ∙ ap (λ p. one_more old (device_darkened (T5 p))) powered)
