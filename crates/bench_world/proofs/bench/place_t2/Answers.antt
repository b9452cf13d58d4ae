use Rattle.std.proofs.Common.{◌≡◌, ℕ, ◌*◌, List, rules, ◌∙◌, ap}
use Rattle.nfca_poll.specs.Ident.{IsIdent}
use Rattle.nfca_poll.specs.Front.{Off}
use Rattle.nfca_poll.specs.Fronted.{Fronted}
use Rattle.t2t_tag.specs.Store.{T2Memory, unlocked}
use Rattle.bench_devices.specs.declared.device.Device.{Device}
use Rattle.bench_devices.specs.declared.device.Device.TheVariants.{T2}
use Rattle.bench_devices.specs.Device.{device_darkened}
use Rattle.bench_world.specs.Legal.{MayPlaceT2, memory_of}
use Rattle.bench_world.specs.Obeying.{Machines, state_at}
use Rattle.bench_world.proofs.devices.Placed.{one_more, t2_placed}
use Rattle.bench_world.proofs.bench.place_t2.Goals as goal

pub returns-in-Ok-put_in-clause-ok : goal.returns-in-Ok-put_in-clause-ok
returns-in-Ok-put_in-clause-ok c =
    let old : Machines = c.args.machines.now in
    let store : List ℕ = memory_of (4 * c.args.blocks) c.args.head.now in
    let held : c.new-2.result ≡ unlocked store = c.new-2.ensures ∙ c.in-Ok-new.ensures.ok ∙ ap unlocked c.in-Ok.ensures in
    let placed : Fronted T2Memory → Device = λ d. T2 d in
    let front : c.new-3.result ≡ record { id = c.args.id.now; front = Off; upper = unlocked store } =
    c.new-3.ensures ∙ ap (λ i. record { id = i; front = Off; upper = c.new-2.result }) c.copy.ensures ∙ ap (λ (u : T2Memory). record { id = c.args.id.now; front = Off; upper = u }) held in
    let may : MayPlaceT2 (state_at old) c.args.id.now c.args.blocks c.args.head.now = record {
      free = record { room = search rules; fresh = search rules };
      fits = search rules;
      store = search rules;
    } in
    let ident : IsIdent c.args.id.now = search rules in
    t2_placed old c.put_in.new.self c.args.id.now c.args.blocks c.args.head.now c.requires ident may
    (c.in-Ok-put_in.ensures.ok ∙ ap (λ d. one_more old (device_darkened (T2 d))) front)
