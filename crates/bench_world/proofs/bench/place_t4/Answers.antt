use Rattle.std.proofs.Common.{◌≡◌, ℕ, List, rules, false, ◌∙◌, ap}
use Rattle.nfca_poll.specs.Ident.{IsIdent}
use Rattle.nfca_poll.specs.Front.{Off}
use Rattle.t4t_tag.specs.Store.{T4State, file_size, fresh}
use Rattle.isodep_link.specs.Card as ends
use Rattle.bench_devices.specs.Cards.{T4Near}
use Rattle.bench_devices.specs.declared.device.Device.TheVariants.{T4}
use Rattle.bench_devices.specs.Device.{device_darkened}
use Rattle.bench_world.specs.Legal.{MayPlaceT4, memory_of}
use Rattle.bench_world.specs.Obeying.{Machines, state_at}
use Rattle.bench_world.proofs.devices.Placed.{one_more, t4_placed}
use Rattle.bench_world.proofs.bench.place_t4.Goals as goal

pub returns-in-Ok-put_in-clause-ok : goal.returns-in-Ok-put_in-clause-ok
returns-in-Ok-put_in-clause-ok c =
    let old : Machines = c.args.machines.now in
    let container : List ℕ = c.args.container.now in
    let file : List ℕ = memory_of (file_size container) c.args.head.now in
    let held : c.in-Ok-memory.file.items ≡ file = c.in-Ok-memory.ensures ∙ ap (λ n. memory_of n c.args.head.now) c.in-Some.ensures in
    let tag : c.in-Ok-new.tag ≡ fresh c.args.code container file =
    c.in-Ok-new.ensures.ok ∙ ap (λ x. fresh c.args.code x c.in-Ok-memory.file.items) c.in-Ok.ensures.items ∙ ap (fresh c.args.code container) held in
    let upper : T4State → T4Near = λ t. record { tag = t; card = ends.fresh t.code; linked = false } in
    let near : c.new-2.result ≡ upper (fresh c.args.code container file) = c.new-2.ensures ∙ ap upper tag in
    let front : c.new-3.result ≡ record { id = c.args.id.now; front = Off; upper = upper (fresh c.args.code container file) } =
    c.new-3.ensures ∙ ap (λ i. record { id = i; front = Off; upper = c.new-2.result }) c.copy.ensures ∙ ap (λ (u : T4Near). record { id = c.args.id.now; front = Off; upper = u }) near in
    let may : MayPlaceT4 (state_at old) c.args.id.now c.args.code container c.args.head.now = record {
      free = record { room = search rules; fresh = search rules };
      fits = search rules;
      store = search rules;
    } in
    let ident : IsIdent c.args.id.now = search rules in
    t4_placed old c.put_in.new.self c.args.id.now c.args.code container c.args.head.now c.requires ident may
    (c.in-Ok-put_in.ensures.ok ∙ ap (λ d. one_more old (device_darkened (T4 d))) front)
