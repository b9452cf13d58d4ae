use Rattle.std.proofs.Common.{ℕ, List, Result, sym, subst, IsSome}
use Rattle.air_core.specs.Turn.{moment}
use Rattle.nfca_poll.specs.declared.fault.PollFault.{PollFault}
use Rattle.nfca_poll.specs.declared.kind.Kind.{Kind}
use Rattle.bench_script.specs.declared.command.DeviceId.TheVariants as ids
use Rattle.bench_devices.specs.declared.device.Device.{Device}
use Rattle.bench_devices.specs.Placed.{device_with}
use Rattle.bench_devices.specs.Choosing.{StandsAt}
use Rattle.bench_devices.specs.Phases.{Selects, SelectsTo}
use Rattle.bench_devices.proofs.finding.SelectingA.{any, quiet, placed, selects, selects_at, cut}
use Rattle.bench_devices.proofs.finding.Selections.{if_missed, not_starved, if_cut}
use Rattle.bench_devices.proofs.polling.select_a.Goals as goal

pub place_of-requires : goal.place_of-requires
place_of-requires c =
    let p = placed c.args.id.now c.args.field.now c.pick.new.field c.pick.result c.view-wanted.ensures.valid c.requires.idle.tame c.requires.idle.tidy
    (quiet c.args.id.now c.args.field.now c.pick.new.field c.pick.result c.pick.ensures.turns) c.pick.ensures.lost c.pick.ensures.crowd c.in-Ok.field-0 c.in-Ok.is in
    subst (λ ds. IsSome (device_with c.view-wanted.result.now ds)) (sym c.listeners.ensures) (subst (λ i. IsSome (device_with i c.pick.new.field.listeners)) (sym c.view-wanted.ensures.bytes) p)

pub returns-in-Ok-clause-ok : goal.returns-in-Ok-clause-ok
returns-in-Ok-clause-ok c =
    let P : List ℕ → Type 0 = λ i. StandsAt i c.listeners.result.now c.place_of.result in
    let Q : List Device → Type 0 = λ ds. StandsAt c.args.id.now ds c.place_of.result in
    selects_at c.args.id.now c.args.field.now c.pick.new.field c.pick.result c.view-wanted.ensures.valid c.requires.idle.tame c.requires.idle.tidy
    (quiet c.args.id.now c.args.field.now c.pick.new.field c.pick.result c.pick.ensures.turns) c.pick.ensures.lost c.pick.ensures.crowd c.in-Ok.field-0 c.in-Ok.is
    c.place_of.result (subst Q c.listeners.ensures (subst P c.view-wanted.ensures.bytes c.place_of.ensures))

pub returns-in-Err-clause-ok : goal.returns-in-Err-clause-ok
returns-in-Err-clause-ok c =
    let P : Result Kind PollFault → Type 0 = λ r. Selects (ids.A c.args.id.now) (any r) (moment c.args.field.now) (moment c.pick.new.field) in
    if_missed c.none_selected.result c.in-Err.fault (λ s. SelectsTo (ids.A c.args.id.now) s (moment c.args.field.now) (moment c.pick.new.field)) c.none_selected.ensures (λ m.
    subst P c.in-Err.is
    (selects c.args.id.now c.args.field.now c.pick.new.field c.pick.result c.view-wanted.ensures.valid c.requires.idle.tame c.requires.idle.tidy
    (quiet c.args.id.now c.args.field.now c.pick.new.field c.pick.result c.pick.ensures.turns) c.pick.ensures.lost c.pick.ensures.crowd
    (not_starved c.pick.result c.in-Err.fault c.in-Err.is m)))

pub returns-in-Err-clause-cut : goal.returns-in-Err-clause-cut
returns-in-Err-clause-cut c =
    if_cut c.none_selected.result (cut c.args.id.now c.args.field.now c.pick.new.field c.pick.result c.view-wanted.ensures.valid c.requires.idle.tame c.requires.idle.tidy
    (quiet c.args.id.now c.args.field.now c.pick.new.field c.pick.result c.pick.ensures.turns))
