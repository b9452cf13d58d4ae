use Rattle.std.proofs.Common.{◌≡◌, List, length, Result, true, sym, ◌∙◌, ap, subst, IsSome, arith}
use Rattle.air_core.specs.Turn.{moment}
use Rattle.air_core.specs.World.{World}
use Rattle.air_core.specs.Conversation.{Moment}
use Rattle.nfca_poll.specs.declared.fault.PollFault.{PollFault}
use Rattle.bench_script.specs.declared.command.DeviceId.TheVariants as ids
use Rattle.bench_devices.specs.declared.device.Device.{Device}
use Rattle.bench_devices.specs.Placed.{device_with}
use Rattle.bench_devices.specs.Choosing.{StandsAt}
use Rattle.bench_devices.specs.Phases.{Selects, SelectsTo}
use Rattle.bench_devices.proofs.finding.SelectingV.{five, quiet, reset_done, placed, selects, selects_at, cut, uncut}
use Rattle.bench_devices.proofs.finding.Selections.{if_missed, not_starved, if_cut, reset_failed}
use Rattle.bench_devices.proofs.polling.select_v.Goals as goal

pub place_of-requires : goal.place_of-requires
place_of-requires c =
    let reset = reset_done c.args.field.now c.reset.new.self c.reset.result c.reset.ensures.ok (sym c.is_err.ensures.value ∙ c.if-is_err.false) in
    let lit : c.reset.new.self.lit ≡ true = ap (λ (m : Moment (World Device)). m.world.lit) reset in
    let p = placed c.args.id (omega (arith, c.well_formed)) c.args.field.now c.reset.new.self c.pick_v.new.field c.pick_v.result c.requires.idle.tame reset
    (quiet c.args.id c.reset.new.self c.pick_v.new.field c.pick_v.result (c.pick_v.ensures.turns lit)) c.pick_v.ensures.lost (c.pick_v.ensures.cause lit) c.in-Ok.is in
    subst (λ ds. IsSome (device_with c.args.id ds)) (sym c.listeners.ensures) p

pub returns-in-Ok-clause-ok : goal.returns-in-Ok-clause-ok
returns-in-Ok-clause-ok c =
    let reset = reset_done c.args.field.now c.reset.new.self c.reset.result c.reset.ensures.ok (sym c.is_err.ensures.value ∙ c.if-is_err.false) in
    let lit : c.reset.new.self.lit ≡ true = ap (λ (m : Moment (World Device)). m.world.lit) reset in
    let Q : List Device → Type 0 = λ ds. StandsAt c.args.id ds c.place_of.result in
    selects_at c.args.id (omega (arith, c.well_formed)) c.args.field.now c.reset.new.self c.pick_v.new.field c.pick_v.result c.requires.idle.tame reset
    (quiet c.args.id c.reset.new.self c.pick_v.new.field c.pick_v.result (c.pick_v.ensures.turns lit)) c.pick_v.ensures.lost (c.pick_v.ensures.cause lit) c.in-Ok.is
    c.place_of.result (subst Q c.listeners.ensures c.place_of.ensures)

pub returns-in-Err-clause-ok : goal.returns-in-Err-clause-ok
returns-in-Err-clause-ok c =
    let reset = reset_done c.args.field.now c.reset.new.self c.reset.result c.reset.ensures.ok (sym c.is_err.ensures.value ∙ c.if-is_err.false) in
    let lit : c.reset.new.self.lit ≡ true = ap (λ (m : Moment (World Device)). m.world.lit) reset in
    let eight : length c.args.id ≡ 8 = omega (arith, c.well_formed) in
    let P : Result (Unit {0}) PollFault → Type 0 = λ r. Selects (ids.V c.args.id) (five r) (moment c.args.field.now) (moment c.pick_v.new.field) in
    if_missed c.none_selected.result c.in-Err.fault (λ s. SelectsTo (ids.V c.args.id) s (moment c.args.field.now) (moment c.pick_v.new.field)) c.none_selected.ensures (λ m.
    subst P c.in-Err.is
    (selects c.args.id eight c.args.field.now c.reset.new.self c.pick_v.new.field c.pick_v.result c.requires.idle.tame reset
    (quiet c.args.id c.reset.new.self c.pick_v.new.field c.pick_v.result (c.pick_v.ensures.turns lit)) c.pick_v.ensures.lost (c.pick_v.ensures.cause lit)
    (not_starved c.pick_v.result c.in-Err.fault c.in-Err.is m)))

pub returns-in-Err-clause-cut : goal.returns-in-Err-clause-cut
returns-in-Err-clause-cut c =
    let reset = reset_done c.args.field.now c.reset.new.self c.reset.result c.reset.ensures.ok (sym c.is_err.ensures.value ∙ c.if-is_err.false) in
    let lit : c.reset.new.self.lit ≡ true = ap (λ (m : Moment (World Device)). m.world.lit) reset in
    if_cut c.none_selected.result (cut c.args.id (omega (arith, c.well_formed)) c.args.field.now c.reset.new.self c.pick_v.new.field c.pick_v.result c.requires.idle.tame reset
    (quiet c.args.id c.reset.new.self c.pick_v.new.field c.pick_v.result (c.pick_v.ensures.turns lit)))

pub returns-then-is_err-clause-cut : goal.returns-then-is_err-clause-cut
returns-then-is_err-clause-cut c =
    uncut c.args.id c.args.field.now c.reset.new.self (reset_failed c.reset.result (c.reset.new.self ≡ c.args.field.now) _ c.reset.ensures.err (sym c.is_err.ensures.value ∙ c.if-is_err.true))
