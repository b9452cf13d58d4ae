use Rattle.std.proofs.Common.{◌≡◌, true, sym, ◌∙◌, ap, subst}
use Rattle.air_core.specs.Turn.{moment}
use Rattle.air_core.specs.World.{World}
use Rattle.air_core.specs.Conversation.{Moment}
use Rattle.t3t_access.specs.Polling.{picking_f}
use Rattle.bench_devices.specs.declared.device.Device.{Device}
use Rattle.bench_devices.specs.Sensing.{FindsThree, SeeksTo}
use Rattle.bench_devices.proofs.finding.FromReset.{quiet, uncut}
use Rattle.bench_devices.proofs.finding.SeekingOne.{seeking_closes, seeks_one, seeks_no_light, seeks_to, seeks_fault, seeking_cut}
use Rattle.bench_devices.proofs.finding.Selections.{if_missed, if_cut, reset_failed}
use Rattle.bench_devices.proofs.finding.SelectingV.{reset_done}
use Rattle.bench_devices.proofs.sensing.select_three.Goals as goal

pub returns-in-Ok-clause-ok : goal.returns-in-Ok-clause-ok
returns-in-Ok-clause-ok c =
    let reset = reset_done c.args.field.now c.reset.new.self c.reset.result c.reset.ensures.ok (sym c.is_err.ensures.value ∙ c.if-is_err.false) in
    let lit : c.reset.new.self.lit ≡ true = ap (λ (m : Moment (World Device)). m.world.lit) reset in
    let polls = quiet (picking_f c.args.id) (seeking_closes c.args.id) (seeks_one c.args.id) (seeks_no_light c.args.id) c.reset.new.self c.pick_f.new.field c.pick_f.result
    (c.pick_f.ensures.turns lit) in
    seeks_to c.args.id c.args.field.now c.reset.new.self c.pick_f.new.field c.pick_f.result c.requires.idle.tame reset polls c.pick_f.ensures.lost (c.pick_f.ensures.told lit)
    (c.pick_f.ensures.cause lit) c.in-Ok.is
    c.find_three.result (subst (λ ds. FindsThree c.args.id ds c.find_three.result) c.listeners.ensures c.find_three.ensures)

pub returns-in-Err-clause-ok : goal.returns-in-Err-clause-ok
returns-in-Err-clause-ok c =
    let reset = reset_done c.args.field.now c.reset.new.self c.reset.result c.reset.ensures.ok (sym c.is_err.ensures.value ∙ c.if-is_err.false) in
    let lit : c.reset.new.self.lit ≡ true = ap (λ (m : Moment (World Device)). m.world.lit) reset in
    let polls = quiet (picking_f c.args.id) (seeking_closes c.args.id) (seeks_one c.args.id) (seeks_no_light c.args.id) c.reset.new.self c.pick_f.new.field c.pick_f.result
    (c.pick_f.ensures.turns lit) in
    if_missed c.none_selected.result c.in-Err.fault (λ s. SeeksTo c.args.id s (moment c.args.field.now) (moment c.pick_f.new.field)) c.none_selected.ensures
    (seeks_fault c.args.id c.args.field.now c.reset.new.self c.pick_f.new.field c.pick_f.result c.requires.idle.tame reset polls c.pick_f.ensures.lost (c.pick_f.ensures.told lit)
    (c.pick_f.ensures.cause lit) c.in-Err.fault c.in-Err.is)

pub returns-in-Err-clause-cut : goal.returns-in-Err-clause-cut
returns-in-Err-clause-cut c =
    let reset = reset_done c.args.field.now c.reset.new.self c.reset.result c.reset.ensures.ok (sym c.is_err.ensures.value ∙ c.if-is_err.false) in
    let lit : c.reset.new.self.lit ≡ true = ap (λ (m : Moment (World Device)). m.world.lit) reset in
    let polls = quiet (picking_f c.args.id) (seeking_closes c.args.id) (seeks_one c.args.id) (seeks_no_light c.args.id) c.reset.new.self c.pick_f.new.field c.pick_f.result
    (c.pick_f.ensures.turns lit) in
    if_cut c.none_selected.result (seeking_cut c.args.id c.args.field.now c.reset.new.self c.pick_f.new.field c.pick_f.result c.requires.idle.tame reset polls)

pub returns-then-is_err-clause-cut : goal.returns-then-is_err-clause-cut
returns-then-is_err-clause-cut c =
    uncut (picking_f c.args.id) (seeking_closes c.args.id) (seeks_one c.args.id) (seeks_no_light c.args.id) c.args.field.now c.reset.new.self
    (reset_failed c.reset.result (c.reset.new.self ≡ c.args.field.now) _ c.reset.ensures.err (sym c.is_err.ensures.value ∙ c.if-is_err.true))
