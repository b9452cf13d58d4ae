use Rattle.std.proofs.Common.{◌≡◌, true, sym, ◌∙◌, ap}
use Rattle.air_core.specs.World.{World}
use Rattle.air_core.specs.Conversation.{Moment}
use Rattle.t3t_access.specs.Polling.{polling_f}
use Rattle.bench_devices.specs.declared.device.Device.{Device}
use Rattle.bench_devices.proofs.finding.FromReset.{quiet, uncut}
use Rattle.bench_devices.proofs.finding.Selections.{reset_failed}
use Rattle.bench_devices.proofs.finding.SelectingV.{reset_done}
use Rattle.bench_devices.proofs.finding.SensingAll.{sensing_closes, senses_one, senses_no_light, senses, sensing_cut}
use Rattle.bench_devices.proofs.sensing.poll_three.Goals as goal

pub returns-clause-tells : goal.returns-clause-tells
returns-clause-tells c starved =
    let reset = reset_done c.args.field.now c.reset.new.self c.reset.result c.reset.ensures.ok (sym c.is_err.ensures.value ∙ c.if-is_err.false) in
    let lit : c.reset.new.self.lit ≡ true = ap (λ (m : Moment (World Device)). m.world.lit) reset in
    let polls = quiet polling_f sensing_closes senses_one senses_no_light c.reset.new.self c.poll_f.new.field c.poll_f.result (c.poll_f.ensures.turns lit) in
    senses c.args.field.now c.reset.new.self c.poll_f.new.field c.poll_f.result c.requires.idle.tame reset polls c.poll_f.ensures.lost (c.poll_f.ensures.told lit) (c.poll_f.ensures.cause lit) starved

pub returns-clause-cut : goal.returns-clause-cut
returns-clause-cut c starved =
    let reset = reset_done c.args.field.now c.reset.new.self c.reset.result c.reset.ensures.ok (sym c.is_err.ensures.value ∙ c.if-is_err.false) in
    let lit : c.reset.new.self.lit ≡ true = ap (λ (m : Moment (World Device)). m.world.lit) reset in
    let polls = quiet polling_f sensing_closes senses_one senses_no_light c.reset.new.self c.poll_f.new.field c.poll_f.result (c.poll_f.ensures.turns lit) in
    sensing_cut c.args.field.now c.reset.new.self c.poll_f.new.field c.poll_f.result c.requires.idle.tame reset polls

pub returns-then-is_err-clause-cut : goal.returns-then-is_err-clause-cut
returns-then-is_err-clause-cut c starved =
    uncut polling_f sensing_closes senses_one senses_no_light c.args.field.now c.reset.new.self
    (reset_failed c.reset.result (c.reset.new.self ≡ c.args.field.now) _ c.reset.ensures.err (sym c.is_err.ensures.value ∙ c.if-is_err.true))
