use Rattle.std.proofs.Common.{◌≡◌, Result, Ok, Err, Some, sym, ap, subst}
use Rattle.air_core.specs.Turn.{moment}
use Rattle.nfca_poll.specs.declared.fault.PollFault.{PollFault}
use Rattle.t3t_access.specs.declared.polling.Fcrowd.{Fcrowd}
use Rattle.bench_script.specs.declared.command.Command.TheVariants.{Poll3}
use Rattle.bench_devices.specs.Sensing.{SensesField}
use Rattle.bench_world.specs.Answering.{poll_answer}
use Rattle.bench_world.specs.Obeying.{ObeyedUnlinked}
use Rattle.bench_world.proofs.tags.Senses.{sense_obeyed, sense_cut, sense_part, sense_fed, may_sense}
use Rattle.bench_world.proofs.lines.Outcomes.{if_ok, on_err}
use Rattle.bench_world.proofs.threes.sense.Goals as goal

pub missed-requires : goal.missed-requires
missed-requires c =
    let S : Result Fcrowd PollFault → Type 0 = λ r. SensesField (moment c.args.field.now) (moment c.poll_three.new.field) r in
    may_sense (moment c.args.field.now) (moment c.poll_three.new.field) c.in-Err.fault (subst S c.in-Err.is c.poll_three.ensures.tells)

pub returns-in-Ok-clause-ok : goal.returns-in-Ok-clause-ok
returns-in-Ok-clause-ok c =
    let S : Result Fcrowd PollFault → Type 0 = λ r. SensesField (moment c.args.field.now) (moment c.poll_three.new.field) r in
    let s : S (Ok c.in-Ok.found) = subst S c.in-Ok.is c.poll_three.ensures.tells in
    sense_obeyed c.args.field.now c.poll_three.new.field (Ok c.in-Ok.found) c.sensed.result c.requires (s (λ e. cc)) (ap Some (sym c.sensed.ensures))

pub returns-in-Err-clause-ok : goal.returns-in-Err-clause-ok
returns-in-Err-clause-ok c =
    let S : Result Fcrowd PollFault → Type 0 = λ r. SensesField (moment c.args.field.now) (moment c.poll_three.new.field) r in
    let s : S (Err c.in-Err.fault) = subst S c.in-Err.is c.poll_three.ensures.tells in
    if_ok c.missed.result (λ a. poll_answer c.in-Err.fault ≡ Some a)
    (λ a. ObeyedUnlinked c.args.field.now c.poll_three.new.field Poll3 a)
    (λ a told. sense_obeyed c.args.field.now c.poll_three.new.field (Err c.in-Err.fault) a c.requires (s (sense_fed c.in-Err.fault a told)) told) c.missed.ensures

pub returns-in-Err-clause-cut : goal.returns-in-Err-clause-cut
returns-in-Err-clause-cut c =
    on_err c.missed.result (sense_cut c.args.field.now c.poll_three.new.field c.requires
    (sense_part (moment c.args.field.now) (moment c.poll_three.new.field) c.poll_three.result c.poll_three.ensures.tells c.poll_three.ensures.cut))
