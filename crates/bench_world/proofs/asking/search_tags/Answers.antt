use Rattle.std.proofs.Common.{◌≡◌, ℕ, List, Result, Ok, Err, Some, sym, ap, subst}
use Rattle.air_core.specs.Turn.{moment}
use Rattle.nfca_poll.specs.declared.fault.PollFault.{PollFault}
use Rattle.nfcv_poll.specs.Finding.{identifiers}
use Rattle.bench_script.specs.declared.command.Command.TheVariants.{Crowd}
use Rattle.bench_devices.specs.Crowding.{CrowdsField}
use Rattle.bench_world.specs.declared.entry.Answer.TheVariants as answers
use Rattle.bench_world.specs.Answering.{poll_answer}
use Rattle.bench_world.specs.Obeying.{ObeyedUnlinked}
use Rattle.bench_world.proofs.tags.Legality.{crowd_obeyed, crowd_cut, crowd_part, crowd_fed, may_crowd}
use Rattle.bench_world.proofs.lines.Outcomes.{if_ok, on_err}
use Rattle.bench_world.proofs.asking.search_tags.Goals as goal

pub missed-requires : goal.missed-requires
missed-requires c =
    let S : Result (List (List ℕ)) PollFault → Type 0 = λ r. CrowdsField (moment c.args.field.now) (moment c.sweep_tags.new.field) r in
    may_crowd (moment c.args.field.now) (moment c.sweep_tags.new.field) c.in-Err.fault (subst S (ap identifiers c.in-Err.is) c.sweep_tags.ensures.tells)

pub returns-in-Ok-clause-ok : goal.returns-in-Ok-clause-ok
returns-in-Ok-clause-ok c =
    let S : Result (List (List ℕ)) PollFault → Type 0 = λ r. CrowdsField (moment c.args.field.now) (moment c.sweep_tags.new.field) r in
    let s : S (Ok c.in-Ok.tags.items) = subst S (ap identifiers c.in-Ok.is) c.sweep_tags.ensures.tells in
    crowd_obeyed c.args.field.now c.sweep_tags.new.field (Ok c.in-Ok.tags.items) (answers.Crowd c.new.result) c.requires (s (λ e. cc)) (ap (λ x. Some (answers.Crowd x)) (sym c.new.ensures))

pub returns-in-Err-clause-ok : goal.returns-in-Err-clause-ok
returns-in-Err-clause-ok c =
    let S : Result (List (List ℕ)) PollFault → Type 0 = λ r. CrowdsField (moment c.args.field.now) (moment c.sweep_tags.new.field) r in
    let s : S (Err c.in-Err.fault) = subst S (ap identifiers c.in-Err.is) c.sweep_tags.ensures.tells in
    if_ok c.missed.result (λ a. poll_answer c.in-Err.fault ≡ Some a)
    (λ a. ObeyedUnlinked c.args.field.now c.sweep_tags.new.field Crowd a)
    (λ a told. crowd_obeyed c.args.field.now c.sweep_tags.new.field (Err c.in-Err.fault) a c.requires (s (crowd_fed c.in-Err.fault a told)) told) c.missed.ensures

pub returns-in-Err-clause-cut : goal.returns-in-Err-clause-cut
returns-in-Err-clause-cut c =
    on_err c.missed.result (crowd_cut c.args.field.now c.sweep_tags.new.field c.requires
    (crowd_part (moment c.args.field.now) (moment c.sweep_tags.new.field) (identifiers c.sweep_tags.result) c.sweep_tags.ensures.tells c.sweep_tags.ensures.cut))
