use Rattle.std.proofs.Common.{◌≡◌, Result, Ok, Err, Some, subst}
use Rattle.air_core.specs.Turn.{moment}
use Rattle.nfca_poll.specs.declared.fault.PollFault.{PollFault}
use Rattle.bench_script.specs.declared.command.Command.TheVariants.{Find}
use Rattle.bench_devices.specs.declared.sweeping.Everybody.{Everybody}
use Rattle.bench_devices.specs.Phases.{Searches, SearchesField}
use Rattle.bench_world.specs.declared.entry.Answer.TheVariants as answers
use Rattle.bench_world.specs.Answering.{poll_answer}
use Rattle.bench_world.specs.Crowded.{seen_all, is_crowd}
use Rattle.bench_world.specs.Obeying.{ObeyedUnlinked}
use Rattle.bench_world.proofs.tags.Legality.{search_obeyed, search_cut, search_part}
use Rattle.bench_world.proofs.tags.Telling.{may_search, poll_fed, fault_found}
use Rattle.bench_world.proofs.lines.Outcomes.{if_ok, on_err}
use Rattle.bench_world.proofs.asking.search.Goals as goal

pub missed-requires : goal.missed-requires
missed-requires c =
    let S : Result Everybody PollFault → Type 0 = λ r. SearchesField (moment c.args.field.now) (moment c.sweep_field.new.field) r in
    may_search (moment c.args.field.now) (moment c.sweep_field.new.field) c.in-Err.fault (subst S c.in-Err.is c.sweep_field.ensures.tells)

pub returns-in-Ok-clause-ok : goal.returns-in-Ok-clause-ok
returns-in-Ok-clause-ok c =
    let S : Result Everybody PollFault → Type 0 = λ r. SearchesField (moment c.args.field.now) (moment c.sweep_field.new.field) r in
    let s : S (Ok c.in-Ok.everybody) = subst S c.in-Ok.is c.sweep_field.ensures.tells in
    if_ok c.found.result (λ a. a ≡ answers.Found (seen_all c.in-Ok.everybody) (is_crowd c.in-Ok.everybody.others))
    (λ a. ObeyedUnlinked c.args.field.now c.sweep_field.new.field Find a)
    (λ a told. search_obeyed c.args.field.now c.sweep_field.new.field (Ok c.in-Ok.everybody) a c.requires (s (λ e. cc)) told) c.found.ensures

pub returns-in-Err-clause-ok : goal.returns-in-Err-clause-ok
returns-in-Err-clause-ok c =
    let S : Result Everybody PollFault → Type 0 = λ r. SearchesField (moment c.args.field.now) (moment c.sweep_field.new.field) r in
    let s : S (Err c.in-Err.fault) = subst S c.in-Err.is c.sweep_field.ensures.tells in
    if_ok c.missed.result (λ a. poll_answer c.in-Err.fault ≡ Some a)
    (λ a. ObeyedUnlinked c.args.field.now c.sweep_field.new.field Find a)
    (λ a told.
    let searches : Searches (moment c.args.field.now) (moment c.sweep_field.new.field) (Err c.in-Err.fault) = s (poll_fed c.in-Err.fault a told) in
    search_obeyed c.args.field.now c.sweep_field.new.field (Err c.in-Err.fault) a c.requires searches
    (fault_found (moment c.args.field.now) (moment c.sweep_field.new.field) c.in-Err.fault a searches told)) c.missed.ensures

pub returns-in-Ok-clause-cut : goal.returns-in-Ok-clause-cut
returns-in-Ok-clause-cut c =
    on_err c.found.result (search_cut c.args.field.now c.sweep_field.new.field c.requires
    (search_part (moment c.args.field.now) (moment c.sweep_field.new.field) c.sweep_field.result c.sweep_field.ensures.tells c.sweep_field.ensures.cut))

pub returns-in-Err-clause-cut : goal.returns-in-Err-clause-cut
returns-in-Err-clause-cut c =
    on_err c.missed.result (search_cut c.args.field.now c.sweep_field.new.field c.requires
    (search_part (moment c.args.field.now) (moment c.sweep_field.new.field) c.sweep_field.result c.sweep_field.ensures.tells c.sweep_field.ensures.cut))
