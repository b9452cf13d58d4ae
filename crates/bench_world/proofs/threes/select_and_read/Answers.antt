use Rattle.std.proofs.Common.{◌≡◌, Err, Some, subst}
use Rattle.air_core.specs.Turn.{moment}
use Rattle.t3t_access.specs.declared.fault.T3Fault.TheVariants as fault
use Rattle.bench_script.specs.declared.command.Command.TheVariants.{Read3}
use Rattle.bench_devices.specs.declared.polling.Selection.{Selection}
use Rattle.bench_devices.specs.Sensing.{Seeks, SeeksAt, SeeksTo}
use Rattle.bench_world.specs.Answering.{poll_answer}
use Rattle.bench_world.specs.Obeying.{CutOffUnlinked, ObeyedUnlinked}
use Rattle.bench_world.specs.Threes.{told_three}
use Rattle.bench_world.proofs.lines.Outcomes.{if_ok, on_err, on_err_by}
use Rattle.bench_world.proofs.tags.ThreeLegality.{may_seek, missed_read_three, read_cut_three, read_obeyed_three, seeking_cut_read, sought_part, stands_three}
use Rattle.bench_world.proofs.tags.ThreeTelling.{may_read, read_fed}
use Rattle.bench_world.proofs.threes.select_and_read.Goals as goal

pub read_three-requires : goal.read_three-requires
read_three-requires c =
    let S : Selection → Type 0 = λ s. SeeksTo c.args.id s (moment c.args.field.now) (moment c.select_three.new.field) in
    let s : SeeksAt c.args.id c.in-Place.place (moment c.args.field.now) (moment c.select_three.new.field) = subst S c.in-Place.is c.in_ok-place.ensures.ok in
    (s.device, s.stands, s.three)

pub told_three-requires : goal.told_three-requires
told_three-requires c =
    let S : Selection → Type 0 = λ s. SeeksTo c.args.id s (moment c.args.field.now) (moment c.select_three.new.field) in
    let s : SeeksAt c.args.id c.in-Place.place (moment c.args.field.now) (moment c.select_three.new.field) = subst S c.in-Place.is c.in_ok-place.ensures.ok in
    may_read c.args.id (moment c.select_three.new.field) (moment c.read_three.new.field) s.device c.read_three.result
    (λ fed. c.read_three.ensures.tells fed s.device (stands_three c.args.field.now c.select_three.new.field c.args.id c.in-Place.place c.requires.idle c.requires.stored s))

pub returns-in-Place-clause-ok : goal.returns-in-Place-clause-ok
returns-in-Place-clause-ok c =
    let S : Selection → Type 0 = λ s. SeeksTo c.args.id s (moment c.args.field.now) (moment c.select_three.new.field) in
    let s : SeeksAt c.args.id c.in-Place.place (moment c.args.field.now) (moment c.select_three.new.field) = subst S c.in-Place.is c.in_ok-place.ensures.ok in
    if_ok c.told_three.result (λ answer. told_three c.read_three.result ≡ Some answer)
    (λ answer. ObeyedUnlinked c.args.field.now c.read_three.new.field (Read3 c.args.id) answer)
    (λ answer told. read_obeyed_three c.args.field.now c.select_three.new.field c.args.id c.in-Place.place c.requires.idle c.requires.stored s c.read_three.new.field c.read_three.result answer told
    (c.read_three.ensures.tells (read_fed c.read_three.result answer told) s.device (stands_three c.args.field.now c.select_three.new.field c.args.id c.in-Place.place c.requires.idle c.requires.stored
    s)))
    c.told_three.ensures.ok

pub returns-in-Place-clause-cut : goal.returns-in-Place-clause-cut
returns-in-Place-clause-cut c =
    let S : Selection → Type 0 = λ s. SeeksTo c.args.id s (moment c.args.field.now) (moment c.select_three.new.field) in
    let s : SeeksAt c.args.id c.in-Place.place (moment c.args.field.now) (moment c.select_three.new.field) = subst S c.in-Place.is c.in_ok-place.ensures.ok in
    on_err_by c.told_three.result (c.read_three.result ≡ Err fault.Memory) (CutOffUnlinked c.args.field.now c.read_three.new.field (Read3 c.args.id))
    (λ starved. read_cut_three c.args.field.now c.select_three.new.field c.args.id c.in-Place.place c.requires.idle c.requires.stored s c.read_three.new.field
    (c.read_three.ensures.cut starved s.device (stands_three c.args.field.now c.select_three.new.field c.args.id c.in-Place.place c.requires.idle c.requires.stored s))) c.told_three.ensures.starved

pub missed-requires : goal.missed-requires
missed-requires c =
    let S : Selection → Type 0 = λ s. SeeksTo c.args.id s (moment c.args.field.now) (moment c.select_three.new.field) in
    let s : Seeks c.args.id (Err c.in-Missed.fault) (moment c.args.field.now) (moment c.select_three.new.field) = subst S c.in-Missed.is c.in_ok-place.ensures.ok in
    may_seek c.args.id (moment c.args.field.now) (moment c.select_three.new.field) c.in-Missed.fault s

pub returns-in-Missed-clause-ok : goal.returns-in-Missed-clause-ok
returns-in-Missed-clause-ok c =
    let S : Selection → Type 0 = λ s. SeeksTo c.args.id s (moment c.args.field.now) (moment c.select_three.new.field) in
    let s : Seeks c.args.id (Err c.in-Missed.fault) (moment c.args.field.now) (moment c.select_three.new.field) = subst S c.in-Missed.is c.in_ok-place.ensures.ok in
    if_ok c.missed.result (λ answer. poll_answer c.in-Missed.fault ≡ Some answer)
    (λ answer. ObeyedUnlinked c.args.field.now c.select_three.new.field (Read3 c.args.id) answer)
    (λ answer is. missed_read_three c.args.field.now c.select_three.new.field c.args.id c.in-Missed.fault answer c.requires.idle c.requires.stored s is) c.missed.ensures

pub returns-in-Missed-clause-cut : goal.returns-in-Missed-clause-cut
returns-in-Missed-clause-cut c =
    let S : Selection → Type 0 = λ s. SeeksTo c.args.id s (moment c.args.field.now) (moment c.select_three.new.field) in
    let s : Seeks c.args.id (Err c.in-Missed.fault) (moment c.args.field.now) (moment c.select_three.new.field) = subst S c.in-Missed.is c.in_ok-place.ensures.ok in
    on_err c.missed.result (seeking_cut_read c.args.field.now c.select_three.new.field c.args.id c.requires.idle c.requires.stored
    (sought_part c.args.id (moment c.args.field.now) (moment c.select_three.new.field) c.in-Missed.fault s))

pub returns-in_err-place-clause-cut : goal.returns-in_err-place-clause-cut
returns-in_err-place-clause-cut c =
    on_err c.from_residual.result (seeking_cut_read c.args.field.now c.select_three.new.field c.args.id c.requires.idle c.requires.stored c.in_err-place.ensures.cut)
