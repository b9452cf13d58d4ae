use Rattle.std.proofs.Common.{◌≡◌, ℕ, List, Err, Some, sym, subst}
use Rattle.air_core.specs.Turn.{moment}
use Rattle.t3t_access.specs.declared.fault.T3Fault.TheVariants as fault
use Rattle.bench_script.specs.declared.command.Command.TheVariants.{Write3}
use Rattle.bench_script.specs.declared.message.Msg.{Msg}
use Rattle.bench_script.specs.Messages.{message_of}
use Rattle.bench_devices.specs.declared.polling.Selection.{Selection}
use Rattle.bench_devices.specs.Sensing.{Seeks, SeeksAt, SeeksTo}
use Rattle.bench_devices.specs.Threes.{CutThreeWriteAt, WritesThreeAt}
use Rattle.bench_world.specs.Answering.{poll_answer}
use Rattle.bench_world.specs.Obeying.{CutOffUnlinked, ObeyedUnlinked}
use Rattle.bench_world.specs.Threes.{written_three}
use Rattle.bench_world.proofs.lines.Outcomes.{if_ok, on_err, on_err_by}
use Rattle.bench_world.proofs.tags.ThreeLegality.{may_seek, missed_write_three, seeking_cut_write, sought_part, stands_three, write_cut_three, write_obeyed_three}
use Rattle.bench_world.proofs.tags.ThreeTelling.{may_write, write_fed}
use Rattle.bench_world.proofs.threes.select_and_write.Goals as goal

pub write_three-requires : goal.write_three-requires
write_three-requires c =
    let S : Selection → Type 0 = λ s. SeeksTo c.args.id s (moment c.args.field.now) (moment c.select_three.new.field) in
    let s : SeeksAt c.args.id c.in-Place.place (moment c.args.field.now) (moment c.select_three.new.field) = subst S c.in-Place.is c.in_ok-place.ensures.ok in
    (s.device, s.stands, s.three)

pub written_three-requires : goal.written_three-requires
written_three-requires c =
    let S : Selection → Type 0 = λ s. SeeksTo c.args.id s (moment c.args.field.now) (moment c.select_three.new.field) in
    let s : SeeksAt c.args.id c.in-Place.place (moment c.args.field.now) (moment c.select_three.new.field) = subst S c.in-Place.is c.in_ok-place.ensures.ok in
    may_write c.args.id (moment c.select_three.new.field) (moment c.write_three.new.field) s.device c.args.bytes.now c.write_three.result
    (λ fed. c.write_three.ensures.tells fed s.device (stands_three c.args.field.now c.select_three.new.field c.args.id c.in-Place.place c.requires.idle c.requires.stored s))

pub returns-in-Place-clause-ok : goal.returns-in-Place-clause-ok
returns-in-Place-clause-ok c =
    let S : Selection → Type 0 = λ s. SeeksTo c.args.id s (moment c.args.field.now) (moment c.select_three.new.field) in
    let s : SeeksAt c.args.id c.in-Place.place (moment c.args.field.now) (moment c.select_three.new.field) = subst S c.in-Place.is c.in_ok-place.ensures.ok in
    let W : List ℕ → Type 0 = λ bytes. WritesThreeAt c.args.id (moment c.select_three.new.field) (moment c.write_three.new.field) c.in-Place.place bytes c.write_three.result in
    if_ok c.written_three.result (λ answer. written_three c.write_three.result ≡ Some answer)
    (λ answer. (m : Msg) → message_of m ≡ c.args.bytes.now → ObeyedUnlinked c.args.field.now c.write_three.new.field (Write3 c.args.id m) answer)
    (λ answer told m is.
    let tells : W (message_of m) = subst W (sym is) c.write_three.ensures.tells in
    write_obeyed_three c.args.field.now c.select_three.new.field c.args.id c.in-Place.place c.requires.idle c.requires.stored s c.write_three.new.field m c.write_three.result answer told
    (tells (write_fed c.write_three.result answer told) s.device (stands_three c.args.field.now c.select_three.new.field c.args.id c.in-Place.place c.requires.idle c.requires.stored s)))
    c.written_three.ensures.ok

pub returns-in-Place-clause-cut : goal.returns-in-Place-clause-cut
returns-in-Place-clause-cut c =
    let S : Selection → Type 0 = λ s. SeeksTo c.args.id s (moment c.args.field.now) (moment c.select_three.new.field) in
    let s : SeeksAt c.args.id c.in-Place.place (moment c.args.field.now) (moment c.select_three.new.field) = subst S c.in-Place.is c.in_ok-place.ensures.ok in
    let C : List ℕ → Type 0 = λ bytes. CutThreeWriteAt c.args.id (moment c.select_three.new.field) (moment c.write_three.new.field) c.in-Place.place bytes c.write_three.result in
    on_err_by c.written_three.result (c.write_three.result ≡ Err fault.Memory) ((m : Msg) → message_of m ≡ c.args.bytes.now
    → CutOffUnlinked c.args.field.now c.write_three.new.field (Write3 c.args.id m))
    (λ starved m is.
    let cut : C (message_of m) = subst C (sym is) c.write_three.ensures.cut in
    write_cut_three c.args.field.now c.select_three.new.field c.args.id c.in-Place.place c.requires.idle c.requires.stored s c.write_three.new.field m
    (cut starved s.device (stands_three c.args.field.now c.select_three.new.field c.args.id c.in-Place.place c.requires.idle c.requires.stored s))) c.written_three.ensures.starved

pub missed-requires : goal.missed-requires
missed-requires c =
    let S : Selection → Type 0 = λ s. SeeksTo c.args.id s (moment c.args.field.now) (moment c.select_three.new.field) in
    let s : Seeks c.args.id (Err c.in-Missed.fault) (moment c.args.field.now) (moment c.select_three.new.field) = subst S c.in-Missed.is c.in_ok-place.ensures.ok in
    may_seek c.args.id (moment c.args.field.now) (moment c.select_three.new.field) c.in-Missed.fault s

pub returns-in-Missed-clause-ok : goal.returns-in-Missed-clause-ok
returns-in-Missed-clause-ok c =
    let S : Selection → Type 0 = λ s. SeeksTo c.args.id s (moment c.args.field.now) (moment c.select_three.new.field) in
    let s : Seeks c.args.id (Err c.in-Missed.fault) (moment c.args.field.now) (moment c.select_three.new.field) = subst S c.in-Missed.is c.in_ok-place.ensures.ok in
    if_ok c.missed.result (λ answer. poll_answer c.in-Missed.fault ≡ Some answer)
    (λ answer. (m : Msg) → message_of m ≡ c.args.bytes.now → ObeyedUnlinked c.args.field.now c.select_three.new.field (Write3 c.args.id m) answer)
    (λ answer told m is. missed_write_three c.args.field.now c.select_three.new.field c.args.id m c.in-Missed.fault answer c.requires.idle c.requires.stored s told) c.missed.ensures

pub returns-in-Missed-clause-cut : goal.returns-in-Missed-clause-cut
returns-in-Missed-clause-cut c =
    let S : Selection → Type 0 = λ s. SeeksTo c.args.id s (moment c.args.field.now) (moment c.select_three.new.field) in
    let s : Seeks c.args.id (Err c.in-Missed.fault) (moment c.args.field.now) (moment c.select_three.new.field) = subst S c.in-Missed.is c.in_ok-place.ensures.ok in
    let cut : (m : Msg) → message_of m ≡ c.args.bytes.now → CutOffUnlinked c.args.field.now c.select_three.new.field (Write3 c.args.id m) =
    λ m is. seeking_cut_write c.args.field.now c.select_three.new.field c.args.id m c.requires.idle c.requires.stored
    (sought_part c.args.id (moment c.args.field.now) (moment c.select_three.new.field) c.in-Missed.fault s) in
    on_err c.missed.result cut

pub returns-in_err-place-clause-cut : goal.returns-in_err-place-clause-cut
returns-in_err-place-clause-cut c =
    let cut : (m : Msg) → message_of m ≡ c.args.bytes.now → CutOffUnlinked c.args.field.now c.select_three.new.field (Write3 c.args.id m) =
    λ m is. seeking_cut_write c.args.field.now c.select_three.new.field c.args.id m c.requires.idle c.requires.stored c.in_err-place.ensures.cut in
    on_err c.from_residual.result cut
