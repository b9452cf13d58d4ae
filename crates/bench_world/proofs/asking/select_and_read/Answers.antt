use Rattle.std.proofs.Common.{◌≡◌, true, false, Some, sym, ◌∙◌, ap, subst, inl}
use Rattle.std.specs.Prelude.{Err}
use Rattle.air_core.specs.Turn.{moment}
use Rattle.bench_script.specs.declared.command.Command.TheVariants.{Read}
use Rattle.bench_devices.specs.declared.polling.Selection.{Selection}
use Rattle.bench_devices.specs.Phases.{Selects, SelectsAt, SelectsTo}
use Rattle.bench_world.specs.Answering.{poll_answer, read_answer}
use Rattle.bench_world.specs.Obeying.{ObeyedUnlinked, CutOffUnlinked}
use Rattle.bench_devices.specs.Device.{may_be_read}
use Rattle.tag_reader.specs.declared.fault.ReadFault.TheVariants as reading
use Rattle.bench_world.proofs.devices.SelectedPlace.{looked_at}
use Rattle.bench_world.proofs.tags.Legality.{peer_obeyed, read_obeyed, missed_obeyed, read_cut, selection_cut, missed_part}
use Rattle.bench_world.proofs.tags.Telling.{poll_told, may_end, fed_by}
use Rattle.bench_world.proofs.lines.Outcomes.{if_ok, on_err, on_err_by}
use Rattle.bench_world.proofs.asking.select_and_read.Goals as goal

pub read-requires : goal.read-requires
read-requires c =
    let S : Selection → Type 0 = λ s. SelectsTo c.args.id.now s (moment c.args.field.now) (moment c.select.new.field) in
    let s : SelectsAt c.args.id.now c.in-Place.place (moment c.args.field.now) (moment c.select.new.field) = subst S c.in-Place.is c.in_ok-place.ensures.ok in
    let found = looked_at c.select.new.field c.in-Place.place s.device s.stands c.listeners.result.now c.index-listeners-place.result c.listeners.ensures c.index-listeners-place.is in
    let tag : may_be_read s.device ≡ true = sym (ap may_be_read found) ∙ sym c.may_be_read.ensures ∙ c.if-may_be_read.true in
    (s.device, s.stands, tag)

pub told-requires : goal.told-requires
told-requires c =
    let S : Selection → Type 0 = λ s. SelectsTo c.args.id.now s (moment c.args.field.now) (moment c.select.new.field) in
    let s : SelectsAt c.args.id.now c.in-Place.place (moment c.args.field.now) (moment c.select.new.field) = subst S c.in-Place.is c.in_ok-place.ensures.ok in
    may_end (moment c.select.new.field) (moment c.read.new.field) s.device c.read.result (λ fed. c.read.ensures.tells fed s.device s.stands)

pub returns-in-Place-clause-ok : goal.returns-in-Place-clause-ok
returns-in-Place-clause-ok c =
    let S : Selection → Type 0 = λ s. SelectsTo c.args.id.now s (moment c.args.field.now) (moment c.select.new.field) in
    let s : SelectsAt c.args.id.now c.in-Place.place (moment c.args.field.now) (moment c.select.new.field) = subst S c.in-Place.is c.in_ok-place.ensures.ok in
    let found = looked_at c.select.new.field c.in-Place.place s.device s.stands c.listeners.result.now c.index-listeners-place.result c.listeners.ensures c.index-listeners-place.is in
    let tag : may_be_read s.device ≡ true = sym (ap may_be_read found) ∙ sym c.may_be_read.ensures ∙ c.if-may_be_read.true in
    if_ok c.told.result (λ answer. read_answer c.read.result ≡ Some answer)
    (λ answer. ObeyedUnlinked c.args.field.now c.read.new.field (Read c.args.id.now) answer)
    (λ answer told. read_obeyed c.args.field.now c.select.new.field c.read.new.field c.args.id.now c.in-Place.place c.read.result answer told c.requires s tag
    (c.read.ensures.tells (fed_by c.read.result answer told) s.device s.stands)) c.told.ensures.ok

pub missed-requires : goal.missed-requires
missed-requires c =
    let S : Selection → Type 0 = λ s. SelectsTo c.args.id.now s (moment c.args.field.now) (moment c.select.new.field) in
    let s : Selects c.args.id.now (Err c.in-Missed.fault) (moment c.args.field.now) (moment c.select.new.field) = subst S c.in-Missed.is c.in_ok-place.ensures.ok in
    inl (poll_told c.args.id.now c.args.field.now.listeners c.in-Missed.fault s.asked.going.events s.cause)

pub returns-in-Missed-clause-ok : goal.returns-in-Missed-clause-ok
returns-in-Missed-clause-ok c =
    let S : Selection → Type 0 = λ s. SelectsTo c.args.id.now s (moment c.args.field.now) (moment c.select.new.field) in
    let s : Selects c.args.id.now (Err c.in-Missed.fault) (moment c.args.field.now) (moment c.select.new.field) = subst S c.in-Missed.is c.in_ok-place.ensures.ok in
    if_ok c.missed.result (λ answer. poll_answer c.in-Missed.fault ≡ Some answer)
    (λ answer. ObeyedUnlinked c.args.field.now c.select.new.field (Read c.args.id.now) answer)
    (λ answer is. missed_obeyed c.args.field.now c.select.new.field c.args.id.now c.in-Missed.fault answer c.requires s is) c.missed.ensures

pub returns-in-Place-clause-cut : goal.returns-in-Place-clause-cut
returns-in-Place-clause-cut c =
    let S : Selection → Type 0 = λ s. SelectsTo c.args.id.now s (moment c.args.field.now) (moment c.select.new.field) in
    let s : SelectsAt c.args.id.now c.in-Place.place (moment c.args.field.now) (moment c.select.new.field) = subst S c.in-Place.is c.in_ok-place.ensures.ok in
    let found = looked_at c.select.new.field c.in-Place.place s.device s.stands c.listeners.result.now c.index-listeners-place.result c.listeners.ensures c.index-listeners-place.is in
    let tag : may_be_read s.device ≡ true = sym (ap may_be_read found) ∙ sym c.may_be_read.ensures ∙ c.if-may_be_read.true in
    on_err_by c.told.result (c.read.result ≡ Err reading.Memory) (CutOffUnlinked c.args.field.now c.read.new.field (Read c.args.id.now))
    (λ starved. read_cut c.args.field.now c.select.new.field c.args.id.now c.in-Place.place c.requires s c.read.new.field tag (c.read.ensures.cut starved s.device s.stands)) c.told.ensures.starved

pub returns-in-Missed-clause-cut : goal.returns-in-Missed-clause-cut
returns-in-Missed-clause-cut c =
    let S : Selection → Type 0 = λ s. SelectsTo c.args.id.now s (moment c.args.field.now) (moment c.select.new.field) in
    let s : Selects c.args.id.now (Err c.in-Missed.fault) (moment c.args.field.now) (moment c.select.new.field) = subst S c.in-Missed.is c.in_ok-place.ensures.ok in
    on_err c.missed.result (selection_cut c.args.field.now c.select.new.field c.args.id.now c.requires
    (missed_part (moment c.args.field.now) (moment c.select.new.field) c.args.id.now c.in-Missed.fault s))

pub returns-in_err-place-clause-cut : goal.returns-in_err-place-clause-cut
returns-in_err-place-clause-cut c = on_err c.from_residual.result (selection_cut c.args.field.now c.select.new.field c.args.id.now c.requires c.in_err-place.ensures.cut)

pub returns-in-Place-2-clause-ok : goal.returns-in-Place-2-clause-ok
returns-in-Place-2-clause-ok c =
    let S : Selection → Type 0 = λ s. SelectsTo c.args.id.now s (moment c.args.field.now) (moment c.select.new.field) in
    let s : SelectsAt c.args.id.now c.in-Place.place (moment c.args.field.now) (moment c.select.new.field) = subst S c.in-Place.is c.in_ok-place.ensures.ok in
    let found = looked_at c.select.new.field c.in-Place.place s.device s.stands c.listeners.result.now c.index-listeners-place.result c.listeners.ensures c.index-listeners-place.is in
    let other : may_be_read s.device ≡ false = sym (ap may_be_read found) ∙ sym c.may_be_read.ensures ∙ c.if-may_be_read.false in
    peer_obeyed c.args.field.now c.select.new.field c.args.id.now c.in-Place.place c.requires s other
