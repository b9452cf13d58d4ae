use Rattle.std.proofs.Common.{◌≡◌, ℕ, List, true, false, Some, sym, ◌∙◌, ap, subst}
use Rattle.std.specs.Prelude.{Err}
use Rattle.air_core.specs.Turn.{moment}
use Rattle.bench_script.specs.declared.command.Command.TheVariants.{Write}
use Rattle.bench_script.specs.Messages.{message_of}
use Rattle.bench_devices.specs.declared.polling.Selection.{Selection}
use Rattle.bench_devices.specs.Phases.{Selects, SelectsAt, SelectsTo, WritesAt, CutAtWrite}
use Rattle.bench_world.specs.Answering.{poll_answer, written_by}
use Rattle.bench_script.specs.declared.message.Msg.{Msg}
use Rattle.bench_world.specs.Obeying.{ObeyedUnlinked, CutOffUnlinked}
use Rattle.bench_devices.specs.Device.{may_be_read}
use Rattle.tag_writer.specs.declared.fault.WriteFault.TheVariants as writing
use Rattle.bench_world.proofs.devices.SelectedPlace.{looked_at}
use Rattle.bench_world.proofs.tags.WriteLegality.{peer_write, write_obeyed, missed_write, write_cut, selection_cut_write}
use Rattle.bench_world.proofs.tags.WriteTelling.{may_write, write_fed}
use Rattle.bench_world.proofs.tags.Legality.{missed_part}
use Rattle.bench_world.proofs.lines.Outcomes.{if_ok, on_err, on_err_by}
use Rattle.bench_world.proofs.asking.select_and_write.Goals as goal

pub write-requires : goal.write-requires
write-requires c =
    let S : Selection → Type 0 = λ s. SelectsTo c.args.id.now s (moment c.args.field.now) (moment c.select.new.field) in
    let s : SelectsAt c.args.id.now c.in-Place.place (moment c.args.field.now) (moment c.select.new.field) = subst S c.in-Place.is c.in_ok-place.ensures.ok in
    let found = looked_at c.select.new.field c.in-Place.place s.device s.stands c.listeners.result.now c.index-listeners-place.result c.listeners.ensures c.index-listeners-place.is in
    let tag : may_be_read s.device ≡ true = sym (ap may_be_read found) ∙ sym c.may_be_read.ensures ∙ c.if-may_be_read.true in
    (s.device, s.stands, tag)

pub written-requires : goal.written-requires
written-requires c =
    let S : Selection → Type 0 = λ s. SelectsTo c.args.id.now s (moment c.args.field.now) (moment c.select.new.field) in
    let s : SelectsAt c.args.id.now c.in-Place.place (moment c.args.field.now) (moment c.select.new.field) = subst S c.in-Place.is c.in_ok-place.ensures.ok in
    may_write (moment c.select.new.field) (moment c.write.new.field) s.device c.args.bytes.now c.write.result (λ fed. c.write.ensures.tells fed s.device s.stands)

pub returns-in-Place-clause-ok : goal.returns-in-Place-clause-ok
returns-in-Place-clause-ok c =
    let S : Selection → Type 0 = λ s. SelectsTo c.args.id.now s (moment c.args.field.now) (moment c.select.new.field) in
    let s : SelectsAt c.args.id.now c.in-Place.place (moment c.args.field.now) (moment c.select.new.field) = subst S c.in-Place.is c.in_ok-place.ensures.ok in
    let W : List ℕ → Type 0 = λ bytes. WritesAt (moment c.select.new.field) (moment c.write.new.field) c.in-Place.place bytes c.write.result in
    let found = looked_at c.select.new.field c.in-Place.place s.device s.stands c.listeners.result.now c.index-listeners-place.result c.listeners.ensures c.index-listeners-place.is in
    let tag : may_be_read s.device ≡ true = sym (ap may_be_read found) ∙ sym c.may_be_read.ensures ∙ c.if-may_be_read.true in
    if_ok c.written.result (λ answer. written_by c.write.result ≡ Some answer)
    (λ answer. (m : Msg) → message_of m ≡ c.args.bytes.now → ObeyedUnlinked c.args.field.now c.write.new.field (Write c.args.id.now m) answer)
    (λ answer told m is.
    let tells : W (message_of m) = subst W (sym is) c.write.ensures.tells in
    write_obeyed c.args.field.now c.select.new.field c.args.id.now m c.in-Place.place c.requires s c.write.new.field c.write.result answer told tag
    (tells (write_fed c.write.result answer told) s.device s.stands)) c.written.ensures.ok

pub returns-in-Place-clause-cut : goal.returns-in-Place-clause-cut
returns-in-Place-clause-cut c =
    let S : Selection → Type 0 = λ s. SelectsTo c.args.id.now s (moment c.args.field.now) (moment c.select.new.field) in
    let s : SelectsAt c.args.id.now c.in-Place.place (moment c.args.field.now) (moment c.select.new.field) = subst S c.in-Place.is c.in_ok-place.ensures.ok in
    let C : List ℕ → Type 0 = λ bytes. CutAtWrite (moment c.select.new.field) (moment c.write.new.field) c.in-Place.place bytes c.write.result in
    let found = looked_at c.select.new.field c.in-Place.place s.device s.stands c.listeners.result.now c.index-listeners-place.result c.listeners.ensures c.index-listeners-place.is in
    let tag : may_be_read s.device ≡ true = sym (ap may_be_read found) ∙ sym c.may_be_read.ensures ∙ c.if-may_be_read.true in
    on_err_by c.written.result (c.write.result ≡ Err writing.Memory) ((m : Msg) → message_of m ≡ c.args.bytes.now → CutOffUnlinked c.args.field.now c.write.new.field (Write c.args.id.now m))
    (λ starved m is.
    let cut : C (message_of m) = subst C (sym is) c.write.ensures.cut in
    write_cut c.args.field.now c.select.new.field c.args.id.now m c.in-Place.place c.requires s c.write.new.field tag (cut starved s.device s.stands)) c.written.ensures.starved

pub returns-in-Missed-clause-ok : goal.returns-in-Missed-clause-ok
returns-in-Missed-clause-ok c =
    let S : Selection → Type 0 = λ s. SelectsTo c.args.id.now s (moment c.args.field.now) (moment c.select.new.field) in
    let s : Selects c.args.id.now (Err c.in-Missed.fault) (moment c.args.field.now) (moment c.select.new.field) = subst S c.in-Missed.is c.in_ok-place.ensures.ok in
    if_ok c.missed.result (λ answer. poll_answer c.in-Missed.fault ≡ Some answer)
    (λ answer. (m : Msg) → message_of m ≡ c.args.bytes.now → ObeyedUnlinked c.args.field.now c.select.new.field (Write c.args.id.now m) answer)
    (λ answer told m is. missed_write c.args.field.now c.select.new.field c.args.id.now m c.in-Missed.fault answer c.requires s told) c.missed.ensures

pub returns-in-Missed-clause-cut : goal.returns-in-Missed-clause-cut
returns-in-Missed-clause-cut c =
    let S : Selection → Type 0 = λ s. SelectsTo c.args.id.now s (moment c.args.field.now) (moment c.select.new.field) in
    let s : Selects c.args.id.now (Err c.in-Missed.fault) (moment c.args.field.now) (moment c.select.new.field) = subst S c.in-Missed.is c.in_ok-place.ensures.ok in
    let cut : (m : Msg) → message_of m ≡ c.args.bytes.now → CutOffUnlinked c.args.field.now c.select.new.field (Write c.args.id.now m) =
    λ m is. selection_cut_write c.args.field.now c.select.new.field c.args.id.now m c.requires (missed_part (moment c.args.field.now) (moment c.select.new.field) c.args.id.now c.in-Missed.fault s) in
    on_err c.missed.result cut

pub returns-in_err-place-clause-cut : goal.returns-in_err-place-clause-cut
returns-in_err-place-clause-cut c =
    let cut : (m : Msg) → message_of m ≡ c.args.bytes.now → CutOffUnlinked c.args.field.now c.select.new.field (Write c.args.id.now m) =
    λ m is. selection_cut_write c.args.field.now c.select.new.field c.args.id.now m c.requires c.in_err-place.ensures.cut in
    on_err c.from_residual.result cut

pub returns-in-Place-2-clause-ok : goal.returns-in-Place-2-clause-ok
returns-in-Place-2-clause-ok c = λ m is.
    let S : Selection → Type 0 = λ s. SelectsTo c.args.id.now s (moment c.args.field.now) (moment c.select.new.field) in
    let s : SelectsAt c.args.id.now c.in-Place.place (moment c.args.field.now) (moment c.select.new.field) = subst S c.in-Place.is c.in_ok-place.ensures.ok in
    let found = looked_at c.select.new.field c.in-Place.place s.device s.stands c.listeners.result.now c.index-listeners-place.result c.listeners.ensures c.index-listeners-place.is in
    let other : may_be_read s.device ≡ false = sym (ap may_be_read found) ∙ sym c.may_be_read.ensures ∙ c.if-may_be_read.false in
    peer_write c.args.field.now c.select.new.field c.args.id.now m c.in-Place.place c.requires s other
