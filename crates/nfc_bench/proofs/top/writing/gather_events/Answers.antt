use Rattle.std.proofs.Common.{◌≡◌, ℕ, ◌+◌, List, ◌++◌, get_or, drop, Option, ◌∙◌, ap, subst, arith}
use Rattle.nfc_io.specs.Moves.{GainsFront}
use Rattle.nfc_base.specs.declared.event.Event.{Event}
use Rattle.bench_world.specs.Report.{event_text, events_text, line_text}
use Rattle.nfc_bench.specs.Gathering.{IsWritten}
use Rattle.nfc_bench.proofs.Writing.{event_next, held_cut, line_held, on_err, room_written}
use Rattle.nfc_bench.proofs.top.writing.gather_events.Goals as goal

pub events-preserved : goal.events-preserved
events-preserved g c =
    let t : Option (List ℕ) = g.K.Sink.taken c.args.sink.now in
    let t1 : Option (List ℕ) = g.K.Sink.taken c.events.sink in
    let t2 : Option (List ℕ) = g.K.Sink.taken c.make_room.new.sink in
    let n : ℕ = c.args.line in
    let es : List Event = c.args.events.now in
    let i : ℕ = c.events.event-index in
    let text : Event → List ℕ = λ e. line_text n (event_text e) in
    let held : List ℕ = c.make_room.new.held.items in
    let whole : List ℕ = c.args.held.now.items ++ events_text n es in
    let line : List ℕ = text (get_or es i c.event-item.result) in
    let rest : List ℕ = events_text n (drop (i + 1) es) in
    let is : c.push_event_line.new.text.items ≡ held ++ line = c.push_event_line.ensures ∙ ap (λ e. held ++ text e) c.event-item.is in
    let so : IsWritten whole (held ++ events_text n (drop i es)) t t2 = room_written whole c.events.held.items (events_text n (drop i es)) held t t1 t2 c.events.invariant.written
    c.in_ok-make_room.ensures.ok in
    record {
      written = line_held whole held line rest c.push_event_line.new.text.items t t2 (subst (λ x. IsWritten whole (held ++ x) t t2) (event_next n i es c.event-item.result (omega arith)) so) is;
      still = c.in_ok-make_room.ensures.still ∙ c.events.invariant.still;
    }

pub returns-in_err-make_room-clause-err : goal.returns-in_err-make_room-clause-err
returns-in_err-make_room-clause-err g c =
    let t : Option (List ℕ) = g.K.Sink.taken c.args.sink.now in
    let t1 : Option (List ℕ) = g.K.Sink.taken c.events.sink in
    let t2 : Option (List ℕ) = g.K.Sink.taken c.make_room.new.sink in
    let n : ℕ = c.args.line in
    let es : List Event = c.args.events.now in
    let whole : List ℕ = c.args.held.now.items ++ events_text n es in
    on_err c.from_residual.result (GainsFront t t2 whole)
    (held_cut whole c.events.held.items (events_text n (drop c.events.event-index es)) t t1 t2 c.events.invariant.written c.in_err-make_room.ensures.err)
