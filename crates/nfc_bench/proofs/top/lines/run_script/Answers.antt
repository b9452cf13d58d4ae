use Rattle.std.proofs.Common.{◌≡◌, ◌<◌, ◌≤◌, ◌+◌, ℕ, List, length, Option, true, Ok, Err, refl, ◌∙◌, ap, subst, arith}
use Rattle.nfc_io.specs.Counts.{HasRisen}
use Rattle.nfc_io.specs.Reading.{Lined, new_lined, Advances, Looks}
use Rattle.nfc_io.specs.declared.line_reader.LineStop.{LineStop}
use Rattle.nfc_io.specs.declared.line_reader.LineStop.TheVariants.{ReadFault, TooLong}
use Rattle.nfc_bench.specs.Stops.{LineDone, LineStops}
use Rattle.nfc_bench.proofs.ScriptText.{stops_at_once}
use Rattle.nfc_bench.proofs.Progress.{GaveNext, progress_start, progress_more, gave_next, in_time, line_sound, line_runs}
use Rattle.nfc_bench.proofs.Endings.{lost_at_once, unread_next, refused_by_size, line_stops}
use Rattle.nfc_bench.proofs.Reading.{beyond_length, beyond_number, looks_in_time}
use Rattle.bench_script.specs.Limits.{most_lines}
use Rattle.nfc_bench.proofs.top.lines.run_script.Goals as goal

-- there is room for one line more
room : (done : List (List ℕ)) (n : ℕ) → n ≤ most_lines → n ≡ 1 + length done → length done < most_lines
room done n few number = omega (arith, few, number)

pub returns-in_default-clause-err : goal.returns-in_default-clause-err
returns-in_default-clause-err g c =
    lost_at_once c.args.quiet (g.S.Source.left c.args.source.now) (g.K.Sink.taken c.args.sink.now) c.args.bench.now c.requires

pub returns-in_default-clause-stop : goal.returns-in_default-clause-stop
returns-in_default-clause-stop g c = stops_at_once (g.S.Source.left c.args.source.now)

pub lines-init : goal.lines-init
lines-init g c =
    let new : c.in-Ok.reader ≡ new_lined = c.in-Ok.ensures in
    record {
      progress = progress_start c.args.quiet (g.S.Source.left c.args.source.now) (g.K.Sink.taken c.args.sink.now) c.in-Ok.reader c.args.bench.now new c.requires;
      going = ap (λ (r : Lined). r.stop) new;
      runs = refl;
      few = omega arith;
      reads = refl;
      writes = refl;
    }

pub returns-in-Err-ReadFault-clause-err : goal.returns-in-Err-ReadFault-clause-err
returns-in-Err-ReadFault-clause-err g c =
    let left : Option (List ℕ) = g.S.Source.left c.args.source.now in
    let mid : Option (List ℕ) = g.S.Source.left c.lines.source in
    let left' : Option (List ℕ) = g.S.Source.left c.advance.new.source in
    let r' : ℕ = g.S.Source.faults c.advance.new.source in
    let P : LineStop → Type 0 = λ s. Advances c.lines.reader c.advance.new.self mid left' (Err s) in
    let adv : P ReadFault = subst P c.in-Err-ReadFault.field-0-is (c.in-Err-ReadFault.ensures.next c.lines.invariant.going) in
    let risen : HasRisen (g.S.Source.faults c.lines.source) r' = c.in-Err-ReadFault.ensures.cause c.lines.invariant.going (ap Err c.in-Err-ReadFault.field-0-is) in
    unread_next c.args.quiet left mid left' c.lines.reader c.advance.new.self c.lines.bench c.lines.line (g.K.Sink.taken c.args.sink.now) (g.K.Sink.taken c.lines.sink)
    (g.S.Source.faults c.args.source.now) r' c.lines.invariant.progress adv (subst (λ n. HasRisen n r') c.lines.invariant.reads risen)

pub returns-in-Err-ReadFault-clause-stop : goal.returns-in-Err-ReadFault-clause-stop
returns-in-Err-ReadFault-clause-stop g c =
    let adv = c.in-Err-ReadFault.ensures.next c.lines.invariant.going in
    in_time (g.S.Source.left c.args.source.now) (g.S.Source.left c.lines.source) (g.S.Source.left c.advance.new.source) c.lines.reader c.lines.invariant.progress.done adv.text
    c.lines.invariant.progress.reads (room c.lines.invariant.progress.done c.lines.line (omega (arith, c.lines-test.true)) c.lines.invariant.progress.number) adv.fetched

pub returns-in-Err-TooLong-clause-err : goal.returns-in-Err-TooLong-clause-err
returns-in-Err-TooLong-clause-err g c =
    let left : Option (List ℕ) = g.S.Source.left c.args.source.now in
    let mid : Option (List ℕ) = g.S.Source.left c.lines.source in
    let left' : Option (List ℕ) = g.S.Source.left c.advance.new.source in
    let P : LineStop → Type 0 = λ s. Advances c.lines.reader c.advance.new.self mid left' (Err s) in
    let adv : P TooLong = subst P c.in-Err-TooLong.field-0-is (c.in-Err-TooLong.ensures.next c.lines.invariant.going) in
    let p = c.lines.invariant.progress in
    refused_by_size c.args.quiet left mid c.lines.reader c.lines.bench c.lines.line (g.K.Sink.taken c.args.sink.now) (g.K.Sink.taken c.lines.sink) p
    (beyond_length left mid left' c.lines.reader c.advance.new.self p.done p.reads adv)

pub returns-in-Err-TooLong-clause-stop : goal.returns-in-Err-TooLong-clause-stop
returns-in-Err-TooLong-clause-stop g c =
    let adv = c.in-Err-TooLong.ensures.next c.lines.invariant.going in
    in_time (g.S.Source.left c.args.source.now) (g.S.Source.left c.lines.source) (g.S.Source.left c.advance.new.source) c.lines.reader c.lines.invariant.progress.done adv.text
    c.lines.invariant.progress.reads (room c.lines.invariant.progress.done c.lines.line (omega (arith, c.lines-test.true)) c.lines.invariant.progress.number) adv.fetched

pub returns-in-Err-clause-err : goal.returns-in-Err-clause-err
returns-in-Err-clause-err g c =
    let left : Option (List ℕ) = g.S.Source.left c.args.source.now in
    let mid : Option (List ℕ) = g.S.Source.left c.lines.source in
    let left' : Option (List ℕ) = g.S.Source.left c.advance.new.source in
    let t : Option (List ℕ) = g.K.Sink.taken c.args.sink.now in
    let t1 : Option (List ℕ) = g.K.Sink.taken c.lines.sink in
    let t2 : Option (List ℕ) = g.K.Sink.taken c.obey_line.new.sink in
    let w : ℕ = g.K.Sink.faults c.args.sink.now in
    let w1 : ℕ = g.K.Sink.faults c.lines.sink in
    let w2 : ℕ = g.K.Sink.faults c.obey_line.new.sink in
    let m : Lined = c.advance.new.self in
    let few : c.lines.line ≤ 1000 = omega (arith, c.lines-test.true) in
    let p = c.lines.invariant.progress in
    let is : c.in-Ok-true.field-0 ≡ true = cc in
    let adv : Advances c.lines.reader m mid left' (Ok true) = subst (λ b. Advances c.lines.reader m mid left' (Ok b)) is (c.in-Ok-true.ensures.next c.lines.invariant.going) in
    let next : GaveNext left left' p.done m = gave_next left mid left' c.lines.reader m p.done p.reads (room p.done c.lines.line few p.number) adv in
    let L : List ℕ → Type 0 = λ l. LineStops c.args.quiet c.lines.bench c.obey_line.new.bench c.lines.line l t1 t2 w1 w2 c.in-Err.stop in
    let stops : L m.line = subst L c.line.ensures c.in-Err.ensures.err in
    line_stops c.args.quiet left left' p.done m c.lines.bench c.obey_line.new.bench c.lines.line t t1 t2 (g.S.Source.faults c.args.source.now) (g.S.Source.faults c.advance.new.source) w w1 w2
    c.in-Err.stop
    p.obeyed p.reads.limits p.number p.written next few (omega (arith, c.lines.invariant.writes)) stops

pub returns-in-Err-clause-sound : goal.returns-in-Err-clause-sound
returns-in-Err-clause-sound g c =
    line_sound c.args.quiet c.lines.bench c.obey_line.new.bench c.lines.line c.line.result.now (g.K.Sink.taken c.lines.sink) (g.K.Sink.taken c.obey_line.new.sink)
    (g.K.Sink.faults c.lines.sink) (g.K.Sink.faults c.obey_line.new.sink) c.in-Err.stop c.lines.invariant.progress.obeyed.sound c.in-Err.ensures.err

pub returns-in-Err-clause-runs : goal.returns-in-Err-clause-runs
returns-in-Err-clause-runs g c =
    line_runs c.args.quiet c.lines.bench c.obey_line.new.bench c.lines.line c.line.result.now (g.K.Sink.taken c.lines.sink) (g.K.Sink.taken c.obey_line.new.sink)
    (g.K.Sink.faults c.lines.sink) (g.K.Sink.faults c.obey_line.new.sink) c.in-Err.stop c.in-Err.ensures.err ∙ c.lines.invariant.runs

pub returns-in-Err-clause-stop : goal.returns-in-Err-clause-stop
returns-in-Err-clause-stop g c =
    let adv = c.in-Ok-true.ensures.next c.lines.invariant.going in
    in_time (g.S.Source.left c.args.source.now) (g.S.Source.left c.lines.source) (g.S.Source.left c.advance.new.source) c.lines.reader c.lines.invariant.progress.done adv.text
    c.lines.invariant.progress.reads (room c.lines.invariant.progress.done c.lines.line (omega (arith, c.lines-test.true)) c.lines.invariant.progress.number) adv.fetched

pub lines-preserved : goal.lines-preserved
lines-preserved g c =
    let left : Option (List ℕ) = g.S.Source.left c.args.source.now in
    let mid : Option (List ℕ) = g.S.Source.left c.lines.source in
    let left' : Option (List ℕ) = g.S.Source.left c.advance.new.source in
    let t : Option (List ℕ) = g.K.Sink.taken c.args.sink.now in
    let t1 : Option (List ℕ) = g.K.Sink.taken c.lines.sink in
    let t2 : Option (List ℕ) = g.K.Sink.taken c.obey_line.new.sink in
    let m : Lined = c.advance.new.self in
    let few : c.lines.line ≤ 1000 = omega (arith, c.lines-test.true) in
    let p = c.lines.invariant.progress in
    let is : c.in-Ok-true.field-0 ≡ true = cc in
    let adv : Advances c.lines.reader m mid left' (Ok true) = subst (λ b. Advances c.lines.reader m mid left' (Ok b)) is (c.in-Ok-true.ensures.next c.lines.invariant.going) in
    let next : GaveNext left left' p.done m = gave_next left mid left' c.lines.reader m p.done p.reads (room p.done c.lines.line few p.number) adv in
    let L : List ℕ → Type 0 = λ l. LineDone c.args.quiet c.lines.bench c.obey_line.new.bench c.lines.line l t1 t2 in
    let line : L m.line = subst L c.line.ensures c.in-Ok-obey_line.ensures.ok in
    let still : g.S.Source.faults c.advance.new.source ≡ g.S.Source.faults c.lines.source = c.in-Ok-true.ensures.still (λ e. absurd cc) in
    record {
      progress = progress_more c.args.quiet left left' m p.done c.lines.bench c.obey_line.new.bench c.lines.line t t1 t2 p.obeyed p.reads.limits p.number p.written next few line;
      going = adv.came.going;
      runs = line.follows.runs ∙ c.lines.invariant.runs;
      few = omega (arith, few);
      reads = still ∙ c.lines.invariant.reads;
      writes = c.in-Ok-obey_line.ensures.still ∙ c.lines.invariant.writes;
    }

pub returns-in-Ok-true-follows-clause-err : goal.returns-in-Ok-true-follows-clause-err
returns-in-Ok-true-follows-clause-err g c =
    let left : Option (List ℕ) = g.S.Source.left c.args.source.now in
    let mid : Option (List ℕ) = g.S.Source.left c.lines.source in
    let left' : Option (List ℕ) = g.S.Source.left c.follows.new.source in
    let is : c.in-Ok-true-follows.field-0 ≡ true = cc in
    let look : Looks c.lines.reader c.follows.new.self mid left' (Ok true) = subst (λ b. Looks c.lines.reader c.follows.new.self mid left' (Ok b)) is
    (c.in-Ok-true-follows.ensures.look c.lines.invariant.going) in
    let p = c.lines.invariant.progress in
    let number : c.lines.line ≡ 1 + length p.done = p.number in
    refused_by_size c.args.quiet left mid c.lines.reader c.lines.bench c.lines.line (g.K.Sink.taken c.args.sink.now) (g.K.Sink.taken c.lines.sink) p
    (beyond_number left mid left' c.lines.reader c.follows.new.self p.done p.reads (omega (arith, c.lines-test.false, number)) look)

pub returns-in-Ok-true-follows-clause-stop : goal.returns-in-Ok-true-follows-clause-stop
returns-in-Ok-true-follows-clause-stop g c =
    looks_in_time (g.S.Source.left c.args.source.now) (g.S.Source.left c.lines.source) (g.S.Source.left c.follows.new.source) c.lines.reader c.follows.new.self c.lines.invariant.progress.done
    (Ok c.in-Ok-true-follows.field-0) c.lines.invariant.progress.reads (c.in-Ok-true-follows.ensures.look c.lines.invariant.going)
