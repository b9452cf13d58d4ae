use Rattle.std.proofs.Common.{◌≡◌, ◌⊎◌, List, [], ℕ, Option, length, refl, sym, ◌∙◌, ap, subst, inl, inr}
use Rattle.bench_world.specs.Obeying.{Benched}
use Rattle.nfc_io.specs.Lines.{lines_of}
use Rattle.nfc_bench.specs.Reading.{Scripted, ReadsScript}
use Rattle.nfc_bench.specs.Run.{ObeysFront, IsUnwritten, FirstAreObeyed, HasSweptSome}
use Rattle.nfc_bench.specs.SweepStops.{ObeysSwept, SweepRefused}
use Rattle.nfc_bench.proofs.Sweeping.{first_whole, front_all, script_stops, some_swept, unwritten_stops}
use Rattle.nfc_bench.proofs.Endings.{front_at_once}
use Rattle.nfc_bench.proofs.top.sweeping.sweep.Goals as goal

pub returns-in-Err-Memory-clause-err : goal.returns-in-Err-Memory-clause-err
returns-in-Err-Memory-clause-err g c =
    let left : Option (List ℕ) = g.S.Source.left c.args.source.now in
    inl (ap (λ (b : Benched). b.finished) c.requires, subst (ObeysFront left) (sym c.requires) (front_at_once left []))

pub returns-in-Err-clause-err : goal.returns-in-Err-clause-err
returns-in-Err-clause-err g c =
    let left : Option (List ℕ) = g.S.Source.left c.args.source.now in
    let left' : Option (List ℕ) = g.S.Source.left c.read_script.new.source in
    let rs : ReadsScript left left' c.in-Ok.script = c.in-Ok.ensures.ok in
    script_stops left left' c.in-Ok.script (g.S.Source.faults c.args.source.now) (g.S.Source.faults c.read_script.new.source) c.obey_script.new.bench c.in-Err.cut rs c.obey_script.ensures.runs
    (c.in-Err.ensures.err (lines_of rs.input) rs.lines)

pub returns-in_default-clause-err : goal.returns-in_default-clause-err
returns-in_default-clause-err g c =
    let left : Option (List ℕ) = g.S.Source.left c.args.source.now in
    let left' : Option (List ℕ) = g.S.Source.left c.read_script.new.source in
    let s : Scripted = c.in-Ok.script in
    let b : Benched = c.obey_script.new.bench in
    let same : c.obey_script.new.script ≡ s = c.in-Ok-obey_script.ensures.same in
    let unwritten : IsUnwritten b.journal = subst IsUnwritten c.journal.ensures (c.in_default.ensures.none refl) in
    let count : c.line_count.result ≡ length s.lines = c.line_count.ensures.value ∙ ap (λ (x : Scripted). length x.lines) same in
    subst (SweepRefused left b) (sym count) (unwritten_stops left left' s b c.in-Ok.ensures.ok c.in-Ok-obey_script.ensures.ok c.obey_script.ensures.runs unwritten)

pub returns-then-count-gt-MOST_RUNS-clause-err : goal.returns-then-count-gt-MOST_RUNS-clause-err
returns-then-count-gt-MOST_RUNS-clause-err g c =
    let left : Option (List ℕ) = g.S.Source.left c.args.source.now in
    let left' : Option (List ℕ) = g.S.Source.left c.read_script.new.source in
    let s : Scripted = c.in-Ok.script in
    let b : Benched = c.obey_script.new.bench in
    let o : ObeysSwept s b = c.in-Ok-obey_script.ensures.ok in
    inl (c.obey_script.ensures.runs, first_whole left left' s b c.in-Ok.ensures.ok o.whole (front_all s.lines b o.obeyed))

pub returns-in-Err-break_off-clause-err : goal.returns-in-Err-break_off-clause-err
returns-in-Err-break_off-clause-err g c =
    let left : Option (List ℕ) = g.S.Source.left c.args.source.now in
    let left' : Option (List ℕ) = g.S.Source.left c.read_script.new.source in
    let s : Scripted = c.in-Ok.script in
    let b : Benched = c.break_off.new.bench in
    let rs : ReadsScript left left' s = c.in-Ok.ensures.ok in
    let o : ObeysSwept s c.obey_script.new.bench = c.in-Ok-obey_script.ensures.ok in
    let same : c.obey_script.new.script ≡ s = c.in-Ok-obey_script.ensures.same in
    let some : ((b.finished ≡ []) × FirstAreObeyed s.lines b) ⊎ HasSweptSome s.lines b =
    subst (λ (x : Scripted). ((b.finished ≡ []) × FirstAreObeyed x.lines b) ⊎ HasSweptSome x.lines b) same c.in-Err-break_off.ensures.err in
    elim some [ inl first ↦ inl (first.0, first_whole left left' s b rs o.whole first.1) | inr more ↦ inr (some_swept left left' s b rs o.whole more) ]
