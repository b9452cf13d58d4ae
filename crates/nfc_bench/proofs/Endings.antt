-- How a run ends, by how its parts did.
use Rattle.std.proofs.Common.{◌≡◌, ℕ, ◌+◌, ◌≤◌, List, [], ◌∷◌, ◌++◌, length, Bool, false, Option, Some, None, Result, Ok, Err, refl, sym, ◌∙◌, ap, subst, append_assoc, arith, inl, inr}
use Rattle.std.specs.Prelude.{IfSome, OnOk, OnErr}
use Rattle.std.specs.List.{All}
use Rattle.std.proofs.lemmas.List.{append-nil, length-append}
use Rattle.nfc_io.specs.Counts.{HasRisen}
use Rattle.nfc_io.specs.Moves.{with_end, GainsFront}
use Rattle.nfc_io.specs.Lines.{lines_of, whole_lines, NoLf}
use Rattle.nfc_io.specs.Reading.{Lined, Advances}
use Rattle.nfc_io.specs.declared.line_reader.LineStop.TheVariants as ends
use Rattle.nfc_io.proofs.Counts.{rises_at_last}
use Rattle.nfc_io.proofs.Moves.{with_end-append, with_end-nil, read_on}
use Rattle.nfc_io.proofs.Lines.{whole_last}
use Rattle.nfc_bench.specs.declared.top.lines.Stop.{Stop}
use Rattle.nfc_bench.specs.declared.top.lines.Stop.TheVariants.{Refused, ReadFault, WriteFault, Memory}
use Rattle.bench_script.specs.Limits.{most_lines, longest_line, AreWithinLimits}
use Rattle.bench_world.specs.declared.entry.Entry.{Entry}
use Rattle.bench_world.specs.Report.{entry_text, report_text}
use Rattle.bench_world.specs.Legal.{first_state}
use Rattle.bench_world.specs.Obeying.{Benched, begun_anew, new_bench}
use Rattle.bench_world.specs.Taking.{AreSpelled, IsTaken, standing_of}
use Rattle.bench_world.proofs.devices.Shapes.{TakenAlike, legal_taken, taken_at, taken_too}
use Rattle.nfc_bench.specs.Run.{AreObeyed, FirstAreObeyed, FirstRefused, AllTaken, RefusesLine, ObeysFront, AddsFault, line_fault, read_fault, EndsRefused, EndsUnread, EndsUnwritten}
use Rattle.nfc_bench.specs.Reading.{ReadsToLimit}
use Rattle.nfc_bench.specs.Stops.{Follows, LineRefused, LineCut, LineLost, LineStops, Lost, ObeyedBy, RunRefused, RunUnread, RunLost, RunStops}
use Rattle.nfc_bench.proofs.Limits.{all_at, IsShort, limits_more, no_limits}
use Rattle.nfc_bench.proofs.Reading.{goes_on_by}
use Rattle.nfc_bench.proofs.Progress.{Progress, GaveNext, Goes, goes, whole_on, leads_to, obeyed_lost, obeyed_more, obeyed_new, stops_lost, stops_none}
use Rattle.nfc_bench.proofs.Journals.{written_none}

-- The lines that were obeyed are taken, and what is taken behind them is taken by the machines.
abbrev pub done_taken : (done : List (List ℕ)) (b : Benched) → ObeyedBy done b → TakenAlike done b.state
done_taken done b o = legal_taken done o.obeyed.run.legal.numbers b.journal b.state (leads_to done b o)

pub taken_there : (done : List (List ℕ)) (b : Benched) (o : ObeyedBy done b) (line : List ℕ) → IsTaken (standing_of (done_taken done b o).commands) line → IsTaken b.state line
taken_there done b o line is = taken_too (standing_of (done_taken done b o).commands) b.state line (done_taken done b o).alike is

-- the next line is one too many or too long
pub refused_by_size : (quiet : Bool) (left mid : Option (List ℕ)) (a : Lined) (j : Benched) (n : ℕ) (t t1 : Option (List ℕ))
    → (p : Progress quiet left mid a j n t t1) → ReadsToLimit left p.done → RunRefused quiet left t t1 j n
refused_by_size quiet left mid a j n t t1 p r =
    let number : n ≡ 1 + length p.done = p.number in
    record {
      lines = record {
        input = r.input;
        told = r.told;
        first = record {
          before = p.done;
          line = r.cut.line;
          after = r.cut.after;
          parts = r.cut.parts;
          commands = (done_taken p.done j p.obeyed).commands;
          taken = (done_taken p.done j p.obeyed).taken;
          limits = r.limits;
          obeyed = p.obeyed.obeyed;
          number = number;
          refused = elim r.cut.beyond [ inl many ↦ inl (omega (arith, many, number)) | inr long ↦ inr (inl long) ];
        };
      };
      written = p.written;
    }

-- the source failed, behind no whole line that isn't obeyed
unread : (quiet : Bool) (left mid left' : Option (List ℕ)) (a : Lined) (j : Benched) (n : ℕ) (t t1 : Option (List ℕ)) (r r' : ℕ) (got : List ℕ)
    → Progress quiet left mid a j n t t1 → Goes a got mid left' → a.is_ended ≡ false → NoLf (a.held ++ got) → HasRisen r r' → RunUnread quiet left left' t t1 r r' j
unread quiet left mid left' a j n t t1 r r' got p on going none risen =
    let L : List (List ℕ) → Type 0 = λ ls. AreObeyed ls j in
    let whole : whole_lines (p.reads.text ++ got) ≡ p.done =
    ap whole_lines (sym (append-nil (p.reads.text ++ got))) ∙ whole_on left mid a p.done got p.reads [] going ∙ ap (λ x. p.done ++ whole_lines x) (append-nil (a.held ++ got))
    ∙ ap (λ x. p.done ++ x) (whole_last (a.held ++ got) none) ∙ append-nil p.done in
    record {
      risen = risen;
      lines = record {
        read = p.reads.text ++ got;
        told = read_on left mid left' p.reads.text got p.reads.read on.read;
        limits = subst (λ ls. AreWithinLimits ls) (sym whole) p.reads.limits;
        obeyed = subst L (sym whole) p.obeyed.obeyed;
      };
      written = p.written;
    }

pub unread_next : (quiet : Bool) (left mid left' : Option (List ℕ)) (a m : Lined) (j : Benched) (n : ℕ) (t t1 : Option (List ℕ)) (r r' : ℕ)
    → Progress quiet left mid a j n t t1 → Advances a m mid left' (Err ends.ReadFault) → HasRisen r r' → RunUnread quiet left left' t t1 r r' j
unread_next quiet left mid left' a m j n t t1 r r' p adv risen =
    unread quiet left mid left' a j n t t1 r r' adv.fetched.got p (goes a adv.text mid left' adv.fetched) adv.came.0 (subst NoLf adv.fetched.parts adv.came.2) risen

-- The next line was given, and tried.

-- it is refused as it stands
refused_line : (quiet : Bool) (left left' : Option (List ℕ)) (done : List (List ℕ)) (m : Lined) (j new : Benched) (n k : ℕ) (t t1 t2 : Option (List ℕ))
    → (o : ObeyedBy done j) → AreWithinLimits done → n ≡ 1 + length done → t1 ≡ with_end t (report_text quiet j.journal) → GaveNext left left' done m → LineRefused j new n k m.line t1 t2
    → RunRefused quiet left t t2 new k
refused_line quiet left left' done m j new n k t t1 t2 o limits number written next s =
    let P : Benched → Type 0 = λ x. RunRefused quiet left t t2 x k in
    let by = goes_on_by left left' next.text m.is_ended next.read next.ended in
    let it : P j = record {
      lines = record {
        input = next.text ++ by.more;
        told = by.told;
        first = record {
          before = done;
          line = m.line;
          after = lines_of (m.held ++ by.more);
          parts = next.lines by.more by.follows;
          commands = (done_taken done j o).commands;
          taken = (done_taken done j o).taken;
          limits = limits;
          obeyed = o.obeyed;
          number = s.number ∙ number;
          refused = inr (inr (λ is. s.refused (taken_there done j o m.line is)));
        };
      };
      written = s.same ∙ written;
    } in
    subst P (sym s.stays) it

-- the line is obeyed too
front_with : (left left' : Option (List ℕ)) (done : List (List ℕ)) (m : Lined) (j new : Benched) (n : ℕ)
    → ObeyedBy done j → AreWithinLimits done → n ≡ 1 + length done → GaveNext left left' done m → n ≤ most_lines → Follows j new n m.line → ObeysFront left new
front_with left left' done m j new n o limits number next few line =
    let by = goes_on_by left left' next.text m.is_ended next.read next.ended in
    record {
      input = next.text ++ by.more;
      told = by.told;
      obeyed = record {
        front = done ++ m.line ∷ [];
        rest = lines_of (m.held ++ by.more);
        parts = next.lines by.more by.follows ∙ sym (append_assoc done (m.line ∷ []) (lines_of (m.held ++ by.more)));
        obeyed = (obeyed_more done j new m.line n o line number).obeyed;
        stops = stops_none (done ++ m.line ∷ []) (lines_of (m.held ++ by.more)) new (obeyed_more done j new m.line n o line number).obeyed.run.legal.last
            (obeyed_more done j new m.line n o line number);
      };
      limits = limits_more done m.line limits (omega (arith, number, few)) next.short;
    }

-- it isn't
front_without : (left left' : Option (List ℕ)) (done : List (List ℕ)) (m : Lined) (j new : Benched)
    → ObeyedBy done j → AreWithinLimits done → GaveNext left left' done m → Lost j new m.line → ObeysFront left new
front_without left left' done m j new o limits next lost =
    let by = goes_on_by left left' next.text m.is_ended next.read next.ended in
    let it = obeyed_lost done j new m.line o lost in
    record {
      input = next.text ++ by.more;
      told = by.told;
      obeyed = record {
        front = done;
        rest = m.line ∷ lines_of (m.held ++ by.more);
        parts = next.lines by.more by.follows;
        obeyed = it.obeyed;
        stops = stops_lost done j new m.line (lines_of (m.held ++ by.more)) it.obeyed.run.legal.last o lost it.last;
      };
      limits = limits;
    }

cut_line : (quiet : Bool) (left left' : Option (List ℕ)) (done : List (List ℕ)) (m : Lined) (j new : Benched) (n : ℕ) (t t1 t2 : Option (List ℕ)) (w w1 w2 : ℕ)
    → ObeyedBy done j → AreWithinLimits done → n ≡ 1 + length done → t1 ≡ with_end t (report_text quiet j.journal) → GaveNext left left' done m → n ≤ most_lines → w ≤ w1
    → LineCut quiet j new n m.line t1 t2 w1 w2
    → EndsUnwritten quiet left t t2 w w2 new
cut_line quiet left left' done m j new n t t1 t2 w w1 w2 o limits number written next few count s =
    let G : Option (List ℕ) → Type 0 = λ x. GainsFront x t2 (entry_text quiet s.entry) in
    record {
      risen = rises_at_last w w1 w2 count s.risen;
      lines = front_with left left' done m j new n o limits number next few s.follows;
      before = j.journal;
      last = s.entry;
      entries = s.follows.added ∙ ap (λ es. j.journal ++ es) s.one;
      written = subst G written s.written;
    }

lost_line : (quiet : Bool) (left left' : Option (List ℕ)) (done : List (List ℕ)) (m : Lined) (j new : Benched) (t t1 t2 : Option (List ℕ))
    → ObeyedBy done j → AreWithinLimits done → t1 ≡ with_end t (report_text quiet j.journal) → GaveNext left left' done m → LineLost j new m.line t1 t2 → RunLost quiet left t t2 new
lost_line quiet left left' done m j new t t1 t2 o limits written next s = record {
  lines = front_without left left' done m j new o limits next s.lost;
  written = s.same ∙ written ∙ ap (λ js. with_end t (report_text quiet js)) (sym s.lost.journal);
}

-- a line that was tried ended the run
pub line_stops : (quiet : Bool) (left left' : Option (List ℕ)) (done : List (List ℕ)) (m : Lined) (j new : Benched) (n : ℕ) (t t1 t2 : Option (List ℕ)) (r r' w w1 w2 : ℕ) (stop : Stop)
    → ObeyedBy done j → AreWithinLimits done → n ≡ 1 + length done → t1 ≡ with_end t (report_text quiet j.journal) → GaveNext left left' done m → n ≤ most_lines → w ≤ w1
    → LineStops quiet j new n m.line t1 t2 w1 w2 stop
    → RunStops quiet left left' t t2 r r' w w2 new stop
line_stops quiet left left' done m j new n t t1 t2 r r' w w1 w2 (Refused k) o limits number written next few count s =
    refused_line quiet left left' done m j new n k t t1 t2 o limits number written next s
line_stops quiet left left' done m j new n t t1 t2 r r' w w1 w2 ReadFault o limits number written next few count s = absurd s
line_stops quiet left left' done m j new n t t1 t2 r r' w w1 w2 WriteFault o limits number written next few count s =
    cut_line quiet left left' done m j new n t t1 t2 w w1 w2 o limits number written next few count s
line_stops quiet left left' done m j new n t t1 t2 r r' w w1 w2 Memory o limits number written next few count s = lost_line quiet left left' done m j new t t1 t2 o limits written next s

-- memory was wanting before a line was obeyed
abbrev pub none_obeyed : (runs : List (List Entry)) (lines : List (List ℕ)) → FirstAreObeyed lines (begun_anew runs)
none_obeyed runs lines = record {
  front = [];
  rest = lines;
  parts = refl;
  obeyed = (obeyed_new runs).obeyed;
  stops = stops_none [] lines (begun_anew runs) (obeyed_new runs).obeyed.run.legal.last (obeyed_new runs);
}

pub front_at_once : (left : Option (List ℕ)) (runs : List (List Entry)) → ObeysFront left (begun_anew runs)
front_at_once None runs = record { input = []; told = tt; obeyed = none_obeyed runs (lines_of []); limits = no_limits }
front_at_once (Some bytes) runs = record { input = bytes; told = refl; obeyed = none_obeyed runs (lines_of bytes); limits = no_limits }

pub lost_at_once : (quiet : Bool) (left t : Option (List ℕ)) (b : Benched) → b ≡ new_bench → RunLost quiet left t t b
lost_at_once quiet left t b none =
    let P : Benched → Type 0 = λ x. RunLost quiet left t t x in
    let it : P new_bench = record { lines = front_at_once left []; written = written_none quiet t } in
    subst P (sym none) it

-- what a write of a fault line does
pub fault_written : {T E : Type 0} (r : Result T E) (t t' : Option (List ℕ)) (w w' : ℕ) (fault : List ℕ)
    → OnOk r (t' ≡ with_end t fault) → OnErr r (GainsFront t t' fault) → OnErr r (HasRisen w w') → AddsFault [] fault t t' w w'
fault_written (Ok x) t t' w w' fault ok err cause = inl ok
fault_written (Err e) t t' w w' fault ok err cause =
    let G : Option (List ℕ) → Type 0 = λ o. GainsFront o t' fault in inr (cause, subst G (sym (with_end-nil t)) err)

-- it stands behind a report
pub fault_behind : (t t1 t2 : Option (List ℕ)) (w w1 w2 : ℕ) (report fault : List ℕ)
    → t1 ≡ with_end t report → w ≤ w1 → AddsFault [] fault t1 t2 w1 w2 → AddsFault report fault t t2 w w2
fault_behind t t1 t2 w w1 w2 report fault first count (inl all) =
    inl (all ∙ ap (λ o. with_end o fault) first ∙ with_end-append t report fault)
fault_behind t t1 t2 w w1 w2 report fault first count (inr (risen, front)) =
    let G : Option (List ℕ) → Type 0 = λ o. GainsFront o t2 fault in
    inr (rises_at_last w w1 w2 count risen, subst G (with_end-nil t1 ∙ first) front)

pub ends_refused : (quiet : Bool) (left t t1 t2 : Option (List ℕ)) (w w1 w2 : ℕ) (j : Benched) (n : ℕ) (line : List ℕ)
    → RunRefused quiet left t t1 j n → line ≡ line_fault n → w ≤ w1 → AddsFault [] line t1 t2 w1 w2 → EndsRefused quiet left t t2 w w2 j
ends_refused quiet left t t1 t2 w w1 w2 j n line s is count added =
    let A : List ℕ → Type 0 = λ x. AddsFault (report_text quiet j.journal) x t t2 w w2 in
    record { number = n; lines = s.lines; written = subst A is (fault_behind t t1 t2 w w1 w2 (report_text quiet j.journal) line s.written count added) }

pub ends_unread : (quiet : Bool) (left left' t t1 t2 : Option (List ℕ)) (r r' w w1 w2 : ℕ) (j : Benched)
    → RunUnread quiet left left' t t1 r r' j → w ≤ w1 → AddsFault [] read_fault t1 t2 w1 w2 → EndsUnread quiet left left' t t2 r r' w w2 j
ends_unread quiet left left' t t1 t2 r r' w w1 w2 j s count added =
    record { risen = s.risen; lines = s.lines; written = fault_behind t t1 t2 w w1 w2 (report_text quiet j.journal) read_fault s.written count added }

-- where every line is taken, none is the first that is refused
pub none_refused : (lines : List (List ℕ)) (j : Benched) (n : ℕ) → AllTaken lines → FirstRefused lines j n → ⊥
none_refused lines j n all f =
    let number : n ≡ 1 + length f.before = f.number in
    let few : length lines ≤ most_lines = all.limits.few in
    let size : length lines ≡ length f.before + length (f.line ∷ f.after) = ap length f.parts ∙ length-append f.before (f.line ∷ f.after) in
    let A : List (List ℕ) → Type 0 = λ ls. All IsShort ls in
    let short : length f.line ≤ longest_line = all_at f.before f.after f.line (subst A f.parts all.limits.short) in
    let spelled : AreSpelled (f.before ++ f.line ∷ f.after) all.commands = subst (λ ls. AreSpelled ls all.commands) f.parts all.taken.spelled in
    elim f.refused [
      | inl many ↦ omega arith
      | inr why ↦ (
          elim why [ inl long ↦ omega arith | inr nothing ↦ nothing (taken_at first_state f.before f.line f.after all.commands f.commands spelled all.taken.accepted f.taken.spelled) ])
    ]

pub taken_not_refused : (left : Option (List ℕ)) (bytes : List ℕ) (j : Benched) (n : ℕ) → left ≡ Some bytes → AllTaken (lines_of bytes) → RefusesLine left j n → ⊥
taken_not_refused left bytes j n is all s =
    let P : Option (List ℕ) → Type 0 = λ o. IfSome o (λ b. s.input ≡ b) in
    let F : List ℕ → Type 0 = λ x. FirstRefused (lines_of x) j n in
    let same : s.input ≡ bytes = subst P is s.told in
    none_refused (lines_of bytes) j n all (subst F same s.first)
