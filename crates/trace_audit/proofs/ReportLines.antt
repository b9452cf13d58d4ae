-- The lines of a report: one of each event of an entry, and one of its answer.
use Rattle.std.proofs.Common.{◌≡◌, ℕ, ◌+◌, List, [], ◌∷◌, ◌++◌, map, length, append_assoc, false, refl, sym, ◌∙◌, ap, arith}
use Rattle.std.specs.List.{AllByRecursion, flat_map}
use Rattle.std.proofs.lemmas.List.{length-append, length-map}
use Rattle.nfc_base.proofs.Leading.{all_append}
use Rattle.nfc_base.specs.declared.event.Event.{Event}
use Rattle.nfc_io.specs.Lines.{NoLf, joined}
use Rattle.bench_world.specs.declared.entry.Answer.{Answer as Said}
use Rattle.bench_world.specs.declared.entry.Entry.{Entry}
use Rattle.bench_world.specs.Report.{answer_text, entry_text, event_text, events_text, line_text, report_text}
use Rattle.trace_audit.proofs.CleanLines.{said, event_clean, answer_clean}

abbrev pub event_lines : ℕ → List Event → List (List ℕ)
event_lines n es = map (λ e. said n (event_text e)) es

abbrev pub answer_line : ℕ → Said → List (List ℕ)
answer_line n a = said n (answer_text a) ∷ []

abbrev pub entry_lines : Entry → List (List ℕ)
entry_lines e = event_lines e.line e.events ++ answer_line e.line e.answer

abbrev pub report_lines : List Entry → List (List ℕ)
report_lines js = flat_map entry_lines js

-- lines that stand one behind the other
pub joined_append : (ls ks : List (List ℕ)) → joined (ls ++ ks) ≡ joined ls ++ joined ks
joined_append [] ks = refl
joined_append (l ∷ ls) ks = ap (λ x. l ++ 10 ∷ x) (joined_append ls ks) ∙ sym (append_assoc l (10 ∷ joined ls) (joined ks))

-- they make the text
pub events_joined : (n : ℕ) (es : List Event) → events_text n es ≡ joined (event_lines n es)
events_joined n [] = refl
events_joined n (e ∷ es) =
    append_assoc (said n (event_text e)) (10 ∷ []) (events_text n es) ∙ ap (λ x. said n (event_text e) ++ 10 ∷ x) (events_joined n es)

pub entry_joined : (e : Entry) → entry_text false e ≡ joined (entry_lines e)
entry_joined e =
    ap (λ x. x ++ line_text e.line (answer_text e.answer)) (events_joined e.line e.events) ∙ sym (joined_append (event_lines e.line e.events) (answer_line e.line e.answer))

pub report_joined : (js : List Entry) → report_text false js ≡ joined (report_lines js)
report_joined [] = refl
report_joined (j ∷ js) = ap (λ x. x ++ report_text false js) (entry_joined j) ∙ ap (λ x. joined (entry_lines j) ++ x) (report_joined js) ∙ sym (joined_append (entry_lines j) (report_lines js))

-- and none has an LF
pub events_clean : (n : ℕ) (es : List Event) → AllByRecursion NoLf (event_lines n es)
events_clean n [] = tt
events_clean n (e ∷ es) = (event_clean n e, events_clean n es)

pub entry_clean : (e : Entry) → AllByRecursion NoLf (entry_lines e)
entry_clean e = all_append NoLf (event_lines e.line e.events) (answer_line e.line e.answer) (events_clean e.line e.events) (answer_clean e.line e.answer, tt)

pub report_clean : (js : List Entry) → AllByRecursion NoLf (report_lines js)
report_clean [] = tt
report_clean (j ∷ js) = all_append NoLf (entry_lines j) (report_lines js) (entry_clean j) (report_clean js)

-- How many there are.
pub entry_count : (e : Entry) → length (entry_lines e) ≡ length e.events + 1
entry_count e =
    omega (arith, length-append (event_lines e.line e.events) (answer_line e.line e.answer), length-map e.events (λ x. said e.line (event_text x)))
