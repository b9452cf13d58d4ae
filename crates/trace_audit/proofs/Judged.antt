-- What an audit answers behind the last line of a script.
use Rattle.std.proofs.Common.{◌≡◌, ℕ, ◌+◌, ◌<◌, ◌≤◌, ◌^◌, ◌⊎◌, List, [], ◌∷◌, ◌++◌, append_assoc, append-nil, length, Bool, true, false, ◌==◌, if◌then◌else◌, refl, sym, ◌∙◌, ap, subst, arith}
use Rattle.std.specs.List.{onto_first}
use Rattle.std.proofs.lemmas.List.{length-append}
use Rattle.nfc_io.specs.Lines.{lines_of}
use Rattle.bench_world.specs.Obeying.{Benched, new_bench}
use Rattle.trace_audit.specs.declared.judging.AuditFault.{AuditFault}
use Rattle.trace_audit.specs.declared.judging.AuditFault.TheVariants.{Memory, Script}
use Rattle.trace_audit.specs.declared.judging.Verdict.{Verdict}
use Rattle.trace_audit.specs.declared.judging.Verdict.TheVariants.{Faulty, Legal}
use Rattle.trace_audit.specs.declared.stepping.Walk.{Walk}
use Rattle.trace_audit.specs.Auditing.{IsUnauditedAt}
use Rattle.trace_audit.specs.Judging.{JudgedAt, Judges, RefusedAt, RefusesScript}
use Rattle.trace_audit.specs.private.Stepping.{AuditsLine, Shrinks}
use Rattle.trace_audit.proofs.LineSteps.{Stands, ends_audited, ends_faulty, ends_legal, line_on, stands_first, stands_refused}

pub judges_faulty : (lines : List (List ℕ)) (bench : Benched) (report : List ℕ) (w : Walk) → length lines < 2 ^ 32 → Stands lines lines bench report w → (w.strayed ≡ true) ⊎ (0 < length w.left.now)
    → Judges lines report bench (Faulty (w.good + 1))
judges_faulty lines bench report w few stands why =
    let all = ends_audited lines bench report w stands in record { commands = all.0; audited = all.1; says = ends_faulty lines bench report w few stands why }

pub judges_legal : (lines : List (List ℕ)) (bench : Benched) (report : List ℕ) (w : Walk) → Stands lines lines bench report w → w.strayed ≡ false → w.left.now ≡ [] → Judges lines report bench Legal
judges_legal lines bench report w stands going over =
    let all = ends_audited lines bench report w stands in record { commands = all.0; audited = all.1; says = ends_legal lines bench report w stands going over }

-- A text has no more lines than bytes.
onto_few : (b : ℕ) (ls : List (List ℕ)) → length (onto_first b ls) ≤ length ls + 1
onto_few b [] = omega arith
onto_few b (l ∷ ls) = omega arith

pub lines_few : (text : List ℕ) → length (lines_of text) ≤ length text
lines_few [] = omega arith
lines_few (b ∷ bs) = by_lf (b == 10) (lines_few bs)
  where
    by_lf : (v : Bool) → length (lines_of bs) ≤ length bs → length (if v then [] ∷ lines_of bs else onto_first b (lines_of bs)) ≤ length (b ∷ bs)
    by_lf true few = omega arith
    by_lf false few = omega (arith, onto_few b (lines_of bs))

-- Where the walk over a script stands: the lines that are done, and those that are left.
pub record WalksAt (script report left : List ℕ) (line : ℕ) (bench : Benched) (w : Walk) : Type 0 where
  pub done : List (List ℕ)
  pub parts : lines_of script ≡ done ++ lines_of left
  pub count : line ≡ length done
  pub stands : Stands (lines_of script) done bench report w
  pub room : w.good + length w.left.now ≤ length report

pub walks_first : (script report : List ℕ) (bench : Benched) (w : Walk) → bench ≡ new_bench → w.strayed ≡ false → w.good ≡ 0 → w.left.now ≡ report → WalksAt script report script 0 bench w
walks_first script report bench w new going none all = record {
  done = [];
  parts = refl;
  count = refl;
  stands = subst (λ b. Stands (lines_of script) [] b report w) (sym new) (stands_first (lines_of script) report w going none all);
  room = omega (arith, none, ap length all);
}

-- the line that comes next
module _ (script report left rest text : List ℕ) (line : ℕ) (old : Benched) (w : Walk) (few : length script < 2 ^ 32) (at : WalksAt script report left line old w)
    (next : lines_of left ≡ text ∷ lines_of rest) where
  parts_here : lines_of script ≡ at.done ++ text ∷ lines_of rest
  parts_here = at.parts ∙ ap (λ ls. at.done ++ ls) next

  pub line_small : line + 1 < 2 ^ 32
  line_small = omega (arith, few, at.count, lines_few script, ap length parts_here, length-append at.done (text ∷ lines_of rest))

  stands_here : Stands (at.done ++ text ∷ lines_of rest) at.done old report w
  stands_here = subst (λ ls. Stands ls at.done old report w) parts_here at.stands

  number : line + 1 ≡ length at.done + 1
  number = omega (arith, at.count)

  -- takes the walk on, ...
  pub walks_on : (new : Benched) (w' : Walk) → AuditsLine old new (line + 1) text w w' → Shrinks w w' → WalksAt script report rest (line + 1) new w'
  walks_on new w' audits shrinks = record {
    done = at.done ++ text ∷ [];
    parts = parts_here ∙ sym (append_assoc at.done (text ∷ []) (lines_of rest));
    count = omega (arith, number, length-append at.done (text ∷ []));
    stands =
        subst (λ ls. Stands ls (at.done ++ text ∷ []) new report w') (sym parts_here)
        (line_on at.done text (lines_of rest) old new report (line + 1) w w' number
        (subst (λ ls. length ls < 2 ^ 32) parts_here (let small : length (lines_of script) < 2 ^ 32 = omega (arith, few, lines_few script) in small)) stands_here audits);
    room = omega (arith, at.room, shrinks);
  }

  -- ... or is refused
  pub walk_refused : (fault : AuditFault) → RefusedAt old.state (line + 1) text fault → RefusesScript (lines_of script) fault
  walk_refused Memory why = tt
  walk_refused (Script n) why =
      let at_done : IsUnauditedAt (at.done ++ text ∷ lines_of rest) (length at.done + 1) = stands_refused (at.done ++ text ∷ lines_of rest) at.done text (lines_of rest) old report w stands_here
      why.1 in
      subst (IsUnauditedAt (lines_of script)) (sym (why.0 ∙ number)) (subst (λ ls. IsUnauditedAt ls (length at.done + 1)) (sym parts_here) at_done)

-- Behind the last line.
pub walk_judged : (script report left : List ℕ) (line : ℕ) (bench : Benched) (w : Walk) (v : Verdict) → length script < 2 ^ 32 → WalksAt script report left line bench w → left ≡ [] → JudgedAt w v
    → Judges (lines_of script) report bench v
walk_judged script report left line bench w v few at over judged = by_verdict v judged
  where
    all : lines_of script ≡ at.done
    all = at.parts ∙ ap (λ x. at.done ++ lines_of x) over ∙ append-nil at.done

    stands : Stands (lines_of script) (lines_of script) bench report w
    stands = subst (λ ls. Stands (lines_of script) ls bench report w) (sym all) at.stands

    small : length (lines_of script) < 2 ^ 32
    small = omega (arith, few, lines_few script)

    by_verdict : (v : Verdict) → JudgedAt w v → Judges (lines_of script) report bench v
    by_verdict Legal is = judges_legal (lines_of script) bench report w stands is.0 is.1
    by_verdict (Faulty n) is = subst (λ m. Judges (lines_of script) report bench (Faulty m)) (sym is.0) (judges_faulty (lines_of script) bench report w small stands is.1)
