-- An input is parted in one way, so it isn't both audited and refused.
use Rattle.std.proofs.Common.{◌≡◌, ◌≢◌, ℕ, suc, ◌≤◌, List, [], ◌∷◌, ◌++◌, length, inl, inr, refl, sym, ◌∙◌, ap, subst, arith, Option, Some}
use Rattle.std.specs.Prelude.{IfSome}
use Rattle.std.proofs.lemmas.List.{append_cancel_left, length-append}
use Rattle.std.proofs.Math.Seq.{get_or-append_seam}
use Rattle.nfc_io.specs.Lines.{lines_of, joined}
use Rattle.bench_script.specs.Limits.{most_lines, longest_line, AreWithinLimits}
use Rattle.trace_audit.specs.Auditing.{IsUnauditedAt}
use Rattle.trace_audit.proofs.Settled.{none_unaudited}
use Rattle.nfc_bench.specs.Audit.{IsAudited, IsUnaudited}
use Rattle.nfc_bench.specs.AuditInput.{mark, most_report, HaveNoMark, HasReport, LacksReport, IsScriptOf}
use Rattle.nfc_bench.specs.private.AuditStops.{RefusesAudit}
use Rattle.nfc_bench.proofs.Limits.{all_at}

-- none is the mark but the first, nor behind that
no_mark_behind : (l : List ℕ) (lines : List (List ℕ)) → HaveNoMark (l ∷ lines) → HaveNoMark lines
no_mark_behind l lines none = λ k d small. none (suc k) d (omega (arith, small))

no_mark_first : (l : List ℕ) (lines : List (List ℕ)) → HaveNoMark (l ∷ lines) → l ≢ mark
no_mark_first l lines none = none 0 l (omega arith)

no_mark_inside : (lines after : List (List ℕ)) → HaveNoMark (lines ++ mark ∷ after) → ⊥
no_mark_inside lines after none =
    none (length lines) [] (omega (arith, length-append lines (mark ∷ after))) (get_or-append_seam lines mark after [])

-- a line that isn't the mark, behind others that aren't, stands before it
before_mark : (xs ys ps qs : List (List ℕ)) (l : List ℕ) → xs ++ l ∷ ps ≡ ys ++ mark ∷ qs → HaveNoMark xs → l ≢ mark → (rest : List (List ℕ)) × (ys ≡ xs ++ l ∷ rest)
before_mark [] [] ps qs l is none other = absurd (other cc)
before_mark [] (y ∷ ys) ps qs l is none other = (let first : y ≡ l = cc in (ys, ap (λ x. x ∷ ys) first))
before_mark (x ∷ xs) [] ps qs l is none other = absurd (no_mark_first x xs none cc)
before_mark (x ∷ xs) (y ∷ ys) ps qs l is none other =
    let first : y ≡ x = cc in
    let behind : xs ++ l ∷ ps ≡ ys ++ mark ∷ qs = cc in
    let more = before_mark xs ys ps qs l behind (no_mark_behind x xs none) other in
    (more.0, ap (λ z. z ∷ ys) first ∙ ap (λ zs. x ∷ zs) more.1)

-- the lines before the first mark
same_marked : (xs ys ps qs : List (List ℕ)) → xs ++ mark ∷ ps ≡ ys ++ mark ∷ qs → HaveNoMark xs → HaveNoMark ys → xs ≡ ys
same_marked [] [] ps qs is none none' = refl
same_marked [] (y ∷ ys) ps qs is none none' = absurd (no_mark_first y ys none' cc)
same_marked (x ∷ xs) [] ps qs is none none' = absurd (no_mark_first x xs none cc)
same_marked (x ∷ xs) (y ∷ ys) ps qs is none none' =
    let first : x ≡ y = cc in
    let behind : xs ++ mark ∷ ps ≡ ys ++ mark ∷ qs = cc in
    ap (λ z. z ∷ xs) first ∙ ap (λ zs. y ∷ zs) (same_marked xs ys ps qs behind (no_mark_behind x xs none) (no_mark_behind y ys none'))

-- an input with a report doesn't lack one
no_lack : (input report : List ℕ) (lines lines' : List (List ℕ)) → HasReport input lines report → AreWithinLimits lines → HaveNoMark lines' → LacksReport input lines' → ⊥
no_lack input report lines lines' has limits none (inl all) =
    no_mark_inside lines (lines_of report) (subst (λ ls. HaveNoMark ls) (sym all ∙ has.cut) none)
no_lack input report lines lines' has limits none (inr beyond) =
    let at = before_mark lines' lines beyond.after (lines_of report) beyond.line (sym beyond.parts ∙ has.cut) none beyond.other in
    let within : AreWithinLimits (lines' ++ beyond.line ∷ at.0) = subst (λ ls. AreWithinLimits ls) at.1 limits in
    let few : length (lines' ++ beyond.line ∷ at.0) ≤ most_lines = within.few in
    let short : length beyond.line ≤ longest_line = all_at lines' at.0 beyond.line within.short in
    elim beyond.beyond [
      | inl many ↦ omega (arith, many, few, length-append lines' (beyond.line ∷ at.0))
      | inr long ↦ omega (arith, long, short)
    ]

-- its script
one_script : (input report : List ℕ) (lines lines' : List (List ℕ)) → HasReport input lines report → AreWithinLimits lines → HaveNoMark lines → IsScriptOf input lines' → lines' ≡ lines
one_script input report lines lines' has limits none s = elim s.ends [
  | inl lacks ↦ absurd (no_lack input report lines lines' has limits s.none lacks)
  | inr other ↦ same_marked lines' lines (lines_of other.0) (lines_of report) (sym other.1.cut ∙ has.cut) s.none none
]

-- its report
not_longer : (front report : List ℕ) → front ++ (mark ++ 10 ∷ report) ≡ front ++ mark → ⊥
not_longer front report is = omega (arith, ap length is, length-append front (mark ++ 10 ∷ report), length-append front mark)

one_report : (input report other : List ℕ) (lines : List (List ℕ)) → HasReport input lines report → HasReport input lines other → report ≡ other
one_report input report other lines a b = elim a.bytes [
  | inl is ↦ elim b.bytes [
    | inl so ↦ (let both : mark ++ 10 ∷ report ≡ mark ++ 10 ∷ other = append_cancel_left (joined lines) (mark ++ 10 ∷ report) (mark ++ 10 ∷ other) (sym is ∙ so) in
        append_cancel_left (mark ++ 10 ∷ []) report other both)
    | inr so ↦ absurd (not_longer (joined lines) report (sym is ∙ so.0))
  ]
  | inr is ↦ elim b.bytes [
    | inl so ↦ absurd (not_longer (joined lines) other (sym so ∙ is.0))
    | inr so ↦ is.1 ∙ sym so.1
  ]
]

-- an input that is audited isn't refused
not_both : (input : List ℕ) (n : ℕ) → IsAudited input → IsUnaudited input n → ⊥
not_both input n a u =
    let same : u.lines ≡ a.lines = one_script input a.report a.lines u.lines a.parts a.limits a.none u.script in
    elim u.why [
      | inl line ↦ none_unaudited a.lines a.commands n a.audited (subst (λ ls. IsUnauditedAt ls n) same line)
      | inr (commands, audited, inl lacks) ↦ no_lack input a.report a.lines u.lines a.parts a.limits u.script.none lacks.0
      | inr (commands, audited, inr (report, has, long, number)) ↦
          (let it : HasReport input a.lines report = subst (λ ls. HasReport input ls report) same has in
          let is : a.report ≡ report = one_report input a.report report a.lines a.parts it in
          let few : length a.report ≤ most_report = a.few in
          omega (arith, ap length is, few, long))
    ]

-- nor is one that a source tells
pub not_refused : (left : Option (List ℕ)) (bytes : List ℕ) (n : ℕ) → left ≡ Some bytes → IsAudited bytes → RefusesAudit left n → ⊥
not_refused left bytes n is audited r =
    let same : r.input ≡ bytes = subst (λ o. IfSome o (λ x. r.input ≡ x)) is r.told in
    not_both bytes n audited (subst (λ x. IsUnaudited x n) same r.line)
