-- Where no good text goes on as a report does: behind some whole lines, where a text that goes on as far as one line more is none.
use Rattle.std.proofs.Common.{◌≡◌, ℕ, ◌+◌, ◌≤◌, List, [], ◌∷◌, ◌++◌, length, append_assoc, refl, sym, ◌∙◌, ap, subst, arith}
use Rattle.std.specs.List.{AllByRecursion}
use Rattle.nfc_io.specs.Lines.{NoLf, joined, whole_lines}
use Rattle.trace_audit.specs.Auditing.{BeginsGood, IsFaultyAt, IsGoodText, first_lines}
use Rattle.trace_audit.proofs.FirstLines.{FirstMore, first_more, one_line, within_joined}

-- Two texts begin with the same line, if one begins with a whole line; and where the first is over, the second is.
pub record Agrees (xs ys : List ℕ) : Type 0 where
  pub over : xs ≡ [] → ys ≡ []
  pub there : (l r : List ℕ) → NoLf l → xs ≡ l ++ 10 ∷ r → (q : List ℕ) × (ys ≡ l ++ 10 ∷ q)
  pub back : (l r : List ℕ) → NoLf l → ys ≡ l ++ 10 ∷ r → (q : List ℕ) × (xs ≡ l ++ 10 ∷ q)

some_left : (k r : List ℕ) → k ++ 10 ∷ r ≡ [] → ⊥
some_left [] r e = omega (arith, ap length e)
some_left (b ∷ k) r e = omega (arith, ap length e)

agrees_same : (xs : List ℕ) → Agrees xs xs
agrees_same xs = record { over = λ none. none; there = λ l r clean is. (r, is); back = λ l r clean is. (r, is) }

agrees_line : (xs ys k r q : List ℕ) → NoLf k → xs ≡ k ++ 10 ∷ r → ys ≡ k ++ 10 ∷ q → Agrees xs ys
agrees_line xs ys k r q clean is other = record {
  over = λ none. absurd (some_left k r (sym is ∙ none));
  there = λ l s none e. (q, other ∙ ap (λ x. x ++ 10 ∷ q) (one_line k l r s clean none (sym is ∙ e)).0);
  back = λ l s none e. (r, is ∙ ap (λ x. x ++ 10 ∷ r) (one_line k l q s clean none (sym other ∙ e)).0);
}

-- A good text goes on with none of the lines behind the first so many, and isn't over there.
pub record Stops (lines : List (List ℕ)) (report : List ℕ) (good : ℕ) : Type 0 where
  pub within : good ≤ length (whole_lines report)
  pub ends : good + 1 ≤ length (whole_lines report) → BeginsGood lines (first_lines (good + 1) report) → ⊥
  pub not_good : IsGoodText lines report → ⊥

-- no good text begins with these lines and then goes on as this text does, as far as its first line
abbrev pub NoneGoesOn : List (List ℕ) → List (List ℕ) → List ℕ → Type 0
NoneGoesOn lines ls left = (text more : List ℕ) → IsGoodText lines text → text ≡ joined ls ++ more → Agrees more left → ⊥

stops_here : (lines ls : List (List ℕ)) (left : List ℕ) → AllByRecursion NoLf ls → NoneGoesOn lines ls left → Stops lines (joined ls ++ left) (length ls)
stops_here lines ls left clean none = record {
  within = within_joined ls left clean;
  not_good = λ good. none (joined ls ++ left) left good refl (agrees_same left);
  ends = λ some goes. at_line goes (first_more ls left clean some);
}
  where
    at_line : BeginsGood lines (first_lines (length ls + 1) (joined ls ++ left)) → FirstMore ls left → ⊥
    at_line goes m =
        let rest : List ℕ = goes.begins.0 in
        let more : List ℕ = m.line ++ 10 ∷ rest in
        let is : goes.text ≡ joined ls ++ more =
        goes.begins.1 ∙ ap (λ x. x ++ rest) m.first ∙ append_assoc (joined ls) (m.line ++ 10 ∷ []) rest
        ∙ ap (λ x. joined ls ++ x) (append_assoc m.line (10 ∷ []) rest) in
        none goes.text more goes.good is (agrees_line more left m.line rest m.rest m.clean refl m.is)

pub stops_at : (lines : List (List ℕ)) (report : List ℕ) (ls : List (List ℕ)) (left : List ℕ) → AllByRecursion NoLf ls → report ≡ joined ls ++ left → NoneGoesOn lines ls left
    → Stops lines report (length ls)
stops_at lines report ls left clean is none = subst (λ x. Stops lines x (length ls)) (sym is) (stops_here lines ls left clean none)

-- Where a good text goes as far, the next line is the first that no run can have.
pub faulty_at : (lines : List (List ℕ)) (report : List ℕ) (good n : ℕ) → n ≡ good + 1 → Stops lines report good → BeginsGood lines (first_lines good report) → IsFaultyAt lines report n
faulty_at lines report good n next stops begins = record {
  good = good;
  next = next;
  within = stops.within;
  begins = begins;
  ends = subst (λ m. m ≤ length (whole_lines report) → BeginsGood lines (first_lines m report) → ⊥) (sym next) stops.ends;
  not_good = stops.not_good;
}
