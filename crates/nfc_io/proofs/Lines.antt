-- The lines of a text, from its front.
use Rattle.std.proofs.Common.{◌≡◌, ◌≢◌, ℕ, suc, ◌<◌, ◌≤◌, List, [], ◌∷◌, ◌++◌, length, Bool, true, false, ◌==◌, refl, sym, ◌∙◌, ap, append_assoc, arith}
use Rattle.std.specs.Prelude.{if◌then◌else◌}
use Rattle.std.specs.List.{AllByRecursion, onto_first}
use Rattle.std.proofs.lemmas.Bool.{ne_eqb}
use Rattle.nfc_io.specs.Lines.{lines_of, whole_lines, onto_whole, NoLf, joined}

-- a line that ends with LF
pub lines_front : (l r : List ℕ) → NoLf l → lines_of (l ++ 10 ∷ r) ≡ l ∷ lines_of r
lines_front [] r none = refl
lines_front (b ∷ l) r none =
    let other : b ≢ 10 = none 0 (omega arith) in
    rw (ne_eqb b 10 other) (ap (onto_first b) (lines_front l r (λ k small. none (suc k) (omega arith))))

pub whole_front : (l r : List ℕ) → NoLf l → whole_lines (l ++ 10 ∷ r) ≡ l ∷ whole_lines r
whole_front [] r none = refl
whole_front (b ∷ l) r none =
    let other : b ≢ 10 = none 0 (omega arith) in
    rw (ne_eqb b 10 other) (ap (onto_whole b) (whole_front l r (λ k small. none (suc k) (omega arith))))

pub whole_last : (l : List ℕ) → NoLf l → whole_lines l ≡ []
whole_last [] none = refl
whole_last (b ∷ l) none =
    let other : b ≢ 10 = none 0 (omega arith) in
    rw (ne_eqb b 10 other) (ap (onto_whole b) (whole_last l (λ k small. none (suc k) (omega arith))))

-- a last line may go on in what stands behind it
pub record GoesOn (l : List ℕ) (lines : List (List ℕ)) : Type 0 where
  pub line : List ℕ
  pub rest : List (List ℕ)
  pub parts : lines ≡ line ∷ rest
  pub longer : length l ≤ length line

onto_some : (v : Bool) (b : ℕ) (ls : List (List ℕ)) → GoesOn [] (if v then [] ∷ ls else onto_first b ls)
onto_some true b ls = record { line = []; rest = ls; parts = refl; longer = omega arith }
onto_some false b [] = record { line = b ∷ []; rest = []; parts = refl; longer = omega arith }
onto_some false b (w ∷ ws) = record { line = b ∷ w; rest = ws; parts = refl; longer = omega arith }

-- a text that isn't empty has a line
pub some_line : (l more : List ℕ) → 0 < length l → GoesOn [] (lines_of (l ++ more))
some_line [] more some = absurd (omega arith)
some_line (b ∷ l) more some = onto_some (b == 10) b (lines_of (l ++ more))

pub onto_goes : (b : ℕ) (lines : List (List ℕ)) → GoesOn (b ∷ []) (onto_first b lines)
onto_goes b [] = record { line = b ∷ []; rest = []; parts = refl; longer = omega arith }
onto_goes b (w ∷ ws) = record { line = b ∷ w; rest = ws; parts = refl; longer = omega arith }

pub lines_longer : (l more : List ℕ) → NoLf l → 0 < length l → GoesOn l (lines_of (l ++ more))
lines_longer [] more none some = absurd (omega arith)
lines_longer (b ∷ []) more none some =
    let other : b ≢ 10 = none 0 (omega arith) in
    rw (ne_eqb b 10 other) (onto_goes b (lines_of more))
lines_longer (b ∷ c ∷ l) more none some =
    let other : b ≢ 10 = none 0 (omega arith) in
    let tail : GoesOn (c ∷ l) (lines_of ((c ∷ l) ++ more)) = lines_longer (c ∷ l) more (λ k small. none (suc k) (omega arith)) (omega arith) in
    rw (ne_eqb b 10 other) (record {
      line = b ∷ tail.line;
      rest = tail.rest;
      parts = ap (onto_first b) tail.parts;
      longer = let h : length (c ∷ l) ≤ length tail.line = tail.longer in omega arith;
    })

pub lines_last : (l : List ℕ) → NoLf l → 0 < length l → lines_of l ≡ l ∷ []
lines_last [] none some = absurd (omega arith)
lines_last (b ∷ []) none some =
    let other : b ≢ 10 = none 0 (omega arith) in
    rw (ne_eqb b 10 other) refl
lines_last (b ∷ c ∷ l) none some =
    let other : b ≢ 10 = none 0 (omega arith) in
    rw (ne_eqb b 10 other) (ap (onto_first b) (lines_last (c ∷ l) (λ k small. none (suc k) (omega arith)) (omega arith)))

-- the lines of a text go on with those of its rest
pub lines_joined : (ls : List (List ℕ)) (rest : List ℕ) → AllByRecursion NoLf ls → lines_of (joined ls ++ rest) ≡ ls ++ lines_of rest
lines_joined [] rest clean = refl
lines_joined (l ∷ ls) rest clean =
    ap lines_of (append_assoc l (10 ∷ joined ls) rest) ∙ lines_front l (joined ls ++ rest) clean.0 ∙ ap (λ x. l ∷ x) (lines_joined ls rest clean.1)

pub joined_more : (ls : List (List ℕ)) (l : List ℕ) → joined (ls ++ l ∷ []) ≡ joined ls ++ (l ++ 10 ∷ [])
joined_more [] l = refl
joined_more (k ∷ ls) l = ap (λ x. k ++ 10 ∷ x) (joined_more ls l) ∙ sym (append_assoc k (10 ∷ joined ls) (l ++ 10 ∷ []))

pub clean_more : (ls : List (List ℕ)) (l : List ℕ) → AllByRecursion NoLf ls → NoLf l → AllByRecursion NoLf (ls ++ l ∷ [])
clean_more [] l clean none = (none, tt)
clean_more (k ∷ ls) l clean none = (clean.0, clean_more ls l clean.1 none)
