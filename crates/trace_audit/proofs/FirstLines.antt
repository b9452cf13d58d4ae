-- The first lines of a text that begins with whole lines.
use Rattle.std.proofs.Common.{◌≡◌, ◌≢◌, ℕ, zero, suc, ◌+◌, ◌<◌, ◌≤◌, List, [], ◌∷◌, ◌++◌, length, take, drop, Bool, true, false, ◌==◌, refl, sym, ◌∙◌, ap, append_assoc, eqb-true, arith}
use Rattle.std.specs.Prelude.{if◌then◌else◌}
use Rattle.std.specs.List.{AllByRecursion}
use Rattle.std.proofs.lemmas.List.{length-append}
use Rattle.std.proofs.Math.Seq.{take-append_seam}
use Rattle.nfc_io.specs.Lines.{whole_lines, onto_whole, NoLf, joined}
use Rattle.nfc_io.proofs.Lines.{whole_front, joined_more, clean_more}
use Rattle.trace_audit.specs.Auditing.{first_lines}

-- the lines of a text go on with those of its rest
pub whole_joined : (ls : List (List ℕ)) (rest : List ℕ) → AllByRecursion NoLf ls → whole_lines (joined ls ++ rest) ≡ ls ++ whole_lines rest
whole_joined [] rest clean = refl
whole_joined (l ∷ ls) rest clean =
    ap whole_lines (append_assoc l (10 ∷ joined ls) rest) ∙ whole_front l (joined ls ++ rest) clean.0 ∙ ap (λ x. l ∷ x) (whole_joined ls rest clean.1)

pub first_joined : (ls : List (List ℕ)) (rest : List ℕ) → AllByRecursion NoLf ls → first_lines (length ls) (joined ls ++ rest) ≡ joined ls
first_joined ls rest clean = ap (λ x. joined (take (length ls) x)) (whole_joined ls rest clean) ∙ ap joined (take-append_seam ls (whole_lines rest))

pub within_joined : (ls : List (List ℕ)) (rest : List ℕ) → AllByRecursion NoLf ls → length ls ≤ length (whole_lines (joined ls ++ rest))
within_joined ls rest clean = omega (arith, ap length (whole_joined ls rest clean), length-append ls (whole_lines rest))

-- a text begins with a whole line
pub record HasLine (text : List ℕ) : Type 0 where
  pub line : List ℕ
  pub rest : List ℕ
  pub clean : NoLf line
  pub is : text ≡ line ++ 10 ∷ rest

onto_some : (b : ℕ) (ws : List (List ℕ)) → 0 < length (onto_whole b ws) → 0 < length ws
onto_some b [] some = some
onto_some b (w ∷ ws) some = omega arith

no_lf_onto : (b : ℕ) (l : List ℕ) → b ≢ 10 → NoLf l → NoLf (b ∷ l)
no_lf_onto b l other clean zero small = other
no_lf_onto b l other clean (suc k) small = clean k (omega arith)

line_onto : (b : ℕ) (bs : List ℕ) → b ≢ 10 → HasLine bs → HasLine (b ∷ bs)
line_onto b bs other h = record { line = b ∷ h.line; rest = h.rest; clean = no_lf_onto b h.line other h.clean; is = ap (λ x. b ∷ x) h.is }

pub has_line : (text : List ℕ) → 0 < length (whole_lines text) → HasLine text
has_line [] some = absurd (omega arith)
has_line (b ∷ bs) some = by_lf (b == 10) refl some (λ more. has_line bs more)
  where
    by_lf : (v : Bool) → (b == 10) ≡ v → 0 < length (if v then [] ∷ whole_lines bs else onto_whole b (whole_lines bs)) → (0 < length (whole_lines bs) → HasLine bs) → HasLine (b ∷ bs)
    by_lf true lf more behind = record { line = []; rest = bs; clean = λ k small. absurd (omega arith); is = ap (λ x. x ∷ bs) (eqb-true b 10 lf) }
    by_lf false lacks more behind = line_onto b bs (grind (arith, lacks)) (behind (onto_some b (whole_lines bs) more))

-- one whole line more
pub record FirstMore (ls : List (List ℕ)) (left : List ℕ) : Type 0 where
  pub line : List ℕ
  pub rest : List ℕ
  pub clean : NoLf line
  pub is : left ≡ line ++ 10 ∷ rest
  pub first : first_lines (length ls + 1) (joined ls ++ left) ≡ joined ls ++ (line ++ 10 ∷ [])

pub first_more : (ls : List (List ℕ)) (left : List ℕ) → AllByRecursion NoLf ls → length ls + 1 ≤ length (whole_lines (joined ls ++ left)) → FirstMore ls left
first_more ls left clean more =
    let some : 0 < length (whole_lines left) = omega (arith, more, ap length (whole_joined ls left clean), length-append ls (whole_lines left)) in
    let h : HasLine left = has_line left some in
    let ks : List (List ℕ) = ls ++ h.line ∷ [] in
    let count : length ls + 1 ≡ length ks = omega (arith, length-append ls (h.line ∷ [])) in
    let text : joined ls ++ left ≡ joined ks ++ h.rest =
    ap (λ x. joined ls ++ x) (h.is ∙ sym (append_assoc h.line (10 ∷ []) h.rest)) ∙ sym (append_assoc (joined ls) (h.line ++ 10 ∷ []) h.rest)
    ∙ ap (λ x. x ++ h.rest) (sym (joined_more ls h.line)) in
    record {
      line = h.line;
      rest = h.rest;
      clean = h.clean;
      is = h.is;
      first = ap (λ n. first_lines n (joined ls ++ left)) count ∙ ap (first_lines (length ks)) text ∙ first_joined ks h.rest (clean_more ls h.line clean h.clean) ∙ joined_more ls h.line;
    }

-- Texts that are the same begin with the same line.
head : List ℕ → ℕ
head [] = 0
head (b ∷ bs) = b

pub one_line : (x y r s : List ℕ) → NoLf x → NoLf y → x ++ 10 ∷ r ≡ y ++ 10 ∷ s → (x ≡ y) × (r ≡ s)
unfolding head
one_line [] [] r s clean none e = (refl, ap (drop 1) e)
one_line [] (b ∷ y) r s clean none e = absurd (none 0 (omega arith) (sym (ap head e)))
one_line (b ∷ x) [] r s clean none e = absurd (clean 0 (omega arith) (ap head e))
one_line (b ∷ x) (c ∷ y) r s clean none e =
    let both = one_line x y r s (λ k small. clean (suc k) (omega arith)) (λ k small. none (suc k) (omega arith)) (ap (drop 1) e) in
    (ap (λ v. v ∷ x) (ap head e) ∙ ap (λ l. c ∷ l) both.0, both.1)
