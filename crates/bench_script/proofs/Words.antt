-- Words are cut off the front of a text.
use Rattle.std.proofs.Common.{◌≡◌, ◌≢◌, ℕ, zero, suc, ◌+◌, ◌<◌, List, [], ◌∷◌, length, get_or, take, drop, Bool, true, false, ◌==◌, refl, ap, arith}
use Rattle.std.specs.List.{onto_first}
use Rattle.std.specs.Prelude.{if◌then◌else◌}
use Rattle.std.proofs.lemmas.Bool.{eq-eqb, ne_eqb}
use Rattle.bench_script.specs.Script.{words_of}

-- the first word ends at the first space
pub words_cut : (t : List ℕ) (i : ℕ) → i < length t → ((k : ℕ) → k < i → get_or t k 0 ≢ 32) → get_or t i 0 ≡ 32
    → words_of t ≡ take i t ∷ words_of (drop (i + 1) t)
words_cut [] i h none here = absurd (omega arith)
words_cut (b ∷ t) zero h none here = rw (eq-eqb b 32 here) refl
words_cut (b ∷ t) (suc i) h none here =
    let other : b ≢ 32 = none 0 (omega arith) in
    let at : suc i + 1 ≡ suc (i + 1) = omega arith in
    rw (ne_eqb b 32 other)
    (rw at (ap (onto_first b) (words_cut t i (omega arith) (λ k small. none (suc k) (omega arith)) here)))

-- a text with no space is one word
pub words_end : (t : List ℕ) → ((k : ℕ) → k < length t → get_or t k 0 ≢ 32) → words_of t ≡ t ∷ []
words_end [] none = refl
words_end (b ∷ t) none =
    let other : b ≢ 32 = none 0 (omega arith) in
    rw (ne_eqb b 32 other) (ap (onto_first b) (words_end t (λ k small. none (suc k) (omega arith))))

-- there is a word in each text
pub onto_not_nil : (b : ℕ) (ws : List (List ℕ)) → onto_first b ws ≢ []
onto_not_nil b [] e = cc
onto_not_nil b (w ∷ ws) e = cc

pub onto_if : (v : Bool) (b : ℕ) (ws : List (List ℕ)) → (if v then [] ∷ ws else onto_first b ws) ≢ []
onto_if true b ws e = cc
onto_if false b ws e = onto_not_nil b ws e

pub words_not_nil : (t : List ℕ) → words_of t ≢ []
words_not_nil [] e = cc
words_not_nil (b ∷ t) e =
    onto_if (b == 32) b (words_of t) e
