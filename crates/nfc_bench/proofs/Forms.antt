-- The forms of words.
use Rattle.std.proofs.Common.{◌≡◌, ℕ, List, [], ◌∷◌, ◌≤◌, true, false, ◌⊎◌, inl, inr, length, get_or, refl, sym, ◌∙◌, ap, subst, arith}
use Rattle.std.specs.Prelude.{codes}
use Rattle.std.specs.Fmt.{decimal}
use Rattle.std.proofs.lemmas.Fmt.{decimal_injective}
use Rattle.workload.specs.Workload.{IsCount}
use Rattle.nfc_bench.specs.declared.top.words.Form.{Form}
use Rattle.nfc_bench.specs.declared.top.words.Form.TheVariants.{Run, Sweep, Audit, Make}
use Rattle.nfc_bench.specs.Run.{FormOf, most_seed}

-- `run`, `sweep` and `audit` begin with three letters
abbrev first_letter : List (List ℕ) → ℕ
first_letter words = get_or (get_or words 0 []) 0 0

run_or_sweep : (words : List (List ℕ)) → words ≡ codes "run" ∷ [] → words ≡ codes "sweep" ∷ [] → ⊥
run_or_sweep words one two =
    let same : 114 ≡ 115 = sym (ap first_letter one) ∙ ap first_letter two in
    omega (arith, same)

run_or_audit : (words : List (List ℕ)) → words ≡ codes "run" ∷ [] → words ≡ codes "audit" ∷ [] → ⊥
run_or_audit words one two =
    let same : 114 ≡ 97 = sym (ap first_letter one) ∙ ap first_letter two in
    omega (arith, same)

sweep_or_audit : (words : List (List ℕ)) → words ≡ codes "sweep" ∷ [] → words ≡ codes "audit" ∷ [] → ⊥
sweep_or_audit words one two =
    let same : 115 ≡ 97 = sym (ap first_letter one) ∙ ap first_letter two in
    omega (arith, same)

-- no words are of two forms
pub one_form : (words : List (List ℕ)) (f g : Form) → FormOf words f → FormOf words g → f ≡ g
one_form words (Run false) (Run false) one two = refl
one_form words (Run true) (Run true) one two = refl
one_form words (Run false) (Run true) one two = absurd (omega (arith, ap length one, ap length two))
one_form words (Run true) (Run false) one two = absurd (omega (arith, ap length one, ap length two))
one_form words (Run false) (Make seed count) one two = absurd (omega (arith, ap length one, ap length two.0))
one_form words (Run true) (Make seed count) one two = absurd (omega (arith, ap length one, ap length two.0))
one_form words (Make seed count) (Run false) one two = absurd (omega (arith, ap length one.0, ap length two))
one_form words (Make seed count) (Run true) one two = absurd (omega (arith, ap length one.0, ap length two))
one_form words Sweep Sweep one two = refl
one_form words (Run false) Sweep one two = absurd (run_or_sweep words one two)
one_form words Sweep (Run false) one two = absurd (run_or_sweep words two one)
one_form words (Run true) Sweep one two = absurd (omega (arith, ap length one, ap length two))
one_form words Sweep (Run true) one two = absurd (omega (arith, ap length one, ap length two))
one_form words Sweep (Make seed count) one two = absurd (omega (arith, ap length one, ap length two.0))
one_form words (Make seed count) Sweep one two = absurd (omega (arith, ap length one.0, ap length two))
one_form words Audit Audit one two = refl
one_form words (Run false) Audit one two = absurd (run_or_audit words one two)
one_form words Audit (Run false) one two = absurd (run_or_audit words two one)
one_form words (Run true) Audit one two = absurd (omega (arith, ap length one, ap length two))
one_form words Audit (Run true) one two = absurd (omega (arith, ap length one, ap length two))
one_form words Sweep Audit one two = absurd (sweep_or_audit words one two)
one_form words Audit Sweep one two = absurd (sweep_or_audit words two one)
one_form words Audit (Make seed count) one two = absurd (omega (arith, ap length one, ap length two.0))
one_form words (Make seed count) Audit one two = absurd (omega (arith, ap length one.0, ap length two))
one_form words (Make seed count) (Make seed' count') one two =
    let word : ℕ → List (List ℕ) → List ℕ = λ i ws. get_or ws i [] in
    let first : decimal seed ≡ decimal seed' = sym (ap (word 1) one.0) ∙ ap (word 1) two.0 in
    let second : decimal count ≡ decimal count' = sym (ap (word 2) one.0) ∙ ap (word 2) two.0 in
    ap (λ s. Make s count) (decimal_injective seed seed' (omega (arith, one.1)) (omega (arith, two.1)) first)
    ∙ ap (λ n. Make seed' n) (decimal_injective count count' (omega (arith, one.2.1)) (omega (arith, two.2.1)) second)

-- what holds of the form that was seen holds of the form of the words
pub by_form : (words : List (List ℕ)) (seen : Form) → FormOf words seen → (P : Form → Type 0) → P seen → (f : Form) → FormOf words f → P f
by_form words seen is P p f w = subst P (one_form words seen f is w) p

-- a run of either form has another status than words of no form
pub not_six : (n : ℕ) → (n ≡ 0) ⊎ ((2 ≤ n) × (n ≤ 5)) → n ≡ 6 → ⊥
not_six n (inl none) six = omega (arith, none, six)
not_six n (inr some) six = omega (arith, some.1, six)

pub not_six_audit : (n : ℕ) → n ≤ 5 → n ≡ 6 → ⊥
not_six_audit n few six = omega (arith, few, six)

pub not_six_made : (n : ℕ) → (n ≡ 0) ⊎ ((n ≡ 4) ⊎ (n ≡ 5)) → n ≡ 6 → ⊥
not_six_made n (inl none) six = omega (arith, none, six)
not_six_made n (inr (inl four)) six = omega (arith, four, six)
not_six_made n (inr (inr five)) six = omega (arith, five, six)

-- words of another form begin otherwise
pub made_words : (seed count : List ℕ) (form : Form) → FormOf (codes "make" ∷ seed ∷ count ∷ []) form → (s n : ℕ) × (seed ≡ decimal s) × (count ≡ decimal n) × (s ≤ most_seed) × IsCount n
made_words seed count (Run false) is = absurd (omega (arith, ap length is))
made_words seed count (Run true) is = absurd (omega (arith, ap length is))
made_words seed count Sweep is = absurd (omega (arith, ap length is))
made_words seed count Audit is = absurd (omega (arith, ap length is))
made_words seed count (Make s n) (words, few, many) =
    let word : ℕ → List (List ℕ) → List ℕ = λ i ws. get_or ws i [] in (s, n, ap (word 1) words, ap (word 2) words, few, many)
