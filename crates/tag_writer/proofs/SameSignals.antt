-- Two frames, or two lists of frames, are the same or they differ.
use Rattle.std.proofs.Common.{◌≡◌, inl, inr, ℕ, List, [], ◌∷◌, refl, sym, ◌∙◌, ap, arith}
use Rattle.std.specs.Prelude.{◌⊎◌, ◌==◌, true, false}
use Rattle.std.proofs.lemmas.Bool.{cases_Bool}
use Rattle.nfc_base.specs.Signal.{Signal}
use Rattle.nfc_base.specs.declared.frame.Tech.{Tech}
use Rattle.nfc_base.specs.declared.frame.Tech.TheVariants.{A, V, F}

-- the same, or not
abbrev pub IsSameOrNot : {X : Type 0} → X → X → Type 0
IsSameOrNot x y = (x ≡ y) ⊎ (x ≡ y → ⊥)

numbers : (m n : ℕ) → IsSameOrNot m n
numbers m n = elim (cases_Bool (m == n)) [
  | inl same ↦ inl (grind (arith, same))
  | inr other ↦ inr (λ e. (let yes_ : (m == n) ≡ true = grind (arith, e) in let no_ : true ≡ false = sym yes_ ∙ other in cc))
]

pub lists : {X : Type 0} → ((x y : X) → IsSameOrNot x y) → (xs ys : List X) → IsSameOrNot xs ys
lists same [] [] = inl refl
lists same [] (y ∷ ys) = inr (λ e. cc)
lists same (x ∷ xs) [] = inr (λ e. cc)
lists same (x ∷ xs) (y ∷ ys) = elim (same x y) [
  | inl first ↦ elim (lists same xs ys) [
    | inl rest ↦ inl (ap (λ z. z ∷ xs) first ∙ ap (λ zs. y ∷ zs) rest)
    | inr other ↦ inr (λ e. other (let tail : xs ≡ ys = cc in tail))
  ]
  | inr other ↦ inr (λ e. other (let head : x ≡ y = cc in head))
]

technologies : (x y : Tech) → IsSameOrNot x y
technologies A A = inl refl
technologies V V = inl refl
technologies A V = inr (λ e. cc)
technologies V A = inr (λ e. cc)
technologies F F = inl refl
technologies A F = inr (λ e. cc)
technologies V F = inr (λ e. cc)
technologies F A = inr (λ e. cc)
technologies F V = inr (λ e. cc)

pub signals : (x y : Signal) → IsSameOrNot x y
signals x y = elim (technologies x.tech y.tech) [
  | inl tech ↦ elim (lists numbers x.bytes y.bytes) [
    | inl bytes ↦ elim (numbers x.tail y.tail) [
      | inl tail ↦
          inl (ap {B = Signal} (λ (t : Tech). record { tech = t; bytes = x.bytes; tail = x.tail }) tech
          ∙ ap {B = Signal} (λ (b : List ℕ). record { tech = y.tech; bytes = b; tail = x.tail }) bytes
          ∙ ap {B = Signal} (λ (n : ℕ). record { tech = y.tech; bytes = y.bytes; tail = n }) tail)
      | inr other ↦ inr (λ e. other (ap (λ f. f.tail) e))
    ]
    | inr other ↦ inr (λ e. other (ap (λ f. f.bytes) e))
  ]
  | inr other ↦ inr (λ e. other (ap (λ f. f.tech) e))
]
