-- What stands in bytes one behind the other is read in one way, where what begins them is one thing and leaves less.
use Rattle.std.proofs.Common.{◌≡◌, ℕ, ◌<◌, List, [], ◌∷◌, length, refl, ap, subst, sym, arith}
use Rattle.zevlodek_c.specs.Spelled.{Spelled}

abbrev pub Shrinks : {A : Type 0} → (A → List ℕ → List ℕ → Type 0) → Type 0
Shrinks {A} begins = (x : A) (bytes rest : List ℕ) → begins x bytes rest → length rest < length bytes

-- two things that begin the same bytes are one, and leave the same
pub record IsSame {A : Type 0} (x y : A) (r s : List ℕ) : Type 0 where
  pub thing : x ≡ y
  pub rest : r ≡ s

abbrev pub IsOne : {A : Type 0} → (A → List ℕ → List ℕ → Type 0) → Type 0
IsOne {A} begins = (x y : A) (bytes r s : List ℕ) → begins x bytes r → begins y bytes s → IsSame x y r s

-- what is left of things behind the one that begins the bytes
pub record IsLeft {A : Type 0} (begins : A → List ℕ → List ℕ → Type 0) (x : A) (rest : List ℕ) (all : List A) : Type 0 where
  pub more : List A
  pub spelled : Spelled begins more rest
  pub all_are : all ≡ x ∷ more

pub left_behind : {A : Type 0} (begins : A → List ℕ → List ℕ → Type 0) → Shrinks begins → IsOne begins
    → (x : A) (bytes rest : List ℕ) → begins x bytes rest → (all : List A) → Spelled begins all bytes → IsLeft begins x rest all
left_behind begins less one x bytes rest b [] e = absurd (omega (arith, ap length e, less x bytes rest b))
left_behind begins less one x bytes rest b (y ∷ ys) (other, c, s) =
    let same : IsSame x y rest other = one x y bytes rest other b c in
    record {
      more = ys;
      spelled = subst (λ (l : List ℕ). Spelled begins ys l) (sym same.rest) s;
      all_are = ap (λ z. z ∷ ys) (sym same.thing);
    }

-- where nothing begins bytes that are there, nothing stands in them
pub none_begins : {A : Type 0} (begins : A → List ℕ → List ℕ → Type 0) (bytes : List ℕ)
    → ((x : A) (rest : List ℕ) → begins x bytes rest → ⊥) → (length bytes ≡ 0 → ⊥) → (all : List A) → Spelled begins all bytes → ⊥
none_begins begins bytes none some [] e = some (ap length e)
none_begins begins bytes none some (x ∷ xs) (rest, b, s) = none x rest b

-- where no bytes are, nothing stands
pub nothing_left : {A : Type 0} (begins : A → List ℕ → List ℕ → Type 0) → Shrinks begins → (bytes : List ℕ) → length bytes ≡ 0
    → (all : List A) → Spelled begins all bytes → all ≡ []
nothing_left begins less bytes none [] e = refl
nothing_left begins less bytes none (x ∷ xs) (rest, b, s) = absurd (omega (arith, none, less x bytes rest b))
