-- The cascade levels of an identifier, one by one.
use Rattle.std.proofs.Common.{◌≡◌, ℕ, zero, suc, ◌-◌, ◌*◌, ◌≤◌, List, [], ◌∷◌, length, take, drop, get_or, ◌==◌, if◌then◌else◌, refl, subst, inl, inr, arith}
use Rattle.nfca_poll.specs.Ident.{cascade_tag, IsIdentLength}
use Rattle.nfca_poll.specs.Levels.{level, levels}
use Rattle.nfca_poll.specs.Front.{level_at}
use Rattle.nfca_poll.proofs.quiet.OneLevel.{by_four}

-- what holds of seven and of ten bytes holds of lists of so many
seven_parts : (id : List ℕ) → length id ≡ 7 → (get_or id 0 0 ∷ get_or id 1 0 ∷ get_or id 2 0 ∷ drop 3 id) ≡ id
seven_parts [] h = absurd (omega (arith, h))
seven_parts (a ∷ []) h = absurd (omega (arith, h))
seven_parts (a ∷ b ∷ []) h = absurd (omega (arith, h))
seven_parts (a ∷ b ∷ c ∷ id) h = refl

length_three : (id : List ℕ) (n : ℕ) → length id ≡ suc (suc (suc n)) → length (drop 3 id) ≡ n
length_three [] n h = absurd (omega (arith, h))
length_three (a ∷ []) n h = absurd (omega (arith, h))
length_three (a ∷ b ∷ []) n h = absurd (omega (arith, h))
length_three (a ∷ b ∷ c ∷ id) n h = omega (arith, h)

pub by_seven : (P : List ℕ → Type 0) → ((a b c d e f g : ℕ) → P (a ∷ b ∷ c ∷ d ∷ e ∷ f ∷ g ∷ [])) → (id : List ℕ) → length id ≡ 7 → P id
by_seven P p id h =
    let x : ℕ = get_or id 0 0 in
    let y : ℕ = get_or id 1 0 in
    let z : ℕ = get_or id 2 0 in
    subst P (seven_parts id h) (by_four (λ rest. P (x ∷ y ∷ z ∷ rest)) (λ d e f g. p x y z d e f g) (drop 3 id) (length_three id 4 h))

ten_parts : (id : List ℕ) → length id ≡ 10 → (get_or id 0 0 ∷ get_or id 1 0 ∷ get_or id 2 0 ∷ drop 3 id) ≡ id
ten_parts [] h = absurd (omega (arith, h))
ten_parts (a ∷ []) h = absurd (omega (arith, h))
ten_parts (a ∷ b ∷ []) h = absurd (omega (arith, h))
ten_parts (a ∷ b ∷ c ∷ id) h = refl

pub by_ten : (P : List ℕ → Type 0) → ((a b c d e f g h i j : ℕ) → P (a ∷ b ∷ c ∷ d ∷ e ∷ f ∷ g ∷ h ∷ i ∷ j ∷ [])) → (id : List ℕ) → length id ≡ 10 → P id
by_ten P p id k =
    let x : ℕ = get_or id 0 0 in
    let y : ℕ = get_or id 1 0 in
    let z : ℕ = get_or id 2 0 in
    subst P (ten_parts id k) (by_seven (λ rest. P (x ∷ y ∷ z ∷ rest)) (λ d e f g h i j. p x y z d e f g h i j) (drop 3 id) (length_three id 7 k))

-- what holds of one, two and three levels holds of each identifier
pub by_length : (P : List ℕ → Type 0) → ((id : List ℕ) → length id ≡ 4 → P id) → ((id : List ℕ) → length id ≡ 7 → P id) → ((id : List ℕ) → length id ≡ 10 → P id)
    → (id : List ℕ) → IsIdentLength (length id) → P id
by_length P one two three id (inl h) = one id h
by_length P one two three id (inr (inl h)) = two id h
by_length P one two three id (inr (inr h)) = three id h

-- how many levels
pub levels_count : (id : List ℕ) → IsIdentLength (length id) → length (levels id) ≡ (if length id == 4 then 1 else if length id == 7 then 2 else 3)
levels_count =
    by_length (λ id. length (levels id) ≡ (if length id == 4 then 1 else if length id == 7 then 2 else 3))
    (by_four (λ id. length (levels id) ≡ (if length id == 4 then 1 else if length id == 7 then 2 else 3)) (λ a b c d. refl))
    (by_seven (λ id. length (levels id) ≡ (if length id == 4 then 1 else if length id == 7 then 2 else 3)) (λ a b c d e f g. refl))
    (by_ten (λ id. length (levels id) ≡ (if length id == 4 then 1 else if length id == 7 then 2 else 3)) (λ a b c d e f g h i j. refl))

-- a level by the bytes that are left for it
abbrev pub part : List ℕ → List ℕ
part rest = if length rest == 4 then level rest else level (cascade_tag ∷ take 3 rest)

-- Where level k is asked for, this many bytes are left.
pub record LevelPart (id : List ℕ) (k : ℕ) : Type 0 where
  pub is : level_at (levels id) k ≡ part (drop (3 * (k - 1)) id)
  pub some : 4 ≤ length (drop (3 * (k - 1)) id)
  pub held : 3 * (k - 1) ≤ length id

one_level : (k : ℕ) → 1 ≤ k → k ≤ 1 → (a b c d : ℕ) → LevelPart (a ∷ b ∷ c ∷ d ∷ []) k
one_level zero l h a b c d = absurd (omega (arith, l))
one_level (suc zero) l h a b c d = record { is = refl; some = omega arith; held = omega arith }
one_level (suc (suc k)) l h a b c d = absurd (omega (arith, h))

two_levels : (k : ℕ) → 1 ≤ k → k ≤ 2 → (a b c d e f g : ℕ) → LevelPart (a ∷ b ∷ c ∷ d ∷ e ∷ f ∷ g ∷ []) k
two_levels zero l i a b c d e f g = absurd (omega (arith, l))
two_levels (suc zero) l i a b c d e f g = record { is = refl; some = omega arith; held = omega arith }
two_levels (suc (suc zero)) l i a b c d e f g = record { is = refl; some = omega arith; held = omega arith }
two_levels (suc (suc (suc k))) l i a b c d e f g = absurd (omega (arith, i))

three_levels : (k : ℕ) → 1 ≤ k → k ≤ 3 → (a b c d e f g h i j : ℕ) → LevelPart (a ∷ b ∷ c ∷ d ∷ e ∷ f ∷ g ∷ h ∷ i ∷ j ∷ []) k
three_levels zero l m a b c d e f g h i j = absurd (omega (arith, l))
three_levels (suc zero) l m a b c d e f g h i j = record { is = refl; some = omega arith; held = omega arith }
three_levels (suc (suc zero)) l m a b c d e f g h i j = record { is = refl; some = omega arith; held = omega arith }
three_levels (suc (suc (suc zero))) l m a b c d e f g h i j = record { is = refl; some = omega arith; held = omega arith }
three_levels (suc (suc (suc (suc k)))) l m a b c d e f g h i j = absurd (omega (arith, m))

pub level_part : (k : ℕ) → 1 ≤ k → (id : List ℕ) → IsIdentLength (length id) → k ≤ length (levels id) → LevelPart id k
level_part k l =
    by_length (λ id. k ≤ length (levels id) → LevelPart id k)
    (by_four (λ id. k ≤ length (levels id) → LevelPart id k) (λ a b c d h. one_level k l h a b c d))
    (by_seven (λ id. k ≤ length (levels id) → LevelPart id k) (λ a b c d e f g h. two_levels k l h a b c d e f g))
    (by_ten (λ id. k ≤ length (levels id) → LevelPart id k) (λ a b c d e f g h i j q. three_levels k l q a b c d e f g h i j))

pub first_three : (rest : List ℕ) → 4 ≤ length rest → (get_or rest 0 0 ∷ get_or rest 1 0 ∷ get_or rest 2 0 ∷ []) ≡ take 3 rest
first_three [] h = absurd (omega (arith, h))
first_three (a ∷ []) h = absurd (omega (arith, h))
first_three (a ∷ b ∷ []) h = absurd (omega (arith, h))
first_three (a ∷ b ∷ c ∷ rest) h = refl
