-- Identifiers of one level: the level, its bits and its bytes.
use Rattle.std.proofs.Common.{◌≡◌, ℕ, zero, suc, ◌^◌, ◌<◌, List, [], ◌∷◌, ◌++◌, length, get_or, true, ◌==◌, ◌&&◌, nat_eq, refl, ◌∙◌, ap, subst, arith}
use Rattle.std.proofs.lemmas.Nat.{xor_lt}
use Rattle.std.specs.Cmp.Lexicographic.{pointwise}
use Rattle.nfca_poll.specs.Levels.{bcc, level}

-- a list of four is its four parts
four_parts : (id : List ℕ) → length id ≡ 4 → (get_or id 0 0 ∷ get_or id 1 0 ∷ get_or id 2 0 ∷ get_or id 3 0 ∷ []) ≡ id
four_parts [] h = absurd (omega (arith, h))
four_parts (a ∷ []) h = absurd (omega (arith, h))
four_parts (a ∷ b ∷ []) h = absurd (omega (arith, h))
four_parts (a ∷ b ∷ c ∷ []) h = absurd (omega (arith, h))
four_parts (a ∷ b ∷ c ∷ d ∷ []) h = refl
four_parts (a ∷ b ∷ c ∷ d ∷ e ∷ id) h = absurd (omega (arith, h))

-- what holds of four bytes holds of a list of four
pub by_four : (P : List ℕ → Type 0) → ((a b c d : ℕ) → P (a ∷ b ∷ c ∷ d ∷ [])) → (id : List ℕ) → length id ≡ 4 → P id
by_four P f id h = subst P (four_parts id h) (f (get_or id 0 0) (get_or id 1 0) (get_or id 2 0) (get_or id 3 0))

pub bcc_fits : (id : List ℕ) → ((i : ℕ) → get_or id i 0 < 256) → bcc id < 256
bcc_fits id h =
    let a : get_or id 0 0 < 2 ^ 8 = h 0 in
    let b : get_or id 1 0 < 2 ^ 8 = h 1 in
    let c : get_or id 2 0 < 2 ^ 8 = h 2 in
    let d : get_or id 3 0 < 2 ^ 8 = h 3 in
    xor_lt 8 _ _ (xor_lt 8 _ _ (xor_lt 8 _ _ a b) c) d

appended_fits : (xs : List ℕ) (x : ℕ) → ((i : ℕ) → get_or xs i 0 < 256) → x < 256 → (i : ℕ) → get_or (xs ++ x ∷ []) i 0 < 256
appended_fits [] x h k zero = k
appended_fits [] x h k (suc i) = h i
appended_fits (a ∷ xs) x h k zero = h 0
appended_fits (a ∷ xs) x h k (suc i) = appended_fits xs x (λ j. h (suc j)) k i

pub level_fits : (id : List ℕ) → ((i : ℕ) → get_or id i 0 < 256) → (i : ℕ) → get_or (level id) i 0 < 256
level_fits id h i = appended_fits id (bcc id) h (bcc_fits id h) i

pub length_of_level : (id : List ℕ) → length id ≡ 4 → length (level id) ≡ 5
length_of_level = by_four (λ id. length (level id) ≡ 5) (λ a b c d. refl)

same_number : (n : ℕ) → nat_eq n n ≡ true
same_number n = grind arith

pub pointwise_self : (xs : List ℕ) → pointwise nat_eq xs xs ≡ true
pointwise_self [] = refl
pointwise_self (x ∷ xs) = ap (λ v. v && pointwise nat_eq xs xs) (same_number x) ∙ pointwise_self xs

-- the check byte of a level is right
pub level_checks : (id : List ℕ) → length id ≡ 4 → (get_or (level id) 4 0 == bcc (level id)) ≡ true
level_checks = by_four (λ id. (get_or (level id) 4 0 == bcc (level id)) ≡ true) (λ a b c d. same_number (bcc (a ∷ b ∷ c ∷ d ∷ [])))
