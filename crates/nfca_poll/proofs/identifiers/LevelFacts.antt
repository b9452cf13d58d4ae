-- What the levels of an identifier are.
use Rattle.std.proofs.Common.{◌≡◌, ℕ, zero, suc, ◌+◌, ◌<◌, ◌≤◌, List, [], ◌∷◌, length, take, get_or, false, ◌==◌, nat_lt, refl, inl, inr, arith}
use Rattle.nfca_poll.specs.Ident.{IsIdent, cascade_tag}
use Rattle.nfca_poll.specs.Levels.{level, levels, cascades}
use Rattle.nfca_poll.specs.Crowd.{Each}
use Rattle.nfca_poll.proofs.quiet.OneLevel.{by_four, level_fits, length_of_level}
use Rattle.nfca_poll.proofs.identifiers.LevelParts.{by_seven, by_ten, by_length}

-- five bytes of which the last is the check byte
pub record IsLevel (l : List ℕ) : Type 0 where
  pub size : length l ≡ 5
  pub bytes : (i : ℕ) → get_or l i 0 < 256
  pub check : l ≡ level (take 4 l)

-- One to three levels. The first two say by their first byte whether another one follows.
pub record IsLevels (ls : List (List ℕ)) : Type 0 where
  pub some : 0 < length ls
  pub few : length ls ≤ 3
  pub each : Each IsLevel ls
  pub marks : (j : ℕ) → j < length ls → j < 2 → cascades (get_or ls j []) ≡ nat_lt (j + 1) (length ls)

level_is : (id : List ℕ) → length id ≡ 4 → ((i : ℕ) → get_or id i 0 < 256) → IsLevel (level id)
level_is id h fits = record {
  size = length_of_level id h;
  bytes = level_fits id fits;
  check = by_four (λ x. level x ≡ level (take 4 (level x))) (λ a b c d. refl) id h;
}

tagged : (a b c : ℕ) → a < 256 → b < 256 → c < 256 → (i : ℕ) → get_or (cascade_tag ∷ a ∷ b ∷ c ∷ []) i 0 < 256
tagged a b c h k l zero = omega arith
tagged a b c h k l (suc zero) = h
tagged a b c h k l (suc (suc zero)) = k
tagged a b c h k l (suc (suc (suc zero))) = l
tagged a b c h k l (suc (suc (suc (suc i)))) = omega arith

four : (a b c d : ℕ) → a < 256 → b < 256 → c < 256 → d < 256 → (i : ℕ) → get_or (a ∷ b ∷ c ∷ d ∷ []) i 0 < 256
four a b c d h k l m zero = h
four a b c d h k l m (suc zero) = k
four a b c d h k l m (suc (suc zero)) = l
four a b c d h k l m (suc (suc (suc zero))) = m
four a b c d h k l m (suc (suc (suc (suc i)))) = omega arith

other : (n : ℕ) → (n ≡ cascade_tag → ⊥) → (n == cascade_tag) ≡ false
other n h = grind arith

one : (a b c d : ℕ) → IsIdent (a ∷ b ∷ c ∷ d ∷ []) → IsLevels (levels (a ∷ b ∷ c ∷ d ∷ []))
one a b c d i = record { some = omega arith; few = omega arith; each = (level_is (a ∷ b ∷ c ∷ d ∷ []) refl i.bytes, tt); marks = marks }
  where
    marks : (j : ℕ) → j < 1 → j < 2 → cascades (get_or (level (a ∷ b ∷ c ∷ d ∷ []) ∷ []) j []) ≡ nat_lt (j + 1) 1
    marks zero h k = other a (λ e. i.cascade (inl (refl, e)))
    marks (suc j) h k = absurd (omega (arith, h))

two : (a b c d e f g : ℕ) → IsIdent (a ∷ b ∷ c ∷ d ∷ e ∷ f ∷ g ∷ []) → IsLevels (levels (a ∷ b ∷ c ∷ d ∷ e ∷ f ∷ g ∷ []))
two a b c d e f g i = record {
  some = omega arith;
  few = omega arith;
  each = (
    level_is (cascade_tag ∷ a ∷ b ∷ c ∷ []) refl (tagged a b c (i.bytes 0) (i.bytes 1) (i.bytes 2)),
    (level_is (d ∷ e ∷ f ∷ g ∷ []) refl (four d e f g (i.bytes 3) (i.bytes 4) (i.bytes 5) (i.bytes 6)), tt),
  );
  marks = marks;
}
  where
    marks : (j : ℕ) → j < 2 → j < 2 → cascades (get_or (level (cascade_tag ∷ a ∷ b ∷ c ∷ []) ∷ level (d ∷ e ∷ f ∷ g ∷ []) ∷ []) j []) ≡ nat_lt (j + 1) 2
    marks zero h k = refl
    marks (suc zero) h k = other d (λ e. i.cascade (inr (refl, e)))
    marks (suc (suc j)) h k = absurd (omega (arith, h))

three : (a b c d e f g h j k : ℕ) → IsIdent (a ∷ b ∷ c ∷ d ∷ e ∷ f ∷ g ∷ h ∷ j ∷ k ∷ []) → IsLevels (levels (a ∷ b ∷ c ∷ d ∷ e ∷ f ∷ g ∷ h ∷ j ∷ k ∷ []))
three a b c d e f g h j k i = record {
  some = omega arith;
  few = omega arith;
  each = (
    level_is (cascade_tag ∷ a ∷ b ∷ c ∷ []) refl (tagged a b c (i.bytes 0) (i.bytes 1) (i.bytes 2)),
    (
      level_is (cascade_tag ∷ d ∷ e ∷ f ∷ []) refl (tagged d e f (i.bytes 3) (i.bytes 4) (i.bytes 5)),
      (level_is (g ∷ h ∷ j ∷ k ∷ []) refl (four g h j k (i.bytes 6) (i.bytes 7) (i.bytes 8) (i.bytes 9)), tt),
    ),
  );
  marks = marks;
}
  where
    marks : (n : ℕ) → n < 3 → n < 2 → cascades (get_or (level (cascade_tag ∷ a ∷ b ∷ c ∷ []) ∷ level (cascade_tag ∷ d ∷ e ∷ f ∷ []) ∷ level (g ∷ h ∷ j ∷ k ∷ []) ∷ []) n []) ≡ nat_lt (n + 1) 3
    marks zero l m = refl
    marks (suc zero) l m = refl
    marks (suc (suc n)) l m = absurd (omega (arith, m))

pub levels_are : (id : List ℕ) → IsIdent id → IsLevels (levels id)
levels_are id i =
    by_length (λ x. IsIdent x → IsLevels (levels x)) (by_four (λ x. IsIdent x → IsLevels (levels x)) one) (by_seven (λ x. IsIdent x → IsLevels (levels x)) two)
    (by_ten (λ x. IsIdent x → IsLevels (levels x)) three) id i.size i
