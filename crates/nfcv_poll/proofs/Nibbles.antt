-- The slots of an identifier, one behind the other: its bits four by four, the lowest first.
use Rattle.std.proofs.Common.{◌≡◌, ◌<◌, ◌≤◌, ℕ, zero, suc, ◌+◌, ◌-◌, ◌*◌, ◌/◌, ◌%◌, ◌^◌, min, List, [], ◌∷◌, ◌++◌, length, take, get_or, true, ◌&&◌, nat_eq, nat_le, refl, sym, ◌∙◌, ap, subst, arith}
use Rattle.std.proofs.lemmas.List.{length-reverse}
use Rattle.std.proofs.lemmas.Nat.{pow-add}
use Rattle.std.proofs.Math.Nat.{div-div-eq-div-mul}
use Rattle.std.specs.Cmp.Lexicographic.{pointwise}
use Rattle.std.specs.Int.{w64, from_be_bytes}
use Rattle.nfca_poll.specs.Crowd.{Each}
use Rattle.t5t_tag.specs.Mask.{low_first, mask_size, kept, mask_of}
use Rattle.t5t_tag.specs.Slots.{slot_of, asks_in_slots}
use Rattle.t5t_tag.specs.Store.{id_size}
use Rattle.t5t_tag.proofs.Bytes.{bytes_self, is_at_most}
use Rattle.nfcv_poll.proofs.Alike.{Eight, eight_of}
use Rattle.nfcv_poll.proofs.Paths.{IsPath, mask_by, packed, mask_packed}
use Rattle.nfcv_poll.proofs.Together.{mask_bytes}
use Rattle.t5t_tag.proofs.Inventories.{take_none}

abbrev pub nibbles : List ℕ → List ℕ
nibbles [] = []
nibbles (b ∷ bs) = b % 16 ∷ b / 16 ∷ nibbles bs

pub length_nibbles : (bs : List ℕ) → length (nibbles bs) ≡ 2 * length bs
length_nibbles [] = refl
length_nibbles (b ∷ bs) = omega (arith, length_nibbles bs)

-- a mask of so many of them has them two in a byte
kept_packed : (bs : List ℕ) (n : ℕ) → Each (λ b. b < 256) bs → n ≤ 2 * length bs → take (mask_size (4 * n)) (kept (4 * n) bs) ≡ packed (take n (nibbles bs))
kept_packed bs zero small fits = take_none (kept 0 bs) ∙ sym (ap packed (take_none (nibbles bs)))
kept_packed [] (suc n) small fits = absurd (let f : suc n ≤ 0 = fits in omega (arith, f))
kept_packed (b ∷ bs) (suc zero) small fits =
    ap (λ xs. b % 16 ∷ xs) (take_none (kept 0 bs)) ∙ sym (ap (λ xs. packed (b % 16 ∷ xs)) (take_none (b / 16 ∷ nibbles bs)))
kept_packed (b ∷ bs) (suc (suc n)) small fits =
    let size : mask_size (4 * suc (suc n)) ≡ suc (mask_size (4 * n)) = omega arith in
    let eight : min (4 * suc (suc n)) 8 ≡ 8 = omega arith in
    let rest : 4 * suc (suc n) - 8 ≡ 4 * n = omega arith in
    let low : b % 256 ≡ b % 16 + 16 * (b / 16) = omega (arith, small.0) in
    ap (λ k. take k (kept (4 * suc (suc n)) (b ∷ bs))) size
    ∙ ap (λ k. b % 2 ^ k ∷ take (mask_size (4 * n)) (kept (4 * suc (suc n) - 8) bs)) eight
    ∙ ap (λ k. b % 256 ∷ take (mask_size (4 * n)) (kept k bs)) rest
    ∙ ap (λ c. c ∷ take (mask_size (4 * n)) (kept (4 * n) bs)) low
    ∙ ap (λ xs. (b % 16 + 16 * (b / 16)) ∷ xs) (kept_packed bs n small.1 (let f : suc (suc n) ≤ 2 * suc (length bs) = fits in omega (arith, f)))

-- the number of bytes, low byte first
abbrev value_low : List ℕ → ℕ
value_low [] = 0
value_low (b ∷ bs) = b + 256 * value_low bs

-- its next four bits behind so many
four_of : (bs : List ℕ) (n : ℕ) → Each (λ b. b < 256) bs → n < 2 * length bs → value_low bs / 2 ^ (4 * n) % 16 ≡ get_or (nibbles bs) n 0
four_of [] n small fits = absurd (let f : n < 0 = fits in omega (arith, f))
four_of (b ∷ bs) zero small fits = omega arith
four_of (b ∷ bs) (suc zero) small fits = omega (arith, small.0)
four_of (b ∷ bs) (suc (suc n)) small fits =
    let v : ℕ = value_low bs in
    let pow : 2 ^ (4 * suc (suc n)) ≡ 256 * 2 ^ (4 * n) = ap (λ k. 2 ^ k) (let e : 4 * suc (suc n) ≡ 8 + 4 * n = omega arith in e) ∙ pow-add 2 8 (4 * n) in
    let high : (b + 256 * v) / 256 ≡ v = omega (arith, small.0) in
    ap (λ k. (b + 256 * v) / k % 16) pow
    ∙ ap (λ k. k % 16) (sym (div-div-eq-div-mul (b + 256 * v) 256 (2 ^ (4 * n))))
    ∙ ap (λ k. k / 2 ^ (4 * n) % 16) high
    ∙ four_of bs n small.1 (let f : suc (suc n) < 2 * suc (length bs) = fits in omega (arith, f))

-- the first so many, and the next one
pub take_next : (xs : List ℕ) (n : ℕ) → n < length xs → take (suc n) xs ≡ take n xs ++ get_or xs n 0 ∷ []
take_next [] n h = absurd (let f : n < 0 = h in omega (arith, f))
take_next (x ∷ xs) zero h = ap (λ ys. x ∷ ys) (take_none xs)
take_next (x ∷ xs) (suc n) h = ap (λ ys. x ∷ ys) (take_next xs n (let f : suc n < suc (length xs) = h in omega (arith, f)))

horner : (a b c d e f g h : ℕ) → from_be_bytes w64 (a ∷ b ∷ c ∷ d ∷ e ∷ f ∷ g ∷ h ∷ []) ≡ value_low (h ∷ g ∷ f ∷ e ∷ d ∷ c ∷ b ∷ a ∷ [])
horner a b c d e f g h = omega arith

-- the slots of an identifier
abbrev pub slots_of : List ℕ → List ℕ
slots_of id = nibbles (low_first id)

-- they begin with these
abbrev pub BeginsWith : List ℕ → List ℕ → Type 0
BeginsWith p id = p ≡ take (length p) (slots_of id)

each_reversed : (a b c d e f g h : ℕ) → Each (λ x. x < 256) (a ∷ b ∷ c ∷ d ∷ e ∷ f ∷ g ∷ h ∷ []) → Each (λ x. x < 256) (h ∷ g ∷ f ∷ e ∷ d ∷ c ∷ b ∷ a ∷ [])
each_reversed a b c d e f g h s = (s.1.1.1.1.1.1.1.0, (s.1.1.1.1.1.1.0, (s.1.1.1.1.1.0, (s.1.1.1.1.0, (s.1.1.1.0, (s.1.1.0, (s.1.0, (s.0, tt))))))))

-- An identifier of eight bytes.
module _ (id : List ℕ) (long : length id ≡ id_size) (small : Each (λ b. b < 256) id) where
  low_small : Each (λ b. b < 256) (low_first id)
  low_small = by_eight (eight_of id long)
    where
      by_eight : Eight id → Each (λ b. b < 256) (low_first id)
      by_eight u =
          let S : List ℕ → Type 0 = λ i. Each (λ b. b < 256) (low_first i) in
          subst S (sym u.is) (each_reversed u.a u.b u.c u.d u.e u.f u.g u.h (subst (Each (λ b. b < 256)) u.is small))

  low_long : length (low_first id) ≡ 8
  low_long = length-reverse id ∙ long

  pub length_slots : length (slots_of id) ≡ 16
  length_slots = omega (arith, length_nibbles (low_first id), low_long)

  -- the slot behind so many is the next one
  pub slot_is_next : (n : ℕ) → n ≤ 15 → slot_of id (4 * n) ≡ get_or (slots_of id) n 0
  slot_is_next n few =
      value_is (eight_of id long) ∙ four_of (low_first id) n low_small (omega (arith, few, low_long))
    where
      value_is : Eight id → slot_of id (4 * n) ≡ value_low (low_first id) / 2 ^ (4 * n) % 16
      value_is u =
          let S : List ℕ → Type 0 = λ i. slot_of i (4 * n) ≡ value_low (low_first i) / 2 ^ (4 * n) % 16 in
          subst S (sym u.is) (ap (λ v. v / 2 ^ (4 * n) % 16) (horner u.a u.b u.c u.d u.e u.f u.g u.h))

  -- a slot more
  pub begins_next : (p : List ℕ) (k : ℕ) → length p ≤ 15 → BeginsWith p id → slot_of id (4 * length p) ≡ k → BeginsWith (p ++ k ∷ []) id
  begins_next p k few begins slot =
      let n : ℕ = length p in
      let long_end : length (p ++ k ∷ []) ≡ suc n = longer p in
      let here : k ≡ get_or (slots_of id) n 0 = sym slot ∙ slot_is_next n few in
      let next : take (suc n) (slots_of id) ≡ take n (slots_of id) ++ get_or (slots_of id) n 0 ∷ [] = take_next (slots_of id) n (omega (arith, few, length_slots)) in
      ap (λ q. q ++ k ∷ []) begins ∙ ap (λ s. take n (slots_of id) ++ s ∷ []) here ∙ sym next ∙ ap (λ j. take j (slots_of id)) (sym long_end)
    where
      longer : (q : List ℕ) → length (q ++ k ∷ []) ≡ suc (length q)
      longer [] = refl
      longer (x ∷ q) = ap suc (longer q)

  -- and a mask of such slots asks for it
  pub asked_by : (p : List ℕ) → IsPath p → BeginsWith p id → asks_in_slots id (4 * length p) (mask_bytes (mask_by p)) ≡ true
  asked_by p is begins =
      let n : ℕ = length p in
      let its : mask_of id (4 * n) ≡ packed (take n (slots_of id)) = kept_packed (low_first id) n low_small (omega (arith, is.few, low_long)) in
      let same : mask_bytes (mask_by p) ≡ mask_of id (4 * n) = mask_packed p is ∙ ap packed begins ∙ sym its in
      let few : nat_le (4 * n) 60 ≡ true = is_at_most (4 * n) 60 (omega (arith, is.few)) in
      let fewer : nat_le (4 * n) 64 ≡ true = is_at_most (4 * n) 64 (omega (arith, is.few)) in
      ap (λ v. v && (nat_le (4 * n) 64 && pointwise nat_eq (mask_bytes (mask_by p)) (mask_of id (4 * n)))) few
      ∙ ap (λ v. v && pointwise nat_eq (mask_bytes (mask_by p)) (mask_of id (4 * n))) fewer
      ∙ ap (λ x. pointwise nat_eq x (mask_of id (4 * n))) same
      ∙ bytes_self (mask_of id (4 * n))
