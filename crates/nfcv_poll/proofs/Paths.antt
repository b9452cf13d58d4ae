-- Masks by the slots that led to them: each is four bits more, above the highest bit of those before it.
use Rattle.std.proofs.Common.{◌≡◌, ◌<◌, ◌≤◌, ℕ, zero, suc, ◌+◌, ◌*◌, ◌/◌, ◌%◌, ◌^◌, List, [], ◌∷◌, ◌++◌, length, take, true, false, ◌&&◌, nat_lt, if◌then◌else◌, Some, None, refl, sym, ◌∙◌, ap, arith}
use Rattle.std.proofs.lemmas.Nat.{pow-add}
use Rattle.std.proofs.lemmas.List.{length-append}
use Rattle.std.proofs.Math.Nat.{div-div-eq-div-mul, mod-eq_of_lt, pow-succ'}
use Rattle.std.proofs.Math.Pow.{pow_mono}
use Rattle.std.specs.Int.{w64, byte_at, bytes_low_first, to_le_bytes}
use Rattle.nfca_poll.specs.Crowd.{Each}
use Rattle.t5t_tag.specs.Mask.{mask_size}
use Rattle.nfcv_poll.specs.declared.mask.Mask.{Mask}
use Rattle.nfcv_poll.specs.Masks.{with_slot, extended}
use Rattle.t5t_tag.proofs.Inventories.{take_none}

abbrev pub value_of : List ℕ → ℕ
value_of [] = 0
value_of (k ∷ p) = k + 16 * value_of p

-- the mask of some slots
abbrev pub mask_by : List ℕ → Mask
mask_by p = record { bits = 4 * length p; value = value_of p }

-- slots of a mask that a round may have
pub record IsPath (p : List ℕ) : Type 0 where
  pub few : length p ≤ 15
  pub small : Each (λ k. k < 16) p

-- a slot is worth what the bits below it leave
four_more : (n : ℕ) → 2 ^ (4 * suc n) ≡ 16 * 2 ^ (4 * n)
four_more n = ap (λ k. 2 ^ k) (let e : 4 * suc n ≡ 4 + 4 * n = omega arith in e) ∙ pow-add 2 4 (4 * n)

value_end : (p : List ℕ) (k : ℕ) → value_of (p ++ k ∷ []) ≡ value_of p + k * 2 ^ (4 * length p)
value_end [] k = omega arith
value_end (x ∷ p) k =
    let more : 2 ^ (4 * suc (length p)) ≡ 16 * 2 ^ (4 * length p) = four_more (length p) in
    let rest : value_of (p ++ k ∷ []) ≡ value_of p + k * 2 ^ (4 * length p) = value_end p k in
    let all : 16 * (value_of p + k * 2 ^ (4 * length p)) ≡ 16 * value_of p + k * (16 * 2 ^ (4 * length p)) = omega arith in
    ap (λ v. x + 16 * v) rest ∙ ap (λ v. x + v) all ∙ ap (λ v. x + (16 * value_of p + k * v)) (sym more)
    ∙ (let e : x + (16 * value_of p + k * 2 ^ (4 * suc (length p))) ≡ (x + 16 * value_of p) + k * 2 ^ (4 * suc (length p)) = omega arith in e)

value_fits : (p : List ℕ) → Each (λ k. k < 16) p → value_of p < 2 ^ (4 * length p)
value_fits [] h = omega arith
value_fits (x ∷ p) h = omega (arith, h.0, four_more (length p), value_fits p h.1)

long_end : (p : List ℕ) (k : ℕ) → length (p ++ k ∷ []) ≡ suc (length p)
long_end p k = length-append p (k ∷ []) ∙ (let e : length p + 1 ≡ suc (length p) = omega arith in e)

each_end : (P : ℕ → Type 0) (p : List ℕ) (k : ℕ) → Each P p → P k → Each P (p ++ k ∷ [])
each_end P [] k h here = (here, tt)
each_end P (x ∷ p) k h here = (h.0, each_end P p k h.1 here)

-- a mask with a slot more is the mask of one slot more
pub longer_path : (p : List ℕ) (k : ℕ) → IsPath p → length p < 15 → k < 16 → IsPath (p ++ k ∷ [])
longer_path p k is short less = record { few = omega (arith, short, long_end p k); small = each_end (λ k. k < 16) p k is.small less }

test_lt : (m n : ℕ) → m < n → nat_lt m n ≡ true
test_lt m n h = grind (arith, h)

test_not : (m n : ℕ) → n ≤ m → nat_lt m n ≡ false
test_not m n h = grind (arith, h)

pub extended_by : (p : List ℕ) (k : ℕ) → IsPath p → length p < 15 → k < 16 → extended (mask_by p) k ≡ Some (mask_by (p ++ k ∷ []))
extended_by p k is short less =
    let n : ℕ = 4 * length p in
    let all : value_of (p ++ k ∷ []) < 2 ^ (4 * length (p ++ k ∷ [])) = value_fits (p ++ k ∷ []) (longer_path p k is short less).small in
    let top : 2 ^ (4 * length (p ++ k ∷ [])) ≤ 2 ^ 60 = pow_mono {i = 4 * length (p ++ k ∷ [])} {j = 60} (omega (arith, short, long_end p k)) in
    let end : value_of (p ++ k ∷ []) ≡ value_of p + k * 2 ^ n = value_end p k in
    let fits : k * 2 ^ n < 2 ^ 64 = omega (arith, all, top, end) in
    let low : k * 2 ^ n % 2 ^ 64 ≡ k * 2 ^ n = mod-eq_of_lt fits in
    let value : value_of p + k * 2 ^ n % 2 ^ 64 ≡ value_of (p ++ k ∷ []) = ap (λ v. value_of p + v) low ∙ sym end in
    let bits : 4 * length p + 4 ≡ 4 * length (p ++ k ∷ []) = omega (arith, long_end p k) in
    let a : nat_lt (4 * length p) 60 ≡ true = test_lt (4 * length p) 60 (omega (arith, short)) in
    let b : nat_lt k 16 ≡ true = test_lt k 16 less in
    let c : nat_lt (value_of p + k * 2 ^ n % 2 ^ 64) (2 ^ 64) ≡ true = test_lt (value_of p + k * 2 ^ n % 2 ^ 64) (2 ^ 64) (omega (arith, value, all, top)) in
    let m : Mask = with_slot (mask_by p) k in
    ap (λ v. if v && nat_lt k 16 && nat_lt (value_of p + k * 2 ^ n % 2 ^ 64) (2 ^ 64) then Some m else None) a
    ∙ ap (λ v. if v && nat_lt (value_of p + k * 2 ^ n % 2 ^ 64) (2 ^ 64) then Some m else None) b
    ∙ ap (λ v. if v then Some m else None) c
    ∙ ap (λ v. Some (record { bits = 4 * length p + 4; value = v })) value
    ∙ ap (λ b. Some (record { bits = b; value = value_of (p ++ k ∷ []) })) bits

-- behind sixty bits there is none
pub extended_none : (p : List ℕ) (k : ℕ) → 15 ≤ length p → extended (mask_by p) k ≡ None
extended_none p k long =
    let a : nat_lt (4 * length p) 60 ≡ false = test_not (4 * length p) 60 (omega (arith, long)) in
    ap (λ v. if v && nat_lt k 16 && nat_lt (value_of p + k * 2 ^ (4 * length p) % 2 ^ 64) (2 ^ 64) then Some (with_slot (mask_by p) k) else None) a

-- two slots in a byte, the lower one in its lower bits
abbrev pub packed : List ℕ → List ℕ
packed [] = []
packed (a ∷ []) = a ∷ []
packed (a ∷ b ∷ p) = (a + 16 * b) ∷ packed p

-- of so many slots each has bytes of its own
pub same_packed : (p q : List ℕ) → length p ≡ length q → Each (λ k. k < 16) p → Each (λ k. k < 16) q → packed p ≡ packed q → p ≡ q
same_packed [] [] n small other e = refl
same_packed [] (y ∷ q) n small other e = absurd (let no_ : 0 ≡ suc (length q) = n in omega (arith, no_))
same_packed (x ∷ p) [] n small other e = absurd (let no_ : suc (length p) ≡ 0 = n in omega (arith, no_))
same_packed (x ∷ []) (y ∷ []) n small other e = e
same_packed (x ∷ []) (y ∷ z ∷ q) n small other e = absurd (let no_ : 1 ≡ suc (suc (length q)) = n in omega (arith, no_))
same_packed (x ∷ w ∷ p) (y ∷ []) n small other e = absurd (let no_ : suc (suc (length p)) ≡ 1 = n in omega (arith, no_))
same_packed (x ∷ w ∷ p) (y ∷ z ∷ q) n small other e =
    let byte : x + 16 * w ≡ y + 16 * z = cc in
    let tail : packed p ≡ packed q = cc in
    let first : x ≡ y = omega (arith, small.0, other.0, byte) in
    let second : w ≡ z = omega (arith, small.0, other.0, byte) in
    let long : length p ≡ length q = let m : suc (suc (length p)) ≡ suc (suc (length q)) = n in omega (arith, m) in
    let rest : p ≡ q = same_packed p q long small.1.1 other.1.1 tail in
    ap (λ k. k ∷ w ∷ p) first ∙ ap (λ k. y ∷ k ∷ p) second ∙ ap (λ t. y ∷ z ∷ t) rest

-- the bytes of a number above its lowest one
byte_above : (i n : ℕ) → byte_at (suc i) n ≡ byte_at i (n / 256)
byte_above zero n = refl
byte_above (suc i) n = ap (λ x. x % 256) (ap (λ x. n / x) (pow-succ' 256 (suc i)) ∙ sym (div-div-eq-div-mul n 256 (256 ^ suc i)))

bytes_above : (i k n : ℕ) → bytes_low_first (suc i) k n ≡ bytes_low_first i k (n / 256)
bytes_above i zero n = refl
bytes_above i (suc k) n = ap (λ b. b ∷ bytes_low_first (suc (suc i)) k n) (byte_above i n) ∙ ap (λ bs. byte_at i (n / 256) ∷ bs) (bytes_above (suc i) k n)

packed_bytes : (p : List ℕ) (k : ℕ) → Each (λ s. s < 16) p → mask_size (4 * length p) ≤ k → take (mask_size (4 * length p)) (bytes_low_first 0 k (value_of p)) ≡ packed p
packed_bytes [] k small fits = take_none (bytes_low_first 0 k 0)
packed_bytes (a ∷ p) zero small fits = absurd (omega (arith, fits))
packed_bytes (a ∷ []) (suc k) small fits =
    let low : (a + 16 * 0) % 256 ≡ a = omega (arith, small.0) in
    ap (λ xs. (a + 16 * 0) % 256 ∷ xs) (take_none (bytes_low_first 1 k (a + 16 * 0))) ∙ ap (λ b. b ∷ []) low
packed_bytes (a ∷ b ∷ p) (suc k) small fits =
    let v : ℕ = value_of p in
    let n : ℕ = a + 16 * (b + 16 * v) in
    let size : mask_size (4 * suc (suc (length p))) ≡ suc (mask_size (4 * length p)) = omega arith in
    let low : n % 256 ≡ a + 16 * b = omega (arith, small.0, small.1.0) in
    let high : n / 256 ≡ v = omega (arith, small.0, small.1.0) in
    ap (λ m. take m (bytes_low_first 0 (suc k) n)) size
    ∙ ap (λ c. c ∷ take (mask_size (4 * length p)) (bytes_low_first 1 k n)) low
    ∙ ap (λ xs. (a + 16 * b) ∷ take (mask_size (4 * length p)) xs) (bytes_above 0 k n)
    ∙ ap (λ m. (a + 16 * b) ∷ take (mask_size (4 * length p)) (bytes_low_first 0 k m)) high
    ∙ ap (λ xs. (a + 16 * b) ∷ xs) (packed_bytes p k small.1.1 (omega (arith, fits, size)))

-- the bytes of a mask as they are sent
pub mask_packed : (p : List ℕ) → IsPath p → take (mask_size (4 * length p)) (to_le_bytes w64 (value_of p)) ≡ packed p
mask_packed p is = packed_bytes p 8 is.small (omega (arith, is.few))
