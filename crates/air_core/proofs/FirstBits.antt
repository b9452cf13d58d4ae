-- Bits in common, and the first bits of a frame.
use Rattle.std.proofs.Common.{◌≡◌, ℕ, zero, suc, ◌+◌, ◌*◌, ◌/◌, ◌%◌, ◌^◌, ◌<◌, ◌≤◌, List, [], ◌∷◌, ◌++◌, length, take, drop, get_or, Bool, true, false, ◌==◌, if◌then◌else◌, refl, sym, ◌∙◌, ap, subst}
use Rattle.std.proofs.Common.{arith, append_assoc, inl, inr, length-append}
use Rattle.std.proofs.lemmas.List.{append-nil, get_or-take, length-take-le}
use Rattle.std.proofs.lemmas.Grind.{common_steps}
use Rattle.std.proofs.lemmas.Nat.{pow_pos}
use Rattle.std.proofs.Math.Nat.{mod-lt}
use Rattle.std.proofs.Math.Seq.{take-suc}
use Rattle.nfc_base.specs.Signal.{Signal, signal, last_byte, IsBadTail}
use Rattle.nfc_base.specs.Bits.{bits_of, packed, of_bits}
use Rattle.nfc_base.proofs.Packing.{low_number, number_of_low_bits, length_of_bits}
use Rattle.air_core.specs.Joint.{common}

-- bits in common, one by one
pub common_at : (x y : List Bool) (n : ℕ) → n < length x → n < length y → get_or x n false ≡ get_or y n false
    → common (drop n x) (drop n y) ≡ get_or x n false ∷ common (drop (suc n) x) (drop (suc n) y)
common_at [] y n h k e = absurd (omega (arith, h))
common_at (a ∷ x) [] n h k e = absurd (omega (arith, k))
common_at (true ∷ x) (true ∷ y) zero h k e = refl
common_at (true ∷ x) (false ∷ y) zero h k e = absurd cc
common_at (false ∷ x) (true ∷ y) zero h k e = absurd cc
common_at (false ∷ x) (false ∷ y) zero h k e = refl
common_at (a ∷ x) (b ∷ y) (suc n) h k e = common_at x y n (omega (arith, h)) (omega (arith, k)) e

common_none : (x : List Bool) → common x [] ≡ []
common_none [] = refl
common_none (a ∷ x) = refl

pub common_ends : (x y : List Bool) (n : ℕ) → (n < length x → n < length y → get_or x n false ≡ get_or y n false → ⊥) → common (drop n x) (drop n y) ≡ []
common_ends [] y zero f = refl
common_ends [] y (suc n) f = refl
common_ends (a ∷ x) [] zero f = refl
common_ends (a ∷ x) [] (suc n) f = common_none (drop n x)
common_ends (true ∷ x) (true ∷ y) zero f = absurd (f (omega arith) (omega arith) refl)
common_ends (true ∷ x) (false ∷ y) zero f = refl
common_ends (false ∷ x) (true ∷ y) zero f = refl
common_ends (false ∷ x) (false ∷ y) zero f = absurd (f (omega arith) (omega arith) refl)
common_ends (a ∷ x) (b ∷ y) (suc n) f = common_ends x y n (λ h k e. f (omega (arith, h)) (omega (arith, k)) e)

-- the bits in common, one bit more at a time
pub shared_more : (c u w : List Bool) (n m k : ℕ) → n ≤ length u → m ≤ length w → k < n → k < m → get_or u k false ≡ get_or w k false
    → c ≡ take k u ++ common (drop k (take n u)) (drop k (take m w)) → c ≡ take (k + 1) u ++ common (drop (k + 1) (take n u)) (drop (k + 1) (take m w))
shared_more c u w n m k nu mw kn km e i =
    let same : get_or (take n u) k false ≡ get_or (take m w) k false = get_or-take n u k false kn ∙ e ∙ sym (get_or-take m w k false km) in
    let next : common (drop k (take n u)) (drop k (take m w)) ≡ get_or u k false ∷ common (drop (suc k) (take n u)) (drop (suc k) (take m w)) =
    common_at (take n u) (take m w) k (let z : length (take n u) ≡ n = length-take-le n u nu in omega (arith, z, kn)) (let z : length (take m w) ≡ m = length-take-le m w mw in omega (arith, z, km))
    same
    ∙ ap (λ t. t ∷ common (drop (suc k) (take n u)) (drop (suc k) (take m w))) (get_or-take n u k false kn) in
    let R : List Bool = common (drop (suc k) (take n u)) (drop (suc k) (take m w)) in
    let whole : c ≡ take (suc k) u ++ R =
    i ∙ ap (λ t. take k u ++ t) next ∙ sym (append_assoc (take k u) (get_or u k false ∷ []) R) ∙ ap (λ t. t ++ R) (sym (take-suc u k false (omega (arith, kn, nu)))) in
    let P : ℕ → Type 0 = λ t. c ≡ take t u ++ common (drop t (take n u)) (drop t (take m w)) in
    subst P (let q : suc k ≡ k + 1 = omega arith in q) whole

pub shared_end : (c u w : List Bool) (n m k : ℕ) → n ≤ length u → m ≤ length w → (k < n → k < m → get_or u k false ≡ get_or w k false → ⊥)
    → c ≡ take k u ++ common (drop k (take n u)) (drop k (take m w)) → take k u ≡ c
shared_end c u w n m k nu mw f i =
    let none : common (drop k (take n u)) (drop k (take m w)) ≡ [] =
    common_ends (take n u) (take m w) k
    (λ h l e. let kn : k < n = (let z : length (take n u) ≡ n = length-take-le n u nu in omega (arith, z, h)) in
    let km : k < m = (let z : length (take m w) ≡ m = length-take-le m w mw in omega (arith, z, l)) in
    f kn km (sym (get_or-take n u k false kn) ∙ e ∙ get_or-take m w k false km)) in
    sym (i ∙ ap (λ t. take k u ++ t) none ∙ append-nil (take k u))

-- the bytes of the first n bits: whole bytes, and the lowest bits of the next one
abbrev pub first_bytes : List ℕ → ℕ → List ℕ
first_bytes bytes n = if n % 8 == 0 then take (n / 8) bytes else take (n / 8) bytes ++ (get_or bytes (n / 8) 0 % 2 ^ (n % 8)) ∷ []

pub packed_first : (bytes : List ℕ) (n : ℕ) → ((i : ℕ) → get_or bytes i 0 < 256) → n ≤ 8 * length bytes → packed (take n (bits_of bytes)) ≡ first_bytes bytes n
unfolding packed bits_of
packed_first bytes zero f h = refl
packed_first [] (suc n) f h = absurd (omega (arith, h))
packed_first (b ∷ bytes) (suc zero) f h = ap (λ t. t ∷ []) (low_number 1 b)
packed_first (b ∷ bytes) (suc (suc zero)) f h = ap (λ t. t ∷ []) (low_number 2 b)
packed_first (b ∷ bytes) (suc (suc (suc zero))) f h = ap (λ t. t ∷ []) (low_number 3 b)
packed_first (b ∷ bytes) (suc (suc (suc (suc zero)))) f h = ap (λ t. t ∷ []) (low_number 4 b)
packed_first (b ∷ bytes) (suc (suc (suc (suc (suc zero))))) f h = ap (λ t. t ∷ []) (low_number 5 b)
packed_first (b ∷ bytes) (suc (suc (suc (suc (suc (suc zero)))))) f h = ap (λ t. t ∷ []) (low_number 6 b)
packed_first (b ∷ bytes) (suc (suc (suc (suc (suc (suc (suc zero))))))) f h = ap (λ t. t ∷ []) (low_number 7 b)
packed_first (b ∷ bytes) (suc (suc (suc (suc (suc (suc (suc (suc k)))))))) f h =
    let fits : b < 256 = f 0 in
    let rest : packed (take k (bits_of bytes)) ≡ first_bytes bytes k = packed_first bytes k (λ i. f (suc i)) (omega (arith, h)) in
    let n : ℕ = (suc (suc (suc (suc (suc (suc (suc (suc k)))))))) in
    let x : n % 8 ≡ k % 8 = omega arith in
    let y : n / 8 ≡ suc (k / 8) = omega arith in
    let F : ℕ → ℕ → List ℕ = λ p q. if p == 0 then take q (b ∷ bytes) else take q (b ∷ bytes) ++ (get_or (b ∷ bytes) q 0 % 2 ^ p) ∷ [] in
    ap (λ t. t ∷ packed (take k (bits_of bytes))) (number_of_low_bits 8 b fits) ∙ ap (λ t. b ∷ t) rest ∙ spread (k % 8 == 0) ∙ ap (λ p. F p (suc (k / 8))) (sym x) ∙ ap (F (n % 8)) (sym y)
  where
    spread : (v : Bool) → (b ∷ (if v then take (k / 8) bytes else take (k / 8) bytes ++ (get_or bytes (k / 8) 0 % 2 ^ (k % 8)) ∷ []))
        ≡ (if v then take (suc (k / 8)) (b ∷ bytes) else take (suc (k / 8)) (b ∷ bytes) ++ (get_or (b ∷ bytes) (suc (k / 8)) 0 % 2 ^ (k % 8)) ∷ [])
    spread true = refl
    spread false = refl

pub packed_part : (bytes : List ℕ) (n : ℕ) → ((i : ℕ) → get_or bytes i 0 < 256) → n ≤ 8 * length bytes → (n % 8 == 0) ≡ false
    → packed (take n (bits_of bytes)) ≡ take (n / 8) bytes ++ (get_or bytes (n / 8) 0 % 2 ^ (n % 8)) ∷ []
packed_part bytes n f h e =
    packed_first bytes n f h ∙ ap (λ v. if v then take (n / 8) bytes else take (n / 8) bytes ++ (get_or bytes (n / 8) 0 % 2 ^ (n % 8)) ∷ []) e

pub mask : (t : ℕ) → t < 8 → 1 * 2 ^ t % 256 ≡ 2 ^ t
mask zero h = refl
mask (suc zero) h = refl
mask (suc (suc zero)) h = refl
mask (suc (suc (suc zero))) h = refl
mask (suc (suc (suc (suc zero)))) h = refl
mask (suc (suc (suc (suc (suc zero))))) h = refl
mask (suc (suc (suc (suc (suc (suc zero)))))) h = refl
mask (suc (suc (suc (suc (suc (suc (suc zero))))))) h = refl
mask (suc (suc (suc (suc (suc (suc (suc (suc t)))))))) h = absurd (omega (arith, h))

-- a last byte that is cut to its first t bits has no others
last_of : (front : List ℕ) (b : ℕ) → last_byte (front ++ b ∷ []) ≡ b
last_of front b = grind (arith, common_steps)

pub held_tail : (front : List ℕ) (b t : ℕ) → t < 8 → IsBadTail (front ++ (b % 2 ^ t) ∷ []) t → ⊥
held_tail front b t h (inl long) = omega (arith, h, long)
held_tail front b t h (inr (some, inl none)) = omega (arith, length-append front ((b % 2 ^ t) ∷ []), none)
held_tail front b t h (inr (some, inr more)) = omega (arith, last_of front (b % 2 ^ t), more, mod-lt b (pow_pos t))

-- the frame of the first n bits, by its parts
pub first_of : (f g : Signal) (n : ℕ) → n ≤ 8 * length f.bytes → g.tech ≡ f.tech → g.bytes ≡ packed (take n (bits_of f.bytes)) → g.tail ≡ n % 8 → g ≡ of_bits f.tech (take n (bits_of f.bytes))
first_of f g n h t b l =
    let size : length (take n (bits_of f.bytes)) ≡ n = length-take-le n (bits_of f.bytes) (omega (arith, length_of_bits f.bytes, h)) in
    ap (λ x. signal x g.bytes g.tail) t ∙ ap (λ x. signal f.tech x g.tail) b ∙ ap (λ x. signal f.tech (packed (take n (bits_of f.bytes))) x) (l ∙ ap (λ x. x % 8) (sym size))
