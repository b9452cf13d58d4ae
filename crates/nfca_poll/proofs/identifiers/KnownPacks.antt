-- Known bits, one by one, as bytes and in SDD_REQ.
use Rattle.std.proofs.Common.{◌≡◌, ℕ, zero, suc, ◌+◌, ◌-◌, ◌*◌, ◌%◌, ◌<◌, ◌≤◌, List, [], ◌∷◌, ◌++◌, length, take, drop, get_or, Bool, false, if◌then◌else◌, refl, sym, ◌∙◌, ap, subst, append_assoc}
use Rattle.std.proofs.Common.{arith}
use Rattle.std.proofs.lemmas.List.{length-take-le}
use Rattle.nfc_base.specs.declared.frame.Tech.TheVariants.{A}
use Rattle.nfc_base.specs.Signal.{signal, IsBadTail}
use Rattle.nfc_base.specs.Bits.{low_bits, bits_of, number_of, packed, of_bits}
use Rattle.nfc_base.proofs.Packing.{number_of_low_bits}
use Rattle.nfca_poll.proofs.identifiers.Spans.{packed_eight, packed_few, packed_tail, span_first}

number_drop : (x : List Bool) (n : ℕ) → n < length x → number_of (drop n x) ≡ (if get_or x n false then 1 else 0) + 2 * number_of (drop (suc n) x)
number_drop [] n h = absurd (omega (arith, h))
number_drop (a ∷ x) zero h = refl
number_drop (a ∷ x) (suc n) h = number_drop x n (omega (arith, h))

-- one bit more, from the back
pub number_next : (x : List Bool) (at : ℕ) (b : Bool) (v : ℕ) → 0 < at → at ≤ length x → b ≡ get_or x (at - 1) false → v ≡ number_of (drop at x)
    → (if b then 1 else 0) + 2 * v ≡ number_of (drop (at - 1) x)
number_next x at b v h k e f =
    let q : at ≡ suc (at - 1) = omega (arith, h) in
    ap (λ t. (if t then 1 else 0) + 2 * v) e
    ∙ ap (λ t. (if get_or x (at - 1) false then 1 else 0) + 2 * t) (f ∙ ap (λ t. number_of (drop t x)) q)
    ∙ sym (number_drop x (at - 1) (omega (arith, h, k)))

join_split : (n : ℕ) (x : List Bool) → x ≡ take n x ++ drop n x
join_split zero x = refl
join_split (suc n) [] = refl
join_split (suc n) (a ∷ x) = ap (λ t. a ∷ t) (join_split n x)

-- eight bits more are a byte more
pub packed_more : (x : List Bool) → 8 ≤ length x → packed x ≡ number_of (take 8 x) ∷ packed (drop 8 x)
packed_more x h = ap packed (join_split 8 x) ∙ packed_eight (take 8 x) (drop 8 x) (length-take-le 8 x h)

pub packed_rest : (x : List Bool) → 0 < length x → length x < 8 → packed x ≡ number_of x ∷ []
packed_rest = packed_few

-- the next bit of a frame
pub next_bit : (u y : List Bool) (known all : List Bool) (at to : ℕ) (b : Bool) → at < to → to ≤ length u → b ≡ get_or u at false
    → known ++ drop at (take to u) ≡ all → (known ++ b ∷ []) ++ drop (suc at) (take to u) ≡ all
next_bit u y known all at to b h k e f =
    append_assoc known (b ∷ []) (drop (suc at) (take to u)) ∙ ap (λ t. known ++ t ∷ drop (suc at) (take to u)) e ∙ ap (λ t. known ++ t) (sym (span_first u at to h k)) ∙ f

-- SDD_REQ: two bytes and the known bits
byte_back : (b : ℕ) → b < 256 → number_of (low_bits 8 b) ≡ b
byte_back b h = number_of_low_bits 8 b h

pub two_bytes : (a p : ℕ) (known : List Bool) → a < 256 → p < 256 → packed (bits_of (a ∷ p ∷ []) ++ known) ≡ a ∷ p ∷ packed known
unfolding packed bits_of
two_bytes a p known h k = ap (λ t. t ∷ number_of (low_bits 8 p) ∷ packed known) (byte_back a h) ∙ ap (λ t. a ∷ t ∷ packed known) (byte_back p k)

pub two_size : (a p : ℕ) (known : List Bool) → length (bits_of (a ∷ p ∷ []) ++ known) ≡ 16 + length known
unfolding bits_of
two_size a p known = omega arith

two_tail : (a p : ℕ) (known : List Bool) → length (bits_of (a ∷ p ∷ []) ++ known) % 8 ≡ length known % 8
two_tail a p known = omega (arith, two_size a p known)

pub sdd_tail : (a p : ℕ) (known : List Bool) (bytes : List ℕ) (tail : ℕ) → a < 256 → p < 256 → bytes ≡ a ∷ p ∷ packed known → tail ≡ length known % 8 → IsBadTail bytes tail → ⊥
sdd_tail a p known bytes tail h k e t bad =
    let x : List Bool = bits_of (a ∷ p ∷ []) ++ known in
    let P : List ℕ → Type 0 = λ b. IsBadTail b tail in
    let Q : ℕ → Type 0 = λ n. IsBadTail (packed x) n in
    packed_tail x (subst Q (t ∙ sym (two_tail a p known)) (subst P (e ∙ sym (two_bytes a p known h k)) bad))

pub sdd_signal : (a p : ℕ) (known : List Bool) (bytes : List ℕ) (tail : ℕ) → a < 256 → p < 256 → bytes ≡ a ∷ p ∷ packed known → tail ≡ length known % 8
    → signal A bytes tail ≡ of_bits A (bits_of (a ∷ p ∷ []) ++ known)
sdd_signal a p known bytes tail h k e t =
    ap (λ b. signal A b tail) (e ∙ sym (two_bytes a p known h k)) ∙ ap (signal A (packed (bits_of (a ∷ p ∷ []) ++ known))) (t ∙ sym (two_tail a p known))

pub packed_empty : (x : List Bool) → length x ≤ 0 → packed x ≡ []
unfolding packed
packed_empty [] h = refl
packed_empty (a ∷ x) h = absurd (omega (arith, h))
