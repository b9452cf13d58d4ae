-- A frame's technology and bits decide the frame.
use Rattle.std.proofs.Common.{◌≡◌, ℕ, zero, suc, ◌+◌, ◌-◌, ◌*◌, ◌%◌, ◌^◌, ◌<◌, List, [], ◌∷◌, length, take, get_or, Bool, true, false, ◌==◌, if◌then◌else◌, refl, sym, ◌∙◌, ap, arith, IsTrue, ◌↔◌}
use Rattle.std.proofs.lemmas.List.{length-take-le}
use Rattle.nfc_base.specs.Signal.{Signal, signal, IsSignal, last_byte}
use Rattle.nfc_base.specs.Bits.{bits_of, bits, bit_count, packed, of_bits}
use Rattle.nfc_base.proofs.Packing.{number_of_low_bits, length_of_bits, whole_of_bits, bits_of_whole}

-- the low bits of one byte, packed again
low_packed : (t b : ℕ) → 0 < t → t < 8 → b < 2 ^ t → packed (take t (bits_of (b ∷ []))) ≡ b ∷ []
unfolding packed bits_of
low_packed zero b h l k = absurd (omega (arith, h))
low_packed (suc zero) b h l k = ap (λ n. n ∷ []) (number_of_low_bits 1 b k)
low_packed (suc (suc zero)) b h l k = ap (λ n. n ∷ []) (number_of_low_bits 2 b k)
low_packed (suc (suc (suc zero))) b h l k = ap (λ n. n ∷ []) (number_of_low_bits 3 b k)
low_packed (suc (suc (suc (suc zero)))) b h l k = ap (λ n. n ∷ []) (number_of_low_bits 4 b k)
low_packed (suc (suc (suc (suc (suc zero))))) b h l k = ap (λ n. n ∷ []) (number_of_low_bits 5 b k)
low_packed (suc (suc (suc (suc (suc (suc zero)))))) b h l k = ap (λ n. n ∷ []) (number_of_low_bits 6 b k)
low_packed (suc (suc (suc (suc (suc (suc (suc zero))))))) b h l k = ap (λ n. n ∷ []) (number_of_low_bits 7 b k)
low_packed (suc (suc (suc (suc (suc (suc (suc (suc t)))))))) b h l k = absurd (omega (arith, l))

-- one byte more before the bits of others
one_more : (b : ℕ) (bytes : List ℕ) (n : ℕ) → b < 256 → packed (take (suc (suc (suc (suc (suc (suc (suc (suc n)))))))) (bits_of (b ∷ bytes))) ≡ b ∷ packed (take n (bits_of bytes))
unfolding packed bits_of
one_more b bytes n h = ap (λ m. m ∷ packed (take n (bits_of bytes))) (number_of_low_bits 8 b h)

-- the bits of bytes of which the last is sent in part
part_packed : (t : ℕ) (bytes : List ℕ) → 0 < t → t < 8 → ((i : ℕ) → get_or bytes i 0 < 256) → 0 < length bytes → last_byte bytes < 2 ^ t
    → packed (take (8 * (length bytes - 1) + t) (bits_of bytes)) ≡ bytes
part_packed t [] h l f some k = absurd (omega (arith, some))
part_packed t (b ∷ []) h l f some k =
    ap (λ n. packed (take n (bits_of (b ∷ [])))) (let e : 8 * (1 - 1) + t ≡ t = omega arith in e) ∙ low_packed t b h l k
part_packed t (b ∷ c ∷ bytes) h l f some k =
    let n : ℕ = 8 * (length (c ∷ bytes) - 1) + t in
    let first : b < 256 = f 0 in
    let last : last_byte (c ∷ bytes) < 2 ^ t = ap_last k in
    ap (λ m. packed (take m (bits_of (b ∷ c ∷ bytes)))) (let e : 8 * (length (b ∷ c ∷ bytes) - 1) + t ≡ suc (suc (suc (suc (suc (suc (suc (suc n))))))) = omega arith in e)
    ∙ one_more b (c ∷ bytes) n first
    ∙ ap (λ xs. b ∷ xs) (part_packed t (c ∷ bytes) h l (λ i. f (suc i)) (omega arith) last)
  where
    ap_last : get_or (b ∷ c ∷ bytes) (length (b ∷ c ∷ bytes) - 1) 0 < 2 ^ t → get_or (c ∷ bytes) (length (c ∷ bytes) - 1) 0 < 2 ^ t
    ap_last k =
        let e : get_or (b ∷ c ∷ bytes) (length (b ∷ c ∷ bytes) - 1) 0 ≡ get_or (c ∷ bytes) (length (c ∷ bytes) - 1) 0 =
        ap (λ m. get_or (b ∷ c ∷ bytes) m 0) (let q : length (b ∷ c ∷ bytes) - 1 ≡ suc (length (c ∷ bytes) - 1) = omega arith in q) in
        omega (arith, e, k)

-- the frame of a frame's bits is that frame
pub of_its_bits : (f : Signal) → IsSignal f → of_bits f.tech (bits f) ≡ f
of_its_bits f is = by_tail (f.tail == 0) refl
  where
    is_whole : (t : ℕ) → (t == 0) ≡ true → t ≡ 0
    is_whole t h = grind arith

    is_part : (t : ℕ) → (t == 0) ≡ false → 0 < t
    is_part t h = grind arith

    by_tail : (v : Bool) → (f.tail == 0) ≡ v → of_bits f.tech (bits f) ≡ f
    by_tail true h =
        let tail : f.tail ≡ 0 = is_whole f.tail h in
        let whole : f ≡ signal f.tech f.bytes 0 = ap (signal f.tech f.bytes) tail in
        ap (λ g. of_bits f.tech (bits g)) whole ∙ ap (of_bits f.tech) (bits_of_whole f.tech f.bytes) ∙ whole_of_bits f.tech f.bytes is.bytes ∙ sym whole
    by_tail false h =
        let some : 0 < f.tail = is_part f.tail h in
        let held : 0 < length f.bytes = is.held some in
        let small : f.tail < 8 = is.small in
        let n : ℕ = 8 * (length f.bytes - 1) + f.tail in
        let count : bit_count f ≡ n = ap (λ v. if v then 8 * length f.bytes else n) h in
        let size : length (take n (bits_of f.bytes)) ≡ n = length-take-le n (bits_of f.bytes) (omega (arith, length_of_bits f.bytes, held, small)) in
        let rest : n % 8 ≡ f.tail = omega (arith, small) in
        ap (λ m. of_bits f.tech (take m (bits_of f.bytes))) count
        ∙ ap (λ m. signal f.tech (packed (take n (bits_of f.bytes))) (m % 8)) size
        ∙ ap (signal f.tech (packed (take n (bits_of f.bytes)))) rest
        ∙ ap (λ xs. signal f.tech xs f.tail) (part_packed f.tail f.bytes some small is.bytes held (is.unused some))

-- frames of one technology whose bits are the same are the same
pub bits_decide : (f g : Signal) → IsSignal f → IsSignal g → f.tech ≡ g.tech → bits f ≡ bits g → f ≡ g
bits_decide f g p q tech same = sym (of_its_bits f p) ∙ ap (λ t. of_bits t (bits f)) tech ∙ ap (of_bits g.tech) same ∙ of_its_bits g q

-- a test of two frames tests their technologies and their bits
pub tests_bits : (f g : Signal) (same : Bool) → IsSignal f → IsSignal g → (IsTrue same ↔ (f ≡ g)) → IsTrue same ↔ ((f.tech ≡ g.tech) × (bits f ≡ bits g))
tests_bits f g same p q test = (
  (λ h. let e : f ≡ g = test.0 h in (ap (λ (x : Signal). x.tech) e, ap bits e)),
  (λ h. test.1 (bits_decide f g p q h.0 h.1)),
)
