-- The bytes that READs give, in their order.
use Rattle.std.proofs.Common.{◌≡◌, ℕ, ◌+◌, ◌-◌, ◌*◌, ◌<◌, ◌≤◌, inl, inr, List, ◌++◌, length, take, drop, refl, sym, ◌∙◌, ap, lit≤, arith}
use Rattle.std.specs.Prelude.{◌%◌, min}
use Rattle.std.proofs.lemmas.Bool.{cases_lt}
use Rattle.std.proofs.lemmas.List.{take-take, take-append-le, take_all, length-take-le, length-drop, drop-append-le, drop-drop}
use Rattle.std.proofs.Math.Seq.{take-add, drop-append-add}
use Rattle.std.proofs.Math.Nat.{mod-eq_of_lt, mod-eq-sub-mod}
use Rattle.nfc_base.specs.Blocks.{block_of}
use Rattle.t2t_tag.specs.Store.{block_count, IsT2Store}
use Rattle.t2t_tag.specs.Step.{rolled, four_blocks}
use Rattle.tag_reader.specs.Steps.{rolling}

-- a part of the store, as it stands where the store goes on with itself
pub part_rolls : (store : List ℕ) (from n : ℕ) → from + n ≤ length store → take n (drop from (rolling store)) ≡ take n (drop from store)
part_rolls store from n within =
    let rest : drop from (store ++ store) ≡ drop from store ++ store = drop-append-le from store store (omega arith) in
    let room : n ≤ length (drop from store) = omega (arith, length-drop from store) in
    ap (λ xs. take n xs) rest ∙ take-append-le n (drop from store) store room

-- behind its end it begins again
pub part_again : (store : List ℕ) (from n : ℕ) → from + n ≤ length store → take n (drop (length store + from) (rolling store)) ≡ take n (drop from store)
part_again store from n within = ap (λ xs. take n xs) (drop-append-add store store from)

-- a block of a Type 2 tag, counted modulo the number of blocks
rolled_part : (store : List ℕ) (i : ℕ) → IsT2Store store → i < 2 * block_count store → rolled store i ≡ take 4 (drop (4 * i) (rolling store))
rolled_part store i is low = elim (cases_lt i (block_count store)) [
  | inl first ↦
      (let same : i % block_count store ≡ i = mod-eq_of_lt first in
      let within : 4 * i + 4 ≤ length store = omega (arith, is.whole) in
      ap (λ b. block_of 4 store b) same ∙ sym (part_rolls store (4 * i) 4 within))
  | inr second ↦
      (let least : 4 ≤ block_count store = is.least in
      let less : i - block_count store < block_count store = omega arith in
      let same : i % block_count store ≡ i - block_count store = mod-eq-sub-mod second ∙ mod-eq_of_lt less in
      let size : length store ≡ 4 * block_count store = omega (arith, is.whole) in
      let within : 4 * (i - block_count store) + 4 ≤ length store = omega arith in
      let place : length store + 4 * (i - block_count store) ≡ 4 * i = omega arith in
      ap (λ b. block_of 4 store b) same ∙ sym (part_again store (4 * (i - block_count store)) 4 within)
      ∙ ap (λ p. take 4 (drop p (rolling store))) place)
]

four_parts : (ys a b c d : List ℕ) → a ≡ take 4 ys → b ≡ take 4 (drop 4 ys) → c ≡ take 4 (drop 8 ys) → d ≡ take 4 (drop 12 ys) →
    a ++ b ++ c ++ d ≡ take 16 ys
four_parts ys a b c d p q r s =
    rw (p, q, r, s) (sym (take-add 12 4 ys ∙ ap (λ l. l ++ take 4 (drop 12 ys)) (take-add 8 4 ys ∙ ap (λ l. l ++ take 4 (drop 8 ys)) (take-add 4 4 ys))))

-- what a READ of a Type 2 tag gives
pub four_rolling : (store : List ℕ) (k : ℕ) → IsT2Store store → 16 * k < length store →
    four_blocks store (4 * k) ≡ take 16 (drop (16 * k) (rolling store))
four_rolling store k is low =
    let xs : List ℕ = rolling store in
    let least : 4 ≤ block_count store = is.least in
    let size : length store ≡ 4 * block_count store = omega (arith, is.whole) in
    let at : (i n : ℕ) → i ≤ 3 → 4 * i ≡ n → rolled store (4 * k + i) ≡ take 4 (drop n (drop (16 * k) xs)) = λ i n small is_n.
    (let place : 4 * (4 * k + i) ≡ 16 * k + n = omega arith in
    rolled_part store (4 * k + i) is (omega arith) ∙ ap (λ p. take 4 (drop p xs)) place ∙ ap (λ ys. take 4 ys) (sym (drop-drop n (16 * k) xs))) in
    let start : 4 * (4 * k) ≡ 16 * k = omega arith in
    four_parts (drop (16 * k) xs) (rolled store (4 * k)) (rolled store (4 * k + 1)) (rolled store (4 * k + 2)) (rolled store (4 * k + 3))
    (rolled_part store (4 * k) is (omega arith) ∙ ap (λ p. take 4 (drop p xs)) start)
    (at 1 4 (lit≤ tt) refl) (at 2 8 (lit≤ tt) refl) (at 3 12 (lit≤ tt) refl)

-- what is known up to an address of the store: a front of it
pub front_is : (store : List ℕ) (end n : ℕ) → end ≤ length store → take end (take n (rolling store)) ≡ take (min end n) store
front_is store end n within = elim (cases_lt n end) [
  | inl less ↦
      (let low : n ≤ length store = omega arith in
      let least : min end n ≡ n = omega arith in
      let part : take n (store ++ store) ≡ take n store = take-append-le n store store low in
      let short : length (take n store) ≤ end = omega (arith, length-take-le n store low) in
      ap (λ xs. take end xs) part ∙ take_all end (take n store) short ∙ sym (ap (λ m. take m store) least))
  | inr more ↦
      (let least : min end n ≡ end = omega arith in
      take-take end n (store ++ store) more ∙ take-append-le end store store within ∙ sym (ap (λ m. take m store) least))
]

-- so many more bytes
pub more_known : (store : List ℕ) (size n : ℕ) →
    take (size * n) (rolling store) ++ take size (drop (size * n) (rolling store)) ≡ take (size * (n + 1)) (rolling store)
more_known store size n =
    let place : size * n + size ≡ size * (n + 1) = omega arith in
    sym (take-add (size * n) size (rolling store)) ∙ ap (λ m. take m (rolling store)) place
