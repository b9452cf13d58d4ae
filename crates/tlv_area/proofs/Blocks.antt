-- Blocks of a memory.
use Rattle.std.proofs.Common.{◌≡◌, ℕ, suc, zero, ◌+◌, ◌-◌, ◌*◌, ◌/◌, ◌<◌, ◌≤◌, Bool, true, false, cond, List, [], ◌∷◌, ◌++◌, not, length, min, max, Option, Some, None, refl, sym, ◌∙◌, ap, arith, inl}
use Rattle.std.proofs.Common.{inr, eqb}
use Rattle.std.specs.Prelude.{◌||◌, ◌&&◌, ◌==◌, filter, IfSome, IfNone}
use Rattle.std.specs.Option.{is_some}
use Rattle.std.specs.List.{range_with_len}
use Rattle.std.proofs.Math.Nat.{lt-div-mul-add, mul-le-mul_left, mul-le-mul_right}
use Rattle.std.proofs.lemmas.Nat.{div-mul-add, div-add-mod', le-div}
use Rattle.std.proofs.lemmas.List.{length-append}
use Rattle.std.proofs.lemmas.List.Folds.{list_any-append}
use Rattle.std.proofs.lemmas.Bool.{cases_Bool, cases_lt, ne_eqb, eq-eqb}
use Rattle.tlv_area.specs.Layout.{free}
use Rattle.tlv_area.specs.Reading.{IsPast}
use Rattle.tlv_area.specs.Writing.{touches, changes, blocks_changed, blocks_below}
use Rattle.tlv_area.proofs.Free.{free_split, free_at, range-add, length-free_open}
use Rattle.std.proofs.lemmas.List.Elements.{filter-append}

-- the addresses of a block are in that block
pub block_is : (size k a : ℕ) → k * size ≤ a → a < k * size + size → a / size ≡ k
block_is size k a low high =
    let b : ℕ = a - k * size in
    let e : a ≡ k * size + b = omega arith in
    ap (λ n. n / size) e ∙ div-mul-add k size b (omega arith)

-- an address lies in its block
pub block_bounds : (size a : ℕ) → 0 < size → (a / size * size ≤ a) × (a < a / size * size + size)
block_bounds size a some = (omega (arith, div-add-mod' a size), lt-div-mul-add some)

-- a block with a free address is touched
touched_at : (r : ℕ → Bool) (from to a size k : ℕ) → from ≤ a → a < to → r a ≡ false → a / size ≡ k → touches size (free r from to) k ≡ true
touched_at r from to a size k low high open_cell block =
    let one : free r a (a + 1) ≡ a ∷ [] = free_at r a ∙ ap (λ b. cond (not b) (a ∷ []) []) open_cell in
    let here : touches size (free r a (a + 1)) k ≡ true = ap (λ c. touches size c k) one ∙ ap (λ v. v || false) (eq-eqb (a / size) k block) in
    ap (λ c. touches size c k) (free_split r from a to low (omega arith))
    ∙ list_any-append (λ b. b / size == k) (free r from a) (free r a to)
    ∙ ap (λ c. touches size (free r from a) k || touches size c k) (free_split r a (a + 1) to (omega arith) (omega arith))
    ∙ ap (λ v. touches size (free r from a) k || v) (list_any-append (λ b. b / size == k) (free r a (a + 1)) (free r (a + 1) to) ∙ ap (λ v. v || touches size (free r (a + 1) to) k) here)
    ∙ or_true (touches size (free r from a) k)
  where
    or_true : (x : Bool) → (x || true) ≡ true
    or_true true = refl
    or_true false = refl

-- a block without one isn't
untouched_range : (r : ℕ → Bool) (a n size k : ℕ) → ((b : ℕ) → a ≤ b → b < a + n → r b ≡ false → b / size ≡ k → ⊥) →
    touches size (filter (λ b. not (r b)) (range_with_len a n)) k ≡ false
untouched_range r a zero size k none = refl
untouched_range r a (suc n) size k none =
    let rest = untouched_range r (a + 1) n size k (λ b low high. none b (omega arith) (omega arith)) in
    elim (cases_Bool (r a)) [
      | inl taken ↦ rw taken rest
      | inr open_cell ↦ (let other : eqb (a / size) k ≡ false = ne_eqb (a / size) k (none a (omega arith) (omega arith) open_cell) in rw (open_cell, other) rest)
    ]

untouched : (r : ℕ → Bool) (from to size k : ℕ) → ((b : ℕ) → from ≤ b → b < to → r b ≡ false → b / size ≡ k → ⊥) →
    touches size (free r from to) k ≡ false
untouched r from to size k none = untouched_range r from (to - from) size k (λ b low high. none b low (omega arith))

-- an address that is free is one of those between two
free_some : (r : ℕ → Bool) (first behind b : ℕ) → first ≤ b → b < behind → r b ≡ false → 0 < length (free r first behind)
free_some r first behind b low high open_cell =
    let front = length-free_open r first b low open_cell in
    let whole = ap length (free_split r first (b + 1) behind (omega arith) (omega arith)) ∙ length-append (free r first (b + 1)) (free r (b + 1) behind) in
    omega (arith, front, whole)

module _ (r : ℕ → Bool) (from to size k first behind : ℕ) (some : 0 < size)
    (is_first : first ≡ max from (k * size)) (is_behind : behind ≡ min to (k * size + size)) where
  -- an address of a block that lies between two lies where the block does
  in_block : (b : ℕ) → from ≤ b → b < to → b / size ≡ k → (first ≤ b) × (b < behind)
  in_block b low high block =
      let bounds = block_bounds size b some in
      let base : b / size * size ≡ k * size = ap (λ n. n * size) block in
      (omega (arith, bounds.0, base), omega (arith, bounds.1, base))

  pub untouched_block : behind < first → touches size (free r from to) k ≡ false
  untouched_block none = untouched r from to size k (λ b low high _ block. let there = in_block b low high block in omega (arith, there.0, there.1))

  -- a block is touched where a first free address lies there
  pub touched_block : (o : Option ℕ) → IfSome o (λ p. IsPast r first behind 1 p) → IfNone o (length (free r first behind) < 1) →
      is_some o ≡ touches size (free r from to) k
  touched_block (Some p) is none =
      sym (touched_at r from to (p - 1) size k (omega (arith, is.above)) (omega (arith, is.above, is.below)) (is.last (omega arith))
      (block_is size k (p - 1) (omega (arith, is.above)) (omega (arith, is.above, is.below))))
  touched_block None is none =
      sym (untouched r from to size k (λ b low high open_cell block.
      let there = in_block b low high block in
      omega (arith, none, free_some r first behind b there.0 there.1 open_cell)))

-- one block more
pub blocks_more : (size : ℕ) (cells : List ℕ) (h : ℕ) (old new : List ℕ) (n : ℕ) →
    blocks_changed size cells h old new (n + 1)
    ≡ blocks_changed size cells h old new n ++ cond ((not (n == h) && touches size cells n) && changes size old new n) (n ∷ []) []
blocks_more size cells h old new n =
    let base : 0 + n ≡ n = omega arith in
    let last : range_with_len (0 + n) 1 ≡ n ∷ [] = ap (λ b. range_with_len b 1) base in
    ap (λ c. filter (λ k. (not (k == h) && touches size cells k) && changes size old new k) c)
    (range-add 0 n 1 ∙ ap (λ c. range_with_len 0 n ++ c) last)
    ∙ filter-append (λ k. (not (k == h) && touches size cells k) && changes size old new k) (range_with_len 0 n) (n ∷ [])

-- the block of an address before the end is whole among the blocks up to the end
pub block_within : (a end size : ℕ) → 0 < size → a < end → size * (a / size) + size ≤ size * blocks_below size end
block_within a end size some below =
    let q : ℕ = a / size in
    let bounds = block_bounds size a some in
    let product : (q + 1) * size ≡ q * size + size = omega arith in
    let inside : (q + 1) * size ≤ end + size - 1 = omega (arith, bounds.0, product) in
    let more : q + 1 ≤ (end + size - 1) / size = le-div (q + 1) (end + size - 1) size some inside in
    let turned : size * (q + 1) ≡ size * q + size = omega arith in
    omega (arith, turned, mul-le-mul_left size more)

-- the number of the block of an address below an end that so many blocks reach
pub block_number : (a end size n : ℕ) → 0 < size → a < end → end ≤ n * size → a / size < n
block_number a end size n some below reach = elim (cases_lt (a / size) n) [
  | inl less ↦ less
  | inr more ↦ absurd (omega (arith, (block_bounds size a some).0, mul-le-mul_right size more, below, reach))
]

-- the blocks up to the end are whole where that of the last address is
pub blocks_within : (end size room : ℕ) → 0 < size → 0 < end → size * ((end - 1) / size) + size ≤ room → size * blocks_below size end ≤ room
blocks_within end size room some none last =
    let q : ℕ = (end - 1) / size in
    let b : ℕ = end - 1 - q * size in
    let bounds = block_bounds size (end - 1) some in
    let e : end + size - 1 ≡ (q + 1) * size + b = omega (arith, bounds.0) in
    let count : blocks_below size end ≡ q + 1 = ap (λ n. n / size) e ∙ div-mul-add (q + 1) size b (omega (arith, bounds.1)) in
    let turned : size * (q + 1) ≡ size * q + size = omega arith in
    let product : size * blocks_below size end ≡ size * (q + 1) = ap (λ n. size * n) count in
    omega (arith, turned, product, last)
