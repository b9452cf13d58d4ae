-- A store in blocks of one size, and what a changed block leaves.
use Rattle.std.proofs.Common.{◌≡◌, ◌⊎◌, inl, inr, ℕ, suc, ◌+◌, ◌-◌, ◌*◌, ◌/◌, ◌%◌, ◌<◌, ◌≤◌, List, ◌++◌, length, take, drop, sym, ◌∙◌, ap, append_assoc, arith}
use Rattle.std.proofs.lemmas.List.{length-append, length-drop, length-take-le}
use Rattle.std.proofs.Math.Nat.{div-add-mod, mul-le-mul_left}
use Rattle.std.proofs.Math.Seq.{take-append_seam, drop-append_seam}
use Rattle.nfc_base.specs.Blocks.{with_block, block_of}
use Rattle.t5t_tag.specs.Store.{blocks_in, IsBlockSize, IsT5Store}
use Rattle.t5t_tag.specs.Step.{blocks_of}

-- a block that the store has lies in it whole
pub block_room : (size : ℕ) (store : List ℕ) (block : ℕ) → block < blocks_in size store → size * block + size ≤ length store
block_room size store block within =
    let parts : size * (length store / size) + length store % size ≡ length store = div-add-mod (length store) size in
    let less : size * suc block ≤ size * (length store / size) = mul-le-mul_left size within in
    let next : size * suc block ≡ size * block + size = omega arith in
    omega (arith, parts, less, next)

pub length_block : (size : ℕ) (store : List ℕ) (block : ℕ) → block < blocks_in size store → length (block_of size store block) ≡ size
length_block size store block within =
    let room : size * block + size ≤ length store = block_room size store block within in
    let long : length (drop (size * block) store) ≡ length store - size * block = length-drop (size * block) store in
    length-take-le size (drop (size * block) store) (omega (arith, room, long))

-- so do several, one after the other
pub blocks_room : (size : ℕ) (store : List ℕ) (first count : ℕ) → first + count ≤ blocks_in size store → size * first + size * count ≤ length store
blocks_room size store first count within =
    let parts : size * (length store / size) + length store % size ≡ length store = div-add-mod (length store) size in
    let less : size * (first + count) ≤ size * (length store / size) = mul-le-mul_left size within in
    let sum : size * (first + count) ≡ size * first + size * count = grind arith in
    omega (arith, parts, less, sum)

pub length_blocks : (size : ℕ) (store : List ℕ) (first count : ℕ) → first + count ≤ blocks_in size store → length (blocks_of size store first count) ≡ size * count
length_blocks size store first count within =
    let room : size * first + size * count ≤ length store = blocks_room size store first count within in
    let long : length (drop (size * first) store) ≡ length store - size * first = length-drop (size * first) store in
    length-take-le (size * count) (drop (size * first) store) (omega (arith, room, long))

front_long : (size : ℕ) (store : List ℕ) (block : ℕ) → block < blocks_in size store → length (take (size * block) store) ≡ size * block
front_long size store block within =
    let room : size * block + size ≤ length store = block_room size store block within in
    length-take-le (size * block) store (omega (arith, room))

-- a changed block changes no length
pub length_with_block : (size : ℕ) (store : List ℕ) (block : ℕ) (content : List ℕ) → block < blocks_in size store → length content ≡ size
    → length (with_block size store block content) ≡ length store
length_with_block size store block content within long =
    let at : ℕ = size * block in
    let room : at + size ≤ length store = block_room size store block within in
    let front : length (take at store) ≡ at = front_long size store block within in
    let rest : length (drop (at + size) store) ≡ length store - (at + size) = length-drop (at + size) store in
    let a : length (with_block size store block content) ≡ length (take at store ++ content) + length (drop (at + size) store) =
    length-append (take at store ++ content) (drop (at + size) store) in
    let b : length (take at store ++ content) ≡ length (take at store) + length content = length-append (take at store) content in
    omega (arith, room, front, rest, a, b, long)

-- the same change made again changes nothing
pub with_block_again : (size : ℕ) (store : List ℕ) (block : ℕ) (content : List ℕ) → block < blocks_in size store → length content ≡ size
    → with_block size (with_block size store block content) block content ≡ with_block size store block content
with_block_again size store block content within long =
    let at : ℕ = size * block in
    let front : List ℕ = take at store in
    let rest : List ℕ = drop (at + size) store in
    let new : List ℕ = front ++ content ++ rest in
    let a : length front ≡ at = front_long size store block within in
    let b : length (front ++ content) ≡ at + size = length-append front content ∙ omega (arith, a, long) in
    let same_front : take at new ≡ front =
    ap (λ t. take at t) (append_assoc front content rest) ∙ ap (λ n. take n (front ++ (content ++ rest))) (sym a) ∙ take-append_seam front (content ++ rest) in
    let same_rest : drop (at + size) new ≡ rest = ap (λ n. drop n new) (sym b) ∙ drop-append_seam (front ++ content) rest in
    ap (λ t. t ++ content ++ drop (at + size) new) same_front ∙ ap (λ t. front ++ content ++ t) same_rest

-- each size is a multiple of four, and at most 32
pub size_of_block : (size : ℕ) → IsBlockSize size → (size ≤ 32) × (size % 4 ≡ 0) × (4 ≤ size)
size_of_block size is = elim is [ inl a ↦ (omega (arith, a), omega (arith, a), omega (arith, a)) | inr b ↦ size_of_block_8 b ]
  where
    size_of_block_16 : (size ≡ 16) ⊎ (size ≡ 32) → (size ≤ 32) × (size % 4 ≡ 0) × (4 ≤ size)
    size_of_block_16 b = elim b [ inl a ↦ (omega (arith, a), omega (arith, a), omega (arith, a)) | inr a ↦ (omega (arith, a), omega (arith, a), omega (arith, a)) ]

    size_of_block_8 : (size ≡ 8) ⊎ ((size ≡ 16) ⊎ (size ≡ 32)) → (size ≤ 32) × (size % 4 ≡ 0) × (4 ≤ size)
    size_of_block_8 b = elim b [ inl a ↦ (omega (arith, a), omega (arith, a), omega (arith, a)) | inr c ↦ size_of_block_16 c ]

-- a store stays one where its length does
pub still_store : (size : ℕ) (old new : List ℕ) → length new ≡ length old → IsT5Store size old → IsT5Store size new
still_store size old new same is = record {
  sized = is.sized;
  whole = ap (λ n. n % size) same ∙ is.whole;
  least = let e : blocks_in size new ≡ blocks_in size old = ap (λ n. n / size) same in omega (arith, e, is.least);
  most = omega (arith, same, is.most);
}
