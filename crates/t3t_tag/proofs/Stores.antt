-- A store in blocks, and what a changed block leaves.
use Rattle.std.proofs.Common.{◌≡◌, ℕ, suc, ◌+◌, ◌-◌, ◌*◌, ◌/◌, ◌%◌, ◌<◌, ◌≤◌, List, [], ◌∷◌, ◌++◌, length, take, drop, true, nat_lt, refl, sym, ◌∙◌, ap, append_assoc, arith}
use Rattle.std.proofs.lemmas.List.{length-append, length-drop, length-take-le, take-append-drop, take-append-le}
use Rattle.std.proofs.Math.Seq.{take-append_seam, drop-append_seam}
use Rattle.nfc_base.specs.Blocks.{with_block, block_of}
use Rattle.t3t_tag.specs.Store.{block_size, block_count, attributes, IsBlocks}
use Rattle.t3t_tag.specs.Step.{are_there, content_of}
use Rattle.t3t_tag.proofs.Bytes.{left_of, right_of}

-- a block that the store has lies in it whole
pub block_room : (store : List ℕ) (block : ℕ) → block < block_count store → 16 * block + 16 ≤ length store
block_room store block within = let h : block < length store / 16 = within in omega (arith, h)

pub length_block : (store : List ℕ) (block : ℕ) → block < block_count store → length (block_of block_size store block) ≡ 16
length_block store block within =
    let room : 16 * block + 16 ≤ length store = block_room store block within in
    let long : length (drop (16 * block) store) ≡ length store - 16 * block = length-drop (16 * block) store in
    length-take-le 16 (drop (16 * block) store) (omega (arith, room, long))

front_long : (store : List ℕ) (block : ℕ) → block < block_count store → length (take (16 * block) store) ≡ 16 * block
front_long store block within =
    let room : 16 * block + 16 ≤ length store = block_room store block within in
    length-take-le (16 * block) store (omega (arith, room))

-- a changed block changes no length
pub length_with_block : (store : List ℕ) (block : ℕ) (content : List ℕ) → block < block_count store → length content ≡ block_size
    → length (with_block block_size store block content) ≡ length store
length_with_block store block content within long =
    let at : ℕ = 16 * block in
    let room : at + 16 ≤ length store = block_room store block within in
    let front : length (take at store) ≡ at = front_long store block within in
    let rest : length (drop (at + 16) store) ≡ length store - (at + 16) = length-drop (at + 16) store in
    let a : length (with_block 16 store block content) ≡ length (take at store ++ content) + length (drop (at + 16) store) =
    length-append (take at store ++ content) (drop (at + 16) store) in
    let b : length (take at store ++ content) ≡ length (take at store) + length content = length-append (take at store) content in
    let c : length content ≡ 16 = long in
    omega (arith, room, front, rest, a, b, c)

-- the same change made again changes nothing
pub with_block_again : (store : List ℕ) (block : ℕ) (content : List ℕ) → block < block_count store → length content ≡ block_size
    → with_block block_size (with_block block_size store block content) block content ≡ with_block block_size store block content
with_block_again store block content within long =
    let at : ℕ = 16 * block in
    let front : List ℕ = take at store in
    let rest : List ℕ = drop (at + 16) store in
    let new : List ℕ = front ++ content ++ rest in
    let c : length content ≡ 16 = long in
    let a : length front ≡ at = front_long store block within in
    let b : length (front ++ content) ≡ at + 16 = length-append front content ∙ omega (arith, a, c) in
    let same_front : take at new ≡ front =
    ap (λ t. take at t) (append_assoc front content rest) ∙ ap (λ n. take n (front ++ (content ++ rest))) (sym a) ∙ take-append_seam front (content ++ rest) in
    let same_rest : drop (at + 16) new ≡ rest = ap (λ n. drop n new) (sym b) ∙ drop-append_seam (front ++ content) rest in
    ap (λ t. t ++ content ++ drop (at + 16) new) same_front ∙ ap (λ t. front ++ content ++ t) same_rest

-- a store stays whole blocks where its length does
pub still_blocks : (old new : List ℕ) → length new ≡ length old → IsBlocks old → IsBlocks new
still_blocks old new same is =
    let count : block_count new ≡ block_count old = ap (λ n. n / 16) same in
    record {
      whole = ap (λ n. n % 16) same ∙ is.whole;
      least = omega (arith, count, is.least);
      most = omega (arith, count, is.most);
    }

-- the content of blocks that are there is sixteen bytes each
pub length_content : (store blocks : List ℕ) → are_there (block_count store) blocks ≡ true → length (content_of store blocks) ≡ 16 * length blocks
length_content store [] h = refl
length_content store (block ∷ blocks) h =
    let within : block < block_count store = below_of block (block_count store) (left_of (nat_lt block (block_count store)) (are_there (block_count store) blocks) h) in
    let rest : length (content_of store blocks) ≡ 16 * length blocks = length_content store blocks (right_of (nat_lt block (block_count store)) (are_there (block_count store) blocks) h) in
    let first : length (block_of block_size store block) ≡ 16 = length_block store block within in
    let sum : length (block_of block_size store block ++ content_of store blocks) ≡ length (block_of block_size store block) + length (content_of store blocks) =
    length-append (block_of block_size store block) (content_of store blocks) in
    omega (arith, rest, first, sum)
  where
    below_of : (m n : ℕ) → nat_lt m n ≡ true → m < n
    below_of m n h = grind arith

-- a change of block 0 is the attribute block then
pub attributes_changed : (store content : List ℕ) → length content ≡ block_size → attributes (with_block block_size store 0 content) ≡ content
attributes_changed store content long =
    ap (λ n. take n (content ++ drop 16 store)) (sym long) ∙ take-append_seam content (drop 16 store)

-- and no other block changes it
pub attributes_kept : (store : List ℕ) (block : ℕ) (content : List ℕ) → suc block < block_count store
    → attributes (with_block block_size store (suc block) content) ≡ attributes store
attributes_kept store block content within =
    let at : ℕ = 16 * suc block in
    let front : List ℕ = take at store in
    let rest : List ℕ = drop (at + 16) store in
    let a : length front ≡ at = front_long store (suc block) within in
    let large : 16 ≤ length front = omega (arith, a) in
    let whole : with_block 16 store (suc block) content ≡ front ++ (content ++ rest) = append_assoc front content rest in
    ap (λ t. take 16 t) whole
    ∙ take-append-le 16 front (content ++ rest) large
    ∙ sym (take-append-le 16 front (drop at store) large)
    ∙ ap (λ t. take 16 t) (take-append-drop at store)
