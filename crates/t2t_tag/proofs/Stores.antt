-- What a block that is written leaves of a store.
use Rattle.std.proofs.Common.{◌≡◌, ℕ, ◌+◌, ◌-◌, ◌*◌, ◌/◌, ◌%◌, ◌<◌, ◌≤◌, List, ◌++◌, length, take, drop, sym, ◌∙◌, ap, append_assoc, arith}
use Rattle.std.specs.Prelude.{slice_index}
use Rattle.std.proofs.lemmas.List.{length-append, length-drop, length-take-le, take-append-le, take-take, get_or-take}
use Rattle.nfc_base.specs.Blocks.{with_block}
use Rattle.t2t_tag.specs.Store.{block_count, IsT2Store, fixed_size, IsSameStore}

-- no length changes, and nothing before the block
pub length_with_block : (store : List ℕ) (block : ℕ) (content : List ℕ) → block < block_count store → length content ≡ 4 → length (with_block 4 store block content) ≡ length store
length_with_block store block content within long =
    let at : ℕ = 4 * block in
    let room : at + 4 ≤ length store = omega arith in
    let front : length (take at store) ≡ at = length-take-le at store (omega (arith, room)) in
    let rest : length (drop (at + 4) store) ≡ length store - (at + 4) = length-drop (at + 4) store in
    let a = length-append (take at store ++ content) (drop (at + 4) store) in
    let b = length-append (take at store) content in
    omega (arith, room, front, rest, a, b, long)

front_with_block : (n : ℕ) (store : List ℕ) (block : ℕ) (content : List ℕ) → n ≤ 4 * block → block < block_count store → take n (with_block 4 store block content) ≡ take n store
front_with_block n store block content before within =
    let at : ℕ = 4 * block in
    let room : at + 4 ≤ length store = omega arith in
    let front : length (take at store) ≡ at = length-take-le at store (omega (arith, room)) in
    ap (λ xs. take n xs) (append_assoc (take at store) content (drop (at + 4) store))
    ∙ take-append-le n (take at store) (content ++ drop (at + 4) store) (omega (arith, before, front)) ∙ take-take n at store before

pub same_with_block : (store : List ℕ) (block : ℕ) (content : List ℕ) → 4 ≤ block → block < block_count store → length content ≡ 4 → IsSameStore store (with_block 4 store block content)
same_with_block store block content after within long = record {
  size = length_with_block store block content within long;
  fixed = front_with_block fixed_size store block content (omega (arith, after)) within;
}

-- a store stays one where these stay
pub still_store : (old new : List ℕ) → IsSameStore old new → IsT2Store old → IsT2Store new
still_store old new same is =
    let byte : (i : ℕ) → i < fixed_size → slice_index new i ≡ slice_index old i =
    λ i low. sym (get_or-take fixed_size new i 0 low) ∙ ap (λ xs. slice_index xs i) same.fixed ∙ get_or-take fixed_size old i 0 low in
    let magic = byte 12 (omega arith) in
    let area = byte 14 (omega arith) in
    let count : block_count new ≡ block_count old = ap (λ n. n / 4) same.size in
    record {
      whole = ap (λ n. n % 4) same.size ∙ is.whole;
      least = omega (arith, count, is.least);
      most = omega (arith, count, is.most);
      area = λ has small. (let room = is.area (sym magic ∙ has) (omega (arith, area, small)) in omega (arith, count, area, room));
    }
