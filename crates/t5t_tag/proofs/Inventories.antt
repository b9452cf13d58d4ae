-- What a tag answers to an inventory: to any, to one of its identifier, and to one of another.
use Rattle.std.proofs.Common.{◌≡◌, ◌≢◌, ℕ, suc, ◌-◌, ◌%◌, ◌*◌, ◌^◌, ◌<◌, ◌≤◌, min, List, [], ◌∷◌, length, get_or, take, Bool, true, false, not, nat_eq, nat_le, ◌&&◌, if◌then◌else◌, refl, sym, ◌∙◌, ap}
use Rattle.std.proofs.Common.{arith}
use Rattle.std.specs.Cmp.Lexicographic.{pointwise}
use Rattle.std.proofs.lemmas.List.{length-reverse, reverse-reverse, get_or-reverse, get_or_past}
use Rattle.std.proofs.Math.Seq.{take-length}
use Rattle.std.proofs.Math.Nat.{mod-eq_of_lt}
use Rattle.nfc_base.specs.Signal.{whole_v}
use Rattle.t5t_tag.specs.declared.answer.T5Answer.TheVariants.{Present}
use Rattle.t5t_tag.specs.Store.{T5State, IsT5Shape, id_size}
use Rattle.t5t_tag.specs.Mask.{low_first, most_bits, kept, mask_of}
use Rattle.t5t_tag.specs.Spelling.{inventory_flags, inventory_code}
use Rattle.t5t_tag.specs.Step.{silent, tells, out_of_round, t5_turn}
use Rattle.t5t_tag.proofs.Bytes.{equal_bytes, bytes_self}

-- all bits of bytes are kept
kept_all : (bits : ℕ) (bytes : List ℕ) → 8 * length bytes ≤ bits → ((i : ℕ) → get_or bytes i 0 < 256) → kept bits bytes ≡ bytes
kept_all bits [] h small = refl
kept_all bits (b ∷ bytes) h small =
    let eight : min bits 8 ≡ 8 = omega arith in
    let low : b < 256 = small 0 in
    ap (λ n. b % 2 ^ n ∷ kept (bits - 8) bytes) eight
    ∙ ap (λ n. n ∷ kept (bits - 8) bytes) (mod-eq_of_lt low)
    ∙ ap (λ t. b ∷ t) (kept_all (bits - 8) bytes (omega arith) (λ i. small (suc i)))

small_reversed : (id : List ℕ) → ((i : ℕ) → get_or id i 0 < 256) → (i : ℕ) → get_or (low_first id) i 0 < 256
small_reversed id small i = by_place (nat_le (length id) i) refl
  where
    behind : (n k : ℕ) → nat_le n k ≡ true → n ≤ k
    behind n k h = grind arith

    before : (n k : ℕ) → nat_le n k ≡ false → k < n
    before n k h = grind arith

    by_place : (v : Bool) → nat_le (length id) i ≡ v → get_or (low_first id) i 0 < 256
    by_place true h =
        let past : get_or (low_first id) i 0 ≡ 0 = get_or_past (low_first id) i 0 (omega (arith, behind (length id) i h, length-reverse id)) in
        omega (arith, past)
    by_place false h =
        let turned : get_or (low_first id) i 0 ≡ get_or id (length id - 1 - i) 0 = get_or-reverse id i 0 (before (length id) i h) in
        let less : get_or id (length id - 1 - i) 0 < 256 = small (length id - 1 - i) in
        omega (arith, turned, less)

-- the mask of all bits is the identifier
pub whole_mask : (t : T5State) → IsT5Shape t → mask_of t.id most_bits ≡ low_first t.id
whole_mask t is =
    let low : List ℕ = low_first t.id in
    let long : length low ≡ id_size = length-reverse t.id ∙ is.id in
    let all : kept most_bits low ≡ low = kept_all most_bits low (omega (arith, long)) (small_reversed t.id is.bytes) in
    ap (λ x. take id_size x) all ∙ ap (λ n. take n low) (sym long) ∙ take-length low

-- an inventory with a whole identifier: the tag that has it answers, where it isn't quiet
pub picked : (t : T5State) → IsT5Shape t → t.quiet ≡ false → t5_turn t (whole_v (inventory_flags ∷ inventory_code ∷ most_bits ∷ low_first t.id)) ≡ tells (out_of_round t) (Present t.id)
picked t is loud =
    let u : T5State = out_of_round t in
    ap (λ v. if not v && pointwise nat_eq (low_first t.id) (mask_of t.id most_bits) then tells u (Present t.id) else silent u) loud
    ∙ ap (λ x. if pointwise nat_eq (low_first t.id) x then tells u (Present t.id) else silent u) (whole_mask t is)
    ∙ ap (λ v. if v then tells u (Present t.id) else silent u) (bytes_self (low_first t.id))

-- every other tag is silent
pub unpicked : (t : T5State) → IsT5Shape t → (id : List ℕ) → id ≢ t.id → t5_turn t (whole_v (inventory_flags ∷ inventory_code ∷ most_bits ∷ low_first id)) ≡ silent (out_of_round t)
unpicked t is id other = by_mask t.quiet (pointwise nat_eq (low_first id) (mask_of t.id most_bits)) refl
  where
    same_id : pointwise nat_eq (low_first id) (mask_of t.id most_bits) ≡ true → id ≡ t.id
    same_id h =
        let low : low_first id ≡ low_first t.id = equal_bytes (low_first id) (mask_of t.id most_bits) h ∙ whole_mask t is in
        sym (reverse-reverse id) ∙ ap low_first low ∙ reverse-reverse t.id

    by_mask : (quiet v : Bool) → pointwise nat_eq (low_first id) (mask_of t.id most_bits) ≡ v
        → (if not quiet && v then tells (out_of_round t) (Present t.id) else silent (out_of_round t)) ≡ silent (out_of_round t)
    by_mask true v h = refl
    by_mask false false h = refl
    by_mask false true h = absurd (other (same_id h))

pub take_none : (xs : List ℕ) → take 0 xs ≡ []
take_none [] = refl
take_none (x ∷ xs) = refl

-- an inventory without a mask: every tag that isn't quiet answers
pub counted : (t : T5State) → t.quiet ≡ false → t5_turn t (whole_v (inventory_flags ∷ inventory_code ∷ 0 ∷ [])) ≡ tells (out_of_round t) (Present t.id)
counted t loud =
    let u : T5State = out_of_round t in
    ap (λ v. if not v && pointwise nat_eq [] (mask_of t.id 0) then tells u (Present t.id) else silent u) loud
    ∙ ap (λ x. if pointwise nat_eq [] x then tells u (Present t.id) else silent u) (take_none (kept 0 (low_first t.id)))
