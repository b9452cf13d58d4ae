-- The block elements of a Check, both ways.
use Rattle.std.proofs.Common.{◌≡◌, ◌≢◌, ℕ, suc, ◌+◌, ◌*◌, ◌<◌, ◌≤◌, slice_index, drop, List, [], ◌∷◌, ◌++◌, length, Bool, true, false, nat_le, ◌==◌, ◌&&◌, if◌then◌else◌, Option, Some, None, refl, sym}
use Rattle.std.proofs.Common.{◌∙◌, ap, append_assoc, arith}
use Rattle.std.proofs.Math.Seq.{drop-cons}
use Rattle.t3t_tag.specs.Spelling.{element_code, most_elements, elements}
use Rattle.t3t_tag.specs.Reading.{with_block_number, blocks_named, is_element_count, blocks_asked, found_blocks}
use Rattle.t3t_tag.proofs.Bytes.{equal_of, is_equal, is_other, at_most, is_at_most, left_of, right_of, both_of, by_if}

pub length_elements : (blocks : List ℕ) → length (elements blocks) ≡ 2 * length blocks
length_elements [] = refl
length_elements (block ∷ blocks) = let e : length (elements blocks) ≡ 2 * length blocks = length_elements blocks in omega (arith, e)

pub elements_read : (blocks : List ℕ) → blocks_named (elements blocks) ≡ Some blocks
elements_read [] = refl
elements_read (block ∷ blocks) = ap (with_block_number block) (elements_read blocks)

-- what stands in front of the blocks that follow
pub record IsFront (block : ℕ) (behind : Option (List ℕ)) (blocks : List ℕ) : Type 0 where
  pub rest : List ℕ
  pub is : behind ≡ Some rest
  pub whole : block ∷ rest ≡ blocks

front_told : (block : ℕ) (behind : Option (List ℕ)) (blocks : List ℕ) → with_block_number block behind ≡ Some blocks → IsFront block behind blocks
front_told block None blocks e = cc
front_told block (Some rest) blocks e = record { rest = rest; is = refl; whole = (let d : block ∷ rest ≡ blocks = cc in d) }

pub elements_told : (bytes blocks : List ℕ) → blocks_named bytes ≡ Some blocks → bytes ≡ elements blocks
elements_told [] blocks e = let d : [] ≡ blocks = cc in ap elements d
elements_told (code ∷ []) blocks e = cc
elements_told (code ∷ block ∷ rest) blocks e =
    by_if (code == element_code) (with_block_number block (blocks_named rest)) None blocks (code ∷ block ∷ rest ≡ elements blocks)
    (λ h e.
    let front : IsFront block (blocks_named rest) blocks = front_told block (blocks_named rest) blocks e in
    ap (λ n. n ∷ block ∷ rest) (equal_of code element_code h)
    ∙ ap (λ t. element_code ∷ block ∷ t) (elements_told rest front.rest front.is)
    ∙ ap elements front.whole)
    (λ h e. cc) e

-- what elements are that are read
pub record AreAsked (count : ℕ) (rest blocks : List ℕ) : Type 0 where
  pub number : count ≡ length blocks
  pub whole : rest ≡ elements blocks
  pub least : 1 ≤ length blocks
  pub most : length blocks ≤ most_elements

pub asked_told : (count : ℕ) (rest blocks : List ℕ) → blocks_asked count rest ≡ Some blocks → AreAsked count rest blocks
asked_told count rest blocks =
    by_if (is_element_count count && (length rest == 2 * count)) (blocks_named rest) None blocks (AreAsked count rest blocks)
    (λ h e.
    let range : is_element_count count ≡ true = left_of (is_element_count count) (length rest == 2 * count) h in
    let sized : length rest ≡ 2 * count = equal_of (length rest) (2 * count) (right_of (is_element_count count) (length rest == 2 * count) h) in
    let least : 1 ≤ count = at_most 1 count (left_of (nat_le 1 count) (nat_le count most_elements) range) in
    let most : count ≤ most_elements = at_most count most_elements (right_of (nat_le 1 count) (nat_le count most_elements) range) in
    let whole : rest ≡ elements blocks = elements_told rest blocks e in
    let long : length rest ≡ 2 * length blocks = ap length whole ∙ length_elements blocks in
    let same : count ≡ length blocks = omega (arith, sized, long) in
    record { number = same; whole = whole; least = omega (arith, same, least); most = omega (arith, same, most) })
    (λ h e. cc)

pub count_in_range : (count : ℕ) → 1 ≤ count → count ≤ most_elements → is_element_count count ≡ true
count_in_range count least most = both_of (nat_le 1 count) (nat_le count most_elements) (is_at_most 1 count least) (is_at_most count most_elements most)

pub asked_read : (blocks : List ℕ) → 1 ≤ length blocks → length blocks ≤ most_elements → blocks_asked (length blocks) (elements blocks) ≡ Some blocks
asked_read blocks least most =
    let sized : (length (elements blocks) == 2 * length blocks) ≡ true = is_equal (length (elements blocks)) (2 * length blocks) (length_elements blocks) in
    ap (λ v. if v then blocks_named (elements blocks) else None)
    (both_of (is_element_count (length blocks)) (length (elements blocks) == 2 * length blocks) (count_in_range (length blocks) least most) sized)
    ∙ elements_read blocks

-- the blocks read so far, before those that follow
abbrev pub joined : List ℕ → Option (List ℕ) → Option (List ℕ)
joined front None = None
joined front (Some blocks) = Some (front ++ blocks)

pub joined_step : (front : List ℕ) (block : ℕ) (behind : Option (List ℕ)) → joined (front ++ block ∷ []) behind ≡ joined front (with_block_number block behind)
joined_step front block None = refl
joined_step front block (Some rest) = ap (λ t. Some t) (append_assoc front (block ∷ []) rest)

-- the two bytes of one element, and what follows
element_at : (i : ℕ) (rest : List ℕ) → 2 * i + 1 < length rest
    → drop (2 * i) rest ≡ slice_index rest (2 * i) ∷ slice_index rest (2 * i + 1) ∷ drop (2 * (i + 1)) rest
element_at i rest within =
    let first : suc (2 * i) ≡ 2 * i + 1 = omega arith in
    let next : suc (2 * i + 1) ≡ 2 * (i + 1) = omega arith in
    drop-cons rest (2 * i) 0 (omega (arith, within))
    ∙ ap (λ n. slice_index rest (2 * i) ∷ drop n rest) first
    ∙ ap (λ t. slice_index rest (2 * i) ∷ t) (drop-cons rest (2 * i + 1) 0 within)
    ∙ ap (λ n. slice_index rest (2 * i) ∷ slice_index rest (2 * i + 1) ∷ drop n rest) next

-- one element more is read
pub one_more : (front : List ℕ) (i : ℕ) (rest : List ℕ) → 2 * i + 1 < length rest → slice_index rest (2 * i) ≡ element_code
    → joined (front ++ slice_index rest (2 * i + 1) ∷ []) (blocks_named (drop (2 * (i + 1)) rest)) ≡ joined front (blocks_named (drop (2 * i) rest))
one_more front i rest within code =
    let block : ℕ = slice_index rest (2 * i + 1) in
    let behind : List ℕ = drop (2 * (i + 1)) rest in
    joined_step front block (blocks_named behind)
    ∙ sym (ap (λ x. joined front (blocks_named x)) (element_at i rest within ∙ ap (λ n. n ∷ block ∷ behind) code))

-- something else is none, and names no blocks
pub no_more : (front : List ℕ) (i : ℕ) (rest : List ℕ) → 2 * i + 1 < length rest → slice_index rest (2 * i) ≢ element_code
    → joined front (blocks_named (drop (2 * i) rest)) ≡ None
no_more front i rest within other =
    let block : ℕ = slice_index rest (2 * i + 1) in
    let behind : List ℕ = drop (2 * (i + 1)) rest in
    ap (λ x. joined front (blocks_named x)) (element_at i rest within)
    ∙ ap (λ v. joined front (if v then with_block_number block (blocks_named behind) else None)) (is_other (slice_index rest (2 * i)) element_code other)

pub asked_none : (count : ℕ) (rest : List ℕ) → blocks_named rest ≡ None → None ≡ found_blocks (blocks_asked count rest)
asked_none count rest none = by_value (is_element_count count && (length rest == 2 * count))
  where
    by_value : (v : Bool) → None ≡ found_blocks (if v then blocks_named rest else None)
    by_value true = sym (ap found_blocks none)
    by_value false = refl
