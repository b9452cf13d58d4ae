-- How many clashes the identifiers of tags allow: of sixteen at most eight pairs share their lowest 4 bits, and so on up to
-- 60 bits. So there are at most 120 masks, with the slot behind each, that are those of two of them.
use Rattle.std.proofs.Common.{◌≡◌, ◌<◌, ◌≤◌, ℕ, ◌+◌, ◌*◌, List, [], ◌∷◌, length, Bool, true, false, ◌&&◌, ◌||◌, nat_eq, eqb, if◌then◌else◌, refl, sym, ◌∙◌, ap, arith}
use Rattle.std.specs.Cmp.Lexicographic.{pointwise}
use Rattle.std.specs.List.{AllByRecursion, IsDistinct, list_any}
use Rattle.std.proofs.lemmas.Map.Steps.{length-le_from_distinct_below}
use Rattle.nfca_poll.specs.Crowd.{Each}
use Rattle.t5t_tag.specs.Mask.{mask_of}
use Rattle.t5t_tag.specs.Slots.{slot_of}
use Rattle.t5t_tag.proofs.Bytes.{equal_bytes}

-- A slot in which tags may clash: of a round whose mask has so many times four bits.
pub record Fork : Type 0 where
  pub depth : ℕ
  pub mask : List ℕ
  pub slot : ℕ

-- how many lengths of masks there are behind which two identifiers may clash: 0, 4, .. 56 bits, since two share 60 at most
abbrev pub most_depths : ℕ
most_depths = 15

abbrev pub shares : List ℕ → Fork → Bool
shares i f = pointwise nat_eq f.mask (mask_of i (4 * f.depth)) && nat_eq (slot_of i (4 * f.depth)) f.slot

abbrev pub one_if : Bool → ℕ
one_if true = 1
one_if false = 0

-- how many of these identifiers answer in it
abbrev pub sharing : Fork → List (List ℕ) → ℕ
sharing f [] = 0
sharing f (i ∷ is) = one_if (shares i f) + sharing f is

-- one in which two of them clash, behind at most 56 bits
pub record IsFork (ids : List (List ℕ)) (f : Fork) : Type 0 where
  pub clash : 2 ≤ sharing f ids
  pub depth : f.depth < most_depths

-- no two of these are the same
abbrev pub Differs : Fork → Fork → Type 0
Differs f g = f.depth ≡ g.depth → f.mask ≡ g.mask → f.slot ≡ g.slot → ⊥

abbrev pub AreApart : List Fork → Type 0
AreApart [] = Unit {0}
AreApart (f ∷ fs) = Each (Differs f) fs × AreApart fs

-- the depths of those in which an identifier answers
abbrev depths : List Fork → List ℕ → List ℕ
depths [] i = []
depths (f ∷ fs) i = if shares i f then f.depth ∷ depths fs i else depths fs i

-- how many identifiers answer in them, together
abbrev together : List Fork → List (List ℕ) → ℕ
together [] is = 0
together (f ∷ fs) is = sharing f is + together fs is

together_none : (fs : List Fork) → together fs [] ≡ 0
together_none [] = refl
together_none (f ∷ fs) = omega (arith, together_none fs)

together_more : (fs : List Fork) (i : List ℕ) (is : List (List ℕ)) → together fs (i ∷ is) ≡ length (depths fs i) + together fs is
together_more [] i is = refl
together_more (f ∷ fs) i is = by_share (shares i f) (together_more fs i is)
  where
    by_share : (v : Bool) → together fs (i ∷ is) ≡ length (depths fs i) + together fs is
        → (one_if v + sharing f is) + together fs (i ∷ is) ≡ length (if v then f.depth ∷ depths fs i else depths fs i) + (sharing f is + together fs is)
    by_share true e = omega (arith, e)
    by_share false e = omega (arith, e)

pub same_number : (m n : ℕ) → nat_eq m n ≡ true → m ≡ n
same_number m n h = grind arith

left_true : (a b : Bool) → (a && b) ≡ true → a ≡ true
left_true true b h = refl
left_true false b h = absurd cc

pub right_true : (a b : Bool) → (a && b) ≡ true → b ≡ true
right_true true b h = h
right_true false b h = absurd cc

-- the mask and the slot of an identifier behind so many bits are its own
pub mask_is : (i : List ℕ) (f : Fork) → shares i f ≡ true → f.mask ≡ mask_of i (4 * f.depth)
mask_is i f h = equal_bytes f.mask (mask_of i (4 * f.depth)) (left_true (pointwise nat_eq f.mask (mask_of i (4 * f.depth))) (nat_eq (slot_of i (4 * f.depth)) f.slot) h)

pub slot_is : (i : List ℕ) (f : Fork) → shares i f ≡ true → slot_of i (4 * f.depth) ≡ f.slot
slot_is i f h = same_number (slot_of i (4 * f.depth)) f.slot (right_true (pointwise nat_eq f.mask (mask_of i (4 * f.depth))) (nat_eq (slot_of i (4 * f.depth)) f.slot) h)

depth_apart : (i : List ℕ) (f : Fork) (fs : List Fork) → shares i f ≡ true → Each (Differs f) fs → AllByRecursion (λ d. eqb f.depth d ≡ false) (depths fs i)
depth_apart i f [] h other = tt
depth_apart i f (g ∷ gs) h other = by_share (shares i g) refl (depth_apart i f gs h other.1)
  where
    masks : shares i g ≡ true → f.depth ≡ g.depth → f.mask ≡ g.mask
    masks k d = mask_is i f h ∙ ap (λ n. mask_of i (4 * n)) d ∙ sym (mask_is i g k)

    slots : shares i g ≡ true → f.depth ≡ g.depth → f.slot ≡ g.slot
    slots k d = sym (slot_is i f h) ∙ ap (λ n. slot_of i (4 * n)) d ∙ slot_is i g k

    apart : shares i g ≡ true → (v : Bool) → eqb f.depth g.depth ≡ v → eqb f.depth g.depth ≡ false
    apart k true e = absurd (let d : f.depth ≡ g.depth = same_number f.depth g.depth e in other.0 d (masks k d) (slots k d))
    apart k false e = e

    by_share : (v : Bool) → shares i g ≡ v → AllByRecursion (λ d. eqb f.depth d ≡ false) (depths gs i)
        → AllByRecursion (λ d. eqb f.depth d ≡ false) (if v then g.depth ∷ depths gs i else depths gs i)
    by_share true k rest = (apart k (eqb f.depth g.depth) refl, rest)
    by_share false k rest = rest

depths_apart : (i : List ℕ) (fs : List Fork) → AreApart fs → IsDistinct eqb (depths fs i)
unfolding IsDistinct
depths_apart i [] h = tt
depths_apart i (f ∷ fs) h = by_share (shares i f) refl (depths_apart i fs h.1)
  where
    by_share : (v : Bool) → shares i f ≡ v → IsDistinct eqb (depths fs i) → IsDistinct eqb (if v then f.depth ∷ depths fs i else depths fs i)
    by_share true k rest = (depth_apart i f fs k h.0, rest)
    by_share false k rest = rest

depths_few : (ids : List (List ℕ)) (i : List ℕ) (fs : List Fork) → Each (IsFork ids) fs → (q : ℕ) → list_any (eqb q) (depths fs i) ≡ true → q < most_depths
depths_few ids i [] h q k = absurd cc
depths_few ids i (f ∷ fs) h q k = by_share (shares i f) (λ j. depths_few ids i fs h.1 q j) k
  where
    by_first : (v : Bool) → eqb q f.depth ≡ v → (list_any (eqb q) (depths fs i) ≡ true → q < most_depths) → (v || list_any (eqb q) (depths fs i)) ≡ true → q < most_depths
    by_first true e more j = let d : q ≡ f.depth = same_number q f.depth e in omega (arith, d, h.0.depth)
    by_first false e more j = more j

    by_share : (v : Bool) → (list_any (eqb q) (depths fs i) ≡ true → q < most_depths) → list_any (eqb q) (if v then f.depth ∷ depths fs i else depths fs i) ≡ true → q < most_depths
    by_share true more j = by_first (eqb q f.depth) refl more j
    by_share false more j = more j

-- An identifier answers in one of each depth, and so in at most fifteen.
together_few : (ids : List (List ℕ)) (fs : List Fork) → AreApart fs → Each (IsFork ids) fs → (is : List (List ℕ)) → together fs is ≤ most_depths * length is
together_few ids fs apart are [] = omega (arith, together_none fs)
together_few ids fs apart are (i ∷ is) =
    let here : length (depths fs i) ≤ most_depths = length-le_from_distinct_below (depths fs i) most_depths (depths_apart i fs apart) (depths_few ids i fs are) in
    omega (arith, together_more fs i is, here, together_few ids fs apart are is)

-- in each answer two at least
forks_together : (ids : List (List ℕ)) (fs : List Fork) → Each (IsFork ids) fs → 2 * length fs ≤ together fs ids
forks_together ids [] are = omega arith
forks_together ids (f ∷ fs) are = omega (arith, are.0.clash, forks_together ids fs are.1)

-- So sixteen identifiers have at most 120 forks.
pub few_forks : (ids : List (List ℕ)) (fs : List Fork) → length ids ≤ 16 → AreApart fs → Each (IsFork ids) fs → length fs ≤ 120
few_forks ids fs few apart are = omega (arith, few, forks_together ids fs are, together_few ids fs apart are ids)
