-- A slot whose pass needs no round too many doesn't end a search.
use Rattle.std.proofs.Common.{◌≡◌, ℕ, suc, List, [], ◌∷◌, ◌++◌, length, reverse, Bool, true, false, not, ◌&&◌, ◌||◌, nat_eq, nat_lt, nat_le, if◌then◌else◌, Option, Some, None, refl, sym, ◌∙◌, ap}
use Rattle.std.proofs.Common.{arith}
use Rattle.t5t_tag.specs.Slots.{last_slot}
use Rattle.nfcv_poll.specs.declared.mask.Mask.{Mask}
use Rattle.nfcv_poll.specs.Masks.{extended}
use Rattle.nfcv_poll.specs.Search.{most_rounds, over_at, hush_stage, id_at, is_over, opens_with, leaves, with_clash, with_id, is_clash, is_spent, fails, takes_in, takes}
use Rattle.nfca_poll.specs.declared.fault.PollFault.TheVariants as faults
use Rattle.nfcv_poll.specs.declared.search.Said.{Said}
use Rattle.nfcv_poll.specs.declared.search.Said.TheVariants as told
use Rattle.nfcv_poll.specs.declared.search.Search.{Search}

hush_on : (found : List (List ℕ)) (o : Option (List ℕ)) (at : ℕ) → over_at found (hush_stage o at) ≡ None
hush_on found None at = refl
hush_on found (Some id) at = refl

opens_on : (s : Search) (ms : List Mask) → ((ms ≡ [] → ⊥) → nat_le most_rounds s.rounds ≡ false) → is_over (opens_with s ms) ≡ None
opens_on s [] few = hush_on s.found (id_at s.found 0) 0
opens_on s (m ∷ ms) few = rw (few (λ e. cc)) refl

some_left : (n : ℕ) → nat_eq (suc n) 0 ≡ false
some_left n = grind arith

none_left : (ms : List Mask) → not (nat_eq (length ms) 0) ≡ false → ms ≡ []
none_left [] h = refl
none_left (m ∷ ms) h = absurd (let no_ : true ≡ false = sym (ap not (some_left (length ms))) ∙ h in cc)

first_false : (a b : Bool) → (a || b) ≡ false → a ≡ false
first_false true b h = absurd cc
first_false false b h = refl

second_false : (a b : Bool) → (a || b) ≡ false → b ≡ false
second_false true b h = absurd cc
second_false false b h = h

both_none : (cs ms : List Mask) → (not (nat_eq (length ms) 0) || not (nat_eq (length cs) 0)) ≡ false → reverse cs ++ ms ≡ []
both_none cs ms h =
    let a : ms ≡ [] = none_left ms (first_false (not (nat_eq (length ms) 0)) (not (nat_eq (length cs) 0)) h) in
    let b : cs ≡ [] = none_left cs (second_false (not (nat_eq (length ms) 0)) (not (nat_eq (length cs) 0)) h) in
    ap (λ x. reverse cs ++ x) a ∙ ap (λ x. reverse x ++ []) b

-- the last of the rounds, where nothing is left
few_rounds : (a b v : Bool) → (a && b && v) ≡ false → a ≡ true → (v ≡ false → ⊥) → b ≡ false
few_rounds true true true h e left = absurd cc
few_rounds true true false h e left = absurd (left refl)
few_rounds true false v h e left = refl
few_rounds false b v h e left = absurd cc

last_of : (n : ℕ) → nat_lt n last_slot ≡ false → nat_le last_slot n ≡ true
last_of n h = grind arith

leaves_on : (s : Search) (m : Mask) (slot : ℕ) (v : Bool) → (v ≡ false → reverse s.clashes ++ s.masks ≡ []) → (nat_le last_slot slot && nat_le most_rounds s.rounds && v) ≡ false
    → is_over (leaves s m slot) ≡ None
leaves_on s m slot v none h = by_slot (nat_lt slot last_slot) refl
  where
    by_slot : (w : Bool) → nat_lt slot last_slot ≡ w → is_over (leaves s m slot) ≡ None
    by_slot true e = rw e refl
    by_slot false e =
        rw e (opens_on (record s { masks = reverse s.clashes ++ s.masks; clashes = [] }) (reverse s.clashes ++ s.masks)
        (λ some. few_rounds (nat_le last_slot slot) (nat_le most_rounds s.rounds) v h (last_of slot e) (λ f. some (none f))))

pub goes_on : (s : Search) (m : Mask) (slot : ℕ) (x : Said) → is_spent s m slot x ≡ false → (x ≡ told.Strange → ⊥) → is_over (takes_in s m slot x) ≡ None
goes_on s m slot told.Nothing h other =
    leaves_on s m slot (not (nat_eq (length s.masks) 0) || not (nat_eq (length s.clashes) 0)) (both_none s.clashes s.masks) h
goes_on s m slot (told.Tag id) h other =
    leaves_on (record s { found = with_id s.found id }) m slot (not (nat_eq (length s.masks) 0) || not (nat_eq (length s.clashes) 0)) (both_none s.clashes s.masks) h
goes_on s m slot told.Strange h other = absurd (other refl)
goes_on s m slot told.Clash h other = by_longer (extended m slot) h
  where
    by_longer : (o : Option Mask) → (nat_le last_slot slot && nat_le most_rounds s.rounds && (is_clash told.Clash o || not (nat_eq (length s.masks) 0) || not (nat_eq (length s.clashes) 0))) ≡ false
        → is_over (leaves (with_clash s o) m slot) ≡ None
    by_longer None h = leaves_on s m slot (not (nat_eq (length s.masks) 0) || not (nat_eq (length s.clashes) 0)) (both_none s.clashes s.masks) h
    by_longer (Some longer) h = leaves_on (record s { clashes = longer ∷ s.clashes }) m slot true (λ e. absurd cc) h

-- so nor does a slot that is told something of a tag, or nothing
pub slot_goes_on : (s : Search) (m : Mask) (slot : ℕ) (x : Said) → is_spent s m slot x ≡ false → (x ≡ told.Strange → ⊥) → is_over (takes s m slot x) ≡ None
slot_goes_on s m slot x h other =
    let t : takes s m slot x ≡ takes_in s m slot x = ap (λ v. if v then fails s faults.BadAnswer else takes_in s m slot x) h in
    ap is_over t ∙ goes_on s m slot x h other
