-- To which stages a search goes on, and that it finds no more than what was told.
use Rattle.std.proofs.Common.{◌≡◌, ℕ, ◌+◌, List, [], ◌∷◌, ◌++◌, reverse, Bool, true, false, nat_lt, nat_le, if◌then◌else◌, Option, Some, None, refl}
use Rattle.nfca_poll.specs.declared.fault.PollFault.{PollFault}
use Rattle.nfca_poll.specs.declared.fault.PollFault.TheVariants as faults
use Rattle.t5t_tag.specs.Slots.{last_slot}
use Rattle.nfcv_poll.specs.declared.mask.Mask.{Mask}
use Rattle.nfcv_poll.specs.Masks.{extended}
use Rattle.nfcv_poll.specs.Search.{most_rounds, with_id, id_at, fails, hush_stage, hushes, opens_with, leaves, with_clash, is_spent, takes_in, takes}
use Rattle.nfcv_poll.specs.Tags.{IsOneOf}
use Rattle.nfcv_poll.specs.declared.search.Said.{Said}
use Rattle.nfcv_poll.specs.declared.search.Said.TheVariants as told
use Rattle.nfcv_poll.specs.declared.search.Search.{Search}
use Rattle.nfcv_poll.specs.declared.search.Stage.{Stage}
use Rattle.nfcv_poll.specs.declared.search.Stage.TheVariants as stages
use Rattle.nfcv_poll.proofs.Members.{one_at}

-- the faults by which a search itself ends
abbrev pub IsOwnFault : PollFault → Type 0
IsOwnFault faults.Nobody = ⊥
IsOwnFault faults.Disturbed = Unit {0}
IsOwnFault faults.FieldLost = ⊥
IsOwnFault faults.Memory = ⊥
IsOwnFault faults.NotFound = ⊥
IsOwnFault faults.BadAnswer = Unit {0}

-- a stage in which it wasn't asked yet who is left, and of which a tag that is told to stay quiet was recorded
abbrev pub IsEarly : List (List ℕ) → Stage → Type 0
IsEarly found (stages.Slot m slot) = Unit {0}
IsEarly found (stages.Hush id next) = IsOneOf id found
IsEarly found (stages.WhoIsLeft asked) = asked ≡ 0
IsEarly found stages.Over = ⊥
IsEarly found (stages.Fails fault) = IsOwnFault fault

-- a search that comes to such a stage, with what was found so far
pub record Early (found : List (List ℕ)) (s : Search) : Type 0 where
  pub found' : s.found ≡ found
  pub early : IsEarly found s.stage

pub hush_early : (s : Search) (at : ℕ) → Early s.found (hushes s at)
hush_early s at = record { found' = refl; early = by_place (id_at s.found at) refl }
  where
    by_place : (o : Option (List ℕ)) → id_at s.found at ≡ o → IsEarly s.found (hush_stage o at)
    by_place None e = refl
    by_place (Some id) e = one_at s.found at id e

opens_early : (s : Search) (ms : List Mask) → Early s.found (opens_with s ms)
opens_early s [] = let h = hush_early (record s { masks = [] }) 0 in record { found' = h.found'; early = h.early }
opens_early s (m ∷ ms) = by_rounds (nat_le most_rounds s.rounds)
  where
    by_rounds : (v : Bool) → Early s.found (if v then record s { masks = ms; stage = stages.Fails faults.BadAnswer } else record s { rounds = s.rounds + 1; masks = ms; stage = stages.Slot m 0 })
    by_rounds true = record { found' = refl; early = tt }
    by_rounds false = record { found' = refl; early = tt }

leaves_early : (s : Search) (m : Mask) (slot : ℕ) → Early s.found (leaves s m slot)
leaves_early s m slot = by_slot (nat_lt slot last_slot)
  where
    all : List Mask
    all = reverse s.clashes ++ s.masks

    by_slot : (v : Bool) → Early s.found (if v then record s { stage = stages.Slot m (slot + 1) } else opens_with (record s { masks = all; clashes = [] }) all)
    by_slot true = record { found' = refl; early = tt }
    by_slot false = let h = opens_early (record s { masks = all; clashes = [] }) all in record { found' = h.found'; early = h.early }

-- behind a slot no more is found, or what was told in it
pub data Taken (s r : Search) (x : Said) : Type 0 where
  Same : Early s.found r → Taken s r x
  More : (id : List ℕ) → x ≡ told.Tag id → Early (with_id s.found id) r → Taken s r x

clash_early : (s : Search) (m : Mask) (slot : ℕ) (o : Option Mask) → Early s.found (leaves (with_clash s o) m slot)
clash_early s m slot None = leaves_early s m slot
clash_early s m slot (Some n) = let h = leaves_early (record s { clashes = n ∷ s.clashes }) m slot in record { found' = h.found'; early = h.early }

pub takes_early : (s : Search) (m : Mask) (slot : ℕ) (x : Said) → Taken s (takes s m slot x) x
takes_early s m slot x = by_spent (is_spent s m slot x) x
  where
    by_spent : (v : Bool) (x : Said) → Taken s (if v then fails s faults.BadAnswer else takes_in s m slot x) x
    by_spent true x = Same (record { found' = refl; early = tt })
    by_spent false told.Nothing = Same (leaves_early s m slot)
    by_spent false told.Clash = Same (clash_early s m slot (extended m slot))
    by_spent false (told.Tag id) = More id refl (let h = leaves_early (record s { found = with_id s.found id }) m slot in record { found' = h.found'; early = h.early })
    by_spent false told.Strange = Same (record { found' = refl; early = tt })
