-- What holds of each move of a target's table.
use Rattle.std.proofs.Common.{◌≡◌, ◌==◌, ◌≤◌, nat_lt, ℕ, ◌++◌, List, length, Bool, true, false, if◌then◌else◌, Option}
use Rattle.std.proofs.Common.{Some, None, refl, arith}
use Rattle.std.proofs.lemmas.Bool.Decides.{nat_tests}
use Rattle.dep_pdu.specs.declared.frame.DepFrame.{DepFrame}
use Rattle.dep_pdu.specs.declared.frame.DepFrame.TheVariants.{AtrReq, AtrRes, Info, Ack, Nack, Attention, Extend}
use Rattle.dep_pdu.specs.declared.frame.DepFrame.TheVariants.{DslReq, DslRes, RlsReq, RlsRes}
use Rattle.dep_link.specs.Sizes.{limit}
use Rattle.dep_link.specs.Frames.{after}
use Rattle.dep_link.specs.Target.{TargetState, TargetMove, Does, Stays, Answers, Begins, Delivers, Sleeps, Frees, stays}
use Rattle.dep_link.specs.Target.{again, repeated, grown, gathered, drawn, extended, heeded}

pub le_from_not : (m n : ℕ) → nat_lt m n ≡ false → n ≤ m
le_from_not m n h = grind (arith, nat_tests)

-- nothing is delivered
abbrev pub IsKept : Does → Type 0
IsKept Stays = Unit {0}
IsKept (Answers v) = Unit {0}
IsKept (Begins general v) = Unit {0}
IsKept (Delivers xs) = ⊥
IsKept (Sleeps v) = Unit {0}
IsKept (Frees v) = Unit {0}

-- What a target says of itself and how much time it asks for are the same.
pub record SameSelf (t u : TargetState) : Type 0 where
  pub named : u.id ≡ t.id
  pub code : u.lr ≡ t.lr
  pub says : u.general ≡ t.general
  pub asks : u.busy ≡ t.busy
  pub longer : u.times ≡ t.times

abbrev pub same_self : (t : TargetState) → SameSelf t t
same_self t = record { named = refl; code = refl; says = refl; asks = refl; longer = refl }

-- What holds where nothing is delivered, and where a chain of at most so many bytes grows, holds of each move.
module _ (t : TargetState) (P : TargetMove → Type 0) (kept : (m : TargetMove) → IsKept m.does → SameSelf t m.state
    → P m) (grows : (more : Bool) (pni : ℕ) (xs : List ℕ) → length xs ≤ limit → P (grown t more pni xs)) where
  either : (b : Bool) (m n : TargetMove) → P m → P n → P (if b then m else n)
  either true m n p q = p
  either false m n p q = q

  still : P (stays t)
  still = kept (stays t) tt (same_self t)

  of_again : (o : Option DepFrame) → P (again t o)
  of_again None = still
  of_again (Some a) = kept (record { state = t; does = Answers a }) tt (same_self t)

  of_repeated : (pni : ℕ) → P (repeated t pni)
  of_repeated pni = either (after pni == t.expected) _ _ (of_again t.last) still

  of_gathered : (more : Bool) (pni : ℕ) (xs : List ℕ) → P (gathered t more pni xs)
  of_gathered more pni xs = go (nat_lt limit (length xs)) refl
    where
      go : (b : Bool) → nat_lt limit (length xs) ≡ b → P (if b then stays (record t { mute = true })
          else grown t more pni xs)
      go true e = kept (stays (record t { mute = true })) tt
          (record { named = refl; code = refl; says = refl; asks = refl; longer = refl })
      go false e = grows more pni xs (le_from_not limit (length xs) e)

  of_drawn : (pni : ℕ) → P (drawn t pni)
  of_drawn pni = either (if nat_lt 0 t.due then false else t.unsent)
      _ _ (kept _ tt (record { named = refl; code = refl; says = refl; asks = refl; longer = refl })) still

  of_extended : (times : ℕ) → P (extended t times)
  of_extended times =
      either (nat_lt 0 t.due) _ _
      (either (times == t.times) _ _ (either (nat_lt 1 t.due)
      _ _ (kept _ tt (record { named = refl; code = refl; says = refl; asks = refl; longer = refl }))
      (kept _ tt (record { named = refl; code = refl; says = refl; asks = refl; longer = refl }))) still)
      (either t.followed _ _ (of_again t.last) still)

  pub of_heeded : (v : DepFrame) → P (heeded t v)
  of_heeded (Info false more pni content) =
      either t.mute _ _ still (either (pni == t.expected) _ _ (of_gathered more pni (t.chain ++ content.items))
      (of_repeated pni))
  of_heeded (Info true more pni content) = either t.mute _ _ still still
  of_heeded (Ack false pni) = either t.mute _ _ still (either (pni == t.expected) _ _ (of_drawn pni) (of_repeated pni))
  of_heeded (Ack true pni) = either t.mute _ _ still still
  of_heeded (Nack pni) = either t.mute _ _ still (of_repeated pni)
  of_heeded (Attention false) = either t.mute _ _ still
      (kept _ tt (record { named = refl; code = refl; says = refl; asks = refl; longer = refl }))
  of_heeded (Attention true) = either t.mute _ _ still still
  of_heeded (Extend false times) = either t.mute _ _ still (of_extended times)
  of_heeded (Extend true times) = either t.mute _ _ still still
  of_heeded (AtrReq id lr general) =
      kept _ tt (record { named = refl; code = refl; says = refl; asks = refl; longer = refl })
  of_heeded (AtrRes id timeout lr general) = either t.mute _ _ still still
  of_heeded DslReq =
      either t.mute _ _ still
      (kept _ tt (record { named = refl; code = refl; says = refl; asks = refl; longer = refl }))
  of_heeded DslRes = either t.mute _ _ still still
  of_heeded RlsReq =
      either t.mute _ _ still
      (kept _ tt (record { named = refl; code = refl; says = refl; asks = refl; longer = refl }))
  of_heeded RlsRes = either t.mute _ _ still still
