-- A client's call over a link to a peer, in the world with far ends: each request was due by what was heard before it
-- (NFCIP-1, ISO/IEC 18092; NFC Forum SNEP 1.0; the air is this project's own).
use Rattle.std.specs.Prelude.{◌≡◌, ℕ, List, Bool, Option, None}
use Rattle.nfc_base.specs.Choosing.{Choosing}
use Rattle.nfc_base.specs.Links.{CarrierView, FarStep}
use Rattle.nfc_base.specs.declared.carrier.EndCause.TheVariants as cause
use Rattle.air_core.specs.Turn.{Air}
use Rattle.air_core.specs.Conversation.{Next}
use Rattle.air_core.specs.declared.listener.Listener.{Ghosts}
use Rattle.dep_link.specs.Target.{TargetState}
use Rattle.dep_link.specs.Initiator.{InitState}
use Rattle.dep_link.specs.DepLinks.{DepSeen, dep_swaps, dep_view}
use Rattle.far_air.specs.FarEnds.{FarTable}
use Rattle.far_air.specs.FarLaws.{IsFarTable, IsLinked, IsOfTable}
use Rattle.peer_air.specs.SwapTurns.{Stands}
use Rattle.snep_core.specs.declared.fault.SnepFault.{SnepFault}
use Rattle.snep_core.specs.declared.fault.SnepFault.TheVariants.{LinkEnded, Memory}
use Rattle.snep_core.specs.Talk.{EndState, Step, numbers_behind}
use Rattle.snep_core.specs.Calling.{Talks, Breaks}
use Rattle.link_calls.specs.WalkTurns.{HaltsAt, WalkTurns, WalkFront}
use Rattle.link_calls.specs.CallDue.{CallStanding, BrokenBy, by_client, call_at, next_of}

-- what a call sees of what shows a link to a peer
abbrev pub sees : {L C : Type 0} → (C → DepSeen L) → C → CarrierView
sees see c = dep_view (see c)

-- and what a swap does to it
abbrev pub swaps : {L C : Type 0} → Ghosts L → (L → TargetState) → (C → DepSeen L) → C → List ℕ → List FarStep → C
    → Type 0
swaps k target see a out did b = dep_swaps k target (see a) out did (see b)

module _ {L F : Type 0} (k : Ghosts L) (target : L → TargetState) (linked : L → Bool) (t : FarTable F) where
  -- From one moment of a field to another the requests of a call were made, with these numbers of PDUs: each was due,
  -- this was heard, and it brought the call to where it stands.
  abbrev pub CallTurns : List ℕ → Step → InitState → Air L → Air L → ℕ → List (Option F) → Choosing F → Choosing F
      → CallStanding → Type 0
  CallTurns numbers from i old new place os far after s =
      WalkTurns k linked t by_client (next_of numbers from) i old new place os far after s

  -- A far end that stops as it takes a payload is left so.
  module _ (halts : Choosing F → List ℕ → Choosing F → Type 0) where
    -- The request passed that was due, and as it handed a payload over the far end stopped for want of memory.
    abbrev pub HaltsInCall : Next → Air L → Air L → Choosing F → Choosing F → Type 0
    HaltsInCall due mid new half after = HaltsAt k linked t halts due mid new half after

    -- Behind such requests nothing more happened, or the far end stopped at one more.
    abbrev pub CallFront : List ℕ → Step → InitState → Air L → Air L → ℕ → List (Option F) → Choosing F → Choosing F
        → Type 0
    CallFront numbers from i old new place os far after =
        WalkFront k linked t halts by_client (next_of numbers from) i old new place os far after

    -- how a call was cut off: by its link, or by want of memory
    abbrev pub CutBy : List ℕ → Step → InitState → Air L → Air L → ℕ → List (Option F) → Choosing F → Choosing F
        → SnepFault → Type 0
    CutBy numbers from i old new place os far after (LinkEnded cause.FieldLost) =
        CallTurns numbers from i old new place os far after (BrokenBy cause.FieldLost)
    CutBy numbers from i old new place os far after (LinkEnded cause.SixBad) =
        CallTurns numbers from i old new place os far after (BrokenBy cause.SixBad)
    CutBy numbers from i old new place os far after (LinkEnded cause.Protocol) = ⊥
    CutBy numbers from i old new place os far after (LinkEnded cause.Memory) = ⊥
    CutBy numbers from i old new place os far after Memory = CallFront numbers from i old new place os far after
    CutBy numbers from i old new place os far after _ = ⊥

  module _ {C A : Type 0} (see : C → DepSeen L) (restarts : A → List ℕ → A → Type 0)
      (steps : A → List ℕ → List ℕ → A → Type 0) (stops : A → List ℕ → A → Type 0) (view : A → Choosing F) where
    -- What a call did over a link to a peer, with what the far end did, is that: it goes on from the numbers that are
    -- left.
    abbrev pub TalksFar : Type 0
    TalksFar = IsLinked k.machine linked → IsFarTable t → IsOfTable restarts steps t view
        → (numbers : List ℕ) (from to : Step) (a b : C) (far after : A)
        → (x : Talks (sees see) (swaps k target see) steps stops numbers from a far to b after)
        → (see a).over ≡ None
        → (place : ℕ) → Stands k target linked t (see a).air place → (os : List (Option F))
        → CallTurns numbers from (see a).initiator (see a).air (see b).air place os (view far) (view after)
        (call_at (numbers_behind x.did numbers) to (see b).initiator) × Stands k target linked t (see b).air place

    -- And so where it was cut off, also as the far end stopped, which left it so.
    abbrev pub BreaksBy : (Choosing F → List ℕ → Choosing F → Type 0) → Type 0
    BreaksBy halts = IsLinked k.machine linked → IsFarTable t → IsOfTable restarts steps t view
        → (numbers : List ℕ) (from : Step) (a b : C) (far after : A) (e : SnepFault) (new : EndState)
        → Breaks (sees see) (swaps k target see) steps stops numbers from a far e new b after → (see a).over ≡ None
        → (place : ℕ) → Stands k target linked t (see a).air place → (os : List (Option F))
        → CutBy halts numbers from (see a).initiator (see a).air (see b).air place os (view far) (view after) e

    -- A far end that shows itself so stopped as it took a payload.
    abbrev pub HaltsSo : Choosing F → List ℕ → Choosing F → Type 0
    HaltsSo half payload after = (a : A) × (b : A) × (view a ≡ half) × (view b ≡ after) × stops a payload b

    abbrev pub BreaksFar : Type 0
    BreaksFar = BreaksBy HaltsSo
