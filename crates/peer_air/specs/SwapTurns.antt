-- Exchanges and swaps on a link to a peer, in the world with far ends (NFCIP-1, ISO/IEC 18092; the air is this
-- project's own).
use Rattle.std.specs.Prelude.{◌≡◌, ◌≤◌, ℕ, List, [], ◌∷◌, length, Bool, true, Option, Some, None}
use Rattle.nfc_base.specs.Choosing.{Choosing, first_number, later_numbers}
use Rattle.nfc_base.specs.Signal.{Signal}
use Rattle.nfc_base.specs.Links.{FarStep, Stepped, Stopped, FarMoved, BySwaps, step_payload}
use Rattle.nfc_base.specs.declared.event.Event.TheVariants.{Request}
use Rattle.nfc_base.specs.declared.event.Fate.TheVariants.{Pass}
use Rattle.air_core.specs.Turn.{Air, moment, after_event}
use Rattle.air_core.specs.Conversation.{Note, Asks, first_fate, later_fates}
use Rattle.air_core.specs.PlainTags.{IsAlone}
use Rattle.air_core.specs.declared.listener.Listener.{Ghosts}
use Rattle.dep_link.specs.Sizes.{limit}
use Rattle.dep_link.specs.Target.{TargetState}
use Rattle.dep_link.specs.Initiator.{InitState}
use Rattle.dep_link.specs.Asking.{Standing, HasPeer, ExchangeTurns, asks, stand, dep_next}
use Rattle.dep_link.specs.DepLinks.{DepSeen, Swap, PayloadExchanged, StandsAt, dep_swaps}
use Rattle.dep_link.specs.Stopping.{HeardUpTo}
use Rattle.far_air.specs.FarEnds.{FarTable}
use Rattle.far_air.specs.FarLaws.{IsFarTable, IsLinked, IsOfTable}
use Rattle.far_air.specs.FarTurns.{FarGoing}

-- what a far end did in a swap of this payload, in which it gave that reply or none
abbrev pub did_with : List ℕ → Option (List ℕ) → List FarStep
did_with out None = []
did_with out (Some reply) = Stepped out reply ∷ []

-- the swaps in each of which it made one of these steps
abbrev pub swaps_of : List FarStep → List Swap
swaps_of [] = []
swaps_of (x ∷ did) = record { out = step_payload x; did = x ∷ [] } ∷ swaps_of did

module _ {L F : Type 0} (k : Ghosts L) (target : L → TargetState) (linked : L → Bool) (t : FarTable F) where
  -- A far end went from one state to another in an exchange of this payload, in which it gave that reply, by the next
  -- of the numbers that are left to it, or none.
  abbrev pub Gave : List ℕ → Option (List ℕ) → Choosing F → Choosing F → Type 0
  Gave out None far after = after ≡ far
  Gave out (Some reply) far after =
      (reply ≡ t.reply far.end out (first_number far.numbers))
      × (after ≡ record { end = t.left far.end out (first_number far.numbers); numbers = later_numbers far.numbers }) × (length reply ≤ limit)

  -- where a field is lit, a selected listener stands at this place, and is alone
  abbrev pub Stands : Air L → ℕ → Type 0
  Stands air place = air.lit ≡ true → (l : L) × (k.is_selected l ≡ true)
      × IsAlone k (k.identifier l) air.listeners place l

  -- the peer of a link does so at its place
  abbrev pub PeersStand : Type 0
  PeersStand =
      (air : Air L) (i : InitState) (first : ℕ) (handed : List (List ℕ)) (arrived : List Signal)
      (p : HasPeer k target air i first handed arrived)
      → Stands air p.place

  -- The turns of an exchange with a peer, in which that was given, are turns of the world with far ends at the peer's
  -- place, where it stands behind them too.
  abbrev pub ExchangesFar : Type 0
  ExchangesFar = IsLinked k.machine linked → IsFarTable t
      → (old new : Air L) (i : InitState) (first : ℕ) (handed : List (List ℕ)) (arrived : List Signal)
      (p : HasPeer k target old i first handed arrived)
      (out : List ℕ) (given : Option (List ℕ)) (s : Standing)
      (x : ExchangeTurns k target old new p.listener i first handed arrived out given s)
      → length out ≤ limit → (far after : Choosing F) → Gave out given far after → (os : List (Option F))
      → FarGoing k.machine linked t (dep_next i out) (moment old) (moment new) x.notes p.place os far after
      × Stands new p.place

  -- what a far end of the code did in a swap is whole: want of memory left no step unfinished
  abbrev pub IsWhole : List FarStep → Type 0
  IsWhole [] = Unit {0}
  IsWhole (Stepped payload reply ∷ did) = IsWhole did
  IsWhole (Stopped payload ∷ did) = ⊥

  -- A swap on a link, in the world with far ends: the reply that was given or none, what the reader knows of it, and
  -- where its initiator stands. The peer stands at the same place behind it.
  pub record SwapTurn (a b : DepSeen L) (s : Swap) (place : ℕ) (os : List (Option F)) (far after : Choosing F)
      : Type 0 where
    pub begins : a.over ≡ None
    pub given : Option (List ℕ)
    pub did : s.did ≡ did_with s.out given
    pub notes : List Note
    pub stands : StandsAt b.over given b.initiator (stand (asks a.initiator s.out) notes)
    pub there : Stands b.air place
    pub going : FarGoing k.machine linked t (dep_next a.initiator s.out) (moment a.air) (moment b.air) notes place os
        far after

  -- Behind the turns of a swap a request that was due passed, and as its payload was handed over the far end stopped
  -- for want of memory: it was heard up to the peer, and nothing came back.
  pub record SwapFront (a b : DepSeen L) (out : List ℕ) (place : ℕ) (os : List (Option F)) (far : Choosing F)
      : Type 0 where
    pub mid : Air L
    pub notes : List Note
    pub going : FarGoing k.machine linked t (dep_next a.initiator out) (moment a.air) (moment mid) notes place os far
        far
    pub sent : Signal
    pub due : dep_next a.initiator out notes ≡ Asks sent
    pub fate : first_fate mid.fates ≡ Pass
    pub listeners : List L
    pub heard : HeardUpTo k.machine sent out mid.listeners listeners
    pub left : b.air ≡ after_event mid (Request sent Pass) (later_fates mid.fates)
        (record { lit = true; listeners = listeners })

  -- swaps one after another
  abbrev pub SwapTurns : List Swap → DepSeen L → ℕ → List (Option F) → Choosing F → DepSeen L → Choosing F → Type 0
  SwapTurns [] a place os far b after = (b ≡ a) × (after ≡ far)
  SwapTurns (s ∷ ss) a place os far b after =
      (mid : DepSeen L) × (half : Choosing F) × SwapTurn a mid s place os far half
      × SwapTurns ss mid place os half b after

  module _ {A : Type 0} (restarts : A → List ℕ → A → Type 0) (steps : A → List ℕ → List ℕ → A → Type 0)
      (stops : A → List ℕ → A → Type 0) (view : A → Choosing F) where
    -- What a link tells of a swap, with what its far end did, is a swap in the world with far ends, at whatever place
    -- its peer stands.
    abbrev pub SwapsFar : Type 0
    SwapsFar = IsLinked k.machine linked → IsFarTable t → IsOfTable restarts steps t view
        → (a b : DepSeen L) (s : Swap) → PayloadExchanged k target a b s
        → (far after : A) → FarMoved steps stops s.did far after → IsWhole s.did → (place : ℕ) → Stands a.air place
        → (os : List (Option F))
        → SwapTurn a b s place os (view far) (view after)

    abbrev pub StopsFar : Type 0
    StopsFar = IsLinked k.machine linked → IsFarTable t
        → (a b : DepSeen L) (s : Swap) → PayloadExchanged k target a b s
        → (payload : List ℕ) → s.did ≡ Stopped payload ∷ [] → (place : ℕ) → Stands a.air place
        → (far : Choosing F) (os : List (Option F))
        → SwapFront a b s.out place os far

    -- What it tells of some swaps, in each of which the far end made one step, is that, one after another.
    abbrev pub AllFar : Type 0
    AllFar = IsLinked k.machine linked → IsFarTable t → IsOfTable restarts steps t view
        → (a b : DepSeen L) (did : List FarStep) → BySwaps (dep_swaps k target) did a b
        → (far after : A) → FarMoved steps stops did far after → IsWhole did → (place : ℕ) → Stands a.air place
        → (os : List (Option F))
        → SwapTurns (swaps_of did) a place os (view far) b (view after)
