-- Payloads that are carried over a link to a peer, in the world with far ends: each request was due by what was heard
-- before it (NFCIP-1, ISO/IEC 18092; the air is this project's own).
use Rattle.std.specs.Prelude.{◌≡◌, ◌⊎◌, ℕ, List, Bool, true, Option}
use Rattle.nfc_base.specs.Choosing.{Choosing}
use Rattle.nfc_base.specs.Signal.{Signal}
use Rattle.nfc_base.specs.declared.event.Event.TheVariants.{Request}
use Rattle.nfc_base.specs.declared.event.Fate.TheVariants.{Pass}
use Rattle.nfc_base.specs.declared.carrier.EndCause.{EndCause}
use Rattle.nfc_base.specs.declared.carrier.EndCause.TheVariants as cause
use Rattle.air_core.specs.Turn.{Air, moment, after_event}
use Rattle.air_core.specs.Conversation.{Note, Next, Asks, first_fate, later_fates}
use Rattle.air_core.specs.declared.listener.Listener.{Ghosts}
use Rattle.dep_link.specs.Initiator.{InitState}
use Rattle.dep_link.specs.Stopping.{HeardUpTo}
use Rattle.far_air.specs.FarEnds.{FarTable}
use Rattle.far_air.specs.FarTurns.{FarGoing}
use Rattle.link_calls.specs.Walk.{Course, Giver, Walk, BrokenBy, Strays, walk_stand, walk_due, walk_due_at}

module _ {L F : Type 0} (k : Ghosts L) (linked : L → Bool) (t : FarTable F) where
  -- A request passed that was due, and as it handed a payload over the far end stopped for want of memory, and is left
  -- so: it was heard up to the peer, and nothing came back of it.
  pub record HaltsAt (halts : Choosing F → List ℕ → Choosing F → Type 0) (due : Next) (mid new : Air L)
      (half after : Choosing F) : Type 0 where
    pub sent : Signal
    pub asked : due ≡ Asks sent
    pub passes : first_fate mid.fates ≡ Pass
    pub payload : List ℕ
    pub listeners : List L
    pub heard : HeardUpTo k.machine sent payload mid.listeners listeners
    pub left : new ≡ after_event mid (Request sent Pass) (later_fates mid.fates)
        (record { lit = true; listeners = listeners })
    pub halted : halts half payload after

  module _ {W E : Type 0} (g : Giver W E) (from : Course W E) (i : InitState) (old new : Air L) (place : ℕ)
      (os : List (Option F)) (far after : Choosing F) where
    -- From one moment of a field to another the requests were made that were due, this was heard, and it brought all to
    -- where it stands.
    pub record WalkTurns (s : Walk W E) : Type 0 where
      pub notes : List Note
      pub going : FarGoing k.machine linked t (walk_due g from i) (moment old) (moment new) notes place os far after
      pub stands : walk_stand g from i notes ≡ s

  -- Behind such requests nothing more happened, or the far end stopped at one more.
  pub record WalkFront (halts : Choosing F → List ℕ → Choosing F → Type 0) {W E : Type 0} (g : Giver W E)
      (from : Course W E) (i : InitState) (old new : Air L) (place : ℕ) (os : List (Option F)) (far after : Choosing F)
      : Type 0 where
    pub standing : Walk W E
    pub mid : Air L
    pub half : Choosing F
    pub turns : WalkTurns g from i old mid place os far half standing
    pub under_way : standing ≡ Strays → ⊥
    pub left : ((new ≡ mid) × (after ≡ half)) ⊎ HaltsAt halts (walk_due_at standing) mid new half after

  -- how it was cut off: by its link, or by want of memory
  module _ (halts : Choosing F → List ℕ → Choosing F → Type 0) {W E : Type 0} (g : Giver W E) (from : Course W E)
      (i : InitState) (old new : Air L) (place : ℕ) (os : List (Option F)) (far after : Choosing F) where
    abbrev pub WalkCut : EndCause → Type 0
    WalkCut cause.FieldLost = WalkTurns g from i old new place os far after (BrokenBy cause.FieldLost)
    WalkCut cause.SixBad = WalkTurns g from i old new place os far after (BrokenBy cause.SixBad)
    WalkCut cause.Protocol = ⊥
    WalkCut cause.Memory = WalkFront halts g from i old new place os far after
