-- Waits with listeners and a far end of any kind: a request is sent again after each bad reception, up to the first
-- whole answer or the sixth bad reception (a reader speaks first, NFC Forum Digital Protocol; that they are six is this
-- project's own).
use Rattle.std.specs.Prelude.{◌≡◌, ℕ, zero, suc, ◌<◌, List, [], ◌∷◌, ◌++◌, Bool, true, Some, Result, Ok, Err}
use Rattle.nfc_base.specs.Signal.{Signal}
use Rattle.nfc_base.specs.Trace.{is_bad_in_wait}
use Rattle.nfc_base.specs.declared.event.Heard.{Heard}
use Rattle.nfc_base.specs.declared.event.Heard.TheVariants.{Whole}
use Rattle.nfc_base.specs.declared.tag_link.AskFault.{AskFault}
use Rattle.nfc_base.specs.declared.tag_link.AskFault.TheVariants.{FieldLost, SixBad, Memory, Protocol}
use Rattle.air_core.specs.World.{Machine}
use Rattle.air_core.specs.Turn.{Air, TurnIs, Transmits}
use Rattle.air_core.specs.Conversation.{Note, Got}
use Rattle.air_core.specs.Waits.{Standing, Asking, Broken, Astray, stand, waits_next}
use Rattle.air_core.specs.Speaking.{Speaks, LeavesOff, TellsWhy}
use Rattle.air_core.specs.declared.fault.AirFault.TheVariants as air

-- What a wait tells, by what was heard in it: what its first whole answer tells; the fault of the sixth bad reception,
-- or of the lost field. Nothing else ends it but want of memory.
abbrev pub TellsFirst : {R : Type 0} → (Signal → R) → (AskFault → R) → Bool → List Note → Standing → R → Type 0
TellsFirst told fails lit ns (Asking bad []) result =
    (before : List Note) × (g : Signal) × (ns ≡ before ++ Got (Whole g) ∷ []) × (result ≡ told g)
TellsFirst told fails lit ns (Asking bad (c ∷ cs)) result = TellsWhy (fails FieldLost) (fails Memory) lit ns result
TellsFirst told fails lit ns (Broken fault cs) result = result ≡ fails fault
TellsFirst told fails lit ns Astray result = ⊥

module _ {L A : Type 0} (m : Machine L) (restarts : A → List ℕ → A → Type 0) (steps : A → List ℕ → List ℕ → A → Type 0)
    (f : Signal) (old : Air L) (far : A) where
  -- So many turns with the request were made, and what was heard in each of them was bad.
  abbrev pub BadTurns : ℕ → Air L → A → Type 0
  BadTurns zero new after = (new ≡ old) × (after ≡ far)
  BadTurns (suc n) new after =
      (mid : Air L) × (half : A) × (h : Heard) × BadTurns n mid half
      × TurnIs m restarts steps mid f half (Some h) new after × (is_bad_in_wait h ≡ true)

  module _ (stops : A → List ℕ → A → Type 0) (is_stuck : A → Bool) where
    -- What ends a wait after so many bad receptions: a turn with a whole answer, one that failed, or that they are six.
    abbrev pub EndsWait : ℕ → Air L → A → Air L → A → Result Signal AskFault → Type 0
    EndsWait bad mid half new after (Ok g) = (bad < 6) × TurnIs m restarts steps mid f half (Some (Whole g)) new after
    EndsWait bad mid half new after (Err FieldLost) =
        (bad < 6) × Transmits m restarts steps stops is_stuck mid f half (Err air.FieldLost) new after
    EndsWait bad mid half new after (Err Memory) =
        (bad < 6) × Transmits m restarts steps stops is_stuck mid f half (Err air.Memory) new after
    EndsWait bad mid half new after (Err SixBad) = (bad ≡ 6) × (new ≡ mid) × (after ≡ half)
    EndsWait bad mid half new after (Err Protocol) = ⊥

    -- One wait, turn by turn: bad receptions, and then what ended it.
    pub record AsksFirst (new : Air L) (after : A) (result : Result Signal AskFault) : Type 0 where
      pub bad : ℕ
      pub mid : Air L
      pub half : A
      pub before : BadTurns bad mid half
      pub ends : EndsWait bad mid half new after result

    -- One wait, by what was heard: the request was sent again after each bad reception, as long as it was due, and this
    -- is told. Behind that nothing more was sent. Only want of memory leaves a request that passed without what comes
    -- back.
    pub record TellsWait {R : Type 0} (told : Signal → R) (fails : AskFault → R) (new : Air L) (after : A) (result : R)
        : Type 0 where
      pub notes : List Note
      pub mid : Air L
      pub half : A
      pub speaks : Speaks m restarts steps (waits_next (f ∷ [])) old far mid half notes
      pub answers : TellsFirst told fails old.lit notes (stand 0 (f ∷ []) notes) result
      pub leaves : LeavesOff m restarts steps (waits_next (f ∷ [])) stops is_stuck notes mid half new after
      pub whole : (result ≡ fails Memory → ⊥) → (new ≡ mid) × (after ≡ half)
