-- One wait of a tag that takes commands as they are sent: the turns that were made, and what each end of it leaves
-- (this project's own air).
use Rattle.std.specs.Prelude.{◌≡◌, ◌⊎◌, ℕ, zero, suc, ◌*◌, ◌<◌, ◌≤◌, List, [], ◌∷◌, ◌++◌, length, true, false, nat_lt}
use Rattle.std.specs.Prelude.{if◌then◌else◌, Some, None, Result, Ok, Err}
use Rattle.nfc_base.specs.declared.event.Event.{Event}
use Rattle.nfc_base.specs.declared.tag_link.AskFault.{AskFault}
use Rattle.nfc_base.specs.declared.tag_link.AskFault.TheVariants.{FieldLost, SixBad, Memory, Protocol}
use Rattle.nfc_base.specs.Signal.{Signal}
use Rattle.nfc_base.specs.Trace.{back_of, noise}
use Rattle.nfc_base.specs.Trace as backs
use Rattle.nfc_base.specs.TagLinks.{plain_state, passed}
use Rattle.air_core.specs.World.{quiet_air}
use Rattle.air_core.specs.Turn.{Air, world, moment}
use Rattle.air_core.specs.Conversation.{Note, Going}
use Rattle.air_core.specs.Waits.{Standing, Asking, Broken, stand, waits_next}
use Rattle.air_core.specs.PlainTags.{heard_times, tag_step, IsAlone, HasPlainTag}
use Rattle.air_core.specs.PlainLinks.{obeyed_in, answered_in, Follows, stores_after}
use Rattle.air_core.specs.declared.listener.Listener.{Ghosts}

-- where a wait stands after so many bad receptions
abbrev pub after_bad : Signal → ℕ → Standing
after_bad f zero = Asking 0 (f ∷ [])
after_bad f (suc bad) = if nat_lt bad 5 then Asking (suc bad) (f ∷ []) else Broken SixBad (f ∷ [])

-- a command so many times
abbrev pub times : Signal → ℕ → List Signal
times f zero = []
times f (suc n) = f ∷ times f n

module _ {L : Type 0} (k : Ghosts L) where
  -- Of a wait so many turns were made, and the tag heard the command in so many of them. This is what it then is, and
  -- what was answered.
  pub record Waited (old new : Air L) (place : ℕ) (f : Signal) (tag : L) (turns heard : ℕ) (s : Standing) (left : L)
      (done : List Signal) : Type 0 where
    pub alone : IsAlone k (k.identifier tag) new.listeners place left
    pub notes : List Note
    pub going : Going (quiet_air k.machine) (waits_next (f ∷ [])) (moment old) (moment new) notes
    pub stands : stand 0 (f ∷ []) notes ≡ s
    pub events : List Event
    pub trace : new.trace ≡ old.trace ++ events
    pub fresh : back_of events ≡ backs.Nothing
    pub obeyed : obeyed_in (k.machine.tech tag) events ≡ times f heard
    pub answered : answered_in events ≡ done
    pub most : length events ≤ 2 * turns
    pub images : Follows (k.store tag) (stores_after k place (world old) events)
        (passed (k.commands tag) (plain_state (k.store tag)) (times f heard))

  -- After so many bad receptions of the command, the field is as lit as before, and the tag doesn't answer, or
  -- something didn't pass.
  pub record GoesOn (old new : Air L) (place : ℕ) (f : Signal) (tag : L) (bad : ℕ) : Type 0 where
    pub heard : ℕ
    pub waits : Waited old new place f tag bad heard (after_bad f bad) (heard_times k tag f heard) []
    pub lit : new.lit ≡ old.lit
    pub begun : 0 < bad → old.lit ≡ true
    pub calm : 0 < bad → ((tag_step k tag f).answer ≡ None) ⊎ (0 < noise waits.events)

  pub record GoesFrom (old new : Air L) (place : ℕ) (f : Signal) (bad : ℕ) : Type 0 where
    pub tag : HasPlainTag k old place
    pub goes : GoesOn old new place f tag.tag bad

  -- A whole answer came.
  pub record Answered (old new : Air L) (place : ℕ) (f : Signal) (tag : L) (g : Signal) : Type 0 where
    pub turns : ℕ
    pub heard : ℕ
    pub waits : Waited old new place f tag turns (suc heard) (Asking 0 []) (heard_times k tag f (suc heard)) (f ∷ [])
    pub bound : turns ≤ 6
    pub lit : new.lit ≡ true
    pub says : (tag_step k tag f).answer ≡ Some g

  -- The field was lost in a turn.
  pub record Darkened (old new : Air L) (place : ℕ) (f : Signal) (tag : L) : Type 0 where
    pub turns : ℕ
    pub heard : ℕ
    pub waits : Waited old new place f tag turns heard (Broken FieldLost (f ∷ []))
        (k.machine.darkened (heard_times k tag f heard)) []
    pub bound : turns ≤ 6
    pub noisy : 0 < noise waits.events
    pub dim : new.lit ≡ false

  -- Nothing more could be noted, in the light.
  pub record Stopped (old new : Air L) (place : ℕ) (f : Signal) (tag : L) : Type 0 where
    pub lit : new.lit ≡ true
    pub bad : ℕ
    pub bound : bad < 6
    pub goes : GoesOn old new place f tag bad

  -- how a wait ends
  abbrev pub EndsBy : Air L → Air L → ℕ → Signal → L → Result Signal AskFault → Type 0
  EndsBy old new place f tag (Ok reply) = Answered old new place f tag reply
  EndsBy old new place f tag (Err FieldLost) = ((old.lit ≡ false) × GoesOn old new place f tag 0)
      ⊎ Darkened old new place f tag
  EndsBy old new place f tag (Err SixBad) = GoesOn old new place f tag 6
  EndsBy old new place f tag (Err Memory) = Stopped old new place f tag
  EndsBy old new place f tag (Err Protocol) = ⊥

  pub record HasWaited (old new : Air L) (place : ℕ) (f : Signal) (result : Result Signal AskFault) : Type 0 where
    pub tag : HasPlainTag k old place
    pub ends : EndsBy old new place f tag.tag result
