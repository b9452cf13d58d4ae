-- What the reader of a Type 4 tag says to listeners of any kind: the far end below the field answers by nothing (a
-- payload is for a peer alone; NFC Forum Digital Protocol).
use Rattle.std.specs.Prelude.{◌≡◌, ℕ, List, [], Bool, Result, Err}
use Rattle.nfc_base.specs.declared.far.Mute.{Mute}
use Rattle.nfc_base.specs.declared.tag_link.AskFault.{AskFault}
use Rattle.nfc_base.specs.declared.tag_link.AskFault.TheVariants.{FieldLost, Memory}
use Rattle.air_core.specs.World.{Machine}
use Rattle.air_core.specs.Turn.{Air}
use Rattle.air_core.specs.Conversation.{Note, Next}
use Rattle.air_core.specs.Speaking.{Speaks, TellsWhy}

-- a far end that answers by nothing
abbrev pub mute_restarts : Mute → List ℕ → Mute → Type 0
mute_restarts old general new = new ≡ old

abbrev pub mute_steps : Mute → List ℕ → List ℕ → Mute → Type 0
mute_steps old payload reply new = (new ≡ old) × (reply ≡ [])

-- From one field to another the reader made turns that were due, above such a far end.
pub record SpeaksMute {L : Type 0} (m : Machine L) (next : List Note → Next) (old new : Air L) (notes : List Note)
    : Type 0 where
  pub far : Mute
  pub after : Mute
  pub speaks : Speaks m mute_restarts mute_steps next old far new after notes

-- What a reader tells that had more to ask: memory was wanting, or the field had been dark from the start.
abbrev pub IsStopped : {X : Type 0} → Bool → List Note → Result X AskFault → Type 0
IsStopped lit notes result = TellsWhy (Err FieldLost) (Err Memory) lit notes result
