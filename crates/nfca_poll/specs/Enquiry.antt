-- A call by which a reader asks again and again: each request and the answer of the call, by what was heard (this
-- project's own form of a dialogue).
use Rattle.std.specs.Prelude.{◌≡◌, ◌⊎◌, ◌<◌, List, [], ◌∷◌, length, drop, false, Option, Some, None, Result, Err}
use Rattle.nfc_base.specs.Trace.{breaks}
use Rattle.nfc_base.specs.declared.event.Heard.{Heard}
use Rattle.air_core.specs.World.{Machine}
use Rattle.air_core.specs.Turn.{Air, moment}
use Rattle.air_core.specs.Conversation.{Note, Lit, Got, Lost, Next, Over, Going}
use Rattle.nfca_poll.specs.declared.fault.PollFault.{PollFault}
use Rattle.nfca_poll.specs.declared.fault.PollFault.TheVariants.{FieldLost, Memory}
use Rattle.nfca_poll.specs.Muted.{mute_air}

-- Where an enquiry begins, what a reset makes of it, how it goes on by what is heard, which request or reset is due,
-- and what it answers where it is over.
pub record Enquiry (S X : Type 0) : Type 0 where
  pub start : S
  pub light : S → S
  pub step : S → Heard → S
  pub next : S → Next
  pub ended : S → Option (Result X PollFault)

-- What an enquiry has come to: it is so far, or it has lost the field.
pub data Progress (S : Type 0) : Type 0 where
  Reaches : S → Progress S
  Loses : Progress S

-- Want of memory alone breaks off an enquiry that isn't over.
abbrev pub or_memory : {X : Type 0} → Option (Result X PollFault) → Result X PollFault
or_memory None = Err Memory
or_memory (Some r) = r

-- The field was dark at the start, or a Break was used since.
abbrev pub LosesByBreak : {L X : Type 0} → Air L → Result X PollFault → Air L → Type 0
LosesByBreak old r new = r ≡ Err FieldLost → (old.lit ≡ false) ⊎ (0 < breaks (drop (length old.trace) new.trace))

module _ {S X : Type 0} (e : Enquiry S X) where
  -- from here on, by what the reader knows since
  abbrev pub progress : S → List Note → Progress S
  progress s [] = Reaches s
  progress s (Lit ∷ ns) = progress (e.light s) ns
  progress s (Got h ∷ ns) = progress (e.step s h) ns
  progress s (Lost ∷ ns) = Loses

  abbrev pub due_of : Progress S → Next
  due_of (Reaches s) = e.next s
  due_of Loses = Over

  -- what is due in the enquiry
  abbrev pub enquiring : List Note → Next
  enquiring ns = due_of (progress e.start ns)

  abbrev pub answer_of : Progress S → Result X PollFault
  answer_of (Reaches s) = or_memory (e.ended s)
  answer_of Loses = Err FieldLost

  -- From one field to the next each request was what was due, and the call answers what that came to.
  pub record Enquires {L : Type 0} (m : Machine L) (old : Air L) (r : Result X PollFault) (new : Air L) : Type 0 where
    pub notes : List Note
    pub going : Going (mute_air m) enquiring (moment old) (moment new) notes
    pub comes : r ≡ answer_of (progress e.start notes)
