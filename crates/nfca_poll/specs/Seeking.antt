-- One resolution as an enquiry, and how the code goes through it (NFC Forum Digital Protocol).
use Rattle.std.specs.Prelude.{◌≡◌, ℕ, ◌+◌, List, [], ◌∷◌, length, Option, Some, None, Result, Ok, Err}
use Rattle.nfc_base.specs.Signal.{Signal}
use Rattle.nfca_poll.specs.declared.fault.Picked.{Picked}
use Rattle.nfca_poll.specs.declared.fault.PollFault.{PollFault}
use Rattle.nfca_poll.specs.declared.fault.PollFault.TheVariants as faults
use Rattle.nfca_poll.specs.declared.seeking.Done.{Done}
use Rattle.nfca_poll.specs.declared.seeking.Done.TheVariants as dones
use Rattle.nfca_poll.specs.declared.seeking.Seeking.{Seeking}
use Rattle.nfca_poll.specs.declared.seeking.Seeking.TheVariants as seeks
use Rattle.nfca_poll.specs.declared.seeking.SeekStep.{SeekStep}
use Rattle.nfca_poll.specs.declared.seeking.SeekStep.TheVariants.{Goes, Ends}
use Rattle.nfca_poll.specs.Levels.{identifier}
use Rattle.nfca_poll.specs.Calls.{Sens, Sdd, Sel, call_frame}
use Rattle.nfca_poll.specs.Poll.{Seek, Calling, Asking, Selecting, Ended, Outcome, Nobody, Disturbed, BadAnswer, Found}
use Rattle.nfca_poll.specs.Poll.{seek_step, seek_next}
use Rattle.nfca_poll.specs.Enquiry.{Enquiry}

-- what a resolution that is over answers
abbrev pub outcome : Outcome → Result Picked PollFault
outcome Nobody = Err faults.Nobody
outcome Disturbed = Err faults.Disturbed
outcome BadAnswer = Err faults.BadAnswer
outcome (Found levels kind) = Ok (record { id = identifier levels; kind = kind })

abbrev pub seek_ended : Seek → Option (Result Picked PollFault)
seek_ended (Calling n) = None
seek_ended (Asking done known) = None
seek_ended (Selecting done l) = None
seek_ended (Ended o) = Some (outcome o)

-- one resolution
abbrev pub resolution : Enquiry Seek Picked
resolution = record { start = Calling 0; light = λ s. s; step = seek_step; next = seek_next; ended = seek_ended }

-- how far the code is
abbrev pub levels_of : Done → List (List ℕ)
levels_of dones.Nothing = []
levels_of (dones.One a) = a ∷ []
levels_of (dones.Two a b) = a ∷ b ∷ []

abbrev pub seek_of : Seeking → Seek
seek_of (seeks.Calling silent) = Calling silent
seek_of (seeks.Asking done known) = Asking (levels_of done) known
seek_of (seeks.Selecting done level) = Selecting (levels_of done) level

-- the frame of the request that is due
abbrev pub request_of : Seeking → Signal
request_of (seeks.Calling silent) = call_frame Sens
request_of (seeks.Asking done known) = call_frame (Sdd (length (levels_of done) + 1) known)
request_of (seeks.Selecting done level) = call_frame (Sel (length (levels_of done) + 1) level)

-- the code's step leads there
abbrev pub Becomes : Seek → SeekStep → Type 0
Becomes s (Goes q) = seek_of q ≡ s
Becomes s (Ends r) = (o : Outcome) × (s ≡ Ended o) × (r ≡ outcome o)
