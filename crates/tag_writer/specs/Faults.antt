-- Why a write ends without the message, and how its stores then stand.
use Rattle.std.specs.Prelude.{◌≡◌, ℕ, ◌⊎◌, List, Bool, true, false, None, Result, Ok, Err}
use Rattle.nfc_base.specs.TagLinks.{LinkView}
use Rattle.nfc_base.specs.declared.tag_link.AskFault.TheVariants as ask
use Rattle.tag_reader.specs.declared.how.How.{How}
use Rattle.tag_reader.specs.Calls.{HasSurveyed, ByLink}
use Rattle.tag_writer.specs.declared.fault.WriteFault.{WriteFault}
use Rattle.tag_writer.specs.declared.fault.WriteFault.TheVariants as fault
use Rattle.tag_writer.specs.Outcome.{IsOutcome}
use Rattle.tag_writer.specs.Law.{Ending, Written, Refused, Stopped}

-- Each fault: by the store, the tag's step and the message, or of the link. Want of memory is the writer's own only
-- while nothing was asked but what is read before the first write, and then the link isn't over; or it is that by which
-- the link is over.
abbrev pub IsWriteFault : How → ℕ → List ℕ → LinkView → LinkView → WriteFault → Type 0
IsWriteFault how size message a b fault.FieldLost = ByLink a b ask.FieldLost
IsWriteFault how size message a b fault.SixBad = ByLink a b ask.SixBad
IsWriteFault how size message a b fault.Protocol = ByLink a b ask.Protocol
IsWriteFault how size message a b fault.Memory = ((b.over ≡ None) × HasSurveyed how size a.state.store a b)
    ⊎ ByLink a b ask.Memory
IsWriteFault how size message a b e = IsOutcome how size a.step a.state message (Err e)

-- how the stores of a write stand by its answer
abbrev pub ending_by : WriteFault → Ending
ending_by (fault.Refused code) = Refused
ending_by e = Stopped

abbrev pub ending_of : {A : Type 0} → Result A WriteFault → Ending
ending_of (Ok a) = Written
ending_of (Err e) = ending_by e

-- whether a write ended by what the store holds, the message and the tag, and not by the link or for want of memory
abbrev pub is_told : WriteFault → Bool
is_told fault.FieldLost = false
is_told fault.SixBad = false
is_told fault.Memory = false
is_told fault.Protocol = false
is_told e = true

abbrev pub IsToldOrMemory : WriteFault → Type 0
IsToldOrMemory e = (is_told e ≡ true) ⊎ (e ≡ fault.Memory)

abbrev pub OnTold : {A : Type 0} → Result A WriteFault → Type 0 → Type 0
OnTold (Ok a) P = P
OnTold (Err e) P = is_told e ≡ true → P

-- a refusal of the tag
abbrev pub IsRefusal : WriteFault → Type 0
IsRefusal (fault.Refused code) = Unit {0}
IsRefusal e = ⊥
