-- The numbers of the errors.
use Rattle.std.specs.Prelude.{ℕ}
use Rattle.nfc_base.specs.declared.frame.FrameFault.{FrameFault}
use Rattle.nfc_base.specs.declared.frame.FrameFault.TheVariants.{TooLong, BadTail}
use Rattle.nfc_base.specs.declared.carrier.EndCause.{EndCause}
use Rattle.nfc_base.specs.declared.carrier.EndCause.TheVariants.{FieldLost, SixBad, Protocol, Memory}
use Rattle.nfc_base.specs.declared.tag_link.AskFault.{AskFault}
use Rattle.nfc_base.specs.declared.tag_link.AskFault.TheVariants as ask

abbrev pub frame_fault_number : FrameFault → ℕ
frame_fault_number TooLong = 1
frame_fault_number BadTail = 2

abbrev pub end_cause_number : EndCause → ℕ
end_cause_number FieldLost = 1
end_cause_number SixBad = 2
end_cause_number Protocol = 3
end_cause_number Memory = 4

abbrev pub ask_fault_number : AskFault → ℕ
ask_fault_number ask.FieldLost = 1
ask_fault_number ask.SixBad = 2
ask_fault_number ask.Memory = 3
ask_fault_number ask.Protocol = 4
