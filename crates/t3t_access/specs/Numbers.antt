-- The numbers of the faults, and the fault of a link as one of these. They are this project's own.
use Rattle.std.specs.Prelude.{ℕ}
use Rattle.nfc_base.specs.declared.tag_link.AskFault.{AskFault}
use Rattle.nfc_base.specs.declared.tag_link.AskFault.TheVariants as ask
use Rattle.t3t_access.specs.declared.fault.T3Fault.{T3Fault}
use Rattle.t3t_access.specs.declared.fault.T3Fault.TheVariants.{NotNdef, Version, BadSize, Refused, FieldLost, SixBad}
use Rattle.t3t_access.specs.declared.fault.T3Fault.TheVariants.{Memory, ReadOnly, TooLong, Protocol, Unfinished}

abbrev pub t3_fault_number : T3Fault → ℕ
t3_fault_number NotNdef = 1
t3_fault_number Version = 2
t3_fault_number BadSize = 5
t3_fault_number (Refused status) = 8
t3_fault_number FieldLost = 9
t3_fault_number SixBad = 10
t3_fault_number Memory = 11
t3_fault_number ReadOnly = 12
t3_fault_number (TooLong most) = 13
t3_fault_number Protocol = 15
t3_fault_number Unfinished = 16

abbrev pub of_link : AskFault → T3Fault
of_link ask.FieldLost = FieldLost
of_link ask.SixBad = SixBad
of_link ask.Memory = Memory
of_link ask.Protocol = Protocol
