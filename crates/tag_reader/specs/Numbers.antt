-- The numbers of the errors. They are this project's own.
use Rattle.std.specs.Prelude.{ℕ}
use Rattle.tag_reader.specs.declared.fault.ReadFault.{ReadFault}
use Rattle.tag_reader.specs.declared.fault.ReadFault.TheVariants.{NotNdef, Version, NoRead, Sectors, BadSize}
use Rattle.tag_reader.specs.declared.fault.ReadFault.TheVariants.{NoMessageTlv, BadTlv, Refused, FieldLost, SixBad}
use Rattle.tag_reader.specs.declared.fault.ReadFault.TheVariants.{Memory, Protocol}

abbrev pub read_fault_number : ReadFault → ℕ
read_fault_number NotNdef = 1
read_fault_number Version = 2
read_fault_number NoRead = 3
read_fault_number Sectors = 4
read_fault_number BadSize = 5
read_fault_number NoMessageTlv = 6
read_fault_number BadTlv = 7
read_fault_number (Refused code) = 8
read_fault_number FieldLost = 9
read_fault_number SixBad = 10
read_fault_number Memory = 11
read_fault_number Protocol = 15
