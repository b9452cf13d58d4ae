-- The numbers of the errors.
use Rattle.std.specs.Prelude.{ℕ}
use Rattle.llcp_pdu.specs.declared.fault.PduFault.{PduFault}
use Rattle.llcp_pdu.specs.declared.fault.PduFault.TheVariants.{Refused, Memory}
use Rattle.llcp_pdu.specs.declared.fault.PduKind.{PduKind}
use Rattle.llcp_pdu.specs.declared.fault.PduKind.TheVariants.{Short, Ptype, Sap, Parameter, Nested, Trailing}
use Rattle.llcp_pdu.specs.declared.general.GeneralFault.{GeneralFault}
use Rattle.llcp_pdu.specs.declared.general.GeneralFault.TheVariants.{NoMagic, NoVersion, OtherMajor, Malformed}

abbrev pub pdu_kind_number : PduKind → ℕ
pdu_kind_number Short = 1
pdu_kind_number Ptype = 2
pdu_kind_number Sap = 3
pdu_kind_number Parameter = 4
pdu_kind_number Nested = 5
pdu_kind_number Trailing = 6

abbrev pub pdu_fault_number : PduFault → ℕ
pdu_fault_number (Refused place kind) = 1
pdu_fault_number Memory = 2

abbrev pub general_fault_number : GeneralFault → ℕ
general_fault_number NoMagic = 1
general_fault_number NoVersion = 2
general_fault_number OtherMajor = 3
general_fault_number Malformed = 4
