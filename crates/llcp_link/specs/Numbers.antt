-- The numbers of the errors.
use Rattle.std.specs.Prelude.{ℕ}
use Rattle.llcp_link.specs.declared.fault.LlcFault.{LlcFault}
use Rattle.llcp_link.specs.declared.fault.LlcFault.TheVariants.{NameTaken, SapTaken, Memory, Busy}

abbrev pub llc_fault_number : LlcFault → ℕ
llc_fault_number NameTaken = 1
llc_fault_number SapTaken = 2
llc_fault_number Memory = 3
llc_fault_number Busy = 4
