-- The numbers of the errors.
use Rattle.std.specs.Prelude.{ℕ}
use Rattle.snep_core.specs.declared.fault.SnepFault.{SnepFault}
use Rattle.snep_core.specs.declared.fault.SnepFault.TheVariants.{Reject, NotFound, Excess, NotImplemented, LinkEnded}
use Rattle.snep_core.specs.declared.fault.SnepFault.TheVariants.{Memory, BadPeer, SlotBusy}

abbrev pub snep_fault_number : SnepFault → ℕ
snep_fault_number Reject = 1
snep_fault_number NotFound = 2
snep_fault_number Excess = 3
snep_fault_number NotImplemented = 4
snep_fault_number (LinkEnded c) = 5
snep_fault_number Memory = 6
snep_fault_number BadPeer = 7
snep_fault_number SlotBusy = 8
