-- The numbers of the errors.
use Rattle.std.specs.Prelude.{ℕ}
use Rattle.nfca_poll.specs.declared.fault.PollFault.{PollFault}
use Rattle.nfca_poll.specs.declared.fault.PollFault.TheVariants.{Nobody, Disturbed, FieldLost, Memory, NotFound}
use Rattle.nfca_poll.specs.declared.fault.PollFault.TheVariants.{BadAnswer}

abbrev pub poll_fault_number : PollFault → ℕ
poll_fault_number Nobody = 1
poll_fault_number Disturbed = 2
poll_fault_number FieldLost = 3
poll_fault_number Memory = 4
poll_fault_number NotFound = 5
poll_fault_number BadAnswer = 6
