-- The numbers of the errors.
use Rattle.std.specs.Prelude.{ℕ}
use Rattle.air_core.specs.declared.fault.AirFault.{AirFault}
use Rattle.air_core.specs.declared.fault.AirFault.TheVariants.{FieldLost, Memory}

abbrev pub air_fault_number : AirFault → ℕ
air_fault_number FieldLost = 1
air_fault_number Memory = 2
