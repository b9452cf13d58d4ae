use Rattle.far_air.proofs.OnField.{quiet_fields}
use Rattle.far_air.proofs.Quietly.{unlinked_stay, quiet_stretches, quiet_goings}
use Rattle.far_air.proofs.law.quiet_stretches.Goals as goal

pub returns-clause-unlinked : goal.returns-clause-unlinked
returns-clause-unlinked g c = λ m linked. unlinked_stay m linked

pub returns-clause-field : goal.returns-clause-field
returns-clause-field g c = λ m linked t. quiet_fields m linked t

pub returns-clause-stretch : goal.returns-clause-stretch
returns-clause-stretch g c = λ m linked t. quiet_stretches m linked t

pub returns-clause-goes : goal.returns-clause-goes
returns-clause-goes g c = λ m linked t. quiet_goings m linked t
