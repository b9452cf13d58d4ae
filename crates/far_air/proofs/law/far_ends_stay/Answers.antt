use Rattle.far_air.proofs.Staying.{fars_stay}
use Rattle.far_air.proofs.law.far_ends_stay.Goals as goal

pub returns : goal.returns
returns g c = λ m linked t. fars_stay m linked t
