use Rattle.dep_link.proofs.Moves.{faults_stay}
use Rattle.dep_link.proofs.law.faults_stay.Goals as goal

pub returns : goal.returns
returns c = faults_stay
