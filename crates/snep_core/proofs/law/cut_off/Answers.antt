use Rattle.snep_core.proofs.jobs.CutOff.{cut_off_accepts}
use Rattle.snep_core.proofs.law.cut_off.Goals as goal

pub returns : goal.returns
returns c = cut_off_accepts
