use Rattle.snep_core.proofs.sessions.PayloadLaw.{accepted_in_order}
use Rattle.snep_core.proofs.law.in_order.Goals as goal

pub returns : goal.returns
returns c = accepted_in_order
