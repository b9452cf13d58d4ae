use Rattle.snep_core.proofs.sessions.PayloadLaw.{payloads_accepted}
use Rattle.snep_core.proofs.law.payloads.Goals as goal

pub returns : goal.returns
returns c = payloads_accepted
