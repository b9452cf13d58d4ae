use Rattle.nfc_base.proofs.Sessions.{session_delivers, session_brings, session_replies}
use Rattle.isodep_link.specs.Sizes.{limit}
use Rattle.isodep_link.specs.Exchange.{iso_dep, IsReady, next_exchange}
use Rattle.isodep_link.proofs.Obeyed.{obeyed_once}
use Rattle.isodep_link.proofs.Session.{keeps_each, ready_first, obeys_from_activation}
use Rattle.isodep_link.proofs.law.obeyed_once.Goals as goal

pub returns-clause-exchange : goal.returns-clause-exchange
returns-clause-exchange c = obeyed_once

pub returns-clause-session : goal.returns-clause-session
returns-clause-session c = session_delivers iso_dep next_exchange IsReady limit keeps_each

pub returns-clause-brings : goal.returns-clause-brings
returns-clause-brings c = session_brings iso_dep next_exchange IsReady limit keeps_each

pub returns-clause-replies : goal.returns-clause-replies
returns-clause-replies c = session_replies iso_dep next_exchange IsReady limit keeps_each

pub returns-clause-ready : goal.returns-clause-ready
returns-clause-ready c = ready_first

pub returns-clause-activated : goal.returns-clause-activated
returns-clause-activated c = obeys_from_activation
