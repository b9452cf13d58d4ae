use Rattle.nfc_base.proofs.Sessions.{session_delivers, session_brings, session_replies}
use Rattle.dep_link.specs.Sizes.{limit}
use Rattle.dep_link.specs.Exchange.{nfc_dep, IsReady, next_exchange}
use Rattle.dep_link.proofs.Handed.{handed_once}
use Rattle.dep_link.proofs.Session.{keeps_each, ready_first, hands_from_activation}
use Rattle.dep_link.proofs.law.handed_once.Goals as goal

pub returns-clause-exchange : goal.returns-clause-exchange
returns-clause-exchange c = handed_once

pub returns-clause-session : goal.returns-clause-session
returns-clause-session c = λ first. session_delivers (nfc_dep first) next_exchange (IsReady first) limit (keeps_each first)

pub returns-clause-brings : goal.returns-clause-brings
returns-clause-brings c = λ first. session_brings (nfc_dep first) next_exchange (IsReady first) limit (keeps_each first)

pub returns-clause-replies : goal.returns-clause-replies
returns-clause-replies c = λ first. session_replies (nfc_dep first) next_exchange (IsReady first) limit (keeps_each first)

pub returns-clause-ready : goal.returns-clause-ready
returns-clause-ready c = ready_first

pub returns-clause-activated : goal.returns-clause-activated
returns-clause-activated c = hands_from_activation
