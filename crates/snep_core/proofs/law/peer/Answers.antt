use Rattle.snep_core.proofs.accord.Peers.{counted_is_peer, server_is_peer}
use Rattle.snep_core.proofs.law.peer.Goals as goal

pub returns-clause-most : goal.returns-clause-most
returns-clause-most c = server_is_peer

pub returns-clause-counted : goal.returns-clause-counted
returns-clause-counted c = counted_is_peer
