use Rattle.peer_air.proofs.PeerEnds.{are_far_ends, counted_step, ends_step}
use Rattle.peer_air.proofs.law.ends_of_links.Goals as goal

pub returns-clause-table : goal.returns-clause-table
returns-clause-table g c = are_far_ends g.S.Service.serving

pub returns-clause-steps : goal.returns-clause-steps
returns-clause-steps g c = ends_step g.S.Service.serving

pub returns-clause-counted : goal.returns-clause-counted
returns-clause-counted g c = counted_step g.S.Service.serving
