use Rattle.std.proofs.Common.{refl}
use Rattle.snep_core.specs.Server.{serving}
use Rattle.peer_air.proofs.PeerEnds.{are_far_ends, counted_step, ends_step}
use Rattle.peer_air.proofs.law.ends_of_peers.Goals as goal

pub returns-clause-table : goal.returns-clause-table
returns-clause-table c = are_far_ends serving (λ s. refl)

pub returns-clause-steps : goal.returns-clause-steps
returns-clause-steps c = ends_step serving

pub returns-clause-counted : goal.returns-clause-counted
returns-clause-counted c = counted_step serving

pub returns-clause-rests : goal.returns-clause-rests
returns-clause-rests c = λ l. record { accepted = refl; table = refl; limit = refl; miu = refl; window = refl; bound = refl }

pub returns-clause-begins : goal.returns-clause-begins
returns-clause-begins c = λ l general. record { accepted = refl; table = refl; limit = refl; miu = refl; window = refl; bound = refl }
