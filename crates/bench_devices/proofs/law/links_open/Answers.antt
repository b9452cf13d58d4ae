use Rattle.bench_devices.proofs.far_ends.BesideLink as beside
use Rattle.bench_devices.proofs.kinds.LinkedPeer as linked
use Rattle.bench_devices.proofs.far_ends.LinkingNotes as notes
use Rattle.bench_devices.proofs.far_ends.OpensPeer as opens
use Rattle.bench_devices.proofs.kinds.PeerHere as here
use Rattle.bench_devices.proofs.far_ends.SwapLeaves as swaps
use Rattle.bench_devices.proofs.far_ends.TalkTurns as turns
use Rattle.bench_devices.proofs.law.links_open.Goals as goal

pub returns-clause-asks : goal.returns-clause-asks
returns-clause-asks g c = notes.link_asks

pub returns-clause-stands : goal.returns-clause-stands
returns-clause-stands g c = opens.at_peer

pub returns-clause-others : goal.returns-clause-others
returns-clause-others g c = beside.at_aside

pub returns-clause-ready : goal.returns-clause-ready
returns-clause-ready g c = here.ready_in_step

pub returns-clause-linked : goal.returns-clause-linked
returns-clause-linked g c = linked.linked_in_step

pub returns-clause-takes : goal.returns-clause-takes
returns-clause-takes g c = here.takes_rls

pub returns-clause-none : goal.returns-clause-none
returns-clause-none g c = here.none_at_rls

pub returns-clause-moves : goal.returns-clause-moves
returns-clause-moves g c = swaps.swaps_leave

pub returns-clause-turn : goal.returns-clause-turn
returns-clause-turn g c = turns.turn_leaves g.A.Answerer.restarts g.A.Answerer.steps

pub returns-clause-release : goal.returns-clause-release
returns-clause-release g c = turns.release_leaves g.A.Answerer.restarts g.A.Answerer.steps g.A.Answerer.stops g.A.Answerer.is_stuck
