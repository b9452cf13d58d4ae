use Rattle.std.proofs.Common.{length}
use Rattle.zevlodek_c.specs.Peer.{AreOffers}
use Rattle.zevlodek_c.proofs.payloads.are_offers.Given as goal

abbrev pub invariant-loop-rest : goal.invariant-loop-rest
invariant-loop-rest l = record {
  whole : AreOffers l.rest → AreOffers l.initial.rest;
  left : AreOffers l.initial.rest → AreOffers l.rest;
}

abbrev pub decreases-loop-rest : goal.decreases-loop-rest
decreases-loop-rest l = length l.rest
