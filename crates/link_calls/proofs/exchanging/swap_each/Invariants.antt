use Rattle.std.proofs.Common.{◌≡◌, [], drop}
use Rattle.link_calls.specs.Exchanging.{by_hand, sending}
use Rattle.link_calls.specs.private.Walking.{Walks}
use Rattle.link_calls.proofs.exchanging.swap_each.Given as goal

abbrev pub invariant-loop-payload : goal.invariant-loop-payload
invariant-loop-payload g l = record {
  ready : g.C.Carrier.ready l.carrier;
  same : g.C.Carrier.lenders l.carrier ≡ g.C.Carrier.lenders l.initial.carrier;
  walks : Walks by_hand g.C.Carrier.seen g.C.Carrier.swaps g.A.Answerer.steps g.A.Answerer.stops (sending l.payloads []) l.initial.carrier l.initial.far
      (sending (drop l.payload-index l.payloads) l.replies.items) l.carrier l.far;
}
