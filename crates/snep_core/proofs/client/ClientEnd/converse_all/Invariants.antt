use Rattle.std.proofs.Common.{◌≡◌, false}
use Rattle.snep_core.specs.Slots.{noted}
use Rattle.snep_core.specs.Talk.{Goes, begun, saps}
use Rattle.snep_core.specs.RepliesLeft.{IsUnderWay, replies_left}
use Rattle.snep_core.proofs.jobs.Talking.{TalksTo}
use Rattle.snep_core.proofs.client.ClientEnd.converse_all.Given as goal

abbrev pub invariant-turns : goal.invariant-turns
invariant-turns g l = record {
  spent : l.self.spent ≡ false;
  ready : g.C.Carrier.ready l.carrier;
  same : g.C.Carrier.lenders l.carrier ≡ g.C.Carrier.lenders l.fn.carrier;
  slots_are : l.slots ≡ noted l.jobs.items l.fn.slots;
  saps_are : l.saps.items ≡ saps l.jobs.items;
  under_way : IsUnderWay (record { llc = l.self.llc; jobs = l.jobs.items; idle = l.idle });
  talks : TalksTo g.C.Carrier.seen g.C.Carrier.swaps g.A.Answerer.steps g.A.Answerer.stops l.fn.counts (begun l.fn.self.llc l.fn.first.items) l.fn.carrier
      l.fn.far l.left (Goes (record { llc = l.self.llc; jobs = l.jobs.items; idle = l.idle })) l.carrier l.far;
}

abbrev pub decreases-turns : goal.decreases-turns
decreases-turns g l = replies_left (record { llc = l.self.llc; jobs = l.jobs.items; idle = l.idle })
