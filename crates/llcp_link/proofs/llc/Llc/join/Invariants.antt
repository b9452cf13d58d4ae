use Rattle.std.proofs.Common.{◌≡◌, ◌≤◌, ◌+◌, ◌-◌, length}
use Rattle.llcp_pdu.specs.Writing.{parts_bytes}
use Rattle.llcp_link.specs.Halting.{IsSame}
use Rattle.llcp_link.proofs.JoinsOn.{JoinsSoFar}
use Rattle.llcp_link.proofs.llc.Llc.join.Given as goal

abbrev pub invariant-others : goal.invariant-others
invariant-others g l = record {
  room : l.room ≡ l.fn.self.far_miu - (l.first + length (parts_bytes l.others.items));
  few : length l.others.items ≤ l.most;
  same : IsSame l.fn.self l.self;
  joined : JoinsSoFar g.S.Service.serving l.first l.fn.self l.others.items (l.first + length (parts_bytes l.others.items)) l.self;
}

abbrev pub decreases-others : goal.decreases-others
decreases-others g l = l.room
