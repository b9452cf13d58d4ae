use Rattle.std.proofs.Common.{◌≡◌, ◌+◌, ◌-◌}
use Rattle.tlv_area.specs.Walking.{HasCome}
use Rattle.tlv_area.proofs.walk.Walker.advance.Given as goal

abbrev pub invariant-walk : goal.invariant-walk
invariant-walk l = record {
  come : HasCome l.self l.known;
  space : l.self.space ≡ l.fn.self.space;
}

abbrev pub decreases-walk : goal.decreases-walk
decreases-walk l = l.self.space.end + 1 - l.self.at
