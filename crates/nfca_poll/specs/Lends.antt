-- What a front ends as, where a `&mut` to its machine is returned.
use Rattle.std.specs.Borrow.{Lends, Fml, RattleType, MutBor}
use Rattle.nfca_poll.specs.Fronted.{Fronted}
use Rattle.nfca_poll.specs.contracts.front.Front.{the_row}

-- the device with this machine
abbrev pub with_upper : {U : Type 0} → Fronted U → U → Fronted U
with_upper d u = record { id = d.id; front = d.front; upper = u }

-- once the borrow r ends, the machine is what r shows last
abbrev pub lends_upper : (U : RattleType) → MutBor (Fronted U.Denot) → MutBor U.Denot → Fml
lends_upper U d r = Lends (the_row U) U d r (with_upper d.now)
