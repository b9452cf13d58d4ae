-- A target's pieces have two bytes or more, whatever it hears: its links are of initiators that take 61 bytes at least.
use Rattle.std.proofs.Common.{◌≤◌}
use Rattle.dep_link.specs.Target.{TargetState}

-- the least that an initiator takes
abbrev pub Cuts : TargetState → Type 0
Cuts s = 2 ≤ s.most
