use Rattle.std.proofs.Common.{◌≡◌, drop}
use Rattle.snep_core.specs.Slots.{some_staged}
use Rattle.snep_core.proofs.slot.any_staged.Given as goal

abbrev pub invariant-slots : goal.invariant-slots
invariant-slots l = some_staged (drop l.slot-index l.slots) ≡ some_staged l.slots
