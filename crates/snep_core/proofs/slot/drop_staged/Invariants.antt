use Rattle.std.proofs.Common.{◌≡◌, ◌++◌, take, drop}
use Rattle.snep_core.specs.Slots.{dropped}
use Rattle.snep_core.proofs.slot.drop_staged.Given as goal

abbrev pub invariant-slots : goal.invariant-slots
invariant-slots l = dropped l.fn.slots ≡ take l.slot-index l.slots ++ dropped (drop l.slot-index l.slots)
