use Rattle.std.proofs.Common.{◌≡◌, ◌<◌, ◌++◌, map, take, drop}
use Rattle.std.specs.List.{All}
use Rattle.snep_core.specs.Slots.{slot_count}
use Rattle.bench_world.specs.private.LinkTaken.{marked_done}
use Rattle.bench_world.proofs.told.mark_done.Given as goal

abbrev pub invariant-loop-one : goal.invariant-loop-one
invariant-loop-one l = record {
  told : map (marked_done l.client.slots) l.fn.done ≡ take l.one-index l.done ++ map (marked_done l.client.slots) (drop l.one-index l.done);
  within : All (λ d. d.slot < slot_count) (drop l.one-index l.done);
}
