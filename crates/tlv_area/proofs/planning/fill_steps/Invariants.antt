use Rattle.std.proofs.Common.{◌≡◌, map}
use Rattle.tlv_area.specs.Layout.{free}
use Rattle.tlv_area.specs.Map.{in_ranges}
use Rattle.tlv_area.specs.Writing.{blocks_changed, write_of, block_in}
use Rattle.tlv_area.proofs.planning.fill_steps.Given as goal

abbrev pub invariant-loop-block : goal.invariant-loop-block
invariant-loop-block l = map write_of l.fill.items
    ≡ map (λ k. block_in l.size l.new k) (blocks_changed l.size (free (in_ranges l.map.reserved.items) l.from l.to) l.home l.old l.new l.block)
