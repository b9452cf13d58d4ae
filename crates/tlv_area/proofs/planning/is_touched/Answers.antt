use Rattle.std.proofs.Common.{sym, ◌∙◌}
use Rattle.tlv_area.specs.Map.{in_ranges}
use Rattle.tlv_area.proofs.Blocks.{untouched_block, touched_block}
use Rattle.tlv_area.proofs.planning.is_touched.Goals as goal

pub returns-then-behind-first : goal.returns-then-behind-first
returns-then-behind-first c =
    sym (untouched_block (in_ranges c.args.reserved.now) c.args.from c.args.to c.args.size c.args.block c.max-first.result c.min-behind.result
    c.requires.some c.max-first.ensures c.min-behind.ensures c.if-behind-first.true)

pub returns : goal.returns
returns c =
    c.is_some.ensures
    ∙ touched_block (in_ranges c.args.reserved.now) c.args.from c.args.to c.args.size c.args.block c.max-first.result c.min-behind.result
    c.requires.some c.max-first.ensures c.min-behind.ensures c.past.result c.past.ensures.some c.past.ensures.none
