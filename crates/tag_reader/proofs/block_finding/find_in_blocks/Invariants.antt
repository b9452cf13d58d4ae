use Rattle.std.proofs.Common.{◌≡◌, ℕ, suc, ◌+◌, ◌-◌, length, take, if◌then◌else◌}
use Rattle.tlv_area.specs.Walking.{HasCome}
use Rattle.tag_reader.specs.declared.how.How.TheVariants.{T5}
use Rattle.tag_reader.specs.Kinds.{IsTag}
use Rattle.tag_reader.specs.Asked.{ToRead}
use Rattle.tag_reader.specs.private.BlockSteps.{Names, LooksBlocks, IsReading}
use Rattle.tag_reader.proofs.block_finding.find_in_blocks.Given as goal

abbrev pub invariant-walk : goal.invariant-walk
invariant-walk g l = record {
  looks : LooksBlocks l.id (g.T.TagLink.seen l.fn.link) (g.T.TagLink.seen l.link) l.known;
  names : Names l.known l.space;
  reading : (size : ℕ) → IsTag (T5 l.id) size (g.T.TagLink.seen l.fn.link) → (n : ℕ) × IsReading ToRead l.id size (g.T.TagLink.seen l.fn.link) (g.T.TagLink.seen l.link) l.known (suc n);
  space : l.walker.space ≡ l.space;
  come : HasCome l.walker (take l.space.end l.known.bytes.items);
  ready : g.T.TagLink.ready l.link;
  same : g.T.TagLink.lenders l.link ≡ g.T.TagLink.lenders l.fn.link;
  moves : g.T.TagLink.moves l.fn.link l.link;
}

abbrev pub decreases-walk : goal.decreases-walk
decreases-walk g l = (l.space.end - length l.known.bytes.items) + (l.space.end - length l.known.bytes.items) + (if l.known.single then 0 else 1)
