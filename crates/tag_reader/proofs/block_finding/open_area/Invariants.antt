use Rattle.std.proofs.Common.{◌≡◌, ℕ, ◌+◌, ◌-◌, length, if◌then◌else◌}
use Rattle.tag_reader.specs.declared.how.How.TheVariants.{T5}
use Rattle.tag_reader.specs.Kinds.{IsTag}
use Rattle.tag_reader.specs.Asked.{Aim}
use Rattle.tag_reader.specs.private.BlockSteps.{LooksBlocks, IsReading}
use Rattle.tag_reader.proofs.block_finding.open_area.Given as goal

abbrev pub invariant-open : goal.invariant-open
invariant-open g l = record {
  looks : LooksBlocks l.id (g.T.TagLink.seen l.fn.link) (g.T.TagLink.seen l.link) l.known;
  reading : (aim : Aim) (size : ℕ) → IsTag (T5 l.id) size (g.T.TagLink.seen l.fn.link) → (n : ℕ) × IsReading aim l.id size (g.T.TagLink.seen l.fn.link) (g.T.TagLink.seen l.link) l.known n;
  ready : g.T.TagLink.ready l.link;
  same : g.T.TagLink.lenders l.link ≡ g.T.TagLink.lenders l.fn.link;
  moves : g.T.TagLink.moves l.fn.link l.link;
}

abbrev pub decreases-open : goal.decreases-open
decreases-open g l = (8 - length l.known.bytes.items) + (8 - length l.known.bytes.items) + (if l.known.single then 0 else 1)
