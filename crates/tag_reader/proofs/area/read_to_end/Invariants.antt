use Rattle.std.proofs.Common.{◌≡◌, ℕ, suc, ◌+◌, ◌-◌, length, if◌then◌else◌}
use Rattle.nfc_base.specs.TagLinks.{LinkView}
use Rattle.tag_reader.specs.Asked.{ToWrite}
use Rattle.tag_reader.specs.declared.how.How.TheVariants.{T5}
use Rattle.tag_reader.specs.Heard.{IsOf}
use Rattle.tag_reader.specs.private.BlockSteps.{Names, LooksBlocks, IsReading}
use Rattle.tag_reader.proofs.area.read_to_end.Given as goal

abbrev pub invariant-area : goal.invariant-area
invariant-area g l = record {
  of : IsOf (T5 l.id) (g.T.TagLink.seen l.link);
  looks : (a : LinkView) × LooksBlocks l.id a (g.T.TagLink.seen l.link) l.known;
  seen : (a : LinkView) → LooksBlocks l.id a (g.T.TagLink.seen l.fn.link) l.fn.known → LooksBlocks l.id a (g.T.TagLink.seen l.link) l.known;
  names : Names l.known l.space;
  reading : (size n : ℕ) (a : LinkView) → IsReading ToWrite l.id size a (g.T.TagLink.seen l.fn.link) l.fn.known (suc n)
      → (m : ℕ) × IsReading ToWrite l.id size a (g.T.TagLink.seen l.link) l.known (suc m);
  ready : g.T.TagLink.ready l.link;
  same : g.T.TagLink.lenders l.link ≡ g.T.TagLink.lenders l.fn.link;
  moves : g.T.TagLink.moves l.fn.link l.link;
}

abbrev pub decreases-area : goal.decreases-area
decreases-area g l = (l.space.end - length l.known.bytes.items) + (l.space.end - length l.known.bytes.items) + (if l.known.single then 0 else 1)
