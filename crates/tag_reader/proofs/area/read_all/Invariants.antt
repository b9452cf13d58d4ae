use Rattle.std.proofs.Common.{◌≡◌, ℕ, ◌-◌}
use Rattle.tag_reader.specs.declared.how.How.TheVariants.{T2}
use Rattle.tag_reader.specs.Kinds.{IsTag}
use Rattle.tag_reader.specs.Asked.{ToWrite}
use Rattle.tag_reader.specs.HeardSteps.{Looks}
use Rattle.tag_reader.specs.Steps.{Walks}
use Rattle.tag_reader.proofs.area.read_all.Given as goal

abbrev pub invariant-area : goal.invariant-area
invariant-area g l = record {
  walks : (size : ℕ) → IsTag T2 size (g.T.TagLink.seen l.fn.link) → Walks ToWrite size (g.T.TagLink.seen l.fn.link) (g.T.TagLink.seen l.link) l.known.items l.space l.index;
  looks : Looks (g.T.TagLink.seen l.fn.link) (g.T.TagLink.seen l.link) l.known.items l.space l.index;
  ready : g.T.TagLink.ready l.link;
  same : g.T.TagLink.lenders l.link ≡ g.T.TagLink.lenders l.fn.link;
  moves : g.T.TagLink.moves l.fn.link l.link;
}

abbrev pub decreases-area : goal.decreases-area
decreases-area g l = 256 - l.index
