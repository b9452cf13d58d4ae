use Rattle.std.proofs.Common.{◌≡◌, ℕ, ◌-◌, take}
use Rattle.tlv_area.specs.Walking.{HasCome}
use Rattle.tag_reader.specs.declared.how.How.TheVariants.{T2}
use Rattle.tag_reader.specs.Kinds.{IsTag}
use Rattle.tag_reader.specs.HeardSteps.{Looks}
use Rattle.tag_reader.specs.Asked.{ToRead}
use Rattle.tag_reader.specs.Steps.{Walks}
use Rattle.tag_reader.proofs.finding.find_map.Given as goal

abbrev pub invariant-walk : goal.invariant-walk
invariant-walk g l = record {
  walks : (size : ℕ) → IsTag T2 size (g.T.TagLink.seen l.fn.link) → Walks ToRead size (g.T.TagLink.seen l.fn.link) (g.T.TagLink.seen l.link) l.known.items l.space l.index;
  looks : Looks (g.T.TagLink.seen l.fn.link) (g.T.TagLink.seen l.link) l.known.items l.space l.index;
  space : l.walker.space ≡ l.space;
  come : HasCome l.walker (take l.space.end l.known.items);
  ready : g.T.TagLink.ready l.link;
  same : g.T.TagLink.lenders l.link ≡ g.T.TagLink.lenders l.fn.link;
  moves : g.T.TagLink.moves l.fn.link l.link;
}

abbrev pub decreases-walk : goal.decreases-walk
decreases-walk g l = 256 - l.index
