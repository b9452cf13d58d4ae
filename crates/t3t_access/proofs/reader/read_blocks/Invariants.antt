use Rattle.std.proofs.Common.{◌≡◌, ◌+◌, ◌-◌, ◌*◌, ◌≤◌, length, take}
use Rattle.nfc_base.specs.TagLinks.{LinkView}
use Rattle.t3t_access.specs.Talk.{IsOf}
use Rattle.t3t_access.specs.Reading.{Reads}
use Rattle.t3t_access.proofs.Growing.{IsUnder}
use Rattle.t3t_access.proofs.reader.read_blocks.Given as goal

abbrev pub invariant-loop-taken : goal.invariant-loop-taken
invariant-loop-taken g l = record {
  reads : (a : LinkView) → Reads l.id a (g.T.TagLink.seen l.fn.link) l.block 1 l.fn.known.items → IsUnder l.id a (g.T.TagLink.seen l.link) l.block l.known.items l.taken;
  most : l.taken ≤ l.needed;
  head : take 16 l.known.items ≡ l.block;
  long : length l.known.items ≡ 16 + 16 * l.taken;
  of : IsOf l.id (g.T.TagLink.seen l.link);
  ready : g.T.TagLink.ready l.link;
  same : g.T.TagLink.lenders l.link ≡ g.T.TagLink.lenders l.fn.link;
  moves : g.T.TagLink.moves l.fn.link l.link;
}

abbrev pub decreases-loop-taken : goal.decreases-loop-taken
decreases-loop-taken g l = l.needed - l.taken
