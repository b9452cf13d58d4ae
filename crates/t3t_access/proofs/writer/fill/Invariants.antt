use Rattle.std.proofs.Common.{◌≡◌, suc, ◌-◌, ◌≤◌}
use Rattle.nfc_base.specs.TagLinks.{LinkView}
use Rattle.t3t_access.specs.Talk.{IsOf}
use Rattle.t3t_access.specs.Writing.{blocks_of, Writes}
use Rattle.t3t_access.proofs.writer.fill.Given as goal

abbrev pub invariant-loop-written : goal.invariant-loop-written
invariant-loop-written g l = record {
  writes : (a : LinkView) → Writes l.id a (g.T.TagLink.seen l.fn.link) l.block l.message 1 → Writes l.id a (g.T.TagLink.seen l.link) l.block l.message (suc l.written);
  most : l.written ≤ blocks_of l.message;
  of : IsOf l.id (g.T.TagLink.seen l.link);
  ready : g.T.TagLink.ready l.link;
  same : g.T.TagLink.lenders l.link ≡ g.T.TagLink.lenders l.fn.link;
  moves : g.T.TagLink.moves l.fn.link l.link;
}

abbrev pub decreases-loop-written : goal.decreases-loop-written
decreases-loop-written g l = blocks_of l.message - l.written
