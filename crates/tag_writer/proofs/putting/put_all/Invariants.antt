use Rattle.std.proofs.Common.{◌≡◌, take}
use Rattle.nfc_base.specs.TagLinks.{Rises}
use Rattle.tag_writer.specs.Puttings.{Makes}
use Rattle.tag_writer.specs.Phases.{WriteJob, IsAt, how_of, next_at}
use Rattle.tag_writer.specs.Commands.{commands_at}
use Rattle.tag_writer.specs.WriteHeard.{AreAcknowledged}
use Rattle.tag_writer.proofs.putting.put_all.Given as goal

abbrev pub invariant-loop-index : goal.invariant-loop-index
invariant-loop-index g l = record {
  makes : (j : WriteJob) → IsAt l.phase j l.work (g.T.TagLink.seen l.fn.link) → Makes j.how (g.T.TagLink.seen l.fn.link) (take l.index (next_at l.phase j)) (g.T.TagLink.seen l.link);
  told : AreAcknowledged (how_of l.work) (g.T.TagLink.seen l.fn.link) (g.T.TagLink.seen l.link) (take l.index (commands_at l.phase l.work));
  rises : Rises (g.T.TagLink.seen l.fn.link) (g.T.TagLink.seen l.link);
  ready : g.T.TagLink.ready l.link;
  same : g.T.TagLink.lenders l.link ≡ g.T.TagLink.lenders l.fn.link;
  moves : g.T.TagLink.moves l.fn.link l.link;
}
