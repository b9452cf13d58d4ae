use Rattle.std.proofs.Common.{◌≡◌, ℕ}
use Rattle.std.specs.Prelude.{min}
use Rattle.nfc_base.specs.TagLinks.{LinkView}
use Rattle.tlv_area.specs.declared.container.FileMap.{FileMap}
use Rattle.tag_reader.specs.Files.{most_asked}
use Rattle.tag_reader.specs.HeardSteps.{Measured, HasRead}
use Rattle.tag_reader.specs.private.FileSteps.{IsMeasured, HasPieces}
use Rattle.tag_reader.specs.Asked.{ToRead}
use Rattle.tag_reader.proofs.file.read_message.Given as goal

abbrev pub invariant-loop-index : goal.invariant-loop-index
invariant-loop-index g l = record {
  pieces : (size : ℕ) (a : LinkView) (m : FileMap) → IsMeasured ToRead size a (g.T.TagLink.seen l.fn.link) m l.length → l.most ≡ most_asked a.state.store
      → HasPieces size a (g.T.TagLink.seen l.link) l.message.items l.index;
  brings : (a : LinkView) (m : FileMap) → Measured a (g.T.TagLink.seen l.fn.link) m l.length → l.most ≡ min m.mle 255 → HasRead a (g.T.TagLink.seen l.link) m l.length l.most l.message.items l.index;
  ready : g.T.TagLink.ready l.link;
  same : g.T.TagLink.lenders l.link ≡ g.T.TagLink.lenders l.fn.link;
  moves : g.T.TagLink.moves l.fn.link l.link;
}
