-- Where the link is over since the field was lost, that is what a writing tells.
use Rattle.std.proofs.Common.{◌≡◌, List, true, false, Bool, inl, inr, Some, None, Result, Err, refl, sym, ◌∙◌, ap}
use Rattle.nfc_base.specs.TagLinks.{LinkView}
use Rattle.nfc_base.specs.declared.tag_link.AskFault.{AskFault}
use Rattle.nfc_base.specs.declared.tag_link.AskFault.TheVariants as ask
use Rattle.tag_reader.specs.declared.how.How.{How}
use Rattle.tag_reader.specs.declared.found.Found.{Found}
use Rattle.tag_reader.specs.declared.fault.ReadFault.{ReadFault}
use Rattle.tag_reader.specs.declared.fault.ReadFault.TheVariants as read
use Rattle.tag_reader.specs.SurveyHeard.{IsHeard}
use Rattle.tag_reader.proofs.Exact.{exactly_over}
use Rattle.tag_writer.specs.declared.fault.WriteFault.{WriteFault}
use Rattle.tag_writer.specs.declared.fault.WriteFault.TheVariants as fault
use Rattle.tag_writer.specs.Planning.{of_read}
use Rattle.tag_writer.specs.WriteHeard.{IsWhy}
use Rattle.tag_writer.specs.WriteTold.{IsWriteToldBy}

lost_none : (b : LinkView) (P : Type 0) → b.over ≡ Some ask.FieldLost → b.over ≡ None → P
lost_none b P lost none = absurd (let both : None ≡ Some ask.FieldLost = sym none ∙ lost in cc)

pub heard_none : (how : How) (a b : LinkView) (ps : List (List _)) (ended : Bool) → IsHeard how a b ps ended → b.over ≡ None
heard_none how a b ps false h = h.1
heard_none how a b ps true h = h.1.over

lost_other : (b : LinkView) (e : AskFault) → b.over ≡ Some ask.FieldLost → b.over ≡ Some e → ask.FieldLost ≡ e
lost_other b e lost over = let both : Some ask.FieldLost ≡ Some e = sym lost ∙ over in cc

pub err_in : (f g : ReadFault) → ◌≡◌ {A = Result Found ReadFault} (Err f) (Err g) → f ≡ g
err_in f g e = cc

why_lost : (how : How) (v b : LinkView) (front : List _) (next : _) (e : WriteFault) → b.over ≡ Some ask.FieldLost → IsWhy how v b front next e → e ≡ fault.FieldLost
why_lost how v b front next (fault.Refused code) lost why = lost_none b _ lost why.1.over
why_lost how v b front next fault.Protocol lost (inl why) = lost_none b _ lost why.1.over
why_lost how v b front next fault.Protocol lost (inr why) = absurd (let e = lost_other b ask.Protocol lost why.by.0 in cc)
why_lost how v b front next fault.FieldLost lost why = refl
why_lost how v b front next fault.SixBad lost why = absurd (let e = lost_other b ask.SixBad lost why.by.0 in cc)
why_lost how v b front next fault.Memory lost why = absurd (let e = lost_other b ask.Memory lost why.by.0 in cc)
why_lost how v b front next fault.NotNdef lost why = absurd why
why_lost how v b front next fault.Version lost why = absurd why
why_lost how v b front next fault.NoRead lost why = absurd why
why_lost how v b front next fault.Sectors lost why = absurd why
why_lost how v b front next fault.BadSize lost why = absurd why
why_lost how v b front next fault.NoMessageTlv lost why = absurd why
why_lost how v b front next fault.BadTlv lost why = absurd why
why_lost how v b front next fault.ReadOnly lost why = absurd why
why_lost how v b front next (fault.TooLong n) lost why = absurd why
why_lost how v b front next fault.ShortMlc lost why = absurd why

pub told_lost : (how : How) (message : List _) (a b : LinkView) (e : WriteFault) → IsWriteToldBy how message a b (Err e) → b.over ≡ Some ask.FieldLost → e ≡ fault.FieldLost
told_lost how message a b e (inl (inl (f, is, told))) lost = is ∙ ap of_read (err_in f read.FieldLost (exactly_over how a b ask.FieldLost (Err f) told.by lost))
told_lost how message a b e (inl (inr declined)) lost = lost_none b _ lost (heard_none how a b declined.surveyed.ps declined.surveyed.ended declined.surveyed.heard)
told_lost how message a b e (inr (v, w, planned, stops)) lost = why_lost how v b stops.front stops.next e lost stops.why
