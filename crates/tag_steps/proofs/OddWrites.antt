-- Where the turns' commands are those that were to be sent, no other command stands in the place of a read or a write.
use Rattle.std.proofs.Common.{◌≡◌, ◌⊎◌, inl, inr, ℕ, List, Option, Some, Err, refl, sym, ◌∙◌, subst}
use Rattle.nfc_base.specs.Signal.{Signal}
use Rattle.nfc_base.specs.TagLinks.{LinkView}
use Rattle.nfc_base.specs.declared.tag_link.AskFault.{AskFault}
use Rattle.nfc_base.specs.declared.tag_link.AskFault.TheVariants as ask
use Rattle.tag_reader.specs.declared.how.How.{How}
use Rattle.tag_reader.specs.declared.fault.ReadFault.{ReadFault}
use Rattle.tag_reader.specs.declared.fault.ReadFault.TheVariants as read
use Rattle.tag_reader.specs.Calls.{ByLink}
use Rattle.tag_reader.specs.Heard.{IsEndedBy, next_command}
use Rattle.tag_reader.specs.SurveyHeard.{AsksWhatItNeeds, IsSurveyedBy, IsUnsurveyedBy, SaysGround}
use Rattle.tag_writer.specs.declared.fault.WriteFault.{WriteFault}
use Rattle.tag_writer.specs.declared.fault.WriteFault.TheVariants as fault
use Rattle.tag_writer.specs.declared.work.Work.{Work}
use Rattle.tag_writer.specs.Planning.{of_read}
use Rattle.tag_writer.specs.Commands.{all_commands}
use Rattle.tag_writer.specs.WriteHeard.{IsWhy, StopsAmong}
use Rattle.tag_writer.specs.WriteTold.{IsPlannedBy, IsWriteToldBy}
use Rattle.tag_steps.specs.declared.turn.Turn.{Turn}
use Rattle.tag_steps.specs.declared.writing.NextWrite.TheVariants.{Fault}
use Rattle.tag_steps.specs.Replay.{Tag, Differs, first_link, link_behind}
use Rattle.tag_steps.specs.Writing.{AreSentToWrite, IsOddToWriter, IsOddTo}
use Rattle.tag_steps.proofs.Losing.{heard_none}
use Rattle.tag_steps.proofs.Odd.{asked_last, none_some, one_some}

-- a fault of what is read first is a writer's `Protocol` only where it is a reader's
read_odd : (f : ReadFault) → fault.Protocol ≡ of_read f → f ≡ read.Protocol
read_odd read.Protocol e = refl
read_odd read.NotNdef e = absurd (cc)
read_odd read.Version e = absurd (cc)
read_odd read.NoRead e = absurd (cc)
read_odd read.Sectors e = absurd (cc)
read_odd read.BadSize e = absurd (cc)
read_odd read.NoMessageTlv e = absurd (cc)
read_odd read.BadTlv e = absurd (cc)
read_odd (read.Refused code) e = absurd (cc)
read_odd read.FieldLost e = absurd (cc)
read_odd read.SixBad e = absurd (cc)
read_odd read.Memory e = absurd (cc)

module _ (how : How) (message : List ℕ) (t : Tag) (turns : List Turn) (used : ℕ) (over : Option AskFault) (last : Option Signal)
    (sent : AreSentToWrite how message t turns) (differs : over ≡ Some ask.Protocol → Differs turns used last) where
  abbrev first : LinkView
  first = first_link t

  abbrev behind : LinkView
  behind = link_behind t turns used over last

  odd_so : IsOddTo how message first behind → IsOddToWriter how message t turns
  odd_so odd = record { used = used; over = over; last = last; odd = odd }

  -- the read that was asked is the one that was to be sent, and no ground was said before it
  as_sent : (e : IsEndedBy how first behind (ByLink first behind ask.Protocol)) → AsksWhatItNeeds how first behind → (command : Signal)
      → (command ≡ next_command how e.ps) ⊎ SaysGround how e.ps → command ≡ next_command how e.ps
  as_sent e needs command (inl next) = next
  as_sent e needs command (inr says) = absurd (none_some over (needs e.ps e.brought says) e.ends'.0)

  by_read : (u : IsUnsurveyedBy how first behind read.Protocol) → IsOddToWriter how message t turns
  by_read u = elim u.by [
    | inl odd ↦ odd_so (inl odd)
    | inr e ↦ (
        let d : Differs turns used last = differs e.ends'.0 in
        let asked : last ≡ Some (next_command how e.ps) = asked_last over (last ≡ Some (next_command how e.ps)) e.ends'.0 (e.asked refl) in
        let next = as_sent e u.needs d.turn.command (sent.reads used e.ps d.turn d.low d.there e.brought.pieces e.brought.answered) in
        absurd (d.other (next ∙ sym (one_some last d.command (next_command how e.ps) d.asked asked))))
  ]

  by_write : (v : LinkView) (w : Work) → IsPlannedBy how message w first v → (s : StopsAmong how v behind (all_commands w) fault.Protocol)
      → IsWhy how v behind s.front s.next fault.Protocol → IsOddToWriter how message t turns
  by_write v w planned s (inl (r, answered, odd)) = odd_so (inr (inr (record {
    v = v;
    w = w;
    planned = planned;
    front = s.front;
    next = s.next;
    rest = s.rest;
    split = s.split;
    by = s.by;
    r = r;
    answered = answered;
    odd = odd;
  })))
  by_write v w planned s (inr u) =
      let d : Differs turns used last = differs u.by.0 in
      let x : IsSurveyedBy how first v planned.ground = planned.surveyed in
      let asked : last ≡ Some s.next = u.asked (heard_none how first v x.ps x.ended x.heard) in
      let is : d.turn.command ≡ s.next = sent.writes used d.turn v w s.front s.next s.rest d.low d.there planned s.split s.by u.answered in
      absurd (d.other (is ∙ sym (one_some last d.command s.next d.asked asked)))

  by_writer : IsWriteToldBy how message first behind (Err fault.Protocol) → IsOddToWriter how message t turns
  by_writer (inl (inl (f, is, told))) = by_read (subst (λ (x : ReadFault). IsUnsurveyedBy how first behind x) (read_odd f is) told)
  by_writer (inl (inr declined)) = odd_so (inr (inl declined))
  by_writer (inr (v, w, planned, stops)) = by_write v w planned stops stops.why

-- of the link's own tag and turns
pub by_over : {T : Type 0} (real : T → Tag) (t u : T) (turns us : List Turn) (used : ℕ) (over : Option AskFault) (last : Option Signal) (how : How) (message : List ℕ)
    → u ≡ t → us ≡ turns → AreSentToWrite how message (real t) turns → (over ≡ Some ask.Protocol → Differs us used last)
    → (e : WriteFault) → e ≡ fault.Protocol → IsWriteToldBy how message (first_link (real t)) (link_behind (real u) us used over last) (Err e)
    → IsOddToWriter how message (real t) turns
by_over real t u turns us used over last how message same all sent differs e is told =
    by_writer how message (real t) turns used over last sent (subst (λ xs. over ≡ Some ask.Protocol → Differs xs used last) all differs)
    (subst (λ x. IsWriteToldBy how message (first_link (real t)) (link_behind (real x) turns used over last) (Err fault.Protocol)) same
    (subst (λ xs. IsWriteToldBy how message (first_link (real t)) (link_behind (real u) xs used over last) (Err fault.Protocol)) all
    (subst (λ f. IsWriteToldBy how message (first_link (real t)) (link_behind (real u) us used over last) (Err f)) is told)))

pub fault_in : (e f : WriteFault) → Fault e ≡ Fault f → e ≡ f
fault_in e f is = cc
