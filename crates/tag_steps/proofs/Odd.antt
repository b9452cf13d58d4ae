-- Where the turns' commands are those that were to be sent, no other command stands in the place of one.
use Rattle.std.proofs.Common.{◌≡◌, ◌⊎◌, inl, inr, ℕ, List, Option, Some, None, refl, sym, ◌∙◌}
use Rattle.nfc_base.specs.Signal.{Signal}
use Rattle.nfc_base.specs.declared.tag_link.AskFault.{AskFault}
use Rattle.nfc_base.specs.declared.tag_link.AskFault.TheVariants as ask
use Rattle.tag_reader.specs.declared.how.How.{How}
use Rattle.tag_reader.specs.declared.fault.ReadFault.TheVariants as faults
use Rattle.tag_reader.specs.Heard.{IsFaultBy, next_command}
use Rattle.tag_steps.specs.declared.turn.Turn.{Turn}
use Rattle.tag_steps.specs.Replay.{Tag, Differs, first_link, link_behind}
use Rattle.tag_steps.specs.Reading.{AreSent, IsOddBehind}

pub none_some : (o : Option AskFault) → o ≡ None → o ≡ Some ask.Protocol → ⊥
none_some o n s = absurd (cc)

pub one_some : (o : Option Signal) (x y : Signal) → o ≡ Some x → o ≡ Some y → x ≡ y
one_some o x y a b = cc

pub asked_last : (over : Option AskFault) (P : Type 0) → over ≡ Some ask.Protocol → (over ≡ None) ⊎ P → P
asked_last over P is (inl n) = absurd (none_some over n is)
asked_last over P is (inr p) = p

pub by_answer : (how : How) (t : Tag) (turns : List Turn) (used : ℕ) (over : Option AskFault) (last : Option Signal) → AreSent how t turns
    → (over ≡ Some ask.Protocol → Differs turns used last)
    → IsFaultBy how (first_link t) (link_behind t turns used over last) faults.Protocol → IsOddBehind how t turns
by_answer how t turns used over last sent differs (inl odd) = record { used = used; over = over; last = last; odd = odd }
by_answer how t turns used over last sent differs (inr e) =
    let d : Differs turns used last = differs e.ends'.0 in
    let asked : last ≡ Some (next_command how e.ps) = asked_last over (last ≡ Some (next_command how e.ps)) e.ends'.0 (e.asked refl) in
    let next : d.turn.command ≡ next_command how e.ps = sent used e.ps d.turn d.low d.there e.brought.pieces e.brought.answered in
    absurd (d.other (next ∙ sym (one_some last d.command (next_command how e.ps) d.asked asked)))
