-- Both ends of ISO-DEP by what came on a link, as C asks for them (ISO/IEC 14443-4; NFC Forum Digital Protocol; how C
-- keeps what came, and the numbers of faults, are this project's own).
use Rattle.std.specs.Prelude.{◌≡◌, ◌≤◌, ℕ, ◌==◌, ◌&&◌, nat_le, if◌then◌else◌, List, length, Option, Some, None}
use Rattle.nfc_base.specs.Signal.{whole_a}
use Rattle.nfc_base.specs.declared.event.Heard.{Heard}
use Rattle.isodep_link.specs.declared.reader.ReaderStep.{ReaderStep}
use Rattle.isodep_link.specs.declared.reader.ReaderStep.TheVariants as reader
use Rattle.isodep_link.specs.declared.card.CardStep.{CardStep}
use Rattle.isodep_link.specs.declared.card.CardStep.TheVariants as card
use Rattle.isodep_link.specs.Blocks.{block_frame}
use Rattle.isodep_link.specs.Reader.{ReaderState, ReaderTurn, begun, reader_table, request, waiting}
use Rattle.isodep_link.specs.Card.{CardState, CardTurn, card_table, fresh, replied, reply_block}
use Rattle.zevlodek_c.specs.declared.showing.Told.{Told}
use Rattle.zevlodek_c.specs.Codes.{done, send, silent, asleep, bad_argument, six_bad, no_answer}
use Rattle.zevlodek_c.specs.Entries.{Entry, EndTells, a_frame, a_reply, begins_with, heard_of, most_frame}
use Rattle.zevlodek_c.specs.Showing.{Seen, shows, answers}

-- the most bytes of a command, and of a reply
abbrev pub most_command : ℕ
most_command = 264

-- A reader's end, and what it does behind what came; nothing before the first command.
pub record ReaderNow : Type 0 where
  pub state : ReaderState
  pub does : Option ReaderStep

abbrev pub reader_begins : ℕ → ReaderNow
reader_begins code = record { state = waiting code; does = None }

abbrev pub reader_asks : ReaderState → ReaderNow
reader_asks s = record { state = s; does = Some (reader.Send (block_frame (request s.core))) }

abbrev pub reader_took : ReaderTurn → ReaderNow
reader_took t = record { state = t.state; does = Some t.does }

abbrev pub reader_hears : ReaderState → Option Heard → Option ReaderNow
reader_hears s None = None
reader_hears s (Some h) = Some (reader_took (reader_table s h))

-- In the reader's log stand commands, and what was heard of the frame that was sent last.
abbrev pub reader_takes : ReaderNow → Entry → Option ReaderNow
reader_takes n e =
    if e.kind == begins_with
    then (if nat_le (length e.content) most_command then Some (reader_asks (begun n.state e.content)) else None)
    else reader_hears n.state (heard_of e)

-- the frame that is to be sent, the answer to the command, or how the exchange ended
abbrev pub reader_step_shown : Option ReaderStep → List ℕ → Told → Seen
reader_step_shown None out told = answers silent out told
reader_step_shown (Some (reader.Send f)) out told = shows send f.bytes out told
reader_step_shown (Some (reader.Finished answer)) out told = shows done answer.items out told
reader_step_shown (Some reader.SixBad) out told = answers six_bad out told
reader_step_shown (Some reader.Protocol) out told = answers no_answer out told

abbrev pub reader_shown : ReaderNow → List ℕ → Told → Seen
reader_shown n out told = reader_step_shown n.does out told

-- A card's end, and what it does behind what came.
abbrev pub card_begins : ℕ → CardTurn
card_begins code = record { state = fresh code; does = card.Quiet }

abbrev pub card_replies : CardState → List ℕ → CardTurn
card_replies t content = record { state = replied t content; does = card.Reply (block_frame (reply_block t content)) }

-- a reply is taken only where a command was delivered
abbrev pub card_replied : CardState → List ℕ → CardStep → Option CardTurn
card_replied t content (card.Deliver command) = Some (card_replies t content)
card_replied t content _ = None

-- In the card's log stand frames of the reader, and replies to the commands that were delivered.
abbrev pub card_takes : CardTurn → Entry → Option CardTurn
card_takes n e =
    if e.kind == a_frame
    then (if nat_le (length e.content) most_frame then Some (card_table n.state (whole_a e.content)) else None)
    else if (e.kind == a_reply) && nat_le (length e.content) most_command then card_replied n.state e.content n.does
    else None

-- the frame that is to be sent, or the command that is to be replied to
abbrev pub card_step_shown : CardStep → List ℕ → Told → Seen
card_step_shown card.Quiet out told = answers silent out told
card_step_shown (card.Reply f) out told = shows send f.bytes out told
card_step_shown (card.Deliver command) out told = shows done command.items out told
card_step_shown (card.Asleep f) out told = shows asleep f.bytes out told

abbrev pub card_shown : CardTurn → List ℕ → Told → Seen
card_shown n out told = card_step_shown n.does out told

-- what C sees of a card of this size code
pub record CardTells (code : ℕ) (log out : List ℕ) (told : Told) (seen : Seen) : Type 0 where
  pub taken : code ≤ 8 → EndTells card_takes (card_begins code) card_shown log out told seen
  pub refused : (code ≤ 8 → ⊥) → seen ≡ answers bad_argument out told
