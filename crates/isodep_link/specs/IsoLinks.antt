-- What contracts see of a link to a Type 4 tag, over a field that it borrows (NFC Forum Type 4 Tag; ISO/IEC 14443-4).
-- What the tag obeyed is read off the blocks that arrived.
use Rattle.std.specs.Prelude.{◌≡◌, ◌⊎◌, ℕ, ◌+◌, ◌-◌, ◌*◌, ◌≤◌, List, [], ◌∷◌, ◌++◌, length, take, drop, map, Bool}
use Rattle.std.specs.Prelude.{false, not, Option, Some, None, Result, Ok, Err}
use Rattle.nfc_base.specs.Signal.{Signal, whole_a}
use Rattle.nfc_base.specs.Trace.{noise}
use Rattle.nfc_base.specs.LinkTurns.{arrived, bad_receptions}
use Rattle.nfc_base.specs.TagLinks.{Type4, TagState, TagStep, LinkView, plain_state, passed, Leads}
use Rattle.nfc_base.specs.declared.event.Event.{Event}
use Rattle.nfc_base.specs.declared.tag_link.AskFault.{AskFault}
use Rattle.nfc_base.specs.declared.tag_link.AskFault.TheVariants.{FieldLost, SixBad, Memory, Protocol}
use Rattle.air_core.specs.World.{Machine, quiet_air}
use Rattle.air_core.specs.Turn.{Air, world, moment}
use Rattle.air_core.specs.Conversation.{Note, Going}
use Rattle.air_core.specs.PlainLinks.{at_place, counts_of, unanswered, Follows, stores_after}
use Rattle.air_core.specs.declared.listener.Listener.{Ghosts}
use Rattle.isodep_link.specs.Card.{CardState}
use Rattle.isodep_link.specs.Reader.{ReaderState}
use Rattle.isodep_link.specs.Commands.{iso_commands}
use Rattle.nfc_base.specs.Pieces.{pieces}
use Rattle.isodep_link.specs.Exchange.{blocks_of, Backs, backs_of}
use Rattle.isodep_link.specs.declared.link.IsoLink.{IsoLink}
use Rattle.isodep_link.specs.Asking.{IsoStanding, Waits, Rests, Broken, asks, stand, iso_next, AsksCommand, HasCardTag}
use Rattle.isodep_link.specs.Asking.{Exchanges}

-- A link: its field, the place of its tag, how long the trace was when the link was made and when the last answer came,
-- the reader's end, the last command that was asked while the link wasn't over, and by which fault it is over.
pub record IsoSeen (L : Type 0) : Type 0 where
  pub air : Air L
  pub place : ℕ
  pub start : ℕ
  pub told : ℕ
  pub reader : ReaderState
  pub last : Option Signal
  pub over : Option AskFault

abbrev pub seen_link : {L : Type 0} → IsoLink L → IsoSeen L
seen_link l = record {
  air = l.field.now;
  place = l.place;
  start = l.start;
  told = l.told;
  reader = l.reader;
  last = l.last;
  over = l.over;
}

-- what a link is once a command was asked: at an answer it goes on from there, by a fault it is over
abbrev pub link_after : {L : Type 0} → IsoSeen L → Air L → ReaderState → Signal → Result Signal AskFault → IsoSeen L
link_after p air i c (Ok answer) = record p { air = air; told = length air.trace; reader = i; last = Some c }
link_after p air i c (Err fault) = record p { air = air; reader = i; last = Some c; over = Some fault }

-- On a link that wasn't over one command was asked of whatever stands at its place, and this is told by what was heard.
pub record CommandExchanged {L : Type 0} (m : Machine L) (p q : IsoSeen L) (c : Signal)
    (result : Result Signal AskFault) : Type 0 where
  pub asks : AsksCommand m p.air q.air p.reader q.reader c.bytes result
  pub left : q ≡ link_after p q.air q.reader c result

-- the commands that some events brought to the tag
abbrev pub commands_of : List Event → List (List ℕ)
commands_of es = iso_commands (blocks_of (arrived es))

abbrev pub obeyed_in : List Event → List Signal
obeyed_in es = map whole_a (commands_of es)

-- the bytes of commands
abbrev pub bytes_of : List Signal → List (List ℕ)
bytes_of fs = map (λ f. f.bytes) fs

-- in how many blocks an answer comes, with the time extensions before it; where there is none it counts as one
abbrev pub answer_pieces : Backs → Option Signal → ℕ
answer_pieces back None = 1
answer_pieces back (Some f) = back.busy + pieces back.most f.bytes

-- The most transmissions that commands take without a bad reception: of each 2 (k1 + k2 - 1) + 2 K, for its k1 blocks
-- out, the k2 blocks back of its answer, which the tag's step gives where the commands before it left the tag, and the
-- K extensions before them.
abbrev pub most_sent : ℕ → Backs → (TagState → Signal → TagStep) → TagState → List Signal → ℕ
most_sent out back step s [] = 0
most_sent out back step s (c ∷ cs) = 2 * (pieces out c.bytes + answer_pieces back (step s c).answer - 1)
    + most_sent out back step (step s c).after cs

-- Each of these commands was obeyed, once and in their order; where a fault ended the link, the last may be missing.
abbrev pub EachOnce : Option AskFault → List Signal → List Signal → Type 0
EachOnce over asked obeyed = (obeyed ≡ asked) ⊎ ((over ≡ None → ⊥) × (last : Signal) × (obeyed ++ last ∷ [] ≡ asked))

-- Where a reader stands whose link is over, or isn't: all commands were answered, or the last one ended the link.
abbrev pub IsoStandsAt : Option AskFault → Bool → ReaderState → IsoStanding → Type 0
IsoStandsAt None lit i s = s ≡ Rests i
IsoStandsAt (Some FieldLost) lit i s = (lit ≡ false) × ((s ≡ Broken FieldLost)
    ⊎ ((f : Signal) × (j : ReaderState) × (s ≡ Waits j f [])))
IsoStandsAt (Some SixBad) lit i s = s ≡ Broken SixBad
IsoStandsAt (Some Memory) lit i s = (f : Signal) × (s ≡ Waits i f [])
IsoStandsAt (Some Protocol) lit i s = ⊥

module _ {L : Type 0} (k : Ghosts L) (card : L → CardState) (tag : L → TagState) where
  abbrev pub since : IsoSeen L → List Event
  since p = drop p.start p.air.trace

  -- the tag's step
  abbrev pub step_of : IsoSeen L → TagState → Signal → TagStep
  step_of p = at_place k.commands (λ s f. record { answer = None; after = s }) p.air.listeners p.place

  -- what the tag's answers take
  abbrev pub card_backs : IsoSeen L → Backs
  card_backs p = at_place (λ l. backs_of (card l)) (record { most = 0; busy = 0 }) p.air.listeners p.place

  -- The state is the tag's own: the dark clears what is selected of it.
  abbrev pub iso_view : IsoSeen L → LinkView
  iso_view p = record {
    kind = Type4;
    identifier = at_place k.identifier [] p.air.listeners p.place;
    step = step_of p;
    state = at_place tag (plain_state []) p.air.listeners p.place;
    obeyed = obeyed_in (since p);
    answered = obeyed_in (drop p.start (take p.told p.air.trace));
    last = p.last;
    over = p.over;
    dark = not p.air.lit;
    counts = counts_of p.over;
    noise = noise (since p);
  }

  -- what one command does with a tag at the place of a link that keeps to the card's table
  abbrev pub ObeysOnLink : IsoSeen L → IsoSeen L → Signal → Result Signal AskFault → Type 0
  ObeysOnLink p q c result = Exchanges k card tag p.air q.air p.place p.reader q.reader c.bytes result

  -- While a link isn't over its tag is there, in step with the reader.
  pub record IsIsoReady (p : IsoSeen L) : Type 0 where
    pub start : p.start ≤ length p.air.trace
    pub told : p.told ≡ length p.air.trace
    pub has : HasCardTag k card tag p.air p.place p.reader (commands_of (since p)) (arrived (since p))

  -- Commands were asked, each request was due, and nothing else happened to the field. What the link answered, and the
  -- command that it ended with, are these commands. They took at most `most_sent` transmissions, and four more for each
  -- bad reception.
  pub record IsoAsks (a b : IsoSeen L) : Type 0 where
    pub asked : List Signal
    pub notes : List Note
    pub going : Going (quiet_air k.machine) (iso_next a.reader (bytes_of asked)) (moment a.air) (moment b.air) notes
    pub same : (b.place ≡ a.place) × (b.start ≡ a.start)
    pub stands : a.over ≡ None → IsoStandsAt b.over b.air.lit b.reader (stand (asks a.reader (bytes_of asked)) notes)
    pub told : a.over ≡ None → (iso_view b).answered ++ unanswered b.over b.last ≡ (iso_view a).answered ++ asked
    pub within : length going.events ≤ most_sent a.reader.core.most (card_backs a) (iso_view a).step (iso_view a).state
        asked + 4 * bad_receptions going.events
    pub ended : (e : AskFault) → a.over ≡ Some e → (b ≡ a) × (asked ≡ [])

  -- The tag obeyed these commands, each once. Both ends cut to the same sizes as before, unless the link is over. The
  -- stores that the tag passed by its steps are those that it had after the events, in their order.
  pub record IsoObeys (a b : IsoSeen L) (asked : List Signal) : Type 0 where
    pub obeyed : List Signal
    pub once : EachOnce b.over asked obeyed
    pub cuts : b.over ≡ None → (b.reader.core.most ≡ a.reader.core.most) × (card_backs b ≡ card_backs a)
    pub leads : Leads (iso_view a) (iso_view b) obeyed
    pub images : Follows (iso_view a).state.store (stores_after k a.place (world a.air)
        (drop (length a.air.trace) b.air.trace)) (passed (iso_view a).step (iso_view a).state obeyed)

  -- what calls on a link do
  pub record IsoMoves (a b : IsoSeen L) : Type 0 where
    pub asks : IsoAsks a b
    pub obeys : IsoObeys a b asks.asked
