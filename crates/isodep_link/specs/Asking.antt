-- What a reader asks of a Type 4 tag, by what it has heard (NFC Forum Digital Protocol), and what one command does
-- there.
use Rattle.std.specs.Prelude.{◌≡◌, ◌⊎◌, ℕ, ◌+◌, ◌-◌, ◌*◌, ◌<◌, ◌≤◌, List, [], ◌∷◌, ◌++◌, length, map, Bool, true, false}
use Rattle.std.specs.Prelude.{Option, Some, Result, Ok, Err}
use Rattle.std.specs.List.{AllByRecursion}
use Rattle.nfc_base.specs.Signal.{Signal, whole_a}
use Rattle.nfc_base.specs.TagLinks.{TagState, passed}
use Rattle.nfc_base.specs.Trace.{noise, breaks}
use Rattle.nfc_base.specs.StopAndWait.{delivered_of, pieces_back}
use Rattle.nfc_base.specs.LinkTurns.{GivenBy, bad_receptions}
use Rattle.nfc_base.specs.LinkTurns as turns
use Rattle.nfc_base.specs.declared.event.Event.{Event}
use Rattle.nfc_base.specs.declared.event.Heard.{Heard}
use Rattle.nfc_base.specs.declared.tag_link.AskFault.{AskFault}
use Rattle.nfc_base.specs.declared.tag_link.AskFault.TheVariants.{FieldLost, SixBad, Memory, Protocol}
use Rattle.air_core.specs.World.{Machine, quiet_air}
use Rattle.air_core.specs.Turn.{Air, world, moment}
use Rattle.air_core.specs.Conversation.{Note, Lit, Got, Lost, Next, Over, Asks, Going}
use Rattle.air_core.specs.PlainTags.{reached, IsAlone}
use Rattle.air_core.specs.PlainLinks.{Follows, stores_after}
use Rattle.air_core.specs.declared.listener.Listener.{Ghosts}
use Rattle.isodep_link.specs.declared.reader.ReaderStep.{ReaderStep}
use Rattle.isodep_link.specs.declared.reader.ReaderStep.TheVariants as steps
use Rattle.isodep_link.specs.Blocks.{block_frame}
use Rattle.isodep_link.specs.Card.{CardState}
use Rattle.isodep_link.specs.Reader.{ReaderState, reader_table, request, begun}
use Rattle.isodep_link.specs.Commands.{iso_commands}
use Rattle.nfc_base.specs.Pieces.{pieces}
use Rattle.isodep_link.specs.Exchange.{blocks_of, InStep, IsCut, blocks_back}
use Rattle.isodep_link.specs.Muted.{SpeaksMute, IsStopped}
use Rattle.isodep_link.specs.CardTags.{IsAskedFrame, TagDoes, IsCardTag}

-- Where a reader stands that asks commands: this frame was sent, and these commands follow; all were answered; it ended
-- by a fault; or something was heard that belongs to no wait.
pub data IsoStanding : Type 0 where
  Waits : ReaderState → Signal → List (List ℕ) → IsoStanding
  Rests : ReaderState → IsoStanding
  Broken : AskFault → IsoStanding
  Astray : IsoStanding

-- commands are asked, the first of them now
abbrev pub asks : ReaderState → List (List ℕ) → IsoStanding
asks i [] = Rests i
asks i (c ∷ cs) = Waits (begun i c) (block_frame (request (begun i c).core)) cs

abbrev pub goes_by : ReaderState → ReaderStep → List (List ℕ) → IsoStanding
goes_by i (steps.Send f) cs = Waits i f cs
goes_by i (steps.Finished answer) cs = asks i cs
goes_by i steps.SixBad cs = Broken SixBad
goes_by i steps.Protocol cs = Broken Protocol

-- the reader goes on by its table
abbrev pub noted : IsoStanding → Note → IsoStanding
noted (Waits i f cs) Lit = Astray
noted (Waits i f cs) Lost = Broken FieldLost
noted (Waits i f cs) (Got h) = goes_by (reader_table i h).state (reader_table i h).does cs
noted (Rests i) n = Astray
noted (Broken e) n = Astray
noted Astray n = Astray

abbrev pub stand : IsoStanding → List Note → IsoStanding
stand s [] = s
stand s (n ∷ ns) = stand (noted s n) ns

abbrev pub due_at : IsoStanding → Next
due_at (Waits i f cs) = Asks f
due_at (Rests i) = Over
due_at (Broken e) = Over
due_at Astray = Over

-- what is due while a reader asks these commands
abbrev pub iso_next : ReaderState → List (List ℕ) → List Note → Next
iso_next i cs ns = due_at (stand (asks i cs) ns)

-- By what was heard last, the reader's table has the whole answer of this command, and this is told.
pub record Finishes (i : ReaderState) (command : List ℕ) (ns : List Note) (i' : ReaderState)
    (result : Result Signal AskFault) : Type 0 where
  pub before : List Note
  pub last : Heard
  pub noted : ns ≡ before ++ Got last ∷ []
  pub reader : ReaderState
  pub sent : Signal
  pub stands : stand (asks i (command ∷ [])) before ≡ Waits reader sent []
  pub answer : List ℕ
  pub table : reader_table reader last ≡ record { state = i'; does = steps.Finished (record { items = answer }) }
  pub told : result ≡ Ok (whole_a answer)

-- How one command ends, by where the reader stands: by its answer; by a fault, as the reader's table tells it, or as
-- the field is lost. Nothing else ends it but want of memory.
abbrev pub AnswersCommand : Bool → ReaderState → List ℕ → List Note → IsoStanding → ReaderState → Result Signal AskFault
    → Type 0
AnswersCommand lit i command ns (Rests j) i' result = (j ≡ i') × Finishes i command ns i' result
AnswersCommand lit i command ns (Waits j f cs) i' result = (j ≡ i') × IsStopped lit ns result
AnswersCommand lit i command ns (Broken fault) i' result = result ≡ Err fault
AnswersCommand lit i command ns Astray i' result = ⊥

-- From one field to another, with listeners of any kind: one command was asked by the reader's table, each block of it
-- as it was due, and this is told by what was heard.
pub record AsksCommand {L : Type 0} (m : Machine L) (old new : Air L) (i i' : ReaderState) (command : List ℕ)
    (result : Result Signal AskFault) : Type 0 where
  pub notes : List Note
  pub speaks : SpeaksMute m (iso_next i (command ∷ [])) old new notes
  pub answers : AnswersCommand old.lit i command notes (stand (asks i (command ∷ [])) notes) i' result

module _ {L : Type 0} (k : Ghosts L) (card : L → CardState) (tag : L → TagState) where
  -- At this place of a field a Type 4 tag stands that was activated, is selected and alone, and in step with the
  -- reader; since then these frames arrived, and it obeyed these commands.
  pub record HasCardTag (air : Air L) (place : ℕ) (i : ReaderState) (commands : List (List ℕ)) (arrived : List Signal)
      : Type 0 where
    pub listener : L
    pub selected : k.is_selected listener ≡ true
    pub alone : IsAlone k (k.identifier listener) air.listeners place listener
    pub is : IsCardTag k card tag listener
    pub step : InStep i (card listener)
    pub cut : IsCut (card listener) commands arrived

  -- the listener at that place once frames were asked: as lit as the field is
  pub record IsAfter (air : Air L) (place : ℕ) (begin : L) (held : TagState) : Type 0 where
    pub frames : List Signal
    pub asked : AllByRecursion IsAskedFrame frames
    pub left : L
    pub alone : IsAlone k (k.identifier begin) air.listeners place left
    pub holds : tag (reached k begin frames) ≡ held
    pub is : ((air.lit ≡ true) × (left ≡ reached k begin frames))
        ⊎ ((air.lit ≡ false) × (left ≡ k.machine.darkened (reached k begin frames)))

  -- From one moment of a field to another, turns of one command were made, each due, and this is where the reader
  -- stands then. The tag obeyed the command at most once, where it gave an answer; so much was sent at most; and its
  -- store was the one before the command, and then the one after it.
  pub record CommandTurns (old new : Air L) (place : ℕ) (begin : L) (i : ReaderState) (commands : List (List ℕ))
      (arrived : List Signal) (command : List ℕ) (given : Option (List ℕ)) (s : IsoStanding) : Type 0 where
    pub held : TagState
    pub after : IsAfter new place begin held
    pub given_by : GivenBy (TagDoes (k.commands begin)) (tag begin) command given held
    pub events : List Event
    pub trace : new.trace ≡ old.trace ++ events
    pub obeyed : iso_commands (blocks_of (arrived ++ turns.arrived events)) ≡ commands ++ delivered_of command given
    pub within : length events ≤ 2 * (pieces i.core.most command + pieces_back (blocks_back (card begin)) given - 1)
        + 4 * bad_receptions events
    pub notes : List Note
    pub going : Going (quiet_air k.machine) (iso_next i (command ∷ [])) (moment old) (moment new) notes
    pub stands : stand (asks i (command ∷ [])) notes ≡ s
    pub images : Follows (k.store begin) (stores_after k place (world old) events)
        (passed (k.commands begin) (tag begin) (map whole_a (delivered_of command given)))

  -- the command is under way, or was broken off
  abbrev pub UnderWay : Air L → Air L → ℕ → L → ReaderState → List (List ℕ) → List Signal → List ℕ
      → (IsoStanding → List Event → Type 0) → Type 0
  UnderWay old new place begin i commands arrived command P =
      (given : Option (List ℕ)) × (s : IsoStanding)
      × (a : CommandTurns old new place begin i commands arrived command given s) × P s a.events

  -- How one command ends. An answer leaves the tag ready for the next; a field that is lost is dark, and a transmission
  -- lost it; six bad receptions have one that didn't pass.
  abbrev pub EndsBy : Air L → Air L → ℕ → L → ReaderState → ReaderState → List (List ℕ) → List Signal → List ℕ
      → Result Signal AskFault → Type 0
  EndsBy old new place begin i i' commands arrived command (Ok answer) =
      (r : List ℕ) × (a : CommandTurns old new place begin i commands arrived command (Some r) (Rests i'))
      × (answer ≡ whole_a r) × (new.lit ≡ true)
      × HasCardTag new place i' (commands ++ command ∷ []) (arrived ++ turns.arrived a.events)
  EndsBy old new place begin i i' commands arrived command (Err FieldLost) =
      ((old.lit ≡ false) × (new ≡ old)) ⊎ UnderWay old new place begin i commands arrived command
      (λ s es. (s ≡ Broken FieldLost) × (new.lit ≡ false) × (0 < breaks es))
  EndsBy old new place begin i i' commands arrived command (Err SixBad) =
      UnderWay old new place begin i commands arrived command
      (λ s es. (s ≡ Broken SixBad) × (new.lit ≡ true) × (0 < noise es))
  EndsBy old new place begin i i' commands arrived command (Err Memory) =
      UnderWay old new place begin i commands arrived command
      (λ s es. (f : Signal) × (s ≡ Waits i' f []) × (new.lit ≡ old.lit))
  EndsBy old new place begin i i' commands arrived command (Err Protocol) = ⊥

  -- what a reader that asks one command of the tag at a place does, whatever was asked before
  abbrev pub Exchanges : Air L → Air L → ℕ → ReaderState → ReaderState → List ℕ → Result Signal AskFault → Type 0
  Exchanges old new place i i' command result =
      (commands : List (List ℕ)) (arrived : List Signal) (t : HasCardTag old place i commands arrived)
      → EndsBy old new place t.listener i i' commands arrived command result
