-- How a reader activates a Type 4 tag by RATS (ISO/IEC 14443-4; NFC Forum Digital Protocol).
use Rattle.std.specs.Prelude.{◌≡◌, ◌⊎◌, ℕ, ◌%◌, ◌≤◌, ◌==◌, ◌&&◌, nat_lt, List, [], ◌∷◌, ◌++◌, length, slice_index, true}
use Rattle.std.specs.Prelude.{false, if◌then◌else◌, Option, Some, None, Result, Ok, Err}
use Rattle.nfc_base.specs.declared.frame.Tech.TheVariants.{A}
use Rattle.nfc_base.specs.Signal.{Signal, whole_a, is_whole_a}
use Rattle.nfc_base.specs.Headed.{rats_byte}
use Rattle.nfc_base.specs.Far.{Untouched}
use Rattle.nfc_base.specs.TagLinks.{TagState, plain_state}
use Rattle.nfc_base.specs.declared.tag_link.AskFault.{AskFault}
use Rattle.nfc_base.specs.declared.tag_link.AskFault.TheVariants.{FieldLost, SixBad, Memory, Protocol}
use Rattle.air_core.specs.World.{Machine, quiet_air}
use Rattle.air_core.specs.Turn.{Air, moment}
use Rattle.nfc_base.specs.declared.event.Heard.TheVariants.{Whole}
use Rattle.air_core.specs.Conversation.{Note, Got, Going}
use Rattle.air_core.specs.Waits.{Standing, Asking, Broken, stand, waits_next}
use Rattle.air_core.specs.FirstAnswers.{TellsFirst}
use Rattle.air_core.specs.PlainTags.{heard_times, IsAlone}
use Rattle.air_core.specs.declared.listener.Listener.{Ghosts}
use Rattle.isodep_link.specs.Sizes.{piece_size, most_code, ats_frame}
use Rattle.isodep_link.specs.Card.{CardState, activated}
use Rattle.isodep_link.specs.Exchange.{IsMade}
use Rattle.isodep_link.specs.Reader.{ReaderState, waiting}
use Rattle.isodep_link.specs.CardTags.{IsCardTag}
use Rattle.isodep_link.specs.Muted.{SpeaksMute}
use Rattle.isodep_link.specs.Asking.{HasCardTag}
use Rattle.isodep_link.specs.IsoLinks.{IsoSeen, IsIsoReady}

-- the reader's size code, the largest, and its RATS
abbrev pub reader_code : ℕ
reader_code = 8

abbrev pub rats : Signal
rats = whole_a (rats_byte ∷ 0x80 ∷ [])

-- the card's size code where an answer to RATS has one byte alone
abbrev pub default_code : ℕ
default_code = 2

-- An answer to RATS begins with its own length, and has the card's size code in the low nibble of its second byte.
abbrev pub ats_code : Signal → Option ℕ
ats_code f =
    if is_whole_a f && nat_lt 0 (length f.bytes) && (slice_index f.bytes 0 == length f.bytes)
    then Some (if length f.bytes == 1 then default_code else slice_index f.bytes 1 % 16)
    else None

abbrev pub told_code : Option ℕ → Result ℕ AskFault
told_code None = Err Protocol
told_code (Some code) = Ok code

-- what the first whole answer tells
abbrev pub told_ats : Signal → Result ℕ AskFault
told_ats g = told_code (ats_code g)

-- From one field to another, with listeners of any kind: RATS was sent in one wait, and this is told by what was heard.
pub record AsksRats {L : Type 0} (m : Machine L) (old new : Air L) (result : Result ℕ AskFault) : Type 0 where
  pub notes : List Note
  pub speaks : SpeaksMute m (waits_next (rats ∷ [])) old new notes
  pub answers : TellsFirst told_ats (λ fault. Err fault) old.lit notes (stand 0 (rats ∷ []) notes) result

-- the last that was heard is an answer to RATS that tells this code
abbrev pub TellsCode : List Note → ℕ → Type 0
TellsCode ns code = (before : List Note) × (f : Signal) × (ns ≡ before ++ Got (Whole f) ∷ []) × (ats_code f ≡ Some code)

-- the link to the tag at a place that told this size code, before anything is asked
abbrev pub first_link : {L : Type 0} → Air L → ℕ → ℕ → IsoSeen L
first_link air place code = record {
  air = air;
  place = place;
  start = length air.trace;
  told = length air.trace;
  reader = waiting code;
  last = None;
  over = None;
}

-- RATS was answered by what tells a size code: this is a link that cuts to it, and of which nothing was asked yet.
pub record Opens {L : Type 0} (m : Machine L) (old : Air L) (place : ℕ) (p : IsoSeen L) : Type 0 where
  pub code : ℕ
  pub asks : AsksRats m old p.air (Ok code)
  pub first : p ≡ first_link p.air place code

module _ {L : Type 0} (k : Ghosts L) (card : L → CardState) (tag : L → TagState) where
  -- At RATS a listener hands nothing over, answers ATS of its card's size code and stays selected; it is then a Type 4
  -- tag whose card's end, made like this, was activated, with this store, and nothing is selected of it.
  pub record StepsByRats (l : L) (made : CardState) (store : List ℕ) : Type 0 where
    pub quiet : k.machine.handed l rats ≡ Untouched
    pub answer : k.machine.answer l rats None ≡ Some (ats_frame made.code)
    pub selected : k.is_selected (k.machine.after l rats None) ≡ true
    pub is : IsCardTag k card tag (k.machine.after l rats None)
    pub card_is : card (k.machine.after l rats None) ≡ (activated made reader_code).state
    pub tag_is : tag (k.machine.after l rats None) ≡ plain_state store

  -- A selected listener is a Type 4 tag that nothing was asked of: it takes RATS, however often it hears it in a row.
  pub record TakesRats (l : L) : Type 0 where
    pub tech : k.machine.tech l ≡ A
    pub made : CardState
    pub is_made : IsMade made
    pub small : made.code ≤ most_code
    pub steps : (n : ℕ) → StepsByRats (heard_times k l rats n) made (k.store l)

  -- at this place of a field such a tag stands, and is alone
  pub record HasFreshTag (air : Air L) (place : ℕ) : Type 0 where
    pub listener : L
    pub alone : IsAlone k (k.identifier listener) air.listeners place listener
    pub takes : TakesRats listener

  -- At this place of a field a Type 4 tag stands that was activated, in step with a reader that cuts to the tag's own
  -- size code, and nothing is selected of it.
  pub record IsActivated (air : Air L) (place : ℕ) (i : ReaderState) : Type 0 where
    pub has : HasCardTag k card tag air place i [] []
    pub own : i.core.most ≡ piece_size (card has.listener).code
    pub plain : tag has.listener ≡ plain_state (k.store has.listener)

  -- from one moment to another RATS was sent again and again, and this is where its wait stands then
  pub record RatsSent (old new : Air L) (s : Standing) : Type 0 where
    pub notes : List Note
    pub going : Going (quiet_air k.machine) (waits_next (rats ∷ [])) (moment old) (moment new) notes
    pub stands : stand 0 (rats ∷ []) notes ≡ s

  -- how the wait of RATS ends
  abbrev pub RatsEnds : Air L → Air L → ℕ → Result ℕ AskFault → Type 0
  RatsEnds old new place (Ok code) =
      (sent : RatsSent old new (Asking 0 [])) × (new.lit ≡ true) × IsActivated new place (waiting code)
      × TellsCode sent.notes code
  RatsEnds old new place (Err FieldLost) = ((old.lit ≡ false) × (new ≡ old))
      ⊎ (RatsSent old new (Broken FieldLost (rats ∷ [])) × (new.lit ≡ false))
  RatsEnds old new place (Err SixBad) = RatsSent old new (Broken SixBad (rats ∷ []))
  RatsEnds old new place (Err Memory) = (bad : ℕ) × RatsSent old new (Asking bad (rats ∷ []))
  RatsEnds old new place (Err Protocol) = ⊥

  -- what a reader does that activates the tag at a place
  abbrev pub Activates : Air L → Air L → ℕ → Result ℕ AskFault → Type 0
  Activates old new place result = HasFreshTag old place → RatsEnds old new place result

  -- From one moment on RATS was sent again and again, up to the answer of the tag, which told a size code: the tag was
  -- activated, and this is a link to it that is ready for commands.
  pub record IsActivatedLink (old : Air L) (p : IsoSeen L) : Type 0 where
    pub code : ℕ
    pub sent : RatsSent old p.air (Asking 0 [])
    pub tells : TellsCode sent.notes code
    pub lit : p.air.lit ≡ true
    pub activated : IsActivated p.air p.place (waiting code)
    pub reader : p.reader ≡ waiting code
    pub ready : IsIsoReady k card tag p

  -- what a reader gives that activates the tag at a place
  abbrev pub ActivatesLink : Air L → ℕ → IsoSeen L → Type 0
  ActivatesLink old place p = HasFreshTag old place → IsActivatedLink old p
