-- Finding NFC-V devices: inventory of one slot (NFC Forum Digital Protocol; ISO/IEC 15693-3). Four tries are this
-- project's own.
use Rattle.std.specs.Prelude.{◌≡◌, ◌⊎◌, ◌≤◌, ℕ, zero, suc, ◌+◌, List, [], ◌∷◌, length, drop, reverse, Bool, true, false}
use Rattle.std.specs.Prelude.{◌==◌, ◌&&◌, nat_lt, if◌then◌else◌, Option, Some, None, Result, Ok, Err}
use Rattle.nfc_base.specs.Signal.{Signal, whole_v}
use Rattle.nfc_base.specs.declared.event.Heard.{Heard}
use Rattle.nfc_base.specs.declared.event.Heard.TheVariants.{Whole, Collided, Damaged, Silent}
use Rattle.nfc_base.specs.Far.{Untouched}
use Rattle.nfc_base.specs.Trace.{noise}
use Rattle.air_core.specs.World.{Machine, hands_over, answered_by, stepped_by}
use Rattle.air_core.specs.Turn.{Air}
use Rattle.air_core.specs.Conversation.{Next, Over, Asks}
use Rattle.nfca_poll.specs.Crowd.{Each}
use Rattle.nfca_poll.specs.declared.fault.PollFault.{PollFault}
use Rattle.nfca_poll.specs.declared.fault.PollFault.TheVariants as faults
use Rattle.nfca_poll.specs.declared.inventory.Vcrowd.{Vcrowd}
use Rattle.nfca_poll.specs.declared.inventory.Vcrowd.TheVariants.{Nobody, One, Crowd}
use Rattle.nfca_poll.specs.Enquiry.{Enquiry}

-- inventory of all devices, and of the one with this identifier, high byte first: flags, the code, the length of the
-- mask in bits, and the mask, low byte first
abbrev pub inventory_all : Signal
inventory_all = whole_v (0x26 ∷ 0x01 ∷ 0x00 ∷ [])

abbrev pub inventory_of : List ℕ → Signal
inventory_of id = whole_v (0x26 ∷ 0x01 ∷ 0x40 ∷ reverse id)

-- an answer to inventory has ten bytes: flags, DSFID, and the identifier, low byte first
abbrev pub is_present : Signal → Bool
is_present f = (length f.bytes == 10) && (f.tail == 0)

abbrev pub answered_id : Signal → List ℕ
answered_id f = reverse (drop 2 f.bytes)

abbrev pub tries : ℕ
tries = 4

-- How far it is: so many tries were in vain, and of one of them, if so, a damaged answer was heard; or it is over.
pub data Inventory (X : Type 0) : Type 0 where
  Tries : ℕ → Bool → Inventory X
  Told : Result X PollFault → Inventory X

-- A question which devices of a technology are there: its request, which whole answers are an answer to it, and what is
-- told: of one that answers so, where nobody does, and where several do.
pub record Presence (X : Type 0) : Type 0 where
  pub request : Signal
  pub shows : Signal → Bool
  pub one : Signal → X
  pub nobody : X
  pub crowd : X

-- It is asked again until an answer is whole or collided.
abbrev pub presence_step : {X : Type 0} → Presence X → Inventory X → Heard → Inventory X
presence_step p (Tries n damaged) (Whole g) = if p.shows g then Told (Ok (p.one g)) else Told (Err faults.BadAnswer)
presence_step p (Tries n damaged) (Collided g) = Told (Ok p.crowd)
presence_step p (Tries n damaged) Damaged = Tries (n + 1) true
presence_step p (Tries n damaged) Silent = Tries (n + 1) damaged
presence_step p (Told r) h = Told r

abbrev pub presence_ended : {X : Type 0} → Presence X → Inventory X → Option (Result X PollFault)
presence_ended p (Tries n damaged) = if nat_lt n tries then None
    else Some (if damaged then Err faults.Disturbed else Ok p.nobody)
presence_ended p (Told r) = Some r

-- Inventory of one device at most.
abbrev pub all_present : Presence Vcrowd
all_present = record {
  request = inventory_all;
  shows = is_present;
  one = λ g. One (answered_id g);
  nobody = Nobody;
  crowd = Crowd;
}

abbrev pub one_step : Inventory Vcrowd → Heard → Inventory Vcrowd
one_step s h = presence_step all_present s h

abbrev pub one_ended : Inventory Vcrowd → Option (Result Vcrowd PollFault)
one_ended s = presence_ended all_present s

-- Selection by an identifier. It tries again until anything but silence is heard.
abbrev pub pick_step : Inventory (Unit {0}) → Heard → Inventory (Unit {0})
pick_step (Tries n damaged) (Whole g) = if is_present g then Told (Ok tt) else Told (Err faults.BadAnswer)
pick_step (Tries n damaged) (Collided g) = Told (Ok tt)
pick_step (Tries n damaged) Damaged = Told (Ok tt)
pick_step (Tries n damaged) Silent = Tries (n + 1) damaged
pick_step (Told r) h = Told r

abbrev pub pick_ended : Inventory (Unit {0}) → Option (Result (Unit {0}) PollFault)
pick_ended (Tries n damaged) = if nat_lt n tries then None else Some (Err faults.NotFound)
pick_ended (Told r) = Some r

-- this request while there are tries left
abbrev pub asks_for : {X : Type 0} → Signal → Inventory X → Next
asks_for f (Tries n damaged) = if nat_lt n tries then Asks f else Over
asks_for f (Told r) = Over

abbrev pub asking_presence : {X : Type 0} → Presence X → Enquiry (Inventory X) X
asking_presence p = record {
  start = Tries 0 false;
  light = λ s. s;
  step = presence_step p;
  next = asks_for p.request;
  ended = presence_ended p;
}

abbrev pub inventory : Enquiry (Inventory Vcrowd) Vcrowd
inventory = asking_presence all_present

abbrev pub picking_v : List ℕ → Enquiry (Inventory (Unit {0})) (Unit {0})
picking_v id = record {
  start = Tries 0 false;
  light = λ s. s;
  step = pick_step;
  next = asks_for (inventory_of id);
  ended = pick_ended;
}

-- a listener that has heard a frame so many times in a row, where no far end replies
abbrev pub heard_again : {L : Type 0} → Machine L → Signal → L → ℕ → L
heard_again m f l zero = l
heard_again m f l (suc n) = stepped_by m (heard_again m f l n) f None

-- A listener of a request's technology that hands nothing over at it, and answers the same however often it hears it in
-- a row.
abbrev pub IsSteady : {L : Type 0} → Machine L → Signal → L → Type 0
IsSteady m f l =
    m.tech l ≡ f.tech → (n : ℕ) → (hands_over m (heard_again m f l n) f ≡ Untouched)
    × (answered_by m (heard_again m f l n) f None ≡ answered_by m l f None)

-- nobody answers this request
abbrev pub NoneAnswers : {L : Type 0} → Machine L → Signal → List L → Type 0
NoneAnswers m f ls = Each (λ l. answered_by m l f None ≡ None) ls

-- a listener whose answer to this request, if it gives one, is an answer to it; to inventory one of ten bytes
abbrev pub AnswersBy : (Signal → Bool) → {L : Type 0} → Machine L → Signal → L → Type 0
AnswersBy shows m f l = (g : Signal) → answered_by m l f None ≡ Some g → shows g ≡ true

abbrev pub AnswersWell : {L : Type 0} → Machine L → Signal → L → Type 0
AnswersWell m f l = AnswersBy is_present m f l

-- What was sought isn't there, or each of the tries met noise.
abbrev pub IsMissed : {L : Type 0} → Machine L → Signal → Air L → Air L → Type 0
IsMissed m f old new = NoneAnswers m f old.listeners ⊎ (tries ≤ noise (drop (length old.trace) new.trace))

-- Why such a question over steady listeners tells something else than one device or several: it is disturbed only where
-- each of its tries met noise, finds nobody only where nobody answers or each did, and meets no bad answer where each
-- answers well.
pub record HasCausePresence {X : Type 0} (p : Presence X) {L : Type 0} (m : Machine L) (old : Air L)
    (r : Result X PollFault) (new : Air L) : Type 0 where
  pub disturbed : r ≡ Err faults.Disturbed → tries ≤ noise (drop (length old.trace) new.trace)
  pub nobody : r ≡ Ok p.nobody → IsMissed m p.request old new
  pub bad : r ≡ Err faults.BadAnswer → Each (AnswersBy p.shows m p.request) old.listeners → ⊥

abbrev pub HasCauseV : {L : Type 0} → Machine L → Air L → Result Vcrowd PollFault → Air L → Type 0
HasCauseV m old r new = HasCausePresence all_present m old r new

-- Selection by an identifier finds nothing only where nobody answers, or each of its tries met noise; and it meets no
-- bad answer.
pub record MissesV {L : Type 0} (m : Machine L) (id : List ℕ) (old : Air L) (r : Result (Unit {0}) PollFault)
    (new : Air L) : Type 0 where
  pub not_found : r ≡ Err faults.NotFound → IsMissed m (inventory_of id) old new
  pub bad : r ≡ Err faults.BadAnswer → Each (AnswersWell m (inventory_of id)) old.listeners → ⊥

-- What each call tells in a lit field, over steady listeners.
abbrev pub TellsWhy : {L : Type 0} → Machine L → Air L → Result Vcrowd PollFault → Air L → Type 0
TellsWhy m old r new = old.lit ≡ true → Each (IsSteady m inventory_all) old.listeners → HasCauseV m old r new

abbrev pub TellsMiss : {L : Type 0} → Machine L → List ℕ → Air L → Result (Unit {0}) PollFault → Air L → Type 0
TellsMiss m id old r new = old.lit ≡ true → Each (IsSteady m (inventory_of id)) old.listeners → MissesV m id old r new
