-- What the calls of polling answer, by what was heard of their turns (NFC Forum Digital Protocol; ISO/IEC 14443-3;
-- ISO/IEC 15693-3; four presence requests and four tries are this project's own).
use Rattle.std.specs.Prelude.{◌≡◌, ◌↔◌, ◌⊎◌, ◌≤◌, ◌<◌, ℕ, ◌+◌, List, ◌++◌, length, drop, filter, slice_index, Bool}
use Rattle.std.specs.Prelude.{true, false, not, ◌&&◌, ◌||◌, nat_lt, nat_le, Option, Result, Ok, Err}
use Rattle.std.specs.List.{list_any}
use Rattle.nfc_base.specs.Bits.{bits}
use Rattle.nfc_base.specs.Signal.{Signal}
use Rattle.nfc_base.specs.Trace.{Turn, turns, heard, by_heard, is_clash, is_damage, is_silence}
use Rattle.nfc_base.specs.declared.event.Heard.{Heard}
use Rattle.air_core.specs.Joint.{same_bit}
use Rattle.air_core.specs.Turn.{Air}
use Rattle.nfca_poll.specs.declared.kind.Kind.{Kind}
use Rattle.nfca_poll.specs.declared.fault.Picked.{Picked}
use Rattle.nfca_poll.specs.declared.fault.PollFault.{PollFault}
use Rattle.nfca_poll.specs.declared.fault.PollFault.TheVariants as faults
use Rattle.nfca_poll.specs.declared.inventory.Vcrowd.{Vcrowd}
use Rattle.nfca_poll.specs.Levels.{cascades}
use Rattle.nfca_poll.specs.Calls.{Reading, Calls, Other, Sens, All, Slp, Sdd, Sel, call_of, is_slp}
use Rattle.nfca_poll.specs.Poll.{is_level, collision_bits, has_bit, is_one_byte}
use Rattle.nfca_poll.specs.Counting.{is_sens_req}
use Rattle.nfca_poll.specs.Rounds.{most_found}
use Rattle.nfca_poll.specs.Inventory.{Presence, all_present, is_present, tries}

-- the turns of a call, from one field to the next
abbrev pub turns_since : {L : Type 0} → Air L → Air L → List Turn
turns_since old new = turns (drop (length old.trace) new.trace)

-- a whole frame was heard that is no answer to what was asked; to an inventory one has ten bytes
abbrev pub is_strange : (Signal → Bool) → Option Heard → Bool
is_strange shows o = by_heard o (λ g. not (shows g)) (λ g. false) false false false

abbrev pub is_no_present : Option Heard → Bool
is_no_present o = is_strange is_present o

-- how many turns were silent, and how many damaged; whether there was a clash, or a frame that is no answer
abbrev pub silences : List Turn → ℕ
silences ts = length (filter (λ t. is_silence (heard t)) ts)

abbrev pub damages : List Turn → ℕ
damages ts = length (filter (λ t. is_damage (heard t)) ts)

abbrev pub has_clash : List Turn → Bool
has_clash ts = list_any (λ t. is_clash (heard t)) ts

abbrev pub has_strange : (Signal → Bool) → List Turn → Bool
has_strange shows ts = list_any (λ t. is_strange shows (heard t)) ts

abbrev pub has_no_present : List Turn → Bool
has_no_present ts = has_strange is_present ts

-- the turns that ask by SENS_REQ
abbrev pub presence_turns : List Turn → List Turn
presence_turns ts = filter (λ t. is_sens_req t.request) ts

-- What no device answers to SDD_REQ, whose known bits go before what was heard: a level of another length or with a
-- wrong check byte, or a clash behind its first 32 bits.
abbrev pub is_wrong_level : List Bool → Option Heard → Bool
is_wrong_level known o = by_heard o (λ g. not (is_level (known ++ bits g)))
    (λ g. nat_le collision_bits (length (known ++ bits g))) false false false

-- What none answers to SEL_REQ of a level: anything but one byte, which says that another level follows exactly where
-- this one says so; the third never does. Nor do two devices answer differently.
abbrev pub is_wrong_res : ℕ → List ℕ → Option Heard → Bool
is_wrong_res k l o =
    by_heard o (λ g. not (is_one_byte g && same_bit (has_bit (slice_index g.bytes 0) 0x04) (nat_lt k 3 && cascades l)))
    (λ g. true) false false false

abbrev pub is_wrong : Reading → Option Heard → Bool
is_wrong (Calls Sens) h = false
is_wrong (Calls All) h = false
is_wrong (Calls Slp) h = false
is_wrong (Calls (Sdd k known)) h = is_wrong_level known h
is_wrong (Calls (Sel k l)) h = is_wrong_res k l h
is_wrong Other h = false

-- a bad reception of SDD_REQ or SEL_REQ: a device had shown that it is there
abbrev pub is_missed : Reading → Option Heard → Bool
is_missed (Calls Sens) h = false
is_missed (Calls All) h = false
is_missed (Calls Slp) h = false
is_missed (Calls (Sdd k known)) h = is_silence h || is_damage h
is_missed (Calls (Sel k l)) h = is_silence h || is_damage h
is_missed Other h = false

abbrev pub has_wrong : List Turn → Bool
has_wrong ts = list_any (λ t. is_wrong (call_of t.request) (heard t)) ts

abbrev pub has_missed : List Turn → Bool
has_missed ts = list_any (λ t. is_missed (call_of t.request) (heard t)) ts

-- What a resolution answers, by its turns.
pub record TellsResolution (ts : List Turn) (r : Result Picked PollFault) : Type 0 where
  -- nobody exactly where four SENS_REQ were heard as silence
  pub nobody : r ≡ Err faults.Nobody ↔ silences (presence_turns ts) ≡ 4
  -- that it is disturbed exactly where a reception was bad once presence was shown
  pub disturbed : r ≡ Err faults.Disturbed ↔ has_missed ts ≡ true
  -- a bad answer exactly where one was heard that no device gives
  pub bad : r ≡ Err faults.BadAnswer ↔ has_wrong ts ≡ true

-- What a question which devices are there answers, by its turns.
pub record TellsPresence {X : Type 0} (p : Presence X) (ts : List Turn) (r : Result X PollFault) : Type 0 where
  -- nobody exactly where four turns were silent, and several devices exactly where a clash was heard
  pub nobody : r ≡ Ok p.nobody ↔ silences ts ≡ tries
  pub crowd : r ≡ Ok p.crowd ↔ has_clash ts ≡ true
  -- that it is disturbed exactly where four turns were silent or damaged, and not all of them silent
  pub disturbed : r ≡ Err faults.Disturbed ↔ (silences ts + damages ts ≡ tries) × (0 < damages ts)
  -- a bad answer exactly where a whole answer was none to this question
  pub bad : r ≡ Err faults.BadAnswer ↔ has_strange p.shows ts ≡ true

-- What an inventory answers, by its turns.
abbrev pub TellsInventory : List Turn → Result Vcrowd PollFault → Type 0
TellsInventory ts r = TellsPresence all_present ts r

-- something was heard that shows a device: an answer to an inventory, damage, or a clash
abbrev pub is_shown : Option Heard → Bool
is_shown o = by_heard o is_present (λ g. true) true false false

abbrev pub has_shown : List Turn → Bool
has_shown ts = list_any (λ t. is_shown (heard t)) ts

-- What a selection by an identifier of NFC-V answers, by its turns.
pub record TellsPickedV (ts : List Turn) (r : Result (Unit {0}) PollFault) : Type 0 where
  -- that the device is there exactly where it was shown, and that it isn't exactly where four turns were silent
  pub there : r ≡ Ok tt ↔ has_shown ts ≡ true
  pub not_found : r ≡ Err faults.NotFound ↔ silences ts ≡ tries
  -- a bad answer exactly where a whole answer hadn't ten bytes
  pub bad : r ≡ Err faults.BadAnswer ↔ has_no_present ts ≡ true

-- how many SLP_REQ were sent
abbrev pub sleeps : List Turn → ℕ
sleeps ts = length (filter (λ t. is_slp t.request) ts)

-- a bad answer of a call by rounds: one was heard that no device gives, or as many devices were put to sleep as a round
-- finds
abbrev pub IsBadRound : List Turn → Type 0
IsBadRound ts = (has_wrong ts ≡ true) ⊎ (most_found ≤ sleeps ts)

-- What a search for all devices answers, by its turns: it ends only behind four SENS_REQ that were heard as silence.
pub record TellsFound (ts : List Turn) (r : Result (List Picked) PollFault) : Type 0 where
  pub found : (devices : List Picked) → r ≡ Ok devices → 4 ≤ silences (presence_turns ts)
  pub bad : r ≡ Err faults.BadAnswer → IsBadRound ts

-- What a search for one device answers: that it isn't there only behind four such.
pub record TellsPicked (ts : List Turn) (r : Result Kind PollFault) : Type 0 where
  pub not_found : r ≡ Err faults.NotFound → 4 ≤ silences (presence_turns ts)
  pub bad : r ≡ Err faults.BadAnswer → IsBadRound ts
