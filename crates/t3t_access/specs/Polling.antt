-- Finding Type 3 tags by SENSF_REQ of one time slot (NFC Forum Digital Protocol; JIS X 6319-4). Four tries are this
-- project's own.
use Rattle.std.specs.Prelude.{◌≡◌, ◌↔◌, ◌⊎◌, ◌≤◌, ℕ, ◌+◌, List, [], ◌∷◌, length, drop, take, get_or, Bool, true, false}
use Rattle.std.specs.Prelude.{not, ◌==◌, ◌&&◌, nat_eq, if◌then◌else◌, Option, Some, None, Result, Ok, Err}
use Rattle.std.specs.List.{list_any}
use Rattle.std.specs.Cmp.Lexicographic.{pointwise}
use Rattle.nfc_base.specs.Signal.{Signal, whole_f}
use Rattle.nfc_base.specs.declared.event.Heard.{Heard}
use Rattle.nfc_base.specs.declared.event.Heard.TheVariants.{Whole, Collided, Damaged, Silent}
use Rattle.nfc_base.specs.Trace.{Turn, heard, by_heard, noise}
use Rattle.air_core.specs.World.{Machine, answered_by}
use Rattle.air_core.specs.Turn.{Air}
use Rattle.nfca_poll.specs.declared.fault.PollFault.{PollFault}
use Rattle.nfca_poll.specs.declared.fault.PollFault.TheVariants as faults
use Rattle.nfca_poll.specs.Crowd.{Each}
use Rattle.nfca_poll.specs.Enquiry.{Enquiry}
use Rattle.nfca_poll.specs.Inventory.{Inventory, Tries, Told, Presence, tries, asks_for, asking_presence, pick_ended}
use Rattle.nfca_poll.specs.Inventory.{IsSteady, AnswersBy, HasCausePresence}
use Rattle.nfca_poll.specs.ByHeard.{silences, has_strange, TellsPresence}
use Rattle.t3t_access.specs.declared.polling.Fcrowd.{Fcrowd}
use Rattle.t3t_access.specs.declared.polling.Fcrowd.TheVariants.{Nobody, One, Crowd}

-- SENSF_REQ for the system code of tags of the NFC Forum, with no further request
abbrev pub sensf_req : Signal
sensf_req = whole_f (0x06 ∷ 0x00 ∷ 0x12 ∷ 0xFC ∷ 0x00 ∷ 0x00 ∷ [])

-- SENSF_RES has eighteen bytes: its length, its code, the identifier NFCID2, and eight bytes behind it
abbrev pub is_sensf_res : Signal → Bool
is_sensf_res g = ((length g.bytes == 18) && (g.tail == 0)) && ((get_or g.bytes 0 0 == 18) && (get_or g.bytes 1 0 == 1))

abbrev pub nfcid2 : Signal → List ℕ
nfcid2 g = take 8 (drop 2 g.bytes)

-- SENSF_RES of the tag with an identifier
abbrev pub is_of : List ℕ → Signal → Bool
is_of id g = pointwise nat_eq (nfcid2 g) id

-- which Type 3 tags are there
abbrev pub all_sensed : Presence Fcrowd
all_sensed = record {
  request = sensf_req;
  shows = is_sensf_res;
  one = λ g. One (nfcid2 g);
  nobody = Nobody;
  crowd = Crowd;
}

abbrev pub polling_f : Enquiry (Inventory Fcrowd) Fcrowd
polling_f = asking_presence all_sensed

-- what a whole answer tells who seeks one tag
abbrev pub judged_res : List ℕ → Signal → Result (Unit {0}) PollFault
judged_res id g = if is_sensf_res g then (if is_of id g then Ok tt else Err faults.NotFound) else Err faults.BadAnswer

-- Selection by an identifier. It tries again until anything but silence is heard.
abbrev pub pick_step : List ℕ → Inventory (Unit {0}) → Heard → Inventory (Unit {0})
pick_step id (Tries n damaged) (Whole g) = Told (judged_res id g)
pick_step id (Tries n damaged) (Collided g) = Told (Ok tt)
pick_step id (Tries n damaged) Damaged = Told (Ok tt)
pick_step id (Tries n damaged) Silent = Tries (n + 1) damaged
pick_step id (Told r) h = Told r

abbrev pub picking_f : List ℕ → Enquiry (Inventory (Unit {0})) (Unit {0})
picking_f id = record {
  start = Tries 0 false;
  light = λ s. s;
  step = pick_step id;
  next = asks_for sensf_req;
  ended = pick_ended;
}

-- what was heard of a turn shows this tag, or may: its SENSF_RES, damage, or a clash
abbrev pub is_shown : List ℕ → Option Heard → Bool
is_shown id o = by_heard o (λ g. is_sensf_res g && is_of id g) (λ g. true) true false false

-- it is SENSF_RES of this tag, or of another one
abbrev pub is_res_of : List ℕ → Option Heard → Bool
is_res_of id o = by_heard o (λ g. is_sensf_res g && is_of id g) (λ g. false) false false false

abbrev pub is_another : List ℕ → Option Heard → Bool
is_another id o = by_heard o (λ g. is_sensf_res g && not (is_of id g)) (λ g. false) false false false

abbrev pub has_shown : List ℕ → List Turn → Bool
has_shown id ts = list_any (λ t. is_shown id (heard t)) ts

abbrev pub has_res_of : List ℕ → List Turn → Bool
has_res_of id ts = list_any (λ t. is_res_of id (heard t)) ts

abbrev pub has_another : List ℕ → List Turn → Bool
has_another id ts = list_any (λ t. is_another id (heard t)) ts

-- What a search answers, by its turns.
pub record TellsPolledF (ts : List Turn) (r : Result Fcrowd PollFault) : Type 0 where
  -- nobody, several, disturbed and a bad answer exactly as any such question
  pub presence : TellsPresence all_sensed ts r
  -- one tag exactly where its SENSF_RES was heard
  pub one : (id : List ℕ) → (r ≡ Ok (One id) ↔ has_res_of id ts ≡ true)

-- What a selection answers, by its turns.
pub record TellsPickedF (id : List ℕ) (ts : List Turn) (r : Result (Unit {0}) PollFault) : Type 0 where
  -- that the tag is there exactly where it was shown, or may have been
  pub there : r ≡ Ok tt ↔ has_shown id ts ≡ true
  -- that it isn't exactly where four turns were silent, or another one alone was heard
  pub not_found : r ≡ Err faults.NotFound ↔ ((silences ts ≡ tries) ⊎ (has_another id ts ≡ true))
  -- a bad answer exactly where a whole answer was no SENSF_RES
  pub bad : r ≡ Err faults.BadAnswer ↔ has_strange is_sensf_res ts ≡ true

-- a listener that doesn't answer as the tag with this identifier
abbrev pub IsNotOf : {L : Type 0} → Machine L → List ℕ → L → Type 0
IsNotOf m id l = (g : Signal) → answered_by m l sensf_req None ≡ Some g → is_of id g ≡ false

-- Over steady listeners a selection finds nothing only where none is the tag that is sought, or each of its tries met
-- noise; and it meets no bad answer.
pub record MissesF {L : Type 0} (m : Machine L) (id : List ℕ) (old : Air L) (r : Result (Unit {0}) PollFault)
    (new : Air L) : Type 0 where
  pub not_found : r ≡ Err faults.NotFound → Each (IsNotOf m id) old.listeners
      ⊎ (tries ≤ noise (drop (length old.trace) new.trace))
  pub bad : r ≡ Err faults.BadAnswer → Each (AnswersBy is_sensf_res m sensf_req) old.listeners → ⊥

-- What each call tells in a lit field, over steady listeners.
abbrev pub TellsWhyF : {L : Type 0} → Machine L → Air L → Result Fcrowd PollFault → Air L → Type 0
TellsWhyF m old r new = old.lit ≡ true → Each (IsSteady m sensf_req) old.listeners
    → HasCausePresence all_sensed m old r new

abbrev pub TellsMissF : {L : Type 0} → Machine L → List ℕ → Air L → Result (Unit {0}) PollFault → Air L → Type 0
TellsMissF m id old r new = old.lit ≡ true → Each (IsSteady m sensf_req) old.listeners → MissesF m id old r new
