-- Polling by rounds: what a reader asks who finds all NFC-A devices, or selects one of them by its identifier (NFC
-- Forum Digital Protocol; ISO/IEC 14443-3). Rounds and their number are this project's own.
use Rattle.std.specs.Prelude.{◌≡◌, ℕ, ◌+◌, List, [], ◌∷◌, ◌++◌, length, Bool, true, nat_eq, nat_lt, if◌then◌else◌}
use Rattle.std.specs.Prelude.{Option, Some, None, Result, Ok, Err, Vec}
use Rattle.std.specs.List.{list_any}
use Rattle.std.specs.Cmp.Lexicographic.{pointwise}
use Rattle.nfc_base.specs.declared.event.Heard.{Heard}
use Rattle.air_core.specs.Conversation.{Next, Over, LightUp, Asks}
use Rattle.air_core.specs.Turn.{Air}
use Rattle.nfca_poll.specs.declared.kind.Kind.{Kind}
use Rattle.nfca_poll.specs.declared.fault.Picked.{Picked}
use Rattle.nfca_poll.specs.declared.fault.PollFault.{PollFault}
use Rattle.nfca_poll.specs.declared.fault.PollFault.TheVariants as faults
use Rattle.nfca_poll.specs.Levels.{identifier}
use Rattle.nfca_poll.specs.Calls.{Slp, call_frame}
use Rattle.nfca_poll.specs.Poll.{Seek, Calling, Asking, Selecting, Ended, Nobody, Disturbed, BadAnswer, Found}
use Rattle.nfca_poll.specs.Poll.{seek_step, seek_next}
use Rattle.nfca_poll.specs.Enquiry.{Enquiry}

-- how many rounds a call makes, and how many devices a round finds
abbrev pub most_rounds : ℕ
most_rounds = 4

abbrev pub most_found : ℕ
most_found = 256

-- What a call is after: whether it ends with a device that is selected, and what it answers once nobody else is there,
-- by the devices found in the round.
pub record Aim (X : Type 0) : Type 0 where
  pub takes : Picked → Option X
  pub nobody : List Picked → Result X PollFault

-- How far a call is: a reset is due for this round; a resolution, with the devices that this round found, in order;
-- SLP_REQ is due; it is over. Rounds count from 1.
pub data Search (X : Type 0) : Type 0 where
  Begins : ℕ → Search X
  Seeks : ℕ → List Picked → Seek → Search X
  Sends : ℕ → List Picked → Search X
  Told : Result X PollFault → Search X

abbrev pub is_same : List ℕ → List ℕ → Bool
is_same a b = pointwise nat_eq a b

-- one of the devices has this identifier
abbrev pub has_found : List Picked → List ℕ → Bool
has_found found id = list_any (λ p. is_same p.id id) found

-- What a round does, for an aim and what becomes of a round that is disturbed.
module _ {X : Type 0} (aim : Aim X) (given_up : ℕ → Search X) where
  -- A device that isn't the one the call is after: where it was found before in this round, the round is disturbed;
  -- else it is put to sleep.
  abbrev pub met : ℕ → List Picked → Picked → Search X
  met round found p =
      if has_found found p.id then given_up round
      else if nat_lt (length found) most_found then Sends round (found ++ p ∷ [])
      else Told (Err faults.BadAnswer)

  abbrev pub met_or_taken : ℕ → List Picked → Picked → Option X → Search X
  met_or_taken round found p (Some x) = Told (Ok x)
  met_or_taken round found p None = met round found p

  -- what a resolution has come to
  abbrev pub sought : ℕ → List Picked → Seek → Search X
  sought round found (Calling n) = Seeks round found (Calling n)
  sought round found (Asking done known) = Seeks round found (Asking done known)
  sought round found (Selecting done l) = Seeks round found (Selecting done l)
  sought round found (Ended Nobody) = Told (aim.nobody found)
  sought round found (Ended Disturbed) = given_up round
  sought round found (Ended BadAnswer) = Told (Err faults.BadAnswer)
  sought round found (Ended (Found ls kind)) =
      let p : Picked = record { id = identifier ls; kind = kind } in
      met_or_taken round found p (aim.takes p)

  -- A round goes on by what was heard. What is heard of SLP_REQ is ignored.
  abbrev pub search_step : Search X → Heard → Search X
  search_step (Begins round) h = Begins round
  search_step (Seeks round found s) h = sought round found (seek_step s h)
  search_step (Sends round found) h = Seeks round found (Calling 0)
  search_step (Told r) h = Told r

module _ {X : Type 0} (aim : Aim X) where
  -- a reset begins a round
  abbrev pub search_lit : Search X → Search X
  search_lit (Begins round) = Seeks round [] (Calling 0)
  search_lit (Seeks round found s) = Seeks round found s
  search_lit (Sends round found) = Sends round found
  search_lit (Told r) = Told r

  abbrev pub search_next : Search X → Next
  search_next (Begins round) = LightUp
  search_next (Seeks round found s) = seek_next s
  search_next (Sends round found) = Asks (call_frame Slp)
  search_next (Told r) = Over

  abbrev pub search_ended : Search X → Option (Result X PollFault)
  search_ended (Begins round) = None
  search_ended (Seeks round found s) = None
  search_ended (Sends round found) = None
  search_ended (Told r) = Some r

  abbrev pub by_rounds : (ℕ → Search X) → Enquiry (Search X) X
  by_rounds given_up = record {
    start = Begins 1;
    light = search_lit;
    step = search_step aim given_up;
    next = search_next;
    ended = search_ended;
  }

-- A call by rounds: a round that is disturbed is given up, and the last one ends the call.
abbrev pub next_round : {X : Type 0} → ℕ → Search X
next_round round = if nat_lt round most_rounds then Begins (round + 1) else Told (Err faults.Disturbed)

abbrev pub searching : {X : Type 0} → Aim X → Enquiry (Search X) X
searching aim = by_rounds aim next_round

-- all devices, in the order in which they are found
abbrev pub all_devices : Aim (List Picked)
all_devices = record { takes = λ p. None; nobody = λ found. Ok found }

-- the device with this identifier
abbrev pub device_of : List ℕ → Aim Kind
device_of id = record {
  takes = λ p. if is_same p.id id then Some p.kind else None;
  nobody = λ found. Err faults.NotFound;
}

abbrev pub finding : Enquiry (Search (List Picked)) (List Picked)
finding = searching all_devices

abbrev pub picking : List ℕ → Enquiry (Search Kind) Kind
picking id = searching (device_of id)

-- the devices that a call answers, as a list
abbrev pub listed : {Z : Type 0} → Result (Vec Picked Z) PollFault → Result (List Picked) PollFault
listed (Ok devices) = Ok devices.items
listed (Err fault) = Err fault

-- A call by rounds leaves the field lit, unless it lost it or memory was wanting.
abbrev pub LeavesLit : {L X : Type 0} → Result X PollFault → Air L → Type 0
LeavesLit (Ok x) new = new.lit ≡ true
LeavesLit (Err faults.Nobody) new = new.lit ≡ true
LeavesLit (Err faults.Disturbed) new = new.lit ≡ true
LeavesLit (Err faults.FieldLost) new = Unit {0}
LeavesLit (Err faults.Memory) new = Unit {0}
LeavesLit (Err faults.NotFound) new = new.lit ≡ true
LeavesLit (Err faults.BadAnswer) new = new.lit ≡ true
