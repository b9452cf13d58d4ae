-- Messages that are put at once on an open link, each from the slot that it names: what is put, and what a peer that
-- serves as this project's server does accepts of it (NFC Forum SNEP 1.0; that a client has slots is this project's
-- own).
use Rattle.std.specs.Prelude.{◌≡◌, ◌<◌, ◌≤◌, ◌==◌, ◌||◌, ℕ, Bool, false, List, [], ◌∷◌, ◌++◌, length, Result, Ok, Err}
use Rattle.snep_core.specs.declared.fault.SnepFault.{SnepFault}
use Rattle.snep_core.specs.declared.fault.SnepFault.TheVariants.{LinkEnded, Memory}
use Rattle.snep_core.specs.declared.slot.Outcome.{Outcome}
use Rattle.snep_core.specs.declared.slot.Outcome.TheVariants as outcomes
use Rattle.snep_core.specs.Accord.{Accords, AddsFrom, PeerState, WasAdded, WasRejected}
use Rattle.snep_core.specs.Payloads.{accepted_from}
use Rattle.snep_core.specs.Server.{Received}
use Rattle.snep_core.specs.declared.slot.Slot.{Slot}
use Rattle.snep_core.specs.Slots.{NoneStaged, all_puts, fresh_slots, job_from, most_staged, slot_count, staged_on}
use Rattle.snep_core.specs.Slots.{outcome_told}
use Rattle.snep_core.specs.declared.job.OnSap.{OnSap}
use Rattle.snep_core.specs.Talk.{EndState, TaskOn, sap_of_slot}
use Rattle.link_calls.specs.declared.request.SlotMessage.{SlotMessage}

-- A client between two calls: of its eight slots none has a message that waits.
pub record IsAtRest (slots : List Slot) : Type 0 where
  pub eight : length slots ≡ slot_count
  pub none : NoneStaged slots

-- the messages wait on their slots
abbrev pub all_staged : List SlotMessage → List Slot → List Slot
all_staged [] slots = slots
all_staged (w ∷ ws) slots = all_staged ws (staged_on slots w.slot w.message)

-- their puts, in ascending order of slots, whatever order they are told in
abbrev pub puts_at_once : List SlotMessage → List TaskOn
puts_at_once ws = all_puts (all_staged ws fresh_slots)

-- one of them is put from this SAP
abbrev pub is_from : ℕ → List SlotMessage → Bool
is_from s [] = false
is_from s (w ∷ ws) = (sap_of_slot w.slot == s) || is_from s ws

-- each names one of eight slots, no two the same, and none is longer than 65,536 bytes
abbrev pub AreApart : List SlotMessage → Type 0
AreApart [] = Unit {0}
AreApart (w ∷ ws) = (w.slot < slot_count) × (length w.message ≤ most_staged) × (is_from (sap_of_slot w.slot) ws ≡ false)
    × AreApart ws

-- something holds of each slot and its message
abbrev pub EachOf : (ℕ → List ℕ → Type 0) → List SlotMessage → Type 0
EachOf Is [] = Unit {0}
EachOf Is (w ∷ ws) = Is w.slot w.message × EachOf Is ws

-- what is told of the message of a slot, by what the jobs came to
abbrev pub told_on : List OnSap → ℕ → Outcome
told_on jobs slot = outcome_told (job_from (sap_of_slot slot) jobs)

-- What a peer accepted of a message, by what is told of it: it was added, once, and is within the limit; it wasn't, and
-- is beyond it; or it isn't answered, and was added once or not at all.
abbrev pub PutSo : Outcome → ℕ → List ℕ → PeerState → List Received → Type 0
PutSo outcomes.Success sap m old now = WasAdded sap m old now
PutSo outcomes.Rejected sap m old now = WasRejected sap m old now
PutSo outcomes.Staged sap m old now = AddsFrom sap m old now
PutSo outcomes.NoMessage sap m old now = AddsFrom sap m old now

-- So it is of each of them. From no other SAP anything was added, and nothing was taken away.
pub record AllPut (told : ℕ → Outcome) (ws : List SlotMessage) (old new : PeerState) : Type 0 where
  pub each : EachOf (λ slot m. PutSo (told slot) (sap_of_slot slot) m old new.service.accepted) ws
  pub others : (s : ℕ) → is_from s ws ≡ false → accepted_from s new.service.accepted
      ≡ accepted_from s old.service.accepted
  pub more : List Received
  pub grew : new.service.accepted ≡ old.service.accepted ++ more

-- All were answered: the peer's limit, its table for get and its names are as before, and client and peer accord again.
pub record AllAnswered (jobs : List OnSap) (ws : List SlotMessage) (old : PeerState) (client : EndState)
    (new : PeerState) : Type 0 where
  pub puts : AllPut (told_on jobs) ws old new
  pub limit : new.service.limit ≡ old.service.limit
  pub table : new.service.table ≡ old.service.table
  pub bound : new.bound ≡ old.bound
  pub accords : Accords client new

-- What messages put at once did at a peer with which the client accorded, by what they came to: all were answered; or
-- the link ended, or memory was wanting, and each was added once or not at all.
abbrev pub ServedAtOnce : List SlotMessage → PeerState → Result (List OnSap) SnepFault → EndState → PeerState → Type 0
ServedAtOnce ws old (Ok jobs) client new = AllAnswered jobs ws old client new
ServedAtOnce ws old (Err (LinkEnded c)) client new = AllPut (λ slot. outcomes.Staged) ws old new
ServedAtOnce ws old (Err Memory) client new = AllPut (λ slot. outcomes.Staged) ws old new
ServedAtOnce ws old (Err _) client new = ⊥
