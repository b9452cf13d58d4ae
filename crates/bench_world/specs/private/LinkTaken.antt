-- The open link, taken out of the machines of a bench for a command, with its peer's end, and put back behind it.
use Rattle.std.specs.Prelude.{◌≡◌, ◌<◌, ℕ, Bool, true, false, if◌then◌else◌, List, [], ◌∷◌, map, length, get_or}
use Rattle.std.specs.Prelude.{slice_set, Option, Some, None, Result, Ok, Err}
use Rattle.nfc_base.specs.declared.carrier.EndCause.TheVariants as cause
use Rattle.snep_core.specs.declared.fault.SnepFault.{SnepFault}
use Rattle.snep_core.specs.declared.fault.SnepFault.TheVariants.{LinkEnded}
use Rattle.snep_core.specs.declared.job.Ending.{Ending}
use Rattle.snep_core.specs.declared.slot.Outcome.{Outcome}
use Rattle.snep_core.specs.declared.slot.Outcome.TheVariants as outcomes
use Rattle.snep_core.specs.declared.slot.Slot.{Slot}
use Rattle.snep_core.specs.Slots.{outcome_of, slot_at}
use Rattle.link_calls.specs.declared.request.LinkRequest.{LinkRequest}
use Rattle.link_calls.specs.declared.request.LinkRequest.TheVariants as requests
use Rattle.link_calls.specs.declared.request.SlotMessage.{SlotMessage}
use Rattle.bench_world.specs.declared.bench.ObeyFault.{ObeyFault}
use Rattle.bench_world.specs.declared.bench.ObeyFault.TheVariants.{Memory}
use Rattle.bench_world.specs.declared.entry.Answer.{Answer}
use Rattle.bench_world.specs.declared.entry.Answer.TheVariants as answers
use Rattle.bench_world.specs.declared.entry.Loss.TheVariants as losses
use Rattle.bench_world.specs.declared.entry.SlotDone.{SlotDone}
use Rattle.bench_world.specs.World.{FarEnd}
use Rattle.bench_world.specs.Calls.{told_ending}
use Rattle.bench_world.specs.Links.{OpenLink, accepted_by, end_numbered, with_last_ended}
use Rattle.bench_world.specs.Obeying.{Machines, under}

-- The link is this one, and this is the end of its peer, which stands at this place; both are gone from the machines.
pub record TakesLink (old : Machines) (place : ℕ) (l : OpenLink) (end : FarEnd) (new : Machines) : Type 0 where
  pub linked : old.link ≡ Some l
  pub number : (os : List (Option FarEnd)) → end_numbered l.peer old.peers.numbers os ≡ get_or os place None
  pub within : place < length old.ends
  pub above : get_or old.ends place None ≡ Some end
  pub left : new ≡ under (slice_set old.ends place None) old.peers None old.air

-- the end is at its place again, and the link is open
abbrev pub put_back : Machines → ℕ → FarEnd → OpenLink → Machines
put_back m place end l = under (slice_set m.ends place (Some end)) m.peers (Some l) m.air

-- the end is at its place again, and the link is over
abbrev pub put_down : Machines → ℕ → FarEnd → Machines
put_down m place end = under (slice_set m.ends place (Some end)) (with_last_ended (accepted_by (Some end)) m.peers)
    m.link m.air

-- what is told of a call that has no ending: by what its link ended, or that memory was wanting
abbrev pub fault_told : SnepFault → Result Answer ObeyFault
fault_told (LinkEnded cause.FieldLost) = Ok (answers.LinkEnded losses.FieldLost)
fault_told (LinkEnded cause.SixBad) = Ok (answers.LinkEnded losses.SixBad)
fault_told fault = Err Memory

-- What is told of messages that were put at once, once all were answered, by what their slots tell, in their order.
abbrev pub is_success : Outcome → Bool
is_success outcomes.Success = true
is_success _ = false

abbrev pub is_taken : List Slot → ℕ → Bool
is_taken slots slot = is_success (outcome_of (slot_at slots slot))

abbrev pub done_at : List Slot → SlotMessage → SlotDone
done_at slots w = record { slot = w.slot; success = is_taken slots w.slot }

abbrev pub told_slots : List SlotMessage → List Slot → Answer
told_slots [] slots = answers.Puts []
told_slots (w ∷ []) slots = if is_taken slots w.slot then answers.Success else answers.Reject
told_slots (w ∷ v ∷ ws) slots = answers.Puts (map (done_at slots) (w ∷ v ∷ ws))

-- what is told of a request that came to its end: of messages that were put at once each slot tells
abbrev pub told_request : LinkRequest → Ending → List Slot → Answer
told_request (requests.Put m) ending slots = told_ending ending
told_request (requests.Get slot most key) ending slots = told_ending ending
told_request (requests.Lookup name) ending slots = told_ending ending
told_request (requests.Run ws) ending slots = told_slots ws.now slots
told_request requests.Close ending slots = told_ending ending

-- a slot's message isn't answered yet; and once it is
abbrev pub not_yet : SlotMessage → SlotDone
not_yet w = record { slot = w.slot; success = false }

abbrev pub marked_done : List Slot → SlotDone → SlotDone
marked_done slots d = record { slot = d.slot; success = is_taken slots d.slot }

-- there is room to tell of each of several messages
abbrev pub HasRoom : LinkRequest → List SlotDone → Type 0
HasRoom (requests.Run ws) done = (length ws.now ≡ 1 → ⊥) → done ≡ map not_yet ws.now
HasRoom r done = Unit {0}
