-- What is answered to the commands on the open link, by what was heard and by the peer's server (NFC Forum SNEP 1.0,
-- LLCP 1.3; the words of the answers are this project's own).
use Rattle.std.specs.Prelude.{◌≡◌, ◌↔◌, ◌⊎◌, ℕ, ◌<◌, ◌≤◌, List, [], ◌∷◌, ◌++◌, length, map, true, false, if◌then◌else◌}
use Rattle.std.specs.Prelude.{Option, Some, None}
use Rattle.nfc_base.specs.LinkTurns.{bad_receptions}
use Rattle.nfc_base.specs.Trace.{noise, breaks}
use Rattle.nfc_base.specs.declared.event.Event.{Event}
use Rattle.nfc_base.specs.declared.carrier.EndCause.{EndCause}
use Rattle.nfc_base.specs.declared.carrier.EndCause.TheVariants as cause
use Rattle.air_core.specs.Conversation.{Note, Next, Over, receptions}
use Rattle.llcp_link.specs.Names.{found}
use Rattle.snep_core.specs.declared.fault.SnepFault.TheVariants as faults
use Rattle.snep_core.specs.declared.job.Refusal.TheVariants as refusals
use Rattle.snep_core.specs.declared.slot.Outcome.{Outcome}
use Rattle.snep_core.specs.declared.slot.Outcome.TheVariants as outcomes
use Rattle.snep_core.specs.Accord.{RefusesGet}
use Rattle.snep_core.specs.Links.{Told, Success, Rejected, Unanswered}
use Rattle.snep_core.specs.Payloads.{accepted_from}
use Rattle.snep_core.specs.declared.job.Ending.{Ending}
use Rattle.snep_core.specs.declared.job.Ending.TheVariants.{Done, Value, Sap, Refused}
use Rattle.snep_core.specs.declared.job.Job.{Job}
use Rattle.snep_core.specs.declared.job.Job.TheVariants.{Over as Ended}
use Rattle.snep_core.specs.Server.{Received}
use Rattle.snep_core.specs.Session.{value_of}
use Rattle.snep_core.specs.declared.job.OnSap.{OnSap}
use Rattle.snep_core.specs.declared.slot.Slot.{Slot}
use Rattle.snep_core.specs.Slots.{noted}
use Rattle.snep_core.specs.Talk.{Step, Ends, closes, sap_of_slot}
use Rattle.link_calls.specs.Asking.{LinkAsking, Does, Closes, Call, Finding, Getting, Putting, call_begins}
use Rattle.link_calls.specs.AtOnce.{all_staged, is_from, told_on}
use Rattle.link_calls.specs.declared.request.SlotMessage.{SlotMessage}
use Rattle.link_calls.specs.CallDue.{CallStanding, Comes, BrokenBy, call_stand, call_due}
use Rattle.link_calls.specs.ClosingDue.{ClosingStanding, Calls, Released, closing_stand, closing_due}
use Rattle.bench_world.specs.declared.entry.Answer.{Answer}
use Rattle.bench_world.specs.declared.entry.Answer.TheVariants as answers
use Rattle.bench_world.specs.declared.entry.Loss.TheVariants as losses
use Rattle.bench_world.specs.declared.entry.SlotDone.{SlotDone}
use Rattle.bench_world.specs.Links.{OpenLink, is_number}
use Rattle.bench_world.specs.World.{FarEnd}

-- what is due in a call on a link, by these numbers of PDUs and by what was heard, and where the call stands
abbrev pub due_on : OpenLink → List ℕ → Call → List Note → Next
due_on l joins call ns = call_due joins (call_begins l.client call) l.initiator ns

abbrev pub stands_on : OpenLink → List ℕ → Call → List Event → CallStanding
stands_on l joins call events = call_stand joins (call_begins l.client call) l.initiator (receptions events)

-- likewise where a link is closed
abbrev pub due_closing : OpenLink → List ℕ → List Note → Next
due_closing l joins ns = closing_due joins (closes l.client) l.initiator ns

abbrev pub stands_closing : OpenLink → List ℕ → List Event → ClosingStanding
stands_closing l joins events = closing_stand joins (closes l.client) l.initiator (receptions events)

-- nothing is due where no link is open
abbrev pub due_if : Option OpenLink → (OpenLink → Next) → Next
due_if None due = Over
due_if (Some l) due = due l

-- likewise by what is asked
abbrev pub due_asked : LinkAsking → OpenLink → List ℕ → List Note → Next
due_asked (Does call) l joins ns = due_on l joins call ns
due_asked Closes l joins ns = due_closing l joins ns

-- a link that is open, and what holds of it; and what holds where none is
abbrev pub IfLinked : Option OpenLink → (OpenLink → Type 0) → Type 0 → Type 0
IfLinked None Is Else = Else
IfLinked (Some l) Is Else = Is l

-- the answer that tells how a call ended that asks the server something
abbrev pub told_ending : Ending → Answer
told_ending Done = answers.Success
told_ending (Value v) = answers.Value v
told_ending (Sap n) = answers.Sap n
told_ending (Refused refusals.Reject) = answers.Reject
told_ending (Refused refusals.NotFound) = answers.NoValue
told_ending (Refused refusals.Excess) = answers.Excess
told_ending (Refused refusals.NotImplemented) = answers.NotImplemented

abbrev pub told_job : Job → Option Answer
told_job (Ended e) = Some (told_ending e)
told_job _ = None

-- What is told of messages that were put at once, each by the job of its slot, in their order: of one alone whether it
-- was taken, and of several which were. A message that isn't answered is told nothing of, and so is none of them then.
abbrev pub told_one : Outcome → Option Answer
told_one outcomes.Success = Some answers.Success
told_one outcomes.Rejected = Some answers.Reject
told_one outcomes.Staged = None
told_one outcomes.NoMessage = None

abbrev pub done_before : ℕ → Outcome → Option (List SlotDone) → Option (List SlotDone)
done_before slot outcomes.Success (Some ds) = Some (record { slot = slot; success = true } ∷ ds)
done_before slot outcomes.Rejected (Some ds) = Some (record { slot = slot; success = false } ∷ ds)
done_before slot o ds = None

abbrev pub all_done : List SlotMessage → List OnSap → Option (List SlotDone)
all_done [] jobs = Some []
all_done (w ∷ ws) jobs = done_before w.slot (told_on jobs w.slot) (all_done ws jobs)

abbrev pub told_several : Option (List SlotDone) → Option Answer
told_several None = None
told_several (Some ds) = Some (answers.Puts ds)

abbrev pub told_at_once : List SlotMessage → List OnSap → Option Answer
told_at_once [] jobs = told_several (all_done [] jobs)
told_at_once (w ∷ []) jobs = told_one (told_on jobs w.slot)
told_at_once (w ∷ v ∷ ws) jobs = told_several (all_done (w ∷ v ∷ ws) jobs)

-- a call of one job came to its end
abbrev pub told_alone : List OnSap → Option Answer
told_alone (x ∷ []) = told_job x.job
told_alone _ = None

-- the jobs of a call came to this
abbrev pub told_jobs : Call → List OnSap → Option Answer
told_jobs (Putting ws) jobs = told_at_once ws jobs
told_jobs call jobs = told_alone jobs

abbrev pub told_step : Call → Step → Option Answer
told_step call (Ends jobs l) = told_jobs call jobs
told_step call _ = None

-- the answer that tells of a link that ended by this cause
abbrev pub told_loss : EndCause → Option Answer
told_loss cause.FieldLost = Some (answers.LinkEnded losses.FieldLost)
told_loss cause.SixBad = Some (answers.LinkEnded losses.SixBad)
told_loss cause.Protocol = None
told_loss cause.Memory = None

-- the answer by where a call stands
abbrev pub told_call : Call → CallStanding → Option Answer
told_call call (Comes to i) = told_step call to
told_call call (BrokenBy why) = told_loss why
told_call call _ = None

abbrev pub told_closing : ClosingStanding → Option Answer
told_closing (Released to) = Some answers.Unlinked
told_closing (Calls (BrokenBy why)) = told_loss why
told_closing _ = None

abbrev pub told_asked : LinkAsking → OpenLink → List ℕ → List Event → Option Answer
told_asked (Does call) l joins events = told_call call (stands_on l joins call events)
told_asked Closes l joins events = told_closing (stands_closing l joins events)

-- a wait of it had six bad receptions
abbrev pub HadSixBad : LinkAsking → OpenLink → List ℕ → List Event → Type 0
HadSixBad (Does call) l joins events = stands_on l joins call events ≡ BrokenBy cause.SixBad
HadSixBad Closes l joins events = stands_closing l joins events ≡ Calls (BrokenBy cause.SixBad)

-- what its client's slots were told last, behind a call whose jobs came to this
abbrev pub slots_behind : Call → List OnSap → List Slot → List Slot
slots_behind (Putting ws) jobs slots = noted jobs (all_staged ws slots)
slots_behind call jobs slots = slots

-- the link behind a call: it is open where the call came to its end, and stands so then
abbrev pub link_behind : OpenLink → Call → CallStanding → Option OpenLink
link_behind l call (Comes (Ends jobs client) i) = Some
    (record { peer = l.peer; initiator = i; client = client; slots = slots_behind call jobs l.slots })
link_behind l call _ = None

-- behind a call on the link that was open, unless it was cut off
abbrev pub call_behind : Option Answer → Option OpenLink → Call → (OpenLink → CallStanding) → Option OpenLink
call_behind None o call stands = None
call_behind (Some answer) None call stands = None
call_behind (Some answer) (Some l) call stands = link_behind l call (stands l)

-- behind what was asked on it; a closing leaves none
abbrev pub asked_behind : LinkAsking → Option Answer → Option OpenLink → List ℕ → List Event → Option OpenLink
asked_behind (Does call) told o joins events = call_behind told o call (λ l. stands_on l joins call events)
asked_behind Closes told o joins events = None

-- How a command on the link was told: by where it stands. The link ended by a lost field exactly where a Break was
-- used, and without noise no wait has six bad receptions, nor any bad reception.
pub record IsTold (told : Option Answer) (events : List Event) (answer : Answer) : Type 0 where
  pub tells : told ≡ Some answer
  pub lost : (answer ≡ answers.LinkEnded losses.FieldLost) ↔ (0 < breaks events)
  pub noisy : answer ≡ answers.LinkEnded losses.SixBad → 0 < noise events
  pub calm : noise events ≡ 0 → bad_receptions events ≡ 0

-- the far end of a link's peer, of which something holds
abbrev pub OfEnd : (FarEnd → Type 0) → Option FarEnd → Type 0
OfEnd Is None = ⊥
OfEnd Is (Some end) = Is end

-- How messages that were put at once are told of, in their order: one alone by its answer, several each by what the
-- answer says of it; and none where the link ended.
abbrev pub told_put : Answer → Told
told_put answers.Success = Success
told_put answers.Reject = Rejected
told_put answer = Unanswered

abbrev pub told_done : SlotDone → Told
told_done d = if d.success then Success else Rejected

abbrev pub none_told : List SlotMessage → List Told
none_told [] = []
none_told (w ∷ ws) = Unanswered ∷ none_told ws

abbrev pub told_by_one : List SlotMessage → Answer → List Told
told_by_one (w ∷ []) answer = told_put answer ∷ []
told_by_one [] answer = []
told_by_one (w ∷ v ∷ ws) answer = none_told (w ∷ v ∷ ws)

abbrev pub told_each : List SlotMessage → Answer → List Told
told_each ws (answers.Puts ds) = map told_done ds
told_each ws answer = told_by_one ws answer

-- what a message adds that was told of so, of those that were put from its SAP
abbrev pub MessageAdds : List ℕ → ℕ → Told → List (List ℕ) → Type 0
MessageAdds m limit Success xs = (length m ≤ limit) × (xs ≡ m ∷ [])
MessageAdds m limit Rejected xs = (limit < length m) × (xs ≡ [])
MessageAdds m limit Unanswered xs = (xs ≡ []) ⊎ ((length m ≤ limit) × (xs ≡ m ∷ []))

abbrev pub EachAdds : List SlotMessage → ℕ → List Told → List Received → Type 0
EachAdds [] limit [] more = Unit {0}
EachAdds (w ∷ ws) limit (t ∷ ts) more = MessageAdds w.message limit t (accepted_from (sap_of_slot w.slot) more)
    × EachAdds ws limit ts more
EachAdds _ limit _ more = ⊥

-- What messages that were put at once add, told of so: of the SAP of each what it adds, and from no other SAP anything.
pub record AllAdd (ws : List SlotMessage) (end : FarEnd) (told : List Told) (more : List Received) : Type 0 where
  pub each : EachAdds ws end.service.limit told more
  pub others : (s : ℕ) → is_from s ws ≡ false → accepted_from s more ≡ []

-- What a get tells: of a key within the limit the value that the table has, of at most so many bytes, or why the table
-- refuses it, by the first cause.
abbrev pub GetTells : ℕ → List ℕ → FarEnd → Answer → Type 0
GetTells most key end (answers.Value v) = (length key ≤ end.service.limit) × (value_of key end.service.table ≡ Some v)
    × (length v ≤ most)
GetTells most key end answers.Reject = end.service.limit < length key
GetTells most key end answers.NotImplemented = (length key ≤ end.service.limit)
    × RefusesGet end.service.table most key faults.NotImplemented
GetTells most key end answers.NoValue = (length key ≤ end.service.limit)
    × RefusesGet end.service.table most key faults.NotFound
GetTells most key end answers.Excess = (length key ≤ end.service.limit)
    × RefusesGet end.service.table most key faults.Excess
GetTells most key end (answers.LinkEnded loss) = Unit {0}
GetTells most key end _ = ⊥

-- What a lookup tells: the SAP to which the peer has the name bound, 1 that of service discovery, 0 where it has none.
abbrev pub LookupTells : List ℕ → FarEnd → Answer → Type 0
LookupTells name end (answers.Sap n) = n ≡ found end.bound name
LookupTells name end (answers.LinkEnded loss) = Unit {0}
LookupTells name end _ = ⊥

-- What a call adds to what the peer's server accepted, by its answer; where it was cut off, at most this. Only what is
-- put adds something.
abbrev pub CallAdds : Call → FarEnd → Answer → List Received → Type 0
CallAdds (Putting ws) end answer more = AllAdd ws end (told_each ws answer) more
CallAdds call end answer more = more ≡ []

abbrev pub CallMayAdd : Call → FarEnd → List Received → Type 0
CallMayAdd (Putting ws) end more = AllAdd ws end (none_told ws) more
CallMayAdd call end more = more ≡ []

abbrev pub PeerAdds : LinkAsking → FarEnd → Answer → List Received → Type 0
PeerAdds (Does call) end answer more = CallAdds call end answer more
PeerAdds Closes end answer more = more ≡ []

abbrev pub PeerMayAdd : LinkAsking → FarEnd → List Received → Type 0
PeerMayAdd (Does call) end more = CallMayAdd call end more
PeerMayAdd Closes end more = more ≡ []

-- what its answer tells of the peer
abbrev pub CallTells : Call → FarEnd → Answer → Type 0
CallTells (Putting ws) end answer = Unit {0}
CallTells (Getting sap most key) end answer = GetTells most key end answer
CallTells (Finding name) end answer = LookupTells name end answer

abbrev pub PeerTells : LinkAsking → FarEnd → Answer → Type 0
PeerTells (Does call) end answer = CallTells call end answer
PeerTells Closes end answer = Unit {0}

-- the far end whose server accepted these too
abbrev pub accepting : List Received → FarEnd → FarEnd
accepting more l = record l { service = record l.service { accepted = l.service.accepted ++ more } }

abbrev pub accepting_if : List Received → Option FarEnd → Option FarEnd
accepting_if more None = None
accepting_if more (Some l) = Some (accepting more l)

-- what stays of far ends, where that of the peer with a number accepted these too
abbrev pub with_accepted : List Received → ℕ → List (Option ℕ) → List (Option FarEnd) → List (Option FarEnd)
with_accepted more n [] os = os
with_accepted more n (p ∷ ps) [] = []
with_accepted more n (p ∷ ps) (o ∷ os) = if is_number n p then accepting_if more o ∷ os
    else o ∷ with_accepted more n ps os
