-- The slots of a client: what was staged on each on its link, and how it ended (when a message is staged, and when it
-- is put, is this project's own).
use Rattle.std.specs.Prelude.{◌≡◌, ◌≤◌, ℕ, ◌+◌, ◌==◌, ◌||◌, Bool, true, false, List, [], ◌∷◌, length, map, replicate}
use Rattle.std.specs.Prelude.{set, get_or, Option, Some, None, Result, Ok, Err, if◌then◌else◌}
pub use Rattle.snep_core.specs.declared.slot.Slot.{Slot}
pub use Rattle.snep_core.specs.declared.slot.Slot.TheVariants.{NoMessage, Staged, Success, Rejected}
pub use Rattle.snep_core.specs.declared.slot.Outcome.{Outcome}
use Rattle.snep_core.specs.declared.slot.Outcome.TheVariants as outcomes
use Rattle.snep_core.specs.declared.fault.SnepFault.{SnepFault}
use Rattle.snep_core.specs.declared.fault.SnepFault.TheVariants as faults
use Rattle.snep_core.specs.Jobs.{Job, Over, Done, Refused}
use Rattle.snep_core.specs.Talk.{OnSap, Puts, TaskOn, client_sap}

-- eight slots, one for each SAP from which a client connects
abbrev pub slot_count : ℕ
slot_count = 8

-- nothing was staged yet
abbrev pub fresh_slots : List Slot
fresh_slots = replicate slot_count NoMessage

abbrev pub slot_at : List Slot → ℕ → Slot
slot_at slots k = get_or slots k NoMessage

-- what a slot tells
abbrev pub outcome_of : Slot → Outcome
outcome_of NoMessage = outcomes.NoMessage
outcome_of (Staged m) = outcomes.Staged
outcome_of Success = outcomes.Success
outcome_of Rejected = outcomes.Rejected

-- a message waits there
abbrev pub has_staged : Slot → Bool
has_staged (Staged m) = true
has_staged _ = false

-- some message waits
abbrev pub some_staged : List Slot → Bool
some_staged [] = false
some_staged (s ∷ ss) = has_staged s || some_staged ss

abbrev pub is_staged_at : List Slot → ℕ → Bool
is_staged_at slots k = has_staged (slot_at slots k)

abbrev pub staged_on : List Slot → ℕ → List ℕ → List Slot
staged_on slots k m = set slots k (Staged m)

-- no message waits
abbrev pub NoneStaged : List Slot → Type 0
NoneStaged [] = Unit {0}
NoneStaged (s ∷ ss) = (has_staged s ≡ false) × NoneStaged ss

-- a message that waits has at most 65,536 bytes
abbrev pub most_staged : ℕ
most_staged = 65536

abbrev pub FitsSlot : Slot → Type 0
FitsSlot (Staged m) = length m ≤ most_staged
FitsSlot _ = Unit {0}

abbrev pub AllFit : List Slot → Type 0
AllFit [] = Unit {0}
AllFit (s ∷ ss) = FitsSlot s × AllFit ss

-- The messages that wait, as puts in ascending order of slots: the first slot is that of this SAP.
abbrev pub put_with : ℕ → Slot → List TaskOn → List TaskOn
put_with sap (Staged m) more = record { sap = sap; task = Puts m } ∷ more
put_with sap _ more = more

abbrev pub puts_from : ℕ → List Slot → List TaskOn
puts_from sap [] = []
puts_from sap (s ∷ ss) = put_with sap s (puts_from (sap + 1) ss)

abbrev pub all_puts : List Slot → List TaskOn
all_puts slots = puts_from client_sap slots

-- the job on the connection from a SAP
abbrev pub job_from : ℕ → List OnSap → Option Job
job_from sap [] = None
job_from sap (x ∷ xs) = if x.sap == sap then Some x.job else job_from sap xs

-- what a job tells of the message that it puts
abbrev pub outcome_told : Option Job → Outcome
outcome_told (Some (Over Done)) = outcomes.Success
outcome_told (Some (Over (Refused r))) = outcomes.Rejected
outcome_told _ = outcomes.Staged

-- A message that waits is answered where its job is over.
abbrev pub answered_as : Outcome → List ℕ → Slot
answered_as outcomes.Success m = Success
answered_as outcomes.Rejected m = Rejected
answered_as _ m = Staged m

abbrev pub marked_as : Outcome → Slot → Slot
marked_as told (Staged m) = answered_as told m
marked_as told s = s

abbrev pub answered_by : Option Job → List ℕ → Slot
answered_by job m = answered_as (outcome_told job) m

abbrev pub marked : Option Job → Slot → Slot
marked job s = marked_as (outcome_told job) s

abbrev pub noted_from : ℕ → List OnSap → List Slot → List Slot
noted_from sap jobs [] = []
noted_from sap jobs (s ∷ ss) = marked (job_from sap jobs) s ∷ noted_from (sap + 1) jobs ss

-- the slots, by what the jobs of their SAPs came to so far
abbrev pub noted : List OnSap → List Slot → List Slot
noted jobs slots = noted_from client_sap jobs slots

-- a far end that is given up leaves no message that waits
abbrev pub dropped_one : Slot → Slot
dropped_one (Staged m) = NoMessage
dropped_one s = s

abbrev pub dropped : List Slot → List Slot
dropped slots = map dropped_one slots

-- A slot whose message was put alone, by how the call ended: the message was accepted; or rejected; a far end that is
-- given up leaves none; else it waits still.
abbrev pub put_left : Result Unit SnepFault → Slot → Slot
put_left (Ok u) s = Success
put_left (Err faults.Reject) s = Rejected
put_left (Err faults.NotFound) s = Rejected
put_left (Err faults.Excess) s = Rejected
put_left (Err faults.NotImplemented) s = Rejected
put_left (Err (faults.LinkEnded c)) s = s
put_left (Err faults.Memory) s = s
put_left (Err faults.BadPeer) s = NoMessage
put_left (Err faults.SlotBusy) s = s

-- the slots, once a message was put alone from the first
abbrev pub put_alone : Result Unit SnepFault → List ℕ → List Slot → List Slot
put_alone ended m slots = set slots 0 (put_left ended (Staged m))
