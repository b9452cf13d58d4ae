-- What a job of a client comes to by the units that the server sends it (NFC Forum SNEP 1.0; that a far end is at fault
-- which sends anything else is this project's own).
use Rattle.std.specs.Prelude.{ℕ, ◌/◌, ◌==◌, ◌&&◌, nat_lt, Bool, true, false, List, [], ◌∷◌, ◌++◌, length, Option, Some}
use Rattle.std.specs.Prelude.{None, option_map, if◌then◌else◌}
use Rattle.snep_core.specs.declared.message.Answer.TheVariants as answers
pub use Rattle.snep_core.specs.declared.job.Job.{Job}
pub use Rattle.snep_core.specs.declared.job.Job.TheVariants.{Begins, Waits, Sends, Asks, Collects, Looks, Closes, Over}
pub use Rattle.snep_core.specs.declared.job.Ending.{Ending}
pub use Rattle.snep_core.specs.declared.job.Ending.TheVariants.{Done, Value, Sap, Refused}
use Rattle.snep_core.specs.declared.job.Refusal.{Refusal}
use Rattle.snep_core.specs.declared.job.Refusal.TheVariants as refusals
use Rattle.snep_core.specs.declared.hearing.Head.{Head}
use Rattle.snep_core.specs.Message.{answer_code, number}
use Rattle.snep_core.specs.First.{info_of}

-- the code of an answer, and how long its information is said to be
abbrev pub head_of : List ℕ → Option Head
head_of (v ∷ code ∷ a ∷ b ∷ c ∷ d ∷ info) = if v / 16 == 1 then Some (record { code = code; said = number a b c d })
    else None
head_of _ = None

-- no information is said, and none is there
abbrev pub is_bare : Head → List ℕ → Bool
is_bare h unit = (h.said == 0) && (length (info_of unit) == 0)

-- the code of an answer that refuses a request: a put only for its length, a get also for what the table has
abbrev pub get_refusal : Option ℕ → ℕ → Option Refusal
get_refusal None code = None
get_refusal (Some most) code =
    if code == answer_code answers.NotFound then Some refusals.NotFound
    else if code == answer_code answers.Excess then Some refusals.Excess
    else if code == answer_code answers.NotImplemented then Some refusals.NotImplemented
    else None

abbrev pub refusal_by_code : Option ℕ → ℕ → Option Refusal
refusal_by_code most code = if code == answer_code answers.Reject then Some refusals.Reject else get_refusal most code

abbrev pub ended_by : Refusal → Job
ended_by r = Over (Refused r)

-- A continue is awaited: it comes, or the request is refused.
abbrev pub waiting_told : Option ℕ → List ℕ → List ℕ → Option Head → Option Job
waiting_told most rest unit None = None
waiting_told most rest unit (Some h) =
    if is_bare h unit
    then (if h.code == answer_code answers.Continue then Some (Sends most rest)
    else option_map ended_by (refusal_by_code most h.code))
    else None

-- A value of so many bytes, of which these came: it is whole, or it goes on so. More bytes than were said are a fault.
abbrev pub value_told : ℕ → List ℕ → Job → Option Job
value_told size have more =
    if nat_lt size (length have) then None else (if length have == size then Some (Over (Value have)) else Some more)

-- Success. A put takes no information, a get no value longer than it said to be acceptable.
abbrev pub success_told : Option ℕ → Head → List ℕ → Option Job
success_told None h unit = if is_bare h unit then Some (Over Done) else None
success_told (Some most) h unit =
    if nat_lt most h.said then None else value_told h.said (info_of unit) (Asks h.said (info_of unit))

-- an answer is awaited
abbrev pub sent_told : Option ℕ → List ℕ → Option Head → Option Job
sent_told most unit None = None
sent_told most unit (Some h) =
    if h.code == answer_code answers.Success then success_told most h unit
    else (if is_bare h unit then option_map ended_by (refusal_by_code most h.code) else None)

-- What a job comes to by a unit. None where the far end is at fault: nothing was awaited, or something else.
abbrev pub told : Job → List ℕ → Option Job
told (Waits most rest) unit = waiting_told most rest unit (head_of unit)
told (Sends most []) unit = sent_told most unit (head_of unit)
told (Collects size have) unit = value_told size (have ++ unit) (Collects size (have ++ unit))
told _ unit = None

-- by several, in their order
abbrev pub told_on : Option Job → List (List ℕ) → Option Job
told_on None units = None
told_on (Some job) [] = Some job
told_on (Some job) (u ∷ us) = told_on (told job u) us

abbrev pub job_told : Job → List (List ℕ) → Option Job
job_told job units = told_on (Some job) units

-- What a job comes to by units, where one of this end's waited to be given as they came, or none did. While one waits,
-- each that comes is a fault: it answers what its sender doesn't have.
abbrev pub told_in : Bool → Job → List (List ℕ) → Option Job
told_in waiting job [] = Some job
told_in waiting job (u ∷ us) = if waiting then None else job_told job (u ∷ us)

-- one of them has a byte
abbrev pub has_byte : List (List ℕ) → Bool
has_byte [] = false
has_byte ([] ∷ us) = has_byte us
has_byte ((b ∷ bs) ∷ us) = true
