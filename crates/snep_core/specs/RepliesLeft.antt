-- How many replies a call of a client may still hear, whatever a far end sends, and that it comes to an end (NFC Forum
-- LLCP 1.3 and SNEP 1.0; when a far end is given up is this project's own).
use Rattle.std.specs.Prelude.{◌≡◌, ◌<◌, ◌≤◌, ℕ, ◌+◌, ◌-◌, ◌*◌, eqb, List, [], ◌∷◌, length, Option, Some, None}
use Rattle.std.specs.List.{AllByRecursion, IsDistinct}
use Rattle.nfc_base.specs.Links.{FarStep}
use Rattle.llcp_conn.specs.Conn.{count_end}
use Rattle.llcp_link.specs.Asking.{acked_of}
use Rattle.llcp_link.specs.State.{OwnState, own_from}
use Rattle.llcp_link.specs.Waning.{pending}
use Rattle.snep_core.specs.Jobs.{Job, Begins, Waits, Sends, Asks, Collects, Looks, Closes, Over}
use Rattle.snep_core.specs.Talk.{AreApart, EndState, Goes, OnSap, Step, TaskOn, ComesTo, Working, begins_all, most_idle}
use Rattle.snep_core.specs.Talk.{replied, saps}

-- an answer, or the first unit of a value, the continue that asks for the rest, and its bytes
abbrev pub answer_left : Option ℕ → ℕ
answer_left None = 1
answer_left (Some most) = most + 2

-- what is still to come: bytes to submit, a continue, the answer
abbrev pub job_left : Job → ℕ
job_left (Begins most bytes) = length bytes + 1 + answer_left most
job_left (Waits most rest) = length rest + 1 + answer_left most
job_left (Sends most rest) = length rest + answer_left most
job_left (Asks size have) = size - length have + 1
job_left (Collects size have) = size - length have
job_left (Looks tid) = 0
job_left Closes = 0
job_left (Over e) = 0

-- and on its connection: an answer that is awaited, acknowledgements
abbrev pub to_come : Option OwnState → Job → ℕ
to_come own job = pending own + job_left job

-- for all jobs
abbrev pub all_to_come : EndState → List OnSap → ℕ
all_to_come l [] = 0
all_to_come l (x ∷ xs) = to_come (own_from x.sap l.own) x.job + all_to_come l xs

-- The replies that a call may still hear. One that gives something may come behind others that give nothing, 16 of
-- which in a row give the far end up.
abbrev pub replies_left : Working → ℕ
replies_left w = 17 * all_to_come w.llc w.jobs + (most_idle - w.idle)

-- the units acknowledged on a connection are counted modulo 2 ^ 32
abbrev pub IsBelowCountEnd : EndState → ℕ → Type 0
IsBelowCountEnd l sap = acked_of (own_from sap l.own) < count_end

-- what holds of a call that goes on
pub record IsUnderWay (w : Working) : Type 0 where
  pub apart : AreApart w.jobs
  pub counted : AllByRecursion (IsBelowCountEnd w.llc) (saps w.jobs)
  pub idle : w.idle < most_idle

-- the SAPs of tasks
abbrev pub task_saps : List TaskOn → List ℕ
task_saps [] = []
task_saps (x ∷ xs) = x.sap ∷ task_saps xs

-- A call of any number of tasks, each on a connection of its own, begins under way.
abbrev pub CallsBegin : Type 0
CallsBegin =
    (l : EndState) (tasks : List TaskOn) (w : Working) → IsDistinct eqb (task_saps tasks)
    → AllByRecursion (IsBelowCountEnd l) (task_saps tasks) → begins_all l tasks ≡ Goes w → IsUnderWay w

-- Whatever is replied: where the call goes on, fewer replies are left.
abbrev pub RepliesFall : Type 0
RepliesFall =
    (w : Working) (n : ℕ) (reply : List ℕ) (next : Working) → IsUnderWay w → replied n w reply ≡ Goes next
    → IsUnderWay next × (replies_left next < replies_left w)

-- So a call hears at most as many replies as were left where it began, however many PDUs its payloads have.
abbrev pub CallsEnd : Type 0
CallsEnd =
    (w : Working) (ns : List ℕ) (did : List FarStep) (to : Step) → IsUnderWay w → ComesTo ns (Goes w) did to
    → length did ≤ replies_left w
