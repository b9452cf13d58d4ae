-- What a client of a SNEP server does in one call, reply by reply: a function of what it asked and of what it was told
-- (NFC Forum LLCP 1.3 and SNEP 1.0; when it gives a far end up is this project's own).
use Rattle.std.specs.Prelude.{◌≡◌, ℕ, zero, suc, ◌+◌, ◌==◌, ◌&&◌, ◌||◌, eqb, nat_lt, not, is_none, Bool, true, false}
use Rattle.std.specs.Prelude.{List, [], ◌∷◌, ◌++◌, length, take, drop, Option, Some, None, if◌then◌else◌}
use Rattle.std.specs.List.{IsDistinct}
use Rattle.nfc_base.specs.Links.{FarStep, Stepped}
use Rattle.nfc_base.specs.Choosing.{first_number, later_numbers}
use Rattle.llcp_pdu.specs.declared.part.Part.TheVariants.{Connect}
use Rattle.llcp_link.specs.Serving.{Serving}
use Rattle.llcp_link.specs.Names.{own_params}
use Rattle.llcp_link.specs.State.{LlcState, OwnState, own_from, with_own}
use Rattle.llcp_link.specs.declared.standing.Standing.{Standing}
use Rattle.llcp_link.specs.declared.standing.Standing.TheVariants as stands
use Rattle.llcp_link.specs.Asking.{first_sap, acked_of, asked_from, disconnected_by, forgotten, found_in}
use Rattle.llcp_link.specs.Asking.{has_waiting_of, is_busy_by, is_open_by, looked_up, put_own, refusal_of, request}
use Rattle.llcp_link.specs.Asking.{standing_of, submitted_by}
use Rattle.llcp_link.specs.Taking.{taken_from}
use Rattle.llcp_link.specs.Giving.{given, after_giving}
use Rattle.snep_core.specs.declared.silent.NoService.{NoService}
use Rattle.snep_core.specs.declared.client.Stands.{Stands}
pub use Rattle.snep_core.specs.declared.job.OnSap.{OnSap}
use Rattle.snep_core.specs.Message.{continue_code, four_bytes, get_code, message_of_code, put_code}
use Rattle.snep_core.specs.Jobs.{Job, Begins, Waits, Sends, Asks, Collects, Looks, Closes, Over, Done, Sap, told_in}
use Rattle.snep_core.specs.Jobs.{has_byte}

-- a service with nothing to send
abbrev pub silent : Serving NoService
silent = record {
  begun = λ s _. s;
  brought = λ s _ _. s;
  due = λ _ _ _. None;
  sent = λ s _ _. s;
  renewed = λ s. s;
  keeps = λ a b. b ≡ a;
}

abbrev pub EndState : Type 0
EndState = LlcState NoService

-- the SAP of a client's end, and that of a server
abbrev pub client_sap : ℕ
client_sap = first_sap

abbrev pub server_sap : ℕ
server_sap = 4

-- replies that gave nothing, in a row, before a far end is given up
abbrev pub most_idle : ℕ
most_idle = 16

-- what a call asks for: a message is put; the value of a key, of at most so many bytes; the SAP of a name; the
-- connection ends
pub data Task : Type 0 where
  Puts : List ℕ → Task
  Gets : ℕ → List ℕ → Task
  Finds : List ℕ → Task
  Leaves : Task

-- a task, on the connection from a SAP
pub record TaskOn : Type 0 where
  pub sap : ℕ
  pub task : Task

-- What a call is about that goes on: its end, its jobs, each on a connection of its own, and how many replies in a row
-- gave nothing.
pub record Working : Type 0 where
  pub llc : EndState
  pub jobs : List OnSap
  pub idle : ℕ

-- the SAPs of jobs; no two of them are on one connection
abbrev pub saps : List OnSap → List ℕ
saps [] = []
saps (x ∷ xs) = x.sap ∷ saps xs

abbrev pub AreApart : List OnSap → Type 0
AreApart jobs = IsDistinct eqb (saps jobs)

-- what the job on the connection from a SAP came to by a reply; none where the far end is at fault there
pub record CameTo : Type 0 where
  pub sap : ℕ
  pub job : Option Job

-- A far end that is given up: what each job came to by its last reply, and the end, which has no connection of theirs
-- any more.
pub record GivenUp : Type 0 where
  pub came : List CameTo
  pub llc : EndState

-- a call goes on; all its jobs are over; or the far end is given up
pub data Step : Type 0 where
  Goes : Working → Step
  Ends : List OnSap → EndState → Step
  GivesUp : GivenUp → Step

-- one job, and that of the client's own SAP
abbrev pub one_on : ℕ → Job → List OnSap
one_on sap job = record { sap = sap; job = job } ∷ []

abbrev pub alone : Job → List OnSap
alone job = one_on client_sap job

-- where a call of these jobs begins
abbrev pub begun : EndState → List OnSap → Step
begun l jobs = Goes (record { llc = l; jobs = jobs; idle = 0 })

-- an end, and a job that goes on there; an end, and all jobs
pub record Ready : Type 0 where
  pub llc : EndState
  pub job : Job

pub record AllReady : Type 0 where
  pub llc : EndState
  pub jobs : List OnSap

abbrev pub ready_so : EndState → Job → Ready
ready_so l job = record { llc = l; job = job }

abbrev pub with_job : ℕ → Ready → (EndState → AllReady) → AllReady
with_job sap r more = record { llc = (more r.llc).llc; jobs = record { sap = sap; job = r.job } ∷ (more r.llc).jobs }

abbrev pub is_over : Job → Bool
is_over (Over e) = true
is_over _ = false

abbrev pub all_over : List OnSap → Bool
all_over [] = true
all_over (x ∷ xs) = is_over x.job && all_over xs

-- a connection to the server is asked for, unless one is there
abbrev pub connected : EndState → ℕ → EndState
connected l sap =
    if is_busy_by (own_from sap l.own) then l
    else record l {
      queue = l.queue ++ request (Connect server_sap sap (own_params l.miu l.window)) ∷ [];
      own = put_own (asked_from sap server_sap) l.own;
    }

-- the bytes of requests
abbrev pub put_bytes : List ℕ → List ℕ
put_bytes message = message_of_code put_code message

abbrev pub get_bytes : ℕ → List ℕ → List ℕ
get_bytes most key = message_of_code get_code (four_bytes most ++ key)

abbrev pub continue_bytes : List ℕ
continue_bytes = message_of_code continue_code []

-- the connection from a SAP
abbrev pub own_of : ℕ → EndState → Option OwnState
own_of sap l = own_from sap l.own

-- it is ended, where it is open
abbrev pub leaving : EndState → ℕ → Bool → Ready
leaving l sap true = ready_so (disconnected_by l (own_of sap l)) Closes
leaving l sap false = ready_so l (Over Done)

-- What a task puts into the queue before any payload, and its job: a connection is asked for, a name is looked up, or
-- the connection is ended.
abbrev pub opening : EndState → ℕ → Task → Ready
opening l sap (Puts message) = ready_so (connected l sap) (Begins None (put_bytes message))
opening l sap (Gets most key) = ready_so (connected l sap) (Begins (Some most) (get_bytes most key))
opening l sap (Finds name) = ready_so (looked_up l name) (Looks l.asked)
opening l sap Leaves = leaving l sap (is_open_by (own_of sap l))

-- Of several tasks all this is put there at once, in their order, before a unit of any is submitted.
abbrev pub all_opening : List TaskOn → EndState → AllReady
all_opening [] l = record { llc = l; jobs = [] }
all_opening (x ∷ xs) l = with_job x.sap (opening l x.sap x.task) (all_opening xs)

-- The call begins, or is over where nothing is to be done.
abbrev pub beginning : AllReady → Step
beginning r = if all_over r.jobs then Ends r.jobs r.llc else begun r.llc r.jobs

abbrev pub begins_all : EndState → List TaskOn → Step
begins_all l tasks = beginning (all_opening tasks l)

-- a call of one task, on the connection from a SAP; and from the client's first
abbrev pub begins_from : EndState → ℕ → Task → Step
begins_from l sap task = begins_all l (record { sap = sap; task = task } ∷ [])

abbrev pub begins : EndState → Task → Step
begins l task = begins_from l client_sap task

-- The end of connections from these SAPs, one after the other: a DISC of each that is open.
abbrev pub leave_from : List ℕ → List TaskOn
leave_from [] = []
leave_from (s ∷ ss) = record { sap = s; task = Leaves } ∷ leave_from ss

abbrev pub some_open : EndState → List ℕ → Bool
some_open l [] = false
some_open l (s ∷ ss) = is_open_by (own_of s l) || some_open l ss

-- the jobs of such a call at its end
abbrev pub all_done : List ℕ → List OnSap
all_done [] = []
all_done (s ∷ ss) = record { sap = s; job = Over Done } ∷ all_done ss

-- The eight SAPs from which a client's connections are; a call that ends all of them, and its end.
abbrev pub client_saps : List ℕ
client_saps = 32 ∷ 33 ∷ 34 ∷ 35 ∷ 36 ∷ 37 ∷ 38 ∷ 39 ∷ []

abbrev pub closes : EndState → Step
closes l = begins_all l (leave_from client_saps)

abbrev pub all_closed : List OnSap
all_closed = all_done client_saps

-- The SAP of a slot: eight slots have a SAP each.
abbrev pub sap_of_slot : ℕ → ℕ
sap_of_slot slot = client_sap + slot

-- a unit may be submitted on the connection from a SAP, and is
abbrev pub takes_more : EndState → ℕ → List ℕ → Bool
takes_more l sap unit = is_none (refusal_of (own_from sap l.own) unit)

abbrev pub submits : EndState → ℕ → List ℕ → EndState
submits l sap unit = submitted_by l unit (own_from sap l.own)

-- The most bytes of a unit, where the connection is open. An MIU of 0, which no CC says, takes none.
abbrev pub miu_of : Standing → Option ℕ
miu_of (stands.Open zero) = None
miu_of (stands.Open (suc n)) = Some (suc n)
miu_of _ = None

-- the first unit of a request goes out alone, until a continue comes, where it isn't all
abbrev pub behind_first : Option ℕ → List ℕ → Job
behind_first most [] = Sends most []
behind_first most (b ∷ bs) = Waits most (b ∷ bs)

abbrev pub begins_on : EndState → ℕ → Option ℕ → List ℕ → Option ℕ → Ready
begins_on l sap most bytes None = ready_so l (Begins most bytes)
begins_on l sap most bytes (Some miu) =
    if takes_more l sap (take miu bytes) then ready_so (submits l sap (take miu bytes))
    (behind_first most (drop miu bytes))
    else ready_so l (Begins most bytes)

-- The rest follows in units of at most so many bytes, as far as the window allows. There are at most as many units as
-- bytes.
abbrev pub sends_some : ℕ → ℕ → EndState → ℕ → Option ℕ → List ℕ → Ready
sends_some zero miu l sap most rest = ready_so l (Sends most rest)
sends_some (suc n) miu l sap most [] = ready_so l (Sends most [])
sends_some (suc n) miu l sap most (b ∷ bs) =
    if takes_more l sap (take miu (b ∷ bs))
    then sends_some n miu (submits l sap (take miu (b ∷ bs))) sap most (drop miu (b ∷ bs))
    else ready_so l (Sends most (b ∷ bs))

abbrev pub sends_on : EndState → ℕ → Option ℕ → List ℕ → Option ℕ → Ready
sends_on l sap most rest None = ready_so l (Sends most rest)
sends_on l sap most rest (Some miu) = sends_some (length rest) miu l sap most rest

-- the rest of a value is asked for by a continue
abbrev pub asks_on : EndState → ℕ → ℕ → List ℕ → Ready
asks_on l sap size have =
    if takes_more l sap continue_bytes then ready_so (submits l sap continue_bytes) (Collects size have)
    else ready_so l (Asks size have)

-- what a job submits before a payload is given
abbrev pub readied : EndState → ℕ → Job → Ready
readied l sap (Begins most bytes) = begins_on l sap most bytes (miu_of (standing_of (own_from sap l.own)))
readied l sap (Sends most rest) = sends_on l sap most rest (miu_of (standing_of (own_from sap l.own)))
readied l sap (Asks size have) = asks_on l sap size have
readied l sap job = ready_so l job

abbrev pub all_readied : List OnSap → EndState → AllReady
all_readied [] l = record { llc = l; jobs = [] }
all_readied (x ∷ xs) l = with_job x.sap (readied l x.sap x.job) (all_readied xs)

abbrev pub ready : Working → Working
ready w = record w { llc = (all_readied w.jobs w.llc).llc; jobs = (all_readied w.jobs w.llc).jobs }

-- a CC or DM is awaited
abbrev pub is_waiting : Standing → Bool
is_waiting stands.Waiting = true
is_waiting _ = false

-- whether a CC or DM is awaited on a connection, whether it is open, and how many units were acknowledged on it
abbrev pub stands_of : Option OwnState → Stands
stands_of o = record { waiting = is_waiting (standing_of o); open_ = is_open_by o; acked = acked_of o }

-- A reply gave something on a connection: a CC or DM that was awaited, or an acknowledgement.
abbrev pub gave_between : Stands → Stands → Bool
gave_between old new =
    if old.waiting && not new.waiting then true else (if old.open_ && new.open_ then not (new.acked == old.acked)
    else false)

abbrev pub gave_something : Option OwnState → Option OwnState → Bool
gave_something old new = gave_between (stands_of old) (stands_of new)

-- the units that were handed up on a connection; and the end once they are taken away
abbrev pub units_of : Option OwnState → List (List ℕ)
units_of None = []
units_of (Some o) = o.units

abbrev pub emptied_by : EndState → Option OwnState → EndState
emptied_by l None = l
emptied_by l (Some o) = record l { own = with_own (record o { units = [] }) l.own }

abbrev pub emptied : EndState → ℕ → EndState
emptied l sap = emptied_by l (own_from sap l.own)

-- A lookup is over once it was told, the end of a connection once its DM came.
abbrev pub found_so : ℕ → Option ℕ → Job
found_so tid None = Looks tid
found_so tid (Some sap) = Over (Sap sap)

abbrev pub finished : EndState → ℕ → Job → Job
finished l sap (Looks tid) = found_so tid (found_in tid l.lookups)
finished l sap Closes = if is_waiting (standing_of (own_from sap l.own)) then Closes else Over Done
finished l sap job = job

-- a job that needs its connection, and the far end refused this or closed it
abbrev pub is_there : Standing → Bool
is_there stands.Waiting = true
is_there (stands.Open miu) = true
is_there _ = false

abbrev pub needs : Job → Bool
needs (Looks tid) = false
needs Closes = false
needs (Over e) = false
needs _ = true

abbrev pub is_lost : EndState → ℕ → Job → Bool
is_lost l sap job = needs job && not (is_there (standing_of (own_from sap l.own)))

-- what a job comes to by what was heard; none where the far end is at fault
abbrev pub heard_so : EndState → ℕ → Option Job → Option Job
heard_so l sap None = None
heard_so l sap (Some job) = if is_lost l sap job then None else Some (finished l sap job)

-- by the units of a reply, which came while one of this end's waited to be given, or while none did
abbrev pub heard : Bool → EndState → ℕ → Job → Option Job
heard waiting l sap job = heard_so (emptied l sap) sap (told_in waiting job (units_of (own_from sap l.own)))

-- what each job comes to, from an end that gave its payload to the same once it took the reply
abbrev pub all_heard : EndState → EndState → List OnSap → List CameTo
all_heard old l [] = []
all_heard old l (x ∷ xs) =
    record { sap = x.sap; job = heard (has_waiting_of (own_from x.sap old.own)) l x.sap x.job } ∷ all_heard old l xs

-- all jobs, unless the far end is at fault at one of them
abbrev pub heard_with : ℕ → Option Job → Option (List OnSap) → Option (List OnSap)
heard_with sap (Some job) (Some more) = Some (record { sap = sap; job = job } ∷ more)
heard_with sap _ _ = None

abbrev pub all_well : List CameTo → Option (List OnSap)
all_well [] = Some []
all_well (x ∷ xs) = heard_with x.sap x.job (all_well xs)

abbrev pub as_they_came : List OnSap → List CameTo
as_they_came [] = []
as_they_came (x ∷ xs) = record { sap = x.sap; job = Some x.job } ∷ as_they_came xs

abbrev pub all_emptied : List OnSap → EndState → EndState
all_emptied [] l = l
all_emptied (x ∷ xs) l = all_emptied xs (emptied l x.sap)

-- a reply gave something to one of them: on its connection, or a unit with a byte
abbrev pub gave_any : EndState → EndState → List OnSap → Bool
gave_any old new [] = false
gave_any old new (x ∷ xs) =
    (gave_something (own_from x.sap old.own) (own_from x.sap new.own) || has_byte (units_of (own_from x.sap new.own)))
    || gave_any old new xs

abbrev pub idle_after : Bool → ℕ → ℕ
idle_after true n = 0
idle_after false n = n + 1

-- the connections of the jobs are forgotten with a far end that is given up
abbrev pub all_forgotten : List OnSap → EndState → EndState
all_forgotten [] l = l
all_forgotten (x ∷ xs) l = all_forgotten xs (forgotten l x.sap)

abbrev pub given_up : EndState → List OnSap → List CameTo → Step
given_up l jobs came = GivesUp (record { came = came; llc = all_forgotten jobs l })

abbrev pub goes_on : EndState → List OnSap → ℕ → Step
goes_on l jobs idle = if nat_lt idle most_idle then Goes (record { llc = l; jobs = jobs; idle = idle })
    else given_up l jobs (as_they_came jobs)

abbrev pub settled : EndState → List OnSap → ℕ → Step
settled l jobs idle = if all_over jobs then Ends jobs l else goes_on l jobs idle

abbrev pub call_behind : EndState → List OnSap → List CameTo → ℕ → Option (List OnSap) → Step
call_behind l jobs came idle None = given_up l jobs came
call_behind l jobs came idle (Some now) = settled (all_emptied jobs l) now idle

-- what a call is once its end gave a payload and took the reply
abbrev pub took : EndState → EndState → List OnSap → ℕ → Step
took old l jobs idle =
    call_behind l jobs (all_heard old l jobs) (idle_after (gave_any old l jobs) idle) (all_well (all_heard old l jobs))

-- What a call is once its payload, with so many PDUs in it, was answered.
abbrev pub replied_ready : ℕ → Working → List ℕ → Step
replied_ready n w reply = took (after_giving silent n w.llc) (taken_from silent (after_giving silent n w.llc) reply)
    w.jobs w.idle

abbrev pub replied : ℕ → Working → List ℕ → Step
replied n w reply = replied_ready n (ready w) reply

-- its next payload
abbrev pub payload : ℕ → Working → List ℕ
payload n w = given silent n (ready w).llc

-- A call came from one step to another as its far end made these steps, where each payload is the next one, with as
-- many PDUs in it as the next of these numbers says.
abbrev pub ComesTo : List ℕ → Step → List FarStep → Step → Type 0
ComesTo ns from [] to = to ≡ from
ComesTo ns (Goes w) (Stepped out reply ∷ did) to =
    (out ≡ payload (first_number ns) w) × ComesTo (later_numbers ns) (replied (first_number ns) w reply) did to
ComesTo ns _ _ to = ⊥

-- the numbers that are left behind these steps
abbrev pub numbers_behind : List FarStep → List ℕ → List ℕ
numbers_behind [] ns = ns
numbers_behind (x ∷ did) ns = numbers_behind did (later_numbers ns)
