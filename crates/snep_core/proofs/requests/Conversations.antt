-- One request on the connection from a SAP, unit by unit: where the two ends stand, and how they come from one phase to another.
use Rattle.std.proofs.Common.{◌≡◌, ◌<◌, ◌≤◌, ◌⊎◌, ◌||◌, Bool, true, false, ℕ, List, [], ◌∷◌, ◌++◌, length, Option, Some, None, is_some, refl, sym, ap}
use Rattle.llcp_conn.specs.Conn.{first}
use Rattle.snep_core.specs.Accord.{IsPaired, Numbers, is_some_of}
use Rattle.snep_core.specs.Jobs.{Job, job_told, told_in}
use Rattle.snep_core.specs.Server.{Received, ServerState, serving}
use Rattle.snep_core.specs.Session.{Offer, Session, fresh_session}
use Rattle.snep_core.specs.Talk.{EndState, finished, is_over}
use Rattle.snep_core.proofs.connections.OnConnection.{conn_at, on_so, readied_on}
use Rattle.snep_core.proofs.sessions.Served.{Serves}

-- Phases, and at each: the client's job, the units that it is still to give, and those that it heard and didn't take up; the server's
-- session, and what is accepted; and what is true there.
pub record Conversation : Type 1 where
  pub Phase : Type 0
  pub job_at : Phase → Job
  pub queue_at : Phase → List (List ℕ)
  pub units_at : Phase → List (List ℕ)
  pub session_at : Phase → Session
  pub accepted_at : Phase → List Received
  pub Holds : Phase → Type 0

-- Where an answer waits at the client, or its job is over, the server owes no acknowledgement.
abbrev pub Settled : (c : Conversation) → c.Phase → Numbers → Type 0
Settled c ph n = (is_some_of (c.units_at ph) || is_over (c.job_at ph)) ≡ true → n.asked ≡ []

abbrev pub AllWithin : ℕ → List (List ℕ) → Type 0
AllWithin miu [] = Unit {0}
AllWithin miu (u ∷ us) = (length u ≤ miu) × AllWithin miu us

module _ (sap limit : ℕ) (table : List Offer) (c : Conversation) where
  -- the server stands so
  abbrev pub StandsAt : c.Phase → ServerState → Type 0
  StandsAt ph s = Serves sap limit table s (c.session_at ph) (c.accepted_at ph)

  -- A unit came, and the server stands elsewhere.
  pub record Comes (from : c.Phase) (queue units : List (List ℕ)) (s : ServerState) : Type 0 where
    pub to : c.Phase
    pub holds : c.Holds to
    pub job : c.job_at to ≡ c.job_at from
    pub queue_is : c.queue_at to ≡ queue
    pub units_is : c.units_at to ≡ units
    pub serves : StandsAt to s

  -- A unit that the server gives, of at most so many bytes, and where it stands then.
  pub record Tells (size : ℕ) (from : c.Phase) (s : ServerState) : Type 0 where
    pub unit : List ℕ
    pub due : serving.due s sap size ≡ Some unit
    pub short : length unit ≤ size
    pub some : 0 < length unit
    pub to : c.Phase
    pub holds : c.Holds to
    pub job : c.job_at to ≡ c.job_at from
    pub queue_is : c.queue_at to ≡ c.queue_at from
    pub units_is : c.units_at to ≡ c.units_at from ++ unit ∷ []
    pub serves : StandsAt to (serving.sent s sap size)

  abbrev pub MayTell : ℕ → c.Phase → ServerState → Type 0
  MayTell size ph s = (serving.due s sap size ≡ None) ⊎ Tells size ph s

  -- The client took up what it heard.
  pub record Hears (from : c.Phase) : Type 0 where
    pub to : c.Phase
    pub holds : c.Holds to
    pub told : job_told (c.job_at from) (c.units_at from) ≡ Some (c.job_at to)
    pub apart : is_some (first (c.queue_at from)) ≡ true → c.units_at from ≡ []
    pub queue_is : c.queue_at to ≡ c.queue_at from
    pub units_is : c.units_at to ≡ []
    pub session_is : c.session_at to ≡ c.session_at from
    pub accepted_is : c.accepted_at to ≡ c.accepted_at from

  -- The client submitted what it may. Where it is still to do nothing, and nothing of it is unacknowledged, the server has an answer.
  pub record Readies (size : ℕ) (n : Numbers) (from : c.Phase) : Type 0 where
    pub to : c.Phase
    pub holds : c.Holds to
    pub paired : IsPaired n (length (c.queue_at to))
    pub ready : readied_on (conn_at sap n (c.queue_at from) (c.units_at from)) (c.job_at from)
        ≡ on_so (conn_at sap n (c.queue_at to) (c.units_at to)) (c.job_at to)
    pub session_is : c.session_at to ≡ c.session_at from
    pub accepted_is : c.accepted_at to ≡ c.accepted_at from
    pub same_units : c.units_at to ≡ c.units_at from
    pub same_over : is_over (c.job_at to) ≡ is_over (c.job_at from)
    pub busy : c.units_at from ≡ [] → is_over (c.job_at from) ≡ false → c.queue_at to ≡ [] → n.asked ≡ [] → (s : ServerState) → StandsAt to s → Tells size to s

  -- What is true of a conversation over ends with these MIUs.
  pub record Converses (miu size : ℕ) : Type 0 where
    pub within : (ph : c.Phase) → c.Holds ph → AllWithin miu (c.queue_at ph)
    pub comes : (ph : c.Phase) (u : List ℕ) (queue : List (List ℕ)) → c.queue_at ph ≡ u ∷ queue → c.Holds ph → (s : ServerState) → StandsAt ph s
        → Comes ph queue (c.units_at ph) (serving.brought s sap u)
    pub tells : (ph : c.Phase) → c.Holds ph → (s : ServerState) → StandsAt ph s → MayTell size ph s
    pub hears : (ph : c.Phase) → c.Holds ph → Hears ph
    pub done : (ph : c.Phase) → c.Holds ph → is_over (c.job_at ph) ≡ true → c.queue_at ph ≡ []
    pub plain : (ph : c.Phase) (l : EndState) → finished l sap (c.job_at ph) ≡ c.job_at ph
    pub readies : (ph : c.Phase) → c.Holds ph → (n : Numbers) → n.server_miu ≡ miu → IsPaired n (length (c.queue_at ph)) → Readies size n ph

  -- a phase at which nothing of a request is submitted
  pub record Starts (job : Job) (old : List Received) : Type 0 where
    pub at : c.Phase
    pub holds : c.Holds at
    pub job_is : c.job_at at ≡ job
    pub queue_is : c.queue_at at ≡ []
    pub units_is : c.units_at at ≡ []
    pub session_is : c.session_at at ≡ fresh_session
    pub accepted_is : c.accepted_at at ≡ old

-- what has no first unit
pub no_unit : (u : List ℕ) (units : List (List ℕ)) → ◌≡◌ {A = List (List ℕ)} [] (u ∷ units) → ⊥
no_unit u units e = cc

-- nothing is heard while a unit waits to be given
pub told_apart : (waiting : Bool) (job : Job) (us : List (List ℕ)) (o : Option Job) → job_told job us ≡ o → (waiting ≡ true → us ≡ []) → told_in waiting job us ≡ o
told_apart waiting job [] o e f = e
told_apart true job (u ∷ us) o e f = absurd (no_unit u us (sym (f refl)))
told_apart false job (u ∷ us) o e f = e

module _ (sap limit : ℕ) (table : List Offer) (c : Conversation) (ph : c.Phase) (holds : c.Holds ph) where
  -- the client heard nothing
  pub hears_nothing : c.units_at ph ≡ [] → Hears sap limit table c ph
  hears_nothing e = record {
    to = ph;
    holds = holds;
    told = ap (job_told (c.job_at ph)) e;
    apart = λ w. e;
    queue_is = refl;
    units_is = e;
    session_is = refl;
    accepted_is = refl;
  }

  -- the client submits nothing
  pub stays : (size : ℕ) (n : Numbers) → IsPaired n (length (c.queue_at ph))
      → readied_on (conn_at sap n (c.queue_at ph) (c.units_at ph)) (c.job_at ph) ≡ on_so (conn_at sap n (c.queue_at ph) (c.units_at ph)) (c.job_at ph)
      → (c.units_at ph ≡ [] → is_over (c.job_at ph) ≡ false → c.queue_at ph ≡ [] → (s : ServerState) → StandsAt sap limit table c ph s → Tells sap limit table c size ph s)
      → Readies sap limit table c size n ph
  stays size n paired ready busy = record {
    to = ph;
    holds = holds;
    paired = paired;
    ready = ready;
    session_is = refl;
    accepted_is = refl;
    same_units = refl;
    same_over = refl;
    busy = λ u o q a s h. busy u o q s h;
  }
