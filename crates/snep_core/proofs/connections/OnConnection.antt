-- What a job submits is said of its connection alone: the other connections of its end, and its queue, stay as they are.
use Rattle.std.proofs.Common.{◌≡◌, ℕ, zero, suc, is_none, Bool, true, false, List, [], ◌∷◌, length, take, drop, Option, Some, None, refl, sym, ◌∙◌, ap, if◌then◌else◌}
use Rattle.llcp_link.specs.declared.own.OwnIs.{OwnIs}
use Rattle.llcp_link.specs.declared.own.OwnIs.TheVariants.{Asking, Open, Refused, Leaving, Closed}
use Rattle.llcp_link.specs.State.{OwnState, with_own}
use Rattle.llcp_link.specs.Asking.{queued_on, refusal_of, refusal_on, standing_of, submitted_by}
use Rattle.llcp_link.specs.Opened.{opened}
use Rattle.llcp_link.proofs.OwnPlaces.{here_of, with_same}
use Rattle.llcp_link.proofs.Ranged.{either}
use Rattle.llcp_link.proofs.Submitted.{own_with}
use Rattle.snep_core.specs.Accord.{Numbers, client_conn}
use Rattle.snep_core.specs.Jobs.{Job, Begins, Waits, Sends, Asks, Collects, Looks, Closes, Over}
use Rattle.snep_core.specs.Talk.{EndState, Ready, begins_on, behind_first, continue_bytes, miu_of, own_of, readied, ready_so, sends_on, sends_some, server_sap, submits, takes_more}
use Rattle.snep_core.proofs.connections.Owned.{with_twice}

-- a connection, and the job on it that goes on
pub record OnIt : Type 0 where
  pub own : OwnState
  pub job : Job

abbrev pub on_so : OwnState → Job → OnIt
on_so o job = record { own = o; job = job }

-- a unit may be submitted there, and is
abbrev pub takes_on : OwnState → List ℕ → Bool
takes_on o u = is_none (refusal_on o.is u)

abbrev pub submits_on : OwnState → List ℕ → OwnState
submits_on o u = queued_on o u o.is

-- the first unit of a request; what is left of it; and a continue
abbrev pub begin_on : OwnState → Option ℕ → List ℕ → Option ℕ → OnIt
begin_on o most bytes None = on_so o (Begins most bytes)
begin_on o most bytes (Some miu) =
    if takes_on o (take miu bytes) then on_so (submits_on o (take miu bytes)) (behind_first most (drop miu bytes))
    else on_so o (Begins most bytes)

abbrev pub some_on : ℕ → ℕ → OwnState → Option ℕ → List ℕ → OnIt
some_on zero miu o most rest = on_so o (Sends most rest)
some_on (suc n) miu o most [] = on_so o (Sends most [])
some_on (suc n) miu o most (b ∷ bs) =
    if takes_on o (take miu (b ∷ bs)) then some_on n miu (submits_on o (take miu (b ∷ bs))) most (drop miu (b ∷ bs))
    else on_so o (Sends most (b ∷ bs))

abbrev pub sent_on : OwnState → Option ℕ → List ℕ → Option ℕ → OnIt
sent_on o most rest None = on_so o (Sends most rest)
sent_on o most rest (Some miu) = some_on (length rest) miu o most rest

abbrev pub asks_there : OwnState → ℕ → List ℕ → OnIt
asks_there o size have =
    if takes_on o continue_bytes then on_so (submits_on o continue_bytes) (Collects size have) else on_so o (Asks size have)

-- what a job submits on its connection
abbrev pub readied_on : OwnState → Job → OnIt
readied_on o (Begins most bytes) = begin_on o most bytes (miu_of (standing_of (Some o)))
readied_on o (Sends most rest) = sent_on o most rest (miu_of (standing_of (Some o)))
readied_on o (Asks size have) = asks_there o size have
readied_on o job = on_so o job

-- an end with a connection in the place of that from its SAP, and its job
abbrev pub put_so : EndState → OnIt → Ready
put_so l x = ready_so (record l { own = with_own x.own l.own }) x.job

queued_here : (o : OwnState) (u : List ℕ) (i : OwnIs) → (queued_on o u i).here ≡ o.here
queued_here o u (Open c) = refl
queued_here o u Asking = refl
queued_here o u Refused = refl
queued_here o u Leaving = refl
queued_here o u Closed = refl

some_here : (n miu : ℕ) (o : OwnState) (most : Option ℕ) (rest : List ℕ) → (some_on n miu o most rest).own.here ≡ o.here
some_here zero miu o most rest = refl
some_here (suc n) miu o most [] = refl
some_here (suc n) miu o most (b ∷ bs) =
    either {X = OnIt} (λ x. x.own.here ≡ o.here) (takes_on o (take miu (b ∷ bs)))
    (some_on n miu (submits_on o (take miu (b ∷ bs))) most (drop miu (b ∷ bs))) (on_so o (Sends most (b ∷ bs)))
    (λ t. some_here n miu (submits_on o (take miu (b ∷ bs))) most (drop miu (b ∷ bs)) ∙ queued_here o (take miu (b ∷ bs)) o.is) (λ t. refl)

module _ (sap : ℕ) where
  module _ (l : EndState) (o : OwnState) (there : own_of sap l ≡ Some o) where
    nothing_on : (job : Job) → ready_so l job ≡ put_so l (on_so o job)
    nothing_on job = ap (λ os. ready_so (record l { own = os }) job) (sym (with_same sap l.own o there))

    unit_on : (u : List ℕ) (a b : Job) → (if takes_more l sap u then ready_so (submits l sap u) a else ready_so l b)
        ≡ put_so l (if takes_on o u then on_so (submits_on o u) a else on_so o b)
    unit_on u a b =
        ap (λ q. if is_none (refusal_of q u) then ready_so (submitted_by l u q) a else ready_so l b) there ∙ go (takes_on o u)
      where
        go : (c : Bool) → (if c then ready_so (record l { own = with_own (submits_on o u) l.own }) a else ready_so l b)
            ≡ put_so l (if c then on_so (submits_on o u) a else on_so o b)
        go true = refl
        go false = nothing_on b

    begins_so : (most : Option ℕ) (bytes : List ℕ) (m : Option ℕ) → begins_on l sap most bytes m ≡ put_so l (begin_on o most bytes m)
    begins_so most bytes None = nothing_on (Begins most bytes)
    begins_so most bytes (Some miu) = unit_on (take miu bytes) (behind_first most (drop miu bytes)) (Begins most bytes)

  some_so : (n miu : ℕ) (most : Option ℕ) (l : EndState) (o : OwnState) (rest : List ℕ) → own_of sap l ≡ Some o
      → sends_some n miu l sap most rest ≡ put_so l (some_on n miu o most rest)
  some_so zero miu most l o rest e = nothing_on l o e (Sends most rest)
  some_so (suc n) miu most l o [] e = nothing_on l o e (Sends most [])
  some_so (suc n) miu most l o (b ∷ bs) e =
      ap (λ q. if is_none (refusal_of q u) then sends_some n miu (submitted_by l u q) sap most rest else ready_so l (Sends most (b ∷ bs))) e
      ∙ go (takes_on o u) (some_so n miu most next (submits_on o u) rest (own_with sap l.own (submits_on o u) o e here))
    where
      u : List ℕ
      u = take miu (b ∷ bs)

      rest : List ℕ
      rest = drop miu (b ∷ bs)

      next : EndState
      next = record l { own = with_own (submits_on o u) l.own }

      here : (submits_on o u).here ≡ sap
      here = queued_here o u o.is ∙ here_of sap l.own o e

      twice : put_so next (some_on n miu (submits_on o u) most rest) ≡ put_so l (some_on n miu (submits_on o u) most rest)
      twice =
          ap (λ os. ready_so (record l { own = os }) (some_on n miu (submits_on o u) most rest).job)
          (with_twice sap l.own (submits_on o u) (some_on n miu (submits_on o u) most rest).own here
          (some_here n miu (submits_on o u) most rest ∙ here))

      go : (c : Bool) → sends_some n miu next sap most rest ≡ put_so next (some_on n miu (submits_on o u) most rest)
          → (if c then sends_some n miu next sap most rest else ready_so l (Sends most (b ∷ bs)))
          ≡ put_so l (if c then some_on n miu (submits_on o u) most rest else on_so o (Sends most (b ∷ bs)))
      go true more = more ∙ twice
      go false more = nothing_on l o e (Sends most (b ∷ bs))

  module _ (l : EndState) (o : OwnState) (there : own_of sap l ≡ Some o) where
    sends_so : (most : Option ℕ) (rest : List ℕ) (m : Option ℕ) → sends_on l sap most rest m ≡ put_so l (sent_on o most rest m)
    sends_so most rest None = nothing_on l o there (Sends most rest)
    sends_so most rest (Some miu) = some_so (length rest) miu most l o rest there

    -- the other connections, and the queue, are as they were
    pub readied_so : (job : Job) → readied l sap job ≡ put_so l (readied_on o job)
    readied_so (Begins most bytes) =
        ap (λ q. begins_on l sap most bytes (miu_of (standing_of q))) there ∙ begins_so l o there most bytes (miu_of (standing_of (Some o)))
    readied_so (Sends most rest) =
        ap (λ q. sends_on l sap most rest (miu_of (standing_of q))) there ∙ sends_so most rest (miu_of (standing_of (Some o)))
    readied_so (Asks size have) = unit_on l o there continue_bytes (Collects size have) (Asks size have)
    readied_so (Waits most rest) = nothing_on l o there (Waits most rest)
    readied_so (Collects size have) = nothing_on l o there (Collects size have)
    readied_so (Looks tid) = nothing_on l o there (Looks tid)
    readied_so Closes = nothing_on l o there Closes
    readied_so (Over e) = nothing_on l o there (Over e)

-- the client's end of a connection from a SAP, with these units to give, and these that were handed up
abbrev pub conn_at : ℕ → Numbers → List (List ℕ) → List (List ℕ) → OwnState
conn_at sap n queue units = opened sap server_sap (client_conn sap n queue) units

-- at an end that has it
pub readied_open : (sap : ℕ) (l : EndState) (n : Numbers) (queue units queue_now units_now : List (List ℕ)) (job now : Job)
    → own_of sap l ≡ Some (conn_at sap n queue units)
    → readied_on (conn_at sap n queue units) job ≡ on_so (conn_at sap n queue_now units_now) now
    → readied l sap job ≡ ready_so (record l { own = with_own (conn_at sap n queue_now units_now) l.own }) now
readied_open sap l n queue units queue_now units_now job now there e =
    readied_so sap l (conn_at sap n queue units) there job ∙ ap (put_so l) e
