-- A call over a peer, turn by turn, from its begin to its end: any jobs, each on a connection of its own, while other connections stay as
-- they are.
use Rattle.std.proofs.Common.{◌≡◌, ◌≤◌, ◌⊎◌, ℕ, ◌+◌, ◌==◌, ◌&&◌, ◌||◌, not, Bool, true, false, List, [], ◌∷◌, length, map, Option, Some, None, refl, sym, ◌∙◌, ap, subst, inl, inr, arith}
use Rattle.std.proofs.Common.{if◌then◌else◌}
use Rattle.std.proofs.lemmas.Bool.{eqb-true, lt-ltb}
use Rattle.llcp_conn.specs.Conn.{ConnState}
use Rattle.llcp_link.specs.Asking.{asked_from, has_waiting_of, standing_of}
use Rattle.llcp_link.specs.Taking.{taken_from}
use Rattle.llcp_link.specs.Giving.{after_giving, given}
use Rattle.llcp_link.proofs.OwnPlaces.{with_same}
use Rattle.llcp_link.proofs.Clients.{is_self}
use Rattle.llcp_link.proofs.Ranged.{either}
use Rattle.llcp_link.specs.State.{Bound, OwnState, conn_from, own_from, with_own}
use Rattle.snep_core.specs.Accord.{IsClientSap, IsPaired, PeerState, PeerSteps, is_some_of, most_clients}
use Rattle.snep_core.specs.Jobs.{Begins, Job, has_byte, job_told, told_in}
use Rattle.snep_core.specs.Server.{Received, ServerState, serving}
use Rattle.snep_core.specs.Session.{Offer, fresh_session}
use Rattle.snep_core.specs.Talk.{AllReady, EndState, Ends, GivesUp, Goes, OnSap, Ready, Step, Working, all_emptied, all_heard, all_over, all_readied, all_well, begins_on, client_sap, emptied}
use Rattle.snep_core.specs.Talk.{emptied_by, finished, gave_any, gave_something, given_up, as_they_came, heard, heard_so, heard_with, idle_after, is_over, is_there, miu_of, most_idle, needs, own_of}
use Rattle.snep_core.specs.Talk.{payload, readied, ready_so, replied, saps, server_sap, settled, silent, call_behind, took, units_of, with_job}
use Rattle.snep_core.proofs.accord.AllJobs.{emptied_elsewhere}
use Rattle.snep_core.proofs.jobs.Answered.{Came, Nothing, Replied, came_gives, or_true, pressed_answers, true_or}
use Rattle.snep_core.proofs.requests.Conversations.{Settled, Tells, told_apart}
use Rattle.snep_core.proofs.connections.Debts.{debts, debts_left, other_debts, own_else, own_is, owes_conn, owes_own}
use Rattle.snep_core.proofs.connections.Meets.{At, AreUnlike, Keeps, Meets, cc_of, connect_of, is_in}
use Rattle.snep_core.proofs.connections.OnConnection.{conn_at, readied_open}
use Rattle.snep_core.proofs.connections.Opening.{flip, neither}
use Rattle.snep_core.proofs.connections.Places.{Plan, StandsBy, Talking}
use Rattle.snep_core.proofs.jobs.Pressing.{IsReady, ready_presses}
use Rattle.snep_core.proofs.sessions.Served.{Serves}
use Rattle.snep_core.proofs.connections.Sides.{Sizes, sides_own}
use Rattle.snep_core.proofs.connections.Tally.{few, few_but}

lost_not : (b : Bool) → (b && not true) ≡ false
lost_not true = refl
lost_not false = refl

-- each of these jobs is that of its SAP
abbrev pub Agrees : (ℕ → Job) → List OnSap → Type 0
Agrees job [] = Unit {0}
Agrees job (x ∷ xs) = (job x.sap ≡ x.job) × Agrees job xs

-- a job in the place of its SAP's
abbrev instead_by : Job → Job → Bool → Job
instead_by next before true = next
instead_by next before false = before

abbrev instead : ℕ → Job → (ℕ → Job) → ℕ → Job
instead s next job t = instead_by next (job t) (s == t)

-- the jobs of other SAPs are the same
abbrev SameElse : ℕ → (ℕ → Job) → (ℕ → Job) → Type 0
SameElse s job now = (t : ℕ) → (s == t) ≡ false → now t ≡ job t

agrees_else : (s : ℕ) (job now : ℕ → Job) → SameElse s job now → (xs : List OnSap) → is_in s (saps xs) ≡ false → Agrees job xs → Agrees now xs
agrees_else s job now same [] n h = tt
agrees_else s job now same (x ∷ xs) n h =
    let k = neither (x.sap == s) (is_in s (saps xs)) n in
    (same x.sap (flip x.sap s k.0) ∙ h.0, agrees_else s job now same xs k.1 h.1)

-- a SAP among these isn't one that isn't
apart_from : (s t : ℕ) (xs : List ℕ) → is_in s xs ≡ false → is_in t xs ≡ true → (s == t) ≡ false
apart_from s t xs n i = go (s == t) refl
  where
    go : (b : Bool) → (s == t) ≡ b → (s == t) ≡ false
    go false e = e
    go true e = absurd (let k = sym n ∙ ap (λ r. is_in r xs) (eqb-true s t e) ∙ i in cc)

-- where a job goes on, there is a SAP of one
some_sap : (xs : List OnSap) → all_over xs ≡ false → (s : ℕ) × (is_in s (saps xs) ≡ true)
some_sap [] e = absurd cc
some_sap (x ∷ xs) e = (x.sap, ap (λ b. b || is_in x.sap (saps xs)) (is_self x.sap))

-- what one of them was given, was given
abbrev gave_at : EndState → EndState → ℕ → Bool
gave_at old now s = gave_something (own_from s old.own) (own_from s now.own) || has_byte (units_of (own_from s now.own))

any_gives : (old now : EndState) (s : ℕ) (xs : List OnSap) → is_in s (saps xs) ≡ true
    → gave_at old now s ≡ true → gave_any old now xs ≡ true
any_gives old now s [] i g = absurd cc
any_gives old now s (x ∷ xs) i g = go (x.sap == s) refl i (λ k. any_gives old now s xs k g)
  where
    go : (b : Bool) → (x.sap == s) ≡ b → (b || is_in s (saps xs)) ≡ true → (is_in s (saps xs) ≡ true → gave_any old now xs ≡ true)
        → (gave_at old now x.sap || gave_any old now xs) ≡ true
    go true e k more = or_true (gave_at old now x.sap) (gave_any old now xs) (subst (λ t. gave_at old now t ≡ true) (sym (eqb-true x.sap s e)) g)
    go false e k more = true_or (gave_at old now x.sap) (gave_any old now xs) (more k)

-- a job that is over by what was heard, or was before
was_settled : (units : List (List ℕ)) (job next : Job) → job_told job units ≡ Some next → is_over next ≡ true → (is_some_of units || is_over job) ≡ true
was_settled [] job next e o = let same : job ≡ next = cc in ap is_over same ∙ o
was_settled (u ∷ us) job next e o = refl

module _ (limit : ℕ) (table : List Offer) (names : List Bound) (old : List Received) (z : Sizes) (plan : ℕ → Plan) (keeps : Keeps limit table names old z plan)
    (rests : (s miu size : ℕ) → (plan s).is_job ≡ false → (ph : ((plan s).conv miu size).Phase) → ((plan s).conv miu size).Holds ph
    → (((plan s).conv miu size).queue_at ph ≡ []) × (((plan s).conv miu size).session_at ph ≡ fresh_session))
    (ours : List ℕ) (unlike : AreUnlike ours) (ranges : (s : ℕ) → is_in s ours ≡ true → IsClientSap s) (mine : (s : ℕ) → (plan s).is_job ≡ is_in s ours) where
  abbrev pub M : (ℕ → Job) → EndState → PeerState → Type 0
  M job l p = Meets limit table names old z plan job l p

  -- how many acknowledgements are owed, but those of the peer on the jobs' connections
  abbrev pub others : PeerState → ℕ
  others p = other_debts (λ s. (plan s).is_job) p.served

  abbrev pub owed : EndState → PeerState → ℕ
  owed l p = debts l.own + others p

  pub few_owed : (s : ℕ) → is_in s ours ≡ true → (l : EndState) (p : PeerState) → owed l p ≤ 15
  few_owed s m l p =
      let r = ranges s m in
      let a = few most_clients client_sap (λ t. owes_own (own_from t l.own)) in
      let b = few_but most_clients client_sap s (λ t. not (plan t).is_job && owes_conn (conn_from t p.served)) r.0 (let k = r.1 in omega arith)
      (ap (λ c. not c && owes_conn (conn_from s p.served)) (mine s ∙ m)) in omega (arith, a, b)

  pub few_at_first : (s : ℕ) → is_in s ours ≡ true → (l : EndState) (p : PeerState) → 0 + owed l p ≤ 15
  few_at_first s m l p = let w = few_owed s m l p in omega (arith, w)

  -- Between two turns nothing that was heard on a job's connection is left.
  pub record Rests (job : ℕ → Job) (l : EndState) (p : PeerState) : Type 0 where
    pub meets : M job l p
    pub empty : (s : ℕ) → is_in s ours ≡ true → units_of (own_of s l) ≡ []

  -- a job goes on, and its connection with it
  module _ (job : ℕ → Job) (s : ℕ) (next : Job) (l : EndState) (p : PeerState) (h : M job l p) (free : (is_in s h.asked ≡ false) × (is_in s h.awaited ≡ false)) (o before : OwnState)
      (there : own_from s l.own ≡ Some before) (here : o.here ≡ s)
      (now : Talking limit table old z s (plan s) next (Some o) (conn_from s p.served) p.service) where
    changes : M (instead s next job) (record l { own = with_own o l.own }) p
    changes = record {
      asked = h.asked;
      awaited = h.awaited;
      unlike = h.unlike;
      few = h.few;
      stays = h.stays;
      sides = sides_own limit table names old z (At limit table names old z plan job h.asked h.awaited) (At limit table names old z plan (instead s next job) h.asked h.awaited)
          (map (connect_of limit table names old z plan) h.asked) (map (cc_of limit table names old z plan) h.awaited) l p h.sides s o before there here
          (λ t n q k a. subst (λ j. StandsBy limit table old z t (plan t) j (is_in t h.asked) (is_in t h.awaited) q k p.service) (sym (ap (instead_by next (job t)) n)) a)
          (subst (λ j. StandsBy limit table old z s (plan s) j (is_in s h.asked) (is_in s h.awaited) (Some o) (conn_from s p.served) p.service) (sym (ap (instead_by next (job s)) (is_self s)))
          (subst (λ a. StandsBy limit table old z s (plan s) next a (is_in s h.awaited) (Some o) (conn_from s p.served) p.service) (sym free.0)
          (subst (λ w. StandsBy limit table old z s (plan s) next false w (Some o) (conn_from s p.served) p.service) (sym free.1) (inr now))));
    }

  -- a job whose connection isn't there yet waits
  waits_ready : (s : ℕ) (l : EndState) (m : Option ℕ) (b : List ℕ) → own_from s l.own ≡ Some (asked_from s server_sap) → readied l s (Begins m b) ≡ ready_so l (Begins m b)
  waits_ready s l m b e = ap (λ q. begins_on l s m b (miu_of (standing_of q))) e

  waits_heard : (s : ℕ) (waiting : Bool) (l : EndState) (m : Option ℕ) (b : List ℕ) → own_from s l.own ≡ Some (asked_from s server_sap)
      → heard waiting l s (Begins m b) ≡ Some (Begins m b)
  waits_heard s waiting l m b e =
      ap (λ q. heard_so (emptied_by l q) s (told_in waiting (Begins m b) (units_of q))) e
      ∙ ap (λ os. heard_so (record l { own = os }) s (Some (Begins m b))) (with_same s l.own (asked_from s server_sap) e)
      ∙ ap (λ q. if needs (Begins m b) && not (is_there (standing_of q)) then None else Some (Begins m b)) e

  waits_empty : (s : ℕ) (l : EndState) → own_from s l.own ≡ Some (asked_from s server_sap) → emptied l s ≡ l
  waits_empty s l e = ap (emptied_by l) e ∙ ap (λ os. record l { own = os }) (with_same s l.own (asked_from s server_sap) e)

  -- A job's connection works: where the client is to give nothing there, and nothing of it is unacknowledged, the server has a unit. Or
  -- its CONNECT or CC waits.
  abbrev Works : ℕ → Job → Option OwnState → Option ConnState → ServerState → Type 0
  Works s j o c x =
      (t : Talking limit table old z s (plan s) j o c x)
      × (((plan s).conv t.n.server_miu t.n.client_miu).queue_at t.phase ≡ [] → t.n.asked ≡ []
      → Tells s limit table ((plan s).conv t.n.server_miu t.n.client_miu) t.n.client_miu t.phase x)

  abbrev WorksAt : List ℕ → List ℕ → PeerState → ℕ → Job → Option OwnState → Type 0
  WorksAt asked awaited p s j o = (is_in s asked ≡ true) ⊎ ((is_in s awaited ≡ true) ⊎ Works s j o (conn_from s p.served) p.service)

  -- One job submitted what it may.
  record OneReady (job : ℕ → Job) (l : EndState) (p : PeerState) (h : M job l p) (s : ℕ) : Type 0 where
    next : Job
    to : EndState
    is : readied l s (job s) ≡ ready_so to next
    now : ℕ → Job
    here : now s ≡ next
    same : SameElse s job now
    meets : M now to p
    asked_is : meets.asked ≡ h.asked
    awaited_is : meets.awaited ≡ h.awaited
    left : debts to.own ≤ debts l.own
    own_same : (t : ℕ) → (s == t) ≡ false → own_from t to.own ≡ own_from t l.own
    works : is_over (job s) ≡ false → WorksAt h.asked h.awaited p s (now s) (own_from s to.own)

  module _ (job : ℕ → Job) (l : EndState) (p : PeerState) (h : M job l p) (s : ℕ) (ismine : (plan s).is_job ≡ true) (empty : units_of (own_of s l) ≡ []) where
    ready_waits : (m : Option ℕ) (b : List ℕ) → job s ≡ Begins m b → own_from s l.own ≡ Some (asked_from s server_sap)
        → WorksAt h.asked h.awaited p s (job s) (own_from s l.own) → OneReady job l p h s
    ready_waits m b e own w = record {
      next = job s;
      to = l;
      is = subst (λ j. readied l s j ≡ ready_so l j) (sym e) (waits_ready s l m b own);
      now = job;
      here = refl;
      same = λ t n. refl;
      meets = h;
      asked_is = refl;
      awaited_is = refl;
      left = (let w : debts l.own ≤ debts l.own = omega arith in w);
      own_same = λ t n. refl;
      works = λ on. w;
    }

    ready_talks : (is_in s h.asked ≡ false) × (is_in s h.awaited ≡ false)
        → Talking limit table old z s (plan s) (job s) (own_from s l.own) (conn_from s p.served) p.service → OneReady job l p h s
    unfolding changes
    ready_talks free t =
        let c = (plan s).conv t.n.server_miu t.n.client_miu in
        let r = (keeps s t.n.server_miu t.n.client_miu t.paired.server_miu t.paired.client_miu).readies t.phase t.holds t.n refl t.paired in
        let o = conn_at s t.n (c.queue_at r.to) (c.units_at r.to) in
        let next = c.job_at r.to in
        let serves = subst (λ w. Serves s limit table p.service w (c.accepted_at r.to)) (sym r.session_is)
        (subst (λ w. Serves s limit table p.service (c.session_at t.phase) w) (sym r.accepted_is) t.serves) in
        let settled : Settled c r.to t.n =
        λ k. t.settled (ap (λ us. is_some_of us || is_over (c.job_at t.phase)) (sym r.same_units) ∙ ap (λ b. is_some_of (c.units_at r.to) || b) (sym r.same_over) ∙ k) in
        let now_ : Talking limit table old z s (plan s) next (Some o) (conn_from s p.served) p.service = record {
          range = t.range;
          n = t.n;
          phase = r.to;
          paired = r.paired;
          holds = r.holds;
          own = refl;
          served = t.served;
          job_is = refl;
          serves = serves;
          settled = settled;
        } in
        let there : Talking limit table old z s (plan s) (instead s next job s) (own_from s (with_own o l.own)) (conn_from s p.served) p.service = record {
          range = t.range;
          n = t.n;
          phase = r.to;
          paired = r.paired;
          holds = r.holds;
          own = own_is s o (conn_at s t.n (c.queue_at t.phase) (c.units_at t.phase)) l.own t.own refl;
          served = t.served;
          job_is = ap (instead_by next (job s)) (is_self s);
          serves = serves;
          settled = settled;
        } in
        let none : c.units_at t.phase ≡ [] = sym (ap units_of t.own) ∙ empty in record {
          next = next;
          to = record l { own = with_own o l.own };
          is = ap (readied l s) t.job_is
              ∙ readied_open s l t.n (c.queue_at t.phase) (c.units_at t.phase) (c.queue_at r.to) (c.units_at r.to) (c.job_at t.phase) next t.own r.ready;
          now = instead s next job;
          here = ap (instead_by next (job s)) (is_self s);
          same = λ t n. ap (instead_by next (job t)) n;
          meets = changes job s next l p h free o _ t.own refl now_;
          asked_is = refl;
          awaited_is = refl;
          left = debts_left s o _ l.own t.own refl (λ k. k);
          own_same = λ r n. own_else s o _ l.own t.own refl r n;
          works = λ on. inr (inr (there, λ q a. r.busy none (ap is_over (sym t.job_is) ∙ on) q a p.service serves));
        }

    one_ready : OneReady job l p h s
    one_ready = go (is_in s h.asked) (is_in s h.awaited) refl refl (h.sides.at s)
      where
        go : (a w : Bool) → is_in s h.asked ≡ a → is_in s h.awaited ≡ w
            → StandsBy limit table old z s (plan s) (job s) a w (own_from s l.own) (conn_from s p.served) p.service → OneReady job l p h s
        go true w ea ew y = ready_waits (plan s).most (plan s).bytes y.job_is y.own (inl ea)
        go false true ea ew y = ready_waits (plan s).most (plan s).bytes y.job_is y.own (inr (inl ew))
        go false false ea ew (inl y) = absurd (let n = sym ismine ∙ y.none in cc)
        go false false ea ew (inr t) = ready_talks (ea, ew) t

  -- All of these did.
  pub record AllReadied (xs : List OnSap) (job : ℕ → Job) (l : EndState) (p : PeerState) (h : M job l p) : Type 0 where
    pub jobs : List OnSap
    pub to : EndState
    pub is : all_readied xs l ≡ record { llc = to; jobs = jobs }
    pub saps_are : saps jobs ≡ saps xs
    pub now : ℕ → Job
    pub agrees : Agrees now jobs
    pub meets : M now to p
    pub asked_is : meets.asked ≡ h.asked
    pub awaited_is : meets.awaited ≡ h.awaited
    pub left : debts to.own ≤ debts l.own
    pub same : (t : ℕ) → is_in t (saps xs) ≡ false → now t ≡ job t
    pub own_same : (t : ℕ) → is_in t (saps xs) ≡ false → own_from t to.own ≡ own_from t l.own
    pub works : all_over xs ≡ false → (s : ℕ) × WorksAt h.asked h.awaited p s (now s) (own_from s to.own)

  abbrev AreMine : List OnSap → Type 0
  AreMine xs = (s : ℕ) → is_in s (saps xs) ≡ true → (plan s).is_job ≡ true

  abbrev AreEmpty : List OnSap → EndState → Type 0
  AreEmpty xs l = (s : ℕ) → is_in s (saps xs) ≡ true → units_of (own_of s l) ≡ []

  in_first : (x : OnSap) (xs : List OnSap) → is_in x.sap (saps (x ∷ xs)) ≡ true
  in_first x xs = ap (λ b. b || is_in x.sap (saps xs)) (is_self x.sap)

  in_later : (x : OnSap) (xs : List OnSap) (s : ℕ) → is_in s (saps xs) ≡ true → is_in s (saps (x ∷ xs)) ≡ true
  in_later x xs s i = true_or (x.sap == s) (is_in s (saps xs)) i

  abbrev cons_job : ℕ → Job → AllReady → AllReady
  cons_job s j r = record { llc = r.llc; jobs = record { sap = s; job = j } ∷ r.jobs }

  works_as : (asked awaited : List ℕ) (p : PeerState) (s : ℕ) (j k : Job) (o q : Option OwnState) → k ≡ j → q ≡ o → WorksAt asked awaited p s j o → WorksAt asked awaited p s k q
  works_as asked awaited p s j k o q e f w =
      subst (λ a. WorksAt asked awaited p s a q) (sym e) (subst (λ b. WorksAt asked awaited p s j b) (sym f) w)

  -- one did, and then the others
  module _ (x : OnSap) (xs : List OnSap) (job : ℕ → Job) (l : EndState) (p : PeerState) (h : M job l p) (first : job x.sap ≡ x.job) (other : is_in x.sap (saps xs) ≡ false)
      (one : OneReady job l p h x.sap) (more : AllReadied xs one.now one.to p one.meets) where
    works_on : (b : Bool) → is_over x.job ≡ b → (b && all_over xs) ≡ false → (s : ℕ) × WorksAt h.asked h.awaited p s (more.now s) (own_from s more.to.own)
    works_on true e on =
        let w = more.works on in (
          w.0,
          subst (λ q. WorksAt q h.awaited p w.0 (more.now w.0) (own_from w.0 more.to.own)) one.asked_is
              (subst (λ q. WorksAt one.meets.asked q p w.0 (more.now w.0) (own_from w.0 more.to.own)) one.awaited_is w.1),
        )
    works_on false e on = (
      x.sap,
      works_as h.asked h.awaited p x.sap (one.now x.sap) (more.now x.sap) (own_from x.sap one.to.own) (own_from x.sap more.to.own) (more.same x.sap other)
          (more.own_same x.sap other) (one.works (ap is_over first ∙ e)),
    )

    ready_more : AllReadied (x ∷ xs) job l p h
    ready_more = record {
      jobs = record { sap = x.sap; job = one.next } ∷ more.jobs;
      to = more.to;
      is = ap (λ (r : Ready). with_job x.sap r (all_readied xs)) (ap (readied l x.sap) (sym first) ∙ one.is) ∙ ap (cons_job x.sap one.next) more.is;
      saps_are = ap (λ ss. x.sap ∷ ss) more.saps_are;
      now = more.now;
      agrees = (more.same x.sap other ∙ one.here, more.agrees);
      meets = more.meets;
      asked_is = more.asked_is ∙ one.asked_is;
      awaited_is = more.awaited_is ∙ one.awaited_is;
      left = (let i = one.left in let j = more.left in omega (arith, i, j));
      same = λ t n. (let k = neither (x.sap == t) (is_in t (saps xs)) n in more.same t k.1 ∙ one.same t k.0);
      own_same = λ t n. (let k = neither (x.sap == t) (is_in t (saps xs)) n in more.own_same t k.1 ∙ one.own_same t k.0);
      works = λ on. works_on (is_over x.job) refl on;
    }

  pub all_ready : (xs : List OnSap) (job : ℕ → Job) (l : EndState) (p : PeerState) (h : M job l p) → Agrees job xs → AreUnlike (saps xs) → AreMine xs → AreEmpty xs l → AllReadied xs job l p h
  all_ready [] job l p h a u m e = record {
    jobs = [];
    to = l;
    is = refl;
    saps_are = refl;
    now = job;
    agrees = tt;
    meets = h;
    asked_is = refl;
    awaited_is = refl;
    left = (let w : debts l.own ≤ debts l.own = omega arith in w);
    same = λ t n. refl;
    own_same = λ t n. refl;
    works = λ on. absurd cc;
  }
  all_ready (x ∷ xs) job l p h a u m e =
      let one = one_ready job l p h x.sap (m x.sap (in_first x xs)) (e x.sap (in_first x xs)) in
      ready_more x xs job l p h a.0 u.0 one
      (all_ready xs one.now one.to p one.meets (agrees_else x.sap job one.now one.same xs u.0 a.1) u.1 (λ t i. m t (in_later x xs t i))
      (λ t i. ap units_of (one.own_same t (apart_from x.sap t (saps xs) u.0 i)) ∙ e t (in_later x xs t i)))

  -- What was heard on one connection is taken up, of an end that took the whole reply.
  record OneHears (waiting : Bool) (job : ℕ → Job) (whole l : EndState) (p : PeerState) (s : ℕ) : Type 0 where
    next : Job
    heard_is : heard waiting whole s (job s) ≡ Some next
    now : ℕ → Job
    here : now s ≡ next
    same : SameElse s job now
    meets : M now (emptied l s) p
    empty : units_of (own_of s (emptied l s)) ≡ []
    left : debts (emptied l s).own ≤ debts l.own

  module _ (job : ℕ → Job) (whole l : EndState) (p : PeerState) (h : M job l p) (s : ℕ) (ismine : (plan s).is_job ≡ true) (it : own_from s whole.own ≡ own_from s l.own)
      (waiting : Bool) (waits : waiting ≡ true → has_waiting_of (own_of s l) ≡ true) where
    hears_waits : (m : Option ℕ) (b : List ℕ) → job s ≡ Begins m b → own_from s l.own ≡ Some (asked_from s server_sap) → OneHears waiting job whole l p s
    hears_waits m b e own = record {
      next = job s;
      heard_is = subst (λ j. heard waiting whole s j ≡ Some j) (sym e) (waits_heard s waiting whole m b (it ∙ own));
      now = job;
      here = refl;
      same = λ t n. refl;
      meets = subst (λ (q : EndState). M job q p) (sym (waits_empty s l own)) h;
      empty = subst (λ (q : EndState). units_of (own_of s q) ≡ []) (sym (waits_empty s l own)) (ap units_of own);
      left = subst (λ (q : EndState). debts q.own ≤ debts l.own) (sym (waits_empty s l own)) (let w : debts l.own ≤ debts l.own = omega arith in w);
    }

    hears_talks : (is_in s h.asked ≡ false) × (is_in s h.awaited ≡ false)
        → Talking limit table old z s (plan s) (job s) (own_from s l.own) (conn_from s p.served) p.service → OneHears waiting job whole l p s
    hears_talks free t =
        let c = (plan s).conv t.n.server_miu t.n.client_miu in
        let ls = keeps s t.n.server_miu t.n.client_miu t.paired.server_miu t.paired.client_miu in
        let y = ls.hears t.phase t.holds in
        let queue = c.queue_at t.phase in
        let units = c.units_at t.phase in
        let o = conn_at s t.n queue [] in
        let next = c.job_at y.to in
        let left : EndState = record l { own = with_own o l.own } in
        let all : EndState = record whole { own = with_own o whole.own } in
        let is : emptied l s ≡ left = ap (emptied_by l) t.own in
        let own_now : own_from s left.own ≡ Some o = own_is s o (conn_at s t.n queue units) l.own t.own refl in
        let own_all : own_from s all.own ≡ Some o = own_is s o (conn_at s t.n queue units) whole.own (it ∙ t.own) refl in
        let now_ : Talking limit table old z s (plan s) next (Some o) (conn_from s p.served) p.service = record {
          range = t.range;
          n = t.n;
          phase = y.to;
          paired = subst (λ q. IsPaired t.n (length q)) (sym y.queue_is) t.paired;
          holds = y.holds;
          own = ap (λ q. Some (conn_at s t.n q [])) (sym y.queue_is) ∙ ap (λ us. Some (conn_at s t.n (c.queue_at y.to) us)) (sym y.units_is);
          served = t.served;
          job_is = refl;
          serves = subst (λ w. Serves s limit table p.service w (c.accepted_at y.to)) (sym y.session_is)
              (subst (λ w. Serves s limit table p.service (c.session_at t.phase) w) (sym y.accepted_is) t.serves);
          settled = λ k. t.settled (was_settled units (c.job_at t.phase) next y.told (sym (ap (λ us. is_some_of us || is_over next) y.units_is) ∙ k));
        } in record {
          next = next;
          heard_is =
              ap (heard waiting whole s) t.job_is
              ∙ ap (λ q. heard_so (emptied_by whole q) s (told_in waiting (c.job_at t.phase) (units_of q))) (it ∙ t.own)
              ∙ ap (heard_so all s) (told_apart waiting (c.job_at t.phase) units (Some next) y.told (λ e. y.apart (sym (ap has_waiting_of t.own) ∙ waits e)))
              ∙ ap (λ q. if needs next && not (is_there (standing_of q)) then None else Some (finished all s next)) own_all
              ∙ ap (λ b. if b then None else Some (finished all s next)) (lost_not (needs next))
              ∙ ap Some (ls.plain y.to all);
          now = instead s next job;
          here = ap (instead_by next (job s)) (is_self s);
          same = λ t n. ap (instead_by next (job t)) n;
          meets = subst (λ (q : EndState). M (instead s next job) q p) (sym is) (changes job s next l p h free o (conn_at s t.n queue units) t.own refl now_);
          empty = subst (λ (q : EndState). units_of (own_of s q) ≡ []) (sym is) (ap units_of own_now);
          left = subst (λ (q : EndState). debts q.own ≤ debts l.own) (sym is) (debts_left s o (conn_at s t.n queue units) l.own t.own refl (λ k. k));
        }

    one_hears : OneHears waiting job whole l p s
    one_hears = go (is_in s h.asked) (is_in s h.awaited) refl refl (h.sides.at s)
      where
        go : (a w : Bool) → is_in s h.asked ≡ a → is_in s h.awaited ≡ w
            → StandsBy limit table old z s (plan s) (job s) a w (own_from s l.own) (conn_from s p.served) p.service → OneHears waiting job whole l p s
        go true w ea ew y = hears_waits (plan s).most (plan s).bytes y.job_is y.own
        go false true ea ew y = hears_waits (plan s).most (plan s).bytes y.job_is y.own
        go false false ea ew (inl y) = absurd (let n = sym ismine ∙ y.none in cc)
        go false false ea ew (inr t) = hears_talks (ea, ew) t

  -- On all of these it is; `mid` gave the payload.
  record AllHear (mid whole : EndState) (xs : List OnSap) (job : ℕ → Job) (l : EndState) (p : PeerState) : Type 0 where
    jobs : List OnSap
    well : all_well (all_heard mid whole xs) ≡ Some jobs
    saps_are : saps jobs ≡ saps xs
    now : ℕ → Job
    agrees : Agrees now jobs
    meets : M now (all_emptied xs l) p
    same : (t : ℕ) → is_in t (saps xs) ≡ false → now t ≡ job t
    own_same : (t : ℕ) → is_in t (saps xs) ≡ false → own_from t (all_emptied xs l).own ≡ own_from t l.own
    empty : AreEmpty xs (all_emptied xs l)
    left : debts (all_emptied xs l).own ≤ debts l.own

  module _ (mid whole : EndState) (x : OnSap) (xs : List OnSap) (job : ℕ → Job) (l : EndState) (p : PeerState) (first : job x.sap ≡ x.job) (other : is_in x.sap (saps xs) ≡ false)
      (one : OneHears (has_waiting_of (own_from x.sap mid.own)) job whole l p x.sap) (more : AllHear mid whole xs one.now (emptied l x.sap) p) where
    hear_empty : AreEmpty (x ∷ xs) (all_emptied xs (emptied l x.sap))
    hear_empty t i = go (x.sap == t) refl i
      where
        go : (b : Bool) → (x.sap == t) ≡ b → (b || is_in t (saps xs)) ≡ true → units_of (own_of t (all_emptied xs (emptied l x.sap))) ≡ []
        go true e k =
            subst (λ r. units_of (own_of r (all_emptied xs (emptied l x.sap))) ≡ []) (eqb-true x.sap t e) (ap units_of (more.own_same x.sap other) ∙ one.empty)
        go false e k = more.empty t k

    hear_more : AllHear mid whole (x ∷ xs) job l p
    hear_more = record {
      jobs = record { sap = x.sap; job = one.next } ∷ more.jobs;
      well = ap (λ o. heard_with x.sap o (all_well (all_heard mid whole xs))) (ap (heard (has_waiting_of (own_from x.sap mid.own)) whole x.sap) (sym first) ∙ one.heard_is)
          ∙ ap (heard_with x.sap (Some one.next)) more.well;
      saps_are = ap (λ ss. x.sap ∷ ss) more.saps_are;
      now = more.now;
      agrees = (more.same x.sap other ∙ one.here, more.agrees);
      meets = more.meets;
      same = λ t n. (let k = neither (x.sap == t) (is_in t (saps xs)) n in more.same t k.1 ∙ one.same t k.0);
      own_same = λ t n. (let k = neither (x.sap == t) (is_in t (saps xs)) n in more.own_same t k.1 ∙ emptied_elsewhere t x.sap l k.0);
      empty = hear_empty;
      left = (let i = one.left in let j = more.left in omega (arith, i, j));
    }

  all_hear : (mid whole : EndState) (xs : List OnSap) (job : ℕ → Job) (l : EndState) (p : PeerState) → M job l p → Agrees job xs → AreUnlike (saps xs) → AreMine xs
      → ((t : ℕ) → is_in t (saps xs) ≡ true → own_from t whole.own ≡ own_from t l.own)
      → ((t : ℕ) → has_waiting_of (own_from t mid.own) ≡ true → has_waiting_of (own_from t whole.own) ≡ true) → AllHear mid whole xs job l p
  all_hear mid whole [] job l p h a u m e w = record {
    jobs = [];
    well = refl;
    saps_are = refl;
    now = job;
    agrees = tt;
    meets = h;
    same = λ t n. refl;
    own_same = λ t n. refl;
    empty = λ t i. absurd cc;
    left = (let w : debts l.own ≤ debts l.own = omega arith in w);
  }
  all_hear mid whole (x ∷ xs) job l p h a u m e w =
      let it = e x.sap (in_first x xs) in
      let one = one_hears job whole l p h x.sap (m x.sap (in_first x xs)) it (has_waiting_of (own_from x.sap mid.own)) (λ k. sym (ap has_waiting_of it) ∙ w x.sap k) in
      hear_more mid whole x xs job l p a.0 u.0 one
      (all_hear mid whole xs one.now (emptied l x.sap) p one.meets (agrees_else x.sap job one.now one.same xs u.0 a.1) u.1 (λ t i. m t (in_later x xs t i))
      (λ t i. e t (in_later x xs t i) ∙ sym (emptied_elsewhere t x.sap l (apart_from x.sap t (saps xs) u.0 i))) w)

  -- Where a call is, step by step: so many replies in a row gave nothing, and there are fewer acknowledgements owed than would give the
  -- far end up.
  abbrev pub StepSo : Step → PeerState → Type 0
  StepSo (Goes w) p =
      (job : ℕ → Job) × Agrees job w.jobs × (saps w.jobs ≡ ours) × (all_over w.jobs ≡ false) × Rests job w.llc p × (w.idle + owed w.llc p ≤ 15)
  StepSo (Ends jobs l) p = (job : ℕ → Job) × Agrees job jobs × (saps jobs ≡ ours) × (all_over jobs ≡ true) × Rests job l p
  StepSo (GivesUp g) p = ⊥

  settles : (l : EndState) (p : PeerState) (jobs : List OnSap) (job : ℕ → Job) (idle : ℕ) → idle + owed l p ≤ 15 → Agrees job jobs → saps jobs ≡ ours → Rests job l p
      → StepSo (settled l jobs idle) p
  settles l p jobs job idle few_ a e h =
      either (λ s. StepSo s p) (all_over jobs) _ _ (λ o. (job, a, e, o, h))
      (λ o. subst (λ b. StepSo (if b then Goes (record { llc = l; jobs = jobs; idle = idle }) else given_up l jobs (as_they_came jobs)) p)
      (sym (lt-ltb idle most_idle (omega (arith, few_)))) (job, a, e, o, h, few_))

  mine_in : (xs : List OnSap) → saps xs ≡ ours → AreMine xs
  mine_in xs e s i = mine s ∙ ap (is_in s) (sym e) ∙ i

  -- the client submitted what it may
  pub ready_so_far : (w : Working) (p : PeerState) (job : ℕ → Job) → Agrees job w.jobs → saps w.jobs ≡ ours → (h : Rests job w.llc p) → AllReadied w.jobs job w.llc p h.meets
  ready_so_far w p job a e h =
      all_ready w.jobs job w.llc p h.meets a (subst AreUnlike (sym e) unlike) (mine_in w.jobs e) (λ s i. h.empty s (ap (is_in s) (sym e) ∙ i))

  -- one turn
  module _ (w : Working) (p : PeerState) (job : ℕ → Job) (a : Agrees job w.jobs) (e : saps w.jobs ≡ ours) (on : all_over w.jobs ≡ false) (h : Rests job w.llc p)
      (few_ : w.idle + owed w.llc p ≤ 15) where
    abbrev r_ : AllReadied w.jobs job w.llc p h.meets
    r_ = ready_so_far w p job a e h

    abbrev Ready_ : EndState → PeerState → Type 0
    Ready_ l q = IsReady limit table names old z plan r_.now keeps rests (debts w.llc.own) (others p) l q

    presses : Ready_ r_.to p
    presses =
        let k = r_.works on in record {
          meets = r_.meets;
          left = r_.left;
          others = (let v : others p ≤ others p = omega arith in v);
          sap = k.0;
          works = subst (λ q. WorksAt q r_.meets.awaited p k.0 (r_.now k.0) (own_from k.0 r_.to.own)) (sym r_.asked_is)
              (subst (λ q. WorksAt h.meets.asked q p k.0 (r_.now k.0) (own_from k.0 r_.to.own)) (sym r_.awaited_is) k.1);
        }

    some_ours : (s : ℕ) × (is_in s ours ≡ true)
    some_ours = let k = some_sap w.jobs on in (k.0, ap (is_in k.0) (sym e) ∙ k.1)

    abbrev Back : EndState → PeerState → EndState → Type 0
    Back mid q l = Replied limit table names old z plan r_.now keeps rests mid (debts w.llc.own + others p) q l

    still : (mid whole l : EndState) (q : PeerState) → debts l.own ≤ debts whole.own
        → (Came limit table names old z plan r_.now keeps rests mid (debts w.llc.own + others p) whole q
        ⊎ Nothing limit table names old z plan r_.now keeps rests mid (debts w.llc.own + others p) 1 whole q)
        → (gave : Bool) → gave_any mid whole r_.jobs ≡ gave → idle_after gave w.idle + owed l q ≤ 15
    still mid whole l q less c true g = few_at_first some_ours.0 some_ours.1 l q
    still mid whole l q less (inl x) false g =
        let i : is_in x.sap (saps r_.jobs) ≡ true = ap (is_in x.sap) (r_.saps_are ∙ e) ∙ sym (mine x.sap) ∙ x.is_mine in
        let y = any_gives mid whole x.sap r_.jobs i (came_gives (own_of x.sap mid) (own_of x.sap whole) (conn_from x.sap q.served) x.came) in
        absurd (let n = sym y ∙ g in cc)
    still mid whole l q less (inr x) false g = let v = x.left in omega (arith, v, less, few_)

    heard_on : (mid whole : EndState) (q : PeerState) → Back mid q whole → StepSo (took mid whole r_.jobs w.idle) q
    heard_on mid whole q back =
        let same = r_.saps_are ∙ e in
        let x = all_hear mid whole r_.jobs r_.now whole q back.meets r_.agrees (subst AreUnlike (sym same) unlike) (mine_in r_.jobs same) (λ t i. refl) (λ t k. back.waiting t ∙ k) in
        let idle = idle_after (gave_any mid whole r_.jobs) w.idle in
        subst (λ o. StepSo (call_behind whole r_.jobs (all_heard mid whole r_.jobs) idle o) q) (sym x.well)
        (settles (all_emptied r_.jobs whole) q x.jobs x.now idle (still mid whole (all_emptied r_.jobs whole) q x.left back.so_far (gave_any mid whole r_.jobs) refl)
        x.agrees (x.saps_are ∙ same) (record { meets = x.meets; empty = λ s i. x.empty s (ap (is_in s) same ∙ i) }))

    module _ (k : ℕ) (reply : List ℕ) (q : PeerState) where
      abbrev TurnSo : AllReady → Type 0
      TurnSo r = PeerSteps p (given silent k r.llc) reply q
          → StepSo (took (after_giving silent k r.llc) (taken_from silent (after_giving silent k r.llc) reply) r.jobs w.idle) q

      turned : TurnSo (record { llc = r_.to; jobs = r_.jobs })
      turned s =
          let mid = after_giving silent k r_.to in
          let there = taken_from serving p (given silent k r_.to) in
          let out = ready_presses limit table names old z plan r_.now keeps rests (debts w.llc.own) (others p) r_.to p presses k in
          heard_on mid (taken_from silent mid reply) q
          (subst (λ v. Back mid q (taken_from silent mid v)) (sym s.reply_is)
          (subst (λ v. Back mid v (taken_from silent mid (given serving s.count there))) (sym s.left)
          (pressed_answers limit table names old z plan r_.now keeps rests (debts w.llc.own) (others p) mid there out s.count)))

      turns : TurnSo (all_readied w.jobs w.llc)
      turns = subst TurnSo (sym r_.is) turned

  -- and so from any step
  pub turns_so : (w : Working) (p : PeerState) → StepSo (Goes w) p → (k : ℕ) (reply : List ℕ) (q : PeerState) → PeerSteps p (payload k w) reply q → StepSo (replied k w reply) q
  turns_so w p (job, a, e, on, h, f) k reply q s = turns w p job a e on h f k reply q s
