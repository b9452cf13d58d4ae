-- What a request comes to at a peer that its client accords with.
use Rattle.std.proofs.Common.{◌≡◌, ◌<◌, ◌≤◌, ◌⊎◌, ℕ, Bool, true, false, List, [], ◌∷◌, ◌++◌, Option, None, is_some, refl, sym, ◌∙◌, ap, subst, inl, inr, arith, append-nil}
use Rattle.nfc_base.specs.declared.carrier.EndCause.{EndCause}
use Rattle.nfc_base.specs.Links.{CarrierView, FarStep}
use Rattle.llcp_pdu.specs.General.{IsMiu}
use Rattle.llcp_link.proofs.Clients.{is_self}
use Rattle.llcp_link.specs.State.{Bound, conn_from, own_from}
use Rattle.snep_core.specs.declared.fault.SnepFault.{SnepFault}
use Rattle.snep_core.specs.declared.job.Refusal.{Refusal}
use Rattle.snep_core.specs.declared.job.Refusal.TheVariants as refusals
use Rattle.snep_core.specs.Accord.{Accords, IsAnswered, IsClientSap, IsPeer, PeerState}
use Rattle.snep_core.specs.Calling.{RequestFails, Talks, fault_of, gives_up, refused_by}
use Rattle.snep_core.specs.Jobs.{Begins, Ending, Job, Over, Refused}
use Rattle.snep_core.specs.Payloads.{accepted_from}
use Rattle.snep_core.specs.Server.{Received, received}
use Rattle.snep_core.specs.Session.{Offer, fresh_session}
use Rattle.snep_core.specs.Talk.{EndState, Ends, Step, begun, behind_first, connected, is_over, one_on, sap_of_slot}
use Rattle.snep_core.proofs.requests.Conversations.{Conversation, Converses, Starts}
use Rattle.snep_core.proofs.jobs.Courses.{Course, breaks_off, came}
use Rattle.snep_core.proofs.accord.AllOver.{IsDone, accords_again, jobs_course, others_got}
use Rattle.snep_core.proofs.accord.Ends.{accord_begins, sizes_of}
use Rattle.snep_core.proofs.connections.Meets.{is_in}
use Rattle.snep_core.proofs.connections.Places.{Plan, StandsBy, Talking}
use Rattle.snep_core.proofs.sessions.Shares.{whole_of}
use Rattle.snep_core.proofs.connections.Sides.{Sizes}
use Rattle.snep_core.proofs.requests.OneJob.{OneMeets, OneRests, idles, is_ours, job_here, jobs, keeps, mine, only_mine, ours, plan, plan_by, ranges, rests, unlike}
use Rattle.snep_core.proofs.jobs.Turns.{few_at_first}
use Rattle.snep_core.proofs.requests.RequestAnswers.{request_converses, request_starts}
use Rattle.snep_core.proofs.requests.RequestPhases.{Asked, Came, ContinueHeard, Continues, Holds, IsRead, Outcome, Phase, Refusing, Rejected, RefusalHeard, Sending, Submitted, Unsent, accepted_at}
use Rattle.snep_core.proofs.requests.RequestPhases.{bytes_of, conversation}

ends_nowhere : (most : Option ℕ) (rest : List ℕ) (e : Ending) → Over e ≡ behind_first most rest → ⊥
ends_nowhere most [] e q = cc
ends_nowhere most (b ∷ bs) e q = cc

module _ (sap : ℕ) (range : IsClientSap sap) (ask : Asked) (p : PeerState) (read : IsRead p.service.limit ask) {end : Ending} {now : List Received}
    (o : Outcome sap p.service.limit p.service.table ask p.service.accepted end now) (z : Sizes) where
  abbrev limit : ℕ
  limit = p.service.limit

  abbrev table : List Offer
  table = p.service.table

  abbrev names : List Bound
  names = p.bound

  abbrev old : List Received
  old = p.service.accepted

  -- the request at this peer
  abbrev pub conv : ℕ → ℕ → Conversation
  conv miu size = conversation miu limit table ask old (o.later size)

  pub laws : (miu size : ℕ) → IsMiu miu → IsMiu size → Converses sap limit table (conv miu size) miu size
  laws miu size range fits = request_converses sap miu size limit table ask old (o.later size) (o.converses miu size range fits) (o.whole miu size) range fits read

  pub starts : (miu size : ℕ) → Starts sap limit table (conv miu size) (Begins ask.most (bytes_of ask)) old
  starts miu size = request_starts sap miu limit table ask old (o.later size)

  abbrev Asking : (ℕ → Job) → EndState → PeerState → Type 0
  Asking job l q = OneMeets limit table names old z sap conv ask.most (bytes_of ask) range laws job l q

  abbrev pub Rests_ : (ℕ → Job) → EndState → PeerState → Type 0
  Rests_ job l q = OneRests limit table names old z sap conv ask.most (bytes_of ask) range laws job l q

  -- what is accepted at its end is, and it is within the limit; or nothing was accepted
  abbrev pub AddsSome : List Received → Type 0
  AddsSome accepted = (accepted ≡ old) ⊎ ((accepted ≡ now) × (ask.size ≤ limit))

  module _ (miu size : ℕ) where
    abbrev Here : Type 0
    Here = Phase (o.later size).Phase

    abbrev holds_at : Here → Type 0
    holds_at ph = Holds miu limit table ask old (o.later size) ph

    pub at_phase : (ph : Here) → holds_at ph → AddsSome (accepted_at miu limit table ask old (o.later size) ph)
    at_phase Unsent h = inl refl
    at_phase Submitted h = inl refl
    at_phase Refusing h = inl refl
    at_phase RefusalHeard h = inl refl
    at_phase Continues h = inl refl
    at_phase ContinueHeard h = inl refl
    at_phase (Sending info queue rest) h = inl refl
    at_phase Rejected h = inl refl
    at_phase (Came ph) h = inr (o.adds size ph, o.within size ph h)

    now_is : now ≡ old ++ received sap (o.whole miu size).accepts
    now_is = sym (o.adds size (o.whole miu size).at) ∙ (o.whole miu size).accepted_is

  -- what stands at the job's SAP
  abbrev By : Job → Bool → Bool → EndState → PeerState → Type 0
  By job a w l q = StandsBy limit table old z sap (plan_by limit table names old z sap conv ask.most (bytes_of ask) range laws true) job a w (own_from sap l.own) (conn_from sap q.served) q.service

  abbrev Talks_ : Job → EndState → PeerState → Type 0
  Talks_ job l q = Talking limit table old z sap (plan_by limit table names old z sap conv ask.most (bytes_of ask) range laws true) job (own_from sap l.own) (conn_from sap q.served) q.service

  abbrev plan_ : ℕ → Plan
  plan_ s = plan limit table names old z sap conv ask.most (bytes_of ask) range laws s

  module _ (job : ℕ → Job) (l : EndState) (q : PeerState) (h : Asking job l q) where
    -- what was accepted, where it is so from the job's SAP
    all_accepted : (m : Option (List ℕ)) → accepted_from sap q.service.accepted ≡ accepted_from sap (old ++ received sap m) → q.service.accepted ≡ old ++ received sap m
    all_accepted m e =
        whole_of sap old q.service.accepted h.sides.kept.more m h.sides.kept.grew
        (λ s n. others_got limit table names old z plan_ (keeps limit table names old z sap conv ask.most (bytes_of ask) range laws)
        (rests limit table names old z sap conv ask.most (bytes_of ask) range laws) (ours limit table names old z sap conv ask.most (bytes_of ask) range laws)
        (unlike limit table names old z sap conv ask.most (bytes_of ask) range laws) (ranges limit table names old z sap conv ask.most (bytes_of ask) range laws)
        (mine limit table names old z sap conv ask.most (bytes_of ask) range laws) (idles limit table names old z sap conv ask.most (bytes_of ask) range laws)
        job l q h s (ap (λ b. (plan_by limit table names old z sap conv ask.most (bytes_of ask) range laws b).is_job) n)) e

    nothing_more : accepted_from sap q.service.accepted ≡ accepted_from sap old → q.service.accepted ≡ old
    nothing_more e =
        all_accepted None (e ∙ ap (accepted_from sap) (sym (append-nil old))) ∙ append-nil old

    and_now : (miu size : ℕ) → accepted_from sap q.service.accepted ≡ accepted_from sap now → q.service.accepted ≡ now
    and_now miu size e =
        all_accepted (o.whole miu size).accepts (e ∙ ap (accepted_from sap) (now_is miu size)) ∙ sym (now_is miu size)

    by_phase : (t : Talks_ (job sap) l q) → AddsSome ((conv t.n.server_miu t.n.client_miu).accepted_at t.phase) → AddsSome q.service.accepted
    by_phase t (inl e) = inl (nothing_more (t.serves.got ∙ ap (accepted_from sap) e))
    by_phase t (inr (e, w)) = inr (and_now t.n.server_miu t.n.client_miu (t.serves.got ∙ ap (accepted_from sap) e), w)

    adds_by : (a w : Bool) → By (job sap) a w l q → AddsSome q.service.accepted
    adds_by true w y = inl (nothing_more y.got)
    adds_by false true y = inl (nothing_more y.serves.got)
    adds_by false false (inl y) = inl (nothing_more y.got)
    adds_by false false (inr t) = by_phase t (at_phase t.n.server_miu t.n.client_miu t.phase t.holds)

    stands_ : By (job sap) (is_in sap h.asked) (is_in sap h.awaited) l q
    stands_ =
        subst (λ b. StandsBy limit table old z sap (plan_by limit table names old z sap conv ask.most (bytes_of ask) range laws b) (job sap) (is_in sap h.asked) (is_in sap h.awaited)
        (own_from sap l.own)
        (conn_from sap q.served) q.service) (is_self sap) (h.sides.at sap)

  adds_some : (job : ℕ → Job) (l : EndState) (q : PeerState) → Asking job l q → AddsSome q.service.accepted
  adds_some job l q h = adds_by job l q h (is_in sap h.asked) (is_in sap h.awaited) (stands_ job l q h)

  -- it came to its outcome within the limit, or was rejected above it
  abbrev pub Fate : Ending → PeerState → Type 0
  Fate e q = ((e ≡ end) × (ask.size ≤ limit) × (q.service.accepted ≡ now)) ⊎ ((e ≡ Refused refusals.Reject) × (limit < ask.size) × (q.service.accepted ≡ old))

  -- It is over, and nothing is under way.
  pub record Ended (e : Ending) (l : EndState) (q : PeerState) : Type 0 where
    pub fate : Fate e q
    pub answered : IsAnswered sap p l q

  -- at the phases at which it is over nothing is left
  pub over_at : (miu size : ℕ) (e : Ending) (ph : Here miu size) → Over e ≡ (conv miu size).job_at ph → (conv miu size).Holds ph
      → ((conv miu size).queue_at ph ≡ []) × ((conv miu size).units_at ph ≡ []) × ((conv miu size).session_at ph ≡ fresh_session)
  over_at miu size e Unsent j k = absurd cc
  over_at miu size e Submitted j k = absurd (ends_nowhere ask.most _ e j)
  over_at miu size e Refusing j k = absurd (ends_nowhere ask.most _ e j)
  over_at miu size e RefusalHeard j k = absurd (ends_nowhere ask.most _ e j)
  over_at miu size e Continues j k = absurd (ends_nowhere ask.most _ e j)
  over_at miu size e ContinueHeard j k = absurd (ends_nowhere ask.most _ e j)
  over_at miu size e (Sending info queue rest) j k = absurd cc
  over_at miu size e Rejected j k = (refl, refl, refl)
  over_at miu size e (Came ph) j k = let w = o.ends size ph e j in (w.queue_is, w.units_is, w.session_is)

  -- what it comes to at them
  pub fate_at : (miu size : ℕ) (e : Ending) (ph : Here miu size) → Over e ≡ (conv miu size).job_at ph → (conv miu size).Holds ph
      → ((e ≡ end) × (ask.size ≤ limit) × ((conv miu size).accepted_at ph ≡ now)) ⊎ ((e ≡ Refused refusals.Reject) × (limit < ask.size) × ((conv miu size).accepted_at ph ≡ old))
  fate_at miu size e Unsent j k = absurd cc
  fate_at miu size e Submitted j k = absurd (ends_nowhere ask.most _ e j)
  fate_at miu size e Refusing j k = absurd (ends_nowhere ask.most _ e j)
  fate_at miu size e RefusalHeard j k = absurd (ends_nowhere ask.most _ e j)
  fate_at miu size e Continues j k = absurd (ends_nowhere ask.most _ e j)
  fate_at miu size e ContinueHeard j k = absurd (ends_nowhere ask.most _ e j)
  fate_at miu size e (Sending info queue rest) j k = absurd cc
  fate_at miu size e Rejected j k = inr ((let w : e ≡ Refused refusals.Reject = cc in w), k, refl)
  fate_at miu size e (Came ph) j k = let w = o.ends size ph e j in inl (w.end_is, o.within size ph k, o.adds size ph)

  -- where the peer had a connection as the call began
  abbrev Began : Type 0
  Began = (s : ℕ) → z.there s ≡ is_some (conn_from s p.served)

  module _ (began : Began) (job : ℕ → Job) (e : Ending) (l : EndState) (q : PeerState) (h : Asking job l q) (is : job sap ≡ Over e) (free : (is_in sap h.asked ≡ false) × (is_in sap h.awaited ≡ false))
      (t : Talks_ (job sap) l q) where
    abbrev c : Conversation
    c = conv t.n.server_miu t.n.client_miu

    -- nothing of it is left
    abbrev DoneBy : Bool → Type 0
    DoneBy b =
        (y : Talking limit table old z sap (plan_by limit table names old z sap conv ask.most (bytes_of ask) range laws b) (job sap) (own_from sap l.own) (conn_from sap q.served) q.service)
        → (((plan_by limit table names old z sap conv ask.most (bytes_of ask) range laws b).conv y.n.server_miu y.n.client_miu).queue_at y.phase ≡ [])
        × (((plan_by limit table names old z sap conv ask.most (bytes_of ask) range laws b).conv y.n.server_miu y.n.client_miu).units_at y.phase ≡ [])
        × (((plan_by limit table names old z sap conv ask.most (bytes_of ask) range laws b).conv y.n.server_miu y.n.client_miu).session_at y.phase ≡ fresh_session)

    done_here : DoneBy true
    done_here y = over_at y.n.server_miu y.n.client_miu e y.phase (sym is ∙ y.job_is) y.holds

    done_at : (s : ℕ) → (plan_ s).is_job ≡ true → IsDone limit table names old z plan_ (keeps limit table names old z sap conv ask.most (bytes_of ask) range laws)
        (rests limit table names old z sap conv ask.most (bytes_of ask) range laws) (ours limit table names old z sap conv ask.most (bytes_of ask) range laws)
        (unlike limit table names old z sap conv ask.most (bytes_of ask) range laws) (ranges limit table names old z sap conv ask.most (bytes_of ask) range laws)
        (mine limit table names old z sap conv ask.most (bytes_of ask) range laws) (idles limit table names old z sap conv ask.most (bytes_of ask) range laws) job l q h s
    done_at s m =
        subst (λ r. IsDone limit table names old z plan_ (keeps limit table names old z sap conv ask.most (bytes_of ask) range laws)
        (rests limit table names old z sap conv ask.most (bytes_of ask) range laws) (ours limit table names old z sap conv ask.most (bytes_of ask) range laws)
        (unlike limit table names old z sap conv ask.most (bytes_of ask) range laws) (ranges limit table names old z sap conv ask.most (bytes_of ask) range laws)
        (mine limit table names old z sap conv ask.most (bytes_of ask) range laws) (idles limit table names old z sap conv ask.most (bytes_of ask) range laws) job l q h r)
        (sym (only_mine limit table names old z sap conv ask.most (bytes_of ask) range laws s m)) (subst DoneBy (sym (is_self sap)) done_here)

    answered_so : IsAnswered sap p l q
    answered_so = record {
      limit = h.sides.kept.most;
      table = h.sides.kept.offers;
      bound = h.sides.reached.0;
      others = λ s n. h.stays s (ap (λ b. (plan_by limit table names old z sap conv ask.most (bytes_of ask) range laws b).is_job) n) ∙ began s;
      accords = accords_again limit table names old z plan_ (keeps limit table names old z sap conv ask.most (bytes_of ask) range laws)
          (rests limit table names old z sap conv ask.most (bytes_of ask) range laws) (ours limit table names old z sap conv ask.most (bytes_of ask) range laws)
          (unlike limit table names old z sap conv ask.most (bytes_of ask) range laws) (ranges limit table names old z sap conv ask.most (bytes_of ask) range laws)
          (mine limit table names old z sap conv ask.most (bytes_of ask) range laws) (idles limit table names old z sap conv ask.most (bytes_of ask) range laws) job l q h
          (λ s m. subst (λ r. is_over (job r) ≡ true) (sym (only_mine limit table names old z sap conv ask.most (bytes_of ask) range laws s m)) (ap is_over is)) done_at;
    }

    ended_at : (ph : c.Phase) → t.phase ≡ ph → Over e ≡ c.job_at ph → c.Holds ph → Ended e l q
    ended_at Unsent i j k = absurd cc
    ended_at Submitted i j k = absurd (ends_nowhere ask.most _ e j)
    ended_at Refusing i j k = absurd (ends_nowhere ask.most _ e j)
    ended_at RefusalHeard i j k = absurd (ends_nowhere ask.most _ e j)
    ended_at Continues i j k = absurd (ends_nowhere ask.most _ e j)
    ended_at ContinueHeard i j k = absurd (ends_nowhere ask.most _ e j)
    ended_at (Sending info queue rest) i j k = absurd cc
    ended_at Rejected i j k = record {
      fate = inr ((let w : e ≡ Refused refusals.Reject = cc in w), k, nothing_more job l q h (t.serves.got ∙ ap (λ w. accepted_from sap (c.accepted_at w)) i));
      answered = answered_so;
    }
    ended_at (Came ph) i j k =
        let w = o.ends t.n.client_miu ph e j in record {
          fate = inl (
            w.end_is,
            o.within t.n.client_miu ph k,
            and_now job l q h t.n.server_miu t.n.client_miu (t.serves.got ∙ ap (λ v. accepted_from sap (c.accepted_at v)) i ∙ ap (accepted_from sap) (o.adds t.n.client_miu ph)),
          );
          answered = answered_so;
        }

  pub ended : Began → (job : ℕ → Job) (e : Ending) (l : EndState) (q : PeerState) → job sap ≡ Over e → Rests_ job l q → Ended e l q
  ended began job e l q is x = go (is_in sap x.meets.asked) (is_in sap x.meets.awaited) refl refl (stands_ job l q x.meets)
    where
      go : (a w : Bool) → is_in sap x.meets.asked ≡ a → is_in sap x.meets.awaited ≡ w → By (job sap) a w l q → Ended e l q
      go true w ea ew y = absurd (let k = sym is ∙ y.job_is in cc)
      go false true ea ew y = absurd (let k = sym is ∙ y.job_is in cc)
      go false false ea ew (inl y) = absurd (let k = y.none in cc)
      go false false ea ew (inr t) = ended_at began job e l q x.meets is (ea, ew) t t.phase refl (sym is ∙ t.job_is) t.holds

-- the SAP of a slot is one of the client's
pub slot_range : (slot : ℕ) → slot < 8 → IsClientSap (sap_of_slot slot)
slot_range slot h = (omega arith, omega (arith, h))

module _ {C A : Type 0} (seen : C → CarrierView) (swaps : C → List ℕ → List FarStep → C → Type 0) (steps : A → List ℕ → List ℕ → A → Type 0) (stops : A → List ℕ → A → Type 0)
    (view : A → PeerState) (peer : IsPeer steps stops view) (client : EndState) (link : C) (far : A) (a : Accords client (view far)) (numbers : List ℕ)
    (sap : ℕ) (range : IsClientSap sap) (ask : Asked) (read : IsRead (view far).service.limit ask) {end : Ending} {added : List Received}
    (o : Outcome sap (view far).service.limit (view far).service.table ask (view far).service.accepted end added) where
  abbrev peer_state : PeerState
  peer_state = view far

  abbrev z_ : Sizes
  z_ = sizes_of client peer_state

  abbrev from : Step
  from = begun (connected client sap) (one_on sap (Begins ask.most (bytes_of ask)))

  abbrev Adds_ : List Received → Type 0
  Adds_ accepted = AddsSome sap range ask peer_state read o z_ accepted

  abbrev course : Course Adds_
  course = jobs_course peer_state.service.limit peer_state.service.table peer_state.bound peer_state.service.accepted z_
      (plan peer_state.service.limit peer_state.service.table peer_state.bound peer_state.service.accepted z_ sap (conv sap range ask peer_state read o z_) ask.most (bytes_of ask) range
      (laws sap range ask peer_state read o z_))
      (keeps peer_state.service.limit peer_state.service.table peer_state.bound peer_state.service.accepted z_ sap (conv sap range ask peer_state read o z_) ask.most (bytes_of ask) range
      (laws sap range ask peer_state read o z_)) (rests peer_state.service.limit peer_state.service.table peer_state.bound peer_state.service.accepted z_ sap
      (conv sap range ask peer_state read o z_) ask.most (bytes_of ask) range (laws sap range ask peer_state read o z_))
      (ours peer_state.service.limit peer_state.service.table peer_state.bound peer_state.service.accepted z_ sap (conv sap range ask peer_state read o z_) ask.most (bytes_of ask) range
      (laws sap range ask peer_state read o z_))
      (unlike peer_state.service.limit peer_state.service.table peer_state.bound peer_state.service.accepted z_ sap (conv sap range ask peer_state read o z_) ask.most (bytes_of ask) range
      (laws sap range ask peer_state read o z_)) (ranges peer_state.service.limit peer_state.service.table peer_state.bound peer_state.service.accepted z_ sap
      (conv sap range ask peer_state read o z_) ask.most (bytes_of ask) range (laws sap range ask peer_state read o z_))
      (mine peer_state.service.limit peer_state.service.table peer_state.bound peer_state.service.accepted z_ sap (conv sap range ask peer_state read o z_) ask.most (bytes_of ask) range
      (laws sap range ask peer_state read o z_))
      (idles peer_state.service.limit peer_state.service.table peer_state.bound peer_state.service.accepted z_ sap (conv sap range ask peer_state read o z_) ask.most (bytes_of ask) range
      (laws sap range ask peer_state read o z_)) Adds_ (adds_some sap range ask peer_state read o z_)

  abbrev conv_ : ℕ → ℕ → Conversation
  conv_ = conv sap range ask peer_state read o z_

  begins_so : course.At from peer_state
  begins_so = (
    jobs peer_state.service.limit peer_state.service.table peer_state.bound peer_state.service.accepted z_ sap conv_ ask.most (bytes_of ask) range (laws sap range ask peer_state read o z_)
        (Begins ask.most (bytes_of ask)),
    (
      job_here peer_state.service.limit peer_state.service.table peer_state.bound peer_state.service.accepted z_ sap conv_ ask.most (bytes_of ask) range (laws sap range ask peer_state read o z_)
          (Begins ask.most (bytes_of ask)),
      tt,
    ),
    refl,
    refl,
    accord_begins client peer_state a sap range conv_ ask.most (bytes_of ask) (laws sap range ask peer_state read o z_) (starts sap range ask peer_state read o z_),
    few_at_first peer_state.service.limit peer_state.service.table peer_state.bound peer_state.service.accepted z_
        (plan peer_state.service.limit peer_state.service.table peer_state.bound peer_state.service.accepted z_ sap conv_ ask.most (bytes_of ask) range (laws sap range ask peer_state read o z_))
        (keeps peer_state.service.limit peer_state.service.table peer_state.bound peer_state.service.accepted z_ sap conv_ ask.most (bytes_of ask) range (laws sap range ask peer_state read o z_))
        (rests peer_state.service.limit peer_state.service.table peer_state.bound peer_state.service.accepted z_ sap conv_ ask.most (bytes_of ask) range (laws sap range ask peer_state read o z_))
        (ours peer_state.service.limit peer_state.service.table peer_state.bound peer_state.service.accepted z_ sap conv_ ask.most (bytes_of ask) range (laws sap range ask peer_state read o z_))
        (unlike peer_state.service.limit peer_state.service.table peer_state.bound peer_state.service.accepted z_ sap conv_ ask.most (bytes_of ask) range (laws sap range ask peer_state read o z_))
        (ranges peer_state.service.limit peer_state.service.table peer_state.bound peer_state.service.accepted z_ sap conv_ ask.most (bytes_of ask) range (laws sap range ask peer_state read o z_))
        (mine peer_state.service.limit peer_state.service.table peer_state.bound peer_state.service.accepted z_ sap conv_ ask.most (bytes_of ask) range (laws sap range ask peer_state read o z_))
        sap (is_ours peer_state.service.limit peer_state.service.table peer_state.bound peer_state.service.accepted z_ sap conv_ ask.most (bytes_of ask) range
        (laws sap range ask peer_state read o z_)) (connected client sap) peer_state,
  )

  came_to : (to : Step) (now : C) (after : A) → Talks seen swaps steps stops numbers from link far to now after → course.At to (view after)
  came_to to now after t = came Adds_ course seen swaps steps stops view peer numbers from to link now far after begins_so t

  -- it was answered
  pub request_ended : (e : Ending) (new : EndState) (now : C) (after : A) → Talks seen swaps steps stops numbers from link far (Ends (one_on sap (Over e)) new) now after
      → Ended sap range ask peer_state read o z_ e new (view after)
  request_ended e new now after t =
      let w = came_to (Ends (one_on sap (Over e)) new) now after t in
      ended sap range ask peer_state read o z_ (λ s. refl) w.0 e new (view after) w.1.0 w.4

  -- It was refused; or it broke off.
  abbrev pub Failed : SnepFault → EndState → A → Type 0
  Failed e new after =
      ((why : Refusal) × (e ≡ refused_by why) × Ended sap range ask peer_state read o z_ (Refused why) new (view after))
      ⊎ ((why : EndCause) × (e ≡ fault_of why) × Adds_ (view after).service.accepted)

  pub request_failed : (e : SnepFault) (new : EndState) (now : C) (after : A) → RequestFails seen swaps steps stops sap numbers from link far e new now after → Failed e new after
  request_failed e new now after (inl h) = inl (h.why, h.fault, request_ended (Refused h.why) new now after h.talks)
  request_failed e new now after (inr (inl (f, k, t))) = absurd (came_to (gives_up k new) now after t)
  request_failed e new now after (inr (inr b)) =
      let k = breaks_off Adds_ course seen swaps steps stops view peer numbers from link far e new now after begins_so b in
      inr (k.why, k.fault, k.added)
