-- What a server answers a request before all of it came, what the client makes of it, and what the client submits.
use Rattle.std.proofs.Common.{◌≡◌, ◌<◌, ◌≤◌, ◌⊎◌, nat_lt, ℕ, zero, suc, ◌+◌, is_none, Bool, true, false, List, [], ◌∷◌, ◌++◌, length, take, drop, Option, Some, None, refl, sym, ◌∙◌, ap, subst, inl}
use Rattle.std.proofs.Common.{inr, arith, append-nil, append_assoc, length-append, if◌then◌else◌}
use Rattle.std.specs.List.{concat}
use Rattle.std.proofs.lemmas.Bool.{le-ltb, ltb-false, ltb-true}
use Rattle.llcp_conn.specs.declared.fault.ConnFault.TheVariants.{TooLong, WindowFull}
use Rattle.llcp_link.specs.State.{OwnState}
use Rattle.llcp_link.specs.declared.standing.Standing.TheVariants as stands
use Rattle.llcp_link.proofs.Ranged.{either}
use Rattle.std.proofs.lemmas.List.{drop_all, length-drop, length-take, nil_from_length, take-append-drop, take_all}
use Rattle.llcp_pdu.specs.General.{IsMiu}
use Rattle.snep_core.specs.declared.message.Answer.{Answer}
use Rattle.snep_core.specs.declared.message.Answer.TheVariants as answers
use Rattle.snep_core.specs.declared.session.Due.TheVariants.{Tells as Tells_}
use Rattle.snep_core.specs.declared.session.Word.TheVariants.{Answers}
use Rattle.snep_core.specs.declared.job.Refusal.TheVariants as refusals
use Rattle.snep_core.specs.Cuts.{NoneEmpty}
use Rattle.snep_core.specs.First.{info_of}
use Rattle.snep_core.specs.Accord.{IsPaired, Numbers}
use Rattle.snep_core.specs.Jobs.{Begins, Over, Refused, Sends, job_told}
use Rattle.snep_core.specs.Message.{message}
use Rattle.snep_core.specs.Server.{Received, ServerState, serving}
use Rattle.snep_core.specs.Session.{Offer, Sent, Session, fresh_session, sent}
use Rattle.snep_core.specs.Talk.{EndState, behind_first, finished, is_over, miu_of}
use Rattle.snep_core.proofs.requests.Conversations.{AllWithin, Comes, Conversation, Converses, Hears, MayTell, Readies, StandsAt, Starts, Tells, hears_nothing, no_unit, stays}
use Rattle.snep_core.proofs.connections.OnConnection.{OnIt, begin_on, conn_at, on_so, readied_on, sent_on, some_on, submits_on, takes_on}
use Rattle.snep_core.proofs.sessions.Served.{Serves, due_is, serves_sent}
use Rattle.snep_core.proofs.requests.RequestPhases.{Asked, Came, ContinueHeard, Continues, IsRead, Phase, Refusing, Rejected, RefusalHeard, Sending, Unsent, Submitted, Whole, Holds, accepted_at}
use Rattle.snep_core.proofs.requests.RequestPhases.{begun_info, bytes_of, conversation, first_comes, first_unit, gathering, job_at, later_comes, queue_at, rest_units, session_at, units_at}

miu_some : (n : ℕ) → 0 < n → miu_of (stands.Open n) ≡ Some n
miu_some zero h = absurd (omega arith)
miu_some (suc n) h = refl

-- a unit that is taken leaves the window as it must be
room_by : (b c : Bool) → is_none (if b then Some TooLong else (if c then None else Some WindowFull)) ≡ true → c ≡ true
room_by true c h = absurd cc
room_by false true h = refl
room_by false false h = absurd cc

pub concat_more : (us : List (List ℕ)) (u : List ℕ) → concat (us ++ u ∷ []) ≡ concat us ++ u
concat_more [] u = append-nil u
concat_more (x ∷ us) u = ap (λ z. x ++ z) (concat_more us u) ∙ sym (append_assoc x (concat us) u)

pub none_more : (us : List (List ℕ)) (u : List ℕ) → NoneEmpty us → 0 < length u → NoneEmpty (us ++ u ∷ [])
none_more [] u h k = (k, tt)
none_more (x ∷ us) u h k = (h.0, none_more us u h.1 k)

within_more : (miu : ℕ) (us : List (List ℕ)) (u : List ℕ) → AllWithin miu us → length u ≤ miu → AllWithin miu (us ++ u ∷ [])
within_more miu [] u h k = (k, tt)
within_more miu (x ∷ us) u h k = (h.0, within_more miu us u h.1 k)

pub behind_plain : (sap : ℕ) (l : EndState) (most : Option ℕ) (rest : List ℕ) → finished l sap (behind_first most rest) ≡ behind_first most rest
behind_plain sap l most [] = refl
behind_plain sap l most (b ∷ bs) = refl

module _ (sap : ℕ) (n : Numbers) where
  pub takes_room : (queue units : List (List ℕ)) (u : List ℕ) → takes_on (conn_at sap n queue units) u ≡ true → length n.asked + length queue < n.server_window
  takes_room queue units u e =
      ltb-true (length n.asked + length queue) n.server_window
      (room_by (nat_lt n.server_miu (length u)) (nat_lt (length n.asked + length queue) n.server_window) e)

  -- one that isn't, though it isn't too long, leaves it full
  full_by : (b c : Bool) → b ≡ false → is_none (if b then Some TooLong else (if c then None else Some WindowFull)) ≡ false → c ≡ false
  full_by true c i h = absurd cc
  full_by false true i h = absurd cc
  full_by false false i h = refl

  pub no_room : (queue units : List (List ℕ)) (u : List ℕ) → length u ≤ n.server_miu → takes_on (conn_at sap n queue units) u ≡ false → n.server_window ≤ length n.asked + length queue
  no_room queue units u i e =
      ltb-false (length n.asked + length queue) n.server_window
      (full_by (nat_lt n.server_miu (length u)) (nat_lt (length n.asked + length queue) n.server_window) (le-ltb n.server_miu (length u) i) e)

  pub paired_more : (queue : List (List ℕ)) (u : List ℕ) → IsPaired n (length queue) → length n.asked + length queue < n.server_window → IsPaired n (length (queue ++ u ∷ []))
  paired_more queue u h room = record {
    client_miu = h.client_miu;
    server_miu = h.server_miu;
    client_window = h.client_window;
    server_window = h.server_window;
    asked = (let e = length-append queue (u ∷ []) in omega arith);
    told = h.told;
    asked_sa = h.asked_sa;
    told_sa = h.told_sa;
  }

  -- a window that is full while nothing is unacknowledged
  pub never_full : (queue : List (List ℕ)) (k : ℕ) → IsPaired n k → n.server_window ≤ length n.asked + length queue → queue ≡ [] → n.asked ≡ [] → ⊥
  never_full queue k r full q a =
      let w = r.server_window.0 in
      let x : length queue ≡ 0 = ap length q in
      let y : length n.asked ≡ 0 = ap length a in omega arith

  pub behind_stays : (most : Option ℕ) (miu : ℕ) → n.server_miu ≡ miu → (queue units : List (List ℕ)) (rest : List ℕ) → 0 < miu
      → readied_on (conn_at sap n queue units) (behind_first most rest) ≡ on_so (conn_at sap n queue units) (behind_first most rest)
  behind_stays most miu is queue units [] h =
      ap (sent_on (conn_at sap n queue units) most []) (ap (λ z. miu_of (stands.Open z)) is ∙ miu_some miu h)
  behind_stays most miu is queue units (b ∷ bs) h = refl

-- a session that is idle but for what is gathered
abbrev rested : Session → Session
rested x = record x { due = []; waiting = []; going = [] }

module _ (miu : ℕ) (range : IsMiu miu) where
  six_fit : (a : Answer) → length (message a []) ≡ 6 → length (message a []) ≤ miu
  six_fit a e = omega (arith, range.0)

  -- an answer goes out in one unit
  answer_sent : (x : Session) (a : Answer) → length (message a []) ≡ 6 → x.going ≡ [] → x.due ≡ Tells_ (Answers a) ∷ []
      → sent miu x ≡ record { session = rested x; unit = Some (message a []) }
  answer_sent x a six g d =
      ap (λ z. sent miu (record x { going = z; due = x.due })) g
      ∙ ap (λ z. sent miu (record x { going = []; due = z })) d
      ∙ ap (λ z. record { session = record (rested x) { going = z }; unit = Some (take miu (message a [])) }) (drop_all miu (message a []) (six_fit a six))
      ∙ ap (λ z. record { session = rested x; unit = Some z }) (take_all miu (message a []) (six_fit a six))

-- what a server says at a phase of any conversation
module _ (sap size limit : ℕ) (table : List Offer) (c : Conversation) where
  pub quiet : (ph : c.Phase) (s : ServerState) → StandsAt sap limit table c ph s → (z : Sent) → sent size (c.session_at ph) ≡ z → z.unit ≡ None → MayTell sap limit table c size ph s
  quiet ph s h z e n = inl (due_is sap limit table s (c.session_at ph) (c.accepted_at ph) h size z e ∙ n)

  pub says : IsMiu size → (ph to : c.Phase) (a : Answer) → length (message a []) ≡ 6 → (c.session_at ph).going ≡ [] → (c.session_at ph).due ≡ Tells_ (Answers a) ∷ []
      → rested (c.session_at ph) ≡ c.session_at to → c.accepted_at to ≡ c.accepted_at ph → c.Holds to → c.job_at to ≡ c.job_at ph → c.queue_at to ≡ c.queue_at ph
      → c.units_at to ≡ c.units_at ph ++ message a [] ∷ [] → (s : ServerState) → StandsAt sap limit table c ph s → Tells sap limit table c size ph s
  says fits ph to a six g d r same k j q u s h =
      let z : Sent = record { session = rested (c.session_at ph); unit = Some (message a []) } in
      let e : sent size (c.session_at ph) ≡ z = answer_sent size fits (c.session_at ph) a six g d in record {
        unit = message a [];
        due = due_is sap limit table s (c.session_at ph) (c.accepted_at ph) h size z e;
        short = six_fit size fits a six;
        some = omega arith;
        to = to;
        holds = k;
        job = j;
        queue_is = q;
        units_is = u;
        serves = subst (λ x. Serves sap limit table (serving.sent s sap size) x (c.accepted_at to)) r
            (subst (λ y. Serves sap limit table (serving.sent s sap size) (rested (c.session_at ph)) y) (sym same) (serves_sent sap limit table s (c.session_at ph) (c.accepted_at ph) h size z e));
      }

behind_over : (most : Option ℕ) (rest : List ℕ) → is_over (behind_first most rest) ≡ false
behind_over most [] = refl
behind_over most (b ∷ bs) = refl

module _ (sap miu size limit : ℕ) (table : List Offer) (ask : Asked) (old : List Received) (later : Conversation) (laws : Converses sap limit table later miu size) where
  abbrev Here_ : Type 0
  Here_ = Phase later.Phase

  abbrev Stands : Here_ → ServerState → Type 0
  Stands ph s = StandsAt sap limit table (conversation miu limit table ask old later) ph s

  abbrev May : Here_ → ServerState → Type 0
  May ph s = MayTell sap limit table (conversation miu limit table ask old later) size ph s

  abbrev at : Here_ → Session
  at ph = session_at miu limit table ask old later ph

  abbrev acc : Here_ → List Received
  acc ph = accepted_at miu limit table ask old later ph

  abbrev conv : Conversation
  conv = conversation miu limit table ask old later

  -- what came of it goes on as it does by itself
  comes_later : (ph : later.Phase) (queue units : List (List ℕ)) (s : ServerState) → Comes sap limit table later ph queue units s → Comes sap limit table conv (Came ph) queue units s
  comes_later ph queue units s x = record { to = Came x.to; holds = x.holds; job = x.job; queue_is = x.queue_is; units_is = x.units_is; serves = x.serves }

  tells_later : (ph : later.Phase) (s : ServerState) → Tells sap limit table later size ph s → Tells sap limit table conv size (Came ph) s
  tells_later ph s x = record {
    unit = x.unit;
    due = x.due;
    short = x.short;
    some = x.some;
    to = Came x.to;
    holds = x.holds;
    job = x.job;
    queue_is = x.queue_is;
    units_is = x.units_is;
    serves = x.serves;
  }

  may_later : (ph : later.Phase) (s : ServerState) → MayTell sap limit table later size ph s → MayTell sap limit table conv size (Came ph) s
  may_later ph s (inl e) = inl e
  may_later ph s (inr x) = inr (tells_later ph s x)

  hears_later : (ph : later.Phase) → Hears sap limit table later ph → Hears sap limit table conv (Came ph)
  hears_later ph x = record {
    to = Came x.to;
    holds = x.holds;
    told = x.told;
    apart = x.apart;
    queue_is = x.queue_is;
    units_is = x.units_is;
    session_is = x.session_is;
    accepted_is = x.accepted_is;
  }

  readies_later : (n : Numbers) (ph : later.Phase) → Readies sap limit table later size n ph → Readies sap limit table conv size n (Came ph)
  readies_later n ph x = record {
    to = Came x.to;
    holds = x.holds;
    paired = x.paired;
    ready = x.ready;
    session_is = x.session_is;
    accepted_is = x.accepted_is;
    same_units = x.same_units;
    same_over = x.same_over;
    busy = λ u o q a s h. tells_later x.to s (x.busy u o q a s h);
  }

  module _ (fits : IsMiu size) where
    request_tells : (ph : Here_) → Holds miu limit table ask old later ph → (s : ServerState) → Stands ph s → May ph s
    request_tells Unsent k s h = quiet sap size limit table conv Unsent s h (sent size fresh_session) refl refl
    request_tells Submitted k s h = quiet sap size limit table conv Submitted s h (sent size fresh_session) refl refl
    request_tells RefusalHeard k s h = quiet sap size limit table conv RefusalHeard s h (sent size fresh_session) refl refl
    request_tells ContinueHeard k s h = quiet sap size limit table conv ContinueHeard s h (sent size (at ContinueHeard)) refl refl
    request_tells (Sending info queue rest) k s h = quiet sap size limit table conv (Sending info queue rest) s h (sent size (at (Sending info queue rest))) refl refl
    request_tells Rejected k s h = quiet sap size limit table conv Rejected s h (sent size fresh_session) refl refl
    request_tells Refusing k s h = inr (says sap size limit table conv fits Refusing RefusalHeard answers.Reject refl refl refl refl refl k refl refl refl s h)
    request_tells (Came ph) k s h = may_later ph s (laws.tells ph k s h)
    request_tells Continues k s h = inr (says sap size limit table conv fits Continues ContinueHeard answers.Continue refl refl refl refl refl k refl refl refl s h)

  abbrev Heard_ : Here_ → Type 0
  Heard_ ph = Hears sap limit table (conversation miu limit table ask old later) ph

  refused_by : (rest : List ℕ) → job_told (behind_first ask.most rest) (message answers.Reject [] ∷ []) ≡ Some (Over (Refused refusals.Reject))
  refused_by [] = refl
  refused_by (b ∷ bs) = refl

  continued_by : (rest : List ℕ) → 0 < length rest → job_told (behind_first ask.most rest) (message answers.Continue [] ∷ []) ≡ Some (Sends ask.most rest)
  continued_by [] h = absurd (omega arith)
  continued_by (b ∷ bs) h = refl

  module _ (w : Whole miu limit table ask old later sap) (range : IsMiu miu) (read : IsRead limit ask) where
    request_hears : (ph : Here_) → Holds miu limit table ask old later ph → Heard_ ph
    request_hears Unsent k = hears_nothing sap limit table conv Unsent k refl
    request_hears Submitted k = hears_nothing sap limit table conv Submitted k refl
    request_hears Refusing k = hears_nothing sap limit table conv Refusing k refl
    request_hears Continues k = hears_nothing sap limit table conv Continues k refl
    request_hears (Sending info queue rest) k = hears_nothing sap limit table conv (Sending info queue rest) k refl
    request_hears Rejected k = hears_nothing sap limit table conv Rejected k refl
    request_hears RefusalHeard k = record {
      to = Rejected;
      holds = k;
      told = refused_by (rest_units miu limit table ask old later);
      apart = λ w. absurd cc;
      queue_is = refl;
      units_is = refl;
      session_is = refl;
      accepted_is = refl;
    }
    request_hears ContinueHeard k =
        let first = first_unit miu limit table ask old later in
        let rest = rest_units miu limit table ask old later in record {
          to = Sending (info_of first) [] rest;
          holds = (k.0, k.1, begun_info miu limit table ask old later sap w range read, tt, tt);
          told = continued_by rest k.1;
          apart = λ w. absurd cc;
          queue_is = refl;
          units_is = refl;
          session_is = refl;
          accepted_is = refl;
        }
    request_hears (Came ph) k = hears_later ph (laws.hears ph k)

  request_plain : (ph : Here_) (l : EndState) → finished l sap (job_at miu limit table ask old later ph) ≡ job_at miu limit table ask old later ph
  request_plain Unsent l = refl
  request_plain Submitted l = behind_plain sap l ask.most (rest_units miu limit table ask old later)
  request_plain Refusing l = behind_plain sap l ask.most (rest_units miu limit table ask old later)
  request_plain RefusalHeard l = behind_plain sap l ask.most (rest_units miu limit table ask old later)
  request_plain Continues l = behind_plain sap l ask.most (rest_units miu limit table ask old later)
  request_plain ContinueHeard l = behind_plain sap l ask.most (rest_units miu limit table ask old later)
  request_plain (Sending info queue rest) l = refl
  request_plain Rejected l = refl
  request_plain (Came ph) l = laws.plain ph l

  request_within : (ph : Here_) → Holds miu limit table ask old later ph → AllWithin miu (queue_at miu limit table ask old later ph)
  request_within Unsent k = tt
  request_within Submitted k = ((let e = length-take miu (bytes_of ask) in omega (arith, e)), tt)
  request_within Refusing k = tt
  request_within RefusalHeard k = tt
  request_within Continues k = tt
  request_within ContinueHeard k = tt
  request_within (Sending info queue rest) k = k.4
  request_within Rejected k = tt
  request_within (Came ph) k = laws.within ph k

  module _ (w : Whole miu limit table ask old later sap) (range : IsMiu miu) (read : IsRead limit ask) where
    request_comes : (ph : Here_) (u : List ℕ) (queue : List (List ℕ)) → queue_at miu limit table ask old later ph ≡ u ∷ queue → Holds miu limit table ask old later ph → (s : ServerState) → Stands ph s
        → Comes sap limit table (conversation miu limit table ask old later) ph queue (units_at miu limit table ask old later ph) (serving.brought s sap u)
    request_comes Submitted u queue e k s h =
        let i : first_unit miu limit table ask old later ≡ u = cc in
        let j : [] ≡ queue = cc in
        subst (λ q. Comes sap limit table (conversation miu limit table ask old later) Submitted q [] (serving.brought s sap u)) j
        (subst (λ v. Comes sap limit table (conversation miu limit table ask old later) Submitted [] [] (serving.brought s sap v)) i (first_comes miu limit table ask old later sap w range read s h))
    request_comes (Sending info [] rest) u queue e k s h = absurd (no_unit u queue e)
    request_comes (Sending info (v ∷ q) rest) u queue e k s h =
        let i : v ≡ u = cc in
        let j : q ≡ queue = cc in
        subst (λ z. Comes sap limit table (conversation miu limit table ask old later) (Sending info (v ∷ q) rest) z [] (serving.brought s sap u)) j
        (subst (λ z. Comes sap limit table (conversation miu limit table ask old later) (Sending info (v ∷ q) rest) q [] (serving.brought s sap z)) i
        (later_comes miu limit table ask old later sap w info v q rest k s h))
    request_comes Unsent u queue e k s h = absurd (no_unit u queue e)
    request_comes Refusing u queue e k s h = absurd (no_unit u queue e)
    request_comes RefusalHeard u queue e k s h = absurd (no_unit u queue e)
    request_comes Continues u queue e k s h = absurd (no_unit u queue e)
    request_comes ContinueHeard u queue e k s h = absurd (no_unit u queue e)
    request_comes Rejected u queue e k s h = absurd (no_unit u queue e)
    request_comes (Came ph) u queue e k s h = comes_later ph queue (later.units_at ph) (serving.brought s sap u) (laws.comes ph u queue e k s h)

  -- what the client submits
  module _ (n : Numbers) (is : n.server_miu ≡ miu) where
    abbrev Ready_ : Here_ → Type 0
    Ready_ ph = Readies sap limit table (conversation miu limit table ask old later) size n ph

    -- the server has an answer where the client has nothing to give and nothing unacknowledged
    abbrev Busy : Here_ → Here_ → Type 0
    Busy ph to = units_at miu limit table ask old later ph ≡ [] → is_over (job_at miu limit table ask old later ph) ≡ false → queue_at miu limit table ask old later to ≡ [] → n.asked ≡ []
        → (s : ServerState) → Stands to s → Tells sap limit table (conversation miu limit table ask old later) size to s

    -- a phase that another one stands for, as the client sees it
    as_at : (ph : Here_) (r : OnIt) → readied_on (conn_at sap n (queue_at miu limit table ask old later ph) (units_at miu limit table ask old later ph)) (job_at miu limit table ask old later ph) ≡ r
        → (to : Here_) → r ≡ on_so (conn_at sap n (queue_at miu limit table ask old later to) (units_at miu limit table ask old later to)) (job_at miu limit table ask old later to)
        → Holds miu limit table ask old later to → IsPaired n (length (queue_at miu limit table ask old later to)) → at to ≡ at ph → acc to ≡ acc ph
        → units_at miu limit table ask old later to ≡ units_at miu limit table ask old later ph → is_over (job_at miu limit table ask old later to) ≡ is_over (job_at miu limit table ask old later ph)
        → Busy ph to → Ready_ ph
    as_at ph r e to i k p x a us o w = record { to = to; holds = k; paired = p; ready = e ∙ i; session_is = x; accepted_is = a; same_units = us; same_over = o; busy = w }

    -- the rest goes out as far as the window allows
    record Sends_ (info : List ℕ) (x : Session) (r : OnIt) : Type 0 where
      pub queue : List (List ℕ)
      pub rest : List ℕ
      pub holds : Holds miu limit table ask old later (Sending info queue rest)
      pub paired : IsPaired n (length queue)
      pub ready : r ≡ on_so (conn_at sap n queue []) (Sends ask.most rest)
      pub same : at (Sending info queue rest) ≡ x
      pub full : (rest ≡ []) ⊎ (n.server_window ≤ length n.asked + length queue)

    sends : (info : List ℕ) (x : Session) (k : ℕ) (queue : List (List ℕ)) (rest : List ℕ) → Holds miu limit table ask old later (Sending info queue rest) → IsPaired n (length queue) → 0 < miu
        → length rest ≤ k
        → at (Sending info queue rest) ≡ x → Sends_ info x (some_on k miu (conn_at sap n queue []) ask.most rest)
    sends info x zero queue rest w r low i e = record { queue = queue; rest = rest; holds = w; paired = r; ready = refl; same = e; full = inl (nil_from_length rest (omega arith)) }
    sends info x (suc k) queue [] w r low i e = record { queue = queue; rest = []; holds = w; paired = r; ready = refl; same = e; full = inl refl }
    sends info x (suc k) queue (b ∷ bs) w r low i e =
        let u = take miu (b ∷ bs) in
        let rest = drop miu (b ∷ bs) in
        let len = length-take miu (b ∷ bs) in
        let same : concat (queue ++ u ∷ []) ++ rest ≡ concat queue ++ (b ∷ bs) =
        ap (λ z. z ++ rest) (concat_more queue u) ∙ append_assoc (concat queue) u rest ∙ ap (λ z. concat queue ++ z) (take-append-drop miu (b ∷ bs)) in
        let now : Holds miu limit table ask old later (Sending info (queue ++ u ∷ []) rest) = (
          w.0,
          subst (λ z. 0 < length z) (sym same) w.1,
          ap (λ z. info ++ z) same ∙ w.2,
          none_more queue u w.3 (omega (arith, low, len)),
          within_more miu queue u w.4 (omega (arith, len)),
        ) in
        either (Sends_ info x) (takes_on (conn_at sap n queue []) u) _ _
        (λ t. sends info x k (queue ++ u ∷ []) rest now (paired_more sap n queue u r (takes_room sap n queue [] u t)) low (let d = length-drop miu (b ∷ bs) in omega (arith, d, low, i))
        (ap (λ z. gathering ask.request (length z) info []) same ∙ e))
        (λ t. record {
          queue = queue;
          rest = b ∷ bs;
          holds = w;
          paired = r;
          ready = refl;
          same = e;
          full = inr (no_room sap n queue [] u (let z : n.server_miu ≡ miu = is in omega (arith, len, z)) t);
        })

    miu_is : 0 < miu → miu_of (stands.Open n.server_miu) ≡ Some miu
    miu_is low = ap (λ z. miu_of (stands.Open z)) is ∙ miu_some miu low

    abbrev bare_end : OwnState
    bare_end = conn_at sap n [] []

    abbrev first : List ℕ
    first = first_unit miu limit table ask old later

    abbrev behind : List ℕ
    behind = rest_units miu limit table ask old later

    abbrev chosen : Bool → OnIt
    chosen b =
        if b then on_so (submits_on bare_end first) (behind_first ask.most behind)
        else on_so bare_end (Begins ask.most (bytes_of ask))

    sending_on : (info : List ℕ) (queue : List (List ℕ)) (rest : List ℕ) → Holds miu limit table ask old later (Sending info queue rest) → IsPaired n (length queue)
        → ((rest ≡ []) ⊎ (n.server_window ≤ length n.asked + length queue)) → queue ≡ [] → n.asked ≡ [] → ⊥
    sending_on info queue rest k r (inr full) q a = never_full sap n queue (length queue) r full q a
    sending_on info queue rest k r (inl none) q a =
        let e : concat queue ++ rest ≡ [] = ap (λ z. concat z ++ rest) q ∙ none in
        let z : length (concat queue ++ rest) ≡ 0 = ap length e in
        let w = k.1 in omega arith

    request_readies : IsMiu size → (ph : Here_) → Holds miu limit table ask old later ph → 0 < miu → IsPaired n (length (queue_at miu limit table ask old later ph)) → Ready_ ph
    request_readies fits Submitted k low r =
        stays sap limit table conv Submitted k size n r (behind_stays sap n ask.most miu is (first ∷ []) [] behind low) (λ u o q s h. absurd (no_unit _ _ (sym q)))
    request_readies fits Refusing k low r =
        stays sap limit table conv Refusing k size n r (behind_stays sap n ask.most miu is [] [] behind low)
        (λ u o q s h. says sap size limit table conv fits Refusing RefusalHeard answers.Reject refl refl refl refl refl k refl refl refl s h)
    request_readies fits RefusalHeard k low r =
        stays sap limit table conv RefusalHeard k size n r (behind_stays sap n ask.most miu is [] (message answers.Reject [] ∷ []) behind low) (λ u o q s h. absurd (no_unit _ _ (sym u)))
    request_readies fits Continues k low r =
        stays sap limit table conv Continues k size n r (behind_stays sap n ask.most miu is [] [] behind low)
        (λ u o q s h. says sap size limit table conv fits Continues ContinueHeard answers.Continue refl refl refl refl refl k refl refl refl s h)
    request_readies fits ContinueHeard k low r =
        stays sap limit table conv ContinueHeard k size n r (behind_stays sap n ask.most miu is [] (message answers.Continue [] ∷ []) behind low) (λ u o q s h. absurd (no_unit _ _ (sym u)))
    request_readies fits Rejected k low r = stays sap limit table conv Rejected k size n r refl (λ u o q s h. absurd cc)
    request_readies fits (Came ph) k low r = readies_later n ph (laws.readies ph k n is r)
    request_readies fits Unsent k low r = go (takes_on bare_end first) refl
      where
        all : readied_on bare_end (Begins ask.most (bytes_of ask)) ≡ chosen (takes_on bare_end first)
        all = ap (begin_on bare_end ask.most (bytes_of ask)) (miu_is low)

        short : length first ≤ n.server_miu
        short = let e = length-take miu (bytes_of ask) in let z : n.server_miu ≡ miu = is in omega (arith, e, z)

        go : (b : Bool) → takes_on bare_end first ≡ b → Ready_ Unsent
        go true t = as_at Unsent (chosen true) (all ∙ ap chosen t) Submitted refl tt (paired_more sap n [] first r (takes_room sap n [] [] first t)) refl refl refl (behind_over ask.most behind)
            (λ u o q a s h. absurd (no_unit _ _ (sym q)))
        go false t = as_at Unsent (chosen false) (all ∙ ap chosen t) Unsent refl tt r refl refl refl refl (λ u o q a s h. absurd (never_full sap n [] 0 r (no_room sap n [] [] first short t) refl a))
    request_readies fits (Sending info queue rest) k low r =
        let x = sends info (at (Sending info queue rest)) (length rest) queue rest k r low (omega arith) refl in
        as_at (Sending info queue rest) (some_on (length rest) miu (conn_at sap n queue []) ask.most rest)
        (ap (sent_on (conn_at sap n queue []) ask.most rest) (miu_is low)) (Sending info x.queue x.rest) x.ready x.holds x.paired x.same refl refl refl
        (λ u o q a s h. absurd (sending_on info x.queue x.rest x.holds x.paired x.full q a))

  request_done : (ph : Here_) → Holds miu limit table ask old later ph → is_over (job_at miu limit table ask old later ph) ≡ true → queue_at miu limit table ask old later ph ≡ []
  request_done Unsent k o = refl
  request_done Submitted k o = absurd (let e : true ≡ false = sym o ∙ behind_over ask.most (rest_units miu limit table ask old later) in cc)
  request_done Refusing k o = refl
  request_done RefusalHeard k o = refl
  request_done Continues k o = refl
  request_done ContinueHeard k o = refl
  request_done (Sending info queue rest) k o = absurd cc
  request_done Rejected k o = refl
  request_done (Came ph) k o = laws.done ph k o

  -- a request is a conversation
  pub request_converses : Whole miu limit table ask old later sap → IsMiu miu → IsMiu size → IsRead limit ask → Converses sap limit table conv miu size
  request_converses w range fits read = record {
    within = request_within;
    comes = request_comes w range read;
    tells = request_tells fits;
    hears = request_hears w range read;
    done = request_done;
    plain = request_plain;
    readies = λ ph k n is r. request_readies n is fits ph k (let z = range.0 in omega arith) r;
  }

module _ (sap miu limit : ℕ) (table : List Offer) (ask : Asked) (old : List Received) (later : Conversation) where
  pub request_starts : Starts sap limit table (conversation miu limit table ask old later) (Begins ask.most (bytes_of ask)) old
  request_starts = record { at = Unsent; holds = tt; job_is = refl; queue_is = refl; units_is = refl; session_is = refl; accepted_is = refl }
