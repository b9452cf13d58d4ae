-- A connection that is asked for: the peer takes the CONNECT, and the client the CC.
use Rattle.std.proofs.Common.{◌≡◌, ◌<◌, ◌≤◌, nat_le, nat_lt, ℕ, ◌+◌, ◌-◌, ◌==◌, ◌&&◌, ◌||◌, Bool, true, false, List, [], ◌∷◌, ◌++◌, length, map, Some, None, is_none, is_some, refl, sym, ◌∙◌, ap}
use Rattle.std.proofs.Common.{subst, inr, arith, append_assoc, length-append, if◌then◌else◌}
use Rattle.std.proofs.lemmas.Bool.{eqb-true, lt-ltb}
use Rattle.std.proofs.lemmas.List.{map-append}
use Rattle.std.proofs.lemmas.Bool.Decides.{nat_tests}
use Rattle.llcp_pdu.specs.declared.param.Param.{Param}
use Rattle.llcp_pdu.specs.declared.param.Param.TheVariants.{Miux, Rw}
use Rattle.llcp_pdu.specs.declared.part.Part.TheVariants.{Cc}
use Rattle.llcp_pdu.specs.General.{IsMiu}
use Rattle.llcp_pdu.specs.Ranges.{AreParams}
use Rattle.llcp_pdu.specs.Wire.{discovery_sap}
use Rattle.llcp_pdu.specs.Writing.{params_bytes}
use Rattle.llcp_conn.specs.Conn.{ConnState, IsWindow, fresh}
use Rattle.llcp_link.specs.Names.{miu_of, name_of, named, own_params, reached, rw_of}
use Rattle.llcp_link.specs.State.{Bound, OwnState, Queued, answer, conn_from, most_answers, most_connections, own_from, with_own}
use Rattle.llcp_link.specs.declared.own.OwnIs.{OwnIs}
use Rattle.llcp_link.specs.declared.own.OwnIs.TheVariants.{Open, Refused}
use Rattle.llcp_link.specs.Asking.{asked_from}
use Rattle.llcp_link.specs.Own.{cc_on, if_there, on_own}
use Rattle.llcp_link.specs.Opened.{opened}
use Rattle.llcp_link.specs.Taking.{accepted, accepted_at, answers_in, connects_to, is_free, is_full, opens, steps_part}
use Rattle.llcp_link.proofs.Clients.{conn_more, conn_more_other, is_self}
use Rattle.llcp_link.proofs.Submitted.{own_with}
use Rattle.snep_core.specs.Accord.{IsPaired, PeerState, clients_in, most_clients}
use Rattle.snep_core.specs.Jobs.{Job}
use Rattle.snep_core.specs.Server.{Received, serving, session_of}
use Rattle.snep_core.specs.Session.{Offer, fresh_session}
use Rattle.snep_core.specs.Talk.{EndState, client_sap, server_sap, silent}
use Rattle.snep_core.proofs.connections.Carrying.{IsShort}
use Rattle.snep_core.proofs.connections.Meets.{AreUnlike, At, Meets, cc_of, cc_part, connect_of, connect_part, is_in}
use Rattle.snep_core.proofs.connections.OnConnection.{conn_at}
use Rattle.snep_core.proofs.connections.Places.{Asked, Awaited, Plan, StandsBy, Talking, first_numbers, stands_left, starts_settled}
use Rattle.snep_core.proofs.jobs.Readied.{elsewhere}
use Rattle.snep_core.proofs.sessions.Served.{Serves, serves_begun}
use Rattle.snep_core.proofs.connections.Sides.{Sizes, at_changed, kept_left, leaves_with}
use Rattle.snep_core.proofs.connections.Tally.{few_but, one_more}

-- what each end says of itself as a connection is asked for
module _ (miu window : ℕ) (range : IsMiu miu) (few : IsWindow window) where
  abbrev pub SaidSo : List Param → Type 0
  SaidSo ps = (miu_of ps ≡ miu) × (rw_of ps ≡ window) × AreParams ps × (length (params_bytes ps) ≤ 16)

  said_by : (b c : Bool) → (miu == 128) ≡ b → (window == 1) ≡ c → SaidSo ((if b then [] else Miux (miu - 128) ∷ []) ++ (if c then [] else Rw window ∷ []))
  said_by true true e k = (sym (eqb-true miu 128 e), sym (eqb-true window 1 k), tt, omega arith)
  said_by true false e k = (sym (eqb-true miu 128 e), refl, ((let z = few.1 in omega arith), tt), omega arith)
  said_by false true e k = ((let z = range.0 in omega arith), sym (eqb-true window 1 k), ((let z = range.1 in omega arith), tt), omega arith)
  said_by false false e k = ((let z = range.0 in omega arith), refl, ((let z = range.1 in omega arith), ((let z = few.1 in omega arith), tt)), omega arith)

  pub says : SaidSo (own_params miu window)
  says = said_by (miu == 128) (window == 1) refl refl

some_window : (w : ℕ) → 1 ≤ w → (w == 0) ≡ false
some_window w h = grind (arith, nat_tests)

-- SAPs in lists
pub in_both : (s : ℕ) (xs ys : List ℕ) → is_in s (xs ++ ys) ≡ (is_in s xs || is_in s ys)
in_both s [] ys = refl
in_both s (x ∷ xs) ys = go (x == s) (in_both s xs ys)
  where
    go : (b : Bool) → is_in s (xs ++ ys) ≡ (is_in s xs || is_in s ys) → (b || is_in s (xs ++ ys)) ≡ ((b || is_in s xs) || is_in s ys)
    go true e = refl
    go false e = e

pub neither : (a b : Bool) → (a || b) ≡ false → (a ≡ false) × (b ≡ false)
neither true b e = absurd cc
neither false b e = (refl, e)

pub in_self : (s : ℕ) (xs : List ℕ) → is_in s (s ∷ xs) ≡ true
in_self s xs = ap (λ b. b || is_in s xs) (is_self s)

pub in_other : (s t : ℕ) (xs : List ℕ) → (s == t) ≡ false → is_in t (s ∷ xs) ≡ is_in t xs
in_other s t xs n = ap (λ b. b || is_in t xs) n

pub or_false : (b : Bool) → (b || false) ≡ b
or_false true = refl
or_false false = refl

pub or_true : (b : Bool) → (b || true) ≡ true
or_true true = refl
or_true false = refl

pub in_last_other : (s t : ℕ) (xs : List ℕ) → (s == t) ≡ false → is_in t (xs ++ s ∷ []) ≡ is_in t xs
in_last_other s t xs n = in_both t xs (s ∷ []) ∙ ap (λ b. is_in t xs || (b || false)) n ∙ or_false (is_in t xs)

pub in_last : (s : ℕ) (xs : List ℕ) → is_in s (xs ++ s ∷ []) ≡ true
in_last s xs = in_both s xs (s ∷ []) ∙ ap (λ b. is_in s xs || (b || false)) (is_self s) ∙ or_true (is_in s xs)

pub flip : (s t : ℕ) → (s == t) ≡ false → (t == s) ≡ false
flip s t e = grind (arith, nat_tests)

-- one amid others is none of them
pub amid : (s : ℕ) (xs ys : List ℕ) → AreUnlike (xs ++ s ∷ ys) → (is_in s xs ≡ false) × (is_in s ys ≡ false)
amid s [] ys h = (refl, h.0)
amid s (x ∷ xs) ys h =
    let r = amid s xs ys h.1 in
    let e = neither (is_in x xs) (is_in x (s ∷ ys)) (sym (in_both x xs (s ∷ ys)) ∙ h.0) in
    let n = neither (s == x) (is_in x ys) e.1 in
    (ap (λ b. b || is_in s xs) (flip s x n.0) ∙ r.0, r.1)

module _ (limit : ℕ) (table : List Offer) (names : List Bound) (old : List Received) (z : Sizes) (plan : ℕ → Plan) (job : ℕ → Job) (l : EndState) (p : PeerState)
    (h : Meets limit table names old z plan job l p) where
  count_answers : (xs : List ℕ) → answers_in (map (cc_of limit table names old z plan) xs) ≡ length xs
  count_answers [] = refl
  count_answers (x ∷ xs) = let e = count_answers xs in omega (arith, e)

  -- the CONNECT of this SAP was given
  module _ (s : ℕ) (rest : List ℕ) (e : h.asked ≡ s ∷ rest) where
    unlike_ : AreUnlike (h.awaited ++ s ∷ rest)
    unlike_ = subst (λ xs. AreUnlike (h.awaited ++ xs)) e h.unlike

    pub stands : Asked limit table old z s (plan s) (job s) (own_from s l.own) (conn_from s p.served) p.service
    stands = subst (λ b. StandsBy limit table old z s (plan s) (job s) b (is_in s h.awaited) (own_from s l.own) (conn_from s p.served) p.service) (ap (is_in s) e ∙ in_self s rest) (h.sides.at s)

    low : s < 64
    low = let r = stands.range.1 in omega arith

    few_ : length h.awaited + (1 + length rest) ≤ most_clients
    few_ = let f = subst (λ xs. length h.awaited + length xs ≤ most_clients) e h.few in omega (arith, f)

    full : is_full p ≡ false
    full =
        ap (λ q. nat_le most_answers (answers_in q)) h.sides.peer_queue
        ∙ ap (λ n. nat_le most_answers n) (count_answers h.awaited)
        ∙ (let f = few_ in grind (arith, nat_tests, f))

    abbrev some_in : ℕ → Bool
    some_in t = is_some (conn_from t p.served)

    free : is_free p s ≡ true
    free =
        ap (λ q. is_none q && nat_lt (length p.served) most_connections) stands.served
        ∙ lt-ltb (length p.served) most_connections
        (let k = few_but most_clients client_sap s some_in stands.range.0 (let r = stands.range.1 in omega arith) (ap (λ q. is_some q) stands.served) in
        let n = h.sides.no_other in omega (arith, k, n))

    abbrev ps : List Param
    ps = own_params z.client_miu z.client_window

    abbrev pub conn : ConnState
    conn = fresh server_sap s p.miu z.client_miu z.client_window

    said_ : SaidSo z.client_miu z.client_window (subst IsMiu h.sides.client_miu h.sides.client_fair.miu) (subst IsWindow h.sides.client_window h.sides.client_fair.window) ps
    said_ = says z.client_miu z.client_window (subst IsMiu h.sides.client_miu h.sides.client_fair.miu) (subst IsWindow h.sides.client_window h.sides.client_fair.window)

    pub connect_short : IsShort (connect_part limit table names old z plan s)
    connect_short = (((omega arith), low, said_.2), (let k = said_.3 in omega arith))

    abbrev pub accepting : PeerState
    accepting = opens serving p server_sap s z.client_miu z.client_window

    pub taken : steps_part serving p (connect_part limit table names old z plan s) ≡ accepting
    taken =
        let w = said_ in
        let reach : reached p.bound server_sap (name_of ps) ≡ Some server_sap =
        ap (λ x. if x then Some server_sap else (if server_sap == discovery_sap then named (name_of ps) p.bound else None)) h.sides.reached.1 in
        let ok : accepted p server_sap s ps ≡ Some server_sap =
        ap (λ x. if x then None else (if rw_of ps == 0 then None else accepted_at p s (reached p.bound server_sap (name_of ps)))) full
        ∙ ap (λ x. if x == 0 then None else accepted_at p s (reached p.bound server_sap (name_of ps))) w.1
        ∙ ap (λ x. if x then None else accepted_at p s (reached p.bound server_sap (name_of ps))) (some_window z.client_window (subst IsWindow h.sides.client_window h.sides.client_fair.window).0)
        ∙ ap (λ x. accepted_at p s x) reach
        ∙ ap (λ b. if b then Some server_sap else None) free in
        ap (λ x. if x then p else connects_to serving p server_sap s ps (accepted p server_sap s ps)) full
        ∙ ap (λ o. connects_to serving p server_sap s ps o) ok
        ∙ ap (λ x. opens serving p server_sap s x (rw_of ps)) w.0
        ∙ ap (λ x. opens serving p server_sap s z.client_miu x) w.1

    pub now_there : conn_from s (p.served ++ conn ∷ []) ≡ Some conn
    now_there = conn_more s p.served conn stands.served (is_self s)

    counted : length (p.served ++ conn ∷ []) ≡ clients_in (p.served ++ conn ∷ [])
    counted =
        let a = length-append p.served (conn ∷ []) in
        let b = one_more some_in (λ t. is_some (conn_from t (p.served ++ conn ∷ []))) s (λ t n. ap (λ q. is_some q) (sym (conn_more_other t p.served conn n)))
        (ap (λ q. is_some q) stands.served) (ap (λ q. is_some q) now_there) most_clients client_sap stands.range.0 (let r = stands.range.1 in omega arith) in
        let n = h.sides.no_other in
        omega (arith, a, b, n)

    abbrev cc_so : ℕ → ℕ → Queued
    cc_so miu window = answer (Cc s server_sap (own_params miu window))

    queue_now : p.queue ++ cc_so p.miu p.window ∷ [] ≡ map (cc_of limit table names old z plan) (h.awaited ++ s ∷ [])
    queue_now =
        let all = map (cc_of limit table names old z plan) h.awaited in
        ap (λ q. q ++ cc_so p.miu p.window ∷ []) h.sides.peer_queue
        ∙ ap (λ m. all ++ cc_so m p.window ∷ []) h.sides.server_miu
        ∙ ap (λ w. all ++ cc_so z.server_miu w ∷ []) h.sides.server_window
        ∙ sym (map-append (cc_of limit table names old z plan) h.awaited (s ∷ []))

    line_now : AreUnlike ((h.awaited ++ s ∷ []) ++ rest)
    line_now = subst AreUnlike (sym (append_assoc h.awaited (s ∷ []) rest)) unlike_

    few_now : length (h.awaited ++ s ∷ []) + length rest ≤ most_clients
    few_now = let a = length-append h.awaited (s ∷ []) in let f = few_ in omega (arith, a, f)

    awaits : Awaited limit table old z s (plan s) (job s) (own_from s l.own) (conn_from s accepting.served) accepting.service
    awaits = record {
      range = stands.range;
      own = stands.own;
      served = now_there ∙ ap (λ m. Some (fresh server_sap s m z.client_miu z.client_window)) h.sides.server_miu;
      job_is = stands.job_is;
      serves = serves_begun s limit table p.service (session_of p.service s) old (record {
        seats = (let a = h.sides.kept.seats in let r = stands.range.1 in omega (arith, a, r));
        session = refl;
        got = stands.got;
        most = h.sides.kept.most;
        offers = h.sides.kept.offers;
      });
      starts = stands.starts;
      busy = stands.busy;
    }

    -- where no job is, is another SAP
    elsewhere_ : (t : ℕ) → (plan t).is_job ≡ false → (s == t) ≡ false
    elsewhere_ t m = go (s == t) refl
      where
        go : (b : Bool) → (s == t) ≡ b → (s == t) ≡ false
        go false n = n
        go true n = absurd (let k = sym stands.busy ∙ ap (λ r. (plan r).is_job) (eqb-true s t n) ∙ m in cc)

    -- the peer accepted it, and its CC waits
    pub connect_meets : Meets limit table names old z plan job (record l { queue = map (connect_of limit table names old z plan) rest })
        (steps_part serving p (connect_part limit table names old z plan s))
    connect_meets = subst (λ q. Meets limit table names old z plan job (record l { queue = map (connect_of limit table names old z plan) rest }) q) (sym taken) (record {
      asked = rest;
      awaited = h.awaited ++ s ∷ [];
      unlike = line_now;
      few = few_now;
      stays = λ t m. ap (λ q. is_some q) (conn_more_other t p.served conn (elsewhere_ t m)) ∙ h.stays t m;
      sides = record {
        client_fair = record { miu = h.sides.client_fair.miu; window = h.sides.client_fair.window; last = h.sides.client_fair.last };
        peer_fair = record { miu = h.sides.peer_fair.miu; window = h.sides.peer_fair.window; last = h.sides.peer_fair.last };
        client_readable = h.sides.client_readable;
        peer_readable = h.sides.peer_readable;
        client_queue = refl;
        peer_queue = queue_now;
        client_served = h.sides.client_served;
        peer_own = h.sides.peer_own;
        reached = h.sides.reached;
        client_miu = h.sides.client_miu;
        client_window = h.sides.client_window;
        server_miu = h.sides.server_miu;
        server_window = h.sides.server_window;
        no_other = counted;
        kept = kept_left limit table names old z (leaves_with s p.service fresh_session) h.sides.kept;
        at = at_changed l.own l.own p.served accepting.served p.service accepting.service (At limit table names old z plan job h.asked h.awaited)
            (At limit table names old z plan job rest (h.awaited ++ s ∷ [])) s (λ t n. refl) (λ t n. conn_more_other t p.served conn n)
            (λ t n q k a. subst (λ b. StandsBy limit table old z t (plan t) (job t) b (is_in t (h.awaited ++ s ∷ [])) q k accepting.service) (ap (is_in t) e ∙ in_other s t rest n)
            (subst (λ b. StandsBy limit table old z t (plan t) (job t) (is_in t h.asked) b q k accepting.service) (sym (in_last_other s t h.awaited n))
            (stands_left limit table old z t (plan t) (job t) (leaves_with s p.service fresh_session) n (is_in t h.asked) (is_in t h.awaited) q k a)))
            h.sides.at
            (subst (λ b. StandsBy limit table old z s (plan s) (job s) b (is_in s (h.awaited ++ s ∷ [])) (own_from s l.own) (conn_from s accepting.served) accepting.service)
            (sym (amid s h.awaited rest unlike_).1)
            (subst (λ b. StandsBy limit table old z s (plan s) (job s) false b (own_from s l.own) (conn_from s accepting.served) accepting.service)
            (sym (in_last s h.awaited)) awaits));
      };
    })

  -- the CC of this SAP was given
  module _ (s : ℕ) (rest : List ℕ) (e : h.awaited ≡ s ∷ rest) where
    first_ : AreUnlike ((s ∷ rest) ++ h.asked)
    first_ = subst (λ xs. AreUnlike (xs ++ h.asked)) e h.unlike

    apart_ : (is_in s rest ≡ false) × (is_in s h.asked ≡ false)
    apart_ = neither (is_in s rest) (is_in s h.asked) (sym (in_both s rest h.asked) ∙ first_.0)

    pub waits : Awaited limit table old z s (plan s) (job s) (own_from s l.own) (conn_from s p.served) p.service
    waits =
        subst (λ b. StandsBy limit table old z s (plan s) (job s) false b (own_from s l.own) (conn_from s p.served) p.service) (ap (is_in s) e ∙ in_self s rest)
        (subst (λ b. StandsBy limit table old z s (plan s) (job s) b (is_in s h.awaited) (own_from s l.own) (conn_from s p.served) p.service) apart_.1 (h.sides.at s))

    abbrev qs : List Param
    qs = own_params z.server_miu z.server_window

    abbrev range_ : IsMiu z.server_miu
    range_ = subst IsMiu h.sides.server_miu h.sides.peer_fair.miu

    abbrev window_ : IsWindow z.server_window
    window_ = subst IsWindow h.sides.server_window h.sides.peer_fair.window

    told_ : SaidSo z.server_miu z.server_window range_ window_ qs
    told_ = says z.server_miu z.server_window range_ window_

    pub cc_short : IsShort (cc_part limit table names old z plan s)
    cc_short = (((let r = waits.range.1 in omega arith), (omega arith), told_.2), (let k = told_.3 in omega arith))

    abbrev pub now_own : ℕ → OwnState
    now_own miu = opened s server_sap (fresh s server_sap miu z.server_miu z.server_window) []

    pub opens_ : steps_part silent l (cc_part limit table names old z plan s) ≡ record l { own = with_own (now_own z.client_miu) l.own }
    opens_ =
        ap (λ o. record l { own = on_own (if_there server_sap (cc_on l.miu (miu_of qs) (rw_of qs))) o l.own }) waits.own
        ∙ ap (λ x. record l { own = with_own (opened_so (if x == 0 then Refused else Open (fresh s server_sap l.miu (miu_of qs) x))) l.own }) told_.1
        ∙ ap (λ b. record l { own = with_own (opened_so (if b then Refused else Open (fresh s server_sap l.miu (miu_of qs) z.server_window))) l.own }) (some_window z.server_window window_.0)
        ∙ ap (λ x. record l { own = with_own (opened_so (Open (fresh s server_sap l.miu x z.server_window))) l.own }) told_.0
        ∙ ap (λ x. record l { own = with_own (opened_so (Open (fresh s server_sap x z.server_miu z.server_window))) l.own }) h.sides.client_miu
      where
        opened_so : OwnIs → OwnState
        opened_so is = record { here = s; there = server_sap; is = is; units = [] }

    talks : (own : List OwnState) → own_from s own ≡ Some (now_own z.client_miu)
        → Talking limit table old z s (plan s) (job s) (own_from s own) (conn_from s p.served) p.service
    talks own there =
        let t = waits.starts z.server_miu z.client_miu in
        let c = (plan s).conv z.server_miu z.client_miu in record {
          range = waits.range;
          n = first_numbers z;
          phase = t.at;
          paired = subst (λ q. IsPaired (first_numbers z) (length q)) (sym t.queue_is) (record {
            client_miu = subst IsMiu h.sides.client_miu h.sides.client_fair.miu;
            server_miu = range_;
            client_window = subst IsWindow h.sides.client_window h.sides.client_fair.window;
            server_window = window_;
            asked = omega arith;
            told = omega arith;
            asked_sa = omega arith;
            told_sa = omega arith;
          });
          holds = t.holds;
          own = there ∙ ap (λ q. Some (conn_at s (first_numbers z) q [])) (sym t.queue_is) ∙ ap (λ us. Some (conn_at s (first_numbers z) (c.queue_at t.at) us)) (sym t.units_is);
          served = waits.served;
          job_is = waits.job_is ∙ sym t.job_is;
          serves = subst (λ x. Serves s limit table p.service x (c.accepted_at t.at)) (sym t.session_is)
              (subst (λ y. Serves s limit table p.service fresh_session y) (sym t.accepted_is) waits.serves);
          settled = starts_settled (plan s).most (plan s).bytes t (first_numbers z);
        }

    -- the client has the connection
    pub cc_meets : Meets limit table names old z plan job (steps_part silent l (cc_part limit table names old z plan s)) (record p { queue = map (cc_of limit table names old z plan) rest })
    cc_meets = subst (λ q. Meets limit table names old z plan job q (record p { queue = map (cc_of limit table names old z plan) rest })) (sym opens_) (record {
      asked = h.asked;
      awaited = rest;
      unlike = first_.1;
      few = (let f = subst (λ xs. length xs + length h.asked ≤ most_clients) e h.few in omega (arith, f));
      stays = h.stays;
      sides = record {
        client_fair = record { miu = h.sides.client_fair.miu; window = h.sides.client_fair.window; last = h.sides.client_fair.last };
        peer_fair = record { miu = h.sides.peer_fair.miu; window = h.sides.peer_fair.window; last = h.sides.peer_fair.last };
        client_readable = h.sides.client_readable;
        peer_readable = h.sides.peer_readable;
        client_queue = h.sides.client_queue;
        peer_queue = refl;
        client_served = h.sides.client_served;
        peer_own = h.sides.peer_own;
        reached = h.sides.reached;
        client_miu = h.sides.client_miu;
        client_window = h.sides.client_window;
        server_miu = h.sides.server_miu;
        server_window = h.sides.server_window;
        no_other = h.sides.no_other;
        kept = h.sides.kept;
        at = at_changed l.own own_now p.served p.served p.service p.service (At limit table names old z plan job h.asked h.awaited)
            (At limit table names old z plan job h.asked rest) s (λ t n. elsewhere t (now_own z.client_miu) l.own n) (λ t n. refl)
            (λ t n q k a. subst (λ b. StandsBy limit table old z t (plan t) (job t) (is_in t h.asked) b q k p.service) (ap (is_in t) e ∙ in_other s t rest n) a)
            h.sides.at
            (subst (λ b. StandsBy limit table old z s (plan s) (job s) b (is_in s rest) (own_from s own_now) (conn_from s p.served) p.service) (sym apart_.1)
            (subst (λ b. StandsBy limit table old z s (plan s) (job s) false b (own_from s own_now) (conn_from s p.served) p.service) (sym apart_.0)
            (inr (talks own_now (own_with s l.own (now_own z.client_miu) (asked_from s server_sap) waits.own refl)))));
      };
    })
      where
        own_now : List OwnState
        own_now = with_own (now_own z.client_miu) l.own
