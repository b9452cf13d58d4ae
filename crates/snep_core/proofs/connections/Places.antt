-- What stands between a client and a peer at one SAP: no connection, one that is asked for, one that is accepted, or one on which a
-- conversation goes on.
use Rattle.std.proofs.Common.{◌≡◌, ◌<◌, ◌≤◌, ◌⊎◌, nat_lt, ℕ, suc, ◌+◌, ◌%◌, ◌==◌, ◌||◌, Bool, true, false, List, [], ◌∷◌, ◌++◌, length, Option, Some, None, is_some, refl, sym, ◌∙◌, ap, subst, inl}
use Rattle.std.proofs.Common.{inr, arith, length-append}
use Rattle.std.proofs.lemmas.Bool.Decides.{nat_tests}
use Rattle.llcp_conn.specs.Conn.{ConnState, first}
use Rattle.llcp_link.specs.State.{OwnState}
use Rattle.llcp_link.specs.Asking.{asked_from}
use Rattle.snep_core.specs.Accord.{IsClientSap, IsOver, IsPaired, Numbers, is_some_of, server_conn}
use Rattle.snep_core.specs.Jobs.{Begins, Job}
use Rattle.snep_core.specs.Payloads.{accepted_from}
use Rattle.snep_core.specs.Server.{Received, ServerState, serving}
use Rattle.snep_core.specs.Session.{Offer, fresh_session}
use Rattle.snep_core.specs.Talk.{is_over, server_sap}
use Rattle.snep_core.proofs.connections.Carrying.{IsShort}
use Rattle.snep_core.proofs.requests.Conversations.{AllWithin, Conversation, Converses, Settled, StandsAt, Starts, Tells, no_unit}
use Rattle.snep_core.proofs.connections.OnConnection.{conn_at}
use Rattle.snep_core.proofs.connections.Pairs.{asked_part, asks, client_ack_part, client_acks, server_ack_part, server_acks, tells, told_part}
use Rattle.snep_core.proofs.sessions.Served.{Serves}
use Rattle.snep_core.proofs.connections.Sides.{Leaves, Sizes, accepted_left, serves_left}

pub below : (a : ℕ) → a % 16 < 16
below a = omega arith

-- the numbers stay in range
module _ (n : Numbers) (k : ℕ) where
  pub paired_client_acks : IsPaired n k → IsPaired (client_acks n) k
  paired_client_acks h = record {
    client_miu = h.client_miu;
    server_miu = h.server_miu;
    client_window = h.client_window;
    server_window = h.server_window;
    asked = h.asked;
    told = omega arith;
    asked_sa = h.asked_sa;
    told_sa = below (n.told_sa + length n.told);
  }

  pub paired_server_acks : IsPaired n k → IsPaired (server_acks n) k
  paired_server_acks h = record {
    client_miu = h.client_miu;
    server_miu = h.server_miu;
    client_window = h.client_window;
    server_window = h.server_window;
    asked = (let a = h.asked in omega arith);
    told = h.told;
    asked_sa = below (n.asked_sa + length n.asked);
    told_sa = h.told_sa;
  }

  pub paired_asks : (u : List ℕ) → IsPaired n (suc k) → IsPaired (asks n u) k
  paired_asks u h = record {
    client_miu = h.client_miu;
    server_miu = h.server_miu;
    client_window = h.client_window;
    server_window = h.server_window;
    asked = (let a = h.asked in let e = length-append n.asked (u ∷ []) in omega arith);
    told = omega arith;
    asked_sa = h.asked_sa;
    told_sa = below (n.told_sa + length n.told);
  }

  pub paired_tells : (v : List ℕ) → nat_lt (length n.told + 0) n.client_window ≡ true → IsPaired n k → IsPaired (tells n v) k
  paired_tells v room h = record {
    client_miu = h.client_miu;
    server_miu = h.server_miu;
    client_window = h.client_window;
    server_window = h.server_window;
    asked = (let a = h.asked in omega arith);
    told = (let r : length n.told + 0 < n.client_window = grind (arith, nat_tests) in let e = length-append n.told (v ∷ []) in omega arith);
    asked_sa = below (n.asked_sa + length n.asked);
    told_sa = h.told_sa;
  }

-- where nothing of a request is submitted, nothing is owed yet
pub starts_settled : {sap limit : ℕ} {table : List Offer} {c : Conversation} {old : List Received} (most : Option ℕ) (bytes : List ℕ)
    (t : Starts sap limit table c (Begins most bytes) old) (n : Numbers) → Settled c t.at n
starts_settled {c = c} most bytes t n k =
    absurd (let e : false ≡ true = sym (ap (λ us. is_some_of us || is_over (c.job_at t.at)) t.units_is ∙ ap is_over t.job_is) ∙ k in cc)

-- What goes on between the ends at a SAP: whether it is a job's; the conversation, by what each end takes in a unit; and what it begins
-- with.
pub record Plan : Type 1 where
  pub is_job : Bool
  pub conv : ℕ → ℕ → Conversation
  pub most : Option ℕ
  pub bytes : List ℕ

-- a connection that just began
abbrev pub first_numbers : Sizes → Numbers
first_numbers z = record {
  client_miu = z.client_miu;
  client_window = z.client_window;
  server_miu = z.server_miu;
  server_window = z.server_window;
  asked = [];
  told = [];
  asked_sa = 0;
  told_sa = 0;
  asked_count = 0;
  told_count = 0;
}

module _ (limit : ℕ) (table : List Offer) (old : List Received) (z : Sizes) (sap : ℕ) (plan : Plan) (job : Job) where
  -- nothing more was accepted from this SAP
  abbrev pub SameFrom : ServerState → Type 0
  SameFrom x = accepted_from sap x.accepted ≡ accepted_from sap old

  -- where the conversation begins
  abbrev pub BeginsSo : Type 0
  BeginsSo = (miu size : ℕ) → Starts sap limit table (plan.conv miu size) (Begins plan.most plan.bytes) old

  -- no connection, and no job of this call
  pub record Apart (o : Option OwnState) (c : Option ConnState) (x : ServerState) : Type 0 where
    pub own : IsOver o
    pub served : c ≡ None
    pub none : plan.is_job ≡ false
    pub got : SameFrom x

  -- the CONNECT is to be given
  pub record Asked (o : Option OwnState) (c : Option ConnState) (x : ServerState) : Type 0 where
    pub range : IsClientSap sap
    pub own : o ≡ Some (asked_from sap server_sap)
    pub served : c ≡ None
    pub job_is : job ≡ Begins plan.most plan.bytes
    pub got : SameFrom x
    pub starts : BeginsSo
    pub busy : plan.is_job ≡ true

  -- the CC is
  pub record Awaited (o : Option OwnState) (c : Option ConnState) (x : ServerState) : Type 0 where
    pub range : IsClientSap sap
    pub own : o ≡ Some (asked_from sap server_sap)
    pub served : c ≡ Some (server_conn sap (first_numbers z))
    pub job_is : job ≡ Begins plan.most plan.bytes
    pub serves : Serves sap limit table x fresh_session old
    pub starts : BeginsSo
    pub busy : plan.is_job ≡ true

  -- both have the connection, and the conversation stands so
  pub record Talking (o : Option OwnState) (c : Option ConnState) (x : ServerState) : Type 0 where
    pub range : IsClientSap sap
    pub n : Numbers
    pub phase : (plan.conv n.server_miu n.client_miu).Phase
    pub paired : IsPaired n (length ((plan.conv n.server_miu n.client_miu).queue_at phase))
    pub holds : (plan.conv n.server_miu n.client_miu).Holds phase
    pub own : o ≡ Some (conn_at sap n ((plan.conv n.server_miu n.client_miu).queue_at phase) ((plan.conv n.server_miu n.client_miu).units_at phase))
    pub served : c ≡ Some (server_conn sap n)
    pub job_is : job ≡ (plan.conv n.server_miu n.client_miu).job_at phase
    pub serves : StandsAt sap limit table (plan.conv n.server_miu n.client_miu) phase x
    pub settled : Settled (plan.conv n.server_miu n.client_miu) phase n

  -- by whether the CONNECT waits at the client, and the CC at the peer
  abbrev pub StandsBy : Bool → Bool → Option OwnState → Option ConnState → ServerState → Type 0
  StandsBy true w o c x = Asked o c x
  StandsBy false true o c x = Awaited o c x
  StandsBy false false o c x = Apart o c x ⊎ Talking o c x

  -- what a server does for another SAP changes nothing
  module _ {s : ℕ} {x y : ServerState} (v : Leaves s x y) (other : (s == sap) ≡ false) where
    got_left : SameFrom x → SameFrom y
    got_left h = accepted_left v sap other ∙ h

    pub stands_left : (a w : Bool) (o : Option OwnState) (c : Option ConnState) → StandsBy a w o c x → StandsBy a w o c y
    stands_left true w o c h = record { range = h.range; own = h.own; served = h.served; job_is = h.job_is; got = got_left h.got; starts = h.starts; busy = h.busy }
    stands_left false true o c h = record { range = h.range; own = h.own; served = h.served; job_is = h.job_is; serves = serves_left v other h.serves; starts = h.starts; busy = h.busy }
    stands_left false false o c (inl h) = inl (record { own = h.own; served = h.served; none = h.none; got = got_left h.got })
    stands_left false false o c (inr h) = inr (record {
      range = h.range;
      n = h.n;
      phase = h.phase;
      paired = h.paired;
      holds = h.holds;
      own = h.own;
      served = h.served;
      job_is = h.job_is;
      serves = serves_left v other h.serves;
      settled = h.settled;
    })

  -- One PDU on it.
  module _ (range : IsClientSap sap) (n : Numbers) (x : ServerState) (laws : Converses sap limit table (plan.conv n.server_miu n.client_miu) n.server_miu n.client_miu)
      (ph : (plan.conv n.server_miu n.client_miu).Phase) (paired : IsPaired n (length ((plan.conv n.server_miu n.client_miu).queue_at ph)))
      (holds : (plan.conv n.server_miu n.client_miu).Holds ph) (j : job ≡ (plan.conv n.server_miu n.client_miu).job_at ph)
      (serves : StandsAt sap limit table (plan.conv n.server_miu n.client_miu) ph x) (settled : Settled (plan.conv n.server_miu n.client_miu) ph n) where
    abbrev c : Conversation
    c = plan.conv n.server_miu n.client_miu

    abbrev units : List (List ℕ)
    units = c.units_at ph

    low : sap < 64
    low = let r = range.1 in omega arith

    pub fits : (u : List ℕ) (queue : List (List ℕ)) → c.queue_at ph ≡ u ∷ queue → length u ≤ n.server_miu
    fits u queue e = (subst (AllWithin n.server_miu) e (laws.within ph holds)).0

    pub few_told : length n.told ≤ 15
    few_told = let a = paired.told in let b = paired.client_window.1 in omega arith

    pub few_asked : length n.asked ≤ 15
    few_asked = let a = paired.asked in let b = paired.server_window.1 in omega arith

    -- while a unit is to be given no answer came, and the job isn't over
    giving_on : (u : List ℕ) (queue : List (List ℕ)) → c.queue_at ph ≡ u ∷ queue → (is_some_of units || is_over (c.job_at ph)) ≡ true → ⊥
    giving_on u queue e k =
        let none : units ≡ [] = (laws.hears ph holds).apart (ap (λ q. is_some (first q)) e) in
        no_unit u queue (sym (laws.done ph holds (sym (ap (λ us. is_some_of us || is_over (c.job_at ph)) none) ∙ k)) ∙ e)

    -- the client gave a unit
    pub talks_asks : (u : List ℕ) (queue : List (List ℕ)) → c.queue_at ph ≡ u ∷ queue
        → Talking (Some (conn_at sap (asks n u) queue units)) (Some (server_conn sap (asks n u))) (serving.brought x sap u)
    talks_asks u queue e =
        let d = laws.comes ph u queue e holds x serves in record {
          range = range;
          n = asks n u;
          phase = d.to;
          paired = subst (λ q. IsPaired (asks n u) (length q)) (sym d.queue_is) (paired_asks n (length queue) u (subst (λ q. IsPaired n (length q)) e paired));
          holds = d.holds;
          own = ap (λ q. Some (conn_at sap (asks n u) q units)) (sym d.queue_is) ∙ ap (λ us. Some (conn_at sap (asks n u) (c.queue_at d.to) us)) (sym d.units_is);
          served = refl;
          job_is = j ∙ sym d.job;
          serves = d.serves;
          settled = λ k. absurd (giving_on u queue e
              (ap (λ us. is_some_of us || is_over (c.job_at ph)) (sym d.units_is) ∙ ap (λ b. is_some_of (c.units_at d.to) || is_over b) (sym d.job) ∙ k));
        }

    pub asks_short : (u : List ℕ) (queue : List (List ℕ)) → c.queue_at ph ≡ u ∷ queue → IsShort (asked_part sap n u)
    asks_short u queue e = (((omega arith), low, below (n.asked_sa + length n.asked), below (n.told_sa + length n.told)), (let f = fits u queue e in let z = paired.server_miu.1 in omega arith))

    -- it gave an acknowledgement
    pub talks_client_acks : Talking (Some (conn_at sap (client_acks n) (c.queue_at ph) units)) (Some (server_conn sap (client_acks n))) x
    talks_client_acks = record {
      range = range;
      n = client_acks n;
      phase = ph;
      paired = paired_client_acks n (length (c.queue_at ph)) paired;
      holds = holds;
      own = refl;
      served = refl;
      job_is = j;
      serves = serves;
      settled = settled;
    }

    pub client_ack_short : IsShort (client_ack_part sap n)
    client_ack_short = (((omega arith), low, below (n.told_sa + length n.told)), omega arith)

    -- the server acknowledged
    pub talks_server_acks : Talking (Some (conn_at sap (server_acks n) (c.queue_at ph) units)) (Some (server_conn sap (server_acks n))) x
    talks_server_acks = record {
      range = range;
      n = server_acks n;
      phase = ph;
      paired = paired_server_acks n (length (c.queue_at ph)) paired;
      holds = holds;
      own = refl;
      served = refl;
      job_is = j;
      serves = serves;
      settled = λ k. refl;
    }

    pub server_ack_short : IsShort (server_ack_part sap n)
    server_ack_short = ((low, (omega arith), below (n.asked_sa + length n.asked)), omega arith)

    -- it gave a unit
    pub talks_tells : (t : Tells sap limit table c n.client_miu ph x) → nat_lt (length n.told + 0) n.client_window ≡ true
        → Talking (Some (conn_at sap (tells n t.unit) (c.queue_at ph) (units ++ t.unit ∷ []))) (Some (server_conn sap (tells n t.unit))) (serving.sent x sap n.client_miu)
    talks_tells t room = record {
      range = range;
      n = tells n t.unit;
      phase = t.to;
      paired = subst (λ q. IsPaired (tells n t.unit) (length q)) (sym t.queue_is) (paired_tells n (length (c.queue_at ph)) t.unit room paired);
      holds = t.holds;
      own =
          ap (λ q. Some (conn_at sap (tells n t.unit) q (units ++ t.unit ∷ []))) (sym t.queue_is)
          ∙ ap (λ us. Some (conn_at sap (tells n t.unit) (c.queue_at t.to) us)) (sym t.units_is);
      served = refl;
      job_is = j ∙ sym t.job;
      serves = t.serves;
      settled = λ k. refl;
    }

    pub tells_short : (t : Tells sap limit table c n.client_miu ph x) → IsShort (told_part sap n t.unit)
    tells_short t = ((low, (omega arith), below (n.told_sa + length n.told), below (n.asked_sa + length n.asked)), (let z = t.short in let b = paired.client_miu.1 in omega arith))
