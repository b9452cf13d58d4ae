-- An end whose payloads are short goes on so, whatever it takes and gives: that of a peer, and one that asks for connections itself.
use Rattle.std.proofs.Common.{◌≡◌, ◌≤◌, ◌+◌, ◌-◌, ◌*◌, ◌/◌, ◌==◌, nat_le, ℕ, zero, suc, true, false, List, [], ◌∷◌, ◌++◌, length, take, Option, Some, None, if◌then◌else◌, arith, refl, sym, subst}
use Rattle.std.proofs.Common.{length-append}
use Rattle.std.specs.Prelude.{IfSome, is_some}
use Rattle.std.specs.List.{AllByRecursion, cons_option, filter_map}
use Rattle.llcp_pdu.specs.declared.param.Param.{Param}
use Rattle.llcp_pdu.specs.declared.param.Param.TheVariants.{Miux, Rw, SdReq}
use Rattle.llcp_pdu.specs.declared.part.Part.{Part}
use Rattle.llcp_pdu.specs.declared.part.Part.TheVariants.{Symm, Ui, Connect, Disc, Cc, Dm, Frmr, Snl, Info, Rr, Rnr}
use Rattle.llcp_pdu.specs.General.{miu_by}
use Rattle.llcp_pdu.specs.Params.{last_of, miux_in}
use Rattle.llcp_pdu.specs.Wire.{least_miu, rr_type, rnr_type, sap_count}
use Rattle.llcp_pdu.specs.Writing.{params_bytes, part_bytes, parts_bytes, inner_bytes}
use Rattle.llcp_conn.specs.declared.conn.Taken.{Taken}
use Rattle.llcp_conn.specs.declared.conn.Taken.TheVariants as taking
use Rattle.llcp_conn.specs.Conn as conn
use Rattle.llcp_conn.specs.Conn.{ConnState, Took, fresh, gives, gives_ack, queued, report, takes}
use Rattle.llcp_link.specs.Serving.{Serving}
use Rattle.llcp_link.specs.declared.own.OwnIs.{OwnIs}
use Rattle.llcp_link.specs.declared.own.OwnIs.TheVariants.{Asking, Open, Refused, Leaving, Closed}
use Rattle.llcp_link.specs.State.{LlcState, OwnState, Queued, Holder, Nobody, Served, Asked, conn_from, holder, own_from, own_holder, with_own}
use Rattle.llcp_link.specs.Names.{answer_to, answers_to, miu_of, name_of, own_params, reached, rw_of, lookups_told}
use Rattle.llcp_link.specs.Taking as t
use Rattle.llcp_link.specs.Taking.{Item, Good, Broken, brought, step, steps, taken_from}
use Rattle.llcp_link.specs.Own.{OwnGave, ack_on, ack_so, cc_on, cc_so, dm_on, dm_so, gave_so, if_there, on_own, unit_on, unit_so}
use Rattle.llcp_link.specs.Giving as g
use Rattle.llcp_link.specs.Giving.{Gave, GaveAll, after_giving, first_from, gave, gave_first, gave_none, given, given_parts, given_so, joined, joined_so, may_send, or_else, others, payload_of}
use Rattle.llcp_link.specs.Giving.{sap_after}
use Rattle.llcp_link.proofs.Ranged.{either}
use Rattle.link_numbers.proofs.payloads.Payload.{given_fit}
use Rattle.bench_world.specs.Cutting.{ConnShort, GivesShort, OwnShort, QueuedShort, StandsShort}
use Rattle.bench_world.proofs.sizes.SizedConns.{HolderShort, PduShort, ack_short, found_short, holds_short, nr_takes, own_found, own_holds, pdu_short, queued_short, unit_takes, with_own_short}
use Rattle.bench_world.proofs.sizes.SizedConns.{with_short, without_short}
use Rattle.bench_world.proofs.sizes.SizedEnds.{IsLess}
use Rattle.bench_world.proofs.sizes.SizedItems.{ItemSmall, brought_small}
use Rattle.bench_world.proofs.sizes.SizedWorld.{all_more}

-- how long PDUs are that an end answers with
dm_short : (d s r : ℕ) → length (part_bytes (Dm d s r)) ≤ 2178
dm_short d s r = omega arith

frmr_short : (d s : ℕ) (r : _) → length (part_bytes (Frmr d s r)) ≤ 2178
frmr_short d s r = omega arith

-- what tells a service's SAP has four bytes
abbrev IsRes : Param → Type 0
IsRes p = length (params_bytes (p ∷ [])) ≡ 4

told_res : (bound : List _) (p : Param) (more : List Param) → AllByRecursion IsRes more → AllByRecursion IsRes (cons_option (answer_to bound p) more)
told_res bound (SdReq tid name) more h = (refl, h)
told_res bound p more h = h

all_res : (bound : List _) (ps : List Param) → AllByRecursion IsRes (filter_map (answer_to bound) ps)
all_res bound [] = tt
all_res bound (p ∷ ps) = told_res bound p (filter_map (answer_to bound) ps) (all_res bound ps)

res_long : (n : ℕ) (ps : List Param) → AllByRecursion IsRes ps → length (params_bytes (take n ps)) ≤ 4 * n
res_long zero ps h = omega arith
res_long (suc n) [] h = omega arith
res_long (suc n) (p ∷ ps) h = (let one : length (params_bytes (p ∷ [])) ≡ 4 = h.0 in let more = res_long n ps h.1 in omega (arith, length-append {A = ℕ}))

-- what an end says of itself where it accepts a connection or asks for one
pub own_long : (miu window : ℕ) → length (params_bytes (own_params miu window)) ≤ 7
own_long miu window =
    either {X = List Param} (λ xs. length (params_bytes (xs ++ (if window == 1 then [] else Rw window ∷ []))) ≤ 7) (miu == least_miu) [] (Miux (miu - least_miu) ∷ [])
    (λ e. either {X = List Param} (λ ys. length (params_bytes ys) ≤ 7) (window == 1) [] (Rw window ∷ []) (λ e. omega arith) (λ e. omega arith))
    (λ e. either {X = List Param} (λ ys. length (params_bytes (Miux (miu - least_miu) ∷ ys)) ≤ 7) (window == 1) [] (Rw window ∷ []) (λ e. omega arith) (λ e. omega arith))

-- the MIU that a CONNECT or a CC says
miu_short : (ps : List Param) → IfSome (last_of miux_in ps) IsLess → miu_of ps ≤ 2175
miu_short ps h = go (last_of miux_in ps) h
  where
    go : (o : Option ℕ) → IfSome o IsLess → miu_by least_miu o ≤ 2175
    go None k = omega arith
    go (Some n) k = omega arith

-- an answer that such a connection awaits
cc_short : (miu far_miu rw : ℕ) (o : OwnState) (i : OwnIs) → far_miu ≤ 2175 → o.is ≡ i → OwnShort o → OwnShort (cc_so miu far_miu rw o i)
cc_short miu far_miu rw o Asking k e h =
    either {X = OwnIs} StandsShort (rw == 0) Refused (Open (fresh o.here o.there miu far_miu rw)) (λ e. tt) (λ e. (k, tt))
cc_short miu far_miu rw o i k e h = h

heard_dm_short : (o : OwnState) (i : OwnIs) → OwnShort o → OwnShort (dm_so o i)
heard_dm_short o Asking h = tt
heard_dm_short o Leaving h = tt
heard_dm_short o i h = h

-- what one that the end asked for gives, and the PDU
abbrev OwnGaveShort : OwnGave → Type 0
OwnGaveShort x = OwnShort x.own × (length (part_bytes x.part) ≤ 2178)

own_gave_short : (o : OwnState) (c : ConnState) (q : Option Part) → IfSome q (PduShort c) → IfSome (gave_so o c q) OwnGaveShort
own_gave_short o c None k = tt
own_gave_short o c (Some p) k = k

unit_short : (o : OwnState) (i : OwnIs) → StandsShort i → IfSome (unit_so o i) OwnGaveShort
unit_short o (Open c) k =
    either {X = Option OwnGave} (λ x. IfSome x OwnGaveShort) (is_some (conn.due c)) (gave_so o (gives c).conn (gives c).pdu) None
    (λ e. own_gave_short o (gives c).conn (gives c).pdu (pdu_short c k)) (λ e. tt)
unit_short o i k = tt

owed_short : (o : OwnState) (i : OwnIs) → StandsShort i → IfSome (ack_so o i) OwnGaveShort
owed_short o (Open c) k = own_gave_short o (gives_ack c).conn (gives_ack c).pdu (ack_short c k)
owed_short o i k = tt

module _ {S : Type 0} where
  holder_short : (l : LlcState S) (d s : ℕ) → GivesShort l → HolderShort (holder l d s)
  holder_short l d s h =
      holds_short d (conn_from s l.served) (own_holder s (own_from d l.own)) (found_short s l.served h.served) (own_holds s (own_from d l.own) (own_found d l.own h.own))

  -- one of its connections is changed
  pub own_changed : (l : LlcState S) (o : OwnState) → OwnShort o → GivesShort l → GivesShort (record l { own = with_own o l.own })
  own_changed l o k h = record { miu = h.miu; queue = h.queue; served = h.served; own = with_own_short o l.own k h.own }

  -- an answer that waits
  answered_short : (l : LlcState S) (p : Part) → length (part_bytes p) ≤ 2178 → GivesShort l → GivesShort (t.answered l p)
  answered_short l p k h =
      either {X = LlcState S} (λ x. GivesShort x) (t.is_full l) l _ (λ e. h)
      (λ e. record { miu = h.miu; queue = all_more QueuedShort l.queue _ h.queue k; served = h.served; own = h.own })

  -- a connection ends
  ends_short : (l : LlcState S) (x : Holder) → HolderShort x → GivesShort l → GivesShort (t.ends l x)
  ends_short l Nobody k h = h
  ends_short l (Served c) k h = record { miu = h.miu; queue = h.queue; served = without_short c.there l.served h.served; own = h.own }
  ends_short l (Asked o c) k h = own_changed l (record o { is = Closed }) tt h

  leaves_short : (l : LlcState S) (d s : ℕ) (x : Holder) → HolderShort x → GivesShort l → GivesShort (t.leaves l d s x)
  leaves_short l d s Nobody k h = answered_short l _ (dm_short s d t.not_connected) h
  leaves_short l d s (Served c) k h = answered_short (t.ends l (Served c)) _ (dm_short s d t.disconnected) (ends_short l (Served c) k h)
  leaves_short l d s (Asked o c) k h = answered_short (t.ends l (Asked o c)) _ (dm_short s d t.disconnected) (ends_short l (Asked o c) k h)

  breaks_short : (l : LlcState S) (ty q : ℕ) (x : Holder) → HolderShort x → GivesShort l → GivesShort (t.breaks l ty q x)
  breaks_short l ty q Nobody k h = h
  breaks_short l ty q (Served c) k h =
      answered_short (t.ends l (Served c)) _ (frmr_short c.there c.here (report c t.flag_w ty q)) (ends_short l (Served c) k h)
  breaks_short l ty q (Asked o c) k h =
      answered_short (t.ends l (Asked o c)) _ (frmr_short c.there c.here (report c t.flag_w ty q)) (ends_short l (Asked o c) k h)

  -- what a PDU does to one that this end asked for
  asked_short : (l : LlcState S) (o : OwnState) (c : ConnState) (x : Taken) → ConnShort c → GivesShort l → GivesShort (t.asked_so l o c x)
  asked_short l o c taking.Nothing k h = own_changed l (record o { is = Open c }) k h
  asked_short l o c (taking.Unit u) k h = own_changed l (record o { is = Open c; units = o.units ++ u ∷ [] }) k h
  asked_short l o c (taking.Closed r) k h = answered_short (t.ends l (Asked o c)) _ (frmr_short c.there c.here r) (ends_short l (Asked o c) k h)

  -- an answer that such a connection awaits
  heard_short : (l : LlcState S) (d s : ℕ) (f : OwnState → OwnState) → ((o : OwnState) → OwnShort o → OwnShort (f o)) → GivesShort l → GivesShort (t.heard_own l d s f)
  heard_short l d s f each h = go (own_from d l.own) (own_found d l.own h.own)
    where
      go : (q : Option OwnState) → IfSome q OwnShort → GivesShort (record l { own = on_own (if_there s f) q l.own })
      go None k = h
      go (Some o) k = own_changed l (if_there s f o) (either {X = OwnState} OwnShort (o.there == s) (f o) o (λ e. each o k) (λ e. k)) h

  -- service discovery
  tells_short : (l : LlcState S) (ps : List Param) → length (params_bytes ps) ≤ 2176 → GivesShort l → GivesShort (t.tells l ps)
  tells_short l [] k h = h
  tells_short l (p ∷ ps) k h = answered_short l (Snl (p ∷ ps)) (let z : length (part_bytes (Snl (p ∷ ps))) ≤ 2178 = omega arith in z) h

  discovers_short : (l : LlcState S) (ps : List Param) → GivesShort l → GivesShort (t.discovers l ps)
  discovers_short l ps h =
      let few : length (params_bytes (answers_to l.bound (l.far_miu / 4) ps)) ≤ 4 * (l.far_miu / 4) = res_long (l.far_miu / 4) (filter_map (answer_to l.bound) ps) (all_res l.bound ps) in
      let miu : l.far_miu ≤ 2176 = h.miu in
      tells_short (record l { lookups = lookups_told ps l.lookups }) (answers_to l.bound (l.far_miu / 4) ps) (omega (arith, few, miu))
      (record { miu = h.miu; queue = h.queue; served = h.served; own = h.own })

  -- a connection is asked for
  refused_short : (l : LlcState S) (d s : ℕ) (q : Option ℕ) → GivesShort l → GivesShort (t.refused_at l d s q)
  refused_short l d s None h = answered_short l _ (dm_short s d t.no_service) h
  refused_short l d s (Some sap) h = answered_short l _ (dm_short s sap t.busy) h

module _ {S : Type 0} (m : Serving S) where
  connects_short : (l : LlcState S) (d s : ℕ) (ps : List Param) (q : Option ℕ) → IfSome (last_of miux_in ps) IsLess → GivesShort l → GivesShort (t.connects_to m l d s ps q)
  connects_short l d s ps (Some sap) k h =
      let long = own_long l.miu l.window in
      record {
        miu = h.miu;
        queue = all_more QueuedShort l.queue _ h.queue (let z : length (part_bytes (Cc s sap (own_params l.miu l.window))) ≤ 2178 = omega (arith, long) in z);
        served = all_more ConnShort l.served (fresh sap s l.miu (miu_of ps) (rw_of ps)) h.served (miu_short ps k, tt);
        own = h.own;
      }
  connects_short l d s ps None k h =
      either {X = LlcState S} (λ x. GivesShort x) (rw_of ps == 0) (t.answered l (Dm s d t.not_taken)) (t.refused_at l d s (reached l.bound d (name_of ps)))
      (λ e. answered_short l _ (dm_short s d t.not_taken) h) (λ e. refused_short l d s (reached l.bound d (name_of ps)) h)

  -- what a PDU does to one
  served_short : (l : LlcState S) (c : ConnState) (x : Taken) → ConnShort c → GivesShort l → GivesShort (t.served_so m l c x)
  served_short l c taking.Nothing k h = record { miu = h.miu; queue = h.queue; served = with_short c l.served k h.served; own = h.own }
  served_short l c (taking.Unit u) k h = record { miu = h.miu; queue = h.queue; served = with_short c l.served k h.served; own = h.own }
  served_short l c (taking.Closed r) k h = answered_short (t.ends l (Served c)) _ (frmr_short c.there c.here r) (ends_short l (Served c) k h)

  numbered_short : (l : LlcState S) (f : ConnState → Took) (d s : ℕ) (x : Holder) → ((c : ConnState) → ConnShort c → ConnShort (f c).conn) → HolderShort x → GivesShort l
      → GivesShort (t.numbered m l f d s x)
  numbered_short l f d s Nobody each k h = answered_short l _ (dm_short s d t.not_connected) h
  numbered_short l f d s (Served c) each k h = served_short l (f c).conn (f c).does (each c k) h
  numbered_short l f d s (Asked o c) each k h = asked_short l o (f c).conn (f c).does (each c k) h

  -- all PDUs of a payload
  step_short : (l : LlcState S) (i : Item) → ItemSmall i → GivesShort l → GivesShort (step m l i)
  step_short l (Good Symm) k h = h
  step_short l (Good (Ui d s info)) k h = h
  step_short l (Good (Connect d s ps)) k h =
      either {X = LlcState S} (λ x. GivesShort x) (t.is_full l) l (t.connects_to m l d s ps (t.accepted l d s ps)) (λ e. h) (λ e. connects_short l d s ps (t.accepted l d s ps) k h)
  step_short l (Good (Cc d s ps)) k h =
      heard_short l d s (cc_on l.miu (miu_of ps) (rw_of ps)) (λ o z. cc_short l.miu (miu_of ps) (rw_of ps) o o.is (miu_short ps k) refl z) h
  step_short l (Good (Dm d s r)) k h = heard_short l d s dm_on (λ o z. heard_dm_short o o.is z) h
  step_short l (Good (Disc d s)) k h = leaves_short l d s (holder l d s) (holder_short l d s h) h
  step_short l (Good (Frmr d s r)) k h = ends_short l (holder l d s) (holder_short l d s h) h
  step_short l (Good (Snl ps)) k h = discovers_short l ps h
  step_short l (Good (Info d s ns nr xs)) k h = numbered_short l (λ c. takes c (Info d s ns nr xs)) d s (holder l d s) (λ c x. unit_takes c ns nr xs x) (holder_short l d s h) h
  step_short l (Good (Rr d s nr)) k h = numbered_short l (λ c. takes c (Rr d s nr)) d s (holder l d s) (λ c x. nr_takes c rr_type nr false x) (holder_short l d s h) h
  step_short l (Good (Rnr d s nr)) k h = numbered_short l (λ c. takes c (Rnr d s nr)) d s (holder l d s) (λ c x. nr_takes c rnr_type nr true x) (holder_short l d s h) h
  step_short l (Broken ty d s q) k h = breaks_short l ty q (holder l d s) (holder_short l d s h) h

  steps_short : (l : LlcState S) (is : List Item) → AllByRecursion ItemSmall is → GivesShort l → GivesShort (steps m l is)
  steps_short l [] k h = h
  steps_short l (i ∷ is) k h = steps_short (step m l i) is k.1 (step_short l i k.0 h)

  -- it takes a payload
  pub taken_short : (l : LlcState S) (b : List ℕ) → GivesShort l → GivesShort (taken_from m l b)
  taken_short l b h = steps_short l (brought l b) (brought_small l b) h

  -- a PDU that is given
  abbrev GaveShort : Gave S → Type 0
  GaveShort x = GivesShort x.llc × (length (part_bytes x.part) ≤ 2178)

  else_short : (a b : Option (Gave S)) → IfSome a GaveShort → IfSome b GaveShort → IfSome (or_else a b) GaveShort
  else_short None b h k = k
  else_short (Some x) b h k = h

  round_short : (n s : ℕ) (f : ℕ → Option (Gave S)) → ((s : ℕ) → IfSome (f s) GaveShort) → IfSome (first_from n s f) GaveShort
  unfolding first_from
  round_short zero s f all = tt
  round_short (suc n) s f all = else_short (f s) (first_from n (sap_after s) f) (all s) (round_short n (sap_after s) f all)

  -- of a connection
  conn_gives : (l : LlcState S) (c : ConnState) (q : Option Part) → IfSome q (PduShort c) → GivesShort l → IfSome (g.gave_conn l c q) GaveShort
  conn_gives l c None k h = tt
  conn_gives l c (Some p) k h = (record { miu = h.miu; queue = h.queue; served = with_short c l.served k.0 h.served; own = h.own }, k.1)

  own_gives : (l : LlcState S) (q : Option OwnGave) → IfSome q OwnGaveShort → GivesShort l → IfSome (g.gave_own l q) GaveShort
  own_gives l None k h = tt
  own_gives l (Some x) k h = (record { miu = h.miu; queue = h.queue; served = h.served; own = with_own_short x.own l.own k.0 h.own }, k.1)

  module _ (fits : (s : S) (client miu : ℕ) → IfSome (m.due s client miu) (λ u. length u ≤ miu)) where
    sends_short : (l : LlcState S) (c : ConnState) (q : Option (List ℕ)) → IfSome q (λ u. length u ≤ c.far_miu) → ConnShort c → GivesShort l → IfSome (g.sends m l c q) GaveShort
    sends_short l c None k i h = tt
    sends_short l c (Some u) k i h =
        conn_gives (record l { service = m.sent l.service c.there c.far_miu }) (gives (queued c u)).conn (gives (queued c u)).pdu (pdu_short (queued c u) (queued_short c u i k))
        (record { miu = h.miu; queue = h.queue; served = h.served; own = h.own })

    informs_served_short : (l : LlcState S) (q : Option ConnState) → IfSome q ConnShort → GivesShort l → IfSome (g.informs_served m l q) GaveShort
    informs_served_short l None k h = tt
    informs_served_short l (Some c) k h =
        either {X = Option (Gave S)} (λ o. IfSome o GaveShort) (may_send c) (g.sends m l c (m.due l.service c.there c.far_miu)) None
        (λ e. sends_short l c (m.due l.service c.there c.far_miu) (fits l.service c.there c.far_miu) k h) (λ e. tt)

    informs_own_short : (l : LlcState S) (q : Option OwnState) → IfSome q OwnShort → GivesShort l → IfSome (g.informs_own l q) GaveShort
    informs_own_short l None k h = tt
    informs_own_short l (Some o) k h = own_gives l (unit_on o) (unit_short o o.is k) h

    acks_served_short : (l : LlcState S) (q : Option ConnState) → IfSome q ConnShort → GivesShort l → IfSome (g.acknowledges_served l q) GaveShort
    acks_served_short l None k h = tt
    acks_served_short l (Some c) k h = conn_gives l (gives_ack c).conn (gives_ack c).pdu (ack_short c k) h

    acks_own_short : (l : LlcState S) (q : Option OwnState) → IfSome q OwnShort → GivesShort l → IfSome (g.acknowledges_own l q) GaveShort
    acks_own_short l None k h = tt
    acks_own_short l (Some o) k h = own_gives l (ack_on o) (owed_short o o.is k) h

    -- what waits comes first
    from_queue : (l : LlcState S) (q : List Queued) → AllByRecursion QueuedShort q → GivesShort l → IfSome (g.gave_from m l q) GaveShort
    from_queue l [] k h =
        else_short _ _
        (round_short sap_count (g.circle_start l.last) (g.informs m l)
        (λ s. else_short _ _ (informs_served_short l (conn_from s l.served) (found_short s l.served h.served) h) (informs_own_short l (own_from s l.own) (own_found s l.own h.own) h)))
        (round_short sap_count (g.circle_start l.last) (g.acknowledges l)
        (λ s. else_short _ _ (acks_served_short l (conn_from s l.served) (found_short s l.served h.served) h) (acks_own_short l (own_from s l.own) (own_found s l.own h.own) h)))
    from_queue l (q ∷ qs) k h = (record { miu = h.miu; queue = k.1; served = h.served; own = h.own }, k.0)

    gave_short : (l : LlcState S) → GivesShort l → IfSome (gave m l) GaveShort
    gave_short l h = from_queue l l.queue h.queue h

    so_short : (l : LlcState S) (used : ℕ) (q : Option (Gave S)) (more : ℕ → LlcState S → GaveAll m) → IfSome q GaveShort → ((u : ℕ) (k : LlcState S) → GivesShort k → GivesShort (more u k).llc)
        → GivesShort l → GivesShort (joined_so m l used q more).llc
    so_short l used None more k all h = h
    so_short l used (Some x) more k all h =
        either {X = GaveAll m} (λ z. GivesShort z.llc) (nat_le (used + length (inner_bytes x.part)) l.far_miu)
        (gave_first m x.part (more (used + length (inner_bytes x.part)) x.llc)) (gave_none m l) (λ e. all (used + length (inner_bytes x.part)) x.llc k.0) (λ e. h)

    joined_short : (n used : ℕ) (l : LlcState S) → GivesShort l → GivesShort (joined m n used l).llc
    joined_short zero used l h = h
    joined_short (suc n) used l h = so_short l used (gave m l) (joined m n) (gave_short l h) (joined_short n) h

    given_so_short : (l : LlcState S) (q : Option (Gave S)) (n : ℕ) → IfSome q GaveShort → GivesShort l → GivesShort (given_so m l q n).llc
    given_so_short l None n k h = h
    given_so_short l (Some x) n k h = joined_short n (length (inner_bytes x.part)) x.llc k.0

    -- it gives one
    pub after_short : (n : ℕ) (l : LlcState S) → GivesShort l → GivesShort (after_giving m n l)
    after_short n l h =
        either {X = LlcState S} (λ x. GivesShort x) l.readable (given_parts m n l).llc l (λ e. given_so_short l (gave m l) (others m l n) (gave_short l h) h) (λ e. h)

    -- how long that is
    alone_short : (l : LlcState S) (q : Option (Gave S)) (n : ℕ) (p : Part) → IfSome q GaveShort → (given_so m l q n).parts ≡ p ∷ [] → length (part_bytes p) ≤ 2178
    alone_short l None n p k e = absurd cc
    alone_short l (Some x) n p k e = (let is : x.part ≡ p = cc in subst (λ z. length (part_bytes z) ≤ 2178) is k.1)

    payload_short : (l : LlcState S) (n : ℕ) (ps : List Part) → (given_parts m n l).parts ≡ ps → GivesShort l → length (payload_of ps) ≤ 2178
    payload_short l n [] e h = (let z : length (part_bytes Symm) ≤ 2178 = omega arith in z)
    payload_short l n (p ∷ []) e h = alone_short l (gave m l) (others m l n) p (gave_short l h) e
    payload_short l n (p ∷ q ∷ ps) e h =
        let two : 2 ≤ length (given_parts m n l).parts = subst (λ xs. 2 ≤ length xs) (sym e) (omega arith) in
        let fit : length (parts_bytes (p ∷ q ∷ ps)) ≤ l.far_miu = subst (λ xs. length (parts_bytes xs) ≤ l.far_miu) e (given_fit m l n two) in
        let miu : l.far_miu ≤ 2176 = h.miu in
        let z : length (payload_of (p ∷ q ∷ ps)) ≡ 2 + length (parts_bytes (p ∷ q ∷ ps)) = omega arith in
        omega (arith, fit, miu, z)

    pub gives_short : (n : ℕ) (l : LlcState S) → GivesShort l → length (given m n l) ≤ 2178
    gives_short n l h =
        either {X = List ℕ} (λ xs. length xs ≤ 2178) l.readable (payload_of (given_parts m n l).parts) [] (λ e. payload_short l n (given_parts m n l).parts refl h) (λ e. omega arith)
