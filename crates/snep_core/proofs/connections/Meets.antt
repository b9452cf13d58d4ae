-- A client and a peer with any connections: what holds of both as PDUs go from one to the other.
use Rattle.std.proofs.Common.{◌≡◌, ◌<◌, ◌≤◌, ◌⊎◌, nat_lt, ℕ, ◌+◌, Bool, true, false, List, [], ◌∷◌, ◌++◌, length, map, Option, Some, None, IfSome, is_some, refl, sym, ◌∙◌, ap, subst, inl, inr, arith}
use Rattle.llcp_pdu.specs.General.{IsMiu}
use Rattle.llcp_pdu.specs.declared.part.Part.{Part}
use Rattle.llcp_pdu.specs.declared.part.Part.TheVariants.{Cc, Connect}
use Rattle.llcp_conn.specs.Conn.{ConnState, IsSap}
use Rattle.llcp_link.specs.State.{Bound, OwnState, Queued, answer, conn_from, own_from, with_conn, with_own}
use Rattle.llcp_pdu.specs.Wire.{sap_count}
use Rattle.llcp_link.specs.Asking.{request}
use Rattle.llcp_link.specs.Giving.{Gave, acknowledges, first_of_all, gave, gave_behind, gave_from, informs, or_else}
use Rattle.llcp_link.specs.Names.{own_params}
use Rattle.llcp_link.specs.Taking.{steps_part}
use Rattle.snep_core.specs.declared.silent.NoService.{NoService}
use Rattle.snep_core.specs.Accord.{PeerState, most_clients, server_conn}
pub use Rattle.snep_core.specs.Accord.{is_in}
use Rattle.snep_core.specs.Jobs.{Job}
use Rattle.snep_core.specs.Server.{Received, ServerState, serving, session_of}
use Rattle.snep_core.specs.Session.{Offer, did, sent}
use Rattle.snep_core.specs.Talk.{EndState, server_sap, silent}
use Rattle.snep_core.proofs.connections.Around.{found_of}
use Rattle.snep_core.proofs.connections.Carrying.{HopSo, IsShort}
use Rattle.snep_core.proofs.requests.Conversations.{Conversation, Converses, Tells}
use Rattle.snep_core.proofs.connections.OnConnection.{conn_at}
use Rattle.snep_core.proofs.connections.Pairs.{apart_acks, apart_informs, asks, bare_acks, bare_informs, client_ack, client_acks, client_gave, client_hears, client_quiet, client_settled, client_takes}
use Rattle.snep_core.proofs.connections.Pairs.{client_took, client_unit, server_ack, server_acks, server_gave, server_hears, server_quiet, server_settled, server_takes, server_took, server_unit}
use Rattle.snep_core.proofs.connections.Pairs.{tells, waiting_acks, waiting_informs}
use Rattle.snep_core.proofs.connections.Places.{Plan, StandsBy, Talking, asks_short, client_ack_short, few_asked, few_told, first_numbers, fits, server_ack_short, stands_left, talks_asks}
use Rattle.snep_core.proofs.connections.Places.{talks_client_acks, talks_server_acks, talks_tells, tells_short}
use Rattle.snep_core.proofs.connections.Sides.{Leaves, Place, Sides, Sizes, leaves_brought, leaves_same, leaves_with, sides_on, some_still}

-- no two of these SAPs are the same
abbrev pub AreUnlike : List ℕ → Type 0
AreUnlike [] = Unit {0}
AreUnlike (t ∷ ts) = (is_in t ts ≡ false) × AreUnlike ts

module _ (limit : ℕ) (table : List Offer) (names : List Bound) (old : List Received) (z : Sizes) (plan : ℕ → Plan) where
  abbrev pub connect_part : ℕ → Part
  connect_part s = Connect server_sap s (own_params z.client_miu z.client_window)

  abbrev pub cc_part : ℕ → Part
  cc_part s = Cc s server_sap (own_params z.server_miu z.server_window)

  abbrev pub connect_of : ℕ → Queued
  connect_of s = request (connect_part s)

  abbrev pub cc_of : ℕ → Queued
  cc_of s = answer (cc_part s)

  -- at each SAP stands its job, where CONNECTs of these wait at the client, and CCs of those at the peer
  abbrev pub At : (ℕ → Job) → List ℕ → List ℕ → Place
  At job asked awaited s o c x = StandsBy limit table old z s (plan s) (job s) (is_in s asked) (is_in s awaited) o c x

  -- where no job is, the peer has a connection where it had one
  abbrev pub Stays : PeerState → Type 0
  Stays p = (s : ℕ) → (plan s).is_job ≡ false → is_some (conn_from s p.served) ≡ z.there s

  pub record Meets (job : ℕ → Job) (l : EndState) (p : PeerState) : Type 0 where
    pub asked : List ℕ
    pub awaited : List ℕ
    pub unlike : AreUnlike (awaited ++ asked)
    pub few : length awaited + length asked ≤ most_clients
    pub stays : Stays p
    pub sides : Sides limit table names old z (At job asked awaited) (map connect_of asked) (map cc_of awaited) l p

  -- the conversations keep to their laws
  abbrev pub Keeps : Type 0
  Keeps = (s miu size : ℕ) → IsMiu miu → IsMiu size → Converses s limit table ((plan s).conv miu size) miu size

  module _ (job : ℕ → Job) (keeps : Keeps) (l : EndState) (p : PeerState) (h : Meets job l p) where
    -- a conversation goes on at a SAP
    abbrev pub TalksAt : ℕ → Type 0
    TalksAt s = Talking limit table old z s (plan s) (job s) (own_from s l.own) (conn_from s p.served) p.service

    abbrev pub IsFree : ℕ → Type 0
    IsFree s = (is_in s h.asked ≡ false) × (is_in s h.awaited ≡ false)

    -- it went on there by a PDU
    pub talk_on : (s : ℕ) → IsFree s → (o before : OwnState) (c there_before : ConnState) (y : ServerState) → own_from s l.own ≡ Some before → conn_from s p.served ≡ Some there_before
        → o.here ≡ s → c.there ≡ s → Leaves s p.service y → Talking limit table old z s (plan s) (job s) (Some o) (Some c) y
        → (client_last peer_last : Option ℕ) → IfSome client_last IsSap → IfSome peer_last IsSap
        → Meets job (record l { own = with_own o l.own; last = client_last }) (record p { served = with_conn c p.served; last = peer_last; service = y })
    talk_on s (ea, ew) o before c there_before y own_is served_is here there v now client_last peer_last client_mark peer_mark = record {
      asked = h.asked;
      awaited = h.awaited;
      unlike = h.unlike;
      few = h.few;
      stays = λ t m. some_still s c there_before p.served served_is there t ∙ h.stays t m;
      sides = sides_on limit table names old z (At job h.asked h.awaited) (At job h.asked h.awaited) (map connect_of h.asked) (map cc_of h.awaited) l p h.sides s
          o before c there_before y own_is served_is here there v
          (λ t n q k a. stands_left limit table old z t (plan t) (job t) v n (is_in t h.asked) (is_in t h.awaited) q k a)
          (subst (λ a. StandsBy limit table old z s (plan s) (job s) a (is_in s h.awaited) (Some o) (Some c) y) (sym ea)
          (subst (λ w. StandsBy limit table old z s (plan s) (job s) false w (Some o) (Some c) y) (sym ew) (inr now)))
          client_last peer_last client_mark peer_mark;
    }

    -- a conversation, and what is true of it
    module _ (s : ℕ) (t : TalksAt s) where
      abbrev pub conv_of : Conversation
      conv_of = (plan s).conv t.n.server_miu t.n.client_miu

      pub laws_of : Converses s limit table conv_of t.n.server_miu t.n.client_miu
      laws_of = keeps s t.n.server_miu t.n.client_miu t.paired.server_miu t.paired.client_miu

      low : s < 64
      low = let r = t.range.1 in omega arith

      abbrev pub client_asked : List ℕ → List (List ℕ) → EndState
      client_asked u queue = client_gave l (conn_at s (asks t.n u) queue (conv_of.units_at t.phase))

      abbrev pub server_asked : List ℕ → PeerState
      server_asked u = server_took p (server_conn s (asks t.n u)) (serving.brought p.service s u)

      abbrev pub client_acked : EndState
      client_acked = client_gave l (conn_at s (client_acks t.n) (conv_of.queue_at t.phase) (conv_of.units_at t.phase))

      abbrev pub server_heard : PeerState
      server_heard = server_took p (server_conn s (client_acks t.n)) p.service

      abbrev pub server_told : List ℕ → PeerState
      server_told v = server_gave p (server_conn s (tells t.n v)) (serving.sent p.service s t.n.client_miu)

      abbrev pub client_told : List ℕ → EndState
      client_told v = client_took l (conn_at s (tells t.n v) (conv_of.queue_at t.phase) (conv_of.units_at t.phase ++ v ∷ []))

      abbrev pub server_acked : PeerState
      server_acked = server_gave p (server_conn s (server_acks t.n)) p.service

      abbrev pub client_heard : EndState
      client_heard = client_took l (conn_at s (server_acks t.n) (conv_of.queue_at t.phase) (conv_of.units_at t.phase))

      -- the server has a unit to give
      abbrev pub HasUnit : Type 0
      HasUnit = Tells s limit table conv_of t.n.client_miu t.phase p.service

      abbrev pub HasRoom : Type 0
      HasRoom = nat_lt (length t.n.told + 0) t.n.client_window ≡ true

      module _ (free : IsFree s) where
        pub asks_meets : (u : List ℕ) (queue : List (List ℕ)) → conv_of.queue_at t.phase ≡ u ∷ queue → Meets job (client_asked u queue) (server_asked u)
        asks_meets u queue e =
            talk_on s free (conn_at s (asks t.n u) queue (conv_of.units_at t.phase)) _ (server_conn s (asks t.n u)) _ (serving.brought p.service s u) t.own t.served refl refl
            (leaves_brought s p.service (did p.service.limit p.service.table (session_of p.service s) u))
            (talks_asks limit table old z s (plan s) (job s) t.range t.n p.service laws_of t.phase t.paired t.holds t.job_is t.serves t.settled u queue e)
            (Some s) p.last low h.sides.peer_fair.last

        pub acks_meets : Meets job client_acked server_heard
        acks_meets =
            talk_on s free (conn_at s (client_acks t.n) (conv_of.queue_at t.phase) (conv_of.units_at t.phase)) _ (server_conn s (client_acks t.n)) _ p.service t.own t.served refl refl
            (leaves_same s p.service)
            (talks_client_acks limit table old z s (plan s) (job s) t.range t.n p.service laws_of t.phase t.paired t.holds t.job_is t.serves t.settled)
            (Some s) p.last low h.sides.peer_fair.last

        pub tells_meets : (y : HasUnit) → HasRoom → Meets job (client_told y.unit) (server_told y.unit)
        tells_meets y room =
            talk_on s free (conn_at s (tells t.n y.unit) (conv_of.queue_at t.phase) (conv_of.units_at t.phase ++ y.unit ∷ [])) _ (server_conn s (tells t.n y.unit)) _
            (serving.sent p.service s t.n.client_miu) t.own t.served refl refl
            (leaves_with s p.service (sent t.n.client_miu (session_of p.service s)).session)
            (talks_tells limit table old z s (plan s) (job s) t.range t.n p.service laws_of t.phase t.paired t.holds t.job_is t.serves t.settled y room)
            l.last (Some s) h.sides.client_fair.last low

        pub hears_meets : Meets job client_heard server_acked
        hears_meets =
            talk_on s free (conn_at s (server_acks t.n) (conv_of.queue_at t.phase) (conv_of.units_at t.phase)) _ (server_conn s (server_acks t.n)) _ p.service t.own t.served refl refl
            (leaves_same s p.service)
            (talks_server_acks limit table old z s (plan s) (job s) t.range t.n p.service laws_of t.phase t.paired t.holds t.job_is t.serves t.settled)
            l.last (Some s) h.sides.client_fair.last low

    -- What the client gives on a connection, the peer takes.
    module _ (P : EndState → PeerState → Type 0) where
      abbrev Hop : Option (Gave NoService) → Type 0
      Hop o = HopSo silent serving P p o

      abbrev pub OnAsks : Type 0
      OnAsks = (s : ℕ) (t : TalksAt s) → IsFree s → (u : List ℕ) (queue : List (List ℕ)) → (conv_of s t).queue_at t.phase ≡ u ∷ queue → P (client_asked s t u queue) (server_asked s t u)

      abbrev pub OnAcks : Type 0
      OnAcks = (s : ℕ) (t : TalksAt s) → IsFree s → (v : List ℕ) (vs : List (List ℕ)) → t.n.told ≡ v ∷ vs → P (client_acked s t) (server_heard s t)

      pub client_informs : OnAsks → (s : ℕ) → Hop (informs silent l s)
      client_informs asks_on s = go (is_in s h.asked) (is_in s h.awaited) refl refl (h.sides.at s)
        where
          none : l.served ≡ []
          none = h.sides.client_served

          unit_ : (t : TalksAt s) → IsFree s → (queue : List (List ℕ)) → (conv_of s t).queue_at t.phase ≡ queue → Hop (informs silent l s)
          unit_ t free [] e =
              subst Hop (sym (client_quiet l none s t.n ((conv_of s t).units_at t.phase) (t.own ∙ ap (λ q. Some (conn_at s t.n q ((conv_of s t).units_at t.phase))) e))) tt
          unit_ t free (u ∷ queue) e =
              subst Hop (sym (client_unit l none s t.n ((conv_of s t).units_at t.phase) u queue (t.own ∙ ap (λ q. Some (conn_at s t.n q ((conv_of s t).units_at t.phase))) e))) (
                asks_short limit table old z s (plan s) (job s) t.range t.n p.service (laws_of s t) t.phase t.paired t.holds t.job_is t.serves t.settled u queue e,
                subst (λ q. P (client_asked s t u queue) q) (sym (server_takes serving p s t.n t.served t.paired.told_sa
                    (few_told limit table old z s (plan s) (job s) t.range t.n p.service (laws_of s t) t.phase t.paired t.holds t.job_is t.serves t.settled) u
                    (fits limit table old z s (plan s) (job s) t.range t.n p.service (laws_of s t) t.phase t.paired t.holds t.job_is t.serves t.settled u queue e)))
                    (asks_on s t free u queue e),
              )

          go : (a w : Bool) → is_in s h.asked ≡ a → is_in s h.awaited ≡ w
              → StandsBy limit table old z s (plan s) (job s) a w (own_from s l.own) (conn_from s p.served) p.service → Hop (informs silent l s)
          go true w ea ew x = subst Hop (sym (waiting_informs l none s x.own)) tt
          go false true ea ew x = subst Hop (sym (waiting_informs l none s x.own)) tt
          go false false ea ew (inl x) = subst Hop (sym (apart_informs l none s x.own)) tt
          go false false ea ew (inr t) = unit_ t (ea, ew) _ refl

      pub client_owes : OnAcks → (s : ℕ) → Hop (acknowledges l s)
      client_owes acks_on s = go (is_in s h.asked) (is_in s h.awaited) refl refl (h.sides.at s)
        where
          none : l.served ≡ []
          none = h.sides.client_served

          ack_ : (t : TalksAt s) → IsFree s → (told : List (List ℕ)) → t.n.told ≡ told → Hop (acknowledges l s)
          ack_ t free [] e = subst Hop (sym (client_settled l none s t.n ((conv_of s t).units_at t.phase) ((conv_of s t).queue_at t.phase) t.own e)) tt
          ack_ t free (v ∷ vs) e =
              subst Hop (sym (client_ack l none s t.n ((conv_of s t).units_at t.phase) ((conv_of s t).queue_at t.phase) t.own v vs e)) (
                client_ack_short limit table old z s (plan s) (job s) t.range t.n p.service (laws_of s t) t.phase t.paired t.holds t.job_is t.serves t.settled,
                subst (λ q. P (client_acked s t) q) (sym (server_hears serving p s t.n t.served t.paired.told_sa
                    (few_told limit table old z s (plan s) (job s) t.range t.n p.service (laws_of s t) t.phase t.paired t.holds t.job_is t.serves t.settled)))
                    (acks_on s t free v vs e),
              )

          go : (a w : Bool) → is_in s h.asked ≡ a → is_in s h.awaited ≡ w
              → StandsBy limit table old z s (plan s) (job s) a w (own_from s l.own) (conn_from s p.served) p.service → Hop (acknowledges l s)
          go true w ea ew x = subst Hop (sym (waiting_acks l none s x.own)) tt
          go false true ea ew x = subst Hop (sym (waiting_acks l none s x.own)) tt
          go false false ea ew (inl x) = subst Hop (sym (apart_acks l none s x.own)) tt
          go false false ea ew (inr t) = ack_ t (ea, ew) _ refl

      -- a CONNECT was given, and these wait
      abbrev pub connect_out : List ℕ → EndState
      connect_out rest = record l { queue = map connect_of rest }

      abbrev pub OnConnects : Type 0
      OnConnects = (s : ℕ) (rest : List ℕ) → h.asked ≡ s ∷ rest → IsShort (connect_part s) × P (connect_out rest) (steps_part serving p (connect_part s))

      -- whatever it gives
      module _ (T : Option (Gave NoService) → Type 0) (some : (g : Gave NoService) → IsShort g.part × P g.llc (steps_part serving p g.part) → T (Some g)) where
        pub client_gives : OnConnects → OnAsks → OnAcks
            → (h.asked ≡ [] → ((s : ℕ) → s < sap_count → informs silent l s ≡ None) → ((s : ℕ) → s < sap_count → acknowledges l s ≡ None) → T None) → T (gave silent l)
        client_gives connects_on asks_on acks_on none = subst (λ q. T (gave_from silent l q)) (sym h.sides.client_queue) (go h.asked refl)
          where
            mark : IfSome l.last IsSap
            mark = h.sides.client_fair.last

            behind : h.asked ≡ [] → T (gave_behind silent l)
            behind e =
                found_of (informs silent l) (λ o. T (or_else o (first_of_all l.last (acknowledges l)))) (λ s x i. some x (subst Hop i (client_informs asks_on s))) l.last mark
                (λ quiet. found_of (acknowledges l) T (λ s x i. some x (subst Hop i (client_owes acks_on s))) l.last mark (λ settled. none e quiet settled))

            go : (asked : List ℕ) → h.asked ≡ asked → T (gave_from silent l (map connect_of asked))
            go [] e = behind e
            go (s ∷ rest) e = some _ (connects_on s rest e)

    -- What the peer gives on a connection, the client takes.
    module _ (P : PeerState → EndState → Type 0) where
      abbrev Back : Option (Gave ServerState) → Type 0
      Back o = HopSo serving silent P l o

      abbrev pub OnTells : Type 0
      OnTells = (s : ℕ) (t : TalksAt s) → IsFree s → (y : HasUnit s t) → HasRoom s t → P (server_told s t y.unit) (client_told s t y.unit)

      abbrev pub OnHears : Type 0
      OnHears = (s : ℕ) (t : TalksAt s) → IsFree s → (u : List ℕ) (us : List (List ℕ)) → t.n.asked ≡ u ∷ us → P (server_acked s t) (client_heard s t)

      own_none : p.own ≡ []
      own_none = h.sides.peer_own

      few_ : (s : ℕ) (t : TalksAt s) → length t.n.asked ≤ 15
      few_ s t = few_asked limit table old z s (plan s) (job s) t.range t.n p.service (laws_of s t) t.phase t.paired t.holds t.job_is t.serves t.settled

      pub server_informs : OnTells → (s : ℕ) → Back (informs serving p s)
      server_informs tells_on s = go (is_in s h.asked) (is_in s h.awaited) refl refl (h.sides.at s)
        where
          by_room : (t : TalksAt s) → IsFree s → (y : HasUnit s t) → (b : Bool) → nat_lt (length t.n.told + 0) t.n.client_window ≡ b → Back (informs serving p s)
          by_room t free y false e = subst Back (sym (server_quiet serving p own_none s t.n t.served (inr e))) tt
          by_room t free y true e =
              subst Back (sym (server_unit serving p own_none s t.n t.served y.unit y.due e)) (
                tells_short limit table old z s (plan s) (job s) t.range t.n p.service (laws_of s t) t.phase t.paired t.holds t.job_is t.serves t.settled y,
                subst (λ q. P (server_told s t y.unit) q) (sym (client_takes l h.sides.client_served s t.n ((conv_of s t).queue_at t.phase) ((conv_of s t).units_at t.phase) t.own
                    t.paired.asked_sa (few_ s t) y.unit y.short))
                    (tells_on s t free y e),
              )

          may : (t : TalksAt s) → IsFree s → ((serving.due p.service s t.n.client_miu ≡ None) ⊎ HasUnit s t) → Back (informs serving p s)
          may t free (inl e) = subst Back (sym (server_quiet serving p own_none s t.n t.served (inl e))) tt
          may t free (inr y) = by_room t free y _ refl

          go : (a w : Bool) → is_in s h.asked ≡ a → is_in s h.awaited ≡ w
              → StandsBy limit table old z s (plan s) (job s) a w (own_from s l.own) (conn_from s p.served) p.service → Back (informs serving p s)
          go true w ea ew x = subst Back (sym (bare_informs serving p own_none s x.served)) tt
          go false true ea ew x =
              subst Back (sym (server_quiet serving p own_none s (first_numbers z) x.served (inl (ap (λ q. (sent z.client_miu q).unit) x.serves.session)))) tt
          go false false ea ew (inl x) = subst Back (sym (bare_informs serving p own_none s x.served)) tt
          go false false ea ew (inr t) = may t (ea, ew) ((laws_of s t).tells t.phase t.holds p.service t.serves)

      pub server_owes : OnHears → (s : ℕ) → Back (acknowledges p s)
      server_owes hears_on s = go (is_in s h.asked) (is_in s h.awaited) refl refl (h.sides.at s)
        where
          ack_ : (t : TalksAt s) → IsFree s → (asked : List (List ℕ)) → t.n.asked ≡ asked → Back (acknowledges p s)
          ack_ t free [] e = subst Back (sym (server_settled serving p own_none s t.n t.served e)) tt
          ack_ t free (u ∷ us) e =
              subst Back (sym (server_ack serving p own_none s t.n t.served u us e)) (
                server_ack_short limit table old z s (plan s) (job s) t.range t.n p.service (laws_of s t) t.phase t.paired t.holds t.job_is t.serves t.settled,
                subst (λ q. P (server_acked s t) q) (sym (client_hears l h.sides.client_served s t.n ((conv_of s t).queue_at t.phase) ((conv_of s t).units_at t.phase) t.own
                    t.paired.asked_sa (few_ s t)))
                    (hears_on s t free u us e),
              )

          go : (a w : Bool) → is_in s h.asked ≡ a → is_in s h.awaited ≡ w
              → StandsBy limit table old z s (plan s) (job s) a w (own_from s l.own) (conn_from s p.served) p.service → Back (acknowledges p s)
          go true w ea ew x = subst Back (sym (bare_acks serving p own_none s x.served)) tt
          go false true ea ew x = subst Back (sym (server_settled serving p own_none s (first_numbers z) x.served refl)) tt
          go false false ea ew (inl x) = subst Back (sym (bare_acks serving p own_none s x.served)) tt
          go false false ea ew (inr t) = ack_ t (ea, ew) _ refl

      -- a CC was given, and these wait
      abbrev pub cc_out : List ℕ → PeerState
      cc_out rest = record p { queue = map cc_of rest }

      abbrev pub OnAccepts : Type 0
      OnAccepts = (s : ℕ) (rest : List ℕ) → h.awaited ≡ s ∷ rest → IsShort (cc_part s) × P (cc_out rest) (steps_part silent l (cc_part s))

      -- whatever it gives
      module _ (T : Option (Gave ServerState) → Type 0) (some : (g : Gave ServerState) → IsShort g.part × P g.llc (steps_part silent l g.part) → T (Some g)) where
        pub server_gives : OnAccepts → OnTells → OnHears
            → (h.awaited ≡ [] → ((s : ℕ) → s < sap_count → informs serving p s ≡ None) → ((s : ℕ) → s < sap_count → acknowledges p s ≡ None) → T None) → T (gave serving p)
        server_gives accepts_on tells_on hears_on none = subst (λ q. T (gave_from serving p q)) (sym h.sides.peer_queue) (go h.awaited refl)
          where
            mark : IfSome p.last IsSap
            mark = h.sides.peer_fair.last

            behind : h.awaited ≡ [] → T (gave_behind serving p)
            behind e =
                found_of (informs serving p) (λ o. T (or_else o (first_of_all p.last (acknowledges p)))) (λ s x i. some x (subst Back i (server_informs tells_on s))) p.last mark
                (λ quiet. found_of (acknowledges p) T (λ s x i. some x (subst Back i (server_owes hears_on s))) p.last mark (λ settled. none e quiet settled))

            go : (awaited : List ℕ) → h.awaited ≡ awaited → T (gave_from serving p (map cc_of awaited))
            go [] e = behind e
            go (s ∷ rest) e = some _ (accepts_on s rest e)
