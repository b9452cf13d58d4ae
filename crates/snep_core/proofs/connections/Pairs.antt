-- One PDU on the connection from a SAP, between a client and a peer: what the one gives, and what the other makes of it.
use Rattle.std.proofs.Common.{◌≡◌, ◌<◌, ◌≤◌, ◌⊎◌, nat_lt, ℕ, ◌+◌, ◌-◌, ◌%◌, ◌==◌, Bool, true, false, List, [], ◌∷◌, ◌++◌, length, drop, Option, Some, None, refl, sym, ◌∙◌, ap, subst, arith, inl, inr}
use Rattle.std.proofs.Common.{if◌then◌else◌, length-append}
use Rattle.std.proofs.lemmas.Bool.Decides.{nat_tests}
use Rattle.llcp_pdu.specs.declared.part.Part.{Part}
use Rattle.llcp_pdu.specs.declared.part.Part.TheVariants.{Info, Rr}
use Rattle.llcp_conn.specs.Conn.{ConnState, count_end, modulus, takes}
use Rattle.llcp_link.specs.Serving.{Serving}
use Rattle.llcp_link.specs.State.{LlcState, OwnState, conn_from, own_from, own_holder, served_holder, with_conn, with_own}
use Rattle.llcp_link.specs.Asking.{asked_from, is_there}
use Rattle.llcp_link.specs.Opened.{opened}
use Rattle.llcp_link.specs.Taking.{numbered, steps_part}
use Rattle.llcp_link.specs.Giving.{acknowledges, acknowledges_own, acknowledges_served, gave_own, informs, informs_own, informs_served, or_else, sends}
use Rattle.llcp_link.specs.Own.{ack_so, unit_so}
use Rattle.llcp_link.specs.declared.own.OwnIs.{OwnIs}
use Rattle.llcp_link.specs.declared.own.OwnIs.TheVariants.{Asking, Open, Refused, Leaving, Closed}
use Rattle.snep_core.specs.Accord.{IsOver, Numbers, client_conn, is_some_of, server_conn}
use Rattle.snep_core.specs.Talk.{EndState, server_sap, silent}
use Rattle.snep_core.proofs.connections.OnConnection.{conn_at}

pub not_lt : (m n : ℕ) → n ≤ m → nat_lt m n ≡ false
not_lt m n h = grind (arith, nat_tests)

same : (m : ℕ) → (m == m) ≡ true
same m = grind (arith, nat_tests)

pub drop_all : (xs : List (List ℕ)) → drop (length xs) xs ≡ []
drop_all [] = refl
drop_all (x ∷ xs) = drop_all xs

-- the numbers once the client acknowledged, or the server did
abbrev pub client_acks : Numbers → Numbers
client_acks n = record n { told = []; told_sa = (n.told_sa + length n.told) % modulus; told_count = (n.told_count + length n.told) % count_end }

abbrev pub server_acks : Numbers → Numbers
server_acks n = record n { asked = []; asked_sa = (n.asked_sa + length n.asked) % modulus; asked_count = (n.asked_count + length n.asked) % count_end }

-- once the client gave a unit, or the server did, which acknowledges too
abbrev pub asks : Numbers → List ℕ → Numbers
asks n u = record (client_acks n) { asked = n.asked ++ u ∷ [] }

abbrev pub tells : Numbers → List ℕ → Numbers
tells n v = record (server_acks n) { told = n.told ++ v ∷ [] }

-- the PDUs
abbrev pub asked_part : ℕ → Numbers → List ℕ → Part
asked_part sap n u = Info server_sap sap ((n.asked_sa + length n.asked) % modulus) ((n.told_sa + length n.told) % modulus) u

abbrev pub told_part : ℕ → Numbers → List ℕ → Part
told_part sap n v = Info sap server_sap ((n.told_sa + length n.told) % modulus) ((n.asked_sa + length n.asked) % modulus) v

abbrev pub client_ack_part : ℕ → Numbers → Part
client_ack_part sap n = Rr server_sap sap ((n.told_sa + length n.told) % modulus)

abbrev pub server_ack_part : ℕ → Numbers → Part
server_ack_part sap n = Rr sap server_sap ((n.asked_sa + length n.asked) % modulus)

-- an end with a connection in the place of that from its SAP, which gave a PDU
abbrev pub client_gave : EndState → OwnState → EndState
client_gave l o = record l { own = with_own o l.own; last = Some o.here }

abbrev pub server_gave : {S : Type 0} → LlcState S → ConnState → S → LlcState S
server_gave p c s = record p { served = with_conn c p.served; last = Some c.there; service = s }

-- and which took one
abbrev pub client_took : EndState → OwnState → EndState
client_took l o = record l { own = with_own o l.own }

abbrev pub server_took : {S : Type 0} → LlcState S → ConnState → S → LlcState S
server_took p c s = record p { served = with_conn c p.served; service = s }

again : (a : ℕ) → (a % 16 + 0) % 16 ≡ a % 16
again a = omega arith

-- one that is over, and one that is asked for, give nothing
pub unit_over : (o : OwnState) (i : OwnIs) → is_there i ≡ false → unit_so o i ≡ None
unit_over o Asking h = refl
unit_over o (Open c) h = absurd cc
unit_over o Refused h = refl
unit_over o Leaving h = refl
unit_over o Closed h = refl

pub ack_over : (o : OwnState) (i : OwnIs) → is_there i ≡ false → ack_so o i ≡ None
ack_over o Asking h = refl
ack_over o (Open c) h = absurd cc
ack_over o Refused h = refl
ack_over o Leaving h = refl
ack_over o Closed h = refl

-- the client gives
module _ (l : EndState) (none : l.served ≡ []) (sap : ℕ) where
  pub informs_is : (q : Option OwnState) → own_from sap l.own ≡ q → informs silent l sap ≡ informs_own l q
  informs_is q e =
      ap (λ cs. or_else (informs_served silent l (conn_from sap cs)) (informs_own l (own_from sap l.own))) none ∙ ap (informs_own l) e

  pub acks_is : (q : Option OwnState) → own_from sap l.own ≡ q → acknowledges l sap ≡ acknowledges_own l q
  acks_is q e =
      ap (λ cs. or_else (acknowledges_served l (conn_from sap cs)) (acknowledges_own l (own_from sap l.own))) none ∙ ap (acknowledges_own l) e

  over_informs : (q : Option OwnState) → own_from sap l.own ≡ q → IsOver q → informs silent l sap ≡ None
  over_informs None e h = informs_is None e
  over_informs (Some o) e h = informs_is (Some o) e ∙ ap (gave_own l) (unit_over o o.is h.0)

  over_acks : (q : Option OwnState) → own_from sap l.own ≡ q → IsOver q → acknowledges l sap ≡ None
  over_acks None e h = acks_is None e
  over_acks (Some o) e h = acks_is (Some o) e ∙ ap (gave_own l) (ack_over o o.is h.0)

  pub apart_informs : IsOver (own_from sap l.own) → informs silent l sap ≡ None
  apart_informs h = over_informs (own_from sap l.own) refl h

  pub apart_acks : IsOver (own_from sap l.own) → acknowledges l sap ≡ None
  apart_acks h = over_acks (own_from sap l.own) refl h

  pub waiting_informs : own_from sap l.own ≡ Some (asked_from sap server_sap) → informs silent l sap ≡ None
  waiting_informs e = informs_is (Some (asked_from sap server_sap)) e

  pub waiting_acks : own_from sap l.own ≡ Some (asked_from sap server_sap) → acknowledges l sap ≡ None
  waiting_acks e = acks_is (Some (asked_from sap server_sap)) e

  module _ (n : Numbers) (units : List (List ℕ)) where
    pub client_unit : (u : List ℕ) (queue : List (List ℕ)) → own_from sap l.own ≡ Some (conn_at sap n (u ∷ queue) units)
        → informs silent l sap ≡ Some (record { llc = client_gave l (conn_at sap (asks n u) queue units); part = asked_part sap n u })
    client_unit u queue e =
        informs_is (Some (conn_at sap n (u ∷ queue) units)) e
        ∙ ap (λ vr. Some (record { llc = client_gave l (opened sap server_sap (record (client_conn sap (asks n u) queue) { vr = vr }) units); part = asked_part sap n u }))
        (sym (again (n.told_sa + length n.told)))

    pub client_quiet : own_from sap l.own ≡ Some (conn_at sap n [] units) → informs silent l sap ≡ None
    client_quiet e = informs_is (Some (conn_at sap n [] units)) e

    pub client_ack : (queue : List (List ℕ)) → own_from sap l.own ≡ Some (conn_at sap n queue units) → (v : List ℕ) (vs : List (List ℕ)) → n.told ≡ v ∷ vs
        → acknowledges l sap ≡ Some (record { llc = client_gave l (conn_at sap (client_acks n) queue units); part = client_ack_part sap n })
    client_ack queue e v vs t =
        acks_is (Some (conn_at sap n queue units)) e
        ∙ subst (λ b. acknowledges_own l (Some (opened sap server_sap (record (client_conn sap n queue) { owed = b }) units))
        ≡ Some (record {
          llc = client_gave l (opened sap server_sap (record (client_conn sap (client_acks n) queue) { vr = (n.told_sa + length n.told) % modulus }) units);
          part = client_ack_part sap n;
        }))
        (sym (ap is_some_of t)) refl
        ∙ ap (λ vr. Some (record { llc = client_gave l (opened sap server_sap (record (client_conn sap (client_acks n) queue) { vr = vr }) units); part = client_ack_part sap n }))
        (sym (again (n.told_sa + length n.told)))

    pub client_settled : (queue : List (List ℕ)) → own_from sap l.own ≡ Some (conn_at sap n queue units) → n.told ≡ [] → acknowledges l sap ≡ None
    client_settled queue e t =
        acks_is (Some (conn_at sap n queue units)) e
        ∙ subst (λ b. acknowledges_own l (Some (opened sap server_sap (record (client_conn sap n queue) { owed = b }) units)) ≡ None) (sym (ap is_some_of t)) refl

-- numbers modulo 16
pub right : (a k : ℕ) → a < 16 → k ≤ 15 → ((a + k) % 16 + 16 - a) % 16 ≡ k
right a k h i = omega arith

counted : (a k : ℕ) → ((a + k) % 16 + 1) % 16 ≡ (a + (k + 1)) % 16
counted a k = omega arith

more : (us : List (List ℕ)) (u : List ℕ) → length (us ++ u ∷ []) ≡ length us + 1
more us u = length-append us (u ∷ [])

some_more : (us : List (List ℕ)) (u : List ℕ) → is_some_of (us ++ u ∷ []) ≡ true
some_more [] u = refl
some_more (x ∷ us) u = refl

-- the server takes
module _ {S : Type 0} (m : Serving S) (p : LlcState S) (sap : ℕ) (n : Numbers) (there : conn_from sap p.served ≡ Some (server_conn sap n))
    (sa : n.told_sa < 16) (few : length n.told ≤ 15) where
  pub server_takes : (u : List ℕ) → length u ≤ n.server_miu
      → steps_part m p (asked_part sap n u) ≡ server_took p (server_conn sap (asks n u)) (m.brought p.service sap u)
  server_takes u fits =
      ap (λ q. numbered m p (λ c. takes c (asked_part sap n u)) server_sap sap (served_holder server_sap q (own_holder sap (own_from server_sap p.own)))) there
      ∙ rw (
        not_lt n.server_miu (length u) fits,
        right n.told_sa (length n.told) sa few,
        not_lt (length n.told) (length n.told) (omega arith),
        same ((n.asked_sa + length n.asked) % 16),
        drop_all n.told,
        counted n.asked_sa (length n.asked),
        more n.asked u,
        some_more n.asked u,
      ) refl

  pub server_hears : steps_part m p (client_ack_part sap n) ≡ server_took p (server_conn sap (client_acks n)) p.service
  server_hears =
      ap (λ q. numbered m p (λ c. takes c (client_ack_part sap n)) server_sap sap (served_holder server_sap q (own_holder sap (own_from server_sap p.own)))) there
      ∙ rw (
        right n.told_sa (length n.told) sa few,
        not_lt (length n.told) (length n.told) (omega arith),
        drop_all n.told,
      ) refl

-- the client takes
module _ (l : EndState) (none : l.served ≡ []) (sap : ℕ) (n : Numbers) (queue units : List (List ℕ)) (there : own_from sap l.own ≡ Some (conn_at sap n queue units))
    (sa : n.asked_sa < 16) (few : length n.asked ≤ 15) where
  pub client_takes : (v : List ℕ) → length v ≤ n.client_miu
      → steps_part silent l (told_part sap n v) ≡ client_took l (conn_at sap (tells n v) queue (units ++ v ∷ []))
  client_takes v fits =
      ap (λ cs. numbered silent l (λ c. takes c (told_part sap n v)) sap server_sap (served_holder sap (conn_from server_sap cs) (own_holder server_sap (own_from sap l.own)))) none
      ∙ ap (λ q. numbered silent l (λ c. takes c (told_part sap n v)) sap server_sap (own_holder server_sap q)) there
      ∙ rw (
        not_lt n.client_miu (length v) fits,
        right n.asked_sa (length n.asked) sa few,
        not_lt (length n.asked) (length n.asked) (omega arith),
        same ((n.told_sa + length n.told) % 16),
        drop_all n.asked,
        counted n.told_sa (length n.told),
        more n.told v,
        some_more n.told v,
      ) refl

  pub client_hears : steps_part silent l (server_ack_part sap n) ≡ client_took l (conn_at sap (server_acks n) queue units)
  client_hears =
      ap (λ cs. numbered silent l (λ c. takes c (server_ack_part sap n)) sap server_sap (served_holder sap (conn_from server_sap cs) (own_holder server_sap (own_from sap l.own)))) none
      ∙ ap (λ q. numbered silent l (λ c. takes c (server_ack_part sap n)) sap server_sap (own_holder server_sap q)) there
      ∙ rw (
        right n.asked_sa (length n.asked) sa few,
        not_lt (length n.asked) (length n.asked) (omega arith),
        drop_all n.asked,
      ) refl

-- the server gives
module _ {S : Type 0} (m : Serving S) (p : LlcState S) (none : p.own ≡ []) (sap : ℕ) where
  own_none : own_from sap p.own ≡ None
  own_none = ap (own_from sap) none

  pub bare_informs : conn_from sap p.served ≡ None → informs m p sap ≡ None
  bare_informs e = ap (λ q. or_else (informs_served m p q) (informs_own p (own_from sap p.own))) e ∙ ap (informs_own p) own_none

  pub bare_acks : conn_from sap p.served ≡ None → acknowledges p sap ≡ None
  bare_acks e = ap (λ q. or_else (acknowledges_served p q) (acknowledges_own p (own_from sap p.own))) e ∙ ap (acknowledges_own p) own_none

  module _ (n : Numbers) (there : conn_from sap p.served ≡ Some (server_conn sap n)) where
    on_it : informs m p sap ≡ or_else (informs_served m p (Some (server_conn sap n))) None
    on_it =
        ap (λ q. or_else (informs_served m p q) (informs_own p (own_from sap p.own))) there
        ∙ ap (λ q. or_else (informs_served m p (Some (server_conn sap n))) (informs_own p q)) own_none

    acks_on_it : acknowledges p sap ≡ or_else (acknowledges_served p (Some (server_conn sap n))) None
    acks_on_it =
        ap (λ q. or_else (acknowledges_served p q) (acknowledges_own p (own_from sap p.own))) there
        ∙ ap (λ q. or_else (acknowledges_served p (Some (server_conn sap n))) (acknowledges_own p q)) own_none

    pub server_unit : (v : List ℕ) → m.due p.service sap n.client_miu ≡ Some v → nat_lt (length n.told + 0) n.client_window ≡ true
        → informs m p sap ≡ Some (record { llc = server_gave p (server_conn sap (tells n v)) (m.sent p.service sap n.client_miu); part = told_part sap n v })
    server_unit v e room =
        on_it
        ∙ rw (room, e) refl
        ∙ ap (λ vr. Some (record { llc = server_gave p (record (server_conn sap (tells n v)) { vr = vr }) (m.sent p.service sap n.client_miu); part = told_part sap n v }))
        (sym (again (n.asked_sa + length n.asked)))

    -- nothing is to be sent, or the window is full
    abbrev pub Rests : Type 0
    Rests = (m.due p.service sap n.client_miu ≡ None) ⊎ (nat_lt (length n.told + 0) n.client_window ≡ false)

    pub server_quiet : Rests → informs m p sap ≡ None
    server_quiet (inl e) = on_it ∙ go (nat_lt (length n.told + 0) n.client_window) (ap (λ o. sends m p (server_conn sap n) o) e)
      where
        go : (b : Bool) → sends m p (server_conn sap n) (m.due p.service sap n.client_miu) ≡ None
            → or_else (if b then sends m p (server_conn sap n) (m.due p.service sap n.client_miu) else None) None ≡ None
        go true k = ap (λ o. or_else o None) k
        go false k = refl
    server_quiet (inr e) =
        on_it ∙ ap (λ b. or_else (if b then sends m p (server_conn sap n) (m.due p.service sap n.client_miu) else None) None) e

    pub server_ack : (u : List ℕ) (us : List (List ℕ)) → n.asked ≡ u ∷ us
        → acknowledges p sap ≡ Some (record { llc = server_gave p (server_conn sap (server_acks n)) p.service; part = server_ack_part sap n })
    server_ack u us e =
        acks_on_it
        ∙ subst (λ b. or_else (acknowledges_served p (Some (record (server_conn sap n) { owed = b }))) None
        ≡ Some (record { llc = server_gave p (record (server_conn sap (server_acks n)) { vr = (n.asked_sa + length n.asked) % modulus }) p.service; part = server_ack_part sap n }))
        (sym (ap is_some_of e)) refl
        ∙ ap (λ vr. Some (record { llc = server_gave p (record (server_conn sap (server_acks n)) { vr = vr }) p.service; part = server_ack_part sap n }))
        (sym (again (n.asked_sa + length n.asked)))

    pub server_settled : n.asked ≡ [] → acknowledges p sap ≡ None
    server_settled e =
        acks_on_it
        ∙ subst (λ b. or_else (acknowledges_served p (Some (record (server_conn sap n) { owed = b }))) None ≡ None) (sym (ap is_some_of e)) refl
