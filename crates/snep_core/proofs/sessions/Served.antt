-- What an end's calls do to its server's session for a client's SAP.
use Rattle.std.proofs.Common.{◌≡◌, ◌<◌, ℕ, zero, suc, List, [], ◌∷◌, ◌++◌, length, set, get_or, refl, sym, ◌∙◌, ap, subst, arith}
use Rattle.std.proofs.lemmas.List.{length-set}
use Rattle.snep_core.specs.Server.{Received, ServerState, brought_by, received, serving, session_of, with_session}
use Rattle.snep_core.specs.Payloads.{accepted_from}
use Rattle.snep_core.specs.Session.{Did, Offer, Sent, Session, did, fresh_session, sent}
use Rattle.snep_core.proofs.sessions.SourcesTold.{received_same}
use Rattle.snep_core.proofs.sessions.UnitPuts.{kept}

-- The server has this session for a SAP, and accepted from it what is from it among these messages.
pub record Serves (sap limit : ℕ) (table : List Offer) (s : ServerState) (x : Session) (accepted : List Received) : Type 0 where
  pub seats : sap < length s.sessions
  pub session : session_of s sap ≡ x
  pub got : accepted_from sap s.accepted ≡ accepted_from sap accepted
  pub most : s.limit ≡ limit
  pub offers : s.table ≡ table

session_put : (xs : List Session) (i : ℕ) (x : Session) → i < length xs → get_or (set xs i x) i fresh_session ≡ x
session_put [] i x h = absurd (omega arith)
session_put (y ∷ xs) zero x h = refl
session_put (y ∷ xs) (suc i) x h = session_put xs i x (omega arith)

seats_put : (sap : ℕ) (s : ServerState) (x : Session) → sap < length s.sessions → sap < length (set s.sessions sap x)
seats_put sap s x h = subst (λ n. sap < n) (sym (length-set s.sessions sap x)) h

module _ (sap limit : ℕ) (table : List Offer) (s : ServerState) (x : Session) (accepted : List Received) (h : Serves sap limit table s x accepted) where
  pub serves_begun : Serves sap limit table (serving.begun s sap) fresh_session accepted
  serves_begun = record { seats = seats_put sap s fresh_session h.seats; session = session_put s.sessions sap fresh_session h.seats; got = h.got; most = h.most; offers = h.offers }

  pub serves_brought : (u : List ℕ) (d : Did) → did limit table x u ≡ d
      → Serves sap limit table (serving.brought s sap u) d.session (accepted ++ received sap d.accepts)
  serves_brought u d e =
      let k : did s.limit s.table (session_of s sap) u ≡ d = ap (λ n. did n s.table (session_of s sap) u) h.most ∙ ap (λ t. did limit t (session_of s sap) u) h.offers
      ∙ ap (λ y. did limit table y u) h.session ∙ e in
      subst (λ z. Serves sap limit table (brought_by s sap z) d.session (accepted ++ received sap d.accepts)) (sym k) (record {
        seats = seats_put sap s d.session h.seats;
        session = session_put s.sessions sap d.session h.seats;
        got = received_same sap s.accepted d.accepts ∙ ap (λ z. z ++ kept d.accepts) h.got ∙ sym (received_same sap accepted d.accepts);
        most = h.most;
        offers = h.offers;
      })

  pub serves_sent : (miu : ℕ) (z : Sent) → sent miu x ≡ z → Serves sap limit table (serving.sent s sap miu) z.session accepted
  serves_sent miu z e =
      let k : sent miu (session_of s sap) ≡ z = ap (sent miu) h.session ∙ e in
      subst (λ y. Serves sap limit table (with_session s sap y.session) z.session accepted) (sym k) (record {
        seats = seats_put sap s z.session h.seats;
        session = session_put s.sessions sap z.session h.seats;
        got = h.got;
        most = h.most;
        offers = h.offers;
      })

  pub due_is : (miu : ℕ) (z : Sent) → sent miu x ≡ z → serving.due s sap miu ≡ z.unit
  due_is miu z e = ap (λ y. (sent miu y).unit) h.session ∙ ap (λ (y : Sent). y.unit) e
