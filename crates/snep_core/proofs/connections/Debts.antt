-- The acknowledgements that a client and a peer owe one another, and what one PDU leaves of them.
use Rattle.std.proofs.Common.{◌≡◌, ◌<◌, ◌≤◌, ℕ, ◌+◌, ◌==◌, ◌&&◌, not, Bool, true, false, List, Option, Some, None, refl, sym, ◌∙◌, ap, subst}
use Rattle.std.proofs.lemmas.Bool.{eqb-true}
use Rattle.llcp_conn.specs.Conn.{ConnState}
use Rattle.llcp_link.specs.declared.own.OwnIs.{OwnIs}
use Rattle.llcp_link.specs.declared.own.OwnIs.TheVariants.{Open}
use Rattle.llcp_link.specs.State.{OwnState, conn_from, own_from, with_conn, with_own}
use Rattle.llcp_link.specs.Asking.{has_waiting_of, has_waiting_on}
use Rattle.llcp_link.proofs.Submitted.{own_with}
use Rattle.snep_core.specs.Accord.{how_many, most_clients}
use Rattle.snep_core.specs.Talk.{client_sap}
use Rattle.snep_core.proofs.jobs.Readied.{elsewhere}
use Rattle.snep_core.proofs.connections.Sides.{conn_now, conn_other}
use Rattle.snep_core.proofs.connections.Tally.{fewer, no_more}

-- an acknowledgement is owed on a connection
abbrev pub owes_on : OwnIs → Bool
owes_on (Open c) = c.owed
owes_on _ = false

abbrev pub owes_own : Option OwnState → Bool
owes_own None = false
owes_own (Some o) = owes_on o.is

abbrev pub owes_conn : Option ConnState → Bool
owes_conn None = false
owes_conn (Some c) = c.owed

-- how many a client owes; and a peer, on connections that aren't of these
abbrev pub debts : List OwnState → ℕ
debts own = how_many most_clients client_sap (λ s. owes_own (own_from s own))

abbrev pub other_debts : (ℕ → Bool) → List ConnState → ℕ
other_debts mine served = how_many most_clients client_sap (λ s. not (mine s) && owes_conn (conn_from s served))

-- one of the client's own changes
module _ (s : ℕ) (o before : OwnState) (own : List OwnState) (there : own_from s own ≡ Some before) (here : o.here ≡ s) where
  pub own_is : own_from s (with_own o own) ≡ Some o
  own_is = own_with s own o before there here

  pub own_else : (t : ℕ) → (s == t) ≡ false → own_from t (with_own o own) ≡ own_from t own
  own_else t n = elsewhere t o own (ap (λ k. k == t) here ∙ n)

  less_own : (owes_on o.is ≡ true → owes_on before.is ≡ true) → (t : ℕ) → owes_own (own_from t (with_own o own)) ≡ true → owes_own (own_from t own) ≡ true
  less_own less t e = go (s == t) refl
    where
      go : (b : Bool) → (s == t) ≡ b → owes_own (own_from t own) ≡ true
      go true k =
          let same : s ≡ t = eqb-true s t k in
          subst (λ r. owes_own (own_from r own) ≡ true) same
          (ap owes_own there ∙ less (sym (ap owes_own own_is) ∙ ap (λ r. owes_own (own_from r (with_own o own))) same ∙ e))
      go false k = ap owes_own (sym (own_else t k)) ∙ e

  -- a unit waits to be given as one did
  pub waits_still : has_waiting_on o.is ≡ has_waiting_on before.is → (t : ℕ) → has_waiting_of (own_from t (with_own o own)) ≡ has_waiting_of (own_from t own)
  waits_still same t = go (s == t) refl
    where
      go : (b : Bool) → (s == t) ≡ b → has_waiting_of (own_from t (with_own o own)) ≡ has_waiting_of (own_from t own)
      go true k =
          subst (λ r. has_waiting_of (own_from r (with_own o own)) ≡ has_waiting_of (own_from r own)) (eqb-true s t k)
          (ap has_waiting_of own_is ∙ same ∙ sym (ap has_waiting_of there))
      go false k = ap has_waiting_of (own_else t k)

  -- it owes no more than before
  pub debts_left : (owes_on o.is ≡ true → owes_on before.is ≡ true) → debts (with_own o own) ≤ debts own
  debts_left less =
      no_more (λ t. owes_own (own_from t (with_own o own))) (λ t. owes_own (own_from t own)) (less_own less) most_clients client_sap

  -- it owed one there
  pub debts_fewer : owes_on o.is ≡ false → owes_on before.is ≡ true → client_sap ≤ s → s < client_sap + most_clients → debts (with_own o own) + 1 ≤ debts own
  debts_fewer e k low high =
      fewer (λ t. owes_own (own_from t (with_own o own))) (λ t. owes_own (own_from t own)) s (less_own (λ z. k))
      (ap owes_own own_is ∙ e) (ap owes_own there ∙ k) most_clients client_sap low high

-- one of the peer's changes
module _ (mine : ℕ → Bool) (s : ℕ) (c before : ConnState) (served : List ConnState) (there : conn_from s served ≡ Some before) (from : c.there ≡ s) where
  less_conn : (mine s ≡ false → c.owed ≡ true → before.owed ≡ true) → (t : ℕ) → (not (mine t) && owes_conn (conn_from t (with_conn c served))) ≡ true
      → (not (mine t) && owes_conn (conn_from t served)) ≡ true
  less_conn less t e = go (s == t) refl
    where
      by_mine : (m : Bool) → mine s ≡ m → (not m && c.owed) ≡ true → (not m && before.owed) ≡ true
      by_mine true k f = absurd cc
      by_mine false k f = less k f

      go : (b : Bool) → (s == t) ≡ b → (not (mine t) && owes_conn (conn_from t served)) ≡ true
      go true k =
          let same : s ≡ t = eqb-true s t k in
          subst (λ r. (not (mine r) && owes_conn (conn_from r served)) ≡ true) same
          (ap (λ q. not (mine s) && owes_conn q) there
          ∙ by_mine (mine s) refl (sym (ap (λ q. not (mine s) && owes_conn q) (conn_now s c before served there from))
          ∙ ap (λ r. not (mine r) && owes_conn (conn_from r (with_conn c served))) same ∙ e))
      go false k = ap (λ q. not (mine t) && owes_conn q) (sym (conn_other s c before served there from t k)) ∙ e

  pub others_left : (mine s ≡ false → c.owed ≡ true → before.owed ≡ true) → other_debts mine (with_conn c served) ≤ other_debts mine served
  others_left less =
      no_more (λ t. not (mine t) && owes_conn (conn_from t (with_conn c served))) (λ t. not (mine t) && owes_conn (conn_from t served)) (less_conn less) most_clients client_sap

  pub others_fewer : mine s ≡ false → c.owed ≡ false → before.owed ≡ true → client_sap ≤ s → s < client_sap + most_clients
      → other_debts mine (with_conn c served) + 1 ≤ other_debts mine served
  others_fewer m e k low high =
      fewer (λ t. not (mine t) && owes_conn (conn_from t (with_conn c served))) (λ t. not (mine t) && owes_conn (conn_from t served)) s (less_conn (λ z y. k))
      (ap (λ q. not (mine s) && owes_conn q) (conn_now s c before served there from) ∙ ap (λ b. not b && c.owed) m ∙ e)
      (ap (λ q. not (mine s) && owes_conn q) there ∙ ap (λ b. not b && before.owed) m ∙ k) most_clients client_sap low high
