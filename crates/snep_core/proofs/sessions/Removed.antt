-- A peer's connections once one is ended: where there are as many as clients' SAPs that have one, none stands twice.
use Rattle.std.proofs.Common.{◌≡◌, ◌≤◌, ◌<◌, ℕ, ◌+◌, ◌==◌, Bool, true, false, List, [], ◌∷◌, length, Option, Some, None, is_some, refl, sym, ◌∙◌, ap, subst, arith, if◌then◌else◌}
use Rattle.std.proofs.lemmas.Bool.{eqb-true}
use Rattle.llcp_conn.specs.Conn.{ConnState}
use Rattle.llcp_link.specs.State.{conn_from, without_conn}
use Rattle.llcp_link.proofs.Clients.{conn_without_other}
use Rattle.snep_core.specs.Accord.{clients_in, most_clients}
use Rattle.snep_core.specs.Talk.{client_sap}
use Rattle.snep_core.proofs.connections.Tally.{one_less, one_more, same}

pub at_most : (ks : List ConnState) → clients_in ks ≤ length ks
at_most [] = omega arith
at_most (k ∷ ks) =
    let h = at_most ks in
    let i = one_less (λ s. is_some (conn_from s (k ∷ ks))) (λ s. is_some (conn_from s ks)) k.there
    (λ s n e. sym (ap (λ b. is_some (if b then Some k else conn_from s ks)) n) ∙ e) most_clients client_sap in
    omega (arith, h, i)

without_length : (s : ℕ) (ks : List ConnState) (k : ConnState) → conn_from s ks ≡ Some k → length (without_conn s ks) + 1 ≡ length ks
without_length s [] k e = absurd cc
without_length s (j ∷ ks) k e = go (j.there == s) e (without_length s ks k)
  where
    go : (b : Bool) → (if b then Some j else conn_from s ks) ≡ Some k → (conn_from s ks ≡ Some k → length (without_conn s ks) + 1 ≡ length ks)
        → length (if b then ks else j ∷ without_conn s ks) + 1 ≡ length (j ∷ ks)
    go true e h = omega arith
    go false e h = let i = h e in omega (arith, i)

module _ (s : ℕ) (ks : List ConnState) (k : ConnState) (there : conn_from s ks ≡ Some k) (counted : length ks ≡ clients_in ks) where
  pub none_left : conn_from s (without_conn s ks) ≡ None
  none_left = go (conn_from s (without_conn s ks)) refl
    where
      all : (j : ConnState) → conn_from s (without_conn s ks) ≡ Some j → (t : ℕ) → is_some (conn_from t (without_conn s ks)) ≡ is_some (conn_from t ks)
      all j e t = by (s == t) refl
        where
          by : (b : Bool) → (s == t) ≡ b → is_some (conn_from t (without_conn s ks)) ≡ is_some (conn_from t ks)
          by true n =
              let q : s ≡ t = eqb-true s t n in
              subst (λ r. is_some (conn_from r (without_conn s ks)) ≡ is_some (conn_from r ks)) q (ap (λ o. is_some o) e ∙ sym (ap (λ o. is_some o) there))
          by false n = ap (λ o. is_some o) (conn_without_other t s ks n)

      go : (o : Option ConnState) → conn_from s (without_conn s ks) ≡ o → conn_from s (without_conn s ks) ≡ None
      go None e = e
      go (Some j) e =
          let a = same (λ t. is_some (conn_from t (without_conn s ks))) (λ t. is_some (conn_from t ks)) (all j e) most_clients client_sap in
          let b = at_most (without_conn s ks) in
          let c = without_length s ks k there in
          absurd (omega (arith, a, b, c, counted))

  pub still_counted : client_sap ≤ s → s < client_sap + most_clients → length (without_conn s ks) ≡ clients_in (without_conn s ks)
  still_counted low high =
      let a = one_more (λ t. is_some (conn_from t (without_conn s ks))) (λ t. is_some (conn_from t ks)) s (λ t n. ap (λ o. is_some o) (conn_without_other t s ks n))
      (ap (λ o. is_some o) none_left) (ap (λ o. is_some o) there) most_clients client_sap low high in
      let c = without_length s ks k there in
      omega (arith, a, c, counted)
