-- What PDUs of a client's connection do to it.
use Rattle.std.proofs.Common.{◌≡◌, ◌<◌, ◌≤◌, nat_lt, ℕ, ◌+◌, ◌-◌, ◌*◌, ◌%◌, ◌==◌, Bool, true, false, ◌&&◌, not, List, [], ◌∷◌, ◌++◌, length, take, drop, Some, None, refl, sym, ◌∙◌, ap, subst, arith}
use Rattle.std.proofs.Common.{append-nil, length-append, if◌then◌else◌}
use Rattle.std.proofs.lemmas.List.{take-append-drop}
use Rattle.llcp_pdu.specs.declared.part.FrmrReport.{FrmrReport}
use Rattle.llcp_pdu.specs.declared.part.Part.TheVariants.{Frmr}
use Rattle.llcp_pdu.specs.Wire.{info_type}
use Rattle.llcp_conn.specs.declared.conn.Taken.TheVariants as taking
use Rattle.llcp_conn.specs.Conn.{ConnState, Took, vs, acks, acknowledged, closes, flag_i, flag_r, flag_s, is_outside, takes_unit, takes_nr}
use Rattle.llcp_link.specs.Serving.{Serving}
use Rattle.llcp_link.specs.State.{LlcState, Served, conn_from, with_conn, without_conn}
use Rattle.llcp_link.specs.Taking as t
use Rattle.llcp_link.specs.Units.{Mark, UnitsSoFar, Ends, Stays, Brings, is_within, informs, acknowledges, turn_of}
use Rattle.llcp_link.proofs.Clients.{conn_with, conn_without, distinct_with, distinct_without}
use Rattle.llcp_link.proofs.Ranged.{either}
use Rattle.llcp_link.proofs.Following.{Follows, Fits, FitsBehind, Joined, Linked, same_fits}
use Rattle.llcp_link.proofs.SameRows.{answered_same}

dropped : (k : ℕ) (us : List (List ℕ)) (n : ℕ) → length us ≤ n → length (drop k us) ≤ n
dropped k us n h =
    let e : length (take k us ++ drop k us) ≡ length us = ap length (take-append-drop k us) in
    let f = length-append (take k us) (drop k us) in omega arith

-- the table's test of N(R) and the definition's
within_is : (k : ConnState) (nr : ℕ) → length k.flight ≤ 15 → k.vsa < 16 → nr < 16 → is_within k.vsa (vs k) nr ≡ not (is_outside k nr)
within_is k nr h v n =
    let e : (vs k + 16 - k.vsa) % 16 ≡ length k.flight = omega arith in
    rw e refl

-- what a mark tells of a connection
pub record IsMarked (k : ConnState) (a : Mark) : Type 0 where
  pub vsa_is : a.vsa ≡ k.vsa
  pub vs_is : a.vs ≡ vs k

-- an I, RR or RNR is to a connection still that of its client
pub unit_there : (k : ConnState) (ns nr : ℕ) (xs : List ℕ) → (takes_unit k ns nr xs).conn.there ≡ k.there
unit_there k ns nr xs =
    either {X = Took} (λ z. z.conn.there ≡ k.there) (nat_lt k.near_miu (length xs)) _ _ (λ e. refl)
    (λ e. either {X = Took} (λ z. z.conn.there ≡ k.there) (is_outside k nr) _ _ (λ e. refl)
    (λ e. either {X = Took} (λ z. z.conn.there ≡ k.there) (ns == k.vr) _ _ (λ e. refl) (λ e. refl)))

pub nr_there : (k : ConnState) (ptype nr : ℕ) (held : Bool) → (takes_nr k ptype nr held).conn.there ≡ k.there
nr_there k ptype nr held = either {X = Took} (λ z. z.conn.there ≡ k.there) (is_outside k nr) _ _ (λ e. refl) (λ e. refl)

-- by the tests: a wrong N(R); too long, a wrong N(R), the N(S) that is expected
abbrev nr_so : ConnState → ℕ → ℕ → Bool → Bool → Took
nr_so k ptype nr held outside =
    if outside then closes k flag_r ptype nr else record { conn = record (acknowledged k nr) { held = held }; does = taking.Nothing }

abbrev unit_so : ConnState → ℕ → ℕ → List ℕ → Bool → Bool → Bool → Took
unit_so k ns nr xs long outside next =
    if long then closes k flag_i info_type (16 * ns + nr)
    else (if outside then closes k flag_r info_type (16 * ns + nr)
    else (if next then record { conn = record (acknowledged k nr) { vr = (k.vr + 1) % 16; owed = true }; does = taking.Unit xs }
    else closes k flag_s info_type (16 * ns + nr)))

module _ {S : Type 0} (m : Serving S) (told : S → List (List (List ℕ)) → Type 0) (c miu : ℕ) (f : Follows m c told) (l : LlcState S) (done : List (List (List ℕ))) where
  pub answered_behind : (n : LlcState S) (p : _) (x : _) → FitsBehind told c miu n x done → FitsBehind told c miu (t.answered n p) x done
  answered_behind n p x h = same_fits told c miu n (t.answered n p) x.open_ (done ++ x.over) (answered_same m told c miu f n p) h

  -- it ends
  pub conn_ends : (k : ConnState) (o : UnitsSoFar) → k.there ≡ c → Fits told c miu l (Some o) done
      → FitsBehind told c miu (t.ends l (Served k)) (turn_of o Ends) done
  conn_ends k o e h = record {
    near = h.near;
    distinct = distinct_without k.there l.served h.distinct;
    link = subst (λ z. Linked miu z None) (sym (ap (λ z. conn_from c (without_conn z l.served)) e ∙ conn_without c l.served h.distinct)) tt;
    tells = subst (told l.service) (sym (append-nil (done ++ o.units ∷ []))) h.tells;
  }

  there_with : (k j : ConnState) → k.there ≡ c → conn_from c l.served ≡ Some k → j.there ≡ k.there → conn_from c (with_conn j l.served) ≡ Some j
  there_with k j e i q =
      let g : j.there ≡ c = q ∙ e in
      subst (λ z. conn_from z (with_conn j l.served) ≡ Some j) g (conn_with j l.served k (subst (λ z. conn_from z l.served ≡ Some k) (sym g) i))

  reports : (k : ConnState) (o : UnitsSoFar) (r : FrmrReport) (p : ConnState) → p.there ≡ k.there → k.there ≡ c → Fits told c miu l (Some o) done
      → FitsBehind told c miu (t.served_so m l p (taking.Closed r)) (turn_of o Ends) done
  reports k o r p q e h = answered_behind (t.ends l (Served p)) (Frmr p.there p.here r) (turn_of o Ends) (conn_ends p o (q ∙ e) h)

  -- an acknowledgement alone
  acks_steps : (k : ConnState) (o : UnitsSoFar) (nr : ℕ) (held : Bool) → nr < 16 → k.there ≡ c → conn_from c l.served ≡ Some k → Fits told c miu l (Some o) done → Joined miu k o
      → FitsBehind told c miu (t.served_so m l (record (acknowledged k nr) { held = held }) taking.Nothing) (turn_of o Stays) done
  acks_steps k o nr held n e i h j =
      let now = record (acknowledged k nr) { held = held } in record {
        near = h.near;
        distinct = distinct_with now l.served h.distinct;
        link = subst (λ z. Linked miu z (Some o)) (sym (there_with k now e i refl)) (record {
          goes = j.goes;
          near = j.near;
          under = dropped (acks k nr) k.flight k.window j.under;
          few = j.few;
          sa = n;
          counted = j.counted;
        });
        tells = subst (λ z. told l.service (z ++ o.units ∷ [])) (sym (append-nil done)) h.tells;
      }

  pub ready_steps : (k : ConnState) (o : UnitsSoFar) (ptype nr : ℕ) (held : Bool) (a : Mark) → nr < 16 → IsMarked k a → k.there ≡ c → conn_from c l.served ≡ Some k
      → Fits told c miu l (Some o) done → Joined miu k o
      → FitsBehind told c miu (t.served_so m l (takes_nr k ptype nr held).conn (takes_nr k ptype nr held).does) (turn_of o (acknowledges a nr)) done
  ready_steps k o ptype nr held a n v e i h j = rw tests (go (is_outside k nr))
    where
      tests : is_within a.vsa a.vs nr ≡ not (is_outside k nr)
      tests = (let w = j.few in let g = j.under in rw (v.vsa_is, v.vs_is, within_is k nr (omega arith) j.sa n) refl)

      go : (b : Bool) → FitsBehind told c miu (t.served_so m l (nr_so k ptype nr held b).conn (nr_so k ptype nr held b).does) (turn_of o (if not b then Stays else Ends)) done
      go true = reports k o _ (record k { live = false }) refl e h
      go false = acks_steps k o nr held n e i h j

  -- a unit
  brings : (k : ConnState) (o : UnitsSoFar) (nr : ℕ) (xs : List ℕ) → nr < 16 → k.there ≡ c → conn_from c l.served ≡ Some k → Fits told c miu l (Some o) done → Joined miu k o
      → FitsBehind told c miu (t.served_so m l (record (acknowledged k nr) { vr = (k.vr + 1) % 16; owed = true }) (taking.Unit xs)) (turn_of o (Brings xs)) done
  brings k o nr xs n e i h j =
      let now = record (acknowledged k nr) { vr = (k.vr + 1) % 16; owed = true } in record {
        near = h.near;
        distinct = distinct_with now l.served h.distinct;
        link = subst (λ z. Linked miu z (Some (record o { units = o.units ++ xs ∷ [] }))) (sym (there_with k now e i refl)) (record {
          goes = j.goes;
          near = j.near;
          under = dropped (acks k nr) k.flight k.window j.under;
          few = j.few;
          sa = n;
          counted = (let y = length-append o.units (xs ∷ []) in let z = j.counted in omega arith);
        });
        tells = subst (λ z. told (m.brought l.service k.there xs) (z ++ (o.units ++ xs ∷ []) ∷ [])) (sym (append-nil done))
            (subst (λ z. told (m.brought l.service z xs) (done ++ (o.units ++ xs ∷ []) ∷ [])) (sym e) (f.brought l.service done o.units xs h.tells));
      }

  pub info_steps : (k : ConnState) (o : UnitsSoFar) (ns nr : ℕ) (xs : List ℕ) (a : Mark) → nr < 16 → IsMarked k a → k.there ≡ c → conn_from c l.served ≡ Some k
      → Fits told c miu l (Some o) done → Joined miu k o
      → FitsBehind told c miu (t.served_so m l (takes_unit k ns nr xs).conn (takes_unit k ns nr xs).does) (turn_of o (informs miu o a ns nr xs)) done
  info_steps k o ns nr xs a n v e i h j = rw tests (go (nat_lt k.near_miu (length xs)) (is_outside k nr) (ns == k.vr))
    where
      tests : (not (nat_lt miu (length xs)) && (is_within a.vsa a.vs nr && (ns == length o.units % 16)))
          ≡ (not (nat_lt k.near_miu (length xs)) && (not (is_outside k nr) && (ns == k.vr)))
      tests = (let w = j.few in let g = j.under in rw (v.vsa_is, v.vs_is, within_is k nr (omega arith) j.sa n, j.near, j.counted) refl)

      go : (b z w : Bool)
          → FitsBehind told c miu (t.served_so m l (unit_so k ns nr xs b z w).conn (unit_so k ns nr xs b z w).does)
          (turn_of o (if (not b && (not z && w)) then Brings xs else Ends)) done
      go true z w = reports k o _ (record k { live = false }) refl e h
      go false true w = reports k o _ (record k { live = false }) refl e h
      go false false true = brings k o nr xs n e i h j
      go false false false = reports k o _ (record k { live = false }) refl e h
