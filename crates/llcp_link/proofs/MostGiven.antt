-- How many PDUs are as many as fit in a payload.
use Rattle.std.proofs.Common.{◌≡◌, ◌<◌, ◌≤◌, nat_le, ℕ, zero, suc, ◌+◌, ◌-◌, ◌⊎◌, Bool, true, false, List, [], ◌∷◌, length, Option, Some, None, refl, sym, ◌∙◌, ap, subst, inl, inr, arith}
use Rattle.std.proofs.Common.{if◌then◌else◌}
use Rattle.std.proofs.lemmas.Bool.{cases_lt}
use Rattle.std.proofs.lemmas.Bool.Decides.{nat_tests}
use Rattle.llcp_pdu.specs.declared.part.Part.{Part}
use Rattle.llcp_pdu.specs.Writing.{inner_bytes, part_bytes}
use Rattle.llcp_conn.specs.Conn.{ConnState, queued, gives, gives_ack}
use Rattle.llcp_link.specs.Serving.{Serving}
use Rattle.llcp_link.specs.Own.{OwnGave, ack_on, unit_on}
use Rattle.llcp_link.specs.State.{LlcState, Queued, OwnState, conn_from, own_from}
use Rattle.llcp_pdu.specs.Wire.{sap_count}
use Rattle.llcp_link.specs.Giving as g
use Rattle.llcp_link.specs.Giving.{Gave, GaveAll, first_from, gave, gave_first, gave_none, joined, joined_so, given_so, given_parts, others, IsAllowed, may_send, or_else, sap_after}
use Rattle.llcp_link.specs.Answering.{IsMost, MostLaw}

module _ {S : Type 0} (m : Serving S) (miu : ℕ) where
  -- what gives leaves the other end's MIU
  abbrev Keeps : Option (Gave S) → Type 0
  Keeps q = (x : Gave S) → q ≡ Some x → x.llc.far_miu ≡ miu

  none_keeps : Keeps None
  none_keeps x e = absurd cc

  one_keeps : (l : LlcState S) (p : Part) → l.far_miu ≡ miu → Keeps (Some (record { llc = l; part = p }))
  one_keeps l p h x e = let q : record { llc = l; part = p } ≡ x = cc in subst (λ (z : Gave S). z.llc.far_miu ≡ miu) q h

  else_keeps : (a b : Option (Gave S)) → Keeps a → Keeps b → Keeps (or_else a b)
  else_keeps None b p q = q
  else_keeps (Some y) b p q = p

  if_keeps : (v : Bool) (a b : Option (Gave S)) → Keeps a → Keeps b → Keeps (if v then a else b)
  if_keeps true a b p q = p
  if_keeps false a b p q = q

  round_keeps : (n s : ℕ) (h : ℕ → Option (Gave S)) → ((s : ℕ) → Keeps (h s)) → Keeps (first_from n s h)
  unfolding first_from
  round_keeps zero s h all = none_keeps
  round_keeps (suc n) s h all = else_keeps (h s) (first_from n (sap_after s) h) (all s) (round_keeps n (sap_after s) h all)

  conn_keeps : (l : LlcState S) (k : ConnState) (p : Option Part) → l.far_miu ≡ miu → Keeps (g.gave_conn l k p)
  conn_keeps l k None h = none_keeps
  conn_keeps l k (Some p) h = one_keeps _ p h

  own_keeps : (l : LlcState S) (q : Option OwnGave) → l.far_miu ≡ miu → Keeps (g.gave_own l q)
  own_keeps l None h = none_keeps
  own_keeps l (Some x) h = one_keeps _ x.part h

  sends_keeps : (l : LlcState S) (k : ConnState) (q : Option (List ℕ)) → l.far_miu ≡ miu → Keeps (g.sends m l k q)
  sends_keeps l k None h = none_keeps
  sends_keeps l k (Some u) h = conn_keeps (record l { service = m.sent l.service k.there k.far_miu }) (gives (queued k u)).conn (gives (queued k u)).pdu h

  served_keeps : (l : LlcState S) (q : Option ConnState) → l.far_miu ≡ miu → Keeps (g.informs_served m l q)
  served_keeps l None h = none_keeps
  served_keeps l (Some k) h = if_keeps (may_send k) _ _ (sends_keeps l k (m.due l.service k.there k.far_miu) h) none_keeps

  own_informs : (l : LlcState S) (q : Option OwnState) → l.far_miu ≡ miu → Keeps (g.informs_own l q)
  own_informs l None h = none_keeps
  own_informs l (Some x) h = own_keeps l (unit_on x) h

  acks_served : (l : LlcState S) (q : Option ConnState) → l.far_miu ≡ miu → Keeps (g.acknowledges_served l q)
  acks_served l None h = none_keeps
  acks_served l (Some k) h = conn_keeps l (gives_ack k).conn (gives_ack k).pdu h

  acks_own : (l : LlcState S) (q : Option OwnState) → l.far_miu ≡ miu → Keeps (g.acknowledges_own l q)
  acks_own l None h = none_keeps
  acks_own l (Some x) h = own_keeps l (ack_on x) h

  from_keeps : (l : LlcState S) (q : List Queued) → l.far_miu ≡ miu → Keeps (g.gave_from m l q)
  from_keeps l [] h =
      else_keeps _ _
      (round_keeps sap_count (g.circle_start l.last) (g.informs m l) (λ s. else_keeps _ _ (served_keeps l (conn_from s l.served) h) (own_informs l (own_from s l.own) h)))
      (round_keeps sap_count (g.circle_start l.last) (g.acknowledges l) (λ s. else_keeps _ _ (acks_served l (conn_from s l.served) h) (acks_own l (own_from s l.own) h)))
  from_keeps l (p ∷ ps) h = one_keeps _ p.part h

module _ {S : Type 0} (m : Serving S) where
  pub gave_keeps : (l : LlcState S) (x : Gave S) → gave m l ≡ Some x → x.llc.far_miu ≡ l.far_miu
  gave_keeps l x e = from_keeps m l.far_miu l l.queue refl x e

  -- no more PDUs are joined than are asked for, and each takes a byte at least
  few_so : (b used : ℕ) (l : LlcState S) (o : Option (Gave S)) → gave m l ≡ o → ((u : ℕ) (k : LlcState S) → (length (joined m b u k).parts ≤ b) × (length (joined m b u k).parts ≤ k.far_miu - u))
      → (length (joined_so m l used o (joined m b)).parts ≤ suc b) × (length (joined_so m l used o (joined m b)).parts ≤ l.far_miu - used)
  few_so b used l None e more = (omega arith, omega arith)
  few_so b used l (Some x) e more = go (nat_le (used + length (inner_bytes x.part)) l.far_miu) refl
    where
      go : (v : Bool) → nat_le (used + length (inner_bytes x.part)) l.far_miu ≡ v
          → (length (if v then gave_first m x.part (joined m b (used + length (inner_bytes x.part)) x.llc) else gave_none m l).parts ≤ suc b)
          × (length (if v then gave_first m x.part (joined m b (used + length (inner_bytes x.part)) x.llc) else gave_none m l).parts ≤ l.far_miu - used)
      go false h = (omega arith, omega arith)
      go true h =
          let room : used + length (inner_bytes x.part) ≤ l.far_miu = grind (arith, nat_tests) in
          let some : length (inner_bytes x.part) ≡ length (part_bytes x.part) + 2 = omega arith in
          let same : x.llc.far_miu ≡ l.far_miu = gave_keeps l x e in
          let k = more (used + length (inner_bytes x.part)) x.llc in
          let one = k.0 in
          let two = k.1 in
          (omega arith, omega arith)

  few : (b used : ℕ) (l : LlcState S) → (length (joined m b used l).parts ≤ b) × (length (joined m b used l).parts ≤ l.far_miu - used)
  few zero used l = (omega arith, omega arith)
  few (suc b) used l = few_so b used l (gave m l) refl (few b)

  -- where fewer are joined than are asked for, no other number that reaches so far joins more
  stop_so : (b a used : ℕ) (l : LlcState S) (o : Option (Gave S)) → gave m l ≡ o
      → ((c u : ℕ) (k : LlcState S) → length (joined m b u k).parts < b → length (joined m b u k).parts ≤ c → joined m c u k ≡ joined m b u k)
      → length (joined_so m l used o (joined m b)).parts < suc b → length (joined_so m l used o (joined m b)).parts ≤ a → joined m a used l ≡ joined_so m l used o (joined m b)
  stop_so b zero used l None e more h i = refl
  stop_so b (suc a) used l None e more h i = ap (λ o. joined_so m l used o (joined m a)) e
  stop_so b a used l (Some x) e more h i = go (nat_le (used + length (inner_bytes x.part)) l.far_miu) a refl h i
    where
      U : ℕ
      U = used + length (inner_bytes x.part)

      go : (v : Bool) (a : ℕ) → nat_le (used + length (inner_bytes x.part)) l.far_miu ≡ v
          → length (if v then gave_first m x.part (joined m b (used + length (inner_bytes x.part)) x.llc) else gave_none m l).parts < suc b
          → length (if v then gave_first m x.part (joined m b (used + length (inner_bytes x.part)) x.llc) else gave_none m l).parts ≤ a
          → joined m a used l ≡ (if v then gave_first m x.part (joined m b (used + length (inner_bytes x.part)) x.llc) else gave_none m l)
      go false zero f h i = refl
      go false (suc a) f h i =
          ap (λ o. joined_so m l used o (joined m a)) e ∙ ap (λ v. if v then gave_first m x.part (joined m a (used + length (inner_bytes x.part)) x.llc) else gave_none m l) f
      go true zero f h i = absurd (omega arith)
      go true (suc a) f h i =
          ap (λ o. joined_so m l used o (joined m a)) e ∙ ap (λ v. if v then gave_first m x.part (joined m a (used + length (inner_bytes x.part)) x.llc) else gave_none m l) f
          ∙ ap (gave_first m x.part) (more a (used + length (inner_bytes x.part)) x.llc (omega arith) (omega arith))

  stop : (b a used : ℕ) (l : LlcState S) → length (joined m b used l).parts < b → length (joined m b used l).parts ≤ a → joined m a used l ≡ joined m b used l
  stop zero a used l h i = absurd (omega arith)
  stop (suc b) a used l h i = stop_so b a used l (gave m l) refl (λ c u k. stop b c u k) h i

  -- as many as are joined by some number are joined by their own
  pub as_many : (b used : ℕ) (l : LlcState S) → joined m (length (joined m b used l).parts) used l ≡ joined m b used l
  as_many b used l = go (cases_lt (length (joined m b used l).parts) b)
    where
      go : ((length (joined m b used l).parts < b) ⊎ (b ≤ length (joined m b used l).parts)) → joined m (length (joined m b used l).parts) used l ≡ joined m b used l
      go (inl less) = stop b (length (joined m b used l).parts) used l less (omega arith)
      go (inr all) = let k = (few b used l).0 in ap (λ n. joined m n used l) (let same : length (joined m b used l).parts ≡ b = omega arith in same)

  -- where none is due
  nothing_due : (l : LlcState S) → gave m l ≡ None → (n : ℕ) → given_parts m n l ≡ gave_none m l
  nothing_due l e n = ap (λ o. given_so m l o (others m l n)) e

  one_alone : (l : LlcState S) → gave m l ≡ None → IsMost m l 1
  one_alone l e = record {
    allowed = inl refl;
    larger = larger;
    otherwise = λ n h. nothing_due l e n ∙ sym (nothing_due l e 1);
  }
    where
      larger : (n : ℕ) → IsAllowed m l n → n ≤ 1
      larger n (inl one) = omega arith
      larger n (inr h) = let none : length (given_parts m n l).parts ≡ 0 = ap (λ x. length x.parts) (nothing_due l e n) in omega arith

  module _ (l : LlcState S) (x : Gave S) (e : gave m l ≡ Some x) where
    abbrev behind : ℕ → GaveAll m
    behind n = joined m n (length (inner_bytes x.part)) x.llc

    first_given : (n : ℕ) → given_parts m n l ≡ gave_first m x.part (behind (others m l n))
    first_given n = ap (λ o. given_so m l o (others m l n)) e

    -- no more stand behind the first than fit
    within : (n : ℕ) → length (behind n).parts ≤ l.far_miu - 2
    within n =
        let some : length (inner_bytes x.part) ≡ length (part_bytes x.part) + 2 = omega arith in
        let same = gave_keeps l x e in
        let k = (few n (length (inner_bytes x.part)) x.llc).1 in omega arith

    -- a number that falls short joins as many as fit
    short : (n : ℕ) → length (behind n).parts < n → behind l.far_miu ≡ behind n
    short n less = stop n l.far_miu (length (inner_bytes x.part)) x.llc less (let k = within n in omega arith)

    -- none joins more
    longest : (n : ℕ) → length (behind n).parts ≡ n → n ≤ length (behind l.far_miu).parts
    longest n all = go (cases_lt (length (behind l.far_miu).parts) n)
      where
        go : ((length (behind l.far_miu).parts < n) ⊎ (n ≤ length (behind l.far_miu).parts)) → n ≤ length (behind l.far_miu).parts
        go (inr h) = h
        go (inl less) =
            let k = within n in
            let i = within l.far_miu in
            let far : length (behind l.far_miu).parts < l.far_miu = omega arith in
            let same : behind n ≡ behind l.far_miu = stop l.far_miu n (length (inner_bytes x.part)) x.llc far (omega arith) in
            let z : length (behind n).parts ≡ length (behind l.far_miu).parts = ap (λ y. length y.parts) same in omega arith

    most_given : given_parts m (suc (length (behind l.far_miu).parts)) l ≡ gave_first m x.part (behind l.far_miu)
    most_given = first_given (suc (length (behind l.far_miu).parts)) ∙ ap (gave_first m x.part) (as_many l.far_miu (length (inner_bytes x.part)) x.llc)

    several_due : IsMost m l (suc (length (behind l.far_miu).parts))
    several_due = record { allowed = allowed (cases_lt (length (behind l.far_miu).parts) 1); larger = larger; otherwise = λ n h. otherwise n h ∙ sym most_given }
      where
        allowed : ((length (behind l.far_miu).parts < 1) ⊎ (1 ≤ length (behind l.far_miu).parts)) → IsAllowed m l (suc (length (behind l.far_miu).parts))
        allowed (inl none) = inl (omega arith)
        allowed (inr some) = inr ((let z : 2 ≤ suc (length (behind l.far_miu).parts) = omega arith in z), ap (λ y. length y.parts) most_given)

        larger : (n : ℕ) → IsAllowed m l n → n ≤ suc (length (behind l.far_miu).parts)
        larger n (inl one) = omega arith
        larger zero (inr h) = omega arith
        larger (suc n) (inr h) =
            let all : suc (length (behind n).parts) ≡ suc n = sym (ap (λ y. length y.parts) (first_given (suc n))) ∙ h.1 in
            let k = longest n (omega arith) in omega arith

        otherwise : (n : ℕ) → (IsAllowed m l n → ⊥) → given_parts m n l ≡ gave_first m x.part (behind l.far_miu)
        otherwise zero h = first_given zero
        otherwise (suc zero) h = absurd (h (inl refl))
        otherwise (suc (suc n)) h = go (cases_lt (length (behind (suc n)).parts) (suc n))
          where
            go : ((length (behind (suc n)).parts < suc n) ⊎ (suc n ≤ length (behind (suc n)).parts)) → given_parts m (suc (suc n)) l ≡ gave_first m x.part (behind l.far_miu)
            go (inl less) = first_given (suc (suc n)) ∙ ap (gave_first m x.part) (sym (short (suc n) less))
            go (inr all) =
                let k = (few (suc n) (length (inner_bytes x.part)) x.llc).0 in
                let two : 2 ≤ suc (suc n) = omega arith in
                let full : suc (length (behind (suc n)).parts) ≡ suc (suc n) = omega arith in
                absurd (h (inr (two, ap (λ y. length y.parts) (first_given (suc (suc n))) ∙ full)))

  pub most_law : MostLaw m
  most_law l = go (gave m l) refl
    where
      go : (o : Option (Gave S)) → gave m l ≡ o → (most : ℕ) × IsMost m l most
      go None e = (1, one_alone l e)
      go (Some x) e = (suc (length (behind l x e l.far_miu).parts), several_due l x e)
