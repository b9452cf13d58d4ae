-- PDUs that are joined, one after the other.
use Rattle.std.proofs.Common.{◌≡◌, ◌<◌, ◌≤◌, ℕ, zero, suc, ◌+◌, ◌-◌, true, false, refl, Option, None, List, [], ◌∷◌, ◌++◌, length, Some, sym, ap, subst, ◌∙◌, arith, length-append, nat_le}
use Rattle.std.proofs.Common.{if◌then◌else◌, append-nil}
use Rattle.std.proofs.lemmas.List.{append_assoc}
use Rattle.llcp_pdu.specs.declared.part.Part.{Part}
use Rattle.llcp_pdu.specs.Writing.{inner_bytes, part_bytes, parts_bytes}
use Rattle.llcp_link.specs.Serving.{Serving}
use Rattle.llcp_link.specs.State.{LlcState}
use Rattle.llcp_link.specs.Giving.{Gave, GaveAll, gave, gave_none, gave_first, joined, joined_so}
use Rattle.llcp_link.specs.Kept.{IsSent}
use Rattle.llcp_link.specs.private.Joining.{AreSent, Joins, HaltsJoining}
use Rattle.llcp_link.specs.Offering.{IsLonger, LeavesNext, part_of}

-- these PDUs were given before
abbrev pub gave_before : {S : Type 0} (m : Serving S) → List Part → GaveAll m → GaveAll m
gave_before m ps g = record { llc = g.llc; parts = ps ++ g.parts }

-- these were joined, and whatever comes stands behind them
pub record JoinsSoFar {S : Type 0} (m : Serving S) (first : ℕ) (old : LlcState S) (ps : List Part) (used : ℕ) (now : LlcState S) : Type 0 where
  pub all : (j : ℕ) → joined m (length ps + j) first old ≡ gave_before m ps (joined m j used now)
  pub sent : AreSent ps
  pub used_is : used ≡ first + length (parts_bytes ps)
  pub size : 0 < length ps → used ≤ old.far_miu

module _ {S : Type 0} (m : Serving S) where
  one_of : (j used : ℕ) (l : LlcState S) (g : Gave S) (fits : nat_le (used + length (inner_bytes g.part)) l.far_miu ≡ true) → gave m l ≡ Some g
      → joined m (suc j) used l ≡ gave_first m g.part (joined m j (used + length (inner_bytes g.part)) g.llc)
  one_of j used l g fits e =
      ap (λ o. joined_so m l used o (joined m j)) e
      ∙ ap (λ b. if b then gave_first m g.part (joined m j (used + length (inner_bytes g.part)) g.llc) else gave_none m l) fits

  pub parts_more : (ps : List Part) (p : Part) → length (parts_bytes (ps ++ p ∷ [])) ≡ length (parts_bytes ps) + (length (part_bytes p) + 2)
  parts_more [] p = ap length (append-nil (inner_bytes p)) ∙ (let e : length (inner_bytes p) ≡ 0 + (length (part_bytes p) + 2) = omega arith in e)
  parts_more (q ∷ qs) p =
      let e = length-append (inner_bytes q) (parts_bytes (qs ++ p ∷ [])) in
      let k = length-append (inner_bytes q) (parts_bytes qs) in
      let i = parts_more qs p in omega arith

  sent_more : (ps : List Part) (p : Part) → AreSent ps → IsSent p → AreSent (ps ++ p ∷ [])
  sent_more [] p h k = (k, tt)
  sent_more (q ∷ qs) p h k = (h.0, sent_more qs p h.1 k)

  module _ (first : ℕ) (old : LlcState S) (ps : List Part) (used : ℕ) (now : LlcState S) (p : Part) (new : LlcState S) where
    all_more : JoinsSoFar m first old ps used now → nat_le (used + length (inner_bytes p)) now.far_miu ≡ true → gave m now ≡ Some (record { llc = new; part = p }) → (j : ℕ)
        → joined m (length (ps ++ p ∷ []) + j) first old ≡ gave_before m (ps ++ p ∷ []) (joined m j (used + length (inner_bytes p)) new)
    all_more h fits e j =
        let n : length (ps ++ p ∷ []) + j ≡ length ps + suc j = let k = length-append ps (p ∷ []) in omega arith in
        ap (λ k. joined m k first old) n ∙ h.all (suc j) ∙ ap (gave_before m ps) (one_of j used now (record { llc = new; part = p }) fits e)
        ∙ ap (λ xs. record { llc = (joined m j (used + length (inner_bytes p)) new).llc; parts = xs }) (sym (append_assoc ps (p ∷ []) (joined m j (used + length (inner_bytes p)) new).parts))

    -- one more is joined
    pub one_joined : JoinsSoFar m first old ps used now → now.far_miu ≡ old.far_miu → gave m now ≡ Some (record { llc = new; part = p }) → IsSent p
        → length (inner_bytes p) ≤ old.far_miu - used → JoinsSoFar m first old (ps ++ p ∷ []) (used + (length (part_bytes p) + 2)) new
    one_joined h far e sent room =
        let two : length (inner_bytes p) ≡ length (part_bytes p) + 2 = omega arith in
        let small : used + length (inner_bytes p) ≤ now.far_miu = omega arith in
        let fits : nat_le (used + length (inner_bytes p)) now.far_miu ≡ true = grind (arith, small) in record {
          all = λ j. subst (λ k. joined m (length (ps ++ p ∷ []) + j) first old ≡ gave_before m (ps ++ p ∷ []) (joined m j (used + k) new)) two (all_more h fits e j);
          sent = sent_more ps p h.sent sent;
          used_is = let k = parts_more ps p in let u = h.used_is in omega arith;
          size = λ z. omega arith;
        }

  pub joined_now : (first : ℕ) (old : LlcState S) (ps : List Part) (used : ℕ) (now : LlcState S) → JoinsSoFar m first old ps used now
      → joined m (length ps) first old ≡ record { llc = now; parts = ps }
  joined_now first old ps used now h =
      ap (λ k. joined m k first old) (let z : length ps ≡ length ps + 0 = omega arith in z) ∙ h.all 0
      ∙ ap (λ xs. record { llc = now; parts = xs }) (append-nil ps)

  -- none more is joined, however many are asked for
  abbrev IsFull : ℕ → LlcState S → Type 0
  IsFull used now = (j : ℕ) → joined m j used now ≡ gave_none m now

  full_by : (used : ℕ) (now : LlcState S) (o : Option (Gave S)) → gave m now ≡ o
      → ((g : Gave S) → o ≡ Some g → now.far_miu < used + length (inner_bytes g.part)) → IsFull used now
  full_by used now o e long zero = refl
  full_by used now None e long (suc n) = ap (λ o. joined_so m now used o (joined m n)) e
  full_by used now (Some g) e long (suc n) =
      let far : now.far_miu < used + length (inner_bytes g.part) = long g refl in
      let not : nat_le (used + length (inner_bytes g.part)) now.far_miu ≡ false = grind (arith, far) in
      ap (λ o. joined_so m now used o (joined m n)) e
      ∙ ap (λ b. if b then gave_first m g.part (joined m n (used + length (inner_bytes g.part)) g.llc) else gave_none m now) not

  pub full_nothing : (used : ℕ) (now : LlcState S) → gave m now ≡ None → IsFull used now
  full_nothing used now e = full_by used now None e (λ g i. absurd cc)

  pub full_long : (used room : ℕ) (now : LlcState S) → room ≡ now.far_miu - used → IsLonger room (part_of (gave m now)) → IsFull used now
  full_long used room now r h = full_by used now (gave m now) refl (λ g e. (let k : IsLonger room (part_of (Some g)) = subst (λ o. IsLonger room (part_of o)) e h in let z = k.0 in omega arith))

  pub full_end : (used : ℕ) (now : LlcState S) → now.far_miu ≤ used → IsFull used now
  full_end used now h = full_by used now (gave m now) refl (λ g e. (let z : length (inner_bytes g.part) ≡ length (part_bytes g.part) + 2 = omega arith in omega arith))

  -- these were joined, and they are all, by this number
  joins_so : (first most : ℕ) (old : LlcState S) (ps : List Part) (used : ℕ) (now : LlcState S) → JoinsSoFar m first old ps used now
      → joined m most first old ≡ record { llc = now; parts = ps } → Joins m first most old ps now
  joins_so first most old ps used now h all = record { all = all; sent = h.sent; size = λ z. let u = h.used_is in let k = h.size z in omega arith }

  -- none more is joined, however many are asked for
  pub joins_now : (first most : ℕ) (old : LlcState S) (ps : List Part) (used : ℕ) (now : LlcState S) → JoinsSoFar m first old ps used now
      → length ps ≤ most → IsFull used now → Joins m first most old ps now
  joins_now first most old ps used now h few full =
      joins_so first most old ps used now h
      (ap (λ k. joined m k first old) (let z : most ≡ length ps + (most - length ps) = omega arith in z) ∙ h.all (most - length ps)
      ∙ ap (gave_before m ps) (full (most - length ps)) ∙ ap (λ xs. record { llc = now; parts = xs }) (append-nil ps))

  -- so many were asked for
  pub joins_all : (first most : ℕ) (old : LlcState S) (ps : List Part) (used : ℕ) (now : LlcState S) → JoinsSoFar m first old ps used now
      → length ps ≡ most → Joins m first most old ps now
  joins_all first most old ps used now h all =
      joins_so first most old ps used now h (ap (λ k. joined m k first old) (sym all) ∙ joined_now first old ps used now h)

  pub halts_now : (first : ℕ) (old : LlcState S) (ps : List Part) (used : ℕ) (now : LlcState S) (s : S) → JoinsSoFar m first old ps used now
      → LeavesNext m (gave m now) now.service s → HaltsJoining m first old s
  halts_now first old ps used now s h left = record { parts = ps; front = now; all = joined_now first old ps used now h; service = left }
