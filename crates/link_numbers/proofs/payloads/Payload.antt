-- The number that a payload shows is one by which it is given.
use Rattle.std.proofs.Common.{◌≡◌, ◌<◌, ◌≤◌, ◌⊎◌, inl, inr, nat_le, ℕ, zero, suc, ◌+◌, ◌-◌, Bool, true, false, List, [], ◌∷◌, ◌++◌, length, drop, Option, Some, None, refl, sym, ap, subst, ◌∙◌, arith}
use Rattle.std.proofs.Common.{if◌then◌else◌, length-append, leb, eqb, ◌≢◌, append-nil}
use Rattle.std.proofs.lemmas.List.{append_assoc}
use Rattle.std.proofs.lemmas.Bool.{le-leb, ne_eqb}
use Rattle.std.proofs.lemmas.Bool.Decides.{nat_tests, leb_tells, eqb_tells}
use Rattle.dep_link.specs.Sizes.{limit}
use Rattle.llcp_pdu.specs.declared.part.Part.{Part}
use Rattle.llcp_pdu.specs.declared.part.Part.TheVariants.{Symm}
use Rattle.llcp_pdu.specs.declared.pdu.Pdu.TheVariants.{Agf, One}
use Rattle.llcp_pdu.specs.Raw.{raw}
use Rattle.llcp_pdu.specs.Writing.{inner_bytes, part_bytes, parts_bytes, pdu_bytes}
use Rattle.llcp_link.specs.Serving.{Serving}
use Rattle.llcp_link.specs.State.{LlcState}
use Rattle.llcp_link.specs.Fronts.{IsProperPrefix}
use Rattle.llcp_link.specs.Giving.{Gave, GaveAll, IsAllowed, after_giving, gave, gave_first, gave_none, given, given_parts, given_so, joined, joined_so, others, payload_of}
use Rattle.llcp_link.proofs.Fronts.{front_law}
use Rattle.llcp_link.proofs.MostGiven.{gave_keeps, most_law}
use Rattle.link_numbers.specs.Shown.{counted, cut_off, heads_agf, number, number_begun, parts_of, several}
use Rattle.link_numbers.proofs.payloads.Counting.{counts_behind, counts_written, one_written}

module _ {S : Type 0} (m : Serving S) where
  -- a number is allowed, or isn't
  decided : (l : LlcState S) (n : ℕ) → IsAllowed m l n ⊎ (IsAllowed m l n → ⊥)
  decided l n = go (eqb_tells n 1) (leb_tells 2 n) (eqb_tells (length (given_parts m n l).parts) n)
    where
      go : ((eqb n 1 ≡ true) × (n ≡ 1)) ⊎ ((eqb n 1 ≡ false) × (n ≢ 1)) → ((leb 2 n ≡ true) × (2 ≤ n)) ⊎ ((leb 2 n ≡ false) × (n < 2))
          → ((eqb (length (given_parts m n l).parts) n ≡ true) × (length (given_parts m n l).parts ≡ n)) ⊎ ((eqb (length (given_parts m n l).parts) n ≡ false) × (length (given_parts m n l).parts ≢ n))
          → IsAllowed m l n ⊎ (IsAllowed m l n → ⊥)
      go (inl one) two fits = inl (inl one.1)
      go (inr one) (inl two) (inl fits) = inl (inr (two.1, fits.1))
      go (inr one) (inl two) (inr fits) = inr (λ a. elim a [ inl e ↦ one.1 e | inr e ↦ fits.1 e.1 ])
      go (inr one) (inr two) fits = inr (λ a. elim a [ inl e ↦ one.1 e | inr e ↦ absurd (let f : 2 ≤ n = e.0 in let g : n < 2 = two.1 in omega arith) ])

  -- each number counts as one that is allowed
  pub allowed_as : (l : LlcState S) (n : ℕ) → (a : ℕ) × IsAllowed m l a × (given_parts m a l ≡ given_parts m n l)
  allowed_as l n = go (decided l n)
    where
      go : IsAllowed m l n ⊎ (IsAllowed m l n → ⊥) → (a : ℕ) × IsAllowed m l a × (given_parts m a l ≡ given_parts m n l)
      go (inl may) = (n, may, refl)
      go (inr other) = ((most_law m l).0, (most_law m l).1.allowed, sym ((most_law m l).1.otherwise n other))

  -- PDUs that were joined are within the other end's MIU
  fit_so : (b used : ℕ) (l : LlcState S) (o : Option (Gave S)) → gave m l ≡ o
      → ((u : ℕ) (k : LlcState S) → 0 < length (joined m b u k).parts → u + length (parts_bytes (joined m b u k).parts) ≤ k.far_miu)
      → 0 < length (joined_so m l used o (joined m b)).parts → used + length (parts_bytes (joined_so m l used o (joined m b)).parts) ≤ l.far_miu
  fit_so b used l None e more h = absurd (omega arith)
  fit_so b used l (Some x) e more h = go (nat_le (used + length (inner_bytes x.part)) l.far_miu) refl h
    where
      U : ℕ
      U = used + length (inner_bytes x.part)

      rest : List Part
      rest = (joined m b U x.llc).parts

      by_rest : (ps : List Part) → U ≤ l.far_miu → (0 < length ps → U + length (parts_bytes ps) ≤ l.far_miu) → U + length (parts_bytes ps) ≤ l.far_miu
      by_rest [] fits more = omega arith
      by_rest (p ∷ ps) fits more = more (omega arith)

      go : (v : Bool) → nat_le U l.far_miu ≡ v
          → 0 < length (if v then gave_first m x.part (joined m b U x.llc) else gave_none m l).parts
          → used + length (parts_bytes (if v then gave_first m x.part (joined m b U x.llc) else gave_none m l).parts) ≤ l.far_miu
      go false f h = absurd (omega arith)
      go true f h =
          let fits : U ≤ l.far_miu = grind (arith, nat_tests) in
          let all : U + length (parts_bytes rest) ≤ l.far_miu =
          by_rest rest fits (λ some. subst (λ k. U + length (parts_bytes rest) ≤ k) (gave_keeps m l x e) (more U x.llc some)) in
          let split : length (inner_bytes x.part ++ parts_bytes rest) ≡ length (inner_bytes x.part) + length (parts_bytes rest) =
          length-append (inner_bytes x.part) (parts_bytes rest) in
          omega (arith, all, split)

  joined_fit : (b used : ℕ) (l : LlcState S) → 0 < length (joined m b used l).parts
      → used + length (parts_bytes (joined m b used l).parts) ≤ l.far_miu
  joined_fit zero used l h = absurd (omega arith)
  joined_fit (suc b) used l h = fit_so b used l (gave m l) refl (joined_fit b) h

  pub given_fit : (l : LlcState S) (n : ℕ) → 2 ≤ length (given_parts m n l).parts
      → length (parts_bytes (given_parts m n l).parts) ≤ l.far_miu
  given_fit l n h = go (gave m l) refl h
    where
      go : (o : Option (Gave S)) → gave m l ≡ o → 2 ≤ length (given_so m l o (others m l n)).parts
          → length (parts_bytes (given_so m l o (others m l n)).parts) ≤ l.far_miu
      go None e h = absurd (omega arith)
      go (Some g) e h =
          let used : ℕ = length (inner_bytes g.part) in
          let rest : List Part = (joined m (others m l n) used g.llc).parts in
          let some : 0 < length rest = omega arith in
          let fits : used + length (parts_bytes rest) ≤ l.far_miu =
          subst (λ k. used + length (parts_bytes rest) ≤ k) (gave_keeps m l g e) (joined_fit (others m l n) used g.llc some) in
          let split : length (inner_bytes g.part ++ parts_bytes rest) ≡ used + length (parts_bytes rest) = length-append (inner_bytes g.part) (parts_bytes rest) in
          omega (arith, fits, split)

  given_is : (l : LlcState S) (n : ℕ) → l.readable ≡ true → given m n l ≡ payload_of (given_parts m n l).parts
  given_is l n r = ap (λ b. if b then payload_of (given_parts m n l).parts else []) r

  -- whatever stands in a payload of one PDU, it is one
  one_number : (p : Part) → number (part_bytes p) ≡ 1
  one_number p = go (nat_le (length (part_bytes p)) limit)
    where
      go : (t : Bool) → (if t then parts_of (part_bytes p) else number_begun (part_bytes p)) ≡ 1
      go true = counts_written (One p)
      go false = ap (λ (v : Bool). if v then 0 else 1) (one_written p)

  several_is : (n : ℕ) → 2 ≤ n → several n ≡ n
  several_is n h = ap (λ (t : Bool). if t then 0 else n) (ne_eqb n 1 (λ e. omega (arith, e)))

  several_number : (ps : List Part) → 2 ≤ length ps → length (parts_bytes ps) ≤ 2176 → number (pdu_bytes (Agf ps)) ≡ length ps
  several_number ps two fits =
      let short : length (pdu_bytes (Agf ps)) ≤ limit = omega arith in
      ap (λ (t : Bool). if t then parts_of (pdu_bytes (Agf ps)) else 0) (le-leb (length (pdu_bytes (Agf ps))) limit short) ∙ counts_written (Agf ps) ∙ several_is (length ps) two

  payload_number : (ps : List Part) (n : ℕ) → (n ≡ 1) × (length ps < 2) ⊎ (2 ≤ n) × (length ps ≡ n) × (length (parts_bytes ps) ≤ 2176) → number (payload_of ps) ≡ n
  payload_number [] n (inl h) = one_number Symm ∙ sym h.0
  payload_number (p ∷ []) n (inl h) = one_number p ∙ sym h.0
  payload_number (p ∷ q ∷ ps) n (inl h) = absurd (let f = h.1 in omega arith)
  payload_number [] n (inr h) = absurd (let f = h.0 in let g = h.1 in omega arith)
  payload_number (p ∷ []) n (inr h) = absurd (let f = h.0 in let g = h.1 in omega arith)
  payload_number (p ∷ q ∷ ps) n (inr h) = several_number (p ∷ q ∷ ps) (omega arith) h.2 ∙ h.1

  one_given : (l : LlcState S) (o : Option (Gave S)) → length (given_so m l o 0).parts < 2
  one_given l None = omega arith
  one_given l (Some g) = omega arith

  -- the number that a payload shows is the allowed one by which it is given
  pub number_given : (l : LlcState S) (n : ℕ) → l.far_miu ≤ 2176 → l.readable ≡ true → IsAllowed m l n → number (given m n l) ≡ n
  number_given l n miu r (inl e) =
      ap number (given_is l n r) ∙ payload_number (given_parts m n l).parts n (inl (e, subst (λ k. length (given_parts m k l).parts < 2) (sym e) (one_given l (gave m l))))
  number_given l n miu r (inr h) =
      let all : length (given_parts m n l).parts ≡ n = h.1 in
      let two : 2 ≤ length (given_parts m n l).parts = subst (λ k. 2 ≤ k) (sym all) h.0 in
      let fits : length (parts_bytes (given_parts m n l).parts) ≤ l.far_miu = given_fit l n two in
      ap number (given_is l n r) ∙ payload_number (given_parts m n l).parts n (inr (h.0, all, omega arith))

  -- the same PDUs in one payload
  same_given : (l : LlcState S) (a b : ℕ) → given_parts m a l ≡ given_parts m b l → (given m a l ≡ given m b l) × (after_giving m a l ≡ after_giving m b l)
  same_given l a b e =
      (ap (λ (g : GaveAll m). if l.readable then payload_of g.parts else []) e, ap (λ (g : GaveAll m). if l.readable then g.llc else l) e)

  unreadable : (l : LlcState S) (a b : ℕ) → l.readable ≡ false → (given m a l ≡ given m b l) × (after_giving m a l ≡ after_giving m b l)
  unreadable l a b r = (
    ap (λ (v : Bool). if v then payload_of (given_parts m a l).parts else []) r ∙ sym (ap (λ (v : Bool). if v then payload_of (given_parts m b l).parts else []) r),
    ap (λ (v : Bool). if v then (given_parts m a l).llc else l) r ∙ sym (ap (λ (v : Bool). if v then (given_parts m b l).llc else l) r),
  )

  -- A whole payload is given by the number that it shows, and leaves the end the same.
  pub whole_shown : (l : LlcState S) (n : ℕ) → l.far_miu ≤ 2176
      → (given m (number (given m n l)) l ≡ given m n l) × (after_giving m (number (given m n l)) l ≡ after_giving m n l)
  whole_shown l n miu = go l.readable refl
    where
      go : (v : Bool) → l.readable ≡ v → (given m (number (given m n l)) l ≡ given m n l) × (after_giving m (number (given m n l)) l ≡ after_giving m n l)
      go false r = unreadable l (number (given m n l)) n r
      go true r =
          let a = allowed_as l n in
          let same = same_given l a.0 n a.2 in
          let is : number (given m n l) ≡ a.0 = ap number (sym same.0) ∙ number_given l a.0 miu r a.1 in
          (ap (λ k. given m k l) is ∙ same.0, ap (λ k. after_giving m k l) is ∙ same.1)

  -- a payload of more PDUs goes on behind those of fewer
  pub goes_on : (l : LlcState S) → l.readable ≡ true → (d a b : ℕ) → b ≡ d + a → 2 ≤ a → IsAllowed m l b
      → (tail : List ℕ) × (given m b l ≡ given m a l ++ tail)
  goes_on l r zero a b e two may = ([], ap (λ k. given m k l) (let f : b ≡ a = omega arith in f) ∙ sym (append-nil (given m a l)))
  goes_on l r (suc d) a zero e two may = absurd (omega arith)
  goes_on l r (suc d) a (suc b) e two may =
      let next : b ≡ d + a = omega arith in
      let step = front_law m l b r (omega arith) may in
      let before = goes_on l r d a b next two step.0 in
      let f = step.1 in
      (before.0 ++ f.byte ∷ f.more, f.is ∙ ap (λ zs. zs ++ f.byte ∷ f.more) before.1 ∙ append_assoc (given m a l) before.0 (f.byte ∷ f.more))

  heads_front : (xs ys : List ℕ) → 2 ≤ length xs → heads_agf (raw (xs ++ ys)) ≡ heads_agf (raw xs)
  heads_front [] ys h = absurd (omega arith)
  heads_front (x ∷ []) ys h = absurd (omega arith)
  heads_front (x ∷ y ∷ xs) ys h = refl

  cut_number : (xs : List ℕ) (v : Bool) → 2 ≤ length xs → heads_agf (raw xs) ≡ v → cut_off xs ≡ (if v then 0 else 1) ∷ []
  cut_number [] v h e = absurd (omega arith)
  cut_number (x ∷ xs) v h e = ap (λ (w : Bool). (if w then 0 else 1) ∷ []) e

  one_heads : (ps : List Part) → length ps < 2 → heads_agf (raw (payload_of ps)) ≡ false
  one_heads [] h = refl
  one_heads (p ∷ []) h = one_written p
  one_heads (p ∷ q ∷ ps) h = absurd (omega arith)

  several_heads : (ps : List Part) → 2 ≤ length ps → heads_agf (raw (payload_of ps)) ≡ true
  several_heads [] h = absurd (omega arith)
  several_heads (p ∷ []) h = absurd (omega arith)
  several_heads (p ∷ q ∷ ps) h = refl

  -- What came of a payload that was cut off begins that of the number that it shows too, and there is more.
  pub cut_shown : (l : LlcState S) (n : ℕ) (xs : List ℕ) → l.readable ≡ true → 2 ≤ length xs → IsProperPrefix xs (given m n l)
      → (k : ℕ) × (cut_off xs ≡ k ∷ []) × IsProperPrefix xs (given m k l)
  cut_shown l n xs r two f = by a.1
    where
      a : (a : ℕ) × IsAllowed m l a × (given_parts m a l ≡ given_parts m n l)
      a = allowed_as l n

      same : given m a.0 l ≡ given m n l
      same = (same_given l a.0 n a.2).0

      heads : heads_agf (raw xs) ≡ heads_agf (raw (given m a.0 l))
      heads = sym (heads_front xs (f.byte ∷ f.more) two) ∙ ap (λ zs. heads_agf (raw zs)) (sym f.is ∙ sym same)

      first : IsProperPrefix xs (given m a.0 l)
      first = record { byte = f.byte; more = f.more; is = same ∙ f.is }

      by : IsAllowed m l a.0 → (k : ℕ) × (cut_off xs ≡ k ∷ []) × IsProperPrefix xs (given m k l)
      by (inl e) =
          let one : length (given_parts m a.0 l).parts < 2 = subst (λ k. length (given_parts m k l).parts < 2) (sym e) (one_given l (gave m l)) in
          let no_agf : heads_agf (raw xs) ≡ false =
          heads ∙ ap (λ zs. heads_agf (raw zs)) (given_is l a.0 r) ∙ one_heads (given_parts m a.0 l).parts one in
          (1, cut_number xs false two no_agf, subst (λ k. IsProperPrefix xs (given m k l)) e first)
      by (inr h) =
          let all : 2 ≤ length (given_parts m a.0 l).parts = subst (λ k. 2 ≤ k) (sym h.1) h.0 in
          let agf : heads_agf (raw xs) ≡ true =
          heads ∙ ap (λ zs. heads_agf (raw zs)) (given_is l a.0 r) ∙ several_heads (given_parts m a.0 l).parts all in
          let law = most_law m l in
          let least : a.0 ≤ law.0 = law.1.larger a.0 (inr h) in
          let zero_most : given m 0 l ≡ given m law.0 l =
          (same_given l 0 law.0 (law.1.otherwise 0 (λ z. elim z [ inl e ↦ absurd (omega arith) | inr e ↦ absurd (let g = e.0 in omega arith) ]))).0 in
          let up = goes_on l r (law.0 - a.0) a.0 law.0 (omega arith) h.0 law.1.allowed in
          let more : given m 0 l ≡ xs ++ f.byte ∷ (f.more ++ up.0) =
          zero_most ∙ up.1 ∙ ap (λ zs. zs ++ up.0) first.is ∙ append_assoc xs (f.byte ∷ f.more) up.0 in
          (0, cut_number xs true two agf, record { byte = f.byte; more = f.more ++ up.0; is = more })

  -- two lists that begin one
  fronts_of : (xs ys us vs : List ℕ) → xs ++ us ≡ ys ++ vs → ((ws : List ℕ) × (xs ≡ ys ++ ws)) ⊎ IsProperPrefix xs ys
  fronts_of [] [] us vs e = inl ([], refl)
  fronts_of [] (y ∷ ys) us vs e = inr (record { byte = y; more = ys; is = refl })
  fronts_of (x ∷ xs) [] us vs e = inl (x ∷ xs, refl)
  fronts_of (x ∷ xs) (y ∷ ys) us vs e =
      let same : x ≡ y = cc in
      let tails : xs ++ us ≡ ys ++ vs = cc in
      elim (fronts_of xs ys us vs tails) [
        | inl h ↦ inl (h.0, ap (λ z. z ∷ xs) same ∙ ap (λ zs. y ∷ zs) h.1)
        | inr f ↦ inr (record { byte = f.byte; more = f.more; is = ap (λ z. z ∷ ys) (sym same) ∙ ap (λ zs. x ∷ zs) f.is })
      ]

  several_not_one : (n : ℕ) → several n ≡ 1 → ⊥
  several_not_one n e = go (eqb_tells n 1)
    where
      go : ((eqb n 1 ≡ true) × (n ≡ 1)) ⊎ ((eqb n 1 ≡ false) × (n ≢ 1)) → ⊥
      go (inl h) = let f : several n ≡ 0 = ap (λ (t : Bool). if t then 0 else n) h.0 in omega (arith, e, f)
      go (inr h) = h.1 (sym (ap (λ (t : Bool). if t then 0 else n) h.0) ∙ e)

  -- the number by how a payload begins
  agf_not_one : (b : List ℕ) → heads_agf (raw b) ≡ true → number b ≡ 1 → ⊥
  agf_not_one b h e = go (nat_le (length b) limit) e
    where
      go : (t : Bool) → (if t then parts_of b else number_begun b) ≡ 1 → ⊥
      go true f = several_not_one (counted 0 (drop 2 b) 0) (sym (ap (λ (v : Bool). if v then several (counted 0 (drop 2 b) 0) else 1) h) ∙ f)
      go false f = let z : number_begun b ≡ 0 = ap (λ (v : Bool). if v then 0 else 1) h in omega (arith, f, z)

  other_is_one : (b : List ℕ) → heads_agf (raw b) ≡ false → number b ≡ 1
  other_is_one b h = go (nat_le (length b) limit)
    where
      go : (t : Bool) → (if t then parts_of b else number_begun b) ≡ 1
      go true = ap (λ (v : Bool). if v then several (counted 0 (drop 2 b) 0) else 1) h
      go false = ap (λ (v : Bool). if v then 0 else 1) h

  -- an AGF, by its PDUs
  agf_is : (ps : List Part) → 2 ≤ length ps → payload_of ps ≡ pdu_bytes (Agf ps)
  agf_is [] h = absurd (omega arith)
  agf_is (p ∷ []) h = absurd (omega arith)
  agf_is (p ∷ q ∷ ps) h = refl

  not_empty : (ws zs : List ℕ) (z : ℕ) → (v : ℕ) × (vs : List ℕ) × (ws ++ z ∷ zs ≡ v ∷ vs)
  not_empty [] zs z = (z, zs, refl)
  not_empty (w ∷ ws) zs z = (w, ws ++ z ∷ zs, refl)

  -- What came of a payload begins also that of the number that is read of it with other bytes behind it, whatever these are.
  pub later_shown : (l : LlcState S) (n : ℕ) (xs : List ℕ) (z : ℕ) (zs : List ℕ)
      → l.readable ≡ true → 2 ≤ length xs → IsProperPrefix xs (given m n l) → IsProperPrefix xs (given m (number (xs ++ z ∷ zs)) l)
  later_shown l n xs z zs r two f = by a.1
    where
      k : ℕ
      k = number (xs ++ z ∷ zs)

      a : (a : ℕ) × IsAllowed m l a × (given_parts m a l ≡ given_parts m n l)
      a = allowed_as l n

      same : given m a.0 l ≡ given m n l
      same = (same_given l a.0 n a.2).0

      first : IsProperPrefix xs (given m a.0 l)
      first = record { byte = f.byte; more = f.more; is = same ∙ f.is }

      heads : heads_agf (raw (xs ++ z ∷ zs)) ≡ heads_agf (raw (given m a.0 l))
      heads = heads_front xs (z ∷ zs) two ∙ sym (heads_front xs (f.byte ∷ f.more) two) ∙ ap (λ bs. heads_agf (raw bs)) (sym f.is ∙ sym same)

      begins : (b : ℕ) (tail : List ℕ) → given m b l ≡ given m a.0 l ++ tail → IsProperPrefix xs (given m b l)
      begins b tail e = record {
        byte = f.byte;
        more = f.more ++ tail;
        is = e ∙ ap (λ bs. bs ++ tail) first.is ∙ append_assoc xs (f.byte ∷ f.more) tail;
      }

      up_to : 2 ≤ a.0 → (b : ℕ) → IsAllowed m l b → a.0 ≤ b → IsProperPrefix xs (given m b l)
      up_to some b may least = let up = goes_on l r (b - a.0) a.0 b (omega arith) some may in begins b up.0 up.1

      to_most : 2 ≤ a.0 → IsProperPrefix xs (given m (most_law m l).0 l)
      to_most some = up_to some (most_law m l).0 (most_law m l).1.allowed ((most_law m l).1.larger a.0 a.1)

      fewer : (ps : List Part) → length ps ≡ k → 2 ≤ length ps → (ws : List ℕ) → xs ≡ pdu_bytes (Agf ps) ++ ws → ⊥
      fewer ps all some ws e =
          let v = not_empty ws zs z in
          let whole : xs ++ z ∷ zs ≡ pdu_bytes (Agf ps) ++ v.0 ∷ v.1 =
          ap (λ bs. bs ++ z ∷ zs) e ∙ append_assoc (pdu_bytes (Agf ps)) ws (z ∷ zs) ∙ ap (λ bs. pdu_bytes (Agf ps) ++ bs) v.2 in
          let same_number : k ≡ number (pdu_bytes (Agf ps) ++ v.0 ∷ v.1) = ap number whole in
          elim (counts_behind ps v.0 v.1 some) [
            | inl g ↦ (let h : number (pdu_bytes (Agf ps) ++ v.0 ∷ v.1) ≡ 0 = g in omega (arith, h, same_number, all, some))
            | inr g ↦ (let h : length ps < number (pdu_bytes (Agf ps) ++ v.0 ∷ v.1) = g in omega (arith, h, same_number, all))
          ]

      below : 2 ≤ a.0 → 2 ≤ k → length (given_parts m k l).parts ≡ k → k < a.0 → IsProperPrefix xs (given m k l)
      below some two_more all less =
          let down = goes_on l r (a.0 - k) k a.0 (omega arith) two_more a.1 in
          let ps : List Part = (given_parts m k l).parts in
          let some_parts : 2 ≤ length ps = subst (λ j. 2 ≤ j) (sym all) two_more in
          let bytes : given m k l ≡ pdu_bytes (Agf ps) = given_is l k r ∙ agf_is ps some_parts in
          elim (fronts_of xs (given m k l) (f.byte ∷ f.more) down.0 (sym first.is ∙ down.1)) [
            | inl h ↦ absurd (fewer ps all some_parts h.0 (h.1 ∙ ap (λ bs. bs ++ h.0) bytes))
            | inr g ↦ g
          ]

      by_count : 2 ≤ a.0 → heads_agf (raw (xs ++ z ∷ zs)) ≡ true → (IsAllowed m l k ⊎ (IsAllowed m l k → ⊥)) → IsProperPrefix xs (given m k l)
      by_count some agf (inl (inl e)) = absurd (agf_not_one (xs ++ z ∷ zs) agf e)
      by_count some agf (inl (inr h)) = go (leb_tells a.0 k)
        where
          go : ((leb a.0 k ≡ true) × (a.0 ≤ k)) ⊎ ((leb a.0 k ≡ false) × (k < a.0)) → IsProperPrefix xs (given m k l)
          go (inl q) = up_to some k (inr h) q.1
          go (inr q) = below some h.0 h.1 q.1
      by_count some agf (inr other) =
          subst (λ bs. IsProperPrefix xs bs) (sym (same_given l k (most_law m l).0 ((most_law m l).1.otherwise k other)).0) (to_most some)

      by : IsAllowed m l a.0 → IsProperPrefix xs (given m k l)
      by (inl e) =
          let one : length (given_parts m a.0 l).parts < 2 = subst (λ j. length (given_parts m j l).parts < 2) (sym e) (one_given l (gave m l)) in
          let no_agf : heads_agf (raw (xs ++ z ∷ zs)) ≡ false =
          heads ∙ ap (λ bs. heads_agf (raw bs)) (given_is l a.0 r) ∙ one_heads (given_parts m a.0 l).parts one in
          subst (λ j. IsProperPrefix xs (given m j l)) (e ∙ sym (other_is_one (xs ++ z ∷ zs) no_agf)) first
      by (inr h) =
          let all : 2 ≤ length (given_parts m a.0 l).parts = subst (λ j. 2 ≤ j) (sym h.1) h.0 in
          let agf : heads_agf (raw (xs ++ z ∷ zs)) ≡ true =
          heads ∙ ap (λ bs. heads_agf (raw bs)) (given_is l a.0 r) ∙ several_heads (given_parts m a.0 l).parts all in
          by_count h.0 agf (decided l k)
