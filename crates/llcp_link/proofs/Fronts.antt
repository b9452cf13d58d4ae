-- The payloads of one PDU more, and of one alone.
use Rattle.std.proofs.Common.{◌≡◌, ◌<◌, ◌≤◌, ℕ, zero, suc, ◌+◌, ◌*◌, ◌/◌, ◌%◌, Bool, true, false, List, [], ◌∷◌, ◌++◌, length, Option, Some, None, refl, sym, ap, subst, ◌∙◌, inl, inr, arith, nat_le}
use Rattle.std.proofs.Common.{if◌then◌else◌, append-nil}
use Rattle.std.proofs.lemmas.List.{append_assoc}
use Rattle.llcp_pdu.specs.declared.part.Part.{Part}
use Rattle.llcp_pdu.specs.declared.part.Part.TheVariants.{Symm, Ui, Connect, Disc, Cc, Dm, Frmr, Snl, Info, Rr, Rnr}
use Rattle.llcp_pdu.specs.Writing.{inner_bytes, part_bytes, parts_bytes}
use Rattle.llcp_link.specs.Serving.{Serving}
use Rattle.llcp_link.specs.State.{LlcState}
use Rattle.llcp_link.specs.Giving.{Gave, GaveAll, gave, gave_none, gave_first, joined, joined_so, given_so, given_parts, given, IsAllowed, payload_of}
use Rattle.llcp_link.specs.Fronts.{IsProperPrefix, FrontLaw, AloneLaw}

-- these are those PDUs and one more
record OneMore (few many : List Part) : Type 0 where
  part : Part
  is : many ≡ few ++ part ∷ []

more_behind : (p : Part) (xs ys : List Part) → OneMore xs ys → OneMore (p ∷ xs) (p ∷ ys)
more_behind p xs ys h = record { part = h.part; is = ap (λ zs. p ∷ zs) h.is }

single : (ps : List Part) → length ps ≡ 1 → OneMore [] ps
single [] e = absurd (omega arith)
single (p ∷ []) e = record { part = p; is = refl }
single (p ∷ q ∷ qs) e = absurd (omega arith)

parts_joined : (ps qs : List Part) → parts_bytes (ps ++ qs) ≡ parts_bytes ps ++ parts_bytes qs
parts_joined [] qs = refl
parts_joined (p ∷ ps) qs = ap (λ xs. inner_bytes p ++ xs) (parts_joined ps qs) ∙ sym (append_assoc (inner_bytes p) (parts_bytes ps) (parts_bytes qs))

-- one PDU more stands behind the others in an AGF
payload_more : (few many : List Part) → 2 ≤ length few → OneMore few many → IsProperPrefix (payload_of few) (payload_of many)
payload_more [] many n h = absurd (omega arith)
payload_more (p ∷ []) many n h = absurd (omega arith)
payload_more (p ∷ q ∷ ps) many n h =
    let r = h.part in
    let behind : parts_bytes ((p ∷ q ∷ ps) ++ r ∷ []) ≡ parts_bytes (p ∷ q ∷ ps) ++ inner_bytes r =
    parts_joined (p ∷ q ∷ ps) (r ∷ []) ∙ ap (λ xs. parts_bytes (p ∷ q ∷ ps) ++ xs) (append-nil (inner_bytes r)) in record {
      byte = length (part_bytes r) / 256;
      more = (length (part_bytes r) % 256) ∷ part_bytes r;
      is = ap payload_of h.is ∙ ap (λ xs. 0 ∷ 128 ∷ xs) behind;
    }

abbrev first : List ℕ → ℕ
first [] = 0
first (x ∷ xs) = x

abbrev second : List ℕ → ℕ
second [] = 0
second (x ∷ xs) = first xs

apart : (a b : ℕ) → a < b → a ≡ b → ⊥
apart a b h e = omega arith

-- no PDU that goes alone begins as an AGF
no_agf : (p : Part) (xs ys : List ℕ) → 0 ∷ 128 ∷ ys ≡ part_bytes p ++ xs → ⊥
no_agf Symm xs ys e = apart 0 128 (omega arith) (sym (ap second e))
no_agf (Ui d s info) xs ys e = let b : 128 ≡ 192 + s = ap second e in omega arith
no_agf (Connect d s ps) xs ys e = let a : 0 ≡ 4 * d + 1 = ap first e in omega arith
no_agf (Disc d s) xs ys e = let a : 0 ≡ 4 * d + 1 = ap first e in omega arith
no_agf (Cc d s ps) xs ys e = let a : 0 ≡ 4 * d + 1 = ap first e in omega arith
no_agf (Dm d s reason) xs ys e = let a : 0 ≡ 4 * d + 1 = ap first e in omega arith
no_agf (Frmr d s r) xs ys e = let a : 0 ≡ 4 * d + 2 = ap first e in omega arith
no_agf (Snl ps) xs ys e = apart 0 6 (omega arith) (ap first e)
no_agf (Info d s ns nr info) xs ys e = let a : 0 ≡ 4 * d + 3 = ap first e in omega arith
no_agf (Rr d s nr) xs ys e = let a : 0 ≡ 4 * d + 3 = ap first e in omega arith
no_agf (Rnr d s nr) xs ys e = let a : 0 ≡ 4 * d + 3 = ap first e in omega arith

alone_begins_none : (ps qs : List Part) → length ps < 2 → 2 ≤ length qs → IsProperPrefix (payload_of ps) (payload_of qs) → ⊥
alone_begins_none ps [] h k f = absurd (omega arith)
alone_begins_none ps (q ∷ []) h k f = absurd (omega arith)
alone_begins_none [] (q ∷ r ∷ qs) h k f = no_agf Symm (f.byte ∷ f.more) (parts_bytes (q ∷ r ∷ qs)) f.is
alone_begins_none (p ∷ []) (q ∷ r ∷ qs) h k f = no_agf p (f.byte ∷ f.more) (parts_bytes (q ∷ r ∷ qs)) f.is
alone_begins_none (p ∷ o ∷ ps) (q ∷ r ∷ qs) h k f = absurd (omega arith)

module _ {S : Type 0} (m : Serving S) where
  -- what is given where one PDU more may be
  record Grows (j : ℕ) (few many : GaveAll m) : Type 0 where
    one : OneMore few.parts many.parts
    few_are : length few.parts ≡ j

  grows_behind : (p : Part) (j : ℕ) (few many : GaveAll m) → Grows j few many → Grows (suc j) (gave_first m p few) (gave_first m p many)
  grows_behind p j few many h = record { one = more_behind p few.parts many.parts h.one; few_are = ap (λ k. suc k) h.few_are }

  module _ (i used : ℕ) (l : LlcState S) (on : (u : ℕ) (k : LlcState S) → length (joined m (suc i) u k).parts ≡ suc i → Grows i (joined m i u k) (joined m (suc i) u k)) where
    grow_if : (b : Bool) (p : Part) (u : ℕ) (k : LlcState S) → length (if b then gave_first m p (joined m (suc i) u k) else gave_none m l).parts ≡ suc (suc i)
        → Grows (suc i) (if b then gave_first m p (joined m i u k) else gave_none m l) (if b then gave_first m p (joined m (suc i) u k) else gave_none m l)
    grow_if true p u k e = grows_behind p i (joined m i u k) (joined m (suc i) u k) (on u k (omega arith))
    grow_if false p u k e = absurd (omega arith)

    grow_so : (o : Option (Gave S)) → length (joined_so m l used o (joined m (suc i))).parts ≡ suc (suc i)
        → Grows (suc i) (joined_so m l used o (joined m i)) (joined_so m l used o (joined m (suc i)))
    grow_so None e = absurd (omega arith)
    grow_so (Some g) e = grow_if (nat_le (used + length (inner_bytes g.part)) l.far_miu) g.part (used + length (inner_bytes g.part)) g.llc e

  grows : (j used : ℕ) (l : LlcState S) → length (joined m (suc j) used l).parts ≡ suc j → Grows j (joined m j used l) (joined m (suc j) used l)
  grows zero used l e = record { one = single (joined m 1 used l).parts e; few_are = refl }
  grows (suc i) used l e = grow_so i used l (grows i) (gave m l) e

  given_grows : (l : LlcState S) (o : Option (Gave S)) (k : ℕ) → length (given_so m l o (suc k)).parts ≡ suc (suc k)
      → Grows (suc k) (given_so m l o k) (given_so m l o (suc k))
  given_grows l None k e = absurd (omega arith)
  given_grows l (Some g) k e =
      grows_behind g.part k (joined m k (length (inner_bytes g.part)) g.llc) (joined m (suc k) (length (inner_bytes g.part)) g.llc)
      (grows k (length (inner_bytes g.part)) g.llc (omega arith))

  several : (l : LlcState S) (n : ℕ) → 2 ≤ n → IsAllowed m l n → length (given_parts m n l).parts ≡ n
  several l n h (inl e) = absurd (omega arith)
  several l n h (inr k) = k.1

  given_is : (l : LlcState S) (n : ℕ) → l.readable ≡ true → given m n l ≡ payload_of (given_parts m n l).parts
  given_is l n r = ap (λ b. if b then payload_of (given_parts m n l).parts else []) r

  pub front_law : FrontLaw m
  front_law l zero r h a = absurd (omega arith)
  front_law l (suc k) r h a =
      let all : length (given_parts m (suc (suc k)) l).parts ≡ suc (suc k) = several l (suc (suc k)) (omega arith) a in
      let g : Grows (suc k) (given_parts m (suc k) l) (given_parts m (suc (suc k)) l) = given_grows l (gave m l) k all in
      let two : 2 ≤ length (given_parts m (suc k) l).parts = subst (λ x. 2 ≤ x) (sym g.few_are) h in
      let f : IsProperPrefix (payload_of (given_parts m (suc k) l).parts) (payload_of (given_parts m (suc (suc k)) l).parts) =
      payload_more (given_parts m (suc k) l).parts (given_parts m (suc (suc k)) l).parts two g.one in (
        inr (h, g.few_are),
        subst (λ x. IsProperPrefix x (given m (suc (suc k)) l)) (sym (given_is l (suc k) r))
            (subst (IsProperPrefix (payload_of (given_parts m (suc k) l).parts)) (sym (given_is l (suc (suc k)) r)) f),
      )

  one_given : (l : LlcState S) (o : Option (Gave S)) → length (given_so m l o 0).parts < 2
  one_given l None = omega arith
  one_given l (Some g) = omega arith

  pub alone_law : AloneLaw m
  alone_law l n r h a f =
      let two : 2 ≤ length (given_parts m n l).parts = subst (λ x. 2 ≤ x) (sym (several l n h a)) h in
      alone_begins_none (given_parts m 1 l).parts (given_parts m n l).parts (one_given l (gave m l)) two
      (subst (λ x. IsProperPrefix x (payload_of (given_parts m n l).parts)) (given_is l 1 r) (subst (IsProperPrefix (given m 1 l)) (given_is l n r) f))
