-- What is told of an answer, behind what is told of the link.
use Rattle.std.proofs.Common.{◌≡◌, ℕ, List, [], length, Bool, true, false, nat_eq, ◌==◌, ◌&&◌, if◌then◌else◌, Option, Some, None, Result, Ok, Err, IfOk, ◌↔◌, refl, sym, ◌∙◌, ap, subst}
use Rattle.std.specs.Cmp.Lexicographic.{pointwise}
use Rattle.arrayvec.specs.ArrayVec.{ArrayVec}
use Rattle.nfc_base.specs.Signal.{Signal}
use Rattle.t3t_tag.specs.declared.answer.T3Answer.{T3Answer}
use Rattle.t3t_tag.specs.declared.answer.T3Answer.TheVariants.{Polled, Content, Done, CheckRefused, UpdateRefused}
use Rattle.t3t_tag.specs.Spelling.{T3AnswerSpelling}
use Rattle.t3t_tag.proofs.Bytes.{equal_of, is_equal, left_of, right_of, both_of, equal_bytes, bytes_self}
use Rattle.t3t_access.specs.declared.fault.T3Fault.{T3Fault}
use Rattle.t3t_access.specs.declared.fault.T3Fault.TheVariants as fault
use Rattle.t3t_access.specs.Answers.{Brings, RefusesCheck, IsOdd, Tells, content_told, found}

same_found : (x y : Result (List ℕ) T3Fault) → found x ≡ found y → x ≡ y
same_found (Ok xs) (Ok ys) e = ap (λ t. Ok t) (items_same e)
  where
    items_of : Result (ArrayVec ℕ) T3Fault → List ℕ
    items_of (Ok v) = v.items
    items_of (Err f) = []

    items_same : found (Ok xs) ≡ found (Ok ys) → xs ≡ ys
    items_same e = ap items_of e
same_found (Ok xs) (Err f) e = cc
same_found (Err f) (Ok xs) e = cc
same_found (Err f) (Err g) e = (let d : f ≡ g = cc in ap (λ t. Err t) d)

module _ (id : List ℕ) (size : ℕ) (r : Signal) where
  abbrev Exact : Option T3Answer → Type 0
  Exact o = (a : T3Answer) → (o ≡ Some a) ↔ T3AnswerSpelling a r

  abbrev TellsIt : Result (List ℕ) T3Fault → Type 0
  TellsIt x = Tells (Brings id size) (RefusesCheck id) r x

  odd : (o : Option T3Answer) → Exact o → ((x : List ℕ) → length x ≡ size → o ≡ Some (Content id (record { items = x })) → ⊥) → ((status : ℕ) → o ≡ Some (CheckRefused id status) → ⊥)
      → IsOdd (Brings id size) (RefusesCheck id) r
  odd o exact grant refusal = record {
    no_grant = λ x g. grant x g.0 ((exact (Content id (record { items = x }))).1 g.1);
    no_refusal = λ status g. refusal status ((exact (CheckRefused id status)).1 g);
  }

  by_test : (v : Bool) (x y : Result (List ℕ) T3Fault) → (v ≡ true → TellsIt x) → (v ≡ false → TellsIt y) → TellsIt (if v then x else y)
  by_test true x y p q = p refl
  by_test false x y p q = q refl

  pub tells_told : (o : Option T3Answer) → Exact o → TellsIt (content_told id size o)
  tells_told None exact = odd None exact (λ x l e. cc) (λ status e. cc)
  tells_told (Some (Polled from)) exact = odd (Some (Polled from)) exact (λ x l e. cc) (λ status e. cc)
  tells_told (Some (Done from)) exact = odd (Some (Done from)) exact (λ x l e. cc) (λ status e. cc)
  tells_told (Some (UpdateRefused from status)) exact = odd (Some (UpdateRefused from status)) exact (λ x l e. cc) (λ s e. cc)
  tells_told (Some (Content from content)) exact =
      let same : Bool = pointwise nat_eq from id in
      let long : Bool = length content.items == size in
      by_test (same && long) (Ok content.items) (Err fault.Protocol)
      (λ h. (
        equal_of (length content.items) size (right_of same long h),
        subst (λ i. T3AnswerSpelling (Content i (record { items = content.items })) r) (equal_bytes from id (left_of same long h)) ((exact (Content from content)).0 refl),
      ))
      (λ h. odd (Some (Content from content)) exact
      (λ x l e.
      let i : from ≡ id = ap id_of e in
      let c : content.items ≡ x = ap items_of e in
      let n : length content.items ≡ size = ap length c ∙ l in
      let t : (same && long) ≡ true = both_of same long (subst (λ j. pointwise nat_eq from j ≡ true) i (bytes_self from)) (is_equal (length content.items) size n) in
      cc)
      (λ status e. cc))
    where
      id_of : Option T3Answer → List ℕ
      id_of (Some (Content i c)) = i
      id_of _ = []

      items_of : Option T3Answer → List ℕ
      items_of (Some (Content i c)) = c.items
      items_of _ = []
  tells_told (Some (CheckRefused from status)) exact =
      let same : Bool = pointwise nat_eq from id in
      by_test same (Err (fault.Refused status)) (Err fault.Protocol)
      (λ h. subst (λ i. T3AnswerSpelling (CheckRefused i status) r) (equal_bytes from id h) ((exact (CheckRefused from status)).0 refl))
      (λ h. odd (Some (CheckRefused from status)) exact
      (λ x l e. cc)
      (λ s e.
      let i : from ≡ id = ap id_of e in
      let t : same ≡ true = subst (λ j. pointwise nat_eq from j ≡ true) i (bytes_self from) in
      cc))
    where
      id_of : Option T3Answer → List ℕ
      id_of (Some (CheckRefused i c)) = i
      id_of _ = []

  pub tells_found : (o : Option T3Answer) → Exact o → (result : Result (ArrayVec ℕ) T3Fault) → result ≡ found (content_told id size o) → (xs : Result (List ℕ) T3Fault) → result ≡ found xs → TellsIt xs
  tells_found o exact result is xs e = subst TellsIt (same_found (content_told id size o) xs (sym is ∙ e)) (tells_told o exact)

  pub found_size : (o : Option T3Answer) → Exact o → (result : Result (ArrayVec ℕ) T3Fault) → result ≡ found (content_told id size o) → IfOk result (λ x. length x.items ≡ size)
  found_size o exact result is = subst (λ (y : Result (ArrayVec ℕ) T3Fault). IfOk y (λ x. length x.items ≡ size)) (sym is) (sized (content_told id size o) (tells_told o exact))
    where
      sized : (x : Result (List ℕ) T3Fault) → TellsIt x → IfOk (found x) (λ y. length y.items ≡ size)
      sized (Ok x) h = h.0
      sized (Err e) h = tt
