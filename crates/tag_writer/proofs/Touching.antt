-- The blocks that a plan writes lie in the area.
use Rattle.std.proofs.Common.{◌≡◌, ℕ, zero, suc, ◌%◌, ◌/◌, inl, inr, Bool, true, false, not, ◌==◌, ◌&&◌, ◌||◌, List, [], ◌∷◌, ◌++◌, length, map, take, Option, Some, None, refl, sym, ◌∙◌, ap, subst}
use Rattle.std.proofs.Common.{arith}
use Rattle.std.specs.Prelude.{slice_index}
use Rattle.std.specs.List.{list_any, filter, range_with_len, AllByRecursion}
use Rattle.std.proofs.lemmas.Bool.{cases_Bool, and_parts}
use Rattle.tlv_area.specs.declared.step.Step.{Step}
use Rattle.tlv_area.specs.declared.step.Plan.{Plan}
use Rattle.tlv_area.specs.Layout.{Tlv, LiesIn, bytes_at, spelling, length_bytes, after_kind, ndef_message}
use Rattle.tlv_area.specs.Tail.{message_tail, span, written, is_long, end_mark}
use Rattle.tlv_area.specs.Writing.{is_in, touches, home, changes, fill_blocks, blocks_below, write_of, block_in, IsStepTo, IsPlan, made, steps_of}

-- an address of a block that is touched
any_in : (size : ℕ) (cells : List ℕ) (k : ℕ) → list_any (λ a. a / size == k) cells ≡ true → (a : ℕ) × (a / size ≡ k) × (is_in cells a ≡ true)
any_in size [] k e = absurd cc
any_in size (a ∷ cells) k e = elim (cases_Bool (a / size == k)) [
  | inl here ↦ (a, grind (arith, here), (let same : (a == a) ≡ true = grind arith in rw same refl))
  | inr off ↦
      (let tail = any_in size cells k (rw off at e) in
      (tail.0, tail.1, or_later (a == tail.0) (is_in cells tail.0) tail.2))
]
  where
    or_later : (x y : Bool) → y ≡ true → (x || y) ≡ true
    or_later true y e = refl
    or_later false y e = e

-- what passes a filter of a list of numbers
all_filter : (p : ℕ → Bool) (P : ℕ → Type 0) (xs : List ℕ) → ((x : ℕ) → p x ≡ true → P x) → AllByRecursion P (filter p xs)
all_filter p P [] f = tt
all_filter p P (x ∷ xs) f = elim (cases_Bool (p x)) [
  | inl yes_ ↦ rw yes_ (f x yes_, all_filter p P xs f)
  | inr no_ ↦ rw no_ (all_filter p P xs f)
]

-- the blocks of steps that write these blocks
all_steps : (size : ℕ) (new : List ℕ) (P : ℕ → Type 0) (ss : List Step) (ks : List ℕ) → map write_of ss ≡ map (λ k. block_in size new k) ks → AllByRecursion P ks → AllByRecursion (λ s. P s.block) ss
all_steps size new P [] ks e all = tt
all_steps size new P (s ∷ ss) [] e all = absurd cc
all_steps size new P (s ∷ ss) (k ∷ ks) e all =
    let head : write_of s ≡ block_in size new k = cc in
    let tail : map write_of ss ≡ map (λ k. block_in size new k) ks = cc in
    (subst P (sym (ap (λ w. w.0) head)) all.0, all_steps size new P ss ks tail all.1)

step_block : (P : ℕ → Type 0) (block : ℕ) (now content : List ℕ) (o : Option Step) → IsStepTo block now content o → P block → AllByRecursion (λ s. P s.block) (made o)
step_block P block now content None is p = tt
step_block P block now content (Some s) is p = (subst P (sym (ap (λ w. w.0) is.0)) p, tt)

pub all_both : {A : Type 0} (P : A → Type 0) (xs ys : List A) → AllByRecursion P xs → AllByRecursion P ys → AllByRecursion P (xs ++ ys)
all_both P [] ys p q = q
all_both P (x ∷ xs) ys p q = (p.0, all_both P xs ys p.1 q)

-- the length's first byte is in the span
first_in : (tail message : List ℕ) (a : ℕ) (rest : List ℕ) → tail ≡ a ∷ rest → is_in (span tail message) a ≡ true
first_in tail message a rest e =
    ap (λ cells. is_in (take (length (written (length tail) message)) cells) a) e ∙ by_long (is_long message) (length message)
  where
    own : (n : ℕ) → is_in (take (suc n) (a ∷ rest)) a ≡ true
    own n = let same : (a == a) ≡ true = grind arith in rw same refl

    by_long : (v : Bool) (n : ℕ) → is_in (take (length ((length_bytes v n ++ message) ++ end_mark (length tail) (length_bytes v n ++ message))) (a ∷ rest)) a ≡ true
    by_long true n = own (length ((n / 256 ∷ n % 256 ∷ message) ++ end_mark (length tail) (length_bytes true n ++ message)))
    by_long false n = own (length (message ++ end_mark (length tail) (length_bytes false n ++ message)))

-- the tail has a first address
no_length : (kind : ℕ) (long : Bool) (value : List ℕ) → kind ≡ ndef_message → [] ≡ after_kind kind long value → ⊥
no_length zero long value is e = absurd (omega (arith, is))
no_length (suc k) true value is e = cc
no_length (suc k) false value is e = cc

tail_first : (memory : List ℕ) (t : Tlv) (after : List ℕ) → LiesIn memory t → t.kind ≡ ndef_message → (a : ℕ) × (rest : List ℕ) × (message_tail t.at after ≡ a ∷ rest)
tail_first memory t after lies kind = by_cells t.at lies.bytes
  where
    by_cells : (cells : List ℕ) → bytes_at memory cells ≡ spelling t → (a : ℕ) × (rest : List ℕ) × (message_tail cells after ≡ a ∷ rest)
    by_cells [] e = absurd cc
    by_cells (x ∷ []) e = absurd (no_length t.kind t.long t.value kind (let tail : [] ≡ after_kind t.kind t.long t.value = cc in tail))
    by_cells (x ∷ a ∷ rest) e = (a, rest ++ after, refl)

-- each block that is written has an address of the span
pub blocks_inside : (size end : ℕ) (memory message new : List ℕ) (t : Tlv) (after : List ℕ) (plan : Plan) (P : ℕ → Type 0) → LiesIn memory t → t.kind ≡ ndef_message →
    IsPlan size end (message_tail t.at after) memory message new plan → ((a : ℕ) → is_in (span (message_tail t.at after) message) a ≡ true → P (a / size))
    → AllByRecursion (λ s. P s.block) (steps_of plan)
blocks_inside size end memory message new t after plan P lies kind is inside =
    let tail : List ℕ = message_tail t.at after in
    let first = tail_first memory t after lies kind in
    let here : slice_index tail 0 ≡ first.0 = ap (λ cells. slice_index cells 0) first.2 in
    let home_in : P (home size tail) = subst (λ a. P (a / size)) (sym here) (inside first.0 (first_in tail message first.0 first.1 first.2)) in
    let touched : (k : ℕ) → ((not (k == home size tail) && touches size (span tail message) k) && changes size memory new k) ≡ true → P k =
    λ k e. (let parts = and_parts (not (k == home size tail) && touches size (span tail message) k) (changes size memory new k) e in
    let more = and_parts (not (k == home size tail)) (touches size (span tail message) k) parts.0 in
    let found = any_in size (span tail message) k more.1 in
    subst P found.1 (inside found.0 found.2)) in
    all_both (λ s. P s.block) (made plan.close ++ plan.fill) (made plan.last)
    (all_both (λ s. P s.block) (made plan.close) plan.fill
    (step_block P (home size tail) _ _ plan.close is.close home_in)
    (all_steps size new P plan.fill (fill_blocks size end tail memory message new) is.fill
    (all_filter (λ k. (not (k == home size tail) && touches size (span tail message) k) && changes size memory new k) P (range_with_len 0 (blocks_below size end)) touched)))
    (step_block P (home size tail) _ _ plan.last is.last home_in)
