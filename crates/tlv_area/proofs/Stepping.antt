-- What steps leave that write whole blocks.
use Rattle.std.proofs.Common.{◌≡◌, ℕ, ◌+◌, ◌-◌, ◌*◌, ◌/◌, ◌<◌, ◌≤◌, Bool, true, false, List, [], ◌∷◌, ◌++◌, length, refl, sym, ◌∙◌, ap, arith, take, drop, map, inl, inr, eqb, ltb, append_assoc}
use Rattle.std.specs.Prelude.{slice_index, ◌||◌, nat_lt}
use Rattle.std.specs.List.{list_all, AllByRecursion}
use Rattle.std.proofs.Math.Nat.{mul-le-mul_right}
use Rattle.std.proofs.lemmas.List.{length-append, length-take-le, length-drop, get_or-append_right, get_or_append_left, get_or-take, get_or-drop}
use Rattle.std.proofs.lemmas.Bool.{cases_Bool, cases_lt, eqb-true, eqb-false, ltb-true, and_parts}
use Rattle.nfc_base.specs.Blocks.{with_block, block_of}
use Rattle.tlv_area.specs.declared.step.Step.{Step}
use Rattle.tlv_area.specs.Writing.{is_in, after_step, after_steps, write_of, block_in}
use Rattle.tlv_area.proofs.Blocks.{block_is, block_bounds}

-- the block that a step writes
abbrev pub written_block : Step → ℕ
written_block s = s.block

-- a step writes its block as a store has it
abbrev pub Writes : ℕ → List ℕ → Step → Type 0
Writes size new s = s.content.items ≡ block_of size new s.block

-- the steps that write these blocks as a store has them
pub steps_write : (size : ℕ) (new : List ℕ) (ss : List Step) (ks : List ℕ) → map write_of ss ≡ map (λ k. block_in size new k) ks →
    (map written_block ss ≡ ks) × AllByRecursion (Writes size new) ss
steps_write size new [] [] e = (refl, tt)
steps_write size new [] (k ∷ ks) e = cc
steps_write size new (s ∷ ss) [] e = cc
steps_write size new (s ∷ ss) (k ∷ ks) e =
    let same : write_of s ≡ block_in size new k = cc in
    let block : s.block ≡ k = ap (λ (p : ℕ × List ℕ). p.0) same in
    let content : s.content.items ≡ block_of size new k = ap (λ (p : ℕ × List ℕ). p.1) same in
    let more : map write_of ss ≡ map (λ j. block_in size new j) ks = cc in
    let rest = steps_write size new ss ks more in
    (ap (λ j. j ∷ map written_block ss) block ∙ ap (λ js. k ∷ js) rest.0, (content ∙ ap (λ j. block_of size new j) (sym block), rest.1))

-- steps one after the other
pub after_append : (size : ℕ) (mem : List ℕ) (ss us : List Step) → after_steps size mem (ss ++ us) ≡ after_steps size (after_steps size mem ss) us
after_append size mem [] us = refl
after_append size mem (s ∷ ss) us = after_append size (after_step size mem s) ss us

module _ (size : ℕ) (mem : List ℕ) (k : ℕ) (content : List ℕ) (whole : length content ≡ size) (within : k * size + size ≤ length mem) where
  -- the front, the content and the rest, by the block's first address
  at_block : with_block size mem k content ≡ take (k * size) mem ++ (content ++ drop (k * size + size) mem)
  at_block = let turned : size * k ≡ k * size = omega arith in
      ap (λ n. take n mem ++ content ++ drop (n + size) mem) turned ∙ append_assoc (take (k * size) mem) content (drop (k * size + size) mem)

  front_size : length (take (k * size) mem) ≡ k * size
  front_size = length-take-le (k * size) mem (omega arith)

  pub length-with_block : length (with_block size mem k content) ≡ length mem
  length-with_block = ap length at_block ∙ length-append (take (k * size) mem) (content ++ drop (k * size + size) mem)
      ∙ ap (λ n. length (take (k * size) mem) + n) (length-append content (drop (k * size + size) mem) ∙ ap (λ n. length content + n) (length-drop (k * size + size) mem))
      ∙ omega (arith, front_size)

  pub block_inside : (a : ℕ) → k * size ≤ a → a < k * size + size → slice_index (with_block size mem k content) a ≡ slice_index content (a - k * size)
  block_inside a low high = ap (λ c. slice_index c a) at_block ∙ get_or-append_right (take (k * size) mem) (content ++ drop (k * size + size) mem) (k * size) a 0 front_size low
      ∙ get_or_append_left content (drop (k * size + size) mem) 0 (a - k * size) (omega arith)

  pub block_before : (a : ℕ) → a < k * size → slice_index (with_block size mem k content) a ≡ slice_index mem a
  block_before a low = ap (λ c. slice_index c a) at_block ∙ get_or_append_left (take (k * size) mem) (content ++ drop (k * size + size) mem) 0 a (omega (arith, front_size))
      ∙ get_or-take (k * size) mem a 0 low

  pub block_behind : (a : ℕ) → k * size + size ≤ a → slice_index (with_block size mem k content) a ≡ slice_index mem a
  block_behind a high = ap (λ c. slice_index c a) at_block ∙ get_or-append_right (take (k * size) mem) (content ++ drop (k * size + size) mem) (k * size) a 0 front_size (omega arith)
      ∙ get_or-append_right content (drop (k * size + size) mem) size (a - k * size) 0 whole (omega arith)
      ∙ get_or-drop (k * size + size) mem (a - k * size - size) 0
      ∙ (let place : k * size + size + (a - k * size - size) ≡ a = omega arith in ap (λ n. slice_index mem n) place)

  pub block_other : (a : ℕ) → 0 < size → (a / size ≡ k → ⊥) → slice_index (with_block size mem k content) a ≡ slice_index mem a
  block_other a some other = elim (cases_lt a (k * size)) [
    | inl low ↦ block_before a low
    | inr low ↦ elim (cases_lt a (k * size + size)) [
      | inl high ↦ absurd (other (block_is size k a low high))
      | inr high ↦ block_behind a high
    ]
  ]

-- the bytes of a block, by their addresses
pub block_of-at : (size : ℕ) (new : List ℕ) (k a : ℕ) → k * size ≤ a → a < k * size + size → slice_index (block_of size new k) (a - k * size) ≡ slice_index new a
block_of-at size new k a low high =
    let turned : size * k ≡ k * size = omega arith in
    let place : k * size + (a - k * size) ≡ a = omega arith in
    ap (λ n. slice_index (take size (drop n new)) (a - k * size)) turned
    ∙ get_or-take size (drop (k * size) new) (a - k * size) 0 (omega arith) ∙ get_or-drop (k * size) new (a - k * size) 0 ∙ ap (λ n. slice_index new n) place

-- a block that lies in a store has its size
pub block_of-size : (size : ℕ) (new : List ℕ) (k : ℕ) → k * size + size ≤ length new → length (block_of size new k) ≡ size
block_of-size size new k within =
    let turned : size * k ≡ k * size = omega arith in
    ap (λ n. length (take size (drop n new))) turned ∙ length-take-le size (drop (k * size) new) (omega (arith, length-drop (k * size) new))

pub or_false : (x y : Bool) → (x || y) ≡ false → (x ≡ false) × (y ≡ false)
or_false true y e = cc
or_false false y e = (refl, e)

-- what steps leave that write blocks as a new store has them: those blocks are its own, all else stays
pub record After (size : ℕ) (mem new : List ℕ) (ss : List Step) (img : List ℕ) : Type 0 where
  pub same_size : length img ≡ length mem
  pub filled : (a : ℕ) → is_in (map written_block ss) (a / size) ≡ true → slice_index img a ≡ slice_index new a
  pub kept : (a : ℕ) → is_in (map written_block ss) (a / size) ≡ false → slice_index img a ≡ slice_index mem a

-- such steps leave that
pub steps_leave : (size n : ℕ) (mem new : List ℕ) (ss : List Step) → 0 < size → n * size ≤ length mem → length new ≡ length mem →
    AllByRecursion (Writes size new) ss → list_all (λ k. nat_lt k n) (map written_block ss) ≡ true →
    After size mem new ss (after_steps size mem ss)
steps_leave size n mem new [] some room sizes each below = record { same_size = refl; filled = λ a e. cc; kept = λ a e. refl }
steps_leave size n mem new (s ∷ ss) some room sizes each below =
    let k : ℕ = s.block in
    let parts = and_parts (ltb k n) (list_all (λ j. nat_lt j n) (map written_block ss)) below in
    let less : k + 1 ≤ n = omega (arith, ltb-true k n parts.0) in
    let product : (k + 1) * size ≡ k * size + size = omega arith in
    let within : k * size + size ≤ length mem = omega (arith, product, mul-le-mul_right size less) in
    let content : s.content.items ≡ block_of size new k = each.0 in
    let whole : length s.content.items ≡ size = ap length content ∙ block_of-size size new k (omega (arith, sizes)) in
    let next_size : length (after_step size mem s) ≡ length mem = length-with_block size mem k s.content.items whole within in
    let rest = steps_leave size n (after_step size mem s) new ss some (omega arith) (sizes ∙ sym next_size) each.1 parts.1 in
    let here : (a : ℕ) → a / size ≡ k → slice_index (after_step size mem s) a ≡ slice_index new a = λ a e.
    let bounds = block_bounds size a some in
    let base : a / size * size ≡ k * size = ap (λ j. j * size) e in
    let low : k * size ≤ a = omega (arith, bounds.0, base) in
    let high : a < k * size + size = omega (arith, bounds.1, base) in
    block_inside size mem k s.content.items whole within a low high ∙ ap (λ c. slice_index c (a - k * size)) content ∙ block_of-at size new k a low high in
    record {
      same_size = rest.same_size ∙ next_size;
      filled = λ a e. elim (cases_Bool (is_in (map written_block ss) (a / size))) [
        | inl later ↦ rest.filled a later
        | inr no_later ↦ rest.kept a no_later ∙ here a (head_is k (a / size) (is_in (map written_block ss) (a / size)) e no_later)
      ];
      kept = λ a e.
          let apart_parts = or_false (eqb k (a / size)) (is_in (map written_block ss) (a / size)) e in
          let ne : k ≡ a / size → ⊥ = eqb-false k (a / size) apart_parts.0 in
          rest.kept a apart_parts.1 ∙ block_other size mem k s.content.items whole within a some (λ x. ne (sym x));
    }
  where
    head_is : (k q : ℕ) (later : Bool) → (eqb k q || later) ≡ true → later ≡ false → q ≡ k
    head_is k q later e absent = elim (cases_Bool (eqb k q)) [
      | inl same ↦ sym (eqb-true k q same)
      | inr other ↦ (let none : (eqb k q || later) ≡ false = rw (other, absent) refl in let clash : true ≡ false = sym e ∙ none in cc)
    ]
