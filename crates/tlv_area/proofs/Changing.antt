-- Steps that are made or left out: what they leave, that each changes its block, and how many write one.
use Rattle.std.proofs.Common.{take-add, ◌≡◌, ℕ, ◌+◌, ◌-◌, ◌*◌, ◌<◌, ◌≤◌, true, false, List, [], ◌∷◌, ◌++◌, length, refl, sym, ◌∙◌, ap, arith, subst, drop, map, eqb, Option, Some, None, inl, inr, ◌⊎◌}
use Rattle.std.specs.Prelude.{◌≢◌, slice_index, not}
use Rattle.std.specs.Str.{bytes_eq}
use Rattle.std.proofs.lemmas.Slice.Eq.{bytes_eq-Decides}
use Rattle.std.specs.List.{AllByRecursion}
use Rattle.std.proofs.Math.Nat.{mul-le-mul_right}
use Rattle.std.proofs.lemmas.List.{take-append-drop, ext_get_or}
use Rattle.std.proofs.lemmas.Bool.{cases_Bool, cases_lt, eqb-true, eqb-false, ne_eqb}
use Rattle.nfc_base.specs.Blocks.{with_block, block_of}
use Rattle.tlv_area.specs.declared.step.Step.{Step}
use Rattle.tlv_area.specs.Writing.{is_in, changes, after_step, after_steps, made, IsStepTo, IsWhole, EachChanges, writes_of}
use Rattle.tlv_area.proofs.Filters.{Distinct}
use Rattle.tlv_area.proofs.Stepping.{written_block, Writes, or_false, length-with_block, block_before, block_behind, block_of-at, block_of-size}

-- a store stays where a block gets what it has
block_back : (size : ℕ) (mem : List ℕ) (k : ℕ) → with_block size mem k (block_of size mem k) ≡ mem
block_back size mem k =
    ap (λ c. c ++ drop (size * k + size) mem) (sym (take-add (size * k) size mem)) ∙ take-append-drop (size * k + size) mem

-- a block is the same in two stores whose bytes there are
pub block_same : (size k : ℕ) (mem other : List ℕ) → k * size + size ≤ length mem → k * size + size ≤ length other →
    ((a : ℕ) → k * size ≤ a → a < k * size + size → slice_index mem a ≡ slice_index other a) → block_of size mem k ≡ block_of size other k
block_same size k mem other within inside same =
    let mem_size = block_of-size size mem k within in
    let other_size = block_of-size size other k inside in
    ext_get_or 0 (block_of size mem k) (block_of size other k) (mem_size ∙ sym other_size)
    (λ i low.
    let a : ℕ = k * size + i in
    let place : a - k * size ≡ i = omega arith in
    let high : a < k * size + size = omega (arith, mem_size, low) in
    sym (ap (λ n. slice_index (block_of size mem k) n) place) ∙ block_of-at size mem k a (omega arith) high ∙ same a (omega arith) high
    ∙ sym (block_of-at size other k a (omega arith) high) ∙ ap (λ n. slice_index (block_of size other k) n) place)

-- what a step that is made or left out leaves
pub made_leaves : (size : ℕ) (mem : List ℕ) (k : ℕ) (content : List ℕ) (o : Option Step) → IsStepTo k (block_of size mem k) content o →
    after_steps size mem (made o) ≡ with_block size mem k content
made_leaves size mem k content None is = sym (block_back size mem k) ∙ ap (λ c. with_block size mem k c) is
made_leaves size mem k content (Some s) is = ap (λ (p : ℕ × List ℕ). with_block size mem p.0 p.1) is.0

pub made_changes : (size : ℕ) (mem : List ℕ) (k : ℕ) (content : List ℕ) (o : Option Step) → IsStepTo k (block_of size mem k) content o →
    EachChanges size mem (made o)
made_changes size mem k content None is = tt
made_changes size mem k content (Some s) is =
    let block : s.block ≡ k = ap (λ (p : ℕ × List ℕ). p.0) is.0 in
    let bytes : s.content.items ≡ content = ap (λ (p : ℕ × List ℕ). p.1) is.0 in
    (λ e. is.1 (ap (λ j. block_of size mem j) (sym block) ∙ e ∙ bytes), tt)

pub made_whole : (size : ℕ) (mem : List ℕ) (k : ℕ) (now content : List ℕ) (o : Option Step) → IsStepTo k now content o →
    length content ≡ size → size * k + size ≤ length mem → (us : List Step) → AllByRecursion (IsWhole size mem) us →
    AllByRecursion (IsWhole size mem) (made o ++ us)
made_whole size mem k now content None is whole room us more = more
made_whole size mem k now content (Some s) is whole room us more =
    let block : s.block ≡ k = ap (λ (p : ℕ × List ℕ). p.0) is.0 in
    let bytes : s.content.items ≡ content = ap (λ (p : ℕ × List ℕ). p.1) is.0 in
    (record { content = ap length bytes ∙ whole; room = subst (λ j. size * j + size ≤ length mem) (sym block) room }, more)

-- steps one after the other
pub each_append : (size : ℕ) (mem : List ℕ) (ss us : List Step) → EachChanges size mem ss → EachChanges size (after_steps size mem ss) us →
    EachChanges size mem (ss ++ us)
each_append size mem [] us each more = more
each_append size mem (s ∷ ss) us each more = (each.0, each_append size (after_step size mem s) ss us each.1 more)

-- these blocks lie among the first n, and a new store has other contents there
abbrev pub AreOther : ℕ → ℕ → List ℕ → List ℕ → List ℕ → Type 0
AreOther size n mem new ks = AllByRecursion (λ k. (k < n) × (block_of size mem k ≢ block_of size new k)) ks

module _ (size n : ℕ) (mem : List ℕ) (k : ℕ) (content : List ℕ) (whole : length content ≡ size) (within : k * size + size ≤ length mem) (room : n * size ≤ length mem) where
  room_of : (j : ℕ) → j < n → j * size + size ≤ length mem
  room_of j low =
      let less : j + 1 ≤ n = omega arith in
      let product : (j + 1) * size ≡ j * size + size = omega arith in
      omega (arith, product, mul-le-mul_right size less)

  other_block : (j : ℕ) → j < n → (k ≡ j → ⊥) → block_of size (with_block size mem k content) j ≡ block_of size mem j
  other_block j low other =
      let in_mem : j * size + size ≤ length mem = room_of j low in
      block_same size j (with_block size mem k content) mem (omega (arith, in_mem, length-with_block size mem k content whole within)) in_mem
      (λ a above below. elim (apart_blocks j other) [
        | inl less ↦ block_before size mem k content whole within a (omega (arith, less))
        | inr more ↦ block_behind size mem k content whole within a (omega (arith, more))
      ])
    where
      apart_blocks : (j : ℕ) → (k ≡ j → ⊥) → (j * size + size ≤ k * size) ⊎ (k * size + size ≤ j * size)
      apart_blocks j other = elim (cases_lt j k) [
        | inl less ↦
            (let next : j + 1 ≤ k = omega arith in
            let product : (j + 1) * size ≡ j * size + size = omega arith in
            inl (omega (arith, product, mul-le-mul_right size next)))
        | inr not_less ↦ elim (cases_lt k j) [
          | inl less ↦
              (let next : k + 1 ≤ j = omega arith in
              let product : (k + 1) * size ≡ k * size + size = omega arith in
              inr (omega (arith, product, mul-le-mul_right size next)))
          | inr same ↦ absurd (other (omega arith))
        ]
      ]

  -- other blocks stay other than a new store's
  pub others_kept : (new ks : List ℕ) → is_in ks k ≡ false → AreOther size n mem new ks → AreOther size n (with_block size mem k content) new ks
  others_kept new [] away each = tt
  others_kept new (j ∷ ks) away each =
      let parts = or_false (eqb j k) (is_in ks k) away in
      let ne : k ≡ j → ⊥ = λ e. eqb-false j k parts.0 (sym e) in
      ((each.0.0, λ e. each.0.1 (sym (other_block j each.0.0 ne) ∙ e)), others_kept new ks parts.1 each.1)

-- Steps that write blocks as a new store has them, where those are other contents, change each its block.
pub fills_change : (size n : ℕ) (mem new : List ℕ) (ss : List Step) → n * size ≤ length mem → length new ≡ length mem →
    AllByRecursion (Writes size new) ss → Distinct (map written_block ss) → AreOther size n mem new (map written_block ss) → EachChanges size mem ss
fills_change size n mem new [] room sizes each distinct others = tt
fills_change size n mem new (s ∷ ss) room sizes each distinct others =
    let k : ℕ = s.block in
    let less : k + 1 ≤ n = omega (arith, others.0.0) in
    let product : (k + 1) * size ≡ k * size + size = omega arith in
    let within : k * size + size ≤ length mem = omega (arith, product, mul-le-mul_right size less) in
    let whole : length s.content.items ≡ size = ap length each.0 ∙ block_of-size size new k (omega (arith, sizes, within)) in
    let next_size : length (after_step size mem s) ≡ length mem = length-with_block size mem k s.content.items whole within in (
      λ e. others.0.1 (e ∙ each.0),
      fills_change size n (after_step size mem s) new ss (omega (arith, next_size, room)) (sizes ∙ sym next_size) each.1 distinct.1
          (others_kept size n mem k s.content.items whole within room new (map written_block ss) distinct.0 others.1),
    )

-- how many steps write a block
pub writes-append : (k : ℕ) (ss us : List Step) → writes_of k (ss ++ us) ≡ writes_of k ss + writes_of k us
writes-append k [] us = omega arith
writes-append k (s ∷ ss) us = omega (arith, writes-append k ss us)

pub writes_made : (k : ℕ) (now content : List ℕ) (o : Option Step) → IsStepTo k now content o → writes_of k (made o) ≤ 1
writes_made k now content None is = omega arith
writes_made k now content (Some s) is = elim (cases_Bool (eqb s.block k)) [
  | inl same ↦ rw same (omega arith)
  | inr other ↦ rw other (omega arith)
]

pub writes_none : (h k : ℕ) (now content : List ℕ) (o : Option Step) → IsStepTo h now content o → k ≢ h → writes_of k (made o) ≡ 0
writes_none h k now content None is other = refl
writes_none h k now content (Some s) is other =
    let block : s.block ≡ h = ap (λ (p : ℕ × List ℕ). p.0) is.0 in
    let ne : eqb s.block k ≡ false = ne_eqb s.block k (λ e. other (sym e ∙ block)) in
    rw ne refl

pub writes_absent : (k : ℕ) (ss : List Step) → is_in (map written_block ss) k ≡ false → writes_of k ss ≡ 0
writes_absent k [] away = refl
writes_absent k (s ∷ ss) away =
    let parts = or_false (eqb s.block k) (is_in (map written_block ss) k) away in
    rw (parts.0, writes_absent k ss parts.1) refl

pub writes_once : (k : ℕ) (ss : List Step) → Distinct (map written_block ss) → writes_of k ss ≤ 1
writes_once k [] distinct = omega arith
writes_once k (s ∷ ss) distinct = elim (cases_Bool (eqb s.block k)) [
  | inl same ↦
      (let e : s.block ≡ k = eqb-true s.block k same in
      let absent : writes_of k ss ≡ 0 = writes_absent k ss (subst (λ j. is_in (map written_block ss) j ≡ false) e distinct.0) in
      rw (same, absent) (omega arith))
  | inr other ↦ (let rest = writes_once k ss distinct.1 in rw other (omega (arith, rest)))
]

-- whether a block's content changes
pub changes_not : (size : ℕ) (old new : List ℕ) (k : ℕ) → block_of size old k ≡ block_of size new k → changes size old new k ≡ false
changes_not size old new k same = ap (λ b. not b) ((bytes_eq-Decides (block_of size old k) (block_of size new k)).1 same)

pub changes_so : (size : ℕ) (old new : List ℕ) (k : ℕ) → block_of size old k ≢ block_of size new k → changes size old new k ≡ true
changes_so size old new k other = elim (cases_Bool (bytes_eq (block_of size old k) (block_of size new k))) [
  | inl same ↦ absurd (other ((bytes_eq-Decides (block_of size old k) (block_of size new k)).0 same))
  | inr differs ↦ ap (λ b. not b) differs
]
