-- That the writes of a message are few.
use Rattle.std.proofs.Common.{◌≡◌, ◌≢◌, inl, inr, ℕ, zero, suc, ◌+◌, ◌*◌, ◌/◌, ◌<◌, ◌≤◌, ◌==◌, Bool, true, false, if◌then◌else◌, List, [], ◌∷◌, ◌++◌, length, take, drop, map, slice_index, refl, sym}
use Rattle.std.proofs.Common.{◌∙◌, ap, subst, arith}
use Rattle.std.specs.List.{AllByRecursion, range_with_len}
use Rattle.std.specs.Int.{div_ceil}
use Rattle.std.proofs.Math.Nat.{mul-div_cancel_left, mul-le-mul_left}
use Rattle.std.proofs.lemmas.Bool.{cases_Bool}
use Rattle.std.proofs.lemmas.List.{get_or-take}
use Rattle.std.proofs.lemmas.List.FromFn.{get_or-range_with_len}
use Rattle.tlv_area.specs.declared.step.Step.{Step}
use Rattle.tlv_area.specs.Layout.{length_bytes}
use Rattle.tlv_area.specs.Tail.{span, written, is_long, end_mark}
use Rattle.tlv_area.specs.Writing.{IsWhole, EachChanges, writes_of, after_step}
use Rattle.t4t_tag.specs.Spelling.{high_first}
use Rattle.tag_reader.specs.declared.how.How.{How}
use Rattle.tag_reader.specs.declared.how.How.TheVariants.{T4}
use Rattle.tag_reader.specs.Files.{container_end, file_in, message_length}
use Rattle.tag_reader.specs.Survey.{block_size}
use Rattle.tag_writer.specs.declared.phase.Phase.TheVariants.{Prepared, Emptied, Filled}
use Rattle.tag_writer.specs.Puts.{Put, put_into, block_put, block_puts, update_put, most_brought, piece_of, file_puts}
use Rattle.tag_writer.specs.Place.{file_place}
use Rattle.tag_writer.specs.WriteAsked.{all_puts}
use Rattle.tag_writer.specs.Phases.{file_parts}
use Rattle.tag_writer.specs.Counts.{writes_at, EachIsOther, AreFew}

-- the first address of the span is that of the tail
pub first_of_span : (tail message : List ℕ) → slice_index (span tail message) 0 ≡ slice_index tail 0
first_of_span tail message = get_or-take (length (written (length tail) message)) tail 0 0 (by_long (is_long message) (length message))
  where
    by_long : (v : Bool) (n : ℕ) → 0 < length ((length_bytes v n ++ message) ++ end_mark (length tail) (length_bytes v n ++ message))
    by_long true n = omega arith
    by_long false n = omega arith

bit : (v w : Bool) → (v ≡ true → w ≡ true) → (if v then 1 else 0) ≤ (if w then 1 else 0)
bit true w f = rw (f refl) (omega arith)
bit false w f = omega arith

-- the writes of steps
module _ (how : How) (size : ℕ) (some : 0 < block_size how size) where
  block_at : (s : Step) (a : ℕ) → (block_size how size * s.block == a) ≡ true → s.block ≡ a / block_size how size
  block_at s a e =
      let same : block_size how size * s.block ≡ a = grind (arith, e) in
      sym (mul-div_cancel_left s.block some) ∙ ap (λ n. n / block_size how size) same

  at_block : (a : ℕ) (ss : List Step) → writes_at a (block_puts how size ss) ≤ writes_of (a / block_size how size) ss
  at_block a [] = omega arith
  at_block a (s ∷ ss) =
      let rest = at_block a ss in
      let here = bit (block_size how size * s.block == a) (s.block == a / block_size how size) (λ e. (let same = block_at s a e in grind (arith, same))) in
      omega (arith, rest, here)

  between : (a : ℕ) (ss : List Step) → block_size how size * (a / block_size how size) ≢ a → writes_at a (block_puts how size ss) ≡ 0
  between a [] off = refl
  between a (s ∷ ss) off = elim (cases_Bool (block_size how size * s.block == a)) [
    | inl here ↦
        absurd (let same : block_size how size * s.block ≡ a = grind (arith, here) in
        off (ap (λ n. block_size how size * n) (sym (block_at s a here)) ∙ same))
    | inr other ↦ (let rest = between a ss off in rw other (omega (arith, rest)))
  ]

  pub blocks_twice : (home : ℕ) (ss : List Step) → writes_of home ss ≤ 2 → writes_at (block_size how size * home) (block_puts how size ss) ≤ 2
  blocks_twice home ss few =
      let same : block_size how size * home / block_size how size ≡ home = mul-div_cancel_left home some in
      let most = at_block (block_size how size * home) ss in
      let less : writes_of (block_size how size * home / block_size how size) ss ≤ 2 = subst (λ k. writes_of k ss ≤ 2) (sym same) few in
      omega (arith, most, less)

  pub blocks_once : (home a : ℕ) (ss : List Step) → a ≢ block_size how size * home → ((k : ℕ) → k ≢ home → writes_of k ss ≤ 1) → writes_at a (block_puts how size ss) ≤ 1
  blocks_once home a ss other few = elim (cases_Bool (block_size how size * (a / block_size how size) == a)) [
    | inl whole ↦
        (let same : block_size how size * (a / block_size how size) ≡ a = grind (arith, whole) in
        let most = at_block a ss in
        let less = few (a / block_size how size) (λ e. other (sym same ∙ ap (λ k. block_size how size * k) e)) in
        omega (arith, most, less))
    | inr off ↦
        (let none = between a ss (λ e. (let yes_ : (block_size how size * (a / block_size how size) == a) ≡ true = grind (arith, e) in let no_ : true ≡ false = sym yes_ ∙ off in cc)) in
        omega (arith, none))
  ]

pub blocks_other : (how : How) (size : ℕ) (base store : List ℕ) (ss : List Step) → AllByRecursion (IsWhole (block_size how size) base) ss → EachChanges (block_size how size) store ss
    → EachIsOther store (block_puts how size ss)
blocks_other how size base store [] whole each = tt
blocks_other how size base store (s ∷ ss) whole each =
    let block : ℕ = block_size how size in
    let there : take (length s.content.items) (drop (block * s.block) store) ≡ take block (drop (block * s.block) store) = ap (λ n. take n (drop (block * s.block) store)) whole.0.content in
    let next : put_into store (block_put how size s) ≡ after_step block store s =
    ap (λ n. take (block * s.block) store ++ s.content.items ++ drop (block * s.block + n) store) whole.0.content in
    (λ e. each.0 (sym there ∙ e), subst (λ t. EachIsOther t (block_puts how size ss)) (sym next) (blocks_other how size base (after_step block store s) ss whole.1 each.1))

-- the updates of a file
writes_append : (a : ℕ) (ps qs : List Put) → writes_at a (ps ++ qs) ≡ writes_at a ps + writes_at a qs
writes_append a [] qs = omega arith
writes_append a (p ∷ ps) qs = omega (arith, writes_append a ps qs)

only_most : (v : Bool) (p : Put) (a : ℕ) → writes_at a (if v then [] else p ∷ []) ≤ 1
only_most true p a = omega arith
only_most false p a = elim (cases_Bool (p.at == a)) [ inl here ↦ rw here (omega arith) | inr off ↦ rw off (omega arith) ]

only_off : (v : Bool) (p : Put) (a : ℕ) → p.at ≢ a → writes_at a (if v then [] else p ∷ []) ≡ 0
only_off true p a off = refl
only_off false p a off = (let other : (p.at == a) ≡ false = grind (arith, off) in rw other refl)

run_none : (f : ℕ → Put) (b n a : ℕ) → ((k : ℕ) → b ≤ k → (f k).at ≢ a) → writes_at a (map f (range_with_len b n)) ≡ 0
run_none f b zero a off = refl
run_none f b (suc n) a off =
    let here : (f b).at ≢ a = off b (omega arith) in
    let other : ((f b).at == a) ≡ false = grind (arith, here) in
    rw (other, run_none f (b + 1) n a (λ k low. off k (omega (arith, low)))) refl

run_once : (f : ℕ → Put) (b n a : ℕ) → ((j k : ℕ) → j < k → (f j).at < (f k).at) → writes_at a (map f (range_with_len b n)) ≤ 1
run_once f b zero a up = omega arith
run_once f b (suc n) a up = elim (cases_Bool ((f b).at == a)) [
  | inl here ↦
      (let same : (f b).at ≡ a = grind (arith, here) in
      let none = run_none f (b + 1) n a (λ k low e. (let more = up b k (omega (arith, low)) in omega (arith, more, same, e))) in
      rw (here, none) (omega arith))
  | inr off ↦ (let rest = run_once f (b + 1) n a up in rw off (omega (arith, rest)))
]

module _ (store message : List ℕ) (some : 1 ≤ most_brought store) where
  abbrev end : ℕ
  end = container_end store

  abbrev most : ℕ
  most = most_brought store

  abbrev count : ℕ
  count = div_ceil (length message) most

  pub home : slice_index (file_place store message).span 0 ≡ end
  home = (let first = get_or-range_with_len end (2 + length message) 0 0 (omega arith) in let same : end + 0 ≡ end = omega arith in first ∙ same)

  up : (j k : ℕ) → j < k → (piece_of (update_put store) message (most_brought store) j).at < (piece_of (update_put store) message (most_brought store) k).at
  up j k low = (let next : suc j ≤ k = low in let more : most * suc j ≤ most * k = mul-le-mul_left most next in let step : most * suc j ≡ most * j + most = omega arith in
      omega (arith, more, step, some))

  parts : (a : ℕ) → writes_at a (all_puts (file_parts store message)) ≡ writes_at a (file_puts Prepared store message) + writes_at a (file_puts Emptied store message)
      + writes_at a (file_puts Filled store message)
  parts a = writes_append a (file_puts Prepared store message ++ file_puts Emptied store message) (file_puts Filled store message)
      ∙ ap (λ n. n + writes_at a (file_puts Filled store message)) (writes_append a (file_puts Prepared store message) (file_puts Emptied store message))

  pub file_few : (size : ℕ) → AreFew T4 size store (file_place store message) (all_puts (file_parts store message))
  file_few size = record {
    twice = subst (λ a. writes_at a (all_puts (file_parts store message)) ≤ 2) (sym home)
        (let first = only_most (message_length (file_in store) == 0) (update_put store 0 (0 ∷ 0 ∷ [])) end in
        let last = only_most (length message == 0) (update_put store 0 (high_first (length message))) end in
        let none = run_none (piece_of (update_put store) message (most_brought store)) 0 count end (λ k low e. omega (arith, e)) in
        omega (arith, parts end, first, last, none));
    once = λ a other.
        (let off : end + 0 ≢ a = λ e. other (let same : a ≡ end = omega (arith, e) in same ∙ sym home) in
        let first = only_off (message_length (file_in store) == 0) (update_put store 0 (0 ∷ 0 ∷ [])) a off in
        let last = only_off (length message == 0) (update_put store 0 (high_first (length message))) a off in
        let one = run_once (piece_of (update_put store) message (most_brought store)) 0 count a up in
        omega (arith, parts a, first, last, one));
    changed = tt;
  }
