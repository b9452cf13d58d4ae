-- What the Checks of a reading bring of a Type 3 tag that keeps to its table, and that they change nothing.
use Rattle.std.proofs.Common.{◌≡◌, ℕ, zero, suc, inl, inr, ◌+◌, ◌-◌, ◌*◌, ◌/◌, ◌<◌, ◌≤◌, List, [], ◌∷◌, ◌++◌, length, take, drop, Bool, true, not, nat_lt, if◌then◌else◌, Some, refl, sym, ◌∙◌, ap}
use Rattle.std.proofs.Common.{subst, append_assoc, append-nil, arith}
use Rattle.std.proofs.lemmas.List.{length-append, length-take-le, length-drop}
use Rattle.std.proofs.Math.Seq.{take-add}
use Rattle.std.proofs.Math.Nat.{le-min, min-le_left, min-le_right, lt_of_not-le}
use Rattle.nfc_base.specs.Signal.{Signal}
use Rattle.nfc_base.specs.Blocks.{block_of}
use Rattle.nfc_base.specs.TagLinks.{LinkView, TagStep, Type3, MayAsk}
use Rattle.t3t_tag.specs.declared.answer.T3Answer.{T3Answer}
use Rattle.t3t_tag.specs.declared.answer.T3Answer.TheVariants.{Content, CheckRefused}
use Rattle.t3t_tag.specs.Attributes.{most_checked, message_blocks, message_length}
use Rattle.t3t_tag.specs.Store.{T3State, IsT3Store, IsOverlong, block_count, attributes}
use Rattle.t3t_tag.specs.Form.{IsSized}
use Rattle.t3t_tag.specs.Spelling.{check_code, answer_frame, most_elements, T3AnswerSpelling}
use Rattle.t3t_tag.specs.Step.{T3Turn, tells, sent, no_block, are_there, content_of, blocks_answer, t3_turn}
use Rattle.t3t_tag.specs.Linked.{t3_memory}
use Rattle.t3t_tag.proofs.Bytes.{left_of, right_of, both_of}
use Rattle.t3t_tag.proofs.SpelledAnswers.{one_answer}
use Rattle.t3t_tag.proofs.Steps.{check_turns}
use Rattle.t3t_access.specs.Answers.{numbers, check_of}
use Rattle.t3t_access.specs.Reading.{needed, most_at_once, taken_at, count_at, check_at, IsDue}
use Rattle.t3t_access.specs.Own.{IsTag3}
use Rattle.t3t_access.proofs.Doing.{is_less, not_less}

pub length_numbers : (first n : ℕ) → length (numbers first n) ≡ n
length_numbers first zero = refl
length_numbers first (suc n) =
    let e : length (numbers first n) ≡ n = length_numbers first n in
    let s : length (numbers first n ++ (first + n) ∷ []) ≡ length (numbers first n) + length ((first + n) ∷ []) = length-append (numbers first n) ((first + n) ∷ []) in
    omega (arith, e, s)

there_more : (count : ℕ) (xs : List ℕ) (y : ℕ) → are_there count xs ≡ true → y < count → are_there count (xs ++ y ∷ []) ≡ true
there_more count [] y h less = both_of (nat_lt y count) true (is_less y count less) refl
there_more count (x ∷ xs) y h less =
    both_of (nat_lt x count) (are_there count (xs ++ y ∷ [])) (left_of (nat_lt x count) (are_there count xs) h)
    (there_more count xs y (right_of (nat_lt x count) (are_there count xs) h) less)

there : (count first n : ℕ) → first + n ≤ count → are_there count (numbers first n) ≡ true
there count first zero h = refl
there count first (suc n) h = there_more count (numbers first n) (first + n) (there count first n (omega (arith, h))) (omega (arith, h))

content_more : (store xs : List ℕ) (y : ℕ) → content_of store (xs ++ y ∷ []) ≡ content_of store xs ++ block_of 16 store y
content_more store [] y = append-nil (block_of 16 store y)
content_more store (x ∷ xs) y =
    ap (λ t. block_of 16 store x ++ t) (content_more store xs y) ∙ sym (append_assoc (block_of 16 store x) (content_of store xs) (block_of 16 store y))

drop_none : (n : ℕ) → drop {A = ℕ} n [] ≡ []
drop_none zero = refl
drop_none (suc n) = refl

pub drop_more : (m n : ℕ) (l : List ℕ) → drop n (drop m l) ≡ drop (m + n) l
drop_more zero n l = ap (λ k. drop k l) (let e : n ≡ zero + n = omega arith in e)
drop_more (suc m) n [] = drop_none n ∙ sym (drop_none (suc m + n))
drop_more (suc m) n (x ∷ l) = drop_more m n l ∙ ap (λ k. drop k (x ∷ l)) (let e : suc (m + n) ≡ suc m + n = omega arith in e)

content_row : (store : List ℕ) (first n : ℕ) → content_of store (numbers first n) ≡ take (16 * n) (drop (16 * first) store)
content_row store first zero = refl
content_row store first (suc n) =
    let behind : List ℕ = drop (16 * first) store in
    let at : 16 * (first + n) ≡ 16 * first + 16 * n = omega arith in
    let all : 16 * n + 16 ≡ 16 * suc n = omega arith in
    content_more store (numbers first n) (first + n)
    ∙ ap (λ t. t ++ block_of 16 store (first + n)) (content_row store first n)
    ∙ ap (λ d. take (16 * n) behind ++ take 16 d) (ap (λ k. drop k store) at ∙ sym (drop_more (16 * first) (16 * n) store))
    ∙ sym (take-add (16 * n) 16 behind)
    ∙ ap (λ k. take k behind) all

-- the content of so many blocks from one on
abbrev pub part : List ℕ → ℕ → ℕ → List ℕ
part store first count = take (16 * count) (drop (16 * first) store)

abbrev step_of : LinkView → T3Turn → TagStep
step_of a r = record { answer = sent r.answer; after = record (a.state) { store = r.after.store } }

may_check : (id : List ℕ) (first count : ℕ) → MayAsk Type3 id (check_of id first count)
may_check id first count = record { size = _; code = check_code; rest = _; frame = refl }

-- a Check of blocks that are there brings them, and changes nothing
pub own_check : (id : List ℕ) (locked : List Bool) (a : LinkView) → IsTag3 id locked a → (first count : ℕ) → 1 ≤ count → count ≤ 15 → first + count ≤ block_count a.state.store
    → a.step a.state (check_of id first count) ≡ record { answer = Some (answer_frame (Content id (record { items = part a.state.store first count }))); after = a.state }
own_check id locked a tag first count least most fits =
    let t : T3State = t3_memory id locked a.state in
    let ns : List ℕ = numbers first count in
    let long : length ns ≡ count = length_numbers first count in
    let some : 1 ≤ length ns = omega (arith, long, least) in
    let few : length ns ≤ 15 = omega (arith, long, most) in
    let turn : t3_turn t (check_of id first count) ≡ tells t (blocks_answer t (Some ns)) = check_turns t tag.size ns some few in
    let found : tells t (blocks_answer t (Some ns)) ≡ tells t (Content id (record { items = content_of a.state.store ns })) =
    ap (λ v. tells t (if not v then CheckRefused id no_block else Content id (record { items = content_of a.state.store ns }))) (there (block_count a.state.store) first count fits) in
    let row : tells t (Content id (record { items = content_of a.state.store ns })) ≡ tells t (Content id (record { items = part a.state.store first count })) =
    ap (λ xs. tells t (Content id (record { items = xs }))) (content_row a.state.store first count) in
    tag.steps a.state (check_of id first count) (may_check id first count) ∙ ap (step_of a) (turn ∙ found ∙ row)

pub length_part : (store : List ℕ) (first count : ℕ) → first + count ≤ block_count store → length (part store first count) ≡ 16 * count
length_part store first count fits =
    let h : first + count ≤ length store / 16 = fits in
    let behind : length (drop (16 * first) store) ≡ length store - 16 * first = length-drop (16 * first) store in
    length-take-le (16 * count) (drop (16 * first) store) (omega (arith, h, behind))

-- what is told of its answer is that content
pub own_content : (id : List ℕ) (locked : List Bool) (a : LinkView) → IsTag3 id locked a → (first count : ℕ) → 1 ≤ count → count ≤ 15 → first + count ≤ block_count a.state.store
    → (r : Signal) → (a.step a.state (check_of id first count)).answer ≡ Some r → T3AnswerSpelling (Content id (record { items = part a.state.store first count })) r
own_content id locked a tag first count least most fits r says =
    let step = own_check id locked a tag first count least most fits in
    let said : Some (answer_frame (Content id (record { items = part a.state.store first count }))) ≡ Some r = sym (ap (λ (s : TagStep). s.answer) step) ∙ says in
    let frame : r ≡ answer_frame (Content id (record { items = part a.state.store first count })) = cc in
    let long : length (part a.state.store first count) ≡ 16 * count = length_part a.state.store first count fits in
    record { range = (tag.size, record { whole = omega (arith, long); least = omega (arith, long, least); most = omega (arith, long, most) }); frame = frame }

pub same_content : (id xs ys : List ℕ) (r : Signal) → T3AnswerSpelling (Content id (record { items = xs })) r → T3AnswerSpelling (Content id (record { items = ys })) r → xs ≡ ys
same_content id xs ys r p q =
    let e : Content id (record { items = xs }) ≡ Content id (record { items = ys }) = one_answer r (Content id (record { items = xs })) (Content id (record { items = ys })) p q in
    ap items_of e
  where
    items_of : T3Answer → List ℕ
    items_of (Content of content) = content.items
    items_of _ = []

pub reach : (store block : List ℕ) → IsT3Store store → block ≡ attributes store → IsSized block → needed block < block_count store
reach store block is tie sized = lt_of_not-le (λ short.
    let named : message_blocks block ≤ 255 = not_less 255 (message_blocks block) (λ h. sized.sized (inr (inl h))) in
    let long : message_length block ≤ 16 * message_blocks block = not_less (16 * message_blocks block) (message_length block) (λ h. sized.sized (inr (inr h))) in
    let few : (message_length block + 15) / 16 ≤ message_blocks block = omega (arith, long) in
    let lacking : block_count store ≤ message_blocks block = omega (arith, few, short) in
    is.room (subst (IsOverlong (block_count store)) tie (record { summed = sized.known.summed; named = named; lacking = lacking })))

-- how many blocks the first n Checks bring
abbrev pub so_far : List ℕ → ℕ → ℕ
so_far block zero = 0
so_far block (suc n) = 1 + taken_at block n

pub so_far_more : (block : List ℕ) (n : ℕ) → so_far block n + count_at block n ≡ so_far block (suc n)
so_far_more block zero = refl
so_far_more block (suc n) = omega arith

pub at_is : (id block : List ℕ) (n : ℕ) → check_at id block n ≡ check_of id (so_far block n) (count_at block n)
at_is id block zero = refl
at_is id block (suc n) = refl

positive : (n : ℕ) → (n ≡ 0 → ⊥) → 1 ≤ n
positive zero h = absurd (h refl)
positive (suc n) h = omega arith

-- a Check that is due names 1 to 15 blocks that are there
pub record IsWithin (store block : List ℕ) (n : ℕ) : Type 0 where
  pub least : 1 ≤ count_at block n
  pub most : count_at block n ≤ 15
  pub fits : so_far block n + count_at block n ≤ block_count store

pub within : (store block : List ℕ) → IsT3Store store → (n : ℕ) → ((k : ℕ) → n ≡ suc k → block ≡ attributes store) → IsDue block n → IsWithin store block n
within store block is zero tie due = record { least = omega arith; most = omega arith; fits = is.blocks.least }
within store block is (suc n) tie (sized, flag, less) =
    let g : ℕ = most_at_once block in
    let left : ℕ = needed block - taken_at block n in
    let some : 1 ≤ most_checked block = positive (most_checked block) (λ h. sized.sized (inl (inl h))) in
    record {
      least = le-min (le-min some (omega arith)) (omega (arith, less));
      most = omega (arith, min-le_left g left, min-le_right (most_checked block) most_elements);
      fits = omega (arith, min-le_right g left, less, reach store block is (tie n refl) sized);
    }
