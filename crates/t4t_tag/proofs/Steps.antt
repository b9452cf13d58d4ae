-- What the steps of a tag answer, and what they leave.
use Rattle.std.proofs.Common.{◌≡◌, ℕ, ◌+◌, ◌-◌, ◌<◌, ◌≤◌, min, List, ◌++◌, length, take, drop, slice_index, Bool, ◌==◌, if◌then◌else◌, refl, ◌∙◌, ap, arith}
use Rattle.std.proofs.lemmas.List.{length-append, length-take, length-drop, length-take-le}
use Rattle.t4t_tag.specs.Store.{IsT4State, T4State, IsSameTag}
use Rattle.t4t_tag.specs.Step.{done, overwritten, asked_count, t4_answer, t4_after}
use Rattle.t4t_tag.proofs.Turns.{content_of, on_step}

-- a change inside a file leaves it as long as it was
pub length_overwritten : (file : List ℕ) (offset : ℕ) (content : List ℕ) → offset + length content ≤ length file → length (overwritten file offset content) ≡ length file
length_overwritten file offset content within =
    let front : length (take offset file) ≡ offset = length-take-le offset file (omega (arith, within)) in
    let rest : length (drop (offset + length content) file) ≡ length file - (offset + length content) = length-drop (offset + length content) file in
    let a : length (overwritten file offset content) ≡ length (take offset file ++ content) + length (drop (offset + length content) file) =
    length-append (take offset file ++ content) (drop (offset + length content) file) in
    let b : length (take offset file ++ content) ≡ length (take offset file) + length content = length-append (take offset file) content in
    omega (arith, within, front, rest, a, b)

itself : (t : T4State) → IsSameTag t t
itself t = record { code = refl; container = refl; length = refl }

pub same_tag : (t : T4State) (c : List ℕ) → IsSameTag t (t4_after t c)
same_tag t c = on_step t (λ r. IsSameTag t r.after) c (record {
  refused = λ status two. itself t;
  opened = record { code = refl; container = refl; length = refl };
  picked = λ file on. record { code = refl; container = refl; length = refl };
  read = λ bytes offset. itself t;
  written = λ offset content here within. record { code = refl; container = refl; length = length_overwritten t.file offset content within };
})

-- A tag stays one that can be.
pub stays_tag : (t : T4State) → IsT4State t → (c : List ℕ) → IsT4State (t4_after t c)
stays_tag t is c = on_step t (λ r. IsT4State r.after) c (record {
  refused = λ status two. is;
  opened = is;
  picked = λ file on. is;
  read = λ bytes offset. is;
  written = λ offset content here within. record {
    coded = is.coded;
    least = is.least;
    most = is.most;
    other = is.other;
    size = is.size;
    whole = length_overwritten t.file offset content within ∙ is.whole;
  };
})

length_content : (bytes : List ℕ) (offset count : ℕ) → length (content_of bytes offset count) ≡ min count (length (drop offset bytes)) + 2
length_content bytes offset count =
    length-append (take count (drop offset bytes)) done ∙ ap (λ n. n + 2) (length-take count (drop offset bytes))

-- each answer ends with two status bytes
pub least_answer : (t : T4State) (c : List ℕ) → 2 ≤ length (t4_answer t c)
least_answer t c = on_step t (λ r. 2 ≤ length r.answer) c (record {
  refused = λ status two. omega (arith, two);
  opened = omega arith;
  picked = λ file on. omega arith;
  read = λ bytes offset. let long : length (content_of bytes offset (asked_count (slice_index c 4))) ≡ _ = length_content bytes offset (asked_count (slice_index c 4)) in omega (arith, long);
  written = λ offset content here within. omega arith;
})

asked_most : (n : ℕ) → n < 256 → asked_count n ≤ 256
asked_most n small = by_value (n == 0)
  where
    by_value : (v : Bool) → (if v then 256 else n) ≤ 256
    by_value v = grind (arith, small)

-- an answer to a command of bytes has at most 258
pub most_answer : (t : T4State) (c : List ℕ) → slice_index c 4 < 256 → length (t4_answer t c) ≤ 258
most_answer t c small = on_step t (λ r. length r.answer ≤ 258) c (record {
  refused = λ status two. omega (arith, two);
  opened = omega arith;
  picked = λ file on. omega arith;
  read = λ bytes offset.
      let count : ℕ = asked_count (slice_index c 4) in
      let most : count ≤ 256 = asked_most (slice_index c 4) small in
      let long : length (content_of bytes offset count) ≡ min count (length (drop offset bytes)) + 2 = length_content bytes offset count in
      omega (arith, long, most);
  written = λ offset content here within. omega arith;
})
