-- What is read from a frame is exactly the answer that it spells.
use Rattle.std.proofs.Common.{◌≡◌, ℕ, suc, ◌*◌, ◌/◌, ◌%◌, ◌≤◌, List, [], ◌∷◌, ◌++◌, length, replicate, true, nat_eq, nat_le, ◌==◌, ◌&&◌, if◌then◌else◌, Option, Some, None, ◌↔◌, sym, ◌∙◌, ap, subst}
use Rattle.std.proofs.Common.{arith}
use Rattle.nfc_base.specs.Signal.{Signal}
use Rattle.std.specs.Cmp.Lexicographic.{pointwise}
use Rattle.t3t_tag.specs.declared.answer.T3Answer.{T3Answer}
use Rattle.t3t_tag.specs.declared.answer.T3Answer.TheVariants.{Polled, Content, Done, CheckRefused, UpdateRefused}
use Rattle.t3t_tag.specs.Store.{block_size, id_size}
use Rattle.t3t_tag.specs.Spelling.{polled_code, checked_code, updated_code, most_elements, two_bytes, pair, framed, done, pad_size, answer_bytes, IsContent, IsT3Answer, is_whole_f, T3AnswerSpelling}
use Rattle.t3t_tag.specs.Reading.{is_element_count, is_content, read_polled, read_checked, read_updated, behind_id, read_reply, answer_of, spelled_answer}
use Rattle.t3t_tag.proofs.Bytes.{equal_of, is_equal, other_of, is_other, same_number, whole_frame, at_most, left_of, right_of, both_of, equal_bytes, by_if, AreBytes, two_bytes_of, pair_of}
use Rattle.t3t_tag.proofs.Bytes.{behind_told, behind_reads}
use Rattle.t3t_tag.proofs.Elements.{count_in_range}

-- these bytes spell it
pub record AreSpelled (a : T3Answer) (bytes : List ℕ) : Type 0 where
  pub range : IsT3Answer a
  pub frame : bytes ≡ answer_bytes a

told : (v a : T3Answer) (bytes : List ℕ) → AreSpelled v bytes → Some v ≡ Some a → AreSpelled a bytes
told v a bytes is e =
    let P : T3Answer → Type 0 = λ x. AreSpelled x bytes in
    subst P (let d : v ≡ a = cc in d) is

polled_told : (id behind : List ℕ) (a : T3Answer) → length id ≡ id_size → read_polled id behind ≡ Some a → AreSpelled a (framed (polled_code ∷ (id ++ behind)))
polled_told id behind a size =
    let bytes : List ℕ = framed (polled_code ∷ (id ++ behind)) in
    by_if (pointwise nat_eq behind (replicate pad_size 0)) (Some (Polled id)) None a (AreSpelled a bytes)
    (λ h e. told (Polled id) a bytes (record {
      range = size;
      frame = ap (λ t. framed (polled_code ∷ (id ++ t))) (equal_bytes behind (replicate pad_size 0) h);
    }) e)
    (λ h e. cc)

-- so many blocks, and their bytes
pub record AreBlocks (count : ℕ) (content : List ℕ) : Type 0 where
  pub range : IsContent content
  pub number : count ≡ length content / block_size

content_told : (count : ℕ) (content : List ℕ) → is_content count content ≡ true → AreBlocks count content
content_told count content h =
    let range : is_element_count count ≡ true = left_of (is_element_count count) (length content == block_size * count) h in
    let sized : length content ≡ 16 * count = equal_of (length content) (block_size * count) (right_of (is_element_count count) (length content == block_size * count) h) in
    let least : 1 ≤ count = at_most 1 count (left_of (nat_le 1 count) (nat_le count most_elements) range) in
    let most : count ≤ 15 = at_most count most_elements (right_of (nat_le 1 count) (nat_le count most_elements) range) in
    record {
      range = record { whole = omega (arith, sized); least = omega (arith, sized, least); most = omega (arith, sized, most) };
      number = omega (arith, sized);
    }

checked_told : (id behind : List ℕ) (a : T3Answer) → length id ≡ id_size → AreBytes behind → read_checked id behind ≡ Some a → AreSpelled a (framed (checked_code ∷ (id ++ behind)))
checked_told id [] a size small e = cc
checked_told id (high ∷ []) a size small e = cc
checked_told id (high ∷ low ∷ []) a size small e =
    let bytes : List ℕ = framed (checked_code ∷ (id ++ high ∷ low ∷ [])) in
    by_if (pair high low == done) None (Some (CheckRefused id (pair high low))) a (AreSpelled a bytes)
    (λ h e. cc)
    (λ h e. told (CheckRefused id (pair high low)) a bytes (record {
      range = (size, other_of (pair high low) done h);
      frame = ap (λ t. framed (checked_code ∷ (id ++ t))) (sym (two_bytes_of high low (small 1)));
    }) e) e
checked_told id (high ∷ low ∷ count ∷ content) a size small e =
    let bytes : List ℕ = framed (checked_code ∷ (id ++ high ∷ low ∷ count ∷ content)) in
    by_if ((pair high low == done) && is_content count content) (Some (Content id (record { items = content }))) None a (AreSpelled a bytes)
    (λ h e.
    let status : pair high low ≡ done = equal_of (pair high low) done (left_of (pair high low == done) (is_content count content) h) in
    let are : AreBlocks count content = content_told count content (right_of (pair high low == done) (is_content count content) h) in
    let whole : high ∷ low ∷ count ∷ content ≡ two_bytes done ++ length content / block_size ∷ content =
    ap (λ t. t ++ count ∷ content) (sym (two_bytes_of high low (small 1)) ∙ ap two_bytes status)
    ∙ ap (λ n. two_bytes done ++ n ∷ content) are.number in
    told (Content id (record { items = content })) a bytes (record {
      range = (size, are.range);
      frame = ap (λ t. framed (checked_code ∷ (id ++ t))) whole;
    }) e)
    (λ h e. cc) e

updated_told : (id behind : List ℕ) (a : T3Answer) → length id ≡ id_size → AreBytes behind → read_updated id behind ≡ Some a → AreSpelled a (framed (updated_code ∷ (id ++ behind)))
updated_told id [] a size small e = cc
updated_told id (high ∷ []) a size small e = cc
updated_told id (high ∷ low ∷ []) a size small e =
    let bytes : List ℕ = framed (updated_code ∷ (id ++ high ∷ low ∷ [])) in
    let pairs : high ∷ low ∷ [] ≡ two_bytes (pair high low) = sym (two_bytes_of high low (small 1)) in
    by_if (pair high low == done) (Some (Done id)) (Some (UpdateRefused id (pair high low))) a (AreSpelled a bytes)
    (λ h e. told (Done id) a bytes (record {
      range = size;
      frame = ap (λ t. framed (updated_code ∷ (id ++ t))) (pairs ∙ ap two_bytes (equal_of (pair high low) done h));
    }) e)
    (λ h e. told (UpdateRefused id (pair high low)) a bytes (record {
      range = (size, other_of (pair high low) done h);
      frame = ap (λ t. framed (updated_code ∷ (id ++ t))) pairs;
    }) e) e
updated_told id (high ∷ low ∷ more ∷ rest) a size small e = cc

-- the same behind another name of the code
coded : (code n : ℕ) (rest : List ℕ) (a : T3Answer) → (code == n) ≡ true → AreSpelled a (framed (n ∷ rest)) → AreSpelled a (framed (code ∷ rest))
coded code n rest a h is =
    let P : ℕ → Type 0 = λ m. AreSpelled a (framed (m ∷ rest)) in
    subst P (sym (equal_of code n h)) is

reply_told : (bytes : List ℕ) (a : T3Answer) → AreBytes bytes → read_reply bytes ≡ Some a → AreSpelled a (framed bytes)
reply_told [] a small e = cc
reply_told (code ∷ rest) a small e =
    let behind : AreBytes rest = λ i. small (suc i) in
    let G : Type 0 = AreSpelled a (framed (code ∷ rest)) in
    let third : Option T3Answer = if code == updated_code then behind_id read_updated rest else None in
    by_if (code == polled_code) (behind_id read_polled rest) (if code == checked_code then behind_id read_checked rest else third) a G
    (λ h e. coded code polled_code rest a h (behind_told read_polled rest a (λ t. AreSpelled a (framed (polled_code ∷ t))) behind (λ id t size small f. polled_told id t a size f) e))
    (λ g. by_if (code == checked_code) (behind_id read_checked rest) third a G
    (λ h e. coded code checked_code rest a h (behind_told read_checked rest a (λ t. AreSpelled a (framed (checked_code ∷ t))) behind (λ id t size small f. checked_told id t a size small f) e))
    (λ k. by_if (code == updated_code) (behind_id read_updated rest) None a G
    (λ h e. coded code updated_code rest a h (behind_told read_updated rest a (λ t. AreSpelled a (framed (updated_code ∷ t))) behind (λ id t size small f. updated_told id t a size small f) e))
    (λ h e. cc))) e

bytes_told : (bytes : List ℕ) (a : T3Answer) → AreBytes bytes → answer_of bytes ≡ Some a → AreSpelled a bytes
bytes_told [] a small e = cc
bytes_told (size ∷ rest) a small e =
    by_if (size == suc (length rest)) (read_reply rest) None a (AreSpelled a (size ∷ rest))
    (λ h e.
    let P : ℕ → Type 0 = λ n. AreSpelled a (n ∷ rest) in
    subst P (sym (equal_of size (suc (length rest)) h)) (reply_told rest a (λ i. small (suc i)) e))
    (λ h e. cc) e

framed_reads : (bytes : List ℕ) → answer_of (framed bytes) ≡ read_reply bytes
framed_reads bytes = ap (λ v. if v then read_reply bytes else None) (same_number (suc (length bytes)))

content_reads : (content : List ℕ) → IsContent content → is_content (length content / block_size) content ≡ true
content_reads content is =
    let count : ℕ = length content / 16 in
    let whole : length content % 16 ≡ 0 = is.whole in
    let least : 16 ≤ length content = is.least in
    let most : length content ≤ 16 * 15 = is.most in
    let sized : length content ≡ 16 * (length content / 16) = omega (arith, whole) in
    both_of (is_element_count count) (length content == block_size * count)
    (count_in_range count (omega (arith, whole, least)) (omega (arith, whole, most)))
    (is_equal (length content) (block_size * count) sized)

-- an answer is read from its bytes
pub answer_reads : (a : T3Answer) → IsT3Answer a → answer_of (answer_bytes a) ≡ Some a
answer_reads (Polled id) is =
    framed_reads (polled_code ∷ (id ++ replicate pad_size 0)) ∙ behind_reads read_polled id (replicate pad_size 0) is
answer_reads (Content id content) is =
    let rest : List ℕ = two_bytes done ++ length content.items / block_size ∷ content.items in
    framed_reads (checked_code ∷ (id ++ rest))
    ∙ behind_reads read_checked id rest is.0
    ∙ ap (λ v. if v then Some (Content id (record { items = content.items })) else None) (content_reads content.items is.1)
answer_reads (Done id) is =
    framed_reads (updated_code ∷ (id ++ two_bytes done)) ∙ behind_reads read_updated id (two_bytes done) is
answer_reads (CheckRefused id status) is =
    framed_reads (checked_code ∷ (id ++ two_bytes status))
    ∙ behind_reads read_checked id (two_bytes status) is.0
    ∙ ap (λ n. if n == done then None else Some (CheckRefused id n)) (pair_of status)
    ∙ ap (λ v. if v then None else Some (CheckRefused id status)) (is_other status done is.1)
answer_reads (UpdateRefused id status) is =
    framed_reads (updated_code ∷ (id ++ two_bytes status))
    ∙ behind_reads read_updated id (two_bytes status) is.0
    ∙ ap (λ n. if n == done then Some (Done id) else Some (UpdateRefused id n)) (pair_of status)
    ∙ ap (λ v. if v then Some (Done id) else Some (UpdateRefused id status)) (is_other status done is.1)

-- what is read from a frame is exactly what it spells
frame_told : (f : Signal) (a : T3Answer) → AreBytes f.bytes → spelled_answer f ≡ Some a → T3AnswerSpelling a f
frame_told f a small =
    by_if (is_whole_f f) (answer_of f.bytes) None a (T3AnswerSpelling a f)
    (λ h e.
    let s : AreSpelled a f.bytes = bytes_told f.bytes a small e in
    record { range = s.range; frame = whole_frame f (answer_bytes a) h s.frame })
    (λ h e. cc)

pub exact_answer : (f : Signal) (o : Option T3Answer) → AreBytes f.bytes → o ≡ spelled_answer f → (a : T3Answer) → (o ≡ Some a) ↔ T3AnswerSpelling a f
exact_answer f o small is a = (
  (λ e. frame_told f a small (sym is ∙ e)),
  (λ s. is ∙ ap spelled_answer s.frame ∙ answer_reads a s.range),
)

-- no frame spells two
pub one_answer : (f : Signal) (x y : T3Answer) → T3AnswerSpelling x f → T3AnswerSpelling y f → x ≡ y
one_answer f x y p q =
    let a : spelled_answer f ≡ Some x = ap spelled_answer p.frame ∙ answer_reads x p.range in
    let b : spelled_answer f ≡ Some y = ap spelled_answer q.frame ∙ answer_reads y q.range in
    cc
