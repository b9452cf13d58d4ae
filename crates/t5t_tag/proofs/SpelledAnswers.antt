-- What is read from a frame is exactly the answer that it spells.
use Rattle.std.proofs.Common.{◌≡◌, ℕ, ◌≤◌, ◌%◌, List, [], ◌∷◌, length, Bool, true, false, nat_le, ◌==◌, ◌&&◌, if◌then◌else◌, Option, Some, None, ◌↔◌, refl, sym, ◌∙◌, ap, subst, arith}
use Rattle.nfc_base.specs.declared.frame.Tech.{Tech}
use Rattle.nfc_base.specs.declared.frame.Tech.TheVariants.{A, V, F}
use Rattle.nfc_base.specs.Signal.{Signal, signal, whole_v}
use Rattle.t5t_tag.specs.declared.answer.T5Answer.{T5Answer}
use Rattle.t5t_tag.specs.declared.answer.T5Answer.TheVariants.{Present, Content, Error}
use Rattle.t5t_tag.specs.Mask.{low_first}
use Rattle.t5t_tag.specs.Spelling.{no_error, error, no_dsfid, most_content, IsT5Answer, answer_frame, T5AnswerSpelling}
use Rattle.t5t_tag.specs.Reading.{read_content, read_told, read_error, answer_of, spelled_answer}
use Rattle.t5t_tag.proofs.Bytes.{equal_of, at_most, is_at_most, left_of, right_of, by_if}

told : (v a : T5Answer) (f : Signal) → T5AnswerSpelling v f → Some v ≡ Some a → T5AnswerSpelling a f
told v a f is e =
    let P : T5Answer → Type 0 = λ x. T5AnswerSpelling x f in
    subst P (let d : v ≡ a = cc in d) is

content_told : (bytes : List ℕ) (a : T5Answer) → read_content bytes ≡ Some a → T5AnswerSpelling a (whole_v (no_error ∷ bytes))
content_told bytes a =
    let few : Bool = nat_le (length bytes) most_content in
    let fours : Bool = length bytes % 4 == 0 in
    by_if (few && fours) (Some (Content (record { items = bytes }))) None a (T5AnswerSpelling a (whole_v (no_error ∷ bytes)))
    (λ h e. told (Content (record { items = bytes })) a (whole_v (no_error ∷ bytes)) (record {
      range = (at_most (length bytes) most_content (left_of few fours h), equal_of (length bytes % 4) 0 (right_of few fours h));
      frame = refl;
    }) e)
    (λ h e. cc)

identifier_told : (dsfid a b c d e f g h : ℕ) (v : Bool) → (dsfid == no_dsfid) ≡ v → (x : T5Answer) → (if v then Some (Present (h ∷ g ∷ f ∷ e ∷ d ∷ c ∷ b ∷ a ∷ [])) else None) ≡ Some x
    → T5AnswerSpelling x (whole_v (no_error ∷ dsfid ∷ a ∷ b ∷ c ∷ d ∷ e ∷ f ∷ g ∷ h ∷ []))
identifier_told dsfid a b c d e f g h true is x eq =
    let id : List ℕ = h ∷ g ∷ f ∷ e ∷ d ∷ c ∷ b ∷ a ∷ [] in
    let rest : List ℕ = a ∷ b ∷ c ∷ d ∷ e ∷ f ∷ g ∷ h ∷ [] in
    let P : ℕ → Type 0 = λ n. T5AnswerSpelling x (whole_v (no_error ∷ n ∷ rest)) in
    subst P (sym (equal_of dsfid no_dsfid is)) (told (Present id) x (whole_v (no_error ∷ no_dsfid ∷ rest)) (record { range = refl; frame = refl }) eq)
identifier_told dsfid a b c d e f g h false is x eq = cc

told_told : (bytes : List ℕ) (x : T5Answer) → read_told bytes ≡ Some x → T5AnswerSpelling x (whole_v (no_error ∷ bytes))
told_told [] x eq = content_told [] x eq
told_told (s ∷ []) x eq = content_told (s ∷ []) x eq
told_told (s ∷ a ∷ []) x eq = content_told (s ∷ a ∷ []) x eq
told_told (s ∷ a ∷ b ∷ []) x eq = content_told (s ∷ a ∷ b ∷ []) x eq
told_told (s ∷ a ∷ b ∷ c ∷ []) x eq = content_told (s ∷ a ∷ b ∷ c ∷ []) x eq
told_told (s ∷ a ∷ b ∷ c ∷ d ∷ []) x eq = content_told (s ∷ a ∷ b ∷ c ∷ d ∷ []) x eq
told_told (s ∷ a ∷ b ∷ c ∷ d ∷ e ∷ []) x eq = content_told (s ∷ a ∷ b ∷ c ∷ d ∷ e ∷ []) x eq
told_told (s ∷ a ∷ b ∷ c ∷ d ∷ e ∷ f ∷ []) x eq = content_told (s ∷ a ∷ b ∷ c ∷ d ∷ e ∷ f ∷ []) x eq
told_told (s ∷ a ∷ b ∷ c ∷ d ∷ e ∷ f ∷ g ∷ []) x eq = content_told (s ∷ a ∷ b ∷ c ∷ d ∷ e ∷ f ∷ g ∷ []) x eq
told_told (s ∷ a ∷ b ∷ c ∷ d ∷ e ∷ f ∷ g ∷ h ∷ []) x eq = identifier_told s a b c d e f g h (s == no_dsfid) refl x eq
told_told (s ∷ a ∷ b ∷ c ∷ d ∷ e ∷ f ∷ g ∷ h ∷ i ∷ rest) x eq = content_told (s ∷ a ∷ b ∷ c ∷ d ∷ e ∷ f ∷ g ∷ h ∷ i ∷ rest) x eq

error_told : (rest : List ℕ) (x : T5Answer) → read_error rest ≡ Some x → T5AnswerSpelling x (whole_v (error ∷ rest))
error_told [] x eq = cc
error_told (code ∷ []) x eq = told (Error code) x (whole_v (error ∷ code ∷ [])) (record { range = tt; frame = refl }) eq
error_told (code ∷ b ∷ rest) x eq = cc

begun : (first n : ℕ) (rest : List ℕ) (x : T5Answer) → (first == n) ≡ true → T5AnswerSpelling x (whole_v (n ∷ rest)) → T5AnswerSpelling x (whole_v (first ∷ rest))
begun first n rest x h is =
    let P : ℕ → Type 0 = λ m. T5AnswerSpelling x (whole_v (m ∷ rest)) in
    subst P (sym (equal_of first n h)) is

bytes_told : (bytes : List ℕ) (x : T5Answer) → answer_of bytes ≡ Some x → T5AnswerSpelling x (whole_v bytes)
bytes_told [] x eq = cc
bytes_told (first ∷ rest) x eq =
    let G : Type 0 = T5AnswerSpelling x (whole_v (first ∷ rest)) in
    by_if (first == error) (read_error rest) (if first == no_error then read_told rest else None) x G
    (λ h e. begun first error rest x h (error_told rest x e))
    (λ k. by_if (first == no_error) (read_told rest) None x G
    (λ h e. begun first no_error rest x h (told_told rest x e))
    (λ h e. cc))
    eq

whole_told : (bytes : List ℕ) (tail : ℕ) (v : Bool) → (tail == 0) ≡ v → (x : T5Answer) → (if v then answer_of bytes else None) ≡ Some x → T5AnswerSpelling x (signal V bytes tail)
whole_told bytes tail true is x e =
    let P : ℕ → Type 0 = λ t. T5AnswerSpelling x (signal V bytes t) in
    subst P (sym (equal_of tail 0 is)) (bytes_told bytes x e)
whole_told bytes tail false is x e = cc

frame_told : (tech : Tech) (bytes : List ℕ) (tail : ℕ) (x : T5Answer) → spelled_answer (signal tech bytes tail) ≡ Some x → T5AnswerSpelling x (signal tech bytes tail)
frame_told A bytes tail x e = cc
frame_told F bytes tail x e = cc
frame_told V bytes tail x e = whole_told bytes tail (tail == 0) refl x e

identifier_reads : (id : List ℕ) → length id ≡ 8 → read_told (no_dsfid ∷ low_first id) ≡ Some (Present id)
identifier_reads [] h = absurd (omega (arith, h))
identifier_reads (a ∷ []) h = absurd (omega (arith, h))
identifier_reads (a ∷ b ∷ []) h = absurd (omega (arith, h))
identifier_reads (a ∷ b ∷ c ∷ []) h = absurd (omega (arith, h))
identifier_reads (a ∷ b ∷ c ∷ d ∷ []) h = absurd (omega (arith, h))
identifier_reads (a ∷ b ∷ c ∷ d ∷ e ∷ []) h = absurd (omega (arith, h))
identifier_reads (a ∷ b ∷ c ∷ d ∷ e ∷ f ∷ []) h = absurd (omega (arith, h))
identifier_reads (a ∷ b ∷ c ∷ d ∷ e ∷ f ∷ g ∷ []) h = absurd (omega (arith, h))
identifier_reads (a ∷ b ∷ c ∷ d ∷ e ∷ f ∷ g ∷ i ∷ []) h = refl
identifier_reads (a ∷ b ∷ c ∷ d ∷ e ∷ f ∷ g ∷ i ∷ j ∷ rest) h = absurd (omega (arith, h))

-- blocks aren't taken for an identifier: nine is no multiple of four
blocks_read : (bytes : List ℕ) → length bytes % 4 ≡ 0 → read_told bytes ≡ read_content bytes
blocks_read [] h = refl
blocks_read (s ∷ []) h = refl
blocks_read (s ∷ a ∷ []) h = refl
blocks_read (s ∷ a ∷ b ∷ []) h = refl
blocks_read (s ∷ a ∷ b ∷ c ∷ []) h = refl
blocks_read (s ∷ a ∷ b ∷ c ∷ d ∷ []) h = refl
blocks_read (s ∷ a ∷ b ∷ c ∷ d ∷ e ∷ []) h = refl
blocks_read (s ∷ a ∷ b ∷ c ∷ d ∷ e ∷ f ∷ []) h = refl
blocks_read (s ∷ a ∷ b ∷ c ∷ d ∷ e ∷ f ∷ g ∷ []) h = refl
blocks_read (s ∷ a ∷ b ∷ c ∷ d ∷ e ∷ f ∷ g ∷ i ∷ []) h = absurd (omega (arith, h))
blocks_read (s ∷ a ∷ b ∷ c ∷ d ∷ e ∷ f ∷ g ∷ i ∷ j ∷ rest) h = refl

content_reads : (bytes : List ℕ) → length bytes ≤ most_content → length bytes % 4 ≡ 0 → read_content bytes ≡ Some (Content (record { items = bytes }))
content_reads bytes few fours =
    let a : nat_le (length bytes) most_content ≡ true = is_at_most (length bytes) most_content few in
    let b : (length bytes % 4 == 0) ≡ true = ap (λ n. n == 0) fours in
    ap (λ v. if v && (length bytes % 4 == 0) then Some (Content (record { items = bytes })) else None) a
    ∙ ap (λ v. if true && v then Some (Content (record { items = bytes })) else None) b

-- an answer is read from its frame
pub answer_reads : (x : T5Answer) → IsT5Answer x → spelled_answer (answer_frame x) ≡ Some x
answer_reads (Present id) is = identifier_reads id is
answer_reads (Content content) is = blocks_read content.items is.1 ∙ content_reads content.items is.0 is.1
answer_reads (Error code) is = refl

-- what is read from a frame is exactly what it spells
pub exact_answer : (f : Signal) (o : Option T5Answer) → o ≡ spelled_answer f → (x : T5Answer) → (o ≡ Some x) ↔ T5AnswerSpelling x f
exact_answer f o is x = (
  (λ e. frame_told f.tech f.bytes f.tail x (sym is ∙ e)),
  (λ s. is ∙ ap spelled_answer s.frame ∙ answer_reads x s.range),
)
