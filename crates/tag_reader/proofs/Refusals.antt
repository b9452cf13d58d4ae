-- What an answer is that refuses its command.
use Rattle.std.proofs.Common.{◌≡◌, ℕ, ◌+◌, ◌-◌, List, [], ◌∷◌, ◌++◌, length, slice_index, Bool, true, ◌==◌, ◌&&◌, if◌then◌else◌, Option, Some, None, nat_eq, nat_le, refl, sym, ◌∙◌, ap, arith}
use Rattle.std.proofs.lemmas.List.{length-append, get_or-append-add}
use Rattle.std.specs.Cmp.Lexicographic.{pointwise}
use Rattle.nfc_base.specs.declared.frame.Tech.{Tech}
use Rattle.nfc_base.specs.declared.frame.Tech.TheVariants.{A, V, F}
use Rattle.nfc_base.specs.Signal.{Signal, signal, whole_a}
use Rattle.t2t_tag.specs.Spelling as t2
use Rattle.t2t_tag.specs.declared.answer.T2Answer.TheVariants as t2_says
use Rattle.t4t_tag.specs.Step.{done}
use Rattle.t5t_tag.specs.Spelling as t5
use Rattle.t5t_tag.specs.Reading.{spelled_answer}
use Rattle.t5t_tag.specs.declared.answer.T5Answer.{T5Answer}
use Rattle.t5t_tag.specs.declared.answer.T5Answer.TheVariants.{Present, Content, Error}
use Rattle.t5t_tag.proofs.Bytes.{by_if, equal_bytes, equal_of, left_of, right_of}
use Rattle.t5t_tag.proofs.SpelledAnswers.{exact_answer}
use Rattle.tag_reader.specs.declared.how.How.TheVariants.{T2, T4, T5}
use Rattle.tag_reader.specs.Heard.{Refuses, refusal_of, t4_code, t5_code}

-- a Type 2 tag
pub refuses_t2 : (r : Signal) (code : ℕ) → Refuses T2 r code → (r ≡ t2.answer_frame t2_says.Refused) × (code ≡ 0)
refuses_t2 r code is = told r.tech r.bytes r.tail is
  where
    told : (tech : Tech) (bytes : List ℕ) (tail : ℕ) → Refuses T2 (signal tech bytes tail) code → (signal tech bytes tail ≡ signal A (t2.nak ∷ []) 4) × (code ≡ 0)
    told A bytes tail e =
        let same : Bool = pointwise nat_eq bytes (t2.nak ∷ []) in
        by_if (same && (tail == 4)) (Some 0) None code ((signal A bytes tail ≡ signal A (t2.nak ∷ []) 4) × (code ≡ 0))
        (λ h f. (
          ap (λ x. signal A x tail) (equal_bytes bytes (t2.nak ∷ []) (left_of same (tail == 4) h)) ∙ ap (λ n. signal A (t2.nak ∷ []) n) (equal_of tail 4 (right_of same (tail == 4) h)),
          (let zero_ : 0 ≡ code = cc in sym zero_),
        ))
        (λ h f. absurd cc) e
    told V bytes tail e = absurd cc
    told F bytes tail e = absurd cc

-- a Type 4 tag that obeyed
pub done_t4 : (r : Signal) (content : List ℕ) → r ≡ whole_a (content ++ done) → refusal_of T4 r ≡ None
done_t4 r content is =
    let bytes : List ℕ = content ++ done in
    let long : length bytes ≡ length content + 2 = length-append content done in
    let first : length bytes - 2 ≡ length content + 0 = omega (arith, long) in
    let second : length bytes - 1 ≡ length content + 1 = omega (arith, long) in
    let high : slice_index bytes (length bytes - 2) ≡ 0x90 = ap (slice_index bytes) first ∙ get_or-append-add content done 0 0 in
    let low : slice_index bytes (length bytes - 1) ≡ 0x00 = ap (slice_index bytes) second ∙ get_or-append-add content done 1 0 in
    let two : nat_le 2 (length bytes) ≡ true = grind (arith, long) in
    ap (refusal_of T4) is ∙ ap (λ v. if v then t4_code (slice_index bytes (length bytes - 2)) (slice_index bytes (length bytes - 1)) else None) two
    ∙ ap (λ h. t4_code h (slice_index bytes (length bytes - 1))) high ∙ ap (t4_code 0x90) low

-- a Type 5 tag
pub error_refuses : (id : List ℕ) (r : Signal) (code : ℕ) → r ≡ t5.answer_frame (Error code) → Refuses (T5 id) r code
error_refuses id r code is = ap (refusal_of (T5 id)) is

pub refuses_t5 : (id : List ℕ) (r : Signal) (code : ℕ) → Refuses (T5 id) r code → r ≡ t5.answer_frame (Error code)
refuses_t5 id r code is = ((exact_answer r (spelled_answer r) refl (Error code)).0 (told (spelled_answer r) is)).frame
  where
    told : (o : Option T5Answer) → t5_code o ≡ Some code → o ≡ Some (Error code)
    told None e = absurd cc
    told (Some (Present id')) e = absurd cc
    told (Some (Content content)) e = absurd cc
    told (Some (Error other)) e = (let same : other ≡ code = cc in ap (λ c. Some (Error c)) same)
