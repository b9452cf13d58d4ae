-- What the steps of a tag give its reader, and what they leave.
use Rattle.std.proofs.Common.{◌≡◌, ℕ, suc, ◌*◌, ◌/◌, ◌<◌, ◌≤◌, List, [], ◌∷◌, ◌++◌, length, drop, take, Bool, ◌==◌, true, false, not, nat_eq, nat_le, if◌then◌else◌, Some, None, IfSome, refl, sym, ◌∙◌}
use Rattle.std.proofs.Common.{ap, subst, arith}
use Rattle.std.specs.Cmp.Lexicographic.{pointwise}
use Rattle.nfc_base.specs.Signal.{Signal, whole_f}
use Rattle.t3t_tag.specs.declared.answer.T3Answer.{T3Answer}
use Rattle.t3t_tag.specs.declared.answer.T3Answer.TheVariants.{Polled, Content, CheckRefused, Done, UpdateRefused}
use Rattle.t3t_tag.specs.declared.command.T3Command.TheVariants.{Check, Update}
use Rattle.t3t_tag.specs.Store.{T3State, IsT3State, IsSameTag, block_size, id_size, block_count, is_locked, rewritten}
use Rattle.t3t_tag.specs.Spelling.{poll_code, check_code, update_code, read_service, write_service, most_elements, framed, elements, asked_of, command_frame, IsT3Answer, IsContent, T3AnswerSpelling}
use Rattle.t3t_tag.specs.Spelling.{answer_frame}
use Rattle.t3t_tag.specs.Step.{T3Turn, silent, tells, no_block, block_locked, answers, blocks_answer, checked_answer, check_answer, written_turn, update_turn, names, request_turn, poll_turn}
use Rattle.t3t_tag.specs.Step.{IsForAnother, t3_turn, t3_answer, t3_after, content_of, sent}
use Rattle.t3t_tag.proofs.Bytes.{is_equal, is_other, same_number, equal_bytes, bytes_self, AreBytes, front_of, rest_of}
use Rattle.t3t_tag.proofs.Elements.{length_elements, asked_read}
use Rattle.t3t_tag.proofs.Stores.{length_with_block, with_block_again, length_content}
use Rattle.t3t_tag.proofs.Turns.{writes, IsUpdate, on_turn}

itself : (t : T3State) → IsSameTag t t
itself t = record { id = refl; size = refl; locked = refl }

-- no frame changes more of a tag than the content of a block
pub same_tag : (t : T3State) (f : Signal) → AreBytes f.bytes → IsSameTag t (t3_after t f)
same_tag t f small = on_turn t f (λ r. IsSameTag t r.after) small (record {
  none = itself t;
  polled = itself t;
  refused_check = λ status h. itself t;
  content = λ blocks least most there. itself t;
  refused_update = λ status h. itself t;
  written = λ block content is. record { id = refl; size = length_with_block t.store block content is.within is.size; locked = refl };
})

-- an answer is in range
pub told_in_range : (t : T3State) → IsT3State t → (f : Signal) → AreBytes f.bytes → IfSome (t3_answer t f) (λ g. (a : T3Answer) × T3AnswerSpelling a g)
told_in_range t is f small = on_turn t f (λ r. IfSome (sent r.answer) (λ g. (a : T3Answer) × T3AnswerSpelling a g)) small (record {
  none = tt;
  polled = spelled (Polled t.id) is.id;
  refused_check = λ status h. spelled (CheckRefused t.id status) (is.id, h);
  content = λ blocks least most there. spelled (Content t.id (record { items = content_of t.store blocks })) (is.id, content_range blocks least most (length_content t.store blocks there));
  refused_update = λ status h. spelled (UpdateRefused t.id status) (is.id, h);
  written = λ block content u. spelled (Done t.id) is.id;
})
  where
    spelled : (a : T3Answer) → IsT3Answer a → (b : T3Answer) × T3AnswerSpelling b (answer_frame a)
    spelled a range = (a, record { range = range; frame = refl })

    content_range : (blocks : List ℕ) → 1 ≤ length blocks → length blocks ≤ most_elements → length (content_of t.store blocks) ≡ 16 * length blocks → IsContent (content_of t.store blocks)
    content_range blocks least most long =
        let few : length blocks ≤ 15 = most in
        record { whole = omega (arith, long); least = omega (arith, long, least); most = omega (arith, long, few) }

-- a frame for this tag is heard by it
request_heard : (t : T3State) → length t.id ≡ id_size → (rest : List ℕ)
    → (names t (t.id ++ rest) ≡ true) × (drop id_size (t.id ++ rest) ≡ rest)
request_heard t size rest = (ap (λ x. pointwise nat_eq x t.id) (front_of t.id rest size) ∙ bytes_self t.id, rest_of t.id rest size)

framed_turn : (t : T3State) (request : List ℕ) → t3_turn t (whole_f (framed request)) ≡ request_turn t request
framed_turn t request = ap (λ v. if v then request_turn t request else silent t) (same_number (suc (length request)))

-- a Check of some blocks with the service that reads
pub check_turns : (t : T3State) → length t.id ≡ id_size → (blocks : List ℕ) → 1 ≤ length blocks → length blocks ≤ most_elements
    → t3_turn t (command_frame (Check t.id (record { items = blocks }))) ≡ tells t (blocks_answer t (Some blocks))
check_turns t size blocks least most =
    let rest : List ℕ = asked_of read_service (length blocks) ++ elements blocks in
    let heard : (names t (t.id ++ rest) ≡ true) × (drop id_size (t.id ++ rest) ≡ rest) = request_heard t size rest in
    framed_turn t (check_code ∷ (t.id ++ rest))
    ∙ ap (λ v. if not v then silent t else answers t (check_answer t (drop id_size (t.id ++ rest)))) heard.0
    ∙ ap (λ x. answers t (check_answer t x)) heard.1
    ∙ ap (λ v. answers t (if v then Some (checked_answer t read_service (length blocks) (elements blocks)) else None))
    (is_equal (length (elements blocks)) (2 * length blocks) (length_elements blocks))
    ∙ ap (λ named. tells t (blocks_answer t named)) (asked_read blocks least most)

-- an Update of one block with the service that writes
pub update_turns : (t : T3State) → length t.id ≡ id_size → (block : ℕ) (content : List ℕ) → length content ≡ block_size
    → t3_turn t (command_frame (Update t.id block content)) ≡ written_turn t write_service block content
update_turns t size block content long =
    let rest : List ℕ = asked_of write_service 1 ++ (elements (block ∷ []) ++ content) in
    let heard : (names t (t.id ++ rest) ≡ true) × (drop id_size (t.id ++ rest) ≡ rest) = request_heard t size rest in
    framed_turn t (update_code ∷ (t.id ++ rest))
    ∙ ap (λ v. if not v then silent t else update_turn t (drop id_size (t.id ++ rest))) heard.0
    ∙ ap (update_turn t) heard.1
    ∙ ap (λ v. if v then written_turn t write_service block content else silent t) (is_equal (length content) block_size long)

is_below : (m n : ℕ) → n < m → nat_le m n ≡ false
is_below m n h = grind arith

-- which changes a block that is there and isn't locked
pub update_writes : (t : T3State) → length t.id ≡ id_size → (f : Signal) (block : ℕ) (content : List ℕ) → IsUpdate t f block content → t3_turn t f ≡ writes t block content
update_writes t size f block content is =
    let third : T3Turn = if is_locked t block then tells t (UpdateRefused t.id block_locked) else writes t block content in
    ap (t3_turn t) is.frame
    ∙ update_turns t size block content is.size
    ∙ ap (λ v. if v then tells t (UpdateRefused t.id no_block) else third) (is_below (block_count t.store) block is.within)
    ∙ ap (λ v. if v then tells t (UpdateRefused t.id block_locked) else writes t block content) is.free

-- The same frame once more: the same answer, and nothing changes any more.
pub heard_again : (t : T3State) → length t.id ≡ id_size → (f : Signal) → AreBytes f.bytes → t3_turn (t3_after t f) f ≡ t3_turn t f
heard_again t size f small = on_turn t f (λ r. t3_turn r.after f ≡ t3_turn t f) small (record {
  none = refl;
  polled = refl;
  refused_check = λ status h. refl;
  content = λ blocks least most there. refl;
  refused_update = λ status h. refl;
  written = λ block content is.
      let new : T3State = rewritten t block content in
      let count : block_count new.store ≡ block_count t.store = ap (λ n. n / 16) (length_with_block t.store block content is.within is.size) in
      let again : IsUpdate new f block content = record { frame = is.frame; within = subst (λ n. block < n) (sym count) is.within; size = is.size; free = is.free } in
      update_writes new size f block content again
      ∙ ap (λ s. record { answer = Some (Done t.id); after = record t { store = s } }) (with_block_again t.store block content is.within is.size)
      ∙ sym (update_writes t size f block content is);
})

-- A frame for another tag is heard in silence.
pub silent_for_another : (t : T3State) (f : Signal) → IsForAnother t f → t3_turn t f ≡ silent t
silent_for_another t f is =
    let behind : List ℕ = is.id ++ is.rest in
    let third : T3Turn = if is.code == update_code then update_turn t (drop id_size behind) else silent t in
    let second : T3Turn = if is.code == check_code then answers t (check_answer t (drop id_size behind)) else third in
    ap (t3_turn t) is.frame
    ∙ framed_turn t (is.code ∷ behind)
    ∙ ap (λ v. if v then poll_turn t behind else if not (names t behind) then silent t else second) (is_other is.code poll_code is.command)
    ∙ ap (λ v. if not v then silent t else second) (unnamed (names t behind) refl)
  where
    unnamed : (v : Bool) → names t (is.id ++ is.rest) ≡ v → v ≡ false
    unnamed false h = refl
    unnamed true h = absurd (is.other (sym (front_of is.id is.rest is.size) ∙ equal_bytes (take id_size (is.id ++ is.rest)) t.id h))
