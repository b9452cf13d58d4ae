-- The Type 3 and the Type 5 tag are tags that light selects, and keep what such a tag keeps.
use Rattle.std.proofs.Common.{◌≡◌, ℕ, suc, ◌+◌, ◌<◌, List, [], ◌∷◌, ◌++◌, length, take, drop, Bool, true, false, not}
use Rattle.std.proofs.Common.{nat_eq, nat_le, ◌==◌, ◌&&◌, ◌||◌, if◌then◌else◌, Option, Some, None, refl, sym, ◌∙◌, ap}
use Rattle.std.proofs.Common.{arith}
use Rattle.std.specs.Cmp.Lexicographic.{pointwise}
use Rattle.std.proofs.lemmas.List.{length-append}
use Rattle.nfc_base.specs.declared.frame.Tech.TheVariants.{V, F}
use Rattle.nfc_base.specs.Signal.{Signal}
use Rattle.nfc_base.specs.TagLinks.{IsAddressedIn, addressed_f}
use Rattle.t3t_tag.specs.declared.answer.T3Answer.{T3Answer}
use Rattle.t3t_tag.specs.declared.answer.T3Answer.TheVariants.{Polled, UpdateRefused}
use Rattle.t3t_tag.specs.Linked.{t3_step}
use Rattle.t3t_tag.specs.Spelling.{poll_code, check_code, update_code, write_service, element_code, pair, answer_frame}
use Rattle.t3t_tag.specs.Spelling.{is_whole_f}
use Rattle.t3t_tag.specs.Step.{T3Turn, silent, tells, not_taken, no_block, block_locked, ndef_poll, any_poll, poll_turn}
use Rattle.t3t_tag.specs.Step.{answers, check_answer, written_turn, update_turn, names, request_turn, bytes_turn}
use Rattle.t3t_tag.specs.Step.{t3_turn, sent, t3_answer, t3_after}
use Rattle.t3t_tag.specs.Store.{T3State, block_size, id_size, block_count, is_locked}
use Rattle.t3t_tag.proofs.Bytes.{equal_of, right_of, equal_bytes, front_of}
use Rattle.t3t_tag.proofs.Turns.{writes, by_test}
use Rattle.t5t_tag.specs.Step as five
use Rattle.t5t_tag.specs.Step.{T5Turn, t5_answer, t5_after}
use Rattle.t5t_tag.specs.Store.{T5State}
use Rattle.t5t_tag.proofs.Steps as five_steps
use Rattle.tag_reader.specs.Kinds.{t5_step}
use Rattle.bench_devices.specs.Powered.{light_three, light_five, IsLightMachine}

-- What holds of a tag as it is, and of it with a block changed that is there and isn't locked, holds behind every
-- frame.
pub record OnAfter (t : T3State) (P : T3Turn → Type 0) : Type 0 where
  pub silent_too : P (silent t)
  pub told_too : (a : T3Answer) → P (tells t a)
  pub written : (block : ℕ) (content : List ℕ) → block < block_count t.store → length content ≡ block_size
      → P (writes t block content)

-- the turn at what stands behind its identifier
abbrev pub addressed_turn : ℕ → List ℕ → T3State → T3Turn
addressed_turn code behind t =
    if code == check_code then answers t (check_answer t behind)
    else if code == update_code then update_turn t behind
    else silent t

answered_after : (t : T3State) (P : T3Turn → Type 0) → OnAfter t P → (o : Option T3Answer) → P (answers t o)
answered_after t P on None = on.silent_too
answered_after t P on (Some a) = on.told_too a

less_of : (m n : ℕ) → nat_le m n ≡ false → n < m
less_of m n h = grind arith

written_after : (t : T3State) (P : T3Turn → Type 0) → OnAfter t P → (service block : ℕ) (content : List ℕ)
    → length content ≡ block_size → P (written_turn t service block content)
written_after t P on service block content size =
    let third : T3Turn = if is_locked t block then tells t (UpdateRefused t.id block_locked)
    else writes t block content in
    let second : T3Turn = if nat_le (block_count t.store) block then tells t (UpdateRefused t.id no_block) else third in
    by_test P (not (service == write_service)) (tells t (UpdateRefused t.id not_taken)) second
    (λ h. on.told_too (UpdateRefused t.id not_taken))
    (λ h. by_test P (nat_le (block_count t.store) block) (tells t (UpdateRefused t.id no_block)) third
    (λ k. on.told_too (UpdateRefused t.id no_block))
    (λ k. by_test P (is_locked t block) (tells t (UpdateRefused t.id block_locked)) (writes t block content)
    (λ l. on.told_too (UpdateRefused t.id block_locked))
    (λ l. on.written block content (less_of (block_count t.store) block k) size)))

update_after : (t : T3State) (P : T3Turn → Type 0) → OnAfter t P → (behind : List ℕ) → P (update_turn t behind)
update_after t P on [] = on.silent_too
update_after t P on (services ∷ []) = on.silent_too
update_after t P on (services ∷ high ∷ []) = on.silent_too
update_after t P on (services ∷ high ∷ low ∷ []) = on.silent_too
update_after t P on (services ∷ high ∷ low ∷ count ∷ []) = on.silent_too
update_after t P on (services ∷ high ∷ low ∷ count ∷ code ∷ []) = on.silent_too
update_after t P on (services ∷ high ∷ low ∷ count ∷ code ∷ block ∷ content) =
    let front : Bool = (services == 1) && (count == 1) && (code == element_code) in
    let long : Bool = length content == block_size in
    by_test P (front && long) (written_turn t (pair high low) block content) (silent t)
    (λ h. written_after t P on (pair high low) block content
    (equal_of (length content) block_size (right_of front long h)))
    (λ h. on.silent_too)

pub addressed_after : (t : T3State) (P : T3Turn → Type 0) → OnAfter t P → (code : ℕ) (behind : List ℕ)
    → P (addressed_turn code behind t)
addressed_after t P on code behind =
    by_test P (code == check_code) (answers t (check_answer t behind))
    (if code == update_code then update_turn t behind else silent t)
    (λ l. answered_after t P on (check_answer t behind))
    (λ l. by_test P (code == update_code) (update_turn t behind) (silent t) (λ m. update_after t P on behind)
    (λ m. on.silent_too))

request_after : (t : T3State) (P : T3Turn → Type 0) → OnAfter t P → (request : List ℕ) → P (request_turn t request)
request_after t P on [] = on.silent_too
request_after t P on (code ∷ rest) =
    let second : T3Turn = addressed_turn code (drop id_size rest) t in
    let first : T3Turn = if not (names t rest) then silent t else second in
    by_test P (code == poll_code) (poll_turn t rest) first
    (λ h. by_test P (pointwise nat_eq rest ndef_poll || pointwise nat_eq rest any_poll) (tells t (Polled t.id))
    (silent t) (λ k. on.told_too (Polled t.id)) (λ k. on.silent_too))
    (λ h. by_test P (not (names t rest)) (silent t) second (λ k. on.silent_too)
    (λ k. addressed_after t P on code (drop id_size rest)))

bytes_after : (t : T3State) (P : T3Turn → Type 0) → OnAfter t P → (bytes : List ℕ) → P (bytes_turn t bytes)
bytes_after t P on [] = on.silent_too
bytes_after t P on (size ∷ rest) =
    by_test P (size == suc (length rest)) (request_turn t rest) (silent t) (λ h. request_after t P on rest)
    (λ h. on.silent_too)

pub three_after : (t : T3State) (f : Signal) (P : T3Turn → Type 0) → OnAfter t P → P (t3_turn t f)
three_after t f P on = by_test P (is_whole_f f) (bytes_turn t f.bytes) (silent t) (λ h. bytes_after t P on f.bytes)
    (λ h. on.silent_too)

-- So no frame changes its name, nor which blocks are locked.
pub three_named : (t : T3State) (f : Signal) → (t3_after t f).id ≡ t.id
three_named t f = three_after t f (λ r. r.after.id ≡ t.id)
    (record { silent_too = refl; told_too = λ a. refl; written = λ block content within long. refl })

pub three_locks : (t : T3State) (f : Signal) → (t3_after t f).locked ≡ t.locked
three_locks t f = three_after t f (λ r. r.after.locked ≡ t.locked)
    (record { silent_too = refl; told_too = λ a. refl; written = λ block content within long. refl })

-- It answers in its technology.
three_sent : (o : Option T3Answer) (g : Signal) → sent o ≡ Some g → g.tech ≡ F
three_sent None g e = absurd cc
three_sent (Some a) g e = ap (λ (s : Signal). s.tech) (let d : g ≡ answer_frame a = cc in d)

three_tech : (t : T3State) (f g : Signal) → t3_answer t f ≡ Some g → g.tech ≡ F
three_tech t f g e = three_sent (t3_turn t f).answer g e

-- What is addressed to another identifier it passes over. A poll is none of its own: it has fewer bytes.
long_bytes : (other rest poll : List ℕ) → length other ≡ id_size → length poll ≡ 4
    → pointwise nat_eq (other ++ rest) poll ≡ true → ⊥
long_bytes other rest poll eight four h =
    let long : length (other ++ rest) ≡ length other + length rest = length-append other rest in
    let same : length (other ++ rest) ≡ length poll = ap length (equal_bytes (other ++ rest) poll h) in
    absurd (omega (arith, long, same, eight, four))

either_true : (a b : Bool) (G : Type 0) → (a || b) ≡ true → (a ≡ true → G) → (b ≡ true → G) → G
either_true true b G h l r = l refl
either_true false b G h l r = r h

pub three_silent : (t : T3State) (other : List ℕ) (size code : ℕ) (rest : List ℕ) → length other ≡ id_size
    → (other ≡ t.id → ⊥) → t3_turn t (addressed_f other size code rest) ≡ silent t
three_silent t other size code rest eight not_own =
    let behind : List ℕ = other ++ rest in
    let P : T3Turn → Type 0 = λ r. r ≡ silent t in
    let second : T3Turn = addressed_turn code (drop id_size behind) t in
    let first : T3Turn = if not (names t behind) then silent t else second in
    by_test P (size == suc (suc (length behind))) (request_turn t (code ∷ behind)) (silent t)
    (λ h. by_test P (code == poll_code) (poll_turn t behind) first
    (λ k. by_test P (pointwise nat_eq behind ndef_poll || pointwise nat_eq behind any_poll) (tells t (Polled t.id))
    (silent t)
    (λ l. absurd (either_true (pointwise nat_eq behind ndef_poll) (pointwise nat_eq behind any_poll) ⊥ l
    (long_bytes other rest ndef_poll eight refl) (long_bytes other rest any_poll eight refl)))
    (λ l. refl))
    (λ k. by_test P (not (names t behind)) (silent t) second (λ l. refl)
    (λ l. absurd (not_own (own (names t behind) refl l)))))
    (λ h. refl)
  where
    own : (v : Bool) → names t (other ++ rest) ≡ v → not v ≡ false → other ≡ t.id
    own true h l = sym (front_of other rest eight) ∙ equal_bytes (take id_size (other ++ rest)) t.id h
    own false h l = absurd cc

three_ignores : (t : T3State) (other : List ℕ) (f : Signal) → IsAddressedIn F other f → (other ≡ t.id → ⊥)
    → t3_answer t f ≡ None
three_ignores t other f to not_own =
    ap (t3_answer t) to.1.frame ∙ ap (λ (r : T3Turn). sent r.answer)
    (three_silent t other to.1.size to.1.code to.1.rest to.0 not_own)

pub is_light_three : IsLightMachine light_three
is_light_three = record {
  other_tech = λ e. absurd cc;
  own_tech = three_tech;
  named = three_named;
  commanded = λ t f. ap (λ id. t3_step id (t3_after t f).locked) (three_named t f)
      ∙ ap (t3_step t.id) (three_locks t f);
  dark_named = λ t. refl;
  dark_commanded = λ t. refl;
  dark_store = λ t. refl;
  ignores = three_ignores;
}

five_ignores : (t : T5State) (other : List ℕ) (f : Signal) → IsAddressedIn V other f → (other ≡ t.id → ⊥)
    → t5_answer t f ≡ None
five_ignores t other f to not_own =
    ap (t5_answer t) to.1.frame ∙ ap (λ (r : T5Turn). five.sent r.answer)
    (five_steps.other_silent t other to.0 not_own to.1.code to.1.rest)

five_commanded : (t : T5State) (f : Signal) → t5_step (t5_after t f).id (t5_after t f).size (t5_after t f).locked false
    ≡ t5_step t.id t.size t.locked false
five_commanded t f =
    let new : T5State = t5_after t f in
    let same = five_steps.same_tag t f in
    ap (λ id. t5_step id new.size new.locked false) same.id ∙ ap (λ n. t5_step t.id n new.locked false) same.size
    ∙ ap (λ l. t5_step t.id t.size l false) same.locked

pub is_light_five : IsLightMachine light_five
is_light_five = record {
  other_tech = λ e. absurd cc;
  own_tech = five_steps.answer_tech;
  named = λ t f. (five_steps.same_tag t f).id;
  commanded = five_commanded;
  dark_named = λ t. refl;
  dark_commanded = λ t. refl;
  dark_store = λ t. refl;
  ignores = five_ignores;
}
