-- What holds of each kind of turn holds of the turn of every frame.
use Rattle.std.proofs.Common.{◌≡◌, ◌≢◌, ℕ, suc, ◌*◌, ◌<◌, ◌≤◌, List, [], ◌∷◌, ◌++◌, length, take, drop, Bool, true, false, not, nat_eq, nat_le, ◌==◌, ◌&&◌, ◌||◌, if◌then◌else◌, Option, Some, None}
use Rattle.std.proofs.Common.{refl, sym, ◌∙◌, ap, arith}
use Rattle.std.specs.Cmp.Lexicographic.{pointwise}
use Rattle.std.proofs.lemmas.List.{take-append-drop}
use Rattle.nfc_base.specs.Signal.{Signal, whole_f}
use Rattle.t3t_tag.specs.declared.answer.T3Answer.{T3Answer}
use Rattle.t3t_tag.specs.declared.answer.T3Answer.TheVariants.{Polled, Content, Done, CheckRefused, UpdateRefused}
use Rattle.t3t_tag.specs.declared.command.T3Command.TheVariants.{Update}
use Rattle.t3t_tag.specs.Store.{T3State, block_size, id_size, block_count, is_locked, rewritten}
use Rattle.t3t_tag.specs.Spelling.{poll_code, check_code, update_code, write_service, element_code, most_elements, pair, framed, command_frame, is_whole_f, done}
use Rattle.t3t_tag.specs.Reading.{blocks_asked}
use Rattle.t3t_tag.specs.Step.{T3Turn, silent, tells, not_taken, no_block, block_locked, ndef_poll, any_poll, poll_turn, are_there, content_of, is_check_service, answers, blocks_answer}
use Rattle.t3t_tag.specs.Step.{checked_answer, check_answer, written_turn, update_turn, names, request_turn, bytes_turn, t3_turn}
use Rattle.t3t_tag.proofs.Bytes.{equal_of, left_of, right_of, equal_bytes, whole_frame, AreBytes, bytes_behind}
use Rattle.t3t_tag.proofs.Elements.{AreAsked, asked_told}
use Rattle.t3t_tag.proofs.SpelledCommands.{update_whole}

-- a turn in which a block was written
abbrev pub writes : T3State → ℕ → List ℕ → T3Turn
writes t block content = record { answer = Some (Done t.id); after = rewritten t block content }

-- this frame is an Update of a block that may be written
pub record IsUpdate (t : T3State) (f : Signal) (block : ℕ) (content : List ℕ) : Type 0 where
  pub frame : f ≡ command_frame (Update t.id block content)
  pub within : block < block_count t.store
  pub size : length content ≡ block_size
  pub free : is_locked t block ≡ false

-- a fact holds of each kind of turn at this frame
pub record OnTurns (t : T3State) (f : Signal) (P : T3Turn → Type 0) : Type 0 where
  pub none : P (silent t)
  pub polled : P (tells t (Polled t.id))
  pub refused_check : (status : ℕ) → status ≢ done → P (tells t (CheckRefused t.id status))
  pub content : (blocks : List ℕ) → 1 ≤ length blocks → length blocks ≤ most_elements → are_there (block_count t.store) blocks ≡ true
      → P (tells t (Content t.id (record { items = content_of t.store blocks })))
  pub refused_update : (status : ℕ) → status ≢ done → P (tells t (UpdateRefused t.id status))
  pub written : (block : ℕ) (content : List ℕ) → IsUpdate t f block content → P (writes t block content)

pub by_test : (P : T3Turn → Type 0) (v : Bool) (x y : T3Turn) → (v ≡ true → P x) → (v ≡ false → P y) → P (if v then x else y)
by_test P true x y yes_case no_case = yes_case refl
by_test P false x y yes_case no_case = no_case refl

not_done : not_taken ≢ done
not_done e = omega (arith, e)

no_block_not_done : no_block ≢ done
no_block_not_done e = omega (arith, e)

locked_not_done : block_locked ≢ done
locked_not_done e = omega (arith, e)

true_of : (v : Bool) → not v ≡ false → v ≡ true
true_of true h = refl
true_of false h = absurd cc

less_of : (m n : ℕ) → nat_le m n ≡ false → n < m
less_of m n h = grind arith

-- the same for what is answered without a change
by_answer : (t : T3State) (P : T3Turn → Type 0) (v : Bool) (x y : T3Answer) → (v ≡ true → P (tells t x)) → (v ≡ false → P (tells t y)) → P (tells t (if v then x else y))
by_answer t P true x y yes_case no_case = yes_case refl
by_answer t P false x y yes_case no_case = no_case refl

on_blocks : (t : T3State) (f : Signal) (P : T3Turn → Type 0) → OnTurns t f P → (named : Option (List ℕ))
    → ((blocks : List ℕ) → named ≡ Some blocks → (1 ≤ length blocks) × (length blocks ≤ most_elements)) → P (tells t (blocks_answer t named))
on_blocks t f P on None range = on.refused_check not_taken not_done
on_blocks t f P on (Some blocks) range =
    let few : (1 ≤ length blocks) × (length blocks ≤ most_elements) = range blocks refl in
    by_answer t P (not (are_there (block_count t.store) blocks)) (CheckRefused t.id no_block) (Content t.id (record { items = content_of t.store blocks }))
    (λ h. on.refused_check no_block no_block_not_done)
    (λ h. on.content blocks few.0 few.1 (true_of (are_there (block_count t.store) blocks) h))

in_range : (count : ℕ) (rest : List ℕ) (known : Bool) (blocks : List ℕ) → (if known then blocks_asked count rest else None) ≡ Some blocks → (1 ≤ length blocks) × (length blocks ≤ most_elements)
in_range count rest true blocks e = let are : AreAsked count rest blocks = asked_told count rest blocks e in (are.least, are.most)
in_range count rest false blocks e = cc

by_heard : (t : T3State) (P : T3Turn → Type 0) (v : Bool) (x : T3Answer) → P (tells t x) → P (silent t) → P (answers t (if v then Some x else None))
by_heard t P true x heard unheard = heard
by_heard t P false x heard unheard = unheard

on_check : (t : T3State) (f : Signal) (P : T3Turn → Type 0) → OnTurns t f P → (behind : List ℕ) → P (answers t (check_answer t behind))
on_check t f P on [] = on.none
on_check t f P on (services ∷ []) = on.none
on_check t f P on (services ∷ high ∷ []) = on.none
on_check t f P on (services ∷ high ∷ low ∷ []) = on.none
on_check t f P on (services ∷ high ∷ low ∷ count ∷ rest) =
    let known : Bool = is_check_service (pair high low) in
    by_heard t P ((services == 1) && (length rest == 2 * count)) (checked_answer t (pair high low) count rest)
    (on_blocks t f P on (if known then blocks_asked count rest else None) (in_range count rest known))
    on.none

on_written : (t : T3State) (f : Signal) (P : T3Turn → Type 0) → OnTurns t f P → (service block : ℕ) (content : List ℕ) → length content ≡ block_size
    → (service ≡ write_service → f ≡ command_frame (Update t.id block content)) → P (written_turn t service block content)
on_written t f P on service block content size frame =
    let third : T3Turn = if is_locked t block then tells t (UpdateRefused t.id block_locked) else writes t block content in
    let second : T3Turn = if nat_le (block_count t.store) block then tells t (UpdateRefused t.id no_block) else third in
    by_test P (not (service == write_service)) (tells t (UpdateRefused t.id not_taken)) second
    (λ h. on.refused_update not_taken not_done)
    (λ h. by_test P (nat_le (block_count t.store) block) (tells t (UpdateRefused t.id no_block)) third
    (λ k. on.refused_update no_block no_block_not_done)
    (λ k. by_test P (is_locked t block) (tells t (UpdateRefused t.id block_locked)) (writes t block content)
    (λ l. on.refused_update block_locked locked_not_done)
    (λ l. on.written block content (record {
      frame = frame (equal_of service write_service (true_of (service == write_service) h));
      within = less_of (block_count t.store) block k;
      size = size;
      free = l;
    }))))

on_update : (t : T3State) (f : Signal) (P : T3Turn → Type 0) → OnTurns t f P → (behind : List ℕ) → AreBytes behind → f ≡ whole_f (framed (update_code ∷ (t.id ++ behind))) → P (update_turn t behind)
on_update t f P on [] small frame = on.none
on_update t f P on (services ∷ []) small frame = on.none
on_update t f P on (services ∷ high ∷ []) small frame = on.none
on_update t f P on (services ∷ high ∷ low ∷ []) small frame = on.none
on_update t f P on (services ∷ high ∷ low ∷ count ∷ []) small frame = on.none
on_update t f P on (services ∷ high ∷ low ∷ count ∷ code ∷ []) small frame = on.none
on_update t f P on (services ∷ high ∷ low ∷ count ∷ code ∷ block ∷ content) small frame =
    let one : Bool = services == 1 in
    let single : Bool = count == 1 in
    let element : Bool = code == element_code in
    let long : Bool = length content == block_size in
    by_test P (one && single && element && long) (written_turn t (pair high low) block content) (silent t)
    (λ h.
    let abc : (one && single && element) ≡ true = left_of (one && single && element) long h in
    let ab : (one && single) ≡ true = left_of (one && single) element abc in
    on_written t f P on (pair high low) block content (equal_of (length content) block_size (right_of (one && single && element) long h))
    (λ service. frame ∙ ap (λ x. whole_f (framed (update_code ∷ (t.id ++ x))))
    (update_whole services high low count code block content (equal_of services 1 (left_of one single ab)) service (small 2) (equal_of count 1 (right_of one single ab))
    (equal_of code element_code (right_of (one && single) element abc)))))
    (λ h. on.none)

-- what stands behind this tag's identifier
named_whole : (t : T3State) (rest : List ℕ) → names t rest ≡ true → rest ≡ t.id ++ drop id_size rest
named_whole t rest h = sym (take-append-drop id_size rest) ∙ ap (λ x. x ++ drop id_size rest) (equal_bytes (take id_size rest) t.id h)

on_request : (t : T3State) (f : Signal) (P : T3Turn → Type 0) → OnTurns t f P → (request : List ℕ) → AreBytes request → f ≡ whole_f (framed request) → P (request_turn t request)
on_request t f P on [] small frame = on.none
on_request t f P on (code ∷ rest) small frame =
    let behind : AreBytes (drop id_size rest) = bytes_behind id_size rest (λ i. small (suc i)) in
    let third : T3Turn = if code == update_code then update_turn t (drop id_size rest) else silent t in
    let second : T3Turn = if code == check_code then answers t (check_answer t (drop id_size rest)) else third in
    let first : T3Turn = if not (names t rest) then silent t else second in
    by_test P (code == poll_code) (poll_turn t rest) first
    (λ h. by_test P (pointwise nat_eq rest ndef_poll || pointwise nat_eq rest any_poll) (tells t (Polled t.id)) (silent t) (λ k. on.polled) (λ k. on.none))
    (λ h. by_test P (not (names t rest)) (silent t) second
    (λ k. on.none)
    (λ k. by_test P (code == check_code) (answers t (check_answer t (drop id_size rest))) third
    (λ l. on_check t f P on (drop id_size rest))
    (λ l. by_test P (code == update_code) (update_turn t (drop id_size rest)) (silent t)
    (λ m. on_update t f P on (drop id_size rest) behind
    (frame
    ∙ ap (λ n. whole_f (framed (n ∷ rest))) (equal_of code update_code m)
    ∙ ap (λ x. whole_f (framed (update_code ∷ x))) (named_whole t rest (true_of (names t rest) k))))
    (λ m. on.none))))

on_bytes : (t : T3State) (f : Signal) (P : T3Turn → Type 0) → OnTurns t f P → (bytes : List ℕ) → AreBytes bytes → f ≡ whole_f bytes → P (bytes_turn t bytes)
on_bytes t f P on [] small frame = on.none
on_bytes t f P on (size ∷ rest) small frame =
    by_test P (size == suc (length rest)) (request_turn t rest) (silent t)
    (λ h. on_request t f P on rest (λ i. small (suc i)) (frame ∙ ap (λ n. whole_f (n ∷ rest)) (equal_of size (suc (length rest)) h)))
    (λ h. on.none)

pub on_turn : (t : T3State) (f : Signal) (P : T3Turn → Type 0) → AreBytes f.bytes → OnTurns t f P → P (t3_turn t f)
on_turn t f P small on =
    by_test P (is_whole_f f) (bytes_turn t f.bytes) (silent t)
    (λ h. on_bytes t f P on f.bytes small (whole_frame f f.bytes h refl))
    (λ h. on.none)
