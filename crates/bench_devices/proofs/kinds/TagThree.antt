-- A Type 3 tag of the bench takes commands as they are sent.
use Rattle.std.proofs.Common.{◌≡◌, ℕ, suc, ◌/◌, ◌<◌, List, [], ◌∷◌, length, take, drop, Bool, true, false, not, nat_eq, nat_le, ◌==◌, ◌&&◌, ◌||◌, if◌then◌else◌, None, refl, sym, ◌∙◌, ap, arith}
use Rattle.std.specs.Cmp.Lexicographic.{pointwise}
use Rattle.nfc_base.specs.Signal.{Signal}
use Rattle.nfc_base.specs.TagLinks.{Type3, plain_state, MayAsk}
use Rattle.air_core.specs.PlainTags.{Takes, PassesOver, IsPlainTag}
use Rattle.t3t_tag.specs.declared.answer.T3Answer.TheVariants.{Polled, UpdateRefused}
use Rattle.t3t_tag.specs.Spelling.{poll_code, check_code, update_code, write_service, element_code, pair, is_whole_f}
use Rattle.t3t_tag.specs.Step.{T3Turn, silent, tells, not_taken, no_block, block_locked, ndef_poll, any_poll, poll_turn, answers, check_answer, written_turn, update_turn, names, request_turn}
use Rattle.t3t_tag.specs.Step.{bytes_turn, t3_turn, sent, t3_answer, t3_after}
use Rattle.t3t_tag.specs.Store.{T3State, block_size, id_size, block_count, is_locked, rewritten}
use Rattle.t3t_tag.proofs.Bytes.{equal_of}
use Rattle.t3t_tag.proofs.Stores.{length_with_block, with_block_again}
use Rattle.t3t_tag.proofs.Turns.{writes}
use Rattle.bench_devices.specs.Powered.{Powered}
use Rattle.bench_devices.specs.Lights.{addressed_turn, addressed_after, three_named, three_locks}
use Rattle.bench_devices.specs.declared.device.Device.{Device}
use Rattle.bench_devices.specs.declared.device.Device.TheVariants.{T2, T4, Peer, T5, T3}
use Rattle.bench_devices.specs.Device.{device_after, device_store, device_selected}
use Rattle.bench_devices.specs.Keeping.{ghosts}

-- The same frame once more does the same, and nothing changes any more.
abbrev IsAgain : (T3State → T3Turn) → T3State → Type 0
IsAgain step t = step (step t).after ≡ step t

again_kept : (step : T3State → T3Turn) (t : T3State) → (step t).after ≡ t → IsAgain step t
again_kept step t kept = ap step kept

again_if : (t : T3State) (v : Bool) (x y : T3State → T3Turn) → IsAgain x t → IsAgain y t → IsAgain (λ s. if v then x s else y s) t
again_if t true x y p q = p
again_if t false x y p q = q

less_of : (m n : ℕ) → nat_le m n ≡ false → n < m
less_of m n h = grind arith

-- an Update of a block that is there and isn't locked
written_twice : (t : T3State) (block : ℕ) (content : List ℕ) → length content ≡ block_size → nat_le (block_count t.store) block ≡ false → is_locked t block ≡ false
    → (if nat_le (block_count (rewritten t block content).store) block then tells (rewritten t block content) (UpdateRefused t.id no_block)
    else if is_locked t block then tells (rewritten t block content) (UpdateRefused t.id block_locked) else writes (rewritten t block content) block content) ≡ writes t block content
written_twice t block content size there free =
    let new : T3State = rewritten t block content in
    let within : block < block_count t.store = less_of (block_count t.store) block there in
    let count : block_count new.store ≡ block_count t.store = ap (λ n. n / 16) (length_with_block t.store block content within size) in
    ap (λ n. if nat_le n block then tells new (UpdateRefused t.id no_block) else if is_locked t block then tells new (UpdateRefused t.id block_locked) else writes new block content) count
    ∙ ap (λ v. if v then tells new (UpdateRefused t.id no_block) else if is_locked t block then tells new (UpdateRefused t.id block_locked) else writes new block content) there
    ∙ ap (λ v. if v then tells new (UpdateRefused t.id block_locked) else writes new block content) free
    ∙ ap (λ s. writes (record t { store = s }) block content) refl
    ∙ ap (λ s. record (writes t block content) { after = record t { store = s } }) (with_block_again t.store block content within size)

module _ (block : ℕ) (content : List ℕ) (size : length content ≡ block_size) where
  -- behind the test of its service
  abbrev there_turn : T3State → T3Turn
  there_turn s =
      if nat_le (block_count s.store) block then tells s (UpdateRefused s.id no_block)
      else if is_locked s block then tells s (UpdateRefused s.id block_locked)
      else writes s block content

  there_again : (t : T3State) (v w : Bool) → nat_le (block_count t.store) block ≡ v → is_locked t block ≡ w → IsAgain there_turn t
  there_again t true w e f =
      again_kept there_turn t (ap (λ v. (if v then tells t (UpdateRefused t.id no_block) else if is_locked t block then tells t (UpdateRefused t.id block_locked) else writes t block content).after) e)
  there_again t false true e f =
      again_kept there_turn t
      (ap (λ v. (if v then tells t (UpdateRefused t.id no_block) else if is_locked t block then tells t (UpdateRefused t.id block_locked) else writes t block content).after) e
      ∙ ap (λ v. (if v then tells t (UpdateRefused t.id block_locked) else writes t block content).after) f)
  there_again t false false e f =
      let here : there_turn t ≡ writes t block content =
      ap (λ v. if v then tells t (UpdateRefused t.id no_block) else if is_locked t block then tells t (UpdateRefused t.id block_locked) else writes t block content) e
      ∙ ap (λ v. if v then tells t (UpdateRefused t.id block_locked) else writes t block content) f in
      ap (λ (r : T3Turn). there_turn r.after) here ∙ written_twice t block content size e f ∙ sym here

  written_again : (t : T3State) (service : ℕ) → IsAgain (λ s. written_turn s service block content) t
  written_again t service =
      again_if t (not (service == write_service)) (λ s. tells s (UpdateRefused s.id not_taken)) there_turn refl (there_again t (nat_le (block_count t.store) block) (is_locked t block) refl refl)

update_again : (t : T3State) (behind : List ℕ) → IsAgain (λ s. update_turn s behind) t
update_again t [] = refl
update_again t (services ∷ []) = refl
update_again t (services ∷ high ∷ []) = refl
update_again t (services ∷ high ∷ low ∷ []) = refl
update_again t (services ∷ high ∷ low ∷ count ∷ []) = refl
update_again t (services ∷ high ∷ low ∷ count ∷ code ∷ []) = refl
update_again t (services ∷ high ∷ low ∷ count ∷ code ∷ block ∷ content) =
    let front : Bool = (services == 1) && (count == 1) && (code == element_code) in
    by_long front (length content == block_size) refl
  where
    turned : T3State → T3Turn
    turned s = written_turn s (pair high low) block content

    by_long : (front long : Bool) → (length content == block_size) ≡ long → IsAgain (λ s. if front && long then turned s else silent s) t
    by_long true true e = written_again block content (equal_of (length content) block_size e) t (pair high low)
    by_long true false e = refl
    by_long false true e = refl
    by_long false false e = refl

addressed_again : (t : T3State) (code : ℕ) (behind : List ℕ) → IsAgain (addressed_turn code behind) t
addressed_again t code behind =
    again_if t (code == check_code) (λ s. answers s (check_answer s behind)) (λ s. if code == update_code then update_turn s behind else silent s) refl
    (again_if t (code == update_code) (λ s. update_turn s behind) silent (update_again t behind) refl)

-- once it is known whether the identifier is this tag's
named_again : (t : T3State) (code : ℕ) (rest : List ℕ) (v : Bool) → names t rest ≡ v → IsAgain (λ s. if not (names s rest) then silent s else addressed_turn code (drop id_size rest) s) t
named_again t code rest false e =
    again_kept (λ s. if not (names s rest) then silent s else addressed_turn code (drop id_size rest) s) t
    (ap (λ v. (if not v then silent t else addressed_turn code (drop id_size rest) t).after) e)
named_again t code rest true e =
    let does : T3State → T3Turn = addressed_turn code (drop id_size rest) in
    let step : T3State → T3Turn = λ s. if not (names s rest) then silent s else does s in
    let here : step t ≡ does t = ap (λ v. if not v then silent t else does t) e in
    let same : (does t).after.id ≡ t.id =
    addressed_after t (λ r. r.after.id ≡ t.id) (record { silent_too = refl; told_too = λ a. refl; written = λ block content within long. refl }) code (drop id_size rest) in
    let named : names (does t).after rest ≡ true = ap (λ id. pointwise nat_eq (take id_size rest) id) same ∙ e in
    ap (λ (r : T3Turn). step r.after) here
    ∙ ap (λ v. if not v then silent (does t).after else does (does t).after) named
    ∙ addressed_again t code (drop id_size rest)
    ∙ sym here

request_again : (t : T3State) (request : List ℕ) → IsAgain (λ s. request_turn s request) t
request_again t [] = refl
request_again t (code ∷ rest) =
    again_if t (code == poll_code) (λ s. poll_turn s rest) (λ s. if not (names s rest) then silent s else addressed_turn code (drop id_size rest) s)
    (again_if t (pointwise nat_eq rest ndef_poll || pointwise nat_eq rest any_poll) (λ s. tells s (Polled s.id)) silent refl refl)
    (named_again t code rest (names t rest) refl)

bytes_again : (t : T3State) (bytes : List ℕ) → IsAgain (λ s. bytes_turn s bytes) t
bytes_again t [] = refl
bytes_again t (size ∷ rest) = again_if t (size == suc (length rest)) (λ s. request_turn s rest) silent (request_again t rest) refl

turn_again : (t : T3State) (f : Signal) → IsAgain (λ s. t3_turn s f) t
turn_again t f = again_if t (is_whole_f f) (λ s. bytes_turn s f.bytes) silent (bytes_again t f.bytes) refl

-- a tag that keeps its identifier and its locks is known by its store
abbrev three : List ℕ → List Bool → List ℕ → T3State
three id locked store = record { id = id; store = store; locked = locked }

by_store : (t : T3State) (f : Signal) → three t.id t.locked (t3_after t f).store ≡ t3_after t f
by_store t f =
    let new : T3State = t3_after t f in
    ap (λ id. three id t.locked new.store) (sym (three_named t f)) ∙ ap (λ l. three new.id l new.store) (sym (three_locks t f))

takes_three : (p : Powered T3State) (f : Signal) → p.lit ≡ true → Takes ghosts (T3 p) f
takes_three p f lit =
    let t : T3State = p.tag in
    let goes : device_after (T3 p) f None ≡ T3 (record { tag = t3_after t f; lit = true }) = ap (λ v. T3 (if v then record { tag = t3_after t f; lit = true } else p)) lit in
    record {
      quiet = refl;
      answer = ap (λ v. if v then t3_answer t f else None) lit;
      after = ap (λ m. plain_state (device_store m)) goes;
      again = ap (λ (r : T3Turn). record { answer = sent r.answer; after = plain_state r.after.store }) (ap (λ s. t3_turn s f) (by_store t f) ∙ turn_again t f);
      selected = λ g says. ap device_selected goes;
    }

passes_three : (p : Powered T3State) (f : Signal) → p.lit ≡ false → PassesOver ghosts (T3 p) f
passes_three p f dark =
    let goes : device_after (T3 p) f None ≡ T3 p = ap (λ v. T3 (if v then record { tag = t3_after p.tag f; lit = true } else p)) dark in
    record {
      quiet = refl;
      silent = ap (λ v. if v then t3_answer p.tag f else None) dark;
      store = ap device_store goes;
      rests = ap device_selected goes ∙ dark;
    }

-- a Type 3 tag, and no other device
abbrev is_three : Device → Bool
is_three (T2 d) = false
is_three (T4 d) = false
is_three (Peer d) = false
is_three (T5 p) = false
is_three (T3 p) = true

pub plain_three : (p : Powered T3State) → IsPlainTag ghosts Type3 p.tag.id (T3 p)
plain_three p = record { holds = is_three; now = refl; kept = kept; takes = takes; passes = passes }
  where
    kept : (m : Device) (f : Signal) → MayAsk Type3 p.tag.id f → is_three m ≡ true → is_three (device_after m f None) ≡ true
    kept (T2 d) f may h = absurd cc
    kept (T4 d) f may h = absurd cc
    kept (Peer d) f may h = absurd cc
    kept (T5 q) f may h = absurd cc
    kept (T3 q) f may h = refl

    takes : (m : Device) (f : Signal) → MayAsk Type3 p.tag.id f → is_three m ≡ true → device_selected m ≡ true → Takes ghosts m f
    takes (T2 d) f may h s = absurd cc
    takes (T4 d) f may h s = absurd cc
    takes (Peer d) f may h s = absurd cc
    takes (T5 q) f may h s = absurd cc
    takes (T3 q) f may h s = takes_three q f s

    passes : (m : Device) (f : Signal) → MayAsk Type3 p.tag.id f → is_three m ≡ true → device_selected m ≡ false → PassesOver ghosts m f
    passes (T2 d) f may h s = absurd cc
    passes (T4 d) f may h s = absurd cc
    passes (Peer d) f may h s = absurd cc
    passes (T5 q) f may h s = absurd cc
    passes (T3 q) f may h s = passes_three q f s
