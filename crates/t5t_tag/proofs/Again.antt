-- A frame that is heard again leaves the store that its first hearing left.
use Rattle.std.proofs.Common.{◌≡◌, ℕ, ◌/◌, List, [], ◌∷◌, length, drop, Bool, true, false, not, nat_le, ◌==◌, ◌&&◌, if◌then◌else◌, Some, None, refl, sym, ◌∙◌, ap}
use Rattle.nfc_base.specs.Signal.{Signal}
use Rattle.t5t_tag.specs.declared.answer.T5Answer.TheVariants.{Present}
use Rattle.t5t_tag.specs.Store.{T5State, id_size, block_count, is_locked}
use Rattle.t5t_tag.specs.Mask.{asks_for}
use Rattle.t5t_tag.specs.Slots.{slot_of, asks_in_slots, begun}
use Rattle.t5t_tag.specs.Spelling.{addressed_flags, plain_flags, inventory_flags, slots_flags, inventory_code, quiet_code}
use Rattle.t5t_tag.specs.Step.{T5Turn, silent, tells, refuses, not_supported, no_block, block_locked, read_turn, read_many_turn, write_turn, Asked, Reads, ReadsMany, Writes, Unknown, asked}
use Rattle.t5t_tag.specs.Step.{asked_turn, obeyed, names, addressed, plain, inventory, out_of_round, in_slot, slots, bytes_turn, is_nfc_v, t5_after}
use Rattle.t5t_tag.proofs.Stores.{length_with_block, with_block_again}
use Rattle.t5t_tag.proofs.Turns.{writes, hushes, by_test, less_of, same_of, on_write, on_obeyed}
use Rattle.t5t_tag.proofs.Steps.{read_leaves, read_many_leaves}
use Rattle.t5t_tag.proofs.Hushed.{addressed_alike, plain_alike}

-- a step whose second time leaves the store of its first
abbrev pub IsOnce : (T5State → T5Turn) → T5State → Type 0
IsOnce step t = (step (step t).after).after.store ≡ (step t).after.store

-- a step that never changes the store
once_kept : (step : T5State → T5Turn) (t : T5State) → ((s : T5State) → (step s).after.store ≡ s.store) → IsOnce step t
once_kept step t kept = kept (step t).after

-- a choice between two steps by a test that the step doesn't change
once_by : (t : T5State) (test : T5State → Bool) (x y : T5State → T5Turn) → test (if test t then x t else y t).after ≡ test t
    → (test t ≡ true → IsOnce x t) → (test t ≡ false → IsOnce y t) → IsOnce (λ s. if test s then x s else y s) t
once_by t test x y same yes_case no_case = by_value (test t) refl
  where
    by_value : (v : Bool) → test t ≡ v → IsOnce (λ s. if test s then x s else y s) t
    by_value true h =
        let first : (if test t then x t else y t) ≡ x t = ap (λ v. if v then x t else y t) h in
        let again : test (x t).after ≡ true = ap (λ (r : T5Turn). test r.after) (sym first) ∙ same ∙ h in
        ap (λ (r : T5Turn). (if test r.after then x r.after else y r.after).after.store) first
        ∙ ap (λ v. (if v then x (x t).after else y (x t).after).after.store) again
        ∙ yes_case h
        ∙ sym (ap (λ (r : T5Turn). r.after.store) first)
    by_value false h =
        let first : (if test t then x t else y t) ≡ y t = ap (λ v. if v then x t else y t) h in
        let again : test (y t).after ≡ false = ap (λ (r : T5Turn). test r.after) (sym first) ∙ same ∙ h in
        ap (λ (r : T5Turn). (if test r.after then x r.after else y r.after).after.store) first
        ∙ ap (λ v. (if v then x (y t).after else y (y t).after).after.store) again
        ∙ no_case h
        ∙ sym (ap (λ (r : T5Turn). r.after.store) first)

-- the tests of a write behind that of the block's number: the length of the content, and the lock
abbrev lock_step : ℕ → List ℕ → T5State → T5Turn
lock_step block content t = if is_locked t block then refuses t block_locked else writes t block content

abbrev size_step : ℕ → List ℕ → T5State → T5Turn
size_step block content t = if not (length content == t.size) then refuses t not_supported else lock_step block content t

lock_same : (t : T5State) (block : ℕ) (content : List ℕ) → is_locked (lock_step block content t).after block ≡ is_locked t block
lock_same t block content =
    by_test (λ r. is_locked r.after block ≡ is_locked t block) (is_locked t block) (refuses t block_locked) (writes t block content) (λ h. refl) (λ h. refl)

size_same : (t : T5State) (block : ℕ) (content : List ℕ) → not (length content == (size_step block content t).after.size) ≡ not (length content == t.size)
size_same t block content =
    let P : T5Turn → Type 0 = λ r. not (length content == r.after.size) ≡ not (length content == t.size) in
    by_test P (not (length content == t.size)) (refuses t not_supported) (lock_step block content t)
    (λ h. refl)
    (λ h. by_test P (is_locked t block) (refuses t block_locked) (writes t block content) (λ k. refl) (λ k. refl))

write_once : (t : T5State) (block : ℕ) (content : List ℕ) → IsOnce (λ s. write_turn s block content) t
write_once t block content =
    once_by t (λ s. nat_le (block_count s) block) (λ s. refuses s no_block) (size_step block content)
    (on_write t (λ r. nat_le (block_count r.after) block ≡ nat_le (block_count t) block) (record {
      error = λ code. refl;
      read = λ b within. refl;
      many = λ f m within few. refl;
      written = λ b bytes within long. ap (λ n. nat_le (n / t.size) block) (length_with_block t.size t.store b bytes within long);
    }) block content)
    (λ h. refl)
    (λ h. once_by t (λ s. not (length content == s.size)) (λ s. refuses s not_supported) (lock_step block content)
    (size_same t block content)
    (λ k. refl)
    (λ k. once_by t (λ s. is_locked s block) (λ s. refuses s block_locked) (λ s. writes s block content)
    (lock_same t block content)
    (λ l. refl)
    (λ l. with_block_again t.size t.store block content (less_of (block_count t) block h) (same_of (length content) t.size k))))

-- a choice by a test that knows nothing of the tag
once_of : (t : T5State) (v : Bool) (x y : T5State → T5Turn) → IsOnce x t → IsOnce y t → IsOnce (λ s. if v then x s else y s) t
once_of t true x y p q = p
once_of t false x y p q = q

asked_once : (t : T5State) (what : Asked) → IsOnce (λ s. asked_turn s what) t
asked_once t (Reads block) = once_kept (λ s. read_turn s block) t (λ s. (read_leaves s block).store)
asked_once t (ReadsMany first more) = once_kept (λ s. read_many_turn s first more) t (λ s. (read_many_leaves s first more).store)
asked_once t (Writes block content) = write_once t block content
asked_once t Unknown = refl

obeyed_once : (t : T5State) (code : ℕ) (rest : List ℕ) → IsOnce (λ s. obeyed s code rest) t
obeyed_once t code rest = asked_once t (asked code rest)

-- a command changes neither the identifier nor whether the tag is quiet
obeyed_keeps : (t : T5State) (code : ℕ) (rest : List ℕ) → ((obeyed t code rest).after.id ≡ t.id) × ((obeyed t code rest).after.quiet ≡ t.quiet)
obeyed_keeps t code rest = on_obeyed t (λ r. (r.after.id ≡ t.id) × (r.after.quiet ≡ t.quiet)) (record {
  error = λ c. (refl, refl);
  read = λ b within. (refl, refl);
  many = λ f m within few. (refl, refl);
  written = λ b bytes within long. (refl, refl);
}) code rest

addressed_once : (t : T5State) (rest : List ℕ) → IsOnce (λ s. addressed s rest) t
addressed_once t [] = refl
addressed_once t (code ∷ rest) =
    let v : Bool = (code == quiet_code) && (length rest == id_size) in
    let heard : T5State → T5Turn = λ s. if v then hushes s else obeyed s code (drop id_size rest) in
    let P : T5Turn → Type 0 = λ r. not (names r.after rest) ≡ not (names t rest) in
    once_by t (λ s. not (names s rest)) silent heard
    (by_test P (not (names t rest)) (silent t) (heard t)
    (λ h. refl)
    (λ h. by_test P v (hushes t) (obeyed t code (drop id_size rest))
    (λ k. refl)
    (λ k. ap (λ id. not (names (record t { id = id }) rest)) (obeyed_keeps t code (drop id_size rest)).0)))
    (λ h. refl)
    (λ h. once_of t v hushes (λ s. obeyed s code (drop id_size rest)) refl (obeyed_once t code (drop id_size rest)))

plain_once : (t : T5State) (rest : List ℕ) → IsOnce (λ s. plain s rest) t
plain_once t [] =
    once_by t (λ s. s.quiet) silent (λ s. refuses s not_supported)
    (by_test (λ r. r.after.quiet ≡ t.quiet) t.quiet (silent t) (refuses t not_supported) (λ h. refl) (λ h. refl))
    (λ h. refl)
    (λ h. refl)
plain_once t (code ∷ rest) =
    once_by t (λ s. s.quiet) silent (λ s. obeyed s code rest)
    (by_test (λ r. r.after.quiet ≡ t.quiet) t.quiet (silent t) (obeyed t code rest) (λ h. refl) (λ h. (obeyed_keeps t code rest).1))
    (λ h. refl)
    (λ h. obeyed_once t code rest)

inventory_keeps : (t : T5State) (rest : List ℕ) → (inventory t rest).after.store ≡ t.store
inventory_keeps t [] = refl
inventory_keeps t (code ∷ []) = refl
inventory_keeps t (code ∷ bits ∷ mask) =
    by_test (λ r. r.after.store ≡ t.store) ((code == inventory_code) && not t.quiet && asks_for t.id bits mask) (tells t (Present t.id)) (silent t) (λ h. refl) (λ h. refl)

-- nor does an inventory of sixteen slots change the store
slots_keep : (t : T5State) (rest : List ℕ) → (slots t rest).after.store ≡ t.store
slots_keep t [] = refl
slots_keep t (code ∷ []) = refl
slots_keep t (code ∷ bits ∷ mask) =
    by_test (λ r. r.after.store ≡ t.store) ((code == inventory_code) && not t.quiet && asks_in_slots t.id bits mask) (in_slot t (Some (begun (slot_of t.id bits)))) (silent t)
    (λ h. refl)
    (λ h. refl)

-- A step that ends a round first, where it doesn't go by the round.
once_out : (step : T5State → T5Turn) (t : T5State) → ((s : T5State) → (step (out_of_round s)).after.store ≡ (step s).after.store) → IsOnce step (out_of_round t)
    → IsOnce (λ s. step (out_of_round s)) t
once_out step t alike once = alike (step (out_of_round t)).after ∙ once

bytes_once : (t : T5State) (bytes : List ℕ) → IsOnce (λ s. bytes_turn s bytes) t
bytes_once t [] = refl
bytes_once t (flags ∷ rest) =
    let fourth : T5State → T5Turn = λ s. if flags == slots_flags then slots (out_of_round s) rest else silent (out_of_round s) in
    let third : T5State → T5Turn = λ s. if flags == inventory_flags then inventory (out_of_round s) rest else fourth s in
    let other : T5State → T5Turn = λ s. if flags == plain_flags then plain (out_of_round s) rest else third s in
    once_of t (flags == addressed_flags) (λ s. addressed (out_of_round s) rest) other
    (once_out (λ s. addressed s rest) t (λ s. (addressed_alike s s.quiet None rest).store) (addressed_once (out_of_round t) rest))
    (once_of t (flags == plain_flags) (λ s. plain (out_of_round s) rest) third
    (once_out (λ s. plain s rest) t (λ s. (plain_alike s None rest).store) (plain_once (out_of_round t) rest))
    (once_of t (flags == inventory_flags) (λ s. inventory (out_of_round s) rest) fourth
    (once_kept (λ s. inventory (out_of_round s) rest) t (λ s. inventory_keeps (out_of_round s) rest))
    (once_of t (flags == slots_flags) (λ s. slots (out_of_round s) rest) (λ s. silent (out_of_round s))
    (once_kept (λ s. slots (out_of_round s) rest) t (λ s. slots_keep (out_of_round s) rest))
    refl)))

pub heard_again : (t : T5State) (f : Signal) → (t5_after (t5_after t f) f).store ≡ (t5_after t f).store
heard_again t f = once_of t (is_nfc_v f.tech && (f.tail == 0)) (λ s. bytes_turn s f.bytes) silent (bytes_once t f.bytes) refl
