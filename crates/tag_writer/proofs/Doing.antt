-- What a tag of blocks does at a write: it puts the bytes into its store, or refuses and changes nothing.
use Rattle.std.proofs.Common.{◌≡◌, ℕ, ◌+◌, ◌*◌, ◌/◌, ◌%◌, inl, inr, Bool, true, false, not, nat_le, nat_lt, ◌==◌, if◌then◌else◌, List, ◌∷◌, ◌++◌, length, take, drop, Some, None, refl, sym, ap, subst}
use Rattle.std.proofs.lemmas.Bool.{cases_Bool}
use Rattle.nfc_base.specs.Signal.{Signal}
use Rattle.nfc_base.specs.Blocks.{with_block}
use Rattle.nfc_base.specs.TagLinks.{TagState, TagStep, MayAsk, Type2, Type5}
use Rattle.t2t_tag.specs.Spelling.{answer_frame}
use Rattle.t2t_tag.specs.declared.command.T2Command.TheVariants.{Write}
use Rattle.t2t_tag.specs.declared.answer.T2Answer.TheVariants.{Done, Refused}
use Rattle.t2t_tag.specs.Step.{is_writable, reply_frame, held_after}
use Rattle.t2t_tag.proofs.Spellings.{reads_back}
use Rattle.t5t_tag.specs.Store.{IsT5Shape, T5State, block_count, is_locked}
use Rattle.t5t_tag.specs.Spelling as t5
use Rattle.t5t_tag.specs.declared.command.T5Command.TheVariants as t5_command
use Rattle.t5t_tag.specs.Step as t5_step
use Rattle.t5t_tag.specs.Step.{T5Turn, refuses, no_block, not_supported, block_locked, write_turn, sent}
use Rattle.t5t_tag.proofs.Steps.{write_turns, write_wide_turns}
use Rattle.t5t_tag.proofs.Turns.{by_test, writes}
use Rattle.tlv_area.specs.declared.step.Step.{Step}
use Rattle.tag_reader.specs.declared.how.How.{How}
use Rattle.tag_reader.specs.declared.how.How.TheVariants.{T2, T5}
use Rattle.tag_reader.specs.Kinds.{t2_memory, t2_step, t5_memory, t5_step}
use Rattle.tag_writer.specs.Puts.{Put, put_into, block_put, block_command}
use Rattle.tag_writer.specs.WriteAsked.{refusal_in}
use Rattle.tag_writer.specs.Puttings.{AnswersAs}

pub record Does (how : How) (s : TagState) (p : Put) (t : TagStep) : Type 0 where
  pub answers : AnswersAs how t.answer
  pub done : refusal_in how t.answer ≡ None → t.after ≡ record s { store = put_into s.store p }
  pub refused : (code : ℕ) → refusal_in how t.answer ≡ Some code → t.after ≡ s

-- a block that is put
block_in : (size : ℕ) (s : TagState) (block : ℕ) (content : List ℕ) (c : Signal) → length content ≡ size →
    ◌≡◌ {A = TagState} (record s { store = with_block size s.store block content }) (record s { store = put_into s.store (record { at = size * block; bytes = content; command = c }) })
block_in size s block content c long = ap (λ n. record s { store = take (size * block) s.store ++ content ++ drop (size * block + n) s.store }) (sym long)

t2_told : (locked : List Bool) (s : TagState) (block : ℕ) (content : List ℕ) (c : Signal) → length content ≡ 4 → (w : Bool) →
    Does T2 s (record { at = 4 * block; bytes = content; command = c }) (record {
      answer = Some (answer_frame (if w then Done else Refused));
      after = record s { store = (if w then record (t2_memory locked s) { store = with_block 4 s.store block content } else t2_memory locked s).store };
    })
t2_told locked s block content c long true = record { answers = inl refl; done = λ e. block_in 4 s block content c long; refused = λ code e. absurd cc }
t2_told locked s block content c long false = record { answers = inr (0, refl); done = λ e. absurd cc; refused = λ code e. refl }

pub t2_does : (locked : List Bool) (size : ℕ) (s : TagState) (step : Step) → length step.content.items ≡ 4 →
    Does T2 s (block_put T2 size step) (t2_step locked s (block_command T2 step))
t2_does locked size s step long =
    let content : List ℕ = step.content.items in
    let c : Signal = block_command T2 step in
    subst (λ o. Does T2 s (block_put T2 size step) (record { answer = reply_frame (t2_memory locked s) o; after = record s { store = (held_after (t2_memory locked s) o).store } }))
    (sym (reads_back c (Write step.block content) (long, refl)))
    (t2_told locked s step.block content c long (is_writable (t2_memory locked s) step.block))

-- a Type 5 tag
t5_told : (id : List ℕ) (size : ℕ) (locked : List Bool) (quiet : Bool) (s : TagState) (block : ℕ) (content : List ℕ) (c : Signal) → length content ≡ size →
    Does (T5 id) s (record { at = size * block; bytes = content; command = c }) (record {
      answer = sent (write_turn (t5_memory id size locked quiet s) block content).answer;
      after = record s { store = (write_turn (t5_memory id size locked quiet s) block content).after.store };
    })
t5_told id size locked quiet s block content c long =
    let t : T5State = t5_memory id size locked quiet s in
    let p : Put = record { at = size * block; bytes = content; command = c } in
    let P : T5Turn → Type 0 = λ r. Does (T5 id) s p (record { answer = sent r.answer; after = record s { store = r.after.store } }) in
    let error : (code : ℕ) → P (refuses t code) = λ code. record { answers = inr (code, refl); done = λ e. absurd cc; refused = λ other e. refl } in
    let free : T5Turn = if is_locked t block then refuses t block_locked else writes t block content in
    let sized : T5Turn = if not (length content == t.size) then refuses t not_supported else free in
    by_test P (nat_le (block_count t) block) (refuses t no_block) sized (λ h. error no_block)
    (λ h. by_test P (not (length content == t.size)) (refuses t not_supported) free (λ k. error not_supported)
    (λ k. by_test P (is_locked t block) (refuses t block_locked) (writes t block content) (λ l. error block_locked)
    (λ l. record { answers = inl refl; done = λ e. block_in size s block content c long; refused = λ code e. absurd cc })))

t5_by : (id : List ℕ) (size : ℕ) (locked : List Bool) (quiet : Bool) (s : TagState) (block : ℕ) (content : List ℕ) (c : Signal) → length content ≡ size →
    t5_step.t5_turn (t5_memory id size locked quiet s) c ≡ write_turn (t5_memory id size locked quiet s) block content →
    Does (T5 id) s (record { at = size * block; bytes = content; command = c }) (t5_step id size locked quiet s c)
t5_by id size locked quiet s block content c long turns =
    subst (λ r. Does (T5 id) s (record { at = size * block; bytes = content; command = c }) (record { answer = sent r.answer; after = record s { store = r.after.store } }))
    (sym turns) (t5_told id size locked quiet s block content c long)

pub t5_does : (id : List ℕ) (size : ℕ) (locked : List Bool) (quiet : Bool) (s : TagState) (step : Step) → IsT5Shape (t5_memory id size locked quiet s) → length step.content.items ≡ size →
    Does (T5 id) s (block_put (T5 id) size step) (t5_step id size locked quiet s (block_command (T5 id) step))
t5_does id size locked quiet s step is long =
    let t : T5State = t5_memory id size locked quiet s in
    let short : Signal = t5.command_frame (t5_command.Write (Some id) step.block step.content) in
    let wide : Signal = t5.command_frame (t5_command.WriteWide (Some id) step.block step.content) in
    let P : Signal → Type 0 = λ c. Does (T5 id) s (record { at = size * step.block; bytes = step.content.items; command = c }) (t5_step id size locked quiet s c) in
    by_number P (nat_lt step.block 256) short wide
    (t5_by id size locked quiet s step.block step.content.items short long (write_turns t is step.block step.content.items))
    (t5_by id size locked quiet s step.block step.content.items wide long (write_wide_turns t is step.block step.content.items))
  where
    by_number : (P : Signal → Type 0) (v : Bool) (a b : Signal) → P a → P b → P (if v then a else b)
    by_number P true a b x y = x
    by_number P false a b x y = y

-- what the tag may be asked
pub t5_may : (id : List ℕ) (step : Step) → MayAsk Type5 id (block_command (T5 id) step)
t5_may id step = elim (cases_Bool (nat_lt step.block 256)) [
  | inl short ↦ rw short (record { code = 0x21; rest = step.block ∷ step.content.items; frame = refl })
  | inr wide ↦ rw wide (record { code = 0x31; rest = step.block % 256 ∷ step.block / 256 ∷ step.content.items; frame = refl })
]

pub t2_may : (id : List ℕ) (step : Step) → MayAsk Type2 id (block_command T2 step)
t2_may id step = refl
