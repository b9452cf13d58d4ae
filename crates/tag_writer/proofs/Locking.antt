-- A tag refuses the writes of a message that it takes exactly where one of them goes to a locked block.
use Rattle.std.proofs.Common.{◌≡◌, ℕ, ◌+◌, ◌*◌, ◌/◌, ◌<◌, ◌≤◌, ◌==◌, nat_le, nat_lt, ◌&&◌, ◌||◌, not, Bool, true, false, if◌then◌else◌, List, [], ◌∷◌, length, Option, Some, None, refl, sym, ◌∙◌, ap}
use Rattle.std.proofs.Common.{subst, arith}
use Rattle.std.specs.Prelude.{is_some, get_or, Ok, Err}
use Rattle.std.specs.List.{AllByRecursion}
use Rattle.std.proofs.Math.Nat.{mul-div_cancel_left}
use Rattle.std.proofs.lemmas.Nat.{le-div}
use Rattle.nfc_base.specs.Signal.{Signal}
use Rattle.nfc_base.specs.TagLinks.{TagState, TagStep, MayAsk, Type4}
use Rattle.t2t_tag.specs.Spelling.{answer_frame}
use Rattle.t2t_tag.specs.declared.command.T2Command.TheVariants.{Write}
use Rattle.t2t_tag.specs.declared.answer.T2Answer.TheVariants.{Done, Refused}
use Rattle.t2t_tag.specs.Step.{is_writable, reply_frame}
use Rattle.t2t_tag.specs.Store as t2
use Rattle.t2t_tag.proofs.Spellings.{reads_back}
use Rattle.t4t_tag.specs.Store.{IsT4Store}
use Rattle.t5t_tag.specs.Store.{IsT5Shape, T5State, block_count, is_locked}
use Rattle.t5t_tag.specs.Spelling as t5
use Rattle.t5t_tag.specs.declared.command.T5Command.TheVariants as t5_command
use Rattle.t5t_tag.specs.Step.{T5Turn, refuses, no_block, not_supported, block_locked, write_turn, sent}
use Rattle.t5t_tag.proofs.Steps.{write_turns, write_wide_turns}
use Rattle.t5t_tag.proofs.Stores.{size_of_block}
use Rattle.t5t_tag.proofs.Turns.{by_test, writes}
use Rattle.tlv_area.specs.declared.step.Step.{Step}
use Rattle.tag_reader.specs.declared.how.How.{How}
use Rattle.tag_reader.specs.declared.how.How.TheVariants.{T2, T4, T5}
use Rattle.tag_reader.specs.Files.{container_in, file_in, t4_link_step}
use Rattle.tag_reader.specs.Kinds.{IsStore, t2_memory, t2_step, t5_memory, t5_step}
use Rattle.tag_reader.specs.Survey.{surveyed}
use Rattle.tag_writer.specs.declared.fault.WriteFault.TheVariants as fault
use Rattle.tag_reader.specs.Heard.{refusal_of}
use Rattle.tag_writer.specs.Locks.{is_locked_put, has_locked, locked_code, refusal_if, StepsBy, IsFreeFor, IsLockedFor}
use Rattle.tag_writer.specs.Outcome.{IsOutcome}
use Rattle.tag_writer.specs.Phases.{IsNear}
use Rattle.tag_writer.specs.Place.{Place, Takes}
use Rattle.tag_writer.specs.Puts.{Put, put_into, block_put, block_command, update_put, commands_of}
use Rattle.tag_writer.specs.Puttings.{IsPutOf, IsUpdatePut, AnswersAs}
use Rattle.tag_writer.specs.WriteAsked.{Parts, ArePuts, all_puts, refusal_in, refused_by}
use Rattle.tag_writer.proofs.Doing.{Does, t2_does, t5_does, t5_may}
use Rattle.tag_writer.proofs.DoablePuts.{doable_puts}
use Rattle.tag_writer.proofs.FileDoing.{t4_does, t4_may}
use Rattle.tag_writer.proofs.OneWrite.{one_parts}
use Rattle.tag_writer.proofs.SomeParts.{IsBlocks, some_parts}
use Rattle.tag_writer.proofs.Tags.{IsLike, like_itself, like_put, near_by}

-- A Type 2 tag refuses the write of a whole block behind its first four where that block is locked.
t2_free : (locked : List Bool) (s : TagState) (block : ℕ) → 4 ≤ block → 4 * block + 4 ≤ length s.store → is_writable (t2_memory locked s) block ≡ not (get_or locked block false)
t2_free locked s block behind within =
    let low : nat_le 4 block ≡ true = grind (arith, behind) in
    let count : block < t2.block_count s.store = omega (arith, within) in
    let high : nat_lt block (t2.block_count s.store) ≡ true = grind (arith, count) in
    ap (λ v. v && nat_lt block (t2.block_count s.store) && not (get_or locked block false)) low ∙ ap (λ v. v && not (get_or locked block false)) high

t2_by : (w l : Bool) → w ≡ not l → refusal_in T2 (Some (answer_frame (if w then Done else Refused))) ≡ refusal_if T2 l
t2_by true true e = absurd cc
t2_by true false e = refl
t2_by false true e = refl
t2_by false false e = absurd cc

t2_told : (locked : List Bool) (s : TagState) (step : Step) → length step.content.items ≡ 4 → 4 ≤ step.block → 4 * step.block + 4 ≤ length s.store →
    refusal_in T2 (t2_step locked s (block_command T2 step)).answer ≡ refusal_if T2 (get_or locked step.block false)
t2_told locked s step long behind within =
    ap (λ o. refusal_in T2 (reply_frame (t2_memory locked s) o)) (reads_back (block_command T2 step) (Write step.block step.content.items) (long, refl))
    ∙ t2_by (is_writable (t2_memory locked s) step.block) (get_or locked step.block false) (t2_free locked s step.block behind within)

-- A Type 5 tag does so of a whole block that it has.
t5_by : (id : List ℕ) (t : T5State) (block : ℕ) (content : List ℕ) → block < block_count t → length content ≡ t.size
    → refusal_in (T5 id) (sent (write_turn t block content).answer) ≡ refusal_if (T5 id) (is_locked t block)
t5_by id t block content there long =
    let P : T5Turn → Type 0 = λ r. refusal_in (T5 id) (sent r.answer) ≡ refusal_if (T5 id) (is_locked t block) in
    let here : nat_le (block_count t) block ≡ false = grind (arith, there) in
    let equal : (length content == t.size) ≡ true = grind (arith, long) in
    let sized : not (length content == t.size) ≡ false = ap not equal in
    let free : T5Turn = if is_locked t block then refuses t block_locked else writes t block content in
    let whole : T5Turn = if not (length content == t.size) then refuses t not_supported else free in
    by_test P (nat_le (block_count t) block) (refuses t no_block) whole (λ h. absurd (let no_ : true ≡ false = sym h ∙ here in cc))
    (λ h. by_test P (not (length content == t.size)) (refuses t not_supported) free (λ k. absurd (let no_ : true ≡ false = sym k ∙ sized in cc))
    (λ k. by_test P (is_locked t block) (refuses t block_locked) (writes t block content) (λ l. sym (ap (refusal_if (T5 id)) l)) (λ l. sym (ap (refusal_if (T5 id)) l))))

below_count : (size block n : ℕ) → 0 < size → size * block + size ≤ n → block < n / size
below_count size block n some within =
    let turned : size * block ≡ block * size = omega arith in
    let product : (block + 1) * size ≡ block * size + size = omega arith in
    omega (arith, le-div (block + 1) n size some (omega (arith, turned, product, within)))

t5_told : (id : List ℕ) (size : ℕ) (locked : List Bool) (quiet : Bool) (s : TagState) (step : Step) → IsT5Shape (t5_memory id size locked quiet s) → length step.content.items ≡ size →
    size * step.block + size ≤ length s.store → refusal_in (T5 id) (t5_step id size locked quiet s (block_command (T5 id) step)).answer ≡ refusal_if (T5 id) (get_or locked step.block false)
t5_told id size locked quiet s step is long within =
    let t : T5State = t5_memory id size locked quiet s in
    let content : List ℕ = step.content.items in
    let short : Signal = t5.command_frame (t5_command.Write (Some id) step.block step.content) in
    let wide : Signal = t5.command_frame (t5_command.WriteWide (Some id) step.block step.content) in
    let same : refusal_in (T5 id) (sent (write_turn t step.block content).answer) ≡ refusal_if (T5 id) (get_or locked step.block false) = t5_by id t step.block content there long in
    by_number (nat_lt step.block 256) short wide
    (ap (λ r. refusal_in (T5 id) (sent r.answer)) (write_turns t is step.block content) ∙ same)
    (ap (λ r. refusal_in (T5 id) (sent r.answer)) (write_wide_turns t is step.block content) ∙ same)
  where
    there : step.block < block_count (t5_memory id size locked quiet s)
    there = let sized = size_of_block size is.store.sized in below_count size step.block (length s.store) (omega (arith, sized.2)) within

    by_number : (v : Bool) (a b : Signal) → refusal_in (T5 id) (t5_step id size locked quiet s a).answer ≡ refusal_if (T5 id) (get_or locked step.block false) →
        refusal_in (T5 id) (t5_step id size locked quiet s b).answer ≡ refusal_if (T5 id) (get_or locked step.block false) →
        refusal_in (T5 id) (t5_step id size locked quiet s (if v then a else b)).answer ≡ refusal_if (T5 id) (get_or locked step.block false)
    by_number true a b x y = x
    by_number false a b x y = y

-- What a tag does at one write.
pub record Told (how : How) (size : ℕ) (locked : List Bool) (step : TagState → Signal → TagStep) (s : TagState) (p : Put) : Type 0 where
  pub does : Does how s p (step s p.command)
  pub told : refusal_in how (step s p.command).answer ≡ refusal_if how (is_locked_put how size locked p)

t4_none : (o : Option Signal) → AnswersAs T4 o → refusal_in T4 o ≡ None
t4_none None a = absurd a
t4_none (Some f) a = ap (refusal_of T4) a

one_told : (how : How) (size : ℕ) (locked : List Bool) (base : List ℕ) (step : TagState → Signal → TagStep) (s : TagState) (p : Put) → StepsBy how size locked step → IsNear how s →
    IsLike how size base s.store → IsPutOf how size base p → Told how size locked step s p
one_told T2 size locked base step s p steps near like is =
    let c : Signal = block_command T2 is.step in
    let same : step s c ≡ t2_step locked s c = steps s c like.store'.1 refl in
    let block : 4 * is.step.block / 4 ≡ is.step.block = mul-div_cancel_left is.step.block (omega arith) in
    subst (λ q. Told T2 size locked step s q) (sym is.put) (record {
      does = subst (λ t. Does T2 s (block_put T2 size is.step) t) (sym same) (t2_does locked size s is.step is.content);
      told = ap (λ t. refusal_in T2 t.answer) same ∙ t2_told locked s is.step is.content is.behind (omega (arith, is.within, like.long))
          ∙ ap (λ k. refusal_if T2 (get_or locked k false)) (sym block);
    })
one_told T4 size locked base step s p steps near like is =
    let code : ℕ = steps.0 in
    let q : Put = update_put base is.offset p.bytes in
    let may : MayAsk Type4 [] q.command = t4_may base [] p is.offset (omega (arith, is.most)) in
    let same : step s q.command ≡ t4_link_step code s q.command = steps.2 s q.command like.store' may in
    let has = like.store'.1 in
    let store : IsT4Store code (container_in s.store) (file_in s.store) = record { coded = steps.1; least = has.least; most = has.most; other = has.other; size = has.size; whole = has.whole } in
    let does : Does T4 s q (step s q.command) = subst (λ t. Does T4 s q t) (sym same) (t4_does code base s is.offset p.bytes store like.files near.1 (subst (IsUpdatePut base) is.put is) is.within) in
    subst (λ x. Told T4 size locked step s x) (sym is.put) (record { does = does; told = t4_none (step s q.command).answer does.answers })
one_told (T5 id) size locked base step s p steps near like is =
    let c : Signal = block_command (T5 id) is.step in
    let quiet : Bool = steps.1 in
    let same : step s c ≡ t5_step id size locked quiet s c = steps.2 s c like.store' (t5_may id is.step) in
    let state : IsT5Shape (t5_memory id size locked quiet s) = record { id = steps.0.1; bytes = steps.0.2; store = like.store' } in
    let sized = size_of_block size like.store'.sized in
    let block : size * is.step.block / size ≡ is.step.block = mul-div_cancel_left is.step.block (omega (arith, sized.2)) in
    subst (λ q. Told (T5 id) size locked step s q) (sym is.put) (record {
      does = subst (λ t. Does (T5 id) s (block_put (T5 id) size is.step) t) (sym same) (t5_does id size locked quiet s is.step state is.content);
      told = ap (λ t. refusal_in (T5 id) t.answer) same ∙ t5_told id size locked quiet s is.step state is.content (omega (arith, is.within, like.long))
          ∙ ap (λ k. refusal_if (T5 id) (get_or locked k false)) (sym block);
    })

-- the code of a locked block
code_of : (how : How) (size : ℕ) (locked : List Bool) (p : Put) → is_locked_put how size locked p ≡ true → (code : ℕ) × (locked_code how ≡ Some code)
code_of T2 size locked p e = (0, refl)
code_of T4 size locked p e = absurd cc
code_of (T5 id) size locked p e = (block_locked, refl)

-- So of writes one after another.
pub all_told : (how : How) (size : ℕ) (locked : List Bool) (base : List ℕ) (step : TagState → Signal → TagStep) (s : TagState) (ps : List Put) → StepsBy how size locked step → IsNear how s →
    IsLike how size base s.store → AllByRecursion (IsPutOf how size base) ps → refused_by how step s (commands_of ps) ≡ refusal_if how (has_locked how size locked ps)
all_told how size locked base step s [] steps near like all = refl
all_told how size locked base step s (p ∷ ps) steps near like all =
    by_lock (is_locked_put how size locked p) refl
    (all_told how size locked base step (record s { store = put_into s.store p }) ps steps (near_by how s (put_into s.store p) near) (like_put how size base s.store p all.0 like) all.1)
  where
    this : Told how size locked step s p
    this = one_told how size locked base step s p steps near like all.0

    rest : Option ℕ
    rest = refused_by how step (step s p.command).after (commands_of ps)

    by_lock : (l : Bool) → is_locked_put how size locked p ≡ l → refused_by how step (record s { store = put_into s.store p }) (commands_of ps) ≡ refusal_if how (has_locked how size locked ps) →
        (if is_some (refusal_in how (step s p.command).answer) then refusal_in how (step s p.command).answer else rest)
        ≡ refusal_if how (is_locked_put how size locked p || has_locked how size locked ps)
    by_lock true e later =
        let code = code_of how size locked p e in
        ap (λ o. if is_some o then o else rest) (this.told ∙ ap (refusal_if how) e ∙ code.1) ∙ sym code.1 ∙ sym (ap (λ l. refusal_if how (l || has_locked how size locked ps)) e)
    by_lock false e later =
        let none : refusal_in how (step s p.command).answer ≡ None = this.told ∙ ap (refusal_if how) e in
        let after : (step s p.command).after ≡ record s { store = put_into s.store p } = this.does.done none in
        ap (λ o. if is_some o then o else rest) none ∙ ap (λ t. refused_by how step t (commands_of ps)) after ∙ later
        ∙ sym (ap (λ l. refusal_if how (l || has_locked how size locked ps)) e)

-- The tag is near its file behind the survey.
near_surveyed : (how : How) (s : TagState) → IsNear how (surveyed how s)
near_surveyed T2 s = tt
near_surveyed T4 s = (refl, refl)
near_surveyed (T5 id) s = tt

like_surveyed : (how : How) (size : ℕ) (s : TagState) → IsStore how size s.store → IsLike how size s.store (surveyed how s).store
like_surveyed T2 size s is = like_itself T2 size s.store is
like_surveyed T4 size s is = like_itself T4 size s.store is
like_surveyed (T5 id) size s is = like_itself (T5 id) size s.store is

pub unlocked_is_done : (how : How) (size : ℕ) (locked : List Bool) (step : TagState → Signal → TagStep) (s : TagState) (message : List ℕ) (place : Place) (parts : Parts) → StepsBy how size locked step
    →
    IsStore how size s.store → Takes how size s.store message place → ArePuts how size s.store message parts →
    refused_by how step (surveyed how s) (commands_of (all_puts parts)) ≡ refusal_if how (has_locked how size locked (all_puts parts))
unlocked_is_done how size locked step s message place parts steps is takes are =
    all_told how size locked s.store step (surveyed how s) (all_puts parts) steps (near_surveyed how s) (like_surveyed how size s is) (doable_puts how size s.store message place parts is takes are)

blocks_of : (how : How) (size : ℕ) (store : List ℕ) → IsStore how size store → IsBlocks how size store
blocks_of T2 size store is = is.1
blocks_of T4 size store is = tt
blocks_of (T5 id) size store is = tt

-- A message that is taken is written where none of its blocks is locked.
pub free_is_done : (how : How) (size : ℕ) (locked : List Bool) (step : TagState → Signal → TagStep) (s : TagState) (message : List ℕ) → StepsBy how size locked step → IsStore how size s.store →
    IsFreeFor how size locked s.store message → IsOutcome how size step s message (Ok tt)
free_is_done how size locked step s message steps is free =
    let some = some_parts how size s.store message (blocks_of how size s.store is) free.place free.takes in
    record {
      place = free.place;
      takes = free.takes;
      parts = some.0;
      are = some.1;
      refused = unlocked_is_done how size locked step s message free.place some.0 steps is free.takes some.1 ∙ ap (refusal_if how) (free.free some.0 some.1);
    }

-- And a refusal tells of a locked one.
pub refused_is_locked : (how : How) (size : ℕ) (locked : List Bool) (step : TagState → Signal → TagStep) (s : TagState) (message : List ℕ) (code : ℕ) → StepsBy how size locked step
    → IsStore how size s.store →
    IsOutcome how size step s message (Err (fault.Refused code)) → IsLockedFor how size locked s.store message code
refused_is_locked how size locked step s message code steps is w =
    by_lock (has_locked how size locked (all_puts w.parts)) refl
    (sym (unlocked_is_done how size locked step s message w.place w.parts steps is w.takes w.are) ∙ w.refused)
  where
    by_lock : (l : Bool) → has_locked how size locked (all_puts w.parts) ≡ l → refusal_if how (has_locked how size locked (all_puts w.parts)) ≡ Some code
        → IsLockedFor how size locked s.store message code
    by_lock true e told = record {
      code' = sym (ap (refusal_if how) e) ∙ told;
      held = λ parts are. ap (λ p. has_locked how size locked (all_puts p)) (one_parts how size s.store message parts w.parts are w.are) ∙ e;
    }
    by_lock false e told = absurd (let no : None ≡ Some code = sym (ap (refusal_if how) e) ∙ told in cc)
