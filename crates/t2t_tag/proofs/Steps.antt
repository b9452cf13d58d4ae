-- What the steps of a tag give its reader.
use Rattle.std.proofs.Common.{◌≡◌, ℕ, ◌<◌, ◌≤◌, nat_le, nat_lt, ◌&&◌, not, if◌then◌else◌, List, length, Bool, true, false, Option, None, Some, refl, ◌∙◌, ap}
use Rattle.std.proofs.lemmas.Bool.{and_parts, leb-true, ltb-true}
use Rattle.nfc_base.specs.Signal.{Signal}
use Rattle.nfc_base.specs.Blocks.{with_block}
use Rattle.t2t_tag.specs.declared.command.T2Command.{T2Command}
use Rattle.t2t_tag.specs.declared.command.T2Command.TheVariants.{Read, Write}
use Rattle.t2t_tag.specs.declared.answer.T2Answer.TheVariants.{Done, Refused}
use Rattle.t2t_tag.specs.Spelling.{spelled_command, answer_frame}
use Rattle.t2t_tag.specs.Store.{T2Memory, IsT2Memory, IsSameTag, block_count, is_locked}
use Rattle.t2t_tag.specs.Step.{is_writable, t2_reply, reply_frame, held_after, t2_answer, t2_after}
use Rattle.t2t_tag.proofs.Spellings.{exact_by}
use Rattle.t2t_tag.proofs.Stores.{same_with_block, still_store}

-- What a tag does with a frame: it obeys no command, or a READ, or a WRITE of one of its blocks behind the first four.
pub record OnFrame (m : T2Memory) (P : Option Signal → T2Memory → Type 0) : Type 0 where
  pub none : P None m
  pub read : (block : ℕ) → P (Some (answer_frame (t2_reply m (Read block)))) m
  pub refused : P (Some (answer_frame Refused)) m
  pub written : (block : ℕ) (content : List ℕ) → 4 ≤ block → block < block_count m.store → length content ≡ 4 → P (Some (answer_frame Done)) (record m { store = with_block 4 m.store block content })

on_command : (m : T2Memory) (P : Option Signal → T2Memory → Type 0) → OnFrame m P → (c : Option T2Command) → ((block : ℕ) (content : List ℕ) → c ≡ Some (Write block content) → length content ≡ 4)
    → P (reply_frame m c) (held_after m c)
on_command m P on None long = on.none
on_command m P on (Some (Read block)) long = on.read block
on_command m P on (Some (Write block content)) long = by_test (is_writable m block) refl
  where
    by_test : (v : Bool) → is_writable m block ≡ v → P (Some (answer_frame (if v then Done else Refused))) (if v then record m { store = with_block 4 m.store block content } else m)
    by_test false off = on.refused
    by_test true free =
        let parts = and_parts (nat_le 4 block && nat_lt block (block_count m.store)) (not (is_locked m block)) free in
        let ends = and_parts (nat_le 4 block) (nat_lt block (block_count m.store)) parts.0 in
        on.written block content (leb-true 4 block ends.0) (ltb-true block (block_count m.store) ends.1) (long block content refl)

on_frame : (m : T2Memory) (P : Option Signal → T2Memory → Type 0) → OnFrame m P → (f : Signal) → P (t2_answer m f) (t2_after m f)
on_frame m P on f = on_command m P on (spelled_command f) (λ block content e. ((exact_by f (spelled_command f) refl (Write block content)).0 e).0)

-- no frame changes more of a tag than this
pub same_tag : (m : T2Memory) (f : Signal) → IsSameTag m (t2_after m f)
same_tag m = on_frame m (λ told n. IsSameTag m n) (record {
  none = itself;
  read = λ block. itself;
  refused = itself;
  written = λ block content after within long. record { store = same_with_block m.store block content after within long; locked = refl };
})
  where
    itself : IsSameTag m m
    itself = record { store = record { size = refl; fixed = refl }; locked = refl }

-- A tag stays one that can be: its store is still one that a tag may have.
pub stays_tag : (m : T2Memory) → IsT2Memory m → (f : Signal) → IsT2Memory (t2_after m f)
stays_tag m is f =
    let same = same_tag m f in
    record { store = still_store m.store (t2_after m f).store same.store is.store; locks = ap length same.locked ∙ is.locks }
