-- The step of a Type 2 tag (NFC Forum Type 2 Tag). Which frame a tag refuses, and that it refuses by the four bits 0h
-- alone, is this project's own.
use Rattle.std.specs.Prelude.{ℕ, ◌+◌, ◌%◌, List, ◌++◌, Bool, ◌&&◌, not, nat_le, nat_lt, if◌then◌else◌, Option, Some}
use Rattle.std.specs.Prelude.{None}
use Rattle.nfc_base.specs.Signal.{Signal}
use Rattle.nfc_base.specs.Blocks.{with_block, block_of}
use Rattle.t2t_tag.specs.declared.command.T2Command.{T2Command}
use Rattle.t2t_tag.specs.declared.command.T2Command.TheVariants.{Read, Write}
use Rattle.t2t_tag.specs.declared.answer.T2Answer.{T2Answer}
use Rattle.t2t_tag.specs.declared.answer.T2Answer.TheVariants.{Content, Done, Refused}
use Rattle.t2t_tag.specs.Spelling.{spelled_command, answer_frame}
use Rattle.t2t_tag.specs.Store.{T2Memory, block_count, is_locked}

-- the content of a block, counted modulo the number of blocks: behind the last block comes the first
abbrev pub rolled : List ℕ → ℕ → List ℕ
rolled store block = block_of 4 store (block % block_count store)

-- the content of four blocks from one on
abbrev pub four_blocks : List ℕ → ℕ → List ℕ
four_blocks store block = rolled store block ++ rolled store (block + 1) ++ rolled store (block + 2)
    ++ rolled store (block + 3)

-- A block may be written where it isn't one of the first four, the store has it and it isn't locked.
abbrev pub is_writable : T2Memory → ℕ → Bool
is_writable m block = nat_le 4 block && nat_lt block (block_count m.store) && not (is_locked m block)

-- what the tag answers to a command
abbrev pub t2_reply : T2Memory → T2Command → T2Answer
t2_reply m (Read block) = if nat_lt block (block_count m.store) then Content (four_blocks m.store block) else Refused
t2_reply m (Write block content) = if is_writable m block then Done else Refused

-- what the tag holds after a command
abbrev pub t2_obeyed : T2Memory → T2Command → T2Memory
t2_obeyed m (Read block) = m
t2_obeyed m (Write block content) = if is_writable m block then record m { store = with_block 4 m.store block content }
    else m

-- the answer to what a frame spells, and what the tag then holds: a frame that spells no command gets no answer and
-- changes nothing
abbrev pub reply_frame : T2Memory → Option T2Command → Option Signal
reply_frame m None = None
reply_frame m (Some c) = Some (answer_frame (t2_reply m c))

abbrev pub held_after : T2Memory → Option T2Command → T2Memory
held_after m None = m
held_after m (Some c) = t2_obeyed m c

-- the step of the tag on a frame: its answer, and what it holds then
abbrev pub t2_answer : T2Memory → Signal → Option Signal
t2_answer m f = reply_frame m (spelled_command f)

abbrev pub t2_after : T2Memory → Signal → T2Memory
t2_after m f = held_after m (spelled_command f)
