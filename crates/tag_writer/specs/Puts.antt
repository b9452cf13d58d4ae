-- What a writer asks of a tag, as bytes that are put into its store (NFC Forum Type 2, Type 4 and Type 5 Tag).
use Rattle.std.specs.Prelude.{ℕ, ◌+◌, ◌*◌, min, nat_lt, ◌==◌, if◌then◌else◌, Bool, List, [], ◌∷◌, ◌++◌, length, take}
use Rattle.std.specs.Prelude.{drop, map, Some}
use Rattle.std.specs.Int.{div_ceil}
use Rattle.std.specs.List.{range_with_len}
use Rattle.nfc_base.specs.Signal.{Signal, whole_a}
use Rattle.t2t_tag.specs.Spelling as t2
use Rattle.t2t_tag.specs.declared.command.T2Command.TheVariants as t2_command
use Rattle.t5t_tag.specs.Spelling as t5
use Rattle.t5t_tag.specs.declared.command.T5Command.TheVariants as t5_command
use Rattle.t4t_tag.specs.Store.{most_written}
use Rattle.t4t_tag.specs.Spelling.{high_first, most_per_command}
use Rattle.t4t_tag.specs.declared.command.T4Command.TheVariants.{UpdateBinary}
use Rattle.tlv_area.specs.declared.step.Step.{Step}
use Rattle.tag_reader.specs.declared.how.How.{How}
use Rattle.tag_reader.specs.declared.how.How.TheVariants.{T2, T4, T5}
use Rattle.tag_reader.specs.Files.{container_in, container_end, file_in, file_frame, message_length}
use Rattle.tag_reader.specs.Survey.{block_size}
use Rattle.tag_writer.specs.declared.phase.Phase.{Phase}
use Rattle.tag_writer.specs.declared.phase.Phase.TheVariants.{Prepared, Emptied, Filled}

-- one write: the address of its first byte in the store, its bytes, and the command that asks for it
pub record Put : Type 0 where
  pub at : ℕ
  pub bytes : List ℕ
  pub command : Signal

-- the store behind a write, and behind writes one after another
abbrev pub put_into : List ℕ → Put → List ℕ
put_into store p = take p.at store ++ p.bytes ++ drop (p.at + length p.bytes) store

abbrev pub after_puts : List ℕ → List Put → List ℕ
after_puts store [] = store
after_puts store (p ∷ ps) = after_puts (put_into store p) ps

-- the commands of some writes
abbrev pub commands_of : List Put → List Signal
commands_of puts = map (λ p. p.command) puts

-- The command that writes a block: WRITE, or WRITE SINGLE BLOCK, from block 256 on with a number of two bytes. A Type 4
-- tag has none.
abbrev pub block_command : How → Step → Signal
block_command T2 s = t2.command_frame (t2_command.Write s.block s.content.items)
block_command T4 s = whole_a []
block_command (T5 id) s =
    if nat_lt s.block t5.short_numbers then t5.command_frame (t5_command.Write (Some id) s.block s.content)
    else t5.command_frame (t5_command.WriteWide (Some id) s.block s.content)

abbrev pub block_put : How → ℕ → Step → Put
block_put how size s = record {
  at = block_size how size * s.block;
  bytes = s.content.items;
  command = block_command how s;
}

-- the writes of steps
abbrev pub block_puts : How → ℕ → List Step → List Put
block_puts how size steps = map (block_put how size) steps

-- an update of a Type 4 tag's file from an offset on
abbrev pub update_command : ℕ → List ℕ → Signal
update_command offset bytes = file_frame (UpdateBinary offset (record { items = bytes }))

abbrev pub update_put : List ℕ → ℕ → List ℕ → Put
update_put store offset bytes = record {
  at = container_end store + offset;
  bytes = bytes;
  command = update_command offset bytes;
}

-- The updates that put a message into a file, phase by phase, each made of its offset and its bytes: NLEN becomes 0,
-- unless it is, then come the bytes of the message, so many at once, and then NLEN, unless that is 0. The k-th piece is
-- counted from 0.
abbrev pub piece_of : {X : Type 0} → (ℕ → List ℕ → X) → List ℕ → ℕ → ℕ → X
piece_of make message most k = make (2 + most * k) (take most (drop (most * k) message))

abbrev pub updates : {X : Type 0} → (ℕ → List ℕ → X) → Phase → List ℕ → ℕ → Bool → List X
updates make Prepared message most empty = if empty then [] else make 0 (0 ∷ 0 ∷ []) ∷ []
updates make Emptied message most empty = map (piece_of make message most)
    (range_with_len 0 (div_ceil (length message) most))
updates make Filled message most empty = if length message == 0 then [] else make 0 (high_first (length message)) ∷ []

-- the most bytes that one update of the message brings: no more than one command may, and than the container allows
-- (MLc)
abbrev pub most_brought : List ℕ → ℕ
most_brought store = min (most_written (container_in store)) most_per_command

-- the writes of a message in the file of a store
abbrev pub file_puts : Phase → List ℕ → List ℕ → List Put
file_puts phase store message = updates (update_put store) phase message (most_brought store)
    (message_length (file_in store) == 0)
