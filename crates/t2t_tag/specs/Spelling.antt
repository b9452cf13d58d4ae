-- How the commands of a reader and the answers of a tag stand in frames (NFC Forum Type 2 Tag).
use Rattle.std.specs.Prelude.{◌≡◌, ℕ, [], ◌∷◌, length, drop, slice_index, if◌then◌else◌, Option, Some, None}
use Rattle.nfc_base.specs.Signal.{Signal, whole_a, part_a}
use Rattle.nfc_base.specs.Headed.{is_headed, t2_read_code, t2_write_code}
use Rattle.t2t_tag.specs.declared.command.T2Command.{T2Command}
use Rattle.t2t_tag.specs.declared.command.T2Command.TheVariants.{Read, Write}
use Rattle.t2t_tag.specs.declared.answer.T2Answer.{T2Answer}
use Rattle.t2t_tag.specs.declared.answer.T2Answer.TheVariants.{Content, Done, Refused}

-- the four bits of an acknowledgement, and those of a refusal
abbrev pub ack : ℕ
ack = 0xA

abbrev pub nak : ℕ
nak = 0

-- READ is its code and a block, WRITE is its code, a block and the block's new content.
abbrev pub command_frame : T2Command → Signal
command_frame (Read block) = whole_a (t2_read_code ∷ block ∷ [])
command_frame (Write block content) = whole_a (t2_write_code ∷ block ∷ content)

-- the frame spells the command; the content of a block is four bytes
abbrev pub T2Spelling : T2Command → Signal → Type 0
T2Spelling (Read block) f = f ≡ command_frame (Read block)
T2Spelling (Write block content) f = (length content ≡ 4) × (f ≡ command_frame (Write block content))

-- Content is sent as it is, the two others as four bits.
abbrev pub answer_frame : T2Answer → Signal
answer_frame (Content content) = whole_a content
answer_frame Done = part_a (ack ∷ []) 4
answer_frame Refused = part_a (nak ∷ []) 4

-- the frame spells the answer; the content of four blocks is sixteen bytes
abbrev pub T2AnswerSpelling : T2Answer → Signal → Type 0
T2AnswerSpelling (Content content) f = (length content ≡ 16) × (f ≡ answer_frame (Content content))
T2AnswerSpelling Done f = f ≡ answer_frame Done
T2AnswerSpelling Refused f = f ≡ answer_frame Refused

-- the command that a frame spells, where it spells one
abbrev pub spelled_command : Signal → Option T2Command
spelled_command f =
    if is_headed 2 t2_read_code f then Some (Read (slice_index f.bytes 1))
    else (if is_headed 6 t2_write_code f then Some (Write (slice_index f.bytes 1) (drop 2 f.bytes)) else None)
