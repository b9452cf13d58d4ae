-- How the commands of a reader and the answers of a tag stand in frames (NFC Forum Type 3 Tag; JIS X 6319-4).
use Rattle.std.specs.Prelude.{◌≡◌, ◌≢◌, ℕ, suc, ◌+◌, ◌*◌, ◌/◌, ◌%◌, ◌≤◌, List, [], ◌∷◌, ◌++◌, length, replicate, Bool}
use Rattle.std.specs.Prelude.{true, false, ◌==◌, ◌&&◌}
use Rattle.nfc_base.specs.declared.frame.Tech.{Tech}
use Rattle.nfc_base.specs.declared.frame.Tech.TheVariants.{A, V, F}
use Rattle.nfc_base.specs.Signal.{Signal, whole_f}
use Rattle.t3t_tag.specs.declared.command.T3Command.{T3Command}
use Rattle.t3t_tag.specs.declared.command.T3Command.TheVariants.{Poll, Check, Update}
use Rattle.t3t_tag.specs.declared.answer.T3Answer.{T3Answer}
use Rattle.t3t_tag.specs.declared.answer.T3Answer.TheVariants.{Polled, Content, Done, CheckRefused, UpdateRefused}
use Rattle.t3t_tag.specs.Store.{block_size, id_size}

-- the codes of the commands (SENSF_REQ, CHECK and UPDATE), and of their answers
abbrev pub poll_code : ℕ
poll_code = 0x00

abbrev pub polled_code : ℕ
polled_code = 0x01

abbrev pub check_code : ℕ
check_code = 0x06

abbrev pub checked_code : ℕ
checked_code = 0x07

abbrev pub update_code : ℕ
update_code = 0x08

abbrev pub updated_code : ℕ
updated_code = 0x09

-- the services, as their two bytes are sent: that which reads, and that which reads and writes
abbrev pub read_service : ℕ
read_service = 0x0B00

abbrev pub write_service : ℕ
write_service = 0x0900

-- the first byte of a block element of two bytes
abbrev pub element_code : ℕ
element_code = 0x80

-- how many blocks one Check names at most
abbrev pub most_elements : ℕ
most_elements = 15

-- two bytes, high byte first
abbrev pub two_bytes : ℕ → List ℕ
two_bytes n = n / 256 ∷ n % 256 ∷ []

-- the number that two bytes stand for
abbrev pub pair : ℕ → ℕ → ℕ
pair high low = high * 256 + low

-- a frame: its length, itself included, and what follows
abbrev pub framed : List ℕ → List ℕ
framed bytes = suc (length bytes) ∷ bytes

-- the elements of some blocks
abbrev pub elements : List ℕ → List ℕ
elements [] = []
elements (block ∷ blocks) = element_code ∷ block ∷ elements blocks

-- what stands behind the identifier of a command: one service, and the number of elements
abbrev pub asked_of : ℕ → ℕ → List ℕ
asked_of service count = 1 ∷ service / 256 ∷ service % 256 ∷ count ∷ []

-- A Check is sent with the service that reads, an Update with the one that writes, of one block.
abbrev pub command_bytes : T3Command → List ℕ
command_bytes (Poll system request slots) = framed (poll_code ∷ (two_bytes system ++ request ∷ slots ∷ []))
command_bytes (Check id blocks) =
    framed (check_code ∷ (id ++ (asked_of read_service (length blocks.items) ++ elements blocks.items)))
command_bytes (Update id block content) =
    framed (update_code ∷ (id ++ (asked_of write_service 1 ++ (elements (block ∷ []) ++ content))))

abbrev pub command_frame : T3Command → Signal
command_frame c = whole_f (command_bytes c)

-- a frame is NFC-F, and of whole bytes
abbrev pub is_nfc_f : Tech → Bool
is_nfc_f A = false
is_nfc_f V = false
is_nfc_f F = true

abbrev pub is_whole_f : Signal → Bool
is_whole_f f = is_nfc_f f.tech && (f.tail == 0)

-- which commands are in range
abbrev pub IsT3Command : T3Command → Type 0
IsT3Command (Poll system request slots) = Unit {0}
IsT3Command (Check id blocks) = (length id ≡ id_size) × (1 ≤ length blocks.items)
    × (length blocks.items ≤ most_elements)
IsT3Command (Update id block content) = (length id ≡ id_size) × (length content ≡ block_size)

-- the frame spells the command
pub record T3Spelling (c : T3Command) (f : Signal) : Type 0 where
  pub range : IsT3Command c
  pub frame : f ≡ command_frame c

-- Two bytes tell what became of a Check or an Update; both 0 where it succeeded.
abbrev pub done : ℕ
done = 0

-- how many bytes follow the identifier in the answer to a poll, which are 0 here
abbrev pub pad_size : ℕ
pad_size = 8

abbrev pub answer_bytes : T3Answer → List ℕ
answer_bytes (Polled id) = framed (polled_code ∷ (id ++ replicate pad_size 0))
answer_bytes (Content id content) =
    framed (checked_code ∷ (id ++ (two_bytes done ++ length content.items / block_size ∷ content.items)))
answer_bytes (Done id) = framed (updated_code ∷ (id ++ two_bytes done))
answer_bytes (CheckRefused id status) = framed (checked_code ∷ (id ++ two_bytes status))
answer_bytes (UpdateRefused id status) = framed (updated_code ∷ (id ++ two_bytes status))

abbrev pub answer_frame : T3Answer → Signal
answer_frame a = whole_f (answer_bytes a)

-- 1 to 15 whole blocks
pub record IsContent (content : List ℕ) : Type 0 where
  pub whole : length content % block_size ≡ 0
  pub least : block_size ≤ length content
  pub most : length content ≤ block_size * most_elements

-- which answers are in range
abbrev pub IsT3Answer : T3Answer → Type 0
IsT3Answer (Polled id) = length id ≡ id_size
IsT3Answer (Content id content) = (length id ≡ id_size) × IsContent content.items
IsT3Answer (Done id) = length id ≡ id_size
IsT3Answer (CheckRefused id status) = (length id ≡ id_size) × (status ≢ done)
IsT3Answer (UpdateRefused id status) = (length id ≡ id_size) × (status ≢ done)

-- the frame spells the answer
pub record T3AnswerSpelling (a : T3Answer) (f : Signal) : Type 0 where
  pub range : IsT3Answer a
  pub frame : f ≡ answer_frame a
