-- The Type 4 tag behind a link (NFC Forum Type 4 Tag; ISO/IEC 7816-4): its two files in the store that a link shows,
-- what the store holds, and which commands ask for its message, in their order.
use Rattle.std.specs.Prelude.{◌≡◌, ℕ, zero, suc, ◌+◌, ◌-◌, ◌*◌, ◌<◌, ◌≤◌, min, nat_lt, if◌then◌else◌, List, length}
use Rattle.std.specs.Prelude.{take, drop, Result, Some, Ok, Err}
use Rattle.nfc_base.specs.Words.{word}
use Rattle.nfc_base.specs.Signal.{Signal, whole_a}
use Rattle.nfc_base.specs.TagLinks.{TagFile, NoFile, ContainerFile, NdefFile, TagState, TagStep}
use Rattle.t4t_tag.specs.Store.{IsT4Store, T4State, store_of, most_read, file_id, file_size, container_id}
use Rattle.t4t_tag.specs.Spelling.{command_bytes, most_per_command}
use Rattle.t4t_tag.specs.Step.{t4_answer, t4_after}
use Rattle.t4t_tag.specs.declared.command.T4Command.{T4Command}
use Rattle.t4t_tag.specs.declared.command.T4Command.TheVariants.{SelectApplication, SelectFile, ReadBinary}
use Rattle.t4t_tag.specs.declared.current.CurrentFile.{CurrentFile}
use Rattle.t4t_tag.specs.declared.current.CurrentFile.TheVariants as current
use Rattle.tlv_area.specs.declared.container.ContainerFault.{ContainerFault}
use Rattle.tlv_area.specs.declared.container.FileMap.{FileMap}
use Rattle.tlv_area.specs.Containers.{t4_container}
use Rattle.tlv_area.specs.Form.{Form, Faulty, Message, BadTlv}

-- A store is the capability container followed by the NDEF file, which has as many bytes as the container says.
abbrev pub container_end : List ℕ → ℕ
container_end store = length store - file_size store

abbrev pub container_in : List ℕ → List ℕ
container_in store = take (container_end store) store

abbrev pub file_in : List ℕ → List ℕ
file_in store = drop (container_end store) store

-- the store of a tag, of whatever code
abbrev pub IsFileStore : List ℕ → Type 0
IsFileStore store = (code : ℕ) × IsT4Store code (container_in store) (file_in store)

-- how many bytes the message has, as the file's first two bytes say (NLEN), and the bytes behind these
abbrev pub message_length : List ℕ → ℕ
message_length file = word file 0

abbrev pub message_in : List ℕ → List ℕ
message_in file = take (message_length file) (drop 2 file)

-- The form of a store: the container's fault, or a length that passes the end of the file, or the message.
abbrev pub file_form : Result FileMap ContainerFault → List ℕ → Form
file_form (Err fault) file = Faulty fault
file_form (Ok map') file = if nat_lt (map'.size - 2) (message_length file) then BadTlv else Message (message_in file)

abbrev pub t4_form : List ℕ → Form
t4_form store = file_form (t4_container (container_in store)) (file_in store)

-- the most bytes that one read of the message asks for: no more than one command may, and than the container allows
-- (MLe)
abbrev pub most_of : List ℕ → ℕ
most_of container = min (most_read container) most_per_command

abbrev pub most_asked : List ℕ → ℕ
most_asked store = most_of (container_in store)

-- the read that is the k-th of the message, counted from 0: the last one asks for what is left
abbrev pub piece_size : List ℕ → ℕ → ℕ
piece_size store k = min (most_asked store) (message_length (file_in store) - most_asked store * k)

-- The k-th command, counted from 0: SELECT of the application and of the container, a read of the container, SELECT of
-- the NDEF file that it names, a read of the message's length, and then the reads of the message.
abbrev pub file_command : List ℕ → ℕ → T4Command
file_command store zero = SelectApplication
file_command store (suc zero) = SelectFile container_id
file_command store (suc (suc zero)) = ReadBinary 0 15
file_command store (suc (suc (suc zero))) = SelectFile (file_id (container_in store))
file_command store (suc (suc (suc (suc zero)))) = ReadBinary 0 2
file_command store (suc (suc (suc (suc (suc k))))) = ReadBinary (2 + most_asked store * k) (piece_size store k)

abbrev pub file_frame : T4Command → Signal
file_frame c = whole_a (command_bytes c)

-- the container has no fault
abbrev pub NamesFile : List ℕ → FileMap → Type 0
NamesFile store map' = t4_container (container_in store) ≡ Ok map'

-- the length of the message doesn't pass the end of the file, and the first k reads don't give all of the message
pub record HasPiece (store : List ℕ) (k : ℕ) : Type 0 where
  pub map' : FileMap
  pub names : NamesFile store map'
  pub fits : message_length (file_in store) ≤ map'.size - 2
  pub left : most_asked store * k < message_length (file_in store)

-- The k-th command is asked: the first three always, the next two where the container has no fault.
abbrev pub IsFileDue : List ℕ → ℕ → Type 0
IsFileDue store zero = Unit {0}
IsFileDue store (suc zero) = Unit {0}
IsFileDue store (suc (suc zero)) = Unit {0}
IsFileDue store (suc (suc (suc zero))) = (map' : FileMap) × NamesFile store map'
IsFileDue store (suc (suc (suc (suc zero)))) = (map' : FileMap) × NamesFile store map'
IsFileDue store (suc (suc (suc (suc (suc k))))) = HasPiece store k

-- The current file, as a link shows it and as the tag has it.
abbrev pub shown_file : CurrentFile → TagFile
shown_file current.NoFile = NoFile
shown_file current.Container = ContainerFile
shown_file current.Ndef = NdefFile

abbrev pub current_file : TagFile → CurrentFile
current_file NoFile = current.NoFile
current_file ContainerFile = current.Container
current_file NdefFile = current.Ndef

-- The tag behind a link, of which the link's state shows the store, the application and the current file.
abbrev pub t4_memory : ℕ → TagState → T4State
t4_memory code s = record {
  code = code;
  container = container_in s.store;
  file = file_in s.store;
  selected = s.selected;
  current = current_file s.file;
}

abbrev pub shown : T4State → TagState
shown t = record { store = store_of t; selected = t.selected; file = shown_file t.current }

abbrev pub t4_link_step : ℕ → TagState → Signal → TagStep
t4_link_step code s c = record {
  answer = Some (whole_a (t4_answer (t4_memory code s) c.bytes));
  after = shown (t4_after (t4_memory code s) c.bytes);
}
