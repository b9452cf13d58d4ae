-- What a Type 4 tag holds, and what it remembers while it is in the field (NFC Forum Type 4 Tag).
use Rattle.std.specs.Prelude.{◌≡◌, ◌≢◌, ℕ, ◌≤◌, List, ◌++◌, length, slice_index, Bool, false}
use Rattle.nfc_base.specs.Words.{word}
use Rattle.t4t_tag.specs.declared.tag.StoreFault.{StoreFault}
use Rattle.t4t_tag.specs.declared.tag.StoreFault.TheVariants.{BadStore}
use Rattle.t4t_tag.specs.declared.current.CurrentFile.{CurrentFile}
use Rattle.t4t_tag.specs.declared.current.CurrentFile.TheVariants.{NoFile}

-- What the capability container says: the most bytes that one read asks for (MLe) and that one update brings (MLc), the
-- identifier and the size of the NDEF file, and who may read and write that file, with 00h for everyone.
abbrev pub most_read : List ℕ → ℕ
most_read container = word container 3

abbrev pub most_written : List ℕ → ℕ
most_written container = word container 5

abbrev pub file_id : List ℕ → ℕ
file_id container = word container 9

abbrev pub file_size : List ℕ → ℕ
file_size container = word container 11

abbrev pub read_access : List ℕ → ℕ
read_access container = slice_index container 13

abbrev pub write_access : List ℕ → ℕ
write_access container = slice_index container 14

abbrev pub everyone : ℕ
everyone = 0x00

-- the identifier of the capability container file
abbrev pub container_id : ℕ
container_id = 0xE103

-- the fewest bytes of a capability container
abbrev pub least_container : ℕ
least_container = 15

-- the largest code of a length of frames (ISO/IEC 14443-4)
abbrev pub most_code : ℕ
most_code = 8

-- Of which code, container and NDEF file a tag may be made. The code says how long the frames are that the tag takes.
-- The container names another file than itself, which is there with all its bytes.
pub record IsT4Store (code : ℕ) (container file : List ℕ) : Type 0 where
  pub coded : code ≤ most_code
  pub least : least_container ≤ length container
  pub most : length container ≤ 64
  pub other : file_id container ≢ container_id
  pub size : file_size container ≤ 0x7FFF
  pub whole : length file ≡ file_size container

-- A tag: its code, its two files, whether its application is selected, and its current file.
pub record T4State : Type 0 where
  pub code : ℕ
  pub container : List ℕ
  pub file : List ℕ
  pub selected : Bool
  pub current : CurrentFile

-- the states that a tag can have
abbrev pub IsT4State : T4State → Type 0
IsT4State t = IsT4Store t.code t.container t.file

-- the store as a link to the tag shows it: the container followed by the NDEF file
abbrev pub store_of : T4State → List ℕ
store_of t = t.container ++ t.file

-- what no command changes of a tag
pub record IsSameTag (t u : T4State) : Type 0 where
  pub code : u.code ≡ t.code
  pub container : u.container ≡ t.container
  pub length : length u.file ≡ length t.file

-- a tag that has just come into the field, or that left it: no application is selected, and there is no current file
abbrev pub fresh : ℕ → List ℕ → List ℕ → T4State
fresh code container file = record {
  code = code;
  container = container;
  file = file;
  selected = false;
  current = NoFile;
}

abbrev pub darkened : T4State → T4State
darkened t = record t { selected = false; current = NoFile }

-- the tag between two commands: its application selected or not, and this file the current one
abbrev pub resumed : T4State → Bool → CurrentFile → T4State
resumed t selected current = record t { selected = selected; current = current }

abbrev pub store_fault_number : StoreFault → ℕ
store_fault_number BadStore = 1
