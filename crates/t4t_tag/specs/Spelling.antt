-- How the commands of a reader stand in bytes (NFC Forum Type 4 Tag; ISO/IEC 7816-4).
use Rattle.std.specs.Prelude.{ℕ, ◌/◌, ◌%◌, ◌<◌, ◌≤◌, List, [], ◌∷◌, ◌++◌, length}
use Rattle.t4t_tag.specs.declared.command.T4Command.{T4Command}
use Rattle.t4t_tag.specs.declared.command.T4Command.TheVariants.{SelectApplication, SelectFile, ReadBinary}
use Rattle.t4t_tag.specs.declared.command.T4Command.TheVariants.{UpdateBinary}

-- the class byte of every command, and the instructions SELECT, READ BINARY and UPDATE BINARY
abbrev pub class_byte : ℕ
class_byte = 0x00

abbrev pub select_code : ℕ
select_code = 0xA4

abbrev pub read_code : ℕ
read_code = 0xB0

abbrev pub update_code : ℕ
update_code = 0xD6

-- the two parameters of a SELECT by name, and of a SELECT by identifier
abbrev pub by_name : List ℕ
by_name = 0x04 ∷ 0x00 ∷ []

abbrev pub by_identifier : List ℕ
by_identifier = 0x00 ∷ 0x0C ∷ []

-- the name of the NDEF application
abbrev pub application_name : List ℕ
application_name = 0xD2 ∷ 0x76 ∷ 0x00 ∷ 0x00 ∷ 0x85 ∷ 0x01 ∷ 0x01 ∷ []

-- the first offset that isn't allowed
abbrev pub offset_end : ℕ
offset_end = 0x8000

-- a number below 65536 in two bytes
abbrev pub high_first : ℕ → List ℕ
high_first word = word / 256 ∷ word % 256 ∷ []

-- the most bytes that one command asks for or brings, by a number of one byte, Le or Lc; Le 00h stands for 256
abbrev pub most_per_command : ℕ
most_per_command = 255

-- Which commands are in range.
abbrev pub IsT4Command : T4Command → Type 0
IsT4Command SelectApplication = Unit {0}
IsT4Command (SelectFile id) = Unit {0}
IsT4Command (ReadBinary offset count) = (offset < offset_end) × (1 ≤ count)
IsT4Command (UpdateBinary offset content) = (offset < offset_end) × (1 ≤ length content.items)

-- A SELECT has its two parameters, the number of bytes of the name and the name; by name it also asks for an answer of
-- any length. A READ BINARY has its offset and how many bytes it asks for, an UPDATE BINARY its offset, how many bytes
-- it brings, and these.
abbrev pub command_bytes : T4Command → List ℕ
command_bytes SelectApplication = class_byte ∷ select_code ∷ (by_name ++ 7 ∷ (application_name ++ 0x00 ∷ []))
command_bytes (SelectFile id) = class_byte ∷ select_code ∷ (by_identifier ++ 2 ∷ high_first id)
command_bytes (ReadBinary offset count) = class_byte ∷ read_code ∷ (high_first offset ++ count ∷ [])
command_bytes (UpdateBinary offset content) = class_byte ∷ update_code
    ∷ (high_first offset ++ length content.items ∷ content.items)
