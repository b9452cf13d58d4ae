-- The step of a Type 4 tag on a command (NFC Forum Type 4 Tag; ISO/IEC 7816-4). Which status a tag answers for which
-- condition is this project's own.
use Rattle.std.specs.Prelude.{ℕ, ◌+◌, ◌*◌, List, [], ◌∷◌, ◌++◌, length, take, drop, Bool, true, ◌==◌, ◌&&◌, ◌||◌, not}
use Rattle.std.specs.Prelude.{nat_eq, nat_le, nat_lt, if◌then◌else◌}
use Rattle.std.specs.Cmp.Lexicographic.{pointwise}
use Rattle.t4t_tag.specs.declared.current.CurrentFile.{CurrentFile}
use Rattle.t4t_tag.specs.declared.current.CurrentFile.TheVariants.{NoFile, Container, Ndef}
use Rattle.t4t_tag.specs.Store.{T4State, most_read, most_written, file_id, read_access, write_access, everyone}
use Rattle.t4t_tag.specs.Store.{container_id}
use Rattle.t4t_tag.specs.Spelling.{class_byte, select_code, read_code, update_code, application_name, offset_end}

-- The status bytes that end each answer: done, a wrong length, a class and an instruction that aren't there, a name
-- that isn't known or no current file, parameters that aren't allowed, and an access that isn't.
abbrev pub done : List ℕ
done = 0x90 ∷ 0x00 ∷ []

abbrev pub wrong_length : List ℕ
wrong_length = 0x67 ∷ 0x00 ∷ []

abbrev pub wrong_class : List ℕ
wrong_class = 0x6E ∷ 0x00 ∷ []

abbrev pub wrong_instruction : List ℕ
wrong_instruction = 0x6D ∷ 0x00 ∷ []

abbrev pub not_found : List ℕ
not_found = 0x6A ∷ 0x82 ∷ []

abbrev pub wrong_parameters : List ℕ
wrong_parameters = 0x6B ∷ 0x00 ∷ []

abbrev pub not_allowed : List ℕ
not_allowed = 0x69 ∷ 0x82 ∷ []

-- what a tag does at a command: its answer, and the tag then
pub record T4Turn : Type 0 where
  pub answer : List ℕ
  pub after : T4State

-- an answer, and nothing changes
abbrev pub tells : T4State → List ℕ → T4Turn
tells t answer = record { answer = answer; after = t }

-- the application is selected, with no current file
abbrev pub opens : T4State → T4Turn
opens t = record { answer = done; after = record t { selected = true; current = NoFile } }

-- a file becomes the current one
abbrev pub picks : T4State → CurrentFile → T4Turn
picks t file = record { answer = done; after = record t { current = file } }

-- SELECT by name
abbrev pub select_application : T4State → List ℕ → T4Turn
select_application t name = if pointwise nat_eq name application_name then opens t else tells t not_found

-- SELECT by identifier, which needs the application
abbrev pub select_known : T4State → ℕ → T4Turn
select_known t id =
    if not t.selected then tells t not_found
    else if id == container_id then picks t Container
    else if id == file_id t.container then picks t Ndef
    else tells t not_found

abbrev pub select_file : T4State → List ℕ → T4Turn
select_file t (high ∷ low ∷ []) = select_known t (high * 256 + low)
select_file t name = tells t wrong_length

-- the number of bytes of a name, and so many bytes behind it, or one more, which says how long an answer may be
abbrev pub is_named : ℕ → List ℕ → Bool
is_named count behind = not (count == 0) && ((length behind == count) || (length behind == count + 1))

-- SELECT, by its two parameters and what is behind them
abbrev pub select_turn : T4State → ℕ → ℕ → List ℕ → T4Turn
select_turn t p1 p2 [] = tells t wrong_length
select_turn t p1 p2 (count ∷ behind) =
    if not (is_named count behind) then tells t wrong_length
    else if (p1 == 0x04) && (p2 == 0x00) then select_application t (take count behind)
    else if (p1 == 0x00) && (p2 == 0x0C) then select_file t (take count behind)
    else tells t wrong_parameters

-- the bytes of a file from an offset on, at most so many
abbrev pub read_bytes : T4State → List ℕ → ℕ → ℕ → T4Turn
read_bytes t bytes offset count =
    if nat_le offset_end offset || nat_le (length bytes) offset then tells t wrong_parameters
    else tells t (take count (drop offset bytes) ++ done)

abbrev pub read_file : T4State → CurrentFile → ℕ → ℕ → T4Turn
read_file t NoFile offset count = tells t not_found
read_file t Container offset count = read_bytes t t.container offset count
read_file t Ndef offset count =
    if not (read_access t.container == everyone) then tells t not_allowed
    else if nat_lt (most_read t.container) count then tells t wrong_length
    else read_bytes t t.file offset count

-- how many bytes are asked for: 0 stands for 256
abbrev pub asked_count : ℕ → ℕ
asked_count expected = if expected == 0 then 256 else expected

-- READ BINARY, by its offset and what is behind it
abbrev pub read_turn : T4State → ℕ → List ℕ → T4Turn
read_turn t offset (expected ∷ []) = read_file t t.current offset (asked_count expected)
read_turn t offset rest = tells t wrong_length

-- the bytes of a file with others from an offset on
abbrev pub overwritten : List ℕ → ℕ → List ℕ → List ℕ
overwritten file offset content = take offset file ++ content ++ drop (offset + length content) file

-- the file is changed as a whole
abbrev pub writes : T4State → ℕ → List ℕ → T4Turn
writes t offset content = record { answer = done; after = record t { file = overwritten t.file offset content } }

abbrev pub update_file : T4State → CurrentFile → ℕ → List ℕ → T4Turn
update_file t NoFile offset content = tells t not_found
update_file t Container offset content = tells t not_allowed
update_file t Ndef offset content =
    if not (write_access t.container == everyone) then tells t not_allowed
    else if nat_lt (most_written t.container) (length content) then tells t wrong_length
    else if nat_le offset_end offset || nat_lt (length t.file) (offset + length content) then tells t wrong_parameters
    else writes t offset content

-- UPDATE BINARY, by its offset and what is behind it: a number of bytes, and so many bytes
abbrev pub update_turn : T4State → ℕ → List ℕ → T4Turn
update_turn t offset [] = tells t wrong_length
update_turn t offset (count ∷ content) =
    if (count == 0) || not (length content == count) then tells t wrong_length
    else update_file t t.current offset content

-- the step of the tag on the bytes of a command
abbrev pub t4_step : T4State → List ℕ → T4Turn
t4_step t (class ∷ instruction ∷ p1 ∷ p2 ∷ rest) =
    if not (class == class_byte) then tells t wrong_class
    else if instruction == select_code then select_turn t p1 p2 rest
    else if instruction == read_code then read_turn t (p1 * 256 + p2) rest
    else if instruction == update_code then update_turn t (p1 * 256 + p2) rest
    else tells t wrong_instruction
t4_step t bytes = tells t wrong_length

abbrev pub t4_answer : T4State → List ℕ → List ℕ
t4_answer t bytes = (t4_step t bytes).answer

abbrev pub t4_after : T4State → List ℕ → T4State
t4_after t bytes = (t4_step t bytes).after
