-- What the commands of a reader come to at a tag.
use Rattle.std.proofs.Common.{◌≡◌, ◌≢◌, ℕ, ◌+◌, ◌*◌, ◌/◌, ◌%◌, ◌<◌, ◌≤◌, List, length, Bool, true, false, not, nat_le, nat_lt, ◌==◌, ◌||◌, if◌then◌else◌, refl, ◌∙◌, ap, arith}
use Rattle.t4t_tag.specs.declared.command.T4Command.TheVariants.{SelectApplication, SelectFile, ReadBinary, UpdateBinary}
use Rattle.t4t_tag.specs.declared.current.CurrentFile.TheVariants.{Container, Ndef}
use Rattle.t4t_tag.specs.Store.{T4State, IsT4State, most_read, most_written, file_id, read_access, write_access, everyone, container_id}
use Rattle.t4t_tag.specs.Spelling.{offset_end, command_bytes}
use Rattle.t4t_tag.specs.Step.{T4Turn, wrong_length, not_found, wrong_parameters, not_allowed, tells, opens, picks, writes, select_known, read_bytes, read_file, asked_count, update_file, t4_step}
use Rattle.t4t_tag.proofs.Turns.{content_of}

-- two bytes, high first, are their number
pub two_bytes : (n : ℕ) → n / 256 * 256 + n % 256 ≡ n
two_bytes n = omega arith

-- SELECT of the application is obeyed, whatever was selected before
pub select_opens : (t : T4State) → t4_step t (command_bytes SelectApplication) ≡ opens t
select_opens t = refl

pub selects_known : (t : T4State) (id : ℕ) → t4_step t (command_bytes (SelectFile id)) ≡ select_known t id
selects_known t id = ap (λ n. select_known t n) (two_bytes id)

unequal : (m n : ℕ) → m ≢ n → (m == n) ≡ false
unequal m n h = grind arith

same_number : (n : ℕ) → (n == n) ≡ true
same_number n = grind arith

-- with the application selected, the capability container is there to select, and so is the NDEF file
pub select_container : (t : T4State) → t.selected ≡ true → t4_step t (command_bytes (SelectFile container_id)) ≡ picks t Container
select_container t on = selects_known t container_id ∙ ap (λ v. if not v then tells t not_found else picks t Container) on

pub select_ndef : (t : T4State) → IsT4State t → t.selected ≡ true → t4_step t (command_bytes (SelectFile (file_id t.container))) ≡ picks t Ndef
select_ndef t is on =
    let id : ℕ = file_id t.container in
    selects_known t id
    ∙ ap (λ v. if not v then tells t not_found else if id == container_id then picks t Container else if id == id then picks t Ndef else tells t not_found) on
    ∙ ap (λ v. if v then picks t Container else if id == id then picks t Ndef else tells t not_found) (unequal id container_id is.other)
    ∙ ap (λ v. if v then picks t Ndef else tells t not_found) (same_number id)

not_zero : (n : ℕ) → 1 ≤ n → (n == 0) ≡ false
not_zero n h = grind arith

-- READ BINARY asks the current file for so many bytes
pub read_turns : (t : T4State) (offset count : ℕ) → 1 ≤ count → t4_step t (command_bytes (ReadBinary offset count)) ≡ read_file t t.current offset count
read_turns t offset count some =
    ap (λ n. read_file t t.current n (asked_count count)) (two_bytes offset)
    ∙ ap (λ v. read_file t t.current offset (if v then 256 else count)) (not_zero count some)

inside : (offset size : ℕ) → offset < size → size ≤ 0x7FFF → (nat_le offset_end offset || nat_le size offset) ≡ false
inside offset size within small = grind (arith, within, small)

bytes_inside : (t : T4State) (bytes : List ℕ) (offset count : ℕ) → offset < length bytes → length bytes ≤ 0x7FFF → read_bytes t bytes offset count ≡ tells t (content_of bytes offset count)
bytes_inside t bytes offset count within small =
    ap (λ v. if v then tells t wrong_parameters else tells t (content_of bytes offset count)) (inside offset (length bytes) within small)

-- a read inside the capability container
pub read_container : (t : T4State) → IsT4State t → t.current ≡ Container → (offset count : ℕ) → 1 ≤ count → offset < length t.container
    → t4_step t (command_bytes (ReadBinary offset count)) ≡ tells t (content_of t.container offset count)
read_container t is here offset count some within =
    read_turns t offset count some
    ∙ ap (λ f. read_file t f offset count) here
    ∙ bytes_inside t t.container offset count within (let most : length t.container ≤ 64 = is.most in omega (arith, most))

not_less : (m n : ℕ) → n ≤ m → nat_lt m n ≡ false
not_less m n h = grind arith

file_small : (t : T4State) → IsT4State t → length t.file ≤ 0x7FFF
file_small t is = omega (arith, is.size, is.whole)

-- a read inside the NDEF file, of no more bytes than the container allows
pub read_ndef : (t : T4State) → IsT4State t → t.current ≡ Ndef → read_access t.container ≡ everyone → (offset count : ℕ) → 1 ≤ count → count ≤ most_read t.container → offset < length t.file
    → t4_step t (command_bytes (ReadBinary offset count)) ≡ tells t (content_of t.file offset count)
read_ndef t is here free offset count some most within =
    let rest : T4Turn = if nat_lt (most_read t.container) count then tells t wrong_length else read_bytes t t.file offset count in
    read_turns t offset count some
    ∙ ap (λ f. read_file t f offset count) here
    ∙ ap (λ n. if not (n == everyone) then tells t not_allowed else rest) free
    ∙ ap (λ v. if v then tells t wrong_length else read_bytes t t.file offset count) (not_less (most_read t.container) count most)
    ∙ bytes_inside t t.file offset count within (file_small t is)

-- UPDATE BINARY brings these bytes to the current file
pub update_turns : (t : T4State) (offset : ℕ) (content : List ℕ) → 1 ≤ length content
    → t4_step t (command_bytes (UpdateBinary offset (record { items = content }))) ≡ update_file t t.current offset content
update_turns t offset content some =
    ap (λ n. if (length content == 0) || not (length content == length content) then tells t wrong_length else update_file t t.current n content) (two_bytes offset)
    ∙ ap (λ v. if v || not (length content == length content) then tells t wrong_length else update_file t t.current offset content) (not_zero (length content) some)
    ∙ ap (λ v. if not v then tells t wrong_length else update_file t t.current offset content) (same_number (length content))

fits : (offset size count : ℕ) → 1 ≤ count → offset + count ≤ size → size ≤ 0x7FFF → (nat_le offset_end offset || nat_lt size (offset + count)) ≡ false
fits offset size count some within small = grind (arith, some, within, small)

-- an update inside the NDEF file, of no more bytes than the container allows, changes the file as a whole
pub update_ndef : (t : T4State) → IsT4State t → t.current ≡ Ndef → write_access t.container ≡ everyone → (offset : ℕ) (content : List ℕ) → 1 ≤ length content
    → length content ≤ most_written t.container → offset + length content ≤ length t.file
    → t4_step t (command_bytes (UpdateBinary offset (record { items = content }))) ≡ writes t offset content
update_ndef t is here free offset content some most within =
    let beyond : Bool = nat_le offset_end offset || nat_lt (length t.file) (offset + length content) in
    let inner : T4Turn = if beyond then tells t wrong_parameters else writes t offset content in
    let rest : T4Turn = if nat_lt (most_written t.container) (length content) then tells t wrong_length else inner in
    update_turns t offset content some
    ∙ ap (λ f. update_file t f offset content) here
    ∙ ap (λ n. if not (n == everyone) then tells t not_allowed else rest) free
    ∙ ap (λ v. if v then tells t wrong_length else inner) (not_less (most_written t.container) (length content) most)
    ∙ ap (λ v. if v then tells t wrong_parameters else writes t offset content) (fits offset (length t.file) (length content) some within (file_small t is))
