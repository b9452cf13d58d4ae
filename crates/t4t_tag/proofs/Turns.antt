-- What holds of each kind of turn holds of the turn of every command.
use Rattle.std.proofs.Common.{◌≡◌, ℕ, ◌+◌, ◌*◌, ◌≤◌, List, [], ◌∷◌, ◌++◌, length, take, drop, slice_index, Bool, true, false, not, nat_eq, nat_le, nat_lt, ◌==◌, ◌&&◌, ◌||◌, if◌then◌else◌, refl, sym}
use Rattle.std.proofs.Common.{arith}
use Rattle.std.specs.Cmp.Lexicographic.{pointwise}
use Rattle.t4t_tag.specs.declared.current.CurrentFile.{CurrentFile}
use Rattle.t4t_tag.specs.declared.current.CurrentFile.TheVariants.{NoFile, Container, Ndef}
use Rattle.t4t_tag.specs.Store.{T4State, most_read, most_written, file_id, read_access, write_access, everyone, container_id}
use Rattle.t4t_tag.specs.Spelling.{class_byte, select_code, read_code, update_code, application_name, offset_end}
use Rattle.t4t_tag.specs.Step.{T4Turn, done, wrong_length, wrong_class, wrong_instruction, not_found, wrong_parameters, not_allowed, tells, opens, picks, writes, select_application, select_known}
use Rattle.t4t_tag.specs.Step.{select_file, is_named, select_turn, read_bytes, read_file, asked_count, read_turn, update_file, update_turn, t4_step}

-- the answer to a read that is obeyed
abbrev pub content_of : List ℕ → ℕ → ℕ → List ℕ
content_of bytes offset count = take count (drop offset bytes) ++ done

-- a fact holds of each kind of turn, where the fifth byte of the command is this one
pub record OnTurns (t : T4State) (fifth : ℕ) (P : T4Turn → Type 0) : Type 0 where
  pub refused : (status : List ℕ) → length status ≡ 2 → P (tells t status)
  pub opened : P (opens t)
  pub picked : (file : CurrentFile) → t.selected ≡ true → P (picks t file)
  pub read : (bytes : List ℕ) (offset : ℕ) → P (tells t (content_of bytes offset (asked_count fifth)))
  pub written : (offset : ℕ) (content : List ℕ) → t.current ≡ Ndef → offset + length content ≤ length t.file → P (writes t offset content)

pub by_test : (P : T4Turn → Type 0) (v : Bool) (x y : T4Turn) → (v ≡ true → P x) → (v ≡ false → P y) → P (if v then x else y)
by_test P true x y yes_case no_case = yes_case refl
by_test P false x y yes_case no_case = no_case refl

is_true : (v : Bool) → not v ≡ false → v ≡ true
is_true true h = refl
is_true false h = sym h

on_application : (t : T4State) (fifth : ℕ) (P : T4Turn → Type 0) → OnTurns t fifth P → (name : List ℕ) → P (select_application t name)
on_application t fifth P on name =
    by_test P (pointwise nat_eq name application_name) (opens t) (tells t not_found) (λ h. on.opened) (λ h. on.refused not_found refl)

on_known : (t : T4State) (fifth : ℕ) (P : T4Turn → Type 0) → OnTurns t fifth P → (id : ℕ) → P (select_known t id)
on_known t fifth P on id =
    let ndef : T4Turn = if id == file_id t.container then picks t Ndef else tells t not_found in
    let known : T4Turn = if id == container_id then picks t Container else ndef in
    by_test P (not t.selected) (tells t not_found) known
    (λ h. on.refused not_found refl)
    (λ h. by_test P (id == container_id) (picks t Container) ndef
    (λ k. on.picked Container (is_true t.selected h))
    (λ k. by_test P (id == file_id t.container) (picks t Ndef) (tells t not_found)
    (λ l. on.picked Ndef (is_true t.selected h))
    (λ l. on.refused not_found refl)))

on_file : (t : T4State) (fifth : ℕ) (P : T4Turn → Type 0) → OnTurns t fifth P → (name : List ℕ) → P (select_file t name)
on_file t fifth P on [] = on.refused wrong_length refl
on_file t fifth P on (high ∷ []) = on.refused wrong_length refl
on_file t fifth P on (high ∷ low ∷ []) = on_known t fifth P on (high * 256 + low)
on_file t fifth P on (high ∷ low ∷ more ∷ rest) = on.refused wrong_length refl

on_select : (t : T4State) (fifth : ℕ) (P : T4Turn → Type 0) → OnTurns t fifth P → (p1 p2 : ℕ) (rest : List ℕ) → P (select_turn t p1 p2 rest)
on_select t fifth P on p1 p2 [] = on.refused wrong_length refl
on_select t fifth P on p1 p2 (count ∷ behind) =
    let name : List ℕ = take count behind in
    let by_id : T4Turn = if (p1 == 0x00) && (p2 == 0x0C) then select_file t name else tells t wrong_parameters in
    let named : T4Turn = if (p1 == 0x04) && (p2 == 0x00) then select_application t name else by_id in
    by_test P (not (is_named count behind)) (tells t wrong_length) named
    (λ h. on.refused wrong_length refl)
    (λ h. by_test P ((p1 == 0x04) && (p2 == 0x00)) (select_application t name) by_id
    (λ k. on_application t fifth P on name)
    (λ k. by_test P ((p1 == 0x00) && (p2 == 0x0C)) (select_file t name) (tells t wrong_parameters)
    (λ l. on_file t fifth P on name)
    (λ l. on.refused wrong_parameters refl)))

on_bytes : (t : T4State) (fifth : ℕ) (P : T4Turn → Type 0) → OnTurns t fifth P → (bytes : List ℕ) (offset : ℕ) → P (read_bytes t bytes offset (asked_count fifth))
on_bytes t fifth P on bytes offset =
    by_test P (nat_le offset_end offset || nat_le (length bytes) offset) (tells t wrong_parameters) (tells t (content_of bytes offset (asked_count fifth)))
    (λ h. on.refused wrong_parameters refl)
    (λ h. on.read bytes offset)

on_read_file : (t : T4State) (fifth : ℕ) (P : T4Turn → Type 0) → OnTurns t fifth P → (file : CurrentFile) (offset : ℕ) → P (read_file t file offset (asked_count fifth))
on_read_file t fifth P on NoFile offset = on.refused not_found refl
on_read_file t fifth P on Container offset = on_bytes t fifth P on t.container offset
on_read_file t fifth P on Ndef offset =
    let count : ℕ = asked_count fifth in
    let allowed : T4Turn = if nat_lt (most_read t.container) count then tells t wrong_length else read_bytes t t.file offset count in
    by_test P (not (read_access t.container == everyone)) (tells t not_allowed) allowed
    (λ h. on.refused not_allowed refl)
    (λ h. by_test P (nat_lt (most_read t.container) count) (tells t wrong_length) (read_bytes t t.file offset count)
    (λ k. on.refused wrong_length refl)
    (λ k. on_bytes t fifth P on t.file offset))

inside : (a b c d : ℕ) → (nat_le a b || nat_lt c d) ≡ false → d ≤ c
inside a b c d h = grind arith

on_update_file : (t : T4State) (fifth : ℕ) (P : T4Turn → Type 0) → OnTurns t fifth P → (file : CurrentFile) → t.current ≡ file → (offset : ℕ) (content : List ℕ) → P (update_file t file offset content)
on_update_file t fifth P on NoFile is offset content = on.refused not_found refl
on_update_file t fifth P on Container is offset content = on.refused not_allowed refl
on_update_file t fifth P on Ndef is offset content =
    let beyond : Bool = nat_le offset_end offset || nat_lt (length t.file) (offset + length content) in
    let fits : T4Turn = if beyond then tells t wrong_parameters else writes t offset content in
    let allowed : T4Turn = if nat_lt (most_written t.container) (length content) then tells t wrong_length else fits in
    by_test P (not (write_access t.container == everyone)) (tells t not_allowed) allowed
    (λ h. on.refused not_allowed refl)
    (λ h. by_test P (nat_lt (most_written t.container) (length content)) (tells t wrong_length) fits
    (λ k. on.refused wrong_length refl)
    (λ k. by_test P beyond (tells t wrong_parameters) (writes t offset content)
    (λ l. on.refused wrong_parameters refl)
    (λ l. on.written offset content is (inside offset_end offset (length t.file) (offset + length content) l))))

on_update : (t : T4State) (fifth : ℕ) (P : T4Turn → Type 0) → OnTurns t fifth P → (offset : ℕ) (rest : List ℕ) → P (update_turn t offset rest)
on_update t fifth P on offset [] = on.refused wrong_length refl
on_update t fifth P on offset (count ∷ content) =
    by_test P ((count == 0) || not (length content == count)) (tells t wrong_length) (update_file t t.current offset content)
    (λ h. on.refused wrong_length refl)
    (λ h. on_update_file t fifth P on t.current refl offset content)

on_read : (t : T4State) (p1 p2 c i : ℕ) (P : T4Turn → Type 0) (rest : List ℕ) → OnTurns t (slice_index (c ∷ i ∷ p1 ∷ p2 ∷ rest) 4) P → P (read_turn t (p1 * 256 + p2) rest)
on_read t p1 p2 c i P [] on = on.refused wrong_length refl
on_read t p1 p2 c i P (expected ∷ []) on = on_read_file t expected P on t.current (p1 * 256 + p2)
on_read t p1 p2 c i P (expected ∷ more ∷ rest) on = on.refused wrong_length refl

pub on_step : (t : T4State) (P : T4Turn → Type 0) (bytes : List ℕ) → OnTurns t (slice_index bytes 4) P → P (t4_step t bytes)
on_step t P [] on = on.refused wrong_length refl
on_step t P (a ∷ []) on = on.refused wrong_length refl
on_step t P (a ∷ b ∷ []) on = on.refused wrong_length refl
on_step t P (a ∷ b ∷ d ∷ []) on = on.refused wrong_length refl
on_step t P (class ∷ instruction ∷ p1 ∷ p2 ∷ rest) on =
    let fifth : ℕ = slice_index (class ∷ instruction ∷ p1 ∷ p2 ∷ rest) 4 in
    let offset : ℕ = p1 * 256 + p2 in
    let third : T4Turn = if instruction == update_code then update_turn t offset rest else tells t wrong_instruction in
    let second : T4Turn = if instruction == read_code then read_turn t offset rest else third in
    let first : T4Turn = if instruction == select_code then select_turn t p1 p2 rest else second in
    by_test P (not (class == class_byte)) (tells t wrong_class) first
    (λ h. on.refused wrong_class refl)
    (λ h. by_test P (instruction == select_code) (select_turn t p1 p2 rest) second
    (λ k. on_select t fifth P on p1 p2 rest)
    (λ k. by_test P (instruction == read_code) (read_turn t offset rest) third
    (λ l. on_read t p1 p2 class instruction P rest on)
    (λ l. by_test P (instruction == update_code) (update_turn t offset rest) (tells t wrong_instruction)
    (λ m. on_update t fifth P on offset rest)
    (λ m. on.refused wrong_instruction refl))))
