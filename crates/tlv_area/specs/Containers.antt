-- Capability containers (NFC Forum Type 2, Type 4 and Type 5 Tag): which condition refuses one, and the area or the
-- file that it names. The order in which the conditions are tried is this project's own.
use Rattle.std.specs.Prelude.{ℕ, ◌+◌, ◌*◌, ◌/◌, ◌%◌, Bool, not, ◌||◌, ◌&&◌, ◌==◌, nat_lt, true, false, if◌then◌else◌}
use Rattle.std.specs.Prelude.{List, [], ◌∷◌, ◌++◌, length, slice_index, Option, Some, None, Result, Ok, Err}
use Rattle.nfc_base.specs.Words.{word}
use Rattle.tlv_area.specs.declared.space.Space.{Space}
use Rattle.tlv_area.specs.declared.container.FileMap.{FileMap}
use Rattle.tlv_area.specs.declared.container.T5Container.{T5Container}
use Rattle.tlv_area.specs.declared.container.T5Container.TheVariants.{Ready, More}
use Rattle.tlv_area.specs.declared.container.ContainerFault.{ContainerFault}
use Rattle.tlv_area.specs.declared.container.ContainerFault.TheVariants.{NotNdef, Version, NoRead, Sectors, BadSize}

-- the fault of the first condition that holds, in the order of the list
abbrev pub first_fault : List (Bool × ContainerFault) → Option ContainerFault
first_fault [] = None
first_fault (row ∷ rows) = if row.0 then Some row.1 else first_fault rows

-- the value, where there is no fault
abbrev pub unless : Option ContainerFault → {A : Type 0} → A → Result A ContainerFault
unless None a = Ok a
unless (Some f) a = Err f

abbrev pub is_none : Option ContainerFault → Bool
is_none None = true
is_none (Some f) = false

-- four bits of a byte
abbrev pub high_nibble : ℕ → ℕ
high_nibble b = b / 16

abbrev pub low_nibble : ℕ → ℕ
low_nibble b = b % 16

-- Type 2, block 3: the magic number E1h, version and access in the two nibbles of bytes 1 and 3, the size in byte 2
abbrev pub t2_faults : List ℕ → List (Bool × ContainerFault)
t2_faults b =
    (not (slice_index b 0 == 0xE1), NotNdef)
    ∷ (not (high_nibble (slice_index b 1) == 1), Version)
    ∷ (not (high_nibble (slice_index b 3) == 0), NoRead)
    ∷ (nat_lt 0x7E (slice_index b 2), Sectors)
    ∷ (slice_index b 2 == 0, BadSize)
    ∷ []

-- the area behind the first four blocks of four bytes
abbrev pub t2_space : List ℕ → Space
t2_space b = record {
  start = 16;
  end = 16 + 8 * slice_index b 2;
  control = true;
  writable = low_nibble (slice_index b 3) == 0;
}

abbrev pub t2_container : List ℕ → Result Space ContainerFault
t2_container b = unless (first_fault (t2_faults b)) (t2_space b)

-- Type 5, from the first byte on: the magic number E1h, or E2h where blocks have numbers of two bytes; version and
-- access in two bits each of byte 1; the size MLEN in byte 2 or, where that is 0, in bytes 6 and 7, high byte first.
-- Such a container has eight bytes, any other four.
abbrev pub t5_is_long : List ℕ → Bool
t5_is_long b = slice_index b 2 == 0

abbrev pub t5_container_size : List ℕ → ℕ
t5_container_size b = if t5_is_long b then 8 else 4

abbrev pub t5_mlen : List ℕ → ℕ
t5_mlen b = if t5_is_long b then word b 6 else slice_index b 2

-- what the first four bytes tell
abbrev pub t5_head_faults : List ℕ → List (Bool × ContainerFault)
t5_head_faults b =
    (not (slice_index b 0 == 0xE1) && not (slice_index b 0 == 0xE2), NotNdef)
    ∷ (not (slice_index b 1 / 64 == 1), Version)
    ∷ (not (slice_index b 1 / 4 % 4 == 0), NoRead)
    ∷ []

-- A memory that ends before the container does names no size either.
abbrev pub t5_faults : List ℕ → List (Bool × ContainerFault)
t5_faults b = t5_head_faults b ++ (nat_lt (length b) (t5_container_size b) || (t5_mlen b == 0), BadSize) ∷ []

-- the area behind the container; a tag that ends before it cuts it there
abbrev pub t5_space : List ℕ → Space
t5_space b = record {
  start = t5_container_size b;
  end = t5_container_size b + 8 * t5_mlen b;
  control = false;
  writable = slice_index b 1 % 4 == 0;
}

-- What a Type 5 container names: the area, whether blocks have numbers of two bytes, and whether one command may read
-- many blocks, which is bit 0 of byte 3.
pub record T5Area : Type 0 where
  pub space : Space
  pub wide : Bool
  pub many : Bool

abbrev pub t5_named : List ℕ → T5Area
t5_named b = record { space = t5_space b; wide = slice_index b 0 == 0xE2; many = slice_index b 3 % 2 == 1 }

-- the container of a memory
abbrev pub t5_container : List ℕ → Result T5Area ContainerFault
t5_container b = unless (first_fault (t5_faults b)) (t5_named b)

-- A front of a memory doesn't tell its container: it has fewer than four bytes, or they have no fault and say that
-- there are eight, and it has fewer.
abbrev pub t5_is_open : List ℕ → Bool
t5_is_open b = nat_lt (length b) 4 || (is_none (first_fault (t5_head_faults b)) && t5_is_long b && nat_lt (length b) 8)

-- what a front of a memory tells of its container
abbrev pub t5_ready : Result T5Area ContainerFault → Result T5Container ContainerFault
t5_ready (Err fault) = Err fault
t5_ready (Ok area) = Ok (Ready area.space area.wide area.many)

abbrev pub t5_front : List ℕ → Result T5Container ContainerFault
t5_front b = if t5_is_open b then Ok More else t5_ready (t5_container b)

-- Type 4, bytes 0 to 14: CCLEN at 0, the version at 2, MLe at 3, MLc at 5, the file control TLV with its type and
-- length at 7, the file's identifier at 9, its size at 11, and its access at 13 and 14
abbrev pub t4_faults : List ℕ → List (Bool × ContainerFault)
t4_faults b =
    (not (word b 7 == 0x0406), NotNdef)
    ∷ (not (high_nibble (slice_index b 2) == 2) && not (high_nibble (slice_index b 2) == 3), Version)
    ∷ (not (slice_index b 13 == 0), NoRead)
    ∷ (nat_lt (word b 0) 15 || nat_lt (word b 3) 15 || nat_lt (word b 11) 2 || nat_lt 0x7FFF (word b 11), BadSize)
    ∷ []

abbrev pub t4_file : List ℕ → FileMap
t4_file b = record { id = word b 9; size = word b 11; mle = word b 3; mlc = word b 5; writable = slice_index b 14 == 0 }

abbrev pub t4_container : List ℕ → Result FileMap ContainerFault
t4_container b = unless (first_fault (t4_faults b)) (t4_file b)

abbrev pub container_fault_number : ContainerFault → ℕ
container_fault_number NotNdef = 1
container_fault_number Version = 2
container_fault_number NoRead = 3
container_fault_number Sectors = 4
container_fault_number BadSize = 5
