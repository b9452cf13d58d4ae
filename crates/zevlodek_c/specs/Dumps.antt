-- What C is told of a tag's memory that was read out (this project's own; what a memory holds is tlv_area's).
use Rattle.std.specs.Prelude.{◌≡◌, ℕ, ℤ, ◌<◌, ◌≤◌, ◌⊎◌, List, length, take, Bool, true, false, nat_lt, if◌then◌else◌}
use Rattle.std.specs.Prelude.{Result, Ok, Err}
use Rattle.tlv_area.specs.declared.space.Space.{Space}
use Rattle.tlv_area.specs.declared.space.AreaMap.{AreaMap}
use Rattle.tlv_area.specs.declared.container.FileMap.{FileMap}
use Rattle.tlv_area.specs.declared.container.ContainerFault.{ContainerFault}
use Rattle.tlv_area.specs.declared.walk.Walk.{Walk}
use Rattle.tlv_area.specs.declared.walk.Walk.TheVariants as walks
use Rattle.tlv_area.specs.Containers.{t2_container, t4_container, t5_is_open, container_fault_number}
use Rattle.tlv_area.specs.Form.{Form, Faulty, Message, NoMessageTlv, BadTlv, IsForm, NeedsMore}
use Rattle.tlv_area.specs.Map.{IsWalk}
use Rattle.tlv_area.specs.Tail.{capacity_of, map_room}
use Rattle.tlv_area.specs.Stores.{IsT2Form, cut, four_bytes, t5_area}
use Rattle.tag_reader.specs.Numbers.{read_fault_number}
use Rattle.tag_reader.specs.declared.fault.ReadFault.TheVariants as reads
use Rattle.zevlodek_c.specs.declared.dumps.T4File.{T4File}
use Rattle.zevlodek_c.specs.declared.showing.Told.{Told}
use Rattle.zevlodek_c.specs.Codes.{done, no_memory, ends_early, bad_argument, tag_fault}
use Rattle.zevlodek_c.specs.Showing.{Seen, shows, answers, of_bool}

-- The message is told, and whether it may be written.
pub record IsMessageTold (is : Form → Type 0) (out : List ℕ) (told : Told) (seen : Seen) : Type 0 where
  pub message : List ℕ
  pub writable : ℕ
  pub held : is (Message message)
  pub shown : seen ≡ shows done message out (record told { writable = writable })

-- Of a memory whose form `is` tells, and that may end before its message does, this is told, unless memory is wanting.
abbrev pub IsFormTold : (Form → Type 0) → Type 0 → List ℕ → Told → Seen → Type 0
IsFormTold is early out told seen =
    IsMessageTold is out told seen
    ⊎ ((is NoMessageTlv × (seen ≡ answers (tag_fault (read_fault_number reads.NoMessageTlv)) out told))
    ⊎ ((is BadTlv × (seen ≡ answers (tag_fault (read_fault_number reads.BadTlv)) out told))
    ⊎ ((early × (seen ≡ answers ends_early out told)) ⊎ (seen ≡ answers no_memory out told))))

-- the container is faulty
pub record IsFaultTold (is : Form → Type 0) (out : List ℕ) (told : Told) (seen : Seen) : Type 0 where
  pub fault : ContainerFault
  pub held : is (Faulty fault)
  pub shown : seen ≡ answers (tag_fault (container_fault_number fault)) out told

-- a memory ends before its container does, or before its message
abbrev pub EndsEarly : List ℕ → Type 0
EndsEarly memory =
    (length memory < 16) ⊎ ((space : Space) × (t2_container (four_bytes memory 12) ≡ Ok space) × NeedsMore space memory)

-- what is told of the memory of a Type 2 tag
abbrev pub T2Told : List ℕ → List ℕ → Told → Seen → Type 0
T2Told memory out told seen =
    IsFaultTold (IsT2Form memory) out told seen ⊎ IsFormTold (IsT2Form memory) (EndsEarly memory) out told seen

-- The area of a memory, where its container is whole and not faulty; else what is told.
abbrev pub area_told : Bool → Result Space ContainerFault → Result Space ℤ
area_told true area = Err ends_early
area_told false (Err fault) = Err (tag_fault (container_fault_number fault))
area_told false (Ok space) = Ok space

abbrev pub t2_area_told : List ℕ → Result Space ℤ
t2_area_told memory = area_told (nat_lt (length memory) 16) (t2_container (four_bytes memory 12))

-- of a Type 5 tag with blocks of so many bytes
abbrev pub t5_area_told : ℕ → List ℕ → Result Space ℤ
t5_area_told size memory = area_told (t5_is_open memory) (t5_area size memory)

-- What is told of the message of an area whose memory may end before it does.
abbrev pub MessageTold : Result Space ℤ → List ℕ → List ℕ → Told → Seen → Type 0
MessageTold (Err answer) memory out told seen = seen ≡ answers answer out told
MessageTold (Ok space) memory out told seen =
    IsFormTold (IsForm space memory) (NeedsMore space memory) out told seen

-- What is told of where a message lies: how long it is, how long one may be, and whether writing is free.
abbrev pub room_told : AreaMap → Told → Told
room_told m told =
    record told { length = m.length; capacity = capacity_of (map_room m); writable = of_bool m.space.writable }

abbrev pub walk_told : Walk → List ℕ → Told → Seen
walk_told (walks.Held m) out told = answers done out (room_told m told)
walk_told walks.NoMessageTlv out told = answers (tag_fault (read_fault_number reads.NoMessageTlv)) out told
walk_told walks.BadTlv out told = answers (tag_fault (read_fault_number reads.BadTlv)) out told
walk_told walks.More out told = answers ends_early out told

pub record IsWalkTold (space : Space) (memory out : List ℕ) (told : Told) (seen : Seen) : Type 0 where
  pub walk : Walk
  pub held : IsWalk space memory walk
  pub shown : seen ≡ walk_told walk out told

-- A tag ends where its memory does, and so does its area at the latest.
abbrev pub RoomTold : Result Space ℤ → List ℕ → List ℕ → Told → Seen → Type 0
RoomTold (Err answer) memory out told seen = seen ≡ answers answer out told
RoomTold (Ok space) memory out told seen = IsWalkTold (cut space (length memory)) memory out told seen

-- how many bytes a block of a Type 5 tag may have
abbrev pub IsBlockSize : ℕ → Type 0
IsBlockSize size = (1 ≤ size) × (size ≤ 256)

-- what a call tells where there are blocks of so many bytes
pub record T5Tells (size : ℕ) (tells : Seen → Type 0) (out : List ℕ) (told : Told) (seen : Seen) : Type 0 where
  pub taken : IsBlockSize size → tells seen
  pub refused : (IsBlockSize size → ⊥) → seen ≡ answers bad_argument out told

-- an answer, and the file that C's numbers say behind the call
pub record FileSeen : Type 0 where
  pub answer : ℤ
  pub file : T4File

abbrev pub file_of : FileMap → T4File
file_of m = record { id = m.id; size = m.size; mle = m.mle; mlc = m.mlc; writable = of_bool m.writable }

abbrev pub file_seen : T4File → Result FileMap ContainerFault → FileSeen
file_seen file (Ok m) = record { answer = done; file = file_of m }
file_seen file (Err fault) = record { answer = tag_fault (container_fault_number fault); file = file }

-- the file that the first bytes of a capability container file name; where they name none the numbers stay
abbrev pub file_told : List ℕ → T4File → FileSeen
file_told bytes file =
    if nat_lt (length bytes) 15 then record { answer = ends_early; file = file }
    else file_seen file (t4_container (take 15 bytes))
