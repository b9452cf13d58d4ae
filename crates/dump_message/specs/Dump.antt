-- What a dump tells: its text spells a memory, and the memory holds a message, or none for a cause (NFC Forum Type 2
-- Tag).
use Rattle.std.specs.Prelude.{◌+◌, ◌≡◌, ℕ, ◌<◌, ◌⊎◌, List, length, filter, not, Result, Ok, Err, IsErr}
use Rattle.std.specs.Char.{is_ascii_whitespace}
use Rattle.hex.specs.Hex.{decode_of}
use Rattle.tlv_area.specs.declared.space.Space.{Space}
use Rattle.tlv_area.specs.declared.container.ContainerFault.{ContainerFault}
use Rattle.tlv_area.specs.Containers.{t2_container, container_fault_number}
use Rattle.tlv_area.specs.Form.{Faulty, NoMessageTlv, BadTlv as BadForm, NeedsMore}
use Rattle.tlv_area.specs.Stores.{IsT2Form, four_bytes}
use Rattle.dump_message.specs.declared.dump.DumpFault.{DumpFault}
use Rattle.dump_message.specs.declared.dump.DumpFault.TheVariants.{NotHex, Unread, Unwritten, Memory, Short, Container}
use Rattle.dump_message.specs.declared.dump.DumpFault.TheVariants.{NoMessage, BadTlv}

-- the exit status of a refusal
abbrev pub status_of : DumpFault → ℕ
status_of NotHex = 2
status_of Unread = 3
status_of Unwritten = 4
status_of Memory = 5
status_of Short = 6
status_of NoMessage = 7
status_of BadTlv = 8
status_of (Container fault) = 10 + container_fault_number fault

-- a text without its white space
abbrev pub digits : List ℕ → List ℕ
digits text = filter (λ c. not (is_ascii_whitespace c)) text

-- a text spells a memory, two digits a byte
abbrev pub Spells : List ℕ → List ℕ → Type 0
Spells text memory = decode_of (digits text) ≡ Ok memory

-- the way to the message needs a byte behind the memory's end
abbrev pub NeedsMoreBy : Result Space ContainerFault → List ℕ → Type 0
NeedsMoreBy (Ok space) memory = NeedsMore space memory
NeedsMoreBy (Err fault) memory = ⊥

-- a memory ends before its container does, or before its message
abbrev pub IsShort : List ℕ → Type 0
IsShort memory = (length memory < 16) ⊎ NeedsMoreBy (t2_container (four_bytes memory 12)) memory

-- why no memory is taken from a text
abbrev pub RefusesText : List ℕ → DumpFault → Type 0
RefusesText text NotHex = IsErr (decode_of (digits text))
RefusesText text Memory = Unit {0}
RefusesText text fault = ⊥

-- why no message is taken from a memory
abbrev pub RefusesMemory : List ℕ → DumpFault → Type 0
RefusesMemory memory Short = IsShort memory
RefusesMemory memory (Container fault) = IsT2Form memory (Faulty fault)
RefusesMemory memory NoMessage = IsT2Form memory NoMessageTlv
RefusesMemory memory BadTlv = IsT2Form memory BadForm
RefusesMemory memory Memory = Unit {0}
RefusesMemory memory fault = ⊥

-- why no message is told of a dump
abbrev pub RefusesDump : List ℕ → DumpFault → Type 0
RefusesDump text fault = RefusesText text fault ⊎ ((memory : List ℕ) × Spells text memory × RefusesMemory memory fault)
