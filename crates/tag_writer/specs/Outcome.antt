-- What a write may tell that neither its link nor want of memory stops.
use Rattle.std.specs.Prelude.{◌≡◌, ℕ, ◌<◌, ◌≤◌, List, length, true, false, Some, None, Result, Ok, Err}
use Rattle.nfc_base.specs.Signal.{Signal}
use Rattle.nfc_base.specs.TagLinks.{TagState, TagStep}
use Rattle.tlv_area.specs.declared.container.ContainerFault.TheVariants as container
use Rattle.tlv_area.specs.Form.{Faulty, NoMessageTlv, BadTlv}
use Rattle.tag_reader.specs.declared.how.How.{How}
use Rattle.tag_reader.specs.Kinds.{IsStoreForm}
use Rattle.tag_reader.specs.Access.{IsAccess}
use Rattle.tag_writer.specs.declared.fault.WriteFault.{WriteFault}
use Rattle.tag_writer.specs.declared.fault.WriteFault.TheVariants as fault
use Rattle.tag_writer.specs.Place.{Place, IsPlaceIn, HasPieces}
use Rattle.tag_writer.specs.WriteAsked.{Writes}

-- The store holds a message, and writing isn't free.
abbrev pub IsReadOnly : How → ℕ → List ℕ → List ℕ → Type 0
IsReadOnly how size store message = ((place : Place) × IsPlaceIn how size store message place)
    × IsAccess how size store false

-- Writing is free, but the message is longer than so many bytes, which is all the room there is.
abbrev pub IsTooLong : How → ℕ → List ℕ → List ℕ → ℕ → Type 0
IsTooLong how size store message n =
    (place : Place) × IsPlaceIn how size store message place × IsAccess how size store true × (n ≡ place.room)
    × (n < length message)

-- There is room, but one update brings fewer than two bytes.
abbrev pub IsShort : How → ℕ → List ℕ → List ℕ → Type 0
IsShort how size store message =
    (place : Place) × IsPlaceIn how size store message place × IsAccess how size store true
    × (length message ≤ place.room) × (HasPieces how store → ⊥)

-- Success, or a fault of the store's form, of what the message asks for, or of the tag: by the store, the tag's step
-- and the message alone.
abbrev pub IsOutcome : How → ℕ → (TagState → Signal → TagStep) → TagState → List ℕ → Result Unit WriteFault → Type 0
IsOutcome how size step s message (Ok done) = Writes how size step s message None
IsOutcome how size step s message (Err fault.NotNdef) = IsStoreForm how size s.store (Faulty container.NotNdef)
IsOutcome how size step s message (Err fault.Version) = IsStoreForm how size s.store (Faulty container.Version)
IsOutcome how size step s message (Err fault.NoRead) = IsStoreForm how size s.store (Faulty container.NoRead)
IsOutcome how size step s message (Err fault.Sectors) = IsStoreForm how size s.store (Faulty container.Sectors)
IsOutcome how size step s message (Err fault.BadSize) = IsStoreForm how size s.store (Faulty container.BadSize)
IsOutcome how size step s message (Err fault.NoMessageTlv) = IsStoreForm how size s.store NoMessageTlv
IsOutcome how size step s message (Err fault.BadTlv) = IsStoreForm how size s.store BadTlv
IsOutcome how size step s message (Err (fault.Refused code)) = Writes how size step s message (Some code)
IsOutcome how size step s message (Err fault.ReadOnly) = IsReadOnly how size s.store message
IsOutcome how size step s message (Err (fault.TooLong n)) = IsTooLong how size s.store message n
IsOutcome how size step s message (Err fault.ShortMlc) = IsShort how size s.store message
IsOutcome how size step s message (Err fault.FieldLost) = ⊥
IsOutcome how size step s message (Err fault.SixBad) = ⊥
IsOutcome how size step s message (Err fault.Memory) = ⊥
IsOutcome how size step s message (Err fault.Protocol) = ⊥
