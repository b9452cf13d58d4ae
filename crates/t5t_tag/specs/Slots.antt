-- A round of sixteen slots, as one tag sees it (ISO/IEC 15693-3): each tag that a mask asks for answers in one of
-- them, by the next four bits of its identifier.
use Rattle.std.specs.Prelude.{ℕ, ◌+◌, ◌/◌, ◌%◌, ◌^◌, List, Bool, ◌==◌, ◌&&◌, nat_le, if◌then◌else◌, Option, Some, None}
use Rattle.std.specs.Int.{w64, from_be_bytes}
use Rattle.t5t_tag.specs.declared.round.Round.{Round}
use Rattle.t5t_tag.specs.Mask.{asks_for}

-- how many slots a round has, and the last of them
abbrev pub slot_count : ℕ
slot_count = 16

abbrev pub last_slot : ℕ
last_slot = 15

-- how many bits its mask has at most: the next four are still in the identifier
abbrev pub most_slot_bits : ℕ
most_slot_bits = 60

-- an identifier, high byte first, as a number
abbrev pub id_number : List ℕ → ℕ
id_number id = from_be_bytes w64 id

-- the slot of a tag behind a mask of so many bits: the next four bits of its identifier as a number
abbrev pub slot_of : List ℕ → ℕ → ℕ
slot_of id bits = id_number id / 2 ^ bits % slot_count

-- whether a mask of so many bits asks for an identifier in slots
abbrev pub asks_in_slots : List ℕ → ℕ → List ℕ → Bool
asks_in_slots id bits mask = nat_le bits most_slot_bits && asks_for id bits mask

-- a round in its first slot
abbrev pub begun : ℕ → Round
begun slot = record { slot = slot; current = 0 }

-- in its next slot: there is none behind the last
abbrev pub moved_on : Round → Option Round
moved_on r = if nat_le last_slot r.current then None else Some (record r { current = r.current + 1 })

-- it stands in the tag's own slot
abbrev pub is_own : Round → Bool
is_own r = r.current == r.slot
