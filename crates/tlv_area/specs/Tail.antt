-- Where a message is written: the addresses of the old one's TLV from its second byte on, and what stands there then.
use Rattle.std.specs.Prelude.{ℕ, ◌+◌, ◌-◌, min, Bool, nat_lt, nat_le, if◌then◌else◌, List, [], ◌∷◌, ◌++◌, length, take}
use Rattle.std.specs.Prelude.{drop}
use Rattle.tlv_area.specs.declared.space.AreaMap.{AreaMap}
use Rattle.tlv_area.specs.Layout.{length_bytes, terminator}
use Rattle.tlv_area.specs.Map.{map_cells}

-- The tail of a message's TLV that lies at `at`, with `after` the addresses behind it: all of them but the type byte's,
-- which stays.
abbrev pub message_tail : List ℕ → List ℕ → List ℕ
message_tail at after = drop 1 (at ++ after)

-- the same, by the map
abbrev pub map_tail : AreaMap → List ℕ
map_tail m = drop (m.tlv + 1) (map_cells m)

-- how many addresses a new message's TLV may take: those from the type byte on
abbrev pub map_room : AreaMap → ℕ
map_room m = length (map_cells m) - m.tlv

-- How long a message may be in so many: type and length take two of them up to a length of 254, else four. Of 257 or
-- 258 a length of three bytes would leave fewer than 255, so the last one or two stay for the terminator.
abbrev pub capacity_of : ℕ → ℕ
capacity_of room = if nat_le room 256 then room - 2 else if nat_le room 258 then 254 else min (room - 4) 65534

-- What a message has written there: its length in the shortest form, the message, and a terminator where a byte is
-- left.
abbrev pub is_long : List ℕ → Bool
is_long message = nat_lt 254 (length message)

abbrev pub new_tail : List ℕ → List ℕ
new_tail message = length_bytes (is_long message) (length message) ++ message

-- what stands behind these bytes
abbrev pub end_mark : ℕ → List ℕ → List ℕ
end_mark room bytes = if nat_lt (length bytes) room then terminator ∷ [] else []

abbrev pub written : ℕ → List ℕ → List ℕ
written room message = new_tail message ++ end_mark room (new_tail message)

-- the addresses that it takes of a tail
abbrev pub span : List ℕ → List ℕ → List ℕ
span tail message = take (length (written (length tail) message)) tail
