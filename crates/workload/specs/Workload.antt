-- A workload: a script made from a seed and a count. It places a Type 2 tag and a peer; then, in each of its rounds,
-- frames are lost, a message is written to the tag and read, and another is put to the peer. (This project's own.)
use Rattle.std.specs.Prelude.{◌≡◌, ℕ, ◌+◌, ◌*◌, ◌%◌, ◌<◌, ◌≤◌, ◌++◌, List, [], ◌∷◌, codes, length, slice_index_or}
use Rattle.std.specs.List.{range_with_len, flat_map, repeat}
use Rattle.nfc_base.specs.declared.event.Fate.{Fate}
use Rattle.nfc_base.specs.declared.event.Fate.TheVariants.{Pass, Lose}
use Rattle.bench_script.specs.declared.command.Command.{Command}
use Rattle.bench_script.specs.declared.command.Command.TheVariants.{Skip, Fates, PlaceT2, PlacePeer, Read, Write, Link}
use Rattle.bench_script.specs.declared.command.Command.TheVariants.{Put}
use Rattle.bench_script.specs.declared.command.DeviceId.TheVariants.{A}
use Rattle.bench_script.specs.declared.message.Msg.TheVariants.{Gen}
use Rattle.bench_script.specs.Canonical.{message_text}
use Rattle.bench_script.specs.Script.{Spells}

-- what a workload is made from
pub record SeedAndCount : Type 0 where
  pub seed : ℕ
  pub count : ℕ

-- how many rounds it may have
abbrev pub least_count : ℕ
least_count = 1

abbrev pub most_count : ℕ
most_count = 150

abbrev pub IsCount : ℕ → Type 0
IsCount n = (least_count ≤ n) × (n ≤ most_count)

-- how many bytes the message has that round i writes, and how many the one that it puts
abbrev pub written_size : ℕ → ℕ → ℕ
written_size seed i = (17 * seed + 53 * i) % 200

abbrev pub put_size : ℕ → ℕ → ℕ
put_size seed i = (31 * seed + 97 * i) % 1024

-- the first byte of both
abbrev pub first_byte : ℕ → ℕ
first_byte i = i % 256

-- the lines that place the tag and the peer
abbrev pub tag_line : List ℕ
tag_line = codes "place t2 04112233445566 231 000000000000000000000000E1106D000300FE"

abbrev pub peer_line : List ℕ
peer_line = codes "place peer 08010203 3 128 1 1024"

-- of 29 frames the last is lost, and so twenty times
abbrev pub fate_letters : List ℕ
fate_letters = repeat 28 (codes "P") ++ codes "L"

abbrev pub fates_line : List ℕ
fates_line = codes "fates " ++ repeat 20 fate_letters

abbrev pub write_line : ℕ → ℕ → List ℕ
write_line size first = codes "write 04112233445566 " ++ message_text (Gen size first)

abbrev pub read_line : List ℕ
read_line = codes "read 04112233445566"

abbrev pub link_line : List ℕ
link_line = codes "link 08010203 128 1"

abbrev pub put_line : ℕ → ℕ → List ℕ
put_line size first = codes "put " ++ message_text (Gen size first)

-- the lines of round i
abbrev pub round_lines : ℕ → ℕ → List (List ℕ)
round_lines seed i =
    fates_line ∷ write_line (written_size seed i) (first_byte i) ∷ read_line ∷ link_line
    ∷ put_line (put_size seed i) (first_byte i) ∷ []

-- the lines of a workload, without their LFs
abbrev pub workload_lines : ℕ → ℕ → List (List ℕ)
workload_lines seed count = tag_line ∷ peer_line ∷ flat_map (round_lines seed) (range_with_len 0 count)

-- the identifiers of the tag and the peer
abbrev pub tag_id : List ℕ
tag_id = 0x04 ∷ 0x11 ∷ 0x22 ∷ 0x33 ∷ 0x44 ∷ 0x55 ∷ 0x66 ∷ []

abbrev pub peer_id : List ℕ
peer_id = 0x08 ∷ 0x01 ∷ 0x02 ∷ 0x03 ∷ []

-- what the tag's memory begins with: 12 bytes, the capability container, an empty NDEF Message TLV and a Terminator TLV
-- (NFC Forum Type 2 Tag)
abbrev pub tag_head : List ℕ
tag_head = repeat 12 (0 ∷ []) ++ 0xE1 ∷ 0x10 ∷ 0x6D ∷ 0x00 ∷ 0x03 ∷ 0x00 ∷ 0xFE ∷ []

abbrev pub round_fates : List Fate
round_fates = repeat 20 (repeat 28 (Pass ∷ []) ++ Lose ∷ [])

-- what the lines of round i ask for
abbrev pub round_commands : ℕ → ℕ → List Command
round_commands seed i =
    Fates round_fates ∷ Write (A tag_id) (Gen (written_size seed i) (first_byte i)) ∷ Read (A tag_id)
    ∷ Link peer_id 128 1
    ∷ Put (Gen (put_size seed i) (first_byte i)) ∷ []

-- what the lines of a workload ask for
abbrev pub workload_commands : ℕ → ℕ → List Command
workload_commands seed count =
    PlaceT2 tag_id 231 tag_head ∷ PlacePeer peer_id 3 128 1 1024
    ∷ flat_map (round_commands seed) (range_with_len 0 count)

-- Each line spells the command at its place, and there are as many of these as of those.
pub record SpellEach (lines : List (List ℕ)) (commands : List Command) : Type 0 where
  pub size : length commands ≡ length lines
  pub at : (place : ℕ) → place < length lines → Spells (slice_index_or lines place [])
      (slice_index_or commands place Skip)
