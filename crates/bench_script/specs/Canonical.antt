-- The canonical spelling of a command: of those that spell it, the one with upper-case digits, and the empty line of
-- those that ask for nothing.
use Rattle.std.specs.Prelude.{◌≡◌, ◌≢◌, ◌++◌, ℕ, List, [], ◌∷◌, map, codes, length, ◌==◌, if◌then◌else◌}
use Rattle.std.specs.List.{All, flat_map, join_with_byte}
use Rattle.std.specs.Fmt.{decimal}
use Rattle.hex.specs.Hex.{encode_upper}
use Rattle.nfc_base.specs.Signal.{Signal}
use Rattle.nfc_base.specs.declared.event.Fate.{Fate}
use Rattle.bench_script.specs.declared.command.Command.{Command}
use Rattle.bench_script.specs.declared.command.Command.TheVariants.{Skip, Fates, PlaceT2, PlaceT3, PlaceT4, PlaceT5}
use Rattle.bench_script.specs.declared.command.Command.TheVariants.{PlacePeer, Lock, Busy, Offer, Remove, Dump, Inbox}
use Rattle.bench_script.specs.declared.command.Command.TheVariants.{Find, Crowd, Poll3, Read, Read3, Write, Write3}
use Rattle.bench_script.specs.declared.command.Command.TheVariants.{Link, Forge, Raw, Put, Get, Lookup, OnPut, OnGet}
use Rattle.bench_script.specs.declared.command.Command.TheVariants.{Puts, Unlink}
use Rattle.bench_script.specs.declared.command.DeviceId.{DeviceId}
use Rattle.bench_script.specs.declared.command.SlotPut.{SlotPut}
use Rattle.bench_script.specs.declared.message.Msg.{Msg}
use Rattle.bench_script.specs.declared.message.Msg.TheVariants.{Hex, Gen}
use Rattle.bench_script.specs.DeviceIds.{bytes_of}
use Rattle.bench_script.specs.Script.{fate_letter, tail_text, Spells}

-- HEX: upper-case digits, two a byte; `-` for no bytes
abbrev pub hex_text : List ℕ → List ℕ
hex_text bytes = if length bytes == 0 then codes "-" else encode_upper bytes

-- FATES
abbrev pub fates_text : List Fate → List ℕ
fates_text fates = map fate_letter fates

-- ID
abbrev pub id_text : DeviceId → List ℕ
id_text id = encode_upper (bytes_of id)

-- MSG, as it was spelled
abbrev pub message_text : Msg → List ℕ
message_text (Hex bytes) = hex_text bytes
message_text (Gen count start) = codes "gen:" ++ decimal count ++ 58 ∷ decimal start

-- FRAME
abbrev pub frame_text : Signal → List ℕ
frame_text f = hex_text f.bytes ++ tail_text f.tail

-- K:MSG
abbrev pub slot_put_text : SlotPut → List ℕ
slot_put_text p = decimal p.slot ++ 58 ∷ message_text p.message

-- words, each behind a space
abbrev pub row_text : List (List ℕ) → List ℕ
row_text words = flat_map (λ w. 32 ∷ w) words

-- `place`, a kind, an ID and a number
abbrev pub place_text : List ℕ → List ℕ → ℕ → List ℕ
place_text kind id n = join_with_byte 32 (codes "place" ∷ kind ∷ encode_upper id ∷ decimal n ∷ [])

-- its words
abbrev pub canonical_words : Command → List (List ℕ)
canonical_words Skip = []
canonical_words (Fates fates) = codes "fates" ∷ fates_text fates ∷ []
canonical_words (PlaceT2 id blocks head) = codes "place" ∷ codes "t2" ∷ encode_upper id ∷ decimal blocks ∷ hex_text head
    ∷ []
canonical_words (PlaceT3 id blocks head) = codes "place" ∷ codes "t3" ∷ encode_upper id ∷ decimal blocks ∷ hex_text head
    ∷ []
canonical_words (PlaceT4 id code container head) =
    codes "place" ∷ codes "t4" ∷ encode_upper id ∷ decimal code ∷ hex_text container ∷ hex_text head ∷ []
canonical_words (PlaceT5 id blocks size head) =
    codes "place" ∷ codes "t5" ∷ encode_upper id ∷ decimal blocks ∷ decimal size ∷ hex_text head ∷ []
canonical_words (PlacePeer id lr miu rw limit) =
    codes "place" ∷ codes "peer" ∷ encode_upper id ∷ decimal lr ∷ decimal miu ∷ decimal rw ∷ decimal limit ∷ []
canonical_words (Lock id block) = codes "lock" ∷ id_text id ∷ decimal block ∷ []
canonical_words (Busy id count times) = codes "busy" ∷ id_text id ∷ decimal count ∷ decimal times ∷ []
canonical_words (Offer id key value) = codes "offer" ∷ id_text id ∷ hex_text key ∷ hex_text value ∷ []
canonical_words (Remove id) = codes "remove" ∷ id_text id ∷ []
canonical_words (Dump id) = codes "dump" ∷ id_text id ∷ []
canonical_words (Inbox id) = codes "inbox" ∷ id_text id ∷ []
canonical_words Find = codes "find" ∷ []
canonical_words Crowd = codes "crowd" ∷ []
canonical_words Poll3 = codes "poll3" ∷ []
canonical_words (Read id) = codes "read" ∷ id_text id ∷ []
canonical_words (Read3 id) = codes "read3" ∷ encode_upper id ∷ []
canonical_words (Write id message) = codes "write" ∷ id_text id ∷ message_text message ∷ []
canonical_words (Write3 id message) = codes "write3" ∷ encode_upper id ∷ message_text message ∷ []
canonical_words (Link id miu rw) = codes "link" ∷ encode_upper id ∷ decimal miu ∷ decimal rw ∷ []
canonical_words (Forge id payloads) = codes "forge" ∷ encode_upper id ∷ map encode_upper payloads
canonical_words (Raw id frames) = codes "raw" ∷ id_text id ∷ map frame_text frames
canonical_words (Put message) = codes "put" ∷ message_text message ∷ []
canonical_words (Get acceptable key) = codes "get" ∷ decimal acceptable ∷ hex_text key ∷ []
canonical_words (Lookup name) = codes "lookup" ∷ name ∷ []
canonical_words (OnPut slot message) = codes "on" ∷ decimal slot ∷ codes "put" ∷ message_text message ∷ []
canonical_words (OnGet slot acceptable key) = codes "on" ∷ decimal slot ∷ codes "get" ∷ decimal acceptable
    ∷ hex_text key ∷ []
canonical_words (Puts puts) = codes "puts" ∷ map slot_put_text puts
canonical_words Unlink = codes "unlink" ∷ []

-- the words, parted by one space each
abbrev pub canonical : Command → List ℕ
canonical c = join_with_byte 32 (canonical_words c)

-- The line spells this command and no other one; no LF is in it, so it stands in a script as it is.
pub record IsReadAs (line : List ℕ) (c : Command) : Type 0 where
  pub spells : Spells line c
  pub alone : (d : Command) → Spells line d → d ≡ c
  pub whole : All (λ b. b ≢ 10) line
