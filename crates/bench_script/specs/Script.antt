-- How a script is written; the language is this project's own.
use Rattle.std.specs.Prelude.{◌≡◌, ℕ, ◌^◌, ◌<◌, ◌≤◌, ◌⊎◌, ◌++◌, List, [], ◌∷◌, map, Bool, true, codes, length, ◌==◌}
use Rattle.std.specs.Prelude.{if◌then◌else◌, Ok}
use Rattle.std.specs.Char.{is_ascii_graphic}
use Rattle.std.specs.List.{onto_first, list_all}
use Rattle.std.specs.Fmt.{decimal}
use Rattle.hex.specs.Hex.{decode_of}
use Rattle.t4t_tag.specs.Store.{most_code}
use Rattle.nfc_base.specs.Signal.{Signal, IsSignal}
use Rattle.nfc_base.specs.declared.frame.Tech.{Tech}
use Rattle.nfc_base.specs.declared.event.Fate.{Fate}
use Rattle.nfc_base.specs.declared.event.Fate.TheVariants.{Pass, Damage, Lose, Break}
use Rattle.nfca_poll.specs.Ident.{IsIdent}
use Rattle.t5t_tag.specs.Store.{IsBlockSize}
use Rattle.llcp_pdu.specs.Wire.{least_miu}
use Rattle.bench_script.specs.declared.command.Command.{Command}
use Rattle.bench_script.specs.declared.command.Command.TheVariants.{Skip, Fates, PlaceT2, PlaceT3, PlaceT4, PlaceT5}
use Rattle.bench_script.specs.declared.command.Command.TheVariants.{PlacePeer, Lock, Busy, Offer, Remove, Dump, Inbox}
use Rattle.bench_script.specs.declared.command.Command.TheVariants.{Find, Crowd, Poll3, Read, Read3, Write, Write3}
use Rattle.bench_script.specs.declared.command.Command.TheVariants.{Link, Forge, Raw, Put, Get, Lookup, OnPut, OnGet}
use Rattle.bench_script.specs.declared.command.Command.TheVariants.{Puts, Unlink}
use Rattle.bench_script.specs.declared.command.DeviceId.{DeviceId}
use Rattle.bench_script.specs.declared.command.DeviceId.TheVariants.{A, V}
use Rattle.bench_script.specs.declared.command.SlotPut.{SlotPut}
use Rattle.bench_script.specs.DeviceIds.{tech_for}
use Rattle.bench_script.specs.Slots.{have_own_slots}
use Rattle.bench_script.specs.declared.message.Msg.{Msg}
use Rattle.bench_script.specs.declared.message.Msg.TheVariants.{Hex, Gen}
use Rattle.bench_script.specs.declared.script.LineFault.{LineFault}
use Rattle.bench_script.specs.declared.script.LineFault.TheVariants.{Refused, Memory}

-- The words of a line, parted by one space each. Two spaces in a row, and one at an end, make an empty word, which
-- no command has.
abbrev pub words_of : List ℕ → List (List ℕ)
words_of [] = [] ∷ []
words_of (b ∷ bs) = if b == 32 then [] ∷ words_of bs else onto_first b (words_of bs)

-- HEX: `-` for no bytes, else two digits of either case a byte
abbrev pub SpellsHex : List ℕ → List ℕ → Type 0
SpellsHex word bytes = ((word ≡ codes "-") × (bytes ≡ [])) ⊎ ((0 < length word) × (decode_of word ≡ Ok bytes))

-- ID of an NFC-A device: two digits of either case a byte
abbrev pub SpellsIdent : List ℕ → List ℕ → Type 0
SpellsIdent word id = (decode_of word ≡ Ok id) × IsIdent id

-- ID of a Type 3 or Type 5 tag: two digits of either case a byte, of Type 5 high byte first
abbrev pub SpellsIdV : List ℕ → List ℕ → Type 0
SpellsIdV word id = (decode_of word ≡ Ok id) × (length id ≡ 8)

-- ID of a device
abbrev pub SpellsId : List ℕ → DeviceId → Type 0
SpellsId word (A id) = SpellsIdent word id
SpellsId word (V id) = SpellsIdV word id

-- BLOCKS, LR, MIU, RW, LIMIT, COUNT, TIMES: a decimal number without leading zeros, from the first of these limits to
-- the second
abbrev pub SpellsWithin : ℕ → ℕ → List ℕ → ℕ → Type 0
SpellsWithin least most word n = (word ≡ decimal n) × (least ≤ n) × (n ≤ most)

-- the fewest blocks of a Type 2 tag that may be placed, and the most
abbrev pub least_blocks : ℕ
least_blocks = 4

abbrev pub most_blocks : ℕ
most_blocks = 256

-- the same of a Type 3 tag
abbrev pub least_blocks_f : ℕ
least_blocks_f = 1

abbrev pub most_blocks_f : ℕ
most_blocks_f = 256

-- ... and of a Type 5 tag
abbrev pub least_blocks_v : ℕ
least_blocks_v = 1

abbrev pub most_blocks_v : ℕ
most_blocks_v = 16384

-- SIZE: how many bytes a block of a Type 5 tag has
abbrev pub SpellsSize : List ℕ → ℕ → Type 0
SpellsSize word n = (word ≡ decimal n) × IsBlockSize n

-- CODE: how long the frames are that a Type 4 tag takes
abbrev pub SpellsCode : List ℕ → ℕ → Type 0
SpellsCode word n = (word ≡ decimal n) × (n ≤ most_code)

-- LR: the code of the length of NFC-DEP's frames that a peer takes (ISO/IEC 18092)
abbrev pub least_lr : ℕ
least_lr = 0

abbrev pub most_lr : ℕ
most_lr = 3

-- MIU: how many bytes of information a PDU to an end of a link has at most, a peer's or the reader's (NFC Forum LLCP),
-- from least_miu on
abbrev pub most_miu : ℕ
most_miu = 2175

-- RW: how many I PDUs an end of a link can take that it hasn't acknowledged (NFC Forum LLCP; a window of 0, by which
-- every connection is refused, is left out)
abbrev pub least_rw : ℕ
least_rw = 1

abbrev pub most_rw : ℕ
most_rw = 15

-- LIMIT: how many bytes a message has at most that a peer's SNEP server takes
abbrev pub least_limit : ℕ
least_limit = 1024

abbrev pub most_limit : ℕ
most_limit = 65536

-- BLOCK: the number of a block, of which a device may have fewer
abbrev pub SpellsBlock : List ℕ → ℕ → Type 0
SpellsBlock word n = (word ≡ decimal n) × (n < 2 ^ 16)

-- how often a device may ask for more time before an answer, and by which value
abbrev pub least_busy : ℕ
least_busy = 0

abbrev pub most_busy : ℕ
most_busy = 5

abbrev pub least_times : ℕ
least_times = 1

abbrev pub most_times : ℕ
most_times = 59

-- how many counted bytes a message has at most
abbrev pub longest_message : ℕ
longest_message = 65536

-- `gen:N:S`: so many bytes, and the first of them
pub record SpellsCounted (word : List ℕ) (count start : ℕ) : Type 0 where
  pub spells : word ≡ codes "gen:" ++ decimal count ++ 58 ∷ decimal start
  pub few : count ≤ longest_message
  pub byte : start < 256

-- MSG
abbrev pub SpellsMsg : List ℕ → Msg → Type 0
SpellsMsg word (Hex bytes) = SpellsHex word bytes
SpellsMsg word (Gen count start) = SpellsCounted word count start

-- N: how many bytes the value of a key may have that a get takes
abbrev pub least_acceptable : ℕ
least_acceptable = 0

abbrev pub most_acceptable : ℕ
most_acceptable = 65536

-- how many characters the name of a service has at most
abbrev pub longest_name : ℕ
longest_name = 64

-- NAME: at least one character, each from 21h to 7Eh, as they stand
pub record SpellsName (word name : List ℕ) : Type 0 where
  pub is : word ≡ name
  pub some : 0 < length name
  pub few : length name ≤ longest_name
  pub graphic : list_all is_ascii_graphic name ≡ true

-- how many payloads of a link a line may have, and how many bytes each of these: 3 for the head of the longest PDU, and
-- its information
abbrev pub most_payloads : ℕ
most_payloads = 16

abbrev pub longest_payload : ℕ
longest_payload = 2178

-- a payload of a link: two digits of either case a byte, and at least one byte
pub record SpellsPayload (word bytes : List ℕ) : Type 0 where
  pub digits : decode_of word ≡ Ok bytes
  pub some : 0 < length bytes
  pub few : length bytes ≤ longest_payload

-- values, a word each, in their order
abbrev pub SpellEach : {T : Type 0} → (List ℕ → T → Type 0) → List (List ℕ) → List T → Type 0
SpellEach S [] [] = Unit {0}
SpellEach S [] (p ∷ ps) = ⊥
SpellEach S (w ∷ ws) [] = ⊥
SpellEach S (w ∷ ws) (p ∷ ps) = S w p × SpellEach S ws ps

-- so many of them, from the first of these limits to the second
pub record SpellRow {T : Type 0} (S : List ℕ → T → Type 0) (least most : ℕ) (words : List (List ℕ)) (values : List T)
    : Type 0 where
  pub each : SpellEach S words values
  pub some : least ≤ length values
  pub few : length values ≤ most

-- the payloads of a line, at least one
abbrev pub SpellPayloads : List (List ℕ) → List (List ℕ) → Type 0
SpellPayloads words payloads = SpellRow SpellsPayload 1 most_payloads words payloads

-- how many of the last byte's bits a frame sends, the low ones, where it doesn't send all
abbrev pub tail_text : ℕ → List ℕ
tail_text tail = if tail == 0 then [] else codes "/" ++ decimal tail

-- FRAME, of a technology: HEX, and behind it how many bits of the last byte are sent. It is at most 288 bytes long, and
-- the bits that aren't sent are 0.
pub record SpellsFrame (tech : Tech) (word : List ℕ) (frame : Signal) : Type 0 where
  pub hex : List ℕ
  pub bytes : SpellsHex hex frame.bytes
  pub is : word ≡ hex ++ tail_text frame.tail
  pub fits : IsSignal frame
  pub technology : frame.tech ≡ tech

-- how many frames a line may have
abbrev pub most_frames : ℕ
most_frames = 16

-- the frames of a line, at least one
abbrev pub SpellFrames : Tech → List (List ℕ) → List Signal → Type 0
SpellFrames tech words frames = SpellRow (SpellsFrame tech) 1 most_frames words frames

-- K: the slot of one of a reader's clients. That of `put`, `get` and `lookup` is slot 0, which `on` doesn't name.
abbrev pub least_slot : ℕ
least_slot = 0

abbrev pub least_named_slot : ℕ
least_named_slot = 1

abbrev pub most_slot : ℕ
most_slot = 7

-- K:MSG, what a client puts. The first colon parts the two.
pub record SpellsSlotPut (word : List ℕ) (put : SlotPut) : Type 0 where
  pub slot : List ℕ
  pub message : List ℕ
  pub is : word ≡ slot ++ 58 ∷ message
  pub number : SpellsWithin least_slot most_slot slot put.slot
  pub text : SpellsMsg message put.message

-- how many puts a line has at least, and at most
abbrev pub least_puts : ℕ
least_puts = 2

abbrev pub most_puts : ℕ
most_puts = 8

-- the puts of a line, of which no two are of one client
pub record SpellPuts (words : List (List ℕ)) (puts : List SlotPut) : Type 0 where
  pub row : SpellRow SpellsSlotPut least_puts most_puts words puts
  pub own : have_own_slots puts ≡ true

-- the letter of a fate, in upper case alone: P, D, L or B
abbrev pub fate_letter : Fate → ℕ
fate_letter Pass = 80
fate_letter Damage = 68
fate_letter Lose = 76
fate_letter Break = 66

-- how many fates a line may have
abbrev pub most_fates : ℕ
most_fates = 4000

-- FATES: a letter for each fate, and at least one
pub record SpellsFates (word : List ℕ) (fates : List Fate) : Type 0 where
  pub letters : word ≡ map fate_letter fates
  pub some : 0 < length fates
  pub few : length fates ≤ most_fates

-- an empty line, and one that begins with `#`, whatever bytes follow, asks for nothing
abbrev pub is_skipped : List ℕ → Bool
is_skipped [] = true
is_skipped (b ∷ bs) = b == 35

-- `fates FATES`, `place t2 ID BLOCKS HEX`, `place t3 ID BLOCKS HEX`, `place t4 ID CODE HEX HEX`, `place t5 ID BLOCKS
-- SIZE HEX`, `place peer ID LR MIU RW LIMIT`, `lock ID BLOCK`, `busy ID COUNT TIMES`, `offer ID HEX HEX`, `remove ID`,
-- `dump ID`, `inbox ID`, `find`, `crowd`, `poll3`, `read ID`, `read3 ID`, `write ID MSG`, `write3 ID MSG`, `link ID MIU
-- RW`, `forge ID HEX ..`, `raw ID FRAME ..`, `put MSG`, `get N HEX`, `lookup NAME`, `on K put MSG`, `on K get N HEX`,
-- `puts K:MSG ..` and `unlink`
abbrev pub SpelledBy : List (List ℕ) → Command → Type 0
SpelledBy ws Skip = ⊥
SpelledBy ws (Fates fates) = (f : List ℕ) × (ws ≡ codes "fates" ∷ f ∷ []) × SpellsFates f fates
SpelledBy ws (PlaceT2 id blocks head) =
    (i b h : List ℕ) × (ws ≡ codes "place" ∷ codes "t2" ∷ i ∷ b ∷ h ∷ [])
    × SpellsIdent i id × SpellsWithin least_blocks most_blocks b blocks × SpellsHex h head
SpelledBy ws (PlaceT3 id blocks head) =
    (i b h : List ℕ) × (ws ≡ codes "place" ∷ codes "t3" ∷ i ∷ b ∷ h ∷ [])
    × SpellsIdV i id × SpellsWithin least_blocks_f most_blocks_f b blocks × SpellsHex h head
SpelledBy ws (PlaceT4 id code container head) =
    (i c k h : List ℕ) × (ws ≡ codes "place" ∷ codes "t4" ∷ i ∷ c ∷ k ∷ h ∷ [])
    × SpellsIdent i id × SpellsCode c code × SpellsHex k container × SpellsHex h head
SpelledBy ws (PlaceT5 id blocks size head) =
    (i b s h : List ℕ) × (ws ≡ codes "place" ∷ codes "t5" ∷ i ∷ b ∷ s ∷ h ∷ [])
    × SpellsIdV i id × SpellsWithin least_blocks_v most_blocks_v b blocks × SpellsSize s size × SpellsHex h head
SpelledBy ws (PlacePeer id lr miu rw limit) =
    (i r m w l : List ℕ) × (ws ≡ codes "place" ∷ codes "peer" ∷ i ∷ r ∷ m ∷ w ∷ l ∷ [])
    × SpellsIdent i id × SpellsWithin least_lr most_lr r lr × SpellsWithin least_miu most_miu m miu
    × SpellsWithin least_rw most_rw w rw × SpellsWithin least_limit most_limit l limit
SpelledBy ws (Lock id block) = (i b : List ℕ) × (ws ≡ codes "lock" ∷ i ∷ b ∷ []) × SpellsId i id × SpellsBlock b block
SpelledBy ws (Busy id count times) =
    (i k w : List ℕ) × (ws ≡ codes "busy" ∷ i ∷ k ∷ w ∷ [])
    × SpellsId i id × SpellsWithin least_busy most_busy k count × SpellsWithin least_times most_times w times
SpelledBy ws (Offer id key value) =
    (i k v : List ℕ) × (ws ≡ codes "offer" ∷ i ∷ k ∷ v ∷ []) × SpellsId i id × SpellsHex k key × SpellsHex v value
SpelledBy ws (Remove id) = (i : List ℕ) × (ws ≡ codes "remove" ∷ i ∷ []) × SpellsId i id
SpelledBy ws (Dump id) = (i : List ℕ) × (ws ≡ codes "dump" ∷ i ∷ []) × SpellsId i id
SpelledBy ws (Inbox id) = (i : List ℕ) × (ws ≡ codes "inbox" ∷ i ∷ []) × SpellsId i id
SpelledBy ws Find = ws ≡ codes "find" ∷ []
SpelledBy ws Crowd = ws ≡ codes "crowd" ∷ []
SpelledBy ws Poll3 = ws ≡ codes "poll3" ∷ []
SpelledBy ws (Read id) = (i : List ℕ) × (ws ≡ codes "read" ∷ i ∷ []) × SpellsId i id
SpelledBy ws (Read3 id) = (i : List ℕ) × (ws ≡ codes "read3" ∷ i ∷ []) × SpellsIdV i id
SpelledBy ws (Write id message) =
    (i m : List ℕ) × (ws ≡ codes "write" ∷ i ∷ m ∷ []) × SpellsId i id × SpellsMsg m message
SpelledBy ws (Write3 id message) =
    (i m : List ℕ) × (ws ≡ codes "write3" ∷ i ∷ m ∷ []) × SpellsIdV i id × SpellsMsg m message
SpelledBy ws (Link id miu rw) =
    (i m w : List ℕ) × (ws ≡ codes "link" ∷ i ∷ m ∷ w ∷ [])
    × SpellsIdent i id × SpellsWithin least_miu most_miu m miu × SpellsWithin least_rw most_rw w rw
SpelledBy ws (Forge id payloads) =
    (i : List ℕ) × (hs : List (List ℕ)) × (ws ≡ codes "forge" ∷ i ∷ hs) × SpellsIdent i id × SpellPayloads hs payloads
SpelledBy ws (Raw id frames) =
    (i : List ℕ) × (fs : List (List ℕ)) × (ws ≡ codes "raw" ∷ i ∷ fs) × SpellsId i id
    × SpellFrames (tech_for id) fs frames
SpelledBy ws (Put message) = (m : List ℕ) × (ws ≡ codes "put" ∷ m ∷ []) × SpellsMsg m message
SpelledBy ws (Get acceptable key) =
    (n k : List ℕ) × (ws ≡ codes "get" ∷ n ∷ k ∷ [])
    × SpellsWithin least_acceptable most_acceptable n acceptable × SpellsHex k key
SpelledBy ws (Lookup name) = (n : List ℕ) × (ws ≡ codes "lookup" ∷ n ∷ []) × SpellsName n name
SpelledBy ws (OnPut slot message) =
    (k m : List ℕ) × (ws ≡ codes "on" ∷ k ∷ codes "put" ∷ m ∷ [])
    × SpellsWithin least_named_slot most_slot k slot × SpellsMsg m message
SpelledBy ws (OnGet slot acceptable key) =
    (k n h : List ℕ) × (ws ≡ codes "on" ∷ k ∷ codes "get" ∷ n ∷ h ∷ [])
    × SpellsWithin least_named_slot most_slot k slot
    × SpellsWithin least_acceptable most_acceptable n acceptable × SpellsHex h key
SpelledBy ws (Puts puts) = (ps : List (List ℕ)) × (ws ≡ codes "puts" ∷ ps) × SpellPuts ps puts
SpelledBy ws Unlink = ws ≡ codes "unlink" ∷ []

-- the line spells the command
abbrev pub Spells : List ℕ → Command → Type 0
Spells line Skip = is_skipped line ≡ true
Spells line c = SpelledBy (words_of line) c

-- the numbers of the errors
abbrev pub line_fault_number : LineFault → ℕ
line_fault_number Refused = 1
line_fault_number Memory = 2
