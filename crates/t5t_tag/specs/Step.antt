-- The step of a Type 5 tag on a frame (NFC Forum Type 5 Tag; ISO/IEC 15693-3). Which error a tag tells for which
-- condition, and to which frames it is silent, is this project's own.
use Rattle.std.specs.Prelude.{ℕ, ◌+◌, ◌*◌, List, [], ◌∷◌, length, take, drop, Bool, true, false, ◌==◌, ◌&&◌, not}
use Rattle.std.specs.Prelude.{nat_eq, nat_le, if◌then◌else◌, Option, Some, None}
use Rattle.std.specs.Cmp.Lexicographic.{pointwise}
use Rattle.nfc_base.specs.declared.frame.Tech.{Tech}
use Rattle.nfc_base.specs.declared.frame.Tech.TheVariants.{A, V, F}
use Rattle.nfc_base.specs.Signal.{Signal}
use Rattle.nfc_base.specs.Blocks.{with_block, block_of}
use Rattle.t5t_tag.specs.declared.answer.T5Answer.{T5Answer}
use Rattle.t5t_tag.specs.declared.answer.T5Answer.TheVariants.{Present, Content, Error}
use Rattle.t5t_tag.specs.Store.{T5State, id_size, block_count, is_locked}
use Rattle.t5t_tag.specs.declared.round.Round.{Round}
use Rattle.t5t_tag.specs.Mask.{low_first, asks_for}
use Rattle.t5t_tag.specs.Slots.{slot_of, asks_in_slots, begun, moved_on, is_own}
use Rattle.t5t_tag.specs.Spelling.{addressed_flags, plain_flags, inventory_flags, slots_flags, inventory_code}
use Rattle.t5t_tag.specs.Spelling.{quiet_code, read_code, write_code, read_many_code, read_wide_code, write_wide_code}
use Rattle.t5t_tag.specs.Spelling.{most_content, answer_frame}

-- the error codes: a command that isn't supported or has another length, a block that isn't there, a locked block
abbrev pub not_supported : ℕ
not_supported = 0x0F

abbrev pub no_block : ℕ
no_block = 0x10

abbrev pub block_locked : ℕ
block_locked = 0x12

-- what a tag does at a frame: its answer, if it has one, and the tag then
pub record T5Turn : Type 0 where
  pub answer : Option T5Answer
  pub after : T5State

-- no answer, and nothing changes
abbrev pub silent : T5State → T5Turn
silent t = record { answer = None; after = t }

-- an answer, and nothing changes
abbrev pub tells : T5State → T5Answer → T5Turn
tells t a = record { answer = Some a; after = t }

abbrev pub refuses : T5State → ℕ → T5Turn
refuses t code = tells t (Error code)

-- the content of so many blocks from one on
abbrev pub blocks_of : ℕ → List ℕ → ℕ → ℕ → List ℕ
blocks_of size store first count = take (size * count) (drop (size * first) store)

-- READ SINGLE BLOCK
abbrev pub read_turn : T5State → ℕ → T5Turn
read_turn t block =
    if nat_le (block_count t) block then refuses t no_block
    else tells t (Content (record { items = block_of t.size t.store block }))

-- the tag with one block changed
abbrev pub rewritten : T5State → ℕ → List ℕ → T5State
rewritten t block content = record t { store = with_block t.size t.store block content }

-- WRITE SINGLE BLOCK
abbrev pub write_turn : T5State → ℕ → List ℕ → T5Turn
write_turn t block content =
    if nat_le (block_count t) block then refuses t no_block
    else if not (length content == t.size) then refuses t not_supported
    else if is_locked t block then refuses t block_locked
    else record { answer = Some (Content (record { items = [] })); after = rewritten t block content }

-- READ MULTIPLE BLOCKS: the first block and as many more, of at most 256 bytes together
abbrev pub read_many_turn : T5State → ℕ → ℕ → T5Turn
read_many_turn t first more =
    if nat_le (block_count t) (first + more) then refuses t no_block
    else if not (nat_le (t.size * (more + 1)) most_content) then refuses t not_supported
    else tells t (Content (record { items = blocks_of t.size t.store first (more + 1) }))

-- what is asked of a tag: a block, a block and as many more, the content of a block, or nothing that it supports
pub data Asked : Type 0 where
  Reads : ℕ → Asked
  ReadsMany : ℕ → ℕ → Asked
  Writes : ℕ → List ℕ → Asked
  Unknown : Asked

-- the block number that two bytes stand for, low byte first
abbrev pub wide_number : ℕ → ℕ → ℕ
wide_number low high = high * 256 + low

-- what a code with two bytes behind it asks
abbrev pub asked_by_pair : ℕ → ℕ → ℕ → Asked
asked_by_pair code a b =
    if code == read_many_code then ReadsMany a b
    else if code == read_wide_code then Reads (wide_number a b)
    else Unknown

-- What a code and what follows it ask: READ and WRITE SINGLE BLOCK with a block number of one byte or of two, and READ
-- MULTIPLE BLOCKS. Any other code or length asks nothing that is supported.
abbrev pub asked : ℕ → List ℕ → Asked
asked code [] = Unknown
asked code (block ∷ []) =
    if code == read_code then Reads block
    else if code == write_code then Writes block []
    else Unknown
asked code (a ∷ b ∷ rest) =
    if code == write_code then Writes a (b ∷ rest)
    else if code == write_wide_code then Writes (wide_number a b) rest
    else if length rest == 0 then asked_by_pair code a b
    else Unknown

abbrev pub asked_turn : T5State → Asked → T5Turn
asked_turn t (Reads block) = read_turn t block
asked_turn t (ReadsMany first more) = read_many_turn t first more
asked_turn t (Writes block content) = write_turn t block content
asked_turn t Unknown = refuses t not_supported

-- a command that this tag obeys: its code, and what follows
abbrev pub obeyed : T5State → ℕ → List ℕ → T5Turn
obeyed t code rest = asked_turn t (asked code rest)

-- an identifier stands there, low byte first, and it is this tag's
abbrev pub names : T5State → List ℕ → Bool
names t rest = pointwise nat_eq (take id_size rest) (low_first t.id)

-- Behind the flags of an addressed command: its code, the identifier, and what follows. STAY QUIET has nothing more.
abbrev pub addressed : T5State → List ℕ → T5Turn
addressed t [] = silent t
addressed t (code ∷ rest) =
    if not (names t rest) then silent t
    else if (code == quiet_code) && (length rest == id_size)
    then record { answer = None; after = record t { quiet = true } }
    else obeyed t code (drop id_size rest)

-- Behind the flags of a command to every tag: a quiet tag doesn't hear it.
abbrev pub plain : T5State → List ℕ → T5Turn
plain t [] = if t.quiet then silent t else refuses t not_supported
plain t (code ∷ rest) = if t.quiet then silent t else obeyed t code rest

-- Behind the flags of an inventory: its code, the length of its mask in bits, and the mask.
abbrev pub inventory : T5State → List ℕ → T5Turn
inventory t [] = silent t
inventory t (code ∷ []) = silent t
inventory t (code ∷ bits ∷ mask) =
    if (code == inventory_code) && not t.quiet && asks_for t.id bits mask then tells t (Present t.id) else silent t

-- the tag in no round
abbrev pub out_of_round : T5State → T5State
out_of_round t = record t { round = None }

-- the tag in a round, or in none any more: it answers in its own slot
abbrev pub own_answer : T5State → Option Round → Option T5Answer
own_answer t None = None
own_answer t (Some r) = if is_own r then Some (Present t.id) else None

abbrev pub in_slot : T5State → Option Round → T5Turn
in_slot t round = record { answer = own_answer t round; after = record t { round = round } }

-- Behind the flags of an inventory of sixteen slots: a tag that the mask asks for begins a round in the first slot.
abbrev pub slots : T5State → List ℕ → T5Turn
slots t [] = silent t
slots t (code ∷ []) = silent t
slots t (code ∷ bits ∷ mask) =
    if (code == inventory_code) && not t.quiet && asks_in_slots t.id bits mask
    then in_slot t (Some (begun (slot_of t.id bits)))
    else silent t

-- the round behind an empty frame: one slot on, where the tag is in a round that has one more
abbrev pub next_round : Option Round → Option Round
next_round None = None
next_round (Some r) = moved_on r

-- the flags of a frame that isn't empty, and what follows, for a tag that is in no round any more
abbrev pub flagged_turn : T5State → ℕ → List ℕ → T5Turn
flagged_turn t flags rest =
    if flags == addressed_flags then addressed t rest
    else if flags == plain_flags then plain t rest
    else if flags == inventory_flags then inventory t rest
    else if flags == slots_flags then slots t rest
    else silent t

-- The bytes of a whole NFC-V frame. Each that isn't empty ends the tag's round, whomever it is for.
abbrev pub bytes_turn : T5State → List ℕ → T5Turn
bytes_turn t [] = in_slot t (next_round t.round)
bytes_turn t (flags ∷ rest) = flagged_turn (out_of_round t) flags rest

abbrev pub is_nfc_v : Tech → Bool
is_nfc_v A = false
is_nfc_v V = true
is_nfc_v F = false

-- the step of the tag
abbrev pub t5_turn : T5State → Signal → T5Turn
t5_turn t f = if is_nfc_v f.tech && (f.tail == 0) then bytes_turn t f.bytes else silent t

-- the frame of an answer, where there is one
abbrev pub sent : Option T5Answer → Option Signal
sent None = None
sent (Some a) = Some (answer_frame a)

abbrev pub t5_answer : T5State → Signal → Option Signal
t5_answer t f = sent (t5_turn t f).answer

abbrev pub t5_after : T5State → Signal → T5State
t5_after t f = (t5_turn t f).after
