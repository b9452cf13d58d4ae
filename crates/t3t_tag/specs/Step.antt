-- The step of a Type 3 tag on a frame (NFC Forum Type 3 Tag; JIS X 6319-4). Which status a tag tells for
-- which condition, that block elements have two bytes and that one Update changes one block is this project's own.
use Rattle.std.specs.Prelude.{◌≡◌, ◌≢◌, ℕ, ◌*◌, List, [], ◌∷◌, length, take, drop, ◌++◌, Bool, true, false, ◌==◌, ◌&&◌}
use Rattle.std.specs.Prelude.{◌||◌, not, nat_eq, nat_le, nat_lt, if◌then◌else◌, Option, Some, None}
use Rattle.std.specs.Cmp.Lexicographic.{pointwise}
use Rattle.nfc_base.specs.Signal.{Signal, whole_f}
use Rattle.nfc_base.specs.Blocks.{block_of}
use Rattle.t3t_tag.specs.declared.answer.T3Answer.{T3Answer}
use Rattle.t3t_tag.specs.declared.answer.T3Answer.TheVariants.{Polled, Content, Done, CheckRefused, UpdateRefused}
use Rattle.t3t_tag.specs.declared.command.T3Command.TheVariants.{Update}
use Rattle.t3t_tag.specs.Store.{T3State, IsOverlong, block_size, id_size, block_count, is_locked, rewritten}
use Rattle.t3t_tag.specs.Spelling.{poll_code, check_code, update_code, read_service, write_service, element_code, pair}
use Rattle.t3t_tag.specs.Spelling.{framed, command_frame, answer_frame, is_whole_f}
use Rattle.t3t_tag.specs.Reading.{blocks_asked}

-- the statuses: of a service or elements that the tag doesn't take, of a block that isn't there, of a locked block
abbrev pub not_taken : ℕ
not_taken = 0xFF01

abbrev pub no_block : ℕ
no_block = 0xFF02

abbrev pub block_locked : ℕ
block_locked = 0xFF03

-- what a tag does at a frame: its answer, if it has one, and the tag then
pub record T3Turn : Type 0 where
  pub answer : Option T3Answer
  pub after : T3State

-- no answer, and nothing changes
abbrev pub silent : T3State → T3Turn
silent t = record { answer = None; after = t }

-- an answer, and nothing changes
abbrev pub tells : T3State → T3Answer → T3Turn
tells t a = record { answer = Some a; after = t }

-- A poll asks for tags of the NFC Forum by their system code, or for all, with two zeros behind.
abbrev pub ndef_poll : List ℕ
ndef_poll = 0x12 ∷ 0xFC ∷ 0 ∷ 0 ∷ []

abbrev pub any_poll : List ℕ
any_poll = 0xFF ∷ 0xFF ∷ 0 ∷ 0 ∷ []

abbrev pub poll_turn : T3State → List ℕ → T3Turn
poll_turn t rest = if pointwise nat_eq rest ndef_poll || pointwise nat_eq rest any_poll then tells t (Polled t.id)
    else silent t

-- each of some blocks is there
abbrev pub are_there : ℕ → List ℕ → Bool
are_there count [] = true
are_there count (block ∷ blocks) = nat_lt block count && are_there count blocks

-- the content of some blocks, one after the other
abbrev pub content_of : List ℕ → List ℕ → List ℕ
content_of store [] = []
content_of store (block ∷ blocks) = block_of block_size store block ++ content_of store blocks

abbrev pub is_check_service : ℕ → Bool
is_check_service service = (service == read_service) || (service == write_service)

-- what the tag answers, and nothing changes
abbrev pub answers : T3State → Option T3Answer → T3Turn
answers t answer = record { answer = answer; after = t }

-- to a Check of some blocks, where the tag takes its service and its elements
abbrev pub blocks_answer : T3State → Option (List ℕ) → T3Answer
blocks_answer t None = CheckRefused t.id not_taken
blocks_answer t (Some blocks) =
    if not (are_there (block_count t.store) blocks) then CheckRefused t.id no_block
    else Content t.id (record { items = content_of t.store blocks })

-- to 1 to 15 elements with a service that reads
abbrev pub checked_answer : T3State → ℕ → ℕ → List ℕ → T3Answer
checked_answer t service count rest = blocks_answer t
    (if is_check_service service then blocks_asked count rest else None)

-- to a Check behind the identifier: one service, the number of elements, and as many of two bytes
abbrev pub check_answer : T3State → List ℕ → Option T3Answer
check_answer t (services ∷ high ∷ low ∷ count ∷ rest) =
    if (services == 1) && (length rest == 2 * count) then Some (checked_answer t (pair high low) count rest) else None
check_answer t _ = None

abbrev pub written_turn : T3State → ℕ → ℕ → List ℕ → T3Turn
written_turn t service block content =
    if not (service == write_service) then tells t (UpdateRefused t.id not_taken)
    else if nat_le (block_count t.store) block then tells t (UpdateRefused t.id no_block)
    else if is_locked t block then tells t (UpdateRefused t.id block_locked)
    else record { answer = Some (Done t.id); after = rewritten t block content }

-- An Update behind the identifier: one service, one element of two bytes, and the block's content.
abbrev pub update_turn : T3State → List ℕ → T3Turn
update_turn t (services ∷ high ∷ low ∷ count ∷ code ∷ block ∷ content) =
    if (services == 1) && (count == 1) && (code == element_code) && (length content == block_size)
    then written_turn t (pair high low) block content
    else silent t
update_turn t _ = silent t

-- this tag's identifier stands there
abbrev pub names : T3State → List ℕ → Bool
names t rest = pointwise nat_eq (take id_size rest) t.id

abbrev pub request_turn : T3State → List ℕ → T3Turn
request_turn t [] = silent t
request_turn t (code ∷ rest) =
    if code == poll_code then poll_turn t rest
    else if not (names t rest) then silent t
    else if code == check_code then answers t (check_answer t (drop id_size rest))
    else if code == update_code then update_turn t (drop id_size rest)
    else silent t

-- The bytes of a whole NFC-F frame. They begin with its length, itself included.
abbrev pub bytes_turn : T3State → List ℕ → T3Turn
bytes_turn t [] = silent t
bytes_turn t (size ∷ rest) = if size == length (size ∷ rest) then request_turn t rest else silent t

-- the step of the tag
abbrev pub t3_turn : T3State → Signal → T3Turn
t3_turn t f = if is_whole_f f then bytes_turn t f.bytes else silent t

-- the frame of an answer, where there is one
abbrev pub sent : Option T3Answer → Option Signal
sent None = None
sent (Some a) = Some (answer_frame a)

abbrev pub t3_answer : T3State → Signal → Option Signal
t3_answer t f = sent (t3_turn t f).answer

abbrev pub t3_after : T3State → Signal → T3State
t3_after t f = (t3_turn t f).after

-- The frame is for a tag of another identifier, which stands behind the code.
pub record IsForAnother (t : T3State) (f : Signal) : Type 0 where
  pub code : ℕ
  pub id : List ℕ
  pub rest : List ℕ
  pub frame : f ≡ whole_f (framed (code ∷ (id ++ rest)))
  pub command : code ≢ poll_code
  pub size : length id ≡ id_size
  pub other : id ≢ t.id

-- The frame is an Update of a block 0 that isn't locked, by an attribute block that names more blocks than there are:
-- the store is then none that a new tag has.
pub record SpoilsStore (t : T3State) (f : Signal) : Type 0 where
  pub content : List ℕ
  pub frame : f ≡ command_frame (Update t.id 0 content)
  pub size : length content ≡ block_size
  pub free : is_locked t 0 ≡ false
  pub overlong : IsOverlong (block_count t.store) content
