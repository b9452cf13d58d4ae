-- What a frame is read as, as a function: the command or the answer that it spells, where it spells one.
use Rattle.std.specs.Prelude.{ℕ, ◌*◌, List, [], ◌∷◌, length, take, drop, replicate, Bool, ◌==◌, ◌&&◌, nat_eq, nat_le}
use Rattle.std.specs.Prelude.{if◌then◌else◌, Option, Some, None}
use Rattle.std.specs.Cmp.Lexicographic.{pointwise}
use Rattle.nfc_base.specs.Signal.{Signal}
use Rattle.arrayvec.specs.ArrayVec.{ArrayVec}
use Rattle.t3t_tag.specs.declared.command.T3Command.{T3Command}
use Rattle.t3t_tag.specs.declared.command.T3Command.TheVariants.{Poll, Check, Update}
use Rattle.t3t_tag.specs.declared.answer.T3Answer.{T3Answer}
use Rattle.t3t_tag.specs.declared.answer.T3Answer.TheVariants.{Polled, Content, Done, CheckRefused, UpdateRefused}
use Rattle.t3t_tag.specs.Store.{block_size, id_size}
use Rattle.t3t_tag.specs.Spelling.{poll_code, polled_code, check_code, checked_code, update_code, updated_code}
use Rattle.t3t_tag.specs.Spelling.{read_service, write_service, element_code, most_elements, pair, done, pad_size}
use Rattle.t3t_tag.specs.Spelling.{is_whole_f}

-- one block more in front, where there are some
abbrev pub with_block_number : ℕ → Option (List ℕ) → Option (List ℕ)
with_block_number block None = None
with_block_number block (Some blocks) = Some (block ∷ blocks)

-- the blocks that elements name, where each has two bytes
abbrev pub blocks_named : List ℕ → Option (List ℕ)
blocks_named [] = Some []
blocks_named (code ∷ []) = None
blocks_named (code ∷ block ∷ rest) = if code == element_code then with_block_number block (blocks_named rest) else None

-- 1 to 15
abbrev pub is_element_count : ℕ → Bool
is_element_count count = nat_le 1 count && nat_le count most_elements

-- the blocks that so many elements name, where they are 1 to 15
abbrev pub blocks_asked : ℕ → List ℕ → Option (List ℕ)
blocks_asked count rest = if is_element_count count && (length rest == 2 * count) then blocks_named rest else None

-- the two bytes of the system code, and what follows
abbrev pub read_poll : List ℕ → Option T3Command
read_poll (high ∷ low ∷ request ∷ slots ∷ []) = Some (Poll (pair high low) request slots)
read_poll _ = None

abbrev pub check_named : List ℕ → Option (List ℕ) → Option T3Command
check_named id None = None
check_named id (Some blocks) = Some (Check id (record { items = blocks }))

-- behind the identifier
abbrev pub read_check : List ℕ → List ℕ → Option T3Command
read_check id (services ∷ high ∷ low ∷ count ∷ rest) =
    if (services == 1) && (pair high low == read_service) then check_named id (blocks_asked count rest) else None
read_check id _ = None

abbrev pub read_update : List ℕ → List ℕ → Option T3Command
read_update id (services ∷ high ∷ low ∷ count ∷ code ∷ block ∷ content) =
    if (services == 1) && (pair high low == write_service) && (count == 1) && (code == element_code)
    && (length content == block_size)
    then Some (Update id block content) else None
read_update id _ = None

-- what a code and an identifier have behind them
abbrev pub behind_id : {X : Type 0} → (List ℕ → List ℕ → Option X) → List ℕ → Option X
behind_id read rest = if nat_le id_size (length rest) then read (take id_size rest) (drop id_size rest) else None

abbrev pub read_request : List ℕ → Option T3Command
read_request [] = None
read_request (code ∷ rest) =
    if code == poll_code then read_poll rest
    else if code == check_code then behind_id read_check rest
    else if code == update_code then behind_id read_update rest
    else None

-- A frame begins with its length, itself included.
abbrev pub command_of : List ℕ → Option T3Command
command_of [] = None
command_of (size ∷ rest) = if size == length (size ∷ rest) then read_request rest else None

abbrev pub spelled_command : Signal → Option T3Command
spelled_command f = if is_whole_f f then command_of f.bytes else None

-- behind the identifier, as many bytes as there are, each 0
abbrev pub read_polled : List ℕ → List ℕ → Option T3Answer
read_polled id rest = if pointwise nat_eq rest (replicate pad_size 0) then Some (Polled id) else None

abbrev pub is_content : ℕ → List ℕ → Bool
is_content count content = is_element_count count && (length content == block_size * count)

abbrev pub read_checked : List ℕ → List ℕ → Option T3Answer
read_checked id (high ∷ low ∷ []) = if pair high low == done then None else Some (CheckRefused id (pair high low))
read_checked id (high ∷ low ∷ count ∷ content) =
    if (pair high low == done) && is_content count content then Some (Content id (record { items = content })) else None
read_checked id _ = None

abbrev pub read_updated : List ℕ → List ℕ → Option T3Answer
read_updated id (high ∷ low ∷ []) = if pair high low == done then Some (Done id)
    else Some (UpdateRefused id (pair high low))
read_updated id _ = None

abbrev pub read_reply : List ℕ → Option T3Answer
read_reply [] = None
read_reply (code ∷ rest) =
    if code == polled_code then behind_id read_polled rest
    else if code == checked_code then behind_id read_checked rest
    else if code == updated_code then behind_id read_updated rest
    else None

abbrev pub answer_of : List ℕ → Option T3Answer
answer_of [] = None
answer_of (size ∷ rest) = if size == length (size ∷ rest) then read_reply rest else None

abbrev pub spelled_answer : Signal → Option T3Answer
spelled_answer f = if is_whole_f f then answer_of f.bytes else None

-- the same, as the list that a function gives
abbrev pub found_blocks : Option (List ℕ) → Option (ArrayVec ℕ)
found_blocks None = None
found_blocks (Some blocks) = Some (record { items = blocks })
