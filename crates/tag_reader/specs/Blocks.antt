-- How a reader asks a Type 5 tag for its blocks (NFC Forum Type 5 Tag; ISO/IEC 15693-3): which command brings the next
-- ones, by what it knows of the tag, and how far the commands of a reading go in a store.
use Rattle.std.specs.Prelude.{ℕ, zero, suc, ◌+◌, ◌-◌, ◌*◌, ◌/◌, ◌<◌, ◌≤◌, min, nat_le, nat_lt, Bool, true, false, not}
use Rattle.std.specs.Prelude.{◌&&◌, if◌then◌else◌, List, take, length, Result, Ok, Err, Some}
use Rattle.nfc_base.specs.Signal.{Signal}
use Rattle.nfc_base.specs.Blocks.{block_of}
use Rattle.t5t_tag.specs.Store.{blocks_in}
use Rattle.t5t_tag.specs.Step.{no_block, blocks_of}
use Rattle.t5t_tag.specs.Spelling as t5
use Rattle.t5t_tag.specs.Spelling.{short_numbers}
use Rattle.t5t_tag.specs.declared.command.T5Command.{T5Command}
use Rattle.t5t_tag.specs.declared.command.T5Command.TheVariants as t5_command
use Rattle.t5t_tag.specs.declared.answer.T5Answer.{T5Answer}
use Rattle.t5t_tag.specs.declared.answer.T5Answer.TheVariants as t5_says
use Rattle.tlv_area.specs.declared.container.ContainerFault.{ContainerFault}
use Rattle.tlv_area.specs.declared.container.T5Container.{T5Container}
use Rattle.tlv_area.specs.declared.container.T5Container.TheVariants.{Ready, More}
use Rattle.tlv_area.specs.Containers.{t5_front}
use Rattle.tlv_area.specs.Stores.{t5_reach}
use Rattle.tlv_area.specs.Form as form
use Rattle.tlv_area.specs.Writing.{blocks_below}
use Rattle.tag_reader.specs.declared.ask.Ask.{Ask}
use Rattle.tag_reader.specs.declared.ask.Ask.TheVariants.{One, Many}

-- The command: READ SINGLE BLOCK, from block 256 on with a number of two bytes, or READ MULTIPLE BLOCKS.
abbrev pub ask_command : List ℕ → Ask → T5Command
ask_command id (One block) = if nat_lt block short_numbers then t5_command.Read (Some id) block
    else t5_command.ReadWide (Some id) block
ask_command id (Many block more) = t5_command.ReadMany (Some id) block more

abbrev pub ask_frame : List ℕ → Ask → Signal
ask_frame id ask = t5.command_frame (ask_command id ask)

-- how many blocks it asks for
abbrev pub ask_count : Ask → ℕ
ask_count (One block) = 1
ask_count (Many block more) = more + 1

abbrev pub IsOne : Ask → Type 0
IsOne (One block) = Unit {0}
IsOne (Many block more) = ⊥

abbrev pub IsMany : Ask → Type 0
IsMany (One block) = ⊥
IsMany (Many block more) = Unit {0}

-- How many blocks one command may read from a block on, of an area with this end: as many as have 256 bytes, none past
-- the area's last block, and none past block 255.
abbrev pub most_blocks : ℕ → ℕ → ℕ → ℕ
most_blocks size end block = min (t5.most_content / size) (min (blocks_below size end - block) (short_numbers - block))

-- What is asked from a block on, by what the container tells. `single` says that the tag refused to give several blocks
-- at once.
abbrev pub ask_by : ℕ → Bool → ℕ → Result T5Container ContainerFault → Ask
ask_by size single block (Ok (Ready space wide many)) =
    if many && not single && nat_lt block short_numbers then Many block (most_blocks size space.end block - 1)
    else One block
ask_by size single block (Ok More) = One block
ask_by size single block (Err fault) = One block

-- What is asked behind the bytes that are known, which are whole blocks from the first on.
abbrev pub next_ask : ℕ → Bool → List ℕ → Ask
next_ask size single known = ask_by size single (length known / size) (t5_front known)

-- More is needed: the container isn't whole, or the walk over the area that it names needs a byte behind those that are
-- known.
abbrev pub NeedsBlocks : ℕ → List ℕ → Result T5Container ContainerFault → Type 0
NeedsBlocks size known (Ok (Ready space wide many)) =
    form.NeedsMore (t5_reach size (record { space = space; wide = wide; many = many })) known
NeedsBlocks size known (Ok More) = Unit {0}
NeedsBlocks size known (Err fault) = ⊥

-- How far a reading of a store has come: the blocks that are known, and whether the tag refused to give several at
-- once.
pub record Progress : Type 0 where
  pub blocks : ℕ
  pub single : Bool

abbrev pub known_at : ℕ → List ℕ → Progress → List ℕ
known_at size store p = take (size * p.blocks) store

abbrev pub ask_at : ℕ → List ℕ → Progress → Ask
ask_at size store p = next_ask size p.single (known_at size store p)

-- what a tag with this store answers
abbrev pub ask_answer : ℕ → List ℕ → Ask → T5Answer
ask_answer size store (One block) =
    if nat_le (blocks_in size store) block then t5_says.Error no_block
    else t5_says.Content (record { items = block_of size store block })
ask_answer size store (Many block more) =
    if nat_le (blocks_in size store) (block + more) then t5_says.Error no_block
    else t5_says.Content (record { items = blocks_of size store block (more + 1) })

-- Several blocks of which the store doesn't have the last are refused, and each is asked for alone from then on.
abbrev pub progress_behind : ℕ → List ℕ → Progress → Ask → Progress
progress_behind size store p (One block) = record p { blocks = p.blocks + 1 }
progress_behind size store p (Many block more) =
    if nat_le (blocks_in size store) (block + more) then record p { single = true }
    else record p { blocks = p.blocks + (more + 1) }

-- how far it has come behind the first n commands
abbrev pub progress_at : ℕ → List ℕ → ℕ → Progress
progress_at size store zero = record { blocks = 0; single = false }
progress_at size store (suc n) = progress_behind size store (progress_at size store n)
    (ask_at size store (progress_at size store n))

-- Behind the first n commands the tag hasn't ended, and more is needed.
pub record IsBlockDue (size : ℕ) (store : List ℕ) (n : ℕ) : Type 0 where
  pub within : size * (progress_at size store n).blocks ≤ length store
  pub needs : NeedsBlocks size (known_at size store (progress_at size store n))
      (t5_front (known_at size store (progress_at size store n)))

-- The area goes on behind so many bytes, or the container isn't whole.
abbrev pub AreaGoesOn : ℕ → ℕ → Result T5Container ContainerFault → Type 0
AreaGoesOn size known (Ok (Ready space wide many)) = known
    < (t5_reach size (record { space = space; wide = wide; many = many })).end
AreaGoesOn size known (Ok More) = Unit {0}
AreaGoesOn size known (Err fault) = ⊥

-- Behind the first n commands the tag hasn't ended, and the area goes on.
pub record IsBlockLeft (size : ℕ) (store : List ℕ) (n : ℕ) : Type 0 where
  pub within : size * (progress_at size store n).blocks ≤ length store
  pub more : AreaGoesOn size (size * (progress_at size store n).blocks)
      (t5_front (known_at size store (progress_at size store n)))
