-- A message in the place of the one that a store holds: the store that has it, the plan of the blocks that are
-- written for it, and what each of them leaves.
use Rattle.std.specs.Prelude.{◌≡◌, ◌≢◌, ℕ, ◌+◌, ◌-◌, ◌*◌, ◌/◌, ◌%◌, ◌<◌, ◌≤◌, Bool, true, false, not, ◌&&◌, ◌==◌}
use Rattle.std.specs.Prelude.{if◌then◌else◌, List, [], ◌∷◌, ◌++◌, length, map, filter, slice_index, slice_set, take}
use Rattle.std.specs.Prelude.{Option, Some, None, Ok}
use Rattle.std.specs.List.{list_any, flat_map, range_with_len, AllByRecursion}
use Rattle.std.specs.Str.{bytes_eq}
use Rattle.nfc_base.specs.Blocks.{with_block, block_of}
use Rattle.tlv_area.specs.declared.space.Space.{Space}
use Rattle.tlv_area.specs.declared.space.AreaMap.{AreaMap}
use Rattle.tlv_area.specs.declared.step.Step.{Step}
use Rattle.tlv_area.specs.declared.step.Plan.{Plan}
use Rattle.tlv_area.specs.declared.planning.PlanFault.{PlanFault}
use Rattle.tlv_area.specs.declared.planning.PlanFault.TheVariants.{TooLong, Memory}
use Rattle.tlv_area.specs.Layout.{Tlv, bytes_at, reserved_by}
use Rattle.tlv_area.specs.Containers.{t2_container}
use Rattle.tlv_area.specs.Form.{Form, Message, IsForm}
use Rattle.tlv_area.specs.Map.{IsMap}
use Rattle.tlv_area.specs.Stores.{four_bytes, cut_by, t5_area, IsT2Form, IsT5Form}
use Rattle.tlv_area.specs.Tail.{message_tail, map_tail, written, span}

-- whether an address is one of these
abbrev pub is_in : List ℕ → ℕ → Bool
is_in cells a = list_any (λ b. b == a) cells

-- new is old but for these addresses
pub record SameOutside (cells old new : List ℕ) : Type 0 where
  pub size : length new ≡ length old
  pub same : (a : ℕ) → is_in cells a ≡ false → slice_index new a ≡ slice_index old a

-- new is old with these bytes at these addresses
pub record IsPut (cells old new bytes : List ℕ) : Type 0 where
  pub outside : SameOutside cells old new
  pub inside : bytes_at new cells ≡ bytes

-- the store with a message in the place of the one that has this tail: what is written stands in the span, and
-- elsewhere it equals the old store
abbrev pub IsNew : List ℕ → List ℕ → List ℕ → List ℕ → Type 0
IsNew tail old message new = IsPut (span tail message) old new (written (length tail) message)

-- each block with an address of the area is whole in the store
abbrev pub HasBlocks : ℕ → Space → List ℕ → Type 0
HasBlocks size space store = (a : ℕ) → space.start ≤ a → a < space.end → size * (a / size) + size ≤ length store

-- how many blocks have the addresses below an end
abbrev pub blocks_below : ℕ → ℕ → ℕ
blocks_below size end = (end + size - 1) / size

-- whether one of the addresses lies in a block
abbrev pub touches : ℕ → List ℕ → ℕ → Bool
touches size cells block = list_any (λ a. a / size == block) cells

-- the block of the length's first byte, which is the first of the tail
abbrev pub home : ℕ → List ℕ → ℕ
home size tail = slice_index tail 0 / size

-- whether a block's content is another in the second of two stores
abbrev pub changes : ℕ → List ℕ → List ℕ → ℕ → Bool
changes size old new block = not (bytes_eq (block_of size old block) (block_of size new block))

-- of the first so many blocks those other than the home block that have one of the addresses and whose content
-- changes, ascending
abbrev pub blocks_changed : ℕ → List ℕ → ℕ → List ℕ → List ℕ → ℕ → List ℕ
blocks_changed size cells home' old new count =
    filter (λ k. (not (k == home') && touches size cells k) && changes size old new k) (range_with_len 0 count)

-- the blocks other than the home block with a byte of the new TLV from its second on, or its terminator, that don't
-- have their final content yet, ascending
abbrev pub fill_blocks : ℕ → ℕ → List ℕ → List ℕ → List ℕ → List ℕ → List ℕ
fill_blocks size end tail old message new =
    blocks_changed size (span tail message) (home size tail) old new (blocks_below size end)

-- the block that a step writes, and what it writes there
abbrev pub write_of : Step → ℕ × List ℕ
write_of s = (s.block, s.content.items)

-- a block as a store has it
abbrev pub block_in : ℕ → List ℕ → ℕ → ℕ × List ℕ
block_in size store block = (block, block_of size store block)

-- the step that gives a block this content in the place of another; none where it has it
abbrev pub IsStepTo : ℕ → List ℕ → List ℕ → Option Step → Type 0
IsStepTo block now content None = now ≡ content
IsStepTo block now content (Some s) = (write_of s ≡ (block, content)) × (now ≢ content)

-- the home block as it is stored, with the length's first byte 00h
abbrev pub closed_block : ℕ → List ℕ → List ℕ → List ℕ
closed_block size tail old = slice_set (block_of size old (home size tail)) (slice_index tail 0 % size) 0

-- First the home block is closed, then the other blocks get their final content, and last the home block. Left out
-- is what would write the content that a block already has.
pub record IsPlan (size end : ℕ) (tail old message new : List ℕ) (plan : Plan) : Type 0 where
  pub close : IsStepTo (home size tail) (block_of size old (home size tail)) (closed_block size tail old) plan.close
  pub fill : map write_of plan.fill ≡ map (λ k. block_in size new k) (fill_blocks size end tail old message new)
  pub last : IsStepTo (home size tail) (closed_block size tail old) (block_of size new (home size tail)) plan.last

-- the plan of a message in the place of the one that the map tells
abbrev pub GivesPlan : ℕ → AreaMap → List ℕ → List ℕ → Plan → Type 0
GivesPlan size m old message plan =
    (new : List ℕ) × IsNew (map_tail m) old message new × IsPlan size m.space.end (map_tail m) old message new plan

-- a step, and steps one by one
abbrev pub after_step : ℕ → List ℕ → Step → List ℕ
after_step size store s = with_block size store s.block s.content.items

abbrev pub after_steps : ℕ → List ℕ → List Step → List ℕ
after_steps size store [] = store
after_steps size store (s ∷ ss) = after_steps size (after_step size store s) ss

-- a step, where it isn't left out
abbrev pub made : Option Step → List Step
made None = []
made (Some s) = s ∷ []

-- all steps of a plan, in their order
abbrev pub steps_of : Plan → List Step
steps_of plan = (made plan.close ++ plan.fill) ++ made plan.last

-- what close and the first so many steps of fill leave
abbrev pub image : ℕ → List ℕ → Plan → ℕ → List ℕ
image size old plan n = after_steps size old (made plan.close ++ take n plan.fill)

-- a step writes one block whole, which the store has
pub record IsWhole (size : ℕ) (store : List ℕ) (s : Step) : Type 0 where
  pub content : length s.content.items ≡ size
  pub room : size * s.block + size ≤ length store

-- none of the steps writes what its block has when it comes
abbrev pub EachChanges : ℕ → List ℕ → List Step → Type 0
EachChanges size store [] = Unit {0}
EachChanges size store (s ∷ ss) =
    (block_of size store s.block ≢ s.content.items) × EachChanges size (after_step size store s) ss

-- how many of the steps write a block
abbrev pub writes_of : ℕ → List Step → ℕ
writes_of block [] = 0
writes_of block (s ∷ ss) = (if s.block == block then 1 else 0) + writes_of block ss

-- What a plan does to a store that holds a message, ts being the TLVs before it and this the tail of its own: after
-- close, made or left out, and after each step of fill it holds the empty message; after last, made or left out, it
-- is the new store, which holds the message. Outside the span all stays as it was. The span lies in the area, and no
-- reserved address is in it, and none of the TLVs before the message. Each step changes its block, the home block at
-- most twice, each other one once.
pub record PlanKeeps (size : ℕ) (space : Space) (ts : List Tlv) (tail old message : List ℕ) (plan : Plan) : Type 0 where
  pub empty : (n : ℕ) → IsForm space (image size old plan n) (Message [])
  pub new : IsNew tail old message (after_steps size old (steps_of plan))
  pub holds : IsForm space (after_steps size old (steps_of plan)) (Message message)
  pub outside : (n : ℕ) → SameOutside (span tail message) old (image size old plan n)
  pub inside : (a : ℕ) → is_in (span tail message) a ≡ true → (space.start ≤ a) × (a < space.end)
  pub reserved : (a : ℕ) → reserved_by space.control ts a ≡ true → is_in (span tail message) a ≡ false
  pub others : (a : ℕ) → is_in (flat_map (λ u. u.at) ts) a ≡ true → is_in (span tail message) a ≡ false
  pub whole : AllByRecursion (IsWhole size old) (steps_of plan)
  pub changed : EachChanges size old (steps_of plan)
  pub twice : writes_of (home size tail) (steps_of plan) ≤ 2
  pub once : (block : ℕ) → block ≢ home size tail → writes_of block (steps_of plan) ≤ 1

-- the same, of the layout that a store with this map has
abbrev pub KeepsPlan : ℕ → AreaMap → List ℕ → List ℕ → Plan → Type 0
KeepsPlan size m old message plan = (ts : List Tlv) (t : Tlv) (after : List ℕ) → IsMap old m ts t after →
    PlanKeeps size m.space ts (message_tail t.at after) old message plan

-- the form of each store that a plan passes, and of the one that it leaves
pub record PlanForms (size : ℕ) (is : List ℕ → Form → Type 0) (old message : List ℕ) (plan : Plan) : Type 0 where
  pub empty : (n : ℕ) → is (image size old plan n) (Message [])
  pub holds : is (after_steps size old (steps_of plan)) (Message message)

-- Of a Type 2 store, or of a Type 5 store of blocks of so many bytes, whose area is that of the map: the container
-- that is written stays, and names the same area, so the messages are what the whole store holds.
pub record KeepsKind (size : ℕ) (m : AreaMap) (old message : List ℕ) (plan : Plan) : Type 0 where
  pub t2 : t2_container (four_bytes old 12) ≡ Ok m.space → PlanForms size IsT2Form old message plan
  pub t5 : cut_by (t5_area size old) (length old) ≡ Ok m.space → PlanForms size (IsT5Form size) old message plan

-- what holds of each store that has this map
abbrev pub KeepsKinds : ℕ → AreaMap → List ℕ → List ℕ → Plan → Type 0
KeepsKinds size m old message plan = (ts : List Tlv) (t : Tlv) (after : List ℕ) → IsMap old m ts t after →
    KeepsKind size m old message plan

abbrev pub plan_fault_number : PlanFault → ℕ
plan_fault_number TooLong = 1
plan_fault_number Memory = 2
