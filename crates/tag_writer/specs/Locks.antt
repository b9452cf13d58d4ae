-- Locked blocks: that a tag refuses the writes of a message that it takes exactly where one of them goes to a locked
-- block (NFC Forum Type 2 and Type 5 Tag). A Type 4 tag has no blocks.
use Rattle.std.specs.Prelude.{◌≡◌, ℕ, ◌/◌, ◌≤◌, List, [], get_or, Bool, true, false, if◌then◌else◌, Option, Some, None}
use Rattle.std.specs.List.{list_any}
use Rattle.nfc_base.specs.Signal.{Signal}
use Rattle.nfc_base.specs.TagLinks.{TagState, TagStep, MayAsk, Type2, Type4, Type5}
use Rattle.t2t_tag.specs.Store.{IsT2Store}
use Rattle.t5t_tag.specs.Store.{IsT5Store}
use Rattle.t5t_tag.specs.Step.{block_locked}
use Rattle.tag_reader.specs.declared.how.How.{How}
use Rattle.tag_reader.specs.declared.how.How.TheVariants.{T2, T4, T5}
use Rattle.tag_reader.specs.Files.{IsFileStore, t4_link_step}
use Rattle.tag_reader.specs.Kinds.{IsNamed, t2_step, t5_step}
use Rattle.tag_writer.specs.Puts.{Put}
use Rattle.tag_writer.specs.Place.{Place, Takes}
use Rattle.tag_writer.specs.WriteAsked.{Parts, ArePuts, all_puts}

-- whether a write goes to a locked block
abbrev pub is_locked_put : How → ℕ → List Bool → Put → Bool
is_locked_put T2 size locked p = get_or locked (p.at / 4) false
is_locked_put T4 size locked p = false
is_locked_put (T5 id) size locked p = get_or locked (p.at / size) false

-- whether one of some writes does
abbrev pub has_locked : How → ℕ → List Bool → List Put → Bool
has_locked how size locked puts = list_any (is_locked_put how size locked) puts

-- the code by which a tag refuses the write of a locked block
abbrev pub locked_code : How → Option ℕ
locked_code T2 = Some 0
locked_code T4 = None
locked_code (T5 id) = Some block_locked

abbrev pub refusal_if : How → Bool → Option ℕ
refusal_if how locked = if locked then locked_code how else None

-- The tag has this step on commands, these of its blocks being locked.
abbrev pub StepsBy : How → ℕ → List Bool → (TagState → Signal → TagStep) → Type 0
StepsBy T2 size locked step = (s : TagState) (c : Signal) → IsT2Store s.store → MayAsk Type2 [] c
    → step s c ≡ t2_step locked s c
StepsBy T4 size locked step = (code : ℕ) × (code ≤ 8)
    × ((s : TagState) (c : Signal) → IsFileStore s.store → MayAsk Type4 [] c → step s c ≡ t4_link_step code s c)
StepsBy (T5 id) size locked step = IsNamed (T5 id) id × (quiet : Bool)
    × ((s : TagState) (c : Signal) → IsT5Store size s.store → MayAsk Type5 id c
    → step s c ≡ t5_step id size locked quiet s c)

-- A store takes a message, and none of the blocks that are written for it is locked.
pub record IsFreeFor (how : How) (size : ℕ) (locked : List Bool) (store message : List ℕ) : Type 0 where
  pub place : Place
  pub takes : Takes how size store message place
  pub free : (parts : Parts) → ArePuts how size store message parts
      → has_locked how size locked (all_puts parts) ≡ false

-- A refusal is that of a locked block, to which one of the writes goes.
pub record IsLockedFor (how : How) (size : ℕ) (locked : List Bool) (store message : List ℕ) (code : ℕ) : Type 0 where
  pub code' : locked_code how ≡ Some code
  pub held : (parts : Parts) → ArePuts how size store message parts → has_locked how size locked (all_puts parts) ≡ true
