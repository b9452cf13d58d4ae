-- Type 4 tags in a field (NFC Forum Digital Protocol; NFC Forum Type 4 Tag): a listener that does at the reader's
-- blocks what the card's table says, over the tag's own step on commands. Who hears what is this project's own.
use Rattle.std.specs.Prelude.{◌≡◌, ℕ, ◌<◌, ◌≤◌, List, length, slice_index, true, Some, None}
use Rattle.std.specs.List.{AllByRecursion}
use Rattle.nfc_base.specs.declared.frame.Tech.TheVariants.{A}
use Rattle.nfc_base.specs.Signal.{Signal, whole_a}
use Rattle.nfc_base.specs.Far.{Untouched}
use Rattle.nfc_base.specs.TagLinks.{TagState, TagStep}
use Rattle.nfc_base.specs.LinkTurns.{MovedBy, step}
use Rattle.air_core.specs.PlainTags.{reached}
use Rattle.air_core.specs.declared.listener.Listener.{Ghosts}
use Rattle.isodep_link.specs.declared.block.Block.{Block}
use Rattle.isodep_link.specs.declared.block.Block.TheVariants.{Info, Ack, Nak, Deselect, Extend}
use Rattle.isodep_link.specs.Blocks.{IsBlock, block_frame}
use Rattle.isodep_link.specs.Sizes.{limit}
use Rattle.isodep_link.specs.Card.{CardState, darkened}
use Rattle.isodep_link.specs.Exchange.{iso_dep}

-- a block that a reader sends while it asks commands
abbrev pub IsAskedBlock : Block → Type 0
IsAskedBlock (Info more n content) = IsBlock (Info more n content)
IsAskedBlock (Ack n) = IsBlock (Ack n)
IsAskedBlock (Nak n) = IsBlock (Nak n)
IsAskedBlock Deselect = ⊥
IsAskedBlock (Extend times) = IsBlock (Extend times)

-- the frame of such a block, whose items are bytes
pub record IsAskedFrame (f : Signal) : Type 0 where
  pub block : Block
  pub asked : IsAskedBlock block
  pub bytes : (i : ℕ) → slice_index f.bytes i < 256
  pub frame : f ≡ block_frame block

-- the tag's step on the bytes of a command: the bytes of its answer, and what the tag is then
abbrev pub TagDoes : (TagState → Signal → TagStep) → TagState → List ℕ → List ℕ → TagState → Type 0
TagDoes step s command answer after = ((step s (whole_a command)).answer ≡ Some (whole_a answer))
    × (after ≡ (step s (whole_a command)).after)

abbrev pub IsShort : List ℕ → Type 0
IsShort xs = length xs ≤ limit

module _ {L : Type 0} (k : Ghosts L) (card : L → CardState) (tag : L → TagState) where
  -- At a frame a listener does what the card's table says, whose owner is the tag; it hands nothing over, and stays
  -- selected.
  pub record StepsByCard (l : L) (f : Signal) : Type 0 where
    pub quiet : k.machine.handed l f ≡ Untouched
    pub reply : List ℕ
    pub short : IsShort reply
    pub answer : k.machine.answer l f None ≡ (step iso_dep reply (card l) f).answer
    pub card_is : card (k.machine.after l f None) ≡ (step iso_dep reply (card l) f).state
    pub moved : MovedBy (TagDoes (k.commands l)) (tag l) (step iso_dep reply (card l) f).asked reply
        (tag (k.machine.after l f None))
    pub selected : k.is_selected (k.machine.after l f None) ≡ true

  -- A selected listener is a Type 4 tag that was activated: by the reader's blocks it only comes to where it does so
  -- again. The dark clears its card's end.
  pub record IsCardTag (l : L) : Type 0 where
    pub tech : k.machine.tech l ≡ A
    pub steps : (fs : List Signal) → AllByRecursion IsAskedFrame fs → (f : Signal) → IsAskedFrame f
        → StepsByCard (reached k l fs) f
    pub cleared : (fs : List Signal) → AllByRecursion IsAskedFrame fs
        → card (k.machine.darkened (reached k l fs)) ≡ darkened (card (reached k l fs))
