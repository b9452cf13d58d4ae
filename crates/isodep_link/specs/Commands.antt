-- The commands that blocks bring to a card (ISO/IEC 14443-4; NFC Forum Digital Protocol): the contents of its I-blocks,
-- joined over chaining, whatever their numbers; and what a card hands to its owner at some blocks.
use Rattle.std.specs.Prelude.{◌≡◌, ℕ, Bool, true, false, List, [], ◌∷◌, ◌++◌, if◌then◌else◌}
use Rattle.isodep_link.specs.declared.block.Block.{Block}
use Rattle.isodep_link.specs.declared.block.Block.TheVariants.{Info, Ack, Nak, Deselect, Extend}
use Rattle.isodep_link.specs.Card.{darkened, CardState, CardMove, Does, Stays, Answers, Delivers, Sleeps, stays}
use Rattle.isodep_link.specs.Card.{block_table, replied}

-- the chain so far, and the whole commands before it
pub record Cut : Type 0 where
  pub chain : List ℕ
  pub commands : List (List ℕ)

abbrev pub joined : Cut → Bool → List ℕ → Cut
joined c true xs = record { chain = xs; commands = c.commands }
joined c false xs = record { chain = []; commands = c.commands ++ xs ∷ [] }

-- one block more
abbrev pub taken : Cut → Block → Cut
taken c (Info more n content) = joined c more (c.chain ++ content.items)
taken c (Ack n) = c
taken c (Nak n) = c
taken c Deselect = c
taken c (Extend times) = c

abbrev pub cut_by : Cut → List Block → Cut
cut_by c [] = c
cut_by c (b ∷ bs) = cut_by (taken c b) bs

-- the commands of some blocks
abbrev pub iso_commands : List Block → List (List ℕ)
iso_commands bs = (cut_by (record { chain = []; commands = [] }) bs).commands

-- a card, and what it delivered
pub record Obeying : Type 0 where
  pub state : CardState
  pub delivered : List (List ℕ)

-- what a card does at a block, mute or not
abbrev pub heard_by : Bool → CardState → Block → CardMove
heard_by mute t b = if mute then stays t else block_table t b

-- The owner answers each command that is delivered.
abbrev pub settled : (List ℕ → List ℕ) → CardState → Does → CardState
settled far t Stays = t
settled far t (Answers b) = t
settled far t (Delivers xs) = replied t (far xs)
settled far t (Sleeps b) = t

abbrev pub with_delivered : List (List ℕ) → Does → List (List ℕ)
with_delivered xs Stays = xs
with_delivered xs (Answers b) = xs
with_delivered xs (Delivers command) = xs ++ command ∷ []
with_delivered xs (Sleeps b) = xs

abbrev pub moved : (List ℕ → List ℕ) → Obeying → CardMove → Obeying
moved far o m = record { state = settled far m.state m.does; delivered = with_delivered o.delivered m.does }

abbrev pub obeying : (List ℕ → List ℕ) → Obeying → List Block → Obeying
obeying far o [] = o
obeying far o (b ∷ bs) = obeying far (moved far o (heard_by o.state.mute o.state b)) bs

-- What a card delivers that heard nothing since the dark are the commands of the blocks that it hears, each once and in
-- order, unless a chain grows too long: however often it asks for more time before an answer, and whatever its owner
-- answers.
abbrev pub DeliversCommands : Type 0
DeliversCommands =
    (far : List ℕ → List ℕ) (t : CardState) (bs : List Block) → t ≡ darkened t
    → (obeying far (record { state = t; delivered = [] }) bs).state.mute ≡ false
    → (obeying far (record { state = t; delivered = [] }) bs).delivered ≡ iso_commands bs
