-- What a card does at each block of a reader: it keeps its code, stays awake, and a command that it delivers has bytes.
use Rattle.std.proofs.Common.{◌≡◌, ℕ, ◌<◌, ◌==◌, zero, suc, nat_lt, List, [], ◌∷◌, ◌++◌, length, slice_index, Bool, true, false, if◌then◌else◌, Option, Some, None, sym, ap, subst, arith}
use Rattle.nfc_base.specs.Signal.{Signal}
use Rattle.isodep_link.specs.declared.block.Block.{Block}
use Rattle.isodep_link.specs.declared.block.Block.TheVariants.{Info, Ack, Nak, Deselect, Extend}
use Rattle.isodep_link.specs.declared.card.CardStep.{CardStep}
use Rattle.isodep_link.specs.declared.card.CardStep.TheVariants as steps
use Rattle.isodep_link.specs.Blocks.{IsBlock, block_bytes, spelled_block}
use Rattle.isodep_link.specs.Sizes.{limit, rats_code}
use Rattle.isodep_link.specs.Card.{CardState, CardMove, CardTurn, stays, again, grown, drawn, block_table, framed, heeded, card_table}
use Rattle.isodep_link.specs.CardTags.{IsAskedBlock, IsAskedFrame}
use Rattle.isodep_link.proofs.Wire.{card_heeds}

-- all items are bytes
abbrev pub AreBytes : List ℕ → Type 0
AreBytes xs = (i : ℕ) → slice_index xs i < 256

-- bytes behind bytes are bytes
joined_bytes : (xs ys : List ℕ) → AreBytes xs → AreBytes ys → (i : ℕ) → slice_index (xs ++ ys) i < 256
joined_bytes [] ys p q i = q i
joined_bytes (x ∷ xs) ys p q zero = p zero
joined_bytes (x ∷ xs) ys p q (suc i) = joined_bytes xs ys (λ j. p (suc j)) q i

-- no items are bytes
pub no_bytes : AreBytes []
no_bytes i = omega arith

-- a card stays awake, and a command that it delivers has bytes
abbrev pub IsAwake : CardStep → Type 0
IsAwake steps.Quiet = Unit {0}
IsAwake (steps.Reply f) = Unit {0}
IsAwake (steps.Deliver command) = AreBytes command.items
IsAwake (steps.Asleep f) = ⊥

-- an asked block is in range
in_range : (b : Block) → IsAskedBlock b → IsBlock b
in_range (Info more n content) a = a
in_range (Ack n) a = a
in_range (Nak n) a = a
in_range Deselect a = absurd a
in_range (Extend times) a = a

-- what a card of this code does at an asked block
pub record Heeds (code : ℕ) (turn : CardTurn) : Type 0 where
  pub own : turn.state.code ≡ code
  pub chain : AreBytes turn.state.chain
  pub awake : IsAwake turn.does

module _ (code : ℕ) where
  -- of two moves either heeds
  heeds_if : (v : Bool) (x y : CardMove) → Heeds code (framed x) → Heeds code (framed y) → Heeds code (framed (if v then x else y))
  heeds_if true x y p q = p
  heeds_if false x y p q = q

  module _ (t : CardState) (e : t.code ≡ code) (c : AreBytes t.chain) where
    -- it sends its last block again
    heeds_again : (o : Option Block) → Heeds code (framed (again t o))
    heeds_again None = record { own = e; chain = c; awake = tt }
    heeds_again (Some b) = record { own = e; chain = c; awake = tt }

    -- it sends the next piece of its answer
    heeds_drawn : Heeds code (framed (drawn t))
    heeds_drawn =
        heeds_if (if nat_lt 0 t.due then false else t.unsent) _ (stays t) (record { own = e; chain = c; awake = tt }) (record { own = e; chain = c; awake = tt })

    -- its chain grows
    heeds_grown : (more : Bool) (xs : List ℕ) → AreBytes xs → Heeds code (framed (grown t more xs))
    heeds_grown true xs p = record { own = e; chain = p; awake = tt }
    heeds_grown false xs p = record { own = e; chain = no_bytes; awake = p }

    -- it does so at a block
    heeds_block : (b : Block) → IsAskedBlock b → AreBytes (block_bytes b) → Heeds code (framed (block_table t b))
    heeds_block (Info more n content) a p =
        let xs : List ℕ = t.chain ++ content.items in
        heeds_if (nat_lt limit (length xs)) (stays (record t { begun = true; mute = true })) (grown t more xs)
        (record { own = e; chain = c; awake = tt })
        (heeds_grown more xs (joined_bytes t.chain content.items c (λ i. p (suc i))))
    heeds_block (Ack n) a p = heeds_if (n == t.number) (again t t.last) (drawn t) (heeds_again t.last) heeds_drawn
    heeds_block (Nak n) a p = heeds_if (n == t.number) (again t t.last) _ (heeds_again t.last) (record { own = e; chain = c; awake = tt })
    heeds_block Deselect a p = absurd a
    heeds_block (Extend times) a p =
        heeds_if (if nat_lt 0 t.due then times == t.times else false) _ (stays t)
        (heeds_if (nat_lt 1 t.due) _ _ (record { own = e; chain = c; awake = tt }) (record { own = e; chain = c; awake = tt })) (record { own = e; chain = c; awake = tt })

    -- and at the frame of one, whether or not it is mute
    pub heeds_by : (f : Signal) → IsAskedFrame f → (mute : Bool) → t.mute ≡ mute → Heeds code (card_table t f)
    heeds_by f a true m =
        subst (Heeds code) (sym (ap (λ v. if v then framed (stays t) else heeded t (rats_code f) (spelled_block f)) m)) (record { own = e; chain = c; awake = tt })
    heeds_by f a false m =
        let bytes : AreBytes (block_bytes a.block) = subst (λ (g : Signal). AreBytes g.bytes) a.frame a.bytes in
        subst (λ g. Heeds code (card_table t g)) (sym a.frame)
        (subst (Heeds code) (sym (card_heeds t a.block m (in_range a.block a.asked))) (heeds_block a.block a.asked bytes))
