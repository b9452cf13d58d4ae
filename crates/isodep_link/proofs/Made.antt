-- What a card was made as stays, whatever it hears and answers: its size code, and how much more time it asks for.
use Rattle.std.proofs.Common.{◌≡◌, ℕ, nat_lt, ◌==◌, List, ◌++◌, length, drop, Bool, true, false, if◌then◌else◌, Option, Some, None, refl}
use Rattle.nfc_base.specs.Signal.{Signal}
use Rattle.isodep_link.specs.declared.block.Block.{Block}
use Rattle.isodep_link.specs.declared.block.Block.TheVariants.{Info, Ack, Nak, Deselect, Extend}
use Rattle.isodep_link.specs.Blocks.{piece, spelled_block}
use Rattle.isodep_link.specs.Sizes.{limit, rats_code}
use Rattle.isodep_link.specs.Card.{CardState, CardMove, CardTurn, stays, again, grown, drawn, block_table, framed, obeyed, heeded, card_table, replied, darkened}

-- by this turn a card stays as it was made
abbrev StaysMade : CardState → CardTurn → Type 0
StaysMade t turn = darkened turn.state ≡ darkened t

module _ (t : CardState) where
  either_made : (v : Bool) (x y : CardTurn) → StaysMade t x → StaysMade t y → StaysMade t (if v then x else y)
  either_made true x y p q = p
  either_made false x y p q = q

  move_made : (v : Bool) (x y : CardMove) → StaysMade t (framed x) → StaysMade t (framed y) → StaysMade t (framed (if v then x else y))
  move_made true x y p q = p
  move_made false x y p q = q

  again_made : (o : Option Block) → StaysMade t (framed (again t o))
  again_made None = refl
  again_made (Some b) = refl

  drawn_made : StaysMade t (framed (drawn t))
  drawn_made = move_made (if nat_lt 0 t.due then false else t.unsent) _ (stays t) refl refl

  grown_made : (more : Bool) (xs : List ℕ) → StaysMade t (framed (grown t more xs))
  grown_made true xs = refl
  grown_made false xs = refl

  block_made : (b : Block) → StaysMade t (framed (block_table t b))
  block_made (Info more n content) =
      let xs : List ℕ = t.chain ++ content.items in
      move_made (nat_lt limit (length xs)) (stays (record t { begun = true; mute = true })) (grown t more xs) refl (grown_made more xs)
  block_made (Ack n) = move_made (n == t.number) (again t t.last) (drawn t) (again_made t.last) drawn_made
  block_made (Nak n) = move_made (n == t.number) (again t t.last) _ (again_made t.last) refl
  block_made Deselect = refl
  block_made (Extend times) =
      move_made (if nat_lt 0 t.due then times == t.times else false) _ (stays t) (move_made (nat_lt 1 t.due) _ _ refl refl) refl

  obeyed_made : (b : Option Block) → StaysMade t (obeyed t b)
  obeyed_made None = refl
  obeyed_made (Some b) = block_made b

  heeded_made : (code : Option ℕ) (b : Option Block) → StaysMade t (heeded t code b)
  heeded_made (Some code) b = either_made t.begun _ _ refl refl
  heeded_made None b = obeyed_made b

  -- at any frame
  pub stays_made : (f : Signal) → darkened (card_table t f).state ≡ darkened t
  stays_made f = either_made t.mute (framed (stays t)) (heeded t (rats_code f) (spelled_block f)) refl (heeded_made (rats_code f) (spelled_block f))

  -- and where its owner's answer begins
  pub replied_made : (r : List ℕ) → darkened (replied t r) ≡ darkened t
  replied_made r = by_busy (nat_lt 0 t.busy)
    where
      by_busy : (v : Bool)
          → darkened (if v then record t { last = Some (Extend t.times); left = r; unsent = true; due = t.busy }
          else record t { last = Some (piece t.most t.number r); left = drop t.most r; unsent = nat_lt t.most (length r); due = 0 }) ≡ darkened t
      by_busy true = refl
      by_busy false = refl
