-- Blocks that are in range pass through frames: either end does at the frame what its table says of the block, and frames
-- that arrived one after another bring their blocks one after another.
use Rattle.std.proofs.Common.{◌≡◌, ℕ, ◌<◌, ◌≤◌, ◌==◌, ◌&&◌, if◌then◌else◌, zero, suc, List, [], ◌∷◌, ◌++◌, length, Bool, true, false, Option, Some, None, refl, sym, ◌∙◌, ap, arith, append-nil}
use Rattle.std.proofs.lemmas.List.{length-take}
use Rattle.nfc_base.specs.Signal.{Signal}
use Rattle.nfc_base.specs.declared.event.Heard.TheVariants as heard
use Rattle.nfc_base.proofs.ExactlyOnce.{Tallies}
use Rattle.isodep_link.specs.declared.block.Block.{Block}
use Rattle.isodep_link.specs.declared.block.Block.TheVariants.{Info, Ack, Nak, Deselect, Extend}
use Rattle.isodep_link.specs.Blocks.{IsBlock, block_frame, spelled_block, piece}
use Rattle.isodep_link.specs.Sizes.{rats_code}
use Rattle.isodep_link.specs.Card as card
use Rattle.isodep_link.specs.Card.{CardState, card_table, block_table, heeded, stays}
use Rattle.isodep_link.specs.Reader as reader
use Rattle.isodep_link.specs.Reader.{ReaderState, reader_table, block_next, Hears, whole_reception}
use Rattle.isodep_link.specs.Commands.{Cut, taken, cut_by}
use Rattle.isodep_link.specs.Exchange.{blocks_of, before_blocks, iso_dep, IsCut}
use Rattle.isodep_link.proofs.Spelled.{reads_back}

written_read : (b : Block) → IsBlock b → spelled_block (block_frame b) ≡ Some b
written_read b r = reads_back b (block_frame b) (record { range = r; frame = refl })

no_code : {A : Type 0} (two : Bool) (x : A) → (if true && two && false then Some x else None) ≡ None
no_code true x = refl
no_code false x = refl

-- the frame of a block is no RATS
no_rats : (b : Block) → IsBlock b → rats_code (block_frame b) ≡ None
no_rats (Info true zero c) r = no_code (length (0x12 ∷ c.items) == 2) _
no_rats (Info true (suc zero) c) r = no_code (length (0x13 ∷ c.items) == 2) _
no_rats (Info true (suc (suc n)) c) r = absurd (omega (arith, r.0))
no_rats (Info false zero c) r = no_code (length (0x02 ∷ c.items) == 2) _
no_rats (Info false (suc zero) c) r = no_code (length (0x03 ∷ c.items) == 2) _
no_rats (Info false (suc (suc n)) c) r = absurd (omega (arith, r.0))
no_rats (Ack n) r = refl
no_rats (Nak n) r = refl
no_rats Deselect r = refl
no_rats (Extend times) r = refl

-- a card that heeds frames does at the frame of a block what its table says
pub card_heeds : (t : CardState) (b : Block) → t.mute ≡ false → IsBlock b → card_table t (block_frame b) ≡ card.framed (block_table t b)
card_heeds t b e r =
    ap (λ v. if v then card.framed (stays t) else heeded t (rats_code (block_frame b)) (spelled_block (block_frame b))) e
    ∙ ap (λ o. heeded t o (spelled_block (block_frame b))) (no_rats b r)
    ∙ ap (λ o. heeded t None o) (written_read b r)

-- a reader does at the frame of a block what its table says
pub reader_heeds : (i : ReaderState) (b : Block) → IsBlock b → reader_table i (heard.Whole (block_frame b)) ≡ reader.framed (block_next i (Hears b))
reader_heeds i b r = ap (λ o. reader.framed (block_next i (whole_reception o))) (written_read b r)

-- a piece is in range
pub is_piece : (most n : ℕ) (xs : List ℕ) → n < 2 → most ≤ 253 → IsBlock (piece most n xs)
is_piece most n xs p q = (p, (let l = length-take most xs in omega (arith, l)))

before_append : (o : Option Block) (xs ys zs : List Block) → xs ≡ ys ++ zs → before_blocks o xs ≡ before_blocks o ys ++ zs
before_append None xs ys zs e = e
before_append (Some b) xs ys zs e = ap (λ bs. b ∷ bs) e

pub blocks_append : (fs gs : List Signal) → blocks_of (fs ++ gs) ≡ blocks_of fs ++ blocks_of gs
blocks_append [] gs = refl
blocks_append (f ∷ fs) gs = before_append (spelled_block f) (blocks_of (fs ++ gs)) (blocks_of fs) (blocks_of gs) (blocks_append fs gs)

cut_append : (c : Cut) (bs : List Block) (b : Block) → cut_by c (bs ++ b ∷ []) ≡ taken (cut_by c bs) b
cut_append c [] b = refl
cut_append c (x ∷ bs) b = cut_append (taken c x) bs b

-- the cut at which a card stands that obeyed these commands
abbrev pub cut_of : CardState → List (List ℕ) → Cut
cut_of t commands = record { chain = t.chain; commands = commands }

-- the cut goes on by the block of a frame
pub cuts_on : (t u : CardState) (f : Signal) (b : Block) (more : List (List ℕ)) → f ≡ block_frame b → IsBlock b
    → ((commands : List (List ℕ)) → taken (cut_of t commands) b ≡ cut_of u (commands ++ more)) → Tallies iso_dep IsCut t f u more
cuts_on t u f b more e r h = λ commands fs s.
    let z : Cut = record { chain = []; commands = [] } in
    let one : blocks_of (f ∷ []) ≡ b ∷ [] = ap (λ o. before_blocks o []) (ap spelled_block e ∙ written_read b r) in
    ap (cut_by z) (blocks_append fs (f ∷ []) ∙ ap (λ bs. blocks_of fs ++ bs) one) ∙ cut_append z (blocks_of fs) b ∙ ap (λ c. taken c b) s ∙ h commands

-- it stays at a block that brings nothing
pub cuts_same : (t u : CardState) (f : Signal) (b : Block) → f ≡ block_frame b → IsBlock b
    → ((commands : List (List ℕ)) → taken (cut_of t commands) b ≡ cut_of u commands) → Tallies iso_dep IsCut t f u []
cuts_same t u f b e r h = cuts_on t u f b [] e r (λ commands. h commands ∙ ap (cut_of u) (sym (append-nil commands)))
