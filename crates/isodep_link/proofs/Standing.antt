-- How reader and card stand to each other in an exchange, and how many transmissions are left then.
use Rattle.std.proofs.Common.{◌≡◌, ℕ, ◌+◌, ◌*◌, ◌<◌, ◌≤◌, ◌==◌, ◌⊎◌, true, false, List, Option, Some, None, sym, ◌∙◌, arith}
use Rattle.std.proofs.lemmas.Bool.Decides.{nat_tests}
use Rattle.nfc_base.specs.Signal.{Signal}
use Rattle.nfc_base.specs.Pieces.{most_bads, pieces}
use Rattle.nfc_base.proofs.Chains.{Ends, Asking, Drawing, Extending, Held}
use Rattle.isodep_link.specs.declared.block.Block.{Block}
use Rattle.isodep_link.specs.declared.block.Block.TheVariants.{Ack, Nak, Extend}
use Rattle.isodep_link.specs.declared.reader.Phase.{Phase}
use Rattle.isodep_link.specs.declared.reader.Phase.TheVariants.{Asked, Nacked}
use Rattle.isodep_link.specs.Blocks.{toggled, block_frame, piece}
use Rattle.isodep_link.specs.Sizes.{limit}
use Rattle.isodep_link.specs.Card.{CardState}
use Rattle.isodep_link.specs.Reader.{ReaderState, request}

two_numbers : (p : ℕ) → p < 2 → toggled p + p ≡ 1
two_numbers p h = omega arith

pub not_toggled : (p : ℕ) → p < 2 → (p == toggled p) ≡ false
not_toggled p h = let e = two_numbers p h in grind (arith, nat_tests)

pub toggled_not : (p : ℕ) → p < 2 → (toggled p == p) ≡ false
toggled_not p h = let e = two_numbers p h in grind (arith, nat_tests)

pub toggled_twice : (p : ℕ) → p < 2 → toggled (toggled p) ≡ p
toggled_twice p h = omega arith

pub toggled_small : (p : ℕ) → toggled p < 2
toggled_small p = omega arith

-- the ends of ISO-DEP
abbrev pub iso_ends : Ends CardState Block
iso_ends = record {
  modulus = 2;
  after = toggled;
  small = toggled_small;
  content = 253;
  limit = limit;
  see = λ t. record { mute = t.mute; most = t.most; busy = t.busy; times = t.times; due = t.due; chain = t.chain; left = t.left; unsent = t.unsent; last = t.last };
  expects = λ t n. t.number ≡ toggled n;
  has = λ t n. t.number ≡ n;
  goes_on = λ t n l e. e ∙ sym (toggled_twice n l);
  answers = λ c t. c.drawing ≡ true → c.extension ≡ None;
  extends = λ c t. Unit {0};
  ack = λ n. Ack n;
  piece = piece;
  extend = λ times. Extend times;
}

-- the command out, the most content m of the card's blocks, and how often the card asks for more time
module _ (m k : ℕ) (out : List ℕ) where
  -- the reader sends f next
  pub data Ask (i : ReaderState) (t : CardState) (given : Option (List ℕ)) (f : Signal) (n : ℕ) : Type 0 where
    asks : i.phase ≡ Asked → f ≡ block_frame (request i.core) → i.bads ≤ most_bads → Asking iso_ends m k out i.core t given → 2 * pieces i.core.most i.core.rest ≤ n → Ask i t given f n
    draws : i.phase ≡ Asked → f ≡ block_frame (request i.core) → Drawing iso_ends m k out i.core t given → 2 * pieces t.most t.left ≤ n → Ask i t given f n
    draws_again : i.phase ≡ Asked → f ≡ block_frame (request i.core) → i.core.drawing ≡ true → i.core.extension ≡ None → Held iso_ends m k out i.core t given n i.bads → Ask i t given f n
    naks : i.phase ≡ Nacked → f ≡ block_frame (Nak i.core.number) → i.bads ≤ most_bads → Asking iso_ends m k out i.core t given → 2 * pieces i.core.most i.core.rest + 2 ≤ n → Ask i t given f n
    naks_held : i.phase ≡ Nacked → f ≡ block_frame (Nak i.core.number) → i.core.drawing ≡ false → Held iso_ends m k out i.core t given n i.bads → Ask i t given f n
    grants : i.phase ≡ Asked → f ≡ block_frame (request i.core) → i.core.extension ≡ Some t.times → i.bads ≤ most_bads → Extending iso_ends m k out i.core t given (i.bads + 1)
        → 2 * (t.due + pieces t.most t.left) ≤ n + 2 → Ask i t given f n

  -- a wait is under way
  abbrev pub IsLive : Phase → Type 0
  IsLive p = (p ≡ Asked) ⊎ (p ≡ Nacked)

  -- the card sends a next: what it has, or R(ACK) with its number where it doesn't have the piece
  pub data Wait (i : ReaderState) (t : CardState) (given : Option (List ℕ)) (a : Signal) (n : ℕ) : Type 0 where
    has : IsLive i.phase → (b : Block) → a ≡ block_frame b → t.last ≡ Some b → Held iso_ends m k out i.core t given n i.bads → Wait i t given a n
    misses : i.phase ≡ Nacked → a ≡ block_frame (Ack t.number) → i.bads ≤ most_bads → Asking iso_ends m k out i.core t given → 2 * pieces i.core.most i.core.rest + 2 ≤ n → Wait i t given a n
