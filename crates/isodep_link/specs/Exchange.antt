-- Both ends of ISO-DEP as a link that stops and waits (ISO/IEC 14443-4; NFC Forum Digital Protocol): their tables on
-- the air, how one exchange begins, and in how many blocks its command and its answer are sent.
use Rattle.std.specs.Prelude.{◌≡◌, ℕ, ◌+◌, ◌<◌, ◌≤◌, false, List, [], ◌∷◌, length, Option, Some, None}
use Rattle.nfc_base.specs.Signal.{Signal}
use Rattle.nfc_base.specs.StopAndWait.{Does, Quiet, Reply, Deliver, Finished, SixBad, Protocol, Next, Send, Ends}
use Rattle.nfc_base.specs.StopAndWait.{StopAndWait, World, Once, IsReplyTo, run}
use Rattle.nfc_base.specs.Sessions.{opening}
use Rattle.nfc_base.specs.LinkTurns.{heard_of}
use Rattle.isodep_link.specs.declared.block.Block.{Block}
use Rattle.isodep_link.specs.declared.card.CardStep.{CardStep}
use Rattle.isodep_link.specs.declared.card.CardStep.TheVariants as card
use Rattle.isodep_link.specs.declared.reader.ReaderStep.{ReaderStep}
use Rattle.isodep_link.specs.declared.reader.ReaderStep.TheVariants as reader
use Rattle.isodep_link.specs.Blocks.{toggled, block_frame, spelled_block}
use Rattle.nfc_base.specs.Pieces.{pieces, most_busy, longest_extension}
use Rattle.isodep_link.specs.Card.{CardState, card_table, replied, reply_block, darkened}
use Rattle.isodep_link.specs.Reader.{ReaderState, reader_table, begun, request}
use Rattle.nfc_base.specs.declared.event.Fate.{Fate}
use Rattle.isodep_link.specs.Sizes.{limit}
use Rattle.isodep_link.specs.Commands.{cut_by, iso_commands}

-- the steps of both ends, in the words of such a link
abbrev pub card_does : CardStep → Does Signal
card_does card.Quiet = Quiet
card_does (card.Reply f) = Reply f
card_does (card.Deliver command) = Deliver command.items
card_does (card.Asleep f) = Reply f

abbrev pub reader_does : ReaderStep → Next Signal
reader_does (reader.Send f) = Send f
reader_does (reader.Finished answer) = Ends (Finished answer.items)
reader_does reader.SixBad = Ends SixBad
reader_does reader.Protocol = Ends Protocol

abbrev pub before_blocks : Option Block → List Block → List Block
before_blocks None bs = bs
before_blocks (Some b) bs = b ∷ bs

-- the blocks that frames spell, in order
abbrev pub blocks_of : List Signal → List Block
blocks_of [] = []
blocks_of (f ∷ fs) = before_blocks (spelled_block f) (blocks_of fs)

-- the tables of reader and card
abbrev pub iso_dep : StopAndWait ReaderState CardState Signal
iso_dep = record {
  heard = λ t f. (card_table t f).state;
  does = λ t f. card_does (card_table t f).does;
  replied = replied;
  answer = λ t r. block_frame (reply_block t r);
  dark = darkened;
  next = λ i h. (reader_table i (heard_of h)).state;
  acts = λ i h. reader_does (reader_table i (heard_of h)).does;
  payloads = λ fs. iso_commands (blocks_of fs);
}

-- an exchange on such a link
abbrev pub Exchange : Type 0
Exchange = World ReaderState CardState Signal

-- What a card's answers take: the most content of a block that it sends, and how often it asks for more time first.
pub record Backs : Type 0 where
  pub most : ℕ
  pub busy : ℕ

abbrev pub backs_of : CardState → Backs
backs_of t = record { most = t.most; busy = t.busy }

-- how many blocks an answer takes: time extensions, and its pieces
abbrev pub blocks_back : CardState → List ℕ → ℕ
blocks_back t r = t.busy + pieces t.most r

-- Between two exchanges reader and card are in step: the card has the other number and no piece of a command, and each
-- cuts what it sends into pieces that a frame holds.
pub record InStep (i : ReaderState) (t : CardState) : Type 0 where
  pub heeds : t.mute ≡ false
  pub number : i.core.number < 2
  pub other : t.number ≡ toggled i.core.number
  pub no_chain : t.chain ≡ []
  pub all_sent : t.unsent ≡ false
  pub asks : (0 < i.core.most) × (i.core.most ≤ 253)
  pub answers : (0 < t.most) × (t.most ≤ 253)
  pub busy : t.busy ≤ most_busy
  pub times : (1 ≤ t.times) × (t.times ≤ longest_extension)

-- A card that heard nothing, and asks for no more time than it may.
pub record IsMade (t : CardState) : Type 0 where
  pub made : t ≡ darkened t
  pub busy : t.busy ≤ most_busy
  pub times : (1 ≤ t.times) × (t.times ≤ longest_extension)

-- By the blocks that arrived, the card obeyed these commands, and this much of another one came.
abbrev pub IsCut : CardState → List (List ℕ) → List Signal → Type 0
IsCut t commands arrived = cut_by (record { chain = []; commands = [] }) (blocks_of arrived)
    ≡ record { chain = t.chain; commands = commands }

-- the next exchange may begin
abbrev pub IsReady : Exchange → Type 0
IsReady w = InStep w.asking w.answering × IsCut w.answering w.delivered w.arrived

-- an exchange of this command begins, behind those in which the card obeyed these commands and heard these frames
abbrev pub beginning : ReaderState → CardState → List (List ℕ) → List Signal → List ℕ → Exchange
beginning i t commands arrived command =
    opening (begun i command) t commands arrived (block_frame (request (begun i command).core))

-- the exchange of a command begins, from where the one before it ended
abbrev pub next_exchange : Exchange → List ℕ → Exchange
next_exchange w command = beginning w.asking w.answering w.delivered w.arrived command

-- The law of an exchange between a reader with this state and a card with that one, whose owner answers by the function
-- far: at any moment the command was obeyed at most once, as Once says, with at most 2 (k1 + k2 - 1) + 2 K + 4 b
-- transmissions.
abbrev pub ObeyedOnce : (far : List ℕ → List ℕ) (i : ReaderState) (t : CardState) (commands : List (List ℕ))
    (command : List ℕ) → Exchange → Type 0
ObeyedOnce far i t commands command w =
    Once iso_dep IsReady (IsReplyTo far command) commands command (pieces i.core.most command) (blocks_back t) w

-- Over every list of fates, and whatever the card's owner answers, an exchange between ends in step keeps that law.
abbrev pub ObeysOnce : Type 0
ObeysOnce =
    (far : List ℕ → List ℕ) (i : ReaderState) (t : CardState) (commands : List (List ℕ)) (arrived : List Signal)
    (command : List ℕ) (fates : List Fate)
    → ((xs : List ℕ) → length (far xs) ≤ limit) → length command ≤ limit → InStep i t → IsCut t commands arrived
    → ObeyedOnce far i t commands command (run iso_dep far (beginning i t commands arrived command) fates)
