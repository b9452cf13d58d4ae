-- The reader's end of ISO-DEP (ISO/IEC 14443-4; NFC Forum Digital Protocol): what it sends next, or how the exchange
-- ends, by what it sent last and what it heard. The six receptions and the 264 bytes are this project's own.
use Rattle.std.specs.Prelude.{◌≡◌, ℕ, ◌+◌, ◌==◌, nat_lt, Bool, true, false, List, [], ◌++◌, drop, Option, Some, None}
use Rattle.std.specs.Prelude.{if◌then◌else◌}
use Rattle.nfc_base.specs.Signal.{Signal}
use Rattle.nfc_base.specs.declared.event.Heard.{Heard}
use Rattle.nfc_base.specs.declared.event.Heard.TheVariants.{Whole, Collided, Damaged, Silent}
use Rattle.isodep_link.specs.declared.block.Block.{Block}
use Rattle.isodep_link.specs.declared.block.Block.TheVariants.{Info, Ack, Nak, Deselect, Extend}
use Rattle.isodep_link.specs.declared.reader.Phase.{Phase}
use Rattle.isodep_link.specs.declared.reader.Phase.TheVariants.{Asked, Nacked, Free, EndedSixBad, EndedProtocol}
use Rattle.isodep_link.specs.declared.reader.ReaderStep.{ReaderStep}
use Rattle.isodep_link.specs.declared.reader.ReaderKind.{ReaderKind}
use Rattle.isodep_link.specs.declared.reader.ReaderKind.TheVariants as kinds
use Rattle.isodep_link.specs.declared.reader.ReaderStep.TheVariants as steps
use Rattle.isodep_link.specs.Blocks.{toggled, piece, block_frame, spelled_block, IsSpelled}
use Rattle.nfc_base.specs.Pieces.{Core, most_bads, quiet_core, begun_core, turned, more_follows, is_refused, may_extend}
use Rattle.isodep_link.specs.Sizes.{piece_size, limit}

-- A reader: that, what it sent last or how its exchange ended, and the bad receptions of this wait.
pub record ReaderState : Type 0 where
  pub core : Core
  pub phase : Phase
  pub bads : ℕ

-- what a reader hears: a block, another whole frame, or a bad reception
pub data Reception : Type 0 where
  Hears : Block → Reception
  Odd : Reception
  Bad : Reception

-- what it does then
pub data ReaderDoes : Type 0 where
  Asks : Block → ReaderDoes
  Gives : List ℕ → ReaderDoes
  GivesUp : ReaderDoes
  Refuses : ReaderDoes

pub record ReaderMove : Type 0 where
  pub state : ReaderState
  pub does : ReaderDoes

pub record ReaderTurn : Type 0 where
  pub state : ReaderState
  pub does : ReaderStep

-- the block of a wait, or the time extension that is granted in it
abbrev pub asked : Core → Option ℕ → Block
asked c None = if c.drawing then Ack c.number else piece c.most c.number c.rest
asked c (Some times) = Extend times

abbrev pub request : Core → Block
request c = asked c c.extension

-- the block last sent
abbrev pub sent : Phase → Core → Block
sent Nacked c = Nak c.number
sent Free c = Nak c.number
sent _ c = request c

abbrev pub sends : Core → Phase → ℕ → ReaderMove
sends c phase bads = record { state = record { core = c; phase = phase; bads = bads }; does = Asks (sent phase c) }

abbrev pub refuses : ReaderState → ReaderMove
refuses i = record { state = record i { phase = EndedProtocol }; does = Refuses }

-- what is sent after a bad reception: R(ACK) again in a card's chain, else R(NAK)
abbrev pub after_bad : Phase → Core → Phase
after_bad Free c = Free
after_bad _ c = if c.drawing then Asked else Nacked

abbrev pub bad : ReaderState → ReaderMove
bad i =
    if nat_lt i.bads most_bads
    then sends i.core (after_bad i.phase i.core) (i.bads + 1)
    else record { state = record i { phase = EndedSixBad }; does = GivesUp }

-- a piece of the answer was taken, with which it is xs
abbrev pub received : ReaderState → Bool → List ℕ → ReaderMove
received i true xs = sends (turned i.core (toggled i.core.number) [] true xs) Asked 0
received i false xs =
    record {
      state = record { core = turned i.core (toggled i.core.number) [] false []; phase = Free; bads = 0 };
      does = Gives xs;
    }

-- R(ACK) with the reader's number
abbrev pub acked : ReaderState → ReaderMove
acked i =
    if more_follows i.core
    then sends (turned i.core (toggled i.core.number) (drop i.core.most i.core.rest) false i.core.got) Asked 0
    else refuses i

-- R(ACK) with the other number: the card didn't hear the last I-block
abbrev pub missed : ReaderState → Phase → ReaderMove
missed i Nacked = sends (record i.core { extension = None }) Asked i.bads
missed i _ = refuses i

abbrev pub brought : ReaderState → Bool → List ℕ → ReaderMove
brought i more xs =
    if is_refused limit more xs (i.core.got ++ xs) then refuses i else received i more (i.core.got ++ xs)

abbrev pub extended : ReaderState → ℕ → ReaderMove
extended i times =
    if may_extend i.core times then sends (record i.core { extension = Some times; granted = i.core.granted + 1 }) Asked
    i.bads else refuses i

-- a block, while a wait is under way
abbrev pub answered : ReaderState → Block → ReaderMove
answered i (Info more n content) = if (if more_follows i.core then false else n == i.core.number)
    then brought i more content.items else refuses i
answered i (Ack n) = if n == i.core.number then acked i else missed i i.phase
answered i (Nak n) = refuses i
answered i Deselect = refuses i
answered i (Extend times) = extended i times

-- any reception, while a wait is under way
abbrev pub waited : ReaderState → Reception → ReaderMove
waited i (Hears b) = answered i b
waited i Odd = refuses i
waited i Bad = bad i

-- any reception, while no command is under way: no whole frame is allowed
abbrev pub unasked : ReaderState → Reception → ReaderMove
unasked i (Hears b) = refuses i
unasked i Odd = refuses i
unasked i Bad = bad i

abbrev pub in_phase : ReaderState → Phase → Reception → ReaderMove
in_phase i Asked h = waited i h
in_phase i Nacked h = waited i h
in_phase i Free h = unasked i h
in_phase i EndedSixBad h = record { state = i; does = GivesUp }
in_phase i EndedProtocol h = record { state = i; does = Refuses }

abbrev pub block_next : ReaderState → Reception → ReaderMove
block_next i h = in_phase i i.phase h

abbrev pub framed_next : ReaderDoes → ReaderStep
framed_next (Asks b) = steps.Send (block_frame b)
framed_next (Gives xs) = steps.Finished (record { items = xs })
framed_next GivesUp = steps.SixBad
framed_next Refuses = steps.Protocol

abbrev pub framed : ReaderMove → ReaderTurn
framed m = record { state = m.state; does = framed_next m.does }

abbrev pub whole_reception : Option Block → Reception
whole_reception None = Odd
whole_reception (Some b) = Hears b

-- what was heard, as blocks; frames that collided count as damaged
abbrev pub reception : Heard → Reception
reception (Whole f) = whole_reception (spelled_block f)
reception (Collided f) = Bad
reception Damaged = Bad
reception Silent = Bad

-- the table of the reader
abbrev pub reader_table : ReaderState → Heard → ReaderTurn
reader_table i h = framed (block_next i (reception h))

-- a reader that begins with a command
abbrev pub begun : ReaderState → List ℕ → ReaderState
begun i command = record { core = begun_core i.core command; phase = Asked; bads = 0 }

-- a reader that knows a card's size code, and asked nothing
abbrev pub waiting : ℕ → ReaderState
waiting code = record { core = quiet_core (piece_size code); phase = Free; bads = 0 }

-- a step whose frame stands in the place that it was given
abbrev pub reader_step_at : ReaderKind → Signal → ReaderStep
reader_step_at kinds.Send f = steps.Send f
reader_step_at (kinds.Finished answer) f = steps.Finished answer
reader_step_at kinds.SixBad f = steps.SixBad
reader_step_at kinds.Protocol f = steps.Protocol

-- Whatever a reader sends spells a block.
abbrev pub SpellsSent : ReaderStep → Type 0
SpellsSent (steps.Send f) = IsSpelled f
SpellsSent (steps.Finished answer) = Unit {0}
SpellsSent steps.SixBad = Unit {0}
SpellsSent steps.Protocol = Unit {0}

-- After six bad receptions of a wait, and after a whole frame that isn't allowed, each later step tells the same and
-- changes nothing.
abbrev pub FaultsStay : Type 0
FaultsStay =
    (i : ReaderState) (h later : Heard)
    → ((reader_table i h).does ≡ steps.SixBad → reader_table (reader_table i h).state later
    ≡ record { state = (reader_table i h).state; does = steps.SixBad })
    × ((reader_table i h).does ≡ steps.Protocol → reader_table (reader_table i h).state later
    ≡ record { state = (reader_table i h).state; does = steps.Protocol })
