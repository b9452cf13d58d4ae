-- The card's end of ISO-DEP (ISO/IEC 14443-4; NFC Forum Digital Protocol): what it does at each frame. Its silence
-- after a chain above 264 bytes is this project's own.
use Rattle.std.specs.Prelude.{◌≡◌, ℕ, ◌-◌, ◌⊎◌, ◌==◌, nat_lt, Bool, true, false, List, [], ◌++◌, length, drop, Option}
use Rattle.std.specs.Prelude.{Some, None, if◌then◌else◌}
use Rattle.nfc_base.specs.Signal.{Signal}
use Rattle.isodep_link.specs.declared.block.Block.{Block}
use Rattle.isodep_link.specs.declared.block.Block.TheVariants.{Info, Ack, Nak, Deselect, Extend}
use Rattle.isodep_link.specs.declared.card.CardStep.{CardStep}
use Rattle.isodep_link.specs.declared.card.CardKind.{CardKind}
use Rattle.isodep_link.specs.declared.card.CardKind.TheVariants as kinds
use Rattle.isodep_link.specs.declared.card.CardStep.TheVariants as steps
use Rattle.isodep_link.specs.Blocks.{toggled, piece, block_frame, spelled_block, IsSpelled}
use Rattle.isodep_link.specs.Sizes.{piece_size, least_code, limit, rats_code, ats_frame, IsAts}

-- A card: its own size code, the most content of a block that the reader takes, its number, the last block that it sent
-- other than an answer to R(NAK) with another number, the chain so far, the bytes of its answer that aren't sent,
-- whether a piece of it isn't, which an empty answer has too, whether an I-block was heard, and whether a chain grew
-- too long; how often it asks for more time before an answer, and by which value; how often it is still to be granted.
pub record CardState : Type 0 where
  pub code : ℕ
  pub most : ℕ
  pub number : ℕ
  pub last : Option Block
  pub chain : List ℕ
  pub left : List ℕ
  pub unsent : Bool
  pub begun : Bool
  pub mute : Bool
  pub busy : ℕ
  pub times : ℕ
  pub due : ℕ

-- what a card does at a block
pub data Does : Type 0 where
  Stays : Does
  Answers : Block → Does
  Delivers : List ℕ → Does
  Sleeps : Block → Does

pub record CardMove : Type 0 where
  pub state : CardState
  pub does : Does

-- what it does at a frame
pub record CardTurn : Type 0 where
  pub state : CardState
  pub does : CardStep

abbrev pub stays : CardState → CardMove
stays t = record { state = t; does = Stays }

-- the last block again, where there is one
abbrev pub again : CardState → Option Block → CardMove
again t None = stays t
again t (Some b) = record { state = t; does = Answers b }

-- an I-block was taken, with which the chain is xs: R(ACK) where it goes on, else the command is delivered; no more
-- time is due
abbrev pub grown : CardState → Bool → List ℕ → CardMove
grown t true xs =
    record {
      state = record t {
        number = toggled t.number;
        last = Some (Ack (toggled t.number));
        chain = xs;
        begun = true;
        due = 0;
      };
      does = Answers (Ack (toggled t.number));
    }
grown t false xs = record {
  state = record t { number = toggled t.number; chain = []; begun = true; due = 0 };
  does = Delivers xs;
}

-- an I-block, with which the chain is xs
abbrev pub gathered : CardState → Bool → List ℕ → CardMove
gathered t more xs = if nat_lt limit (length xs) then stays (record t { begun = true; mute = true })
    else grown t more xs

-- the next piece of the answer, unless more time is due
abbrev pub drawn : CardState → CardMove
drawn t =
    if (if nat_lt 0 t.due then false else t.unsent)
    then record {
      state = record t {
        number = toggled t.number;
        last = Some (piece t.most (toggled t.number) t.left);
        left = drop t.most t.left;
        unsent = nat_lt t.most (length t.left);
      };
      does = Answers (piece t.most (toggled t.number) t.left);
    }
    else stays t

-- the time was granted that was due: it asks again, or has its answer
abbrev pub granted : CardState → CardMove
granted t =
    if nat_lt 1 t.due
    then record { state = record t { due = t.due - 1 }; does = Answers (Extend t.times) }
    else record {
      state = record t {
        due = 0;
        last = Some (piece t.most t.number t.left);
        left = drop t.most t.left;
        unsent = nat_lt t.most (length t.left);
      };
      does = Answers (piece t.most t.number t.left);
    }

-- S(WTX) by this value
abbrev pub extended : CardState → ℕ → CardMove
extended t times = if (if nat_lt 0 t.due then times == t.times else false) then granted t else stays t

-- the table of a card that isn't mute
abbrev pub block_table : CardState → Block → CardMove
block_table t (Info more n content) = gathered t more (t.chain ++ content.items)
block_table t (Ack n) = if n == t.number then again t t.last else drawn t
block_table t (Nak n) = if n == t.number then again t t.last else record { state = t; does = Answers (Ack t.number) }
block_table t Deselect = record { state = t; does = Sleeps Deselect }
block_table t (Extend times) = extended t times

abbrev pub framed_does : Does → CardStep
framed_does Stays = steps.Quiet
framed_does (Answers b) = steps.Reply (block_frame b)
framed_does (Delivers xs) = steps.Deliver (record { items = xs })
framed_does (Sleeps b) = steps.Asleep (block_frame b)

abbrev pub framed : CardMove → CardTurn
framed m = record { state = m.state; does = framed_does m.does }

-- RATS is answered by ATS until an I-block was heard.
abbrev pub activated : CardState → ℕ → CardTurn
activated t code =
    if t.begun then framed (stays t) else record {
      state = record t { most = piece_size code };
      does = steps.Reply (ats_frame t.code);
    }

abbrev pub obeyed : CardState → Option Block → CardTurn
obeyed t None = framed (stays t)
obeyed t (Some b) = framed (block_table t b)

-- a frame that is RATS with this code, if it is, or spells this block, if it does
abbrev pub heeded : CardState → Option ℕ → Option Block → CardTurn
heeded t (Some code) b = activated t code
heeded t None b = obeyed t b

-- the table of the card
abbrev pub card_table : CardState → Signal → CardTurn
card_table t f = if t.mute then framed (stays t) else heeded t (rats_code f) (spelled_block f)

-- The card once its owner answered what was delivered: it asks for more time first, where it does so, else sends the
-- first piece.
abbrev pub replied : CardState → List ℕ → CardState
replied t r =
    if nat_lt 0 t.busy
    then record t { last = Some (Extend t.times); left = r; unsent = true; due = t.busy }
    else record t {
      last = Some (piece t.most t.number r);
      left = drop t.most r;
      unsent = nat_lt t.most (length r);
      due = 0;
    }

abbrev pub reply_block : CardState → List ℕ → Block
reply_block t r = if nat_lt 0 t.busy then Extend t.times else piece t.most t.number r

-- a card of this size code that heard nothing, and asks for no more time
abbrev pub fresh : ℕ → CardState
fresh code =
    record {
      code = code;
      most = piece_size least_code;
      number = 1;
      last = None;
      chain = [];
      left = [];
      unsent = false;
      begun = false;
      mute = false;
      busy = 0;
      times = 1;
      due = 0;
    }

-- It becomes as it was made; how much more time it asks for stays.
abbrev pub darkened : CardState → CardState
darkened t = record (fresh t.code) { busy = t.busy; times = t.times }

-- from now on it asks so often for more time before each answer, by this value
abbrev pub made_busy : CardState → ℕ → ℕ → CardState
made_busy t count times = record t { busy = count; times = times }

-- a step whose answer stands in the place that it was given
abbrev pub card_step_at : CardKind → Signal → CardStep
card_step_at kinds.Quiet f = steps.Quiet
card_step_at kinds.Reply f = steps.Reply f
card_step_at (kinds.Deliver command) f = steps.Deliver command
card_step_at kinds.Asleep f = steps.Asleep f

-- Whatever a card with this size code answers spells a block, or is its ATS.
abbrev pub IsSaid : ℕ → CardStep → Type 0
IsSaid code steps.Quiet = Unit {0}
IsSaid code (steps.Reply f) = IsSpelled f ⊎ IsAts code f
IsSaid code (steps.Deliver command) = Unit {0}
IsSaid code (steps.Asleep f) = IsSpelled f

-- Where a card delivers a command its number toggles: nothing that asks for a block again delivers.
abbrev pub DeliversAnew : Type 0
DeliversAnew = (t : CardState) (f : Signal) (xs : List ℕ)
    → (card_table t f).does ≡ steps.Deliver (record { items = xs }) → (card_table t f).state.number ≡ toggled t.number
