-- The initiator's end of NFC-DEP (NFCIP-1, ISO/IEC 18092; NFC Forum Digital Protocol): what it sends next, or how the
-- exchange ends, by what it sent last and what it heard. The six receptions, the 16 time extensions, the 2,178 bytes,
-- and attention after a damaged answer to an attention are this project's own.
use Rattle.std.specs.Prelude.{◌≡◌, ℕ, ◌+◌, ◌<◌, ◌≤◌, ◌==◌, nat_lt, Bool, true, false, List, [], ◌++◌, length, drop}
use Rattle.std.specs.Prelude.{Option, Some, None, if◌then◌else◌, IfSome}
use Rattle.nfc_base.specs.Signal.{Signal}
use Rattle.nfc_base.specs.declared.event.Heard.{Heard}
use Rattle.nfc_base.specs.declared.event.Heard.TheVariants.{Whole, Collided, Damaged, Silent}
use Rattle.dep_pdu.specs.declared.frame.DepFrame.{DepFrame}
use Rattle.dep_pdu.specs.declared.frame.DepFrame.TheVariants.{Info, Ack, Nack, Attention, Extend}
use Rattle.dep_link.specs.declared.initiator.Phase.{Phase}
use Rattle.dep_link.specs.declared.initiator.Phase.TheVariants.{Asked, Nacked, Attending, Free, EndedSixBad}
use Rattle.dep_link.specs.declared.initiator.Phase.TheVariants.{EndedProtocol}
use Rattle.dep_link.specs.declared.initiator.InitKind.{InitKind}
use Rattle.dep_link.specs.declared.initiator.InitKind.TheVariants as kinds
use Rattle.dep_link.specs.declared.initiator.InitStep.{InitStep}
use Rattle.dep_link.specs.declared.initiator.InitStep.TheVariants as steps
use Rattle.nfc_base.specs.Pieces.{Core, most_bads, most_extensions, longest_extension, quiet_core, begun_core, turned}
use Rattle.nfc_base.specs.Pieces.{more_follows, is_refused, may_extend}
use Rattle.dep_link.specs.Sizes.{piece_size, limit}
use Rattle.dep_link.specs.Frames.{air_frame, spelled, IsSpelled, after, piece}

-- An initiator: that, what it sent last or how its exchange ended, the bad receptions of this wait, and the payload
-- with which it began last.
pub record InitState : Type 0 where
  pub core : Core
  pub phase : Phase
  pub bads : ℕ
  pub out : Option (List ℕ)

-- What an initiator keeps: its parts are in the ranges of the frames that it sends.
pub record IsInitiator (number most at : ℕ) (payload : List ℕ) (extension : Option ℕ) (granted bads : ℕ) : Type 0 where
  pub modulus : number < 4
  pub some : 0 < most
  pub fits : most ≤ 251
  pub place : at ≤ length payload
  pub short : length payload ≤ 2178
  pub extends : IfSome extension (λ times. (1 ≤ times) × (times ≤ longest_extension))
  pub few : granted ≤ most_extensions
  pub waits : bads ≤ 5

-- what it does then
pub data Next : Type 0 where
  Asks : DepFrame → Next
  Gives : List ℕ → Next
  GivesUp : Next
  Refuses : Next

pub record InitMove : Type 0 where
  pub state : InitState
  pub does : Next

pub record InitTurn : Type 0 where
  pub state : InitState
  pub does : InitStep

-- the request of a wait, or the time extension that is granted in it
abbrev pub asked : Core → Option ℕ → DepFrame
asked c None = if c.drawing then Ack false c.number else piece false c.most c.number c.rest
asked c (Some times) = Extend false times

abbrev pub request : Core → DepFrame
request c = asked c c.extension

-- the frame last sent
abbrev pub sent : Phase → Core → DepFrame
sent Nacked c = Nack c.number
sent Attending c = Attention false
sent Free c = Attention false
sent _ c = request c

abbrev pub sends : InitState → Core → Phase → ℕ → InitMove
sends i c phase bads = record { state = record i { core = c; phase = phase; bads = bads }; does = Asks (sent phase c) }

abbrev pub refuses : InitState → InitMove
refuses i = record { state = record i { phase = EndedProtocol }; does = Refuses }

-- a bad reception, after which this is sent
abbrev pub bad : InitState → Phase → InitMove
bad i phase =
    if nat_lt i.bads most_bads
    then sends i i.core phase (i.bads + 1)
    else record { state = record i { phase = EndedSixBad }; does = GivesUp }

-- a piece of the reply was taken, with which it is xs
abbrev pub received : InitState → Bool → List ℕ → InitMove
received i true xs = sends i (turned i.core (after i.core.number) [] true xs) Asked 0
received i false xs =
    record {
      state = record i { core = turned i.core (after i.core.number) [] false []; phase = Free; bads = 0 };
      does = Gives xs;
    }

abbrev pub acked : InitState → ℕ → InitMove
acked i pni =
    if (if more_follows i.core then pni == i.core.number else false)
    then sends i (turned i.core (after i.core.number) (drop i.core.most i.core.rest) false i.core.got) Asked 0
    else refuses i

abbrev pub brought : InitState → Bool → List ℕ → InitMove
brought i more xs =
    if is_refused limit more xs (i.core.got ++ xs) then refuses i else received i more (i.core.got ++ xs)

abbrev pub extended : InitState → ℕ → InitMove
extended i times =
    if may_extend i.core times
    then sends i (record i.core { extension = Some times; granted = i.core.granted + 1 }) Asked i.bads
    else refuses i

-- a frame, behind a request, an extension or a NACK
abbrev pub answered : InitState → DepFrame → InitMove
answered i (Ack true pni) = acked i pni
answered i (Info true more pni content) =
    if (if more_follows i.core then false else pni == i.core.number) then brought i more content.items else refuses i
answered i (Extend true times) = extended i times
answered i _ = refuses i

-- a frame, behind an attention: the last request or extension again
abbrev pub attended : InitState → DepFrame → InitMove
attended i (Attention true) = sends i i.core Asked i.bads
attended i _ = refuses i

-- a whole frame that spells this frame of NFC-DEP, if it does
abbrev pub waited : InitState → Option DepFrame → InitMove
waited i None = refuses i
waited i (Some v) = answered i v

abbrev pub attending : InitState → Option DepFrame → InitMove
attending i None = refuses i
attending i (Some v) = attended i v

-- A whole frame, by what was sent last. While no payload is under way none is allowed.
abbrev pub whole : InitState → Phase → Signal → InitMove
whole i Asked f = waited i (spelled f)
whole i Nacked f = waited i (spelled f)
whole i Attending f = attending i (spelled f)
whole i Free f = refuses i
whole i EndedSixBad f = record { state = i; does = GivesUp }
whole i EndedProtocol f = record { state = i; does = Refuses }

-- a damaged answer
abbrev pub damaged : InitState → Phase → InitMove
damaged i Asked = bad i Nacked
damaged i Nacked = bad i Nacked
damaged i Attending = bad i Attending
damaged i Free = bad i Free
damaged i EndedSixBad = record { state = i; does = GivesUp }
damaged i EndedProtocol = record { state = i; does = Refuses }

-- nothing was heard
abbrev pub silent : InitState → Phase → InitMove
silent i Asked = bad i Attending
silent i Nacked = bad i Attending
silent i Attending = bad i Attending
silent i Free = bad i Free
silent i EndedSixBad = record { state = i; does = GivesUp }
silent i EndedProtocol = record { state = i; does = Refuses }

-- any reception; frames that collided count as damaged
abbrev pub heard_next : InitState → Heard → InitMove
heard_next i (Whole f) = whole i i.phase f
heard_next i (Collided f) = damaged i i.phase
heard_next i Damaged = damaged i i.phase
heard_next i Silent = silent i i.phase

abbrev pub framed_next : Next → InitStep
framed_next (Asks v) = steps.Send (air_frame v)
framed_next (Gives xs) = steps.Finished (record { items = xs })
framed_next GivesUp = steps.SixBad
framed_next Refuses = steps.Protocol

abbrev pub framed : InitMove → InitTurn
framed m = record { state = m.state; does = framed_next m.does }

-- the table of the initiator
abbrev pub init_table : InitState → Heard → InitTurn
init_table i h = framed (heard_next i h)

-- an initiator that begins with a payload
abbrev pub begun : InitState → List ℕ → InitState
begun i out = record { core = begun_core i.core out; phase = Asked; bads = 0; out = Some out }

-- an initiator that knows a target's LR code, and sent nothing
abbrev pub waiting : ℕ → InitState
waiting code = record { core = quiet_core (piece_size code); phase = Free; bads = 0; out = None }

-- a step whose frame stands in the place that it was given
abbrev pub init_step_at : InitKind → Signal → InitStep
init_step_at kinds.Send f = steps.Send f
init_step_at (kinds.Finished reply) f = steps.Finished reply
init_step_at kinds.SixBad f = steps.SixBad
init_step_at kinds.Protocol f = steps.Protocol

-- Whatever an initiator sends spells a frame.
abbrev pub IsSent : InitStep → Type 0
IsSent (steps.Send f) = IsSpelled f
IsSent (steps.Finished reply) = Unit {0}
IsSent steps.SixBad = Unit {0}
IsSent steps.Protocol = Unit {0}

-- After six bad receptions of a wait, and after a whole frame that isn't allowed, each later step tells the same and
-- changes nothing.
abbrev pub FaultsStay : Type 0
FaultsStay =
    (i : InitState) (h later : Heard)
    → ((init_table i h).does ≡ steps.SixBad → init_table (init_table i h).state later
    ≡ record { state = (init_table i h).state; does = steps.SixBad })
    × ((init_table i h).does ≡ steps.Protocol → init_table (init_table i h).state later
    ≡ record { state = (init_table i h).state; does = steps.Protocol })
