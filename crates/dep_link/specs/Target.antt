-- The target's end of NFC-DEP (NFCIP-1, ISO/IEC 18092; NFC Forum Digital Protocol): what it does at each frame. Its
-- silence after a chain above 2,178 bytes, how often and by which value it asks for more time, and the code of its
-- waiting time are this project's own.
use Rattle.std.specs.Prelude.{ℕ, ◌≡◌, ◌-◌, ◌<◌, ◌≤◌, ◌==◌, nat_lt, Bool, true, false, List, [], ◌++◌, length, drop}
use Rattle.std.specs.Prelude.{Option, Some, None, if◌then◌else◌, IfSome}
use Rattle.arrayvec.specs.ArrayVec.{ArrayVec}
use Rattle.nfc_base.specs.Signal.{Signal}
use Rattle.dep_pdu.specs.declared.frame.DepFrame.{DepFrame}
use Rattle.dep_pdu.specs.declared.frame.DepFrame.TheVariants.{AtrReq, AtrRes, Info, Ack, Nack, Attention, Extend}
use Rattle.dep_pdu.specs.declared.frame.DepFrame.TheVariants.{DslReq, DslRes, RlsReq, RlsRes}
use Rattle.dep_pdu.specs.Spelling.{IsDepFrame}
use Rattle.dep_link.specs.declared.target.TargetKind.{TargetKind}
use Rattle.dep_link.specs.declared.target.TargetKind.TheVariants as kinds
use Rattle.dep_link.specs.declared.target.TargetStep.{TargetStep}
use Rattle.dep_link.specs.declared.target.TargetStep.TheVariants as steps
use Rattle.dep_link.specs.Sizes.{piece_size, initiator_lr, limit}
use Rattle.dep_link.specs.Frames.{air_frame, spelled, IsSpelled, after, before, piece}

-- A target: what it says of itself in ATR_RES; the most content of a frame that the initiator takes; the PNI that it
-- expects; the last answer that is sent again, which those to attention and ATR_REQ aren't; the chain so far; the bytes
-- of its reply that aren't sent, and whether a piece of it isn't, which an empty reply has too; and whether a chain
-- grew too long. How often it asks for more time before each reply, by which value, how often that is still due, and
-- whether its last answer is a first piece that followed an extension.
pub record TargetState : Type 0 where
  pub id : List ℕ
  pub lr : ℕ
  pub general : List ℕ
  pub most : ℕ
  pub expected : ℕ
  pub last : Option DepFrame
  pub chain : List ℕ
  pub left : List ℕ
  pub unsent : Bool
  pub mute : Bool
  pub busy : ℕ
  pub times : ℕ
  pub due : ℕ
  pub followed : Bool

-- What a target keeps: its parts are in the ranges of the frames that it sends.
pub record IsTarget (id : List ℕ) (lr most expected : ℕ) (last : Option DepFrame) (at : ℕ) (reply : List ℕ)
    (busy times : ℕ) : Type 0 where
  pub named : length id ≡ 10
  pub code : lr < 4
  pub some : 0 < most
  pub fits : most ≤ 251
  pub number : expected < 4
  pub range : IfSome last IsDepFrame
  pub place : at ≤ length reply
  pub short : length reply ≤ 2178
  pub few : busy ≤ 5
  pub asks : 1 ≤ times
  pub longest : times ≤ 59

-- what a target does at a frame of NFC-DEP
pub data Does : Type 0 where
  Stays : Does
  Answers : DepFrame → Does
  Begins : List ℕ → DepFrame → Does
  Delivers : List ℕ → Does
  Sleeps : DepFrame → Does
  Frees : DepFrame → Does

pub record TargetMove : Type 0 where
  pub state : TargetState
  pub does : Does

-- what it does at a frame
pub record TargetTurn : Type 0 where
  pub state : TargetState
  pub does : TargetStep

abbrev pub stays : TargetState → TargetMove
stays t = record { state = t; does = Stays }

-- the last answer again, where there is one
abbrev pub again : TargetState → Option DepFrame → TargetMove
again t None = stays t
again t (Some a) = record { state = t; does = Answers a }

-- a frame with another PNI than the one that is expected
abbrev pub repeated : TargetState → ℕ → TargetMove
repeated t pni = if after pni == t.expected then again t t.last else stays t

-- Information was taken, with which the chain is xs: ACK where it goes on, else the payload is delivered. No more time
-- is due from before.
abbrev pub grown : TargetState → Bool → ℕ → List ℕ → TargetMove
grown t true pni xs =
    record {
      state = record t {
        expected = after t.expected;
        last = Some (Ack true pni);
        chain = xs;
        due = 0;
        followed = false;
      };
      does = Answers (Ack true pni);
    }
grown t false pni xs =
    record {
      state = record t { expected = after t.expected; last = None; chain = []; due = 0; followed = false };
      does = Delivers xs;
    }

-- information, with which the chain is xs
abbrev pub gathered : TargetState → Bool → ℕ → List ℕ → TargetMove
gathered t more pni xs = if nat_lt limit (length xs) then stays (record t { mute = true }) else grown t more pni xs

-- the next piece of the reply, unless more time is due
abbrev pub drawn : TargetState → ℕ → TargetMove
drawn t pni =
    if (if nat_lt 0 t.due then false else t.unsent)
    then record {
      state = record t {
        expected = after t.expected;
        last = Some (piece true t.most pni t.left);
        left = drop t.most t.left;
        unsent = nat_lt t.most (length t.left);
        followed = false;
      };
      does = Answers (piece true t.most pni t.left);
    }
    else stays t

-- the first piece of a reply of these bytes
abbrev pub first_piece : TargetState → List ℕ → DepFrame
first_piece t r = piece true t.most (before t.expected) r

-- the time was granted that was due: it asks again, or has its reply
abbrev pub granted : TargetState → TargetMove
granted t =
    if nat_lt 1 t.due
    then record { state = record t { due = t.due - 1 }; does = Answers (Extend true t.times) }
    else record {
      state = record t {
        due = 0;
        last = Some (first_piece t t.left);
        left = drop t.most t.left;
        unsent = nat_lt t.most (length t.left);
        followed = true;
      };
      does = Answers (first_piece t t.left);
    }

-- a time extension by this value
abbrev pub extended : TargetState → ℕ → TargetMove
extended t times =
    if nat_lt 0 t.due then (if times == t.times then granted t else stays t)
    else (if t.followed then again t t.last else stays t)

-- the table of a target that isn't mute
abbrev pub frame_table : TargetState → DepFrame → TargetMove
frame_table t (Info false more pni content) = if pni == t.expected then gathered t more pni (t.chain ++ content.items)
    else repeated t pni
frame_table t (Ack false pni) = if pni == t.expected then drawn t pni else repeated t pni
frame_table t (Nack pni) = repeated t pni
frame_table t (Attention false) = record { state = t; does = Answers (Attention true) }
frame_table t (Extend false times) = extended t times
frame_table t DslReq = record { state = t; does = Sleeps DslRes }
frame_table t RlsReq = record { state = t; does = Frees RlsRes }
frame_table t _ = stays t

-- the code of the waiting time
abbrev pub waiting_code : ℕ
waiting_code = 8

-- a target with this to say of itself that heard nothing, and asks for no more time
abbrev pub fresh : List ℕ → ℕ → List ℕ → TargetState
fresh id lr general =
    record {
      id = id;
      lr = lr;
      general = general;
      most = piece_size initiator_lr;
      expected = 0;
      last = None;
      chain = [];
      left = [];
      unsent = false;
      mute = false;
      busy = 0;
      times = 1;
      due = 0;
      followed = false;
    }

-- A link begins, of an initiator with this LR code. How much more time the target asks for stays.
abbrev pub restarted : TargetState → ℕ → TargetState
restarted t code =
    record t {
      most = piece_size code;
      expected = 0;
      last = None;
      chain = [];
      left = [];
      unsent = false;
      mute = false;
      due = 0;
      followed = false;
    }

abbrev pub atr_res : TargetState → DepFrame
atr_res t = AtrRes t.id waiting_code t.lr (record { items = t.general })

-- ATR_REQ begins a new link, mute or not.
abbrev pub opened : TargetState → ℕ → List ℕ → TargetMove
opened t code general = record { state = restarted t code; does = Begins general (atr_res t) }

abbrev pub heeded : TargetState → DepFrame → TargetMove
heeded t (AtrReq id code general) = opened t code general.items
heeded t v = if t.mute then stays t else frame_table t v

abbrev pub framed_does : Does → TargetStep
framed_does Stays = steps.Quiet
framed_does (Answers v) = steps.Reply (air_frame v)
framed_does (Begins general v) = steps.Restart (record { items = general }) (air_frame v)
framed_does (Delivers xs) = steps.Deliver (record { items = xs })
framed_does (Sleeps v) = steps.Asleep (air_frame v)
framed_does (Frees v) = steps.Released (air_frame v)

abbrev pub framed : TargetMove → TargetTurn
framed m = record { state = m.state; does = framed_does m.does }

abbrev pub obeyed : TargetState → Option DepFrame → TargetTurn
obeyed t None = framed (stays t)
obeyed t (Some v) = framed (heeded t v)

-- the table of the target
abbrev pub target_table : TargetState → Signal → TargetTurn
target_table t f = obeyed t (spelled f)

-- The target once its owner replied to what was delivered: it asks for more time first, where it does so, else sends
-- the first piece.
abbrev pub replied : TargetState → List ℕ → TargetState
replied t r =
    if nat_lt 0 t.busy
    then record t { last = Some (Extend true t.times); left = r; unsent = true; due = t.busy; followed = false }
    else record t {
      last = Some (first_piece t r);
      left = drop t.most r;
      unsent = nat_lt t.most (length r);
      due = 0;
      followed = false;
    }

abbrev pub reply_frame : TargetState → List ℕ → DepFrame
reply_frame t r = if nat_lt 0 t.busy then Extend true t.times else first_piece t r

-- It becomes as it was made; how much more time it asks for stays.
abbrev pub darkened : TargetState → TargetState
darkened t = restarted t initiator_lr

-- from now on it asks so often for more time before each reply, by this value
abbrev pub made_busy : TargetState → ℕ → ℕ → TargetState
made_busy t count times = record t { busy = count; times = times }

-- a step whose answer stands in the place that it was given
abbrev pub target_step_at : TargetKind → Signal → TargetStep
target_step_at kinds.Quiet f = steps.Quiet
target_step_at kinds.Reply f = steps.Reply f
target_step_at (kinds.Restart general) f = steps.Restart general f
target_step_at (kinds.Deliver payload) f = steps.Deliver payload
target_step_at kinds.Asleep f = steps.Asleep f
target_step_at kinds.Released f = steps.Released f

-- Whatever a target answers spells a frame.
abbrev pub IsSaid : TargetStep → Type 0
IsSaid steps.Quiet = Unit {0}
IsSaid (steps.Reply f) = IsSpelled f
IsSaid (steps.Restart general f) = IsSpelled f
IsSaid (steps.Deliver payload) = Unit {0}
IsSaid (steps.Asleep f) = IsSpelled f
IsSaid (steps.Released f) = IsSpelled f

-- A payload that a target delivers at a frame: the frame is the information with the PNI that is expected that ends its
-- chain, and the next PNI is expected then.
pub record IsNew (t : TargetState) (f : Signal) (xs : List ℕ) : Type 0 where
  pub content : ArrayVec ℕ
  pub brings : spelled f ≡ Some (Info false false t.expected content)
  pub ends : xs ≡ t.chain ++ content.items
  pub moves : (target_table t f).state.expected ≡ after t.expected

-- What a target delivers is new each time: nothing that asks for an answer again delivers, and no frame with another
-- PNI does.
abbrev pub DeliversAnew : Type 0
DeliversAnew = (t : TargetState) (f : Signal) (xs : List ℕ)
    → (target_table t f).does ≡ steps.Deliver (record { items = xs }) → IsNew t f xs
