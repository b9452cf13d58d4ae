-- What bytes are read as, as a function: the value that they spell. The tables of a link are said over it.
use Rattle.std.specs.Prelude.{◌≡◌, ◌≤◌, ℕ, ◌+◌, ◌/◌, List, length, take, drop, Bool, true, false, if◌then◌else◌, Option}
use Rattle.std.specs.Prelude.{Some, None, Result, Ok, Err}
use Rattle.dep_pdu.specs.declared.frame.DepFrame.{DepFrame}
use Rattle.dep_pdu.specs.declared.frame.DepFrame.TheVariants.{AtrReq, AtrRes, Info, Ack, Nack, Attention, Extend}
use Rattle.dep_pdu.specs.declared.frame.DepFrame.TheVariants.{DslReq, DslRes, RlsReq, RlsRes}
use Rattle.dep_pdu.specs.declared.refusal.DepRefusal.{DepRefusal}
use Rattle.dep_pdu.specs.declared.head.Head.{Head}
use Rattle.dep_pdu.specs.declared.head.Head.TheVariants.{Atr, Dep, Dsl, Rls}
use Rattle.dep_pdu.specs.declared.pfb.Pfb.{Pfb}
use Rattle.dep_pdu.specs.declared.pfb.Pfb.TheVariants.{Information, Ack as AckPfb, Nack as NackPfb}
use Rattle.dep_pdu.specs.declared.pfb.Pfb.TheVariants.{Attention as AttentionPfb, Extension as ExtensionPfb}
use Rattle.dep_pdu.specs.Numbers.{id_size, id_place, timeout_place, pp_place, pfb_place, times_place, direction_place}
use Rattle.dep_pdu.specs.Numbers.{head_end}
use Rattle.dep_pdu.specs.Refusal.{Fault, first, byte, head, pfb, is_direction, named_faults, dep_refusal}

-- ATR_REQ or ATR_RES, where no fault stands
abbrev pub atr_frame : Bool → List ℕ → DepFrame
atr_frame up b =
    if up then AtrRes (take id_size (drop id_place b)) (byte b timeout_place) (byte b (pp_place true) / 16)
    (record { items = drop (pp_place true + 1) b })
    else AtrReq (take id_size (drop id_place b)) (byte b (pp_place false) / 16)
    (record { items = drop (pp_place false + 1) b })

-- a DEP frame by its PFB
abbrev pub dep_frame : Bool → Option Pfb → List ℕ → Option DepFrame
dep_frame up None b = None
dep_frame up (Some (Information more pni)) b = Some (Info up more pni (record { items = drop (pfb_place + 1) b }))
dep_frame up (Some (AckPfb pni)) b = Some (Ack up pni)
dep_frame up (Some (NackPfb pni)) b = Some (Nack pni)
dep_frame up (Some AttentionPfb) b = Some (Attention up)
dep_frame up (Some ExtensionPfb) b = Some (Extend up (byte b times_place))

-- a frame by its direction and command bytes
abbrev pub frame_of : Option Head → List ℕ → Option DepFrame
frame_of None b = None
frame_of (Some (Atr up)) b = Some (atr_frame up b)
frame_of (Some (Dep up)) b = dep_frame up (pfb b) b
frame_of (Some (Dsl up)) b = Some (if up then DslRes else DslReq)
frame_of (Some (Rls up)) b = Some (if up then RlsRes else RlsReq)

-- the value, unless a fault stands
abbrev pub unless : Option DepRefusal → Option DepFrame → Option DepFrame
unless None v = v
unless (Some r) v = None

-- the frame that bytes spell, none where they spell none
abbrev pub spelled_frame : List ℕ → Option DepFrame
spelled_frame b = unless (dep_refusal b) (frame_of (head b) b)

-- the value of a result
abbrev pub told : Result DepFrame DepRefusal → Option DepFrame
told (Ok v) = Some v
told (Err r) = None

-- A result tells the first of these faults, or this value where none stands.
abbrev pub Tells : Result DepFrame DepRefusal → List Fault → Option DepFrame → Type 0
Tells (Ok v) fs o = (first fs ≡ None) × (o ≡ Some v)
Tells (Err r) fs o = first fs ≡ Some r

-- It tells what bytes are behind their direction and command bytes, by what these two name.
abbrev pub TellsNamed : Result DepFrame DepRefusal → Option Head → List ℕ → Type 0
TellsNamed r h b = Tells r (named_faults h b) (frame_of h b)

-- Bytes on which no row on any bytes stands, with a direction byte. LEN is at most 255.
pub record IsHeaded (b : List ℕ) : Type 0 where
  pub whole : head_end ≤ length b
  pub bound : length b ≤ 256
  pub direction : is_direction (byte b direction_place) ≡ true
