-- The listener front of an NFC-A device: how it answers the calls of a reader until it is selected (NFC Forum Digital
-- Protocol; ISO/IEC 14443-3). The SENS_RES values and where each other frame leads are this project's own.
use Rattle.std.specs.Prelude.{ℕ, ◌+◌, ◌-◌, List, [], ◌∷◌, length, drop, slice_index_or, Bool, true, false, ◌==◌, ◌&&◌}
use Rattle.std.specs.Prelude.{nat_eq, nat_lt, if◌then◌else◌, Option, Some, None}
use Rattle.std.specs.Cmp.Lexicographic.{pointwise}
use Rattle.nfc_base.specs.declared.frame.Tech.TheVariants.{A}
use Rattle.nfc_base.specs.Signal.{Signal, whole_a}
use Rattle.nfc_base.specs.Bits.{bits_of, of_bits}
use Rattle.air_core.specs.Joint.{same_bit}
use Rattle.nfca_poll.specs.declared.kind.Kind.{Kind}
use Rattle.nfca_poll.specs.declared.kind.Kind.TheVariants.{T2, T4, Peer}
use Rattle.nfca_poll.specs.Calls.{Reading, Calls, Other, Sens, All, Slp, Sdd, Sel}

-- The state of a front. Ready counts the cascade level that is asked next, from 1. A starred device was put to sleep
-- before, and sleeps again where another one is idle.
pub data Front : Type 0 where
  Off : Front
  Idle : Front
  Sleep : Front
  Ready : ℕ → Bool → Front
  Active : Bool → Front

-- where a device goes that leaves Ready or Active by any other frame
abbrev pub home : Bool → Front
home true = Sleep
home false = Idle

-- whether the second list begins with the first
abbrev pub begins : List Bool → List Bool → Bool
begins [] x = true
begins (a ∷ p) [] = false
begins (a ∷ p) (b ∷ x) = same_bit a b && begins p x

-- the bytes of level k
abbrev pub level_at : List (List ℕ) → ℕ → List ℕ
level_at ls k = slice_index_or ls (k - 1) []

-- SENS_RES of a device with so many levels
abbrev pub sens_res : ℕ → Signal
sens_res n = whole_a ((if n == 1 then 0x04 else if n == 2 then 0x44 else 0x84) ∷ 0 ∷ [])

-- SEL_RES: the cascade bit where another level follows, else what the device is
abbrev pub more_levels : Signal
more_levels = whole_a (0x04 ∷ [])

abbrev pub sel_res : Kind → Signal
sel_res T2 = whole_a (0x00 ∷ [])
sel_res T4 = whole_a (0x20 ∷ [])
sel_res Peer = whole_a (0x40 ∷ [])

-- SDD_REQ of this level, whose bits begin it
abbrev pub is_asked : List (List ℕ) → ℕ → ℕ → List Bool → Bool
is_asked ls k level known = (level == k) && begins known (bits_of (level_at ls k))

-- SEL_REQ of this level, with its bytes
abbrev pub is_taken : List (List ℕ) → ℕ → ℕ → List ℕ → Bool
is_taken ls k level bytes = (level == k) && pointwise nat_eq bytes (level_at ls k)

abbrev pub taken : List (List ℕ) → ℕ → Bool → Front
taken ls k starred = if nat_lt k (length ls) then Ready (k + 1) starred else Active starred

abbrev pub taken_answer : List (List ℕ) → Kind → ℕ → Signal
taken_answer ls kind k = if nat_lt k (length ls) then more_levels else sel_res kind

-- The state after a frame. In Active the machine above is asked first; this is what becomes of a frame that isn't its.
abbrev pub front_next : List (List ℕ) → Front → Reading → Front
front_next ls Off f = Off
front_next ls Idle (Calls Sens) = Ready 1 false
front_next ls Idle (Calls All) = Ready 1 false
front_next ls Idle (Calls Slp) = Idle
front_next ls Idle (Calls (Sdd level known)) = Idle
front_next ls Idle (Calls (Sel level bytes)) = Idle
front_next ls Idle Other = Idle
front_next ls Sleep (Calls Sens) = Sleep
front_next ls Sleep (Calls All) = Ready 1 true
front_next ls Sleep (Calls Slp) = Sleep
front_next ls Sleep (Calls (Sdd level known)) = Sleep
front_next ls Sleep (Calls (Sel level bytes)) = Sleep
front_next ls Sleep Other = Sleep
front_next ls (Ready k starred) (Calls Sens) = home starred
front_next ls (Ready k starred) (Calls All) = home starred
front_next ls (Ready k starred) (Calls Slp) = home starred
front_next ls (Ready k starred) (Calls (Sdd level known)) =
    if is_asked ls k level known then Ready k starred else home starred
front_next ls (Ready k starred) (Calls (Sel level bytes)) =
    if is_taken ls k level bytes then taken ls k starred else home starred
front_next ls (Ready k starred) Other = home starred
front_next ls (Active starred) (Calls Sens) = home starred
front_next ls (Active starred) (Calls All) = home starred
front_next ls (Active starred) (Calls Slp) = Sleep
front_next ls (Active starred) (Calls (Sdd level known)) = home starred
front_next ls (Active starred) (Calls (Sel level bytes)) = home starred
front_next ls (Active starred) Other = home starred

-- the answer to a frame
abbrev pub front_says : List (List ℕ) → Kind → Front → Reading → Option Signal
front_says ls kind Off f = None
front_says ls kind Idle (Calls Sens) = Some (sens_res (length ls))
front_says ls kind Idle (Calls All) = Some (sens_res (length ls))
front_says ls kind Idle (Calls Slp) = None
front_says ls kind Idle (Calls (Sdd level known)) = None
front_says ls kind Idle (Calls (Sel level bytes)) = None
front_says ls kind Idle Other = None
front_says ls kind Sleep (Calls Sens) = None
front_says ls kind Sleep (Calls All) = Some (sens_res (length ls))
front_says ls kind Sleep (Calls Slp) = None
front_says ls kind Sleep (Calls (Sdd level known)) = None
front_says ls kind Sleep (Calls (Sel level bytes)) = None
front_says ls kind Sleep Other = None
front_says ls kind (Ready k starred) (Calls Sens) = None
front_says ls kind (Ready k starred) (Calls All) = None
front_says ls kind (Ready k starred) (Calls Slp) = None
front_says ls kind (Ready k starred) (Calls (Sdd level known)) =
    if is_asked ls k level known then Some (of_bits A (drop (length known) (bits_of (level_at ls k)))) else None
front_says ls kind (Ready k starred) (Calls (Sel level bytes)) =
    if is_taken ls k level bytes then Some (taken_answer ls kind k) else None
front_says ls kind (Ready k starred) Other = None
front_says ls kind (Active starred) f = None

abbrev pub is_ready : Front → Bool
is_ready Off = false
is_ready Idle = false
is_ready Sleep = false
is_ready (Ready k starred) = true
is_ready (Active starred) = false

abbrev pub is_active : Front → Bool
is_active Off = false
is_active Idle = false
is_active Sleep = false
is_active (Ready k starred) = false
is_active (Active starred) = true
