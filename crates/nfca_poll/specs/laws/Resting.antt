-- A device at rest, neither ready nor active, hears frames of whole bytes in silence.
use Rattle.std.proofs.Common.{◌≡◌, ℕ, List, get_or, Bool, true, false, if◌then◌else◌, None, refl}
use Rattle.nfc_base.specs.Signal.{Signal, whole_a}
use Rattle.nfca_poll.specs.declared.kind.Kind.{Kind}
use Rattle.nfca_poll.specs.Calls.{Reading, Calls, Other, Sens, All, Slp, Sdd, Sel, call_of, is_slp, is_sdd, is_sel}
use Rattle.nfca_poll.specs.Calls.{cmd_level, known_bits, named_level}
use Rattle.nfca_poll.specs.Front.{Front, Off, Idle, Sleep, Ready, Active, front_says, front_next, is_ready, is_active}

-- a call that a device at rest may answer
abbrev pub wakes : Reading → Bool
wakes (Calls Sens) = true
wakes (Calls All) = true
wakes (Calls Slp) = false
wakes (Calls (Sdd level known)) = false
wakes (Calls (Sel level bytes)) = false
wakes Other = false

pub whole_wakes_none : (bytes : List ℕ) → wakes (call_of (whole_a bytes)) ≡ false
whole_wakes_none bytes =
    let f : Signal = whole_a bytes in
    by_form (is_slp f) (is_sdd f) (is_sel f) (Calls (Sdd (cmd_level (get_or bytes 0 0)) (known_bits f)))
    (Calls (Sel (cmd_level (get_or bytes 0 0)) (named_level f))) refl refl
  where
    by_form : (slp sdd sel : Bool) (r s : Reading) → wakes r ≡ false → wakes s ≡ false
        → wakes (if slp then Calls Slp else if sdd then r else if sel then s else Other) ≡ false
    by_form true sdd sel r s h k = refl
    by_form false true sel r s h k = h
    by_form false false true r s h k = k
    by_form false false false r s h k = refl

-- what a front at rest does at a call that wakes nobody
pub record Rests (ls : List (List ℕ)) (kind : Kind) (front : Front) (r : Reading) : Type 0 where
  pub silent : front_says ls kind front r ≡ None
  pub unready : is_ready (front_next ls front r) ≡ false
  pub inactive : is_active (front_next ls front r) ≡ false

pub rests : (ls : List (List ℕ)) (kind : Kind) (front : Front) (r : Reading) → is_ready front ≡ false
    → is_active front ≡ false → wakes r ≡ false → Rests ls kind front r
rests ls kind Off r a b w = record { silent = refl; unready = refl; inactive = refl }
rests ls kind Idle (Calls Sens) a b w = absurd cc
rests ls kind Idle (Calls All) a b w = absurd cc
rests ls kind Idle (Calls Slp) a b w = record { silent = refl; unready = refl; inactive = refl }
rests ls kind Idle (Calls (Sdd level known)) a b w = record { silent = refl; unready = refl; inactive = refl }
rests ls kind Idle (Calls (Sel level bytes)) a b w = record { silent = refl; unready = refl; inactive = refl }
rests ls kind Idle Other a b w = record { silent = refl; unready = refl; inactive = refl }
rests ls kind Sleep (Calls Sens) a b w = absurd cc
rests ls kind Sleep (Calls All) a b w = absurd cc
rests ls kind Sleep (Calls Slp) a b w = record { silent = refl; unready = refl; inactive = refl }
rests ls kind Sleep (Calls (Sdd level known)) a b w = record { silent = refl; unready = refl; inactive = refl }
rests ls kind Sleep (Calls (Sel level bytes)) a b w = record { silent = refl; unready = refl; inactive = refl }
rests ls kind Sleep Other a b w = record { silent = refl; unready = refl; inactive = refl }
rests ls kind (Ready k starred) r a b w = absurd cc
rests ls kind (Active starred) r a b w = absurd cc
