-- How a link to a peer is ended by RLS_REQ (NFCIP-1, ISO/IEC 18092), whatever is heard of it.
use Rattle.std.specs.Prelude.{◌≡◌, ℕ, List, Bool, false, Some, Result, Ok, Err}
use Rattle.nfc_base.specs.Signal.{Signal}
use Rattle.nfc_base.specs.declared.event.Heard.{Heard}
use Rattle.nfc_base.specs.declared.carrier.EndCause.{EndCause}
use Rattle.nfc_base.specs.declared.carrier.EndCause.TheVariants.{FieldLost, SixBad, Protocol, Memory}
use Rattle.nfc_base.specs.declared.carrier.LinkEnd.{LinkEnd}
use Rattle.air_core.specs.World.{Machine}
use Rattle.air_core.specs.Turn.{Air, TurnIs, Transmits}
use Rattle.air_core.specs.declared.fault.AirFault.TheVariants as air
use Rattle.air_core.specs.PlainTags.{IsAlone}
use Rattle.air_core.specs.declared.listener.Listener.{Ghosts}
use Rattle.dep_pdu.specs.declared.frame.DepFrame.TheVariants.{RlsReq}
use Rattle.dep_link.specs.Frames.{air_frame}
use Rattle.dep_link.specs.Target.{TargetState, target_table}
use Rattle.dep_link.specs.Peers.{target_use}

-- RLS_REQ on the air
abbrev pub rls_frame : Signal
rls_frame = air_frame RlsReq

module _ {L F : Type 0} (m : Machine L) (restarts : F → List ℕ → F → Type 0) (steps : F → List ℕ → List ℕ → F → Type 0)
    (stops : F → List ℕ → F → Type 0) (is_stuck : F → Bool) where
  -- a fault is that of the one turn
  abbrev pub ReleaseFails : Air L → F → Air L → F → EndCause → Type 0
  ReleaseFails old far new far' FieldLost = Transmits m restarts steps stops is_stuck old rls_frame far
      (Err air.FieldLost) new far'
  ReleaseFails old far new far' Memory = Transmits m restarts steps stops is_stuck old rls_frame far (Err air.Memory)
      new far'
  ReleaseFails old far new far' SixBad = ⊥
  ReleaseFails old far new far' Protocol = ⊥

  -- RLS_REQ is sent once.
  abbrev pub Releases : Air L → F → Result (Unit {0}) LinkEnd → Air L → F → Type 0
  Releases old far (Ok u) new far' = (h : Heard) × TurnIs m restarts steps old rls_frame far (Some h) new far'
  Releases old far (Err e) new far' = (e.answered ≡ false) × ReleaseFails old far new far' e.cause

module _ {L : Type 0} (k : Ghosts L) (target : L → TargetState) where
  -- somewhere in a field a listener stands alone that asks of its far end at RLS_REQ what the target's table says
  pub record TakesRls (air : Air L) : Type 0 where
    pub place : ℕ
    pub listener : L
    pub alone : IsAlone k (k.identifier listener) air.listeners place listener
    pub asks : k.machine.handed listener rls_frame ≡ target_use (target_table (target listener) rls_frame).does
