-- At RLS_REQ a target asks nothing of its far end.
use Rattle.std.proofs.Common.{◌≡◌, ℕ, List, Bool, true, false, if◌then◌else◌, Result, Ok, Err, inl, inr, refl, ◌∙◌, ap}
use Rattle.nfc_base.specs.declared.frame.Tech.TheVariants.{A}
use Rattle.nfc_base.specs.Far.{Untouched}
use Rattle.air_core.specs.World.{hears}
use Rattle.air_core.specs.Turn.{Air, Transmits}
use Rattle.air_core.specs.Quiet.{EachQuiet, QuietTransmits}
use Rattle.air_core.specs.PlainTags.{IsAside}
use Rattle.air_core.specs.declared.listener.Listener.{Ghosts}
use Rattle.nfc_base.specs.declared.event.Heard.{Heard}
use Rattle.air_core.specs.declared.fault.AirFault.{AirFault}
use Rattle.air_core.specs.declared.fault.AirFault.TheVariants as air
use Rattle.air_core.proofs.Quiet.{quiet_transmits}
use Rattle.air_core.proofs.PlainAside.{Laws, IsUnmoved, aside_silent, alone_quiet}
use Rattle.dep_pdu.specs.declared.frame.DepFrame.TheVariants.{RlsReq, RlsRes}
use Rattle.dep_link.specs.Target.{TargetState, TargetTurn, Frees, stays, framed, target_table}
use Rattle.dep_link.specs.Peers.{target_use}
use Rattle.dep_link.specs.Releasing.{rls_frame, TakesRls}
use Rattle.dep_link.proofs.Wire.{target_heeds}

-- mute or not
pub rls_use : (t : TargetState) → target_use (target_table t rls_frame).does ≡ Untouched
rls_use t = ap (λ (z : TargetTurn). target_use z.does) (target_heeds t RlsReq tt) ∙ go t.mute
  where
    go : (b : Bool) → target_use (framed (if b then stays t else record { state = t; does = Frees RlsRes })).does ≡ Untouched
    go true = refl
    go false = refl

module _ {L : Type 0} (k : Ghosts L) (laws : Laws k) (target : L → TargetState) where
  rls_aside : (own : List ℕ) (x : L) → IsAside k own x → IsUnmoved k laws own rls_frame x
  rls_aside own x s = aside_silent k laws own A rls_frame refl tt x s

  rls_quiet : (old : Air L) → TakesRls k target old → EachQuiet k.machine rls_frame old.listeners
  rls_quiet old t =
      alone_quiet k laws (k.identifier t.listener) rls_frame (rls_aside (k.identifier t.listener)) old.listeners t.place t.listener t.alone
      (go (hears k.machine t.listener rls_frame) (t.asks ∙ rls_use (target t.listener)))
    where
      go : (b : Bool) → k.machine.handed t.listener rls_frame ≡ Untouched → (if b then k.machine.handed t.listener rls_frame else Untouched) ≡ Untouched
      go true e = e
      go false e = refl

  module _ {F : Type 0} (restarts : F → List ℕ → F → Type 0) (steps : F → List ℕ → List ℕ → F → Type 0) (stops : F → List ℕ → F → Type 0) (is_stuck : F → Bool) (old new : Air L) (far far' : F)
      (t : TakesRls k target old) where
    by_result : (r : Result Heard AirFault) → QuietTransmits k.machine old rls_frame far r new far' → far' ≡ far
    by_result (Ok h) q = q.same
    by_result (Err air.FieldLost) (inl d) = d.2
    by_result (Err air.FieldLost) (inr q) = q.same
    by_result (Err air.Memory) q = q.2

    -- the far end stays
    pub far_stays : (r : Result Heard AirFault) → Transmits k.machine restarts steps stops is_stuck old rls_frame far r new far' → far' ≡ far
    far_stays r turn = by_result r (quiet_transmits k.machine restarts steps stops is_stuck old rls_frame far r new far' (rls_quiet old t) turn)
