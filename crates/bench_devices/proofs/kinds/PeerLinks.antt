-- A peer has a link to its far end from ATR_REQ on: without one it hands over nothing at any other frame, and has none afterwards.
use Rattle.std.proofs.Common.{◌≡◌, ℕ, List, Bool, true, false, ◌||◌, Option, Some, None, refl, ◌∙◌, ap, sym}
use Rattle.nfc_base.specs.Signal.{Signal}
use Rattle.nfc_base.specs.Far.{Untouched, Restarts, Hands}
use Rattle.nfca_poll.specs.declared.upper.UpStep.TheVariants as steps
use Rattle.nfca_poll.specs.Calls.{call_of}
use Rattle.nfca_poll.specs.Front.{Front, Off, Idle, Sleep, Ready, Active, front_next}
use Rattle.nfca_poll.specs.Fronted.{Fronted, left_at, handed_by, active_after, after_by}
use Rattle.nfca_poll.specs.Levels.{levels}
use Rattle.dep_pdu.specs.declared.frame.DepFrame.{DepFrame}
use Rattle.dep_pdu.specs.declared.frame.DepFrame.TheVariants.{AtrReq, AtrRes, Info, Ack, Nack, Attention, Extend, DslReq, DslRes, RlsReq, RlsRes}
use Rattle.dep_link.specs.Frames.{spelled, names_atr, is_atr_req}
use Rattle.dep_link.specs.Peers.{target_use}
use Rattle.dep_link.specs.Target.{TargetState, obeyed}
use Rattle.far_air.specs.FarLaws.{IsLinked}
use Rattle.far_air.specs.Quietly.{IsCalm}
use Rattle.bench_devices.specs.declared.device.Device.{Device}
use Rattle.bench_devices.specs.declared.device.Device.TheVariants.{T2, T4, Peer, T5, T3}
use Rattle.bench_devices.specs.Device.{devices, device_linked}
use Rattle.bench_devices.specs.Peers.{PeerNear, PeerDid, peer_if, peer_did, asked_if, takes_frame, peer_machine}

no_restart : (general : List ℕ) → Restarts general ≡ Untouched → ⊥
no_restart general e = cc

no_hands : (general payload : List ℕ) → Restarts general ≡ Hands payload → ⊥
no_hands general payload e = cc

-- ATR_REQ asks the far end to begin a link
record Begins (t : TargetState) (o : Option DepFrame) : Type 0 where
  pub general : List ℕ
  pub use' : target_use (obeyed t o).does ≡ Restarts general

atr_begins : (t : TargetState) (o : Option DepFrame) → names_atr o ≡ true → Begins t o
atr_begins t None e = absurd cc
atr_begins t (Some (AtrReq id lr general)) e = record { general = general.items; use' = refl }
atr_begins t (Some (AtrRes id timeout lr general)) e = absurd cc
atr_begins t (Some (Info up more pni content)) e = absurd cc
atr_begins t (Some (Ack up pni)) e = absurd cc
atr_begins t (Some (Nack pni)) e = absurd cc
atr_begins t (Some (Attention up)) e = absurd cc
atr_begins t (Some (Extend up times)) e = absurd cc
atr_begins t (Some DslReq) e = absurd cc
atr_begins t (Some DslRes) e = absurd cc
atr_begins t (Some RlsReq) e = absurd cc
atr_begins t (Some RlsRes) e = absurd cc

-- a peer that takes no other frame
free_takes : (u : PeerNear) (f : Signal) → u.linked ≡ false → takes_frame u f ≡ is_atr_req f
free_takes u f h = ap (λ v. v || is_atr_req f) h

-- what a payload is handed over by
hands_linked : (u : PeerNear) (f : Signal) (payload : List ℕ) (linked : Bool) → u.linked ≡ linked → peer_machine.handed u f ≡ Hands payload → linked ≡ true
hands_linked u f payload true l e = refl
hands_linked u f payload false l e = absurd (by_atr (is_atr_req f) refl)
  where
    by_atr : (v : Bool) → is_atr_req f ≡ v → ⊥
    by_atr true a =
        let b : Begins u.target (spelled f) = atr_begins u.target (spelled f) a in
        no_hands b.general payload (sym b.use' ∙ sym (ap (λ v. asked_if v u f) (free_takes u f l ∙ a)) ∙ e)
    by_atr false a = (let none : Untouched ≡ Hands payload = sym (ap (λ v. asked_if v u f) (free_takes u f l ∙ a)) ∙ e in cc)

peer_hands : (front : Front) (d : Fronted PeerNear) (f : Signal) (payload : List ℕ) → handed_by peer_machine front d f ≡ Hands payload → d.upper.linked ≡ true
peer_hands Off d f payload e = absurd cc
peer_hands Idle d f payload e = absurd cc
peer_hands Sleep d f payload e = absurd cc
peer_hands (Ready k starred) d f payload e = absurd cc
peer_hands (Active starred) d f payload e = hands_linked d.upper f payload d.upper.linked refl e

-- at another frame than ATR_REQ one without a link hands nothing over
free_hands : (front : Front) (d : Fronted PeerNear) (f : Signal) → is_atr_req f ≡ false → d.upper.linked ≡ false → handed_by peer_machine front d f ≡ Untouched
free_hands Off d f a h = refl
free_hands Idle d f a h = refl
free_hands Sleep d f a h = refl
free_hands (Ready k starred) d f a h = refl
free_hands (Active starred) d f a h = ap (λ v. asked_if v d.upper f) (free_takes d.upper f h ∙ a)

pub calm_frame : (f : Signal) → is_atr_req f ≡ false → IsCalm devices device_linked f
calm_frame f a (T2 d) h = refl
calm_frame f a (T4 d) h = refl
calm_frame f a (Peer d) h = free_hands d.front d f a h
calm_frame f a (T5 p) h = refl
calm_frame f a (T3 p) h = refl

-- where it handed nothing over, it has none afterwards
left_unlinked : (front next : Front) (u : PeerNear) → u.linked ≡ false → (left_at peer_machine front next u).linked ≡ false
left_unlinked Off next u h = h
left_unlinked Idle next u h = h
left_unlinked Sleep next u h = h
left_unlinked (Ready k starred) next u h = h
left_unlinked (Active starred) Off u h = refl
left_unlinked (Active starred) Idle u h = refl
left_unlinked (Active starred) Sleep u h = refl
left_unlinked (Active starred) (Ready k other) u h = refl
left_unlinked (Active starred) (Active other) u h = h

foreign_stays : (d : Fronted PeerNear) (f : Signal) → d.upper.linked ≡ false → (active_after peer_machine steps.Foreign d.upper d f).upper.linked ≡ false
foreign_stays d f h = left_unlinked d.front (front_next (levels d.id) d.front (call_of f)) d.upper h

active_stays : (d : Fronted PeerNear) (f : Signal) → d.upper.linked ≡ false → peer_machine.handed d.upper f ≡ Untouched
    → (active_after peer_machine (peer_did d.upper f None).says (peer_did d.upper f None).after d f).upper.linked ≡ false
active_stays d f h e = by_atr (is_atr_req f) refl
  where
    by_atr : (v : Bool) → is_atr_req f ≡ v → (active_after peer_machine (peer_did d.upper f None).says (peer_did d.upper f None).after d f).upper.linked ≡ false
    by_atr true a =
        let b : Begins d.upper.target (spelled f) = atr_begins d.upper.target (spelled f) a in
        absurd (no_restart b.general (sym b.use' ∙ sym (ap (λ v. asked_if v d.upper f) (free_takes d.upper f h ∙ a)) ∙ e))
    by_atr false a =
        ap (λ (x : PeerDid). (active_after peer_machine x.says x.after d f).upper.linked) (ap (λ v. peer_if v d.upper f None) (free_takes d.upper f h ∙ a)) ∙ foreign_stays d f h

peer_stays : (front : Front) (d : Fronted PeerNear) (f : Signal) → d.upper.linked ≡ false → handed_by peer_machine front d f ≡ Untouched → (after_by peer_machine front d f None).upper.linked ≡ false
peer_stays Off d f h e = foreign_stays d f h
peer_stays Idle d f h e = foreign_stays d f h
peer_stays Sleep d f h e = foreign_stays d f h
peer_stays (Ready k starred) d f h e = foreign_stays d f h
peer_stays (Active starred) d f h e = active_stays d f h e

hands : (l : Device) (f : Signal) (payload : List ℕ) → devices.handed l f ≡ Hands payload → device_linked l ≡ true
hands (T2 d) f payload e = absurd cc
hands (T4 d) f payload e = absurd cc
hands (Peer d) f payload e = peer_hands d.front d f payload e
hands (T5 p) f payload e = absurd cc
hands (T3 p) f payload e = absurd cc

begins : (l : Device) (f : Signal) → device_linked l ≡ false → devices.handed l f ≡ Untouched → device_linked (devices.after l f None) ≡ false
begins (T2 d) f h e = refl
begins (T4 d) f h e = refl
begins (Peer d) f h e = peer_stays d.front d f h e
begins (T5 p) f h e = refl
begins (T3 p) f h e = refl

light : (l : Device) → device_linked l ≡ false → device_linked (devices.woken l) ≡ false
light (T2 d) h = refl
light (T4 d) h = refl
light (Peer d) h = left_unlinked d.front Idle d.upper h
light (T5 p) h = refl
light (T3 p) h = refl

dark : (l : Device) → device_linked (devices.darkened l) ≡ false
dark (T2 d) = refl
dark (T4 d) = refl
dark (Peer d) = refl
dark (T5 p) = refl
dark (T3 p) = refl

pub devices_link : IsLinked devices device_linked
devices_link = record { hands = hands; begins = begins; light = light; dark = dark }
