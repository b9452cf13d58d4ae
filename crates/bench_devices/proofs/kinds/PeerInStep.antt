-- A selected peer that does what its target's table says has a link: without one it is silent where it is asked whether it is there.
use Rattle.std.proofs.Common.{◌≡◌, ℕ, zero, suc, ◌<◌, List, [], Bool, true, false, ◌||◌, if◌then◌else◌, Some, None, refl, sym, ◌∙◌, ap, arith}
use Rattle.std.specs.Prelude.{slice_index}
use Rattle.nfc_base.specs.Signal.{Signal}
use Rattle.nfca_poll.specs.Front.{Front, Off, Idle, Sleep, Ready, Active, is_active}
use Rattle.nfca_poll.specs.Fronted.{Fronted, active_answer}
use Rattle.dep_pdu.specs.declared.frame.DepFrame.TheVariants.{Attention}
use Rattle.dep_link.specs.Answering.{reply_for}
use Rattle.dep_link.specs.Frames.{air_frame, names_atr, is_atr_req}
use Rattle.dep_link.specs.Target.{TargetState, TargetTurn, Answers, stays, target_table, framed, heeded}
use Rattle.dep_link.specs.Peers.{answered_with, IsAsked, IsPeer, StepsByTarget}
use Rattle.dep_link.proofs.Wire.{written_read, target_heeds}
use Rattle.bench_devices.specs.declared.device.Device.{Device}
use Rattle.bench_devices.specs.declared.device.Device.TheVariants.{T2, T4, Peer, T5, T3}
use Rattle.bench_devices.specs.Kinds.{PeerKind}
use Rattle.bench_devices.specs.Device.{devices, device_end, device_linked, device_selected, kind_of}
use Rattle.bench_devices.specs.Keeping.{ghosts}
use Rattle.bench_devices.specs.Peers.{PeerNear, peer_if, asked_if, peer_machine}

abbrev question : Signal
question = air_frame (Attention false)

few_bytes : (i : ℕ) → slice_index question.bytes i < 256
few_bytes zero = omega arith
few_bytes (suc zero) = omega arith
few_bytes (suc (suc zero)) = omega arith
few_bytes (suc (suc (suc zero))) = omega arith
few_bytes (suc (suc (suc (suc zero)))) = omega arith
few_bytes (suc (suc (suc (suc (suc i))))) = omega arith

is_question : IsAsked question
is_question = record { value = Attention false; asked = tt; bytes = few_bytes; frame = refl }

-- an end that heeds frames answers it
heard_question : (t : TargetState) → t.mute ≡ false → answered_with (target_table t question).state [] (target_table t question).does ≡ Some (air_frame (Attention true))
heard_question t heeds =
    let k : target_table t question ≡ framed (heeded t (Attention false)) = target_heeds t (Attention false) tt in
    ap (λ (x : TargetTurn). answered_with x.state [] x.does) k
    ∙ ap (λ v. answered_with (framed (if v then stays t else record { state = t; does = Answers (Attention true) })).state []
    (framed (if v then stays t else record { state = t; does = Answers (Attention true) })).does) heeds

-- one without a link is silent
silent_front : (id : List ℕ) (starred : Bool) (u : PeerNear) → u.linked ≡ false
    → devices.answer (Peer (record { id = id; front = Active starred; upper = u })) question (reply_for [] (devices.handed (Peer (record { id = id; front = Active starred; upper = u })) question))
    ≡ None
silent_front id starred u free =
    let d : Fronted PeerNear = record { id = id; front = Active starred; upper = u } in
    let other : (u.linked || is_atr_req question) ≡ false = ap (λ v. v || is_atr_req question) free ∙ ap names_atr (written_read (Attention false) tt) in
    ap (λ v. active_answer peer_machine (peer_if v u question (reply_for [] (asked_if v u question))).says d question) other

linked_by : (id : List ℕ) (front : Front) (u : PeerNear) → is_active front ≡ true → IsPeer ghosts device_end (Peer (record { id = id; front = front; upper = u })) → u.target.mute ≡ false
    → (v : Bool) → u.linked ≡ v → v ≡ true
linked_by id front u a is heeds true e = refl
linked_by id Off u a is heeds false e = absurd cc
linked_by id Idle u a is heeds false e = absurd cc
linked_by id Sleep u a is heeds false e = absurd cc
linked_by id (Ready k starred) u a is heeds false e = absurd cc
linked_by id (Active starred) u a is heeds false e =
    let one : StepsByTarget ghosts device_end (Peer (record { id = id; front = Active starred; upper = u })) question [] = is.steps_on [] tt question is_question [] (omega arith) in
    let clash : None ≡ Some (air_frame (Attention true)) = sym (silent_front id starred u e) ∙ one.answer ∙ heard_question u.target heeds in
    absurd cc

pub linked_peer : (x : Device) → kind_of x ≡ PeerKind → device_selected x ≡ true → IsPeer ghosts device_end x → (device_end x).mute ≡ false → device_linked x ≡ true
linked_peer (T2 d) kind a is heeds = absurd cc
linked_peer (T4 d) kind a is heeds = absurd cc
linked_peer (Peer d) kind a is heeds = ap (λ v. v) (linked_by d.id d.front d.upper a is heeds d.upper.linked refl)
linked_peer (T5 p) kind a is heeds = absurd cc
linked_peer (T3 p) kind a is heeds = absurd cc
