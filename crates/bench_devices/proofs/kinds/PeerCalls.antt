-- A peer of the bench at the calls of a reader: they are foreign to one without a link, and one with a link hears them in silence.
use Rattle.std.proofs.Common.{◌≡◌, ◌⊎◌, inl, inr, ℕ, List, Bool, true, false, Option, None, refl, ◌∙◌, ap}
use Rattle.nfc_base.specs.Signal.{Signal}
use Rattle.nfc_base.specs.Far.{Untouched}
use Rattle.nfca_poll.specs.declared.upper.UpStep.TheVariants as steps
use Rattle.nfca_poll.specs.Calls.{call_of}
use Rattle.nfca_poll.specs.Crowd.{StepsByFront}
use Rattle.nfca_poll.specs.AnyStart.{StaysActive}
use Rattle.nfca_poll.specs.Front.{Front, Off, Idle, Sleep, Ready, Active, front_next, is_active}
use Rattle.nfca_poll.specs.Fronted.{Fronted, handed_by, active_answer, active_after, after_by}
use Rattle.nfca_poll.specs.Levels.{levels}
use Rattle.nfca_poll.specs.laws.OwnFrames.{BeginsAsCalls}
use Rattle.dep_link.specs.Target.{TargetState, obeyed}
use Rattle.bench_devices.specs.declared.device.Device.TheVariants.{Peer}
use Rattle.bench_devices.specs.Device.{devices, device_id}
use Rattle.bench_devices.specs.laws.LinkCalls.{says_at}
use Rattle.bench_devices.specs.Peers.{PeerNear, PeerDid, by_turn, peer_if, peer_did, takes_frame, peer_machine, no_link}
use Rattle.bench_devices.specs.laws.PeerUpper.{no_frame, no_atr_req, asks_none, foreign_peer}
use Rattle.bench_devices.proofs.kinds.Tidy.{left_free, peer_gives_up}
use Rattle.bench_devices.proofs.kinds.Ours.{device_kind, device_front, steps as steps_by_front}

did_where : (t : TargetState) (linked : Bool) (f : Signal) (reply : Option (List ℕ)) → BeginsAsCalls f
    → peer_did (record { target = t; linked = linked }) f reply ≡ record { says = says_at linked; after = record { target = t; linked = linked } }
did_where t false f reply h = ap (λ v. peer_if v (record { target = t; linked = false }) f reply) (no_atr_req f h)
did_where t true f reply h = ap (λ o. by_turn (obeyed t o) reply) (no_frame f h)

pub peer_at_call : (u : PeerNear) (f : Signal) (reply : Option (List ℕ)) → BeginsAsCalls f → peer_did u f reply ≡ record { says = says_at u.linked; after = u }
peer_at_call u f reply h = did_where u.target u.linked f reply h

-- it hands nothing over
none_asked : (u : PeerNear) (f : Signal) → BeginsAsCalls f → peer_machine.handed u f ≡ Untouched
none_asked u f h = asks_none u f (takes_frame u f) (no_frame f h)

pub none_handed : (front : Front) (d : Fronted PeerNear) (f : Signal) → BeginsAsCalls f → handed_by peer_machine front d f ≡ Untouched
none_handed Off d f h = refl
none_handed Idle d f h = refl
none_handed Sleep d f h = refl
none_handed (Ready k starred) d f h = refl
none_handed (Active starred) d f h = none_asked d.upper f h

abbrev pub peered : List ℕ → Front → PeerNear → Fronted PeerNear
peered id front u = record { id = id; front = front; upper = u }

-- Where a call is foreign to it, it steps by its front.
pub peer_steps : (front : Front) (id : List ℕ) (u : PeerNear) (f : Signal) → BeginsAsCalls f → peer_did u f None ≡ record { says = steps.Foreign; after = u }
    → StepsByFront devices device_id device_kind device_front (Peer (peered id front u)) f
peer_steps Off id u f h e = steps_by_front (Peer (peered id Off u)) f refl refl
peer_steps Idle id u f h e = steps_by_front (Peer (peered id Idle u)) f refl refl
peer_steps Sleep id u f h e = steps_by_front (Peer (peered id Sleep u)) f refl refl
peer_steps (Ready k starred) id u f h e = steps_by_front (Peer (peered id (Ready k starred) u)) f refl refl
peer_steps (Active starred) id u f h e =
    let d : Fronted PeerNear = peered id (Active starred) u in
    let after : PeerDid → Fronted PeerNear = λ x. active_after peer_machine x.says x.after d f in
    record {
      untouched = none_asked u f h;
      says = ap (λ (x : PeerDid). active_answer peer_machine x.says d f) e;
      goes = ap (λ x. (after x).front) e;
      same_tech = refl;
      same_id = ap (λ x. (after x).id) e;
      same_kind = refl;
    }

-- An active one leaves the state Active, but for one with a link, which stays in it.
yields_where : (id : List ℕ) (starred : Bool) (u : PeerNear) (linked : Bool) (f : Signal) → BeginsAsCalls f → u.linked ≡ linked
    → StepsByFront devices device_id device_kind device_front (Peer (peered id (Active starred) u)) f ⊎ StaysActive devices device_id device_kind device_front (Peer (peered id (Active starred) u)) f
yields_where id starred u false f h e = inl (peer_steps (Active starred) id u f h (peer_at_call u f None h ∙ ap (λ k. record { says = says_at k; after = u }) e))
yields_where id starred u true f h e =
    let d : Fronted PeerNear = peered id (Active starred) u in
    let did : peer_did u f None ≡ record { says = steps.Quiet; after = u } = peer_at_call u f None h ∙ ap (λ k. record { says = says_at k; after = u }) e in
    let after : PeerDid → Fronted PeerNear = λ x. active_after peer_machine x.says x.after d f in
    inr (record {
      untouched = none_asked u f h;
      silent = ap (λ (x : PeerDid). active_answer peer_machine x.says d f) did;
      same_front = ap (λ x. (after x).front) did;
      same_tech = refl;
      same_id = ap (λ x. (after x).id) did;
      same_kind = refl;
    })

pub peer_yields : (front : Front) (id : List ℕ) (u : PeerNear) (f : Signal) → BeginsAsCalls f → is_active front ≡ true
    → StepsByFront devices device_id device_kind device_front (Peer (peered id front u)) f ⊎ StaysActive devices device_id device_kind device_front (Peer (peered id front u)) f
peer_yields Off id u f h a = absurd cc
peer_yields Idle id u f h a = absurd cc
peer_yields Sleep id u f h a = absurd cc
peer_yields (Ready k starred) id u f h a = absurd cc
peer_yields (Active starred) id u f h a = yields_where id starred u u.linked f h refl

-- One without a link has none behind a call.
pub peer_free : (front : Front) (id : List ℕ) (u : PeerNear) (f : Signal) → BeginsAsCalls f → no_link u ≡ true → no_link (after_by peer_machine front (peered id front u) f None).upper ≡ true
peer_free Off id u f h n = left_free peer_machine no_link peer_gives_up Off (front_next (levels id) Off (call_of f)) u n
peer_free Idle id u f h n = left_free peer_machine no_link peer_gives_up Idle (front_next (levels id) Idle (call_of f)) u n
peer_free Sleep id u f h n = left_free peer_machine no_link peer_gives_up Sleep (front_next (levels id) Sleep (call_of f)) u n
peer_free (Ready k starred) id u f h n = left_free peer_machine no_link peer_gives_up (Ready k starred) (front_next (levels id) (Ready k starred) (call_of f)) u n
peer_free (Active starred) id u f h n =
    let d : Fronted PeerNear = peered id (Active starred) u in
    ap (λ (x : PeerDid). no_link (active_after peer_machine x.says x.after d f).upper) (foreign_peer u f None h n)
    ∙ left_free peer_machine no_link peer_gives_up (Active starred) (front_next (levels id) (Active starred) (call_of f)) u n
