-- Where a peer stands at a place and all others are aside, a peer that is in step with an initiator is this one.
use Rattle.std.proofs.Common.{◌≡◌, ◌||◌, ℕ, zero, suc, List, [], ◌∷◌, ◌++◌, length, Bool, true, false, if◌then◌else◌, refl, sym, ◌∙◌, ap, subst}
use Rattle.nfc_base.specs.Signal.{Signal}
use Rattle.nfc_base.specs.Far.{Untouched}
use Rattle.dep_pdu.specs.declared.frame.DepFrame.TheVariants.{RlsReq, RlsRes}
use Rattle.air_core.specs.Turn.{Air}
use Rattle.nfca_poll.specs.Front.{Front, Off, Idle, Sleep, Ready, Active, is_active}
use Rattle.dep_link.specs.Asking.{HasPeer}
use Rattle.dep_link.specs.Frames.{is_atr_req}
use Rattle.dep_link.specs.Exchange.{InStep, IsCut}
use Rattle.dep_link.specs.Initiator.{InitState}
use Rattle.dep_link.specs.Payloads.{Cut}
use Rattle.dep_link.specs.Peers.{target_use}
use Rattle.dep_link.specs.Releasing.{rls_frame}
use Rattle.dep_link.specs.Target.{TargetState, TargetTurn, Frees, stays, framed, target_table}
use Rattle.dep_link.proofs.Wire.{target_heeds}
use Rattle.peer_air.specs.Aside.{AsideBut}
use Rattle.bench_devices.specs.declared.device.Device.{Device}
use Rattle.bench_devices.specs.declared.device.Device.TheVariants.{T2, T4, Peer, T5, T3}
use Rattle.bench_devices.specs.Beside.{PeerAt, InStepAt}
use Rattle.bench_devices.specs.Kinds.{PeerKind}
use Rattle.bench_devices.specs.Device.{devices, device_end, device_linked, device_selected, kind_of}
use Rattle.bench_devices.specs.Keeping.{ghosts}
use Rattle.bench_devices.specs.LinkLaws.{ReadyInStep, NoneAtRls, InStepTakesRls}
use Rattle.bench_devices.specs.Peers.{PeerNear, asked_if, takes_frame}
use Rattle.bench_devices.proofs.far_ends.BesideLink.{at_aside, only_one}
use Rattle.bench_devices.proofs.kinds.PeerInStep.{linked_peer}

peer_there : (own : List ℕ) (before : List Device) (x : Device) (behind : List Device) (place : ℕ) → PeerAt own place (before ++ x ∷ behind) → length before ≡ place → kind_of x ≡ PeerKind
peer_there own [] x behind zero a e = a.0
peer_there own [] x behind (suc n) a e = absurd cc
peer_there own (b ∷ before) x behind zero a e = absurd cc
peer_there own (b ∷ before) x behind (suc n) a e = (let less : length before ≡ n = cc in peer_there own before x behind n a.1 less)

-- ends in step begin anew
pub cut_so : (i : InitState) (t : TargetState) → InStep i t → IsCut i.core.number t [] []
cut_so i t s =
    let Now : ℕ → List ℕ → Cut = λ n c. record { next = n; chain = c; payloads = [] } in
    ap (λ n. Now n []) (sym s.expects) ∙ ap (Now t.expected) (sym s.no_chain)

module _ (own : List ℕ) (place : ℕ) (new : Air Device) (at : PeerAt own place new.listeners) (i : InitState) (first : ℕ) (handed : List (List ℕ)) (arrived : List Signal)
    (t : HasPeer ghosts device_end new i first handed arrived) where
  pub same_place : t.place ≡ place
  same_place =
      let aside = subst (AsideBut ghosts own place) t.alone.split (at_aside own place new.listeners at) in
      sym t.alone.stands ∙ only_one own t.alone.before t.listener t.alone.behind place aside t.is.tech t.selected

  pub here_kind : kind_of t.listener ≡ PeerKind
  here_kind = peer_there own t.alone.before t.listener t.alone.behind place (subst (PeerAt own place) t.alone.split at) (t.alone.stands ∙ same_place)

  abbrev pub in_step : new.lit ≡ true → InStepAt new place i
  in_step lit = record {
    step = (
      lit,
      record {
        place = t.place;
        listener = t.listener;
        selected = t.selected;
        alone = t.alone;
        is = t.is;
        step = t.step;
        cut = cut_so i (device_end t.listener) t.step;
      },
    );
    at = same_place;
    linked = linked_peer t.listener here_kind t.selected t.is t.step.heeds;
  }

pub ready_in_step : ReadyInStep
ready_in_step own place a ready at = in_step own place a.air at a.initiator a.first _ _ ready.peer ready.lit

-- a peer with a link does at RLS_REQ what its target's table says
rls_asks : (x : Device) → device_linked x ≡ true → device_selected x ≡ true → devices.handed x rls_frame ≡ target_use (target_table (device_end x) rls_frame).does
rls_asks (T2 d) linked a = absurd cc
rls_asks (T4 d) linked a = absurd cc
rls_asks (Peer d) linked a = by_front d.front d.upper a linked
  where
    by_front : (front : Front) (u : PeerNear) → is_active front ≡ true → u.linked ≡ true
        → devices.handed (Peer (record { id = d.id; front = front; upper = u })) rls_frame ≡ target_use (target_table u.target rls_frame).does
    by_front Off u b l = absurd cc
    by_front Idle u b l = absurd cc
    by_front Sleep u b l = absurd cc
    by_front (Ready k starred) u b l = absurd cc
    by_front (Active starred) u b l = ap (λ v. asked_if (v || is_atr_req rls_frame) u rls_frame) l
rls_asks (T5 p) linked a = absurd cc
rls_asks (T3 p) linked a = absurd cc

pub takes_rls : InStepTakesRls
takes_rls a place i s =
    let t = s.step.1 in
    record { place = t.place; listener = t.listener; alone = t.alone; asks = rls_asks t.listener s.linked t.selected }

-- At RLS_REQ no device hands anything over.
rls_none : (t : TargetState) → target_use (target_table t rls_frame).does ≡ Untouched
rls_none t =
    ap (λ (x : TargetTurn). target_use x.does) (target_heeds t RlsReq tt) ∙ by_mute t.mute
  where
    by_mute : (v : Bool) → target_use (framed (if v then stays t else record { state = t; does = Frees RlsRes })).does ≡ Untouched
    by_mute true = refl
    by_mute false = refl

asked_none : (v : Bool) (u : PeerNear) → asked_if v u rls_frame ≡ Untouched
asked_none true u = rls_none u.target
asked_none false u = refl

pub none_at_rls : NoneAtRls
none_at_rls (T2 d) = refl
none_at_rls (T4 d) = refl
none_at_rls (Peer d) = by_front d.front d.upper
  where
    by_front : (front : Front) (u : PeerNear) → devices.handed (Peer (record { id = d.id; front = front; upper = u })) rls_frame ≡ Untouched
    by_front Off u = refl
    by_front Idle u = refl
    by_front Sleep u = refl
    by_front (Ready k starred) u = refl
    by_front (Active starred) u = asked_none (takes_frame u rls_frame) u
none_at_rls (T5 p) = refl
none_at_rls (T3 p) = refl
