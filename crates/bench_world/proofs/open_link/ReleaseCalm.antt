-- Where all passes, a peer with a link is heard at RLS_REQ.
use Rattle.std.proofs.Common.{◌≡◌, ℕ, List, [], ◌++◌, Bool, true, false, ◌||◌, if◌then◌else◌, Option, Some, None, refl, ◌∙◌, ap}
use Rattle.std.specs.List.{cons_option}
use Rattle.nfc_base.specs.Choosing.{Choosing}
use Rattle.nfc_base.specs.Far.{Untouched}
use Rattle.nfc_base.specs.Signal.{Signal}
use Rattle.nfc_base.specs.Trace.{back_of}
use Rattle.nfc_base.specs.Trace as backs
use Rattle.nfc_base.specs.declared.event.Event.{Event}
use Rattle.nfc_base.specs.declared.event.Fate.{Fate}
use Rattle.nfc_base.specs.declared.event.Heard.{Heard}
use Rattle.nfc_base.specs.declared.frame.Tech.TheVariants.{A}
use Rattle.air_core.specs.Conversation.{first_fate, later_fates, turn_events}
use Rattle.air_core.specs.Joint.{joint}
use Rattle.air_core.specs.PlainTags.{IsAside}
use Rattle.air_core.specs.Quiet.{EachQuiet, QuietTurn}
use Rattle.air_core.specs.Turn.{Air, TurnIs, world}
use Rattle.air_core.specs.World.{quiet_air, hears, hands_over, answered_by}
use Rattle.air_core.proofs.PlainAside.{IsUnmoved, aside_silent, alone_quiet, alone_says}
use Rattle.air_core.proofs.PlainTurns.{tag_events, joint_one, turn_events_as}
use Rattle.air_core.proofs.Quiet.{quiet_turn}
use Rattle.dep_pdu.specs.declared.frame.DepFrame.TheVariants.{RlsReq, RlsRes}
use Rattle.dep_link.specs.Frames.{air_frame, is_atr_req}
use Rattle.dep_link.specs.Initiator.{InitState}
use Rattle.dep_link.specs.Releasing.{rls_frame}
use Rattle.dep_link.specs.Target.{TargetState, TargetTurn, Frees, stays, framed, target_table}
use Rattle.dep_link.proofs.Wire.{target_heeds}
use Rattle.llcp_link.specs.Counting.{AnswersCounted, RestartsCounted}
use Rattle.nfca_poll.specs.Front.{Front, Off, Idle, Sleep, Ready, Active, is_active}
use Rattle.nfca_poll.specs.Fronted.{Fronted, active_answer}
use Rattle.snep_core.specs.Server.{serving}
use Rattle.bench_devices.specs.declared.device.Device.{Device}
use Rattle.bench_devices.specs.declared.device.Device.TheVariants.{T2, T4, Peer, T5, T3}
use Rattle.bench_devices.specs.Beside.{InStepAt}
use Rattle.bench_devices.specs.Device.{devices, device_end, device_linked, device_selected}
use Rattle.bench_devices.specs.Keeping.{ghosts}
use Rattle.bench_devices.specs.Peers.{PeerNear, PeerDid, by_turn, peer_if, peer_machine}
use Rattle.bench_devices.proofs.turns.QuietRats.{laws}
use Rattle.bench_world.specs.World.{FarEnd}
use Rattle.bench_world.proofs.calm.CallCalm.{IsCalm}
use Rattle.dep_link.proofs.ActivateLaw.{said_calm}

-- it answers, unless it's mute
abbrev Frees_so : TargetState → TargetTurn
Frees_so t = framed (record { state = t; does = Frees RlsRes })

heeds_rls : (t : TargetState) → t.mute ≡ false → target_table t rls_frame ≡ Frees_so t
heeds_rls t heeds = target_heeds t RlsReq tt ∙ ap (λ (v : Bool). framed (if v then stays t else record { state = t; does = Frees RlsRes })) heeds

says_by : (front : Front) (id : List ℕ) (u : PeerNear) → is_active front ≡ true → u.linked ≡ true → u.target.mute ≡ false
    → devices.answer (Peer (record { id = id; front = front; upper = u })) rls_frame None ≡ Some (air_frame RlsRes)
says_by Off id u a linked heeds = absurd cc
says_by Idle id u a linked heeds = absurd cc
says_by Sleep id u a linked heeds = absurd cc
says_by (Ready k starred) id u a linked heeds = absurd cc
says_by (Active starred) id u a linked heeds =
    let d : Fronted PeerNear = record { id = id; front = Active starred; upper = u } in
    let S : PeerDid → Option Signal = λ x. active_answer peer_machine x.says d rls_frame in
    ap (λ v. S (peer_if (v || is_atr_req rls_frame) u rls_frame None)) linked ∙ ap (λ t. S (by_turn t None)) (heeds_rls u.target heeds)

rls_says : (d : Device) → device_selected d ≡ true → device_linked d ≡ true → (device_end d).mute ≡ false → answered_by devices d rls_frame None ≡ Some (air_frame RlsRes)
rls_says (T2 d) a linked heeds = absurd cc
rls_says (T4 d) a linked heeds = absurd cc
rls_says (Peer d) a linked heeds = says_by d.front d.id d.upper a linked heeds
rls_says (T5 p) a linked heeds = absurd cc
rls_says (T3 p) a linked heeds = absurd cc

begins_fresh : (f g : Signal) (x y : Fate) → back_of (tag_events f x y (Some g)) ≡ backs.Nothing
begins_fresh f g x y = refl

module _ (quiet : (d : Device) → devices.handed d rls_frame ≡ Untouched) (mid b : Air Device) (place : ℕ) (i : InitState) (at : InStepAt mid place i) (half after : Choosing FarEnd)
    (heard : Option Heard)
    (turn : TurnIs devices (RestartsCounted serving) (AnswersCounted serving) mid rls_frame half heard b after) where
  abbrev peer : Device
  peer = at.step.1.listener

  unmoved : (x : Device) → IsAside ghosts (ghosts.identifier peer) x → IsUnmoved ghosts laws (ghosts.identifier peer) rls_frame x
  unmoved x s = aside_silent ghosts laws (ghosts.identifier peer) A rls_frame refl tt x s

  hands_none : hands_over devices peer rls_frame ≡ Untouched
  hands_none = by_hearing (hears devices peer rls_frame)
    where
      by_hearing : (v : Bool) → (if v then devices.handed peer rls_frame else Untouched) ≡ Untouched
      by_hearing true = quiet peer
      by_hearing false = refl

  pub release_calm : IsCalm mid b
  release_calm =
      let own : List ℕ = ghosts.identifier peer in
      let each : EachQuiet devices rls_frame mid.listeners = alone_quiet ghosts laws own rls_frame unmoved mid.listeners at.step.1.place peer at.step.1.alone hands_none in
      let q : QuietTurn devices mid rls_frame half heard b after = quiet_turn devices (RestartsCounted serving) (AnswersCounted serving) mid rls_frame half heard b after each turn in
      let x : Fate = first_fate mid.fates in
      let y : Fate = first_fate (later_fates mid.fates) in
      let o : Option Signal = Some (air_frame RlsRes) in
      let joins = ap joint (alone_says ghosts laws own rls_frame unmoved mid.listeners at.step.1.place peer at.step.1.alone)
      ∙ ap (λ z. joint (cons_option z [])) (rls_says peer at.step.1.selected at.linked at.step.1.step.heeds) ∙ joint_one o in
      let events : turn_events (quiet_air devices) (world mid) rls_frame x y ≡ tag_events rls_frame x y o = turn_events_as ghosts (world mid) rls_frame x y o joins in
      record {
        events = tag_events rls_frame x y o;
        trace = q.trace ∙ ap (λ (es : List Event). mid.trace ++ es) events;
        fresh = begins_fresh rls_frame (air_frame RlsRes) x y;
        calm = said_calm rls_frame (air_frame RlsRes) x y;
      }
