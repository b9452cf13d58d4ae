-- What a command that asks over the open link comes to, by what its call came to.
use Rattle.std.proofs.Common.{◌≡◌, ◌↔◌, ◌⊎◌, ℕ, ◌<◌, List, [], ◌++◌, length, Some, refl, sym, ◌∙◌, ap, subst, inl, inr}
use Rattle.std.specs.Prelude.{slice_set, drop}
use Rattle.nfc_base.specs.Choosing.{Choosing}
use Rattle.nfc_base.specs.declared.carrier.EndCause.{EndCause}
use Rattle.nfc_base.specs.declared.carrier.EndCause.TheVariants as cause
use Rattle.nfc_base.specs.declared.event.Event.{Event}
use Rattle.nfc_base.specs.Trace.{noise}
use Rattle.air_core.specs.Turn.{Air}
use Rattle.dep_link.specs.Initiator.{InitState}
use Rattle.peer_air.specs.PeerFars.{peer_ends}
use Rattle.snep_core.specs.Accord.{Accords}
use Rattle.llcp_link.specs.Counting.{StopsCounted}
use Rattle.snep_core.specs.Server.{Received, serving}
use Rattle.snep_core.specs.declared.job.OnSap.{OnSap}
use Rattle.snep_core.specs.Talk.{EndState, Step, Ends}
use Rattle.link_calls.specs.Asking.{Call, call_begins}
use Rattle.link_calls.specs.CallDue.{Comes, BrokenBy, call_due_at}
use Rattle.link_calls.specs.CallTurns.{CallFront, CallTurns}
use Rattle.link_calls.specs.Calls.{IsCutShort, IsEndedBy, IsMade}
use Rattle.bench_script.specs.declared.command.Command.{Command}
use Rattle.bench_devices.specs.declared.device.Device.{Device}
use Rattle.bench_devices.specs.Device.{device_end, device_linked}
use Rattle.bench_devices.specs.Keeping.{ghosts}
use Rattle.bench_devices.specs.Beside.{InStepAt}
use Rattle.bench_devices.proofs.kinds.PeerHere.{in_step}
use Rattle.bench_devices.proofs.kinds.PeerLinks.{devices_link}
use Rattle.bench_world.specs.declared.entry.Answer.{Answer}
use Rattle.bench_world.specs.declared.entry.Answer.TheVariants as answers
use Rattle.bench_world.specs.declared.entry.Loss.{Loss}
use Rattle.bench_world.specs.declared.entry.Loss.TheVariants as losses
use Rattle.bench_world.specs.World.{FarEnd, stable}
use Rattle.bench_world.specs.Calls.{OfEnd, told_loss, told_step, with_accepted}
use Rattle.bench_world.specs.Links.{OpenLink}
use Rattle.bench_world.specs.Legal.{Joins, CutCame, CutFront, CutStores, LeavesStable, peer_end_of, world_after}
use Rattle.bench_world.specs.Halting.{HaltAdds, PeerHalts}
use Rattle.bench_world.specs.Obeying.{Machines, IsSettled, ObeyedBy, state_at, under}
use Rattle.bench_world.specs.Opened.{IsOpen}
use Rattle.bench_world.specs.Peers.{Peers}
use Rattle.bench_world.proofs.calm.CallCalm.{added_calm, made_calm}
use Rattle.bench_world.proofs.tags.Fronts.{Ends as FarEnds}
use Rattle.bench_world.proofs.open_link.OnLink.{end_is, leaves, linked_in, own, opened, stands, trace_is}
use Rattle.bench_world.proofs.open_link.Restarted.{set_there}
use Rattle.bench_world.proofs.open_link.OnCall.{IsCall, Law, broke, came, end, events, from_state, gone_then, halted, link_then, next, open_then, place, plain, same, short}

module _ (air : Air Device) (ends : FarEnds) (peers : Peers) (l : OpenLink) (settled : IsSettled (under ends peers (Some l) air)) where
  -- what holds of the far end holds of it in the state
  pub of_end : (P : FarEnd → Type 0) → P (end air ends peers l settled) → OfEnd P (peer_end_of (from_state air ends peers l settled) l)
  of_end P p = subst (OfEnd P) (sym (end_is air ends peers l settled)) p

  module _ (c : Command) (call : Call) (is : IsCall air ends peers l settled c call) (joins : Joins) (b : Air Device) (j : InitState) (after : Choosing FarEnd) where
    abbrev from : Step
    from = call_begins l.client call

    abbrev spot : ℕ
    spot = place air ends peers l settled

    abbrev far : FarEnd
    far = end air ends peers l settled

    -- with the numbers that are left to it
    abbrev pub counted : Choosing FarEnd
    counted = record { end = far; numbers = joins.far }

    abbrev AnswerSo : Answer → Type 0
    AnswerSo answer = Law air ends peers l settled c call is b j after answer

    abbrev Old : Machines
    Old = under ends peers (Some l) air

    abbrev pub Open : List OnSap → EndState → Machines
    Open jobs client = open_then air ends peers l settled c call is b j after jobs client

    abbrev pub Gone : Machines
    Gone = gone_then air ends peers l settled c call is b j after

    -- the peer is in step at its place
    in_step_still : (to : Step) → IsMade ghosts device_end joins.own from air l.initiator counted b j after to → InStepAt b spot j
    in_step_still to made =
        let t = made.turns device_linked devices_link spot (stands air ends peers l settled) ends in
        let left = leaves air ends peers l settled (next air ends peers l settled c call is b j after joins _ t) (plain air ends peers l settled c call is b j after joins _ t) b joins.far after
        t.notes t.going in
        in_step (own air ends peers l settled) spot b left.at j j.core.number [] [] made.open_.in_step.1 made.open_.in_step.0

    -- the link is open again
    reopened : (to : Step) (jobs : List OnSap) (client : EndState) → IsMade ghosts device_end joins.own from air l.initiator counted b j after to → Accords client after.end
        → IsOpen b (slice_set ends spot (Some after.end)) peers (link_then air ends peers l settled c call is b j after jobs client)
    reopened to jobs client made accords = record {
      place = spot;
      number = (opened air ends peers l settled).number;
      step = in_step_still to made;
      going = made.open_.going;
      end = after.end;
      above = set_there ends spot far after.end (opened air ends peers l settled).above;
      accords = accords;
    }

    -- the call came to its end
    pub made_obeyed : (jobs : List OnSap) (client : EndState) (answer : Answer) → IsMade ghosts device_end joins.own from air l.initiator counted b j after (Ends jobs client)
        → told_step call (Ends jobs client) ≡ Some answer
        → ((loss : Loss) → answer ≡ answers.LinkEnded loss → ⊥) → AnswerSo answer → Accords client after.end → ObeyedBy joins Old (Open jobs client) c answer
    made_obeyed jobs client answer made told never law accords =
        let t = made.turns device_linked devices_link spot (stands air ends peers l settled) ends in
        came air ends peers l settled c call is b j after joins (Comes (Ends jobs client) j) t made.carried.setting jobs client refl answer told never
        (added_calm air b (made_calm joins.own from (Ends jobs client) air b l.initiator j counted after made) settled.idle.quiet
        (events air ends peers l settled c call is b j after joins (Comes (Ends jobs client) j) t)
        (trace_is air ends peers l settled (next air ends peers l settled c call is b j after joins (Comes (Ends jobs client) j) t)
        (plain air ends peers l settled c call is b j after joins (Comes (Ends jobs client) j) t) b joins.far after t.notes t.going)) law
        (made.carried.arrives, (linked_in b spot j (in_step_still (Ends jobs client) made), made.carried.counted refl)) (reopened (Ends jobs client) jobs client made accords)

    -- its link ended
    pub lost_obeyed : (why : EndCause) (answer : Answer) → IsEndedBy ghosts device_end joins.own from air l.initiator counted b j after why → told_loss why ≡ Some answer → AnswerSo answer
        → ObeyedBy joins Old Gone c answer
    lost_obeyed why answer ended told law =
        let t = ended.turns device_linked devices_link spot (stands air ends peers l settled) ends in
        let es : List Event = events air ends peers l settled c call is b j after joins (BrokenBy why) t in
        let noisy : why ≡ cause.SixBad → 0 < noise es = λ six.
        subst (λ xs. 0 < noise xs) (ap (λ xs. drop (length xs) b.trace) settled.idle.quiet
        ∙ trace_is air ends peers l settled (next air ends peers l settled c call is b j after joins (BrokenBy why) t) (plain air ends peers l settled c call is b j after joins (BrokenBy why) t) b
        joins.far after t.notes t.going)
        (ended.noisy six) in
        broke air ends peers l settled c call is b j after joins (BrokenBy why) t ended.carried.setting why refl answer told (lost_is why told) (λ e. noisy (six_is why told e)) law
        (ended.carried.arrives, tt)
      where
        lost_is : (w : EndCause) → told_loss w ≡ Some answer → ((w ≡ cause.FieldLost) ↔ (answer ≡ answers.LinkEnded losses.FieldLost))
        lost_is cause.FieldLost e = ((λ q. let same : answers.LinkEnded losses.FieldLost ≡ answer = cc in sym same), (λ q. refl))
        lost_is cause.SixBad e = (
          (λ q. absurd cc),
          (λ q. absurd (let same : answers.LinkEnded losses.SixBad ≡ answer = cc in let clash : answers.LinkEnded losses.SixBad ≡ answers.LinkEnded losses.FieldLost = same ∙ q in cc)),
        )
        lost_is cause.Protocol e = absurd cc
        lost_is cause.Memory e = absurd cc

        six_is : (w : EndCause) → told_loss w ≡ Some answer → answer ≡ answers.LinkEnded losses.SixBad → w ≡ cause.SixBad
        six_is cause.FieldLost e q = absurd (let same : answers.LinkEnded losses.FieldLost ≡ answer = cc in
            let clash : answers.LinkEnded losses.FieldLost ≡ answers.LinkEnded losses.SixBad = same ∙ q in cc)
        six_is cause.SixBad e q = refl
        six_is cause.Protocol e q = absurd cc
        six_is cause.Memory e q = absurd cc

    -- memory was wanting
    abbrev pub Stores : Type 0
    Stores = (joins : Joins) (events : List Event)
        → (devices : (stable (world_after (from_state air ends peers l settled) joins c events)).devices ≡ (stable (from_state air ends peers l settled).world).devices)
        → (adds : (more : List Received) → after.end.service.accepted ≡ far.service.accepted ++ more
        → (stable (world_after (from_state air ends peers l settled) joins c events)).ends ≡ with_accepted more l.peer peers.numbers (stable (from_state air ends peers l settled).world).ends)
        → (stays : after.end.service.accepted ≡ far.service.accepted → LeavesStable (from_state air ends peers l settled) joins c events)
        → (came : CutCame (from_state air ends peers l settled) joins l c events) → CutStores (from_state air ends peers l settled) joins c events

    pub short_cut : IsCutShort ghosts device_end joins.own from air l.initiator counted b j after → Stores → (more : List Received) → after.end.service.accepted ≡ far.service.accepted ++ more
        → HaltAdds c far more
        → CutFront joins (from_state air ends peers l settled) c b.trace (state_at Gone) ⊎ PeerHalts joins (from_state air ends peers l settled) c b.trace (state_at Gone)
    short_cut cut stores more adds fits = by_left (cut.front device_linked devices_link spot (stands air ends peers l settled) ends)
      where
        by_left : CallFront ghosts device_end device_linked peer_ends (StopsCounted serving) joins.own from l.initiator air b spot ends counted after
            → CutFront joins (from_state air ends peers l settled) c b.trace (state_at Gone) ⊎ PeerHalts joins (from_state air ends peers l settled) c b.trace (state_at Gone)
        by_left f = elim f.left [
          | inl (field, stays) ↦ inl (
              let T : Air Device → Choosing FarEnd → Type 0 = λ a e. CallTurns ghosts device_end device_linked peer_ends joins.own from l.initiator air a spot ends counted e f.standing in
              let t : T b after = subst (T b) (sym stays) (subst (λ a. T a f.half) (sym field) f.turns) in
              short air ends peers l settled c call is b j after joins f.standing t stores cut.setting cut.arrives)
          | inr h ↦ inr (
              let t = f.turns in
              let N = next air ends peers l settled c call is f.mid j f.half joins f.standing t in
              let P = plain air ends peers l settled c call is f.mid j f.half joins f.standing t in
              halted air ends peers l settled N P c joins f.mid f.half t.notes t.going is.still is.accepts is.asks (is.takes joins)
              (same air ends peers l settled c call is f.mid j f.half joins f.standing t) h.sent h.payload h.listeners b (ap call_due_at t.stands ∙ h.asked) h.passes h.heard h.left
              after.end more cut.setting adds (of_end (λ e. HaltAdds c e more) fits) is.on_link after.numbers cut.arrives)
        ]
