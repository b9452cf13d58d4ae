-- The open link is closed.
use Rattle.std.proofs.Common.{◌≡◌, ◌↔◌, ◌⊎◌, ℕ, ◌<◌, List, [], length, Option, Some, None, refl, sym, ◌∙◌, ap, subst, inl, inr, arith, append-nil}
use Rattle.std.specs.Prelude.{get_or, slice_set, drop}
use Rattle.nfc_base.specs.Choosing.{Choosing}
use Rattle.nfc_base.specs.declared.carrier.EndCause.{EndCause}
use Rattle.nfc_base.specs.declared.carrier.EndCause.TheVariants as cause
use Rattle.nfc_base.specs.declared.event.Event.{Event}
use Rattle.nfc_base.specs.LinkTurns.{bad_receptions}
use Rattle.nfc_base.specs.Trace.{noise, breaks}
use Rattle.air_core.specs.Turn.{Air}
use Rattle.air_core.specs.Conversation.{Note, Next, Over}
use Rattle.peer_air.specs.PeerFars.{peer_ends}
use Rattle.nfc_base.specs.Far.{Untouched}
use Rattle.nfc_base.specs.declared.event.Heard.{Heard}
use Rattle.dep_link.specs.Initiator.{InitState}
use Rattle.dep_link.specs.Releasing.{rls_frame}
use Rattle.snep_core.specs.Accord.{IsClosed}
use Rattle.llcp_link.specs.Counting.{StopsCounted}
use Rattle.snep_core.specs.Server.{Received, ServerState, serving}
use Rattle.snep_core.specs.Talk.{EndState, Step, closes}
use Rattle.link_calls.specs.Arriving.{Arrives, ArrivesCut}
use Rattle.link_calls.specs.CallDue.{BrokenBy, call_due}
use Rattle.link_calls.specs.ClosingDue.{ClosingStanding, Calls, Released, closing_due, closing_due_at, closing_stand}
use Rattle.link_calls.specs.Closing.{ClosingFront, ClosingTurns, IsClosingShort, IsLost, IsReleased, SendsRls}
use Rattle.link_calls.specs.Staying.{setting_of}
use Rattle.bench_script.specs.declared.command.Command.TheVariants.{Unlink}
use Rattle.bench_devices.specs.declared.device.Device.{Device}
use Rattle.bench_devices.specs.Device.{devices, device_end, device_linked}
use Rattle.bench_devices.specs.Keeping.{ghosts}
use Rattle.bench_devices.specs.Beside.{InStepAt}
use Rattle.bench_devices.proofs.kinds.PeerHere.{in_step}
use Rattle.bench_devices.proofs.kinds.PeerLinks.{devices_link}
use Rattle.bench_world.specs.declared.entry.Answer.{Answer}
use Rattle.bench_world.specs.declared.entry.Answer.TheVariants as answers
use Rattle.bench_world.specs.declared.entry.Loss.TheVariants as losses
use Rattle.bench_world.specs.World.{FarEnd, WholeWorld}
use Rattle.bench_world.specs.Calls.{stands_closing, told_closing, told_loss}
use Rattle.bench_world.specs.Links.{OpenLink, accepted_by, ended, with_last_ended}
use Rattle.bench_world.specs.Legal.{Joins, CutFront, due, peers_after, world_after}
use Rattle.bench_world.specs.Halting.{HaltAdds, Halts}
use Rattle.bench_world.specs.Obeying.{Machines, IsCutOffBy, IsSettled, ObeyedBy, state_at, under}
use Rattle.bench_world.specs.Peers.{Peers}
use Rattle.bench_world.specs.World.{bench_air}
use Rattle.bench_world.proofs.link_law.Arrived.{came_at, cut_at}
use Rattle.bench_world.proofs.open_link.CallEnds.{of_end}
use Rattle.bench_world.proofs.open_link.CallNotes.{IsPlainNext, calls_plain, closing_broken, closing_lost, closings_plain}
use Rattle.bench_world.proofs.calm.CallCalm.{IsCalm, added_calm, calm_then, made_calm}
use Rattle.bench_world.proofs.tags.Fronts.{Ends as FarEnds}
use Rattle.bench_world.proofs.open_link.OnLink.{accepted_now, going, leaves, own, stands, trace_is}
use Rattle.bench_world.proofs.calm.Quiet.{no_breaks}
use Rattle.bench_world.proofs.open_link.ReleaseCalm.{release_calm}
use Rattle.bench_world.proofs.open_link.OnCall.{cut_off, devices_then, end, ends_then, from_state, given_by, halted, obeyed, place, world_then}

module _ (air : Air Device) (ends : FarEnds) (peers : Peers) (l : OpenLink) (settled : IsSettled (under ends peers (Some l) air)) (joins : Joins) (b : Air Device) (after : Choosing FarEnd) where
  abbrev pub from : Step
  from = closes l.client

  abbrev pub spot : ℕ
  spot = place air ends peers l settled

  abbrev pub far : FarEnd
  far = end air ends peers l settled

  -- with the numbers that are left to it
  abbrev counted : Choosing FarEnd
  counted = record { end = far; numbers = joins.far }

  abbrev pub gone : Machines
  gone = under (slice_set ends spot (Some after.end)) (with_last_ended (accepted_by (get_or (slice_set ends spot (Some after.end)) spot None)) peers) None b

  -- turns of the closing up to where it stands so
  module _ (standing : ClosingStanding) (t : ClosingTurns ghosts device_linked peer_ends joins.own from l.initiator air b spot ends counted after standing) where
    abbrev next : List Note → Next
    next = closing_due joins.own from l.initiator

    abbrev plain : (ns : List Note) → IsPlainNext (next ns)
    plain = closings_plain joins.own from l.initiator

    abbrev same : (ns : List Note) → due (from_state air ends peers l settled) (given_by joins) Unlink ns ≡ next ns
    same = λ ns. refl

    abbrev events : List Event
    events = (going air ends peers l settled next plain b joins.far after t.notes t.going).events

    stand_is : stands_closing l joins.own events ≡ standing
    stand_is = ap (closing_stand joins.own from l.initiator) (going air ends peers l settled next plain b joins.far after t.notes t.going).known ∙ t.stands

    gone_peers : (told : Option Answer) → peers_after (from_state air ends peers l settled) joins Unlink events told
        ≡ with_last_ended (accepted_by (get_or (slice_set ends spot (Some after.end)) spot None)) peers
    gone_peers told =
        ap (λ (w : WholeWorld). ended (Some l) w.fars peers) (sym (world_then air ends peers l settled next plain Unlink joins b after t.notes t.going refl tt refl refl same))
        ∙ ap (λ n. with_last_ended n peers) (accepted_now air ends peers l settled next plain b joins.far after t.notes t.going)

    pub closed : setting_of after.end ≡ setting_of far → after.end.service.accepted ≡ far.service.accepted → Arrives l.initiator.core.number (drop (length air.trace) b.trace) counted after
        → (answer : Answer)
        → told_closing standing ≡ Some answer → closing_due_at standing ≡ Over
        → ((standing ≡ Calls (BrokenBy cause.FieldLost)) ↔ (answer ≡ answers.LinkEnded losses.FieldLost)) → (answer ≡ answers.LinkEnded losses.SixBad → 0 < noise events)
        → (noise events ≡ 0 → bad_receptions events ≡ 0) → ObeyedBy joins (under ends peers (Some l) air) gone Unlink answer
    closed set accepted arrives answer told over lost noisy calm =
        obeyed air ends peers l settled next plain Unlink joins b after t.notes t.going refl tt refl refl same answer None
        (with_last_ended (accepted_by (get_or (slice_set ends spot (Some after.end)) spot None)) peers)
        (ap closing_due_at t.stands ∙ over) refl (gone_peers (Some answer))
        (record {
          told = record {
            tells = ap told_closing stand_is ∙ told;
            lost = (
              λ e. closing_broken bench_air joins.own from l.initiator _ _ t.notes (going air ends peers l settled next plain b joins.far after t.notes t.going) (t.stands ∙ lost.1 e),
              λ some. lost.0 (sym t.stands ∙ closing_lost bench_air joins.own from l.initiator _ _ t.notes (going air ends peers l settled next plain b joins.far after t.notes t.going) some),
            );
            noisy = noisy;
            calm = calm;
          };
          came = came_at air ends peers l settled next plain b joins.far after t.notes t.going (world_after (from_state air ends peers l settled) joins Unlink events)
              (world_then air ends peers l settled next plain Unlink joins b after t.notes t.going refl tt refl refl same) None arrives tt;
          tells = of_end air ends peers l settled (λ e. Unit {0}) tt;
          more = [];
          adds = of_end air ends peers l settled (λ e. ◌≡◌ {A = List Received} [] []) refl;
          devices = devices_then air ends peers l settled next plain Unlink joins b after t.notes t.going refl tt refl refl same;
          ends = ends_then air ends peers l settled next plain Unlink joins b after t.notes t.going refl tt refl refl same [] set (accepted ∙ sym (append-nil far.service.accepted));
        }) set refl refl tt

    pub closing_cut : setting_of after.end ≡ setting_of far → after.end.service.accepted ≡ far.service.accepted → ArrivesCut l.initiator.core.number (drop (length air.trace) b.trace) counted after
        → CutFront joins (from_state air ends peers l settled) Unlink b.trace (state_at gone)
    closing_cut set accepted arrives =
        cut_off air ends peers l settled next plain Unlink joins b after t.notes t.going refl tt refl refl same None
        (with_last_ended (accepted_by (get_or (slice_set ends spot (Some after.end)) spot None)) peers) refl (gone_peers None)
        (record {
          came = cut_at air ends peers l settled next plain b joins.far after t.notes t.going (world_after (from_state air ends peers l settled) joins Unlink events)
              (world_then air ends peers l settled next plain Unlink joins b after t.notes t.going refl tt refl refl same) arrives;
          more = [];
          adds = of_end air ends peers l settled (λ e. ◌≡◌ {A = List Received} [] []) refl;
          devices = devices_then air ends peers l settled next plain Unlink joins b after t.notes t.going refl tt refl refl same;
          ends = ends_then air ends peers l settled next plain Unlink joins b after t.notes t.going refl tt refl refl same [] set (accepted ∙ sym (append-nil far.service.accepted));
        })

  -- no device hands anything over at RLS_REQ
  module _ (quiet : (d : Device) → devices.handed d rls_frame ≡ Untouched) (j : InitState) (client : EndState) where
    sent_set : {heard : Option Heard} → SendsRls ghosts device_end joins.own from air l.initiator counted b after heard → setting_of after.end ≡ setting_of far
    sent_set s = ap (λ (e : Choosing FarEnd). setting_of e.end) (s.same quiet) ∙ s.carried.setting

    -- the peer is in step still as RLS_REQ is sent
    in_step_then : {heard : Option Heard} → (s : SendsRls ghosts device_end joins.own from air l.initiator counted b after heard) → InStepAt s.mid spot s.rest
    in_step_then s =
        let t = s.made.turns device_linked devices_link spot (stands air ends peers l settled) ends in
        let left = leaves air ends peers l settled (call_due joins.own from l.initiator) (calls_plain joins.own from l.initiator) s.mid joins.far s.half t.notes t.going in
        in_step (own air ends peers l settled) spot s.mid left.at s.rest s.rest.core.number [] [] s.made.open_.in_step.1 s.made.open_.in_step.0

    sent_calm : {heard : Option Heard} → SendsRls ghosts device_end joins.own from air l.initiator counted b after heard → IsCalm air b
    sent_calm {heard} s =
        calm_then air s.mid b (made_calm joins.own from s.to air s.mid l.initiator s.rest counted s.half s.made) (release_calm quiet s.mid b spot s.rest (in_step_then s) s.half after heard s.turn)

    pub released : (to : Step) → IsReleased ghosts device_end joins.own from air l.initiator counted b after to → IsClosed far client after.end
        → ObeyedBy joins (under ends peers (Some l) air) gone Unlink answers.Unlinked
    released to r c =
        let t = r.turns device_linked devices_link spot (stands air ends peers l settled) ends in
        closed (Released to) t (sent_set r.sent) (ap (λ (s : ServerState). s.accepted) c.aside.service) (r.sent.arrives quiet) answers.Unlinked refl refl
        ((λ e. absurd cc), (λ e. absurd cc)) (λ e. absurd cc)
        (added_calm air b (sent_calm r.sent) settled.idle.quiet (events (Released to) t)
        (trace_is air ends peers l settled (next (Released to) t) (plain (Released to) t) b joins.far after t.notes t.going))

    lost_set : (w : EndCause) → IsLost ghosts device_end joins.own from air l.initiator counted b after j w → setting_of after.end ≡ setting_of far
    lost_set w x = elim x.how [
      | inl carried ↦ carried.setting
      | inr (is, sent) ↦ sent_set sent
    ]

    lost_arrives : (w : EndCause) → IsLost ghosts device_end joins.own from air l.initiator counted b after j w → Arrives l.initiator.core.number (drop (length air.trace) b.trace) counted after
    lost_arrives w x = elim x.how [
      | inl carried ↦ carried.arrives
      | inr (is, sent) ↦ sent.arrives quiet
    ]

    -- a link that ended so had noise
    lost_noisy : (w : EndCause) (t : ClosingTurns ghosts device_linked peer_ends joins.own from l.initiator air b spot ends counted after (Calls (BrokenBy w))) (answer : Answer)
        → told_loss w ≡ Some answer
        → (w ≡ cause.SixBad → 0 < noise (events (Calls (BrokenBy w)) t)) → noise (events (Calls (BrokenBy w)) t) ≡ 0 → ⊥
    lost_noisy cause.FieldLost t answer told noisy none =
        let s = Calls (BrokenBy cause.FieldLost) in
        let some : 0 < breaks (events s t) = closing_broken bench_air joins.own from l.initiator _ _ t.notes (going air ends peers l settled (next s t) (plain s t) b joins.far after t.notes t.going)
        t.stands in
        let lit : breaks (events s t) ≡ 0 = no_breaks (events s t) none in
        omega (arith, some, lit)
    lost_noisy cause.SixBad t answer told noisy none = let some = noisy refl in omega (arith, some, none)
    lost_noisy cause.Protocol t answer told noisy none = cc
    lost_noisy cause.Memory t answer told noisy none = cc

    pub lost : (w : EndCause) (answer : Answer) → IsLost ghosts device_end joins.own from air l.initiator counted b after j w → told_loss w ≡ Some answer
        → after.end.service.accepted ≡ far.service.accepted
        → ObeyedBy joins (under ends peers (Some l) air) gone Unlink answer
    lost w answer x told accepted =
        let t = x.turns device_linked devices_link spot (stands air ends peers l settled) ends in
        let es : List Event = events (Calls (BrokenBy w)) t in
        let noisy : w ≡ cause.SixBad → 0 < noise es = λ six.
        subst (λ xs. 0 < noise xs) (ap (λ xs. drop (length xs) b.trace) settled.idle.quiet
        ∙ trace_is air ends peers l settled (next (Calls (BrokenBy w)) t) (plain (Calls (BrokenBy w)) t) b joins.far after t.notes t.going) (x.noisy six) in
        closed (Calls (BrokenBy w)) t (lost_set w x) accepted (lost_arrives w x) answer told refl (lost_is w told) (λ e. noisy (six_is w told e))
        (λ none. absurd (lost_noisy w t answer told noisy none))
      where
        lost_is : (w : EndCause) → told_loss w ≡ Some answer → ((Calls (BrokenBy w) ≡ Calls (BrokenBy cause.FieldLost)) ↔ (answer ≡ answers.LinkEnded losses.FieldLost))
        lost_is cause.FieldLost e = ((λ q. let same : answers.LinkEnded losses.FieldLost ≡ answer = cc in sym same), (λ q. refl))
        lost_is cause.SixBad e = (
          (λ q. absurd cc),
          (λ q. absurd (let same : answers.LinkEnded losses.SixBad ≡ answer = cc in let clash : answers.LinkEnded losses.SixBad ≡ answers.LinkEnded losses.FieldLost = same ∙ q in cc)),
        )
        lost_is cause.Protocol e = absurd cc
        lost_is cause.Memory e = absurd cc

        six_is : (w : EndCause) → told_loss w ≡ Some answer → answer ≡ answers.LinkEnded losses.SixBad → w ≡ cause.SixBad
        six_is cause.FieldLost e q = absurd (let same : answers.LinkEnded losses.FieldLost ≡ answer = cc in
            let clash : answers.LinkEnded losses.FieldLost ≡ answers.LinkEnded losses.SixBad = same ∙ q in cc)
        six_is cause.SixBad e q = refl
        six_is cause.Protocol e q = absurd cc
        six_is cause.Memory e q = absurd cc

    pub short : IsClosingShort ghosts device_end joins.own from air l.initiator counted b after → after.end.service.accepted ≡ far.service.accepted
        → IsCutOffBy joins (under ends peers (Some l) air) gone Unlink
    short s accepted = inr (by_left (s.front device_linked devices_link spot (stands air ends peers l settled) ends))
      where
        by_left : ClosingFront ghosts device_linked peer_ends device_end (StopsCounted serving) joins.own from l.initiator air b spot ends counted after
            → CutFront joins (from_state air ends peers l settled) Unlink b.trace (state_at gone) ⊎ Halts joins (from_state air ends peers l settled) Unlink b.trace (state_at gone)
        by_left f = elim f.left [
          | inl (field, stays) ↦ inl (
              let T : Air Device → Choosing FarEnd → Type 0 = λ a e. ClosingTurns ghosts device_linked peer_ends joins.own from l.initiator air a spot ends counted e f.standing in
              let t : T b after = subst (T b) (sym stays) (subst (λ a. T a f.half) (sym field) f.turns) in
              closing_cut f.standing t (s.setting quiet) accepted (s.arrives quiet))
          | inr (inl h) ↦ inr (inl (
              let t = f.turns in
              halted air ends peers l settled (closing_due joins.own from l.initiator) (closings_plain joins.own from l.initiator) Unlink joins f.mid f.half t.notes t.going refl tt refl refl
              (λ ns. refl)
              h.sent h.payload h.listeners b (ap closing_due_at t.stands ∙ h.asked) h.passes h.heard h.left
              after.end [] (s.setting quiet) (accepted ∙ sym (append-nil far.service.accepted)) (of_end air ends peers l settled (λ e. HaltAdds Unlink e []) refl) refl after.numbers
              (s.arrives quiet)))
          | inr (inr h) ↦ absurd (h.hands quiet)
        ]
