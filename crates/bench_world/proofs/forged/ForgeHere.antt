-- What sending payloads that were written by hand does where no link is open.
use Rattle.std.proofs.Common.{◌≡◌, inl, inr, ℕ, List, [], length, false, true, Some, None, Result, Ok, Err, refl, sym, ◌∙◌, ap, subst}
use Rattle.std.specs.Prelude.{get_or, slice_set, IfOk, IfErr, OnErr}
use Rattle.nfc_base.specs.Choosing.{Choosing}
use Rattle.nfc_base.specs.declared.carrier.EndCause.{EndCause}
use Rattle.nfc_base.specs.declared.carrier.EndCause.TheVariants as causes
use Rattle.nfc_base.specs.declared.event.Event.{Event}
use Rattle.air_core.specs.Turn.{Air, moment}
use Rattle.arrayvec.specs.ArrayVec.{ArrayVec}
use Rattle.nfca_poll.specs.declared.fault.PollFault.{PollFault}
use Rattle.dep_link.specs.Initiator.{InitState}
use Rattle.llcp_link.specs.Counting.{AnswersCounted, RestartsCounted}
use Rattle.snep_core.specs.Server.{serving}
use Rattle.bench_script.specs.declared.command.Command.{Command}
use Rattle.bench_script.specs.declared.command.Command.TheVariants.{Forge}
use Rattle.bench_script.specs.declared.command.DeviceId.TheVariants.{A}
use Rattle.bench_devices.specs.declared.device.Device.{Device}
use Rattle.bench_devices.specs.Device.{is_tag}
use Rattle.bench_devices.specs.Opening.{Opens, OpeningEnds}
use Rattle.bench_devices.specs.Phases.{Selects, SelectsAt, SelectionCut}
use Rattle.bench_world.specs.declared.bench.ObeyFault.{ObeyFault}
use Rattle.bench_world.specs.declared.bench.ObeyFault.TheVariants as faults
use Rattle.bench_world.specs.declared.entry.Answer.{Answer as Told_answer}
use Rattle.bench_world.specs.declared.entry.Answer.TheVariants as answers
use Rattle.bench_world.specs.declared.entry.Loss.TheVariants as losses
use Rattle.bench_world.specs.Answering.{poll_answer}
use Rattle.bench_world.specs.private.ForgedAt.{ForgeStops, GoesBehind, SendsOver, SendsTo, Sent, left_by, told_sent}
use Rattle.bench_world.specs.Forging.{forged_general}
use Rattle.bench_world.specs.Legal.{State, Joins, MayForge}
use Rattle.bench_world.specs.Obeying.{Machines, state_at, under, HasPlaces, IsSettled, ObeyedBy}
use Rattle.bench_world.specs.Opened.{IsServed}
use Rattle.bench_world.specs.World.{FarEnd}
use Rattle.bench_world.proofs.open_link.Unlinking.{upon}
use Rattle.bench_world.proofs.forged.ForgeObeyed.{ended_forge, left_so, lost_forge, missed_forge, room_cut_forge, selection_cut_forge, served_there, short_forge, tag_forge, unopened_cut_forge}
use Rattle.bench_world.proofs.forged.ForgeObeyed.{walked_forge}

module _ (m : Machines) (settled : IsSettled m) (unlinked : m.link ≡ None) (id : List ℕ) (payloads : List (List ℕ)) (counts : List ℕ) (may : MayForge payloads) where
  abbrev c : Command
  c = Forge id payloads

  abbrev J : Joins
  J = record { own = []; far = counts }

  -- no link is open, which may be said of the machines
  none_open : under m.ends m.peers None m.air ≡ m
  none_open = ap (λ l. under m.ends m.peers l m.air) (sym unlinked)

  abbrev there : HasPlaces (under m.ends m.peers None m.air)
  there = record { ends = settled.places.ends; numbers = settled.places.numbers; served = settled.places.served; apart = settled.places.apart }

  in_this : (new : Machines) (answer : Told_answer) → ObeyedBy J (under m.ends m.peers None m.air) new c answer → ObeyedBy J m new c answer
  in_this new answer o = subst (λ x. ObeyedBy J x new c answer) none_open o

  stops_this : (cut : List Event) (t : State) → ForgeStops J (state_at (under m.ends m.peers None m.air)) c cut t → ForgeStops J (state_at m) c cut t
  stops_this cut t h = subst (λ x. ForgeStops J (state_at x) c cut t) none_open h

  with_link_of : (new : Air Device) → under m.ends m.peers None new ≡ upon m new
  with_link_of new = ap (λ l. under m.ends m.peers l new) (sym unlinked)

  pub here_missed : (new : Air Device) (e : PollFault) (answer : Told_answer) → Selects (A id) (Err e) (moment m.air) (moment new) → poll_answer e ≡ Some answer → ObeyedBy J m (upon m new) c answer
  here_missed new e answer s is =
      subst (λ x. ObeyedBy J m x c answer) (with_link_of new)
      (in_this (under m.ends m.peers None new) answer (missed_forge m.ends m.peers m.air id payloads counts settled.idle there may new e answer s is))

  pub here_cut : (new : Air Device) → SelectionCut (A id) (moment m.air) (moment new) → ForgeStops J (state_at m) c new.trace (state_at (upon m new))
  here_cut new part =
      subst (λ x. ForgeStops J (state_at m) c new.trace (state_at x)) (with_link_of new)
      (stops_this new.trace (state_at (under m.ends m.peers None new)) (inl (selection_cut_forge m.ends m.peers m.air id payloads counts settled.idle there may new part)))

  module _ (mid : Air Device) (place : ℕ) (s : SelectsAt (A id) place (moment m.air) (moment mid)) where
    pub here_tag : is_tag s.device ≡ true → ObeyedBy J m (upon m mid) c answers.WrongKind
    here_tag tag =
        subst (λ x. ObeyedBy J m x c answers.WrongKind) (with_link_of mid)
        (in_this (under m.ends m.peers None mid) answers.WrongKind (tag_forge m.ends m.peers m.air id payloads counts settled.idle there may mid place s tag))

    pub here_served : is_tag s.device ≡ false → IsServed (get_or m.peers.numbers place None) (get_or m.ends place None)
    here_served peer = served_there m.ends m.peers m.air id payloads counts settled.idle there may mid place s peer

    module _ (peer : is_tag s.device ≡ false) (result : Result Told_answer ObeyFault) (now : Machines)
        (sends : (n : ℕ) (far : FarEnd) → get_or m.peers.numbers place None ≡ Some n → get_or m.ends place None ≡ Some far → SendsTo (upon m mid) now place counts payloads n far result) where
      abbrev served : IsServed (get_or m.peers.numbers place None) (get_or m.ends place None)
      served = here_served peer

      abbrev n : ℕ
      n = served.peer

      abbrev far : FarEnd
      far = served.end

      abbrev All : Result Told_answer ObeyFault → Type 0
      All r = IfOk r (λ a. ObeyedBy J m now c a) × OnErr r (ForgeStops J (state_at m) c now.air.trace (state_at now)) × IfErr r (λ e. e ≡ faults.Memory)

      -- it was obeyed, or cut off, and these are the machines then
      obeyed_now : (x : Machines) (answer : Told_answer) → x ≡ now → ObeyedBy J (under m.ends m.peers None m.air) x c answer → All (Ok answer)
      obeyed_now x answer is o = (subst (λ y. ObeyedBy J m y c answer) is (in_this x answer o), tt, tt)

      stops_now : (x : Machines) → x ≡ now → ForgeStops J (state_at (under m.ends m.peers None m.air)) c x.air.trace (state_at x) → All (Err faults.Memory)
      stops_now x is h = (tt, subst (λ y. ForgeStops J (state_at m) c y.air.trace (state_at y)) is (stops_this x.air.trace (state_at x) h), refl)

      -- room for a link was wanting
      room_now : now ≡ upon m mid → All (Err faults.Memory)
      room_now is =
          stops_now (under m.ends m.peers None mid) (with_link_of mid ∙ sym is) (inl (room_cut_forge m.ends m.peers m.air id payloads counts settled.idle there may mid place s))

      module _ (x : SendsOver (upon m mid) now place counts payloads n far result) where
        abbrev asked : Opens (RestartsCounted serving) (AnswersCounted serving) mid (record { end = far; numbers = counts }) x.sends.mid x.sends.half forged_general place s.device x.sends.came
        asked = x.sends.asks place s.device s.stands peer

        left_is : (sent : Sent) → x.sent ≡ sent → left_by sent (upon m mid) x.air place x.after.end n (length far.service.accepted) ≡ now
        left_is sent is = ap (λ z. left_by z (upon m mid) x.air place x.after.end n (length far.service.accepted)) (sym is) ∙ sym x.left

        -- a link was opened
        module _ (p : InitState × ArrayVec ℕ) (came : x.sends.came ≡ Ok p) where
          abbrev opened_left : Machines
          opened_left =
              left_so m.ends m.peers m.air id payloads counts settled.idle there may mid place s peer far served.stands x.sends.mid x.sends.half x.sends.came asked p came n served.numbered x.air
              x.after.end

          opened_is : (r : Result (List (List ℕ)) EndCause) → x.sent ≡ Ok r → opened_left ≡ now
          opened_is r is = ap (λ l. under opened_left.ends opened_left.peers l x.air) (sym unlinked) ∙ left_is (Ok r) is

          by_end : (r : Result (List (List ℕ)) EndCause) → x.sent ≡ Ok r → GoesBehind payloads x.sends.mid x.sends.half (Ok p) x.air x.after (Ok r) → All (told_sent (Ok r))
          by_end (Ok replies) is (j, walked) =
              obeyed_now opened_left (answers.Replies replies) (opened_is (Ok replies) is)
              (walked_forge m.ends m.peers m.air id payloads counts settled.idle there may mid place s peer far served.stands x.sends.mid x.sends.half x.sends.came asked p came n served.numbered x.air
              j x.after replies walked)
          by_end (Err causes.FieldLost) is (j, ended) =
              obeyed_now opened_left (answers.LinkEnded losses.FieldLost) (opened_is (Err causes.FieldLost) is)
              (lost_forge m.ends m.peers m.air id payloads counts settled.idle there may mid place s peer far served.stands x.sends.mid x.sends.half x.sends.came asked p came n served.numbered x.air j
              x.after causes.FieldLost
              (answers.LinkEnded losses.FieldLost) ended refl)
          by_end (Err causes.SixBad) is (j, ended) =
              obeyed_now opened_left (answers.LinkEnded losses.SixBad) (opened_is (Err causes.SixBad) is)
              (lost_forge m.ends m.peers m.air id payloads counts settled.idle there may mid place s peer far served.stands x.sends.mid x.sends.half x.sends.came asked p came n served.numbered x.air j
              x.after causes.SixBad
              (answers.LinkEnded losses.SixBad) ended refl)
          by_end (Err causes.Protocol) is (j, never) = absurd never
          by_end (Err causes.Memory) is (j, short) =
              stops_now opened_left (opened_is (Err causes.Memory) is)
              (short_forge m.ends m.peers m.air id payloads counts settled.idle there may mid place s peer far served.stands x.sends.mid x.sends.half x.sends.came asked p came n served.numbered x.air
              j x.after short)

        -- or none was
        abbrev unopened : Air Device → FarEnd → Machines
        unopened air after = under (slice_set m.ends place (Some after)) m.peers None air

        unopened_is : (why : EndCause) → x.sent ≡ Err why → x.air ≡ x.sends.mid → x.after ≡ x.sends.half → unopened x.sends.mid x.sends.half.end ≡ now
        unopened_is why is same after =
            ap (λ a. unopened a x.sends.half.end) (sym same) ∙ ap (λ (e : Choosing FarEnd). unopened x.air e.end) (sym after)
            ∙ ap (λ l. under (slice_set m.ends place (Some x.after.end)) m.peers l x.air) (sym unlinked) ∙ left_is (Err why) is

        by_cause : (why : EndCause) → x.sends.came ≡ Err why → x.sent ≡ Err why → x.air ≡ x.sends.mid → x.after ≡ x.sends.half → All (told_sent (Err why))
        by_cause causes.FieldLost came is same after =
            obeyed_now (unopened x.sends.mid x.sends.half.end) (answers.LinkEnded losses.FieldLost) (unopened_is causes.FieldLost is same after)
            (ended_forge m.ends m.peers m.air id payloads counts settled.idle there may mid place s peer far served.stands x.sends.mid x.sends.half x.sends.came asked causes.FieldLost
            (answers.LinkEnded losses.FieldLost) came refl)
        by_cause causes.SixBad came is same after =
            obeyed_now (unopened x.sends.mid x.sends.half.end) (answers.LinkEnded losses.SixBad) (unopened_is causes.SixBad is same after)
            (ended_forge m.ends m.peers m.air id payloads counts settled.idle there may mid place s peer far served.stands x.sends.mid x.sends.half x.sends.came asked causes.SixBad
            (answers.LinkEnded losses.SixBad) came refl)
        by_cause causes.Protocol came is same after = absurd (subst (OpeningEnds x.sends.mid place s.device) came asked.ends)
        by_cause causes.Memory came is same after =
            stops_now (unopened x.sends.mid x.sends.half.end) (unopened_is causes.Memory is same after)
            (inl (unopened_cut_forge m.ends m.peers m.air id payloads counts settled.idle there may mid place s peer far served.stands x.sends.mid x.sends.half x.sends.came asked came))

        by_sent : (came : Result (InitState × ArrayVec ℕ) EndCause) (sent : Sent) → x.sends.came ≡ came → x.sent ≡ sent → GoesBehind payloads x.sends.mid x.sends.half came x.air x.after sent
            → All (told_sent sent)
        by_sent (Ok p) (Ok r) came is b = by_end p came r is b
        by_sent (Ok p) (Err why) came is b = absurd b
        by_sent (Err why) sent came is (sent_is, same, after) = subst (λ z. All (told_sent z)) (sym sent_is) (by_cause why came (is ∙ sent_is) same after)

      by_left : SendsTo (upon m mid) now place counts payloads n far result → All result
      by_left (inl (failed, same)) = subst All (sym failed) (room_now same)
      by_left (inr x) = subst All (sym x.told) (by_sent x x.sends.came x.sent refl refl x.sends.behind)

      pub here_sent : All result
      here_sent = by_left (sends n far served.numbered served.stands)
