-- What sending frames of a script's own does where no link is open.
use Rattle.std.proofs.Common.{◌≡◌, inl, inr, ℕ, suc, ◌<◌, List, [], ◌∷◌, length, Bool, false, true, if◌then◌else◌, Option, Some, None, Result, Ok, Err, refl, sym, ◌∙◌, ap, subst, arith}
use Rattle.std.specs.Prelude.{get_or, option_map, slice_set, IfOk, IfErr, OnErr}
use Rattle.nfc_base.specs.Choosing.{Choosing}
use Rattle.nfc_base.specs.Signal.{Signal}
use Rattle.nfc_base.specs.declared.carrier.EndCause.{EndCause}
use Rattle.nfc_base.specs.declared.carrier.EndCause.TheVariants as causes
use Rattle.nfc_base.specs.declared.event.Event.{Event}
use Rattle.nfc_base.specs.declared.far.Mute.{Mute}
use Rattle.air_core.specs.Turn.{Air, moment}
use Rattle.air_core.specs.Speaking.{LeavesOff}
use Rattle.air_core.proofs.Speaking.{rests_there}
use Rattle.arrayvec.specs.ArrayVec.{ArrayVec}
use Rattle.nfca_poll.specs.declared.fault.PollFault.{PollFault}
use Rattle.dep_link.specs.Initiator.{InitState}
use Rattle.llcp_link.specs.Counting.{AnswersCounted, RestartsCounted}
use Rattle.snep_core.specs.Server.{serving}
use Rattle.bench_script.specs.declared.command.Command.{Command}
use Rattle.bench_script.specs.declared.command.Command.TheVariants.{Raw}
use Rattle.bench_script.specs.declared.command.DeviceId.{DeviceId}
use Rattle.bench_devices.specs.declared.device.Device.{Device}
use Rattle.bench_devices.specs.AnyFrame.{peer_place}
use Rattle.bench_devices.specs.Device.{devices, is_tag}
use Rattle.bench_devices.specs.Opening.{Opens, OpeningEnds}
use Rattle.bench_devices.specs.Phases.{Selects, SelectsAt, SelectionCut}
use Rattle.bench_world.specs.declared.bench.ObeyFault.{ObeyFault}
use Rattle.bench_world.specs.declared.bench.ObeyFault.TheVariants as faults
use Rattle.bench_world.specs.declared.entry.Answer.{Answer as Told_answer}
use Rattle.bench_world.specs.declared.entry.Answer.TheVariants as answers
use Rattle.bench_world.specs.declared.entry.Loss.TheVariants as losses
use Rattle.bench_world.specs.Answering.{poll_answer}
use Rattle.bench_world.specs.private.ForgedAt.{left_by}
use Rattle.bench_world.specs.Forging.{forged_general}
use Rattle.bench_world.specs.declared.inbox.LinkRange.{LinkRange}
use Rattle.bench_world.specs.Legal.{State, Joins, MayRaw}
use Rattle.bench_world.specs.Links.{with_link}
use Rattle.bench_world.specs.Obeying.{Machines, state_at, under, HasPlaces, IsSettled, ObeyedBy}
use Rattle.bench_world.specs.Opened.{IsServed}
use Rattle.bench_world.specs.Peers.{new_end}
use Rattle.bench_world.specs.private.RawAt.{HeardEach, RawAlone, RawBehind, RawBeside, RawSendsOver, RawSendsTo, RawStops, SendsCounted, SendsMuted, SentRaw, frames_due, told_each, told_raw}
use Rattle.bench_world.specs.World.{FarEnd}
use Rattle.bench_world.proofs.by_hand.RawFrames.{mute_restarts, mute_steps, speaks_any}
use Rattle.bench_world.proofs.by_hand.RawParts.{missed_raw, none_shows, peer_shows, selection_cut_raw}
use Rattle.bench_world.proofs.by_hand.RawSelected.{ended_raw, lit_mid, peer_outcome, peer_stands, place_served, room_cut_raw, same_place, tag_outcome, unopened_cut_raw}
use Rattle.bench_world.proofs.open_link.Unlinking.{upon}

-- Frames over a mute far end are frames over whatever end, where no peer is placed.
never_stops : (a b : Mute) (p : List ℕ) → ⊥ → ⊥
never_stops a b p never = never

mute_rests : (frames : List Signal) (ns : List _) (mid new : Air Device) (half after : Mute)
    → LeavesOff devices mute_restarts mute_steps (frames_due frames) (λ old payload new. ⊥) (λ far. false) ns mid half new after → new ≡ mid
mute_rests frames ns mid new half after (inl same) = same.0
mute_rests frames ns mid new half after (inr (f, due, h)) = absurd (rests_there devices mute_restarts mute_steps (λ old payload new. ⊥) (λ far. false) never_stops mid f half new after h)

counted_of : (a : Choosing FarEnd) (old new : Air Device) (far after : Mute) (frames : List Signal) (came : HeardEach) → peer_place old.listeners ≡ None → SendsMuted old far frames new after came
    → SendsCounted old a frames new a came
counted_of a old new far after frames (Ok heard) none x = record {
  notes = x.notes;
  mid = x.mid;
  half = a;
  speaks = speaks_any a (frames_due frames) x.notes old far x.mid x.half none x.speaks;
  ends = (x.ends.0, refl, x.ends.2);
}
counted_of a old new far after frames (Err causes.FieldLost) none x = record {
  notes = x.notes;
  mid = x.mid;
  half = a;
  speaks = speaks_any a (frames_due frames) x.notes old far x.mid x.half none x.speaks;
  ends = (x.ends.0, refl, x.ends.2);
}
counted_of a old new far after frames (Err causes.Memory) none x = record {
  notes = x.notes;
  mid = x.mid;
  half = a;
  speaks = speaks_any a (frames_due frames) x.notes old far x.mid x.half none x.speaks;
  ends = (x.ends.0, inl (mute_rests frames x.notes x.mid new x.half after x.ends.1, refl));
}
counted_of a old new far after frames (Err causes.SixBad) none x = absurd x.ends
counted_of a old new far after frames (Err causes.Protocol) none x = absurd x.ends

-- where the first peer stands
place_below : (ds : List Device) (n : ℕ) → peer_place ds ≡ Some n → n < length ds
place_below [] n at = absurd cc
place_below (d ∷ ds) n at = by_tag (is_tag d) refl (λ k there. place_below ds k there)
  where
    at_by : (v : Bool) → is_tag d ≡ v → (if v then option_map suc (peer_place ds) else Some 0) ≡ Some n
    at_by v t = sym (ap (λ b. if b then option_map suc (peer_place ds) else Some 0) t) ∙ at

    behind : ((k : ℕ) → peer_place ds ≡ Some k → k < length ds) → (o : Option ℕ) → option_map suc o ≡ Some n → peer_place ds ≡ o → n < suc (length ds)
    behind later None e is = absurd cc
    behind later (Some k) e is = let same : suc k ≡ n = cc in let less : k < length ds = later k is in omega (arith, same, less)

    by_tag : (v : Bool) → is_tag d ≡ v → ((k : ℕ) → peer_place ds ≡ Some k → k < length ds) → n < suc (length ds)
    by_tag true t later = behind later (peer_place ds) (at_by true t) refl
    by_tag false t later = let same : 0 ≡ n = (let e : Some 0 ≡ Some n = at_by false t in cc) in omega (arith, same)

module _ (m : Machines) (settled : IsSettled m) (unlinked : m.link ≡ None) (id : DeviceId) (frames : List Signal) (counts : List ℕ) (may : MayRaw (state_at m) id frames) where
  abbrev c : Command
  c = Raw id frames

  abbrev J : Joins
  J = record { own = []; far = counts }

  abbrev may_here : MayRaw (state_at (under m.ends m.peers None m.air)) id frames
  may_here = record { some = may.some; few = may.few; each = may.each; one = may.one }

  -- no link is open, which may be said of the machines
  none_open : under m.ends m.peers None m.air ≡ m
  none_open = ap (λ l. under m.ends m.peers l m.air) (sym unlinked)

  abbrev there : HasPlaces (under m.ends m.peers None m.air)
  there = record { ends = settled.places.ends; numbers = settled.places.numbers; served = settled.places.served; apart = settled.places.apart }

  in_this : (new : Machines) (answer : Told_answer) → ObeyedBy J (under m.ends m.peers None m.air) new c answer → ObeyedBy J m new c answer
  in_this new answer o = subst (λ x. ObeyedBy J x new c answer) none_open o

  stops_this : (cut : List Event) (t : State) → RawStops J (state_at (under m.ends m.peers None m.air)) c cut t → RawStops J (state_at m) c cut t
  stops_this cut t h = subst (λ x. RawStops J (state_at x) c cut t) none_open h

  with_link_of : (new : Air Device) → under m.ends m.peers None new ≡ upon m new
  with_link_of new = ap (λ l. under m.ends m.peers l new) (sym unlinked)

  pub here_missed : (new : Air Device) (e : PollFault) (answer : Told_answer) → Selects id (Err e) (moment m.air) (moment new) → poll_answer e ≡ Some answer → ObeyedBy J m (upon m new) c answer
  here_missed new e answer s is =
      subst (λ x. ObeyedBy J m x c answer) (with_link_of new)
      (in_this (under m.ends m.peers None new) answer (missed_raw m.ends m.peers m.air id frames counts settled.idle there may_here new e answer s is))

  pub here_cut : (new : Air Device) → SelectionCut id (moment m.air) (moment new) → RawStops J (state_at m) c new.trace (state_at (upon m new))
  here_cut new part =
      subst (λ x. RawStops J (state_at m) c new.trace (state_at x)) (with_link_of new)
      (stops_this new.trace (state_at (under m.ends m.peers None new)) (inl (selection_cut_raw m.ends m.peers m.air id frames counts settled.idle there may_here new part)))

  -- what was obeyed, or cut off
  abbrev pub All : Machines → Result Told_answer ObeyFault → Type 0
  All now r = IfOk r (λ a. ObeyedBy J m now c a) × OnErr r (RawStops J (state_at m) c now.air.trace (state_at now)) × IfErr r (λ e. e ≡ faults.Memory)

  abbrev Here : Machines → Result Told_answer ObeyFault → Type 0
  Here now r =
      IfOk r (λ a. ObeyedBy J (under m.ends m.peers None m.air) now c a)
      × OnErr r (RawStops J (state_at (under m.ends m.peers None m.air)) c now.air.trace (state_at now)) × IfErr r (λ e. e ≡ faults.Memory)

  all_of : (x now : Machines) (r : Result Told_answer ObeyFault) → x ≡ now → Here x r → All now r
  all_of x now (Ok a) is h = (subst (λ y. ObeyedBy J m y c a) is (in_this x a h.0), tt, tt)
  all_of x now (Err e) is h = (tt, subst (λ y. RawStops J (state_at m) c y.air.trace (state_at y)) is (stops_this x.air.trace (state_at x) h.1), h.2)

  module _ (mid : Air Device) (place : ℕ) (s : SelectsAt id place (moment m.air) (moment mid)) where
    pub here_lit : mid.lit ≡ true
    here_lit = lit_mid m.ends m.peers m.air id frames counts settled.idle there may_here mid place s

    pub here_served : (n : ℕ) → peer_place mid.listeners ≡ Some n → IsServed (get_or m.peers.numbers n None) (get_or m.ends n None)
    here_served n at = place_served m.ends m.peers m.air id frames counts settled.idle there may_here mid place s n at

    here_place : peer_place mid.listeners ≡ peer_place m.air.listeners
    here_place = same_place m.ends m.peers m.air id frames counts settled.idle there may_here mid place s

    -- a place of a peer is one of an end
    pub here_below : (n : ℕ) → peer_place mid.listeners ≡ Some n → n < length m.ends
    here_below n at = subst (λ k. n < k) (sym settled.places.ends) (place_below m.air.listeners n (sym here_place ∙ at))

    pub peer_served : is_tag s.device ≡ false → IsServed (get_or m.peers.numbers place None) (get_or m.ends place None)
    peer_served peer = here_served place (here_place ∙ peer_stands m.ends m.peers m.air id frames counts settled.idle there may_here mid place s peer)

    -- a tag, where no peer is placed
    pub alone_sent : is_tag s.device ≡ true → peer_place mid.listeners ≡ None → (now : Machines) (result : Result Told_answer ObeyFault) → RawAlone (upon m mid) now frames result → All now result
    alone_sent tag none now result x =
        let a : Choosing FarEnd = record { end = new_end 128 1 1024; numbers = counts } in
        let old_none : peer_place m.air.listeners ≡ None = sym here_place ∙ none in
        subst (All now) (sym x.told)
        (all_of (under m.ends m.peers None x.air) now (told_each x.came) (with_link_of x.air ∙ sym x.left)
        (tag_outcome m.ends m.peers m.air id frames counts settled.idle there may_here mid place s tag (length m.air.listeners) (new_end 128 1 1024)
        (none_shows m.ends m.peers m.air id frames counts settled.idle there may_here (new_end 128 1 1024) old_none) x.came x.air a
        (counted_of a mid x.air x.first x.after frames x.came none x.sends) (inl old_none)))

    -- or beside the peer
    pub beside_sent : is_tag s.device ≡ true → (n : ℕ) → peer_place mid.listeners ≡ Some n → (now : Machines) (result : Result Told_answer ObeyFault)
        → ((far : FarEnd) → get_or m.ends n None ≡ Some far → RawBeside (upon m mid) now n counts frames far result) → All now result
    beside_sent tag n at now result sends =
        let served : IsServed (get_or m.peers.numbers n None) (get_or m.ends n None) = here_served n at in
        let x : RawBeside (upon m mid) now n counts frames served.end result = sends served.end served.stands in
        let old_at : peer_place m.air.listeners ≡ Some n = sym here_place ∙ at in
        subst (All now) (sym x.told)
        (all_of (under (slice_set m.ends n (Some x.after.end)) m.peers None x.air) now (told_each x.came)
        (ap (λ l. under (slice_set m.ends n (Some x.after.end)) m.peers l x.air) (sym unlinked) ∙ sym x.left)
        (tag_outcome m.ends m.peers m.air id frames counts settled.idle there may_here mid place s tag n served.end
        (peer_shows m.ends m.peers m.air id frames counts settled.idle there may_here n served.end old_at served.stands) x.came x.air x.after x.sends
        (inr (served.peer, (λ e. refl), served.stands, old_at, served.numbered))))

    -- so it is by where a peer is placed
    pub tag_sent : is_tag s.device ≡ true → (now : Machines) (result : Result Told_answer ObeyFault) → (peer_place mid.listeners ≡ None → RawAlone (upon m mid) now frames result)
        → ((n : ℕ) (far : FarEnd) → peer_place mid.listeners ≡ Some n → get_or m.ends n None ≡ Some far → RawBeside (upon m mid) now n counts frames far result) → All now result
    tag_sent tag now result alone beside = by (peer_place mid.listeners) refl
      where
        by : (o : Option ℕ) → peer_place mid.listeners ≡ o → All now result
        by None at = alone_sent tag at now result (alone at)
        by (Some n) at = beside_sent tag n at now result (λ far stands. beside n far at stands)

    -- or the peer itself
    module _ (peer : is_tag s.device ≡ false) (served : IsServed (get_or m.peers.numbers place None) (get_or m.ends place None)) (result : Result Told_answer ObeyFault) (now : Machines)
        (sends : (n : ℕ) (far : FarEnd) → get_or m.peers.numbers place None ≡ Some n → get_or m.ends place None ≡ Some far → RawSendsTo (upon m mid) now place counts frames n far result) where
      abbrev n : ℕ
      n = served.peer

      abbrev far : FarEnd
      far = served.end

      -- room for a link was wanting
      room_now : now ≡ upon m mid → All now (Err faults.Memory)
      room_now is =
          all_of (under m.ends m.peers None mid) now (Err faults.Memory) (with_link_of mid ∙ sym is)
          (tt, inl (room_cut_raw m.ends m.peers m.air id frames counts settled.idle there may_here mid place s), refl)

      module _ (x : RawSendsOver (upon m mid) now place counts frames n far result) where
        abbrev asked : Opens (RestartsCounted serving) (AnswersCounted serving) mid (record { end = far; numbers = counts }) x.sends.mid x.sends.half forged_general place s.device x.sends.came
        asked = x.sends.asks place s.device s.stands peer

        left_is : (sent : SentRaw) → x.sent ≡ sent → left_by sent (upon m mid) x.air place x.after.end n (length far.service.accepted) ≡ now
        left_is sent is = ap (λ z. left_by z (upon m mid) x.air place x.after.end n (length far.service.accepted)) (sym is) ∙ sym x.left

        opened : (p : InitState × ArrayVec ℕ) (got : HeardEach) → x.sends.came ≡ Ok p → x.sent ≡ Ok got → SendsCounted x.sends.mid x.sends.half frames x.air x.after got → All now (told_each got)
        opened p got came is b =
            let range : LinkRange = record { peer = n; start = length far.service.accepted; end = Some (length x.after.end.service.accepted) } in
            all_of (under (slice_set m.ends place (Some x.after.end)) (with_link range m.peers) None x.air) now (told_each got)
            (ap (λ l. under (slice_set m.ends place (Some x.after.end)) (with_link range m.peers) l x.air) (sym unlinked) ∙ left_is (Ok got) is)
            (peer_outcome m.ends m.peers m.air id frames counts settled.idle there may_here mid place s peer far served.stands x.sends.mid x.sends.half x.sends.came asked p came n served.numbered got
            x.air x.after b)

        abbrev unopened : Air Device → FarEnd → Machines
        unopened air after = under (slice_set m.ends place (Some after)) m.peers None air

        unopened_is : (why : EndCause) → x.sent ≡ Err why → x.air ≡ x.sends.mid → x.after ≡ x.sends.half → unopened x.sends.mid x.sends.half.end ≡ now
        unopened_is why is same after =
            ap (λ a. unopened a x.sends.half.end) (sym same) ∙ ap (λ (e : Choosing FarEnd). unopened x.air e.end) (sym after)
            ∙ ap (λ l. under (slice_set m.ends place (Some x.after.end)) m.peers l x.air) (sym unlinked) ∙ left_is (Err why) is

        by_cause : (why : EndCause) → x.sends.came ≡ Err why → x.sent ≡ Err why → x.air ≡ x.sends.mid → x.after ≡ x.sends.half → All now (told_raw (Err why))
        by_cause causes.FieldLost came is same after =
            all_of (unopened x.sends.mid x.sends.half.end) now (Ok (answers.LinkEnded losses.FieldLost)) (unopened_is causes.FieldLost is same after) (
              ended_raw m.ends m.peers m.air id frames counts settled.idle there may_here mid place s peer far served.stands x.sends.mid x.sends.half x.sends.came asked causes.FieldLost
                  (answers.LinkEnded losses.FieldLost) came refl,
              tt,
              tt,
            )
        by_cause causes.SixBad came is same after =
            all_of (unopened x.sends.mid x.sends.half.end) now (Ok (answers.LinkEnded losses.SixBad)) (unopened_is causes.SixBad is same after) (
              ended_raw m.ends m.peers m.air id frames counts settled.idle there may_here mid place s peer far served.stands x.sends.mid x.sends.half x.sends.came asked causes.SixBad
                  (answers.LinkEnded losses.SixBad) came refl,
              tt,
              tt,
            )
        by_cause causes.Protocol came is same after = absurd (subst (OpeningEnds x.sends.mid place s.device) came asked.ends)
        by_cause causes.Memory came is same after =
            all_of (unopened x.sends.mid x.sends.half.end) now (Err faults.Memory) (unopened_is causes.Memory is same after)
            (tt, inl (unopened_cut_raw m.ends m.peers m.air id frames counts settled.idle there may_here mid place s peer far served.stands x.sends.mid x.sends.half x.sends.came asked came), refl)

        by_sent : (came : Result (InitState × ArrayVec ℕ) EndCause) (sent : SentRaw) → x.sends.came ≡ came → x.sent ≡ sent → RawBehind frames x.sends.mid x.sends.half came x.air x.after sent
            → All now (told_raw sent)
        by_sent (Ok p) (Ok got) came is b = opened p got came is b
        by_sent (Ok p) (Err why) came is b = absurd b
        by_sent (Err why) sent came is (sent_is, same, after) = subst (λ z. All now (told_raw z)) (sym sent_is) (by_cause why came (is ∙ sent_is) same after)

      by_left : RawSendsTo (upon m mid) now place counts frames n far result → All now result
      by_left (inl (failed, same)) = subst (All now) (sym failed) (room_now same)
      by_left (inr x) = subst (All now) (sym x.told) (by_sent x x.sends.came x.sent refl refl x.sends.behind)

      pub peer_sent : All now result
      peer_sent = by_left (sends n far served.numbered served.stands)
