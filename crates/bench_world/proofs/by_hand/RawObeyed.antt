-- Frames of a script's own are sent once a device is selected and, if it is a peer, activated: they are answered as they should be, or cut off.
use Rattle.std.proofs.Common.{◌≡◌, ◌↔◌, ◌⊎◌, inl, inr, ℕ, zero, suc, ◌<◌, List, [], ◌∷◌, ◌++◌, length, Bool, true, Option, Some, None, Result, Ok, Err, refl, sym, ◌∙◌, ap, subst, append_assoc}
use Rattle.std.specs.Prelude.{get_or, slice_set, IfOk, IfErr, OnErr}
use Rattle.nfc_base.specs.Choosing.{Choosing}
use Rattle.nfc_base.specs.Far.{FarDid, FarUse, Untouched, Hands}
use Rattle.nfc_base.specs.declared.carrier.EndCause.TheVariants as causes
use Rattle.nfc_base.specs.declared.event.Event.{Event}
use Rattle.nfc_base.specs.declared.event.Event.TheVariants.{Request}
use Rattle.nfc_base.specs.declared.event.Fate.TheVariants.{Pass}
use Rattle.nfc_base.specs.declared.event.Heard.TheVariants.{Silent}
use Rattle.nfc_base.specs.Signal.{Signal}
use Rattle.nfc_base.specs.Trace.{breaks}
use Rattle.air_core.specs.World.{hands_over, stepped_by}
use Rattle.air_core.specs.Turn.{Air, HearSome, Stops, moment}
use Rattle.air_core.specs.Quiet.{EachQuiet}
use Rattle.air_core.specs.Speaking.{LeavesOff, Speaks}
use Rattle.air_core.specs.Conversation.{Moment, Note, Got, Over, Asks, Going, receptions}
use Rattle.air_core.specs.laws.Turning.{receptions-append}
use Rattle.air_core.proofs.Following.{over_is_no_request}
use Rattle.air_core.proofs.LostField.{HasLost}
use Rattle.far_air.specs.FarLaws.{seen_at}
use Rattle.far_air.specs.FarTurns.{FarGoing, QuietBut}
use Rattle.far_air.proofs.FarTurns.{far_goes_then, speaks_far}
use Rattle.peer_air.specs.PeerFars.{peer_ends}
use Rattle.peer_air.proofs.PeerEnds.{counted_step}
use Rattle.llcp_link.specs.Counting.{AnswersCounted, RestartsCounted, StopsCounted}
use Rattle.nfc_base.specs.Prefix.{IsPrefix}
use Rattle.snep_core.specs.Server.{serving}
use Rattle.snep_core.proofs.jobs.CutOff.{cut_off_accepts}
use Rattle.link_calls.specs.Staying.{setting_of}
use Rattle.link_calls.proofs.Settings.{stops_is}
use Rattle.bench_script.specs.declared.command.Command.{Command}
use Rattle.bench_script.specs.declared.command.Command.TheVariants.{Raw}
use Rattle.bench_script.specs.declared.command.DeviceId.{DeviceId}
use Rattle.bench_devices.specs.declared.device.Device.{Device}
use Rattle.bench_devices.specs.declared.polling.SeenKind.{SeenKind}
use Rattle.bench_devices.specs.AnyFrame.{peer_place}
use Rattle.bench_devices.specs.Device.{devices, device_linked}
use Rattle.bench_devices.specs.Opening.{linking}
use Rattle.bench_devices.specs.Phases.{IsIdle}
use Rattle.bench_devices.specs.Polling.{Told, selecting}
use Rattle.bench_devices.proofs.kinds.AnyFrame.{all_quiet, count_stays, place_stays}
use Rattle.bench_devices.proofs.reads.CardReadingNotes.{driven}
use Rattle.bench_devices.proofs.kinds.PeerLinks.{devices_link}
use Rattle.bench_world.specs.declared.bench.ObeyFault.{ObeyFault}
use Rattle.bench_world.specs.declared.bench.ObeyFault.TheVariants as faults
use Rattle.bench_world.specs.declared.entry.Answer.{Answer}
use Rattle.bench_world.specs.declared.entry.Answer.TheVariants as answers
use Rattle.bench_world.specs.declared.entry.Loss.TheVariants as losses
use Rattle.bench_world.specs.declared.entry.RawHeard.{RawHeard}
use Rattle.bench_world.specs.Calls.{with_accepted}
use Rattle.bench_world.specs.Forging.{forged_general}
use Rattle.bench_world.specs.Legal.{State, Joins, IsPeerPlaced, MayRaw, CutFront, RawOpensPeer, peers_after, peers_forged}
use Rattle.bench_world.specs.Halting.{RawHalts, halted_at}
use Rattle.bench_world.specs.Linking.{IsFieldLost}
use Rattle.bench_world.specs.Obeying.{Machines, HasPlaces, ObeyedBy, state_at, under}
use Rattle.bench_world.specs.Peers.{Peers, next_number}
use Rattle.bench_world.specs.private.RawAt.{HeardEach, RawStops, SendsCounted, frames_due, is_end_stuck, told_each}
use Rattle.bench_world.specs.Rawing.{Rawing, Activates, Dark, Sends, Strays, Unlinked, raw_noted, are_sent, raw_behind, raw_due, raw_first, raw_linked, raw_linked_then, raw_opens, raw_stand, rawing}
use Rattle.bench_world.specs.Rawing.{then_raws, told_rawing}
use Rattle.bench_world.specs.World.{FarEnd, WholeWorld, bench_air}
use Rattle.bench_world.proofs.open_link.CallNotes.{broken_known, known_broken}
use Rattle.bench_world.proofs.devices.FarStays.{StayAll}
use Rattle.bench_world.proofs.forged.ForgeParts.{more_breaks, rest_breaks}
use Rattle.bench_world.proofs.forged.ForgeSends.{set_twice}
use Rattle.bench_world.proofs.tags.Fronts.{Ends, ends_table}
use Rattle.bench_world.proofs.open_link.OnLink.{bare, bare_alike, bare_more}
use Rattle.bench_world.proofs.by_hand.RawDue.{stands_on}
use Rattle.bench_world.proofs.by_hand.RawFrames.{dark_lost, lost_dark, turns_quiet, turns_set}
use Rattle.bench_world.proofs.by_hand.RawNotes.{opens_then}
use Rattle.bench_world.proofs.by_hand.RawParts as parts
use Rattle.bench_world.proofs.by_hand.RawParts.{Shows, stay_long}
use Rattle.bench_world.proofs.open_link.Restarted.{first_of, set_there}

-- nothing is done where nothing is asked
did_nothing : (u : FarUse) (old : Choosing FarEnd) (reply : Option (List ℕ)) (new : Choosing FarEnd) → u ≡ Untouched → FarDid (RestartsCounted serving) (AnswersCounted serving) u old reply new
    → (new ≡ old) × (reply ≡ None)
did_nothing u old reply new e d = subst (λ v. FarDid (RestartsCounted serving) (AnswersCounted serving) v old reply new) e d

-- A far end that stopped at a frame: it is that of the device at its place.
none_stops : (f : Signal) (ls : List Device) (far : Choosing FarEnd) (ls' : List Device) (far' : Choosing FarEnd) → EachQuiet devices f ls
    → HearSome devices (RestartsCounted serving) (AnswersCounted serving) (StopsCounted serving) is_end_stuck f ls far ls' far' → ⊥
none_stops f [] far ls' far' q h = h
none_stops f (l ∷ ls) far ls' far' q (l', later, e, inl h) = let clash : Untouched ≡ Hands h.0.payload = sym q.0 ∙ h.0.handed in cc
none_stops f (l ∷ ls) far ls' far' q (l', later, e, inr (answer, mid, meets, h)) = none_stops f ls mid later far' q.1 h

pub record HaltsHere (place : ℕ) (f : Signal) (ls : List Device) (far : Choosing FarEnd) (ls' : List Device) (far' : Choosing FarEnd) : Type 0 where
  pub devices_are : ls' ≡ halted_at place f ls
  pub payload : List ℕ
  pub stops : StopsCounted serving far payload far'

some_halts : (place : ℕ) (f : Signal) (ls : List Device) (far : Choosing FarEnd) (ls' : List Device) (far' : Choosing FarEnd) → QuietBut devices f place ls
    → HearSome devices (RestartsCounted serving) (AnswersCounted serving) (StopsCounted serving) is_end_stuck f ls far ls' far' → HaltsHere place f ls far ls' far'
some_halts place f [] far ls' far' q h = absurd h
some_halts zero f (l ∷ ls) far ls' far' q (l', later, e, inl h) = record {
  devices_are = e ∙ ap (λ x. x ∷ later) h.0.left ∙ ap (λ xs. stepped_by devices l f None ∷ xs) h.1;
  payload = h.0.payload;
  stops = h.0.far;
}
some_halts zero f (l ∷ ls) far ls' far' q (l', later, e, inr (answer, mid, meets, h)) = absurd (none_stops f ls mid later far' q h)
some_halts (suc place) f (l ∷ ls) far ls' far' q (l', later, e, inl h) = absurd (let clash : Untouched ≡ Hands h.0.payload = sym q.0 ∙ h.0.handed in cc)
some_halts (suc place) f (l ∷ ls) far ls' far' q (l', later, e, inr (answer, mid, meets, h)) =
    let none : (mid ≡ far) × (meets.reply ≡ None) = did_nothing (hands_over devices l f) far meets.reply mid q.0 meets.far in
    let more : HaltsHere place f ls mid later far' = some_halts place f ls mid later far' q.1 h in
    record {
      devices_are = e ∙ ap (λ x. x ∷ later) (meets.left ∙ ap (stepped_by devices l f) none.1) ∙ ap (λ xs. stepped_by devices l f None ∷ xs) more.devices_are;
      payload = more.payload;
      stops = subst (λ (a : Choosing FarEnd). StopsCounted serving a more.payload far') none.0 more.stops;
    }

-- such a frame goes to as many devices
halted_long : (place : ℕ) (f : Signal) (ls : List Device) → length (halted_at place f ls) ≡ length ls
halted_long place f [] = refl
halted_long zero f (l ∷ ls) = refl
halted_long (suc place) f (l ∷ ls) = ap suc (halted_long place f ls)

-- where a frame is due, and nothing comes back of it, frames are sent still
sent_more : (frames : List Signal) (x : Rawing) (f : Signal) → raw_due x ≡ Asks f → are_sent x ≡ true → are_sent (raw_noted frames x (Got Silent)) ≡ true
sent_more frames (Activates bad) f due sent = absurd cc
sent_more frames (Sends heard (g ∷ more)) f due sent = refl
sent_more frames (Sends heard []) f due sent = absurd (over_is_no_request f due)
sent_more frames Dark f due sent = absurd (over_is_no_request f due)
sent_more frames (Unlinked why) f due sent = absurd cc
sent_more frames Strays f due sent = absurd cc

module _ (ends : Ends) (peers : Peers) (old : Air Device) (id : DeviceId) (frames : List Signal) (counts : List ℕ) (idle : IsIdle old) (places : HasPlaces (under ends peers None old))
    (may : MayRaw (state_at (under ends peers None old)) id frames) where
  abbrev before : Machines
  before = under ends peers None old

  abbrev st : State
  st = state_at before

  abbrev J : Joins
  J = record { own = []; far = counts }

  abbrev c : Command
  c = Raw id frames

  abbrev at_first : FarEnd → Choosing FarEnd
  at_first far = record { end = far; numbers = counts }

  -- what was obeyed, or cut off
  abbrev pub Outcome : Machines → Result Answer ObeyFault → Type 0
  Outcome now r = IfOk r (λ a. ObeyedBy J before now c a) × OnErr r (RawStops J st c now.air.trace (state_at now)) × IfErr r (λ e. e ≡ faults.Memory)

  -- A device was selected, and if it is a peer activated, which tells these notes and leaves the far end so; from then on the frames are due.
  module _ (place : ℕ) (far : FarEnd) (shows : Shows ends peers old id frames counts idle places may place far) (one : Air Device) (half : Choosing FarEnd) (first behind : List Note) (kind : SeenKind)
      (opening : FarGoing devices device_linked peer_ends (linking id forged_general) (moment old) (moment one) first place ends (at_first far) half) (set_one : setting_of half.end ≡ setting_of far)
      (selected_on : (ks : List Note) → selecting id (first ++ ks) ≡ Told (Ok kind) (behind ++ ks)) (stood : raw_behind frames kind behind ≡ Sends [] frames)
      (none : 0 < breaks opening.events → ⊥) where
    behind_is : (ks : List Note) → raw_behind frames kind (behind ++ ks) ≡ raw_stand frames (Sends [] frames) ks
    behind_is ks = stands_on frames behind ks (raw_first kind frames) ∙ ap (λ x. raw_stand frames x ks) stood

    due_is : (ks : List Note) → rawing id frames (first ++ ks) ≡ frames_due frames ks
    due_is ks = ap (then_raws frames) (selected_on ks) ∙ ap raw_due (behind_is ks)

    linked_is : (ks : List Note) → raw_linked_then frames (selecting id (first ++ ks)) ≡ raw_linked frames kind (behind ++ ks)
    linked_is ks = ap (raw_linked_then frames) (selected_on ks)

    one_stays : StayAll old.listeners one.listeners
    one_stays = parts.far_stays ends peers old id frames counts idle places may place far (linking id forged_general) one first half opening

    until : one.trace ≡ opening.events
    until = ap (λ (m : Moment WholeWorld). m.trace) opening.moment ∙ ap (λ t. t ++ opening.events) idle.quiet

    abbrev now_at : Air Device → FarEnd → State
    now_at b e = state_at (under (shows.with' e) peers None b)

    -- Whether a link was opened, and what peers are then, over the end that stands there: one link more began and ended, where one was.
    module _ (opened : Bool) (opens : (ks : List Note) → are_sent (raw_stand frames (Sends [] frames) ks) ≡ true → raw_linked frames kind (behind ++ ks) ≡ opened) (left : FarEnd → Peers)
        (placed : opened ≡ true → IsPeerPlaced st id) (numbers : (e : FarEnd) → (left e).numbers ≡ peers.numbers) (gone : (e : FarEnd) → (left e).gone ≡ peers.gone)
        (peers_are : (b : Air Device) (e : FarEnd) → length b.listeners ≡ length old.listeners → left e ≡ peers_forged opened st id (now_at b e).world.fars) where
      -- Turns were made so far.
      module _ (new : Air Device) (after : Choosing FarEnd) (ns : List Note) (s : Speaks devices (RestartsCounted serving) (AnswersCounted serving) (frames_due frames) one half new after ns) where
        turned : FarGoing devices device_linked peer_ends (frames_due frames) (moment one) (moment new) ns place ends half after
        turned =
            speaks_far devices device_linked peer_ends (RestartsCounted serving) (AnswersCounted serving) (frames_due frames) place (λ x. x) devices_link ends_table (counted_step serving) one new half
            after ns s
            (turns_quiet (RestartsCounted serving) (AnswersCounted serving) (frames_due frames) place ns [] one half new after s.turns
            (λ ls f count at. shows.quiet ls f (count ∙ count_stays old.listeners one.listeners one_stays.stay) (at ∙ place_stays old.listeners one.listeners one_stays.stay))) ends

        whole : FarGoing devices device_linked peer_ends (rawing id frames) (moment old) (moment new) (first ++ ns) place ends (at_first far) after
        whole =
            far_goes_then devices device_linked peer_ends (rawing id frames) (linking id forged_general) (frames_due frames) (moment old) (moment one) (moment new) first ns place ends (at_first far)
            half after
            (λ ks m h d. opens_then id frames ks m h d) due_is opening turned

        new_stays : StayAll old.listeners new.listeners
        new_stays = parts.far_stays ends peers old id frames counts idle places may place far (rawing id frames) new (first ++ ns) after whole

        many : length new.listeners ≡ length old.listeners
        many = stay_long old.listeners new.listeners new_stays.stay

        abbrev os : Ends
        os = shows.with' after.end

        -- as the bench's world shows it
        on_bench : Going bench_air (rawing id frames) (seen_at device_linked peer_ends (moment old) ends counts) (seen_at device_linked peer_ends (moment new) os after.numbers) (first ++ ns)
        on_bench = parts.to_bench ends peers old id frames counts idle places may place far shows (rawing id frames) new (first ++ ns) after many whole

        abbrev all : List Event
        all = on_bench.events

        traced : new.trace ≡ all
        traced = parts.trace ends peers old id frames counts idle places may new os after.numbers (first ++ ns) on_bench

        more_trace : new.trace ≡ one.trace ++ turned.events
        more_trace = ap (λ (m : Moment WholeWorld). m.trace) turned.moment

        split : all ≡ opening.events ++ turned.events
        split = sym traced ∙ more_trace ∙ ap (λ xs. xs ++ turned.events) until

        opens_now : raw_opens id frames all ≡ raw_linked frames kind (behind ++ ns)
        opens_now = parts.opens_is ends peers old id frames counts idle places may new os after.numbers (first ++ ns) on_bench ∙ linked_is ns

        -- a Break was used exactly where the field was lost at a frame
        broken : 0 < breaks all → raw_stand frames (Sends [] frames) ns ≡ Dark
        broken some =
            let here : 0 < breaks turned.events = rest_breaks opening.events turned.events none (subst (λ xs. 0 < breaks xs) split some) in
            lost_dark frames ns (driven bench_air (frames_due frames) _ _ ns turned) (broken_known bench_air (frames_due frames) _ _ ns turned here)

        breaks_in : raw_stand frames (Sends [] frames) ns ≡ Dark → 0 < breaks all
        breaks_in e = subst (λ xs. 0 < breaks xs) (sym split) (more_breaks opening.events turned.events (known_broken turned.events (subst HasLost (sym turned.known) (dark_lost frames ns e))))

        set_new : setting_of after.end ≡ setting_of far
        set_new = turns_set (frames_due frames) ns [] one half new after s.turns ∙ set_one

        peers_so : are_sent (raw_stand frames (Sends [] frames) ns) ≡ true → (told : Option Answer) → left after.end ≡ peers_after st J c all told
        peers_so sent told =
            peers_are new after.end many ∙ ap (λ v. peers_forged v st id (now_at new after.end).world.fars) (sym (opens_now ∙ opens ns sent))
            ∙ ap (λ (w : WholeWorld). peers_forged (raw_opens id frames all) st id w.fars) (parts.world_now ends peers old id frames counts idle places may new os after.numbers (first ++ ns) on_bench)

        opens_peer : are_sent (raw_stand frames (Sends [] frames) ns) ≡ true → RawOpensPeer st id frames all
        opens_peer sent is = placed (sym (opens ns sent) ∙ sym opens_now ∙ is)

        abbrev N : Machines
        N = under os (left after.end) None new

        -- and so it is told
        told_now : (answer : Answer) (x : Rawing) → raw_stand frames (Sends [] frames) ns ≡ x → are_sent x ≡ true → raw_due x ≡ Over → told_rawing x ≡ Some answer → (x ≡ Dark) ↔ IsFieldLost answer
            → (answer ≡ answers.LinkEnded losses.SixBad → ⊥) → ObeyedBy J before N c answer
        told_now answer x at sent over says dark six =
            parts.obeyed ends peers old id frames counts idle places may new os after.numbers (first ++ ns) on_bench answer (left after.end) (peers_so (ap are_sent at ∙ sent) (Some answer))
            (numbers after.end) (gone after.end) (shows.long after.end)
            (shows.served new.listeners after.end new_stays.stay set_new) (due_is ns ∙ ap raw_due at ∙ over)
            (record {
              polled = Ok kind;
              behind = behind ++ ns;
              selected = ap (selecting id) on_bench.known ∙ selected_on ns;
              cause = tt;
              ends = ap told_rawing (behind_is ns ∙ at) ∙ says;
              lost = ((λ l. breaks_in (at ∙ dark.1 l)), (λ some. dark.0 (sym at ∙ broken some)));
              noisy = λ e. absurd (six e);
            })
            (opens_peer (ap are_sent at ∙ sent))

        heard_raw : (heard : List RawHeard) → raw_stand frames (Sends [] frames) ns ≡ Sends heard [] → ObeyedBy J before N c (answers.Heard heard)
        heard_raw heard at =
            told_now (answers.Heard heard) (Sends heard []) at refl refl refl (
              (λ e. absurd (let clash : Sends heard [] ≡ Dark = e in cc)),
              (λ l. absurd
                  (elim l [ inl e ↦ (let clash : answers.Heard heard ≡ answers.FieldLost = e in cc) | inr e ↦ (let clash : answers.Heard heard ≡ answers.LinkEnded losses.FieldLost = e in cc) ])),
            )
            (λ e. let clash : answers.Heard heard ≡ answers.LinkEnded losses.SixBad = e in cc)

        dark_raw : raw_stand frames (Sends [] frames) ns ≡ Dark → ObeyedBy J before N c answers.FieldLost
        dark_raw at =
            told_now answers.FieldLost Dark at refl refl refl ((λ e. inl refl), (λ l. refl)) (λ e. let clash : answers.FieldLost ≡ answers.LinkEnded losses.SixBad = e in cc)

        -- it was cut off between two turns
        short_raw : are_sent (raw_stand frames (Sends [] frames) ns) ≡ true → CutFront J st c new.trace (state_at N)
        short_raw sent = parts.cut_off ends peers old id frames counts idle places may new os after.numbers (first ++ ns) on_bench (left after.end) (peers_so sent None) (opens_peer sent)

        -- Or the end of the peer at the place stopped.
        module _ (d : Air Device) (stopped : Choosing FarEnd) (f : Signal) (sent : are_sent (raw_stand frames (Sends [] frames) ns) ≡ true) (due : frames_due frames ns ≡ Asks f)
            (h : Stops devices (RestartsCounted serving) (AnswersCounted serving) (StopsCounted serving) is_end_stuck new f after d stopped) (n : ℕ)
            (is : (e : FarEnd) → shows.with' e ≡ slice_set ends place (Some e))
            (there : get_or ends place None ≡ Some far) (at : peer_place old.listeners ≡ Some place) (numbered : get_or peers.numbers place None ≡ Some n) where
          abbrev request : List Event
          request = Request f Pass ∷ []

          trace_d : d.trace ≡ all ++ request
          trace_d = ap (λ (a : Air Device). a.trace) h.left ∙ ap (λ xs. xs ++ request) traced

          same_place : peer_place new.listeners ≡ Some place
          same_place = place_stays old.listeners new.listeners new_stays.stay ∙ at

          here : HaltsHere place f new.listeners after h.listeners stopped
          here = some_halts place f new.listeners after h.listeners stopped (shows.quiet new.listeners f (count_stays old.listeners new.listeners new_stays.stay)
              (place_stays old.listeners new.listeners new_stays.stay)) h.some

          devices_d : d.listeners ≡ halted_at place f new.listeners
          devices_d = ap (λ (a : Air Device). a.listeners) h.left ∙ here.devices_are

          many_d : length d.listeners ≡ length new.listeners
          many_d = ap length devices_d ∙ halted_long place f new.listeners

          front_d : IsPrefix after.end.service.accepted stopped.end.service.accepted
          front_d = (cut_off_accepts after.end stopped.end here.payload here.stops).before

          ends_d : bare d.listeners (shows.with' stopped.end) ≡ with_accepted front_d.0 n peers.numbers (bare new.listeners os)
          ends_d =
              let now : Ends = slice_set ends place (Some after.end) in
              let there_now : get_or now place None ≡ Some after.end = set_there ends place far after.end there in
              bare_alike d.listeners new.listeners (shows.with' stopped.end) many_d
              ∙ ap (bare new.listeners) (is stopped.end ∙ sym (set_twice ends place (Some after.end) (Some stopped.end)))
              ∙ bare_more n place peers.numbers new.listeners now after.end stopped.end front_d.0 (first_of (next_number peers) n place peers.numbers places.apart numbered) (places.numbers ∙ sym many)
              there_now
              (stops_is after.end here.payload stopped.end here.stops) front_d.1
              ∙ ap (λ xs. with_accepted front_d.0 n peers.numbers (bare new.listeners xs)) (sym (is after.end))

          still_sent : are_sent (raw_stand frames (Sends [] frames) (ns ++ receptions request)) ≡ true
          still_sent = ap are_sent (stands_on frames ns (receptions request) (Sends [] frames)) ∙ sent_more frames (raw_stand frames (Sends [] frames) ns) f due sent

          opens_d : raw_opens id frames d.trace ≡ opened
          opens_d =
              ap (raw_opens id frames) trace_d
              ∙ ap (λ ks. raw_linked_then frames (selecting id ks)) (receptions-append all request refl ∙ ap (λ ks. ks ++ receptions request) on_bench.known
              ∙ append_assoc first ns (receptions request))
              ∙ linked_is (ns ++ receptions request) ∙ opens (ns ++ receptions request) still_sent

          halted : RawHalts J st c d.trace (state_at (under (shows.with' stopped.end) (left stopped.end) None d))
          halted = record {
            id = id;
            frames = frames;
            command = refl;
            given = record { asked = []; joins = J };
            joined = refl;
            before = all;
            mid = state_at N;
            front = parts.front ends peers old id frames counts idle places may new os after.numbers (first ++ ns) on_bench None (left after.end) (peers_so sent None);
            sent = f;
            split = trace_d;
            asked = ap (rawing id frames) on_bench.known ∙ due_is ns ∙ due;
            passes = h.fate;
            lit = ap (λ (a : Air Device). a.lit) h.left;
            queue = ap (λ (a : Air Device). a.fates) h.left;
            leaves = record {
              opens = λ is. placed (sym opens_d ∙ is);
              place = place;
              stands = same_place;
              devices = devices_d;
              peer = n;
              numbered = numbered;
              more = front_d.0;
              ends = ends_d;
              peers = peers_are d stopped.end (many_d ∙ many) ∙ ap (λ v. peers_forged v st id (now_at d stopped.end).world.fars) (sym opens_d);
              link = refl;
            };
          }

      -- So it is by what came of the frames: over the end of the peer that is placed, or where none is.
      abbrev MayHalt : Type 0
      MayHalt =
          (peer_place old.listeners ≡ None)
          ⊎ ((n : ℕ) × ((e : FarEnd) → shows.with' e ≡ slice_set ends place (Some e)) × (get_or ends place None ≡ Some far) × (peer_place old.listeners ≡ Some place)
          × (get_or peers.numbers place None ≡ Some n))

      abbrev pub After : FarEnd → Air Device → Machines
      After e b = under (shows.with' e) (left e) None b

      stopped_so : (new : Air Device) (after : Choosing FarEnd) (mid : Air Device) (end : Choosing FarEnd) (ns : List Note)
          (s : Speaks devices (RestartsCounted serving) (AnswersCounted serving) (frames_due frames) one half mid end ns)
          → are_sent (raw_stand frames (Sends [] frames) ns) ≡ true
          → LeavesOff devices (RestartsCounted serving) (AnswersCounted serving) (frames_due frames) (StopsCounted serving) is_end_stuck ns mid end new after → MayHalt
          → RawStops J st c new.trace (state_at (After after.end new))
      stopped_so new after mid end ns s sent (inl (same, rests)) may_halt =
          subst (λ (b : Air Device). RawStops J st c b.trace (state_at (After after.end b))) (sym same)
          (subst (λ (e : Choosing FarEnd). RawStops J st c mid.trace (state_at (After e.end mid))) (sym rests) (inl (short_raw mid end ns s sent)))
      stopped_so new after mid end ns s sent (inr (f, due, h)) (inl none_placed) =
          absurd (none_stops f mid.listeners end h.listeners after (all_quiet f mid.listeners (place_stays old.listeners mid.listeners (new_stays mid end ns s).stay ∙ none_placed)) h.some)
      stopped_so new after mid end ns s sent (inr (f, due, h)) (inr (n, is, there, at, numbered)) = inr (halted mid end ns s new after f sent due h n is there at numbered)

      pub outcome : (came : HeardEach) (new : Air Device) (after : Choosing FarEnd) → SendsCounted one half frames new after came → MayHalt → Outcome (After after.end new) (told_each came)
      outcome (Ok heard) new after x may_halt = (
        subst (λ (b : Air Device). ObeyedBy J before (After after.end b) c (answers.Heard heard)) (sym x.ends.0)
            (subst (λ (e : Choosing FarEnd). ObeyedBy J before (After e.end x.mid) c (answers.Heard heard)) (sym x.ends.1) (heard_raw x.mid x.half x.notes x.speaks heard x.ends.2)),
        tt,
        tt,
      )
      outcome (Err causes.FieldLost) new after x may_halt = (
        subst (λ (b : Air Device). ObeyedBy J before (After after.end b) c answers.FieldLost) (sym x.ends.0)
            (subst (λ (e : Choosing FarEnd). ObeyedBy J before (After e.end x.mid) c answers.FieldLost) (sym x.ends.1) (dark_raw x.mid x.half x.notes x.speaks x.ends.2)),
        tt,
        tt,
      )
      outcome (Err causes.Memory) new after x may_halt = (tt, stopped_so new after x.mid x.half x.notes x.speaks x.ends.0 x.ends.1 may_halt, refl)
      outcome (Err causes.SixBad) new after x may_halt = absurd x.ends
      outcome (Err causes.Protocol) new after x may_halt = absurd x.ends
