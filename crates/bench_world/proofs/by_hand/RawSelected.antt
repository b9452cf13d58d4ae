-- Frames of a script's own are sent to a device that was selected: to a tag, or to a peer, which is activated first.
use Rattle.std.proofs.Common.{◌≡◌, ◌⊎◌, inr, ℕ, suc, ◌<◌, ◌≤◌, List, [], ◌∷◌, ◌++◌, map, length, Bool, true, false, if◌then◌else◌, Option, Some, None, Result, Ok, Err, refl, sym, ◌∙◌, ap, subst}
use Rattle.std.proofs.Common.{arith, append_assoc}
use Rattle.std.specs.Prelude.{get_or, slice_set, option_map, IfOk}
use Rattle.std.specs.Prelude.{nat_eq}
use Rattle.std.specs.Cmp.Lexicographic.{pointwise}
use Rattle.nfca_poll.proofs.quiet.OneLevel.{pointwise_self}
use Rattle.nfc_base.specs.Choosing.{Choosing}
use Rattle.nfc_base.specs.declared.carrier.EndCause.{EndCause}
use Rattle.nfc_base.specs.declared.carrier.EndCause.TheVariants as causes
use Rattle.nfc_base.specs.declared.event.Event.{Event}
use Rattle.nfc_base.specs.declared.tag_link.AskFault.TheVariants as asking
use Rattle.nfc_base.specs.Signal.{Signal}
use Rattle.nfc_base.specs.Trace.{noise, breaks}
use Rattle.air_core.specs.World.{World}
use Rattle.air_core.specs.Turn.{Air, moment}
use Rattle.air_core.specs.Conversation.{Moment, Note, Going}
use Rattle.air_core.specs.laws.Turning.{due_weaker}
use Rattle.air_core.specs.Waits.{Standing, Asking, Broken, Astray, stand}
use Rattle.arrayvec.specs.ArrayVec.{ArrayVec}
use Rattle.nfca_poll.specs.declared.fault.PollFault.{PollFault}
use Rattle.nfca_poll.specs.declared.fault.PollFault.TheVariants as faults
use Rattle.dep_link.specs.Activating.{atr_frame}
use Rattle.dep_link.specs.AnyTarget.{AnswersAtr, atr_next}
use Rattle.dep_link.specs.Initiator.{InitState}
use Rattle.far_air.specs.FarEnds.{first_far, later_fars}
use Rattle.far_air.specs.FarLaws.{seen_at, shown}
use Rattle.far_air.specs.FarTurns.{FarGoing}
use Rattle.peer_air.specs.PeerFars.{peer_ends}
use Rattle.peer_air.proofs.PeerEnds.{counted_step}
use Rattle.llcp_link.specs.Counting.{AnswersCounted, RestartsCounted}
use Rattle.llcp_link.specs.State.{restarted}
use Rattle.snep_core.specs.Server.{serving}
use Rattle.link_calls.specs.Staying.{setting_of}
use Rattle.bench_script.specs.declared.command.Command.{Command}
use Rattle.bench_script.specs.declared.command.Command.TheVariants.{Raw}
use Rattle.bench_script.specs.declared.command.DeviceId.{DeviceId}
use Rattle.bench_script.specs.DeviceIds.{bytes_of}
use Rattle.bench_devices.specs.declared.device.Device.{Device}
use Rattle.bench_devices.specs.declared.device.Device.TheVariants.{T2, T4, Peer, T5, T3}
use Rattle.bench_devices.specs.declared.polling.SeenKind.{SeenKind}
use Rattle.bench_devices.specs.declared.polling.SeenKind.TheVariants as kinds
use Rattle.bench_devices.specs.AnyFrame.{peer_place, peers_in}
use Rattle.bench_devices.specs.Choosing.{StandsAt}
use Rattle.bench_devices.specs.Device.{air, devices, device_id, device_linked, seen_of, is_tag}
use Rattle.bench_devices.specs.Keeping.{Kept, kept, AreSound}
use Rattle.bench_devices.specs.Kinds.{DeviceKind, seen_by}
use Rattle.bench_devices.specs.Opening.{linking, Opens}
use Rattle.bench_devices.specs.Phases.{SelectsAt, IsIdle}
use Rattle.bench_devices.specs.Placed.{OfPlaced, device_with}
use Rattle.bench_devices.specs.Polling.{Told, asks, selecting}
use Rattle.bench_devices.proofs.kinds.AnyFrame.{none_counted, peers_stay}
use Rattle.bench_devices.proofs.far_ends.LinkFar.{opens_far, selects_far}
use Rattle.bench_devices.proofs.kinds.TagOrPeer.{peer_kind, same_tag}
use Rattle.bench_world.specs.declared.entry.Answer.{Answer}
use Rattle.bench_world.specs.declared.inbox.LinkRange.{LinkRange}
use Rattle.bench_world.specs.Calls.{told_loss}
use Rattle.bench_world.specs.Forging.{forged_general}
use Rattle.bench_world.specs.Legal.{State, Joins, IsPeerPlaced, MayRaw, CutFront, peers_forged}
use Rattle.bench_world.specs.Links.{accepted_at, accepted_by, with_link, with_link_if}
use Rattle.bench_world.specs.Obeying.{Machines, HasPlaces, ObeyedBy, state_at, under}
use Rattle.bench_world.specs.Opened.{IsServed, AreServed, IsFirstWith}
use Rattle.bench_world.specs.Peers.{Peers, next_number, placed_under}
use Rattle.bench_world.specs.private.RawAt.{HeardEach, SendsCounted, told_each}
use Rattle.bench_world.specs.Rawing.{Rawing, Activates, Sends, Unlinked, are_sent, raw_behind, raw_due, raw_first, raw_linked, raw_linked_then, raw_stand, rawing, then_raws, told_rawing}
use Rattle.bench_world.specs.World.{FarEnd, WholeWorld, bench_air}
use Rattle.bench_world.proofs.forged.ForgeNotes.{due_driven}
use Rattle.bench_world.proofs.forged.ForgeParts.{lost_is, more_breaks, more_noise, not_told, rest_breaks, six_is, times_of}
use Rattle.bench_world.proofs.tags.Fronts.{Ends, ends_table}
use Rattle.bench_world.proofs.tags.Legality.{selecting_more, trace_is}
use Rattle.bench_world.proofs.open_link.LinkObeyed.{OldAt, old_stands}
use Rattle.bench_world.proofs.devices.PlacesKept.{first_end}
use Rattle.bench_world.proofs.by_hand.RawDue.{stands_on}
use Rattle.bench_world.proofs.by_hand.RawNotes.{Unopened, opened_by, opens_then, stays_unopened}
use Rattle.bench_world.proofs.by_hand.RawObeyed as sent
use Rattle.bench_world.proofs.by_hand.RawParts as parts
use Rattle.bench_world.proofs.by_hand.RawParts.{Shows, none_shows, peer_shows, stay_long}
use Rattle.bench_world.proofs.devices.Removing.{is_other, under_at}
use Rattle.bench_world.proofs.open_link.Restarted.{KeepsEnd, begun_anew, first_of, set_served, set_there, times_keep}
use Rattle.bench_world.proofs.open_link.Unlinking.{accepted_shown}

-- A peer where no second one is placed stands at the place of the first.
first_peer : (before : List Device) (d : Device) (behind : List Device) → is_tag d ≡ false → peers_in (before ++ d ∷ behind) ≤ 1 → peer_place (before ++ d ∷ behind) ≡ Some (length before)
first_peer [] d behind peer few = ap (λ v. if v then option_map suc (peer_place behind) else Some 0) peer
first_peer (b ∷ before) d behind peer few = by_tag (is_tag b) refl (λ less. first_peer before d behind peer less)
  where
    rest : List Device
    rest = before ++ d ∷ behind

    by_tag : (v : Bool) → is_tag b ≡ v → (peers_in (before ++ d ∷ behind) ≤ 1 → peer_place (before ++ d ∷ behind) ≡ Some (length before))
        → peer_place (b ∷ (before ++ d ∷ behind)) ≡ Some (suc (length before))
    by_tag true t later =
        ap (λ v. if v then option_map suc (peer_place (before ++ d ∷ behind)) else Some 0) t
        ∙ ap (option_map suc) (later (subst (λ n. n ≤ 1) (ap (λ v. if v then peers_in (before ++ d ∷ behind) else suc (peers_in (before ++ d ∷ behind))) t) few))
    by_tag false t later =
        let less : suc (peers_in (before ++ d ∷ behind)) ≤ 1 = subst (λ n. n ≤ 1) (ap (λ v. if v then peers_in (before ++ d ∷ behind) else suc (peers_in (before ++ d ∷ behind))) t) few in
        let none : peer_place (before ++ d ∷ behind) ≡ None = none_counted (before ++ d ∷ behind) (omega arith) in
        let some : peer_place (before ++ d ∷ behind) ≡ Some (length before) = later (omega arith) in
        absurd (let clash : None ≡ Some (length before) = sym none ∙ some in cc)

-- the first peer has its number and its far end
served_first : (ps : List (Option ℕ)) (os : Ends) → IsServed (first_far ps) (first_far os) → IsServed (get_or ps 0 None) (get_or os 0 None)
served_first [] [] s = s
served_first [] (o ∷ os) s = s
served_first (p ∷ ps) [] s = s
served_first (p ∷ ps) (o ∷ os) s = s

served_later : (ps : List (Option ℕ)) (os : Ends) (n : ℕ) → IsServed (get_or (later_fars ps) n None) (get_or (later_fars os) n None) → IsServed (get_or ps (suc n) None) (get_or os (suc n) None)
served_later [] [] n s = s
served_later [] (o ∷ os) n s = s
served_later (p ∷ ps) [] n s = s
served_later (p ∷ ps) (o ∷ os) n s = s

pub served_place : (ds : List Device) (ps : List (Option ℕ)) (os : Ends) (place : ℕ) → peer_place ds ≡ Some place → AreServed ds ps os → IsServed (get_or ps place None) (get_or os place None)
served_place [] ps os place at s = absurd cc
served_place (d ∷ ds) ps os place at s = by_tag (is_tag d) refl (λ n there. served_place ds (later_fars ps) (later_fars os) n there s.1)
  where
    at_by : (v : Bool) → is_tag d ≡ v → (if v then option_map suc (peer_place ds) else Some 0) ≡ Some place
    at_by v t = sym (ap (λ b. if b then option_map suc (peer_place ds) else Some 0) t) ∙ at

    behind : ((n : ℕ) → peer_place ds ≡ Some n → IsServed (get_or (later_fars ps) n None) (get_or (later_fars os) n None)) → (o : Option ℕ) → option_map suc o ≡ Some place → peer_place ds ≡ o
        → IsServed (get_or ps place None) (get_or os place None)
    behind later None e is = absurd cc
    behind later (Some n) e is =
        let same : suc n ≡ place = cc in
        subst (λ k. IsServed (get_or ps k None) (get_or os k None)) same (served_later ps os n (later n is))

    by_tag : (v : Bool) → is_tag d ≡ v → ((n : ℕ) → peer_place ds ≡ Some n → IsServed (get_or (later_fars ps) n None) (get_or (later_fars os) n None))
        → IsServed (get_or ps place None) (get_or os place None)
    by_tag true t later = behind later (peer_place ds) (at_by true t) refl
    by_tag false t later =
        let same : 0 ≡ place = (let e : Some 0 ≡ Some place = at_by false t in cc) in
        subst (λ k. IsServed (get_or ps k None) (get_or os k None)) same (served_first ps os (s.0 t))

-- the device with an identifier, of which no other has it
there_with : (P : Device → Type 0) (own : List ℕ) (before : List Device) (d : Device) (behind : List Device) → device_id d ≡ own → AreSound (map kept (before ++ d ∷ behind)) → P d
    → OfPlaced P (device_with own (before ++ d ∷ behind))
there_with P own [] d behind named sound p = subst (λ v. OfPlaced P (if v then Some d else device_with own behind)) (sym (ap (λ i. pointwise nat_eq i own) named ∙ pointwise_self own)) p
there_with P own (b ∷ before) d behind named sound p =
    subst (λ v. OfPlaced P (if v then Some b else device_with own (before ++ d ∷ behind))) (sym (is_other b before d behind own named sound.1)) (there_with P own before d behind named sound.2 p)

-- a tag is sent the frames as soon as it is selected
tag_first : (frames : List Signal) (d : Device) → is_tag d ≡ true → raw_first (seen_of d) frames ≡ Sends [] frames
tag_first frames (T2 d) tag = refl
tag_first frames (T4 d) tag = refl
tag_first frames (Peer d) tag = absurd cc
tag_first frames (T5 p) tag = refl
tag_first frames (T3 p) tag = refl

tag_unlinked : (frames : List Signal) (d : Device) (ns : List Note) → is_tag d ≡ true → raw_linked frames (seen_of d) ns ≡ false
tag_unlinked frames (T2 d) ns tag = refl
tag_unlinked frames (T4 d) ns tag = refl
tag_unlinked frames (Peer d) ns tag = absurd cc
tag_unlinked frames (T5 p) ns tag = refl
tag_unlinked frames (T3 p) ns tag = refl

module _ (ends : Ends) (peers : Peers) (old : Air Device) (id : DeviceId) (frames : List Signal) (counts : List ℕ) (idle : IsIdle old) (places : HasPlaces (under ends peers None old))
    (may : MayRaw (state_at (under ends peers None old)) id frames) where
  abbrev before : Machines
  before = under ends peers None old

  abbrev st : State
  st = state_at before

  abbrev J : Joins
  J = record { own = []; far = counts }

  abbrev c : Command
  c = Raw id frames

  abbrev at_first : FarEnd → Choosing FarEnd
  at_first far = record { end = far; numbers = counts }

  module _ (mid : Air Device) (place : ℕ) (s : SelectsAt id place (moment old) (moment mid)) where
    abbrev hs : List Note
    hs = s.selects.asked.notes

    abbrev chosen : Going air (λ ks. asks (selecting id ks)) (moment old) (moment mid) hs
    chosen = s.selects.asked.going

    same_mid : map kept mid.listeners ≡ map kept old.listeners
    same_mid = s.selects.asked.same

    -- the peers are where they were
    both_stay : (peers_in mid.listeners ≡ peers_in old.listeners) × (peer_place mid.listeners ≡ peer_place old.listeners)
    both_stay =
        subst (λ (w : World Device). (peers_in w.listeners ≡ peers_in old.listeners) × (peer_place w.listeners ≡ peer_place old.listeners))
        (sym (ap (λ (m : Moment (World Device)). m.world) chosen.moment))
        (peers_stay (moment old).world chosen.events)

    pub same_place : peer_place mid.listeners ≡ peer_place old.listeners
    same_place = both_stay.1

    pub place_served : (n : ℕ) → peer_place mid.listeners ≡ Some n → IsServed (get_or peers.numbers n None) (get_or ends n None)
    place_served n at = served_place old.listeners peers.numbers ends n (sym same_place ∙ at) places.served

    pub lit_mid : mid.lit ≡ true
    lit_mid = ap (λ (w : World Device). w.lit) s.stands.world

    -- a peer that was selected is the first
    pub peer_stands : is_tag s.device ≡ false → peer_place old.listeners ≡ Some place
    peer_stands peer =
        let split : mid.listeners ≡ s.stands.before ++ s.device ∷ s.stands.behind = ap (λ (w : World Device). w.listeners) s.stands.world in
        sym same_place ∙ ap peer_place split
        ∙ first_peer s.stands.before s.device s.stands.behind peer (subst (λ ls. peers_in ls ≤ 1) split (subst (λ n. n ≤ 1) (sym both_stay.0) may.one)) ∙ ap Some s.stands.at

    -- room for a link was wanting
    pub room_cut_raw : CutFront J st c mid.trace (state_at (under ends peers None mid))
    room_cut_raw = parts.cut_now ends peers old id frames counts idle places may mid hs chosen

    no_break : 0 < breaks chosen.events → ⊥
    no_break some = let is : ◌≡◌ {A = Result SeenKind PollFault} (Ok (seen_of s.device)) (Err faults.FieldLost) = s.selects.lost.1 some in cc

    -- It is a tag.
    module _ (tag : is_tag s.device ≡ true) (at : ℕ) (far : FarEnd) (shows : Shows ends peers old id frames counts idle places may at far) where
      tag_opening : FarGoing devices device_linked peer_ends (linking id forged_general) (moment old) (moment mid) hs at ends (at_first far) (at_first far)
      tag_opening = selects_far peer_ends ends_table id forged_general (moment old) (moment mid) hs chosen at ends (at_first far)

      tag_none : 0 < breaks tag_opening.events → ⊥
      tag_none some =
          let same : tag_opening.events ≡ chosen.events =
          sym (ap (λ (m : Moment WholeWorld). m.trace) tag_opening.moment ∙ ap (λ t. t ++ tag_opening.events) idle.quiet) ∙ trace_is old mid (λ ks. asks (selecting id ks)) hs chosen idle in
          no_break (subst (λ xs. 0 < breaks xs) same some)

      pub tag_outcome : (came : HeardEach) (new : Air Device) (after : Choosing FarEnd) → SendsCounted mid (at_first far) frames new after came
          → (peer_place old.listeners ≡ None)
          ⊎ ((n : ℕ) × ((e : FarEnd) → shows.with' e ≡ slice_set ends at (Some e)) × (get_or ends at None ≡ Some far) × (peer_place old.listeners ≡ Some at) × (get_or peers.numbers at None ≡ Some n))
          → sent.Outcome ends peers old id frames counts idle places may (under (shows.with' after.end) peers None new) (told_each came)
      tag_outcome came new after x may_halt =
          sent.outcome ends peers old id frames counts idle places may at far shows mid (at_first far) hs [] (seen_of s.device) tag_opening refl
          (λ ks. selecting_more id hs ks (Ok (seen_of s.device)) s.selects.told)
          (tag_first frames s.device tag) tag_none false (λ ks e. tag_unlinked frames s.device ks tag) (λ e. peers) (λ e. absurd (let clash : false ≡ true = e in cc)) (λ e. refl) (λ e. refl)
          (λ b e long. refl) came new after x may_halt

    -- It is the peer, and ATR_REQ was asked of it.
    module _ (peer : is_tag s.device ≡ false) (far : FarEnd) (there : get_or ends place None ≡ Some far) (one : Air Device) (half : Choosing FarEnd) (came : Result (InitState × ArrayVec ℕ) EndCause)
        (o : Opens (RestartsCounted serving) (AnswersCounted serving) mid (at_first far) one half forged_general place s.device came) where
      here : peer_place old.listeners ≡ Some place
      here = peer_stands peer

      abbrev shows : Shows ends peers old id frames counts idle places may place far
      shows = peer_shows ends peers old id frames counts idle places may place far here there

      told : selecting id hs ≡ Told (Ok kinds.Peer) []
      told = s.selects.told ∙ ap (λ (k : DeviceKind). Told (Ok (seen_by k)) []) (peer_kind s.device peer)

      opening : FarGoing devices device_linked peer_ends (linking id forged_general) (moment old) (moment one) (hs ++ o.notes) place ends (at_first far) half × (half.numbers ≡ counts)
      opening =
          opens_far (RestartsCounted serving) (AnswersCounted serving) peer_ends (λ x. x) ends_table (counted_step serving) id forged_general place s.device came old mid one (at_first far) half hs
          chosen told s.stands peer o ends

      abbrev first_notes : List Note
      first_notes = hs ++ o.notes

      selected_on : (ks : List Note) → selecting id (first_notes ++ ks) ≡ Told (Ok kinds.Peer) (o.notes ++ ks)
      selected_on ks = ap (selecting id) (append_assoc hs o.notes ks) ∙ selecting_more id hs (o.notes ++ ks) (Ok kinds.Peer) told

      selected_first : selecting id first_notes ≡ Told (Ok kinds.Peer) o.notes
      selected_first = selecting_more id hs o.notes (Ok kinds.Peer) told

      keeps_end : KeepsEnd far half.end
      keeps_end = times_keep forged_general o.times far half.end (times_of forged_general o.times (at_first far) half o.restarted)

      until : opening.0.events ≡ chosen.events ++ o.speaks.events
      until =
          sym (ap (λ (m : Moment WholeWorld). m.trace) opening.0.moment ∙ ap (λ t. t ++ opening.0.events) idle.quiet) ∙ o.speaks.trace
          ∙ ap (λ t. t ++ o.speaks.events) (trace_is old mid (λ ks. asks (selecting id ks)) hs chosen idle)

      long_one : length one.listeners ≡ length old.listeners
      long_one = stay_long old.listeners one.listeners (parts.far_stays ends peers old id frames counts idle places may place far (linking id forged_general) one first_notes half opening.0).stay

      asked_so : Going bench_air (rawing id frames) (seen_at device_linked peer_ends (moment old) ends counts) (seen_at device_linked peer_ends (moment one) (shows.with' half.end) half.numbers)
          first_notes
      asked_so =
          let q = parts.to_bench ends peers old id frames counts idle places may place far shows (linking id forged_general) one first_notes half long_one opening.0 in
          record {
            events = q.events;
            moment = q.moment;
            turns = q.turns;
            each = due_weaker (rawing id frames) (linking id forged_general) (λ ns n h d. opens_then id frames ns n h d) [] q.events q.each;
            fates = q.fates;
            fresh = q.fresh;
            known = q.known;
          }

      -- No link was opened.
      abbrev Stood : EndCause → Rawing → Type 0
      Stood causes.FieldLost x = x ≡ Unlinked causes.FieldLost
      Stood causes.SixBad x = x ≡ Unlinked causes.SixBad
      Stood causes.Memory x = are_sent x ≡ false
      Stood causes.Protocol x = Unit {0}

      stood_by : (why : EndCause) (x : Rawing) (w : Standing) → AnswersAtr true o.notes w (Err why) → Unopened w x → Stood why x
      stood_by causes.Protocol x w h u = tt
      stood_by causes.FieldLost x (Asking bad []) (ns, f, split, e) u = absurd (not_told causes.FieldLost _ (λ q. cc) e)
      stood_by causes.FieldLost x (Asking bad (k ∷ ks)) h u = absurd cc
      stood_by causes.FieldLost x (Broken asking.FieldLost cs) h u = u
      stood_by causes.FieldLost x (Broken asking.SixBad cs) h u = absurd cc
      stood_by causes.FieldLost x (Broken asking.Memory cs) h u = absurd u
      stood_by causes.FieldLost x (Broken asking.Protocol cs) h u = absurd u
      stood_by causes.FieldLost x Astray h u = absurd h
      stood_by causes.SixBad x (Asking bad []) (ns, f, split, e) u = absurd (not_told causes.SixBad _ (λ q. cc) e)
      stood_by causes.SixBad x (Asking bad (k ∷ ks)) h u = absurd cc
      stood_by causes.SixBad x (Broken asking.FieldLost cs) h u = absurd cc
      stood_by causes.SixBad x (Broken asking.SixBad cs) h u = u
      stood_by causes.SixBad x (Broken asking.Memory cs) h u = absurd u
      stood_by causes.SixBad x (Broken asking.Protocol cs) h u = absurd u
      stood_by causes.SixBad x Astray h u = absurd h
      stood_by causes.Memory x (Asking bad []) (ns, f, split, e) u = absurd (not_told causes.Memory _ (λ q. cc) e)
      stood_by causes.Memory x (Asking bad (k ∷ ks)) h u = ap are_sent u
      stood_by causes.Memory x (Broken asking.FieldLost cs) h u = absurd cc
      stood_by causes.Memory x (Broken asking.SixBad cs) h u = absurd cc
      stood_by causes.Memory x (Broken asking.Memory cs) h u = absurd u
      stood_by causes.Memory x (Broken asking.Protocol cs) h u = absurd u
      stood_by causes.Memory x Astray h u = absurd h

      abbrev first_stand : Rawing
      first_stand = raw_behind frames kinds.Peer o.notes

      stood : (why : EndCause) → came ≡ Err why → Stood why first_stand
      stood why is =
          let w : Standing = stand 0 (atr_frame forged_general ∷ []) o.notes in
          stood_by why first_stand w (subst (AnswersAtr true o.notes w) is o.answers)
          (stays_unopened frames o.notes (due_driven devices (RestartsCounted serving) (AnswersCounted serving) (atr_next forged_general) o.notes [] mid (at_first far) one half o.speaks.turns))

      unlinked_so : are_sent first_stand ≡ false → raw_linked_then frames (selecting id first_notes) ≡ false
      unlinked_so e = ap (raw_linked_then frames) selected_first ∙ e

      abbrev ends_one : Ends
      ends_one = slice_set ends place (Some half.end)

      abbrev events_one : List Event
      events_one = parts.es ends peers old id frames counts idle places may one ends_one half.numbers first_notes asked_so

      parts_one : events_one ≡ chosen.events ++ o.speaks.events
      parts_one =
          sym (parts.trace ends peers old id frames counts idle places may one ends_one half.numbers first_notes asked_so) ∙ o.speaks.trace
          ∙ ap (λ t. t ++ o.speaks.events) (trace_is old mid (λ ks. asks (selecting id ks)) hs chosen idle)

      served_one : AreServed one.listeners peers.numbers ends_one
      served_one =
          parts.served_stay old.listeners one.listeners peers.numbers ends_one (parts.stays ends peers old id frames counts idle places may one ends_one half.numbers first_notes asked_so).stay
          (set_served old.listeners peers.numbers ends place far half.end there keeps_end places.served)

      ended_at : (why : EndCause) (answer : Answer) → came ≡ Err why → told_loss why ≡ Some answer → first_stand ≡ Unlinked why → ObeyedBy J before (under ends_one peers None one) c answer
      ended_at why answer is told_so at =
          let lost = lost_is why answer told_so in
          parts.obeyed ends peers old id frames counts idle places may one ends_one half.numbers first_notes asked_so answer peers
          (parts.none_peers ends peers old id frames counts idle places may one ends_one half.numbers first_notes asked_so (unlinked_so (ap are_sent at)) (Some answer)) refl refl
          (shows.long half.end) served_one (ap (then_raws frames) selected_first ∙ ap raw_due at)
          (record {
            polled = Ok kinds.Peer;
            behind = o.notes;
            selected = ap (selecting id) asked_so.known ∙ selected_first;
            cause = tt;
            ends = ap told_rawing at ∙ told_so;
            lost = (
              (λ l. subst (λ xs. 0 < breaks xs) (sym parts_one) (more_breaks chosen.events o.speaks.events (o.lost.0 (is ∙ ap Err (lost.1 l))))),
              (λ some. lost.0 (let both : ◌≡◌ {A = Result (InitState × ArrayVec ℕ) EndCause} (Err why) (Err causes.FieldLost) = sym is
                  ∙ o.lost.1 (rest_breaks chosen.events o.speaks.events no_break (subst (λ xs. 0 < breaks xs) parts_one some)) in cc)),
            );
            noisy = λ six. subst (λ xs. 0 < noise xs) (sym parts_one) (more_noise chosen.events o.speaks.events (o.noisy (is ∙ ap Err (six_is why answer told_so six))));
          })
          (parts.none_opens ends peers old id frames counts idle places may one ends_one half.numbers first_notes asked_so (unlinked_so (ap are_sent at)))

      pub ended_raw : (why : EndCause) (answer : Answer) → came ≡ Err why → told_loss why ≡ Some answer → ObeyedBy J before (under ends_one peers None one) c answer
      ended_raw causes.FieldLost answer is told_so = ended_at causes.FieldLost answer is told_so (stood causes.FieldLost is)
      ended_raw causes.SixBad answer is told_so = ended_at causes.SixBad answer is told_so (stood causes.SixBad is)
      ended_raw causes.Protocol answer is told_so = absurd cc
      ended_raw causes.Memory answer is told_so = absurd cc

      -- memory was wanting
      pub unopened_cut_raw : came ≡ Err causes.Memory → CutFront J st c one.trace (state_at (under ends_one peers None one))
      unopened_cut_raw is =
          parts.cut_off ends peers old id frames counts idle places may one ends_one half.numbers first_notes asked_so peers
          (parts.none_peers ends peers old id frames counts idle places may one ends_one half.numbers first_notes asked_so (unlinked_so (stood causes.Memory is)) None)
          (parts.none_opens ends peers old id frames counts idle places may one ends_one half.numbers first_notes asked_so (unlinked_so (stood causes.Memory is)))

      -- ATR_RES came, and the frames were sent.
      module _ (p : InitState × ArrayVec ℕ) (is : came ≡ Ok p) (n : ℕ) (numbered : get_or peers.numbers place None ≡ Some n) where
        begun_end : half.end ≡ restarted serving far forged_general
        begun_end = begun_anew forged_general o.times far half.end (times_of forged_general o.times (at_first far) half o.restarted) (subst (λ r. IfOk r (λ q. 0 < o.times)) is o.begun)

        stood_sent : first_stand ≡ Sends [] frames
        stood_sent = opened_by frames o.notes p (stand 0 (atr_frame forged_general ∷ []) o.notes) refl (subst (AnswersAtr true o.notes (stand 0 (atr_frame forged_general ∷ []) o.notes)) is o.answers)

        none_first : 0 < breaks opening.0.events → ⊥
        none_first some =
            let lost_at : came ≡ Err causes.FieldLost = o.lost.1 (rest_breaks chosen.events o.speaks.events no_break (subst (λ xs. 0 < breaks xs) until some)) in
            let clash : ◌≡◌ {A = Result (InitState × ArrayVec ℕ) EndCause} (Ok p) (Err causes.FieldLost) = sym is ∙ lost_at in
            cc

        abbrev old_at : OldAt old.listeners place s.device
        old_at =
            old_stands old.listeners s.stands.before s.device s.stands.behind place
            (sym same_mid ∙ ap (λ (w : World Device). map kept w.listeners) s.stands.world) s.stands.at

        abbrev stands : StandsAt (bytes_of id) old.listeners place
        stands = record { before = old_at.before; device = old_at.device; behind = old_at.behind; split = old_at.split; at = old_at.at; named = ap (λ (k : Kept). k.fixed.id) old_at.same ∙ s.named }

        first_numbered : IsFirstWith n place peers.numbers
        first_numbered = first_of (next_number peers) n place peers.numbers places.apart numbered

        placed : placed_under (bytes_of id) old.listeners peers.numbers ≡ Some n
        placed =
            let sound : AreSound (map kept (stands.before ++ stands.device ∷ stands.behind)) = subst (λ xs. AreSound (map kept xs)) stands.split idle.tame.sound in
            let many : length peers.numbers ≡ length (stands.before ++ stands.device ∷ stands.behind) = places.numbers ∙ ap length stands.split in
            ap (λ ls. placed_under (bytes_of id) ls peers.numbers) stands.split
            ∙ under_at stands.before stands.device stands.behind (bytes_of id) peers.numbers stands.named sound many ∙ ap (λ k. get_or peers.numbers k None) stands.at ∙ numbered

        -- it is placed, with its identifier
        is_peer : IsPeerPlaced st id
        is_peer =
            let tag : is_tag stands.device ≡ false = sym (same_tag s.device stands.device (ap (λ (k : Kept). k.fixed.kind) (sym old_at.same))) ∙ peer in
            let sound : AreSound (map kept (stands.before ++ stands.device ∷ stands.behind)) = subst (λ xs. AreSound (map kept xs)) stands.split idle.tame.sound in
            subst (λ ls. OfPlaced (λ d. is_tag d ≡ false) (device_with (bytes_of id) ls)) (sym stands.split)
            (there_with (λ d. is_tag d ≡ false) (bytes_of id) stands.before stands.device stands.behind stands.named sound tag)

        abbrev pub range_of : FarEnd → LinkRange
        range_of e = record { peer = n; start = length far.service.accepted; end = Some (length e.service.accepted) }

        range_is : (b : Air Device) (e : FarEnd) → length b.listeners ≡ length old.listeners
            → with_link (range_of e) peers ≡ peers_forged true st id (state_at (under (shows.with' e) peers None b)).world.fars
        range_is b e long =
            let os : Ends = slice_set ends place (Some e) in
            let fars : Ends = shown device_linked peer_ends b.listeners os in
            let start : accepted_at n peers st.world.fars ≡ length far.service.accepted =
            accepted_shown n peers.numbers old.listeners ends places.numbers ∙ ap accepted_by (first_end n place peers.numbers first_numbered ends ∙ there) in
            let end : accepted_at n peers fars ≡ length e.service.accepted =
            accepted_shown n peers.numbers b.listeners os (places.numbers ∙ sym long) ∙ ap accepted_by (first_end n place peers.numbers first_numbered os ∙ set_there ends place far e there) in
            ap (λ k. with_link (record { peer = n; start = k; end = Some (length e.service.accepted) }) peers) (sym start)
            ∙ ap (λ k. with_link (record { peer = n; start = accepted_at n peers st.world.fars; end = Some k }) peers) (sym end)
            ∙ ap (λ x. with_link_if x st.world.fars fars peers) (sym placed)

        pub peer_outcome : (got : HeardEach) (new : Air Device) (after : Choosing FarEnd) → SendsCounted one half frames new after got
            → sent.Outcome ends peers old id frames counts idle places may (under (slice_set ends place (Some after.end)) (with_link (range_of after.end) peers) None new) (told_each got)
        peer_outcome got new after x =
            sent.outcome ends peers old id frames counts idle places may place far shows one half first_notes o.notes kinds.Peer opening.0 (ap setting_of begun_end) selected_on stood_sent none_first
            true
            (λ ks e. ap are_sent (stands_on frames o.notes ks (Activates 0) ∙ ap (λ y. raw_stand frames y ks) stood_sent) ∙ e) (λ e. with_link (range_of e) peers) (λ e. is_peer) (λ e. refl)
            (λ e. refl) range_is got new after x
            (inr (n, (λ e. refl), there, here, numbered))
