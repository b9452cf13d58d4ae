-- Payloads that were written by hand were sent to a peer, or they were not: it wasn't found, it was a tag, or no link was opened.
use Rattle.std.proofs.Common.{◌≡◌, ◌↔◌, inl, inr, ℕ, ◌<◌, List, [], ◌∷◌, ◌++◌, map, length, Bool, true, false, if◌then◌else◌, Option, Some, None, Result, Ok, Err, refl, sym, ◌∙◌, ap, subst}
use Rattle.std.proofs.Common.{append_assoc}
use Rattle.std.specs.Prelude.{get_or, slice_set, drop, IfOk}
use Rattle.std.specs.List.{AllByRecursion}
use Rattle.std.proofs.Math.Seq.{drop-append_seam}
use Rattle.nfc_base.specs.Choosing.{Choosing}
use Rattle.nfc_base.specs.declared.event.Event.{Event}
use Rattle.nfc_base.specs.declared.event.Event.TheVariants.{Request}
use Rattle.nfc_base.specs.declared.event.Fate.{Fate}
use Rattle.nfc_base.specs.declared.event.Fate.TheVariants.{Pass}
use Rattle.nfc_base.specs.declared.carrier.EndCause.{EndCause}
use Rattle.nfc_base.specs.declared.carrier.EndCause.TheVariants as causes
use Rattle.nfc_base.specs.declared.tag_link.AskFault.TheVariants as asking
use Rattle.nfc_base.specs.LinkTurns.{bad_receptions}
use Rattle.nfc_base.specs.Trace.{noise, breaks}
use Rattle.air_core.specs.World.{World}
use Rattle.air_core.specs.Turn.{Air, moment}
use Rattle.air_core.specs.Conversation.{Moment, Note, Next, Over, Going, receptions, queue_after}
use Rattle.air_core.specs.laws.Turning.{due_weaker, receptions-append}
use Rattle.air_core.specs.Waits.{Standing, Asking, Broken, Astray, stand}
use Rattle.air_core.specs.PlainTags.{IsAlone}
use Rattle.arrayvec.specs.ArrayVec.{ArrayVec}
use Rattle.nfca_poll.specs.declared.fault.PollFault.{PollFault}
use Rattle.nfca_poll.specs.declared.fault.PollFault.TheVariants as faults
use Rattle.dep_link.specs.Activating.{atr_frame}
use Rattle.dep_link.specs.AnyTarget.{AnswersAtr, atr_next}
use Rattle.dep_link.specs.Asking.{HasPeer}
use Rattle.dep_link.specs.DepLinks.{first_seen}
use Rattle.dep_link.specs.Initiator.{InitState}
use Rattle.far_air.specs.FarEnds.{by_link}
use Rattle.far_air.specs.FarWorld.{with_numbers}
use Rattle.far_air.specs.FarLaws.{seen, seen_at, seen_with, shown}
use Rattle.far_air.specs.FarTurns.{FarGoing}
use Rattle.far_air.proofs.FarTurns.{far_goes_then}
use Rattle.far_air.proofs.Quietly.{quiet_goings}
use Rattle.peer_air.specs.PeerFars.{peer_ends}
use Rattle.peer_air.specs.SwapTurns.{Stands as StandsThere}
use Rattle.peer_air.proofs.PeerEnds.{counted_step}
use Rattle.llcp_link.specs.Counting.{AnswersCounted, RestartsCounted, StopsCounted}
use Rattle.llcp_link.specs.State.{restarted}
use Rattle.nfc_base.specs.Prefix.{IsPrefix}
use Rattle.snep_core.specs.Server.{serving}
use Rattle.link_calls.specs.Arriving.{Arrives, ArrivesCut}
use Rattle.link_calls.specs.Carrying.{IsWalked, IsWalkEnded, IsWalkShort}
use Rattle.link_calls.specs.Exchanging.{Sending, by_hand, sending}
use Rattle.link_calls.specs.Staying.{setting_of}
use Rattle.link_calls.specs.Walk.{Walk, BrokenBy, Comes, walk_at, walk_due, walk_due_at, walk_stand}
use Rattle.link_calls.specs.WalkTurns.{HaltsAt, WalkTurns, WalkFront}
use Rattle.bench_script.specs.declared.command.Command.{Command}
use Rattle.bench_script.specs.declared.command.Command.TheVariants.{Forge}
use Rattle.bench_script.specs.declared.command.DeviceId.TheVariants.{A}
use Rattle.bench_devices.specs.declared.device.Device.{Device}
use Rattle.bench_devices.specs.declared.device.Device.TheVariants.{T2, T4, Peer, T5, T3}
use Rattle.bench_devices.specs.declared.polling.SeenKind.{SeenKind}
use Rattle.bench_devices.specs.declared.polling.SeenKind.TheVariants as kinds
use Rattle.bench_devices.specs.Answering.{HasPollCause}
use Rattle.bench_devices.specs.Beside.{TalkLeaves}
use Rattle.bench_devices.specs.Choosing.{StandsAt}
use Rattle.bench_devices.specs.Device.{air, devices, device_end, device_id, device_linked, seen_of, is_tag, stable_of, StablePart}
use Rattle.bench_devices.specs.Hearing.{IsAnswered}
use Rattle.bench_devices.specs.Keeping.{Kept, kept, AreSound, AreTame, ghosts}
use Rattle.bench_devices.specs.Kinds.{DeviceKind, seen_by}
use Rattle.bench_devices.specs.Opening.{linking, Opens, Opened, OpeningEnds}
use Rattle.bench_devices.specs.Phases.{AreTidy, Selects, SelectsAt, SelectionCut, IsIdle}
use Rattle.bench_devices.specs.Polling.{Told, asks, selecting}
use Rattle.bench_devices.proofs.far_ends.BesideLink.{leaves_both}
use Rattle.bench_devices.proofs.far_ends.LinkFar.{opens_far}
use Rattle.bench_devices.proofs.kinds.PeerLinks.{devices_link}
use Rattle.bench_devices.proofs.kinds.TagOrPeer.{peer_kind, same_tag}
use Rattle.bench_devices.proofs.far_ends.TalkTurns.{heard_leaves}
use Rattle.bench_devices.proofs.kinds.Tidy.{going_tidy}
use Rattle.bench_world.specs.declared.entry.Answer.{Answer}
use Rattle.bench_world.specs.declared.entry.Answer.TheVariants as answers
use Rattle.bench_world.specs.declared.entry.Loss.TheVariants as losses
use Rattle.bench_world.specs.declared.inbox.LinkRange.{LinkRange}
use Rattle.bench_world.specs.Answering.{poll_answer}
use Rattle.bench_world.specs.Arriving.{ArrivesWithin, ArrivesCutWithin}
use Rattle.bench_world.specs.Calls.{OfEnd, told_loss, with_accepted}
use Rattle.bench_world.specs.private.ForgedAt.{ForgeStops}
use Rattle.bench_world.specs.Forging.{Forging, Activates, Exchanges, Unlinked, ForgeEnds, ForgeTells, forge_due, forge_stand, forged_general, forging, is_linked, linked_then, opens_link, then_forges}
use Rattle.bench_world.specs.Forging.{told_forging, told_walk}
use Rattle.bench_world.specs.Legal.{State, Given, Joins, MayForge, CutFront, ForgeCutLeaves, ForgeLaw, ForgeLeaves, FrontOf, LeavesStable, peers_after, peers_forged, world_after}
use Rattle.bench_world.specs.Halting.{ForgeHalts}
use Rattle.bench_world.specs.Linking.{IsFieldLost}
use Rattle.bench_world.specs.Links.{accepted_at, accepted_by, end_numbered, with_link, with_link_if, with_link_within}
use Rattle.bench_world.specs.Obeying.{Machines, HasPlaces, ObeyedBy, linked_at, state_at, under}
use Rattle.bench_world.specs.Opened.{IsServed, AreServed, AreNumbered, IsFirstWith}
use Rattle.bench_world.specs.Peers.{Peers, next_number, placed_under}
use Rattle.bench_world.specs.World.{FarEnd, WholeWorld, Stable, bench_air, stable}
use Rattle.bench_world.proofs.link_law.Arrived.{same_accepted}
use Rattle.bench_world.proofs.link_law.BroughtNothing.{arrives_behind, arrives_cut_behind, opening_brings_nothing}
use Rattle.bench_world.proofs.calm.CallCalm.{IsCalm, chain_calm}
use Rattle.bench_world.proofs.forged.ForgeNotes.{At_first, due_driven, never_lit, opened_by, opens_then, selecting_unlinked, selects_first, stays_unopened, Unopened}
use Rattle.bench_world.proofs.forged.ForgeParts.{all_both, first_quiet, grows, lost_is, more_breaks, more_noise, never_quiet, not_told, poll_not_ended, rest_breaks, rest_quiet, six_is, times_of}
use Rattle.bench_world.proofs.forged.ForgingDue.{exchanges, stands_on}
use Rattle.bench_world.proofs.tags.Fronts.{Ends, ends_table}
use Rattle.bench_world.proofs.tags.Legality.{selecting_more, told_lost, poll_lost, trace_is}
use Rattle.bench_world.proofs.open_link.LinkObeyed.{OldAt, none_selecting, old_stands}
use Rattle.bench_world.proofs.open_link.OnLink.{bare, bare_alike, bare_more, end_shown, kept_long, kept_stable, served_same, served_set, set_long}
use Rattle.bench_world.proofs.devices.Removing.{under_at}
use Rattle.bench_world.proofs.open_link.Restarted.{KeepsEnd, begun_anew, times_keep, far_there, far_set, set_there, set_rests, set_served, served_at, first_of}
use Rattle.bench_world.proofs.open_link.TalkFar.{due_talk, talk_leaves}
use Rattle.bench_world.proofs.devices.PlacesKept.{first_end}
use Rattle.bench_world.proofs.open_link.Unlinking.{accepted_shown}
use Rattle.bench_world.proofs.open_link.WalkNotes.{walk_broken, walk_lost, walks_plain}
use Rattle.bench_world.proofs.calm.WholeNotes.{whole_notes}

module _ (ends : Ends) (peers : Peers) (old : Air Device) (id : List ℕ) (payloads : List (List ℕ)) (counts : List ℕ) (idle : IsIdle old) (places : HasPlaces (under ends peers None old))
    (may : MayForge payloads) where
  abbrev before : Machines
  before = under ends peers None old

  abbrev st : State
  st = state_at before

  abbrev J : Joins
  J = record { own = []; far = counts }

  abbrev c : Command
  c = Forge id payloads

  abbrev given : Given
  given = record { asked = []; joins = J }

  -- What was due was asked, in the world with far ends.
  module _ (new : Air Device) (os : Ends) (left : List ℕ) (notes : List Note)
      (g : Going bench_air (forging id payloads) (seen_at device_linked peer_ends (moment old) ends counts) (seen_at device_linked peer_ends (moment new) os left) notes)
      (same : map kept new.listeners ≡ map kept old.listeners) where
    abbrev es : List Event
    es = g.events

    trace : new.trace ≡ es
    trace = ap (λ (m : Moment WholeWorld). m.trace) g.moment ∙ ap (λ t. t ++ es) idle.quiet

    world : seen device_linked peer_ends (moment new).world os [] ≡ world_after st J c es
    world = ap (λ (m : Moment WholeWorld). with_numbers m.world []) g.moment

    front : (told : Option Answer) (p : Peers) → p ≡ peers_after st J c es told → FrontOf st given c es told (state_at (under os p None new))
    front told p peers_so =
        let S : WholeWorld → List Fate → Peers → State = λ w q x. record { world = w; queue = q; peers = x; link = None } in
        let w : WholeWorld = world_after st J c es in
        record {
          accepted = may;
          asks = refl;
          takes = refl;
          turns = g.turns;
          fates = g.fates;
          each = g.each;
          after = ap (λ x. S x new.fates p) world ∙ ap (λ q. S w q p) (ap (λ (m : Moment WholeWorld). m.queue) g.moment) ∙ ap (λ x. S w (queue_after old.fates es) x) peers_so;
        }

    as_many : length new.listeners ≡ length old.listeners
    as_many = kept_long old.listeners new.listeners same

    opens_is : opens_link id payloads es ≡ linked_then payloads (selecting (A id) notes)
    opens_is = ap (λ ns. linked_then payloads (selecting (A id) ns)) g.known

    -- what stays
    devices_then : (stable (world_after st J c es)).devices ≡ (stable st.world).devices
    devices_then = ap (λ (w : WholeWorld). (stable w).devices) (sym world) ∙ kept_stable old.listeners new.listeners same

    stays_by : bare new.listeners os ≡ bare old.listeners ends → LeavesStable st J c es
    stays_by e =
        let S : List StablePart → Ends → Stable = λ ds xs. record { devices = ds; ends = xs } in
        ap stable (sym world) ∙ ap (λ ds. S ds (bare new.listeners os)) (kept_stable old.listeners new.listeners same) ∙ ap (S (map stable_of old.listeners)) e

    none_peers : linked_then payloads (selecting (A id) notes) ≡ false → (told : Option Answer) → peers ≡ peers_after st J c es told
    none_peers none told = ap (λ v. peers_forged v st (A id) (world_after st J c es).fars) (sym (opens_is ∙ none))

    places_at : (p : Peers) → p.numbers ≡ peers.numbers → p.gone ≡ peers.gone → length os ≡ length ends → AreServed new.listeners peers.numbers os → HasPlaces (under os p None new)
    places_at p numbers gone long served = record {
      ends = long ∙ places.ends ∙ sym as_many;
      numbers = ap length numbers ∙ places.numbers ∙ sym as_many;
      served = subst (λ xs. AreServed new.listeners xs os) (sym numbers) served;
      apart = subst (λ gs. AreNumbered (length gs) p.numbers) (sym gone) (subst (AreNumbered (next_number peers)) (sym numbers) places.apart);
    }

    obeyed : (answer : Answer) (p : Peers) → p ≡ peers_after st J c es (Some answer) → p.numbers ≡ peers.numbers → p.gone ≡ peers.gone → length os ≡ length ends
        → AreServed new.listeners peers.numbers os
        → AreTidy new.listeners → forging id payloads notes ≡ Over → ForgeLaw st J id payloads es answer → ObeyedBy J before (under os p None new) c answer
    obeyed answer p peers_so numbers gone long served tidy over law =
        let N : Machines = under os p None new in
        record {
          given = given;
          joined = refl;
          front = subst (λ xs. FrontOf st given c xs (Some answer) (state_at N)) (sym trace) (front (Some answer) p peers_so);
          over = ap (λ xs. forging id payloads (receptions xs)) trace ∙ ap (forging id payloads) g.known ∙ over;
          answered = subst (λ xs. ForgeLaw st J id payloads xs answer) (sym trace) law;
          tame = subst AreTame (sym same) idle.tame;
          tidy = tidy;
          places = places_at p numbers gone long served;
          link = tt;
        }

    cut_off : (p : Peers) → p ≡ peers_after st J c es None → ForgeCutLeaves (opens_link id payloads es) st J id payloads es → CutFront J st c new.trace (state_at (under os p None new))
    cut_off p peers_so leaves = subst (λ xs. CutFront J st c xs (state_at (under os p None new))) (sym trace) (given, refl, front None p peers_so, leaves)

  -- While a device is selected no far end has a part.
  selected : (new : Air Device) (hs : List Note) → Going air (λ ks. asks (selecting (A id) ks)) (moment old) (moment new) hs
      → Going bench_air (forging id payloads) (seen_at device_linked peer_ends (moment old) ends counts) (seen_at device_linked peer_ends (moment new) ends counts) hs
  selected new hs k =
      let g : Going air (forging id payloads) (moment old) (moment new) hs = record {
        events = k.events;
        moment = k.moment;
        turns = k.turns;
        each = due_weaker (forging id payloads) (λ ks. asks (selecting (A id) ks)) (λ ns n h d. selects_first id payloads ns n h d) [] k.events k.each;
        fates = k.fates;
        fresh = k.fresh;
        known = k.known;
      } in
      quiet_goings devices device_linked peer_ends devices_link ends_table (forging id payloads) (moment old) (moment new) hs g
      (none_selecting (A id) k.events k.each k.fresh (moment old).world) ends counts

  module _ (new : Air Device) (hs : List Note) (k : Going air (λ ks. asks (selecting (A id) ks)) (moment old) (moment new) hs) (same : map kept new.listeners ≡ map kept old.listeners) where
    abbrev quiet : Going bench_air (forging id payloads) (seen_at device_linked peer_ends (moment old) ends counts) (seen_at device_linked peer_ends (moment new) ends counts) hs
    quiet = selected new hs k

    -- what happened
    happened : es new ends counts hs quiet same ≡ k.events
    happened = sym (trace new ends counts hs quiet same) ∙ trace_is old new (λ ks. asks (selecting (A id) ks)) hs k idle

    none_open : linked_then payloads (selecting (A id) hs) ≡ false
    none_open = selecting_unlinked id payloads (moment old) (moment new) hs k

    stays : LeavesStable st J c (es new ends counts hs quiet same)
    stays = stays_by new ends counts hs quiet same (bare_alike new.listeners old.listeners ends (as_many new ends counts hs quiet same))

    leaves_none : ForgeLeaves (opens_link id payloads (es new ends counts hs quiet same)) st J id payloads (es new ends counts hs quiet same)
    leaves_none =
        subst (λ v. ForgeLeaves v st J id payloads (es new ends counts hs quiet same)) (sym (opens_is new ends counts hs quiet same ∙ none_open)) stays

    -- told by what polling came to, of a device that has no link
    over_now : (answer : Answer) → forging id payloads hs ≡ Over → ForgeTells id old.listeners payloads (es new ends counts hs quiet same) answer
        → ObeyedBy J before (under ends peers None new) c answer
    over_now answer over tells =
        obeyed new ends counts hs quiet same answer peers (none_peers new ends counts hs quiet same none_open (Some answer)) refl refl refl
        (served_same old.listeners new.listeners peers.numbers ends same places.served) (going_tidy (λ ks. asks (selecting (A id) ks)) (moment old) (moment new) hs k idle.tidy) over
        (record { tells = tells; leaves = leaves_none })

    pub cut_now : CutFront J st c new.trace (state_at (under ends peers None new))
    cut_now =
        cut_off new ends counts hs quiet same peers (none_peers new ends counts hs quiet same none_open None)
        (subst (λ v. ForgeCutLeaves v st J id payloads (es new ends counts hs quiet same)) (sym (opens_is new ends counts hs quiet same ∙ none_open)) stays)

  -- it wasn't found
  pub missed_forge : (new : Air Device) (e : PollFault) (answer : Answer) → Selects (A id) (Err e) (moment old) (moment new) → poll_answer e ≡ Some answer
      → ObeyedBy J before (under ends peers None new) c answer
  missed_forge new e answer s is =
      let hs : List Note = s.asked.notes in
      let k : Going air (λ ks. asks (selecting (A id) ks)) (moment old) (moment new) hs = s.asked.going in
      let same : map kept new.listeners ≡ map kept old.listeners = s.asked.same in
      let q = selected new hs k in
      let all : es new ends counts hs q same ≡ k.events = happened new hs k same in
      over_now new hs k same answer (ap (then_forges payloads) s.told)
      (record {
        polled = Err e;
        behind = [];
        selected = ap (selecting (A id)) q.known ∙ s.told;
        cause = subst (HasPollCause (A id) old.listeners (Err e)) (sym all) s.cause;
        ends = is;
        lost = (
          (λ lost. subst (λ xs. 0 < breaks xs) (sym all) (elim lost [ inl dark ↦ s.lost.0 (told_lost e answer is dark) | inr ended ↦ absurd (poll_not_ended e answer is losses.FieldLost ended) ])),
          (λ broken. inl (poll_lost e answer is (s.lost.1 (subst (λ xs. 0 < breaks xs) all broken)))),
        );
        noisy = λ six. absurd (poll_not_ended e answer is losses.SixBad six);
        calm = λ none. tt;
      })

  -- or selecting it was cut off
  pub selection_cut_forge : (new : Air Device) → SelectionCut (A id) (moment old) (moment new) → CutFront J st c new.trace (state_at (under ends peers None new))
  selection_cut_forge new part = cut_now new part.notes part.going part.same

  module _ (mid : Air Device) (place : ℕ) (s : SelectsAt (A id) place (moment old) (moment mid)) where
    abbrev hs : List Note
    hs = s.selects.asked.notes

    abbrev chosen : Going air (λ ks. asks (selecting (A id) ks)) (moment old) (moment mid) hs
    chosen = s.selects.asked.going

    same_mid : map kept mid.listeners ≡ map kept old.listeners
    same_mid = s.selects.asked.same

    -- room for a link was wanting
    pub room_cut_forge : CutFront J st c mid.trace (state_at (under ends peers None mid))
    room_cut_forge = cut_now mid hs chosen same_mid

    no_break : 0 < breaks chosen.events → ⊥
    no_break some = let is : ◌≡◌ {A = Result SeenKind PollFault} (Ok (seen_of s.device)) (Err faults.FieldLost) = s.selects.lost.1 some in cc

    -- it was a tag
    tag_over : (d : Device) → is_tag d ≡ true → then_forges payloads (Told (Ok (seen_of d)) []) ≡ Over
    tag_over (T2 d) tag = refl
    tag_over (T4 d) tag = refl
    tag_over (Peer d) tag = absurd cc
    tag_over (T5 p) tag = refl
    tag_over (T3 p) tag = refl

    tag_ends : (d : Device) → is_tag d ≡ true → ForgeEnds payloads (Ok (seen_of d)) [] answers.WrongKind
    tag_ends (T2 d) tag = refl
    tag_ends (T4 d) tag = refl
    tag_ends (Peer d) tag = absurd cc
    tag_ends (T5 p) tag = refl
    tag_ends (T3 p) tag = refl

    pub tag_forge : is_tag s.device ≡ true → ObeyedBy J before (under ends peers None mid) c answers.WrongKind
    tag_forge tag =
        let q = selected mid hs chosen in
        let all : es mid ends counts hs q same_mid ≡ chosen.events = happened mid hs chosen same_mid in
        over_now mid hs chosen same_mid answers.WrongKind (ap (then_forges payloads) s.selects.told ∙ tag_over s.device tag)
        (record {
          polled = Ok (seen_of s.device);
          behind = [];
          selected = ap (selecting (A id)) q.known ∙ s.selects.told;
          cause = tt;
          ends = tag_ends s.device tag;
          lost = (
            (λ lost. absurd
                (elim lost [
                  | inl dark ↦ (let clash : answers.WrongKind ≡ answers.FieldLost = dark in cc)
                  | inr ended ↦
                      (let clash : answers.WrongKind ≡ answers.LinkEnded losses.FieldLost = ended in cc)
                ])),
            (λ broken. absurd (no_break (subst (λ xs. 0 < breaks xs) all broken))),
          );
          noisy = λ six. absurd (let clash : answers.WrongKind ≡ answers.LinkEnded losses.SixBad = six in cc);
          calm = λ none. tt;
        })

    abbrev old_at : OldAt old.listeners place s.device
    old_at =
        old_stands old.listeners s.stands.before s.device s.stands.behind place
        (sym same_mid ∙ ap (λ (w : World Device). map kept w.listeners) s.stands.world) s.stands.at

    abbrev stands : StandsAt id old.listeners place
    stands = record { before = old_at.before; device = old_at.device; behind = old_at.behind; split = old_at.split; at = old_at.at; named = ap (λ (k : Kept). k.fixed.id) old_at.same ∙ s.named }

    pub served_there : is_tag s.device ≡ false → IsServed (get_or peers.numbers place None) (get_or ends place None)
    served_there peer =
        subst (λ k. IsServed (get_or peers.numbers k None) (get_or ends k None)) stands.at
        (served_at stands.before stands.device stands.behind peers.numbers ends (sym (same_tag s.device stands.device (ap (λ (k : Kept). k.fixed.kind) (sym old_at.same))) ∙ peer)
        (subst (λ ls. AreServed ls peers.numbers ends) stands.split places.served))

    -- It was a peer, and ATR_REQ was asked of it.
    module _ (peer : is_tag s.device ≡ false) (far : FarEnd) (there : get_or ends place None ≡ Some far) (one : Air Device) (half : Choosing FarEnd) (came : Result (InitState × ArrayVec ℕ) EndCause)
        (o : Opens (RestartsCounted serving) (AnswersCounted serving) mid (record { end = far; numbers = counts }) one half forged_general place s.device came) where
      -- its end, with the numbers that are left to it
      abbrev at_first : Choosing FarEnd
      at_first = record { end = far; numbers = counts }

      told : selecting (A id) hs ≡ Told (Ok kinds.Peer) []
      told = s.selects.told ∙ ap (λ (k : DeviceKind). Told (Ok (seen_by k)) []) (peer_kind s.device peer)

      opening : FarGoing devices device_linked peer_ends (linking (A id) forged_general) (moment old) (moment one) (hs ++ o.notes) place ends at_first half × (half.numbers ≡ counts)
      opening =
          opens_far (RestartsCounted serving) (AnswersCounted serving) peer_ends (λ x. x) ends_table (counted_step serving) (A id) forged_general place s.device came old mid one at_first half hs
          chosen told s.stands peer o ends

      to_bench : (next : List Note → Next) (b : Air Device) (ns : List Note) (after : Choosing FarEnd)
          → FarGoing devices device_linked peer_ends next (moment old) (moment b) ns place ends at_first after
          → Going bench_air next (seen_at device_linked peer_ends (moment old) ends counts) (seen_at device_linked peer_ends (moment b) (slice_set ends place (Some after.end)) after.numbers) ns
      to_bench next b ns after g =
          let P : Ends → Type 0 = λ os. Going bench_air next (seen_at device_linked peer_ends (moment old) os counts)
          (seen_at device_linked peer_ends (moment b) (slice_set ends place (Some after.end)) after.numbers) ns in
          let Q : Ends → Type 0 = λ os. Going bench_air next (seen_with device_linked peer_ends (moment old) ends place at_first) (seen_at device_linked peer_ends (moment b) os after.numbers) ns in
          subst P (far_there ends place far there) (subst Q (far_set ends place far after.end there) g)

      -- until ATR_REQ was answered, or its wait ended
      abbrev first_notes : List Note
      first_notes = hs ++ o.notes

      asked_so : Going bench_air (forging id payloads) (seen_at device_linked peer_ends (moment old) ends counts)
          (seen_at device_linked peer_ends (moment one) (slice_set ends place (Some half.end)) half.numbers) first_notes
      asked_so =
          let q = to_bench (linking (A id) forged_general) one first_notes half opening.0 in
          record {
            events = q.events;
            moment = q.moment;
            turns = q.turns;
            each = due_weaker (forging id payloads) (linking (A id) forged_general) (λ ns n h d. opens_then id payloads ns n h d) [] q.events q.each;
            fates = q.fates;
            fresh = q.fresh;
            known = q.known;
          }

      selected_on : (ks : List Note) → selecting (A id) (first_notes ++ ks) ≡ Told (Ok kinds.Peer) (o.notes ++ ks)
      selected_on ks = ap (selecting (A id)) (append_assoc hs o.notes ks) ∙ selecting_more (A id) hs (o.notes ++ ks) (Ok kinds.Peer) told

      selected_first : selecting (A id) first_notes ≡ Told (Ok kinds.Peer) o.notes
      selected_first = selecting_more (A id) hs o.notes (Ok kinds.Peer) told

      keeps_end : KeepsEnd far half.end
      keeps_end = times_keep forged_general o.times far half.end (times_of forged_general o.times at_first half o.restarted)

      same_one : map kept one.listeners ≡ map kept old.listeners
      same_one = o.leaves.same ∙ same_mid

      tidy_one : AreTidy one.listeners
      tidy_one = o.leaves.tidy (going_tidy (λ ks. asks (selecting (A id) ks)) (moment old) (moment mid) hs chosen idle.tidy)

      until_trace : one.trace ≡ opening.0.events
      until_trace = ap (λ (m : Moment WholeWorld). m.trace) opening.0.moment ∙ ap (λ t. t ++ opening.0.events) idle.quiet

      until : opening.0.events ≡ chosen.events ++ o.speaks.events
      until = sym until_trace ∙ o.speaks.trace ∙ ap (λ t. t ++ o.speaks.events) (trace_is old mid (λ ks. asks (selecting (A id) ks)) hs chosen idle)

      -- where all passed ATR_REQ was answered
      heard_whole : noise opening.0.events ≡ 0 → AllByRecursion IsAnswered o.notes
      heard_whole none =
          let rest : noise o.speaks.events ≡ 0 = rest_quiet chosen.events o.speaks.events (subst (λ xs. noise xs ≡ 0) until none) in
          subst (AllByRecursion IsAnswered) o.speaks.known
          (whole_notes (atr_next forged_general) (λ ns e. never_lit (stand 0 (atr_frame forged_general ∷ []) ns) e) [] o.speaks.events o.speaks.each rest (o.calm rest))

      -- No link was opened.
      abbrev Stood : EndCause → Forging → Type 0
      Stood causes.FieldLost x = x ≡ Unlinked causes.FieldLost
      Stood causes.SixBad x = x ≡ Unlinked causes.SixBad
      Stood causes.Memory x = is_linked x ≡ false
      Stood causes.Protocol x = Unit {0}

      stood_by : (why : EndCause) (x : Forging) (w : Standing) → AnswersAtr true o.notes w (Err why) → Unopened w x → Stood why x
      stood_by causes.Protocol x w h u = tt
      stood_by causes.FieldLost x (Asking bad []) (ns, f, split, e) u = absurd (not_told causes.FieldLost _ (λ q. cc) e)
      stood_by causes.FieldLost x (Asking bad (k ∷ ks)) h u = absurd cc
      stood_by causes.FieldLost x (Broken asking.FieldLost cs) h u = u
      stood_by causes.FieldLost x (Broken asking.SixBad cs) h u = absurd cc
      stood_by causes.FieldLost x (Broken asking.Memory cs) h u = absurd u
      stood_by causes.FieldLost x (Broken asking.Protocol cs) h u = absurd u
      stood_by causes.FieldLost x Astray h u = absurd h
      stood_by causes.SixBad x (Asking bad []) (ns, f, split, e) u = absurd (not_told causes.SixBad _ (λ q. cc) e)
      stood_by causes.SixBad x (Asking bad (k ∷ ks)) h u = absurd cc
      stood_by causes.SixBad x (Broken asking.FieldLost cs) h u = absurd cc
      stood_by causes.SixBad x (Broken asking.SixBad cs) h u = u
      stood_by causes.SixBad x (Broken asking.Memory cs) h u = absurd u
      stood_by causes.SixBad x (Broken asking.Protocol cs) h u = absurd u
      stood_by causes.SixBad x Astray h u = absurd h
      stood_by causes.Memory x (Asking bad []) (ns, f, split, e) u = absurd (not_told causes.Memory _ (λ q. cc) e)
      stood_by causes.Memory x (Asking bad (k ∷ ks)) h u = ap is_linked u
      stood_by causes.Memory x (Broken asking.FieldLost cs) h u = absurd cc
      stood_by causes.Memory x (Broken asking.SixBad cs) h u = absurd cc
      stood_by causes.Memory x (Broken asking.Memory cs) h u = absurd u
      stood_by causes.Memory x (Broken asking.Protocol cs) h u = absurd u
      stood_by causes.Memory x Astray h u = absurd h

      abbrev first_stand : Forging
      first_stand = forge_stand payloads (Activates 0) o.notes

      stood : (why : EndCause) → came ≡ Err why → Stood why first_stand
      stood why is =
          let w : Standing = stand 0 (atr_frame forged_general ∷ []) o.notes in
          stood_by why first_stand w (subst (AnswersAtr true o.notes w) is o.answers)
          (stays_unopened payloads o.notes (due_driven devices (RestartsCounted serving) (AnswersCounted serving) (atr_next forged_general) o.notes [] mid at_first one half o.speaks.turns))

      unlinked_so : is_linked first_stand ≡ false → linked_then payloads (selecting (A id) first_notes) ≡ false
      unlinked_so e = ap (linked_then payloads) selected_first ∙ e

      abbrev ends_one : Ends
      ends_one = slice_set ends place (Some half.end)

      served_one : AreServed one.listeners peers.numbers ends_one
      served_one = served_same old.listeners one.listeners peers.numbers ends_one same_one (set_served old.listeners peers.numbers ends place far half.end there keeps_end places.served)

      abbrev events_one : List Event
      events_one = es one ends_one half.numbers first_notes asked_so same_one

      stays_one : LeavesStable st J c events_one
      stays_one =
          stays_by one ends_one half.numbers first_notes asked_so same_one
          (set_rests one.listeners ends place far half.end there keeps_end.rests ∙ bare_alike one.listeners old.listeners ends (as_many one ends_one half.numbers first_notes asked_so same_one))

      parts_one : events_one ≡ chosen.events ++ o.speaks.events
      parts_one = sym (trace one ends_one half.numbers first_notes asked_so same_one) ∙ until_trace ∙ until

      ended_at : (why : EndCause) (answer : Answer) → came ≡ Err why → told_loss why ≡ Some answer → first_stand ≡ Unlinked why → ObeyedBy J before (under ends_one peers None one) c answer
      ended_at why answer is told_so at =
          let none : linked_then payloads (selecting (A id) first_notes) ≡ false = unlinked_so (ap is_linked at) in
          let lost = lost_is why answer told_so in
          obeyed one ends_one half.numbers first_notes asked_so same_one answer peers (none_peers one ends_one half.numbers first_notes asked_so same_one none (Some answer)) refl refl
          (set_long ends place far half.end there) served_one tidy_one (ap (then_forges payloads) selected_first ∙ ap forge_due at)
          (record {
            tells = record {
              polled = Ok kinds.Peer;
              behind = o.notes;
              selected = ap (selecting (A id)) asked_so.known ∙ selected_first;
              cause = tt;
              ends = ap told_forging at ∙ told_so;
              lost = (
                (λ l. subst (λ xs. 0 < breaks xs) (sym parts_one) (more_breaks chosen.events o.speaks.events (o.lost.0 (is ∙ ap Err (lost.1 l))))),
                (λ some. lost.0 (let both : ◌≡◌ {A = Result (InitState × ArrayVec ℕ) EndCause} (Err why) (Err causes.FieldLost) = sym is
                    ∙ o.lost.1 (rest_breaks chosen.events o.speaks.events no_break (subst (λ xs. 0 < breaks xs) parts_one some)) in cc)),
              );
              noisy = λ six. subst (λ xs. 0 < noise xs) (sym parts_one) (more_noise chosen.events o.speaks.events (o.noisy (is ∙ ap Err (six_is why answer told_so six))));
              calm = λ none_bad. heard_whole (subst (λ xs. noise xs ≡ 0) (parts_one ∙ sym until) none_bad);
            };
            leaves = subst (λ v. ForgeLeaves v st J id payloads events_one) (sym (opens_is one ends_one half.numbers first_notes asked_so same_one ∙ none)) stays_one;
          })

      pub ended_forge : (why : EndCause) (answer : Answer) → came ≡ Err why → told_loss why ≡ Some answer → ObeyedBy J before (under ends_one peers None one) c answer
      ended_forge causes.FieldLost answer is told_so = ended_at causes.FieldLost answer is told_so (stood causes.FieldLost is)
      ended_forge causes.SixBad answer is told_so = ended_at causes.SixBad answer is told_so (stood causes.SixBad is)
      ended_forge causes.Protocol answer is told_so = absurd cc
      ended_forge causes.Memory answer is told_so = absurd cc

      -- memory was wanting
      pub unopened_cut_forge : came ≡ Err causes.Memory → CutFront J st c one.trace (state_at (under ends_one peers None one))
      unopened_cut_forge is =
          let none : linked_then payloads (selecting (A id) first_notes) ≡ false = unlinked_so (stood causes.Memory is) in
          cut_off one ends_one half.numbers first_notes asked_so same_one peers (none_peers one ends_one half.numbers first_notes asked_so same_one none None)
          (subst (λ v. ForgeCutLeaves v st J id payloads events_one) (sym (opens_is one ends_one half.numbers first_notes asked_so same_one ∙ none)) stays_one)

      -- ATR_RES came, and the payloads were exchanged over the link.
      module _ (p : InitState × ArrayVec ℕ) (is : came ≡ Ok p) (n : ℕ) (numbered : get_or peers.numbers place None ≡ Some n) where
        opened_so : Opened one place s.device p.0 p.1.items
        opened_so = subst (OpeningEnds one place s.device) is o.ends

        abbrev here : HasPeer ghosts device_end one p.0 p.0.core.number [] []
        here = opened_so.here.step.1

        number_zero : p.0.core.number ≡ 0
        number_zero = ap (λ (i : InitState). i.core.number) opened_so.initiator

        begun_end : half.end ≡ restarted serving far forged_general
        begun_end = begun_anew forged_general o.times far half.end (times_of forged_general o.times at_first half o.restarted) (subst (λ r. IfOk r (λ q. 0 < o.times)) is o.begun)

        abbrev begun_half : Choosing FarEnd
        begun_half = record { end = restarted serving far forged_general; numbers = counts }

        half_is : half ≡ begun_half
        half_is =
            ap (λ e. let x : Choosing FarEnd = record { end = e; numbers = half.numbers } in x) begun_end
            ∙ ap (λ ns. let x : Choosing FarEnd = record { end = restarted serving far forged_general; numbers = ns } in x) opening.1

        setting_one : setting_of half.end ≡ setting_of far
        setting_one = ap setting_of begun_end

        stands_one : StandsThere ghosts device_end device_linked peer_ends one place
        stands_one lit = (here.listener, here.selected, subst (λ k. IsAlone ghosts (device_id here.listener) one.listeners k here.listener) opened_so.here.at here.alone)

        first_numbered : IsFirstWith n place peers.numbers
        first_numbered = first_of (next_number peers) n place peers.numbers places.apart numbered

        placed : placed_under id old.listeners peers.numbers ≡ Some n
        placed =
            let sound : AreSound (map kept (stands.before ++ stands.device ∷ stands.behind)) = subst (λ xs. AreSound (map kept xs)) stands.split idle.tame.sound in
            let many : length peers.numbers ≡ length (stands.before ++ stands.device ∷ stands.behind) = places.numbers ∙ ap length stands.split in
            ap (λ ls. placed_under id ls peers.numbers) stands.split ∙ under_at stands.before stands.device stands.behind id peers.numbers stands.named sound many
            ∙ ap (λ k. get_or peers.numbers k None) stands.at ∙ numbered

        abbrev from : List Note → Next
        from = walk_due by_hand (sending payloads []) p.0

        stand_on : (ks : List Note) → forge_stand payloads (Activates 0) (o.notes ++ ks) ≡ Exchanges (walk_stand by_hand (sending payloads []) p.0 ks)
        stand_on ks =
            let at : first_stand ≡ At_first payloads p.0 = opened_by payloads o.notes p (stand 0 (atr_frame forged_general ∷ []) o.notes) refl
            (subst (AnswersAtr true o.notes (stand 0 (atr_frame forged_general ∷ []) o.notes)) is o.answers) in
            stands_on payloads o.notes ks (Activates 0) ∙ ap (λ x. forge_stand payloads x ks) at ∙ exchanges payloads ks (walk_at by_hand (sending payloads []) p.0)

        behind_is : (ks : List Note) → forging id payloads (first_notes ++ ks) ≡ from ks
        behind_is ks = ap (then_forges payloads) (selected_on ks) ∙ ap forge_due (stand_on ks)

        linked_any : (ks : List Note) → linked_then payloads (selecting (A id) (first_notes ++ ks)) ≡ true
        linked_any ks = ap (linked_then payloads) (selected_on ks) ∙ ap is_linked (stand_on ks)

        -- where a link began and ended in the list of its peer, whose end is this one then; and the machines then
        abbrev range_of : FarEnd → LinkRange
        range_of e = record { peer = n; start = length far.service.accepted; end = Some (length e.service.accepted) }

        abbrev pub left_so : Air Device → FarEnd → Machines
        left_so d e = under (slice_set ends place (Some e)) (with_link (range_of e) peers) None d

        -- An end of the peer that has the same setting, and accepted more, at its place in a field.
        module _ (d : Air Device) (e : FarEnd) (same_d : map kept d.listeners ≡ map kept old.listeners) where
          abbrev os : Ends
          os = slice_set ends place (Some e)

          long : length d.listeners ≡ length old.listeners
          long = kept_long old.listeners d.listeners same_d

          many_d : length peers.numbers ≡ length d.listeners
          many_d = places.numbers ∙ sym long

          there_d : get_or os place None ≡ Some e
          there_d = set_there ends place far e there

          ends_more : setting_of e ≡ setting_of far → (front : IsPrefix far.service.accepted e.service.accepted) → bare d.listeners os ≡ with_accepted front.0 n peers.numbers (bare old.listeners ends)
          ends_more set front = bare_alike d.listeners old.listeners os long ∙ bare_more n place peers.numbers old.listeners ends far e front.0 first_numbered places.numbers there set front.1

          range_is : (w : WholeWorld) → seen device_linked peer_ends (moment d).world os [] ≡ w → with_link (range_of e) peers ≡ with_link_within n st.world.fars w.fars peers
          range_is w at =
              let start : accepted_at n peers st.world.fars ≡ length far.service.accepted =
              accepted_shown n peers.numbers old.listeners ends places.numbers ∙ ap accepted_by (first_end n place peers.numbers first_numbered ends ∙ there) in
              let end : accepted_at n peers (shown device_linked peer_ends d.listeners os) ≡ length e.service.accepted =
              accepted_shown n peers.numbers d.listeners os many_d ∙ ap accepted_by (first_end n place peers.numbers first_numbered os ∙ there_d) in
              ap (λ k. with_link (record { peer = n; start = k; end = Some (length e.service.accepted) }) peers) (sym start)
              ∙ ap (λ k. with_link (record { peer = n; start = accepted_at n peers st.world.fars; end = Some k }) peers) (sym end ∙ ap (λ (z : WholeWorld). accepted_at n peers z.fars) at)

          -- what its end was, as the world shows it, which begins a link as the end itself does
          shown_by : (v : Bool) → by_link peer_ends v (Some far) ≡ Some (if v then far else peer_ends.rested far)
          shown_by true = refl
          shown_by false = refl

          anew_by : (v : Bool) → restarted serving (if v then far else peer_ends.rested far) forged_general ≡ restarted serving far forged_general
          anew_by true = refl
          anew_by false = ends_table.anew far forged_general

          abbrev was : FarEnd
          was = if linked_at place old.listeners then far else peer_ends.rested far

          stood_was : end_numbered n peers.numbers st.world.fars ≡ Some was
          stood_was = end_shown n place peers.numbers old.listeners ends far first_numbered places.numbers there ∙ shown_by (linked_at place old.listeners)

          has_now : (w : WholeWorld) → seen device_linked peer_ends (moment d).world os [] ≡ w → OfEnd (λ x. x.service.accepted ≡ e.service.accepted) (end_numbered n peers.numbers w.fars)
          has_now w at =
              subst (λ (z : WholeWorld). OfEnd (λ x. x.service.accepted ≡ e.service.accepted) (end_numbered n peers.numbers z.fars)) at
              (subst (OfEnd (λ x. x.service.accepted ≡ e.service.accepted)) (sym (end_shown n place peers.numbers d.listeners os e first_numbered many_d there_d))
              (same_accepted (linked_at place d.listeners) e))

          came_within : (ns : List ℕ) (w : WholeWorld) → seen device_linked peer_ends (moment d).world os [] ≡ w → (xs : List Event) → Arrives 0 xs begun_half (record { end = e; numbers = ns })
              → ArrivesWithin n forged_general peers.numbers counts st.world.fars w.fars xs
          came_within ns w at xs arrives = record {
            old = was;
            stood = stood_was;
            new = record { end = e; numbers = ns };
            arrives = subst (λ b. Arrives 0 xs (record { end = b; numbers = counts }) (record { end = e; numbers = ns })) (sym (anew_by (linked_at place old.listeners))) arrives;
            accepted = has_now w at;
          }

          cut_within : (ns : List ℕ) (w : WholeWorld) → seen device_linked peer_ends (moment d).world os [] ≡ w → (xs : List Event) → ArrivesCut 0 xs begun_half (record { end = e; numbers = ns })
              → ArrivesCutWithin n forged_general peers.numbers counts st.world.fars w.fars xs
          cut_within ns w at xs arrives = record {
            old = was;
            stood = stood_was;
            new = record { end = e; numbers = ns };
            arrives = subst (λ b. ArrivesCut 0 xs (record { end = b; numbers = counts }) (record { end = e; numbers = ns })) (sym (anew_by (linked_at place old.listeners))) arrives;
            accepted = has_now w at;
          }

        -- What arrived behind the opening of the link arrived in all.
        abbrev since : Air Device → List Event
        since d = drop (length one.trace) d.trace

        all_arrive : (xs : List Event) (after : Choosing FarEnd) → Arrives p.0.core.number xs half after → Arrives 0 (opening.0.events ++ xs) begun_half after
        all_arrive xs after came_all =
            arrives_behind 0 opening.0.events xs begun_half after (opening_brings_nothing (A id) forged_general opening.0.events opening.0.each)
            (subst (λ f. Arrives 0 xs f after) half_is (subst (λ k. Arrives k xs half after) number_zero came_all))

        all_arrive_cut : (xs : List Event) (after : Choosing FarEnd) → ArrivesCut p.0.core.number xs half after → ArrivesCut 0 (opening.0.events ++ xs) begun_half after
        all_arrive_cut xs after came_all =
            arrives_cut_behind 0 opening.0.events xs begun_half after (opening_brings_nothing (A id) forged_general opening.0.events opening.0.each)
            (subst (λ f. ArrivesCut 0 xs f after) half_is (subst (λ k. ArrivesCut k xs half after) number_zero came_all))

        -- Turns of the exchanges, up to where they stand so.
        module _ (new : Air Device) (after : Choosing FarEnd) (standing : Walk Sending (List (List ℕ)))
            (t : WalkTurns ghosts device_linked peer_ends by_hand (sending payloads []) p.0 one new place ends half after standing) where
          whole : Going bench_air (forging id payloads) (seen_at device_linked peer_ends (moment old) ends counts)
              (seen_at device_linked peer_ends (moment new) (slice_set ends place (Some after.end)) after.numbers) (first_notes ++ t.notes)
          whole =
              to_bench (forging id payloads) new (first_notes ++ t.notes) after
              (far_goes_then devices device_linked peer_ends (forging id payloads) (linking (A id) forged_general) from (moment old) (moment one) (moment new) first_notes t.notes place ends at_first
              half after
              (λ ns m h d. opens_then id payloads ns m h d) (λ ns. behind_is ns) opening.0 t.going)

          leaves_new : TalkLeaves (device_id s.device) place one.listeners new.listeners
          leaves_new =
              let P : WholeWorld → Type 0 = λ w. TalkLeaves (device_id s.device) place one.listeners w.field.listeners in
              subst P (sym (ap (λ (m : Moment WholeWorld). m.world) t.going.moment))
              (talk_leaves (device_id s.device) place t.going.events (seen_with device_linked peer_ends (moment one) ends place half).world
              (due_talk from (walks_plain by_hand (sending payloads []) p.0) t.going.events [] t.going.each) o.leaves.at)

          same_new : map kept new.listeners ≡ map kept old.listeners
          same_new = leaves_new.same ∙ same_one

          abbrev ends_new : Ends
          ends_new = slice_set ends place (Some after.end)

          abbrev all : List Event
          all = es new ends_new after.numbers (first_notes ++ t.notes) whole same_new

          traced : new.trace ≡ all
          traced = trace new ends_new after.numbers (first_notes ++ t.notes) whole same_new

          world_new : seen device_linked peer_ends (moment new).world ends_new [] ≡ world_after st J c all
          world_new = world new ends_new after.numbers (first_notes ++ t.notes) whole same_new

          more_trace : new.trace ≡ one.trace ++ t.going.events
          more_trace = ap (λ (m : Moment WholeWorld). m.trace) t.going.moment

          parts : all ≡ opening.0.events ++ t.going.events
          parts = sym traced ∙ more_trace ∙ ap (λ xs. xs ++ t.going.events) until_trace

          added : since new ≡ t.going.events
          added = ap (drop (length one.trace)) more_trace ∙ drop-append_seam one.trace t.going.events

          opens_true : opens_link id payloads all ≡ true
          opens_true = opens_is new ends_new after.numbers (first_notes ++ t.notes) whole same_new ∙ linked_any t.notes

          peers_so : (answer : Option Answer) → with_link (range_of after.end) peers ≡ peers_after st J c all answer
          peers_so answer =
              let fars : Ends = (world_after st J c all).fars in
              range_is new after.end same_new (world_after st J c all) world_new ∙ ap (λ x. with_link_if x st.world.fars fars peers) (sym placed)
              ∙ ap (λ v. peers_forged v st (A id) fars) (sym opens_true)

          module _ (setting : setting_of after.end ≡ setting_of half.end) where
            set : setting_of after.end ≡ setting_of far
            set = setting ∙ setting_one

            ends_then : (front : IsPrefix far.service.accepted after.end.service.accepted) → (stable (world_after st J c all)).ends ≡ with_accepted front.0 n peers.numbers (stable st.world).ends
            ends_then front = ap (λ (w : WholeWorld). (stable w).ends) (sym world_new) ∙ ends_more new after.end same_new set front

            -- it was answered
            answered_so : Arrives p.0.core.number (since new) half after → (answer : Answer) → told_walk standing ≡ Some answer → walk_due_at standing ≡ Over
                → ((standing ≡ BrokenBy causes.FieldLost) ↔ IsFieldLost answer) → (answer ≡ answers.LinkEnded losses.SixBad → 0 < noise t.going.events)
                → (noise t.going.events ≡ 0 → bad_receptions t.going.events ≡ 0) → ObeyedBy J before (left_so new after.end) c answer
            answered_so arrived answer told_so over lost noisy calm =
                let arrives : Arrives 0 all begun_half after = subst (λ xs. Arrives 0 xs begun_half after) (sym parts)
                (all_arrive t.going.events after (subst (λ xs. Arrives p.0.core.number xs half after) added arrived)) in
                let front : IsPrefix far.service.accepted after.end.service.accepted = grows far forged_general counts all after (inl arrives) in
                let no_first : 0 < breaks opening.0.events → ⊥ = λ some.
                (let lost_at : came ≡ Err causes.FieldLost = o.lost.1 (rest_breaks chosen.events o.speaks.events no_break (subst (λ xs. 0 < breaks xs) until some)) in
                let clash : ◌≡◌ {A = Result (InitState × ArrayVec ℕ) EndCause} (Ok p) (Err causes.FieldLost) = sym is ∙ lost_at in cc) in
                let first_none : noise all ≡ 0 → noise opening.0.events ≡ 0 = λ none. first_quiet opening.0.events t.going.events (subst (λ xs. noise xs ≡ 0) parts none) in
                let rest_none : noise all ≡ 0 → noise t.going.events ≡ 0 = λ none. rest_quiet opening.0.events t.going.events (subst (λ xs. noise xs ≡ 0) parts none) in
                let heard : noise t.going.events ≡ 0 → AllByRecursion IsAnswered t.notes = λ none.
                subst (AllByRecursion IsAnswered) t.going.known
                (whole_notes from (λ ns e. (walks_plain by_hand (sending payloads []) p.0 ns).lit e) [] t.going.events t.going.each none (calm none)) in
                obeyed new ends_new after.numbers (first_notes ++ t.notes) whole same_new answer (with_link (range_of after.end) peers) (peers_so (Some answer)) refl refl
                (set_long ends place far after.end there)
                (served_set old.listeners new.listeners peers.numbers ends place far after.end same_new there set places.served)
                (leaves_new.tidy tidy_one) (behind_is t.notes ∙ ap walk_due_at t.stands ∙ over)
                (record {
                  tells = record {
                    polled = Ok kinds.Peer;
                    behind = o.notes ++ t.notes;
                    selected = ap (selecting (A id)) whole.known ∙ selected_on t.notes;
                    cause = tt;
                    ends = ap told_forging (stand_on t.notes ∙ ap Exchanges t.stands) ∙ told_so;
                    lost = (
                      (λ l. subst (λ xs. 0 < breaks xs) (sym parts) (more_breaks opening.0.events t.going.events
                          (walk_broken by_hand bench_air (sending payloads []) p.0 _ _ t.notes t.going (t.stands ∙ lost.1 l)))),
                      (λ some. lost.0 (sym t.stands ∙ walk_lost by_hand bench_air (sending payloads []) p.0 _ _ t.notes t.going
                          (rest_breaks opening.0.events t.going.events no_first (subst (λ xs. 0 < breaks xs) parts some)))),
                    );
                    noisy = λ six. subst (λ xs. 0 < noise xs) (sym parts) (more_noise opening.0.events t.going.events (noisy six));
                    calm = λ none. all_both IsAnswered o.notes t.notes (heard_whole (first_none none)) (heard (rest_none none));
                  };
                  leaves = subst (λ v. ForgeLeaves v st J id payloads all) (sym opens_true) (record {
                    peer = n;
                    placed = placed;
                    came = came_within new after.end same_new after.numbers (world_after st J c all) world_new all arrives;
                    more = front.0;
                    devices = devices_then new ends_new after.numbers (first_notes ++ t.notes) whole same_new;
                    ends = ends_then front;
                  });
                })

            -- or cut off between two turns
            short_so : ArrivesCut p.0.core.number (since new) half after → CutFront J st c new.trace (state_at (left_so new after.end))
            short_so arrived =
                let arrives : ArrivesCut 0 all begun_half after =
                subst (λ xs. ArrivesCut 0 xs begun_half after) (sym parts) (all_arrive_cut t.going.events after (subst (λ xs. ArrivesCut p.0.core.number xs half after) added arrived)) in
                let front : IsPrefix far.service.accepted after.end.service.accepted = grows far forged_general counts all after arrives in
                cut_off new ends_new after.numbers (first_notes ++ t.notes) whole same_new (with_link (range_of after.end) peers) (peers_so None)
                (subst (λ v. ForgeCutLeaves v st J id payloads all) (sym opens_true) (record {
                  peer = n;
                  placed = placed;
                  came = cut_within new after.end same_new after.numbers (world_after st J c all) world_new all arrives;
                  more = front.0;
                  devices = devices_then new ends_new after.numbers (first_notes ++ t.notes) whole same_new;
                  ends = ends_then front;
                }))

          -- Or its end stopped at one request more.
          module _ (d : Air Device) (stopped : Choosing FarEnd) (setting : setting_of stopped.end ≡ setting_of half.end)
              (h : HaltsAt ghosts device_linked peer_ends (StopsCounted serving) (walk_due_at standing) new d after stopped)
              (arrived : ArrivesCut p.0.core.number (since d) half stopped) where
            abbrev sent : List Event
            sent = Request h.sent Pass ∷ []

            trace_d : d.trace ≡ all ++ sent
            trace_d = ap (λ (a : Air Device). a.trace) h.left ∙ ap (λ xs. xs ++ sent) traced

            since_d : since d ≡ t.going.events ++ sent
            since_d =
                ap (drop (length one.trace)) (ap (λ (a : Air Device). a.trace) h.left ∙ ap (λ xs. xs ++ sent) more_trace ∙ append_assoc one.trace t.going.events sent)
                ∙ drop-append_seam one.trace (t.going.events ++ sent)

            all_d : d.trace ≡ opening.0.events ++ since d
            all_d = trace_d ∙ ap (λ xs. xs ++ sent) parts ∙ append_assoc opening.0.events t.going.events sent ∙ ap (λ xs. opening.0.events ++ xs) (sym since_d)

            talk_d : TalkLeaves (device_id s.device) place one.listeners d.listeners
            talk_d =
                let own : List ℕ = device_id s.device in
                let at_request = heard_leaves own h.sent ((walks_plain by_hand (sending payloads []) p.0 t.notes).asked h.sent (ap walk_due_at t.stands ∙ h.asked)) h.payload place new.listeners
                h.listeners leaves_new.at h.heard in
                subst (TalkLeaves own place one.listeners) (sym (ap (λ (a : Air Device). a.listeners) h.left)) (leaves_both own place one.listeners new.listeners h.listeners leaves_new at_request)

            same_d : map kept d.listeners ≡ map kept old.listeners
            same_d = talk_d.same ∙ same_one

            arrives_d : ArrivesCut 0 d.trace begun_half stopped
            arrives_d = subst (λ xs. ArrivesCut 0 xs begun_half stopped) (sym all_d) (all_arrive_cut (since d) stopped arrived)

            opened_d : opens_link id payloads d.trace ≡ true
            opened_d =
                ap (opens_link id payloads) trace_d
                ∙ ap (λ ns. linked_then payloads (selecting (A id) ns)) (receptions-append all sent refl ∙ ap (λ ks. ks ++ receptions sent) whole.known
                ∙ append_assoc first_notes t.notes (receptions sent))
                ∙ linked_any (t.notes ++ receptions sent)

            halted : ForgeHalts J st c d.trace (state_at (left_so d stopped.end))
            halted =
                let grown : IsPrefix far.service.accepted stopped.end.service.accepted = grows far forged_general counts d.trace stopped arrives_d in
                record {
                  id = id;
                  payloads = payloads;
                  command = refl;
                  given = given;
                  joined = refl;
                  before = all;
                  mid = state_at (left_so new after.end);
                  front = front new ends_new after.numbers (first_notes ++ t.notes) whole same_new None (with_link (range_of after.end) peers) (peers_so None);
                  opened = opened_d;
                  sent = h.sent;
                  split = trace_d;
                  asked = ap (forging id payloads) whole.known ∙ behind_is t.notes ∙ ap walk_due_at t.stands ∙ h.asked;
                  passes = h.passes;
                  lit = ap (λ (a : Air Device). a.lit) h.left;
                  queue = ap (λ (a : Air Device). a.fates) h.left;
                  peer = n;
                  placed = placed;
                  leaves = record {
                    talk = (
                      device_id s.device,
                      place,
                      record {
                        same = same_d;
                        at = talk_d.at;
                        tidy = λ tidy. talk_d.tidy (o.leaves.tidy (going_tidy (λ ks. asks (selecting (A id) ks)) (moment old) (moment mid) hs chosen tidy));
                      },
                    );
                    more = grown.0;
                    ends = ends_more d stopped.end same_d (setting ∙ setting_one) grown;
                    peers = range_is d stopped.end same_d (state_at (left_so d stopped.end)).world refl;
                    link = refl;
                  };
                  came = cut_within d stopped.end same_d stopped.numbers (state_at (left_so d stopped.end)).world refl d.trace arrives_d;
                }

        -- What the payloads came to: each has its reply.
        calm_of : (new : Air Device) → IsCalm one new → (xs : List Event) → new.trace ≡ one.trace ++ xs → noise xs ≡ 0 → bad_receptions xs ≡ 0
        calm_of new k xs trace_is none =
            let same : k.events ≡ xs = sym (drop-append_seam one.trace k.events) ∙ ap (drop (length one.trace)) (sym k.trace ∙ trace_is) ∙ drop-append_seam one.trace xs in
            subst (λ ys. bad_receptions ys ≡ 0) same (k.calm (subst (λ ys. noise ys ≡ 0) (sym same) none))

        pub walked_forge : (new : Air Device) (j : InitState) (after : Choosing FarEnd) (replies : List (List ℕ))
            → IsWalked ghosts device_end by_hand (sending payloads []) one p.0 half new j after replies
            → ObeyedBy J before (left_so new after.end) c (answers.Replies replies)
        walked_forge new j after replies m =
            let t : WalkTurns ghosts device_linked peer_ends by_hand (sending payloads []) p.0 one new place ends half after (Comes replies j) =
            m.turns device_linked devices_link place stands_one ends in
            let k : IsCalm one new = subst (IsCalm one) m.carried.left.0 (chain_calm m.carried.swaps (first_seen one p.0) m.carried.at m.carried.chain m.carried.left.2) in
            answered_so new after (Comes replies j) t m.carried.setting m.carried.arrives (answers.Replies replies) refl refl (
              (λ e. absurd cc),
              (λ e. absurd
                  (elim e [
                    | inl dark ↦ (let clash : answers.Replies replies ≡ answers.FieldLost = dark in cc)
                    | inr ended ↦
                        (let clash : answers.Replies replies ≡ answers.LinkEnded losses.FieldLost = ended in cc)
                  ])),
            )
            (λ six. absurd (let clash : answers.Replies replies ≡ answers.LinkEnded losses.SixBad = six in cc))
            (calm_of new k t.going.events (more_trace new after (Comes replies j) t))

        -- or its link ended
        pub lost_forge : (new : Air Device) (j : InitState) (after : Choosing FarEnd) (why : EndCause) (answer : Answer)
            → IsWalkEnded ghosts device_end by_hand (sending payloads []) one p.0 half new j after why → told_loss why ≡ Some answer
            → ObeyedBy J before (left_so new after.end) c answer
        lost_forge new j after why answer m told_so =
            let t : WalkTurns ghosts device_linked peer_ends by_hand (sending payloads []) p.0 one new place ends half after (BrokenBy why) =
            m.turns device_linked devices_link place stands_one ends in
            let noisy : why ≡ causes.SixBad → 0 < noise t.going.events = λ six. subst (λ xs. 0 < noise xs) (added new after (BrokenBy why) t) (m.noisy six) in
            let broken : why ≡ causes.FieldLost → 0 < breaks t.going.events = λ lost. walk_broken by_hand bench_air (sending payloads []) p.0 _ _ t.notes t.going (t.stands ∙ ap BrokenBy lost) in
            let lost = lost_is why answer told_so in
            answered_so new after (BrokenBy why) t m.carried.setting m.carried.arrives answer told_so refl
            ((λ e. lost.0 (let same : ◌≡◌ {A = Walk Sending (List (List ℕ))} (BrokenBy why) (BrokenBy causes.FieldLost) = e in cc)), (λ e. ap BrokenBy (lost.1 e)))
            (λ six. noisy (six_is why answer told_so six))
            (λ none. absurd (never_quiet t.going.events why answer told_so noisy broken none))

        -- or memory was wanting
        pub short_forge : (new : Air Device) (j : InitState) (after : Choosing FarEnd) → IsWalkShort ghosts device_end by_hand (sending payloads []) one p.0 half new j after
            → ForgeStops J st c new.trace (state_at (left_so new after.end))
        short_forge new j after m =
            let f : WalkFront ghosts device_linked peer_ends (StopsCounted serving) by_hand (sending payloads []) p.0 one new place ends half after =
            m.front device_linked devices_link place stands_one ends in
            let T : Air Device → Choosing FarEnd → Type 0 = λ a e. WalkTurns ghosts device_linked peer_ends by_hand (sending payloads []) p.0 one a place ends half e f.standing in
            elim f.left [
              | inl (field, stays_so) ↦ inl (short_so new after f.standing (subst (T new) (sym stays_so) (subst (λ a. T a f.half) (sym field) f.turns)) m.setting m.arrives)
              | inr h ↦ inr (halted f.mid f.half f.standing f.turns new after m.setting h m.arrives)
            ]
