-- Frames of a script's own were sent: what an entry owes, from the turns that were made; and the selection of a device.
use Rattle.std.proofs.Common.{◌≡◌, inl, inr, ℕ, zero, suc, ◌<◌, ◌≤◌, List, [], ◌∷◌, ◌++◌, map, length, true, false, Option, Some, None, Err, refl, sym, ◌∙◌, ap, subst, arith}
use Rattle.std.specs.Prelude.{get_or, slice_set}
use Rattle.std.proofs.lemmas.List.{length-map}
use Rattle.nfc_base.specs.Choosing.{Choosing}
use Rattle.nfc_base.specs.declared.event.Event.{Event}
use Rattle.nfc_base.specs.declared.event.Fate.{Fate}
use Rattle.nfc_base.specs.Signal.{Signal}
use Rattle.nfc_base.specs.Trace.{breaks}
use Rattle.air_core.specs.Turn.{Air, moment}
use Rattle.air_core.specs.Conversation.{Moment, Note, Next, Over, Going, receptions, queue_after}
use Rattle.air_core.specs.laws.Turning.{due_weaker}
use Rattle.nfca_poll.specs.declared.fault.PollFault.{PollFault}
use Rattle.far_air.specs.FarEnds.{by_link, first_far, later_fars}
use Rattle.far_air.specs.FarWorld.{with_numbers}
use Rattle.far_air.specs.FarLaws.{seen, seen_at, shown, with_far}
use Rattle.far_air.specs.FarTurns.{FarGoing, QuietBut}
use Rattle.far_air.proofs.Quietly.{quiet_goings}
use Rattle.peer_air.specs.PeerFars.{peer_ends}
use Rattle.link_calls.specs.Staying.{Setting, setting_of}
use Rattle.llcp_conn.specs.Conn.{IsWindow}
use Rattle.llcp_link.specs.Names.{is_bound}
use Rattle.llcp_pdu.specs.General.{IsMiu}
use Rattle.snep_core.specs.Talk.{server_sap}
use Rattle.bench_script.specs.declared.command.Command.{Command}
use Rattle.bench_script.specs.declared.command.Command.TheVariants.{Raw}
use Rattle.bench_script.specs.declared.command.DeviceId.{DeviceId}
use Rattle.bench_devices.specs.declared.device.Device.{Device}
use Rattle.bench_devices.specs.Answering.{HasPollCause}
use Rattle.bench_devices.specs.AnyFrame.{peer_place, peers_in}
use Rattle.bench_devices.specs.Device.{air, devices, device_linked}
use Rattle.bench_devices.specs.Keeping.{AllStayDevices, AreTame, kept}
use Rattle.bench_devices.specs.Phases.{Selects, SelectionCut, IsIdle}
use Rattle.bench_devices.specs.Polling.{asks, selecting}
use Rattle.bench_devices.proofs.kinds.AnyFrame.{all_quiet, one_peer, tag_stays}
use Rattle.bench_devices.proofs.kinds.EveryFrame.{sound_stay}
use Rattle.bench_devices.proofs.kinds.PeerLinks.{devices_link}
use Rattle.bench_world.specs.declared.entry.Answer.{Answer}
use Rattle.bench_world.specs.declared.entry.Loss.TheVariants as losses
use Rattle.bench_world.specs.Answering.{poll_answer}
use Rattle.bench_world.specs.Legal.{State, Given, Joins, MayRaw, CutFront, FrontOf, RawLaw, RawOpensPeer, peers_after, peers_forged, world_after}
use Rattle.bench_world.specs.Obeying.{Machines, HasPlaces, ObeyedBy, state_at, under}
use Rattle.bench_world.specs.Opened.{IsServed, AreServed, AreNumbered}
use Rattle.bench_world.specs.Peers.{Peers, next_number}
use Rattle.bench_world.specs.Rawing.{RawTells, raw_linked_then, raw_opens, rawing, then_raws}
use Rattle.bench_world.specs.World.{FarEnd, WholeWorld, bench_air}
use Rattle.bench_world.proofs.devices.FarStays.{StayAll, far_stay}
use Rattle.bench_world.proofs.forged.ForgeParts.{poll_not_ended}
use Rattle.bench_world.proofs.tags.Fronts.{Ends, ends_table}
use Rattle.bench_world.proofs.tags.Legality.{told_lost, poll_lost, trace_is}
use Rattle.bench_world.proofs.open_link.LinkObeyed.{none_selecting}
use Rattle.bench_world.proofs.open_link.OnLink.{set_long}
use Rattle.bench_world.proofs.by_hand.RawFrames.{each_but}
use Rattle.bench_world.proofs.by_hand.RawNotes.{selecting_unlinked, selects_first}
use Rattle.bench_world.proofs.open_link.Restarted.{far_set, far_there}

-- as many devices
pub stay_long : (ds es : List Device) → AllStayDevices ds es → length es ≡ length ds
stay_long [] [] p = refl
stay_long [] (e ∷ es) p = absurd p
stay_long (d ∷ ds) [] p = absurd p
stay_long (d ∷ ds) (e ∷ es) p = ap suc (stay_long ds es p.1)

-- each peer is served still
pub served_stay : (ds es : List Device) (ps : List (Option ℕ)) (os : Ends) → AllStayDevices ds es → AreServed ds ps os → AreServed es ps os
served_stay [] [] ps os p s = tt
served_stay [] (e ∷ es) ps os p s = absurd p
served_stay (d ∷ ds) [] ps os p s = tt
served_stay (d ∷ ds) (e ∷ es) ps os p s = ((λ t. s.0 (sym (tag_stays d e p.0) ∙ t)), served_stay ds es (later_fars ps) (later_fars os) p.1 s.1)

pub served_now : (p : Option ℕ) (o : Option FarEnd) (end after : FarEnd) → o ≡ Some end → setting_of after ≡ setting_of end → IsServed p o → IsServed p (Some after)
served_now p o end after e same s =
    let is : s.end ≡ end = (let x : Some s.end ≡ Some end = sym s.stands ∙ e in cc) in
    let set : setting_of after ≡ setting_of s.end = same ∙ ap setting_of (sym is) in
    record {
      peer = s.peer;
      numbered = s.numbered;
      end = after;
      stands = refl;
      miu = subst IsMiu (sym (ap (λ (z : Setting). z.miu) set)) s.miu;
      window = subst IsWindow (sym (ap (λ (z : Setting). z.window) set)) s.window;
      bound = ap (λ (z : Setting). is_bound server_sap z.bound) set ∙ s.bound;
    }

pub served_there : (ds : List Device) (ps : List (Option ℕ)) (os : Ends) (place : ℕ) (end after : FarEnd) → get_or os place None ≡ Some end → setting_of after ≡ setting_of end → AreServed ds ps os
    → AreServed ds ps (slice_set os place (Some after))
served_there [] ps os place end after e same s = tt
served_there (d ∷ ds) ps [] place end after e same s = absurd cc
served_there (d ∷ ds) ps (o ∷ os) zero end after e same s = ((λ t. served_now (first_far ps) o end after e same (s.0 t)), s.1)
served_there (d ∷ ds) ps (o ∷ os) (suc place) end after e same s = (s.0, served_there ds (later_fars ps) os place end after e same s.1)

-- beyond the devices an end isn't shown
pub beyond : (ls : List Device) (os : Ends) (e : FarEnd) → shown device_linked peer_ends ls (with_far os (length ls) e) ≡ shown device_linked peer_ends ls os
beyond [] os e = refl
beyond (l ∷ ls) os e = ap (λ xs. by_link peer_ends (device_linked l) (first_far os) ∷ xs) (beyond ls (later_fars os) e)

module _ (ends : Ends) (peers : Peers) (old : Air Device) (id : DeviceId) (frames : List Signal) (counts : List ℕ) (idle : IsIdle old) (places : HasPlaces (under ends peers None old))
    (may : MayRaw (state_at (under ends peers None old)) id frames) where
  abbrev pub before : Machines
  before = under ends peers None old

  abbrev pub st : State
  st = state_at before

  abbrev pub J : Joins
  J = record { own = []; far = counts }

  abbrev pub c : Command
  c = Raw id frames

  abbrev pub given : Given
  given = record { asked = []; joins = J }

  -- What was due was asked, in the world with far ends.
  module _ (new : Air Device) (os : Ends) (left : List ℕ) (notes : List Note)
      (g : Going bench_air (rawing id frames) (seen_at device_linked peer_ends (moment old) ends counts) (seen_at device_linked peer_ends (moment new) os left) notes) where
    abbrev pub es : List Event
    es = g.events

    pub trace : new.trace ≡ es
    trace = ap (λ (m : Moment WholeWorld). m.trace) g.moment ∙ ap (λ t. t ++ es) idle.quiet

    pub world_now : seen device_linked peer_ends (moment new).world os [] ≡ world_after st J c es
    world_now = ap (λ (m : Moment WholeWorld). with_numbers m.world []) g.moment

    pub front : (told : Option Answer) (p : Peers) → p ≡ peers_after st J c es told → FrontOf st given c es told (state_at (under os p None new))
    front told p peers_so =
        let S : WholeWorld → List Fate → Peers → State = λ w q x. record { world = w; queue = q; peers = x; link = None } in
        let w : WholeWorld = world_after st J c es in
        record {
          accepted = may;
          asks = refl;
          takes = refl;
          turns = g.turns;
          fates = g.fates;
          each = g.each;
          after = ap (λ x. S x new.fates p) world_now ∙ ap (λ q. S w q p) (ap (λ (m : Moment WholeWorld). m.queue) g.moment) ∙ ap (λ x. S w (queue_after old.fates es) x) peers_so;
        }

    pub stays : StayAll old.listeners new.listeners
    stays =
        subst (λ (w : WholeWorld). StayAll old.listeners w.field.listeners) (sym (ap (λ (m : Moment WholeWorld). m.world) g.moment))
        (far_stay es (seen device_linked peer_ends (moment old).world ends counts))

    pub opens_is : raw_opens id frames es ≡ raw_linked_then frames (selecting id notes)
    opens_is = ap (λ ns. raw_linked_then frames (selecting id ns)) g.known

    pub none_peers : raw_linked_then frames (selecting id notes) ≡ false → (told : Option Answer) → peers ≡ peers_after st J c es told
    none_peers none told = ap (λ v. peers_forged v st id (world_after st J c es).fars) (sym (opens_is ∙ none))

    places_at : (p : Peers) → p.numbers ≡ peers.numbers → p.gone ≡ peers.gone → length os ≡ length ends → AreServed new.listeners peers.numbers os → HasPlaces (under os p None new)
    places_at p numbers gone long served =
        let many : length new.listeners ≡ length old.listeners = stay_long old.listeners new.listeners stays.stay in
        record {
          ends = long ∙ places.ends ∙ sym many;
          numbers = ap length numbers ∙ places.numbers ∙ sym many;
          served = subst (λ xs. AreServed new.listeners xs os) (sym numbers) served;
          apart = subst (λ gs. AreNumbered (length gs) p.numbers) (sym gone) (subst (AreNumbered (next_number peers)) (sym numbers) places.apart);
        }

    tame : AreTame (map kept new.listeners)
    tame =
        let many : length new.listeners ≡ length old.listeners = stay_long old.listeners new.listeners stays.stay in
        record { sound = sound_stay old.listeners new.listeners stays.stay idle.tame.sound; few = omega (arith, many, length-map new.listeners kept, length-map old.listeners kept, idle.tame.few) }

    pub obeyed : (answer : Answer) (p : Peers) → p ≡ peers_after st J c es (Some answer) → p.numbers ≡ peers.numbers → p.gone ≡ peers.gone → length os ≡ length ends
        → AreServed new.listeners peers.numbers os
        → rawing id frames notes ≡ Over → RawTells id old.listeners frames es answer → RawOpensPeer st id frames es → ObeyedBy J before (under os p None new) c answer
    obeyed answer p peers_so numbers gone long served over tells opens =
        let N : Machines = under os p None new in
        record {
          given = given;
          joined = refl;
          front = subst (λ xs. FrontOf st given c xs (Some answer) (state_at N)) (sym trace) (front (Some answer) p peers_so);
          over = ap (λ xs. rawing id frames (receptions xs)) trace ∙ ap (rawing id frames) g.known ∙ over;
          answered = subst (λ xs. RawLaw st id frames xs answer) (sym trace) (record { tells = tells; opens = opens });
          tame = tame;
          tidy = stays.tidy idle.tidy;
          places = places_at p numbers gone long served;
          link = tt;
        }

    pub cut_off : (p : Peers) → p ≡ peers_after st J c es None → RawOpensPeer st id frames es → CutFront J st c new.trace (state_at (under os p None new))
    cut_off p peers_so opens = subst (λ xs. CutFront J st c xs (state_at (under os p None new))) (sym trace) (given, refl, front None p peers_so, opens)

    -- where no link was opened nothing is owed for one
    pub none_opens : raw_linked_then frames (selecting id notes) ≡ false → RawOpensPeer st id frames es
    none_opens none opened = absurd (let clash : true ≡ false = sym opened ∙ opens_is ∙ none in cc)

  -- While a device is selected no far end has a part.
  module _ (new : Air Device) (hs : List Note) (k : Going air (λ ks. asks (selecting id ks)) (moment old) (moment new) hs) where
    quiet : Going bench_air (rawing id frames) (seen_at device_linked peer_ends (moment old) ends counts) (seen_at device_linked peer_ends (moment new) ends counts) hs
    quiet =
        let g : Going air (rawing id frames) (moment old) (moment new) hs = record {
          events = k.events;
          moment = k.moment;
          turns = k.turns;
          each = due_weaker (rawing id frames) (λ ks. asks (selecting id ks)) (λ ns n h d. selects_first id frames ns n h d) [] k.events k.each;
          fates = k.fates;
          fresh = k.fresh;
          known = k.known;
        } in
        quiet_goings devices device_linked peer_ends devices_link ends_table (rawing id frames) (moment old) (moment new) hs g
        (none_selecting id k.events k.each k.fresh (moment old).world) ends counts

    happened : es new ends counts hs quiet ≡ k.events
    happened = sym (trace new ends counts hs quiet) ∙ trace_is old new (λ ks. asks (selecting id ks)) hs k idle

    none_open : raw_linked_then frames (selecting id hs) ≡ false
    none_open = selecting_unlinked id frames (moment old) (moment new) hs k

    over_now : (answer : Answer) → rawing id frames hs ≡ Over → RawTells id old.listeners frames (es new ends counts hs quiet) answer → ObeyedBy J before (under ends peers None new) c answer
    over_now answer over tells =
        obeyed new ends counts hs quiet answer peers (none_peers new ends counts hs quiet none_open (Some answer)) refl refl refl
        (served_stay old.listeners new.listeners peers.numbers ends (stays new ends counts hs quiet).stay places.served) over tells (none_opens new ends counts hs quiet none_open)

    pub cut_now : CutFront J st c new.trace (state_at (under ends peers None new))
    cut_now = cut_off new ends counts hs quiet peers (none_peers new ends counts hs quiet none_open None) (none_opens new ends counts hs quiet none_open)

  -- it wasn't found
  pub missed_raw : (new : Air Device) (e : PollFault) (answer : Answer) → Selects id (Err e) (moment old) (moment new) → poll_answer e ≡ Some answer
      → ObeyedBy J before (under ends peers None new) c answer
  missed_raw new e answer s is =
      let hs : List Note = s.asked.notes in
      let k : Going air (λ ks. asks (selecting id ks)) (moment old) (moment new) hs = s.asked.going in
      let q = quiet new hs k in
      let all : es new ends counts hs q ≡ k.events = happened new hs k in
      over_now new hs k answer (ap (then_raws frames) s.told)
      (record {
        polled = Err e;
        behind = [];
        selected = ap (selecting id) q.known ∙ s.told;
        cause = subst (HasPollCause id old.listeners (Err e)) (sym all) s.cause;
        ends = is;
        lost = (
          (λ lost. subst (λ xs. 0 < breaks xs) (sym all) (elim lost [ inl dark ↦ s.lost.0 (told_lost e answer is dark) | inr ended ↦ absurd (poll_not_ended e answer is losses.FieldLost ended) ])),
          (λ broken. inl (poll_lost e answer is (s.lost.1 (subst (λ xs. 0 < breaks xs) all broken)))),
        );
        noisy = λ six. absurd (poll_not_ended e answer is losses.SixBad six);
      })

  -- or selecting it was cut off
  pub selection_cut_raw : (new : Air Device) → SelectionCut id (moment old) (moment new) → CutFront J st c new.trace (state_at (under ends peers None new))
  selection_cut_raw new part = cut_now new part.notes part.going

  -- Where a far end stands that may have a part in frames, so that the world shows it: at the place of the peer; or, where no peer is
  -- placed, beyond all devices.
  pub record Shows (place : ℕ) (far : FarEnd) : Type 0 where
    pub with' : FarEnd → Ends
    pub first : shown device_linked peer_ends old.listeners (with_far ends place far) ≡ shown device_linked peer_ends old.listeners ends
    pub now : (ls : List Device) (e : FarEnd) → length ls ≡ length old.listeners → shown device_linked peer_ends ls (with_far ends place e) ≡ shown device_linked peer_ends ls (with' e)
    pub quiet : (ls : List Device) (f : Signal) → peers_in ls ≡ peers_in old.listeners → peer_place ls ≡ peer_place old.listeners → QuietBut devices f place ls
    pub long : (e : FarEnd) → length (with' e) ≡ length ends
    pub served : (ls : List Device) (e : FarEnd) → AllStayDevices old.listeners ls → setting_of e ≡ setting_of far → AreServed ls peers.numbers (with' e)

  abbrev pub peer_shows : (place : ℕ) (far : FarEnd) → peer_place old.listeners ≡ Some place → get_or ends place None ≡ Some far → Shows place far
  peer_shows place far at there = record {
    with' = λ e. slice_set ends place (Some e);
    first = ap (shown device_linked peer_ends old.listeners) (far_there ends place far there);
    now = λ ls e long. ap (shown device_linked peer_ends ls) (far_set ends place far e there);
    quiet = λ ls f count same. one_peer place ls f (subst (λ n. n ≤ 1) (sym count) may.one) (same ∙ at);
    long = λ e. set_long ends place far e there;
    served = λ ls e stay set. served_stay old.listeners ls peers.numbers (slice_set ends place (Some e)) stay (served_there old.listeners peers.numbers ends place far e there set places.served);
  }

  abbrev pub none_shows : (far : FarEnd) → peer_place old.listeners ≡ None → Shows (length old.listeners) far
  none_shows far none = record {
    with' = λ e. ends;
    first = beyond old.listeners ends far;
    now = λ ls e long. ap (λ n. shown device_linked peer_ends ls (with_far ends n e)) (sym long) ∙ beyond ls ends e;
    quiet = λ ls f count same. each_but f ls (length old.listeners) (all_quiet f ls (same ∙ none));
    long = λ e. refl;
    served = λ ls e stay set. served_stay old.listeners ls peers.numbers ends stay places.served;
  }

  -- what was asked over such an end, as the bench's world shows it
  pub to_bench : (place : ℕ) (far : FarEnd) (shows : Shows place far) (next : List Note → Next) (b : Air Device) (ns : List Note) (after : Choosing FarEnd) → length b.listeners ≡ length old.listeners
      → FarGoing devices device_linked peer_ends next (moment old) (moment b) ns place ends (record { end = far; numbers = counts }) after
      → Going bench_air next (seen_at device_linked peer_ends (moment old) ends counts) (seen_at device_linked peer_ends (moment b) (shows.with' after.end) after.numbers) ns
  to_bench place far shows next b ns after long g =
      let At : Air Device → Ends → List ℕ → Moment WholeWorld = λ a xs ks. record { world = record { field = (moment a).world; fars = xs; numbers = ks }; queue = a.fates; trace = a.trace } in
      let P : Ends → Type 0 = λ xs. Going bench_air next (At old xs counts) (At b (shown device_linked peer_ends b.listeners (shows.with' after.end)) after.numbers) ns in
      let Q : Ends → Type 0 = λ xs. Going bench_air next (At old (shown device_linked peer_ends old.listeners (with_far ends place far)) counts) (At b xs after.numbers) ns in
      subst P shows.first (subst Q (shows.now b.listeners after.end long) g)

  -- what it leaves of the devices
  pub far_stays : (place : ℕ) (far : FarEnd) (next : List Note → Next) (b : Air Device) (ns : List Note) (after : Choosing FarEnd)
      → FarGoing devices device_linked peer_ends next (moment old) (moment b) ns place ends (record { end = far; numbers = counts }) after → StayAll old.listeners b.listeners
  far_stays place far next b ns after g =
      subst (λ (w : WholeWorld). StayAll old.listeners w.field.listeners) (sym (ap (λ (m : Moment WholeWorld). m.world) g.moment))
      (far_stay g.events (seen device_linked peer_ends (moment old).world (with_far ends place far) counts))
