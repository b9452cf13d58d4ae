-- Commands that were obeyed, and journals.
use Rattle.std.proofs.Common.{◌≡◌, ◌↔◌, ℕ, ◌+◌, ◌<◌, List, [], ◌∷◌, ◌++◌, map, length, true, false, Option, Some, None, IsSome, ◌⊎◌, Result, Ok, Err, refl, sym, ◌∙◌, ap, subst, arith, inl, inr}
use Rattle.std.proofs.lemmas.Bool.{cases_lt}
use Rattle.std.proofs.lemmas.List.{append-nil}
use Rattle.nfc_base.specs.declared.event.Event.{Event}
use Rattle.nfc_base.specs.declared.event.Fate.{Fate}
use Rattle.nfc_base.specs.Signal.{Signal}
use Rattle.nfc_base.specs.Trace.{back_of, noise, breaks}
use Rattle.nfc_base.specs.Trace as backs
use Rattle.air_core.specs.World.{World}
use Rattle.air_core.specs.Turn.{Air, moment}
use Rattle.air_core.specs.Conversation.{Moment, Note, Lit, Got, Lost, Next, Over, LightUp, Asks, IsDemand, AreTurns, FatesFrom, EachDue, Going, receptions, replay, queue_after, with_events}
use Rattle.air_core.specs.laws.Turning.{due-append, due_weaker, due_shift, fates-append, back_of-append, receptions-append, turns-append, events-append}
use Rattle.nfca_poll.specs.declared.fault.PollFault.{PollFault}
use Rattle.nfca_poll.specs.declared.fault.PollFault.TheVariants as faults
use Rattle.nfca_poll.specs.Enquiry.{Enquiry}
use Rattle.nfca_poll.specs.Inventory.{picking_v}
use Rattle.nfca_poll.specs.Rounds.{picking}
use Rattle.bench_script.specs.declared.command.Command.{Command}
use Rattle.bench_script.specs.declared.command.Command.TheVariants.{Find, Crowd, Read}
use Rattle.bench_script.specs.declared.command.DeviceId.{DeviceId}
use Rattle.bench_script.specs.declared.command.DeviceId.TheVariants.{A, V}
use Rattle.bench_devices.specs.Crowding.{crowding, Crowds, CrowdsField, CrowdCut}
use Rattle.bench_devices.specs.declared.device.Device.{Device}
use Rattle.bench_devices.specs.declared.device.Device.TheVariants.{T2, T4, Peer, T5, T3}
use Rattle.bench_world.specs.declared.entry.Answer.{Answer}
use Rattle.bench_world.specs.declared.entry.Answer.TheVariants as answers
use Rattle.bench_devices.specs.declared.polling.SeenKind.{SeenKind}
use Rattle.bench_devices.specs.declared.polling.SeenKind.TheVariants as seen
use Rattle.bench_devices.specs.CardAsking.{tag_next}
use Rattle.bench_world.specs.Answering.{TagTells, TellsFault, TellsFound, CutTag, tags_answer, poll_answer, read_answer}
use Rattle.bench_devices.specs.TagAsking.{then_asks, tag_due}
use Rattle.bench_devices.specs.Kinds.{IfRead}
use Rattle.bench_devices.specs.Device.{air, devices, device_linked, StablePart, stable_of, device_store, how_of, size_of, seen_of, is_tag, may_be_read}
use Rattle.bench_devices.specs.Answering.{TellsBy, GoesOnBy}
use Rattle.bench_devices.proofs.kinds.TagOrPeer.{as_read, as_unread, unread_seen}
use Rattle.bench_script.specs.DeviceIds.{bytes_of}
use Rattle.bench_devices.specs.Polling.{Followed, Asks as Requests, Told, follows, kind_by, seen_kind, pick_v, asks, selecting, finding_all}
use Rattle.bench_world.specs.Reading.{Tells, TellsOf, ReadAsks}
use Rattle.bench_devices.specs.Reading.{AsksOf, ShowsOf}
use Rattle.bench_world.specs.Legal.{State, Given, no_joins, Accepts, IsAskedBy, AnswerLaw, FrontOf, changed, due, world_after, state_after}
use Rattle.bench_devices.specs.Placed.{OfPlaced, IfPlaced, device_with}
use Rattle.bench_devices.specs.Keeping.{Kept, kept, IsSound, Changes, NoStore, LeavesDevices}
use Rattle.bench_devices.specs.Phases.{AskedPart, AsksSome, SelectionCut, ReadsSome, FailsRead, IsIdle, Selects, SelectsAt, Reads, Searches, SearchesField, SearchCut}
use Rattle.bench_world.specs.Obeying.{Machines, state_at, HasPlaces, KeepsLink, IsSettled, Obeyed, ObeyedUnlinked, IsCutOff, CutOffUnlinked}
use Rattle.bench_world.specs.World.{WholeWorld, bench_air, stable}
use Rattle.bench_world.specs.Links.{OpenLink}
use Rattle.bench_world.specs.Peers.{Peers}
use Rattle.far_air.specs.FarLaws.{seen}
use Rattle.far_air.specs.FarWorld.{with_numbers}
use Rattle.far_air.specs.Quietly.{NoneHands}
use Rattle.peer_air.specs.PeerFars.{peer_ends}
use Rattle.bench_devices.proofs.kinds.EveryFrame.{devices_stay}
use Rattle.bench_world.proofs.tags.Numbers.{UsesFars, none_taken}
use Rattle.bench_world.proofs.devices.PlacesKept.{served_as, kinds_stay}
use Rattle.bench_world.proofs.tags.Fronts.{links_stay, Ends, world_behind, none_hand, stretch, stable_behind, as_long}
use Rattle.tag_reader.specs.Asked.{IsAsked}
use Rattle.tag_reader.specs.declared.fault.ReadFault.{ReadFault}
use Rattle.tag_reader.specs.declared.found.Found.{Found}
use Rattle.bench_devices.specs.declared.sweeping.Everybody.{Everybody}
use Rattle.bench_world.proofs.tags.Telling.{six_told, tells_as, shows_tells, fails_tells, lost_told, found_told}
use Rattle.tag_reader.proofs.FileAsked.{file_asked}
use Rattle.bench_world.proofs.devices.Placed.{Upon, beneath}
use Rattle.bench_world.proofs.devices.Placing.{map-over, IsWith, is_with, with_sound}
use Rattle.bench_devices.proofs.finding.Following.{ToldOn, told_on}
use Rattle.bench_devices.proofs.reads.ReadingTags.{some_asked}
use Rattle.air_core.proofs.LostField.{breaks-append}
use Rattle.air_core.proofs.PlainTurns.{noise_append}
use Rattle.bench_devices.proofs.kinds.Tidy.{going_tidy}
use Rattle.bench_devices.proofs.kinds.EveryFrame.{left_tame}

-- What one has told, the other tells too, with more that is known since.
kind_more : {X : Type 0} (kind : X → SeenKind) (p q : Followed X) (ns : List Note) → ToldOn p ns q → ToldOn (kind_by kind p) ns (kind_by kind q)
kind_more kind (Requests n) q ns h = tt
kind_more kind (Told (Ok x) rest) q ns h = ap (kind_by kind) h
kind_more kind (Told (Err e) rest) q ns h = ap (kind_by kind) h

follows_more : {S X : Type 0} (e : Enquiry S X) (kind : X → SeenKind) (hs ns : List Note) → ToldOn (kind_by kind (follows e hs)) ns (kind_by kind (follows e (hs ++ ns)))
follows_more e kind hs ns = kind_more kind (follows e hs) (follows e (hs ++ ns)) ns (told_on e e.start (e.ended e.start) hs ns)

pick_v_more : (id : List ℕ) (hs ns : List Note) → ToldOn (pick_v id hs) ns (pick_v id (hs ++ ns))
pick_v_more id [] ns = tt
pick_v_more id (Lit ∷ hs) ns = follows_more (picking_v id) (λ x. seen.T5) hs ns
pick_v_more id (Got h ∷ hs) ns = tt
pick_v_more id (Lost ∷ hs) ns = refl

selecting_stays : (id : DeviceId) (hs ns : List Note) → ToldOn (selecting id hs) ns (selecting id (hs ++ ns))
selecting_stays (A id) hs ns = follows_more (picking id) seen_kind hs ns
selecting_stays (V id) hs ns = pick_v_more id hs ns

-- a device that was selected stays so, whatever is known since
pub selecting_more : (id : DeviceId) (hs ns : List Note) (r : Result SeenKind PollFault) → selecting id hs ≡ Told r [] → selecting id (hs ++ ns) ≡ Told r ns
selecting_more id hs ns r told = let P : Followed SeenKind → Type 0 = λ p. ToldOn p ns (selecting id (hs ++ ns)) in subst P told (selecting_stays id hs ns)

-- behind it the commands are asked, as its kind takes them
pub then_tag : (id : DeviceId) (kind : SeenKind) (asked : List Signal) (hs ns : List Note) → selecting id hs ≡ Told (Ok kind) [] → tag_due id asked (hs ++ ns) ≡ tag_next kind asked ns
then_tag id kind asked hs ns told = ap (then_asks asked) (selecting_more id hs ns (Ok kind) told)

-- what polling asks, the command asks
pub polls_first : (asked : List Signal) (p : Followed SeenKind) (n : Next) → asks p ≡ n → IsDemand n → then_asks asked p ≡ n
polls_first asked (Requests m) n h d = h
polls_first asked (Told r ns) Over h d = absurd d
polls_first asked (Told r ns) LightUp h d = absurd cc
polls_first asked (Told r ns) (Asks f) h d = absurd cc

-- what stays of devices that are kept
abbrev pub stable_in : Kept → StablePart
stable_in k = record { store = k.store; locked = k.fixed.locked; made = k.fixed.made; target = k.fixed.target }

pub stores_kept : (ls : List Device) → map stable_of ls ≡ map stable_in (map kept ls)
stores_kept [] = refl
stores_kept (d ∷ ls) = ap (λ xs. stable_of d ∷ xs) (stores_kept ls)

-- nothing that stays of the devices changed
pub stores_stay : (old new : Air Device) (es : List Event) → (moment new).world ≡ replay air (moment old).world es → map kept new.listeners ≡ map kept old.listeners
    → map stable_of (replay air (moment old).world es).listeners ≡ map stable_of old.listeners
stores_stay old new es world same =
    ap (λ (w : World Device). map stable_of w.listeners) (sym world) ∙ stores_kept new.listeners ∙ ap (map stable_in) same ∙ sym (stores_kept old.listeners)

-- nor of the far ends, where it was cut off
pub part_stays : (os : Ends) (old new : Air Device) (es : List Event) → IsIdle old → moment new ≡ with_events air (moment old) es → map kept new.listeners ≡ map kept old.listeners
    → NoneHands devices (moment old).world es → stable (world_behind os (moment old).world new.trace) ≡ stable (seen device_linked peer_ends (moment old).world os [])
part_stays os old new es idle made same none =
    let trace : new.trace ≡ es = ap (λ (t : Moment (World Device)). t.trace) made ∙ ap (λ t. t ++ es) idle.quiet in
    let world : (moment new).world ≡ replay air (moment old).world es = ap (λ (t : Moment (World Device)). t.world) made in
    ap (λ t. stable (world_behind os (moment old).world t)) trace ∙ stable_behind (moment old).world es os none (stores_stay old new es world same)

-- a step whose command asks these, and whose entry has no numbers
abbrev pub asks_for : List Signal → Given
asks_for asked = record { asked = asked; joins = no_joins }

-- the state of a field under what stands above it
abbrev pub above : Upon → Air Device → State
above os a = state_at (beneath os a)

-- in what is due in a command that keeps to tags no device hands anything over
pub none_in : (c : Command) → (UsesFars c → ⊥) → (os : Upon) (old new : Air Device) (asked : List Signal) (ns : List Note)
    → (g : Going air (due (above os old) (asks_for asked) c) (moment old) (moment new) ns)
    → IsAskedBy (above os old) c asked → NoneHands devices (moment old).world g.events
none_in c quiet os old new asked ns g asked_by = none_hand (above os old) (asks_for asked) c g.events quiet asked_by g.each g.fresh (moment old).world

-- the trace of an idle field is what happened since
pub trace_is : (old new : Air Device) (next : List Note → Next) (ns : List Note) (g : Going air next (moment old) (moment new) ns) → IsIdle old → new.trace ≡ g.events
trace_is old new next ns g idle = ap (λ (t : Moment (World Device)). t.trace) g.moment ∙ ap (λ t. t ++ g.events) idle.quiet

-- the state behind some events, where links are left as the command itself leaves them
abbrev pub plain_after : State → Command → List Event → State
plain_after s c es = record { world = world_after s no_joins c es; queue = queue_after (changed s c).queue es; peers = (changed s c).peers; link = (changed s c).link }

-- what was asked is a front of the command's step
pub front_so : (told : Option Answer) (os : Upon) (old new : Air Device) (c : Command) (asked : List Signal) (ns : List Note) → IsIdle old → Accepts (above os old) c
    → changed (above os old) c ≡ above os old
    → (g : Going air (due (above os old) (asks_for asked) c) (moment old) (moment new) ns) → IsAskedBy (above os old) c asked → NoneHands devices (moment old).world g.events
    → state_after (above os old) no_joins c g.events told ≡ plain_after (above os old) c g.events → FrontOf (above os old) (asks_for asked) c new.trace told (above os new)
front_so told os old new c asked ns idle accepted still g asked_by none plain =
    let st : State = above os old in
    let es : List Event = g.events in
    let q = stretch (moment old).world es os.ends none in
    let trace : new.trace ≡ es = trace_is old new (due st (asks_for asked) c) ns g idle in
    let world : (moment new).world ≡ replay air (moment old).world es = ap (λ (t : Moment (World Device)). t.world) g.moment in
    let queue : new.fates ≡ queue_after old.fates es = ap (λ (t : Moment (World Device)). t.queue) g.moment in
    let T : State → Type 0 = λ s. AreTurns bench_air (with_numbers s.world []) es in
    let F : State → Type 0 = λ s. FatesFrom s.queue es in
    let S : WholeWorld → List Fate → Peers → State = λ w f ps. record { world = with_numbers w []; queue = f; peers = ps; link = os.link } in
    let L : WholeWorld → List Fate → Peers → Option OpenLink → State = λ w f ps l. record { world = with_numbers w []; queue = f; peers = ps; link = l } in
    let P : List Event → Type 0 = λ t. FrontOf st (asks_for asked) c t told (above os new) in
    let front : P es = record {
      accepted = accepted;
      asks = asked_by;
      takes = none_taken c;
      turns = subst T (sym still) (q.turns.1 g.turns);
      fates = subst F (sym still) g.fates;
      each = g.each;
      after = ap (λ w. S (seen device_linked peer_ends w os.ends []) new.fates os.peers) world
          ∙ ap (λ f. S (seen device_linked peer_ends (replay air (moment old).world es) os.ends []) f os.peers) queue
          ∙ ap (λ w. S w (queue_after old.fates es) os.peers) (sym q.after)
          ∙ ap (λ (s : State). L (replay bench_air (with_numbers s.world []) es) (queue_after s.queue es) s.peers s.link) (sym still) ∙ sym plain;
    } in
    subst P (sym trace) front

pub front_of : (told : Option Answer) (c : Command) → (UsesFars c → ⊥) → (os : Upon) (old new : Air Device) (asked : List Signal) (ns : List Note) → IsIdle old → Accepts (above os old) c
    → changed (above os old) c ≡ above os old
    → Going air (due (above os old) (asks_for asked) c) (moment old) (moment new) ns → IsAskedBy (above os old) c asked → FrontOf (above os old) (asks_for asked) c new.trace told (above os new)
front_of told c quiet os old new asked ns idle accepted still g asked_by =
    front_so told os old new c asked ns idle accepted still g asked_by (none_in c quiet os old new asked ns g asked_by) (links_stay (above os old) no_joins c g.events told quiet)

-- a command that asks, and changes nothing itself, whatever it may have changed of what stays
pub asks_so : (what : Changes) (os : Upon) (old new : Air Device) (c : Command) (asked : List Signal) (ns : List Note) (answer : Answer) → IsIdle old → HasPlaces (beneath os old)
    → KeepsLink (beneath os new)
    → Accepts (above os old) c → changed (above os old) c ≡ above os old
    → (g : Going air (due (above os old) (asks_for asked) c) (moment old) (moment new) ns) → due (above os old) (asks_for asked) c ns ≡ Over → IsAskedBy (above os old) c asked
    → NoneHands devices (moment old).world g.events → state_after (above os old) no_joins c g.events (Some answer) ≡ plain_after (above os old) c g.events
    → AnswerLaw (above os old) (asks_for asked) c g.events answer
    → LeavesDevices what (moment old).world g.events (moment new).world → Obeyed (beneath os old) (beneath os new) c answer
asks_so what os old new c asked ns answer idle places keeps accepted still g over asked_by none plain law left =
    let st : State = above os old in
    let trace : new.trace ≡ g.events = trace_is old new (due st (asks_for asked) c) ns g idle in
    let world : (moment new).world ≡ replay air (moment old).world g.events = ap (λ (t : Moment (World Device)). t.world) g.moment in
    let as_many : length old.listeners ≡ length new.listeners = sym (ap (λ (w : World Device). length w.listeners) world ∙ as_long (moment old).world g.events) in
    let kinds : map is_tag new.listeners ≡ map is_tag old.listeners =
    ap (λ (w : World Device). map is_tag w.listeners) world ∙ kinds_stay old.listeners (replay air (moment old).world g.events).listeners (devices_stay (moment old).world g.events) in
    record {
      given = asks_for asked;
      joined = refl;
      front = front_so (Some answer) os old new c asked ns idle accepted still g asked_by none plain;
      over = ap (λ es. due st (asks_for asked) c (receptions es)) trace ∙ ap (due st (asks_for asked) c) g.known ∙ over;
      answered = subst (λ es. AnswerLaw st (asks_for asked) c es answer) (sym trace) law;
      tame = left_tame what (moment old).world g.events (moment new).world left idle.tame;
      tidy = going_tidy (due st (asks_for asked) c) (moment old) (moment new) ns g idle.tidy;
      places = record {
        ends = places.ends ∙ as_many;
        numbers = places.numbers ∙ as_many;
        served = served_as old.listeners new.listeners os.peers.numbers os.ends kinds places.served;
        apart = places.apart;
      };
      link = keeps;
    }

pub asks_obeyed : (what : Changes) (c : Command) → (UsesFars c → ⊥) → (os : Upon) (old new : Air Device) (asked : List Signal) (ns : List Note) (answer : Answer) → IsIdle old
    → HasPlaces (beneath os old) → KeepsLink (beneath os new)
    → Accepts (above os old) c → changed (above os old) c ≡ above os old
    → (g : Going air (due (above os old) (asks_for asked) c) (moment old) (moment new) ns) → due (above os old) (asks_for asked) c ns ≡ Over → IsAskedBy (above os old) c asked
    → AnswerLaw (above os old) (asks_for asked) c g.events answer
    → LeavesDevices what (moment old).world g.events (moment new).world → Obeyed (beneath os old) (beneath os new) c answer
asks_obeyed what c quiet os old new asked ns answer idle places keeps accepted still g over asked_by law left =
    asks_so what os old new c asked ns answer idle places keeps accepted still g over asked_by (none_in c quiet os old new asked ns g asked_by)
    (links_stay (above os old) no_joins c g.events (Some answer) quiet) law left

-- all devices were searched for
pub search_obeyed : (old new : Air Device) (r : Result Everybody PollFault) (answer : Answer) → IsIdle old → Searches (moment old) (moment new) r → TellsFound r answer
    → ObeyedUnlinked old new Find answer
search_obeyed old new r answer idle s told = λ ends peers places.
    let os : Upon = record { ends = ends; peers = peers; link = None } in
    let g : Going air (due (above os old) (asks_for []) Find) (moment old) (moment new) s.asked.notes = s.asked.going in
    let world : (moment new).world ≡ replay air (moment old).world g.events = ap (λ (t : Moment (World Device)). t.world) g.moment in
    asks_obeyed NoStore Find (λ h. h) os old new [] s.asked.notes answer idle places tt tt refl g s.asked.over refl
    (record {
      tells = found_told r answer told old.listeners s.asked.going.events s.tells;
      stays = stable_behind (moment old).world g.events os.ends (none_in Find (λ h. h) os old new [] s.asked.notes g refl) (stores_stay old new g.events world s.asked.same);
    }) s.asked.same

-- all Type 5 tags were searched for
pub crowd_obeyed : (old new : Air Device) (r : Result (List (List ℕ)) PollFault) (answer : Answer) → IsIdle old → Crowds (moment old) (moment new) r → tags_answer r ≡ Some answer
    → ObeyedUnlinked old new Crowd answer
crowd_obeyed old new r answer idle s told = λ ends peers places.
    let os : Upon = record { ends = ends; peers = peers; link = None } in
    let g : Going air (due (above os old) (asks_for []) Crowd) (moment old) (moment new) s.asked.notes = s.asked.going in
    let world : (moment new).world ≡ replay air (moment old).world g.events = ap (λ (t : Moment (World Device)). t.world) g.moment in
    asks_obeyed NoStore Crowd (λ h. h) os old new [] s.asked.notes answer idle places tt tt refl g s.asked.over refl
    (record {
      tells = record { found = r; tells = s.tells; answered = told };
      stays = stable_behind (moment old).world g.events os.ends (none_in Crowd (λ h. h) os old new [] s.asked.notes g refl) (stores_stay old new g.events world s.asked.same);
    }) s.asked.same

-- each device has a list of what a read asks of it
all_asked : (d : Device) → IsSound (kept d) → (asked : List Signal) × ReadAsks d asked
all_asked (T2 d) sound = some_asked (T2 d) sound (tt, refl)
all_asked (T4 d) sound = file_asked 0 (device_store (T4 d))
all_asked (Peer d) sound = ([], refl)
all_asked (T5 p) sound = some_asked (T5 p) sound (tt, refl)
all_asked (T3 p) sound = ([], refl)

-- what a read asks of a placed device, and nothing where none is placed
asked_by : (old : Air Device) (id : DeviceId) → IsIdle old → (asked : List Signal) × IfPlaced (λ d. ReadAsks d asked) (asked ≡ []) (device_with (bytes_of id) old.listeners)
asked_by old id idle = by_found (device_with (bytes_of id) old.listeners) refl
  where
    by_found : (o : Option Device) → device_with (bytes_of id) old.listeners ≡ o → (asked : List Signal) × IfPlaced (λ d. ReadAsks d asked) (asked ≡ []) o
    by_found None found = ([], refl)
    by_found (Some d) found = all_asked d (with_sound old.listeners (bytes_of id) d idle.tame.sound found)

-- the field was lost where the answer tells it
pub told_lost : (e : PollFault) (answer : Answer) → poll_answer e ≡ Some answer → answer ≡ answers.FieldLost → ◌≡◌ {A = Result SeenKind PollFault} (Err e) (Err faults.FieldLost)
told_lost faults.Nobody answer is lost = absurd cc
told_lost faults.Disturbed answer is lost = absurd cc
told_lost faults.FieldLost answer is lost = refl
told_lost faults.Memory answer is lost = absurd cc
told_lost faults.NotFound answer is lost = absurd cc
told_lost faults.BadAnswer answer is lost = absurd cc

-- polling ends by no six bad receptions
pub never_six : (e : PollFault) (answer : Answer) → poll_answer e ≡ Some answer → answer ≡ answers.SixBad → ⊥
never_six faults.Nobody answer is six = cc
never_six faults.Disturbed answer is six = cc
never_six faults.FieldLost answer is six = cc
never_six faults.Memory answer is six = cc
never_six faults.NotFound answer is six = cc
never_six faults.BadAnswer answer is six = cc

pub poll_lost : (e : PollFault) (answer : Answer) → poll_answer e ≡ Some answer → ◌≡◌ {A = Result SeenKind PollFault} (Err e) (Err faults.FieldLost) → answer ≡ answers.FieldLost
poll_lost e answer is lost = (let same : e ≡ faults.FieldLost = cc in let told : Some answer ≡ Some answers.FieldLost = sym is ∙ ap poll_answer same in cc)

-- what selecting asks, a command of the tag asks
abbrev pub polled_of : (id : DeviceId) (asked : List Signal) (a b : Moment (World Device)) (ns : List Note) → Going air (λ ks. asks (selecting id ks)) a b ns → Going air (tag_due id asked) a b ns
polled_of id asked a b ns g = record {
  events = g.events;
  moment = g.moment;
  turns = g.turns;
  each = due_weaker (tag_due id asked) (λ ks. asks (selecting id ks)) (λ ks n h d. polls_first asked (selecting id ks) n h d) [] g.events g.each;
  fates = g.fates;
  fresh = g.fresh;
  known = g.known;
}

-- no tag was selected: so a command of it tells, whatever it would tell of a device
pub missed_tells : (Tells : Device → Answer → Type 0) (id : DeviceId) (asked : List Signal) (old new : Moment (World Device)) (e : PollFault) (answer : Answer) → (s : Selects id (Err e) old new)
    → poll_answer e ≡ Some answer → TagTells Tells id old.world.listeners asked s.asked.going.events answer
missed_tells Tells id asked old new e answer s is = record {
  polled = Err e;
  behind = [];
  selected = ap (selecting id) s.asked.going.known ∙ s.told;
  cause = s.cause;
  ends = is;
  lost = (λ lost. s.lost.0 (told_lost e answer is lost), λ broken. poll_lost e answer is (s.lost.1 broken));
  noisy = λ six. absurd (never_six e answer is six);
}

pub missed_obeyed : (old new : Air Device) (id : DeviceId) (e : PollFault) (answer : Answer) → IsIdle old → Selects id (Err e) (moment old) (moment new) → poll_answer e ≡ Some answer
    → ObeyedUnlinked old new (Read id) answer
missed_obeyed old new id e answer idle s is = λ ends peers places.
    let os : Upon = record { ends = ends; peers = peers; link = None } in
    let some = asked_by old id idle in
    let g : Going air (λ ns. asks (selecting id ns)) (moment old) (moment new) s.asked.notes = s.asked.going in
    let going : Going air (tag_due id some.0) (moment old) (moment new) s.asked.notes = polled_of id some.0 (moment old) (moment new) s.asked.notes g in
    let world : (moment new).world ≡ replay air (moment old).world g.events = ap (λ (t : Moment (World Device)). t.world) g.moment in
    let tells : TagTells TellsOf id old.listeners some.0 g.events answer = missed_tells TellsOf id some.0 (moment old) (moment new) e answer s is in
    asks_obeyed NoStore (Read id) (λ h. h) os old new some.0 s.asked.notes answer idle places tt tt refl going (ap (then_asks some.0) s.told) some.1
    (record {
      tells = tells;
      stays = stable_behind (moment old).world g.events os.ends (none_in (Read id) (λ h. h) os old new some.0 s.asked.notes going some.1) (stores_stay old new g.events world s.asked.same);
    }) s.asked.same

-- A tag was selected, and commands were asked behind that: both are one command.
module _ (id : DeviceId) (kind : SeenKind) (asked : List Signal) (a b c : Moment (World Device)) (hs ks : List Note) (told : selecting id hs ≡ Told (Ok kind) [])
    (g : Going air (λ ns. asks (selecting id ns)) a b hs) (k : Going air (tag_next kind asked) b c ks) where
  asks_behind : (t : List Event) → back_of t ≡ backs.Nothing → tag_due id asked (receptions (g.events ++ t)) ≡ tag_next kind asked (receptions t)
  asks_behind t fresh =
      ap (tag_due id asked) (receptions-append g.events t fresh ∙ ap (λ r. r ++ receptions t) g.known) ∙ then_tag id kind asked hs (receptions t) told

  pub each_of_both : EachDue (tag_due id asked) [] (g.events ++ k.events)
  each_of_both =
      let D : List Event → Type 0 = λ t. EachDue (tag_due id asked) t k.events in
      due-append (tag_due id asked) [] g.events k.events
      (due_weaker (tag_due id asked) (λ ns. asks (selecting id ns)) (λ ns n h d. polls_first asked (selecting id ns) n h d) [] g.events g.each)
      (subst D (append-nil g.events) (due_shift (tag_due id asked) (tag_next kind asked) g.events asks_behind [] k.events k.fresh k.each))

  pub turns_of_both : AreTurns air a.world (g.events ++ k.events)
  turns_of_both =
      let T : World Device → Type 0 = λ w. AreTurns air w k.events in
      turns-append air a.world g.events k.events g.turns (subst T (ap (λ (t : Moment (World Device)). t.world) g.moment) k.turns)

  pub fates_of_both : FatesFrom a.queue (g.events ++ k.events)
  fates_of_both =
      let F : List Fate → Type 0 = λ q. FatesFrom q k.events in
      fates-append a.queue g.events k.events g.fates (subst F (ap (λ (t : Moment (World Device)). t.queue) g.moment) k.fates)

  abbrev pub both : Going air (tag_due id asked) a c (hs ++ ks)
  both = record {
    events = g.events ++ k.events;
    moment = k.moment ∙ ap (λ t. with_events air t k.events) g.moment ∙ events-append air a g.events k.events;
    turns = turns_of_both;
    each = each_of_both;
    fates = fates_of_both;
    fresh = back_of-append g.events k.events k.fresh ∙ g.fresh;
    known = receptions-append g.events k.events k.fresh ∙ ap (λ t. t ++ receptions k.events) g.known ∙ ap (λ t. hs ++ t) k.known;
  }

-- no Break was used by the first events
pub lost_behind : (answer : Answer) (first rest : List Event) → ((0 < breaks first) → ⊥) → (answer ≡ answers.FieldLost) ↔ (0 < breaks rest) → (answer ≡ answers.FieldLost)
    ↔ (0 < breaks (first ++ rest))
lost_behind answer first rest none lost =
    let sum : breaks (first ++ rest) ≡ breaks first + breaks rest = breaks-append first rest in
    elim (cases_lt 0 (breaks first)) [
      | inl some ↦ absurd (none some)
      | inr still ↦ (
        λ is. let some : 0 < breaks rest = lost.0 is in let all : 0 < breaks (first ++ rest) = omega (arith, sum, some) in all,
        λ all. lost.1 (let some : 0 < breaks rest = omega (arith, sum, all, still) in some),
      )
    ]

-- a tag was selected, and so much was asked of it
module _ (old mid : Air Device) (id : DeviceId) (place : ℕ) (idle : IsIdle old) (s : SelectsAt id place (moment old) (moment mid)) where
  pub selected_with : IsWith old.listeners (bytes_of id) (kept s.device)
  selected_with =
      let split : map kept old.listeners ≡ map kept s.stands.before ++ kept s.device ∷ map kept s.stands.behind =
      sym s.selects.asked.same ∙ ap (λ (w : World Device). map kept w.listeners) s.stands.world ∙ map-over kept s.stands.before (s.device ∷ s.stands.behind) in
      is_with old.listeners (map kept s.stands.before) (kept s.device) (map kept s.stands.behind) (bytes_of id) idle.tame.sound split s.named

  placed_asked : (commands : List Signal) → ReadAsks s.device commands → IfPlaced (λ d. ReadAsks d commands) (commands ≡ []) (device_with (bytes_of id) old.listeners)
  placed_asked commands asks =
      let P : Kept → Type 0 = λ k. IfRead k.fixed.kind (IsAsked k.fixed.how k.fixed.size k.store commands) (commands ≡ []) in
      subst (λ o. IfPlaced (λ d. ReadAsks d commands) (commands ≡ []) o) (sym selected_with.found) (subst P (sym selected_with.same) asks)

  -- what was asked of it was cut off by nothing but want of memory
  pub cut_tag : (what : Changes) (IsAll : List Signal → Type 0) (new : Air Device)
      → (r : AsksSome what IsAll (tag_next (seen_of s.device)) (GoesOnBy (seen_of s.device)) (moment mid) (moment new)) → CutTag id r.commands new.trace
  cut_tag what IsAll new r =
      let hs : List Note = s.selects.asked.notes in
      let ks : List Note = r.asked.notes in
      let g : Going air (tag_due id r.commands) (moment old) (moment new) (hs ++ ks) =
      both id (seen_of s.device) r.commands (moment old) (moment mid) (moment new) hs ks s.selects.told s.selects.asked.going r.asked.going in
      let trace : new.trace ≡ g.events = trace_is old new (tag_due id r.commands) (hs ++ ks) g idle in
      let none : breaks s.selects.asked.going.events ≡ 0 = elim (cases_lt 0 (breaks s.selects.asked.going.events)) [
        | inl some ↦ absurd (let is : ◌≡◌ {A = Result SeenKind PollFault} (Ok (seen_of s.device)) (Err faults.FieldLost) = s.selects.lost.1 some in cc)
        | inr still ↦ omega (arith, still)
      ] in
      inr (record {
        kind = seen_of s.device;
        behind = ks;
        selected = ap (λ es. selecting id (receptions es)) trace ∙ ap (selecting id) g.known ∙ selecting_more id hs ks (Ok (seen_of s.device)) s.selects.told;
        unbroken = r.unbroken;
        unlost = ap breaks trace ∙ omega (arith, breaks-append s.selects.asked.going.events r.asked.going.events, none, r.unlost);
      })

  -- reading was cut off
  pub read_cut : (new : Air Device) → may_be_read s.device ≡ true → ReadsSome (moment mid) (moment new) s.device → CutOffUnlinked old new (Read id)
  read_cut new tag r = λ ends peers.
      let os : Upon = record { ends = ends; peers = peers; link = None } in
      let g : Going air (tag_due id r.commands) (moment old) (moment new) (s.selects.asked.notes ++ r.asked.notes) =
      both id (seen_of s.device) r.commands (moment old) (moment mid) (moment new) s.selects.asked.notes r.asked.notes s.selects.told s.selects.asked.going r.asked.going in
      let asked = placed_asked r.commands (as_read s.device tag _ _ r.asks) in (
        asks_for r.commands,
        refl,
        front_of None (Read id) (λ h. h) os old new r.commands (s.selects.asked.notes ++ r.asked.notes) idle tt refl g asked,
        part_stays os.ends old new g.events idle g.moment (r.asked.same ∙ s.selects.asked.same)
            (none_in (Read id) (λ h. h) os old new r.commands (s.selects.asked.notes ++ r.asked.notes) g asked),
        cut_tag NoStore (AsksOf s.device) new r,
      )

-- A peer was selected, and so a command of a tag asks nothing more.
module _ (Tells : Device → Answer → Type 0) (old mid : Air Device) (id : DeviceId) (place : ℕ) (s : SelectsAt id place (moment old) (moment mid)) (other : may_be_read s.device ≡ false) where
  abbrev peer_notes : List Note
  peer_notes = s.selects.asked.notes

  abbrev pub peer_going : Going air (tag_due id []) (moment old) (moment mid) peer_notes
  peer_going = polled_of id [] (moment old) (moment mid) peer_notes s.selects.asked.going

  pub peer_over : tag_due id [] peer_notes ≡ Over
  peer_over = ap (then_asks []) s.selects.told ∙ ap (λ k. tag_next k [] []) (unread_seen s.device s.found other)

  -- so it tells, where it tells so of the device
  pub peer_tells : OfPlaced (λ d. Tells d answers.WrongKind) (device_with (bytes_of id) old.listeners) → TagTells Tells id old.listeners [] s.selects.asked.going.events answers.WrongKind
  peer_tells placed = record {
    polled = Ok (seen_of s.device);
    behind = [];
    selected = ap (selecting id) s.selects.asked.going.known ∙ s.selects.told;
    cause = tt;
    ends = subst (λ k. TellsBy k (λ a. OfPlaced (λ d. Tells d a) (device_with (bytes_of id) old.listeners)) TellsFault [] [] answers.WrongKind) (sym (unread_seen s.device s.found other)) placed;
    lost = (
      λ lost. absurd (let clash : answers.WrongKind ≡ answers.FieldLost = lost in cc),
      λ broken. absurd (let is : ◌≡◌ {A = Result SeenKind PollFault} (Ok (seen_of s.device)) (Err faults.FieldLost) = s.selects.lost.1 broken in cc),
    );
    noisy = λ six. absurd (let clash : answers.WrongKind ≡ answers.SixBad = six in cc);
  }

-- a peer isn't read
pub peer_obeyed : (old mid : Air Device) (id : DeviceId) (place : ℕ) (idle : IsIdle old) (s : SelectsAt id place (moment old) (moment mid)) → may_be_read s.device ≡ false
    → ObeyedUnlinked old mid (Read id) answers.WrongKind
peer_obeyed old mid id place idle s peer = λ ends peers places.
    let os : Upon = record { ends = ends; peers = peers; link = None } in
    let with_id : IsWith old.listeners (bytes_of id) (kept s.device) = selected_with old mid id place idle s in
    let P : Kept → Type 0 = λ k. IfRead k.fixed.kind (Tells k.fixed.how k.fixed.size k.store answers.WrongKind) (answers.WrongKind ≡ answers.WrongKind) in
    let here : TellsOf s.device answers.WrongKind = as_unread s.device peer _ _ refl in
    let there : OfPlaced (λ d. TellsOf d answers.WrongKind) (device_with (bytes_of id) old.listeners) =
    subst (λ o. OfPlaced (λ d. TellsOf d answers.WrongKind) o) (sym with_id.found) (subst P (sym with_id.same) here) in
    let g : Going air (tag_due id []) (moment old) (moment mid) s.selects.asked.notes = peer_going TellsOf old mid id place s peer in
    let world : (moment mid).world ≡ replay air (moment old).world g.events = ap (λ (t : Moment (World Device)). t.world) g.moment in
    let asked = placed_asked old mid id place idle s [] (as_unread s.device peer _ _ refl) in
    asks_obeyed NoStore (Read id) (λ h. h) os old mid [] s.selects.asked.notes answers.WrongKind idle places tt tt refl g (peer_over TellsOf old mid id place s peer) asked
    (record {
      tells = peer_tells TellsOf old mid id place s peer there;
      stays = stable_behind (moment old).world g.events os.ends (none_in (Read id) (λ h. h) os old mid [] s.selects.asked.notes g asked) (stores_stay old mid g.events world s.selects.asked.same);
    }) s.selects.asked.same

-- a tag was selected and read
module _ (old mid new : Air Device) (id : DeviceId) (place : ℕ) (read : Result Found ReadFault) (answer : Answer) (told : read_answer read ≡ Some answer) (idle : IsIdle old)
    (s : SelectsAt id place (moment old) (moment mid)) (tag : may_be_read s.device ≡ true) (r : Reads (moment mid) (moment new) s.device read) where
  abbrev with_id : IsWith old.listeners (bytes_of id) (kept s.device)
  with_id = selected_with old mid id place idle s

  abbrev PlacedTells : Answer → Type 0
  PlacedTells told = OfPlaced (λ d. TellsOf d told) (device_with (bytes_of id) old.listeners)

  placed_tells : ShowsOf s.device read → PlacedTells answer
  placed_tells shows =
      let tells : TellsOf s.device answer = as_read s.device tag _ _ (shows_tells (how_of s.device) (size_of s.device) (device_store s.device) read answer told shows) in
      let P : Kept → Type 0 = λ k. IfRead k.fixed.kind (Tells k.fixed.how k.fixed.size k.store answer) (answer ≡ answers.WrongKind) in
      subst (λ o. OfPlaced (λ d. TellsOf d answer) o) (sym with_id.found) (subst P (sym with_id.same) tells)

  -- what is known of both parts
  both_known : receptions (s.selects.asked.going.events ++ r.asked.going.events) ≡ s.selects.asked.notes ++ r.asked.notes
  both_known =
      receptions-append s.selects.asked.going.events r.asked.going.events r.asked.going.fresh ∙ ap (λ t. t ++ receptions r.asked.going.events) s.selects.asked.going.known
      ∙ ap (λ t. s.selects.asked.notes ++ t) r.asked.going.known

  read_tells : TagTells TellsOf id old.listeners r.commands (s.selects.asked.going.events ++ r.asked.going.events) answer
  read_tells = record {
    polled = Ok (seen_of s.device);
    behind = r.asked.notes;
    selected = ap (selecting id) both_known ∙ selecting_more id s.selects.asked.notes r.asked.notes (Ok (seen_of s.device)) s.selects.told;
    cause = tt;
    ends = tells_as (ShowsOf s.device) FailsRead PlacedTells TellsFault read answer placed_tells (fails_tells read answer told) (seen_of s.device) r.commands r.asked.notes r.ends;
    lost = lost_behind answer s.selects.asked.going.events r.asked.going.events
        (λ some. let is : ◌≡◌ {A = Result SeenKind PollFault} (Ok (seen_of s.device)) (Err faults.FieldLost) = s.selects.lost.1 some in cc)
        (lost_told read answer told (breaks r.asked.going.events) r.lost);
    noisy = λ six.
        let rest : 0 < noise r.asked.going.events = r.noisy (six_told read answer told six) in
        let sum : noise (s.selects.asked.going.events ++ r.asked.going.events) ≡ noise s.selects.asked.going.events + noise r.asked.going.events =
        noise_append s.selects.asked.going.events r.asked.going.events in
        omega (arith, sum, rest);
  }

  pub read_obeyed : ObeyedUnlinked old new (Read id) answer
  read_obeyed = λ ends peers places.
      let os : Upon = record { ends = ends; peers = peers; link = None } in
      let hs : List Note = s.selects.asked.notes in
      let ks : List Note = r.asked.notes in
      let g : Going air (tag_due id r.commands) (moment old) (moment new) (hs ++ ks) =
      both id (seen_of s.device) r.commands (moment old) (moment mid) (moment new) hs ks s.selects.told s.selects.asked.going r.asked.going in
      let world : (moment new).world ≡ replay air (moment old).world g.events = ap (λ (t : Moment (World Device)). t.world) g.moment in
      let same : map kept new.listeners ≡ map kept old.listeners = r.asked.same ∙ s.selects.asked.same in
      let asked = placed_asked old mid id place idle s r.commands (as_read s.device tag _ _ r.asks) in
      asks_obeyed NoStore (Read id) (λ h. h) os old new r.commands (hs ++ ks) answer idle places tt tt refl g (then_tag id (seen_of s.device) r.commands hs ks s.selects.told ∙ r.asked.over) asked
      (record {
        tells = read_tells;
        stays = stable_behind (moment old).world g.events os.ends (none_in (Read id) (λ h. h) os old new r.commands (hs ++ ks) g asked) (stores_stay old new g.events world same);
      }) same

-- A command that was cut off: nothing was done ...
pub untouched : (old new : Machines) (c : Command) → IsSettled old → new ≡ old → IsCutOff old new c
untouched old new c settled same = inl (ap (λ (m : Machines). m.air.trace) same ∙ settled.idle.quiet, ap state_at same)

-- ... or so much was asked, in a search, in selecting a tag, and in reading it.
pub search_cut : (old new : Air Device) → IsIdle old → AskedPart NoStore (λ ns. asks (finding_all ns)) (moment old) (moment new) → CutOffUnlinked old new Find
search_cut old new idle part = λ ends peers.
    let os : Upon = record { ends = ends; peers = peers; link = None } in (
      asks_for [],
      refl,
      front_of None Find (λ h. h) os old new [] part.notes idle tt refl part.going refl,
      part_stays os.ends old new part.going.events idle part.going.moment part.same (none_in Find (λ h. h) os old new [] part.notes part.going refl),
    )

pub crowd_cut : (old new : Air Device) → IsIdle old → AskedPart NoStore crowding (moment old) (moment new) → CutOffUnlinked old new Crowd
crowd_cut old new idle part = λ ends peers.
    let os : Upon = record { ends = ends; peers = peers; link = None } in (
      asks_for [],
      refl,
      front_of None Crowd (λ h. h) os old new [] part.notes idle tt refl part.going refl,
      part_stays os.ends old new part.going.events idle part.going.moment part.same (none_in Crowd (λ h. h) os old new [] part.notes part.going refl),
    )

-- so much was asked, whatever it came to
pub crowd_part : (old new : Moment (World Device)) (r : Result (List (List ℕ)) PollFault) → CrowdsField old new r → CrowdCut old new r → AskedPart NoStore crowding old new
crowd_part old new (Ok ids) tells cut = let s : Crowds old new (Ok ids) = tells (λ e. cc) in record { notes = s.asked.notes; going = s.asked.going; same = s.asked.same }
crowd_part old new (Err faults.Nobody) tells cut = let s : Crowds old new (Err faults.Nobody) = tells (λ e. cc) in record { notes = s.asked.notes; going = s.asked.going; same = s.asked.same }
crowd_part old new (Err faults.Disturbed) tells cut = let s : Crowds old new (Err faults.Disturbed) = tells (λ e. cc) in record { notes = s.asked.notes; going = s.asked.going; same = s.asked.same }
crowd_part old new (Err faults.FieldLost) tells cut = let s : Crowds old new (Err faults.FieldLost) = tells (λ e. cc) in record { notes = s.asked.notes; going = s.asked.going; same = s.asked.same }
crowd_part old new (Err faults.Memory) tells cut = cut refl
crowd_part old new (Err faults.NotFound) tells cut = let s : Crowds old new (Err faults.NotFound) = tells (λ e. cc) in record { notes = s.asked.notes; going = s.asked.going; same = s.asked.same }
crowd_part old new (Err faults.BadAnswer) tells cut = let s : Crowds old new (Err faults.BadAnswer) = tells (λ e. cc) in record { notes = s.asked.notes; going = s.asked.going; same = s.asked.same }

pub crowd_fed : (e : PollFault) (answer : Answer) → poll_answer e ≡ Some answer → ◌≡◌ {A = Result (List (List ℕ)) PollFault} (Err e) (Err faults.Memory) → ⊥
crowd_fed faults.Nobody answer told m = cc
crowd_fed faults.Disturbed answer told m = cc
crowd_fed faults.FieldLost answer told m = cc
crowd_fed faults.Memory answer told m = cc
crowd_fed faults.NotFound answer told m = cc
crowd_fed faults.BadAnswer answer told m = cc

-- the faults by which it may end
pub may_crowd : (old new : Moment (World Device)) (e : PollFault) → CrowdsField old new (Err e) → IsSome (poll_answer e) ⊎ (e ≡ faults.Memory)
may_crowd old new faults.Nobody tells = let s : Crowds old new (Err faults.Nobody) = tells (λ e. cc) in absurd (s.tells.causes.nobody refl)
may_crowd old new faults.Disturbed tells = inl refl
may_crowd old new faults.FieldLost tells = inl refl
may_crowd old new faults.Memory tells = inr refl
may_crowd old new faults.NotFound tells = inl refl
may_crowd old new faults.BadAnswer tells = let s : Crowds old new (Err faults.BadAnswer) = tells (λ e. cc) in absurd (s.tells.crowd.never_bad refl)

-- nothing was asked of the tag yet
pub polled_tag : (old new : Air Device) (id : DeviceId) (asked : List Signal) → IsIdle old → SelectionCut id (moment old) (moment new) → CutTag id asked new.trace
polled_tag old new id asked idle part =
    inl (subst (EachDue (λ ns. asks (selecting id ns)) []) (sym (trace_is old new (λ ns. asks (selecting id ns)) part.notes part.going idle)) part.going.each)

pub selection_cut : (old new : Air Device) (id : DeviceId) → IsIdle old → SelectionCut id (moment old) (moment new) → CutOffUnlinked old new (Read id)
selection_cut old new id idle part = λ ends peers.
    let os : Upon = record { ends = ends; peers = peers; link = None } in
    let some = asked_by old id idle in
    let g : Going air (tag_due id some.0) (moment old) (moment new) part.notes = polled_of id some.0 (moment old) (moment new) part.notes part.going in (
      asks_for some.0,
      refl,
      front_of None (Read id) (λ h. h) os old new some.0 part.notes idle tt refl g some.1,
      part_stays os.ends old new part.going.events idle part.going.moment part.same (none_in (Read id) (λ h. h) os old new some.0 part.notes g some.1),
      polled_tag old new id some.0 idle part,
    )

-- What was asked in a search, however it ended.
pub search_part : (old new : Moment (World Device)) (r : Result Everybody PollFault) → SearchesField old new r → SearchCut old new r → AskedPart NoStore (λ ns. asks (finding_all ns)) old new
search_part old new (Ok e) told cut = let a = (told (λ k. cc)).asked in record { notes = a.notes; going = a.going; same = a.same }
search_part old new (Err faults.Nobody) told cut = let a = (told (λ k. cc)).asked in record { notes = a.notes; going = a.going; same = a.same }
search_part old new (Err faults.Disturbed) told cut = let a = (told (λ k. cc)).asked in record { notes = a.notes; going = a.going; same = a.same }
search_part old new (Err faults.FieldLost) told cut = let a = (told (λ k. cc)).asked in record { notes = a.notes; going = a.going; same = a.same }
search_part old new (Err faults.Memory) told cut = cut refl
search_part old new (Err faults.NotFound) told cut = let a = (told (λ k. cc)).asked in record { notes = a.notes; going = a.going; same = a.same }
search_part old new (Err faults.BadAnswer) told cut = let a = (told (λ k. cc)).asked in record { notes = a.notes; going = a.going; same = a.same }

pub missed_part : (old new : Moment (World Device)) (id : DeviceId) (e : PollFault) → Selects id (Err e) old new → SelectionCut id old new
missed_part old new id e s = record { notes = s.asked.notes; going = s.asked.going; same = s.asked.same }
