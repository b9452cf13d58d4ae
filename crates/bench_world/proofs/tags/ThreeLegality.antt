-- Reads and writes of Type 3 tags that were obeyed, and what want of memory leaves of one.
use Rattle.std.proofs.Common.{◌≡◌, ◌⊎◌, inl, inr, ℕ, ◌+◌, ◌<◌, List, [], ◌∷◌, ◌++◌, map, Bool, true, false, Option, Some, None, IsSome, Result, Ok, Err, refl, sym, ◌∙◌, ap, subst, arith}
use Rattle.std.specs.List.{AllByRecursion}
use Rattle.std.proofs.lemmas.Bool.{cases_lt}
use Rattle.std.proofs.lemmas.List.{append-nil}
use Rattle.nfc_base.specs.declared.event.Event.{Event}
use Rattle.nfc_base.specs.declared.event.Fate.{Fate}
use Rattle.nfc_base.specs.declared.frame.Tech.TheVariants as techs
use Rattle.nfc_base.specs.declared.tag_link.AskFault.{AskFault}
use Rattle.nfc_base.specs.declared.tag_link.AskFault.TheVariants as asking
use Rattle.nfc_base.specs.Signal.{Signal}
use Rattle.nfc_base.specs.Trace.{back_of, noise, breaks}
use Rattle.nfc_base.specs.Trace as backs
use Rattle.air_core.specs.World.{World}
use Rattle.air_core.specs.Turn.{Air, moment}
use Rattle.air_core.specs.Conversation.{Moment, Note, Lit, Got, Lost, Next, Over, LightUp, Asks, IsDemand, AreTurns, FatesFrom, EachDue, Going, receptions, replay, with_events}
use Rattle.air_core.specs.laws.Turning.{due-append, due_weaker, due_shift, fates-append, back_of-append, receptions-append, turns-append, events-append}
use Rattle.air_core.specs.Waits.{stand, waits_next}
use Rattle.air_core.proofs.LostField.{breaks-append}
use Rattle.air_core.proofs.PlainTurns.{noise_append}
use Rattle.nfca_poll.specs.declared.fault.PollFault.{PollFault}
use Rattle.nfca_poll.specs.declared.fault.PollFault.TheVariants as faults
use Rattle.t3t_tag.specs.Store as three
use Rattle.t3t_access.specs.declared.fault.T3Fault.TheVariants as fault
use Rattle.t3t_access.specs.Polling.{picking_f}
use Rattle.t3t_access.specs.Writing.{first_asked}
use Rattle.far_air.specs.Quietly.{NoneHands}
use Rattle.bench_script.specs.declared.command.Command.TheVariants.{Read3, Write3}
use Rattle.bench_script.specs.declared.message.Msg.{Msg}
use Rattle.bench_script.specs.Messages.{message_of}
use Rattle.bench_devices.specs.declared.device.Device.{Device}
use Rattle.bench_devices.specs.declared.device.Device.TheVariants.{T2, T3, T4, Peer, T5}
use Rattle.bench_devices.specs.declared.polling.SeenKind.TheVariants as seen
use Rattle.bench_devices.specs.Answering.{TellsStanding}
use Rattle.bench_devices.specs.Device.{BenchWorld, air, devices, device_id, device_locks, device_store, device_tech, kind_of}
use Rattle.bench_devices.specs.Keeping.{AllKeepBut, Changes, IsSound, Kept, LeavesDevices, NoStore, StoreOf, held_by, images_of, kept}
use Rattle.bench_devices.specs.Kinds.{DeviceKind, T2Kind, T3Kind, T4Kind, PeerKind, T5Kind}
use Rattle.bench_devices.specs.Phases.{AsksTag, IsIdle}
use Rattle.bench_devices.specs.Placed.{IfPlaced, OfPlaced, device_with}
use Rattle.bench_devices.specs.Polling as polls
use Rattle.bench_devices.specs.Polling.{Followed, Told, asks}
use Rattle.bench_devices.specs.Sensing.{IsThree, SeekingCut, Seeks, SeeksAt, found_if, has_three, seeking, HasSought}
use Rattle.bench_devices.specs.ThreeAsking.{then_three, three_due}
use Rattle.bench_devices.specs.Threes.{FailsThree, KeepsWrite3Law, ReadAsksThree, ReadsThree, ShowsThree, ShowsThreeWriteOf, StandsThree, WriteAsksThree, WriteAsksThreeOf, Write3Law, WritesThree}
use Rattle.bench_devices.specs.Threes.{WritesThreeSome, AsksThreeSome}
use Rattle.bench_devices.proofs.kinds.EveryFrame.{IsSoundOne, leaves_behind, leaves_more}
use Rattle.bench_devices.proofs.finding.Following.{ToldOn, told_on}
use Rattle.bench_devices.proofs.kinds.ImagesJoin.{images_still, with_alone}
use Rattle.bench_devices.proofs.finding.Sensed.{no_three}
use Rattle.bench_devices.proofs.type3.ThreeLaw.{law_sought, law_still, sought_harmless}
use Rattle.bench_devices.proofs.type3.ThreeLists.{rest_of}
use Rattle.bench_devices.proofs.type3.ThreePuts.{puts_rest}
use Rattle.bench_world.specs.declared.entry.Answer.{Answer}
use Rattle.bench_world.specs.declared.entry.Answer.TheVariants as answers
use Rattle.bench_world.specs.Answering.{TellsFault, poll_answer}
use Rattle.bench_world.specs.Legal.{Stores3Law, no_joins}
use Rattle.bench_world.specs.Obeying.{CutOffUnlinked, ObeyedUnlinked}
use Rattle.bench_world.specs.Threes.{AreWellStored, CutThree, IfThree, IsWellStored, KeepsStores3, ReadAsks3, ReadEnd3, TellsEnd3, TellsForm3, TellsRead3, TellsWrite3, ThreeEnds, ThreeTells}
use Rattle.bench_world.specs.Threes.{WriteAsks3, WriteEnd3, end_told, told_three, written_three}
use Rattle.bench_world.proofs.tags.Fronts.{ends_behind, field_behind, stable_behind}
use Rattle.bench_world.proofs.tags.Legality.{above, asks_for, asks_obeyed, front_of, lost_behind, none_in, part_stays, stores_stay, trace_is, never_six}
use Rattle.bench_world.proofs.devices.Placed.{Upon}
use Rattle.bench_world.proofs.devices.Placing.{IsWith, is_with, map-over, with_sound}
use Rattle.bench_world.proofs.tags.Telling.{tells_as}
use Rattle.bench_world.proofs.tags.ThreeTelling.{fails_read, fails_write, law_as, lost_read, lost_write, six_read, six_write}
use Rattle.bench_world.proofs.devices.WellStored.{with_all}
use Rattle.bench_world.proofs.tags.WriteLegality.{found_named}

-- What polling has told, it tells too with more that is known since.
seeking_stays : (id : List ℕ) (hs ns : List Note) → ToldOn (seeking id hs) ns (seeking id (hs ++ ns))
seeking_stays id [] ns = tt
seeking_stays id (Lit ∷ hs) ns = told_on (picking_f id) (picking_f id).start ((picking_f id).ended (picking_f id).start) hs ns
seeking_stays id (Got h ∷ hs) ns = tt
seeking_stays id (Lost ∷ hs) ns = refl

pub seeking_more : (id : List ℕ) (hs ns : List Note) (r : Result (Unit {0}) PollFault) → seeking id hs ≡ Told r [] → seeking id (hs ++ ns) ≡ Told r ns
seeking_more id hs ns r told = let P : Followed (Unit {0}) → Type 0 = λ p. ToldOn p ns (seeking id (hs ++ ns)) in subst P told (seeking_stays id hs ns)

-- what polling asks, the command asks
pub sought_first : (asked : List Signal) (p : Followed (Unit {0})) (n : Next) → asks p ≡ n → IsDemand n → then_three asked p ≡ n
sought_first asked (polls.Asks m) n h d = h
sought_first asked (Told r ns) Over h d = absurd d
sought_first asked (Told r ns) LightUp h d = absurd cc
sought_first asked (Told r ns) (Asks f) h d = absurd cc

abbrev pub sought_of : (id : List ℕ) (asked : List Signal) (a b : Moment (World Device)) (ns : List Note) → Going air (λ ks. asks (seeking id ks)) a b ns → Going air (three_due id asked) a b ns
sought_of id asked a b ns g = record {
  events = g.events;
  moment = g.moment;
  turns = g.turns;
  each = due_weaker (three_due id asked) (λ ks. asks (seeking id ks)) (λ ks n h d. sought_first asked (seeking id ks) n h d) [] g.events g.each;
  fates = g.fates;
  fresh = g.fresh;
  known = g.known;
}

-- A tag was selected, and commands were asked behind that: both are one command.
module _ (id : List ℕ) (asked : List Signal) (a b c : Moment (World Device)) (hs ks : List Note) (told : seeking id hs ≡ Told (Ok tt) [])
    (g : Going air (λ ns. asks (seeking id ns)) a b hs) (k : Going air (waits_next asked) b c ks) where
  asks_behind : (t : List Event) → back_of t ≡ backs.Nothing → three_due id asked (receptions (g.events ++ t)) ≡ waits_next asked (receptions t)
  asks_behind t fresh =
      ap (three_due id asked) (receptions-append g.events t fresh ∙ ap (λ r. r ++ receptions t) g.known) ∙ ap (then_three asked) (seeking_more id hs (receptions t) (Ok tt) told)

  pub each_of_both : EachDue (three_due id asked) [] (g.events ++ k.events)
  each_of_both =
      let D : List Event → Type 0 = λ t. EachDue (three_due id asked) t k.events in
      due-append (three_due id asked) [] g.events k.events (sought_of id asked a b hs g).each
      (subst D (append-nil g.events) (due_shift (three_due id asked) (waits_next asked) g.events asks_behind [] k.events k.fresh k.each))

  pub turns_of_both : AreTurns air a.world (g.events ++ k.events)
  turns_of_both =
      let T : World Device → Type 0 = λ w. AreTurns air w k.events in
      turns-append air a.world g.events k.events g.turns (subst T (ap (λ (t : Moment (World Device)). t.world) g.moment) k.turns)

  pub fates_of_both : FatesFrom a.queue (g.events ++ k.events)
  fates_of_both =
      let F : List Fate → Type 0 = λ q. FatesFrom q k.events in
      fates-append a.queue g.events k.events g.fates (subst F (ap (λ (t : Moment (World Device)). t.queue) g.moment) k.fates)

  abbrev pub both_three : Going air (three_due id asked) a c (hs ++ ks)
  both_three = record {
    events = g.events ++ k.events;
    moment = k.moment ∙ ap (λ t. with_events air t k.events) g.moment ∙ events-append air a g.events k.events;
    turns = turns_of_both;
    each = each_of_both;
    fates = fates_of_both;
    fresh = back_of-append g.events k.events k.fresh ∙ g.fresh;
    known = receptions-append g.events k.events k.fresh ∙ ap (λ t. t ++ receptions k.events) g.known ∙ ap (λ t. hs ++ t) k.known;
  }

-- The device with an identifier, by whether it is a Type 3 tag.
kind_three : (d : Device) → device_tech d ≡ techs.F → kind_of d ≡ T3Kind
kind_three (T2 d) e = absurd cc
kind_three (T4 d) e = absurd cc
kind_three (Peer d) e = absurd cc
kind_three (T5 p) e = absurd cc
kind_three (T3 p) e = refl

pub tech_three : (d : Device) → kind_of d ≡ T3Kind → device_tech d ≡ techs.F
tech_three (T2 d) e = absurd cc
tech_three (T4 d) e = absurd cc
tech_three (Peer d) e = absurd cc
tech_three (T5 p) e = absurd cc
tech_three (T3 p) e = refl

pub as_three : (k : DeviceKind) → k ≡ T3Kind → (P Q : Type 0) → P → IfThree k P Q
as_three k e P Q p = subst (λ z. IfThree z P Q) (sym e) p

pub of_three : (k : DeviceKind) → k ≡ T3Kind → (P Q : Type 0) → IfThree k P Q → P
of_three k e P Q h = subst (λ z. IfThree z P Q) e h

-- Where it is, or isn't, there is what a command asks of it: here of any list that there is for each Type 3 tag.
module _ (IsAll : Device → List Signal → Type 0) (id : List ℕ) where
  abbrev AsksOf : Device → List Signal → Type 0
  AsksOf d asked = IfThree (kind_of d) (IsAll d asked) (asked ≡ [])

  pub some_asked : ((d : Device) → three.IsT3Store (device_store d) → (asked : List Signal) × IsAll d asked) → (ds : List Device) → AreWellStored ds
      → (asked : List Signal) × IfPlaced (λ d. AsksOf d asked) (asked ≡ []) (device_with id ds)
  some_asked lists ds well = by_found (device_with id ds) refl
    where
      by_kind : (d : Device) (k : DeviceKind) → IfThree k (three.IsT3Store (device_store d)) (Unit {0}) → (asked : List Signal) × IfThree k (IsAll d asked) (asked ≡ [])
      by_kind d T2Kind h = ([], refl)
      by_kind d T3Kind h = lists d h
      by_kind d T4Kind h = ([], refl)
      by_kind d PeerKind h = ([], refl)
      by_kind d T5Kind h = ([], refl)

      by_found : (o : Option Device) → device_with id ds ≡ o → (asked : List Signal) × IfPlaced (λ d. AsksOf d asked) (asked ≡ []) o
      by_found None found = ([], refl)
      by_found (Some d) found = by_kind d (kind_of d) (with_all IsWellStored id ds d well found)

  -- where none is a Type 3 tag nothing is asked
  pub none_asked : (ds : List Device) (asked : List Signal) → IfPlaced (λ d. AsksOf d asked) (asked ≡ []) (device_with id ds) → has_three id ds ≡ false → asked ≡ []
  none_asked ds asked is none = by_found (device_with id ds) refl is
    where
      by_kind : (d : Device) → device_with id ds ≡ Some d → (k : DeviceKind) → kind_of d ≡ k → IfThree k (IsAll d asked) (asked ≡ []) → asked ≡ []
      by_kind d found T2Kind e h = h
      by_kind d found T3Kind e h = absurd (with_all (λ x. IsThree id x → ⊥) id ds d (no_three id ds none) found (tech_three d e, found_named id ds d found))
      by_kind d found T4Kind e h = h
      by_kind d found PeerKind e h = h
      by_kind d found T5Kind e h = h

      by_found : (o : Option Device) → device_with id ds ≡ o → IfPlaced (λ d. AsksOf d asked) (asked ≡ []) o → asked ≡ []
      by_found None found h = h
      by_found (Some d) found h = by_kind d found (kind_of d) refl h

read_lists : (id : List ℕ) (d : Device) → three.IsT3Store (device_store d) → (asked : List Signal) × ReadAsksThree id (device_store d) asked
read_lists id d is = let r = rest_of id (device_store d) is 0 (λ k less. absurd (omega (arith, less))) in (r.rest, r.asks)

write_lists : (id message : List ℕ) (d : Device) → three.IsT3Store (device_store d) → (asked : List Signal) × WriteAsksThreeOf id message d asked
write_lists id message d is =
    let r = puts_rest id (device_store d) (device_locks d) message 0 (λ k less. absurd (omega (arith, less))) in (first_asked id (three.attributes (device_store d)) message 0 ++ r.rest, r.asks)

pub read_asked : (id : List ℕ) (ds : List Device) → AreWellStored ds → (asked : List Signal) × IfPlaced (λ d. ReadAsks3 id d asked) (asked ≡ []) (device_with id ds)
read_asked id ds well = some_asked (λ d asked. ReadAsksThree id (device_store d) asked) id (read_lists id) ds well

pub write_asked : (id message : List ℕ) (ds : List Device) → AreWellStored ds → (asked : List Signal) × IfPlaced (λ d. WriteAsks3 id message d asked) (asked ≡ []) (device_with id ds)
write_asked id message ds well = some_asked (λ d asked. WriteAsksThreeOf id message d asked) id (write_lists id message) ds well

-- what is due is over where the tag wasn't found
over_missed : (asked : List Signal) (v : Bool) (h : Result (Unit {0}) PollFault) (e : PollFault) → Err e ≡ found_if v h → (v ≡ false → asked ≡ []) → then_three asked (Told h []) ≡ Over
over_missed asked v (Err x) e is none = refl
over_missed asked true (Ok x) e is none = absurd cc
over_missed asked false (Ok x) e is none = ap (λ cs. waits_next cs []) (none refl)

-- a tag that is found was heard of, and is placed
found_both : (v : Bool) (h : Result (Unit {0}) PollFault) → Ok tt ≡ found_if v h → (v ≡ true) × (h ≡ Ok tt)
found_both true h e = (refl, sym e)
found_both false (Ok x) e = absurd cc
found_both false (Err x) e = absurd cc

-- the faults of polling, as answers tell them
lost_only : (e : PollFault) (answer : Answer) → poll_answer e ≡ Some answer → answer ≡ answers.FieldLost → ◌≡◌ {A = Result (Unit {0}) PollFault} (Err e) (Err faults.FieldLost)
lost_only faults.Nobody answer is lost = absurd cc
lost_only faults.Disturbed answer is lost = absurd cc
lost_only faults.FieldLost answer is lost = refl
lost_only faults.Memory answer is lost = absurd cc
lost_only faults.NotFound answer is lost = absurd cc
lost_only faults.BadAnswer answer is lost = absurd cc

lost_as : (e : PollFault) (answer : Answer) → poll_answer e ≡ Some answer → ◌≡◌ {A = Result (Unit {0}) PollFault} (Err e) (Err faults.FieldLost) → answer ≡ answers.FieldLost
lost_as e answer is lost = (let same : e ≡ faults.FieldLost = cc in let told : Some answer ≡ Some answers.FieldLost = sym is ∙ ap poll_answer same in cc)

-- no tag was selected: so a command of it tells, whatever it would tell of one
missed_three : (Tells : Device → Answer → Type 0) (id : List ℕ) (asked : List Signal) (old new : Moment (World Device)) (e : PollFault) (answer : Answer) → (s : Seeks id (Err e) old new)
    → poll_answer e ≡ Some answer → ThreeTells Tells id old.world.listeners asked s.asked.going.events answer
missed_three Tells id asked old new e answer s is = record {
  heard = s.heard;
  behind = [];
  sought = ap (seeking id) s.asked.going.known ∙ s.told;
  cause = subst (λ r. HasSought id old.world.listeners r s.asked.going.events) s.is s.cause;
  ends = subst (λ r. ThreeEnds Tells id old.world.listeners asked r [] answer) s.is is;
  lost = ((λ l. s.lost.0 (lost_only e answer is l)), (λ b. lost_as e answer is (s.lost.1 b)));
  noisy = λ six. absurd (never_six e answer is six);
}

-- What is told of both parts of a command: the selection of its tag, and what was asked behind that.
module _ {X : Type 0} (what : Changes) (IsAll : List Signal → Type 0) (Shows : X → Type 0) (Fails : AskFault → X → Type 0) (Tells : Device → Answer → Type 0)
    (old mid new : Air Device) (id : List ℕ) (place : ℕ) (x : X) (answer : Answer) (s : SeeksAt id place (moment old) (moment mid))
    (r : AsksTag what IsAll waits_next (λ asked ns. TellsStanding Shows Fails (stand 0 asked ns)) Fails (moment mid) (moment new) x)
    (says : Shows x → OfPlaced (λ d. Tells d answer) (device_with id old.listeners)) (fails : (e : AskFault) → Fails e x → TellsFault e answer)
    (lost : answer ≡ answers.FieldLost → Fails asking.FieldLost x) (six : answer ≡ answers.SixBad → Fails asking.SixBad x) where
  abbrev both_ok : (has_three id old.listeners ≡ true) × (s.seeks.heard ≡ Ok tt)
  both_ok = found_both (has_three id old.listeners) s.seeks.heard s.seeks.is

  told_ok : seeking id s.seeks.asked.notes ≡ Told (Ok tt) []
  told_ok = s.seeks.told ∙ ap (λ h. Told h []) both_ok.1

  found_ok : found_if (has_three id old.listeners) (Ok tt) ≡ Ok tt
  found_ok = ap (λ v. found_if v (Ok tt)) both_ok.0

  known_of_both : receptions (s.seeks.asked.going.events ++ r.asked.going.events) ≡ s.seeks.asked.notes ++ r.asked.notes
  known_of_both =
      receptions-append s.seeks.asked.going.events r.asked.going.events r.asked.going.fresh ∙ ap (λ t. t ++ receptions r.asked.going.events) s.seeks.asked.going.known
      ∙ ap (λ t. s.seeks.asked.notes ++ t) r.asked.going.known

  pub three_behind : ThreeTells Tells id old.listeners r.commands (s.seeks.asked.going.events ++ r.asked.going.events) answer
  three_behind =
      let es : List Event = s.seeks.asked.going.events ++ r.asked.going.events in
      record {
        heard = Ok tt;
        behind = r.asked.notes;
        sought = ap (seeking id) known_of_both ∙ seeking_more id s.seeks.asked.notes r.asked.notes (Ok tt) told_ok;
        cause = subst (λ q. HasSought id old.listeners q es) (sym found_ok) tt;
        ends = subst (λ q. ThreeEnds Tells id old.listeners r.commands q r.asked.notes answer) (sym found_ok)
            (tells_as Shows Fails (λ a. OfPlaced (λ d. Tells d a) (device_with id old.listeners)) TellsFault x answer says fails seen.T2 r.commands r.asked.notes r.ends);
        lost = lost_behind answer s.seeks.asked.going.events r.asked.going.events
            (λ some. let is : ◌≡◌ {A = Result (Unit {0}) PollFault} (Ok tt) (Err faults.FieldLost) = s.seeks.lost.1 some in cc)
            ((λ is. r.lost.0 (lost is)), (λ some. fails asking.FieldLost (r.lost.1 some)));
        noisy = λ is.
            let rest : 0 < noise r.asked.going.events = r.noisy (six is) in
            let sum : noise (s.seeks.asked.going.events ++ r.asked.going.events) ≡ noise s.seeks.asked.going.events + noise r.asked.going.events =
            noise_append s.seeks.asked.going.events r.asked.going.events in
            omega (arith, sum, rest);
      }

-- The device that is found by an identifier may be placed.
sound_one : (id : List ℕ) (old : Air Device) → IsIdle old → IsSoundOne id old.listeners
sound_one id old idle = by_found (device_with id old.listeners) refl
  where
    by_found : (o : Option Device) → device_with id old.listeners ≡ o → IfPlaced (λ d. IsSound (kept d)) (Unit {0}) o
    by_found None found = tt
    by_found (Some d) found = with_sound old.listeners id d idle.tame.sound found

-- The stores of a field keep the law of a write, and so they do whatever stands above it; the far ends stay.
record FieldStores3 (w : BenchWorld) (id message : List ℕ) (r : WriteEnd3) (es : List Event) : Type 0 where
  pub law : IfPlaced (λ d. KeepsStores3 message d r w es) (Unit {0}) (device_with id w.listeners)
  pub others : AllKeepBut id w.listeners (replay air w es).listeners

stores_above : (os : Upon) (a : Air Device) (id : List ℕ) (m : Msg) (r : WriteEnd3) (es : List Event) → NoneHands devices (moment a).world es
    → FieldStores3 (moment a).world id (message_of m) r es → Stores3Law (above os a) no_joins id m r es
stores_above os a id m r es none s = record {
  law = s.law;
  others = subst (λ (w : BenchWorld). AllKeepBut id a.listeners w.listeners) (sym (field_behind (moment a).world es os.ends none)) s.others;
  ends = ends_behind (moment a).world es os.ends none;
}

-- Polling alone left the stores as they were, so they keep the law of a write that was stopped.
module _ (id message : List ℕ) (a b : Moment BenchWorld) (ns : List Note) (g : Going air (λ ks. asks (seeking id ks)) a b ns) (same : map kept b.world.listeners ≡ map kept a.world.listeners) where
  sought_law : (o : Option Device) → device_with id a.world.listeners ≡ o → IfPlaced (λ d. KeepsStores3 message d (Err fault.Memory) a.world g.events) (Unit {0}) o
  sought_law None found = tt
  sought_law (Some d) found = by_kind (kind_of d)
    where
      still : AllByRecursion (λ x. x ≡ device_store d) (images_of (device_id d) a.world g.events)
      still =
          subst (λ x. AllByRecursion (λ y. y ≡ x) (images_of (device_id d) a.world g.events))
          (ap (λ i. held_by (device_with i a.world.listeners)) (found_named id a.world.listeners d found) ∙ ap held_by found)
          (images_still (device_id d) a.world g.events (sought_harmless id a b ns g))

      by_kind : (k : DeviceKind) → IfThree k (KeepsWrite3Law message d (Err fault.Memory) a.world g.events) (AllByRecursion (λ x. x ≡ device_store d) (images_of (device_id d) a.world g.events))
      by_kind T2Kind = still
      by_kind T3Kind = law_still message (device_store d) (images_of (device_id d) a.world g.events) still
      by_kind T4Kind = still
      by_kind PeerKind = still
      by_kind T5Kind = still

  sought_stores : IsSoundOne id a.world.listeners → FieldStores3 a.world id message (Err fault.Memory) g.events
  sought_stores sound =
      let world : b.world ≡ replay air a.world g.events = ap (λ (m : Moment BenchWorld). m.world) g.moment in
      record {
        law = sought_law (device_with id a.world.listeners) refl;
        others = subst (λ (w : BenchWorld). AllKeepBut id a.world.listeners w.listeners) world (leaves_more (StoreOf id) a.world b.world g.events sound same).0;
      }

-- no fault of polling tells of a success or of a refusal
poll_stopped : (e : PollFault) (answer : Answer) → poll_answer e ≡ Some answer → Err fault.Memory ≡ end_told answer
poll_stopped faults.Nobody answer is = absurd cc
poll_stopped faults.Disturbed answer is = ap end_told (let same : answers.Disturbed ≡ answer = cc in same)
poll_stopped faults.FieldLost answer is = ap end_told (let same : answers.FieldLost ≡ answer = cc in same)
poll_stopped faults.Memory answer is = absurd cc
poll_stopped faults.NotFound answer is = ap end_told (let same : answers.NotFound ≡ answer = cc in same)
poll_stopped faults.BadAnswer answer is = absurd cc

-- A tag was selected.
module _ (old mid : Air Device) (id : List ℕ) (place : ℕ) (idle : IsIdle old) (well : AreWellStored old.listeners) (s : SeeksAt id place (moment old) (moment mid)) where
  abbrev pub here : IsWith old.listeners id (kept s.device)
  here =
      let split : map kept old.listeners ≡ map kept s.stands.before ++ kept s.device ∷ map kept s.stands.behind =
      sym s.seeks.asked.same ∙ ap (λ (w : World Device). map kept w.listeners) s.stands.world ∙ map-over kept s.stands.before (s.device ∷ s.stands.behind) in
      is_with old.listeners (map kept s.stands.before) (kept s.device) (map kept s.stands.behind) id idle.tame.sound split s.three.1

  kind_here : kind_of s.device ≡ T3Kind
  kind_here = kind_three s.device s.three.0

  -- what is said of it by what stays of it is said of the one that is placed
  of_placed : (P : Kept → Type 0) → P (kept s.device) → OfPlaced (λ d. P (kept d)) (device_with id old.listeners)
  of_placed P h = subst (λ o. OfPlaced (λ d. P (kept d)) o) (sym here.found) (subst P (sym here.same) h)

  if_placed : (P : Kept → Type 0) (Q : Type 0) → P (kept s.device) → IfPlaced (λ d. P (kept d)) Q (device_with id old.listeners)
  if_placed P Q h = subst (λ o. IfPlaced (λ d. P (kept d)) Q o) (sym here.found) (subst P (sym here.same) h)

  pub stands_three : StandsThree (moment mid) place id s.device
  stands_three = record {
    stands = s.stands;
    three = s.three;
    store = of_three (kind_of s.device) kind_here _ (Unit {0})
        (subst (λ (k : Kept). IfThree k.fixed.kind (three.IsT3Store k.store) (Unit {0})) here.same (with_all IsWellStored id old.listeners here.device well here.found));
  }

  told_here : seeking id s.seeks.asked.notes ≡ Told (Ok tt) []
  told_here = s.seeks.told ∙ ap (λ h. Told h []) (found_both (has_three id old.listeners) s.seeks.heard s.seeks.is).1

  -- what was asked of it was cut off by nothing but want of memory
  cut_three : (what : Changes) (IsAll : List Signal → Type 0) (new : Air Device) → (r : AsksThreeSome what IsAll (moment mid) (moment new)) → CutThree id r.commands new.trace
  cut_three what IsAll new r =
      let hs : List Note = s.seeks.asked.notes in
      let ks : List Note = r.asked.notes in
      let g : Going air (three_due id r.commands) (moment old) (moment new) (hs ++ ks) = both_three id r.commands (moment old) (moment mid) (moment new) hs ks told_here s.seeks.asked.going
      r.asked.going in
      let trace : new.trace ≡ g.events = trace_is old new (three_due id r.commands) (hs ++ ks) g idle in
      let none : breaks s.seeks.asked.going.events ≡ 0 = elim (cases_lt 0 (breaks s.seeks.asked.going.events)) [
        | inl some ↦ absurd (let is : ◌≡◌ {A = Result (Unit {0}) PollFault} (Ok tt) (Err faults.FieldLost) = s.seeks.lost.1 some in cc)
        | inr still ↦ omega (arith, still)
      ] in
      inr (record {
        behind = ks;
        sought = ap (λ es. seeking id (receptions es)) trace ∙ ap (seeking id) g.known ∙ seeking_more id hs ks (Ok tt) told_here;
        unbroken = r.unbroken;
        unlost = ap breaks trace ∙ omega (arith, breaks-append s.seeks.asked.going.events r.asked.going.events, none, r.unlost);
      })

  abbrev of_both' : (new : Air Device) (commands : List Signal) (ks : List Note) → Going air (waits_next commands) (moment mid) (moment new) ks
      → Going air (three_due id commands) (moment old) (moment new) (s.seeks.asked.notes ++ ks)
  of_both' new commands ks h = both_three id commands (moment old) (moment mid) (moment new) s.seeks.asked.notes ks told_here s.seeks.asked.going h

  over_here : (commands : List Signal) (ks : List Note) → waits_next commands ks ≡ Over → three_due id commands (s.seeks.asked.notes ++ ks) ≡ Over
  over_here commands ks over = ap (then_three commands) (seeking_more id s.seeks.asked.notes ks (Ok tt) told_here) ∙ over

  -- it was read
  read_placed : (commands : List Signal) → ReadAsksThree id (device_store s.device) commands → IfPlaced (λ d. ReadAsks3 id d commands) (commands ≡ []) (device_with id old.listeners)
  read_placed commands asks' =
      if_placed (λ (k : Kept). IfThree k.fixed.kind (ReadAsksThree id k.store commands) (commands ≡ [])) (commands ≡ []) (as_three (kind_of s.device) kind_here _ _ asks')

  pub read_obeyed_three : (new : Air Device) (r : ReadEnd3) (answer : Answer) → told_three r ≡ Some answer → ReadsThree id (moment mid) (moment new) s.device r
      → ObeyedUnlinked old new (Read3 id) answer
  read_obeyed_three new r answer told reads = λ ends peers places.
      let os : Upon = record { ends = ends; peers = peers; link = None } in
      let ks : List Note = reads.asked.notes in
      let ns : List Note = s.seeks.asked.notes ++ ks in
      let g : Going air (three_due id reads.commands) (moment old) (moment new) ns = of_both' new reads.commands ks reads.asked.going in
      let world : (moment new).world ≡ replay air (moment old).world g.events = ap (λ (t : Moment (World Device)). t.world) g.moment in
      let same : map kept new.listeners ≡ map kept old.listeners = reads.asked.same ∙ s.seeks.asked.same in
      let asked = read_placed reads.commands reads.asks in
      let says : ShowsThree (device_store s.device) r → OfPlaced (λ d. TellsRead3 d answer) (device_with id old.listeners) =
      λ shows. of_placed (λ (k : Kept). IfThree k.fixed.kind (TellsForm3 k.store answer) ⊥) (as_three (kind_of s.device) kind_here _ _ (record { end = r; shows = shows; told = told })) in
      asks_obeyed NoStore (Read3 id) (λ h. h) os old new reads.commands ns answer idle places tt tt refl g (over_here reads.commands ks reads.asked.over) asked
      (record {
        tells = three_behind NoStore (ReadAsksThree id (device_store s.device)) (ShowsThree (device_store s.device)) FailsThree TellsRead3 old mid new id place r answer s reads says
            (fails_read r answer told) (lost_read r answer told) (six_read r answer told);
        stays = stable_behind (moment old).world g.events os.ends (none_in (Read3 id) (λ h. h) os old new reads.commands ns g asked) (stores_stay old new g.events world same);
      }) same

  pub read_cut_three : (new : Air Device) → AsksThreeSome NoStore (ReadAsksThree id (device_store s.device)) (moment mid) (moment new) → CutOffUnlinked old new (Read3 id)
  read_cut_three new r = λ ends peers.
      let os : Upon = record { ends = ends; peers = peers; link = None } in
      let ns : List Note = s.seeks.asked.notes ++ r.asked.notes in
      let g : Going air (three_due id r.commands) (moment old) (moment new) ns = of_both' new r.commands r.asked.notes r.asked.going in
      let asked = read_placed r.commands r.asks in (
        asks_for r.commands,
        refl,
        front_of None (Read3 id) (λ h. h) os old new r.commands ns idle tt refl g asked,
        part_stays os.ends old new g.events idle g.moment (r.asked.same ∙ s.seeks.asked.same) (none_in (Read3 id) (λ h. h) os old new r.commands ns g asked),
        cut_three NoStore (ReadAsksThree id (device_store s.device)) new r,
      )

  -- it was written
  write_placed : (message : List ℕ) (commands : List Signal) → WriteAsksThreeOf id message s.device commands
      → IfPlaced (λ d. WriteAsks3 id message d commands) (commands ≡ []) (device_with id old.listeners)
  write_placed message commands asks' =
      if_placed (λ (k : Kept). IfThree k.fixed.kind (WriteAsksThree id k.store k.fixed.locked message commands) (commands ≡ [])) (commands ≡ []) (as_three (kind_of s.device) kind_here _ _ asks')

  -- the selected device holds what is written
  holds_there : held_by (device_with (device_id s.device) (moment mid).world.listeners) ≡ device_store s.device
  holds_there =
      ap (λ (w : BenchWorld). held_by (device_with (device_id s.device) w.listeners)) s.stands.world ∙ ap held_by (with_alone s.stands.before s.device s.stands.behind s.stands.first)

  sound_here : IsSoundOne id old.listeners
  sound_here = sound_one id old idle

  left_behind : (new : Air Device) (fs : List Event) → LeavesDevices (StoreOf (device_id s.device)) (moment mid).world fs (moment new).world
      → LeavesDevices (StoreOf id) (moment old).world (s.seeks.asked.going.events ++ fs) (moment new).world
  left_behind new fs left =
      leaves_behind id (moment old).world (moment mid).world (moment new).world s.seeks.asked.going.events fs sound_here s.seeks.asked.same
      (subst (λ i. LeavesDevices (StoreOf i) (moment mid).world fs (moment new).world) s.three.1 left)

  -- the stores, from before it was selected on
  stores_behind : (new : Air Device) (message : List ℕ) (commands : List Signal) (ks : List Note) (h : Going air (waits_next commands) (moment mid) (moment new) ks) (r : WriteEnd3)
      → LeavesDevices (StoreOf (device_id s.device)) (moment mid).world h.events (moment new).world → KeepsWrite3Law message s.device r (moment mid).world h.events
      → FieldStores3 (moment old).world id message r (s.seeks.asked.going.events ++ h.events)
  stores_behind new message commands ks h r left law =
      let es : List Event = s.seeks.asked.going.events ++ h.events in
      let whole : KeepsWrite3Law message s.device r (moment old).world es =
      law_sought id (moment old) (moment mid) s.seeks.asked.notes s.seeks.asked.going message s.device r h.events holds_there law in
      let world : (moment new).world ≡ replay air (moment old).world es = ap (λ (x : Moment BenchWorld). x.world) (of_both' new commands ks h).moment in
      record {
        law = if_placed
            (λ (k : Kept). IfThree k.fixed.kind (Write3Law message k.store r (images_of k.fixed.id (moment old).world es))
            (AllByRecursion (λ x. x ≡ k.store) (images_of k.fixed.id (moment old).world es)))
            (Unit {0}) (as_three (kind_of s.device) kind_here _ _ whole);
        others = subst (λ (w : BenchWorld). AllKeepBut id old.listeners w.listeners) world (left_behind new h.events left).0;
      }

  pub write_obeyed_three : (new : Air Device) (m : Msg) (r : WriteEnd3) (answer : Answer) → written_three r ≡ Some answer → WritesThree id (moment mid) (moment new) s.device (message_of m) r
      → ObeyedUnlinked old new (Write3 id m) answer
  write_obeyed_three new m r answer told w = λ ends peers places.
      let os : Upon = record { ends = ends; peers = peers; link = None } in
      let message : List ℕ = message_of m in
      let commands : List Signal = w.told.commands in
      let ks : List Note = w.told.asked.notes in
      let ns : List Note = s.seeks.asked.notes ++ ks in
      let g : Going air (three_due id commands) (moment old) (moment new) ns = of_both' new commands ks w.told.asked.going in
      let asked = write_placed message commands w.told.asks in
      let says : ShowsThreeWriteOf message s.device r → OfPlaced (λ d. TellsWrite3 message d answer) (device_with id old.listeners) =
      λ shows. of_placed (λ (k : Kept). IfThree k.fixed.kind (TellsEnd3 message k.store k.fixed.locked answer) ⊥)
      (as_three (kind_of s.device) kind_here _ _ (record { end = r; shows = shows; told = told })) in
      let none : NoneHands devices (moment old).world g.events = none_in (Write3 id m) (λ h. h) os old new commands ns g asked in
      let law : KeepsWrite3Law message s.device (end_told answer) (moment mid).world w.told.asked.going.events = law_as message (device_store s.device) _ r answer told w.law in
      asks_obeyed (StoreOf id) (Write3 id m) (λ h. h) os old new commands ns answer idle places tt tt refl g (over_here commands ks w.told.asked.over) asked
      (record {
        tells = three_behind (StoreOf (device_id s.device)) (WriteAsksThreeOf id message s.device) (ShowsThreeWriteOf message s.device) FailsThree (TellsWrite3 message) old mid new id place r answer s
            w.told says
            (fails_write r answer told) (lost_write r answer told) (six_write r answer told);
        stores = stores_above os old id m (end_told answer) g.events none (stores_behind new message commands ks w.told.asked.going (end_told answer) w.told.asked.same law);
      }) (left_behind new w.told.asked.going.events w.told.asked.same)

  pub write_cut_three : (new : Air Device) (m : Msg) → WritesThreeSome id (moment mid) (moment new) s.device (message_of m) → CutOffUnlinked old new (Write3 id m)
  write_cut_three new m w = λ ends peers.
      let os : Upon = record { ends = ends; peers = peers; link = None } in
      let commands : List Signal = w.told.commands in
      let ns : List Note = s.seeks.asked.notes ++ w.told.asked.notes in
      let g : Going air (three_due id commands) (moment old) (moment new) ns = of_both' new commands w.told.asked.notes w.told.asked.going in
      let asked = write_placed (message_of m) commands w.told.asks in (
        asks_for commands,
        refl,
        front_of None (Write3 id m) (λ h. h) os old new commands ns idle tt refl g asked,
        subst (λ es. Stores3Law (above os old) no_joins id m (Err fault.Memory) es) (sym (trace_is old new (three_due id commands) ns g idle))
            (stores_above os old id m (Err fault.Memory) g.events (none_in (Write3 id m) (λ h. h) os old new commands ns g asked)
            (stores_behind new (message_of m) commands w.told.asked.notes w.told.asked.going (Err fault.Memory) w.told.asked.same w.law)),
        cut_three (StoreOf (device_id s.device)) (WriteAsksThreeOf id (message_of m) s.device) new w.told,
      )

-- No tag was selected, ...
pub missed_read_three : (old new : Air Device) (id : List ℕ) (e : PollFault) (answer : Answer) → IsIdle old → AreWellStored old.listeners → Seeks id (Err e) (moment old) (moment new)
    → poll_answer e ≡ Some answer
    → ObeyedUnlinked old new (Read3 id) answer
missed_read_three old new id e answer idle well s is = λ ends peers places.
    let os : Upon = record { ends = ends; peers = peers; link = None } in
    let some = read_asked id old.listeners well in
    let g : Going air (λ ns. asks (seeking id ns)) (moment old) (moment new) s.asked.notes = s.asked.going in
    let going : Going air (three_due id some.0) (moment old) (moment new) s.asked.notes = sought_of id some.0 (moment old) (moment new) s.asked.notes g in
    let world : (moment new).world ≡ replay air (moment old).world g.events = ap (λ (t : Moment (World Device)). t.world) g.moment in
    let over : three_due id some.0 s.asked.notes ≡ Over =
    ap (then_three some.0) s.told ∙ over_missed some.0 (has_three id old.listeners) s.heard e s.is (none_asked (λ d asked. ReadAsksThree id (device_store d) asked) id old.listeners some.0 some.1) in
    asks_obeyed NoStore (Read3 id) (λ h. h) os old new some.0 s.asked.notes answer idle places tt tt refl going over some.1
    (record {
      tells = missed_three TellsRead3 id some.0 (moment old) (moment new) e answer s is;
      stays = stable_behind (moment old).world g.events os.ends (none_in (Read3 id) (λ h. h) os old new some.0 s.asked.notes going some.1) (stores_stay old new g.events world s.asked.same);
    }) s.asked.same

pub missed_write_three : (old new : Air Device) (id : List ℕ) (m : Msg) (e : PollFault) (answer : Answer) → IsIdle old → AreWellStored old.listeners → Seeks id (Err e) (moment old) (moment new)
    → poll_answer e ≡ Some answer → ObeyedUnlinked old new (Write3 id m) answer
missed_write_three old new id m e answer idle well s is = λ ends peers places.
    let os : Upon = record { ends = ends; peers = peers; link = None } in
    let some = write_asked id (message_of m) old.listeners well in
    let g : Going air (λ ns. asks (seeking id ns)) (moment old) (moment new) s.asked.notes = s.asked.going in
    let going : Going air (three_due id some.0) (moment old) (moment new) s.asked.notes = sought_of id some.0 (moment old) (moment new) s.asked.notes g in
    let over : three_due id some.0 s.asked.notes ≡ Over =
    ap (then_three some.0) s.told ∙ over_missed some.0 (has_three id old.listeners) s.heard e s.is
    (none_asked (λ d asked. WriteAsksThreeOf id (message_of m) d asked) id old.listeners some.0 some.1) in
    let sound : IsSoundOne id old.listeners = sound_one id old idle in
    let none : NoneHands devices (moment old).world g.events = none_in (Write3 id m) (λ h. h) os old new some.0 s.asked.notes going some.1 in
    asks_obeyed (StoreOf id) (Write3 id m) (λ h. h) os old new some.0 s.asked.notes answer idle places tt tt refl going over some.1
    (record {
      tells = missed_three (TellsWrite3 (message_of m)) id some.0 (moment old) (moment new) e answer s is;
      stores = subst (λ r. Stores3Law (above os old) no_joins id m r g.events) (poll_stopped e answer is)
          (stores_above os old id m (Err fault.Memory) g.events none (sought_stores id (message_of m) (moment old) (moment new) s.asked.notes g s.asked.same sound));
    })
    (leaves_more (StoreOf id) (moment old).world (moment new).world g.events sound s.asked.same)

-- ... or selecting was cut off.
pub sought_part : (id : List ℕ) (old new : Moment (World Device)) (e : PollFault) → Seeks id (Err e) old new → SeekingCut id old new
sought_part id old new e s = record { notes = s.asked.notes; going = s.asked.going; same = s.asked.same }

-- nothing was asked of the tag yet
sought_three : (old new : Air Device) (id : List ℕ) (asked : List Signal) → IsIdle old → SeekingCut id (moment old) (moment new) → CutThree id asked new.trace
sought_three old new id asked idle part =
    inl (subst (EachDue (λ ns. asks (seeking id ns)) []) (sym (trace_is old new (λ ns. asks (seeking id ns)) part.notes part.going idle)) part.going.each)

pub seeking_cut_read : (old new : Air Device) (id : List ℕ) → IsIdle old → AreWellStored old.listeners → SeekingCut id (moment old) (moment new) → CutOffUnlinked old new (Read3 id)
seeking_cut_read old new id idle well part = λ ends peers.
    let os : Upon = record { ends = ends; peers = peers; link = None } in
    let some = read_asked id old.listeners well in
    let g : Going air (three_due id some.0) (moment old) (moment new) part.notes = sought_of id some.0 (moment old) (moment new) part.notes part.going in (
      asks_for some.0,
      refl,
      front_of None (Read3 id) (λ h. h) os old new some.0 part.notes idle tt refl g some.1,
      part_stays os.ends old new part.going.events idle part.going.moment part.same (none_in (Read3 id) (λ h. h) os old new some.0 part.notes g some.1),
      sought_three old new id some.0 idle part,
    )

pub seeking_cut_write : (old new : Air Device) (id : List ℕ) (m : Msg) → IsIdle old → AreWellStored old.listeners → SeekingCut id (moment old) (moment new) → CutOffUnlinked old new (Write3 id m)
seeking_cut_write old new id m idle well part = λ ends peers.
    let os : Upon = record { ends = ends; peers = peers; link = None } in
    let some = write_asked id (message_of m) old.listeners well in
    let g : Going air (three_due id some.0) (moment old) (moment new) part.notes = sought_of id some.0 (moment old) (moment new) part.notes part.going in (
      asks_for some.0,
      refl,
      front_of None (Write3 id m) (λ h. h) os old new some.0 part.notes idle tt refl g some.1,
      subst (λ es. Stores3Law (above os old) no_joins id m (Err fault.Memory) es) (sym (trace_is old new (three_due id some.0) part.notes g idle))
          (stores_above os old id m (Err fault.Memory) g.events (none_in (Write3 id m) (λ h. h) os old new some.0 part.notes g some.1)
          (sought_stores id (message_of m) (moment old) (moment new) part.notes part.going part.same (sound_one id old idle))),
      sought_three old new id some.0 idle part,
    )

-- the faults by which selecting may end
pub may_seek : (id : List ℕ) (old new : Moment (World Device)) (e : PollFault) → Seeks id (Err e) old new → IsSome (poll_answer e) ⊎ (e ≡ faults.Memory)
may_seek id old new faults.Nobody s = absurd s.cause
may_seek id old new faults.Disturbed s = absurd s.cause
may_seek id old new faults.FieldLost s = inl refl
may_seek id old new faults.Memory s = absurd s.cause
may_seek id old new faults.NotFound s = inl refl
may_seek id old new faults.BadAnswer s = absurd s.cause
