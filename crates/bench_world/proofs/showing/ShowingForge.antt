-- A sending of payloads that were written by hand goes the same way by the numbers that the replies behind its ATR_RES show.
use Rattle.std.proofs.Common.{◌≡◌, ℕ, ◌≤◌, List, [], ◌∷◌, ◌++◌, length, Option, refl, sym, ◌∙◌, ap, subst, append_assoc}
use Rattle.std.specs.List.{AllByRecursion}
use Rattle.nfc_base.specs.declared.event.Event.{Event}
use Rattle.air_core.specs.Conversation.{AreTurns, EachDue, FatesFrom, Note, Over, receptions, replay}
use Rattle.air_core.specs.laws.Turning.{replay-append, turns-append}
use Rattle.dep_link.specs.Asking as dep
use Rattle.dep_link.specs.Asking.{noted}
use Rattle.dep_link.specs.Initiator.{InitState, waiting}
use Rattle.dep_link.specs.Sizes.{limit}
use Rattle.far_air.specs.FarWorld.{with_numbers}
use Rattle.peer_air.specs.PeerFars.{peer_ends}
use Rattle.link_calls.specs.Exchanging.{Sending, by_hand, sending}
use Rattle.link_calls.specs.Walk as walks
use Rattle.link_calls.specs.Walk.{Walk, Carries, Comes, BrokenBy, walk_at, walk_carried, walk_noted, walk_on, walk_stand}
use Rattle.link_numbers.specs.Shown.{far_shown}
use Rattle.link_numbers.proofs.far.FarFree.{replay_free, turns_free}
use Rattle.link_numbers.proofs.far.FarShown.{SameDark}
use Rattle.link_numbers.proofs.far.FarWalk.{HasCome, Outs}
use Rattle.bench_script.specs.declared.command.Command.{Command}
use Rattle.bench_script.specs.declared.command.Command.TheVariants.{Forge}
use Rattle.bench_devices.specs.Device.{device_end, device_linked, devices}
use Rattle.bench_world.specs.declared.entry.Answer.{Answer}
use Rattle.bench_world.specs.Cutting.{CutsReplies, GivesShort, WorldCuts}
use Rattle.bench_world.specs.Forging.{forging}
use Rattle.bench_world.specs.Legal.{FrontOf, Given, IsPayload, Joins, State, world_at_start, due}
use Rattle.bench_world.specs.Obeying.{state_at}
use Rattle.bench_world.specs.ShownForged.{behind_opening, forged_shown}
use Rattle.bench_world.specs.Showing.{BeginsSame, IsBetweenCommands}
use Rattle.bench_world.specs.World.{FarEnd, WholeWorld, bench_air}
use Rattle.bench_world.proofs.devices.FarDevices.{ShowsWell, TalksTo, walk_shows}
use Rattle.bench_world.proofs.showing.ShowingAtr.{talks_then}
use Rattle.bench_world.proofs.showing.ShowingCourse.{Course, Opens, Quietly, courses, ends, opens, polling, polls_quietly, readies}
use Rattle.bench_world.proofs.showing.ShowingFar.{CutsOn, replies_fit}
use Rattle.bench_world.proofs.showing.ShowingSelected.{MayBegin}
use Rattle.bench_world.proofs.showing.ShowingStep.{GoesSame, begins_same, fates_front}
use Rattle.bench_world.proofs.sizes.SizedStates.{midst_cuts}
use Rattle.bench_world.proofs.sizes.SizedWorld.{all_among, far_so}

-- No payload that is sent is longer than one may be.
abbrev IsShort : List ℕ → Type 0
IsShort p = length p ≤ limit

abbrev HandShort : Walk Sending (List (List ℕ)) → Type 0
HandShort (Carries w s) = IsShort w.payload × AllByRecursion IsShort w.later
HandShort (Comes replies i) = Unit {0}
HandShort (BrokenBy why) = Unit {0}
HandShort walks.Strays = Unit {0}

sending_short : (ps rs : List (List ℕ)) (i : InitState) → AllByRecursion IsShort ps → HandShort (walk_at by_hand (sending ps rs) i)
sending_short [] rs i h = tt
sending_short (p ∷ ps) rs i h = h

carried_short : (w : Sending) (s : dep.Standing) → IsShort w.payload × AllByRecursion IsShort w.later → HandShort (walk_carried by_hand w s)
carried_short w (dep.Waits i f) h = h
carried_short w (dep.Rests i reply) h = sending_short w.later (w.replies ++ reply ∷ []) i h.1
carried_short w (dep.Broken why) h = tt
carried_short w dep.Astray h = tt

noted_short : (c : Walk Sending (List (List ℕ))) (n : Note) → HandShort c → HandShort (walk_noted by_hand c n)
noted_short (Carries w s) n h = carried_short w (noted s n) h
noted_short (Comes replies i) n h = tt
noted_short (BrokenBy why) n h = tt
noted_short walks.Strays n h = tt

walk_short : (ns : List Note) (c : Walk Sending (List (List ℕ))) → HandShort c → HandShort (walk_on by_hand c ns)
walk_short [] c h = h
walk_short (n ∷ ns) c h = walk_short ns (walk_noted by_hand c n) (noted_short c n h)

hand_outs : (c : Walk Sending (List (List ℕ))) → HandShort c → Outs by_hand c
hand_outs (Carries w s) h = h.0
hand_outs (Comes replies i) h = tt
hand_outs (BrokenBy why) h = tt
hand_outs walks.Strays h = tt

all_short : (ps : List (List ℕ)) → AllByRecursion IsPayload ps → AllByRecursion IsShort ps
all_short [] h = tt
all_short (p ∷ ps) h = (h.0.1, all_short ps h.1)

-- A bench stands so between two commands.
start_of : (s : State) (b : IsBetweenCommands s) (far : List ℕ) → MayBegin (with_numbers s.world far)
start_of s b far = subst (λ (t : State). MayBegin (with_numbers t.world far)) (sym b.is) there
  where
    there : MayBegin (with_numbers (state_at b.machines).world far)
    there = record {
      tame = b.settled.idle.tame;
      tidied = b.settled.idle.tidy;
      numbers = b.machines.peers.numbers;
      ends = b.machines.ends;
      long = b.settled.places.ends;
      served = b.settled.places.served;
      fars = refl;
    }

module _ (s : State) (b : IsBetweenCommands s) (g : Given) (id : List ℕ) (payloads : List (List ℕ)) (may : AllByRecursion IsPayload payloads) where
  abbrev c : Command
  c = Forge id payloads

  abbrev w : WholeWorld
  w = world_at_start s g.joins c

  start : MayBegin w
  start = start_of s b g.joins.far

  abbrev shown : List Event → List ℕ
  shown es = far_shown 0 (behind_opening es)

  -- The same turns are made by these numbers, and behind them both worlds are the same in the dark but for the numbers that are left.
  pub record ForgesWell (ks : List ℕ) (es : List Event) : Type 0 where
    pub turns : AreTurns bench_air (with_numbers w ks) es
    pub alike : SameDark devices device_linked peer_ends (replay bench_air w es) (replay bench_air (with_numbers w ks) es)

  cuts_at : (front : List Event) → CutsOn (replay bench_air w front)
  cuts_at front before = subst WorldCuts (replay-append bench_air w front before) (midst_cuts s g.joins c (front ++ before) b.cuts)

  -- nothing was handed over
  quiet_shows : (es : List Event) (ks : List ℕ) → Quietly id payloads w s.queue start es → ForgesWell ks es
  quiet_shows es ks k = record {
    turns = turns_free devices device_linked peer_ends w es ks k.payless k.turns;
    alike = subst (λ z. SameDark devices device_linked peer_ends (replay bench_air w es) z) (sym (replay_free devices device_linked peer_ends es w ks k.payless)) (record { lit = refl; dark = refl });
  }

  -- payloads were
  opens_shows : (es more : List Event) → Opens id payloads w s.queue start es → ForgesWell (shown (es ++ more)) es
  opens_shows es more o =
      let v : WholeWorld = replay bench_air w o.front in
      let i : InitState = waiting o.code in
      let end : FarEnd = o.begins.awaits.far in
      let place : ℕ = length o.begins.awaits.x.before in
      let talks : TalksTo v place i end = talks_then v o.begins o.code in
      let cuts : WorldCuts v = midst_cuts s g.joins c o.front b.cuts in
      let gives : GivesShort end = far_so GivesShort v.fars place end cuts.ends talks.above in
      let most : 2 ≤ (device_end talks.device).most =
      (all_among CutsReplies talks.alone.before talks.device talks.alone.behind (subst (AllByRecursion CutsReplies) talks.alone.split cuts.targets)).0 in
      let ks : List ℕ = far_shown 0 (o.since ++ more) in
      let k : ShowsWell v ks o.since (HasCome by_hand (walk_stand by_hand (sending payloads []) i (receptions o.since))) =
      walk_shows v place i end talks gives.miu most o.since more by_hand (sending payloads []) o.goes o.each (replies_fit o.since v (cuts_at o.front))
      (λ before f y rest is. hand_outs (walk_stand by_hand (sending payloads []) i (receptions before))
      (walk_short (receptions before) (walk_at by_hand (sending payloads []) i) (sending_short payloads [] i (all_short payloads may)))) in
      let same : behind_opening (es ++ more) ≡ o.since ++ more = ap (λ t. behind_opening (t ++ more)) o.is ∙ ap behind_opening (append_assoc o.front o.since more) ∙ o.counts (o.since ++ more) in
      let free : replay bench_air (with_numbers w ks) o.front ≡ with_numbers v ks = replay_free devices device_linked peer_ends o.front w ks o.quietly.payless in
      let first : ForgesWell ks o.front = quiet_shows o.front ks o.quietly in
      let all : ForgesWell ks (o.front ++ o.since) = record {
        turns = turns-append bench_air (with_numbers w ks) o.front o.since first.turns (subst (λ z. AreTurns bench_air z o.since) (sym free) k.turns);
        alike = subst (λ z. SameDark devices device_linked peer_ends z (replay bench_air (with_numbers w ks) (o.front ++ o.since))) (sym (replay-append bench_air w o.front o.since))
            (subst (λ z. SameDark devices device_linked peer_ends (replay bench_air v o.since) z)
            (sym (replay-append bench_air (with_numbers w ks) o.front o.since ∙ ap (λ z. replay bench_air z o.since) free)) k.alike);
      } in
      subst (λ t. ForgesWell (far_shown 0 t) es) (sym same) (subst (ForgesWell ks) (sym o.is) all)

  course_shows : (es more : List Event) → Course id payloads w s.queue start es → ForgesWell (shown (es ++ more)) es
  course_shows es more (polling p) = quiet_shows es (shown (es ++ more)) (polls_quietly id payloads w s.queue start es p)
  course_shows es more (readies r) = quiet_shows es (shown (es ++ more)) r.quietly
  course_shows es more (opens o) = opens_shows es more o
  course_shows es more (ends e) = quiet_shows es (shown (es ++ more)) e.quietly

  -- So it is by the numbers that are shown, whatever stands behind.
  pub forge_shows : (es more : List Event) → AreTurns bench_air w es → EachDue (forging id payloads) [] es → FatesFrom s.queue es → ForgesWell (shown (es ++ more)) es
  forge_shows es more turns each fates = course_shows es more (courses id payloads w s.queue start es turns each fates)

  -- Two fronts that are over, by some numbers and by those that events show.
  pub begins_forged : (h : Given) (es rest fs more : List Event) (p q : Option Answer) (t u : State) → h.joins ≡ forged_shown (es ++ more)
      → FrontOf s g c (es ++ rest) p t → due s g c (receptions (es ++ rest)) ≡ Over → FrontOf s h c fs q u → due s h c (receptions fs) ≡ Over → BeginsSame es rest fs
  begins_forged h es rest fs more p q t u is front over front_by over_by =
      begins_same bench_air (due s g c) (due s h c) w (world_at_start s h.joins c) s.queue es rest fs front.turns front.each front.fates over front_by.turns front_by.each front_by.fates over_by more
      (λ turned tail split turns each.
      let all : es ++ rest ≡ turned ++ (tail ++ rest) = ap (λ z. z ++ rest) split ∙ append_assoc turned tail rest in
      let far : far_shown 0 (behind_opening (turned ++ (tail ++ more))) ≡ h.joins.far =
      ap shown (sym (ap (λ z. z ++ more) split ∙ append_assoc turned tail more)) ∙ sym (ap (λ (j : Joins). j.far) is) in
      let made : AreTurns bench_air (with_numbers w (shown (turned ++ (tail ++ more)))) turned =
      (forge_shows turned (tail ++ more) turns each (fates_front s.queue turned (tail ++ rest) (subst (FatesFrom s.queue) all front.fates))).turns in
      same_by turned (tail ++ more) (subst (λ ks. AreTurns bench_air (with_numbers w ks) turned) far made) each)
    where
      same_by : (turned more : List Event) → AreTurns bench_air (world_at_start s h.joins c) turned → EachDue (due s g c) [] turned
          → GoesSame bench_air (world_at_start s h.joins c) (due s g c) (due s h c) turned more
      same_by turned more turns each = record { turns = turns; each = each; asks = λ f x tail is e. e; over = λ e. e; over_back = λ e. e }
