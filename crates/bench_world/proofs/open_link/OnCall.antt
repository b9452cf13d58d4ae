-- A command that asks over the open link was obeyed, or cut off.
use Rattle.std.proofs.Common.{◌≡◌, ◌↔◌, ℕ, ◌<◌, List, [], ◌∷◌, ◌++◌, map, length, true, Option, Some, None, refl, sym, ◌∙◌, ap, subst, arith}
use Rattle.std.specs.Prelude.{get_or, slice_set, drop}
use Rattle.nfc_base.specs.Choosing.{Choosing}
use Rattle.nfc_base.specs.declared.carrier.EndCause.{EndCause}
use Rattle.nfc_base.specs.declared.carrier.EndCause.TheVariants as cause
use Rattle.nfc_base.specs.declared.event.Event.{Event}
use Rattle.nfc_base.specs.declared.event.Event.TheVariants.{Request}
use Rattle.nfc_base.specs.declared.event.Fate.{Fate}
use Rattle.nfc_base.specs.declared.event.Fate.TheVariants.{Pass}
use Rattle.nfc_base.specs.Signal.{Signal}
use Rattle.nfc_base.specs.LinkTurns.{bad_receptions}
use Rattle.nfc_base.specs.Trace.{noise, breaks}
use Rattle.air_core.specs.Turn.{Air, moment, world, after_event}
use Rattle.air_core.specs.Conversation.{Note, Next, Over, Asks, AreTurns, FatesFrom, EachDue, receptions, replay, queue_after, first_fate, later_fates}
use Rattle.air_core.specs.laws.Turning.{due_weaker}
use Rattle.dep_link.specs.Initiator.{InitState}
use Rattle.dep_link.specs.Stopping.{HeardUpTo}
use Rattle.far_air.specs.FarWorld.{with_numbers}
use Rattle.far_air.specs.FarLaws.{seen, shown}
use Rattle.far_air.specs.FarTurns.{FarGoing}
use Rattle.peer_air.specs.PeerFars.{peer_ends}
use Rattle.snep_core.specs.Server.{Received}
use Rattle.snep_core.specs.declared.job.OnSap.{OnSap}
use Rattle.snep_core.specs.Talk.{EndState, Step, Ends}
use Rattle.link_calls.specs.Arriving.{Arrives, ArrivesCut}
use Rattle.link_calls.specs.Asking.{Call, call_begins}
use Rattle.link_calls.specs.CallDue.{CallStanding, Comes, BrokenBy, call_stand, call_due, call_due_at}
use Rattle.link_calls.specs.CallTurns.{CallTurns}
use Rattle.link_calls.specs.Staying.{setting_of}
use Rattle.bench_script.specs.declared.command.Command.{Command}
use Rattle.bench_devices.specs.declared.device.Device.{Device}
use Rattle.bench_devices.specs.Device.{devices, device_end, device_linked, stable_of, StablePart}
use Rattle.bench_devices.specs.Beside.{TalkLeaves}
use Rattle.bench_devices.specs.Keeping.{ghosts}
use Rattle.bench_devices.proofs.far_ends.BesideLink.{leaves_both}
use Rattle.bench_devices.proofs.far_ends.TalkTurns.{heard_leaves}
use Rattle.bench_world.specs.declared.entry.Answer.{Answer}
use Rattle.bench_world.specs.declared.entry.Answer.TheVariants as answers
use Rattle.bench_world.specs.declared.entry.Loss.{Loss}
use Rattle.bench_world.specs.declared.entry.Loss.TheVariants as losses
use Rattle.bench_world.specs.World.{FarEnd, WholeWorld, Stable, bench_air, stable}
use Rattle.bench_world.specs.Calls.{IsTold, OfEnd, link_behind, slots_behind, stands_on, told_call, told_loss, told_step, with_accepted}
use Rattle.bench_world.specs.Links.{OpenLink, accepted_by, end_numbered, ended, ended_unless, with_last_ended}
use Rattle.bench_world.specs.Arriving.{ArrivesAt, ArrivesCutAt}
use Rattle.bench_world.specs.Asked.{IsOnLink}
use Rattle.bench_world.specs.Legal.{State, Given, Joins, Accepts, AnswerLaw, Came, CutCame, CutFront, CutStores, FrontOf, IsAskedBy, LeavesStable, world_at_start, changed, due, peer_end_of, joins_for}
use Rattle.bench_world.specs.Legal.{link_after, peers_after, state_after, world_after}
use Rattle.bench_world.specs.Halting.{HaltAdds, HaltLeaves, PeerHalts}
use Rattle.bench_world.specs.Obeying.{Machines, HasPlaces, IsSettled, KeepsLink, ObeyedBy, linked_at, state_at, under}
use Rattle.bench_world.specs.Opened.{AreNumbered, AreServed}
use Rattle.bench_world.specs.Peers.{Peers, next_number}
use Rattle.bench_world.proofs.link_law.Arrived.{GoesOn, came_at, cut_at, same_accepted}
use Rattle.bench_world.proofs.open_link.CallNotes.{IsPlainNext, call_broken, call_lost, calls_plain}
use Rattle.bench_world.proofs.calm.Quiet.{no_breaks}
use Rattle.bench_world.proofs.tags.Fronts.{Ends as FarEnds}
use Rattle.bench_world.proofs.open_link.OnLink.{accepted_now, accepted_there, as_many, bare, bare_alike, bare_more, devices_stay, end_is, end_shown, ends_more, ends_same, going}
use Rattle.bench_world.proofs.open_link.OnLink.{kept_long, leaves, now, opened, own, queue_is, served, set_long, tame, trace_is, world_is}
use Rattle.bench_world.proofs.open_link.Restarted.{set_there}

-- what a step of a call is said for
abbrev pub given_by : Joins → Given
given_by joins = record { asked = []; joins = joins }

module _ (air : Air Device) (ends : FarEnds) (peers : Peers) (l : OpenLink) (settled : IsSettled (under ends peers (Some l) air)) where
  abbrev pub from_state : State
  from_state = state_at (under ends peers (Some l) air)

  -- the place and the far end of the link's peer
  abbrev pub place : ℕ
  place = (opened air ends peers l settled).place

  abbrev pub end : FarEnd
  end = (opened air ends peers l settled).end

  -- turns that were due, and where the command has its numbers
  module _ (next : List Note → Next) (plain : (ns : List Note) → IsPlainNext (next ns)) (c : Command) (joins : Joins) (b : Air Device) (after : Choosing FarEnd) (notes : List Note)
      (g : FarGoing devices device_linked peer_ends next (moment air) (moment b) notes place ends (record { end = end; numbers = joins.far }) after)
      (still : changed from_state c ≡ from_state) (accepts : Accepts from_state c) (asks : IsAskedBy from_state c []) (takes : joins ≡ joins_for c joins)
      (same : (ns : List Note) → due from_state (given_by joins) c ns ≡ next ns) where
    abbrev pub given : Given
    given = given_by joins

    abbrev pub far_now : FarEnds
    far_now = now air ends peers l settled next plain b joins.far after notes g

    abbrev es : List Event
    es = (going air ends peers l settled next plain b joins.far after notes g).events

    -- the state then
    abbrev pub to : Option OpenLink → Peers → Machines
    to link ps = under far_now ps link b

    pub world_then : seen device_linked peer_ends (world b) far_now [] ≡ world_after from_state given.joins c es
    world_then =
        world_is air ends peers l settled next plain b joins.far after notes g
        ∙ ap (λ (s : State). with_numbers (replay bench_air (with_numbers s.world joins.far) es) []) (sym still)

    each_due : EachDue (due from_state given c) [] es
    each_due = due_weaker (due from_state given c) next (λ ns n e d. same ns ∙ e) [] es (going air ends peers l settled next plain b joins.far after notes g).each

    turns_then : AreTurns bench_air (world_at_start from_state given.joins c) es
    turns_then = subst (λ (s : State). AreTurns bench_air (with_numbers s.world joins.far) es) (sym still) (going air ends peers l settled next plain b joins.far after notes g).turns

    fates_then : FatesFrom (changed from_state c).queue es
    fates_then = subst (λ (s : State). FatesFrom s.queue es) (sym still) (going air ends peers l settled next plain b joins.far after notes g).fates

    pub front : (told : Option Answer) (link : Option OpenLink) (ps : Peers) → link_after from_state given.joins c es told ≡ link → peers_after from_state given.joins c es told ≡ ps
        → FrontOf from_state given c b.trace told (state_at (to link ps))
    front told link ps link_is peers_is =
        let S : WholeWorld → List Fate → Peers → Option OpenLink → State = λ w q p o. record { world = w; queue = q; peers = p; link = o } in
        let w : WholeWorld = world_after from_state given.joins c es in
        let q : b.fates ≡ queue_after (changed from_state c).queue es = queue_is air ends peers l settled next plain b joins.far after notes g
        ∙ ap (λ (s : State). queue_after s.queue es) (sym still) in
        let f : FrontOf from_state given c es told (state_at (to link ps)) = record {
          accepted = accepts;
          asks = asks;
          takes = takes;
          turns = turns_then;
          fates = fates_then;
          each = each_due;
          after = ap (λ x. S x b.fates ps link) world_then ∙ ap (λ x. S w x ps link) q
              ∙ ap (λ x. S w (queue_after (changed from_state c).queue es) x link) (sym peers_is)
              ∙ ap (λ x. S w (queue_after (changed from_state c).queue es) (peers_after from_state given.joins c es told) x) (sym link_is);
        } in
        subst (λ xs. FrontOf from_state given c xs told (state_at (to link ps))) (sym (trace_is air ends peers l settled next plain b joins.far after notes g)) f

    pub places_then : setting_of after.end ≡ setting_of end → (link : Option OpenLink) (ps : Peers) → ps.numbers ≡ peers.numbers → ps.gone ≡ peers.gone → HasPlaces (to link ps)
    places_then set link ps numbered placed = record {
      ends = set_long ends place end after.end (opened air ends peers l settled).above ∙ settled.places.ends ∙ sym (as_many air ends peers l settled next plain b joins.far after notes g);
      numbers = ap length numbered ∙ settled.places.numbers ∙ sym (as_many air ends peers l settled next plain b joins.far after notes g);
      served = subst (λ xs. AreServed b.listeners xs far_now) (sym numbered) (served air ends peers l settled next plain b joins.far after notes g set);
      apart = subst (λ gs. AreNumbered (length gs) ps.numbers) (sym placed) (subst (AreNumbered (next_number peers)) (sym numbered) settled.places.apart);
    }

    -- what stays
    pub devices_then : (stable (world_after from_state given.joins c es)).devices ≡ (stable from_state.world).devices
    devices_then =
        ap (λ (w : WholeWorld). (stable w).devices) (sym world_then) ∙ devices_stay air ends peers l settled next plain b joins.far after notes g

    pub ends_then : (more : List Received) → setting_of after.end ≡ setting_of end → after.end.service.accepted ≡ end.service.accepted ++ more
        → (stable (world_after from_state given.joins c es)).ends ≡ with_accepted more l.peer peers.numbers (stable from_state.world).ends
    ends_then more set e = ap (λ (w : WholeWorld). (stable w).ends) (sym world_then) ∙ ends_more air ends peers l settled next plain b joins.far after notes g more set e

    pub stays_then : setting_of after.end ≡ setting_of end → after.end.service.accepted ≡ end.service.accepted → LeavesStable from_state given.joins c es
    stays_then set e =
        let S : List StablePart → FarEnds → Stable = λ ds os. record { devices = ds; ends = os } in
        ap stable (sym world_then)
        ∙ ap (λ ds. S ds (bare b.listeners far_now)) (devices_stay air ends peers l settled next plain b joins.far after notes g)
        ∙ ap (S (map stable_of air.listeners)) (ends_same air ends peers l settled next plain b joins.far after notes g set e)
        ∙ ap (λ (s : State). stable s.world) (sym still)

    pub obeyed : (answer : Answer) (link : Option OpenLink) (ps : Peers) → next notes ≡ Over → link_after from_state given.joins c es (Some answer) ≡ link
        → peers_after from_state given.joins c es (Some answer) ≡ ps
        → AnswerLaw from_state given c es answer → setting_of after.end ≡ setting_of end → ps.numbers ≡ peers.numbers → ps.gone ≡ peers.gone → KeepsLink (to link ps)
        → ObeyedBy joins (under ends peers (Some l) air) (to link ps) c answer
    obeyed answer link ps over link_is peers_is law set numbered placed keeps =
        let trace : b.trace ≡ es = trace_is air ends peers l settled next plain b joins.far after notes g in
        record {
          given = given;
          joined = refl;
          front = front (Some answer) link ps link_is peers_is;
          over = ap (λ xs. due from_state given c (receptions xs)) trace ∙ ap (due from_state given c) (going air ends peers l settled next plain b joins.far after notes g).known ∙ same notes ∙ over;
          answered = subst (λ xs. AnswerLaw from_state given c xs answer) (sym trace) law;
          tame = tame air ends peers l settled next plain b joins.far after notes g;
          tidy = (leaves air ends peers l settled next plain b joins.far after notes g).tidy settled.idle.tidy;
          places = places_then set link ps numbered placed;
          link = keeps;
        }

    pub cut_off : (link : Option OpenLink) (ps : Peers) → link_after from_state given.joins c es None ≡ link → peers_after from_state given.joins c es None ≡ ps → CutStores from_state given.joins c es
        → CutFront joins from_state c b.trace (state_at (to link ps))
    cut_off link ps link_is peers_is stores =
        (given, refl, front None link ps link_is peers_is, subst (CutStores from_state given.joins c) (sym (trace_is air ends peers l settled next plain b joins.far after notes g)) stores)

    -- The request behind passed, and the far end stopped as it was handed this payload.
    module _ (sent : Signal) (payload : List ℕ) (listeners : List Device) (d : Air Device) (asked : next notes ≡ Asks sent) (passed : first_fate b.fates ≡ Pass)
        (heard : HeardUpTo devices sent payload b.listeners listeners)
        (left : d ≡ after_event b (Request sent Pass) (later_fates b.fates) (record { lit = true; listeners = listeners })) where
      abbrev all : List Event
      all = es ++ Request sent Pass ∷ []

      trace_more : d.trace ≡ all
      trace_more = ap (λ (a : Air Device). a.trace) left ∙ ap (λ xs. xs ++ Request sent Pass ∷ []) (trace_is air ends peers l settled next plain b joins.far after notes g)

      queue_then : queue_after (changed from_state c).queue es ≡ b.fates
      queue_then = ap (λ (s : State). queue_after s.queue es) still ∙ sym (queue_is air ends peers l settled next plain b joins.far after notes g)

      -- what talking leaves, this request too
      talk_left : TalkLeaves (own air ends peers l settled) place air.listeners d.listeners
      talk_left =
          let before = leaves air ends peers l settled next plain b joins.far after notes g in
          let at_request = heard_leaves (own air ends peers l settled) sent ((plain notes).asked sent asked) payload place b.listeners listeners before.at heard in
          subst (TalkLeaves (own air ends peers l settled) place air.listeners) (sym (ap (λ (a : Air Device). a.listeners) left))
          (leaves_both (own air ends peers l settled) place air.listeners b.listeners listeners before at_request)

      -- ... and left by that
      module _ (stopped : FarEnd) (more : List Received) (set : setting_of stopped ≡ setting_of end) (adds : stopped.service.accepted ≡ end.service.accepted ++ more)
          (fits : OfEnd (λ e. HaltAdds c e more) (peer_end_of from_state l)) (on_link : IsOnLink c) (counts : List ℕ)
          (came : ArrivesCut l.initiator.core.number (drop (length air.trace) d.trace) (record { end = end; numbers = joins.far }) (record { end = stopped; numbers = counts })) where
        abbrev ends_left : FarEnds
        ends_left = slice_set ends place (Some stopped)

        abbrev pub halted_then : Machines
        halted_then = under ends_left (with_last_ended (accepted_by (get_or ends_left place None)) peers) None d

        long : length d.listeners ≡ length air.listeners
        long = kept_long air.listeners d.listeners talk_left.same

        there : get_or ends_left place None ≡ Some stopped
        there = set_there ends place end stopped (opened air ends peers l settled).above

        range : accepted_by (end_numbered l.peer peers.numbers (shown device_linked peer_ends d.listeners ends_left)) ≡ accepted_by (get_or ends_left place None)
        range =
            accepted_there l.peer place peers.numbers d.listeners ends_left stopped (opened air ends peers l settled).number (settled.places.numbers ∙ sym long) there ∙ ap accepted_by (sym there)

        halt_leaves : HaltLeaves from_state c l (state_at halted_then)
        halt_leaves = record {
          talk = (own air ends peers l settled, place, talk_left);
          more = more;
          adds = fits;
          ends =
              bare_alike d.listeners air.listeners ends_left long
              ∙ bare_more l.peer place peers.numbers air.listeners ends end stopped more (opened air ends peers l settled).number settled.places.numbers (opened air ends peers l settled).above set
              adds;
          peers = ap (λ n. with_last_ended n peers) (sym range);
          link = refl;
        }

        halt_came : ArrivesCutAt l peers.numbers joins.far from_state.world.fars (state_at halted_then).world.fars d.trace
        halt_came =
            let C : FarEnd → List ℕ → Choosing FarEnd = λ e ns. record { end = e; numbers = ns } in
            let none : drop (length air.trace) d.trace ≡ d.trace = ap (λ xs. drop (length xs) d.trace) settled.idle.quiet in
            record {
              old = end;
              stood = end_is air ends peers l settled;
              new = C stopped counts;
              arrives = subst (λ xs. ArrivesCut l.initiator.core.number xs (C end joins.far) (C stopped counts)) none came;
              accepted = subst (OfEnd (λ e. e.service.accepted ≡ stopped.service.accepted))
                  (sym (end_shown l.peer place peers.numbers d.listeners ends_left stopped (opened air ends peers l settled).number (settled.places.numbers ∙ sym long) there))
                  (same_accepted (linked_at place d.listeners) stopped);
            }

        pub halted : PeerHalts joins from_state c d.trace (state_at halted_then)
        halted = record {
          on_link = on_link;
          given = given;
          joined = refl;
          before = es;
          mid = state_after from_state given.joins c es None;
          front = record { accepted = accepts; asks = asks; takes = takes; turns = turns_then; fates = fates_then; each = each_due; after = refl };
          sent = sent;
          split = trace_more;
          asked = ap (due from_state given c) (going air ends peers l settled next plain b joins.far after notes g).known ∙ same notes ∙ asked;
          passes = ap first_fate queue_then ∙ passed;
          lit = ap (λ (a : Air Device). a.lit) left;
          queue = ap (λ (a : Air Device). a.fates) left ∙ ap later_fates (sym queue_then);
          on = l;
          open_ = refl;
          leaves = halt_leaves;
          came = halt_came;
        }

  -- A command that asks over the link by this call.
  pub record IsCall (c : Command) (call : Call) : Type 0 where
    pub on_link : IsOnLink c
    pub still : changed from_state c ≡ from_state
    pub accepts : Accepts from_state c
    pub asks : IsAskedBy from_state c []
    pub takes : (joins : Joins) → joins ≡ joins_for c joins
    pub same : (joins : Joins) (ns : List Note) → due from_state (given_by joins) c ns ≡ call_due joins.own (call_begins l.client call) l.initiator ns
    pub link_on : (joins : Joins) (es : List Event) (answer : Answer) → link_after from_state joins c es (Some answer) ≡ link_behind l call (stands_on l joins.own call es)
    pub link_off : (joins : Joins) (es : List Event) → link_after from_state joins c es None ≡ None
    pub peers_on : (joins : Joins) (es : List Event) (told : Option Answer)
        → peers_after from_state joins c es told ≡ ended_unless (link_after from_state joins c es told) (Some l) (world_after from_state joins c es).fars peers

  module _ (c : Command) (call : Call) (is : IsCall c call) (b : Air Device) (j : InitState) (after : Choosing FarEnd) where
    abbrev step : Step
    step = call_begins l.client call

    -- what a call's law is made of
    pub record Facts (joins : Joins) (events : List Event) (answer : Answer) : Type 0 where
      pub told : IsTold (told_call call (stands_on l joins.own call events)) events answer
      pub came : Came from_state joins l c events answer
      pub devices : (stable (world_after from_state joins c events)).devices ≡ (stable from_state.world).devices
      pub adds : (more : List Received) → after.end.service.accepted ≡ end.service.accepted ++ more
          → (stable (world_after from_state joins c events)).ends ≡ with_accepted more l.peer peers.numbers (stable from_state.world).ends
      pub stays : after.end.service.accepted ≡ end.service.accepted → LeavesStable from_state joins c events

    abbrev pub Law : Answer → Type 0
    Law answer = (joins : Joins) (events : List Event) → Facts joins events answer → AnswerLaw from_state (record { asked = []; joins = joins }) c events answer

    -- the machines with the link open, and with it gone
    abbrev pub link_then : List OnSap → EndState → OpenLink
    link_then jobs client = record { peer = l.peer; initiator = j; client = client; slots = slots_behind call jobs l.slots }

    abbrev pub open_then : List OnSap → EndState → Machines
    open_then jobs client = under (slice_set ends place (Some after.end)) peers (Some (link_then jobs client)) b

    abbrev pub gone_then : Machines
    gone_then = under (slice_set ends place (Some after.end)) (with_last_ended (accepted_by (get_or (slice_set ends place (Some after.end)) place None)) peers) None b

    -- turns of the call up to where it stands so
    module _ (joins : Joins) (standing : CallStanding) (t : CallTurns ghosts device_end device_linked peer_ends joins.own step l.initiator air b place ends (record { end = end; numbers = joins.far })
        after standing) where
      abbrev pub next : List Note → Next
      next = call_due joins.own step l.initiator

      abbrev pub plain : (ns : List Note) → IsPlainNext (next ns)
      plain = calls_plain joins.own step l.initiator

      abbrev pub same : (ns : List Note) → due from_state (given_by joins) c ns ≡ next ns
      same = is.same joins

      abbrev pub events : List Event
      events = (going air ends peers l settled next plain b joins.far after t.notes t.going).events

      stand_is : stands_on l joins.own call events ≡ standing
      stand_is = ap (call_stand joins.own step l.initiator) (going air ends peers l settled next plain b joins.far after t.notes t.going).known ∙ t.stands

      gone_peers : (told : Option Answer) → link_after from_state joins c events told ≡ None
          → peers_after from_state joins c events told ≡ with_last_ended (accepted_by (get_or (slice_set ends place (Some after.end)) place None)) peers
      gone_peers told none =
          is.peers_on joins events told ∙ ap (λ o. ended_unless o (Some l) (world_after from_state joins c events).fars peers) none
          ∙ ap (λ (w : WholeWorld). ended (Some l) w.fars peers) (sym (world_then next plain c joins b after t.notes t.going is.still is.accepts is.asks (is.takes joins) same))
          ∙ ap (λ n. with_last_ended n peers) (accepted_now air ends peers l settled next plain b joins.far after t.notes t.going)

      -- what arrived, where this link is open then
      abbrev pub Arrived : Option OpenLink → Type 0
      Arrived link =
          Arrives l.initiator.core.number (drop (length air.trace) b.trace) (record { end = end; numbers = joins.far }) after
          × GoesOn air ends peers l settled next plain b joins.far after t.notes t.going link

      came_then : (answer : Answer) (link : Option OpenLink) → link_after from_state joins c events (Some answer) ≡ link → Arrived link → Came from_state joins l c events answer
      came_then answer link link_is arrived =
          let w : WholeWorld = world_after from_state joins c events in
          subst (ArrivesAt l peers.numbers joins.far from_state.world.fars w.fars events) (sym link_is)
          (came_at air ends peers l settled next plain b joins.far after t.notes t.going w (world_then next plain c joins b after t.notes t.going is.still is.accepts is.asks (is.takes joins) same)
          link arrived.0 arrived.1)

      facts : setting_of after.end ≡ setting_of end → (answer : Answer) → IsTold (told_call call (stands_on l joins.own call events)) events answer → Came from_state joins l c events answer
          → Facts joins events answer
      facts set answer told came = record {
        told = told;
        came = came;
        devices = devices_then next plain c joins b after t.notes t.going is.still is.accepts is.asks (is.takes joins) same;
        adds = λ more e. ends_then next plain c joins b after t.notes t.going is.still is.accepts is.asks (is.takes joins) same more set e;
        stays = λ e. stays_then next plain c joins b after t.notes t.going is.still is.accepts is.asks (is.takes joins) same set e;
      }

      -- it was told by where it stands
      told_so : (answer : Answer) → told_call call standing ≡ Some answer → ((standing ≡ BrokenBy cause.FieldLost) ↔ (answer ≡ answers.LinkEnded losses.FieldLost))
          → (answer ≡ answers.LinkEnded losses.SixBad → 0 < noise events) → (noise events ≡ 0 → bad_receptions events ≡ 0) → IsTold (told_call call (stands_on l joins.own call events)) events answer
      told_so answer told lost noisy calm = record {
        tells = ap (told_call call) stand_is ∙ told;
        lost = (
          λ e. call_broken bench_air joins.own step l.initiator _ _ t.notes (going air ends peers l settled next plain b joins.far after t.notes t.going) (t.stands ∙ lost.1 e),
          λ some. lost.0 (sym t.stands ∙ call_lost bench_air joins.own step l.initiator _ _ t.notes (going air ends peers l settled next plain b joins.far after t.notes t.going) some),
        );
        noisy = noisy;
        calm = calm;
      }

      over_at : call_due_at standing ≡ Over → next t.notes ≡ Over
      over_at e = ap call_due_at t.stands ∙ e

      pub came : setting_of after.end ≡ setting_of end → (jobs : List OnSap) (client : EndState) → standing ≡ Comes (Ends jobs client) j → (answer : Answer)
          → told_step call (Ends jobs client) ≡ Some answer
          → ((loss : Loss) → answer ≡ answers.LinkEnded loss → ⊥) → (noise events ≡ 0 → bad_receptions events ≡ 0) → Law answer → Arrived (Some (link_then jobs client))
          → KeepsLink (open_then jobs client)
          → ObeyedBy joins (under ends peers (Some l) air) (open_then jobs client) c answer
      came set jobs client comes answer told never calm law arrived keeps =
          let link_is : link_after from_state joins c events (Some answer) ≡ Some (link_then jobs client) =
          is.link_on joins events answer ∙ ap (link_behind l call) (stand_is ∙ comes) in
          obeyed next plain c joins b after t.notes t.going is.still is.accepts is.asks (is.takes joins) same answer (Some (link_then jobs client)) peers
          (over_at (ap call_due_at comes)) link_is
          (is.peers_on joins events (Some answer) ∙ ap (λ o. ended_unless o (Some l) (world_after from_state joins c events).fars peers) link_is)
          (law joins events (facts set answer (told_so answer (ap (told_call call) comes ∙ told)
          ((λ e. absurd (let clash : Comes (Ends jobs client) j ≡ BrokenBy cause.FieldLost = sym comes ∙ e in cc)), (λ e. absurd (never losses.FieldLost e))) (λ e. absurd (never losses.SixBad e))
          calm)
          (came_then answer (Some (link_then jobs client)) link_is arrived)))
          set refl refl keeps

      -- a link that ended so had noise
      broken_noisy : (why : EndCause) → standing ≡ BrokenBy why → (answer : Answer) → told_loss why ≡ Some answer → (answer ≡ answers.LinkEnded losses.SixBad → 0 < noise events) → noise events ≡ 0 → ⊥
      broken_noisy cause.FieldLost broken answer told noisy none =
          let some : 0 < breaks events = call_broken bench_air joins.own step l.initiator _ _ t.notes (going air ends peers l settled next plain b joins.far after t.notes t.going)
          (t.stands ∙ broken) in
          let lit : breaks events ≡ 0 = no_breaks events none in
          omega (arith, some, lit)
      broken_noisy cause.SixBad broken answer told noisy none =
          let some : 0 < noise events = noisy (let same : answers.LinkEnded losses.SixBad ≡ answer = cc in sym same) in
          omega (arith, some, none)
      broken_noisy cause.Protocol broken answer told noisy none = cc
      broken_noisy cause.Memory broken answer told noisy none = cc

      pub broke : setting_of after.end ≡ setting_of end → (why : EndCause) → standing ≡ BrokenBy why → (answer : Answer) → told_loss why ≡ Some answer
          → ((why ≡ cause.FieldLost) ↔ (answer ≡ answers.LinkEnded losses.FieldLost)) → (answer ≡ answers.LinkEnded losses.SixBad → 0 < noise events) → Law answer → Arrived None
          → ObeyedBy joins (under ends peers (Some l) air) gone_then c answer
      broke set why broken answer told lost noisy law arrived =
          let link_is : link_after from_state joins c events (Some answer) ≡ None = is.link_on joins events answer ∙ ap (link_behind l call) (stand_is ∙ broken) in
          obeyed next plain c joins b after t.notes t.going is.still is.accepts is.asks (is.takes joins) same answer None
          (with_last_ended (accepted_by (get_or (slice_set ends place (Some after.end)) place None)) peers)
          (over_at (ap call_due_at broken)) link_is (gone_peers (Some answer) link_is)
          (law joins events (facts set answer (told_so answer (ap (told_call call) broken ∙ told)
          ((λ e. lost.0 (let same : BrokenBy why ≡ BrokenBy cause.FieldLost = sym broken ∙ e in cc)), (λ e. broken ∙ ap BrokenBy (lost.1 e))) noisy
          (λ none. absurd (broken_noisy why broken answer told noisy none)))
          (came_then answer None link_is arrived)))
          set refl refl tt

      pub short : ((joins : Joins) (events : List Event) → (devices : (stable (world_after from_state joins c events)).devices ≡ (stable from_state.world).devices)
          → (adds : (more : List Received) → after.end.service.accepted ≡ end.service.accepted ++ more
          → (stable (world_after from_state joins c events)).ends ≡ with_accepted more l.peer peers.numbers (stable from_state.world).ends)
          → (stays : after.end.service.accepted ≡ end.service.accepted → LeavesStable from_state joins c events) → (came : CutCame from_state joins l c events) → CutStores from_state joins c events)
          → setting_of after.end ≡ setting_of end → ArrivesCut l.initiator.core.number (drop (length air.trace) b.trace) (record { end = end; numbers = joins.far }) after
          → CutFront joins from_state c b.trace (state_at gone_then)
      short stores set arrived =
          cut_off next plain c joins b after t.notes t.going is.still is.accepts is.asks (is.takes joins) same None
          (with_last_ended (accepted_by (get_or (slice_set ends place (Some after.end)) place None)) peers)
          (is.link_off joins events) (gone_peers None (is.link_off joins events))
          (stores joins events (devices_then next plain c joins b after t.notes t.going is.still is.accepts is.asks (is.takes joins) same)
          (λ more e. ends_then next plain c joins b after t.notes t.going is.still is.accepts is.asks (is.takes joins) same more set e)
          (λ e. stays_then next plain c joins b after t.notes t.going is.still is.accepts is.asks (is.takes joins) same set e)
          (cut_at air ends peers l settled next plain b joins.far after t.notes t.going (world_after from_state joins c events)
          (world_then next plain c joins b after t.notes t.going is.still is.accepts is.asks (is.takes joins) same) arrived))
