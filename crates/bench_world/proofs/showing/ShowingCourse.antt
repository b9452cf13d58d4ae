-- The course of a sending of payloads that were written by hand: a device is selected, ATR_REQ is asked of it, and behind ATR_RES the payloads are
-- exchanged on a link of their own. No payload is handed over before.
use Rattle.std.proofs.Common.{◌≡◌, ℕ, suc, Bool, true, false, if◌then◌else◌, List, [], ◌∷◌, ◌++◌, Option, Some, None, is_some, Result, Ok, Err, refl, sym, ◌∙◌, ap, subst, append_assoc}
use Rattle.std.specs.Prelude.{nat_lt}
use Rattle.std.proofs.lemmas.List.{append-nil}
use Rattle.nfc_base.specs.Signal.{Signal}
use Rattle.nfc_base.specs.Trace.{back_of, by_fate, heard_by}
use Rattle.nfc_base.specs.Trace as backs
use Rattle.nfc_base.specs.declared.carrier.EndCause.TheVariants as cause
use Rattle.nfc_base.specs.declared.event.Event.{Event}
use Rattle.nfc_base.specs.declared.event.Event.TheVariants.{Reset, Request}
use Rattle.nfc_base.specs.declared.event.Fate.{Fate}
use Rattle.nfc_base.specs.declared.event.Fate.TheVariants.{Pass, Damage, Lose, Break}
use Rattle.nfc_base.specs.declared.event.Heard.{Heard}
use Rattle.nfc_base.specs.declared.event.Heard.TheVariants.{Whole, Collided, Damaged, Silent}
use Rattle.air_core.specs.Joint.{Joint, Nothing, Single, Clashing}
use Rattle.air_core.specs.Conversation.{AreTurns, Asks, EachDue, FatesFrom, LightUp, Lit, Moment, Next, Note, Over, TurnsTo, first_fate, joint_back, joint_events, later_fates, note, queue_after}
use Rattle.air_core.specs.Conversation.{receptions, replay, turn_events, turn_heard, with_events}
use Rattle.air_core.specs.laws.Turning.{due-append, events-append, receptions-append, replay-append, turns-append}
use Rattle.air_core.proofs.Following.{light_is_no_request, over_is_no_request, same_asked, turn_first, turn_known}
use Rattle.arrayvec.specs.ArrayVec.{ArrayVec}
use Rattle.nfca_poll.specs.Rounds.{device_of, picking}
use Rattle.nfca_poll.specs.declared.fault.PollFault.{PollFault}
use Rattle.nfca_poll.specs.declared.kind.Kind.{Kind}
use Rattle.nfca_poll.specs.declared.kind.Kind.TheVariants as kinds
use Rattle.dep_link.specs.Activating.{told_atr}
use Rattle.dep_link.specs.Frames.{spelled}
use Rattle.dep_link.specs.Initiator.{waiting}
use Rattle.link_calls.specs.Exchanging.{by_hand, sending}
use Rattle.link_calls.specs.Walk.{walk_at, walk_due, walk_stand}
use Rattle.link_numbers.proofs.far.FarWalk.{walk_never}
use Rattle.bench_devices.specs.declared.polling.SeenKind.TheVariants as seen
use Rattle.bench_devices.specs.Polling as polls
use Rattle.bench_devices.specs.Polling.{Followed, Told, follows, kind_by, seen_kind}
use Rattle.bench_devices.proofs.finding.Following.{follows_on}
use Rattle.bench_devices.proofs.finding.Polls.{IsFresh, Polls, poll_lit, poll_start, poll_turn}
use Rattle.bench_devices.proofs.finding.Searching.{search_closes}
use Rattle.bench_world.specs.Forging.{Activates, Unlinked, bad_again, forge_due, forge_noted, forge_stand, forging, linked_by, then_forges}
use Rattle.bench_world.specs.ShownForged.{behind_opening, behind_res}
use Rattle.bench_world.specs.World.{WholeWorld, bench_air}
use Rattle.bench_world.proofs.forged.ForgingDue.{exchanges}
use Rattle.bench_world.proofs.showing.ShowingAtr.{AwaitsAtr, Behind, BeginsLink, atr_is, atr_payless, atr_turn}
use Rattle.bench_world.proofs.showing.ShowingPayless.{Payless, one_turn, payless_append, turn_payless}
use Rattle.bench_world.proofs.showing.ShowingSelected.{MayBegin, awaits, poll_counts, poll_payless}
use Rattle.bench_world.proofs.showing.ShowingTurns.{fated}
use Rattle.bench_world.proofs.showing.ShowingWalk.{walked}
use Rattle.bench_world.proofs.forged.ForgeNotes.{atr}

-- What was heard of a turn, where that was no whole answer: behind it as many replies are counted as without it.
abbrev NoneWhole : Option Heard → Type 0
NoneWhole (Some (Whole g)) = ⊥
NoneWhole o = Unit {0}

joint_counts : (j : Joint) (y : Fate) (z : List Event) → NoneWhole (heard_by Pass (joint_back j y)) → behind_res (joint_events j y ++ z) ≡ behind_res z
joint_counts Nothing y z n = refl
joint_counts (Single g) Pass z n = absurd n
joint_counts (Single g) Damage z n = refl
joint_counts (Single g) Lose z n = refl
joint_counts (Single g) Break z n = refl
joint_counts (Clashing g) y z n = refl

-- what stands behind the request of a turn
abbrev rest_of : WholeWorld → Signal → Fate → Fate → List Event
rest_of w f x y = by_fate x (joint_events (bench_air.joint w f) y) [] []

rest_counts : (w : WholeWorld) (f : Signal) (x y : Fate) (z : List Event) → NoneWhole (turn_heard bench_air w f x y) → behind_res (rest_of w f x y ++ z) ≡ behind_res z
rest_counts w f Pass y z n = joint_counts (bench_air.joint w f) y z n
rest_counts w f Damage y z n = refl
rest_counts w f Lose y z n = refl
rest_counts w f Break y z n = refl

-- where it was ATR_RES they are counted from there
joint_opens : (j : Joint) (y : Fate) (z : List Event) (g : Signal) → heard_by Pass (joint_back j y) ≡ Some (Whole g) → is_some (told_atr (spelled g)) ≡ true → behind_res (joint_events j y ++ z) ≡ z
joint_opens Nothing y z g e t = absurd cc
joint_opens (Single f) Pass z g e t =
    let same : f ≡ g = cc in
    ap (λ v. if v then z else behind_res z) (ap (λ h. is_some (told_atr (spelled h))) same ∙ t)
joint_opens (Single f) Damage z g e t = absurd cc
joint_opens (Single f) Lose z g e t = absurd cc
joint_opens (Single f) Break z g e t = absurd cc
joint_opens (Clashing f) Pass z g e t = absurd cc
joint_opens (Clashing f) Damage z g e t = absurd cc
joint_opens (Clashing f) Lose z g e t = absurd cc
joint_opens (Clashing f) Break z g e t = absurd cc

rest_opens : (w : WholeWorld) (f : Signal) (x y : Fate) (z : List Event) (g : Signal) → turn_heard bench_air w f x y ≡ Some (Whole g) → is_some (told_atr (spelled g)) ≡ true
    → behind_res (rest_of w f x y ++ z) ≡ z
rest_opens w f Pass y z g e t = joint_opens (bench_air.joint w f) y z g e t
rest_opens w f Damage y z g e t = absurd cc
rest_opens w f Lose y z g e t = absurd cc
rest_opens w f Break y z g e t = absurd cc

turn_fresh : (w : WholeWorld) (f : Signal) (x y : Fate) → back_of (turn_events bench_air w f x y) ≡ backs.Nothing
turn_fresh w f x y = ap back_of (sym (append-nil (turn_events bench_air w f x y))) ∙ turn_first bench_air w f x y []

turn_notes : (w : WholeWorld) (f : Signal) (x y : Fate) → receptions (turn_events bench_air w f x y) ≡ note (turn_heard bench_air w f x y) ∷ []
turn_notes w f x y = ap receptions (sym (append-nil (turn_events bench_air w f x y))) ∙ turn_known bench_air w f x y [] refl

-- what is known behind a turn more
noted_more : (before : List Event) (w : WholeWorld) (f : Signal) (x y : Fate) → receptions (before ++ turn_events bench_air w f x y) ≡ receptions before ++ note (turn_heard bench_air w f x y) ∷ []
noted_more before w f x y = receptions-append before (turn_events bench_air w f x y) (turn_fresh w f x y) ∙ ap (λ ns. receptions before ++ ns) (turn_notes w f x y)

module _ (id : List ℕ) (payloads : List (List ℕ)) (w : WholeWorld) (q : List Fate) (start : MayBegin w) where
  abbrev a : Moment WholeWorld
  a = record { world = w; queue = q; trace = [] }

  abbrev at : List Event → Moment WholeWorld
  at before = with_events bench_air a before

  abbrev world : List Event → WholeWorld
  world before = replay bench_air w before

  abbrev exchanged : ℕ → List Note → Next
  exchanged code ns = walk_due by_hand (sending payloads []) (waiting code) ns

  -- so far nothing was handed over
  pub record Quietly (before : List Event) : Type 0 where
    pub turns : AreTurns bench_air w before
    pub payless : Payless w before

  -- the selected peer awaits ATR_REQ
  pub record Readies (before : List Event) : Type 0 where
    pub quietly : Quietly before
    pub bad : ℕ
    pub stands : (ms : List Note) → forging id payloads (receptions before ++ ms) ≡ forge_due (forge_stand payloads (Activates bad) ms)
    pub awaits : AwaitsAtr (world before)
    pub counts : (z : Fate) (x : List Event) → behind_opening (before ++ Request atr z ∷ x) ≡ behind_res x

  -- a link was opened, and payloads are exchanged
  pub record Opens (before : List Event) : Type 0 where
    pub front : List Event
    pub since : List Event
    pub is : before ≡ front ++ since
    pub quietly : Quietly front
    pub code : ℕ
    pub begins : BeginsLink (world front)
    pub goes : AreTurns bench_air (world front) since
    pub each : EachDue (exchanged code) [] since
    pub stands : (ms : List Note) → forging id payloads (receptions front ++ ms) ≡ exchanged code ms
    pub known : receptions before ≡ receptions front ++ receptions since
    pub counts : (x : List Event) → behind_opening (front ++ x) ≡ x

  -- all is over, and nothing was handed over
  pub record Ends (before : List Event) : Type 0 where
    pub quietly : Quietly before
    pub over : forging id payloads (receptions before) ≡ Over

  abbrev Polling : List Event → Type 0
  Polling before = Polls (picking id) bench_air a (at before) (receptions before)

  pub data Course (before : List Event) : Type 0 where
    polling : Polling before → Course before
    readies : Readies before → Course before
    opens : Opens before → Course before
    ends : Ends before → Course before

  -- polling hands nothing over
  same_events : (before : List Event) (p : Polling before) → p.going.events ≡ before
  same_events before p = sym (ap (λ (m : Moment WholeWorld). m.trace) p.going.moment)

  pub polls_quietly : (before : List Event) → Polling before → Quietly before
  polls_quietly before p =
      let e = same_events before p in
      record { turns = subst (AreTurns bench_air w) e p.going.turns; payless = subst (Payless w) e (poll_payless id a start refl (at before) (receptions before) p) }

  -- a turn more
  quietly_more : (before : List Event) (x y : Fate) → Quietly before → bench_air.lit (world before) ≡ true → Quietly (before ++ turn_events bench_air (world before) atr x y)
  quietly_more before x y k lit =
      let E : List Event = turn_events bench_air (world before) atr x y in
      record {
        turns = turns-append bench_air w before E k.turns (one_turn (world before) atr x y lit);
        payless = payless_append before E w k.payless (turn_payless (world before) atr x y (atr_payless (world before).field.listeners));
      }

  -- One turn of ATR_REQ.
  module _ (before : List Event) (r : Readies before) (x y : Fate) (lit : bench_air.lit (world before) ≡ true) where
    abbrev v : WholeWorld
    v = world before

    abbrev E : List Event
    E = turn_events bench_air v atr x y

    abbrev all : List Event
    all = before ++ E

    quiet : Quietly all
    quiet = quietly_more before x y r.quietly lit

    there : world all ≡ replay bench_air v E
    there = replay-append bench_air w before E

    -- where it stands then
    stands_then : (h : Option Heard) → turn_heard bench_air v atr x y ≡ h → (ms : List Note)
        → forging id payloads (receptions all ++ ms) ≡ forge_due (forge_stand payloads (forge_noted payloads (Activates r.bad) (note h)) ms)
    stands_then h is ms =
        ap (λ ns. forging id payloads (ns ++ ms)) (noted_more before v atr x y ∙ ap (λ o. receptions before ++ note o ∷ []) is)
        ∙ ap (forging id payloads) (append_assoc (receptions before) (note h ∷ []) ms)
        ∙ r.stands (note h ∷ ms)

    over_then : (h : Option Heard) → turn_heard bench_air v atr x y ≡ h → forge_due (forge_noted payloads (Activates r.bad) (note h)) ≡ Over → Course all
    over_then h is over =
        ends (record { quietly = quiet; over = ap (forging id payloads) (sym (append-nil (receptions all))) ∙ stands_then h is [] ∙ over })

    behind_req : (z : List Event) → behind_opening (all ++ z) ≡ behind_res (rest_of v atr x y ++ z)
    behind_req z = ap behind_opening (append_assoc before E z) ∙ r.counts x (rest_of v atr x y ++ z)

    -- a bad reception
    again : (h : Option Heard) → turn_heard bench_air v atr x y ≡ h → NoneWhole h → AwaitsAtr (replay bench_air v E) → (b : Bool) → nat_lt r.bad 5 ≡ b
        → forge_noted payloads (Activates r.bad) (note h) ≡ bad_again r.bad → Course all
    again h is none k true less same = readies (record {
      quietly = quiet;
      bad = suc r.bad;
      stands = λ ms.
          stands_then h is ms ∙ ap (λ s. forge_due (forge_stand payloads s ms)) (same ∙ ap (λ b. if b then Activates (suc r.bad) else Unlinked cause.SixBad) less);
      awaits = subst AwaitsAtr (sym there) k;
      counts = λ z u. behind_req (Request atr z ∷ u) ∙ rest_counts v atr x y (Request atr z ∷ u) (subst NoneWhole (sym is) none);
    })
    again h is none k false less same = over_then h is (ap forge_due (same ∙ ap (λ b. if b then Activates (suc r.bad) else Unlinked cause.SixBad) less))

    -- a whole answer
    opened : (g : Signal) → turn_heard bench_air v atr x y ≡ Some (Whole g) → BeginsLink (replay bench_air v E) → (o : Option (ℕ × ArrayVec ℕ)) → told_atr (spelled g) ≡ o → Course all
    opened g is k None told = over_then (Some (Whole g)) is (ap (λ o. forge_due (linked_by payloads o)) told)
    opened g is k (Some p) told = opens (record {
      front = all;
      since = [];
      is = sym (append-nil all);
      quietly = quiet;
      code = p.0;
      begins = subst BeginsLink (sym there) k;
      goes = record { moves = []; made = refl };
      each = tt;
      stands = λ ms.
          stands_then (Some (Whole g)) is ms ∙ ap (λ o. forge_due (forge_stand payloads (linked_by payloads o) ms)) told
          ∙ ap forge_due (exchanges payloads ms (walk_at by_hand (sending payloads []) (waiting p.0)));
      known = sym (append-nil (receptions all));
      counts = λ z. behind_req z ∙ rest_opens v atr x y z g is (ap is_some told);
    })

    by_heard : (h : Option Heard) → turn_heard bench_air v atr x y ≡ h → Behind (replay bench_air v E) h → Course all
    by_heard None is k = over_then None is refl
    by_heard (Some (Whole g)) is k = opened g is k (told_atr (spelled g)) refl
    by_heard (Some (Collided g)) is k = again (Some (Collided g)) is tt k (nat_lt r.bad 5) refl refl
    by_heard (Some Damaged) is k = again (Some Damaged) is tt k (nat_lt r.bad 5) refl refl
    by_heard (Some Silent) is k = again (Some Silent) is tt k (nat_lt r.bad 5) refl refl

    atr_turned : Course all
    atr_turned = by_heard (turn_heard bench_air v atr x y) refl (atr_turn v r.awaits x y)

  -- A turn of an exchange.
  carried_turn : (before : List Event) (f : Signal) (x y : Fate) → Opens before → bench_air.lit (world before) ≡ true → forging id payloads (receptions before) ≡ Asks f
      → Course (before ++ turn_events bench_air (world before) f x y)
  carried_turn before f x y o lit due =
      let v : WholeWorld = world before in
      let E : List Event = turn_events bench_air v f x y in
      let same : v ≡ replay bench_air (world o.front) o.since = ap world o.is ∙ replay-append bench_air w o.front o.since in
      let asked : exchanged o.code (receptions o.since) ≡ Asks f = sym (o.stands (receptions o.since)) ∙ ap (forging id payloads) (sym o.known) ∙ due in
      opens (record {
        front = o.front;
        since = o.since ++ E;
        is = ap (λ t. t ++ E) o.is ∙ append_assoc o.front o.since E;
        quietly = o.quietly;
        code = o.code;
        begins = o.begins;
        goes = turns-append bench_air (world o.front) o.since E o.goes (subst (λ z. AreTurns bench_air z E) same (one_turn v f x y lit));
        each = due-append (exchanged o.code) [] o.since E o.each (turn_due v o.since f x y asked);
        stands = o.stands;
        known =
            noted_more before v f x y ∙ ap (λ ns. ns ++ note (turn_heard bench_air v f x y) ∷ []) o.known
            ∙ append_assoc (receptions o.front) (receptions o.since) (note (turn_heard bench_air v f x y) ∷ [])
            ∙ ap (λ ns. receptions o.front ++ ns) (sym (noted_more o.since v f x y));
        counts = o.counts;
      })
    where
      joint_due : (next : List Note → Next) (b : List Event) (j : Joint) (y : Fate) → EachDue next b (joint_events j y)
      joint_due next b Nothing y = tt
      joint_due next b (Single g) y = tt
      joint_due next b (Clashing g) y = tt

      turn_due : (v : WholeWorld) (since : List Event) (f : Signal) (x y : Fate) → exchanged o.code (receptions since) ≡ Asks f → EachDue (exchanged o.code) since (turn_events bench_air v f x y)
      turn_due v since f Pass y e = (e, joint_due (exchanged o.code) (since ++ Request f Pass ∷ []) (bench_air.joint v f) y)
      turn_due v since f Damage y e = (e, tt)
      turn_due v since f Lose y e = (e, tt)
      turn_due v since f Break y e = (e, tt)

  -- A peer was just selected.
  kind_due : (p : Followed Kind) (before : List Event) (n : Next) → follows (picking id) (receptions before) ≡ p → forging id payloads (receptions before) ≡ n
      → then_forges payloads (kind_by seen_kind p) ≡ n
  kind_due p before n told due = sym (ap (λ o. then_forges payloads (kind_by seen_kind o)) told) ∙ due

  selected : (before : List Event) (p : Polling before) (kind : Kind) → follows (picking id) (receptions before) ≡ Told (Ok kind) [] → seen_kind kind ≡ seen.Peer → Readies before
  selected before p kind told peer = record {
    quietly = polls_quietly before p;
    bad = 0;
    stands = λ ms.
        ap (λ o. then_forges payloads (kind_by seen_kind o)) (follows_on (picking id) (receptions before) ms (Ok kind) told)
        ∙ ap (λ k. then_forges payloads (Told (Ok k) ms)) peer;
    awaits = awaits id a start refl (at before) (receptions before) p kind told peer;
    counts = λ z u.
        subst (λ es. behind_opening (es ++ Request atr z ∷ u) ≡ behind_res u) (same_events before p)
        (poll_counts id a start refl (at before) (receptions before) p (Request atr z ∷ u) ∙ ap (λ v. if v then behind_res u else behind_opening u) atr_is);
  }

  atr_due : (before : List Event) (f : Signal) → Readies before → forging id payloads (receptions before) ≡ Asks f → f ≡ atr
  atr_due before f r due = same_asked f atr (sym due ∙ ap (forging id payloads) (sym (append-nil (receptions before))) ∙ r.stands [])

  ready_turn : (before : List Event) (f : Signal) (x y : Fate) → Readies before → bench_air.lit (world before) ≡ true → forging id payloads (receptions before) ≡ Asks f
      → Course (before ++ turn_events bench_air (world before) f x y)
  ready_turn before f x y r lit due = subst (λ g. Course (before ++ turn_events bench_air (world before) g x y)) (sym (atr_due before f r due)) (atr_turned before r x y lit)

  never_told : (e : PollFault) (before : List Event) (ns : List Note) (f : Signal) → follows (picking id) (receptions before) ≡ Told (Err e) ns → forging id payloads (receptions before) ≡ Asks f → ⊥
  never_told e before ns f told due = over_is_no_request f (kind_due (Told (Err e) ns) before (Asks f) told due)

  fresh_told : (before : List Event) (p : Polling before) (r : Result Kind PollFault) (ns : List Note) → follows (picking id) (receptions before) ≡ Told r ns
      → follows (picking id) (receptions before) ≡ Told r []
  fresh_told before p r ns told = let none : ns ≡ [] = subst IsFresh told p.fresh in told ∙ ap (λ ks. Told r ks) none

  abbrev x1 : List Event → Fate
  x1 before = first_fate (queue_after q before)

  abbrev y1 : List Event → Fate
  y1 before = first_fate (later_fates (queue_after q before))

  polling_turn : (before : List Event) (f : Signal) → Polling before → bench_air.lit (world before) ≡ true → forging id payloads (receptions before) ≡ Asks f
      → (o : Followed Kind) → follows (picking id) (receptions before) ≡ o → Course (before ++ fated bench_air (queue_after q before) (world before) f)
  polling_turn before f p lit due (polls.Asks n) told =
      let E : List Event = fated bench_air (queue_after q before) (world before) f in
      let h : Option Heard = turn_heard bench_air (world before) f (x1 before) (y1 before) in
      let turn : TurnsTo bench_air (at before) (at (before ++ E)) f h = record { lit = lit; moment = sym (events-append bench_air a before E); heard = refl } in
      polling (subst (Polls (picking id) bench_air a (at (before ++ E))) (sym (noted_more before (world before) f (x1 before) (y1 before)))
      (poll_turn (picking id) bench_air (search_closes (device_of id)) a (at before) (at (before ++ E)) (receptions before) f h n p told (kind_due (polls.Asks n) before (Asks f) told due) turn))
  polling_turn before f p lit due (Told (Ok kinds.T2) ns) told = absurd (over_is_no_request f (kind_due (Told (Ok kinds.T2) ns) before (Asks f) told due))
  polling_turn before f p lit due (Told (Ok kinds.T4) ns) told = absurd (over_is_no_request f (kind_due (Told (Ok kinds.T4) ns) before (Asks f) told due))
  polling_turn before f p lit due (Told (Ok kinds.Peer) ns) told =
      ready_turn before f (x1 before) (y1 before) (selected before p kinds.Peer (fresh_told before p (Ok kinds.Peer) ns told) refl) lit due
  polling_turn before f p lit due (Told (Err e) ns) told = absurd (never_told e before ns f told due)

  turn : (before : List Event) (f : Signal) → Course before → bench_air.lit (world before) ≡ true → forging id payloads (receptions before) ≡ Asks f
      → Course (before ++ fated bench_air (queue_after q before) (world before) f)
  turn before f (polling p) lit due = polling_turn before f p lit due (follows (picking id) (receptions before)) refl
  turn before f (readies r) lit due = ready_turn before f (x1 before) (y1 before) r lit due
  turn before f (opens o) lit due = carried_turn before f (x1 before) (y1 before) o lit due
  turn before f (ends e) lit due = absurd (over_is_no_request f (sym e.over ∙ due))

  -- Only polling lights the field up.
  over_is_no_light : Over ≡ LightUp → ⊥
  over_is_no_light e = cc

  ready_dark : (before : List Event) → Readies before → forging id payloads (receptions before) ≡ LightUp → ⊥
  ready_dark before r due =
      light_is_no_request atr (sym due ∙ ap (forging id payloads) (sym (append-nil (receptions before))) ∙ r.stands [])

  open_dark : (before : List Event) → Opens before → forging id payloads (receptions before) ≡ LightUp → ⊥
  open_dark before o due =
      walk_never by_hand (walk_stand by_hand (sending payloads []) (waiting o.code) (receptions o.since)) (sym (o.stands (receptions o.since)) ∙ ap (forging id payloads) (sym o.known) ∙ due)

  lit_more : (before : List Event) → receptions (before ++ Reset ∷ []) ≡ receptions before ++ Lit ∷ []
  lit_more before = receptions-append before (Reset ∷ []) refl

  polling_lit : (before : List Event) → Polling before → forging id payloads (receptions before) ≡ LightUp → (o : Followed Kind) → follows (picking id) (receptions before) ≡ o
      → Course (before ++ Reset ∷ [])
  polling_lit before p due (polls.Asks n) told =
      polling (subst (Polls (picking id) bench_air a (at (before ++ Reset ∷ []))) (sym (lit_more before))
      (poll_lit (picking id) bench_air (search_closes (device_of id)) a (at before) (at (before ++ Reset ∷ [])) (receptions before) n p told (kind_due (polls.Asks n) before LightUp told due)
      (sym (events-append bench_air a before (Reset ∷ [])))))
  polling_lit before p due (Told (Ok kinds.T2) ns) told = absurd (over_is_no_light (kind_due (Told (Ok kinds.T2) ns) before LightUp told due))
  polling_lit before p due (Told (Ok kinds.T4) ns) told = absurd (over_is_no_light (kind_due (Told (Ok kinds.T4) ns) before LightUp told due))
  polling_lit before p due (Told (Ok kinds.Peer) ns) told = absurd (ready_dark before (selected before p kinds.Peer (fresh_told before p (Ok kinds.Peer) ns told) refl) due)
  polling_lit before p due (Told (Err e) ns) told = absurd (over_is_no_light (kind_due (Told (Err e) ns) before LightUp told due))

  relit : (before : List Event) → Course before → forging id payloads (receptions before) ≡ LightUp → Course (before ++ Reset ∷ [])
  relit before (polling p) due = polling_lit before p due (follows (picking id) (receptions before)) refl
  relit before (readies r) due = absurd (ready_dark before r due)
  relit before (opens o) due = absurd (open_dark before o due)
  relit before (ends e) due = absurd (over_is_no_light (sym e.over ∙ due))

  -- So it goes, whatever was made of it.
  pub courses : (es : List Event) → AreTurns bench_air w es → EachDue (forging id payloads) [] es → FatesFrom q es → Course es
  courses es turns each fates =
      subst Course (sym turns.made)
      (walked bench_air (forging id payloads) w q Course relit turn turns.moves (polling (poll_start (picking id) bench_air a)) (subst (EachDue (forging id payloads) []) turns.made each)
      (subst (FatesFrom q) turns.made fates))
