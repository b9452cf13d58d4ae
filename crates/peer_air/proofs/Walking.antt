-- An exchange with a peer, walked along turn by turn: each turn is one of the world with far ends.
use Rattle.std.proofs.Common.{◌≡◌, ◌≤◌, ℕ, length, arith, List, [], ◌∷◌, ◌++◌, Bool, true, false, if◌then◌else◌, Option, Some, None, refl, sym, ◌∙◌, ap, subst, append_assoc, append-nil}
use Rattle.std.proofs.lemmas.List.{append_cancel_left}
use Rattle.nfc_base.specs.Signal.{Signal}
use Rattle.nfc_base.specs.Far.{FarUse, Untouched, Restarts, Hands}
use Rattle.nfc_base.specs.Choosing.{Choosing, first_number, later_numbers}
use Rattle.nfc_base.specs.Trace.{heard_by}
use Rattle.nfc_base.specs.StopAndWait.{Deliver, Stage, Requests, stage_of, delivered_of}
use Rattle.nfc_base.specs.LinkTurns.{GivenBy}
use Rattle.nfc_base.specs.LinkTurns as turns
use Rattle.nfc_base.specs.declared.event.Event.{Event}
use Rattle.nfc_base.specs.declared.event.Event.TheVariants.{Reset, Request, Answer, Clash}
use Rattle.nfc_base.specs.declared.event.Fate.{Fate}
use Rattle.nfc_base.specs.declared.event.Fate.TheVariants.{Pass, Damage, Lose, Break}
use Rattle.nfc_base.specs.declared.event.Heard.{Heard}
use Rattle.nfc_base.specs.declared.carrier.EndCause.TheVariants as cause
use Rattle.air_core.specs.Joint.{Joint, Nothing, Single, Clashing}
use Rattle.air_core.specs.World.{World, hands_over}
use Rattle.air_core.specs.Conversation.{AirModel, Note, note, Next, Over, LightUp, Asks, receptions, EachDue, FatesFrom, queue_after, first_fate, later_fates, joint_events, joint_back, replay}
use Rattle.air_core.specs.Conversation.{turn_events, turn_heard, Move, Light, Ask, trace_of, Moment, with_events}
use Rattle.air_core.specs.Turn.{Air, world, moment, TurnIs}
use Rattle.air_core.specs.laws.Turning.{receptions-append, events-append}
use Rattle.air_core.specs.Quiet.{EachQuiet}
use Rattle.air_core.specs.PlainTags.{IsAlone}
use Rattle.air_core.specs.declared.listener.Listener.{Ghosts}
use Rattle.air_core.proofs.PlainAside.{Laws}
use Rattle.dep_link.specs.declared.target.TargetStep.{TargetStep}
use Rattle.dep_link.specs.declared.target.TargetStep.TheVariants as does
use Rattle.dep_link.specs.declared.initiator.InitStep.{InitStep}
use Rattle.dep_link.specs.declared.initiator.InitStep.TheVariants as send
use Rattle.dep_link.specs.Sizes.{limit}
use Rattle.dep_link.specs.Target.{TargetState, target_table}
use Rattle.dep_link.specs.Initiator.{InitState, init_table}
use Rattle.dep_link.specs.Payloads.{payloads}
use Rattle.dep_link.specs.Exchange.{initiator_does, target_does, frames_of}
use Rattle.dep_link.specs.Answering.{answering_air}
use Rattle.dep_link.specs.Peers.{target_use, IsAsked, reached, IsPeer}
use Rattle.dep_link.specs.Asking.{Standing, Waits, Rests, Broken, asks, goes_by, noted, stand, due_at, dep_next, HasPeer, ExchangeTurns, AreFrames}
use Rattle.dep_link.proofs.Answered.{DidBy}
use Rattle.dep_link.proofs.PeerTurns.{each_quiet, hears_asked}
use Rattle.dep_link.proofs.Unbegun.{never_begins}
use Rattle.dep_link.proofs.Swapping.{OnPeer, LostPeer, HasBytes, given_far, stand_on, reached_same, hands, is_asked, last_peer, last_alone, turn_lost, on_turns, lost_turns}
use Rattle.dep_link.proofs.SwapEnds.{next_here}
use Rattle.far_air.specs.FarEnds.{FarTable}
use Rattle.far_air.specs.FarLaws.{IsFarTable, IsLinked, IsOfTable}
use Rattle.far_air.specs.FarTurns.{QuietBut, FarTurn, FarGoing}
use Rattle.far_air.proofs.FarTurns.{far_turns, far_goes_on}
use Rattle.peer_air.specs.SwapTurns.{Stands}
use Rattle.peer_air.proofs.Back.{behind_turn, behind_at, turn_back, quiet_but}

-- A far end that replies r to whatever it is handed, and shows whether it was handed anything.
abbrev pub begins : Bool → List ℕ → Bool → Type 0
begins a general b = Unit {0}

abbrev pub tells : List ℕ → Bool → List ℕ → List ℕ → Bool → Type 0
tells r a payload reply b = (reply ≡ r) × (b ≡ true)

abbrev never_stops : Bool → List ℕ → Bool → Type 0
never_stops a payload b = ⊥

abbrev never_stuck : Bool → Bool
never_stuck a = false

abbrev pub flagged : List ℕ → Bool → List (List ℕ)
flagged out false = []
flagged out true = out ∷ []

flag_none : (r out : List ℕ) (far : Bool) (given : Option (List ℕ)) → GivenBy (tells r) false out given far → given ≡ None → far ≡ false
flag_none r out far None g e = g
flag_none r out far (Some q) g e = absurd cc

flag_given : (r out : List ℕ) (far : Bool) (given : Option (List ℕ)) → GivenBy (tells r) false out given far → delivered_of out given ≡ flagged out far
flag_given r out far None g = sym (ap (flagged out) g)
flag_given r out far (Some q) g = sym (ap (flagged out) g.1)

-- far ends by their table alone
abbrev table_begins : {F : Type 0} → FarTable F → Choosing F → List ℕ → Choosing F → Type 0
table_begins t a general b = b ≡ record { end = t.restarted a.end general; numbers = a.numbers }

abbrev pub table_steps : {F : Type 0} → FarTable F → Choosing F → List ℕ → List ℕ → Choosing F → Type 0
table_steps t a payload reply b =
    (reply ≡ t.reply a.end payload (first_number a.numbers)) × (b ≡ record { end = t.left a.end payload (first_number a.numbers); numbers = later_numbers a.numbers })

table_kind : {F : Type 0} (t : FarTable F) → IsOfTable (table_begins t) (table_steps t) t (λ a. a)
table_kind t = record { restart = λ a general b e. e; reply = λ a payload reply b s. s.0; left = λ a payload reply b s. s.1 }

-- what a target hands over it delivers
use_delivers : (d : TargetStep) (p : List ℕ) → target_use d ≡ Hands p → target_does d ≡ Deliver p
use_delivers does.Quiet p e = absurd cc
use_delivers (does.Reply f) p e = absurd cc
use_delivers (does.Restart general f) p e = absurd cc
use_delivers (does.Deliver payload) p e = (let z : payload.items ≡ p = cc in ap Deliver z)
use_delivers (does.Asleep f) p e = absurd cc
use_delivers (does.Released f) p e = absurd cc

due_later : (next : List Note → Next) (before a b : List Event) → EachDue next before (a ++ b) → EachDue next (before ++ a) b
due_later next before [] b d = let P : List Event → Type 0 = λ z. EachDue next z b in subst P (sym (append-nil before)) d
due_later next before (Reset ∷ a) b d =
    let P : List Event → Type 0 = λ z. EachDue next z b in subst P (append_assoc before (Reset ∷ []) a) (due_later next (before ++ Reset ∷ []) a b d.1)
due_later next before (Request f x ∷ a) b d =
    let P : List Event → Type 0 = λ z. EachDue next z b in subst P (append_assoc before (Request f x ∷ []) a) (due_later next (before ++ Request f x ∷ []) a b d.1)
due_later next before (Answer f x ∷ a) b d =
    let P : List Event → Type 0 = λ z. EachDue next z b in subst P (append_assoc before (Answer f x ∷ []) a) (due_later next (before ++ Answer f x ∷ []) a b d)
due_later next before (Clash f x ∷ a) b d =
    let P : List Event → Type 0 = λ z. EachDue next z b in subst P (append_assoc before (Clash f x ∷ []) a) (due_later next (before ++ Clash f x ∷ []) a b d)

fates_later : (q : List Fate) (a b : List Event) → FatesFrom q (a ++ b) → FatesFrom (queue_after q a) b
fates_later q [] b d = d
fates_later q (Reset ∷ a) b d = fates_later q a b d
fates_later q (Request f x ∷ a) b d = fates_later (later_fates q) a b d.1
fates_later q (Answer f x ∷ a) b d = fates_later (later_fates q) a b d.1
fates_later q (Clash f x ∷ a) b d = fates_later (later_fates q) a b d.1

frames_later : (a b : List Event) → AreFrames (a ++ b) → AreFrames b
frames_later [] b d = d
frames_later (Reset ∷ a) b d = frames_later a b d
frames_later (Request f x ∷ a) b d = frames_later a b d.1
frames_later (Answer f x ∷ a) b d = frames_later a b d
frames_later (Clash f x ∷ a) b d = frames_later a b d

same_joint : (q : List Fate) (j : Joint) (y : Fate) (rest : List Event) → FatesFrom q (joint_events j y ++ rest) → joint_events j y ≡ joint_events j (first_fate q)
same_joint q Nothing y rest d = refl
same_joint q (Single g) y rest d = ap (λ z. Answer g z ∷ []) d.0
same_joint q (Clashing g) y rest d = ap (λ z. Clash g z ∷ []) d.0

joint_notes : (f : Signal) (j : Joint) (y : Fate) → receptions (Request f Pass ∷ joint_events j y) ≡ note (heard_by Pass (joint_back j y)) ∷ []
joint_notes f Nothing y = refl
joint_notes f (Single g) y = refl
joint_notes f (Clashing g) y = refl

module _ {W : Type 0} (m : AirModel W) where
  same_turn : (q : List Fate) (w : W) (f : Signal) (x y : Fate) (rest : List Event) → FatesFrom q (turn_events m w f x y ++ rest)
      → turn_events m w f x y ≡ turn_events m w f (first_fate q) (first_fate (later_fates q))
  same_turn q w f Pass y rest d =
      ap (λ es. Request f Pass ∷ es) (same_joint (later_fates q) (m.joint w f) y rest d.1) ∙ ap (λ z. turn_events m w f z (first_fate (later_fates q))) d.0
  same_turn q w f Damage y rest d = ap (λ z. turn_events m w f z (first_fate (later_fates q))) d.0
  same_turn q w f Lose y rest d = ap (λ z. turn_events m w f z (first_fate (later_fates q))) d.0
  same_turn q w f Break y rest d = ap (λ z. turn_events m w f z (first_fate (later_fates q))) d.0

  turn_notes : (w : W) (f : Signal) (x y : Fate) → receptions (turn_events m w f x y) ≡ note (turn_heard m w f x y) ∷ []
  turn_notes w f Pass y = joint_notes f (m.joint w f) y
  turn_notes w f Damage y = refl
  turn_notes w f Lose y = refl
  turn_notes w f Break y = refl

  -- where nothing is due, nothing more happened
  none_due : (next : List Note → Next) (before : List Event) (ks : List (Move m)) (w : W) (es : List Event) → es ≡ trace_of m w ks → EachDue next before es → next (receptions before) ≡ Over → es ≡ []
  none_due next before [] w es e d over = e
  none_due next before (Light ∷ ks) w es e d over =
      let P : List Event → Type 0 = EachDue next before in
      let light : next (receptions before) ≡ LightUp = (subst P e d).0 in absurd cc
  none_due next before (Ask f x y ∷ ks) w es e d over = go (m.lit w) e (λ e. none_due next before ks w es e d over)
    where
      T : List Event
      T = turn_events m w f x y

      go : (v : Bool) → es ≡ (if v then T else []) ++ trace_of m (replay m w (if v then T else [])) ks → (es ≡ trace_of m w ks → es ≡ []) → es ≡ []
      go false e k = k e
      go true e k =
          let P : List Event → Type 0 = EachDue next before in
          let asked : next (receptions before) ≡ Asks f = (subst P e d).0 in absurd cc

  -- in the dark nothing happens, unless a reset is due
  pub dark_none : (next : List Note → Next) (before : List Event) (f : Signal) (ks : List (Move m)) (w : W) (es : List Event) → es ≡ trace_of m w ks → EachDue next before es
      → next (receptions before) ≡ Asks f → m.lit w ≡ false → es ≡ []
  dark_none next before f [] w es e d asked dark = e
  dark_none next before f (Light ∷ ks) w es e d asked dark =
      let P : List Event → Type 0 = EachDue next before in
      let light : next (receptions before) ≡ LightUp = (subst P e d).0 in absurd cc
  dark_none next before f (Ask g x y ∷ ks) w es e d asked dark =
      let T : List Event = turn_events m w g x y in
      dark_none next before f ks w es (e ∙ ap (λ v. (if v then T else []) ++ trace_of m (replay m w (if v then T else [])) ks) dark) d asked dark

module _ {L F : Type 0} (k : Ghosts L) (laws : Laws k) (target : L → TargetState) (linked : L → Bool) (t : FarTable F) (links : IsLinked k.machine linked) (fars : IsFarTable t)
    (old : Air L) (i0 : InitState) (out : List ℕ) (first : ℕ) (handed : List (List ℕ)) (arrived : List Signal) (p : HasPeer k target old i0 first handed arrived)
    (r : List ℕ) (fits : length r ≤ limit) (v w : Choosing F) (os : List (Option F)) (all : List Event) where
  abbrev pub N : List Note → Next
  N ns = dep_next i0 out ns

  abbrev pub A0 : AirModel (World L)
  A0 = answering_air k.machine r

  abbrev pub On : Air L → Bool → InitState → Stage Signal → Standing → Type 0
  On mid far i stage s = OnPeer k target (tells r) p.listener i0 first handed arrived out false old mid p.place far i stage s

  -- that reply is one of the table, and leads from v to w
  abbrev pub Makes : Type 0
  Makes = table_steps t v out r w

  abbrev FarTo : Choosing F → Air L → List Note → Type 0
  FarTo a mid ns = FarGoing k.machine linked t N (moment old) (moment mid) ns p.place os v a

  -- what was done in the world with far ends, by whether the payload was handed over
  abbrev pub So : Bool → Air L → List Note → Type 0
  So false mid ns = FarTo v mid ns
  So true mid ns = Makes → FarTo w mid ns

  pub record End : Type 0 where
    pub air : Air L
    pub notes : List Note
    pub at : moment air ≡ with_events A0 (moment old) all
    pub known : receptions all ≡ notes
    pub far : Bool
    pub so : So far air notes
    pub brings : payloads first (frames_of (arrived ++ turns.arrived all)) ≡ handed ++ flagged out far
    pub there : Stands k target linked t air p.place

  ends_at : (mid : Air L) (far : Bool) (said given : Option (List ℕ)) (s : Standing) (x : ExchangeTurns k target old mid p.listener i0 first handed arrived out said s)
      → GivenBy (tells r) false out given far × (said ≡ given) → (ns : List Note) → moment mid ≡ with_events A0 (moment old) all → receptions all ≡ ns → So far mid ns
      → Stands k target linked t mid p.place → End
  ends_at mid far said given s x g ns at known so there =
      let same : x.events ≡ all = append_cancel_left old.trace x.events all (sym x.trace ∙ ap (λ (z : Moment (World L)). z.trace) at) in
      record {
        air = mid;
        notes = ns;
        at = at;
        known = known;
        far = far;
        so = so;
        brings = ap (λ es. payloads first (frames_of (arrived ++ turns.arrived es))) (sym same) ∙ x.brings ∙ ap (λ z. handed ++ delivered_of out z) g.1
            ∙ ap (λ z. handed ++ z) (flag_given r out far given g.0);
        there = there;
      }

  ends_on : (mid : Air L) (far : Bool) (i : InitState) (stage : Stage Signal) (s : Standing) (o : On mid far i stage s) (ns : List Note)
      → moment mid ≡ with_events A0 (moment old) all → receptions all ≡ ns → So far mid ns → End
  ends_on mid far i stage s o ns at known so =
      ends_at mid far o.said o.along.world.given s
      (on_turns k laws target begins (tells r) p.listener p.is i0 first handed arrived out false old mid p.place far i stage s o)
      (given_far (tells r) false far out o.said o.along.world.given o.along.given) ns at known so
      (λ lit. (reached k p.listener o.heard, o.selected, subst (λ own. IsAlone k own mid.listeners p.place (reached k p.listener o.heard)) (sym (reached_same k laws p.listener o.heard)) o.alone))

  -- the walk from one moment on
  abbrev Walks : List (Move A0) → Type 0
  Walks ks =
      (mid : Air L) (far : Bool) (i : InitState) (f : Signal) (o : On mid far i (Requests f) (Waits i f)) (before : List Event) (ns : List Note)
      → moment mid ≡ with_events A0 (moment old) before → receptions before ≡ ns → So far mid ns → stand (asks i0 out) ns ≡ Waits i f
      → (es : List Event) → es ≡ trace_of A0 (world mid) ks → before ++ es ≡ all → EachDue N before es → FatesFrom mid.fates es → AreFrames es → End

  -- one turn
  module _ (mid : Air L) (far : Bool) (i : InitState) (f : Signal) (o : On mid far i (Requests f) (Waits i f)) (before : List Event) (ns : List Note)
      (at : moment mid ≡ with_events A0 (moment old) before) (known : receptions before ≡ ns) (so : So far mid ns) (stands : stand (asks i0 out) ns ≡ Waits i f) (bytes : HasBytes f) where
    abbrev x0 : Fate
    x0 = first_fate mid.fates

    abbrev y0 : Fate
    y0 = first_fate (later_fates mid.fates)

    abbrev T : List Event
    T = turn_events A0 (world mid) f x0 y0

    abbrev h0 : Option Heard
    h0 = turn_heard A0 (world mid) f x0 y0

    abbrev new : Air L
    new = behind_turn k.machine r f x0 mid

    abbrev last : L
    last = reached k p.listener o.heard

    abbrev used : FarUse
    used = hands_over k.machine last f

    due_now : N ns ≡ Asks f
    due_now = ap due_at stands

    asked : IsAsked f
    asked = is_asked k laws target begins (tells r) p.listener p.is i0 first handed arrived out false old mid p.place far i f bytes o

    alone : IsAlone k (k.identifier last) mid.listeners p.place last
    alone = last_alone k laws target begins (tells r) p.listener p.is i0 first handed arrived out false old mid p.place far i f bytes o

    peer : IsPeer k target last
    peer = last_peer k laws target begins (tells r) p.listener p.is i0 first handed arrived out false old mid p.place far i f bytes o

    first_quiet : EachQuiet k.machine f alone.before
    first_quiet = each_quiet k laws target (k.identifier last) f asked alone.before alone.first

    later_quiet : EachQuiet k.machine f alone.behind
    later_quiet = each_quiet k laws target (k.identifier last) f asked alone.behind alone.later

    uses : used ≡ target_use (target_table (target last) f).does
    uses = ap (λ z. if z then k.machine.handed last f else Untouched) (hears_asked k laws target last f asked peer.tech) ∙ (peer.steps_on [] tt f asked [] (omega arith)).asks

    quiet : QuietBut k.machine f p.place mid.listeners
    quiet =
        let P : ℕ → Type 0 = λ n. QuietBut k.machine f n mid.listeners in
        let Q : List L → Type 0 = λ ls. QuietBut k.machine f (length alone.before) ls in
        subst P alone.stands (subst Q (sym alone.split) (quiet_but k.machine r f alone.before last alone.behind first_quiet later_quiet))

    never : (general : List ℕ) → used ≡ Restarts general → ⊥
    never general e = never_begins (target last) f asked general (sym uses ∙ e)

    once : (q : List ℕ) → used ≡ Hands q → (q ≡ out) × (far ≡ false)
    once q e =
        let d = hands k laws target begins (tells r) p.listener p.is i0 first handed arrived out false old mid p.place far i f bytes o q
        (use_delivers (target_table (target last) f).does q (sym uses ∙ e)) in
        let g = given_far (tells r) false far out o.said o.along.world.given o.along.given in
        (d.0, flag_none r out far o.along.world.given g.0 (sym g.1 ∙ d.1))

    turn_far : (a b : Choosing F) → DidBy (table_begins t) (table_steps t) x0 used r a b → FarTurn k.machine linked t (moment mid) (moment new) f h0 p.place os a b
    turn_far a b d =
        far_turns k.machine linked t (table_begins t) (table_steps t) (λ z. z) links fars (table_kind t) mid new f h0 a b p.place os quiet
        (turn_back k.machine r f (table_begins t) (table_steps t) alone.before last alone.behind first_quiet later_quiet mid a b o.lit alone.split d)

    abbrev later_notes : List Note
    later_notes = ns ++ note h0 ∷ []

    so_on : (z : Bool) → So z mid ns → ((a : Choosing F) → FarTurn k.machine linked t (moment mid) (moment new) f h0 p.place os a a) → So z new later_notes
    so_on false s go = far_goes_on k.machine linked t N (moment old) (moment mid) (moment new) f h0 ns p.place os v v v s due_now (go v)
    so_on true s go = λ makes. far_goes_on k.machine linked t N (moment old) (moment mid) (moment new) f h0 ns p.place os v w w (s makes) due_now (go w)

    record Chosen (x : Fate) (u : FarUse) : Type 0 where
      to : Bool
      told : DidBy begins (tells r) x u r far to
      so' : So to new later_notes

    choose : (x : Fate) (u : FarUse) → ((a b : Choosing F) → DidBy (table_begins t) (table_steps t) x u r a b → FarTurn k.machine linked t (moment mid) (moment new) f h0 p.place os a b)
        → ((general : List ℕ) → u ≡ Restarts general → ⊥) → ((q : List ℕ) → u ≡ Hands q → (q ≡ out) × (far ≡ false)) → Chosen x u
    choose Pass Untouched go nobegin one = record { to = far; told = (refl, refl); so' = so_on far so (λ a. go a a (refl, refl)) }
    choose Pass (Restarts general) go nobegin one = absurd (nobegin general refl)
    choose Pass (Hands q) go nobegin one =
        let e = one q refl in
        let P : Bool → Type 0 = λ z. So z mid ns in
        let s : So false mid ns = subst P e.1 so in
        let M : List ℕ → Type 0 = λ z. table_steps t v z r w in
        record {
          to = true;
          told = (r, (refl, refl), fits, refl);
          so' = λ makes. far_goes_on k.machine linked t N (moment old) (moment mid) (moment new) f h0 ns p.place os v v w s due_now (go v w (r, subst M (sym e.0) makes, fits, refl));
        }
    choose Damage u go nobegin one = record { to = far; told = refl; so' = so_on far so (λ a. go a a refl) }
    choose Lose u go nobegin one = record { to = far; told = refl; so' = so_on far so (λ a. go a a refl) }
    choose Break u go nobegin one = record { to = far; told = refl; so' = so_on far so (λ a. go a a refl) }

    chosen : Chosen x0 used
    chosen = choose x0 used turn_far never once

    turn_told : TurnIs k.machine begins (tells r) mid f far h0 new chosen.to
    turn_told = turn_back k.machine r f begins (tells r) alone.before last alone.behind first_quiet later_quiet mid far chosen.to o.lit alone.split chosen.told

    at_new : moment new ≡ with_events A0 (moment old) (before ++ T)
    at_new = behind_at k.machine r f x0 mid o.lit ∙ ap (λ z. with_events A0 z T) at ∙ events-append A0 (moment old) before T

    known_new : receptions (before ++ T) ≡ later_notes
    known_new = receptions-append before T refl ∙ ap (λ z. z ++ receptions T) known ∙ ap (λ z. ns ++ z) (turn_notes A0 (world mid) f x0 y0)

    -- what is left behind the turn
    module _ (ks : List (Move A0)) (walks : Walks ks) (es : List Event) (is : es ≡ trace_of A0 (replay A0 (world mid) T) ks) (sum : before ++ (T ++ es) ≡ all)
        (due : EachDue N before (T ++ es)) (fates : FatesFrom mid.fates (T ++ es)) (frames : AreFrames (T ++ es)) where
      is_new : es ≡ trace_of A0 (world new) ks
      is_new = is ∙ ap (λ (z : Moment (World L)). trace_of A0 z.world ks) (sym (behind_at k.machine r f x0 mid o.lit))

      sum_new : (before ++ T) ++ es ≡ all
      sum_new = append_assoc before T es ∙ sum

      due_new : EachDue N (before ++ T) es
      due_new = due_later N before T es due

      over_none : N later_notes ≡ Over → before ++ T ≡ all
      over_none e =
          let none : es ≡ [] = none_due A0 N (before ++ T) ks (world new) es is_new due_new (ap N known_new ∙ e) in
          sym (append-nil (before ++ T)) ∙ ap (λ z. (before ++ T) ++ z) (sym none) ∙ sum_new

      stands_new : stand (asks i0 out) later_notes ≡ noted (Waits i f) (note h0)
      stands_new = stand_on (asks i0 out) ns (note h0) ∙ ap (λ s. noted s (note h0)) stands

      over_at : (s : Standing) → stand (asks i0 out) later_notes ≡ s → due_at s ≡ Over → (moment new ≡ with_events A0 (moment old) all) × (receptions all ≡ later_notes)
      over_at s e over =
          let a : before ++ T ≡ all = over_none (ap due_at e ∙ over) in
          (at_new ∙ ap (λ z. with_events A0 (moment old) z) a, ap receptions (sym a) ∙ known_new)

      by_does : (i' : InitState) (d : InitStep) → On new chosen.to i' (stage_of (initiator_does d)) (goes_by i' d) → stand (asks i0 out) later_notes ≡ goes_by i' d → End
      by_does i' (send.Send g) n e =
          walks new chosen.to i' g n (before ++ T) later_notes at_new known_new chosen.so' e es is_new sum_new due_new
          (let Q : List Fate → Type 0 = λ q. FatesFrom q es in subst Q (sym (ap (λ (z : Moment (World L)). z.queue) (behind_at k.machine r f x0 mid o.lit))) (fates_later mid.fates T es fates))
          (frames_later T es frames)
      by_does i' (send.Finished reply) n e =
          let z = over_at (Rests i' reply.items) e refl in ends_on new chosen.to i' (stage_of (initiator_does (send.Finished reply))) (Rests i' reply.items) n later_notes z.0 z.1 chosen.so'
      by_does i' send.SixBad n e =
          let z = over_at (Broken cause.SixBad) e refl in ends_on new chosen.to i' (stage_of (initiator_does send.SixBad)) (Broken cause.SixBad) n later_notes z.0 z.1 chosen.so'
      by_does i' send.Protocol n e =
          let z = over_at (Broken cause.Protocol) e refl in ends_on new chosen.to i' (stage_of (initiator_does send.Protocol)) (Broken cause.Protocol) n later_notes z.0 z.1 chosen.so'

      by_heard : (h : Option Heard) → TurnIs k.machine begins (tells r) mid f far h new chosen.to → stand (asks i0 out) later_notes ≡ noted (Waits i f) (note h) → End
      by_heard (Some h) turn e =
          by_does (init_table i h).state (init_table i h).does
          (next_here k laws target begins (tells r) old i0 out first handed arrived p false never_stops never_stuck mid far i f bytes o chosen.to new h turn (init_table i h).state
          (init_table i h).does refl) e
      by_heard None turn e =
          let l : LostPeer k target (tells r) p.listener i0 first handed arrived out false old new chosen.to =
          turn_lost k laws target begins (tells r) p.listener p.is i0 first handed arrived out false old mid p.place far i f bytes o chosen.to new turn in
          let z = over_at (Broken cause.FieldLost) e refl in
          ends_at new chosen.to l.said l.along.world.given (Broken cause.FieldLost)
          (lost_turns k laws target begins (tells r) p.listener p.is i0 first handed arrived out false old new chosen.to l)
          (given_far (tells r) false chosen.to out l.said l.along.world.given l.along.given) later_notes z.0 z.1 chosen.so' (λ lit. (let dark = l.dark in absurd cc))

      pub one_turn : End
      one_turn = by_heard h0 turn_told stands_new

  asks_same : (f g : Signal) → Asks f ≡ Asks g → f ≡ g
  asks_same f g e = cc

  pub walk : (ks : List (Move A0)) → Walks ks
  walk [] mid far i f o before ns at known so stands es is sum due fates frames =
      let a : before ≡ all = sym (append-nil before) ∙ ap (λ z. before ++ z) (sym is) ∙ sum in
      ends_on mid far i (Requests f) (Waits i f) o ns (at ∙ ap (λ z. with_events A0 (moment old) z) a) (ap receptions (sym a) ∙ known) so
  walk (Light ∷ ks) mid far i f o before ns at known so stands es is sum due fates frames =
      let P : List Event → Type 0 = EachDue N before in
      let light : N (receptions before) ≡ LightUp = (subst P is due).0 in
      let asked : N (receptions before) ≡ Asks f = ap N known ∙ ap due_at stands in absurd cc
  walk (Ask g x y ∷ ks) mid far i f o before ns at known so stands es is sum due fates frames =
      let E : Signal → Fate → Fate → List Event = λ a b c. turn_events A0 (world mid) a b c in
      let whole : List Event → List Event = λ z. z ++ trace_of A0 (replay A0 (world mid) z) ks in
      let is1 : es ≡ whole (E g x y) = is ∙ ap (λ z. (if z then E g x y else []) ++ trace_of A0 (replay A0 (world mid) (if z then E g x y else [])) ks) o.lit in
      let D : List Event → Type 0 = EachDue N before in
      let Q : List Event → Type 0 = FatesFrom mid.fates in
      let R : List Event → Type 0 = AreFrames in
      let same_frame : g ≡ f = asks_same g f (sym (subst D is1 due).0 ∙ ap N known ∙ ap due_at stands) in
      let same : E g x y ≡ E f (first_fate mid.fates) (first_fate (later_fates mid.fates)) =
      same_turn A0 mid.fates (world mid) g x y _ (subst Q is1 fates) ∙ ap (λ z. E z (first_fate mid.fates) (first_fate (later_fates mid.fates))) same_frame in
      let is2 : es ≡ whole (E f (first_fate mid.fates) (first_fate (later_fates mid.fates))) = is1 ∙ ap whole same in
      let S : List Event → Type 0 = λ z. before ++ z ≡ all in
      one_turn mid far i f o before ns at known so stands ((subst R is2 frames).0) ks (walk ks) _ refl (subst S is2 sum) (subst D is2 due) (subst Q is2 fates) (subst R is2 frames)
