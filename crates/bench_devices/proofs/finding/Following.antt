-- An enquiry as a command sees it: what is due in it, and what it has told once it is over.
use Rattle.std.proofs.Common.{◌≡◌, List, [], ◌∷◌, ◌++◌, Bool, true, false, if◌then◌else◌, Option, Some, None, Result, Ok, Err, refl, sym, ◌∙◌, ap, subst}
use Rattle.std.proofs.lemmas.List.{append-nil}
use Rattle.nfc_base.specs.Signal.{Signal}
use Rattle.nfc_base.specs.Trace.{back_of}
use Rattle.nfc_base.specs.Trace as backs
use Rattle.nfc_base.specs.declared.event.Event.{Event}
use Rattle.nfc_base.specs.declared.event.Event.TheVariants.{Reset}
use Rattle.nfc_base.specs.declared.event.Fate.{Fate}
use Rattle.nfc_base.specs.declared.event.Heard.{Heard}
use Rattle.air_core.specs.Conversation.{AirModel, Note, Lit, Got, Lost, note, Next, Over, LightUp, Asks, IsDemand, EachDue, replay, turn_events, turn_heard, Move, Light, Ask, trace_of, Moment, Going}
use Rattle.air_core.specs.Conversation.{receptions}
use Rattle.air_core.proofs.Turns.{receptions-append}
use Rattle.air_core.proofs.Following.{no_demand, turn_first, trace_first, turn_known, turn_split, nothing_more}
use Rattle.nfca_poll.specs.declared.fault.PollFault.{PollFault}
use Rattle.nfca_poll.specs.declared.fault.PollFault.TheVariants as faults
use Rattle.nfca_poll.specs.Enquiry.{Enquiry, Progress, Reaches, Loses, progress, due_of, enquiring, or_memory, answer_of}
use Rattle.bench_devices.specs.declared.polling.SeenKind.{SeenKind}
use Rattle.bench_devices.specs.Polling as polls
use Rattle.bench_devices.specs.Polling.{Followed, Told, followed, follows, kind_by, asks}

abbrev pub HasEnded : {X : Type 0} → Option (Result X PollFault) → Type 0
HasEnded None = ⊥
HasEnded (Some r) = Unit {0}

-- an enquiry of which the kind alone is told
abbrev pub seen_by : {X : Type 0} → (X → SeenKind) → Result X PollFault → Result SeenKind PollFault
seen_by kind (Ok x) = Ok (kind x)
seen_by kind (Err e) = Err e

pub kind_told : {X : Type 0} (kind : X → SeenKind) (r : Result X PollFault) (ns : List Note) → kind_by kind (Told r ns) ≡ Told (seen_by kind r) ns
kind_told kind (Ok x) ns = refl
kind_told kind (Err e) ns = refl

pub kind_asks : {X : Type 0} (kind : X → SeenKind) (p : Followed X) → asks (kind_by kind p) ≡ asks p
kind_asks kind (polls.Asks n) = refl
kind_asks kind (Told (Ok x) ns) = refl
kind_asks kind (Told (Err e) ns) = refl

pub seen_lost : {X : Type 0} (kind : X → SeenKind) (r : Result X PollFault) → seen_by kind r ≡ Err faults.FieldLost → r ≡ Err faults.FieldLost
seen_lost kind (Ok x) e = absurd cc
seen_lost kind (Err f) e = let same : f ≡ faults.FieldLost = cc in ap Err same

module _ {S X : Type 0} (e : Enquiry S X) where
  -- an enquiry that is over stays so, and asks nothing more
  pub record Closes : Type 0 where
    pub silent : (s : S) → HasEnded (e.ended s) → e.next s ≡ Over
    pub lit : (s : S) → HasEnded (e.ended s) → HasEnded (e.ended (e.light s))
    pub heard : (s : S) (h : Heard) → HasEnded (e.ended s) → HasEnded (e.ended (e.step s h))

  -- what it comes to by more notes
  abbrev pub onward : Progress S → List Note → Progress S
  onward (Reaches s) ns = progress e s ns
  onward Loses ns = Loses

  pub progress-append : (s : S) (ns ks : List Note) → progress e s (ns ++ ks) ≡ onward (progress e s ns) ks
  progress-append s [] ks = refl
  progress-append s (Lit ∷ ns) ks = progress-append (e.light s) ns ks
  progress-append s (Got h ∷ ns) ks = progress-append (e.step s h) ns ks
  progress-append s (Lost ∷ ns) ks = refl

  -- from this state on something was due before each note, and nothing is known behind the loss of the field
  abbrev pub Driven : S → List Note → Type 0
  Driven s [] = Unit {0}
  Driven s (Lit ∷ ns) = IsDemand (e.next s) × Driven (e.light s) ns
  Driven s (Got h ∷ ns) = IsDemand (e.next s) × Driven (e.step s h) ns
  Driven s (Lost ∷ ns) = IsDemand (e.next s) × (ns ≡ [])

  module _ {W : Type 0} (m : AirModel W) where
    abbrev Came : List Event → Progress S → Type 0
    Came before p = progress e e.start (receptions before) ≡ p

    came_more : (before t : List Event) (s : S) (ns : List Note) → back_of t ≡ backs.Nothing → receptions t ≡ ns → Came before (Reaches s) → Came (before ++ t) (progress e s ns)
    came_more before t s ns fresh known at =
        ap (progress e e.start) (receptions-append before t fresh ∙ ap (λ ks. receptions before ++ ks) known) ∙ progress-append e.start (receptions before) ns ∙ ap (λ p. onward p ns) at

    due_at : (before : List Event) (s : S) (n : Next) → Came before (Reaches s) → enquiring e (receptions before) ≡ n → IsDemand n → IsDemand (e.next s)
    due_at before s n at due d = subst IsDemand (sym due ∙ ap (due_of e) at) d

    abbrev behind : W → Signal → Fate → Fate → List (Move m) → List Event
    behind w f x y ks = trace_of m (replay m w (turn_events m w f x y)) ks

    turn_fresh : (w : W) (f : Signal) (x y : Fate) → back_of (turn_events m w f x y) ≡ backs.Nothing
    turn_fresh w f x y = ap back_of (sym (append-nil (turn_events m w f x y))) ∙ turn_first m w f x y []

    turn_note : (w : W) (f : Signal) (x y : Fate) → receptions (turn_events m w f x y) ≡ note (turn_heard m w f x y) ∷ []
    turn_note w f x y = ap receptions (sym (append-nil (turn_events m w f x y))) ∙ turn_known m w f x y [] refl

    module _ (before : List Event) (s : S) (at : Came before (Reaches s)) (w : W) (f : Signal) (x y : Fate) (ks : List (Move m))
        (more : (g : Heard) → Came (before ++ turn_events m w f x y) (Reaches (e.step s g)) → EachDue (enquiring e) (before ++ turn_events m w f x y) (behind w f x y ks)
        → Driven (e.step s g) (receptions (behind w f x y ks))) where
      driven_by : (h : Option Heard) → turn_heard m w f x y ≡ h → IsDemand (e.next s) → EachDue (enquiring e) (before ++ turn_events m w f x y) (behind w f x y ks)
          → Driven s (note h ∷ receptions (behind w f x y ks))
      driven_by (Some h) is due p =
          (due, more h (came_more before (turn_events m w f x y) s (Got h ∷ []) (turn_fresh w f x y) (turn_note w f x y ∙ ap (λ o. note o ∷ []) is) at) p)
      driven_by None is due p =
          let lost : Came (before ++ turn_events m w f x y) Loses = came_more before (turn_events m w f x y) s (Lost ∷ []) (turn_fresh w f x y) (turn_note w f x y ∙ ap (λ o. note o ∷ []) is) at in
          (due, ap receptions (nothing_more m (enquiring e) (before ++ turn_events m w f x y) (behind w f x y ks) (ap (due_of e) lost) (trace_first m (replay m w (turn_events m w f x y)) ks) p))

      driven_turn : EachDue (enquiring e) before (turn_events m w f x y ++ behind w f x y ks) → Driven s (receptions (turn_events m w f x y ++ behind w f x y ks))
      driven_turn p =
          let k = turn_split m (enquiring e) before w f x y (behind w f x y ks) p in
          subst (Driven s) (sym (turn_known m w f x y (behind w f x y ks) (trace_first m (replay m w (turn_events m w f x y)) ks)))
          (driven_by (turn_heard m w f x y) refl (due_at before s (Asks f) at k.0 tt) k.1)

    driven : (ks : List (Move m)) (w : W) (before : List Event) (s : S) → Came before (Reaches s) → EachDue (enquiring e) before (trace_of m w ks) → Driven s (receptions (trace_of m w ks))
    driven [] w before s at q = tt
    driven (Light ∷ ks) w before s at q =
        (due_at before s LightUp at q.0 tt, driven ks (m.happens w Reset) (before ++ Reset ∷ []) (e.light s) (came_more before (Reset ∷ []) s (Lit ∷ []) refl refl at) q.1)
    driven (Ask f x y ∷ ks) w before s at q =
        by_light (m.lit w) q (λ p. driven ks w before s at p)
        (driven_turn before s at w f x y ks (λ g k p. driven ks (replay m w (turn_events m w f x y)) (before ++ turn_events m w f x y) (e.step s g) k p))
      where
        by_light : (v : Bool) → EachDue (enquiring e) before ((if v then turn_events m w f x y else []) ++ trace_of m (replay m w (if v then turn_events m w f x y else [])) ks)
            → (EachDue (enquiring e) before (trace_of m w ks) → Driven s (receptions (trace_of m w ks)))
            → (EachDue (enquiring e) before (turn_events m w f x y ++ behind w f x y ks) → Driven s (receptions (turn_events m w f x y ++ behind w f x y ks)))
            → Driven s (receptions ((if v then turn_events m w f x y else []) ++ trace_of m (replay m w (if v then turn_events m w f x y else [])) ks))
        by_light false p same more = same p
        by_light true p same more = more p

    pub going_driven : (a b : Moment W) (ns : List Note) → Going m (enquiring e) a b ns → Driven e.start ns
    going_driven a b ns g =
        let D : List Event → Type 0 = λ es. EachDue (enquiring e) [] es in
        subst (Driven e.start) (ap receptions (sym g.turns.made) ∙ g.known) (driven g.turns.moves a.world [] e.start refl (subst D g.turns.made g.each))

  module _ (closes : Closes) where
    closed : (s : S) (ns : List Note) → HasEnded (e.ended s) → due_of e (progress e s ns) ≡ Over
    closed s [] h = closes.silent s h
    closed s (Lit ∷ ns) h = closed (e.light s) ns (closes.lit s h)
    closed s (Got g ∷ ns) h = closed (e.step s g) ns (closes.heard s g h)
    closed s (Lost ∷ ns) h = refl

    asks_from : (s : S) (o : Option (Result X PollFault)) (ns : List Note) → e.ended s ≡ o → asks (followed e s o ns) ≡ due_of e (progress e s ns)
    asks_from s (Some r) ns h = sym (closed s ns (subst HasEnded (sym h) tt))
    asks_from s None [] h = refl
    asks_from s None (Lit ∷ ns) h = asks_from (e.light s) (e.ended (e.light s)) ns refl
    asks_from s None (Got g ∷ ns) h = asks_from (e.step s g) (e.ended (e.step s g)) ns refl
    asks_from s None (Lost ∷ ns) h = refl

    -- what is due in it is the same, followed or not
    pub asks_same : (ns : List Note) → asks (follows e ns) ≡ enquiring e ns
    asks_same ns = asks_from e.start (e.ended e.start) ns refl

    ended_idle : (s : S) (r : Result X PollFault) → e.ended s ≡ Some r → IsDemand (e.next s) → ⊥
    ended_idle s r h d = no_demand (e.next s) (closes.silent s (subst HasEnded (sym h) tt)) d

    told_from : (s : S) (o : Option (Result X PollFault)) (ns : List Note) (r : Result X PollFault) → e.ended s ≡ o → Driven s ns → r ≡ answer_of e (progress e s ns) → (r ≡ Err faults.Memory → ⊥)
        → followed e s o ns ≡ Told r []
    told_from s (Some q) [] r h d c starved = ap (λ x. Told x []) (sym (c ∙ ap or_memory h))
    told_from s (Some q) (Lit ∷ ns) r h d c starved = absurd (ended_idle s q h d.0)
    told_from s (Some q) (Got g ∷ ns) r h d c starved = absurd (ended_idle s q h d.0)
    told_from s (Some q) (Lost ∷ ns) r h d c starved = absurd (ended_idle s q h d.0)
    told_from s None [] r h d c starved = absurd (starved (c ∙ ap or_memory h))
    told_from s None (Lit ∷ ns) r h d c starved = told_from (e.light s) (e.ended (e.light s)) ns r refl d.1 c starved
    told_from s None (Got g ∷ ns) r h d c starved = told_from (e.step s g) (e.ended (e.step s g)) ns r refl d.1 c starved
    told_from s None (Lost ∷ ns) r h d c starved = ap (λ ks. Told (Err faults.FieldLost) ks) d.1 ∙ ap (λ x. Told x []) (sym c)

    -- what it answers it has told, and nothing is known since, unless memory was wanting
    pub told_same : {W : Type 0} (m : AirModel W) (a b : Moment W) (ns : List Note) (r : Result X PollFault) → Going m (enquiring e) a b ns → r ≡ answer_of e (progress e e.start ns)
        → (r ≡ Err faults.Memory → ⊥)
        → follows e ns ≡ Told r []
    told_same m a b ns r g c starved = told_from e.start (e.ended e.start) ns r refl (going_driven m a b ns g) c starved

-- by more notes, what was told stays told
abbrev pub ToldOn : {X : Type 0} → Followed X → List Note → Followed X → Type 0
ToldOn (polls.Asks n) ks p = Unit {0}
ToldOn (Told r ns) ks p = p ≡ Told r (ns ++ ks)

module _ {S X : Type 0} (e : Enquiry S X) where
  pub told_on : (s : S) (o : Option (Result X PollFault)) (ns ks : List Note) → ToldOn (followed e s o ns) ks (followed e s o (ns ++ ks))
  told_on s (Some r) ns ks = refl
  told_on s None [] ks = tt
  told_on s None (Lit ∷ ns) ks = told_on (e.light s) (e.ended (e.light s)) ns ks
  told_on s None (Got h ∷ ns) ks = told_on (e.step s h) (e.ended (e.step s h)) ns ks
  told_on s None (Lost ∷ ns) ks = refl

  -- once an enquiry is over, what is known since is left
  pub follows_on : (ns ks : List Note) (r : Result X PollFault) → follows e ns ≡ Told r [] → follows e (ns ++ ks) ≡ Told r ks
  follows_on ns ks r h = subst (λ p. ToldOn p ks (follows e (ns ++ ks))) h (told_on e.start (e.ended e.start) ns ks)
