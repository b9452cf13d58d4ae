-- Turns that are due: what holds at their beginning, and is kept by each reset and by each turn, holds at their end. Something may hold of the
-- fates that are left too, as that each is Pass.
use Rattle.std.proofs.Common.{◌≡◌, List, [], ◌∷◌, ◌++◌, Bool, true, false, if◌then◌else◌, Option, refl, sym, ◌∙◌, ap, subst, append_assoc, append-nil}
use Rattle.nfc_base.specs.Signal.{Signal}
use Rattle.nfc_base.specs.Trace.{back_of}
use Rattle.nfc_base.specs.Trace as backs
use Rattle.nfc_base.specs.declared.event.Event.{Event}
use Rattle.nfc_base.specs.declared.event.Event.TheVariants.{Reset, Request}
use Rattle.nfc_base.specs.declared.event.Fate.{Fate}
use Rattle.nfc_base.specs.declared.event.Fate.TheVariants.{Pass, Damage, Lose, Break}
use Rattle.nfc_base.specs.declared.event.Heard.{Heard}
use Rattle.air_core.specs.Joint.{Nothing}
use Rattle.air_core.specs.Conversation.{AirModel, Note, Lit, note, Next, LightUp, Asks, EachDue, first_fate, later_fates, queue_after, FatesFrom, replay, turn_events, turn_heard, Move, Light, Ask}
use Rattle.air_core.specs.Conversation.{trace_of, Moment, with_events, TurnsTo, receptions}
use Rattle.air_core.specs.laws.Turning.{receptions-append}
use Rattle.air_core.proofs.Following.{turn_first, trace_first, turn_known, turn_split}
use Rattle.air_core.proofs.OneCourse.{joint_fated}

module _ {W : Type 0} (m : AirModel W) where
  abbrev pub fated : List Fate → W → Signal → List Event
  fated q w f = turn_events m w f (first_fate q) (first_fate (later_fates q))

  -- a turn has the fates that are first
  turn_fated : (q : List Fate) (w : W) (f : Signal) (x y : Fate) (t : List Event) → FatesFrom q (turn_events m w f x y ++ t)
      → (turn_events m w f x y ≡ fated q w f) × FatesFrom (queue_after q (turn_events m w f x y)) t
  turn_fated q w f Pass y t p =
      let back = joint_fated (later_fates q) (m.joint w f) y t p.1 in
      (ap (λ es. Request f Pass ∷ es) back.0 ∙ ap (λ z. turn_events m w f z (first_fate (later_fates q))) p.0, back.1)
  turn_fated q w f Damage y t p = (ap (λ z. turn_events m w f z (first_fate (later_fates q))) p.0, p.1)
  turn_fated q w f Lose y t p = (ap (λ z. turn_events m w f z (first_fate (later_fates q))) p.0, p.1)
  turn_fated q w f Break y t p = (ap (λ z. turn_events m w f z (first_fate (later_fates q))) p.0, p.1)

  turn_notes : (w : W) (f : Signal) (x y : Fate) → receptions (turn_events m w f x y) ≡ note (turn_heard m w f x y) ∷ []
  turn_notes w f x y = ap receptions (sym (append-nil (turn_events m w f x y))) ∙ turn_known m w f x y [] refl

  turn_fresh : (w : W) (f : Signal) (x y : Fate) → back_of (turn_events m w f x y) ≡ backs.Nothing
  turn_fresh w f x y = ap back_of (sym (append-nil (turn_events m w f x y))) ∙ turn_first m w f x y []

  module _ (Q : List Fate → Type 0) (left : (q : List Fate) (es : List Event) → Q q → Q (queue_after q es)) (next : List Note → Next) (P : Moment W → List Note → Type 0)
      (relit : (b : Moment W) (hs : List Note) → P b hs → next hs ≡ LightUp → P (with_events m b (Reset ∷ [])) (hs ++ Lit ∷ []))
      (turn : (b c : Moment W) (hs : List Note) (f : Signal) (h : Option Heard) → P b hs → Q b.queue → next hs ≡ Asks f → TurnsTo m b c f h → P c (hs ++ note h ∷ [])) where
    abbrev Ends : Moment W → List Note → List Event → Type 0
    Ends b hs es = (c : Moment W) × P c (hs ++ receptions es)

    abbrev Begins : Moment W → List Event → List Note → List Event → Type 0
    Begins b before hs es = receptions before ≡ hs → P b hs → Q b.queue → EachDue next before es → FatesFrom b.queue es → Ends b hs es

    -- one turn, and what follows
    one_turn : (b : Moment W) (before : List Event) (hs : List Note) (f : Signal) (x y : Fate) (rest : List Event) → m.lit b.world ≡ true → back_of rest ≡ backs.Nothing
        → Begins (with_events m b (turn_events m b.world f x y)) (before ++ turn_events m b.world f x y) (hs ++ note (turn_heard m b.world f x y) ∷ []) rest
        → Begins b before hs (turn_events m b.world f x y ++ rest)
    one_turn b before hs f x y rest lit fresh more known p calm each fates =
        let es : List Event = turn_events m b.world f x y in
        let h : Option Heard = turn_heard m b.world f x y in
        let split = turn_split m next before b.world f x y rest each in
        let fate = turn_fated b.queue b.world f x y rest fates in
        let notes : receptions es ≡ note h ∷ [] = turn_notes b.world f x y in
        let q : List Fate = b.queue in
        let told : note h ≡ note (turn_heard m b.world f (first_fate q) (first_fate (later_fates q))) =
        first_note (sym notes ∙ ap receptions fate.0 ∙ turn_notes b.world f (first_fate q) (first_fate (later_fates q))) in
        let turned : TurnsTo m b (with_events m b es) f (turn_heard m b.world f (first_fate q) (first_fate (later_fates q))) =
        record { lit = lit; moment = ap (with_events m b) fate.0; heard = refl } in
        let there : P (with_events m b es) (hs ++ note (turn_heard m b.world f (first_fate q) (first_fate (later_fates q))) ∷ []) =
        turn b (with_events m b es) hs f (turn_heard m b.world f (first_fate q) (first_fate (later_fates q))) p calm (sym (ap next known) ∙ split.0) turned in
        let here : P (with_events m b es) (hs ++ note h ∷ []) = subst (λ n. P (with_events m b es) (hs ++ n ∷ [])) (sym told) there in
        let seen : receptions (before ++ es) ≡ hs ++ note h ∷ [] = receptions-append before es (turn_fresh b.world f x y) ∙ ap (λ ns. receptions before ++ ns) notes
        ∙ ap (λ ns. ns ++ note h ∷ []) known in
        let end = more seen here (left b.queue es calm) split.1 fate.1 in
        let all : (hs ++ note h ∷ []) ++ receptions rest ≡ hs ++ receptions (es ++ rest) =
        append_assoc hs (note h ∷ []) (receptions rest) ∙ ap (λ ns. hs ++ ns) (sym (turn_known m b.world f x y rest fresh)) in
        (end.0, subst (P end.0) all end.1)
      where
        first_of : Note → List Note → Note
        first_of d [] = d
        first_of d (n ∷ ns) = n

        first_note : {k n : Note} → k ∷ [] ≡ n ∷ [] → k ≡ n
        first_note {k} {n} e = ap (first_of k) e

    pub walk : (ks : List (Move m)) (b : Moment W) (before : List Event) (hs : List Note) → Begins b before hs (trace_of m b.world ks)
    walk [] b before hs known p calm each fates = (b, subst (P b) (sym (append-nil hs)) p)
    walk (Light ∷ ks) b before hs known p calm each fates =
        let c : Moment W = with_events m b (Reset ∷ []) in
        let there : P c (hs ++ Lit ∷ []) = relit b hs p (sym (ap next known) ∙ each.0) in
        let seen : receptions (before ++ Reset ∷ []) ≡ hs ++ Lit ∷ [] = receptions-append before (Reset ∷ []) refl ∙ ap (λ ns. ns ++ Lit ∷ []) known in
        let end = walk ks c (before ++ Reset ∷ []) (hs ++ Lit ∷ []) seen there calm each.1 fates in
        (end.0, subst (P end.0) (append_assoc hs (Lit ∷ []) (receptions (trace_of m (m.happens b.world Reset) ks))) end.1)
    walk (Ask f x y ∷ ks) b before hs known p calm each fates =
        by_light (m.lit b.world) refl (walk ks b before hs) (λ lit. one_turn b before hs f x y (trace_of m (replay m b.world (turn_events m b.world f x y)) ks) lit
        (trace_first m (replay m b.world (turn_events m b.world f x y)) ks)
        (walk ks (with_events m b (turn_events m b.world f x y)) (before ++ turn_events m b.world f x y) (hs ++ note (turn_heard m b.world f x y) ∷ []))) known p calm each fates
      where
        by_light : (v : Bool) → m.lit b.world ≡ v → Begins b before hs (trace_of m b.world ks)
            → (m.lit b.world ≡ true → Begins b before hs (turn_events m b.world f x y ++ trace_of m (replay m b.world (turn_events m b.world f x y)) ks))
            → Begins b before hs ((if v then turn_events m b.world f x y else []) ++ trace_of m (replay m b.world (if v then turn_events m b.world f x y else [])) ks)
        by_light false is dark lit = dark
        by_light true is dark lit = lit is
