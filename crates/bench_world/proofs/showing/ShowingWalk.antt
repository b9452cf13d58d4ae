-- Turns that are due, from a moment on: what holds of the events so far, and is kept by each reset and by each turn, holds of all: over any air.
use Rattle.std.proofs.Common.{◌≡◌, List, [], ◌∷◌, ◌++◌, Bool, true, false, if◌then◌else◌, refl, sym, subst, append_assoc}
use Rattle.std.proofs.lemmas.List.{append-nil}
use Rattle.nfc_base.specs.Signal.{Signal}
use Rattle.nfc_base.specs.declared.event.Event.{Event}
use Rattle.nfc_base.specs.declared.event.Event.TheVariants.{Reset}
use Rattle.nfc_base.specs.declared.event.Fate.{Fate}
use Rattle.air_core.specs.Conversation.{AirModel, Note, Next, LightUp, Asks, receptions, EachDue, queue_after, FatesFrom, replay, turn_events, Move, Light, Ask, trace_of}
use Rattle.air_core.specs.laws.Turning.{queue_after-append, replay-append}
use Rattle.air_core.proofs.Following.{turn_split}
use Rattle.bench_world.proofs.showing.ShowingTurns.{fated, turn_fated}

module _ {W : Type 0} (m : AirModel W) (next : List Note → Next) (w : W) (q : List Fate) (P : List Event → Type 0)
    (relit : (before : List Event) → P before → next (receptions before) ≡ LightUp → P (before ++ Reset ∷ []))
    (turn : (before : List Event) (f : Signal) → P before → m.lit (replay m w before) ≡ true → next (receptions before) ≡ Asks f
    → P (before ++ fated m (queue_after q before) (replay m w before) f)) where
  -- from these events on
  abbrev Goes : List Event → W → List Fate → List (Move m) → Type 0
  Goes before v p ks = P before → EachDue next before (trace_of m v ks) → FatesFrom p (trace_of m v ks) → P (before ++ trace_of m v ks)

  abbrev At : List Event → List (Move m) → Type 0
  At before ks = Goes before (replay m w before) (queue_after q before) ks

  -- some events more, and what follows
  further : (ks : List (Move m)) (before E : List Event) → At (before ++ E) ks → Goes (before ++ E) (replay m (replay m w before) E) (queue_after (queue_after q before) E) ks
  further ks before E h =
      subst (λ p. Goes (before ++ E) (replay m (replay m w before) E) p ks) (queue_after-append q before E)
      (subst (λ v. Goes (before ++ E) v (queue_after q (before ++ E)) ks) (replay-append m w before E) h)

  all_of : (before E T : List Event) → P ((before ++ E) ++ T) → P (before ++ (E ++ T))
  all_of before E T p = subst P (append_assoc before E T) p

  -- one turn, and what follows
  asked : (before : List Event) (f : Signal) (x y : Fate) (ks : List (Move m)) → m.lit (replay m w before) ≡ true
      → At (before ++ turn_events m (replay m w before) f x y) ks
      → P before
      → EachDue next before (turn_events m (replay m w before) f x y ++ trace_of m (replay m (replay m w before) (turn_events m (replay m w before) f x y)) ks)
      → FatesFrom (queue_after q before) (turn_events m (replay m w before) f x y ++ trace_of m (replay m (replay m w before) (turn_events m (replay m w before) f x y)) ks)
      → P (before ++ (turn_events m (replay m w before) f x y ++ trace_of m (replay m (replay m w before) (turn_events m (replay m w before) f x y)) ks))
  asked before f x y ks lit more p each fates =
      let v : W = replay m w before in
      let E : List Event = turn_events m v f x y in
      let T : List Event = trace_of m (replay m v E) ks in
      let due = turn_split m next before v f x y T each in
      let fate = turn_fated m (queue_after q before) v f x y T fates in
      let here : P (before ++ E) = subst (λ t. P (before ++ t)) (sym fate.0) (turn before f p lit due.0) in
      all_of before E T (further ks before E more here due.1 fate.1)

  walks : (ks : List (Move m)) (before : List Event) → At before ks
  walks [] before p each fates = subst P (sym (append-nil before)) p
  walks (Light ∷ ks) before p each fates =
      let v : W = replay m w before in
      all_of before (Reset ∷ []) (trace_of m (m.happens v Reset) ks) (further ks before (Reset ∷ []) (walks ks (before ++ Reset ∷ [])) (relit before p each.0) each.1 fates)
  walks (Ask f x y ∷ ks) before p each fates =
      by (m.lit (replay m w before)) refl (walks ks before) (λ lit. asked before f x y ks lit (walks ks (before ++ turn_events m (replay m w before) f x y))) p each fates
    where
      v : W
      v = replay m w before

      E : List Event
      E = turn_events m v f x y

      by : (b : Bool) → m.lit v ≡ b → At before ks
          → (m.lit v ≡ true → P before → EachDue next before (E ++ trace_of m (replay m v E) ks) → FatesFrom (queue_after q before) (E ++ trace_of m (replay m v E) ks)
          → P (before ++ (E ++ trace_of m (replay m v E) ks)))
          → P before
          → EachDue next before ((if b then E else []) ++ trace_of m (replay m v (if b then E else [])) ks)
          → FatesFrom (queue_after q before) ((if b then E else []) ++ trace_of m (replay m v (if b then E else [])) ks)
          → P (before ++ ((if b then E else []) ++ trace_of m (replay m v (if b then E else [])) ks))
      by false is dark lit = dark
      by true is dark lit = lit is

  -- So it holds of them all.
  pub walked : (ks : List (Move m)) → P [] → EachDue next [] (trace_of m w ks) → FatesFrom q (trace_of m w ks) → P (trace_of m w ks)
  walked ks p each fates = walks ks [] p each fates
