-- Turns that were due are the first ones of a course that goes on to its end: over any air, whatever is due, and whatever the fates are.
use Rattle.std.proofs.Common.{◌≡◌, List, [], ◌∷◌, ◌++◌, Bool, true, false, if◌then◌else◌, refl, sym, ◌∙◌, ap, subst, append_assoc}
use Rattle.std.proofs.lemmas.List.{append-nil}
use Rattle.nfc_base.specs.Signal.{Signal}
use Rattle.nfc_base.specs.Trace.{back_of}
use Rattle.nfc_base.specs.Trace as backs
use Rattle.nfc_base.specs.declared.event.Event.{Event}
use Rattle.nfc_base.specs.declared.event.Event.TheVariants.{Reset, Request}
use Rattle.nfc_base.specs.declared.event.Fate.{Fate}
use Rattle.nfc_base.specs.declared.event.Fate.TheVariants.{Pass, Damage, Lose, Break}
use Rattle.air_core.specs.Joint.{Nothing}
use Rattle.air_core.specs.Conversation.{AirModel, Note, Next, Over, LightUp, Asks, receptions, EachDue, first_fate, later_fates, queue_after, FatesFrom, replay, turn_events, Move, Light, Ask}
use Rattle.air_core.specs.Conversation.{trace_of, AreTurns}
use Rattle.air_core.specs.laws.Turning.{queue_after-append, replay-append}
use Rattle.air_core.proofs.Following.{same_asked, light_is_no_request, no_demand, turn_first, turn_split}
use Rattle.air_core.proofs.OneCourse.{joint_fated}

-- Behind some events these ones were due, and have the fates of the queue.
pub record IsDueFront (next : List Note → Next) (before : List Event) (q : List Fate) (es : List Event) : Type 0 where
  pub due : EachDue next before es
  pub fates : FatesFrom q es

module _ {W : Type 0} (m : AirModel W) where
  -- the events of moves that are made in the light
  abbrev turns_of : W → List (Move m) → List Event
  turns_of w [] = []
  turns_of w (Light ∷ ks) = Reset ∷ turns_of (m.happens w Reset) ks
  turns_of w (Ask f x y ∷ ks) = turn_events m w f x y ++ turns_of (replay m w (turn_events m w f x y)) ks

  -- so are those of any moves: in the dark nothing happens
  in_light : (w : W) (ks : List (Move m)) → (ls : List (Move m)) × (trace_of m w ks ≡ turns_of w ls)
  in_light w [] = ([], refl)
  in_light w (Light ∷ ks) = let more = in_light (m.happens w Reset) ks in (Light ∷ more.0, ap (λ t. Reset ∷ t) more.1)
  in_light w (Ask f x y ∷ ks) = by_light (m.lit w) (in_light w ks) (in_light (replay m w (turn_events m w f x y)) ks)
    where
      by_light : (v : Bool) → (ls : List (Move m)) × (trace_of m w ks ≡ turns_of w ls)
          → (ls : List (Move m)) × (trace_of m (replay m w (turn_events m w f x y)) ks ≡ turns_of (replay m w (turn_events m w f x y)) ls)
          → (ls : List (Move m)) × ((if v then turn_events m w f x y else []) ++ trace_of m (replay m w (if v then turn_events m w f x y else [])) ks ≡ turns_of w ls)
      by_light true dark lit = (Ask f x y ∷ lit.0, ap (λ t. turn_events m w f x y ++ t) lit.1)
      by_light false dark lit = dark

  -- they begin with no answer
  turns_first : (w : W) (ks : List (Move m)) → back_of (turns_of w ks) ≡ backs.Nothing
  turns_first w [] = refl
  turns_first w (Light ∷ ks) = refl
  turns_first w (Ask f x y ∷ ks) = turn_first m w f x y (turns_of (replay m w (turn_events m w f x y)) ks)

  -- the events of a turn, by the fates that are first
  abbrev pub fated : List Fate → W → Signal → List Event
  fated q w f = turn_events m w f (first_fate q) (first_fate (later_fates q))

  pub turn_fated : (q : List Fate) (w : W) (f : Signal) (x y : Fate) (t : List Event) → FatesFrom q (turn_events m w f x y ++ t)
      → (turn_events m w f x y ≡ fated q w f) × FatesFrom (queue_after q (turn_events m w f x y)) t
  turn_fated q w f Pass y t p =
      let back = joint_fated (later_fates q) (m.joint w f) y t p.1 in
      (ap (λ es. Request f Pass ∷ es) back.0 ∙ ap (λ z. turn_events m w f z (first_fate (later_fates q))) p.0, back.1)
  turn_fated q w f Damage y t p = (ap (λ z. turn_events m w f z (first_fate (later_fates q))) p.0, p.1)
  turn_fated q w f Lose y t p = (ap (λ z. turn_events m w f z (first_fate (later_fates q))) p.0, p.1)
  turn_fated q w f Break y t p = (ap (λ z. turn_events m w f z (first_fate (later_fates q))) p.0, p.1)

  -- Such a front that begins with a turn: its request was due, it has the first fates, and such a front follows.
  record BeginsTurn (next : List Note → Next) (before : List Event) (q : List Fate) (w : W) (f : Signal) (es : List Event) (ks : List (Move m)) : Type 0 where
    asked : next (receptions before) ≡ Asks f
    turn : es ≡ fated q w f
    behind : IsDueFront next (before ++ fated q w f) (queue_after q (fated q w f)) (turns_of (replay m w (fated q w f)) ks)

  begins_turn : (next : List Note → Next) (before : List Event) (q : List Fate) (w : W) (f : Signal) (x y : Fate) (ks : List (Move m))
      → IsDueFront next before q (turns_of w (Ask f x y ∷ ks)) → BeginsTurn next before q w f (turn_events m w f x y) ks
  begins_turn next before q w f x y ks c =
      let es : List Event = turn_events m w f x y in
      let rest : List Event = turns_of (replay m w es) ks in
      let due = turn_split m next before w f x y rest c.due in
      let fates = turn_fated q w f x y rest c.fates in
      let behind : IsDueFront next (before ++ es) (queue_after q es) rest = record { due = due.1; fates = fates.1 } in
      let C : List Event → Type 0 = λ t. IsDueFront next (before ++ t) (queue_after q t) (turns_of (replay m w t) ks) in
      record { asked = due.0; turn = fates.0; behind = subst C fates.0 behind }

  -- A course begins with these turns: it goes on by moves from the world behind them.
  record Follows (next : List Note → Next) (before : List Event) (q : List Fate) (w : W) (fs turned : List Event) : Type 0 where
    moves : List (Move m)
    is : fs ≡ turned ++ turns_of (replay m w turned) moves
    behind : IsDueFront next (before ++ turned) (queue_after q turned) (turns_of (replay m w turned) moves)

  -- also behind those before
  follows_on : (next : List Note → Next) (before : List Event) (q : List Fate) (w : W) (E fs turned : List Event)
      → Follows next (before ++ E) (queue_after q E) (replay m w E) fs turned → Follows next before q w (E ++ fs) (E ++ turned)
  follows_on next before q w E fs turned p =
      let u : W = replay m (replay m w E) turned in
      let world : u ≡ replay m w (E ++ turned) = sym (replay-append m w E turned) in
      let C : List Event → List Fate → Type 0 = λ b k. IsDueFront next b k (turns_of u p.moves) in
      let D : W → Type 0 = λ z. IsDueFront next (before ++ (E ++ turned)) (queue_after q (E ++ turned)) (turns_of z p.moves) in
      record {
        moves = p.moves;
        is = ap (λ t. E ++ t) p.is ∙ sym (append_assoc E turned (turns_of u p.moves)) ∙ ap (λ z. (E ++ turned) ++ turns_of z p.moves) world;
        behind = subst D world
            (subst (λ b. C b (queue_after q (E ++ turned))) (append_assoc before E turned)
            (subst (C ((before ++ E) ++ turned)) (sym (queue_after-append q E turned)) p.behind));
      }

  -- a reset and a request aren't due at once, and where nothing is due neither is
  never_both : (n : Next) (f : Signal) → n ≡ LightUp → n ≡ Asks f → ⊥
  never_both n f light asked = light_is_no_request f (sym light ∙ asked)

  over_here : (next : List Note → Next) (before : List Event) → next (receptions (before ++ [])) ≡ Over → next (receptions before) ≡ Over
  over_here next before over = ap (λ t. next (receptions t)) (sym (append-nil before)) ∙ over

  over_behind : (next : List Note → Next) (before a b : List Event) → next (receptions (before ++ (a ++ b))) ≡ Over → next (receptions ((before ++ a) ++ b)) ≡ Over
  over_behind next before a b over = ap (λ t. next (receptions t)) (append_assoc before a b) ∙ over

  follow_moves : (next : List Note → Next) (ks ls : List (Move m)) (before : List Event) (q : List Fate) (w : W)
      → IsDueFront next before q (turns_of w ks) → IsDueFront next before q (turns_of w ls) → next (receptions (before ++ turns_of w ls)) ≡ Over
      → Follows next before q w (turns_of w ls) (turns_of w ks)
  follow_moves next [] ls before q w a b over =
      record { moves = ls; is = refl; behind = subst (λ t. IsDueFront next t q (turns_of w ls)) (sym (append-nil before)) b }
  follow_moves next (Light ∷ ks) [] before q w a b over = absurd (no_demand LightUp (sym (a.due).0 ∙ over_here next before over) tt)
  follow_moves next (Ask f x y ∷ ks) [] before q w a b over =
      absurd (no_demand (Asks f) (sym (begins_turn next before q w f x y ks a).asked ∙ over_here next before over) tt)
  follow_moves next (Light ∷ ks) (Light ∷ ls) before q w a b over =
      let v : W = m.happens w Reset in
      follows_on next before q w (Reset ∷ []) (turns_of v ls) (turns_of v ks)
      (follow_moves next ks ls (before ++ Reset ∷ []) q v (record { due = (a.due).1; fates = a.fates }) (record { due = (b.due).1; fates = b.fates })
      (over_behind next before (Reset ∷ []) (turns_of v ls) over))
  follow_moves next (Light ∷ ks) (Ask g u v ∷ ls) before q w a b over =
      absurd (never_both (next (receptions before)) g (a.due).0 (begins_turn next before q w g u v ls b).asked)
  follow_moves next (Ask f x y ∷ ks) (Light ∷ ls) before q w a b over =
      absurd (never_both (next (receptions before)) f (b.due).0 (begins_turn next before q w f x y ks a).asked)
  follow_moves next (Ask f x y ∷ ks) (Ask g u v ∷ ls) before q w a b over =
      let one = begins_turn next before q w f x y ks a in
      let two = begins_turn next before q w g u v ls b in
      let same : g ≡ f = same_asked g f (sym two.asked ∙ one.asked) in
      let E : List Event = fated q w f in
      let turn : turn_events m w g u v ≡ E = two.turn ∙ ap (fated q w) same in
      let C : Signal → Type 0 = λ h. IsDueFront next (before ++ fated q w h) (queue_after q (fated q w h)) (turns_of (replay m w (fated q w h)) ls) in
      let T : List Event → Type 0 = λ t. next (receptions (before ++ (t ++ turns_of (replay m w t) ls))) ≡ Over in
      let F : List Event → List Event → Type 0 = λ s t. Follows next before q w (t ++ turns_of (replay m w t) ls) (s ++ turns_of (replay m w s) ks) in
      let there : F E E =
      follows_on next before q w E (turns_of (replay m w E) ls) (turns_of (replay m w E) ks)
      (follow_moves next ks ls (before ++ E) (queue_after q E) (replay m w E) one.behind (subst C same two.behind)
      (over_behind next before E (turns_of (replay m w E) ls) (subst T turn over))) in
      subst (λ t. F (turn_events m w f x y) t) (sym turn) (subst (λ s. F s E) (sym one.turn) there)

  -- What stands behind such turns in a course that goes on to its end: it begins with no answer, and is due, by the fates that are left.
  pub record GoesOn (next : List Note → Next) (q : List Fate) (fs turned : List Event) : Type 0 where
    pub other : List Event
    pub is : fs ≡ turned ++ other
    pub fresh : back_of other ≡ backs.Nothing
    pub due : EachDue next turned other
    pub fates : FatesFrom (queue_after q turned) other

  pub goes_on : (next : List Note → Next) (w : W) (q : List Fate) (turned fs : List Event) → AreTurns m w turned → AreTurns m w fs → IsDueFront next [] q turned → IsDueFront next [] q fs
      → next (receptions fs) ≡ Over → GoesOn next q fs turned
  goes_on next w q turned fs a b due course over =
      let ks = in_light w a.moves in
      let ls = in_light w b.moves in
      let first : turned ≡ turns_of w ks.0 = a.made ∙ ks.1 in
      let second : fs ≡ turns_of w ls.0 = b.made ∙ ls.1 in
      let p = follow_moves next ks.0 ls.0 [] q w (subst (IsDueFront next [] q) first due) (subst (IsDueFront next [] q) second course) (ap (λ t. next (receptions t)) (sym second) ∙ over) in
      let F : Follows next [] q w fs turned = subst (λ t. Follows next [] q w fs t) (sym first) (subst (λ t. Follows next [] q w t (turns_of w ks.0)) (sym second) p) in
      record { other = turns_of (replay m w turned) F.moves; is = F.is; fresh = turns_first (replay m w turned) F.moves; due = F.behind.due; fates = F.behind.fates }
