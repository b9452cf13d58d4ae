-- A turn of the air of one reply, among listeners of which one alone may hand something over, as a turn over a far end.
use Rattle.std.proofs.Common.{◌≡◌, ℕ, List, [], ◌∷◌, ◌++◌, length, Bool, true, false, if◌then◌else◌, Option, None, refl, sym, ◌∙◌, ap, subst, append-nil}
use Rattle.std.specs.Prelude.{map}
use Rattle.std.specs.List.{filter_map}
use Rattle.nfc_base.specs.Signal.{Signal}
use Rattle.nfc_base.specs.Far.{Untouched, FarDid}
use Rattle.nfc_base.specs.declared.event.Event.TheVariants.{Request}
use Rattle.nfc_base.specs.declared.event.Fate.{Fate}
use Rattle.nfc_base.specs.declared.event.Fate.TheVariants.{Pass, Damage, Lose, Break}
use Rattle.air_core.specs.Joint.{Joint, Nothing, Single, Clashing, joint}
use Rattle.air_core.specs.World.{Machine, hears, hands_over, answered_by, stepped_by, requested}
use Rattle.air_core.specs.Conversation.{first_fate, later_fates, joint_events, turn_events, turn_heard, with_events}
use Rattle.air_core.specs.Turn.{Air, world, moment, after_event, brought, Meets, HearAll, TurnBy, TurnIs}
use Rattle.air_core.specs.laws.Turning.{events-append}
use Rattle.air_core.specs.Quiet.{EachQuiet}
use Rattle.dep_link.specs.Answering.{reply_for, answering, answering_air}
use Rattle.dep_link.proofs.Answered.{DidBy}
use Rattle.far_air.specs.FarTurns.{QuietBut}

module _ {L : Type 0} (m : Machine L) (r : List ℕ) (f : Signal) where
  abbrev pub says : L → Option Signal
  says l = answered_by (answering m r) l f None

  abbrev pub goes : L → L
  goes l = stepped_by (answering m r) l f None

  same_as : (l : L) (reply : Option (List ℕ)) → reply ≡ reply_for r (hands_over m l f) → (says l ≡ answered_by m l f reply) × (goes l ≡ stepped_by m l f reply)
  same_as l reply e = go (hears m l f) e
    where
      go : (v : Bool) → reply ≡ reply_for r (if v then m.handed l f else Untouched)
          → ((if v then m.answer l f (reply_for r (m.handed l f)) else None) ≡ (if v then m.answer l f reply else None))
          × ((if v then m.after l f (reply_for r (m.handed l f)) else l) ≡ (if v then m.after l f reply else l))
      go true e = (ap (m.answer l f) (sym e), ap (m.after l f) (sym e))
      go false e = (refl, refl)

  module _ {A : Type 0} (restarts : A → List ℕ → A → Type 0) (steps : A → List ℕ → List ℕ → A → Type 0) where
    meets_back : (l : L) (far far' : A) → FarDid restarts steps (hands_over m l f) far (reply_for r (hands_over m l f)) far' → Meets m restarts steps f l far (says l) (goes l) far'
    meets_back l far far' d =
        let e = same_as l (reply_for r (hands_over m l f)) refl in
        record { reply = reply_for r (hands_over m l f); far = d; says = e.0; left = e.1 }

    quiet_back : (l : L) (far : A) → hands_over m l f ≡ Untouched → Meets m restarts steps f l far (says l) (goes l) far
    quiet_back l far q = meets_back l far far (subst (λ u. FarDid restarts steps u far (reply_for r u) far) (sym q) (refl, refl))

    all_quiet_back : (ls : List L) (far : A) → EachQuiet m f ls → HearAll m restarts steps f ls far (filter_map says ls) (map goes ls) far
    all_quiet_back [] far q = (refl, refl, refl)
    all_quiet_back (l ∷ ls) far q = (says l, filter_map says ls, goes l, far, map goes ls, quiet_back l far q.0, all_quiet_back ls far q.1, refl, refl)

    all_back : (before : List L) (l : L) (behind : List L) (far far' : A) → EachQuiet m f before → EachQuiet m f behind
        → FarDid restarts steps (hands_over m l f) far (reply_for r (hands_over m l f)) far'
        → HearAll m restarts steps f (before ++ l ∷ behind) far (filter_map says (before ++ l ∷ behind)) (map goes (before ++ l ∷ behind)) far'
    all_back [] l behind far far' p q d = (says l, filter_map says behind, goes l, far', map goes behind, meets_back l far far' d, all_quiet_back behind far' q, refl, refl)
    all_back (x ∷ before) l behind far far' p q d =
        (says x, filter_map says (before ++ l ∷ behind), goes x, far, map goes (before ++ l ∷ behind), quiet_back x far p.0, all_back before l behind far far' p.1 q d, refl, refl)

  -- the field behind such a turn
  abbrev pub behind_turn : Fate → Air L → Air L
  behind_turn Pass old =
      brought m (after_event old (Request f Pass) (later_fates old.fates) (record { lit = true; listeners = map goes old.listeners })) (joint (filter_map says old.listeners))
      (first_fate (later_fates old.fates))
  behind_turn Damage old = after_event old (Request f Damage) (later_fates old.fates) (requested m (world old) f Damage)
  behind_turn Lose old = after_event old (Request f Lose) (later_fates old.fates) (requested m (world old) f Lose)
  behind_turn Break old = after_event old (Request f Break) (later_fates old.fates) (requested m (world old) f Break)

  brought_at : (a : Air L) (j : Joint) (y : Fate) → moment (brought m a j y) ≡ with_events (answering_air m r) (moment a) (joint_events j y)
  brought_at a Nothing y = ap (λ z. record { world = world a; queue = a.fates; trace = z }) (sym (append-nil a.trace))
  brought_at a (Single g) Pass = refl
  brought_at a (Single g) Damage = refl
  brought_at a (Single g) Lose = refl
  brought_at a (Single g) Break = refl
  brought_at a (Clashing g) Pass = refl
  brought_at a (Clashing g) Damage = refl
  brought_at a (Clashing g) Lose = refl
  brought_at a (Clashing g) Break = refl

  pub behind_at : (x : Fate) (old : Air L) → old.lit ≡ true
      → moment (behind_turn x old) ≡ with_events (answering_air m r) (moment old) (turn_events (answering_air m r) (world old) f x (first_fate (later_fates old.fates)))
  behind_at Pass old lit =
      let y : Fate = first_fate (later_fates old.fates) in
      let j : Joint = joint (filter_map says old.listeners) in
      brought_at (after_event old (Request f Pass) (later_fates old.fates) (record { lit = true; listeners = map goes old.listeners })) j y
      ∙ ap (λ v. with_events (answering_air m r) (record { world = record { lit = v; listeners = map goes old.listeners }; queue = later_fates old.fates; trace = old.trace ++ Request f Pass ∷ [] })
      (joint_events j y)) (sym lit)
      ∙ events-append (answering_air m r) (moment old) (Request f Pass ∷ []) (joint_events j y)
  behind_at Damage old lit = refl
  behind_at Lose old lit = refl
  behind_at Break old lit = refl

  module _ {A : Type 0} (restarts : A → List ℕ → A → Type 0) (steps : A → List ℕ → List ℕ → A → Type 0) (before : List L) (l : L) (behind : List L) (p : EachQuiet m f before)
      (q : EachQuiet m f behind) where
    turn_by : (x : Fate) (old : Air L) (far far' : A) → old.listeners ≡ before ++ l ∷ behind → DidBy restarts steps x (hands_over m l f) r far far'
        → TurnBy m restarts steps x old f far (turn_heard (answering_air m r) (world old) f x (first_fate (later_fates old.fates))) (behind_turn x old) far'
    turn_by Pass old far far' split d = record {
      answers = filter_map says old.listeners;
      listeners = map goes old.listeners;
      all = subst (λ ls. HearAll m restarts steps f ls far (filter_map says ls) (map goes ls) far') (sym split) (all_back restarts steps before l behind far far' p q d);
      back = refl;
      left = refl;
    }
    turn_by Damage old far far' split d = record { back = refl; left = refl; same = d }
    turn_by Lose old far far' split d = record { back = refl; left = refl; same = d }
    turn_by Break old far far' split d = record { back = refl; left = refl; same = d }

    pub turn_back : (old : Air L) (far far' : A) → old.lit ≡ true → old.listeners ≡ before ++ l ∷ behind → DidBy restarts steps (first_fate old.fates) (hands_over m l f) r far far'
        → TurnIs m restarts steps old f far (turn_heard (answering_air m r) (world old) f (first_fate old.fates) (first_fate (later_fates old.fates))) (behind_turn (first_fate old.fates) old) far'
    turn_back old far far' lit split d = record { lit = lit; by = turn_by (first_fate old.fates) old far far' split d }

  pub quiet_but : (before : List L) (l : L) (behind : List L) → EachQuiet m f before → EachQuiet m f behind → QuietBut m f (length before) (before ++ l ∷ behind)
  quiet_but [] l behind p q = q
  quiet_but (x ∷ before) l behind p q = (p.0, quiet_but before l behind p.1 q)
