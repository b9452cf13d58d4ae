-- One turn with a tag that is alone in its field.
use Rattle.std.proofs.Common.{◌≡◌, ℕ, zero, suc, ◌+◌, ◌<◌, ◌≤◌, List, [], ◌∷◌, ◌++◌, length, Bool, true, false, nat_lt, if◌then◌else◌, Option, Some, None, inl, inr, ◌⊎◌, refl, sym, ◌∙◌, ap, subst}
use Rattle.std.proofs.Common.{append_assoc, arith}
use Rattle.std.specs.Prelude.{map}
use Rattle.std.specs.List.{filter, filter_map, cons_option}
use Rattle.std.proofs.lemmas.List.{length-append, append_cancel_left}
use Rattle.nfc_base.specs.declared.frame.Tech.{Tech}
use Rattle.nfc_base.specs.declared.event.Event.{Event}
use Rattle.nfc_base.specs.declared.event.Event.TheVariants.{Reset, Request, Answer, Clash}
use Rattle.nfc_base.specs.declared.event.Fate.{Fate}
use Rattle.nfc_base.specs.declared.event.Fate.TheVariants.{Pass, Damage, Lose, Break}
use Rattle.nfc_base.specs.declared.event.Heard.{Heard}
use Rattle.nfc_base.specs.declared.event.Heard.TheVariants as heards
use Rattle.nfc_base.specs.declared.tag_link.AskFault.TheVariants.{SixBad}
use Rattle.nfc_base.specs.Signal.{Signal}
use Rattle.nfc_base.specs.Trace.{Back, Turn, by_fate, back_of, turns, heard, heard_by, is_whole, noise}
use Rattle.nfc_base.specs.Trace as backs
use Rattle.air_core.specs.Joint.{Joint, Nothing, Single, joint, same_tech}
use Rattle.air_core.specs.World.{World, answered_by, quiet_air}
use Rattle.nfc_base.specs.TagLinks.{TagState, plain_state, after_all, passed}
use Rattle.air_core.specs.laws.Following.{last_passed, follows_on, stores_append}
use Rattle.air_core.specs.Conversation.{Moment, note, joint_events, joint_back, replay, turn_events, TurnsTo}
use Rattle.air_core.specs.Turn.{Air, moment, world}
use Rattle.air_core.specs.laws.Turning.{going_turn, back_of-append}
use Rattle.air_core.specs.Waits.{Standing, Asking, Broken, stand, due_at, waits_next}
use Rattle.air_core.specs.laws.Waiting.{stand_on}
use Rattle.air_core.specs.PlainTags.{IsAlone}
use Rattle.air_core.specs.PlainLinks.{has_reached, obeyed_in, answered_in, Follows, stores_after}
use Rattle.air_core.specs.private.PlainWaits.{after_bad, times, Waited}
use Rattle.air_core.specs.declared.listener.Listener.{Ghosts}

-- the tag's answer as what comes back
abbrev pub one : Option Signal → Joint
one None = Nothing
one (Some g) = Single g

pub joint_one : (o : Option Signal) → joint (cons_option o []) ≡ one o
joint_one None = refl
joint_one (Some g) = refl

-- the events of a turn, and what was heard, by its fates and the tag's answer
abbrev pub tag_events : Signal → Fate → Fate → Option Signal → List Event
tag_events f x y o = Request f x ∷ by_fate x (joint_events (one o) y) [] []

abbrev pub tag_heard : Fate → Fate → Option Signal → Option Heard
tag_heard x y o = heard_by x (joint_back (one o) y)

-- where all passes, nothing is said or that is heard
pub calm_events : (f : Signal) (x y : Fate) (q : Option Signal) → noise (tag_events f x y q) ≡ 0 → (q ≡ None) ⊎ ((g : Signal) × (tag_heard x y q ≡ Some (heards.Whole g)))
calm_events f Pass y None e = inl refl
calm_events f Pass Pass (Some g) e = inr (g, refl)
calm_events f Pass Damage (Some g) e = absurd (omega (arith, e))
calm_events f Pass Lose (Some g) e = absurd (omega (arith, e))
calm_events f Pass Break (Some g) e = absurd (omega (arith, e))
calm_events f Damage y q e = absurd (omega (arith, e))
calm_events f Lose y q e = absurd (omega (arith, e))
calm_events f Break y q e = absurd (omega (arith, e))

-- the events that a turn appends are those
events_as : {W : Type 0} (w : World W) (k : Ghosts W) (f : Signal) (x y : Fate) (o : Option Signal) → joint (filter_map (λ l. answered_by k.machine l f None) w.listeners) ≡ one o
    → turn_events (quiet_air k.machine) w f x y ≡ tag_events f x y o
events_as w k f Pass y o e = ap (λ j. Request f Pass ∷ joint_events j y) e
events_as w k f Damage y o e = refl
events_as w k f Lose y o e = refl
events_as w k f Break y o e = refl

pub turn_events_as : {L : Type 0} (k : Ghosts L) (w : World L) (f : Signal) (x y : Fate) (o : Option Signal) → joint (filter_map (λ l. answered_by k.machine l f None) w.listeners) ≡ one o
    → turn_events (quiet_air k.machine) w f x y ≡ tag_events f x y o
turn_events_as k w f x y o e = events_as w k f x y o e

heard_passed : (x y : Fate) (j i : Joint) → j ≡ i → heard_by x (joint_back j y) ≡ heard_by x (joint_back i y)
heard_passed x y j i e = ap (λ t. heard_by x (joint_back t y)) e

pub heard_as : {L : Type 0} (k : Ghosts L) (w : World L) (f : Signal) (x y : Fate) (o : Option Signal) (h : Option Heard) → joint (filter_map (λ l. answered_by k.machine l f None) w.listeners) ≡ one o
    → h ≡ heard_by x (joint_back (joint (filter_map (λ l. answered_by k.machine l f None) w.listeners)) y) → h ≡ tag_heard x y o
heard_as k w f x y o h e is = is ∙ heard_passed x y _ (one o) e

pub tag_most : (f : Signal) (x y : Fate) (o : Option Signal) → length (tag_events f x y o) ≤ 2
tag_most f Pass y None = omega arith
tag_most f Pass y (Some g) = omega arith
tag_most f Damage y o = omega arith
tag_most f Lose y o = omega arith
tag_most f Break y o = omega arith

-- what the trace tells of some events and of others behind them
abbrev request_of : Turn → Signal
request_of u = u.request

one_more : (v : Bool) (u w : Turn) (xs ys : List Turn) (zs : List Signal) → u.request ≡ w.request → map request_of xs ≡ map request_of ys ++ zs
    → map request_of (if v then u ∷ xs else xs) ≡ map request_of (if v then w ∷ ys else ys) ++ zs
one_more true u w xs ys zs r e = ap (λ c. c ∷ map request_of xs) r ∙ ap (λ cs. w.request ∷ cs) e
one_more false u w xs ys zs r e = e

abbrev turn_of : Signal → Fate → Back → Turn
turn_of f x back = record { request = f; fate = x; back = back }

pub obeyed_append : (t : Tech) (a b : List Event) → obeyed_in t (a ++ b) ≡ obeyed_in t a ++ obeyed_in t b
obeyed_append t [] b = refl
obeyed_append t (Reset ∷ a) b = obeyed_append t a b
obeyed_append t (Request f x ∷ a) b =
    one_more (by_fate x (same_tech f.tech t) false false) (turn_of f x (back_of (a ++ b))) (turn_of f x (back_of a))
    (filter (has_reached t) (turns (a ++ b))) (filter (has_reached t) (turns a)) (obeyed_in t b) refl (obeyed_append t a b)
obeyed_append t (Answer g x ∷ a) b = obeyed_append t a b
obeyed_append t (Clash g x ∷ a) b = obeyed_append t a b

abbrev was_heard : Turn → Bool
was_heard u = is_whole (heard u)

pub answered_append : (a b : List Event) → back_of b ≡ backs.Nothing → answered_in (a ++ b) ≡ answered_in a ++ answered_in b
answered_append [] b e = refl
answered_append (Reset ∷ a) b e = answered_append a b e
answered_append (Request f x ∷ a) b e =
    ap (λ back. map request_of (filter was_heard (turn_of f x back ∷ turns (a ++ b)))) (back_of-append a b e)
    ∙ one_more (is_whole (heard_by x (back_of a))) (turn_of f x (back_of a)) (turn_of f x (back_of a))
    (filter was_heard (turns (a ++ b))) (filter was_heard (turns a)) (answered_in b) refl (answered_append a b e)
answered_append (Answer g x ∷ a) b e = answered_append a b e
answered_append (Clash g x ∷ a) b e = answered_append a b e

pub noise_append : (a b : List Event) → noise (a ++ b) ≡ noise a + noise b
noise_append [] b = omega arith
noise_append (Reset ∷ a) b = noise_append a b
noise_append (Request f x ∷ a) b = let e : noise (a ++ b) ≡ noise a + noise b = noise_append a b in omega (arith, e)
noise_append (Answer g x ∷ a) b = let e : noise (a ++ b) ≡ noise a + noise b = noise_append a b in omega (arith, e)
noise_append (Clash g x ∷ a) b = let e : noise (a ++ b) ≡ noise a + noise b = noise_append a b in omega (arith, e)

-- once more
pub times_more : (f : Signal) (n : ℕ) → times f n ++ f ∷ [] ≡ times f (suc n)
times_more f zero = refl
times_more f (suc n) = ap (λ xs. f ∷ xs) (times_more f n)

pub asking_bad : (f : Signal) (bad : ℕ) → bad < 6 → after_bad f bad ≡ Asking bad (f ∷ [])
asking_bad f zero h = refl
asking_bad f (suc bad) h = let e : nat_lt bad 5 ≡ true = grind (arith, h) in ap (λ v. if v then Asking (suc bad) (f ∷ []) else Broken SixBad (f ∷ [])) e

module _ {L : Type 0} (k : Ghosts L) where
  -- the stores of the events before, and of more of them
  pub images_more : (old mid : Air L) (place : ℕ) (f : Signal) (tag : L) (turns n : ℕ) (begun : Standing) (lk : L) (w : Waited k old mid place f tag turns n begun lk []) (es : List Event)
      (obeyed : List Signal) (zs : List (List ℕ)) → passed (k.commands tag) (plain_state (k.store tag)) obeyed ≡ passed (k.commands tag) (plain_state (k.store tag)) (times f n) ++ zs
      → Follows (after_all (k.commands tag) (plain_state (k.store tag)) (times f n)).store (stores_after k place (world mid) es) zs
      → Follows (k.store tag) (stores_after k place (world old) (w.events ++ es)) (passed (k.commands tag) (plain_state (k.store tag)) obeyed)
  images_more old mid place f tag turns n begun lk w es obeyed zs more images =
      let step = k.commands tag in
      let s : TagState = plain_state (k.store tag) in
      let trace : mid.trace ≡ old.trace ++ w.going.events = ap (λ (m : Moment (World L)). m.trace) w.going.moment in
      let same : w.going.events ≡ w.events = append_cancel_left old.trace w.going.events w.events (sym trace ∙ w.trace) in
      let reached : world mid ≡ replay (quiet_air k.machine) (world old) w.events =
      ap (λ (m : Moment (World L)). m.world) w.going.moment ∙ ap (replay (quiet_air k.machine) (world old)) same in
      let S : List (List ℕ) = stores_after k place (world old) w.events in
      let stores : stores_after k place (world old) (w.events ++ es) ≡ S ++ stores_after k place (world mid) es =
      stores_append k place (world old) w.events es ∙ ap (λ v. S ++ stores_after k place v es) (sym reached) in
      let P : List (List ℕ) → Type 0 = λ xs. Follows (k.store tag) xs (passed step s obeyed) in
      let Q : List (List ℕ) → Type 0 = λ xs. Follows (k.store tag) (S ++ stores_after k place (world mid) es) xs in
      let R : List ℕ → Type 0 = λ c. Follows c (stores_after k place (world mid) es) zs in
      subst P (sym stores) (subst Q (sym more)
      (follows_on (k.store tag) S (passed step s (times f n)) (stores_after k place (world mid) es) zs w.images (subst R (sym (last_passed step s (times f n))) images)))

  -- one more turn of a wait
  abbrev pub extend : (old mid new : Air L) (place : ℕ) (f : Signal) (tag : L) (turns n bad : ℕ) (begun : Standing) (lk : L) (h : Option Heard) (es : List Event) (n' : ℕ) (s : Standing) (left : L)
      (done : List Signal)
      → Waited k old mid place f tag turns n begun lk [] → begun ≡ Asking bad (f ∷ [])
      → TurnsTo (quiet_air k.machine) (moment mid) (moment new) f h → new.trace ≡ mid.trace ++ es → back_of es ≡ backs.Nothing → length es ≤ 2
      → IsAlone k (k.identifier tag) new.listeners place left → times f n ++ obeyed_in (k.machine.tech tag) es ≡ times f n' → answered_in es ≡ done
      → stand bad (f ∷ []) (note h ∷ []) ≡ s → (zs : List (List ℕ)) → passed (k.commands tag) (plain_state (k.store tag)) (times f n') ≡ passed (k.commands tag) (plain_state (k.store tag)) (times f n)
      ++ zs
      → Follows (after_all (k.commands tag) (plain_state (k.store tag)) (times f n)).store (stores_after k place (world mid) es) zs → Waited k old new place f tag (suc turns) n' s left done
  extend old mid new place f tag turns n bad begun lk h es n' s left done w asks turn trace fresh short alone obeyed answered stands zs more images =
      let sum : length (w.events ++ es) ≡ length w.events + length es = length-append w.events es in
      record {
        alone = alone;
        notes = w.notes ++ note h ∷ [];
        going = going_turn (quiet_air k.machine) (waits_next (f ∷ [])) (moment old) (moment mid) (moment new) f h w.notes w.going (ap due_at (w.stands ∙ asks)) turn;
        stands = stand_on 0 (f ∷ []) w.notes bad (f ∷ []) (w.stands ∙ asks) [] (note h ∷ []) ∙ stands;
        events = w.events ++ es;
        trace = trace ∙ ap (λ t. t ++ es) w.trace ∙ append_assoc old.trace w.events es;
        fresh = back_of-append w.events es fresh ∙ w.fresh;
        obeyed = obeyed_append (k.machine.tech tag) w.events es ∙ ap (λ t. t ++ obeyed_in (k.machine.tech tag) es) w.obeyed ∙ obeyed;
        answered = answered_append w.events es fresh ∙ ap (λ t. t ++ answered_in es) w.answered ∙ answered;
        most = omega (arith, w.most, short, sum);
        images = images_more old mid place f tag turns n begun lk w es (times f n') zs more images;
      }
