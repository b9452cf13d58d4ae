-- Where no device hands anything over, the world with far ends does what the quiet air does.
use Rattle.std.proofs.Common.{◌≡◌, ℕ, List, [], ◌∷◌, ◌++◌, Bool, true, false, if◌then◌else◌, Option, None, refl, sym, ◌∙◌, ap}
use Rattle.std.specs.Prelude.{map}
use Rattle.nfc_base.specs.declared.event.Event.{Event}
use Rattle.nfc_base.specs.declared.event.Event.TheVariants.{Reset, Request, Answer, Clash}
use Rattle.nfc_base.specs.declared.event.Fate.{Fate}
use Rattle.nfc_base.specs.declared.event.Fate.TheVariants.{Pass, Damage, Lose, Break}
use Rattle.nfc_base.specs.Signal.{Signal}
use Rattle.nfc_base.specs.Far.{Untouched}
use Rattle.air_core.specs.World.{Machine, World, hears, stepped_by, reset_by, requested, came_back, dark, quiet_air}
use Rattle.air_core.specs.Conversation.{Moment, Note, Next, Going, AreTurns, replay, queue_after}
use Rattle.air_core.specs.Quiet.{EachQuiet}
use Rattle.far_air.specs.FarEnds.{FarTable}
use Rattle.far_air.specs.FarWorld.{AllMet, far_air, far_happens}
use Rattle.far_air.specs.FarLaws.{IsFarTable, IsLinked, seen, seen_at}
use Rattle.far_air.specs.Quietly.{QuietAt, NoneHands, Unlinked, IsCalm, AreCalm, StaysUnlinked, UnlinkedStay, QuietStretches, QuietGoings}
use Rattle.far_air.proofs.Showing.{shown_dark, shown_reset}
use Rattle.far_air.proofs.Meeting.{meets_quietly}
use Rattle.far_air.proofs.OnField.{turns_of_field, quiet_fields}

module _ {L F : Type 0} (m : Machine L) (linked : L → Bool) (t : FarTable F) (links : IsLinked m linked) (laws : IsFarTable t) where
  came_quietly : (w : World L) (os : List (Option F)) (ns : List ℕ) (g : Signal) (x : Fate) → far_happens m linked t (seen linked t w os ns) (Answer g x) ≡ seen linked t (came_back m w x) os ns
  came_quietly w os ns g Pass = refl
  came_quietly w os ns g Damage = refl
  came_quietly w os ns g Lose = refl
  came_quietly w os ns g Break = ap (λ z. record { field = dark m w; fars = z; numbers = ns }) (shown_dark m linked t links laws w.listeners os)

  requested_quietly : (w : World L) (os : List (Option F)) (ns : List ℕ) (f : Signal) (x : Fate) → QuietAt m x f w.listeners
      → far_happens m linked t (seen linked t w os ns) (Request f x) ≡ seen linked t (requested m w f x) os ns
  requested_quietly w os ns f Pass q =
      ap (λ (z : AllMet L F). record { field = record { lit = w.lit; listeners = z.listeners }; fars = z.fars; numbers = z.numbers }) (meets_quietly m linked t links laws f w.listeners os ns q)
  requested_quietly w os ns f Damage q = refl
  requested_quietly w os ns f Lose q = refl
  requested_quietly w os ns f Break q = ap (λ z. record { field = dark m w; fars = z; numbers = ns }) (shown_dark m linked t links laws w.listeners os)

  reset_quietly : (w : World L) (os : List (Option F)) (ns : List ℕ) → far_happens m linked t (seen linked t w os ns) Reset ≡ seen linked t (reset_by m w) os ns
  reset_quietly w os ns = ap (λ z. record { field = reset_by m w; fars = z; numbers = ns }) (shown_reset m linked t links laws w.listeners os)

  pub replay_quietly : (w : World L) (os : List (Option F)) (ns : List ℕ) (es : List Event) → NoneHands m w es
      → replay (far_air m linked t) (seen linked t w os ns) es ≡ seen linked t (replay (quiet_air m) w es) os ns
  replay_quietly w os ns [] n = refl
  replay_quietly w os ns (Reset ∷ es) n = ap (λ z. replay (far_air m linked t) z es) (reset_quietly w os ns) ∙ replay_quietly (reset_by m w) os ns es n
  replay_quietly w os ns (Request f x ∷ es) n =
      ap (λ z. replay (far_air m linked t) z es) (requested_quietly w os ns f x n.0) ∙ replay_quietly (requested m w f x) os ns es n.1
  replay_quietly w os ns (Answer g x ∷ es) n = ap (λ z. replay (far_air m linked t) z es) (came_quietly w os ns g x) ∙ replay_quietly (came_back m w x) os ns es n
  replay_quietly w os ns (Clash g x ∷ es) n = ap (λ z. replay (far_air m linked t) z es) (came_quietly w os ns g x) ∙ replay_quietly (came_back m w x) os ns es n

  turns_of_quiet : (w : World L) (os : List (Option F)) (ns : List ℕ) (es : List Event) → NoneHands m w es → AreTurns (quiet_air m) w es → AreTurns (far_air m linked t) (seen linked t w os ns) es
  turns_of_quiet w os ns es n a = turns_of_field m linked t (seen linked t w os ns) es n a

  pub going_quietly : (next : List Note → Next) (old new : Moment (World L)) (notes : List Note) (g : Going (quiet_air m) next old new notes) → NoneHands m old.world g.events
      → (os : List (Option F)) (ns : List ℕ) → Going (far_air m linked t) next (seen_at linked t old os ns) (seen_at linked t new os ns) notes
  going_quietly next old new notes g n os ns = record {
    events = g.events;
    moment = ap (λ a. seen_at linked t a os ns) g.moment
        ∙ ap (λ z. record { world = z; queue = queue_after old.queue g.events; trace = old.trace ++ g.events }) (sym (replay_quietly old.world os ns g.events n));
    turns = turns_of_quiet old.world os ns g.events n g.turns;
    each = g.each;
    fates = g.fates;
    fresh = g.fresh;
    known = g.known;
  }

module _ {L : Type 0} (m : Machine L) (linked : L → Bool) (links : IsLinked m linked) where
  calm_quiet : (f : Signal) → IsCalm m linked f → (ls : List L) → Unlinked m linked ls → EachQuiet m f ls
  calm_quiet f c [] u = tt
  calm_quiet f c (l ∷ ls) u = (by_hearing (hears m l f), calm_quiet f c ls u.1)
    where
      by_hearing : (v : Bool) → (if v then m.handed l f else Untouched) ≡ Untouched
      by_hearing true = c l u.0
      by_hearing false = refl

  unlinked_map : (change : L → L) → ((l : L) → linked l ≡ false → linked (change l) ≡ false) → (ls : List L) → Unlinked m linked ls → Unlinked m linked (map change ls)
  unlinked_map change k [] u = tt
  unlinked_map change k (l ∷ ls) u = (k l u.0, unlinked_map change k ls u.1)

  unlinked_after : (change : L → L) → ((l : L) → linked (change l) ≡ false) → (ls : List L) → Unlinked m linked (map change ls)
  unlinked_after change k [] = tt
  unlinked_after change k (l ∷ ls) = (k l, unlinked_after change k ls)

  unlinked_stepped : (f : Signal) → IsCalm m linked f → (ls : List L) → Unlinked m linked ls → Unlinked m linked (map (λ l. stepped_by m l f None) ls)
  unlinked_stepped f c ls u = unlinked_map (λ l. stepped_by m l f None) one ls u
    where
      one : (l : L) → linked l ≡ false → linked (stepped_by m l f None) ≡ false
      one l e = by_hearing (hears m l f)
        where
          by_hearing : (v : Bool) → linked (if v then m.after l f None else l) ≡ false
          by_hearing true = links.begins l f e (c l e)
          by_hearing false = e

  reset_unlinked : (w : World L) → Unlinked m linked (reset_by m w).listeners
  reset_unlinked w = unlinked_after (λ l. m.woken (m.darkened l)) (λ l. links.light (m.darkened l) (links.dark l)) w.listeners

  came_unlinked : (w : World L) (x : Fate) → Unlinked m linked w.listeners → Unlinked m linked (came_back m w x).listeners
  came_unlinked w Pass u = u
  came_unlinked w Damage u = u
  came_unlinked w Lose u = u
  came_unlinked w Break u = unlinked_after m.darkened links.dark w.listeners

  asked_unlinked : (w : World L) (f : Signal) (x : Fate) → IsCalm m linked f → Unlinked m linked w.listeners → QuietAt m x f w.listeners × Unlinked m linked (requested m w f x).listeners
  asked_unlinked w f Pass c u = (calm_quiet f c w.listeners u, unlinked_stepped f c w.listeners u)
  asked_unlinked w f Damage c u = (tt, u)
  asked_unlinked w f Lose c u = (tt, u)
  asked_unlinked w f Break c u = (tt, unlinked_after m.darkened links.dark w.listeners)

  stay_unlinked : (w : World L) (es : List Event) → Unlinked m linked w.listeners → AreCalm m linked es → StaysUnlinked m linked w es
  stay_unlinked w [] u c = record { none = tt; unlinked = u }
  stay_unlinked w (Reset ∷ es) u c =
      let s = stay_unlinked (reset_by m w) es (reset_unlinked w) c in record { none = s.none; unlinked = s.unlinked }
  stay_unlinked w (Request f x ∷ es) u c =
      let q = asked_unlinked w f x c.0 u in
      let s = stay_unlinked (requested m w f x) es q.1 c.1 in record { none = (q.0, s.none); unlinked = s.unlinked }
  stay_unlinked w (Answer g x ∷ es) u c =
      let s = stay_unlinked (came_back m w x) es (came_unlinked w x u) c in record { none = s.none; unlinked = s.unlinked }
  stay_unlinked w (Clash g x ∷ es) u c =
      let s = stay_unlinked (came_back m w x) es (came_unlinked w x u) c in record { none = s.none; unlinked = s.unlinked }

pub unlinked_stay : {L : Type 0} (m : Machine L) (linked : L → Bool) → UnlinkedStay m linked
unlinked_stay m linked links = (
  λ w es u c. stay_unlinked m linked links w es u c,
  λ w es c. let s = stay_unlinked m linked links (reset_by m w) es (reset_unlinked m linked links w) c in record { none = s.none; unlinked = s.unlinked },
)

pub quiet_stretches : {L F : Type 0} (m : Machine L) (linked : L → Bool) (t : FarTable F) → QuietStretches m linked t
quiet_stretches m linked t links laws w os ns es n = record {
  after = replay_quietly m linked t links laws w os ns es n;
  turns = (quiet_fields m linked t (seen linked t w os ns) es n).turns;
}

pub quiet_goings : {L F : Type 0} (m : Machine L) (linked : L → Bool) (t : FarTable F) → QuietGoings m linked t
quiet_goings m linked t links laws next old new notes g n os ns = going_quietly m linked t links laws next old new notes g n os ns
