-- How far ends are shown once their devices have made a step, or the field went dark or was reset.
use Rattle.std.proofs.Common.{◌≡◌, List, [], ◌∷◌, Bool, true, false, if◌then◌else◌, Option, Some, None, refl, sym, ◌∙◌, ap}
use Rattle.std.specs.Prelude.{map}
use Rattle.nfc_base.specs.Signal.{Signal}
use Rattle.nfc_base.specs.Far.{Untouched}
use Rattle.air_core.specs.World.{Machine, hears, hands_over, stepped_by}
use Rattle.far_air.specs.FarEnds.{FarTable, first_far, later_fars, rests, by_link}
use Rattle.far_air.specs.FarLaws.{IsFarTable, IsLinked, shown}

module _ {F : Type 0} (t : FarTable F) (laws : IsFarTable t) where
  pub rests_twice : (o : Option F) → rests t (rests t o) ≡ rests t o
  rests_twice None = refl
  rests_twice (Some a) = ap (λ z. Some z) (laws.twice a)

  pub rests_shown : (v : Bool) (o : Option F) → rests t (by_link t v o) ≡ rests t o
  rests_shown true o = refl
  rests_shown false o = rests_twice o

  -- where no link begins, the end is shown as it would be from the whole one
  pub link_kept : (v w : Bool) (o : Option F) → (v ≡ false → w ≡ false) → by_link t w (by_link t v o) ≡ by_link t w o
  link_kept true w o k = refl
  link_kept false w o k = go w (k refl)
    where
      go : (u : Bool) → u ≡ false → by_link t u (rests t o) ≡ by_link t u o
      go true e = absurd cc
      go false e = rests_twice o

  by_no_link : (v : Bool) (o : Option F) → v ≡ false → by_link t v o ≡ rests t o
  by_no_link true o e = absurd cc
  by_no_link false o e = refl

module _ {L F : Type 0} (m : Machine L) (linked : L → Bool) (t : FarTable F) (links : IsLinked m linked) (laws : IsFarTable t) where
  -- a device without a link has none after a frame at which it hands nothing over, be it of its technology or not
  pub stepped_unlinked : (l : L) (f : Signal) → hands_over m l f ≡ Untouched → linked l ≡ false → linked (stepped_by m l f None) ≡ false
  stepped_unlinked l f q e = by_hearing (hears m l f) q
    where
      by_hearing : (v : Bool) → (if v then m.handed l f else Untouched) ≡ Untouched → linked (if v then m.after l f None else l) ≡ false
      by_hearing true q = links.begins l f e q
      by_hearing false q = e

  -- devices that have no link after something
  shown_after : (change : L → L) → ((l : L) → linked (change l) ≡ false) → (ls : List L) (os : List (Option F))
      → map (rests t) (shown linked t ls os) ≡ shown linked t (map change ls) os
  shown_after change none [] os = refl
  shown_after change none (l ∷ ls) os =
      let o : Option F = first_far os in
      let one : rests t (by_link t (linked l) o) ≡ by_link t (linked (change l)) o =
      rests_shown t laws (linked l) o ∙ sym (by_no_link t laws (linked (change l)) o (none l)) in
      ap (λ x. x ∷ map (rests t) (shown linked t ls (later_fars os))) one
      ∙ ap (λ xs. by_link t (linked (change l)) o ∷ xs) (shown_after change none ls (later_fars os))

  pub shown_dark : (ls : List L) (os : List (Option F)) → map (rests t) (shown linked t ls os) ≡ shown linked t (map m.darkened ls) os
  shown_dark ls os = shown_after m.darkened links.dark ls os

  pub shown_reset : (ls : List L) (os : List (Option F)) → map (rests t) (shown linked t ls os) ≡ shown linked t (map (λ l. m.woken (m.darkened l)) ls) os
  shown_reset ls os = shown_after (λ l. m.woken (m.darkened l)) (λ l. links.light (m.darkened l) (links.dark l)) ls os
