-- What is asked of devices that have links and of the far ends above them; and how the world shows a far end.
use Rattle.std.specs.Prelude.{◌≡◌, ℕ, List, [], ◌∷◌, zero, suc, Bool, true, false, Option, Some, None}
use Rattle.nfc_base.specs.Signal.{Signal}
use Rattle.nfc_base.specs.Far.{Untouched, Hands}
use Rattle.nfc_base.specs.Choosing.{Choosing, first_number, later_numbers}
use Rattle.air_core.specs.World.{Machine, World}
use Rattle.air_core.specs.Conversation.{Moment}
use Rattle.far_air.specs.FarEnds.{FarTable, first_far, later_fars, by_link}
use Rattle.far_air.specs.FarWorld.{FarWorld}

-- What is asked of far ends: of one that rests already the same stays; a new link begins the same from what stays; and
-- it leaves what stays as it was.
pub record IsFarTable {F : Type 0} (t : FarTable F) : Type 0 where
  pub twice : (a : F) → t.rested (t.rested a) ≡ t.rested a
  pub anew : (a : F) (general : List ℕ) → t.restarted (t.rested a) general ≡ t.restarted a general
  pub keeps : (a : F) (general : List ℕ) → t.rested (t.restarted a general) ≡ t.rested a

-- What is asked of devices: one that hands a payload over has a link; one without a link has none after a frame at
-- which it hands nothing over, nor after light; and in the dark none has one.
pub record IsLinked {L : Type 0} (m : Machine L) (linked : L → Bool) : Type 0 where
  pub hands : (l : L) (f : Signal) (payload : List ℕ) → m.handed l f ≡ Hands payload → linked l ≡ true
  pub begins : (l : L) (f : Signal) → linked l ≡ false → m.handed l f ≡ Untouched → linked (m.after l f None) ≡ false
  pub light : (l : L) → linked l ≡ false → linked (m.woken l) ≡ false
  pub dark : (l : L) → linked (m.darkened l) ≡ false

-- A far end of the code, whose steps are relations, is one of this table: seen so, each step is the table's, by the
-- next of the numbers that are left to it. A new link takes none.
pub record IsOfTable {A F : Type 0} (restarts : A → List ℕ → A → Type 0) (steps : A → List ℕ → List ℕ → A → Type 0)
    (t : FarTable F) (view : A → Choosing F) : Type 0 where
  pub restart : (a : A) (general : List ℕ) (b : A) → restarts a general b
      → view b ≡ record { end = t.restarted (view a).end general; numbers = (view a).numbers }
  pub reply : (a : A) (payload reply : List ℕ) (b : A) → steps a payload reply b
      → reply ≡ t.reply (view a).end payload (first_number (view a).numbers)
  pub left : (a : A) (payload reply : List ℕ) (b : A) → steps a payload reply b
      → view b ≡ record {
        end = t.left (view a).end payload (first_number (view a).numbers);
        numbers = later_numbers (view a).numbers;
      }

-- far ends, of which that of one place is this
abbrev pub with_far : {F : Type 0} → List (Option F) → ℕ → F → List (Option F)
with_far os zero a = Some a ∷ later_fars os
with_far os (suc place) a = first_far os ∷ with_far (later_fars os) place a

module _ {L F : Type 0} (linked : L → Bool) (t : FarTable F) where
  -- Far ends as the world shows them: the code's ends aren't told that a link is gone.
  abbrev pub shown : List L → List (Option F) → List (Option F)
  shown [] os = []
  shown (l ∷ ls) os = by_link t (linked l) (first_far os) ∷ shown ls (later_fars os)

  -- a field's world with these far ends and numbers
  abbrev pub seen : World L → List (Option F) → List ℕ → FarWorld L F
  seen w os ns = record { field = w; fars = shown w.listeners os; numbers = ns }

  -- a field's moment with them
  abbrev pub seen_at : Moment (World L) → List (Option F) → List ℕ → Moment (FarWorld L F)
  seen_at a os ns = record { world = seen a.world os ns; queue = a.queue; trace = a.trace }

  -- with far ends of which that of one place is this, and the numbers that are left to it
  abbrev pub seen_with : Moment (World L) → List (Option F) → ℕ → Choosing F → Moment (FarWorld L F)
  seen_with a os place far = seen_at a (with_far os place far.end) far.numbers
