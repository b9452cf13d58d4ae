-- The first bridge: where no device hands anything over, a stretch of the world with far ends is one of the quiet air,
-- and the far ends stay.
use Rattle.std.specs.Prelude.{◌≡◌, ◌↔◌, ℕ, List, [], ◌∷◌, Bool, false, Option}
use Rattle.std.specs.List.{AllByRecursion}
use Rattle.nfc_base.specs.declared.event.Event.{Event}
use Rattle.nfc_base.specs.declared.event.Event.TheVariants.{Reset, Request, Answer, Clash}
use Rattle.nfc_base.specs.declared.event.Fate.{Fate}
use Rattle.nfc_base.specs.declared.event.Fate.TheVariants.{Pass, Damage, Lose, Break}
use Rattle.nfc_base.specs.Signal.{Signal}
use Rattle.nfc_base.specs.Far.{Untouched}
use Rattle.air_core.specs.World.{Machine, World, reset_by, requested, came_back, quiet_air}
use Rattle.air_core.specs.Conversation.{Moment, Note, Next, Going, AreTurns, replay}
use Rattle.air_core.specs.Quiet.{EachQuiet}
use Rattle.far_air.specs.FarEnds.{FarTable}
use Rattle.far_air.specs.FarWorld.{FarWorld, with_numbers, far_air}
use Rattle.far_air.specs.FarLaws.{IsFarTable, IsLinked, seen, seen_at}

module _ {L : Type 0} (m : Machine L) where
  -- a request of this fate reaches no device that hands anything over
  abbrev pub QuietAt : Fate → Signal → List L → Type 0
  QuietAt Pass f ls = EachQuiet m f ls
  QuietAt Damage f ls = Unit {0}
  QuietAt Lose f ls = Unit {0}
  QuietAt Break f ls = Unit {0}

  -- From this world on no device hands anything over in these events.
  abbrev pub NoneHands : World L → List Event → Type 0
  NoneHands w [] = Unit {0}
  NoneHands w (Reset ∷ es) = NoneHands (reset_by m w) es
  NoneHands w (Request f x ∷ es) = QuietAt x f w.listeners × NoneHands (requested m w f x) es
  NoneHands w (Answer g x ∷ es) = NoneHands (came_back m w x) es
  NoneHands w (Clash g x ∷ es) = NoneHands (came_back m w x) es

  module _ (linked : L → Bool) where
    -- none of these devices has a link
    abbrev pub Unlinked : List L → Type 0
    Unlinked ls = AllByRecursion (λ l. linked l ≡ false) ls

    -- at this frame no device hands anything over that has no link
    abbrev pub IsCalm : Signal → Type 0
    IsCalm f = (l : L) → linked l ≡ false → m.handed l f ≡ Untouched

    -- each request of these events is such a frame
    abbrev pub AreCalm : List Event → Type 0
    AreCalm [] = Unit {0}
    AreCalm (Reset ∷ es) = AreCalm es
    AreCalm (Request f x ∷ es) = IsCalm f × AreCalm es
    AreCalm (Answer g x ∷ es) = AreCalm es
    AreCalm (Clash g x ∷ es) = AreCalm es

    -- Behind a reset, as long as only such frames are sent, no device has a link, so none hands anything over.
    pub record StaysUnlinked (w : World L) (es : List Event) : Type 0 where
      pub none : NoneHands w es
      pub unlinked : Unlinked (replay (quiet_air m) w es).listeners

    abbrev pub UnlinkedStay : Type 0
    UnlinkedStay = IsLinked m linked
        → ((w : World L) (es : List Event) → Unlinked w.listeners → AreCalm es → StaysUnlinked w es)
        × ((w : World L) (es : List Event) → AreCalm es → StaysUnlinked w (Reset ∷ es))

module _ {L F : Type 0} (m : Machine L) (linked : L → Bool) (t : FarTable F) where
  -- Whatever the far ends are: a stretch does to the field what it does on the quiet air, and which numbers there are
  -- decides nothing.
  pub record DoesQuietly (w : FarWorld L F) (es : List Event) : Type 0 where
    pub field : (replay (far_air m linked t) w es).field ≡ replay (quiet_air m) w.field es
    pub turns : AreTurns (far_air m linked t) w es ↔ AreTurns (quiet_air m) w.field es
    pub numbers : (ns : List ℕ) → replay (far_air m linked t) (with_numbers w ns) es
        ≡ with_numbers (replay (far_air m linked t) w es) ns

  abbrev pub QuietFields : Type 0
  QuietFields = (w : FarWorld L F) (es : List Event) → NoneHands m w.field es → DoesQuietly w es

  -- A stretch is one of the quiet air; it leads to the same field, and the code's far ends and the numbers are as
  -- before.
  pub record IsQuietStretch (w : World L) (os : List (Option F)) (ns : List ℕ) (es : List Event) : Type 0 where
    pub after : replay (far_air m linked t) (seen linked t w os ns) es ≡ seen linked t (replay (quiet_air m) w es) os ns
    pub turns : AreTurns (far_air m linked t) (seen linked t w os ns) es ↔ AreTurns (quiet_air m) w es

  abbrev pub QuietStretches : Type 0
  QuietStretches = IsLinked m linked → IsFarTable t
      → (w : World L) (os : List (Option F)) (ns : List ℕ) (es : List Event) → NoneHands m w es
      → IsQuietStretch w os ns es

  -- So what a conversation over the quiet air did, it did over this one.
  abbrev pub QuietGoings : Type 0
  QuietGoings = IsLinked m linked → IsFarTable t
      → (next : List Note → Next) (old new : Moment (World L)) (notes : List Note)
      (g : Going (quiet_air m) next old new notes)
      → NoneHands m old.world g.events → (os : List (Option F)) (ns : List ℕ)
      → Going (far_air m linked t) next (seen_at linked t old os ns) (seen_at linked t new os ns) notes
