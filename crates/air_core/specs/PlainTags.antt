-- Tags that take commands as they are sent, alone in a field (NFC Forum Type 2, Type 3 and Type 5 Tag; who hears what
-- is this project's own).
use Rattle.std.specs.Prelude.{◌≡◌, ℕ, zero, suc, List, [], ◌∷◌, ◌++◌, length, Bool, true, false, Some, None}
use Rattle.std.specs.List.{AllByRecursion}
use Rattle.nfc_base.specs.declared.frame.Tech.{Tech}
use Rattle.nfc_base.specs.declared.frame.Tech.TheVariants.{A, V, F}
use Rattle.nfc_base.specs.Signal.{Signal}
use Rattle.nfc_base.specs.Far.{Untouched}
use Rattle.nfc_base.specs.TagLinks.{TagKind, Type2, Type3, Type5, TagStep, plain_state, MayAsk, IsNamedIn}
use Rattle.air_core.specs.Turn.{Air}
use Rattle.air_core.specs.declared.listener.Listener.{Ghosts}

-- the kind of a tag that takes commands as they are sent
abbrev pub plain_kind : Tech → TagKind
plain_kind A = Type2
plain_kind V = Type5
plain_kind F = Type3

module _ {L : Type 0} (k : Ghosts L) where
  -- a listener once it has heard a frame so many times in a row, and once it has heard some frames
  abbrev pub heard_times : L → Signal → ℕ → L
  heard_times l f zero = l
  heard_times l f (suc n) = k.machine.after (heard_times l f n) f None

  abbrev pub reached : L → List Signal → L
  reached l [] = l
  reached l (f ∷ fs) = reached (k.machine.after l f None) fs

  -- what the tag does with a command, by what it holds now
  abbrev pub tag_step : L → Signal → TagStep
  tag_step l f = k.commands l (plain_state (k.store l)) f

  -- A selected tag takes a command: it asks nothing of a far end, what it answers and what it then holds is its step,
  -- which the command heard again repeats, and a tag that answers stays selected.
  pub record Takes (l : L) (f : Signal) : Type 0 where
    pub quiet : k.machine.handed l f ≡ Untouched
    pub answer : k.machine.answer l f None ≡ (tag_step l f).answer
    pub after : plain_state (k.store (k.machine.after l f None)) ≡ (tag_step l f).after
    pub again : k.commands l (tag_step l f).after f ≡ tag_step l f
    pub selected : (g : Signal) → (tag_step l f).answer ≡ Some g → k.is_selected (k.machine.after l f None) ≡ true

  -- A tag that isn't selected passes a command over, and holds what it held.
  pub record PassesOver (l : L) (f : Signal) : Type 0 where
    pub quiet : k.machine.handed l f ≡ Untouched
    pub silent : k.machine.answer l f None ≡ None
    pub store : k.store (k.machine.after l f None) ≡ k.store l
    pub rests : k.is_selected (k.machine.after l f None) ≡ false

  -- A tag of this kind and identifier that takes commands as they are sent: something holds of it, which each frame
  -- keeps that such a tag may be asked; where it holds, the tag takes these frames while it is selected, and passes
  -- them over while it isn't.
  pub record IsPlainTag (kind : TagKind) (identifier : List ℕ) (l : L) : Type 0 where
    pub holds : L → Bool
    pub now : holds l ≡ true
    pub kept : (m : L) (f : Signal) → MayAsk kind identifier f → holds m ≡ true
        → holds (k.machine.after m f None) ≡ true
    pub takes : (m : L) (f : Signal) → MayAsk kind identifier f → holds m ≡ true → k.is_selected m ≡ true → Takes m f
    pub passes : (m : L) (f : Signal) → MayAsk kind identifier f → holds m ≡ true → k.is_selected m ≡ false
        → PassesOver m f

  -- Another listener of the field: no NFC-A device that is ready or selected, and of another identifier.
  pub record IsAside (identifier : List ℕ) (l : L) : Type 0 where
    pub rests : k.machine.tech l ≡ A → (k.is_ready l ≡ false) × (k.is_selected l ≡ false)
    pub other : identifier ≡ k.identifier l → ⊥

  -- Among these listeners one stands at a place, and all others are aside of it.
  pub record IsAlone (identifier : List ℕ) (listeners : List L) (place : ℕ) (l : L) : Type 0 where
    pub before : List L
    pub behind : List L
    pub split : listeners ≡ before ++ l ∷ behind
    pub stands : length before ≡ place
    pub first : AllByRecursion (IsAside identifier) before
    pub later : AllByRecursion (IsAside identifier) behind

  -- At this place of a field a tag stands that is selected, alone, and takes commands as they are sent.
  pub record HasPlainTag (air : Air L) (place : ℕ) : Type 0 where
    pub tag : L
    pub selected : k.is_selected tag ≡ true
    pub alone : IsAlone (k.identifier tag) air.listeners place tag
    pub named : IsNamedIn (k.machine.tech tag) (k.identifier tag)
    pub plain : IsPlainTag (plain_kind (k.machine.tech tag)) (k.identifier tag) tag

  -- the tag may be asked this
  abbrev pub MayTell : L → Signal → Type 0
  MayTell l f = MayAsk (plain_kind (k.machine.tech l)) (k.identifier l) f
