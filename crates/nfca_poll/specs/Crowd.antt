-- The crowd: the NFC-A devices of a field as a reader can tell them apart, and their order (ISO/IEC 14443-3; the order
-- is this project's own).
use Rattle.std.specs.Prelude.{◌≡◌, ◌≢◌, ◌⊎◌, ℕ, ◌<◌, ◌≤◌, List, [], ◌∷◌, ◌++◌, length, drop, filter, map, filter_map}
use Rattle.std.specs.Prelude.{Bool, true, false, if◌then◌else◌, Option, Some, None, Result, Ok, Err}
use Rattle.nfc_base.specs.declared.frame.Tech.TheVariants.{A}
use Rattle.nfc_base.specs.Signal.{Signal}
use Rattle.nfc_base.specs.Bits.{bits_of}
use Rattle.nfc_base.specs.Far.{Untouched}
use Rattle.nfc_base.specs.Trace.{noise}
use Rattle.air_core.specs.Joint.{same_tech}
use Rattle.air_core.specs.World.{Machine}
use Rattle.air_core.specs.Turn.{Air}
use Rattle.nfca_poll.specs.declared.kind.Kind.{Kind}
use Rattle.nfca_poll.specs.declared.fault.Picked.{Picked}
use Rattle.nfca_poll.specs.declared.fault.PollFault.{PollFault}
use Rattle.nfca_poll.specs.declared.fault.PollFault.TheVariants.{Nobody, Disturbed, FieldLost, Memory, NotFound}
use Rattle.nfca_poll.specs.declared.fault.PollFault.TheVariants.{BadAnswer}
use Rattle.nfca_poll.specs.Ident.{IsIdent}
use Rattle.nfca_poll.specs.Levels.{levels}
use Rattle.nfca_poll.specs.Calls.{call_of}
use Rattle.nfca_poll.specs.Rounds.{is_same}
use Rattle.nfca_poll.specs.Front.{Front, Off, Idle, Sleep, Ready, Active, front_says, front_next, is_active}

abbrev pub Each : {X : Type 0} → (X → Type 0) → List X → Type 0
Each P [] = Unit {0}
Each P (x ∷ xs) = P x × Each P xs

-- the bits of all levels of an identifier, check bytes included
abbrev pub level_bits_of : List (List ℕ) → List Bool
level_bits_of [] = []
level_bits_of (l ∷ ls) = bits_of l ++ level_bits_of ls

abbrev pub crowd_bits : List ℕ → List Bool
crowd_bits id = level_bits_of (levels id)

-- Crowd order is descending by these bits: the first list stands before the second, or is the same. A missing bit
-- comes after both.
abbrev pub ahead : List Bool → List Bool → Bool
ahead x [] = true
ahead [] (b ∷ y) = false
ahead (true ∷ x) (false ∷ y) = true
ahead (false ∷ x) (true ∷ y) = false
ahead (true ∷ x) (true ∷ y) = ahead x y
ahead (false ∷ x) (false ∷ y) = ahead x y

-- what polling can tell of an NFC-A device
pub record Card : Type 0 where
  pub id : List ℕ
  pub kind : Kind
  pub front : Front

abbrev pub with_front : Card → Front → Card
with_front c front = record { id = c.id; kind = c.kind; front = front }

abbrev pub is_idle : Front → Bool
is_idle Off = false
is_idle Idle = true
is_idle Sleep = false
is_idle (Ready k starred) = false
is_idle (Active starred) = false

-- neither ready nor active
abbrev pub is_rest : Front → Bool
is_rest Off = true
is_rest Idle = true
is_rest Sleep = true
is_rest (Ready k starred) = false
is_rest (Active starred) = false

-- What an NFC-A listener of this project does at a frame, unless it is active: it hands nothing over, and its front
-- steps by the table.
pub record StepsByFront {L : Type 0} (m : Machine L) (identifier : L → List ℕ) (kind : L → Kind) (front : L → Front)
    (l : L) (f : Signal) : Type 0 where
  pub untouched : m.handed l f ≡ Untouched
  pub says : m.answer l f None ≡ front_says (levels (identifier l)) (kind l) (front l) (call_of f)
  pub goes : front (m.after l f None) ≡ front_next (levels (identifier l)) (front l) (call_of f)
  pub same_tech : m.tech (m.after l f None) ≡ m.tech l
  pub same_id : identifier (m.after l f None) ≡ identifier l
  pub same_kind : kind (m.after l f None) ≡ kind l

-- Listeners of this project: each NFC-A one has a front, and what it is once it is selected.
pub record AreOurs {L : Type 0} (m : Machine L) (identifier : L → List ℕ) : Type 0 where
  pub kind : L → Kind
  pub front : L → Front
  pub steps : (l : L) (f : Signal) → m.tech l ≡ A → is_active (front l) ≡ false
      → StepsByFront m identifier kind front l f

module _ {L : Type 0} {m : Machine L} {identifier : L → List ℕ} (ours : AreOurs m identifier) where
  abbrev pub card_of : L → Card
  card_of l = record { id = identifier l; kind = ours.kind l; front = ours.front l }

  abbrev pub card_if : L → Option Card
  card_if l = if same_tech (m.tech l) A then Some (card_of l) else None

  -- the NFC-A devices, in the order of placing
  abbrev pub cards : List L → List Card
  cards ls = filter_map card_if ls

-- no two of these have one identifier
abbrev pub AreDistinct : List Card → Type 0
AreDistinct [] = Unit {0}
AreDistinct (c ∷ cs) = Each (λ d. d.id ≢ c.id) cs × AreDistinct cs

-- a crowd at rest: each has an identifier of its own, and none is ready or active
pub record IsCrowd (w : List Card) : Type 0 where
  pub cards : Each (λ c. IsIdent c.id × (is_rest c.front ≡ true)) w
  pub distinct : AreDistinct w

-- what a reader can tell of a device
abbrev pub picked_of : Card → Picked
picked_of c = record { id = c.id; kind = c.kind }

-- a device at its place in crowd order
abbrev pub put_by : Picked → List Picked → List Picked
put_by p [] = p ∷ []
put_by p (q ∷ qs) = if ahead (crowd_bits p.id) (crowd_bits q.id) then p ∷ q ∷ qs else q ∷ put_by p qs

-- the crowd: the devices in crowd order
abbrev pub crowd : List Card → List Picked
crowd [] = []
crowd (c ∷ cs) = put_by (picked_of c) (crowd cs)

-- The first of the crowd of those that are idle, or nobody.
abbrev pub first_picked : List Picked → Result Picked PollFault
first_picked [] = Err Nobody
first_picked (p ∷ ps) = Ok p

abbrev pub first_idle : List Card → Result Picked PollFault
first_idle w = first_picked (crowd (filter (λ c. is_idle c.front) w))

-- the devices once this one is active, all others being as they were
abbrev pub with_active : List ℕ → List Card → List Card
with_active id w = map (λ c. if is_same c.id id then with_front c (Active false) else c) w

abbrev pub left_by : Result Picked PollFault → List Card → List Card
left_by (Ok p) w = with_active p.id w
left_by (Err f) w = w

-- How a resolution ends among devices at rest, which are v afterwards, by how many of its transmissions had noise: it
-- picks the first that is idle, and nobody where none is; it misses that one only by noise, and it hears no bad answer.
abbrev pub EndsByFirst : List Card → Result Picked PollFault → List Card → ℕ → Type 0
EndsByFirst w (Ok p) v n = (first_idle w ≡ Ok p) × (v ≡ with_active p.id w)
EndsByFirst w (Err Nobody) v n = ((first_idle w ≡ Err Nobody) × (v ≡ w)) ⊎ (2 ≤ n)
EndsByFirst w (Err Disturbed) v n = (first_idle w ≢ Err Nobody) × (0 < n)
EndsByFirst w (Err FieldLost) v n = Unit {0}
EndsByFirst w (Err Memory) v n = Unit {0}
EndsByFirst w (Err NotFound) v n = ⊥
EndsByFirst w (Err BadAnswer) v n = ⊥

module _ {L : Type 0} {m : Machine L} {identifier : L → List ℕ} (ours : AreOurs m identifier) where
  -- Where no noise was met and memory wasn't wanting, the first that was idle is picked, or nobody is there.
  abbrev pub PicksFirst : Air L → Result Picked PollFault → Air L → Type 0
  PicksFirst old r new =
      IsCrowd (cards ours old.listeners) → noise (drop (length old.trace) new.trace) ≡ 0
      → (r ≡ Err Memory) ⊎ ((r ≡ first_idle (cards ours old.listeners))
      × (cards ours new.listeners ≡ left_by r (cards ours old.listeners)))

  -- whatever noise it meets
  abbrev pub PicksFromRest : Air L → Result Picked PollFault → Air L → Type 0
  PicksFromRest old r new =
      IsCrowd (cards ours old.listeners) → EndsByFirst (cards ours old.listeners) r (cards ours new.listeners)
      (noise (drop (length old.trace) new.trace))
