-- A resolution from any start: the NFC-A devices are in any state, and active ones under any machine (NFC Forum Digital
-- Protocol; what a machine above a front does at the calls of a reader is this project's own).
use Rattle.std.specs.Prelude.{◌≡◌, ◌⊎◌, ℕ, ◌<◌, ◌≤◌, List, [], ◌∷◌, ◌++◌, length, drop, Bool, true, false, None, Result}
use Rattle.std.specs.Prelude.{Ok, Err}
use Rattle.nfc_base.specs.declared.frame.Tech.TheVariants.{A}
use Rattle.nfc_base.specs.Signal.{Signal}
use Rattle.nfc_base.specs.Far.{Untouched}
use Rattle.nfc_base.specs.Trace.{noise}
use Rattle.air_core.specs.World.{Machine}
use Rattle.air_core.specs.Turn.{Air}
use Rattle.nfca_poll.specs.declared.kind.Kind.{Kind}
use Rattle.nfca_poll.specs.declared.fault.Picked.{Picked}
use Rattle.nfca_poll.specs.declared.fault.PollFault.{PollFault}
use Rattle.nfca_poll.specs.declared.fault.PollFault.TheVariants.{Nobody, Disturbed, FieldLost, Memory, NotFound}
use Rattle.nfca_poll.specs.declared.fault.PollFault.TheVariants.{BadAnswer}
use Rattle.nfca_poll.specs.Ident.{IsIdent}
use Rattle.nfca_poll.specs.Calls.{Call, Calls, call_of}
use Rattle.nfca_poll.specs.Front.{Front, Off, Idle, Sleep, Ready, Active, home, is_ready, is_active}
use Rattle.nfca_poll.specs.Crowd.{Card, Each, ahead, crowd_bits, is_idle, StepsByFront, AreOurs, AreDistinct, cards}

-- An active listener stays active at a frame, as a card does that took RATS, or a peer that took ATR_REQ: it hands
-- nothing over, says nothing, and shows what it showed before.
pub record StaysActive {L : Type 0} (m : Machine L) (identifier : L → List ℕ) (kind : L → Kind) (front : L → Front)
    (l : L) (f : Signal) : Type 0 where
  pub untouched : m.handed l f ≡ Untouched
  pub silent : m.answer l f None ≡ None
  pub same_front : front (m.after l f None) ≡ front l
  pub same_tech : m.tech (m.after l f None) ≡ m.tech l
  pub same_id : identifier (m.after l f None) ≡ identifier l
  pub same_kind : kind (m.after l f None) ≡ kind l

-- At each call by which a reader polls, an active listener leaves the state Active by the front's table, or stays in
-- it.
abbrev pub YieldsToCalls : {L : Type 0} {m : Machine L} {identifier : L → List ℕ} → AreOurs m identifier → Type 0
YieldsToCalls {L = L} {m = m} {identifier = identifier} ours =
    (l : L) (f : Signal) (c : Call) → m.tech l ≡ A → is_active (ours.front l) ≡ true → call_of f ≡ Calls c
    → StepsByFront m identifier ours.kind ours.front l f ⊎ StaysActive m identifier ours.kind ours.front l f

-- devices in any state, each with an identifier of its own
pub record HaveOwnIdents (w : List Card) : Type 0 where
  pub idents : Each (λ c. IsIdent c.id) w
  pub distinct : AreDistinct w

-- the two lists are of one length, and this holds of each two cards at one place
abbrev pub Pairs : (Card → Card → Type 0) → List Card → List Card → Type 0
Pairs P [] [] = Unit {0}
Pairs P [] (d ∷ ds) = ⊥
Pairs P (c ∷ cs) [] = ⊥
Pairs P (c ∷ cs) (d ∷ ds) = P c d × Pairs P cs ds

-- where a device is at rest, or goes from Ready and Active: off, idle, or asleep, as its star says
abbrev pub home_of : Front → Front
home_of Off = Off
home_of Idle = Idle
home_of Sleep = Sleep
home_of (Ready k starred) = home starred
home_of (Active starred) = home starred

-- a device that has kept its identifier, its kind and its home
pub record Keeps (c d : Card) : Type 0 where
  pub id : d.id ≡ c.id
  pub kind : d.kind ≡ c.kind
  pub home : home_of d.front ≡ home_of c.front

-- this identifier stands before those of the idle devices in crowd order, or is one of them
abbrev pub IsAhead : List ℕ → List Card → Type 0
IsAhead id w = Each (λ d. is_idle d.front ≡ true → ahead (crowd_bits id) (crowd_bits d.id) ≡ true) w

-- A device p was picked among devices w in any state, which are v afterwards.
pub record PicksOne (w : List Card) (p : Picked) (v : List Card) : Type 0 where
  -- each is as before but for its state
  pub kept : Pairs Keeps w v
  -- it is one of them, and active
  pub before : List Card
  pub behind : List Card
  pub place : v ≡ before ++ record { id = p.id; kind = p.kind; front = Active false } ∷ behind
  -- no other one became active, and none is left ready
  pub alone : Pairs (λ c d. is_active d.front ≡ true → (is_active c.front ≡ true) ⊎ (d.id ≡ p.id)) w v
  pub none_ready : Each (λ d. is_ready d.front ≡ false) v
  -- if it was idle, it was the first in crowd order of those that were idle
  pub first : Each (λ c. c.id ≡ p.id → is_idle c.front ≡ true → IsAhead p.id w) w

-- a device that waits to be found: it isn't active, and is idle or goes there
abbrev pub IsWaiting : Card → Type 0
IsWaiting c = (is_active c.front ≡ false) × (home_of c.front ≡ Idle)

-- How a resolution ends among devices w in any state, which are v afterwards, by how many of its transmissions had
-- noise: it picks one of them; it finds nobody only where none waits to be found or two transmissions had noise; it is
-- disturbed only by noise; and it hears no bad answer. Unless the field is lost each device keeps its identifier, its
-- kind and its home.
abbrev pub EndsFromAny : List Card → Result Picked PollFault → List Card → ℕ → Type 0
EndsFromAny w (Ok p) v n = PicksOne w p v
EndsFromAny w (Err Nobody) v n = Pairs Keeps w v × (Each (λ c. IsWaiting c → ⊥) w ⊎ (2 ≤ n))
EndsFromAny w (Err Disturbed) v n = Pairs Keeps w v × (0 < n)
EndsFromAny w (Err FieldLost) v n = Unit {0}
EndsFromAny w (Err Memory) v n = Pairs Keeps w v
EndsFromAny w (Err NotFound) v n = ⊥
EndsFromAny w (Err BadAnswer) v n = ⊥

-- So a call over listeners of this project ends, each with an identifier of its own.
abbrev pub PicksFromAny : {L : Type 0} {m : Machine L} {identifier : L → List ℕ} → AreOurs m identifier → Air L
    → Result Picked PollFault → Air L → Type 0
PicksFromAny ours old r new =
    HaveOwnIdents (cards ours old.listeners) → EndsFromAny (cards ours old.listeners) r (cards ours new.listeners)
    (noise (drop (length old.trace) new.trace))

-- Listeners with this mark have no link, as a card before RATS and a peer before ATR_REQ: at each call by which a
-- reader polls, an active one leaves the state Active by the front's table, and each keeps the mark.
abbrev pub LeavesAtCalls : {L : Type 0} {m : Machine L} {identifier : L → List ℕ} → AreOurs m identifier → (L → Bool)
    → Type 0
LeavesAtCalls {L = L} {m = m} {identifier = identifier} ours unlinked =
    (l : L) (f : Signal) (c : Call) → m.tech l ≡ A → unlinked l ≡ true → call_of f ≡ Calls c
    → (is_active (ours.front l) ≡ true → StepsByFront m identifier ours.kind ours.front l f)
    × (unlinked (m.after l f None) ≡ true)

-- each NFC-A listener among these has the mark
abbrev pub AreUnlinked : {L : Type 0} → Machine L → (L → Bool) → List L → Type 0
AreUnlinked m unlinked ls = Each (λ l. m.tech l ≡ A → unlinked l ≡ true) ls

-- Among listeners without links the device that is picked is active alone, and unless the field is lost none has a link
-- then.
abbrev pub PicksAlone : {L : Type 0} {m : Machine L} {identifier : L → List ℕ} → AreOurs m identifier → (L → Bool)
    → Air L → Result Picked PollFault → Air L → Type 0
PicksAlone {m = m} ours unlinked old r new =
    HaveOwnIdents (cards ours old.listeners) → AreUnlinked m unlinked old.listeners
    → ((r ≡ Err FieldLost) ⊎ AreUnlinked m unlinked new.listeners)
    × ((p : Picked) → r ≡ Ok p → Each (λ d. is_active d.front ≡ true → d.id ≡ p.id) (cards ours new.listeners))
