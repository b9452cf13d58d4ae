-- A resolution over devices at rest, between the first that is idle and the others.
use Rattle.std.specs.Prelude.{◌≡◌, ◌≢◌, ℕ, ◌<◌, ◌≤◌, List, ◌∷◌, ◌++◌, length, drop, true, false, Result, Ok, Err}
use Rattle.nfc_base.specs.Trace.{noise}
use Rattle.air_core.specs.World.{Machine}
use Rattle.air_core.specs.Turn.{Air}
use Rattle.nfca_poll.specs.declared.fault.Picked.{Picked}
use Rattle.nfca_poll.specs.declared.fault.PollFault.{PollFault}
use Rattle.nfca_poll.specs.declared.fault.PollFault.TheVariants.{Nobody, Disturbed, FieldLost, Memory, NotFound, BadAnswer}
use Rattle.nfca_poll.specs.Ident.{IsIdent}
use Rattle.nfca_poll.specs.Front.{Idle, Active}
use Rattle.nfca_poll.specs.Crowd.{Each, Card, ahead, crowd_bits, with_front, is_idle, is_rest, AreOurs, cards}

-- c, between these others, is the first in crowd order of those that are idle. No other one has its identifier, and
-- none is ready or active.
pub record IsFirst (a : List Card) (m : Card) (b : List Card) : Type 0 where
  pub cards : Each (λ c. IsIdent c.id × (is_rest c.front ≡ true)) (a ++ m ∷ b)
  pub idle : m.front ≡ Idle
  pub first : Each (λ c. is_idle c.front ≡ true → ahead (crowd_bits m.id) (crowd_bits c.id) ≡ true) (a ++ m ∷ b)
  pub distinct_before : Each (λ c. c.id ≢ m.id) a
  pub distinct_after : Each (λ c. c.id ≢ m.id) b

-- How a resolution ends whose field has m as the first of its idle devices, between these others, by how many of its
-- transmissions had noise.
abbrev pub EndsThroughNoise : List Card → Card → List Card → Result Picked PollFault → List Card → ℕ → Type 0
EndsThroughNoise a m b (Ok p) v n = (p ≡ record { id = m.id; kind = m.kind }) × (v ≡ a ++ with_front m (Active false) ∷ b)
EndsThroughNoise a m b (Err Nobody) v n = 2 ≤ n
EndsThroughNoise a m b (Err Disturbed) v n = 0 < n
EndsThroughNoise a m b (Err FieldLost) v n = Unit {0}
EndsThroughNoise a m b (Err Memory) v n = Unit {0}
EndsThroughNoise a m b (Err NotFound) v n = ⊥
EndsThroughNoise a m b (Err BadAnswer) v n = ⊥

-- Whatever noise it meets, a resolution picks the first, or none.
abbrev pub PicksThroughNoise : {L : Type 0} {m : Machine L} {identifier : L → List ℕ} → AreOurs m identifier → Air L → Result Picked PollFault → Air L → Type 0
PicksThroughNoise ours old r new =
    (a : List Card) (c : Card) (b : List Card) → cards ours old.listeners ≡ a ++ c ∷ b → IsFirst a c b
    → EndsThroughNoise a c b r (cards ours new.listeners) (noise (drop (length old.trace) new.trace))

-- Where none was idle, ready or active, it finds nobody and leaves all as they were, whatever noise it meets.
abbrev pub EndsAlone : List Card → Result Picked PollFault → List Card → Type 0
EndsAlone w (Ok p) v = ⊥
EndsAlone w (Err Nobody) v = v ≡ w
EndsAlone w (Err Disturbed) v = ⊥
EndsAlone w (Err FieldLost) v = Unit {0}
EndsAlone w (Err Memory) v = Unit {0}
EndsAlone w (Err NotFound) v = ⊥
EndsAlone w (Err BadAnswer) v = ⊥

abbrev pub FindsNobody : {L : Type 0} {m : Machine L} {identifier : L → List ℕ} → AreOurs m identifier → Air L → Result Picked PollFault → Air L → Type 0
FindsNobody ours old r new =
    Each (λ c. (is_rest c.front ≡ true) × (is_idle c.front ≡ false)) (cards ours old.listeners) → EndsAlone (cards ours old.listeners) r (cards ours new.listeners)
