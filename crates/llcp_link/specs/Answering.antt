-- What an end does as the far end of a link: it takes a payload, and gives one.
use Rattle.std.specs.Prelude.{◌≡◌, ◌≤◌, ◌⊎◌, ℕ, true, List, length}
use Rattle.llcp_link.specs.Serving.{Serving}
use Rattle.llcp_link.specs.State.{LlcState}
use Rattle.llcp_link.specs.Taking.{brought, taken_from}
use Rattle.llcp_link.specs.Giving.{IsAllowed, gave, given, given_parts, after_giving}
use Rattle.llcp_link.specs.Halting.{IsStuck}
use Rattle.llcp_link.specs.Offering.{LeavesNext}
use Rattle.llcp_link.specs.Kept.{most_payload}

-- A payload with so many PDUs: 0, and each number that isn't allowed, are as many as fit.
pub record Gives {S : Type 0} (m : Serving S) (count : ℕ) (old : LlcState S) (bytes : List ℕ) (new : LlcState S)
    : Type 0 where
  pub bytes_are : bytes ≡ given m count old
  pub left : new ≡ after_giving m count old

-- This number is allowed in a payload, and no larger one is: so many are as many as fit, by 0 and by each number that
-- isn't allowed.
pub record IsMost {S : Type 0} (m : Serving S) (l : LlcState S) (most : ℕ) : Type 0 where
  pub allowed : IsAllowed m l most
  pub larger : (n : ℕ) → IsAllowed m l n → n ≤ most
  pub otherwise : (n : ℕ) → (IsAllowed m l n → ⊥) → given_parts m n l ≡ given_parts m most l

abbrev pub MostLaw : {S : Type 0} → Serving S → Type 0
MostLaw {S} m = (l : LlcState S) → (most : ℕ) × IsMost m l most

-- The end gave none, or some number of PDUs that is allowed in a payload, and as it went on memory was wanting, which
-- left the service so.
pub record HaltsGiving {S : Type 0} (m : Serving S) (old : LlcState S) (s : S) : Type 0 where
  pub front : LlcState S
  pub is_front : (front ≡ old) ⊎ ((n : ℕ) × IsAllowed m old n × (front ≡ (given_parts m n old).llc))
  pub service : LeavesNext m (gave m front) front.service s

-- Memory was wanting as PDUs were given: until a restart payloads are neither taken nor given. What no PDU changes is
-- as it was.
pub record IsStuckGiving {S : Type 0} (m : Serving S) (old new : LlcState S) : Type 0 where
  pub stuck : new.stuck ≡ true
  pub miu : new.miu ≡ old.miu
  pub window : new.window ≡ old.window
  pub bound : new.bound ≡ old.bound
  pub halts : HaltsGiving m old new.service

-- one step: a payload is taken, and one with so many PDUs is given
pub record Answers {S : Type 0} (m : Serving S) (count : ℕ) (old : LlcState S) (payload reply : List ℕ)
    (new : LlcState S) : Type 0 where
  pub gives : Gives m count (taken_from m old payload) reply new
  pub size : length reply ≤ most_payload

-- a step that want of memory left unfinished, as the payload was taken or the reply given
abbrev pub Stops : {S : Type 0} → Serving S → LlcState S → List ℕ → LlcState S → Type 0
Stops m old payload new = IsStuck m old (brought old payload) new ⊎ IsStuckGiving m (taken_from m old payload) new

pub answers_fit : {S : Type 0} (m : Serving S) (count : ℕ) (a : LlcState S) (payload reply : List ℕ) (b : LlcState S)
    → Answers m count a payload reply b → length reply ≤ 2178
answers_fit m count a payload reply b h = h.size
