-- What a listener asks of the far end above its link, and what the far end does.
use Rattle.std.specs.Prelude.{◌≡◌, ℕ, ◌≤◌, List, [], length, Option, Some, None}
use Rattle.std.proofs.Common.{arith}

-- nothing, a new link with these general bytes of the other end, or a payload to answer
pub data FarUse : Type 0 where
  Untouched : FarUse
  Restarts : List ℕ → FarUse
  Hands : List ℕ → FarUse

-- The far end did what was asked of it, and this is its reply, where it gave one. A reply has at most 2,178 bytes.
abbrev pub FarDid : {A : Type 0} → (A → List ℕ → A → Type 0) → (A → List ℕ → List ℕ → A → Type 0) → FarUse → A
    → Option (List ℕ) → A → Type 0
FarDid restarts steps Untouched old reply new = (new ≡ old) × (reply ≡ None)
FarDid restarts steps (Restarts general) old reply new = restarts old general new × (reply ≡ None)
FarDid restarts steps (Hands payload) old reply new =
    (r : List ℕ) × steps old payload r new × (length r ≤ 2178) × (reply ≡ Some r)

-- an empty reply does
pub empty_fits : (reply : List ℕ) → reply ≡ [] → length reply ≤ 2178
empty_fits reply e = rw e (omega arith)
