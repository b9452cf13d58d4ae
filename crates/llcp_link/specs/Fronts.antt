-- What the payloads that an end may give have in common, for who reads frames back.
use Rattle.std.specs.Prelude.{◌≡◌, ◌≤◌, ℕ, suc, List, ◌∷◌, ◌++◌, true}
use Rattle.llcp_link.specs.Serving.{Serving}
use Rattle.llcp_link.specs.State.{LlcState}
use Rattle.llcp_link.specs.Giving.{IsAllowed, given}

-- these bytes begin those, and there are more
pub record IsProperPrefix (few many : List ℕ) : Type 0 where
  pub byte : ℕ
  pub more : List ℕ
  pub is : many ≡ few ++ byte ∷ more

-- Of two PDUs or more in one payload: one PDU more is allowed only where they are, and adds bytes behind them.
abbrev pub FrontLaw : {S : Type 0} → Serving S → Type 0
FrontLaw {S} m =
    (l : LlcState S) (n : ℕ) → l.readable ≡ true → 2 ≤ n → IsAllowed m l (suc n)
    → IsAllowed m l n × IsProperPrefix (given m n l) (given m (suc n) l)

-- The payload of one PDU begins none of several.
abbrev pub AloneLaw : {S : Type 0} → Serving S → Type 0
AloneLaw {S} m =
    (l : LlcState S) (n : ℕ) → l.readable ≡ true → 2 ≤ n → IsAllowed m l n → IsProperPrefix (given m 1 l) (given m n l)
    → ⊥
