-- Answers of service discovery, as they are put together.
use Rattle.std.specs.Prelude.{◌≡◌, ◌≤◌, ℕ, ◌*◌, ◌==◌, List, [], ◌∷◌, ◌++◌, length, if◌then◌else◌}
use Rattle.llcp_pdu.specs.declared.param.Param.{Param}
use Rattle.llcp_pdu.specs.Ranges.{IsParam, AreParams}
use Rattle.llcp_pdu.specs.Writing.{params_bytes}

-- an answer, of four bytes
abbrev pub IsAnswer : Param → Type 0
IsAnswer p = IsParam p × (length (params_bytes (p ∷ [])) ≡ 4)

-- at most so many answers
pub record AreAnswers (most : ℕ) (ps : List Param) : Type 0 where
  pub few : length ps ≤ most
  pub range : AreParams ps
  pub size : length (params_bytes ps) ≡ 4 * length ps

-- one more, while there are fewer
abbrev pub put_one : ℕ → Param → List Param → List Param
put_one most p ps = if length ps == most then ps else ps ++ p ∷ []
