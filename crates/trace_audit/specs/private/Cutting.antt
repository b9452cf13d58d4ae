-- Where a text is cut.
use Rattle.std.specs.Prelude.{◌≡◌, ◌≢◌, ℕ, ◌<◌, List, [], ◌∷◌, ◌++◌, length}
use Rattle.std.specs.Borrow.{Bor}
use Rattle.std.specs.List.{All}
use Rattle.nfc_io.specs.Lines.{lines_of}

-- these stand before and behind the first such byte of a text
abbrev pub IsCutAt : ℕ → List ℕ → Bor (List ℕ) × Bor (List ℕ) → Type 0
IsCutAt byte text x = (text ≡ x.0.now ++ byte ∷ x.1.now) × All (λ b. b ≢ byte) x.0.now

-- the first line with its LF, and what stands behind
abbrev pub IsFirstLine : List ℕ → Bor (List ℕ) × Bor (List ℕ) → Type 0
IsFirstLine text x = (body : List ℕ) × (x.0.now ≡ body ++ 10 ∷ []) × All (λ b. b ≢ 10) body
    × (text ≡ x.0.now ++ x.1.now)

-- The first line of a script, and what stands behind it.
pub record IsNextLine (script : List ℕ) (x : Bor (List ℕ) × Bor (List ℕ)) : Type 0 where
  pub lines : lines_of script ≡ x.0.now ∷ lines_of x.1.now
  pub shorter : length x.1.now < length script
