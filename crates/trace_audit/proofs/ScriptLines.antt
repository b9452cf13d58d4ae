-- The first line of a script.
use Rattle.std.proofs.Common.{◌≡◌, ◌≢◌, ℕ, ◌<◌, List, [], ◌∷◌, ◌++◌, length, sym, ◌∙◌, ap, arith}
use Rattle.std.specs.List.{All}
use Rattle.std.proofs.lemmas.List.{length-append}
use Rattle.nfc_io.specs.Lines.{lines_of, NoLf}
use Rattle.nfc_io.proofs.Lines.{lines_front, lines_last}

pub no_lf : (l : List ℕ) → All (λ b. b ≢ 10) l → NoLf l
no_lf l none = λ k small. none k 0 small

pub line_front : (script line rest : List ℕ) → script ≡ line ++ 10 ∷ rest → All (λ b. b ≢ 10) line → lines_of script ≡ line ∷ lines_of rest
line_front script line rest e none = ap lines_of e ∙ lines_front line rest (no_lf line none)

pub front_shorter : (script line rest : List ℕ) → script ≡ line ++ 10 ∷ rest → length rest < length script
front_shorter script line rest e = omega (arith, ap length e, length-append line (10 ∷ rest))

pub line_last : (script rest : List ℕ) → All (λ b. b ≢ 10) script → 0 < length script → rest ≡ [] → lines_of script ≡ script ∷ lines_of rest
line_last script rest none some e = lines_last script (no_lf script none) some ∙ ap (λ r. script ∷ lines_of r) (sym e)
