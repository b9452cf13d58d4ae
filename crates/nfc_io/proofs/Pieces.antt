-- A piece of a list, and what is left after it.
use Rattle.std.proofs.Common.{◌≡◌, ℕ, ◌+◌, ◌++◌, List, length, take, drop, arith, ap, ◌∙◌, sym}
use Rattle.std.specs.List.{slice_range}
use Rattle.std.proofs.lemmas.List.Folds.{drop_split}
use Rattle.std.proofs.lemmas.Grind.{common_steps}

-- what was left is the piece copied to the front of a buffer, and what is left after it
pub piece : (content copied rest : List ℕ) (at n : ℕ) → copied ≡ slice_range content at (at + n) → length copied ≡ n → drop at content ≡ take n (copied ++ rest) ++ drop (at + n) content
piece content copied rest at n is len =
    let front : take n (copied ++ rest) ≡ copied = grind (arith, common_steps) in
    let whole : drop at content ≡ slice_range content at (at + n) ++ drop (at + n) content = drop_split content at (at + n) (omega arith) in
    whole ∙ ap (λ x. x ++ drop (at + n) content) (sym is ∙ sym front)
