-- A text that begins with the pieces of another.
use Rattle.std.proofs.Common.{◌≡◌, ℕ, List, ◌++◌, length, take, drop, append_assoc, true, false, nat_eq, sym, ◌∙◌, ap}
use Rattle.std.specs.Cmp.Lexicographic.{pointwise, same_text, other_text}
use Rattle.std.proofs.lemmas.List.{take-append-drop, append_cancel_left}
use Rattle.std.proofs.Math.Seq.{take-append_seam}

-- it begins with a piece
pub stripped : (left piece rest : List ℕ) → pointwise nat_eq (take (length piece) left) piece ≡ true → rest ≡ drop (length piece) left → left ≡ piece ++ rest
stripped left piece rest same behind =
    sym (take-append-drop (length piece) left) ∙ ap (λ x. x ++ drop (length piece) left) (same_text (take (length piece) left) piece (sym same)) ∙ ap (λ x. piece ++ x) (sym behind)

-- ... or not
pub unstripped : (left piece more : List ℕ) → pointwise nat_eq (take (length piece) left) piece ≡ false → left ≡ piece ++ more → ⊥
unstripped left piece more other is =
    other_text (take (length piece) left) piece (sym other) (ap (take (length piece)) is ∙ take-append_seam piece more)

module _ (left piece pieces behind rest more : List ℕ) (gives : pieces ≡ piece ++ behind) where
  -- what stands behind a piece begins with the pieces behind it, where all begins with all of them, ...
  pub pieces_on : left ≡ piece ++ rest → rest ≡ behind ++ more → left ≡ pieces ++ more
  pieces_on strip on = strip ∙ ap (λ x. piece ++ x) on ∙ sym (append_assoc piece behind more) ∙ ap (λ x. x ++ more) (sym gives)

  -- ... and else it doesn't
  pub pieces_back : left ≡ piece ++ rest → left ≡ pieces ++ more → rest ≡ behind ++ more
  pieces_back strip all = append_cancel_left piece rest (behind ++ more) (sym strip ∙ all ∙ ap (λ x. x ++ more) gives ∙ append_assoc piece behind more)

  pub piece_first : left ≡ pieces ++ more → left ≡ piece ++ (behind ++ more)
  piece_first all = all ∙ ap (λ x. x ++ more) gives ∙ append_assoc piece behind more
