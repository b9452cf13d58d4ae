-- Bytes that are held in a part of their room.
use Rattle.std.proofs.Common.{◌≡◌, ℕ, ◌+◌, ◌≤◌, List, [], ◌++◌, length, take, drop, ◌-◌, Option, arith, sym, ◌∙◌, ap, subst, append_assoc}
use Rattle.std.specs.Prelude.{IfSome}
use Rattle.std.proofs.Math.Seq.{take-append-add}
use Rattle.std.proofs.lemmas.List.{take-append-le, length-take-le, length-drop, take-take}
use Rattle.nfc_io.specs.Moves.{with_front}
use Rattle.nfc_io.proofs.Moves.{with_front-nil}

-- how long a part of the room is
pub asked_for : (room : List ℕ) (at most : ℕ) → at + most ≤ length room → length (take (at + most - at) (drop at room)) ≡ most
asked_for room at most fits =
    let same : at + most - at ≡ most = omega arith in
    ap (λ k. length (take k (drop at room))) same ∙ length-take-le most (drop at room) (omega (arith, length-drop at room))

-- a read into a part of the room puts its bytes behind those before that part
pub filled : (room buf post rest : List ℕ) (at n len : ℕ) → at ≤ length room → n ≤ length buf → at + n ≤ len
    → take (at + n) (take len ((take at room ++ (buf ++ post)) ++ rest)) ≡ take at room ++ take n buf
filled room buf post rest at n len within fits small =
    let size : length (take at room) ≡ at = length-take-le at room within in
    let order : (take at room ++ (buf ++ post)) ++ rest ≡ take at room ++ (buf ++ (post ++ rest)) =
    append_assoc (take at room) (buf ++ post) rest ∙ ap (λ x. take at room ++ x) (append_assoc buf post rest) in
    take-take (at + n) len _ small ∙ ap (take (at + n)) order ∙ ap (λ k. take (k + n) (take at room ++ (buf ++ (post ++ rest)))) (sym size)
    ∙ take-append-add (take at room) (buf ++ (post ++ rest)) n ∙ ap (λ x. take at room ++ x) (take-append-le n buf (post ++ rest) fits)

-- where a read got nothing, nothing is left behind it either
pub end_at_none : (left left' : Option (List ℕ)) (buf : List ℕ) (n : ℕ) → left ≡ with_front (take n buf) left'
    → (n ≡ 0 → IfSome left (λ bytes. bytes ≡ [])) → n ≡ 0 → IfSome left' (λ bytes. bytes ≡ [])
end_at_none left left' buf n read end none =
    let same : left ≡ left' = read ∙ ap (λ k. with_front (take k buf) left') none ∙ with_front-nil left' in
    subst (λ o. IfSome o (λ bytes. bytes ≡ [])) same (end none)
