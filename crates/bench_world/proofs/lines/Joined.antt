-- The pieces of a line, joined.
use Rattle.std.proofs.Common.{◌≡◌, ℕ, ◌*◌, ◌/◌, ◌%◌, ◌<◌, arith, List, [], ◌∷◌, ◌++◌, length, take, drop, sym, ◌∙◌, ap, append_assoc, append-nil, refl}
use Rattle.std.specs.Prelude.{slice_index, min}
use Rattle.std.specs.List.{flat_map}
use Rattle.std.proofs.lemmas.List.{take-append-drop, length-append}
use Rattle.hex.specs.Hex.{encode_with, encode_upper, upper_digits}
use Rattle.bench_script.specs.Canonical.{hex_text}

pub upper_nil : encode_upper [] ≡ []
unfolding encode_with
upper_nil = refl

-- a line that one piece holds
pub one_piece : (head : List ℕ) → head ++ (encode_upper [] ++ ([] ++ [])) ≡ head
one_piece head = ap (λ x. head ++ (x ++ [])) upper_nil ∙ append-nil head

pub upper-append : (xs ys : List ℕ) → encode_upper (xs ++ ys) ≡ encode_upper xs ++ encode_upper ys
unfolding encode_with
upper-append [] ys = refl
upper-append (b ∷ xs) ys = ap (λ x. slice_index upper_digits (b / 16) ∷ slice_index upper_digits (b % 16) ∷ x) (upper-append xs ys)

-- the digits of a front, and those behind them
pub upper_split : (n : ℕ) (bytes : List ℕ) → encode_upper bytes ≡ encode_upper (take n bytes) ++ encode_upper (drop n bytes)
upper_split n bytes = ap encode_upper (sym (take-append-drop n bytes)) ∙ upper-append (take n bytes) (drop n bytes)

-- a front of what is left is put behind a piece
pub digits_put : (n : ℕ) (left front rest piece piece' whole : List ℕ) → front ≡ take n left → rest ≡ drop n left
    → piece' ≡ piece ++ encode_upper front → piece ++ encode_upper left ≡ whole → piece' ++ encode_upper rest ≡ whole
digits_put n left front rest piece piece' whole first last put is =
    let joined : encode_upper front ++ encode_upper rest ≡ encode_upper left =
    ap (λ x. encode_upper x ++ encode_upper rest) first ∙ ap (λ x. encode_upper (take n left) ++ encode_upper x) last ∙ sym (upper_split n left) in
    ap (λ x. x ++ encode_upper rest) put ∙ append_assoc piece (encode_upper front) (encode_upper rest) ∙ ap (λ x. piece ++ x) joined ∙ is

pub empty_is : {T : Type 0} (xs : List T) → length xs ≡ 0 → xs ≡ []
empty_is [] none = refl
empty_is (x ∷ xs) none = absurd (omega arith)

-- the parts of a line, joined from either end
pub line_parts : (d w h e n : List ℕ) → (d ++ w) ++ (h ++ (e ++ n)) ≡ (d ++ ((w ++ h) ++ e)) ++ n
line_parts d w h e n =
    append_assoc d w (h ++ (e ++ n))
    ∙ sym (append_assoc d ((w ++ h) ++ e) n ∙ ap (λ x. d ++ x) (append_assoc (w ++ h) e n ∙ append_assoc w h (e ++ n)))

-- with a sign before the digits
pub signed_parts : (d w s u e n h head tail : List ℕ) → head ≡ (d ++ w) ++ s → tail ≡ e ++ n → h ≡ s ++ u → head ++ (u ++ tail) ≡ (d ++ ((w ++ h) ++ e)) ++ n
signed_parts d w s u e n h head tail first last is =
    ap (λ x. x ++ (u ++ tail)) first ∙ ap (λ x. ((d ++ w) ++ s) ++ (u ++ x)) last ∙ append_assoc (d ++ w) s (u ++ (e ++ n)) ∙ ap (λ x. (d ++ w) ++ x) (sym (append_assoc s u (e ++ n)))
    ∙ ap (λ x. (d ++ w) ++ (x ++ (e ++ n))) (sym is) ∙ line_parts d w h e n

-- with a number and a list
pub found_parts : (d f c l e n head tail : List ℕ) → head ≡ (d ++ f) ++ c → tail ≡ e ++ n → head ++ (encode_upper [] ++ (l ++ tail)) ≡ (d ++ (((f ++ c) ++ l) ++ e)) ++ n
found_parts d f c l e n head tail first last =
    ap (λ x. head ++ (x ++ (l ++ tail))) upper_nil ∙ ap (λ x. x ++ (l ++ tail)) (first ∙ append_assoc d f c) ∙ ap (λ x. (d ++ (f ++ c)) ++ (l ++ x)) last ∙ line_parts d (f ++ c) l e n

-- with a number and a list that ends the line
pub inbox_parts : (d f c l n head tail : List ℕ) → head ≡ (d ++ f) ++ c → tail ≡ n → head ++ (encode_upper [] ++ (l ++ tail)) ≡ (d ++ ((f ++ c) ++ l)) ++ n
inbox_parts d f c l n head tail first last =
    found_parts d f c l [] n head tail first last ∙ ap (λ x. (d ++ x) ++ n) (append-nil ((f ++ c) ++ l))

-- nothing stands before the rest
pub nothing_before : (head bytes rest : List ℕ) → head ≡ [] → bytes ≡ [] → head ++ (encode_upper bytes ++ rest) ≡ rest
nothing_before head bytes rest none few = ap (λ x. x ++ (encode_upper bytes ++ rest)) none ∙ ap (λ x. encode_upper x ++ rest) few ∙ ap (λ x. x ++ rest) upper_nil

-- the digits of a front are a piece
pub bytes_piece : (head bytes rest piece front back : List ℕ) (n : ℕ) → head ≡ [] → front ≡ take n bytes → back ≡ drop n bytes → piece ≡ encode_upper front
    → head ++ (encode_upper bytes ++ rest) ≡ piece ++ (head ++ (encode_upper back ++ rest))
bytes_piece head bytes rest piece front back n none first then is =
    ap (λ x. x ++ (encode_upper bytes ++ rest)) none ∙ ap (λ x. x ++ rest) (upper_split n bytes)
    ∙ append_assoc (encode_upper (take n bytes)) (encode_upper (drop n bytes)) rest
    ∙ ap (λ x. x ++ (encode_upper (drop n bytes) ++ rest)) (ap encode_upper (sym first) ∙ sym is)
    ∙ ap (λ x. piece ++ (encode_upper x ++ rest)) (sym then)
    ∙ ap (λ x. piece ++ (x ++ (encode_upper back ++ rest))) (sym none)

pub some_digits : (bytes front piece : List ℕ) → length piece ≡ 2 * length front → length front ≡ min (length bytes) 320 → (length bytes ≡ 0 → ⊥) → 0 < length piece
some_digits [] front piece size is some = absurd (some refl)
some_digits (b ∷ bytes) front piece size is some = omega (arith, size, is)

-- what is listed, behind a head and digits of which none are left
pub listed_piece : (head bytes listed tail piece more after : List ℕ) → head ≡ [] → bytes ≡ [] → listed ≡ piece ++ (encode_upper more ++ after)
    → head ++ (encode_upper bytes ++ (listed ++ tail)) ≡ piece ++ (head ++ (encode_upper more ++ (after ++ tail)))
listed_piece head bytes listed tail piece more after none few is =
    nothing_before head bytes (listed ++ tail) none few ∙ ap (λ x. x ++ tail) is ∙ append_assoc piece (encode_upper more ++ after) tail
    ∙ ap (λ x. piece ++ x) (append_assoc (encode_upper more) after tail)
    ∙ ap (λ x. piece ++ (x ++ (encode_upper more ++ (after ++ tail)))) (sym none)

-- what is left at last
pub last_left : (head bytes listed tail : List ℕ) → head ≡ [] → bytes ≡ [] → listed ≡ [] → head ++ (encode_upper bytes ++ (listed ++ tail)) ≡ tail
last_left head bytes listed tail none few gone = nothing_before head bytes (listed ++ tail) none few ∙ ap (λ x. x ++ tail) gone

pub tail_piece : (head bytes listed left tail piece after : List ℕ) → head ≡ [] → bytes ≡ [] → listed ≡ [] → left ≡ [] → piece ≡ tail → after ≡ []
    → head ++ (encode_upper bytes ++ (listed ++ tail)) ≡ piece ++ (head ++ (encode_upper bytes ++ (left ++ after)))
tail_piece head bytes listed left tail piece after none few gone still is over =
    last_left head bytes listed tail none few gone ∙ sym is ∙ sym (append-nil piece) ∙ ap (λ x. piece ++ x) (sym (last_left head bytes left after none few still ∙ over))

-- an item of a list is a piece with its digits
pub item_listed : {T : Type 0} (text : T → List ℕ) (all rest : List T) (x : T) (piece more : List ℕ) → all ≡ x ∷ rest → text x ≡ piece ++ encode_upper more
    → flat_map text all ≡ piece ++ (encode_upper more ++ flat_map text rest)
item_listed text all rest x piece more split is =
    ap (flat_map text) split ∙ ap (λ t. t ++ flat_map text rest) is ∙ append_assoc piece (encode_upper more) (flat_map text rest)

pub bare_listed : {T : Type 0} (text : T → List ℕ) (all rest : List T) (x : T) (piece more : List ℕ) → all ≡ x ∷ rest → piece ≡ text x → more ≡ []
    → flat_map text all ≡ piece ++ (encode_upper more ++ flat_map text rest)
bare_listed text all rest x piece more split is none =
    item_listed text all rest x piece more split (sym is ∙ sym (append-nil piece) ∙ ap (λ t. piece ++ t) (sym (ap encode_upper none ∙ upper_nil)))

pub less_left : (old piece new : List ℕ) → old ≡ piece ++ new → 0 < length piece → length new < length old
less_left old piece new is some = omega (arith, some, ap length is, length-append piece new)

-- no bytes are a dash
pub dash_parts : (bytes text : List ℕ) → bytes ≡ [] → text ≡ 45 ∷ [] → hex_text bytes ≡ text ++ encode_upper bytes
dash_parts bytes text none is =
    let dash : hex_text [] ≡ 45 ∷ encode_upper [] = ap (λ x. 45 ∷ x) (sym upper_nil) in
    ap hex_text none ∙ dash ∙ ap (λ x. (45 ∷ []) ++ encode_upper x) (sym none) ∙ ap (λ x. x ++ encode_upper bytes) (sym is)
