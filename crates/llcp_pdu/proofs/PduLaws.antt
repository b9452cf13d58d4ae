-- The PDUs in an AGF, one after the other.
use Rattle.std.proofs.Common.{◌≡◌, ◌≤◌, ℕ, ◌+◌, ◌*◌, nat_lt, false, List, [], ◌∷◌, ◌++◌, length, take, drop, Result, Ok, Err, refl, sym, ◌∙◌, ap, subst, arith, length-take, slice_index_or}
use Rattle.std.proofs.lemmas.List.{take-append-drop}
use Rattle.llcp_pdu.specs.declared.fault.Refusal.{Refusal}
use Rattle.llcp_pdu.specs.declared.part.Part.{Part}
use Rattle.llcp_pdu.proofs.ParamLaws.{before}
use Rattle.llcp_pdu.specs.Parts.{part}
use Rattle.llcp_pdu.specs.Pdus.{joined, inner}
use Rattle.llcp_pdu.proofs.ParamLaws.{not_lt, before_more, before_err}

-- bytes that are passed over
pub inner_skip : (xs rest : List ℕ) (at : ℕ) → inner (xs ++ rest) (length xs) at ≡ inner rest 0 (at + length xs)
inner_skip [] rest at = let e : at + 0 ≡ at = omega arith in rw e refl
inner_skip (x ∷ xs) rest at =
    inner_skip xs rest (at + 1) ∙ (let e : at + 1 + length xs ≡ at + length (x ∷ xs) = omega arith in rw e refl)

pub inner_behind : (n : ℕ) (xs : List ℕ) (at : ℕ) → n ≤ length xs → inner xs n at ≡ inner (drop n xs) 0 (at + n)
inner_behind n xs at h =
    let l : length (take n xs) ≡ n = omega (arith, length-take {A = ℕ}) in
    subst (λ z. inner xs z at ≡ inner (drop n xs) 0 (at + z)) l
    (subst (λ z. inner z (length (take n xs)) at ≡ inner (drop n xs) 0 (at + length (take n xs))) (take-append-drop n xs)
    (inner_skip (take n xs) (drop n xs) at))

-- the first PDU in front of those behind it
pub inner_split : (xs one tail : List ℕ) (at n : ℕ) → 2 ≤ length xs → n ≡ 256 * slice_index_or xs 0 0 + slice_index_or xs 1 0 → n ≤ length (drop 2 xs) → one ≡ take n (drop 2 xs)
    → tail ≡ drop n (drop 2 xs)
    → inner xs 0 at ≡ joined (part one (at + 2)) (inner tail 0 (at + 2 + length one))
inner_split [] one tail at n h size fits o t = absurd (omega arith)
inner_split (x ∷ []) one tail at n h size fits o t = absurd (omega arith)
inner_split (x ∷ y ∷ rest) one tail at n h size fits o t =
    let l : nat_lt (length rest) n ≡ false = not_lt (length rest) n fits in
    let m : length one ≡ n = ap length o ∙ (let z : length (take n rest) ≡ n = omega (arith, length-take {A = ℕ}) in z) in
    rw (← size, l, ← o) (ap (joined (part one (at + 2))) (inner_behind n rest (at + 2) fits ∙ rw (← t, m) refl))

pub inner_none : (xs : List ℕ) (at : ℕ) → length xs ≡ 0 → inner xs 0 at ≡ Ok []
inner_none [] at h = refl
inner_none (x ∷ xs) at h = absurd (omega arith)

-- one more PDU was read
pub inner_more : (ps : List Part) (p : Part) (found : List Part) (whole rest : Result (List Part) Refusal) (one : Result Part Refusal) (behind : List ℕ) (n m : ℕ)
    → whole ≡ before ps rest → rest ≡ joined one (inner behind 0 n) → one ≡ Ok p → found ≡ ps ++ p ∷ [] → n ≡ m → whole ≡ before found (inner behind 0 m)
inner_more ps p found whole rest one behind n m e i o f q =
    e ∙ ap (before ps) (i ∙ ap (λ z. joined z (inner behind 0 n)) o) ∙ sym (before_more ps p (inner behind 0 n)) ∙ ap (λ z. before z (inner behind 0 n)) (sym f)
    ∙ ap (λ z. before found (inner behind 0 z)) q

-- where one is refused, the whole is
pub inner_refused : (ps : List Part) (whole rest behind : Result (List Part) Refusal) (one : Result Part Refusal) (r : Refusal)
    → whole ≡ before ps rest → rest ≡ joined one behind → one ≡ Err r → whole ≡ Err r
inner_refused ps whole rest behind one r e i o = e ∙ ap (before ps) (i ∙ ap (λ z. joined z behind) o) ∙ before_err ps r
