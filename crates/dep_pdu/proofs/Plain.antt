-- Frames without general bytes.
use Rattle.std.proofs.Common.{◌≡◌, ℕ, ◌+◌, ◌<◌, List, [], ◌∷◌, length, false, Some, None, ap, subst, arith}
use Rattle.dep_pdu.specs.declared.frame.DepFrame.{DepFrame}
use Rattle.dep_pdu.specs.Numbers.{start_byte}
use Rattle.dep_pdu.specs.Spelling.{LeftOpen, body, framed, IsDepFrame, general_of, DepSpelling}
use Rattle.dep_pdu.specs.Refusal.{dep_refusal}
use Rattle.dep_pdu.proofs.Named.{start_of, len_of}

nothing_open : LeftOpen
nothing_open = record { bs = 0; br = 0; marked = false }

-- What these bytes are the body of, in a frame without general bytes, is what they spell.
pub plainly : (w : DepFrame) (s l d c : ℕ) (rest : List ℕ) → dep_refusal (s ∷ l ∷ d ∷ c ∷ rest) ≡ None → IsDepFrame w → general_of w ≡ [] → ((o : LeftOpen) → d ∷ c ∷ rest ≡ body o w)
    → (v : DepFrame) → Some w ≡ Some v → DepSpelling v (s ∷ l ∷ d ∷ c ∷ rest)
plainly w s l d c rest clean range general is v same =
    let start : s ≡ start_byte = start_of s l d c rest clean in
    let len : l ≡ length (d ∷ c ∷ rest) + 1 = len_of s l d c rest clean in
    let P : List ℕ → Type 0 = λ x. s ∷ l ∷ d ∷ c ∷ rest ≡ framed x in
    let e : w ≡ v = cc in
    subst (λ v. DepSpelling v (s ∷ l ∷ d ∷ c ∷ rest)) e (record {
      range = range;
      open_bytes = nothing_open;
      announced = λ (more : 0 < length (general_of w)). absurd (let z : length (general_of w) ≡ 0 = ap length general in omega (arith, more, z));
      bytes = subst P (is nothing_open) (let t : s ∷ l ∷ d ∷ c ∷ rest ≡ start_byte ∷ (length (d ∷ c ∷ rest) + 1) ∷ d ∷ c ∷ rest = cc in t);
    })
