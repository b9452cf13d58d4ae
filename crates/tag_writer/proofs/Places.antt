-- What a write changes of a store, and the k-th of some writes.
use Rattle.std.proofs.Common.{◌≡◌, ℕ, zero, suc, ◌+◌, ◌-◌, ◌<◌, ◌≤◌, List, [], ◌∷◌, ◌++◌, length, take, drop, refl, ◌∙◌, ap, append_assoc, arith}
use Rattle.std.proofs.lemmas.List.{length-append, length-drop, length-take-le, take-append-le, take-take}
use Rattle.tag_writer.specs.Puts.{Put, put_into, after_puts}
use Rattle.tag_writer.specs.Puttings.{signal_at}

pub length_put : (s : List ℕ) (p : Put) → p.at + length p.bytes ≤ length s → length (put_into s p) ≡ length s
length_put s p within =
    let front : length (take p.at s) ≡ p.at = length-take-le p.at s (omega (arith, within)) in
    let rest : length (drop (p.at + length p.bytes) s) ≡ length s - (p.at + length p.bytes) = length-drop (p.at + length p.bytes) s in
    let a : length (put_into s p) ≡ length (take p.at s ++ p.bytes) + length (drop (p.at + length p.bytes) s) = length-append (take p.at s ++ p.bytes) (drop (p.at + length p.bytes) s) in
    let b : length (take p.at s ++ p.bytes) ≡ length (take p.at s) + length p.bytes = length-append (take p.at s) p.bytes in
    omega (arith, within, front, rest, a, b)

-- nothing changes before its address
pub front_put : (n : ℕ) (s : List ℕ) (p : Put) → n ≤ p.at → p.at + length p.bytes ≤ length s → take n (put_into s p) ≡ take n s
front_put n s p before within =
    let front : length (take p.at s) ≡ p.at = length-take-le p.at s (omega (arith, within)) in
    ap (λ xs. take n xs) (append_assoc (take p.at s) p.bytes (drop (p.at + length p.bytes) s))
    ∙ take-append-le n (take p.at s) (p.bytes ++ drop (p.at + length p.bytes) s) (omega (arith, before, front)) ∙ take-take n p.at s before

pub after_append : (s : List ℕ) (ps qs : List Put) → after_puts s (ps ++ qs) ≡ after_puts (after_puts s ps) qs
after_append s [] qs = refl
after_append s (p ∷ ps) qs = after_append (put_into s p) ps qs

-- the k-th of some writes
pub record HasNth (ps : List Put) (k : ℕ) : Type 0 where
  pub p : Put
  pub rest : List Put
  pub split : ps ≡ take k ps ++ p ∷ rest
  pub signal : signal_at ps k ≡ p.command
  pub more : take (k + 1) ps ≡ take k ps ++ p ∷ []

pub nth : (ps : List Put) (k : ℕ) → k < length ps → HasNth ps k
nth [] k low = absurd (omega (arith, low))
nth (p ∷ ps) zero low = record { p = p; rest = ps; split = refl; signal = refl; more = refl }
nth (p ∷ ps) (suc k) low =
    let tail = nth ps k (omega (arith, low)) in
    let next : suc k + 1 ≡ suc (k + 1) = omega arith in
    record {
      p = tail.p;
      rest = tail.rest;
      split = ap (λ xs. p ∷ xs) tail.split;
      signal = tail.signal;
      more = ap (λ n. take n (p ∷ ps)) next ∙ ap (λ xs. p ∷ xs) tail.more;
    }
