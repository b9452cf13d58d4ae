-- Bytes that writes leave as they were.
use Rattle.std.proofs.Common.{◌≡◌, inl, inr, ℕ, zero, suc, ◌+◌, ◌-◌, ◌<◌, ◌≤◌, ◌==◌, true, false, List, [], ◌∷◌, ◌++◌, length, take, drop, map, refl, sym, ◌∙◌, ap, arith}
use Rattle.std.specs.Prelude.{◌⊎◌, slice_index}
use Rattle.std.specs.List.{AllByRecursion, range_with_len}
use Rattle.std.proofs.lemmas.Bool.{cases_lt, cases_Bool}
use Rattle.std.proofs.lemmas.List.{length-append, length-take-le, get_or_append_left, get_or-append_right, get_or-take, get_or-drop}
use Rattle.tlv_area.specs.Writing.{is_in, SameOutside}
use Rattle.tag_writer.specs.Puts.{Put, put_into, after_puts}
use Rattle.tag_writer.proofs.Places.{length_put}

-- a write whose bytes lie from one address to another, in a store of so many bytes
pub record LiesBetween (from to size : ℕ) (p : Put) : Type 0 where
  pub from' : from ≤ p.at
  pub to' : p.at + length p.bytes ≤ to
  pub within : to ≤ size

abbrev pub IsAside : ℕ → ℕ → ℕ → Type 0
IsAside from to a = (a < from) ⊎ (to ≤ a)

pub same_put : (s : List ℕ) (p : Put) (a : ℕ) → p.at + length p.bytes ≤ length s → IsAside p.at (p.at + length p.bytes) a → slice_index (put_into s p) a ≡ slice_index s a
same_put s p a within aside =
    let front : List ℕ = take p.at s ++ p.bytes in
    let rest : List ℕ = drop (p.at + length p.bytes) s in
    let at : length (take p.at s) ≡ p.at = length-take-le p.at s (omega (arith, within)) in
    let long : length front ≡ p.at + length p.bytes = omega (arith, length-append (take p.at s) p.bytes, at) in
    elim aside [
      | inl before ↦
          get_or_append_left front rest 0 a (omega (arith, long, before))
          ∙ get_or_append_left (take p.at s) p.bytes 0 a (omega (arith, at, before)) ∙ get_or-take p.at s a 0 before
      | inr behind ↦
          get_or-append_right front rest (p.at + length p.bytes) a 0 long behind
          ∙ get_or-drop (p.at + length p.bytes) s (a - (p.at + length p.bytes)) 0
          ∙ ap (λ n. slice_index s n) (let same : p.at + length p.bytes + (a - (p.at + length p.bytes)) ≡ a = omega (arith, behind) in same)
    ]

pub length_puts : (from to : ℕ) (s : List ℕ) (ps : List Put) → AllByRecursion (LiesBetween from to (length s)) ps → length (after_puts s ps) ≡ length s
length_puts from to s [] all = refl
length_puts from to s (p ∷ ps) all =
    let once : length (put_into s p) ≡ length s = length_put s p (omega (arith, all.0.to', all.0.within)) in
    length_puts from to (put_into s p) ps (rw once all.1) ∙ once

pub same_puts : (from to : ℕ) (s : List ℕ) (ps : List Put) (a : ℕ) → AllByRecursion (LiesBetween from to (length s)) ps → IsAside from to a → slice_index (after_puts s ps) a ≡ slice_index s a
same_puts from to s [] a all aside = refl
same_puts from to s (p ∷ ps) a all aside =
    let within : p.at + length p.bytes ≤ length s = omega (arith, all.0.to', all.0.within) in
    let once : length (put_into s p) ≡ length s = length_put s p within in
    let here : IsAside p.at (p.at + length p.bytes) a = elim aside [ inl before ↦ inl (omega (arith, before, all.0.from')) | inr behind ↦ inr (omega (arith, behind, all.0.to')) ] in
    same_puts from to (put_into s p) ps a (rw once all.1) aside ∙ same_put s p a within here

-- an address that isn't in a run of addresses is aside of it
in_run : (from n a : ℕ) → from ≤ a → a < from + n → is_in (range_with_len from n) a ≡ true
in_run from zero a low high = absurd (omega (arith, low, high))
in_run from (suc n) a low high = elim (cases_Bool (from == a)) [
  | inl here ↦ rw here refl
  | inr off ↦
      rw off (in_run (from + 1) n a (let other : (from ≡ a) → ⊥ = λ e. (let yes_ : (from == a) ≡ true = grind (arith, e) in let no_ : true ≡ false = sym yes_ ∙ off in cc) in omega (arith, low, other))
      (omega (arith, high)))
]

pub aside_of : (from n a : ℕ) → is_in (range_with_len from n) a ≡ false → IsAside from (from + n) a
aside_of from n a off = elim (cases_lt a from) [
  | inl before ↦ inl before
  | inr low ↦ elim (cases_lt a (from + n)) [
    | inl high ↦ absurd (let no_ : true ≡ false = sym (in_run from n a low high) ∙ off in cc)
    | inr behind ↦ inr behind
  ]
]

pub outside_puts : (from n : ℕ) (s : List ℕ) (ps : List Put) → AllByRecursion (LiesBetween from (from + n) (length s)) ps → SameOutside (range_with_len from n) s (after_puts s ps)
outside_puts from n s ps all = record {
  size = length_puts from (from + n) s ps all;
  same = λ a off. same_puts from (from + n) s ps a all (aside_of from n a off);
}

-- what holds of each number of a run
pub all_run : {A : Type 0} (P : A → Type 0) (f : ℕ → A) (a n : ℕ) → ((k : ℕ) → a ≤ k → k < a + n → P (f k)) → AllByRecursion P (map f (range_with_len a n))
all_run P f a zero each = tt
all_run P f a (suc n) each = (each a (omega arith) (omega arith), all_run P f (a + 1) n (λ k low high. each k (omega (arith, low)) (omega (arith, high))))
