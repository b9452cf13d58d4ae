use Rattle.std.proofs.Common.{◌≡◌, ℕ, ◌<◌, ◌/◌, ◌%◌, ◌^◌, ◌*◌, List, [], ◌∷◌, ◌++◌, take, get_or, ◌==◌, false, sym, subst, ◌∙◌, ap, arith, rules}
use Rattle.std.proofs.lemmas.Grind.{common_steps}
use Rattle.nfc_base.specs.Signal.{IsBadTail}
use Rattle.air_core.proofs.FirstBits.{packed_part, mask, held_tail}
use Rattle.air_core.proofs.bits.first_bits.Goals as goal

pub unwrap-requires-3 : goal.unwrap-requires-3
unwrap-requires-3 c =
    let bytes : List ℕ = c.args.frame.now.bytes in
    let t : ℕ = c.args.n % 8 in
    let small : t < 8 = omega arith in
    let own : c.deref.result.now ≡ take (c.args.n / 8) bytes ++ (get_or bytes (c.args.n / 8) 0 % (1 * 2 ^ t % 256)) ∷ [] = grind (arith, common_steps) in
    let cut : c.deref.result.now ≡ take (c.args.n / 8) bytes ++ (get_or bytes (c.args.n / 8) 0 % 2 ^ t) ∷ [] =
    own ∙ ap (λ p. take (c.args.n / 8) bytes ++ (get_or bytes (c.args.n / 8) 0 % p) ∷ []) (mask t small) in
    let P : List ℕ → Type 0 = λ xs. IsBadTail xs t → ⊥ in
    c.part.ensures.fits.1 (omega arith, subst P (sym cut) (held_tail (take (c.args.n / 8) bytes) (get_or bytes (c.args.n / 8) 0) t small))

pub returns-clause-bytes : goal.returns-clause-bytes
returns-clause-bytes c =
    let bytes : List ℕ = c.args.frame.now.bytes in
    let n : ℕ = c.args.n in
    let t : ℕ = n % 8 in
    let fits : (i : ℕ) → get_or bytes i 0 < 256 = search rules in
    let part : (n % 8 == 0) ≡ false = grind arith in
    let small : t < 8 = omega arith in
    let own : c.deref.result.now ≡ take (n / 8) bytes ++ (get_or bytes (n / 8) 0 % (1 * 2 ^ t % 256)) ∷ [] = grind (arith, common_steps) in
    let whole : c.unwrap-3.result.bytes ≡ take (n / 8) bytes ++ (get_or bytes (n / 8) 0 % (1 * 2 ^ t % 256)) ∷ [] = grind (arith, common_steps) in
    whole ∙ ap (λ p. take (n / 8) bytes ++ (get_or bytes (n / 8) 0 % p) ∷ []) (mask t small) ∙ sym (packed_part bytes n fits c.requires part)
