-- Of identifiers that are each another one no two answer behind sixty bits in one slot.
use Rattle.std.proofs.Common.{◌≡◌, ◌<◌, ◌≤◌, ℕ, ◌+◌, ◌*◌, List, [], ◌∷◌, length, Bool, true, false, refl, sym, ◌∙◌, ap, arith}
use Rattle.nfca_poll.specs.Crowd.{Each}
use Rattle.t5t_tag.specs.Mask.{mask_of}
use Rattle.t5t_tag.specs.Slots.{slot_of}
use Rattle.t5t_tag.specs.Store.{id_size}
use Rattle.nfcv_poll.specs.Crowd.{AreOwn}
use Rattle.nfcv_poll.proofs.Alike.{alike}
use Rattle.nfcv_poll.proofs.Forks.{Fork, shares, one_if, sharing, mask_is, slot_is}

module _ (f : Fork) (deep : f.depth ≡ 15) where
  same_id : (i j : List ℕ) → length i ≡ id_size → length j ≡ id_size → Each (λ b. b < 256) i → Each (λ b. b < 256) j → shares i f ≡ true → shares j f ≡ true → j ≡ i
  same_id i j hi hj small other here there =
      let mask : mask_of j (4 * f.depth) ≡ mask_of i (4 * f.depth) = sym (mask_is j f there) ∙ mask_is i f here in
      let slot : slot_of j (4 * f.depth) ≡ slot_of i (4 * f.depth) = slot_is j f there ∙ sym (slot_is i f here) in
      let mask_60 : mask_of j 60 ≡ mask_of i 60 = ap (λ d. mask_of j (4 * d)) (sym deep) ∙ mask ∙ ap (λ d. mask_of i (4 * d)) deep in
      let slot_60 : slot_of j 60 ≡ slot_of i 60 = ap (λ d. slot_of j (4 * d)) (sym deep) ∙ slot ∙ ap (λ d. slot_of i (4 * d)) deep in
      alike j i hj hi other small mask_60 slot_60

  none_else : (i : List ℕ) (is : List (List ℕ)) → length i ≡ id_size → Each (λ b. b < 256) i → Each (λ j. length j ≡ id_size) is → Each (λ j. Each (λ b. b < 256) j) is
      → Each (λ j. j ≡ i → ⊥) is → shares i f ≡ true → sharing f is ≡ 0
  none_else i [] hi small long others own here = refl
  none_else i (j ∷ js) hi small long others own here = by_share (shares j f) refl (none_else i js hi small long.1 others.1 own.1 here)
    where
      by_share : (v : Bool) → shares j f ≡ v → sharing f js ≡ 0 → one_if v + sharing f js ≡ 0
      by_share true e rest = absurd (own.0 (same_id i j hi long.0 small others.0 here e))
      by_share false e rest = omega (arith, rest)

  pub alone : (is : List (List ℕ)) → Each (λ j. length j ≡ id_size) is → Each (λ j. Each (λ b. b < 256) j) is → AreOwn is → sharing f is ≤ 1
  alone [] long small own = omega arith
  alone (i ∷ is) long small own = by_share (shares i f) refl (alone is long.1 small.1 own.1)
    where
      by_share : (v : Bool) → shares i f ≡ v → sharing f is ≤ 1 → one_if v + sharing f is ≤ 1
      by_share true e rest = omega (arith, none_else i is long.0 small.0 long.1 small.1 own.0 e)
      by_share false e rest = omega (arith, rest)
