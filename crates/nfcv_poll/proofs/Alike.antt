-- Identifiers that share their lowest 60 bits and the next four are the same.
use Rattle.std.proofs.Common.{◌≡◌, ◌<◌, ℕ, suc, ◌/◌, ◌%◌, List, [], ◌∷◌, length, get_or, refl, sym, ◌∙◌, ap, subst, arith}
use Rattle.nfca_poll.specs.Crowd.{Each}
use Rattle.t5t_tag.specs.Mask.{mask_of}
use Rattle.t5t_tag.specs.Slots.{slot_of}
use Rattle.t5t_tag.specs.Store.{id_size}

-- eight bytes, one by one
pub record Eight (i : List ℕ) : Type 0 where
  pub a : ℕ
  pub b : ℕ
  pub c : ℕ
  pub d : ℕ
  pub e : ℕ
  pub f : ℕ
  pub g : ℕ
  pub h : ℕ
  pub is : i ≡ a ∷ b ∷ c ∷ d ∷ e ∷ f ∷ g ∷ h ∷ []

pub eight_of : (i : List ℕ) → length i ≡ 8 → Eight i
eight_of [] n = absurd cc
eight_of (a ∷ []) n = absurd cc
eight_of (a ∷ b ∷ []) n = absurd cc
eight_of (a ∷ b ∷ c ∷ []) n = absurd cc
eight_of (a ∷ b ∷ c ∷ d ∷ []) n = absurd cc
eight_of (a ∷ b ∷ c ∷ d ∷ e ∷ []) n = absurd cc
eight_of (a ∷ b ∷ c ∷ d ∷ e ∷ f ∷ []) n = absurd cc
eight_of (a ∷ b ∷ c ∷ d ∷ e ∷ f ∷ g ∷ []) n = absurd cc
eight_of (a ∷ b ∷ c ∷ d ∷ e ∷ f ∷ g ∷ h ∷ []) n = record { a = a; b = b; c = c; d = d; e = e; f = f; g = g; h = h; is = refl }
eight_of (a ∷ b ∷ c ∷ d ∷ e ∷ f ∷ g ∷ h ∷ x ∷ xs) n = absurd (let k : suc (length xs) ≡ 0 = omega (arith, n) in omega (arith, k))

-- the slot behind 60 bits is in the highest byte
high_slot : (a b c d e f g h : ℕ) → a < 256 → b < 256 → c < 256 → d < 256 → e < 256 → f < 256 → g < 256 → h < 256
    → slot_of (a ∷ b ∷ c ∷ d ∷ e ∷ f ∷ g ∷ h ∷ []) 60 ≡ a / 16
high_slot a b c d e f g h ha hb hc hd he hf hg hh = omega (arith, ha, hb, hc, hd, he, hf, hg, hh)

one_byte : (x y : ℕ) → x < 256 → y < 256 → x % 256 ≡ y % 256 → x ≡ y
one_byte x y hx hy e = omega (arith, hx, hy, e)

halves : (x y : ℕ) → x % 16 ≡ y % 16 → x / 16 ≡ y / 16 → x ≡ y
halves x y low high = omega (arith, low, high)

-- So who is in a round of 60 bits and answers in the same slot is the same tag.
pub alike : (i j : List ℕ) → length i ≡ id_size → length j ≡ id_size → Each (λ b. b < 256) i → Each (λ b. b < 256) j
    → mask_of i 60 ≡ mask_of j 60 → slot_of i 60 ≡ slot_of j 60 → i ≡ j
alike i j hi hj small other mask slot = by_eight (eight_of i hi) (eight_of j hj)
  where
    by_eight : Eight i → Eight j → i ≡ j
    by_eight u v =
        let x : List ℕ = u.a ∷ u.b ∷ u.c ∷ u.d ∷ u.e ∷ u.f ∷ u.g ∷ u.h ∷ [] in
        let y : List ℕ = v.a ∷ v.b ∷ v.c ∷ v.d ∷ v.e ∷ v.f ∷ v.g ∷ v.h ∷ [] in
        let s : Each (λ b. b < 256) x = subst (Each (λ b. b < 256)) u.is small in
        let o : Each (λ b. b < 256) y = subst (Each (λ b. b < 256)) v.is other in
        let m : mask_of x 60 ≡ mask_of y 60 = ap (λ k. mask_of k 60) (sym u.is) ∙ mask ∙ ap (λ k. mask_of k 60) v.is in
        let top : u.a / 16 ≡ v.a / 16 =
        sym (high_slot u.a u.b u.c u.d u.e u.f u.g u.h s.0 s.1.0 s.1.1.0 s.1.1.1.0 s.1.1.1.1.0 s.1.1.1.1.1.0 s.1.1.1.1.1.1.0 s.1.1.1.1.1.1.1.0)
        ∙ ap (λ k. slot_of k 60) (sym u.is) ∙ slot ∙ ap (λ k. slot_of k 60) v.is
        ∙ high_slot v.a v.b v.c v.d v.e v.f v.g v.h o.0 o.1.0 o.1.1.0 o.1.1.1.0 o.1.1.1.1.0 o.1.1.1.1.1.0 o.1.1.1.1.1.1.0 o.1.1.1.1.1.1.1.0 in
        let a : u.a ≡ v.a = halves u.a v.a (ap (λ k. get_or k 7 0) m) top in
        let b : u.b ≡ v.b = one_byte u.b v.b s.1.0 o.1.0 (ap (λ k. get_or k 6 0) m) in
        let c : u.c ≡ v.c = one_byte u.c v.c s.1.1.0 o.1.1.0 (ap (λ k. get_or k 5 0) m) in
        let d : u.d ≡ v.d = one_byte u.d v.d s.1.1.1.0 o.1.1.1.0 (ap (λ k. get_or k 4 0) m) in
        let e : u.e ≡ v.e = one_byte u.e v.e s.1.1.1.1.0 o.1.1.1.1.0 (ap (λ k. get_or k 3 0) m) in
        let f : u.f ≡ v.f = one_byte u.f v.f s.1.1.1.1.1.0 o.1.1.1.1.1.0 (ap (λ k. get_or k 2 0) m) in
        let g : u.g ≡ v.g = one_byte u.g v.g s.1.1.1.1.1.1.0 o.1.1.1.1.1.1.0 (ap (λ k. get_or k 1 0) m) in
        let h : u.h ≡ v.h = one_byte u.h v.h s.1.1.1.1.1.1.1.0 o.1.1.1.1.1.1.1.0 (ap (λ k. get_or k 0 0) m) in
        let same : x ≡ y = cc in
        u.is ∙ same ∙ sym v.is
