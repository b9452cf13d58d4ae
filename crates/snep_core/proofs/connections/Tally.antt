-- How many of so many SAPs are so, as one of them changes.
use Rattle.std.proofs.Common.{◌≡◌, ◌<◌, ◌≤◌, ℕ, zero, suc, ◌+◌, ◌==◌, Bool, true, false, refl, sym, ◌∙◌, ap, arith, if◌then◌else◌}
use Rattle.std.proofs.lemmas.Bool.Decides.{nat_tests}
use Rattle.snep_core.specs.Accord.{how_many}

abbrev bit : Bool → ℕ
bit b = if b then 1 else 0

pub few : (n a : ℕ) (f : ℕ → Bool) → how_many n a f ≤ n
few zero a f = omega arith
few (suc n) a f = go (f a) (few n (a + 1) f)
  where
    go : (b : Bool) → how_many n (a + 1) f ≤ n → bit b + how_many n (a + 1) f ≤ suc n
    go true h = omega (arith, h)
    go false h = omega (arith, h)

-- one of them isn't
pub few_but : (n a t : ℕ) (f : ℕ → Bool) → a ≤ t → t < a + n → f t ≡ false → how_many n a f + 1 ≤ n
few_but zero a t f h i e = absurd (omega (arith, h, i))
few_but (suc n) a t f h i e = go (a == t) refl (few n (a + 1) f) (few_but n (a + 1) t f) (f a) refl
  where
    go : (c : Bool) → (a == t) ≡ c → how_many n (a + 1) f ≤ n → (a + 1 ≤ t → t < a + 1 + n → f t ≡ false → how_many n (a + 1) f + 1 ≤ n) → (b : Bool) → f a ≡ b
        → bit b + how_many n (a + 1) f + 1 ≤ suc n
    go true q m more true k = absurd (let z : a ≡ t = grind (arith, nat_tests) in let y : true ≡ false = sym k ∙ ap f z ∙ e in cc)
    go true q m more false k = omega (arith, m)
    go false q m more true k = (let z : a + 1 ≤ t = grind (arith, nat_tests) in let y = more z (omega (arith, i)) e in omega (arith, y))
    go false q m more false k = omega (arith, m)

module _ (f g : ℕ → Bool) where
  pub same : ((s : ℕ) → f s ≡ g s) → (n a : ℕ) → how_many n a f ≡ how_many n a g
  same all zero a = refl
  same all (suc n) a = ap (λ b. bit b + how_many n (a + 1) f) (all a) ∙ ap (λ k. bit (g a) + k) (same all n (a + 1))

  pub no_more : ((s : ℕ) → f s ≡ true → g s ≡ true) → (n a : ℕ) → how_many n a f ≤ how_many n a g
  no_more all zero a = omega arith
  no_more all (suc n) a = go (f a) (g a) refl refl (no_more all n (a + 1))
    where
      go : (b c : Bool) → f a ≡ b → g a ≡ c → how_many n (a + 1) f ≤ how_many n (a + 1) g → bit b + how_many n (a + 1) f ≤ bit c + how_many n (a + 1) g
      go true true e k h = omega (arith, h)
      go true false e k h = absurd (let z : true ≡ false = sym (all a e) ∙ k in cc)
      go false true e k h = omega (arith, h)
      go false false e k h = omega (arith, h)

  -- one of them was so, and no other became so
  pub fewer : (t : ℕ) → ((s : ℕ) → f s ≡ true → g s ≡ true) → f t ≡ false → g t ≡ true → (n a : ℕ) → a ≤ t → t < a + n → how_many n a f + 1 ≤ how_many n a g
  fewer t all e k zero a h i = absurd (omega (arith, h, i))
  fewer t all e k (suc n) a h i = go (a == t) refl (f a) (g a) refl refl (no_more all n (a + 1)) (fewer t all e k n (a + 1))
    where
      go : (d : Bool) → (a == t) ≡ d → (b c : Bool) → f a ≡ b → g a ≡ c → how_many n (a + 1) f ≤ how_many n (a + 1) g
          → (a + 1 ≤ t → t < a + 1 + n → how_many n (a + 1) f + 1 ≤ how_many n (a + 1) g)
          → bit b + how_many n (a + 1) f + 1 ≤ bit c + how_many n (a + 1) g
      go d q true false x y m more = absurd (let z : true ≡ false = sym (all a x) ∙ y in cc)
      go d q false true x y m more = omega (arith, m)
      go true q true true x y m more = absurd (let z : a ≡ t = grind (arith, nat_tests) in let w : true ≡ false = sym x ∙ ap f z ∙ e in cc)
      go true q false false x y m more = absurd (let z : a ≡ t = grind (arith, nat_tests) in let w : false ≡ true = sym y ∙ ap g z ∙ k in cc)
      go false q true true x y m more = (let z : a + 1 ≤ t = grind (arith, nat_tests) in let w = more z (omega (arith, i)) in omega (arith, w))
      go false q false false x y m more = (let z : a + 1 ≤ t = grind (arith, nat_tests) in let w = more z (omega (arith, i)) in omega (arith, w))

  -- and the others stay
  pub one_more : (t : ℕ) → ((s : ℕ) → (t == s) ≡ false → f s ≡ g s) → f t ≡ false → g t ≡ true → (n a : ℕ) → a ≤ t → t < a + n → how_many n a g ≡ how_many n a f + 1
  one_more t all e k zero a h i = absurd (omega (arith, h, i))
  one_more t all e k (suc n) a h i = go (t == a) refl (one_more t all e k n (a + 1))
    where
      beyond : (m b : ℕ) → t < b → how_many m b f ≡ how_many m b g
      beyond zero b l = refl
      beyond (suc m) b l =
          let n : (t == b) ≡ false = grind (arith, nat_tests) in
          ap (λ x. bit x + how_many m (b + 1) f) (all b n) ∙ ap (λ x. bit (g b) + x) (beyond m (b + 1) (omega (arith, l)))

      go : (d : Bool) → (t == a) ≡ d → (a + 1 ≤ t → t < a + 1 + n → how_many n (a + 1) g ≡ how_many n (a + 1) f + 1)
          → bit (g a) + how_many n (a + 1) g ≡ bit (f a) + how_many n (a + 1) f + 1
      go true q more =
          let z : t ≡ a = grind (arith, nat_tests) in
          let x : bit (g a) ≡ 1 = ap bit (sym (ap g z) ∙ k) in
          let y : bit (f a) ≡ 0 = ap bit (sym (ap f z) ∙ e) in
          let w : how_many n (a + 1) f ≡ how_many n (a + 1) g = beyond n (a + 1) (omega (arith, z)) in
          omega (arith, x, y, w)
      go false q more =
          let z : a + 1 ≤ t = grind (arith, nat_tests) in
          let w = more z (omega (arith, i)) in
          let x : bit (f a) ≡ bit (g a) = ap bit (all a q) in
          omega (arith, w, x)

  -- all but one of them are so still
  pub one_less : (t : ℕ) → ((s : ℕ) → (t == s) ≡ false → f s ≡ true → g s ≡ true) → (n a : ℕ) → how_many n a f ≤ how_many n a g + 1
  one_less t all zero a = omega arith
  one_less t all (suc n) a = go (t == a) refl (f a) (g a) refl refl (one_less t all n (a + 1))
    where
      beyond : (m b : ℕ) → t < b → how_many m b f ≤ how_many m b g
      beyond zero b l = omega arith
      beyond (suc m) b l = by (f b) (g b) refl refl (beyond m (b + 1) (omega (arith, l)))
        where
          apart : (t == b) ≡ false
          apart = grind (arith, nat_tests)

          by : (x y : Bool) → f b ≡ x → g b ≡ y → how_many m (b + 1) f ≤ how_many m (b + 1) g → bit x + how_many m (b + 1) f ≤ bit y + how_many m (b + 1) g
          by true true e k h = omega (arith, h)
          by true false e k h = absurd (let z : true ≡ false = sym (all b apart e) ∙ k in cc)
          by false true e k h = omega (arith, h)
          by false false e k h = omega (arith, h)

      go : (d : Bool) → (t == a) ≡ d → (x y : Bool) → f a ≡ x → g a ≡ y → how_many n (a + 1) f ≤ how_many n (a + 1) g + 1
          → bit x + how_many n (a + 1) f ≤ bit y + how_many n (a + 1) g + 1
      go false q true false e k h = absurd (let z : true ≡ false = sym (all a q e) ∙ k in cc)
      go false q true true e k h = omega (arith, h)
      go false q false true e k h = omega (arith, h)
      go false q false false e k h = omega (arith, h)
      go true q true y e k h =
          let z : t ≡ a = grind (arith, nat_tests) in
          let w = beyond n (a + 1) (omega (arith, z)) in omega (arith, w)
      go true q false y e k h =
          let z : t ≡ a = grind (arith, nat_tests) in
          let w = beyond n (a + 1) (omega (arith, z)) in omega (arith, w)
