-- The first of some units are let go.
use Rattle.std.proofs.Common.{◌≡◌, ℕ, zero, suc, ◌+◌, ◌-◌, ◌%◌, ◌<◌, ◌≤◌, nat_lt, false, Option, Some, None, slice_get, List, [], ◌∷◌, ◌++◌, length, take, drop, refl, sym, ◌∙◌, ap, arith, length-take}
use Rattle.std.proofs.lemmas.Bool.Decides.{nat_tests}
use Rattle.llcp_conn.specs.Conn.{ConnState, count_end, acks, acknowledged, is_outside, first}

-- where k are let go, of which g are the first
pub split_front : {X : Type 0} (k g : ℕ) (us : List X) → k ≤ g → (take (g - k) (drop k us) ≡ drop k (take g us)) × (drop (g - k) (drop k us) ≡ drop g us)
split_front zero g us h = (ap (λ n. take n us) (minus_zero g), ap (λ n. drop n us) (minus_zero g))
  where
    minus_zero : (n : ℕ) → n - 0 ≡ n
    minus_zero n = omega arith
split_front (suc k) zero us h = absurd (omega (arith, h))
split_front (suc k) (suc g) [] h = (take_none (suc g - suc k), drop_none (suc g - suc k))
  where
    take_none : {X : Type 0} (n : ℕ) → take n (let e : List X = [] in e) ≡ []
    take_none zero = refl
    take_none (suc n) = refl

    drop_none : {X : Type 0} (n : ℕ) → drop n (let e : List X = [] in e) ≡ []
    drop_none zero = refl
    drop_none (suc n) = refl
split_front (suc k) (suc g) (u ∷ us) h =
    let m : suc g - suc k ≡ g - k = omega arith in
    let s = split_front k g us (omega arith) in
    (ap (λ n. take n (drop k us)) m ∙ s.0, ap (λ n. drop n (drop k us)) m ∙ s.1)

pub acks_held : (c : ConnState) (g : ℕ) (us : List (List ℕ)) (nr : ℕ) → c.flight ≡ take g us → g ≤ length us → is_outside c nr ≡ false → acks c nr ≤ g
acks_held c g us nr e l o =
    let f : length c.flight ≡ length (take g us) = ap length e in
    let t = length-take g us in
    let q : acks c nr ≤ length c.flight = grind (arith, nat_tests) in
    omega (arith, f, t, q, l)

pub acknowledged_is : (c : ConnState) (g n : ℕ) (us : List (List ℕ)) (nr : ℕ) → c.flight ≡ take g us → c.queue ≡ drop g us → n ≡ acks c nr → n ≤ g
    → record c { queue = drop (g - n) (drop n us); flight = take (g - n) (drop n us); vsa = nr; acked = (c.acked + n) % count_end } ≡ acknowledged c nr
acknowledged_is c g n us nr e f m l =
    let s = split_front n g us l in
    let q : drop (g - n) (drop n us) ≡ c.queue = s.1 ∙ sym f in
    let t : take (g - n) (drop n us) ≡ drop n c.flight = s.0 ∙ ap (drop n) (sym e) in
    ap (λ x. record c { queue = x; flight = take (g - n) (drop n us); vsa = nr; acked = (c.acked + n) % count_end }) q
    ∙ ap (λ x. record c { flight = x; vsa = nr; acked = (c.acked + n) % count_end }) t
    ∙ ap (λ x. record c { flight = drop x c.flight; vsa = nr; acked = (c.acked + x) % count_end }) m

-- the first unit behind those that were given
pub first_waits : (us : List (List ℕ)) (k : ℕ) → slice_get us k ≡ first (drop k us)
first_waits [] zero = refl
first_waits [] (suc k) = refl
first_waits (u ∷ us) zero = refl
first_waits (u ∷ us) (suc k) = first_waits us k

-- it is given
pub first_given : (us : List (List ℕ)) (k : ℕ) (u : List ℕ) → first (drop k us) ≡ Some u → (drop k us ≡ u ∷ drop (suc k) us) × (take (suc k) us ≡ take k us ++ u ∷ []) × (k < length us)
first_given [] zero u e = absurd (let f : ◌≡◌ {A = Option (List ℕ)} None (Some u) = e in cc)
first_given [] (suc k) u e = absurd (let f : ◌≡◌ {A = Option (List ℕ)} None (Some u) = e in cc)
first_given (x ∷ us) zero u e =
    let f : x ≡ u = cc in
    (ap (λ z. z ∷ us) f, ap (λ z. z ∷ []) f, omega arith)
first_given (x ∷ us) (suc k) u e =
    let s = first_given us k u e in
    (s.0, ap (λ z. x ∷ z) s.1, (let l : k < length us = s.2 in omega arith))

pub after : (k : ℕ) → k + 1 ≡ suc k
after k = omega arith

pub drop_next : {X : Type 0} (k : ℕ) (us : List X) → drop 1 (drop k us) ≡ drop (k + 1) us
drop_next k us = go k us ∙ ap (λ n. drop n us) (sym (after k))
  where
    go : {X : Type 0} (k : ℕ) (us : List X) → drop 1 (drop k us) ≡ drop (suc k) us
    go zero us = refl
    go (suc k) [] = refl
    go (suc k) (u ∷ us) = go k us
