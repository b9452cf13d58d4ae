-- Of a clash of lists of one length, the common first bits and one bit 1 begin the first of them in crowd order.
use Rattle.std.proofs.Common.{◌≡◌, ℕ, suc, List, [], ◌∷◌, ◌++◌, length, map, Bool, true, false, ◌&&◌, ◌⊎◌, if◌then◌else◌, inl, inr, refl, sym, ◌∙◌, ap, subst, arith}
use Rattle.air_core.specs.Joint.{same_bit, common, common_all}
use Rattle.nfca_poll.specs.Front.{begins}
use Rattle.nfca_poll.specs.Crowd.{ahead, Each}

abbrev pub same_bits : List Bool → List Bool → Bool
same_bits [] [] = true
same_bits [] (b ∷ y) = false
same_bits (a ∷ x) [] = false
same_bits (a ∷ x) (b ∷ y) = same_bit a b && same_bits x y

abbrev pub all_same : List Bool → List (List Bool) → Bool
all_same x [] = true
all_same x (y ∷ ys) = same_bits x y && all_same x ys

abbrev pub Has : {X : Type 0} → X → List X → Type 0
Has m [] = ⊥
Has m (x ∷ xs) = (m ≡ x) ⊎ Has m xs

pub wrong : {A : Type 0} → false ≡ true → A
wrong h = absurd cc

pub wrong_back : {A : Type 0} → true ≡ false → A
wrong_back h = absurd cc

abbrev pub tail : List Bool → List Bool
tail [] = []
tail (a ∷ x) = x

abbrev pub starts : Bool → List Bool → Bool
starts a [] = false
starts a (b ∷ x) = same_bit a b

-- whether each list begins with this bit
abbrev pub all_start : Bool → List (List Bool) → Bool
all_start a [] = true
all_start a (y ∷ ys) = starts a y && all_start a ys

-- common first bits, bit by bit
abbrev pub common_by_bit : List Bool → List (List Bool) → List Bool
common_by_bit [] ys = []
common_by_bit (a ∷ x) ys = if all_start a ys then a ∷ common_by_bit x (map tail ys) else []

by_bit_one : (x y : List Bool) (ys : List (List Bool)) → common_by_bit x (y ∷ ys) ≡ common_by_bit (common x y) ys
by_bit_one [] y ys = refl
by_bit_one (a ∷ x) [] ys = refl
by_bit_one (true ∷ x) (true ∷ y) ys = ap (λ t. if all_start true ys then true ∷ t else []) (by_bit_one x y (map tail ys))
by_bit_one (true ∷ x) (false ∷ y) ys = refl
by_bit_one (false ∷ x) (true ∷ y) ys = refl
by_bit_one (false ∷ x) (false ∷ y) ys = ap (λ t. if all_start false ys then false ∷ t else []) (by_bit_one x y (map tail ys))

by_bit_none : (x : List Bool) → common_by_bit x [] ≡ x
by_bit_none [] = refl
by_bit_none (a ∷ x) = ap (λ t. a ∷ t) (by_bit_none x)

pub by_bit : (x : List Bool) (ys : List (List Bool)) → common_all x ys ≡ common_by_bit x ys
by_bit x [] = sym (by_bit_none x)
by_bit x (y ∷ ys) = by_bit (common x y) ys ∙ sym (by_bit_one x y ys)

-- two lists
pub begins_same : (x : List Bool) → begins x x ≡ true
begins_same [] = refl
begins_same (true ∷ x) = begins_same x
begins_same (false ∷ x) = begins_same x

pub begins-append : (p r : List Bool) → begins p (p ++ r) ≡ true
begins-append [] r = refl
begins-append (true ∷ p) r = begins-append p r
begins-append (false ∷ p) r = begins-append p r

pub begins_through : (p q x : List Bool) → begins p q ≡ true → begins q x ≡ true → begins p x ≡ true
begins_through [] q x h k = refl
begins_through (a ∷ p) [] x h k = wrong h
begins_through (a ∷ p) (b ∷ q) [] h k = wrong k
begins_through (true ∷ p) (true ∷ q) (true ∷ x) h k = begins_through p q x h k
begins_through (true ∷ p) (true ∷ q) (false ∷ x) h k = wrong k
begins_through (true ∷ p) (false ∷ q) (c ∷ x) h k = wrong h
begins_through (false ∷ p) (true ∷ q) (c ∷ x) h k = wrong h
begins_through (false ∷ p) (false ∷ q) (true ∷ x) h k = wrong k
begins_through (false ∷ p) (false ∷ q) (false ∷ x) h k = begins_through p q x h k

pub begins_left : (x y : List Bool) → begins (common x y) x ≡ true
begins_left [] y = refl
begins_left (a ∷ x) [] = refl
begins_left (true ∷ x) (true ∷ y) = begins_left x y
begins_left (true ∷ x) (false ∷ y) = refl
begins_left (false ∷ x) (true ∷ y) = refl
begins_left (false ∷ x) (false ∷ y) = begins_left x y

pub begins_right : (x y : List Bool) → begins (common x y) y ≡ true
begins_right [] y = refl
begins_right (a ∷ x) [] = refl
begins_right (true ∷ x) (true ∷ y) = begins_right x y
begins_right (true ∷ x) (false ∷ y) = refl
begins_right (false ∷ x) (true ∷ y) = refl
begins_right (false ∷ x) (false ∷ y) = begins_right x y

-- what all have in common begins each
pub begins_first : (x : List Bool) (ys : List (List Bool)) → begins (common_all x ys) x ≡ true
begins_first x [] = begins_same x
begins_first x (y ∷ ys) = begins_through (common_all (common x y) ys) (common x y) x (begins_first (common x y) ys) (begins_left x y)

pub begins_each : (x : List Bool) (ys : List (List Bool)) → Each (λ y. begins (common_all x ys) y ≡ true) ys
begins_each x [] = tt
begins_each x (y ∷ ys) =
    (begins_through (common_all (common x y) ys) (common x y) y (begins_first (common x y) ys) (begins_right x y), begins_each (common x y) ys)

pub same_to_path : (x y : List Bool) → same_bits x y ≡ true → x ≡ y
same_to_path [] [] h = refl
same_to_path [] (b ∷ y) h = wrong h
same_to_path (a ∷ x) [] h = wrong h
same_to_path (true ∷ x) (true ∷ y) h = ap (λ t. true ∷ t) (same_to_path x y h)
same_to_path (true ∷ x) (false ∷ y) h = wrong h
same_to_path (false ∷ x) (true ∷ y) h = wrong h
same_to_path (false ∷ x) (false ∷ y) h = ap (λ t. false ∷ t) (same_to_path x y h)

pub same_self : (x : List Bool) → same_bits x x ≡ true
same_self [] = refl
same_self (true ∷ x) = same_self x
same_self (false ∷ x) = same_self x

pub and_both : (a b : Bool) → a && b ≡ true → (a ≡ true) × (b ≡ true)
and_both true b h = (refl, h)
and_both false b h = wrong h

pub and_make : (a b : Bool) → a ≡ true → b ≡ true → a && b ≡ true
and_make true b h k = k
and_make false b h k = wrong h

pub each_same : (x : List Bool) (ys : List (List Bool)) → all_same x ys ≡ true → Each (λ y. x ≡ y) ys
each_same x [] h = tt
each_same x (y ∷ ys) h = let p : _ × _ = and_both (same_bits x y) (all_same x ys) h in (same_to_path x y p.0, each_same x ys p.1)

-- several lists of one length, of which m is the first in crowd order
all_empty : (ys : List (List Bool)) → Each (λ y. length y ≡ 0) ys → all_same [] ys ≡ true
all_empty [] e = refl
all_empty ([] ∷ ys) e = all_empty ys e.1
all_empty ((b ∷ y) ∷ ys) e = let z : length (b ∷ y) ≡ 0 = e.0 in absurd (omega (arith, z))

tails_length : (n : ℕ) (ys : List (List Bool)) → Each (λ y. length y ≡ suc n) ys → Each (λ y. length y ≡ n) (map tail ys)
tails_length n [] e = tt
tails_length n ([] ∷ ys) e = let z : length {A = Bool} [] ≡ suc n = e.0 in absurd (omega (arith, z))
tails_length n ((b ∷ y) ∷ ys) e = let z : length (b ∷ y) ≡ suc n = e.0 in (omega (arith, z), tails_length n ys e.1)

tails_ahead : (a : Bool) (m : List Bool) (ys : List (List Bool)) → Each (λ y. ahead (a ∷ m) y ≡ true) ys → all_start a ys ≡ true → Each (λ y. ahead m y ≡ true) (map tail ys)
tails_ahead a m [] e s = tt
tails_ahead a m ([] ∷ ys) e s = wrong s
tails_ahead true m ((true ∷ y) ∷ ys) e s = (e.0, tails_ahead true m ys e.1 s)
tails_ahead true m ((false ∷ y) ∷ ys) e s = wrong s
tails_ahead false m ((true ∷ y) ∷ ys) e s = wrong s
tails_ahead false m ((false ∷ y) ∷ ys) e s = (e.0, tails_ahead false m ys e.1 s)

tails_has : (a : Bool) (m : List Bool) (ys : List (List Bool)) → Has (a ∷ m) ys → Has m (map tail ys)
tails_has a m [] h = h
tails_has a m (y ∷ ys) (inl p) = inl (ap tail p)
tails_has a m (y ∷ ys) (inr h) = inr (tails_has a m ys h)

tails_same : (a : Bool) (x : List Bool) (ys : List (List Bool)) → all_start a ys ≡ true → all_same (a ∷ x) ys ≡ all_same x (map tail ys)
tails_same a x [] s = refl
tails_same a x ([] ∷ ys) s = wrong s
tails_same true x ((true ∷ y) ∷ ys) s = ap (λ t. same_bits x y && t) (tails_same true x ys s)
tails_same true x ((false ∷ y) ∷ ys) s = wrong s
tails_same false x ((true ∷ y) ∷ ys) s = wrong s
tails_same false x ((false ∷ y) ∷ ys) s = ap (λ t. same_bits x y && t) (tails_same false x ys s)

-- the first does not begin with 1 where all begin with 0
not_first : (m : List Bool) (ys : List (List Bool)) → Has (true ∷ m) ys → all_start false ys ≡ true → ⊥
not_first m [] h s = h
not_first m ([] ∷ ys) h s = wrong s
not_first m ((true ∷ y) ∷ ys) h s = wrong s
not_first m ((false ∷ y) ∷ ys) (inl p) s = let q : starts true (true ∷ m) ≡ starts true (false ∷ y) = ap (starts true) p in wrong_back q
not_first m ((false ∷ y) ∷ ys) (inr h) s = not_first m ys h s

-- behind a first that begins with 0 all begin with 0
all_zero : (n : ℕ) (m : List Bool) (ys : List (List Bool)) → Each (λ y. length y ≡ suc n) ys → Each (λ y. ahead (false ∷ m) y ≡ true) ys → all_start false ys ≡ true
all_zero n m [] l e = refl
all_zero n m ([] ∷ ys) l e = let z : length {A = Bool} [] ≡ suc n = l.0 in absurd (omega (arith, z))
all_zero n m ((true ∷ y) ∷ ys) l e = wrong e.0
all_zero n m ((false ∷ y) ∷ ys) l e = all_zero n m ys l.1 e.1

goes_on : (a : Bool) (v : Bool) (rest m : List Bool) → (v ≡ true → begins (rest ++ true ∷ []) m ≡ true) → (v ≡ false → begins (true ∷ []) (a ∷ m) ≡ true)
    → begins ((if v then a ∷ rest else []) ++ true ∷ []) (a ∷ m) ≡ true
goes_on true true rest m f g = f refl
goes_on false true rest m f g = f refl
goes_on a false rest m f g = g refl

one_behind : (m x : List Bool) (ys : List (List Bool)) → Has (true ∷ m) ys → (v : Bool) → all_start false ys ≡ v
    → begins ((if v then false ∷ common_by_bit x (map tail ys) else []) ++ true ∷ []) (true ∷ m) ≡ true
one_behind m x ys k true s = absurd (not_first m ys k s)
one_behind m x ys k false s = refl

clash_bits : (m x : List Bool) (ys : List (List Bool)) → length x ≡ length m → Each (λ y. length y ≡ length m) ys
    → ahead m x ≡ true → Each (λ y. ahead m y ≡ true) ys → Has m (x ∷ ys) → all_same x ys ≡ false
    → begins (common_by_bit x ys ++ true ∷ []) m ≡ true
clash_bits [] [] ys l ls h hs i d = wrong (sym d ∙ all_empty ys ls)
clash_bits [] (a ∷ x) ys l ls h hs i d = absurd (omega (arith, l))
clash_bits (a ∷ m) [] ys l ls h hs i d = absurd (omega (arith, l))
clash_bits (true ∷ m) (true ∷ x) ys l ls h hs i d =
    goes_on true (all_start true ys) (common_by_bit x (map tail ys)) m
    (λ s. clash_bits m x (map tail ys) (omega (arith, l)) (tails_length (length m) ys ls) h (tails_ahead true m ys hs s) (tails_has true m ((true ∷ x) ∷ ys) i) (sym (tails_same true x ys s) ∙ d))
    (λ s. refl)
clash_bits (true ∷ m) (false ∷ x) ys l ls h hs i d =
    elim i [
      | inl p ↦ (let q : starts true (true ∷ m) ≡ starts true (false ∷ x) = ap (starts true) p in wrong_back q)
      | inr k ↦ one_behind m x ys k (all_start false ys) refl
    ]
clash_bits (false ∷ m) (true ∷ x) ys l ls h hs i d = wrong h
clash_bits (false ∷ m) (false ∷ x) ys l ls h hs i d =
    goes_on false (all_start false ys) (common_by_bit x (map tail ys)) m
    (λ s. clash_bits m x (map tail ys) (omega (arith, l)) (tails_length (length m) ys ls) h (tails_ahead false m ys hs s) (tails_has false m ((false ∷ x) ∷ ys) i) (sym (tails_same false x ys s) ∙ d))
    (λ s. wrong (sym s ∙ all_zero (length m) m ys ls hs))

pub clash : (m x : List Bool) (ys : List (List Bool)) → length x ≡ length m → Each (λ y. length y ≡ length m) ys
    → ahead m x ≡ true → Each (λ y. ahead m y ≡ true) ys → Has m (x ∷ ys) → all_same x ys ≡ false
    → begins (common_all x ys ++ true ∷ []) m ≡ true
clash m x ys l ls h hs i d = let P : List Bool → Type 0 = λ c. begins (c ++ true ∷ []) m ≡ true in subst P (sym (by_bit x ys)) (clash_bits m x ys l ls h hs i d)
