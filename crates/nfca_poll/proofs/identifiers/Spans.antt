-- The bits from one place to another, put into bytes.
use Rattle.std.proofs.Common.{◌≡◌, ℕ, zero, suc, ◌+◌, ◌-◌, ◌*◌, ◌%◌, ◌^◌, ◌<◌, ◌≤◌, List, [], ◌∷◌, ◌++◌, length, take, drop, get_or, Bool, true, false, if◌then◌else◌, refl, sym, ◌∙◌, ap, subst, arith}
use Rattle.std.proofs.Common.{append_assoc, inl, inr}
use Rattle.std.proofs.lemmas.List.{append-nil, length-take-le}
use Rattle.nfc_base.specs.declared.frame.Tech.TheVariants.{A}
use Rattle.nfc_base.specs.Bits.{number_of, packed, of_bits}
use Rattle.nfc_base.specs.Signal.{signal, last_byte, IsBadTail}

-- the bits from one place to another
abbrev pub span : List Bool → ℕ → ℕ → List Bool
span x from to = drop from (take to x)

-- one bit more, from the back
pub span_first : (x : List Bool) (from to : ℕ) → from < to → to ≤ length x → span x from to ≡ get_or x from false ∷ span x (suc from) to
span_first [] from to h k = absurd (omega (arith, h, k))
span_first (a ∷ x) from zero h k = absurd (omega (arith, h))
span_first (a ∷ x) zero (suc to) h k = refl
span_first (a ∷ x) (suc from) (suc to) h k = span_first x from to (omega (arith, h)) (omega (arith, k))

pub span_none : (x : List Bool) (from to : ℕ) → to ≤ from → span x from to ≡ []
span_none x from zero h = by_from from
  where
    by_from : (n : ℕ) → drop n (take 0 x) ≡ []
    by_from zero = refl
    by_from (suc n) = refl
span_none [] zero (suc to) h = absurd (omega (arith, h))
span_none [] (suc from) (suc to) h = refl
span_none (a ∷ x) zero (suc to) h = absurd (omega (arith, h))
span_none (a ∷ x) (suc from) (suc to) h = span_none x from to (omega (arith, h))

pub number_more : (x : List Bool) (from to : ℕ) (b : Bool) (n : ℕ) → from < to → to ≤ length x → b ≡ get_or x from false → n ≡ number_of (span x (from + 1) to)
    → (if b then 1 else 0) + 2 * n ≡ number_of (span x from to)
number_more x from to b n h k e f =
    let P : ℕ → Type 0 = λ t. n ≡ number_of (span x t to) in
    let g : n ≡ number_of (span x (suc from) to) = subst P (let q : from + 1 ≡ suc from = omega arith in q) f in
    ap (λ t. (if t then 1 else 0) + 2 * n) e ∙ ap (λ t. (if get_or x from false then 1 else 0) + 2 * t) g ∙ ap number_of (sym (span_first x from to h k))

pub span_split : (x : List Bool) (from mid to : ℕ) → from ≤ mid → mid ≤ to → to ≤ length x → span x from to ≡ span x from mid ++ span x mid to
span_split x zero zero to h k l = refl
span_split x (suc from) zero to h k l = absurd (omega (arith, h))
span_split x from (suc mid) zero h k l = absurd (omega (arith, k))
span_split [] from (suc mid) (suc to) h k l = absurd (omega (arith, l))
span_split (a ∷ x) zero (suc mid) (suc to) h k l = ap (λ t. a ∷ t) (span_split x zero mid to (omega arith) (omega (arith, k)) (omega (arith, l)))
span_split (a ∷ x) (suc from) (suc mid) (suc to) h k l = span_split x from mid to (omega (arith, h)) (omega (arith, k)) (omega (arith, l))

pub span_size : (x : List Bool) (from to : ℕ) → from ≤ to → to ≤ length x → length (span x from to) ≡ to - from
span_size x zero to h k = length-take-le to x k ∙ (let q : to ≡ to - 0 = omega arith in q)
span_size x (suc from) zero h k = absurd (omega (arith, h))
span_size [] (suc from) (suc to) h k = absurd (omega (arith, k))
span_size (a ∷ x) (suc from) (suc to) h k = span_size x from to (omega (arith, h)) (omega (arith, k)) ∙ (let q : to - from ≡ suc to - suc from = omega arith in q)

-- eight bits are a byte
pub packed_eight : (x y : List Bool) → length x ≡ 8 → packed (x ++ y) ≡ number_of x ∷ packed y
unfolding packed
packed_eight (a ∷ b ∷ c ∷ d ∷ e ∷ f ∷ g ∷ h ∷ []) y n = refl
packed_eight [] y n = absurd (omega (arith, n))
packed_eight (a ∷ []) y n = absurd (omega (arith, n))
packed_eight (a ∷ b ∷ []) y n = absurd (omega (arith, n))
packed_eight (a ∷ b ∷ c ∷ []) y n = absurd (omega (arith, n))
packed_eight (a ∷ b ∷ c ∷ d ∷ []) y n = absurd (omega (arith, n))
packed_eight (a ∷ b ∷ c ∷ d ∷ e ∷ []) y n = absurd (omega (arith, n))
packed_eight (a ∷ b ∷ c ∷ d ∷ e ∷ f ∷ []) y n = absurd (omega (arith, n))
packed_eight (a ∷ b ∷ c ∷ d ∷ e ∷ f ∷ g ∷ []) y n = absurd (omega (arith, n))
packed_eight (a ∷ b ∷ c ∷ d ∷ e ∷ f ∷ g ∷ h ∷ i ∷ x) y n = absurd (omega (arith, n))

pub packed_few : (x : List Bool) → 0 < length x → length x < 8 → packed x ≡ number_of x ∷ []
unfolding packed
packed_few [] h n = absurd (omega (arith, h))
packed_few (a ∷ []) h n = refl
packed_few (a ∷ b ∷ []) h n = refl
packed_few (a ∷ b ∷ c ∷ []) h n = refl
packed_few (a ∷ b ∷ c ∷ d ∷ []) h n = refl
packed_few (a ∷ b ∷ c ∷ d ∷ e ∷ []) h n = refl
packed_few (a ∷ b ∷ c ∷ d ∷ e ∷ f ∷ []) h n = refl
packed_few (a ∷ b ∷ c ∷ d ∷ e ∷ f ∷ g ∷ []) h n = refl
packed_few (a ∷ b ∷ c ∷ d ∷ e ∷ f ∷ g ∷ h' ∷ x) h n = absurd (omega (arith, n))

pub packed_none : packed [] ≡ []
unfolding packed
packed_none = refl

-- whole bytes first
pub pack_whole : (x : List Bool) (at to : ℕ) (done all : List ℕ) (n : ℕ) → at + 8 ≤ to → to ≤ length x → all ≡ done ++ packed (span x at to) → n ≡ number_of (span x at (at + 8))
    → all ≡ (done ++ n ∷ []) ++ packed (span x (at + 8) to)
pack_whole x at to done all n h k e f =
    let s : span x at to ≡ span x at (at + 8) ++ span x (at + 8) to = span_split x at (at + 8) to (omega arith) h k in
    let z : length (span x at (at + 8)) ≡ 8 = span_size x at (at + 8) (omega arith) (omega (arith, h, k)) ∙ (let q : at + 8 - at ≡ 8 = omega arith in q) in
    e ∙ ap (λ t. done ++ packed t) s ∙ ap (λ t. done ++ t) (packed_eight (span x at (at + 8)) (span x (at + 8) to) z)
    ∙ ap (λ t. done ++ t ∷ packed (span x (at + 8) to)) (sym f) ∙ sym (append_assoc done (n ∷ []) (packed (span x (at + 8) to)))

pub pack_part : (x : List Bool) (at to : ℕ) (done all : List ℕ) (n : ℕ) → at < to → to < at + 8 → to ≤ length x → all ≡ done ++ packed (span x at to) → n ≡ number_of (span x at to)
    → all ≡ done ++ n ∷ []
pack_part x at to done all n h j k e f =
    let z : length (span x at to) ≡ to - at = span_size x at to (omega (arith, h)) k in
    e ∙ ap (λ t. done ++ t) (packed_few (span x at to) (omega (arith, z, h)) (omega (arith, z, j))) ∙ ap (λ t. done ++ t ∷ []) (sym f)

pub pack_end : (x : List Bool) (at to : ℕ) (done all : List ℕ) → to ≤ at → all ≡ done ++ packed (span x at to) → all ≡ done
pack_end x at to done all h e = e ∙ ap (λ t. done ++ packed t) (span_none x at to h) ∙ ap (λ t. done ++ t) packed_none ∙ append-nil done

pub small_more : (n to at : ℕ) → 0 < at → at ≤ to → n < 2 ^ (to - at) → 1 + 2 * n < 2 ^ (to - (at - 1))
small_more n to at h k l =
    let P : ℕ → Type 0 = λ t. 1 + 2 * n < 2 ^ t in
    let q : suc (to - at) ≡ to - (at - 1) = omega (arith, h, k) in
    subst P q (let d : 2 ^ suc (to - at) ≡ 2 * 2 ^ (to - at) = omega arith in omega (arith, d, l))

pub number_down : (x : List Bool) (at to : ℕ) (b : Bool) (n : ℕ) → 0 < at → at ≤ to → to ≤ length x → b ≡ get_or x (at - 1) false → n ≡ number_of (span x at to)
    → (if b then 1 else 0) + 2 * n ≡ number_of (span x (at - 1) to)
number_down x at to b n h k l e f =
    let P : ℕ → Type 0 = λ t. n ≡ number_of (span x t to) in
    number_more x (at - 1) to b n (omega (arith, h, k)) l e (subst P (let q : at ≡ at - 1 + 1 = omega (arith, h) in q) f)

-- the last byte of packed bits has no bit but theirs
number_small : (x : List Bool) → number_of x < 2 ^ length x
number_small [] = omega arith
number_small (true ∷ x) = (let i : number_of x < 2 ^ length x = number_small x in let d : 2 ^ suc (length x) ≡ 2 * 2 ^ length x = omega arith in omega (arith, i, d))
number_small (false ∷ x) = (let i : number_of x < 2 ^ length x = number_small x in let d : 2 ^ suc (length x) ≡ 2 * 2 ^ length x = omega arith in omega (arith, i, d))

pub packed_any : (x : List Bool) → 0 < length x → 0 < length (packed x)
unfolding packed
packed_any [] h = absurd (omega (arith, h))
packed_any (a ∷ []) h = omega arith
packed_any (a ∷ b ∷ []) h = omega arith
packed_any (a ∷ b ∷ c ∷ []) h = omega arith
packed_any (a ∷ b ∷ c ∷ d ∷ []) h = omega arith
packed_any (a ∷ b ∷ c ∷ d ∷ e ∷ []) h = omega arith
packed_any (a ∷ b ∷ c ∷ d ∷ e ∷ f ∷ []) h = omega arith
packed_any (a ∷ b ∷ c ∷ d ∷ e ∷ f ∷ g ∷ []) h = omega arith
packed_any (a ∷ b ∷ c ∷ d ∷ e ∷ f ∷ g ∷ i ∷ x) h = omega arith

last_more : (n : ℕ) (xs : List ℕ) → 0 < length xs → last_byte (n ∷ xs) ≡ last_byte xs
last_more n [] h = absurd (omega (arith, h))
last_more n (b ∷ xs) h = ap (λ t. get_or (n ∷ b ∷ xs) t 0) (let e : length (n ∷ b ∷ xs) - 1 ≡ suc (length (b ∷ xs) - 1) = omega arith in e)

last_small : (x : List Bool) → 0 < length x % 8 → last_byte (packed x) < 2 ^ (length x % 8)
unfolding packed
last_small [] h = absurd (omega (arith, h))
last_small (a ∷ []) h = number_small (a ∷ [])
last_small (a ∷ b ∷ []) h = number_small (a ∷ b ∷ [])
last_small (a ∷ b ∷ c ∷ []) h = number_small (a ∷ b ∷ c ∷ [])
last_small (a ∷ b ∷ c ∷ d ∷ []) h = number_small (a ∷ b ∷ c ∷ d ∷ [])
last_small (a ∷ b ∷ c ∷ d ∷ e ∷ []) h = number_small (a ∷ b ∷ c ∷ d ∷ e ∷ [])
last_small (a ∷ b ∷ c ∷ d ∷ e ∷ f ∷ []) h = number_small (a ∷ b ∷ c ∷ d ∷ e ∷ f ∷ [])
last_small (a ∷ b ∷ c ∷ d ∷ e ∷ f ∷ g ∷ []) h = number_small (a ∷ b ∷ c ∷ d ∷ e ∷ f ∷ g ∷ [])
last_small (a ∷ b ∷ c ∷ d ∷ e ∷ f ∷ g ∷ i ∷ x) h =
    let n : ℕ = number_of (a ∷ b ∷ c ∷ d ∷ e ∷ f ∷ g ∷ i ∷ []) in
    let same : length x % 8 ≡ suc (suc (suc (suc (suc (suc (suc (suc (length x)))))))) % 8 = omega arith in
    let some : 0 < length x % 8 = omega (arith, same, h) in
    let any : 0 < length x = omega (arith, some) in
    let last : last_byte (n ∷ packed x) ≡ last_byte (packed x) = last_more n (packed x) (packed_any x any) in
    let P : ℕ → Type 0 = λ t. t < 2 ^ (length x % 8) in
    let Q : ℕ → Type 0 = λ t. last_byte (n ∷ packed x) < 2 ^ t in
    subst Q same (subst P (sym last) (last_small x some))

pub packed_tail : (x : List Bool) → IsBadTail (packed x) (length x % 8) → ⊥
packed_tail x (inl h) = omega (arith, h)
packed_tail x (inr (some, inl none)) = (let any : 0 < length x = omega (arith, some) in omega (arith, none, packed_any x any))
packed_tail x (inr (some, inr high)) = omega (arith, high, last_small x some)

-- the frame of a span
pub span_tail : (x : List Bool) (from to : ℕ) (bytes : List ℕ) → from ≤ to → to ≤ length x → bytes ≡ packed (span x from to) → IsBadTail bytes ((to - from) % 8) → ⊥
span_tail x from to bytes h k e bad =
    let P : List ℕ → Type 0 = λ b. IsBadTail b ((to - from) % 8) in
    let Q : ℕ → Type 0 = λ t. IsBadTail (packed (span x from to)) t in
    packed_tail (span x from to) (subst Q (ap (λ t. t % 8) (sym (span_size x from to h k))) (subst P e bad))

pub span_signal : (x : List Bool) (from to : ℕ) (bytes : List ℕ) → from ≤ to → to ≤ length x → bytes ≡ packed (span x from to) → signal A bytes ((to - from) % 8) ≡ of_bits A (span x from to)
span_signal x from to bytes h k e =
    ap (λ b. signal A b ((to - from) % 8)) e ∙ ap (λ t. signal A (packed (span x from to)) (t % 8)) (sym (span_size x from to h k))
