-- The bits of a frame of some bits, and what answers come to that are frames of bits.
use Rattle.std.proofs.Common.{◌≡◌, ℕ, suc, ◌+◌, ◌-◌, ◌*◌, ◌/◌, ◌%◌, ◌<◌, List, [], ◌∷◌, ◌++◌, length, map, take, Bool, true, false, ◌==◌, ◌&&◌, nat_eq, if◌then◌else◌, refl, sym, ◌∙◌, ap, subst, arith}
use Rattle.std.specs.Cmp.Lexicographic.{pointwise}
use Rattle.nfc_base.specs.declared.frame.Tech.TheVariants.{A}
use Rattle.nfc_base.specs.declared.event.Heard.{Heard}
use Rattle.nfc_base.specs.declared.event.Heard.TheVariants.{Whole, Collided, Silent}
use Rattle.nfc_base.specs.Signal.{Signal, signal}
use Rattle.nfc_base.specs.Bits.{bits, bits_of, bit_count, low_bits, number_of, packed, of_bits}
use Rattle.air_core.specs.Joint.{Joint, Nothing, Single, Clashing, joint, same_signal, all_same as all_frames, common_all}
use Rattle.nfca_poll.proofs.identifiers.Spans.{packed_any}
use Rattle.nfca_poll.proofs.quiet.Clashes.{wrong, same_bits, all_same, same_self, same_to_path, and_both, and_make}

low_number : (x : List Bool) → low_bits (length x) (number_of x) ≡ x
low_number [] = refl
low_number (true ∷ x) =
    let m : ℕ = number_of x in
    ap (λ t. (t == 1) ∷ low_bits (length x) ((1 + 2 * m) / 2)) (let q : (1 + 2 * m) % 2 ≡ 1 = omega arith in q)
    ∙ ap (λ t. true ∷ low_bits (length x) t) (let q : (1 + 2 * m) / 2 ≡ m = omega arith in q) ∙ ap (λ t. true ∷ t) (low_number x)
low_number (false ∷ x) =
    let m : ℕ = number_of x in
    ap (λ t. (t == 1) ∷ low_bits (length x) ((0 + 2 * m) / 2)) (let q : (0 + 2 * m) % 2 ≡ 0 = omega arith in q)
    ∙ ap (λ t. false ∷ low_bits (length x) t) (let q : (0 + 2 * m) / 2 ≡ m = omega arith in q) ∙ ap (λ t. false ∷ t) (low_number x)

pub unpacked : (x : List Bool) → take (length x) (bits_of (packed x)) ≡ x
unfolding packed bits_of
unpacked [] = refl
unpacked (a ∷ []) = low_number (a ∷ [])
unpacked (a ∷ b ∷ []) = low_number (a ∷ b ∷ [])
unpacked (a ∷ b ∷ c ∷ []) = low_number (a ∷ b ∷ c ∷ [])
unpacked (a ∷ b ∷ c ∷ d ∷ []) = low_number (a ∷ b ∷ c ∷ d ∷ [])
unpacked (a ∷ b ∷ c ∷ d ∷ e ∷ []) = low_number (a ∷ b ∷ c ∷ d ∷ e ∷ [])
unpacked (a ∷ b ∷ c ∷ d ∷ e ∷ f ∷ []) = low_number (a ∷ b ∷ c ∷ d ∷ e ∷ f ∷ [])
unpacked (a ∷ b ∷ c ∷ d ∷ e ∷ f ∷ g ∷ []) = low_number (a ∷ b ∷ c ∷ d ∷ e ∷ f ∷ g ∷ [])
unpacked (a ∷ b ∷ c ∷ d ∷ e ∷ f ∷ g ∷ h ∷ x) = ap (λ t. take (length (a ∷ b ∷ c ∷ d ∷ e ∷ f ∷ g ∷ h ∷ x)) (t ++ bits_of (packed x))) (low_number (a ∷ b ∷ c ∷ d ∷ e ∷ f ∷ g ∷ h ∷ []))
    ∙ ap (λ t. a ∷ b ∷ c ∷ d ∷ e ∷ f ∷ g ∷ h ∷ t) (unpacked x)

not_zero : (k : ℕ) → (k == 0) ≡ false → 0 < k
not_zero k q = grind arith

-- eight bits more are a byte more
eight_more : (n k r : ℕ) → (if n % 8 == 0 then 8 * k else 8 * (k - 1) + n % 8) ≡ n → r ≡ n % 8 → (0 < n → 0 < k)
    → (if r == 0 then 8 * suc k else 8 * (suc k - 1) + r) ≡ suc (suc (suc (suc (suc (suc (suc (suc n)))))))
eight_more n k r i e f = by_rest (n % 8 == 0) refl
  where
    by_rest : (v : Bool) → (n % 8 == 0) ≡ v → (if r == 0 then 8 * suc k else 8 * (suc k - 1) + r) ≡ suc (suc (suc (suc (suc (suc (suc (suc n)))))))
    by_rest true q =
        let whole : 8 * k ≡ n = ap (λ v. if v then 8 * k else 8 * (k - 1) + n % 8) (sym q) ∙ i in
        ap (λ t. if t == 0 then 8 * suc k else 8 * (suc k - 1) + t) e ∙ ap (λ v. if v then 8 * suc k else 8 * (suc k - 1) + n % 8) q
        ∙ (let z : 8 * suc k ≡ suc (suc (suc (suc (suc (suc (suc (suc n))))))) = omega (arith, whole) in z)
    by_rest false q =
        let part : 8 * (k - 1) + n % 8 ≡ n = ap (λ v. if v then 8 * k else 8 * (k - 1) + n % 8) (sym q) ∙ i in
        let some : 0 < n % 8 = not_zero (n % 8) q in
        let any : 0 < n = omega (arith, some) in
        let more : 0 < k = f any in
        ap (λ t. if t == 0 then 8 * suc k else 8 * (suc k - 1) + t) e ∙ ap (λ v. if v then 8 * suc k else 8 * (suc k - 1) + n % 8) q
        ∙ (let z : 8 * (suc k - 1) + n % 8 ≡ suc (suc (suc (suc (suc (suc (suc (suc n))))))) = omega (arith, part, more) in z)

pub count_packed : (x : List Bool) → bit_count (of_bits A x) ≡ length x
unfolding packed
count_packed [] = refl
count_packed (a ∷ []) = refl
count_packed (a ∷ b ∷ []) = refl
count_packed (a ∷ b ∷ c ∷ []) = refl
count_packed (a ∷ b ∷ c ∷ d ∷ []) = refl
count_packed (a ∷ b ∷ c ∷ d ∷ e ∷ []) = refl
count_packed (a ∷ b ∷ c ∷ d ∷ e ∷ f ∷ []) = refl
count_packed (a ∷ b ∷ c ∷ d ∷ e ∷ f ∷ g ∷ []) = refl
count_packed (a ∷ b ∷ c ∷ d ∷ e ∷ f ∷ g ∷ h ∷ x) = eight_more (length x) (length (packed x)) (suc (suc (suc (suc (suc (suc (suc (suc (length x)))))))) % 8) (count_packed x) (omega arith)
    (packed_any x)

pub bits_back : (x : List Bool) → bits (of_bits A x) ≡ x
bits_back x = ap (λ t. take t (bits_of (packed x))) (count_packed x) ∙ unpacked x

-- frames of bits are the same where the bits are
pub pointwise_same : (x : List ℕ) → pointwise nat_eq x x ≡ true
pointwise_same [] = refl
pointwise_same (b ∷ x) = and_make (nat_eq b b) (pointwise nat_eq x x) (eq_same b) (pointwise_same x)
  where
    eq_same : (k : ℕ) → nat_eq k k ≡ true
    eq_same k = grind arith

pub pointwise_path : (x y : List ℕ) → pointwise nat_eq x y ≡ true → x ≡ y
pointwise_path [] [] h = refl
pointwise_path [] (b ∷ y) h = wrong h
pointwise_path (a ∷ x) [] h = wrong h
pointwise_path (a ∷ x) (b ∷ y) h =
    let p : _ × _ = and_both (nat_eq a b) (pointwise nat_eq x y) h in
    ap (λ t. t ∷ x) (equal a b p.0) ∙ ap (λ t. b ∷ t) (pointwise_path x y p.1)
  where
    equal : (n k : ℕ) → nat_eq n k ≡ true → n ≡ k
    equal n k q = grind arith

eq_self : (n : ℕ) → (n == n) ≡ true
eq_self n = grind arith

eq_path : (n k : ℕ) → (n == k) ≡ true → n ≡ k
eq_path n k q = grind arith

pub signal_self : (f : Signal) → f.tech ≡ A → same_signal f f ≡ true
signal_self f t =
    let P : _ → Type 0 = λ u. same_signal (signal u f.bytes f.tail) (signal u f.bytes f.tail) ≡ true in
    subst P (sym t) (and_make (f.tail == f.tail) (pointwise nat_eq f.bytes f.bytes) (eq_self f.tail) (pointwise_same f.bytes))

signals_by : (x y : List Bool) (v : Bool) → same_bits x y ≡ v → (w : Bool) → same_signal (of_bits A x) (of_bits A y) ≡ w → w ≡ v
signals_by x y true h true k = refl
signals_by x y false h false k = refl
signals_by x y true h false k =
    let P : List Bool → Type 0 = λ t. same_signal (of_bits A x) (of_bits A t) ≡ true in
    sym k ∙ subst P (same_to_path x y h) (signal_self (of_bits A x) refl)
signals_by x y false h true k =
    let p : _ × _ = and_both (length x % 8 == length y % 8) (pointwise nat_eq (packed x) (packed y)) k in
    let b : packed x ≡ packed y = pointwise_path (packed x) (packed y) p.1 in
    let t : length x % 8 ≡ length y % 8 = eq_path (length x % 8) (length y % 8) p.0 in
    let S : List ℕ → ℕ → List Bool = λ u v. bits (signal A u v) in
    let q : x ≡ y = sym (bits_back x) ∙ ap (λ u. S u (length x % 8)) b ∙ ap (S (packed y)) t ∙ bits_back y in
    let P : List Bool → Type 0 = λ z. same_bits x z ≡ true in
    sym (subst P q (same_self x)) ∙ h

signals_same : (x y : List Bool) → same_signal (of_bits A x) (of_bits A y) ≡ same_bits x y
signals_same x y = signals_by x y (same_bits x y) refl (same_signal (of_bits A x) (of_bits A y)) refl

all_signals : (x : List Bool) (xs : List (List Bool)) → all_frames (of_bits A x) (map (of_bits A) xs) ≡ all_same x xs
all_signals x [] = refl
all_signals x (y ∷ ys) = ap (λ t. t && all_frames (of_bits A x) (map (of_bits A) ys)) (signals_same x y) ∙ ap (λ t. same_bits x y && t) (all_signals x ys)

all_bits : (xs : List (List Bool)) → map bits (map (of_bits A) xs) ≡ xs
all_bits [] = refl
all_bits (x ∷ xs) = ap (λ t. t ∷ map bits (map (of_bits A) xs)) (bits_back x) ∙ ap (λ t. x ∷ t) (all_bits xs)

-- what is heard of a turn without noise
abbrev pub heard_of : Joint → Heard
heard_of Nothing = Silent
heard_of (Single g) = Whole g
heard_of (Clashing g) = Collided g

-- what is heard where these bits are answered
abbrev pub heard_bits : List (List Bool) → Heard
heard_bits [] = Silent
heard_bits (x ∷ xs) = if all_same x xs then Whole (of_bits A x) else Collided (of_bits A (common_all x xs))

pub joint_bits : (xs : List (List Bool)) → heard_of (joint (map (of_bits A) xs)) ≡ heard_bits xs
joint_bits [] = refl
joint_bits (x ∷ xs) =
    let K : List Bool → Joint = λ t. Clashing (of_bits A t) in
    ap (λ v. heard_of (if v then Single (of_bits A x) else Clashing (of_bits A (common_all (bits (of_bits A x)) (map bits (map (of_bits A) xs)))))) (all_signals x xs)
    ∙ ap (λ t. heard_of (if all_same x xs then Single (of_bits A x) else K (common_all t (map bits (map (of_bits A) xs))))) (bits_back x)
    ∙ ap (λ t. heard_of (if all_same x xs then Single (of_bits A x) else K (common_all x t))) (all_bits xs)
    ∙ spread (all_same x xs)
  where
    spread : (v : Bool) → heard_of (if v then Single (of_bits A x) else Clashing (of_bits A (common_all x xs))) ≡ (if v then Whole (of_bits A x) else Collided (of_bits A (common_all x xs)))
    spread true = refl
    spread false = refl
