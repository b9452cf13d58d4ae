-- Tests on bytes, and what they tell.
use Rattle.std.proofs.Common.{◌≡◌, ◌≢◌, ℕ, ◌+◌, ◌*◌, ◌/◌, ◌%◌, ◌<◌, ◌≤◌, slice_index, List, [], ◌∷◌, ◌++◌, length, take, drop, Bool, true, false, nat_eq, nat_le, ◌==◌, ◌&&◌, if◌then◌else◌, Option}
use Rattle.std.proofs.Common.{Some, None, IsNone, ◌↔◌, refl, sym, ◌∙◌, ap, subst, arith}
use Rattle.std.specs.Cmp.Lexicographic.{pointwise}
use Rattle.std.proofs.lemmas.List.{get_or-drop, length-append, length-take-le, take-append-drop}
use Rattle.std.proofs.Math.Seq.{take-append_seam, drop-append_seam}
use Rattle.t3t_tag.specs.Store.{id_size}
use Rattle.nfc_base.specs.declared.frame.Tech.{Tech}
use Rattle.nfc_base.specs.declared.frame.Tech.TheVariants.{A, V, F}
use Rattle.nfc_base.specs.Signal.{Signal, signal, whole_f}
use Rattle.t3t_tag.specs.Spelling.{two_bytes, pair, is_nfc_f, is_whole_f}
use Rattle.t3t_tag.specs.Reading.{behind_id}

pub equal_of : (m n : ℕ) → (m == n) ≡ true → m ≡ n
equal_of m n h = grind arith

pub is_equal : (m n : ℕ) → m ≡ n → (m == n) ≡ true
is_equal m n h = grind arith

pub other_of : (m n : ℕ) → (m == n) ≡ false → m ≢ n
other_of m n h e = absurd (let same : (m == n) ≡ true = is_equal m n e in cc)

pub is_other : (m n : ℕ) → m ≢ n → (m == n) ≡ false
is_other m n h = by_value (m == n) refl
  where
    by_value : (v : Bool) → (m == n) ≡ v → v ≡ false
    by_value true e = absurd (h (equal_of m n e))
    by_value false e = refl

pub same_number : (n : ℕ) → (n == n) ≡ true
same_number n = grind arith

pub at_most : (m n : ℕ) → nat_le m n ≡ true → m ≤ n
at_most m n h = grind arith

pub is_at_most : (m n : ℕ) → m ≤ n → nat_le m n ≡ true
is_at_most m n h = grind arith

pub left_of : (a b : Bool) → (a && b) ≡ true → a ≡ true
left_of true b h = refl
left_of false b h = h

pub right_of : (a b : Bool) → (a && b) ≡ true → b ≡ true
right_of true b h = h
right_of false b h = absurd cc

of_nfc_f : (t : Tech) → is_nfc_f t ≡ true → t ≡ F
of_nfc_f A h = absurd cc
of_nfc_f V h = absurd cc
of_nfc_f F h = refl

-- a whole NFC-F frame is that of its bytes
pub whole_frame : (f : Signal) (bytes : List ℕ) → is_whole_f f ≡ true → f.bytes ≡ bytes → f ≡ whole_f bytes
whole_frame f bytes h b =
    ap (λ x. signal x f.bytes f.tail) (of_nfc_f f.tech (left_of (is_nfc_f f.tech) (f.tail == 0) h))
    ∙ ap (λ n. signal F f.bytes n) (equal_of f.tail 0 (right_of (is_nfc_f f.tech) (f.tail == 0) h))
    ∙ ap whole_f b

pub both_of : (a b : Bool) → a ≡ true → b ≡ true → (a && b) ≡ true
both_of true b h k = k
both_of false b h k = h

pub equal_bytes : (x y : List ℕ) → pointwise nat_eq x y ≡ true → x ≡ y
equal_bytes [] [] h = refl
equal_bytes [] (b ∷ y) h = absurd cc
equal_bytes (a ∷ x) [] h = absurd cc
equal_bytes (a ∷ x) (b ∷ y) h =
    let e : a ≡ b = equal_of a b (left_of (a == b) (pointwise nat_eq x y) h) in
    let r : x ≡ y = equal_bytes x y (right_of (a == b) (pointwise nat_eq x y) h) in
    ap (λ t. t ∷ x) e ∙ ap (λ t. b ∷ t) r

pub bytes_self : (xs : List ℕ) → pointwise nat_eq xs xs ≡ true
bytes_self [] = refl
bytes_self (x ∷ xs) = ap (λ v. v && pointwise nat_eq xs xs) (same_number x) ∙ bytes_self xs

-- what a choice gives is given by one of its two sides
pub by_if : {X : Type 0} (v : Bool) (o p : Option X) (x : X) (G : Type 0) → (v ≡ true → o ≡ Some x → G) → (v ≡ false → p ≡ Some x → G) → (if v then o else p) ≡ Some x → G
by_if true o p x G yes_case no_case e = yes_case refl e
by_if false o p x G yes_case no_case e = no_case refl e

-- what is read is nothing just where nothing is spelled
pub none_by : {X : Type 0} (Spells : X → Type 0) (o : Option X) → ((x : X) → (o ≡ Some x) ↔ Spells x) → IsNone o ↔ ((x : X) → ¬ Spells x)
none_by Spells None exact = ((λ n x is. let e : None ≡ Some x = (exact x).1 is in cc), (λ none. refl))
none_by Spells (Some x) exact = ((λ n. cc), (λ none. absurd (none x ((exact x).0 refl))))

-- bytes
abbrev pub AreBytes : List ℕ → Type 0
AreBytes bytes = (i : ℕ) → slice_index bytes i < 256

pub bytes_behind : (n : ℕ) (bytes : List ℕ) → AreBytes bytes → AreBytes (drop n bytes)
bytes_behind n bytes small i = subst (λ k. k < 256) (sym (get_or-drop n bytes i 0)) (small (n + i))

-- two bytes are those of the number that they stand for
pub two_bytes_of : (high low : ℕ) → low < 256 → two_bytes (pair high low) ≡ high ∷ low ∷ []
two_bytes_of high low small =
    let a : (high * 256 + low) / 256 ≡ high = omega (arith, small) in
    let b : (high * 256 + low) % 256 ≡ low = omega (arith, small) in
    ap (λ n. n ∷ (high * 256 + low) % 256 ∷ []) a ∙ ap (λ n. high ∷ n ∷ []) b

pub pair_of : (n : ℕ) → pair (n / 256) (n % 256) ≡ n
pair_of n = omega arith

-- what is read behind an identifier stands behind one
pub behind_told : {X : Type 0} (read : List ℕ → List ℕ → Option X) (rest : List ℕ) (x : X) (P : List ℕ → Type 0) → AreBytes rest
    → ((id behind : List ℕ) → length id ≡ id_size → AreBytes behind → read id behind ≡ Some x → P (id ++ behind))
    → behind_id read rest ≡ Some x → P rest
behind_told read rest x P small within =
    by_if (nat_le id_size (length rest)) (read (take id_size rest) (drop id_size rest)) None x (P rest)
    (λ h e.
    let size : length (take id_size rest) ≡ id_size = length-take-le id_size rest (at_most id_size (length rest) h) in
    subst P (take-append-drop id_size rest) (within (take id_size rest) (drop id_size rest) size (bytes_behind id_size rest small) e))
    (λ h e. cc)

pub front_of : (id rest : List ℕ) → length id ≡ id_size → take id_size (id ++ rest) ≡ id
front_of id rest size = ap (λ n. take n (id ++ rest)) (sym size) ∙ take-append_seam id rest

pub rest_of : (id rest : List ℕ) → length id ≡ id_size → drop id_size (id ++ rest) ≡ rest
rest_of id rest size = ap (λ n. drop n (id ++ rest)) (sym size) ∙ drop-append_seam id rest

-- and what stands behind an identifier is read
pub behind_reads : {X : Type 0} (read : List ℕ → List ℕ → Option X) (id rest : List ℕ) → length id ≡ id_size → behind_id read (id ++ rest) ≡ read id rest
behind_reads read id rest size =
    let whole : List ℕ = id ++ rest in
    let enough : nat_le id_size (length whole) ≡ true = is_at_most id_size (length whole) (omega (arith, size, length-append id rest)) in
    ap (λ v. if v then read (take id_size whole) (drop id_size whole) else None) enough
    ∙ ap (λ t. read t (drop id_size whole)) (front_of id rest size)
    ∙ ap (λ t. read id t) (rest_of id rest size)
