-- Tests on bytes, and what they tell.
use Rattle.std.proofs.Common.{◌≡◌, ℕ, ◌≤◌, List, [], ◌∷◌, Bool, true, false, nat_eq, nat_le, ◌==◌, ◌&&◌, if◌then◌else◌, Option, Some, None, IsNone, ◌↔◌, refl, ◌∙◌, ap, arith}
use Rattle.std.specs.Cmp.Lexicographic.{pointwise}

pub equal_of : (m n : ℕ) → (m == n) ≡ true → m ≡ n
equal_of m n h = grind arith

pub same_number : (n : ℕ) → (n == n) ≡ true
same_number n = grind arith

pub at_most : (m n : ℕ) → nat_le m n ≡ true → m ≤ n
at_most m n h = grind arith

pub is_at_most : (m n : ℕ) → m ≤ n → nat_le m n ≡ true
is_at_most m n h = grind arith

pub left_of : (a b : Bool) → (a && b) ≡ true → a ≡ true
left_of true b h = refl
left_of false b h = h

pub right_of : (a b : Bool) → (a && b) ≡ true → b ≡ true
right_of true b h = h
right_of false b h = absurd cc

pub equal_bytes : (x y : List ℕ) → pointwise nat_eq x y ≡ true → x ≡ y
equal_bytes [] [] h = refl
equal_bytes [] (b ∷ y) h = absurd cc
equal_bytes (a ∷ x) [] h = absurd cc
equal_bytes (a ∷ x) (b ∷ y) h =
    let e : a ≡ b = equal_of a b (left_of (a == b) (pointwise nat_eq x y) h) in
    let r : x ≡ y = equal_bytes x y (right_of (a == b) (pointwise nat_eq x y) h) in
    ap (λ t. t ∷ x) e ∙ ap (λ t. b ∷ t) r

pub bytes_self : (xs : List ℕ) → pointwise nat_eq xs xs ≡ true
bytes_self [] = refl
bytes_self (x ∷ xs) = ap (λ v. v && pointwise nat_eq xs xs) (same_number x) ∙ bytes_self xs

-- what a choice gives is given by one of its two sides
pub by_if : {X : Type 0} (v : Bool) (o p : Option X) (x : X) (G : Type 0) → (v ≡ true → o ≡ Some x → G) → (v ≡ false → p ≡ Some x → G) → (if v then o else p) ≡ Some x → G
by_if true o p x G yes_case no_case e = yes_case refl e
by_if false o p x G yes_case no_case e = no_case refl e

-- what is read is nothing just where nothing is spelled
pub none_by : {X : Type 0} (Spells : X → Type 0) (o : Option X) → ((x : X) → (o ≡ Some x) ↔ Spells x) → IsNone o ↔ ((x : X) → ¬ Spells x)
none_by Spells None exact = ((λ n x is. let e : None ≡ Some x = (exact x).1 is in cc), (λ none. refl))
none_by Spells (Some x) exact = ((λ n. cc), (λ none. absurd (none x ((exact x).0 refl))))
