-- What the table says of a first unit, and whether it is a put.
use Rattle.std.proofs.Common.{◌≡◌, ◌≢◌, ◌<◌, ◌≤◌, nat_lt, ℕ, ◌+◌, ◌-◌, ◌/◌, ◌==◌, false, List, [], ◌∷◌, length, sym, arith, if◌then◌else◌}
use Rattle.std.proofs.lemmas.Bool.{eqb-true, ltb-true}
use Rattle.std.proofs.lemmas.Bool.Decides.{nat_tests}
use Rattle.llcp_link.proofs.Clients.{not_equal}
use Rattle.llcp_link.proofs.Ranged.{either}
use Rattle.snep_core.specs.declared.message.Answer.TheVariants as answers
use Rattle.snep_core.specs.declared.message.Request.TheVariants.{Get, Put}
use Rattle.snep_core.specs.declared.first.First.{First}
use Rattle.snep_core.specs.declared.first.First.TheVariants.{Says, GoesOn, Drops, Whole, Partly}
use Rattle.snep_core.specs.Message.{put_code, reject_code, number}
use Rattle.snep_core.specs.First.{info_of, by_size, bare, by_code, first_of}
use Rattle.snep_core.specs.Puts.{IsPut, length_of}

-- it puts nothing as a group of its own
abbrev pub PutsNothing : ℕ → List ℕ → Type 0
PutsNothing limit u = IsPut u → length (info_of u) ≡ length_of u → length_of u ≤ limit → ⊥

-- so much of its information is still to come
abbrev pub Lacks : List ℕ → ℕ → Type 0
Lacks u n = (n + length (info_of u) ≡ length_of u) × (0 < n)

-- what the first row that applies tells of a first unit
abbrev pub Look : ℕ → List ℕ → First → Type 0
Look limit u (Whole Put) = IsPut u × (length (info_of u) ≡ length_of u) × (length_of u ≤ limit)
Look limit u (Whole Get) = PutsNothing limit u
Look limit u (Partly Put n) = (IsPut u × (length_of u ≤ limit)) × Lacks u n
Look limit u (Partly Get n) = (IsPut u → ⊥) × Lacks u n
Look limit u (Says answer) = PutsNothing limit u
Look limit u GoesOn = PutsNothing limit u
Look limit u Drops = PutsNothing limit u

-- behind a whole header
abbrev head : ℕ → ℕ → ℕ → ℕ → ℕ → ℕ → List ℕ → List ℕ
head v c a b d e info = v ∷ c ∷ a ∷ b ∷ d ∷ e ∷ info

pub not_less : (m n : ℕ) → nat_lt m n ≡ false → n ≤ m
not_less m n h = grind (arith, nat_tests)

left_is : (said there : ℕ) → nat_lt said there ≡ false → (said == there) ≡ false → ((said - there) + there ≡ said) × (0 < said - there)
left_is said there h k =
    let a : there ≤ said = not_less said there h in
    let b : said ≢ there = not_equal said there k in
    let c : there < said = grind arith in (omega arith, omega arith)

look_bare : (limit : ℕ) (u : List ℕ) (said there : ℕ) (f : First) → (IsPut u → ⊥) → Look limit u f → Look limit u (bare said there f)
look_bare limit u said there f p h =
    either (Look limit u) (said == 0) _ _ (λ e. either (Look limit u) (there == 0) _ _ (λ e. h) (λ e a b c. p a)) (λ e a b c. p a)

look_put : (limit v c a b d e : ℕ) (info : List ℕ) → v / 16 ≡ 1 → c ≡ put_code
    → Look limit (head v c a b d e info) (if nat_lt limit (number a b d e) then Says answers.Reject else by_size Put (number a b d e) (length info))
look_put limit v c a b d e info hv hc =
    let n = number a b d e in
    let u = head v c a b d e info in
    either (Look limit u) (nat_lt limit n) _ _
    (λ t x y z. (let q : limit < n = ltb-true limit n t in omega arith))
    (λ t. either (Look limit u) (nat_lt n (length info)) _ _
    (λ s x y z. (let q : n < length info = ltb-true n (length info) s in omega arith))
    (λ s. either (Look limit u) (n == length info) _ _
    (λ r. ((hv, hc), sym (eqb-true n (length info) r), not_less limit n t))
    (λ r. (((hv, hc), not_less limit n t), left_is n (length info) s r))))

look_get : (limit : ℕ) (u : List ℕ) → (IsPut u → ⊥)
    → Look limit u (if nat_lt (length_of u) 4 then Says answers.BadRequest else if nat_lt limit (length_of u - 4) then Says answers.Reject else by_size Get (length_of u) (length (info_of u)))
look_get limit u p =
    either (Look limit u) (nat_lt (length_of u) 4) _ _ (λ t x y z. p x)
    (λ t. either (Look limit u) (nat_lt limit (length_of u - 4)) _ _ (λ t x y z. p x)
    (λ t. either (Look limit u) (nat_lt (length_of u) (length (info_of u))) _ _ (λ s x y z. p x)
    (λ s. either (Look limit u) (length_of u == length (info_of u)) _ _ (λ r x y z. p x)
    (λ r. (p, left_is (length_of u) (length (info_of u)) s r)))))

look_code : (limit v c a b d e : ℕ) (info : List ℕ) → v / 16 ≡ 1 → Look limit (head v c a b d e info) (by_code limit c (number a b d e) (length info))
look_code limit v c a b d e info hv =
    let n = number a b d e in
    let u = head v c a b d e info in
    either (Look limit u) (c == 0) _ _
    (λ t. look_bare limit u n (length info) GoesOn (λ x. (let z : c ≡ 0 = eqb-true c 0 t in let y : c ≡ 2 = x.1 in omega arith))
    (λ x y z. (let w : c ≡ 0 = eqb-true c 0 t in let q : c ≡ 2 = x.1 in omega arith)))
    (λ t. either (Look limit u) (c == 1) _ _
    (λ t. look_get limit u (λ x. (let z : c ≡ 1 = eqb-true c 1 t in let y : c ≡ 2 = x.1 in omega arith)))
    (λ t. either (Look limit u) (c == put_code) _ _
    (λ t. look_put limit v c a b d e info hv (eqb-true c put_code t))
    (λ s. either (Look limit u) (c == reject_code) _ _
    (λ t. look_bare limit u n (length info) Drops (λ x. not_equal c put_code s x.1) (λ x y z. not_equal c put_code s x.1))
    (λ t x y z. not_equal c put_code s x.1))))

pub look : (limit : ℕ) (u : List ℕ) → Look limit u (first_of limit u)
look limit [] = λ a b c. a
look limit (v ∷ []) = λ a b c. a
look limit (v ∷ c ∷ []) = λ a b c. a
look limit (v ∷ c ∷ a ∷ []) = λ a b c. a
look limit (v ∷ c ∷ a ∷ b ∷ []) = λ a b c. a
look limit (v ∷ c ∷ a ∷ b ∷ d ∷ []) = λ a b c. a
look limit (v ∷ c ∷ a ∷ b ∷ d ∷ e ∷ info) =
    either (Look limit (head v c a b d e info)) (v / 16 == 1) _ _
    (λ t. look_code limit v c a b d e info (eqb-true (v / 16) 1 t))
    (λ t x y z. not_equal (v / 16) 1 t x.0)
