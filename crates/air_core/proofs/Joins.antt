-- One answer more.
use Rattle.std.proofs.Common.{◌≡◌, ℕ, List, [], ◌∷◌, map, Bool, true, false, nat_eq, ◌==◌, ◌&&◌, if◌then◌else◌, refl, sym, ◌∙◌, ap, arith}
use Rattle.std.specs.Cmp.Lexicographic.{pointwise}
use Rattle.nfc_base.specs.Signal.{Signal}
use Rattle.nfc_base.specs.Bits.{bits, of_bits}
use Rattle.air_core.specs.Joint.{Joint, Single, Clashing, joint, same_tech, same_signal, common, common_all, all_same}

equal_of : (m n : ℕ) → (m == n) ≡ true → m ≡ n
equal_of m n h = grind arith

left_of : (a b : Bool) → (a && b) ≡ true → a ≡ true
left_of true b h = refl
left_of false b h = h

right_of : (a b : Bool) → (a && b) ≡ true → b ≡ true
right_of true b h = h
right_of false b h = absurd cc

equal_bytes : (x y : List ℕ) → pointwise nat_eq x y ≡ true → x ≡ y
equal_bytes [] [] h = refl
equal_bytes [] (b ∷ y) h = absurd cc
equal_bytes (a ∷ x) [] h = absurd cc
equal_bytes (a ∷ x) (b ∷ y) h =
    let e : a ≡ b = equal_of a b (left_of (a == b) (pointwise nat_eq x y) h) in
    let r : x ≡ y = equal_bytes x y (right_of (a == b) (pointwise nat_eq x y) h) in
    ap (λ t. t ∷ x) e ∙ ap (λ t. b ∷ t) r

same_bits : (f g : Signal) → same_signal f g ≡ true → bits f ≡ bits g
same_bits f g h =
    let front : (same_tech f.tech g.tech && (f.tail == g.tail)) ≡ true = left_of (same_tech f.tech g.tech && (f.tail == g.tail)) (pointwise nat_eq f.bytes g.bytes) h in
    let t : f.tail ≡ g.tail = equal_of f.tail g.tail (right_of (same_tech f.tech g.tech) (f.tail == g.tail) front) in
    let b : f.bytes ≡ g.bytes = equal_bytes f.bytes g.bytes (right_of (same_tech f.tech g.tech && (f.tail == g.tail)) (pointwise nat_eq f.bytes g.bytes) h) in
    ap (λ n. bits (record { tech = f.tech; bytes = f.bytes; tail = n })) t ∙ ap (λ xs. bits (record { tech = g.tech; bytes = xs; tail = g.tail })) b

common_same : (x : List Bool) → common x x ≡ x
common_same [] = refl
common_same (true ∷ x) = ap (λ t. true ∷ t) (common_same x)
common_same (false ∷ x) = ap (λ t. false ∷ t) (common_same x)

-- an answer like the first one changes nothing
pub joint_alike : (f g : Signal) (more : List Signal) → same_signal f g ≡ true → joint (f ∷ more) ≡ joint (f ∷ g ∷ more)
joint_alike f g more h =
    let one : common (bits f) (bits g) ≡ bits f = ap (common (bits f)) (sym (same_bits f g h)) ∙ common_same (bits f) in
    let J : Bool → List Bool → Joint = λ v x. if v then Single f else Clashing (of_bits f.tech (common_all x (map bits more))) in
    ap (λ v. J (v && all_same f more) (bits f)) (sym h) ∙ ap (J (same_signal f g && all_same f more)) (sym one)
