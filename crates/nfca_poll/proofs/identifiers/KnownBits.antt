-- The known bits of SDD_REQ.
use Rattle.std.proofs.Common.{◌≡◌, ℕ, suc, ◌+◌, ◌-◌, ◌*◌, ◌≤◌, List, [], ◌∷◌, length, take, drop, get_or, Bool, true, false, ◌==◌, ◌&&◌, nat_le, refl, sym, ◌∙◌, ap, subst, arith}
use Rattle.nfc_base.specs.Signal.{Signal}
use Rattle.nfc_base.specs.declared.frame.Tech.TheVariants.{A}
use Rattle.nfc_base.specs.Bits.{bits_of, bit_count, of_bits}
use Rattle.air_core.specs.Joint.{common}
use Rattle.nfc_base.proofs.Packing.{length_of_bits, take_whole}
use Rattle.nfca_poll.specs.Front.{begins}
use Rattle.nfca_poll.specs.Calls.{is_sdd, is_sdd_par, is_sel_cmd, known_count, known_bits}
use Rattle.std.proofs.lemmas.List.{length-drop, length-take-le}
use Rattle.nfca_poll.proofs.quiet.Clashes.{begins_right}

wrong : {X : Type 0} → false ≡ true → X
wrong h = absurd cc

and_both : (a b : Bool) → a && b ≡ true → (a ≡ true) × (b ≡ true)
and_both true b h = (refl, h)
and_both false b h = wrong h

sixteen : (bytes : List ℕ) (n : ℕ) → 2 ≤ length bytes → drop 16 (take (suc (suc (suc (suc (suc (suc (suc (suc (suc (suc (suc (suc (suc (suc (suc (suc n)))))))))))))))) (bits_of bytes))
    ≡ take n (bits_of (drop 2 bytes))
unfolding bits_of
sixteen [] n h = absurd (omega (arith, h))
sixteen (a ∷ []) n h = absurd (omega (arith, h))
sixteen (a ∷ b ∷ bytes) n h = refl

pub known_is : (bytes : List ℕ) (c n : ℕ) → 2 ≤ length bytes → c ≡ 16 + n → drop 16 (take c (bits_of bytes)) ≡ take n (bits_of (drop 2 bytes))
known_is bytes c n h e =
    ap (λ t. drop 16 (take t (bits_of bytes))) (let q : c ≡ suc (suc (suc (suc (suc (suc (suc (suc (suc (suc (suc (suc (suc (suc (suc (suc n))))))))))))))) = omega (arith, e) in q) ∙ sixteen bytes n h

begins_common : (p x : List Bool) → begins p x ≡ true → common p x ≡ p
begins_common [] x h = refl
begins_common (a ∷ p) [] h = wrong h
begins_common (true ∷ p) (true ∷ x) h = ap (λ t. true ∷ t) (begins_common p x h)
begins_common (true ∷ p) (false ∷ x) h = wrong h
begins_common (false ∷ p) (true ∷ x) h = wrong h
begins_common (false ∷ p) (false ∷ x) h = ap (λ t. false ∷ t) (begins_common p x h)

-- as many bits in common as are known: they begin the level
pub asks_is : (u x : List Bool) (n r : ℕ) → n ≤ length u → r ≤ n → take r u ≡ common (take n u) x → (r == n) ≡ begins (take n u) x
asks_is u x n r l k e = by_cases (r == n) refl (begins (take n u) x) refl
  where
    equal : (a b : ℕ) → (a == b) ≡ true → a ≡ b
    equal a b h = grind arith

    unequal : (a b : ℕ) → (a == b) ≡ false → a ≡ b → ⊥
    unequal a b h q = grind arith

    by_cases : (v : Bool) → (r == n) ≡ v → (w : Bool) → begins (take n u) x ≡ w → v ≡ w
    by_cases true h true q = refl
    by_cases false h false q = refl
    by_cases true h false q =
        let B : List Bool → Type 0 = λ t. begins t x ≡ true in
        wrong (sym q ∙ subst B (sym e ∙ ap (λ t. take t u) (equal r n h)) (begins_right (take n u) x))
    by_cases false h true q =
        let s : take r u ≡ take n u = e ∙ begins_common (take n u) x q in
        absurd (unequal r n h (sym (length-take-le r u (omega (arith, k, l))) ∙ ap length s ∙ length-take-le n u l))

-- the rest of a level
pub rest_is : (x p : List Bool) (n : ℕ) → length x ≡ 40 → length p ≡ n → of_bits A (drop n (take 40 x)) ≡ of_bits A (drop (length p) x)
rest_is x p n l e = ap (λ y. of_bits A (drop n y)) (take_whole x 40 (omega (arith, l))) ∙ ap (λ m. of_bits A (drop m x)) (sym e)

-- what is_sdd says
pub record SddFacts (f : Signal) (n : ℕ) : Type 0 where
  pub count : bit_count f ≡ 16 + n
  pub few : n ≤ 39
  pub two : 2 ≤ length f.bytes

pub sdd_facts : (f : Signal) → is_sdd f ≡ true → SddFacts f (known_count (get_or f.bytes 1 0))
sdd_facts f h =
    let b0 : ℕ = get_or f.bytes 0 0 in
    let par : ℕ = get_or f.bytes 1 0 in
    let last : _ × _ = and_both (nat_le 2 (length f.bytes) && is_sel_cmd b0 && is_sdd_par par) (bit_count f == 16 + known_count par) h in
    let middle : _ × _ = and_both (nat_le 2 (length f.bytes) && is_sel_cmd b0) (is_sdd_par par) last.0 in
    let first : _ × _ = and_both (nat_le 2 (length f.bytes)) (is_sel_cmd b0) middle.0 in
    record { count = equal (bit_count f) (16 + known_count par) last.1; few = par_few par middle.1; two = at_least 2 (length f.bytes) first.0 }
  where
    equal : (a b : ℕ) → (a == b) ≡ true → a ≡ b
    equal a b e = grind arith

    at_least : (a b : ℕ) → nat_le a b ≡ true → a ≤ b
    at_least a b e = grind arith

    par_few : (p : ℕ) → is_sdd_par p ≡ true → known_count p ≤ 39
    par_few p e = grind arith

pub known_at : (f : Signal) (n : ℕ) → SddFacts f n → bit_count f ≤ 8 * length f.bytes → (known_bits f ≡ take n (bits_of (drop 2 f.bytes))) × (length (known_bits f) ≡ n)
    × (n ≤ length (bits_of (drop 2 f.bytes)))
known_at f n s w =
    let c : bit_count f ≡ 16 + n = s.count in
    let e : known_bits f ≡ take n (bits_of (drop 2 f.bytes)) = known_is f.bytes (bit_count f) n s.two c in
    let d : length (drop 2 f.bytes) ≡ length f.bytes - 2 = length-drop 2 f.bytes in
    let l : n ≤ length (bits_of (drop 2 f.bytes)) = omega (arith, length_of_bits (drop 2 f.bytes), d, c, w) in
    (e, ap length e ∙ length-take-le n (bits_of (drop 2 f.bytes)) l, l)
