-- The crowd: the devices of a field, in order, each once; and which one is the next of it.
use Rattle.std.proofs.Common.{◌≡◌, ◌≢◌, ◌⊎◌, ℕ, ◌+◌, List, [], ◌∷◌, ◌++◌, length, map, take, drop, Bool, true, false, ◌||◌, if◌then◌else◌, inl, inr, refl, sym, ◌∙◌, ap, subst, arith}
use Rattle.std.specs.List.{list_any}
use Rattle.std.proofs.lemmas.List.{length-append}
use Rattle.std.proofs.Math.Seq.{take-append_seam}
use Rattle.nfc_base.specs.Bits.{bits_of}
use Rattle.nfca_poll.specs.declared.fault.Picked.{Picked}
use Rattle.nfca_poll.specs.Ident.{IsIdent}
use Rattle.nfca_poll.specs.Levels.{levels, identifier}
use Rattle.nfca_poll.specs.Crowd.{Card, Each, ahead, crowd_bits, level_bits_of, AreDistinct}
use Rattle.nfca_poll.specs.Rounds.{is_same, has_found}
use Rattle.nfca_poll.specs.Crowd.{picked_of, put_by, crowd}
use Rattle.nfca_poll.proofs.quiet.Clashes.{wrong, Has}
use Rattle.nfca_poll.proofs.quiet.Eaches.{each_map, each_has}
use Rattle.nfca_poll.proofs.identifiers.HeardBits.{pointwise_same, pointwise_path}
use Rattle.nfca_poll.proofs.identifiers.LevelFacts.{IsLevel, IsLevels, levels_are}
use Rattle.nfca_poll.proofs.identifiers.Fitting.{level_size, level_by_bits}
use Rattle.nfca_poll.proofs.quiet.Selects.{identifier_of}
use Rattle.nfca_poll.proofs.quiet.Causes.{ahead_else, ahead_on}
use Rattle.nfca_poll.proofs.quiet.Crowding.{drop-front}

-- lists
pub each_of : {X : Type 0} (P : X → Type 0) (xs : List X) → ((x : X) → Has x xs → P x) → Each P xs
each_of P [] f = tt
each_of P (x ∷ xs) f = (f x (inl refl), each_of P xs (λ y h. f y (inr h)))

pub mapped_each : {X Y : Type 0} (f : X → Y) (P : Y → Type 0) (xs : List X) → Each (λ x. P (f x)) xs → Each P (map f xs)
mapped_each f P [] e = tt
mapped_each f P (x ∷ xs) e = (e.0, mapped_each f P xs e.1)

pub each_unmapped : {X Y : Type 0} (f : X → Y) (P : Y → Type 0) (xs : List X) → Each P (map f xs) → Each (λ x. P (f x)) xs
each_unmapped f P [] e = tt
each_unmapped f P (x ∷ xs) e = (e.0, each_unmapped f P xs e.1)

pub has_mapped : {X Y : Type 0} (f : X → Y) (x : X) (xs : List X) → Has x xs → Has (f x) (map f xs)
has_mapped f x [] h = absurd h
has_mapped f x (y ∷ ys) (inl p) = inl (ap f p)
has_mapped f x (y ∷ ys) (inr h) = inr (has_mapped f x ys h)

pub mapped_has : {X Y : Type 0} (f : X → Y) (z : Y) (xs : List X) → Has z (map f xs) → (x : X) × Has x xs × (z ≡ f x)
mapped_has f z [] h = absurd h
mapped_has f z (y ∷ ys) (inl p) = (y, inl refl, p)
mapped_has {X = X} f z (y ∷ ys) (inr h) = let r : (x : X) × Has x ys × (z ≡ f x) = mapped_has f z ys h in (r.0, inr r.1, r.2)

pub has_front : {X : Type 0} (x : X) (a b : List X) → Has x a → Has x (a ++ b)
has_front x [] b h = absurd h
has_front x (y ∷ a) b (inl p) = inl p
has_front x (y ∷ a) b (inr h) = inr (has_front x a b h)

pub has_back : {X : Type 0} (x : X) (a b : List X) → Has x b → Has x (a ++ b)
has_back x [] b h = h
has_back x (y ∷ a) b h = inr (has_back x a b h)

pub has_either : {X : Type 0} (x : X) (a b : List X) → Has x (a ++ b) → Has x a ⊎ Has x b
has_either x [] b h = inr h
has_either x (y ∷ a) b (inl p) = inl (inl p)
has_either x (y ∷ a) b (inr h) = elim (has_either x a b h) [ inl k ↦ inl (inr k) | inr k ↦ inr k ]

-- order and difference
abbrev pub IsAhead : Picked → Picked → Type 0
IsAhead p q = ahead (crowd_bits p.id) (crowd_bits q.id) ≡ true

abbrev pub IsSorted : List Picked → Type 0
IsSorted [] = Unit {0}
IsSorted (p ∷ ps) = Each (IsAhead p) ps × IsSorted ps

abbrev pub AllUnlike : List Picked → Type 0
AllUnlike [] = Unit {0}
AllUnlike (p ∷ ps) = Each (λ q. q.id ≢ p.id) ps × AllUnlike ps

sorted_back : (a b : List Picked) → IsSorted (a ++ b) → IsSorted b
sorted_back [] b s = s
sorted_back (p ∷ a) b s = sorted_back a b s.1

unlike_back : (a b : List Picked) → AllUnlike (a ++ b) → AllUnlike b
unlike_back [] b s = s
unlike_back (p ∷ a) b s = unlike_back a b s.1

-- none stands in both parts
pub unlike_apart : (a b : List Picked) (p : Picked) → AllUnlike (a ++ b) → Has p a → Has p b → ⊥
unlike_apart [] b p u h k = absurd h
unlike_apart (q ∷ a) b p u (inl e) k = each_has (λ r. r.id ≢ q.id) p (a ++ b) u.0 (has_back p a b k) (ap (λ (x : Picked). x.id) e)
unlike_apart (q ∷ a) b p u (inr h) k = unlike_apart a b p u.1 h k

-- the identifier tells them apart
pub same_by_id : (xs : List Picked) (p q : Picked) → AllUnlike xs → Has p xs → Has q xs → p.id ≡ q.id → p ≡ q
same_by_id [] p q u h k e = absurd h
same_by_id (x ∷ xs) p q u (inl h) (inl k) e = h ∙ sym k
same_by_id (x ∷ xs) p q u (inl h) (inr k) e = absurd (each_has (λ r. r.id ≢ x.id) q xs u.0 k (sym e ∙ ap (λ (r : Picked). r.id) h))
same_by_id (x ∷ xs) p q u (inr h) (inl k) e = absurd (each_has (λ r. r.id ≢ x.id) p xs u.0 h (e ∙ ap (λ (r : Picked). r.id) k))
same_by_id (x ∷ xs) p q u (inr h) (inr k) e = same_by_id xs p q u.1 h k e

-- one more in its place
pub put_each : (P : Picked → Type 0) (p : Picked) (ps : List Picked) → P p → Each P ps → Each P (put_by p ps)
put_each P p [] a e = (a, tt)
put_each P p (q ∷ qs) a e = by_place (ahead (crowd_bits p.id) (crowd_bits q.id)) (put_each P p qs a e.1)
  where
    by_place : (v : Bool) → Each P (put_by p qs) → Each P (if v then p ∷ q ∷ qs else q ∷ put_by p qs)
    by_place true r = (a, e)
    by_place false r = (e.0, r)

put_sorted : (p : Picked) (ps : List Picked) → IsSorted ps → IsSorted (put_by p ps)
put_sorted p [] s = (tt, tt)
put_sorted p (q ∷ qs) s = by_place (ahead (crowd_bits p.id) (crowd_bits q.id)) refl (put_sorted p qs s.1)
  where
    by_place : (v : Bool) → ahead (crowd_bits p.id) (crowd_bits q.id) ≡ v → IsSorted (put_by p qs) → IsSorted (if v then p ∷ q ∷ qs else q ∷ put_by p qs)
    by_place true e r = ((e, each_map (IsAhead q) (IsAhead p) (λ x k. ahead_on (crowd_bits p.id) (crowd_bits q.id) (crowd_bits x.id) e k) qs s.0), s)
    by_place false e r = (put_each (IsAhead q) p qs (ahead_else (crowd_bits p.id) (crowd_bits q.id) e) s.0, r)

put_unlike : (p : Picked) (ps : List Picked) → Each (λ q. q.id ≢ p.id) ps → AllUnlike ps → AllUnlike (put_by p ps)
put_unlike p [] d u = (tt, tt)
put_unlike p (q ∷ qs) d u = by_place (ahead (crowd_bits p.id) (crowd_bits q.id)) (put_unlike p qs d.1 u.1)
  where
    by_place : (v : Bool) → AllUnlike (put_by p qs) → AllUnlike (if v then p ∷ q ∷ qs else q ∷ put_by p qs)
    by_place true r = (d, u)
    by_place false r = (put_each (λ x. x.id ≢ q.id) p qs (λ e. d.0 (sym e)) u.0, r)

put_length : (p : Picked) (ps : List Picked) → length (put_by p ps) ≡ 1 + length ps
put_length p [] = refl
put_length p (q ∷ qs) = by_place (ahead (crowd_bits p.id) (crowd_bits q.id)) (put_length p qs)
  where
    by_place : (v : Bool) → length (put_by p qs) ≡ 1 + length qs → length (if v then p ∷ q ∷ qs else q ∷ put_by p qs) ≡ 1 + length (q ∷ qs)
    by_place true r = omega arith
    by_place false r = omega (arith, r)

put_has : (z p : Picked) (ps : List Picked) → Has z (p ∷ ps) → Has z (put_by p ps)
put_has z p [] h = h
put_has z p (q ∷ qs) h = by_place (ahead (crowd_bits p.id) (crowd_bits q.id)) (λ k. put_has z p qs k) h
  where
    by_place : (v : Bool) → (Has z (p ∷ qs) → Has z (put_by p qs)) → Has z (p ∷ q ∷ qs) → Has z (if v then p ∷ q ∷ qs else q ∷ put_by p qs)
    by_place true f k = k
    by_place false f (inl e) = inr (f (inl e))
    by_place false f (inr (inl e)) = inl e
    by_place false f (inr (inr k)) = inr (f (inr k))

has_put : (z p : Picked) (ps : List Picked) → Has z (put_by p ps) → Has z (p ∷ ps)
has_put z p [] h = h
has_put z p (q ∷ qs) h = by_place (ahead (crowd_bits p.id) (crowd_bits q.id)) (λ k. has_put z p qs k) h
  where
    by_place : (v : Bool) → (Has z (put_by p qs) → Has z (p ∷ qs)) → Has z (if v then p ∷ q ∷ qs else q ∷ put_by p qs) → Has z (p ∷ q ∷ qs)
    by_place true f k = k
    by_place false f (inl e) = inr (inl e)
    by_place false f (inr k) = elim (f k) [ inl e ↦ inl e | inr n ↦ inr (inr n) ]

-- the crowd of some devices
pub crowd_sorted : (w : List Card) → IsSorted (crowd w)
crowd_sorted [] = tt
crowd_sorted (c ∷ cs) = put_sorted (picked_of c) (crowd cs) (crowd_sorted cs)

pub crowd_length : (w : List Card) → length (crowd w) ≡ length w
crowd_length [] = refl
crowd_length (c ∷ cs) =
    let n : length (crowd cs) ≡ length cs = crowd_length cs in
    let k : length (put_by (picked_of c) (crowd cs)) ≡ 1 + length (crowd cs) = put_length (picked_of c) (crowd cs) in
    omega (arith, n, k)

pub crowd_has : (w : List Card) (z : Picked) → Has z (map picked_of w) → Has z (crowd w)
crowd_has [] z h = h
crowd_has (c ∷ cs) z (inl e) = put_has z (picked_of c) (crowd cs) (inl e)
crowd_has (c ∷ cs) z (inr h) = put_has z (picked_of c) (crowd cs) (inr (crowd_has cs z h))

pub has_crowd : (w : List Card) (z : Picked) → Has z (crowd w) → Has z (map picked_of w)
has_crowd [] z h = h
has_crowd (c ∷ cs) z h = elim (has_put z (picked_of c) (crowd cs) h) [ inl e ↦ inl e | inr k ↦ inr (has_crowd cs z k) ]

pub crowd_unlike : (w : List Card) → AllUnlike (map picked_of w) → AllUnlike (crowd w)
crowd_unlike [] u = tt
crowd_unlike (c ∷ cs) u =
    put_unlike (picked_of c) (crowd cs) (each_of (λ q. q.id ≢ c.id) (crowd cs) (λ z h. each_has (λ q. q.id ≢ c.id) z (map picked_of cs) u.0 (has_crowd cs z h))) (crowd_unlike cs u.1)

pub unlike_cards : (w : List Card) → AreDistinct w → AllUnlike (map picked_of w)
unlike_cards [] d = tt
unlike_cards (c ∷ cs) d = (mapped_each picked_of (λ q. q.id ≢ c.id) cs d.0, unlike_cards cs d.1)

pub cards_unlike : (w : List Card) → AllUnlike (map picked_of w) → AreDistinct w
cards_unlike [] u = tt
cards_unlike (c ∷ cs) u = (each_unmapped picked_of (λ q. q.id ≢ c.id) cs u.0, cards_unlike cs u.1)

-- the bits tell identifiers apart
pub ahead_both : (x y : List Bool) → ahead x y ≡ true → ahead y x ≡ true → x ≡ y
ahead_both [] [] h k = refl
ahead_both [] (b ∷ y) h k = wrong h
ahead_both (a ∷ x) [] h k = wrong k
ahead_both (true ∷ x) (true ∷ y) h k = ap (λ t. true ∷ t) (ahead_both x y h k)
ahead_both (true ∷ x) (false ∷ y) h k = wrong k
ahead_both (false ∷ x) (true ∷ y) h k = wrong h
ahead_both (false ∷ x) (false ∷ y) h k = ap (λ t. false ∷ t) (ahead_both x y h k)

flat_same : (xs ys : List (List ℕ)) → Each IsLevel xs → Each IsLevel ys → level_bits_of xs ≡ level_bits_of ys → xs ≡ ys
flat_same [] [] a b e = refl
flat_same [] (y ∷ ys) a b e =
    let n : 0 ≡ length (bits_of y) + length (level_bits_of ys) = ap length e ∙ length-append (bits_of y) (level_bits_of ys) in
    let k : length (bits_of y) ≡ 40 = level_size y b.0 in
    absurd (omega (arith, n, k))
flat_same (x ∷ xs) [] a b e =
    let n : length (bits_of x) + length (level_bits_of xs) ≡ 0 = sym (length-append (bits_of x) (level_bits_of xs)) ∙ ap length e in
    let k : length (bits_of x) ≡ 40 = level_size x a.0 in
    absurd (omega (arith, n, k))
flat_same (x ∷ xs) (y ∷ ys) a b e =
    let k : length (bits_of x) ≡ length (bits_of y) = level_size x a.0 ∙ sym (level_size y b.0) in
    let one : bits_of x ≡ bits_of y =
    sym (take-append_seam (bits_of x) (level_bits_of xs)) ∙ ap (take (length (bits_of x))) e ∙ ap (λ n. take n (bits_of y ++ level_bits_of ys)) k ∙ take-append_seam (bits_of y) (level_bits_of ys) in
    let rest : level_bits_of xs ≡ level_bits_of ys =
    sym (drop-front (bits_of x) (level_bits_of xs)) ∙ ap (drop (length (bits_of x))) e ∙ ap (λ n. drop n (bits_of y ++ level_bits_of ys)) k ∙ drop-front (bits_of y) (level_bits_of ys) in
    ap (λ t. t ∷ xs) (level_by_bits x y a.0 b.0 one) ∙ ap (λ t. y ∷ t) (flat_same xs ys a.1 b.1 rest)

pub ids_same : (x y : List ℕ) → IsIdent x → IsIdent y → crowd_bits x ≡ crowd_bits y → x ≡ y
ids_same x y i j e =
    let a : IsLevels (levels x) = levels_are x i in
    let b : IsLevels (levels y) = levels_are y j in
    sym (identifier_of x i) ∙ ap identifier (flat_same (levels x) (levels y) a.each b.each e) ∙ identifier_of y j

-- One that isn't found yet, and stands before all that aren't, is the next of the crowd.
pub next_is : (found rest : List Picked) (p : Picked) → IsSorted (found ++ rest) → AllUnlike (found ++ rest) → Each (λ (q : Picked). IsIdent q.id) (found ++ rest)
    → Has p (found ++ rest) → (Has p found → ⊥) → ((z : Picked) → Has z rest → IsAhead p z) → (more : List Picked) × (rest ≡ p ∷ more)
next_is found rest p s u i h new first =
    elim (has_either p found rest h) [
      | inl k ↦ absurd (new k)
      | inr k ↦ by_rest rest (sorted_back found rest s) (unlike_back found rest u) (each_of (λ (q : Picked). IsIdent q.id) rest
          (λ z m. each_has (λ (q : Picked). IsIdent q.id) z (found ++ rest) i (has_back z found rest m))) k first
    ]
  where
    by_rest : (zs : List Picked) → IsSorted zs → AllUnlike zs → Each (λ (q : Picked). IsIdent q.id) zs → Has p zs → ((z : Picked) → Has z zs → IsAhead p z) → (more : List Picked) × (zs ≡ p ∷ more)
    by_rest [] s u i k f = absurd k
    by_rest (z ∷ zs) s u i (inl e) f = (zs, ap (λ t. t ∷ zs) (sym e))
    by_rest (z ∷ zs) s u i (inr k) f =
        let own : IsIdent p.id = each_has (λ (q : Picked). IsIdent q.id) p zs i.1 k in
        let same : p.id ≡ z.id = ids_same p.id z.id own i.0 (ahead_both (crowd_bits p.id) (crowd_bits z.id) (f z (inl refl)) (each_has (IsAhead z) p zs s.0 k)) in
        absurd (each_has (λ q. q.id ≢ z.id) p zs u.0 k same)

-- which devices a round has found
pub found_has : (found : List Picked) (p : Picked) → Has p found → has_found found p.id ≡ true
found_has [] p h = absurd h
found_has (q ∷ qs) p (inl e) =
    let P : List ℕ → Type 0 = λ i. is_same i p.id ≡ true in
    ap (λ v. v || list_any (λ (r : Picked). is_same r.id p.id) qs) (subst P (ap (λ (r : Picked). r.id) e) (pointwise_same p.id))
found_has (q ∷ qs) p (inr h) = by_first (is_same q.id p.id) (found_has qs p h)
  where
    by_first : (v : Bool) → has_found qs p.id ≡ true → (v || has_found qs p.id) ≡ true
    by_first true e = refl
    by_first false e = e

pub has_found_is : (found : List Picked) (id : List ℕ) → has_found found id ≡ true → (q : Picked) × Has q found × (q.id ≡ id)
has_found_is [] id h = wrong h
has_found_is (q ∷ qs) id h = by_first (is_same q.id id) refl (λ k. has_found_is qs id k) h
  where
    by_first : (v : Bool) → is_same q.id id ≡ v → (has_found qs id ≡ true → (r : Picked) × Has r qs × (r.id ≡ id)) → (v || has_found qs id) ≡ true → (r : Picked) × Has r (q ∷ qs) × (r.id ≡ id)
    by_first true e f k = (q, inl refl, pointwise_path q.id id e)
    by_first false e f k = let r : (r : Picked) × Has r qs × (r.id ≡ id) = f k in (r.0, inr r.1, r.2)
