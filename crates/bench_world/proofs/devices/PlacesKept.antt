-- What stands at the places of devices: their numbers and far ends, through what commands change of them.
use Rattle.std.proofs.Common.{◌≡◌, ℕ, zero, suc, ◌+◌, ◌<◌, List, [], ◌∷◌, ◌++◌, map, length, true, false, nat_eq, if◌then◌else◌, Option, Some, None, refl, sym, ◌∙◌, ap, subst, arith}
use Rattle.std.specs.Prelude.{get_or, slice_set, option_map}
use Rattle.std.specs.List.{AllByRecursion, remove}
use Rattle.std.proofs.lemmas.Bool.{ne_eqb}
use Rattle.far_air.specs.FarEnds.{first_far, later_fars}
use Rattle.bench_devices.specs.declared.device.Device.{Device}
use Rattle.bench_devices.specs.Device.{is_tag}
use Rattle.bench_devices.specs.Keeping.{Fixed, Kept, kept, AllStayDevices}
use Rattle.bench_devices.proofs.kinds.TagOrPeer.{same_tag}
use Rattle.bench_world.specs.World.{FarEnd}
use Rattle.bench_world.specs.Links.{is_number, end_numbered}
use Rattle.bench_world.specs.Peers.{end_offered}
use Rattle.bench_world.specs.Opened.{IsServed, AreServed, IsBelow, IsOther, AreNumbered, IsFirstWith}

-- one more device
pub served_more : (ds : List Device) (d : Device) (ps : List (Option ℕ)) (p : Option ℕ) (os : List (Option FarEnd)) (o : Option FarEnd) → length ps ≡ length ds → length os ≡ length ds
    → (is_tag d ≡ false → IsServed p o) → AreServed ds ps os → AreServed (ds ++ d ∷ []) (ps ++ p ∷ []) (os ++ o ∷ [])
served_more [] d [] p [] o e f one s = (one, tt)
served_more [] d [] p (x ∷ os) o e f one s = absurd cc
served_more [] d (x ∷ ps) p os o e f one s = absurd cc
served_more (x ∷ ds) d [] p os o e f one s = absurd cc
served_more (x ∷ ds) d (q ∷ ps) p [] o e f one s = absurd cc
served_more (x ∷ ds) d (q ∷ ps) p (y ∷ os) o e f one s =
    let more : length ps ≡ length ds = cc in
    let rest : length os ≡ length ds = cc in
    (s.0, served_more ds d ps p os o more rest one s.1)

-- one less
pub served_less : (ds : List Device) (ps : List (Option ℕ)) (os : List (Option FarEnd)) (n : ℕ) → length ps ≡ length ds → length os ≡ length ds → AreServed ds ps os
    → AreServed (remove ds n) (remove ps n) (remove os n)
served_less [] [] [] zero e f s = tt
served_less [] [] [] (suc n) e f s = tt
served_less [] [] (x ∷ os) n e f s = absurd cc
served_less [] (x ∷ ps) os n e f s = absurd cc
served_less (x ∷ ds) [] os n e f s = absurd cc
served_less (x ∷ ds) (q ∷ ps) [] n e f s = absurd cc
served_less (x ∷ ds) (q ∷ ps) (y ∷ os) zero e f s = s.1
served_less (x ∷ ds) (q ∷ ps) (y ∷ os) (suc n) e f s =
    let more : length ps ≡ length ds = cc in
    let rest : length os ≡ length ds = cc in
    (s.0, served_less ds ps os n more rest s.1)

-- devices that are peers where those before were
pub served_as : (ds es : List Device) (ps : List (Option ℕ)) (os : List (Option FarEnd)) → map is_tag es ≡ map is_tag ds → AreServed ds ps os → AreServed es ps os
served_as [] [] ps os e s = tt
served_as [] (y ∷ es) ps os e s = absurd cc
served_as (x ∷ ds) [] ps os e s = absurd cc
served_as (x ∷ ds) (y ∷ es) ps os e s =
    let one : is_tag y ≡ is_tag x = cc in
    let more : map is_tag es ≡ map is_tag ds = cc in
    ((λ peer. s.0 (sym one ∙ peer)), served_as ds es (later_fars ps) (later_fars os) more s.1)

pub kinds_stay : (ds es : List Device) → AllStayDevices ds es → map is_tag es ≡ map is_tag ds
kinds_stay [] [] a = refl
kinds_stay [] (y ∷ es) a = absurd a
kinds_stay (x ∷ ds) [] a = absurd a
kinds_stay (x ∷ ds) (y ∷ es) a =
    ap (λ b. b ∷ map is_tag es) (same_tag y x (ap (λ (k : Fixed). k.kind) a.0.fixed)) ∙ ap (λ bs. is_tag x ∷ bs) (kinds_stay ds es a.1)

pub kinds_of : (ds es : List Device) → map kept ds ≡ map kept es → map is_tag ds ≡ map is_tag es
kinds_of [] [] e = refl
kinds_of [] (y ∷ es) e = absurd cc
kinds_of (x ∷ ds) [] e = absurd cc
kinds_of (x ∷ ds) (y ∷ es) e =
    let one : kept x ≡ kept y = cc in
    let more : map kept ds ≡ map kept es = cc in
    ap (λ b. b ∷ map is_tag ds) (same_tag x y (ap (λ (k : Kept). k.fixed.kind) one)) ∙ ap (λ bs. is_tag y ∷ bs) (kinds_of ds es more)

-- a server is given a value
offered_served : (key value : List ℕ) (p : Option ℕ) (o : Option FarEnd) → IsServed p o → IsServed p (option_map (end_offered key value) o)
offered_served key value p o s = record {
  peer = s.peer;
  numbered = s.numbered;
  end = end_offered key value s.end;
  stands = ap (option_map (end_offered key value)) s.stands;
  miu = s.miu;
  window = s.window;
  bound = s.bound;
}

pub served_offered : (key value : List ℕ) (ds : List Device) (ps : List (Option ℕ)) (os : List (Option FarEnd)) (n : ℕ) → AreServed ds ps os
    → AreServed ds ps (slice_set os n (option_map (end_offered key value) (get_or os n None)))
served_offered key value [] ps os n s = tt
served_offered key value (d ∷ ds) ps [] n s = s
served_offered key value (d ∷ ds) ps (o ∷ os) zero s = ((λ peer. offered_served key value (first_far ps) o (s.0 peer)), s.1)
served_offered key value (d ∷ ds) ps (o ∷ os) (suc n) s = (s.0, served_offered key value ds (later_fars ps) os n s.1)

-- no number stands twice
below_more : (n : ℕ) (p : Option ℕ) → IsBelow n p → IsBelow (n + 1) p
below_more n None b = tt
below_more n (Some p) b = omega (arith, b)

other_none : (n : ℕ) (ps : List (Option ℕ)) (q : Option ℕ) → AllByRecursion (λ p. IsOther p q) ps → AreNumbered n ps → IsBelow n q → AreNumbered n (ps ++ q ∷ [])
other_none n [] q other s b = (b, tt, tt)
other_none n (p ∷ ps) q other s b = (s.0, behind ps s.1, other_none n ps q other.1 s.2 b)
  where
    behind : (qs : List (Option ℕ)) → AllByRecursion (IsOther p) qs → AllByRecursion (IsOther p) (qs ++ q ∷ [])
    behind [] a = (other.0, tt)
    behind (x ∷ qs) a = (a.0, behind qs a.1)

no_number : (p : Option ℕ) → IsOther p None
no_number None = tt
no_number (Some p) = refl

all_no : (ps : List (Option ℕ)) → AllByRecursion (λ p. IsOther p None) ps
all_no [] = tt
all_no (p ∷ ps) = (no_number p, all_no ps)

pub numbered_tag : (n : ℕ) (ps : List (Option ℕ)) → AreNumbered n ps → AreNumbered n (ps ++ None ∷ [])
numbered_tag n ps s = other_none n ps None (all_no ps) s tt

unequal_above : (p n : ℕ) → p < n → nat_eq n p ≡ false
unequal_above p n less = ne_eqb n p (λ same. omega (arith, less, same))

new_other : (n : ℕ) (p : Option ℕ) → IsBelow n p → IsOther p (Some n)
new_other n None b = tt
new_other n (Some p) b = unequal_above p n b

all_new : (n : ℕ) (ps : List (Option ℕ)) → AreNumbered n ps → AllByRecursion (λ p. IsOther p (Some n)) ps
all_new n [] s = tt
all_new n (p ∷ ps) s = (new_other n p s.0, all_new n ps s.2)

more_numbers : (n : ℕ) (ps : List (Option ℕ)) → AreNumbered n ps → AreNumbered (n + 1) ps
more_numbers n [] s = tt
more_numbers n (p ∷ ps) s = (below_more n p s.0, s.1, more_numbers n ps s.2)

pub numbered_peer : (n : ℕ) (ps : List (Option ℕ)) → AreNumbered n ps → AreNumbered (n + 1) (ps ++ Some n ∷ [])
numbered_peer n ps s = let below : n < n + 1 = omega arith in other_none (n + 1) ps (Some n) (all_new n ps s) (more_numbers n ps s) below

all_less : {X : Type 0} (P : X → Type 0) (xs : List X) (k : ℕ) → AllByRecursion P xs → AllByRecursion P (remove xs k)
all_less P [] zero a = tt
all_less P [] (suc k) a = tt
all_less P (x ∷ xs) zero a = a.1
all_less P (x ∷ xs) (suc k) a = (a.0, all_less P xs k a.1)

pub numbered_less : (n : ℕ) (ps : List (Option ℕ)) (k : ℕ) → AreNumbered n ps → AreNumbered n (remove ps k)
numbered_less n [] zero s = tt
numbered_less n [] (suc k) s = tt
numbered_less n (p ∷ ps) zero s = s.2
numbered_less n (p ∷ ps) (suc k) s = (s.0, all_less (IsOther p) ps k s.1, numbered_less n ps k s.2)

-- The first place that has a number.
first_here : (os : List (Option FarEnd)) → first_far os ≡ get_or os 0 None
first_here [] = refl
first_here (o ∷ os) = refl

later_there : (os : List (Option FarEnd)) (k : ℕ) → get_or (later_fars os) k None ≡ get_or os (suc k) None
later_there [] k = refl
later_there (o ∷ os) k = refl

pub first_end : (n k : ℕ) (ps : List (Option ℕ)) → IsFirstWith n k ps → (os : List (Option FarEnd)) → end_numbered n ps os ≡ get_or os k None
first_end n k [] f os = absurd f
first_end n zero (p ∷ ps) f os = ap (λ v. if v then first_far os else end_numbered n ps (later_fars os)) f ∙ first_here os
first_end n (suc k) (p ∷ ps) f os = ap (λ v. if v then first_far os else end_numbered n ps (later_fars os)) f.0 ∙ first_end n k ps f.1 (later_fars os) ∙ later_there os k

pub first_more : (n k : ℕ) (ps qs : List (Option ℕ)) → IsFirstWith n k ps → IsFirstWith n k (ps ++ qs)
first_more n k [] qs f = absurd f
first_more n zero (p ∷ ps) qs f = f
first_more n (suc k) (p ∷ ps) qs f = (f.0, first_more n k ps qs f.1)

-- where a place is, once another one is taken away
abbrev pub place_without : ℕ → ℕ → ℕ
place_without zero zero = zero
place_without zero (suc k) = k
place_without (suc j) zero = zero
place_without (suc j) (suc k) = suc (place_without j k)

pub first_less : (n k j : ℕ) (ps : List (Option ℕ)) → IsFirstWith n k ps → is_number n (get_or ps j None) ≡ false → j < length ps → IsFirstWith n (place_without j k) (remove ps j)
first_less n k j [] f other within = absurd f
first_less n zero zero (p ∷ ps) f other within = absurd (let clash : true ≡ false = sym f ∙ other in cc)
first_less n zero (suc j) (p ∷ ps) f other within = f
first_less n (suc k) zero (p ∷ ps) f other within = f.1
first_less n (suc k) (suc j) (p ∷ ps) f other within = (f.0, first_less n k j ps f.1 other (omega (arith, within)))

pub kept_without : {X : Type 0} (xs : List X) (j k : ℕ) (d : X) → (j ≡ k → ⊥) → j < length xs → get_or (remove xs j) (place_without j k) d ≡ get_or xs k d
kept_without [] j k d apart within = absurd (omega (arith, within))
kept_without (x ∷ xs) zero zero d apart within = absurd (apart refl)
kept_without (x ∷ xs) zero (suc k) d apart within = refl
kept_without (x ∷ xs) (suc j) zero d apart within = refl
kept_without (x ∷ xs) (suc j) (suc k) d apart within = kept_without xs j k d (λ e. apart (ap suc e)) (omega (arith, within))

-- a place that hasn't the number isn't this one
pub first_apart : (n k j : ℕ) (ps : List (Option ℕ)) → IsFirstWith n k ps → is_number n (get_or ps j None) ≡ false → j ≡ k → ⊥
first_apart n k j [] f other e = f
first_apart n zero zero (p ∷ ps) f other e = (let clash : true ≡ false = sym f ∙ other in cc)
first_apart n zero (suc j) (p ∷ ps) f other e = cc
first_apart n (suc k) zero (p ∷ ps) f other e = cc
first_apart n (suc k) (suc j) (p ∷ ps) f other e = first_apart n k j ps f.1 other cc

-- a number among them is below theirs
pub below_at : (n : ℕ) (ps : List (Option ℕ)) (i p : ℕ) → AreNumbered n ps → get_or ps i None ≡ Some p → p < n
below_at n [] i p s at = absurd (let clash : ◌≡◌ {A = Option ℕ} None (Some p) = at in cc)
below_at n (q ∷ ps) zero p s at = subst (IsBelow n) at s.0
below_at n (q ∷ ps) (suc i) p s at = below_at n ps i p s.2 at
