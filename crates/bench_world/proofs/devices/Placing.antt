-- Devices that are placed, and the one with an identifier.
use Rattle.std.proofs.Common.{◌≡◌, ℕ, ◌+◌, ◌<◌, List, [], ◌∷◌, ◌++◌, map, length, Bool, true, false, nat_eq, if◌then◌else◌, Some, None, refl, sym, ◌∙◌, ap, subst, arith}
use Rattle.std.specs.List.{AllByRecursion}
use Rattle.std.proofs.lemmas.List.{length-append}
use Rattle.std.specs.Cmp.Lexicographic.{pointwise, same_text}
use Rattle.nfca_poll.proofs.quiet.OneLevel.{pointwise_self}
use Rattle.bench_devices.specs.declared.device.Device.{Device}
use Rattle.bench_devices.specs.Device.{device_id}
use Rattle.bench_devices.specs.Device.{most_devices}
use Rattle.bench_devices.specs.Placed.{device_with}
use Rattle.bench_devices.specs.Keeping.{Kept, kept, IsSound, IsApart, AreSound, AreTame}
use Rattle.bench_devices.specs.Phases.{IsTidy, AreTidy}

pub map-over : {A B : Type 0} (f : A → B) (xs ys : List A) → map f (xs ++ ys) ≡ map f xs ++ map f ys
map-over f [] ys = refl
map-over f (x ∷ xs) ys = ap (λ zs. f x ∷ zs) (map-over f xs ys)

-- one more device beside those that are there
sound_more : (ks : List Kept) (k : Kept) → AreSound ks → IsSound k → AllByRecursion (λ l. IsApart l k) ks → AreSound (ks ++ k ∷ [])
sound_more [] k sound own apart = (own, tt, tt)
sound_more (l ∷ ks) k sound own apart = (sound.0, apart_more ks sound.1, sound_more ks k sound.2 own apart.1)
  where
    apart_more : (ls : List Kept) → AllByRecursion (IsApart l) ls → AllByRecursion (IsApart l) (ls ++ k ∷ [])
    apart_more [] all = (apart.0, tt)
    apart_more (m ∷ ls) all = (all.0, apart_more ls all.1)

pub tame_more : (ks : List Kept) (k : Kept) → AreTame ks → IsSound k → AllByRecursion (λ l. IsApart l k) ks → length ks < most_devices → AreTame (ks ++ k ∷ [])
tame_more ks k tame own apart room = record {
  sound = sound_more ks k tame.sound own apart;
  few = let size : length (ks ++ k ∷ []) ≡ length ks + 1 = length-append ks (k ∷ []) in omega (arith, size, room);
}

pub tidy_more : (ds : List Device) (d : Device) → AreTidy ds → IsTidy d → AreTidy (ds ++ d ∷ [])
tidy_more [] d tidy own = (own, tt)
tidy_more (e ∷ ds) d tidy own = (tidy.0, tidy_more ds d tidy.1 own)

unequal : (v : Bool) → v ≡ false → v ≡ true → ⊥
unequal v p q = cc

-- none has this identifier
pub none_named : (ls : List Device) (id : List ℕ) → device_with id ls ≡ None → AllByRecursion (λ d. device_id d ≡ id → ⊥) ls
none_named [] id none = tt
none_named (d ∷ ls) id none = by_case (pointwise nat_eq (device_id d) id) refl none (λ n. none_named ls id n)
  where
    by_case : (v : Bool) → pointwise nat_eq (device_id d) id ≡ v → (if v then Some d else device_with id ls) ≡ None → (device_with id ls ≡ None → AllByRecursion (λ d. device_id d ≡ id → ⊥) ls)
        → AllByRecursion (λ d. device_id d ≡ id → ⊥) (d ∷ ls)
    by_case true h n later = absurd cc
    by_case false h n later = (λ e. unequal (pointwise nat_eq (device_id d) id) h (ap (λ x. pointwise nat_eq x id) e ∙ pointwise_self id), later n)

-- The first device with an identifier is the one of these devices that has it.
pub record IsWith (ls : List Device) (id : List ℕ) (k : Kept) : Type 0 where
  pub device : Device
  pub found : device_with id ls ≡ Some device
  pub same : kept device ≡ k

pub is_with : (ls : List Device) (before : List Kept) (k : Kept) (behind : List Kept) (id : List ℕ) → AreSound (map kept ls) → map kept ls ≡ before ++ k ∷ behind → k.fixed.id ≡ id → IsWith ls id k
is_with [] [] k behind id sound split named = absurd cc
is_with [] (b ∷ before) k behind id sound split named = absurd cc
is_with (d ∷ ls) [] k behind id sound split named =
    let same : kept d ≡ k = ap first split in
    let own : device_id d ≡ id = ap (λ (x : Kept). x.fixed.id) same ∙ named in
    record { device = d; found = ap (λ v. if v then Some d else device_with id ls) (ap (λ x. pointwise nat_eq x id) own ∙ pointwise_self id); same = same }
  where
    first : List Kept → Kept
    first [] = k
    first (x ∷ xs) = x
is_with (d ∷ ls) (b ∷ before) k behind id sound split named =
    let rest : map kept ls ≡ before ++ k ∷ behind = ap tail split in
    let A : List Kept → Type 0 = λ xs. AllByRecursion (IsApart (kept d)) xs in
    let apart : IsApart (kept d) k = at before (subst A rest sound.1) in
    let differs : device_id d ≡ id → ⊥ = λ e. apart (named ∙ sym e) in
    let next : IsWith ls id k = is_with ls before k behind id sound.2 rest named in
    record { device = next.device; found = by_case (pointwise nat_eq (device_id d) id) refl differs next.found; same = next.same }
  where
    tail : List Kept → List Kept
    tail [] = []
    tail (x ∷ xs) = xs

    at : (xs : List Kept) → AllByRecursion (IsApart (kept d)) (xs ++ k ∷ behind) → IsApart (kept d) k
    at [] all = all.0
    at (x ∷ xs) all = at xs all.1

    by_case : {d' : Device} (v : Bool) → pointwise nat_eq (device_id d) id ≡ v → (device_id d ≡ id → ⊥) → device_with id ls ≡ Some d' → (if v then Some d else device_with id ls) ≡ Some d'
    by_case true h apart' found = absurd (apart' (same_text (device_id d) id (sym h)))
    by_case false h apart' found = found

-- the device that is found by an identifier is sound
pub with_sound : (ls : List Device) (id : List ℕ) (d : Device) → AreSound (map kept ls) → device_with id ls ≡ Some d → IsSound (kept d)
with_sound [] id d sound found = absurd cc
with_sound (e ∷ ls) id d sound found = by_case (pointwise nat_eq (device_id e) id) found (λ later. with_sound ls id d sound.2 later)
  where
    by_case : (v : Bool) → (if v then Some e else device_with id ls) ≡ Some d → (device_with id ls ≡ Some d → IsSound (kept d)) → IsSound (kept d)
    by_case true found' later = (let same : e ≡ d = cc in subst (λ x. IsSound (kept x)) same sound.0)
    by_case false found' later = later found'
