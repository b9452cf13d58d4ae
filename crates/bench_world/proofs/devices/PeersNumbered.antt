-- Each device has its place and each peer its number, through what commands change of devices.
use Rattle.std.proofs.Common.{◌≡◌, ℕ, suc, ◌+◌, List, [], ◌∷◌, ◌++◌, map, length, Bool, true, false, nat_eq, if◌then◌else◌, Option, Some, None, IsSome, refl, sym, ◌∙◌, ap, subst}
use Rattle.std.specs.Cmp.Lexicographic.{pointwise}
use Rattle.far_air.specs.FarEnds.{first_far, later_fars}
use Rattle.bench_devices.specs.declared.device.Device.{Device}
use Rattle.bench_devices.specs.declared.device.Device.TheVariants.{T2, T4, Peer, T5, T3}
use Rattle.bench_devices.specs.Device.{device_busy, device_id, device_locked, is_tag}
use Rattle.std.proofs.lemmas.List.{length-append}
use Rattle.bench_devices.specs.Keeping.{AllStayDevices}
use Rattle.bench_world.specs.World.{FarEnd}
use Rattle.bench_world.proofs.devices.PlacesKept.{kinds_stay}
use Rattle.bench_devices.specs.Placed.{OfPlaced, device_with, with_changed, without}
use Rattle.bench_world.specs.Peers.{placed_under, without_place}

-- as many as before
as_many_left : {X : Type 0} (id : List ℕ) (ds : List Device) (xs : List (Option X)) → length xs ≡ length ds → length (without_place id ds xs) ≡ length (without id ds)
as_many_left id [] xs same = same
as_many_left id (d ∷ ds) [] same = absurd cc
as_many_left id (d ∷ ds) (x ∷ xs) same = by (pointwise nat_eq (device_id d) id) (as_many_left id ds xs rest)
  where
    rest : length xs ≡ length ds
    rest = cc

    by : (v : Bool) → length (without_place id ds xs) ≡ length (without id ds) → length (if v then xs else x ∷ without_place id ds xs) ≡ length (if v then ds else d ∷ without id ds)
    by true e = rest
    by false e = ap suc e

as_many_changed : (change : Device → Device) (id : List ℕ) (ds : List Device) → length (with_changed change id ds) ≡ length ds
as_many_changed change id [] = refl
as_many_changed change id (d ∷ ds) = by (pointwise nat_eq (device_id d) id) (as_many_changed change id ds)
  where
    by : (v : Bool) → length (with_changed change id ds) ≡ length ds → length (if v then change d ∷ ds else d ∷ with_changed change id ds) ≡ suc (length ds)
    by true e = refl
    by false e = ap suc e

as_many_stay : (ds es : List Device) → AllStayDevices ds es → length es ≡ length ds
as_many_stay [] [] stay = refl
as_many_stay [] (e ∷ es) stay = absurd stay
as_many_stay (d ∷ ds) [] stay = absurd stay
as_many_stay (d ∷ ds) (e ∷ es) stay = ap suc (as_many_stay ds es stay.1)

-- each peer has a number
abbrev pub HaveNumbers : List Device → List (Option ℕ) → Type 0
HaveNumbers [] ps = Unit {0}
HaveNumbers (d ∷ ds) ps = (is_tag d ≡ false → IsSome (first_far ps)) × HaveNumbers ds (later_fars ps)

-- one more, and one less
pub numbers_more : (ds : List Device) (d : Device) (ps : List (Option ℕ)) (p : Option ℕ) → length ps ≡ length ds → (is_tag d ≡ false → IsSome p) → HaveNumbers ds ps
    → HaveNumbers (ds ++ d ∷ []) (ps ++ p ∷ [])
numbers_more [] d [] p same one all = (one, tt)
numbers_more [] d (q ∷ ps) p same one all = absurd cc
numbers_more (x ∷ ds) d [] p same one all = absurd cc
numbers_more (x ∷ ds) d (q ∷ ps) p same one all = let rest : length ps ≡ length ds = cc in (all.0, numbers_more ds d ps p rest one all.1)

pub numbers_less : (id : List ℕ) (ds : List Device) (ps : List (Option ℕ)) → HaveNumbers ds ps → HaveNumbers (without id ds) (without_place id ds ps)
numbers_less id [] ps all = tt
numbers_less id (d ∷ ds) ps all = by (pointwise nat_eq (device_id d) id) (numbers_less id ds (later_fars ps) all.1)
  where
    by : (v : Bool) → HaveNumbers (without id ds) (without_place id ds (later_fars ps))
        → HaveNumbers (if v then ds else d ∷ without id ds) (if v then later_fars ps else first_far ps ∷ without_place id ds (later_fars ps))
    by true rest = all.1
    by false rest = (all.0, rest)

-- devices that are peers where those before were
pub numbers_as : (ds es : List Device) (ps : List (Option ℕ)) → map is_tag es ≡ map is_tag ds → HaveNumbers ds ps → HaveNumbers es ps
numbers_as [] [] ps same all = tt
numbers_as [] (e ∷ es) ps same all = absurd cc
numbers_as (d ∷ ds) [] ps same all = absurd cc
numbers_as (d ∷ ds) (e ∷ es) ps same all =
    let one : is_tag e ≡ is_tag d = cc in
    let rest : map is_tag es ≡ map is_tag ds = cc in
    ((λ peer. all.0 (sym one ∙ peer)), numbers_as ds es (later_fars ps) rest all.1)

pub kinds_changed : (change : Device → Device) → ((d : Device) → is_tag (change d) ≡ is_tag d) → (id : List ℕ) (ds : List Device) → map is_tag (with_changed change id ds) ≡ map is_tag ds
kinds_changed change same id [] = refl
kinds_changed change same id (d ∷ ds) = by (pointwise nat_eq (device_id d) id) (kinds_changed change same id ds)
  where
    by : (v : Bool) → map is_tag (with_changed change id ds) ≡ map is_tag ds → map is_tag (if v then change d ∷ ds else d ∷ with_changed change id ds) ≡ is_tag d ∷ map is_tag ds
    by true rest = ap (λ b. b ∷ map is_tag ds) (same d)
    by false rest = ap (λ bs. is_tag d ∷ bs) rest

pub locked_kind : (block : ℕ) (d : Device) → is_tag (device_locked block d) ≡ is_tag d
locked_kind block (T2 d) = refl
locked_kind block (T4 d) = refl
locked_kind block (Peer d) = refl
locked_kind block (T5 p) = refl
locked_kind block (T3 p) = refl

pub busy_kind : (count times : ℕ) (d : Device) → is_tag (device_busy count times d) ≡ is_tag d
busy_kind count times (T2 d) = refl
busy_kind count times (T4 d) = refl
busy_kind count times (Peer d) = refl
busy_kind count times (T5 p) = refl
busy_kind count times (T3 p) = refl

-- each device has a place for a far end, and each peer a number
pub record HavePlaces (ds : List Device) (ps : List (Option ℕ)) (os : List (Option FarEnd)) : Type 0 where
  pub fars : length os ≡ length ds
  pub numbers : HaveNumbers ds ps

pub places_stay : (ds es : List Device) (ps qs : List (Option ℕ)) (os us : List (Option FarEnd)) → AllStayDevices ds es → length us ≡ length os → qs ≡ ps → HavePlaces ds ps os → HavePlaces es qs us
places_stay ds es ps qs os us stay same numbers h = record {
  fars = same ∙ h.fars ∙ sym (as_many_stay ds es stay);
  numbers = subst (HaveNumbers es) (sym numbers) (numbers_as ds es ps (kinds_stay ds es stay) h.numbers);
}

pub places_changed : (change : Device → Device) → ((d : Device) → is_tag (change d) ≡ is_tag d) → (id : List ℕ) (ds : List Device) (ps : List (Option ℕ)) (os : List (Option FarEnd))
    → HavePlaces ds ps os
    → HavePlaces (with_changed change id ds) ps os
places_changed change same id ds ps os h = record {
  fars = h.fars ∙ sym (as_many_changed change id ds);
  numbers = numbers_as ds (with_changed change id ds) ps (kinds_changed change same id ds) h.numbers;
}

pub places_more : (ds : List Device) (d : Device) (ps : List (Option ℕ)) (p : Option ℕ) (os : List (Option FarEnd)) (o : Option FarEnd) → length ps ≡ length ds → (is_tag d ≡ false → IsSome p)
    → HavePlaces ds ps os → HavePlaces (ds ++ d ∷ []) (ps ++ p ∷ []) (os ++ o ∷ [])
places_more ds d ps p os o many one h = record { fars = longer; numbers = numbers_more ds d ps p many one h.numbers }
  where
    longer : length (os ++ o ∷ []) ≡ length (ds ++ d ∷ [])
    longer = length-append os (o ∷ []) ∙ ap (λ n. n + 1) h.fars ∙ sym (length-append ds (d ∷ []))

pub places_less : (id : List ℕ) (ds : List Device) (ps : List (Option ℕ)) (os : List (Option FarEnd)) → HavePlaces ds ps os
    → HavePlaces (without id ds) (without_place id ds ps) (without_place id ds os)
places_less id ds ps os h = record { fars = as_many_left id ds os h.fars; numbers = numbers_less id ds ps h.numbers }

-- so the peer with an identifier has one
some_there : (o : Option ℕ) → IsSome o → (n : ℕ) × (o ≡ Some n)
some_there None is = absurd (let clash : false ≡ true = is in cc)
some_there (Some n) is = (n, refl)

pub number_under : (id : List ℕ) (ds : List Device) (ps : List (Option ℕ)) → HaveNumbers ds ps → OfPlaced (λ d. is_tag d ≡ false) (device_with id ds) → (n : ℕ) × (placed_under id ds ps ≡ Some n)
number_under id [] ps all peer = absurd peer
number_under id (d ∷ ds) ps all peer = by (pointwise nat_eq (device_id d) id) peer (number_under id ds (later_fars ps) all.1)
  where
    by : (v : Bool) → OfPlaced (λ x. is_tag x ≡ false) (if v then Some d else device_with id ds)
        → (OfPlaced (λ x. is_tag x ≡ false) (device_with id ds) → (n : ℕ) × (placed_under id ds (later_fars ps) ≡ Some n))
        → (n : ℕ) × ((if v then first_far ps else placed_under id ds (later_fars ps)) ≡ Some n)
    by true here rest = some_there (first_far ps) (all.0 here)
    by false there rest = rest there
