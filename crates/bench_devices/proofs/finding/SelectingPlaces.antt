-- The place of the device with an identifier, among others that have other ones.
use Rattle.std.proofs.Common.{◌≡◌, ℕ, zero, suc, ◌<◌, List, [], ◌∷◌, ◌++◌, map, length, get_or, Bool, true, false, nat_eq, if◌then◌else◌, Some, None, IsSome, refl, sym, ◌∙◌, ap, subst, arith, ◌⊎◌}
use Rattle.std.proofs.Common.{inl, inr}
use Rattle.std.specs.List.{AllByRecursion}
use Rattle.std.specs.Cmp.Lexicographic.{pointwise}
use Rattle.nfca_poll.specs.Ident.{IsIdentLength}
use Rattle.nfca_poll.proofs.quiet.OneLevel.{pointwise_self}
use Rattle.t5t_tag.proofs.Bytes.{equal_bytes}
use Rattle.bench_devices.specs.declared.device.Device.{Device}
use Rattle.bench_devices.specs.Device.{device_id}
use Rattle.bench_devices.specs.Placed.{device_with}
use Rattle.bench_devices.specs.Keeping.{Kept, kept, IsSound, IsApart, AreSound}
use Rattle.bench_devices.specs.Choosing.{StandsAt}

pub stands_at : (id : List ℕ) (ds : List Device) (place : ℕ) (x : Device) → place < length ds → pointwise nat_eq (device_id (get_or ds place x)) id ≡ true → StandsAt id ds place
stands_at id [] place x less named = absurd (omega (arith, less))
stands_at id (d ∷ ds) zero x less named = record { before = []; device = d; behind = ds; split = refl; at = refl; named = equal_bytes (device_id d) id named }
stands_at id (d ∷ ds) (suc n) x less named =
    let r : StandsAt id ds n = stands_at id ds n x (omega (arith, less)) named in
    record { before = d ∷ r.before; device = r.device; behind = r.behind; split = ap (λ xs. d ∷ xs) r.split; at = ap suc r.at; named = r.named }

-- an identifier of NFC-A is none of eight bytes
pub not_eight : (n : ℕ) → IsIdentLength n → n ≡ 8 → ⊥
not_eight n (inl h) e = absurd (omega (arith, h, e))
not_eight n (inr (inl h)) e = absurd (omega (arith, h, e))
not_eight n (inr (inr h)) e = absurd (omega (arith, h, e))

-- one of these has the identifier
pub some_named : (id : List ℕ) (before : List Device) (d : Device) (behind : List Device) → device_id d ≡ id → IsSome (device_with id (before ++ d ∷ behind))
some_named id [] d behind named = subst IsSome (sym (ap (λ v. if v then Some d else device_with id behind) (ap (λ x. pointwise nat_eq x id) named ∙ pointwise_self id))) refl
some_named id (x ∷ xs) d behind named = by_first (pointwise nat_eq (device_id x) id) (some_named id xs d behind named)
  where
    by_first : (v : Bool) → IsSome (device_with id (xs ++ d ∷ behind)) → IsSome (if v then Some x else device_with id (xs ++ d ∷ behind))
    by_first true h = refl
    by_first false h = h

-- Either none has an identifier, or one of the devices has it.
pub record Amid (id : List ℕ) (ds : List Device) : Type 0 where
  pub before : List Device
  pub device : Device
  pub behind : List Device
  pub split : ds ≡ before ++ device ∷ behind
  pub named : device_id device ≡ id

pub none_or_amid : (id : List ℕ) (ds : List Device) → (device_with id ds ≡ None) ⊎ Amid id ds
none_or_amid id [] = inl refl
none_or_amid id (d ∷ ds) = by_first (pointwise nat_eq (device_id d) id) refl (none_or_amid id ds)
  where
    by_first : (v : Bool) → pointwise nat_eq (device_id d) id ≡ v → (device_with id ds ≡ None) ⊎ Amid id ds → ((if v then Some d else device_with id ds) ≡ None) ⊎ Amid id (d ∷ ds)
    by_first true h rest = inr (record { before = []; device = d; behind = ds; split = refl; named = equal_bytes (device_id d) id h })
    by_first false h (inl none) = inl none
    by_first false h (inr r) = inr (record { before = d ∷ r.before; device = r.device; behind = r.behind; split = ap (λ xs. d ∷ xs) r.split; named = r.named })

-- what holds of all that is kept holds of each device
pub amid : (P : Kept → Type 0) (before : List Device) (d : Device) (behind : List Device) → AllByRecursion P (map kept (before ++ d ∷ behind)) → P (kept d)
amid P [] d behind h = h.0
amid P (l ∷ ls) d behind h = amid P ls d behind h.1

pub sound_amid : (before : List Device) (d : Device) (behind : List Device) → AreSound (map kept (before ++ d ∷ behind)) → IsSound (kept d)
sound_amid [] d behind s = s.0
sound_amid (l ∷ ls) d behind s = sound_amid ls d behind s.2

pub sound_front : (before : List Device) (behind : List Device) → AreSound (map kept (before ++ behind)) → AreSound (map kept before)
sound_front [] behind s = tt
sound_front (l ∷ ls) behind s = (s.0, front ls s.1, sound_front ls behind s.2)
  where
    front : (xs : List Device) → AllByRecursion (IsApart (kept l)) (map kept (xs ++ behind)) → AllByRecursion (IsApart (kept l)) (map kept xs)
    front [] h = tt
    front (x ∷ xs) h = (h.0, front xs h.1)

pub sound_back : (before : List Device) (behind : List Device) → AreSound (map kept (before ++ behind)) → AreSound (map kept behind)
sound_back [] behind s = s
sound_back (l ∷ ls) behind s = sound_back ls behind s.2

-- the devices around one have other identifiers
pub others_before : (before : List Device) (d : Device) (behind : List Device) → AreSound (map kept (before ++ d ∷ behind)) → AllByRecursion (λ l. device_id d ≡ device_id l → ⊥) before
others_before [] d behind s = tt
others_before (l ∷ ls) d behind s = (amid (IsApart (kept l)) ls d behind s.1, others_before ls d behind s.2)

all_apart : (d : Device) (ls : List Device) → AllByRecursion (IsApart (kept d)) (map kept ls) → AllByRecursion (λ l. device_id d ≡ device_id l → ⊥) ls
all_apart d [] h = tt
all_apart d (l ∷ ls) h = ((λ e. h.0 (sym e)), all_apart d ls h.1)

pub others_behind : (before : List Device) (d : Device) (behind : List Device) → AreSound (map kept (before ++ d ∷ behind)) → AllByRecursion (λ l. device_id d ≡ device_id l → ⊥) behind
others_behind [] d behind s = all_apart d behind s.1
others_behind (l ∷ ls) d behind s = others_behind ls d behind s.2

head_or : {X : Type 0} → X → List X → X
head_or y [] = y
head_or y (x ∷ xs) = x

tail_of : {X : Type 0} → List X → List X
tail_of [] = []
tail_of (x ∷ xs) = xs

-- one identifier stands at one place
pub same_place : (before : List Device) (d : Device) (behind before' : List Device) (d' : Device) (behind' : List Device) → AreSound (map kept (before ++ d ∷ behind))
    → before ++ d ∷ behind ≡ before' ++ d' ∷ behind' → device_id d ≡ device_id d' → length before ≡ length before'
unfolding head_or tail_of
same_place [] d behind [] d' behind' s e same = refl
same_place [] d behind (x ∷ xs) d' behind' s e same =
    let P : List Device → Type 0 = λ ls. AllByRecursion (IsApart (kept d)) (map kept ls) in
    let rest : behind ≡ xs ++ d' ∷ behind' = ap tail_of e in
    absurd (amid (IsApart (kept d)) xs d' behind' (subst P rest s.1) (sym same))
same_place (x ∷ xs) d behind [] d' behind' s e same = let first : x ≡ d' = ap (head_or x) e in absurd (amid (IsApart (kept x)) xs d behind s.1 (same ∙ sym (ap device_id first)))
same_place (x ∷ xs) d behind (y ∷ ys) d' behind' s e same = ap suc (same_place xs d behind ys d' behind' s.2 (ap tail_of e) same)

-- and one device stands there
pub same_device : (before : List Device) (d : Device) (behind before' : List Device) (d' : Device) (behind' : List Device) → AreSound (map kept (before ++ d ∷ behind))
    → before ++ d ∷ behind ≡ before' ++ d' ∷ behind' → device_id d ≡ device_id d' → d ≡ d'
unfolding head_or tail_of
same_device [] d behind [] d' behind' s e same = ap (head_or d) e
same_device [] d behind (x ∷ xs) d' behind' s e same =
    let P : List Device → Type 0 = λ ls. AllByRecursion (IsApart (kept d)) (map kept ls) in
    let rest : behind ≡ xs ++ d' ∷ behind' = ap tail_of e in
    absurd (amid (IsApart (kept d)) xs d' behind' (subst P rest s.1) (sym same))
same_device (x ∷ xs) d behind [] d' behind' s e same = let first : x ≡ d' = ap (head_or x) e in absurd (amid (IsApart (kept x)) xs d behind s.1 (same ∙ sym (ap device_id first)))
same_device (x ∷ xs) d behind (y ∷ ys) d' behind' s e same = same_device xs d behind ys d' behind' s.2 (ap tail_of e) same
