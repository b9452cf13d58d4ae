-- A device is taken away.
use Rattle.std.proofs.Common.{◌≡◌, ℕ, suc, ◌≤◌, List, [], ◌∷◌, ◌++◌, map, length, Bool, true, false, nat_eq, if◌then◌else◌, Option, Some, None, refl, sym, ◌∙◌, ap, subst, arith}
use Rattle.std.specs.Prelude.{get_or, slice_set}
use Rattle.std.proofs.lemmas.List.{length-set}
use Rattle.std.specs.List.{AllByRecursion, remove}
use Rattle.std.specs.Cmp.Lexicographic.{pointwise, same_text}
use Rattle.air_core.specs.Turn.{Air}
use Rattle.nfca_poll.proofs.quiet.OneLevel.{pointwise_self}
use Rattle.bench_script.specs.declared.command.Command.TheVariants.{Remove}
use Rattle.bench_script.specs.declared.command.DeviceId.{DeviceId}
use Rattle.bench_devices.specs.declared.device.Device.{Device}
use Rattle.bench_world.specs.declared.entry.Answer.TheVariants.{Done}
use Rattle.bench_devices.specs.Choosing.{StandsAt}
use Rattle.bench_devices.specs.Device.{device_id}
use Rattle.bench_world.specs.Legal.{State, IsPlaced, changed, without_device}
use Rattle.bench_devices.specs.Placed.{without}
use Rattle.bench_world.specs.Obeying.{Machines, state_at, IsSettled, KeepsLink, Obeyed, taken_out}
use Rattle.bench_world.specs.Opened.{AreServed, AreNumbered}
use Rattle.bench_world.specs.World.{FarEnd}
use Rattle.bench_world.specs.Peers.{without_place, placed_under, with_gone, next_number}
use Rattle.far_air.specs.FarEnds.{later_fars, by_link, rests}
use Rattle.far_air.specs.FarLaws.{shown}
use Rattle.peer_air.specs.PeerFars.{peer_ends}
use Rattle.bench_devices.specs.Device.{device_linked}
use Rattle.bench_devices.specs.Phases.{IsIdle}
use Rattle.bench_devices.specs.Keeping.{Kept, kept, IsApart, AreSound, AreTame}
use Rattle.bench_devices.specs.Phases.{AreTidy}
use Rattle.bench_script.specs.DeviceIds.{bytes_of}
use Rattle.bench_world.proofs.devices.PlacesKept.{served_less, numbered_less}
use Rattle.bench_world.proofs.devices.Placed.{still_obeyed}

-- the item behind some others is removed
remove_behind : {X : Type 0} (xs : List X) (x : X) (ys : List X) → remove (xs ++ x ∷ ys) (length xs) ≡ xs ++ ys
remove_behind [] x ys = refl
remove_behind (w ∷ xs) x ys = ap (λ zs. w ∷ zs) (remove_behind xs x ys)

-- what holds of all devices holds of one of them, and of the others
holds_of : (P : Kept → Type 0) (before : List Device) (d : Device) (behind : List Device) → AllByRecursion P (map kept (before ++ d ∷ behind)) → P (kept d)
holds_of P [] d behind all = all.0
holds_of P (b ∷ before) d behind all = holds_of P before d behind all.1

holds_without : (P : Kept → Type 0) (before : List Device) (d : Device) (behind : List Device) → AllByRecursion P (map kept (before ++ d ∷ behind)) → AllByRecursion P (map kept (before ++ behind))
holds_without P [] d behind all = all.1
holds_without P (b ∷ before) d behind all = (all.0, holds_without P before d behind all.1)

sound_without : (before : List Device) (d : Device) (behind : List Device) → AreSound (map kept (before ++ d ∷ behind)) → AreSound (map kept (before ++ behind))
sound_without [] d behind sound = sound.2
sound_without (b ∷ before) d behind sound = (sound.0, holds_without (IsApart (kept b)) before d behind sound.1, sound_without before d behind sound.2)

fewer : (before : List Device) (d : Device) (behind : List Device) → length (map kept (before ++ behind)) ≤ length (map kept (before ++ d ∷ behind))
fewer [] d behind = omega arith
fewer (b ∷ before) d behind = omega (arith, fewer before d behind)

tame_without : (before : List Device) (d : Device) (behind : List Device) → AreTame (map kept (before ++ d ∷ behind)) → AreTame (map kept (before ++ behind))
tame_without before d behind tame = record { sound = sound_without before d behind tame.sound; few = omega (arith, fewer before d behind, tame.few) }

tidy_without : (before : List Device) (d : Device) (behind : List Device) → AreTidy (before ++ d ∷ behind) → AreTidy (before ++ behind)
tidy_without [] d behind tidy = tidy.1
tidy_without (b ∷ before) d behind tidy = (tidy.0, tidy_without before d behind tidy.1)

-- a device before it has another identifier
pub is_other : (b : Device) (before : List Device) (d : Device) (behind : List Device) (id : List ℕ) → device_id d ≡ id → AllByRecursion (IsApart (kept b)) (map kept (before ++ d ∷ behind))
    → pointwise nat_eq (device_id b) id ≡ false
is_other b before d behind id named apart = by_case (pointwise nat_eq (device_id b) id) refl
  where
    by_case : (v : Bool) → pointwise nat_eq (device_id b) id ≡ v → v ≡ false
    by_case true h = absurd (holds_of (IsApart (kept b)) before d behind apart (named ∙ sym (same_text (device_id b) id (sym h))))
    by_case false h = refl

-- no other device has its identifier, so it is the first that has it
without_behind : (before : List Device) (d : Device) (behind : List Device) (id : List ℕ) → device_id d ≡ id → AreSound (map kept (before ++ d ∷ behind))
    → without id (before ++ d ∷ behind) ≡ before ++ behind
without_behind [] d behind id named sound = ap (λ v. if v then behind else d ∷ without id behind) (ap (λ x. pointwise nat_eq x id) named ∙ pointwise_self id)
without_behind (b ∷ before) d behind id named sound =
    ap (λ v. if v then before ++ d ∷ behind else b ∷ without id (before ++ d ∷ behind)) (is_other b before d behind id named sound.1)
    ∙ ap (λ xs. b ∷ xs) (without_behind before d behind id named sound.2)

-- Without a device and its far end, the others are shown as before.
end_without : (before : List Device) (d : Device) (behind : List Device) (id : List ℕ) (os : List (Option FarEnd)) → device_id d ≡ id → AreSound (map kept (before ++ d ∷ behind))
    → length os ≡ length (before ++ d ∷ behind)
    → shown device_linked peer_ends (before ++ behind) (remove os (length before)) ≡ without_place id (before ++ d ∷ behind) (shown device_linked peer_ends (before ++ d ∷ behind) os)
end_without [] d behind id [] named sound e = absurd cc
end_without [] d behind id (o ∷ os) named sound e =
    sym (ap (λ v. if v then shown device_linked peer_ends behind os else by_link peer_ends (device_linked d) o ∷ without_place id behind (shown device_linked peer_ends behind os))
    (ap (λ x. pointwise nat_eq x id) named ∙ pointwise_self id))
end_without (b ∷ before) d behind id [] named sound e = absurd cc
end_without (b ∷ before) d behind id (o ∷ os) named sound e =
    let more : length os ≡ length (before ++ d ∷ behind) = cc in
    let all : List (Option FarEnd) = shown device_linked peer_ends (before ++ d ∷ behind) os in
    ap (λ xs. by_link peer_ends (device_linked b) o ∷ xs) (end_without before d behind id os named sound.2 more)
    ∙ sym (ap (λ v. if v then all else by_link peer_ends (device_linked b) o ∷ without_place id (before ++ d ∷ behind) all) (is_other b before d behind id named sound.1))

-- nor do the others' numbers change
number_without : (before : List Device) (d : Device) (behind : List Device) (id : List ℕ) (ns : List (Option ℕ)) → device_id d ≡ id → AreSound (map kept (before ++ d ∷ behind))
    → length ns ≡ length (before ++ d ∷ behind)
    → remove ns (length before) ≡ without_place id (before ++ d ∷ behind) ns
number_without [] d behind id [] named sound e = absurd cc
number_without [] d behind id (n ∷ ns) named sound e = sym (ap (λ v. if v then ns else n ∷ without_place id behind ns) (ap (λ x. pointwise nat_eq x id) named ∙ pointwise_self id))
number_without (b ∷ before) d behind id [] named sound e = absurd cc
number_without (b ∷ before) d behind id (n ∷ ns) named sound e =
    let more : length ns ≡ length (before ++ d ∷ behind) = cc in
    ap (λ xs. n ∷ xs) (number_without before d behind id ns named sound.2 more)
    ∙ sym (ap (λ v. if v then ns else n ∷ without_place id (before ++ d ∷ behind) ns) (is_other b before d behind id named sound.1))

shorter : {X : Type 0} (before : List Device) (d : Device) (behind : List Device) (os : List X) → length os ≡ length (before ++ d ∷ behind)
    → length (remove os (length before)) ≡ length (before ++ behind)
shorter [] d behind [] e = absurd cc
shorter [] d behind (o ∷ os) e = cc
shorter (b ∷ before) d behind [] e = absurd cc
shorter (b ∷ before) d behind (o ∷ os) e = let more : length os ≡ length (before ++ d ∷ behind) = cc in ap suc (shorter before d behind os more)

-- What stands at the place of the device with an identifier.
pub under_at : {X : Type 0} (before : List Device) (d : Device) (behind : List Device) (id : List ℕ) (xs : List (Option X)) → device_id d ≡ id → AreSound (map kept (before ++ d ∷ behind))
    → length xs ≡ length (before ++ d ∷ behind) → placed_under id (before ++ d ∷ behind) xs ≡ get_or xs (length before) None
under_at [] d behind id [] named sound e = absurd cc
under_at [] d behind id (x ∷ xs) named sound e = ap (λ v. if v then x else placed_under id behind xs) (ap (λ i. pointwise nat_eq i id) named ∙ pointwise_self id)
under_at (b ∷ before) d behind id [] named sound e = absurd cc
under_at (b ∷ before) d behind id (x ∷ xs) named sound e =
    let more : length xs ≡ length (before ++ d ∷ behind) = cc in
    ap (λ v. if v then x else placed_under id (before ++ d ∷ behind) xs) (is_other b before d behind id named sound.1) ∙ under_at before d behind id xs named sound.2 more

-- ... and the far end there, as the world shows it
pub shown_at : (before : List Device) (d : Device) (behind : List Device) (os : List (Option FarEnd)) → length os ≡ length (before ++ d ∷ behind)
    → get_or (shown device_linked peer_ends (before ++ d ∷ behind) os) (length before) None ≡ by_link peer_ends (device_linked d) (get_or os (length before) None)
shown_at [] d behind [] e = absurd cc
shown_at [] d behind (o ∷ os) e = refl
shown_at (b ∷ before) d behind [] e = absurd cc
shown_at (b ∷ before) d behind (o ∷ os) e = let more : length os ≡ length (before ++ d ∷ behind) = cc in shown_at before d behind os more

pub shown_long : (ls : List Device) (os : List (Option FarEnd)) → length (shown device_linked peer_ends ls os) ≡ length ls
shown_long [] os = refl
shown_long (l ∷ ls) os = ap suc (shown_long ls (later_fars os))

-- What stays of an end is the same, whether the state has it whole or not.
rests_by_link : (v : Bool) (o : Option FarEnd) → rests peer_ends (by_link peer_ends v o) ≡ rests peer_ends o
rests_by_link true o = refl
rests_by_link false None = refl
rests_by_link false (Some l) = refl

kept_by_link : (v : Bool) (number : Option ℕ) (o : Option FarEnd) (os : List (Option FarEnd)) → with_gone number o os ≡ with_gone number (by_link peer_ends v o) os
kept_by_link v None o os = refl
kept_by_link v (Some n) o os = ap (slice_set os n) (sym (rests_by_link v o))

pub as_many_gone : (number : Option ℕ) (o : Option FarEnd) (os : List (Option FarEnd)) → length (with_gone number o os) ≡ length os
as_many_gone None o os = refl
as_many_gone (Some n) o os = length-set os n (rests peer_ends o)

-- so of a device that is taken away the state keeps what the machines keep
gone_shown : (before : List Device) (d : Device) (behind : List Device) (id : List ℕ) (ns : List (Option ℕ)) (os kept_ends : List (Option FarEnd)) → device_id d ≡ id
    → AreSound (map kept (before ++ d ∷ behind))
    → length ns ≡ length (before ++ d ∷ behind) → length os ≡ length (before ++ d ∷ behind)
    → with_gone (get_or ns (length before) None) (get_or os (length before) None) kept_ends
    ≡ with_gone (placed_under id (before ++ d ∷ behind) ns) (placed_under id (before ++ d ∷ behind) (shown device_linked peer_ends (before ++ d ∷ behind) os)) kept_ends
gone_shown before d behind id ns os kept_ends named sound many long =
    let all : List Device = before ++ d ∷ behind in
    let fars : List (Option FarEnd) = shown device_linked peer_ends all os in
    kept_by_link (device_linked d) (get_or ns (length before) None) (get_or os (length before) None) kept_ends
    ∙ ap (λ o. with_gone (get_or ns (length before) None) o kept_ends)
    (sym (shown_at before d behind os long) ∙ sym (under_at before d behind id fars named sound (shown_long all os)))
    ∙ ap (λ n. with_gone n (placed_under id all fars) kept_ends) (sym (under_at before d behind id ns named sound many))

-- A device was taken away, once no link to it was open.
pub removed : (first old new : Machines) (id : DeviceId) (place : ℕ) → IsIdle first.air → IsSettled old → old.air ≡ first.air → IsPlaced (state_at first) id
    → without_device (state_at old) id ≡ changed (state_at first) (Remove id) → StandsAt (bytes_of id) old.air.listeners place → KeepsLink (taken_out old place)
    → new ≡ taken_out old place → Obeyed first new (Remove id) Done
removed first old new id place quiet settled beside placed changes s keeps is =
    let T : List Device → Type 0 = λ ls. AreTame (map kept ls) in
    let O : Machines → Type 0 = λ m. Obeyed first m (Remove id) Done in
    let idle : IsIdle old.air = settled.idle in
    let all : List Device = s.before ++ s.device ∷ s.behind in
    let ends : List (Option FarEnd) = remove old.ends (length s.before) in
    let M : List Device → ℕ → Machines = λ ls n. record {
      air = record { lit = old.air.lit; listeners = ls; fates = old.air.fates; trace = old.air.trace };
      ends = remove old.ends n;
      peers = record {
        numbers = remove old.peers.numbers n;
        gone = with_gone (get_or old.peers.numbers n None) (get_or old.ends n None) old.peers.gone;
        links = old.peers.links;
      };
      link = old.link;
    } in
    let tame : T all = subst T s.split idle.tame in
    let long : length old.ends ≡ length all = settled.places.ends ∙ ap length s.split in
    let many : length old.peers.numbers ≡ length all = settled.places.numbers ∙ ap length s.split in
    let left : remove old.air.listeners place ≡ s.before ++ s.behind =
    ap (λ ls. remove ls place) s.split ∙ ap (remove all) (sym s.at) ∙ remove_behind s.before s.device s.behind in
    let same : without (bytes_of id) old.air.listeners ≡ s.before ++ s.behind =
    ap (without (bytes_of id)) s.split ∙ without_behind s.before s.device s.behind (bytes_of id) s.named tame.sound in
    let fars : shown device_linked peer_ends (s.before ++ s.behind) ends ≡ without_place (bytes_of id) old.air.listeners (shown device_linked peer_ends old.air.listeners old.ends) =
    end_without s.before s.device s.behind (bytes_of id) old.ends s.named tame.sound long
    ∙ ap (λ ls. without_place (bytes_of id) ls (shown device_linked peer_ends ls old.ends)) (sym s.split) in
    let numbers : remove old.peers.numbers (length s.before) ≡ without_place (bytes_of id) old.air.listeners old.peers.numbers =
    number_without s.before s.device s.behind (bytes_of id) old.peers.numbers s.named tame.sound many ∙ ap (λ ls. without_place (bytes_of id) ls old.peers.numbers) (sym s.split) in
    let S : List Device → List (Option FarEnd) → List (Option ℕ) → List (Option FarEnd) → State = λ ls os ns ks. record {
      world = record { field = record { lit = old.air.lit; listeners = ls }; fars = os; numbers = [] };
      queue = old.air.fates;
      peers = record { numbers = ns; gone = ks; links = old.peers.links };
      link = old.link;
    } in
    let gone : List (Option FarEnd) = without_place (bytes_of id) old.air.listeners (shown device_linked peer_ends old.air.listeners old.ends) in
    let left_numbers : List (Option ℕ) = without_place (bytes_of id) old.air.listeners old.peers.numbers in
    let aside : List (Option FarEnd) = with_gone (get_or old.peers.numbers (length s.before) None) (get_or old.ends (length s.before) None) old.peers.gone in
    let aside_there : List Device → List (Option FarEnd) =
    λ ls. with_gone (placed_under (bytes_of id) ls old.peers.numbers) (placed_under (bytes_of id) ls (shown device_linked peer_ends ls old.ends)) old.peers.gone in
    let same_aside : aside ≡ aside_there old.air.listeners =
    gone_shown s.before s.device s.behind (bytes_of id) old.peers.numbers old.ends old.peers.gone s.named tame.sound many long ∙ ap aside_there (sym s.split) in
    let out : taken_out old place ≡ M (s.before ++ s.behind) (length s.before) = ap (λ ls. M ls place) left ∙ ap (M (s.before ++ s.behind)) (sym s.at) in
    let served : AreServed all old.peers.numbers old.ends = subst (λ ls. AreServed ls old.peers.numbers old.ends) s.split settled.places.served in
    subst O (sym (is ∙ out))
    (still_obeyed first (M (s.before ++ s.behind) (length s.before)) (Remove id) Done quiet placed
    (ap (λ os. S (s.before ++ s.behind) os (remove old.peers.numbers (length s.before)) aside) fars ∙ ap (λ ns. S (s.before ++ s.behind) gone ns aside) numbers
    ∙ ap (S (s.before ++ s.behind) gone left_numbers) same_aside ∙ ap (λ ls. S ls gone left_numbers (aside_there old.air.listeners)) (sym same) ∙ changes)
    (ap (λ (a : Air Device). a.trace) beside) refl refl refl (tame_without s.before s.device s.behind tame)
    (tidy_without s.before s.device s.behind (subst AreTidy s.split idle.tidy))
    (record {
      ends = shorter s.before s.device s.behind old.ends long;
      numbers = shorter s.before s.device s.behind old.peers.numbers many;
      served = subst (λ ls. AreServed ls (remove old.peers.numbers (length s.before)) ends) (remove_behind s.before s.device s.behind)
          (served_less all old.peers.numbers old.ends (length s.before) many long served);
      apart = subst (λ n. AreNumbered n (remove old.peers.numbers (length s.before)))
          (sym (as_many_gone (get_or old.peers.numbers (length s.before) None) (get_or old.ends (length s.before) None) old.peers.gone))
          (numbered_less (next_number old.peers) old.peers.numbers (length s.before) settled.places.apart);
    })
    (subst KeepsLink out keeps) (λ h. h))
