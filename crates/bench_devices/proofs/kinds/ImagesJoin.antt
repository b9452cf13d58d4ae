-- The images of a store: those of a device at a place, and those of events one behind another.
use Rattle.std.proofs.Common.{◌≡◌, ℕ, zero, suc, List, [], ◌∷◌, ◌++◌, length, map, Bool, true, false, nat_eq, if◌then◌else◌, Some, refl, sym, ◌∙◌, ap, subst}
use Rattle.std.specs.List.{AllByRecursion}
use Rattle.std.specs.Cmp.Lexicographic.{pointwise}
use Rattle.nfc_base.specs.declared.event.Event.{Event}
use Rattle.nfc_base.specs.declared.event.Event.TheVariants.{Reset, Request, Answer, Clash}
use Rattle.air_core.specs.Conversation.{Note, Next, Moment, Going, replay}
use Rattle.air_core.specs.PlainTags.{IsAside}
use Rattle.air_core.specs.PlainLinks.{at_place, stores_after}
use Rattle.nfca_poll.proofs.quiet.OneLevel.{pointwise_self}
use Rattle.t5t_tag.proofs.Bytes.{equal_bytes}
use Rattle.tag_writer.specs.Law.{Ending, Stopped, WriteLaw}
use Rattle.bench_devices.specs.declared.device.Device.{Device}
use Rattle.bench_devices.specs.Device.{BenchWorld, air, device_id, device_store, how_of, size_of}
use Rattle.bench_devices.specs.Placed.{device_with}
use Rattle.bench_devices.specs.Keeping.{Kept, kept, ghosts, held_by, images_of, EachAsked, AllStayDevices}
use Rattle.bench_devices.specs.Writing.{KeepsWriteLaw}
use Rattle.bench_devices.proofs.finding.SelectingKept.{IsHarmless, events_keep}
use Rattle.bench_devices.proofs.finding.SelectingAir.{events_are}
use Rattle.bench_devices.proofs.kinds.EveryFrame.{event_stays, same_id}
use Rattle.bench_devices.proofs.kinds.StoresFollow.{law_before}

-- The first device with an identifier stands at this place.
abbrev pub IsFirstAt : List ℕ → List Device → ℕ → Type 0
IsFirstAt id [] n = ⊥
IsFirstAt id (d ∷ ds) zero = device_id d ≡ id
IsFirstAt id (d ∷ ds) (suc n) = (device_id d ≡ id → ⊥) × IsFirstAt id ds n

pub held_at : (id : List ℕ) (ds : List Device) (n : ℕ) → IsFirstAt id ds n → held_by (device_with id ds) ≡ at_place device_store [] ds n
held_at id [] n first = absurd first
held_at id (d ∷ ds) zero first = ap (λ v. held_by (if v then Some d else device_with id ds)) (ap (λ i. pointwise nat_eq i id) first ∙ pointwise_self id)
held_at id (d ∷ ds) (suc n) first = by_name (pointwise nat_eq (device_id d) id) refl (held_at id ds n first.1)
  where
    by_name : (v : Bool) → pointwise nat_eq (device_id d) id ≡ v → held_by (device_with id ds) ≡ at_place device_store [] ds n
        → held_by (if v then Some d else device_with id ds) ≡ at_place device_store [] ds n
    by_name true e later = absurd (first.0 (equal_bytes (device_id d) id e))
    by_name false e later = later

first_stays_at : (id : List ℕ) (ds es : List Device) (n : ℕ) → AllStayDevices ds es → IsFirstAt id ds n → IsFirstAt id es n
first_stays_at id [] es n p first = absurd first
first_stays_at id (d ∷ ds) [] n p first = absurd p
first_stays_at id (d ∷ ds) (e ∷ es) zero p first = same_id d e p.0 ∙ first
first_stays_at id (d ∷ ds) (e ∷ es) (suc n) p first = ((λ same. first.0 (sym (same_id d e p.0) ∙ same)), first_stays_at id ds es n p.1 first.1)

-- so its images are the stores at this place
pub images_at : (id : List ℕ) (n : ℕ) (w : BenchWorld) (es : List Event) → IsFirstAt id w.listeners n → images_of id w es ≡ at_place device_store [] w.listeners n ∷ stores_after ghosts n w es
images_at id n w [] first = ap (λ s. s ∷ []) (held_at id w.listeners n first)
images_at id n w (e ∷ es) first =
    ap (λ s. s ∷ images_of id (air.happens w e) es) (held_at id w.listeners n first)
    ∙ ap (λ ss. at_place device_store [] w.listeners n ∷ ss) (images_at id n (air.happens w e) es (first_stays_at id w.listeners (air.happens w e).listeners n (event_stays w e) first))

-- a device beside which all others are aside
pub first_alone : (before : List Device) (d : Device) (behind : List Device) → AllByRecursion (IsAside ghosts (device_id d)) before → IsFirstAt (device_id d) (before ++ d ∷ behind) (length before)
first_alone [] d behind aside = refl
first_alone (b ∷ before) d behind aside = ((λ same. aside.0.other (sym same)), first_alone before d behind aside.1)

-- The images before each of some events, and those from their end on.
abbrev pub images_before : List ℕ → BenchWorld → List Event → List (List ℕ)
images_before id w [] = []
images_before id w (e ∷ es) = held_by (device_with id w.listeners) ∷ images_before id (air.happens w e) es

pub images_join : (id : List ℕ) (w : BenchWorld) (es fs : List Event) → images_of id w (es ++ fs) ≡ images_before id w es ++ images_of id (replay air w es) fs
images_join id w [] fs = refl
images_join id w (e ∷ es) fs = ap (λ ss. held_by (device_with id w.listeners) ∷ ss) (images_join id (air.happens w e) es fs)

-- what stays of devices tells what the one with an identifier holds
pub held_kept : (id : List ℕ) (ds es : List Device) → map kept es ≡ map kept ds → held_by (device_with id es) ≡ held_by (device_with id ds)
held_kept id [] [] same = refl
held_kept id [] (e ∷ es) same = absurd cc
held_kept id (d ∷ ds) [] same = absurd cc
held_kept id (d ∷ ds) (e ∷ es) same =
    let one : kept e ≡ kept d = cc in
    let rest : map kept es ≡ map kept ds = cc in
    ap (λ (k : Kept). held_by (if pointwise nat_eq k.fixed.id id then Some e else device_with id es)) one
    ∙ by_name (pointwise nat_eq (device_id d) id) (ap (λ (k : Kept). k.store) one) (held_kept id ds es rest)
  where
    by_name : (v : Bool) → device_store e ≡ device_store d → held_by (device_with id es) ≡ held_by (device_with id ds)
        → held_by (if v then Some e else device_with id es) ≡ held_by (if v then Some d else device_with id ds)
    by_name true store later = store
    by_name false store later = later

-- events that ask for nothing but what changes no device but in its state leave the store
pub still_before : (id : List ℕ) (w : BenchWorld) (es : List Event) → EachAsked IsHarmless es → AllByRecursion (λ s. s ≡ held_by (device_with id (replay air w es).listeners)) (images_before id w es)
still_before id w [] h = tt
still_before id w (e ∷ es) h = (sym (held_kept id w.listeners (replay air w (e ∷ es)).listeners (events_keep (e ∷ es) w h)), still_before id (air.happens w e) es (behind e h))
  where
    behind : (x : Event) → EachAsked IsHarmless (x ∷ es) → EachAsked IsHarmless es
    behind Reset k = k
    behind (Request f y) k = k.1
    behind (Answer g y) k = k
    behind (Clash g y) k = k

-- and so do all its images
pub images_still : (id : List ℕ) (w : BenchWorld) (es : List Event) → EachAsked IsHarmless es → AllByRecursion (λ s. s ≡ held_by (device_with id w.listeners)) (images_of id w es)
images_still id w [] h = (refl, tt)
images_still id w (e ∷ es) h = (
  refl,
  subst (λ x. AllByRecursion (λ s. s ≡ x) (images_of id (air.happens w e) es)) (held_kept id w.listeners (air.happens w e).listeners (events_keep (e ∷ []) w (first e h)))
      (images_still id (air.happens w e) es (behind e h)),
)
  where
    first : (x : Event) → EachAsked IsHarmless (x ∷ es) → EachAsked IsHarmless (x ∷ [])
    first Reset k = tt
    first (Request f y) k = (k.0, tt)
    first (Answer g y) k = tt
    first (Clash g y) k = tt

    behind : (x : Event) → EachAsked IsHarmless (x ∷ es) → EachAsked IsHarmless es
    behind Reset k = k
    behind (Request f y) k = k.1
    behind (Answer g y) k = k
    behind (Clash g y) k = k

-- So the law of a write holds from before such events on.
pub law_behind : (message : List ℕ) (d : Device) (ending : Ending) (w : BenchWorld) (es fs : List Event) → EachAsked IsHarmless es
    → held_by (device_with (device_id d) (replay air w es).listeners) ≡ device_store d → KeepsWriteLaw message d ending (replay air w es) fs → KeepsWriteLaw message d ending w (es ++ fs)
law_behind message d ending w es fs h holds law =
    let id : List ℕ = device_id d in
    let olds : AllByRecursion (λ s. s ≡ device_store d) (images_before id w es) =
    subst (λ store. AllByRecursion (λ s. s ≡ store) (images_before id w es)) holds (still_before id w es h) in
    subst (λ ss. WriteLaw (how_of d) (size_of d) (device_store d) message ending ss) (sym (images_join id w es fs))
    (law_before (how_of d) (size_of d) (device_store d) message ending (images_before id w es) (images_of id (replay air w es) fs) olds law)

-- The device that stands alone is the first with its identifier.
pub with_alone : (before : List Device) (d : Device) (behind : List Device) → AllByRecursion (IsAside ghosts (device_id d)) before → device_with (device_id d) (before ++ d ∷ behind) ≡ Some d
with_alone [] d behind aside = ap (λ v. if v then Some d else device_with (device_id d) behind) (pointwise_self (device_id d))
with_alone (b ∷ before) d behind aside = by_name (pointwise nat_eq (device_id b) (device_id d)) refl (with_alone before d behind aside.1)
  where
    by_name : (v : Bool) → pointwise nat_eq (device_id b) (device_id d) ≡ v → device_with (device_id d) (before ++ d ∷ behind) ≡ Some d
        → (if v then Some b else device_with (device_id d) (before ++ d ∷ behind)) ≡ Some d
    by_name true e later = absurd (aside.0.other (sym (equal_bytes (device_id b) (device_id d) e)))
    by_name false e later = later

-- At the start no store has changed yet.
pub law_start : (message : List ℕ) (d : Device) (w : BenchWorld) → held_by (device_with (device_id d) w.listeners) ≡ device_store d → KeepsWriteLaw message d Stopped w []
law_start message d w holds = record {
  takes = λ place takes.
      record {
        three = record { before = images_of (device_id d) w []; during = []; behind = []; joined = refl; olds = (holds, tt); empties = tt; news = tt };
        leaves = tt;
      };
  stays = λ untaken. (holds, tt);
}

-- What happened from one moment to another is one list of events.
pub same_going : {P Q : List Note → Next} {ns ks : List Note} (a b : Moment BenchWorld) (g : Going air P a b ns) (h : Going air Q a b ks) → g.events ≡ h.events
same_going a b g h = sym (events_are air a b g.events g.moment) ∙ events_are air a b h.events h.moment
