-- Any frames: tags hand nothing over, and each device stays what it is.
use Rattle.std.proofs.Common.{◌≡◌, ℕ, suc, ◌≤◌, List, [], ◌∷◌, Bool, true, false, if◌then◌else◌, Option, Some, None, refl, sym, ◌∙◌, ap, subst, arith}
use Rattle.std.specs.Prelude.{option_map}
use Rattle.nfc_base.specs.Far.{FarUse, Untouched}
use Rattle.nfc_base.specs.Signal.{Signal}
use Rattle.nfc_base.specs.declared.event.Event.{Event}
use Rattle.nfc_base.specs.declared.event.Event.TheVariants.{Reset, Request, Answer, Clash}
use Rattle.nfc_base.specs.declared.event.Fate.{Fate}
use Rattle.nfc_base.specs.declared.event.Fate.TheVariants.{Pass, Damage, Lose, Break}
use Rattle.air_core.specs.Conversation.{replay}
use Rattle.air_core.specs.Quiet.{EachQuiet}
use Rattle.air_core.specs.World.{hands_over, hears, reset_by, requested, came_back}
use Rattle.far_air.specs.FarTurns.{QuietBut}
use Rattle.far_air.specs.Quietly.{NoneHands, QuietAt}
use Rattle.bench_devices.specs.AnyFrame.{OnePeerHands, PeersStay, TagsHandNothing, peer_place, peers_in}
use Rattle.bench_devices.specs.declared.device.Device.{Device}
use Rattle.bench_devices.specs.declared.device.Device.TheVariants.{T2, T4, Peer, T5, T3}
use Rattle.bench_devices.specs.Device.{BenchWorld, air, devices, is_tag, kind_of}
use Rattle.bench_devices.specs.Keeping.{AllStayDevices, Fixed, StaysDevice, fixed}
use Rattle.bench_devices.proofs.kinds.EveryFrame.{devices_stay, event_stays}
use Rattle.bench_devices.proofs.kinds.TagOrPeer.{tag_kind}

-- a tag hands nothing over
untouched_by : (v : Bool) → ◌≡◌ {A = FarUse} (if v then Untouched else Untouched) Untouched
untouched_by true = refl
untouched_by false = refl

pub tag_quiet : (d : Device) (f : Signal) → is_tag d ≡ true → hands_over devices d f ≡ Untouched
tag_quiet (T2 d) f t = untouched_by (hears devices (T2 d) f)
tag_quiet (T4 d) f t = untouched_by (hears devices (T4 d) f)
tag_quiet (Peer d) f t = absurd cc
tag_quiet (T5 p) f t = untouched_by (hears devices (T5 p) f)
tag_quiet (T3 p) f t = untouched_by (hears devices (T3 p) f)

none_behind : (o : Option ℕ) → option_map suc o ≡ None → o ≡ None
none_behind None e = refl
none_behind (Some n) e = absurd cc

record NonePlaced (d : Device) (ds : List Device) : Type 0 where
  pub tag : is_tag d ≡ true
  pub others : peer_place ds ≡ None

none_placed : (d : Device) (ds : List Device) → peer_place (d ∷ ds) ≡ None → NonePlaced d ds
none_placed d ds e = by_tag (is_tag d) refl
  where
    by_tag : (v : Bool) → is_tag d ≡ v → NonePlaced d ds
    by_tag true t = record { tag = t; others = none_behind (peer_place ds) (sym (ap (λ b. if b then option_map suc (peer_place ds) else Some 0) t) ∙ e) }
    by_tag false t = absurd (let clash : Some 0 ≡ None = sym (ap (λ b. if b then option_map suc (peer_place ds) else Some 0) t) ∙ e in cc)

pub all_quiet : (f : Signal) (ds : List Device) → peer_place ds ≡ None → EachQuiet devices f ds
all_quiet f [] e = tt
all_quiet f (d ∷ ds) e = let n = none_placed d ds e in (tag_quiet d f n.tag, all_quiet f ds n.others)

tag_is : (d : Device) → is_tag d ≡ tag_kind (kind_of d)
unfolding tag_kind
tag_is (T2 d) = refl
tag_is (T4 d) = refl
tag_is (Peer d) = refl
tag_is (T5 p) = refl
tag_is (T3 p) = refl

pub tag_stays : (d e : Device) → StaysDevice d e → is_tag e ≡ is_tag d
tag_stays d e s = tag_is e ∙ ap (λ (k : Fixed). tag_kind k.kind) s.fixed ∙ sym (tag_is d)

pub place_stays : (ds es : List Device) → AllStayDevices ds es → peer_place es ≡ peer_place ds
place_stays [] [] p = refl
place_stays [] (e ∷ es) p = absurd p
place_stays (d ∷ ds) [] p = absurd p
place_stays (d ∷ ds) (e ∷ es) p =
    ap (λ b. if b then option_map suc (peer_place es) else Some 0) (tag_stays d e p.0) ∙ ap (λ o. if is_tag d then option_map suc o else Some 0) (place_stays ds es p.1)

pub count_stays : (ds es : List Device) → AllStayDevices ds es → peers_in es ≡ peers_in ds
count_stays [] [] p = refl
count_stays [] (e ∷ es) p = absurd p
count_stays (d ∷ ds) [] p = absurd p
count_stays (d ∷ ds) (e ∷ es) p =
    ap (λ b. if b then peers_in es else suc (peers_in es)) (tag_stays d e p.0) ∙ ap (λ n. if is_tag d then n else suc n) (count_stays ds es p.1)

pub peers_stay : PeersStay
peers_stay w es = (
  count_stays w.listeners (replay air w es).listeners (devices_stay w es),
  place_stays w.listeners (replay air w es).listeners (devices_stay w es),
)

-- without a peer nothing is handed over
none_at : (f : Signal) (x : Fate) (ds : List Device) → peer_place ds ≡ None → QuietAt devices x f ds
none_at f Pass ds e = all_quiet f ds e
none_at f Damage ds e = tt
none_at f Lose ds e = tt
none_at f Break ds e = tt

event_place : (w : BenchWorld) (e : Event) → peer_place w.listeners ≡ None → peer_place (air.happens w e).listeners ≡ None
event_place w e none = place_stays w.listeners (air.happens w e).listeners (event_stays w e) ∙ none

none_hands : (es : List Event) (w : BenchWorld) → peer_place w.listeners ≡ None → NoneHands devices w es
none_hands [] w none = tt
none_hands (Reset ∷ es) w none = none_hands es (reset_by devices w) (event_place w Reset none)
none_hands (Request f x ∷ es) w none = (none_at f x w.listeners none, none_hands es (requested devices w f x) (event_place w (Request f x) none))
none_hands (Answer g x ∷ es) w none = none_hands es (came_back devices w x) (event_place w (Answer g x) none)
none_hands (Clash g x ∷ es) w none = none_hands es (came_back devices w x) (event_place w (Clash g x) none)

pub tags_hand_nothing : TagsHandNothing
tags_hand_nothing w es none = none_hands es w none

-- with one, no other does
record OneFirst (d : Device) (ds : List Device) : Type 0 where
  pub peer : is_tag d ≡ false
  pub others : peers_in ds ≤ 0

pub none_counted : (ds : List Device) → peers_in ds ≤ 0 → peer_place ds ≡ None
none_counted [] h = refl
none_counted (d ∷ ds) h = by_tag (is_tag d) refl (λ less. none_counted ds less)
  where
    by_tag : (v : Bool) → is_tag d ≡ v → (peers_in ds ≤ 0 → peer_place ds ≡ None) → peer_place (d ∷ ds) ≡ None
    by_tag true t rest =
        ap (λ b. if b then option_map suc (peer_place ds) else Some 0) t
        ∙ ap (option_map suc) (rest (subst (λ n. n ≤ 0) (ap (λ b. if b then peers_in ds else suc (peers_in ds)) t) h))
    by_tag false t rest = absurd (let one : suc (peers_in ds) ≤ 0 = subst (λ n. n ≤ 0) (ap (λ b. if b then peers_in ds else suc (peers_in ds)) t) h in omega arith)

pub one_peer : (place : ℕ) (ls : List Device) (f : Signal) → peers_in ls ≤ 1 → peer_place ls ≡ Some place → QuietBut devices f place ls
one_peer place [] f h e = absurd cc
one_peer place (d ∷ ds) f h e = by_tag (is_tag d) refl place e (λ n few at. one_peer n ds f few at)
  where
    count : (v : Bool) → is_tag d ≡ v → (if v then peers_in ds else suc (peers_in ds)) ≤ 1
    count v t = subst (λ b. (if b then peers_in ds else suc (peers_in ds)) ≤ 1) t h

    found : (v : Bool) (n : ℕ) → is_tag d ≡ v → peer_place (d ∷ ds) ≡ Some n → (if v then option_map suc (peer_place ds) else Some 0) ≡ Some n
    found v n t at = sym (ap (λ b. if b then option_map suc (peer_place ds) else Some 0) t) ∙ at

    behind : (o : Option ℕ) (n : ℕ) → option_map suc o ≡ Some n → (m : ℕ) × (n ≡ suc m) × (o ≡ Some m)
    behind None n at = absurd cc
    behind (Some m) n at = (m, (let same : suc m ≡ n = cc in sym same), refl)

    by_tag : (v : Bool) → is_tag d ≡ v → (n : ℕ) → peer_place (d ∷ ds) ≡ Some n → ((m : ℕ) → peers_in ds ≤ 1 → peer_place ds ≡ Some m → QuietBut devices f m ds) → QuietBut devices f n (d ∷ ds)
    by_tag true t n at rest =
        let b = behind (peer_place ds) n (found true n t at) in
        subst (λ k. QuietBut devices f k (d ∷ ds)) (sym b.1) (tag_quiet d f t, rest b.0 (count true t) b.2)
    by_tag false t n at rest =
        let zero_is : 0 ≡ n = (let same : Some 0 ≡ Some n = found false n t at in cc) in
        subst (λ k. QuietBut devices f k (d ∷ ds)) zero_is (all_quiet f ds (none_counted ds (let one : suc (peers_in ds) ≤ 1 = count false t in omega arith)))

pub one_peer_hands : OnePeerHands
one_peer_hands = one_peer
