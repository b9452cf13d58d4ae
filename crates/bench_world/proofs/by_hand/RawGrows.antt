-- What peers' servers accepted grows, whatever is sent: where one peer is placed its list alone does, and where none is none.
use Rattle.std.proofs.Common.{◌≡◌, ℕ, zero, suc, ◌≤◌, List, [], ◌∷◌, ◌++◌, map, length, Bool, true, false, if◌then◌else◌, Option, Some, None, refl, sym, ◌∙◌, ap, subst, arith, append_assoc}
use Rattle.std.specs.Prelude.{option_map}
use Rattle.std.proofs.lemmas.List.{length-map}
use Rattle.nfc_base.specs.Far.{FarUse, Untouched, Restarts, Hands}
use Rattle.nfc_base.specs.Signal.{Signal}
use Rattle.nfc_base.specs.declared.event.Event.{Event}
use Rattle.nfc_base.specs.declared.event.Event.TheVariants.{Reset, Request, Answer, Clash}
use Rattle.nfc_base.specs.declared.event.Fate.TheVariants.{Pass, Damage, Lose, Break}
use Rattle.nfc_base.specs.Choosing.{first_number}
use Rattle.air_core.specs.Conversation.{replay}
use Rattle.air_core.specs.World.{hands_over}
use Rattle.far_air.specs.FarEnds.{by_link, first_far, later_fars, moved, numbers_left, rests}
use Rattle.far_air.specs.FarWorld.{all_meet, device_after, reply_at}
use Rattle.peer_air.specs.PeerFars.{peer_ends}
use Rattle.llcp_link.specs.Taking.{brought, taken_from}
use Rattle.nfc_base.specs.Prefix.{IsPrefix}
use Rattle.snep_core.specs.Server.{Received as Accepted, ServerState, serving}
use Rattle.snep_core.proofs.jobs.CallsKeep.{giving_keeps}
use Rattle.snep_core.proofs.jobs.CutOff.{taking_adds}
use Rattle.link_calls.specs.Staying.{Setting}
use Rattle.link_calls.proofs.Settings.{answered_set}
use Rattle.bench_devices.specs.declared.device.Device.{Device}
use Rattle.bench_devices.specs.AnyFrame.{peer_place, peers_in}
use Rattle.bench_devices.specs.Device.{devices, device_linked, is_tag}
use Rattle.bench_devices.proofs.kinds.AnyFrame.{count_stays, none_counted, place_stays, tag_quiet}
use Rattle.bench_world.specs.World.{FarEnd, WholeWorld, bench_air}
use Rattle.bench_world.proofs.devices.AtNumbers.{Held, adding, adding_none, all_rests, held, held_rests}
use Rattle.bench_world.proofs.devices.FarStays.{one_event}

-- an end that takes a payload and gives one accepted no less
left_front : (a : FarEnd) (payload : List ℕ) (n : ℕ) → IsPrefix a.service.accepted (peer_ends.left a payload n).service.accepted
left_front a payload n =
    let whole : FarEnd = taken_from serving a payload in
    subst (IsPrefix a.service.accepted) (sym (giving_keeps serving (λ (s : ServerState). s.accepted ≡ whole.service.accepted) (λ s c miu h. h) n whole refl)) (taking_adds a (brought a payload))

record Grows (before behind : Option Held) : Type 0 where
  pub more : List Accepted
  pub is : behind ≡ adding more before

moved_grows : (u : FarUse) (o : Option FarEnd) (n : ℕ) → Grows (held o) (held (moved peer_ends u o n))
moved_grows Untouched o n = record { more = []; is = sym (adding_none (held o)) }
moved_grows (Restarts general) None n = record { more = []; is = refl }
moved_grows (Restarts general) (Some a) n = record { more = []; is = sym (adding_none (held (Some a))) }
moved_grows (Hands payload) None n = record { more = []; is = refl }
moved_grows (Hands payload) (Some a) n =
    let front : IsPrefix a.service.accepted (peer_ends.left a payload n).service.accepted = left_front a payload n in
    let limit : (peer_ends.left a payload n).service.limit ≡ a.service.limit = ap (λ (z : Setting). z.limit) (answered_set payload n a) in
    record {
      more = front.0;
      is = ap (λ xs. let k : Held = record { limit = (peer_ends.left a payload n).service.limit; accepted = xs } in Some k) front.1
          ∙ ap (λ m. let k : Held = record { limit = m; accepted = a.service.accepted ++ front.0 } in Some k) limit;
    }

linked_held : (v : Bool) (o : Option FarEnd) → held (by_link peer_ends v o) ≡ held o
linked_held true o = refl
linked_held false o = held_rests o

-- what the list at a place gained
abbrev pub adding_at : List Accepted → ℕ → List (Option Held) → List (Option Held)
adding_at more place [] = []
adding_at more zero (k ∷ ks) = adding more k ∷ ks
adding_at more (suc place) (k ∷ ks) = k ∷ adding_at more place ks

adding_both : (a b : List Accepted) (k : Option Held) → adding b (adding a k) ≡ adding (a ++ b) k
adding_both a b None = refl
adding_both a b (Some k) = ap (λ xs. let h : Held = record { limit = k.limit; accepted = xs } in Some h) (append_assoc k.accepted a b)

pub at_both : (a b : List Accepted) (place : ℕ) (ks : List (Option Held)) → adding_at b place (adding_at a place ks) ≡ adding_at (a ++ b) place ks
at_both a b zero [] = refl
at_both a b (suc place) [] = refl
at_both a b zero (k ∷ ks) = ap (λ x. x ∷ ks) (adding_both a b k)
at_both a b (suc place) (k ∷ ks) = ap (λ xs. k ∷ xs) (at_both a b place ks)

at_none : (place : ℕ) (ks : List (Option Held)) → adding_at [] place ks ≡ ks
at_none zero [] = refl
at_none (suc place) [] = refl
at_none zero (k ∷ ks) = ap (λ x. x ∷ ks) (adding_none k)
at_none (suc place) (k ∷ ks) = ap (λ xs. k ∷ xs) (at_none place ks)

-- By where a peer stands: none has gained anything, or the one at its place.
adding_long : (more : List Accepted) (place : ℕ) (ks : List (Option Held)) → length (adding_at more place ks) ≡ length ks
adding_long more zero [] = refl
adding_long more (suc place) [] = refl
adding_long more zero (k ∷ ks) = refl
adding_long more (suc place) (k ∷ ks) = ap suc (adding_long more place ks)

abbrev pub GrowsAt : Option ℕ → List (Option Held) → List (Option Held) → Type 0
GrowsAt None before behind = behind ≡ before
GrowsAt (Some place) before behind = (more : List Accepted) × (behind ≡ adding_at more place before)

pub grows_long : (p : Option ℕ) (before behind : List (Option Held)) → GrowsAt p before behind → length behind ≡ length before
grows_long None before behind g = ap length g
grows_long (Some place) before behind g = ap length g.1 ∙ adding_long g.0 place before

-- a frame
module _ (f : Signal) where
  tag_held : (l : Device) (o : Option FarEnd) (ns : List ℕ) → is_tag l ≡ true
      → held (by_link peer_ends (device_linked (device_after devices device_linked peer_ends l f o ns)) (moved peer_ends (hands_over devices l f) o (first_number ns))) ≡ held o
  tag_held l o ns tag =
      linked_held (device_linked (device_after devices device_linked peer_ends l f o ns)) (moved peer_ends (hands_over devices l f) o (first_number ns))
      ∙ ap (λ u. held (moved peer_ends u o (first_number ns))) (tag_quiet l f tag)

  met_long : (ls : List Device) (os : List (Option FarEnd)) (ns : List ℕ) → length (all_meet devices device_linked peer_ends f ls os ns).fars ≡ length ls
  met_long [] os ns = refl
  met_long (l ∷ ls) os ns = ap suc (met_long ls (later_fars os) (numbers_left (reply_at devices device_linked peer_ends l f (first_far os) ns) ns))

  record FirstTag (l : Device) (ls : List Device) : Type 0 where
    pub tag : is_tag l ≡ true
    pub others : peer_place ls ≡ None

  first_tag : (l : Device) (ls : List Device) → peer_place (l ∷ ls) ≡ None → FirstTag l ls
  first_tag l ls e = by_tag (is_tag l) refl
    where
      none_behind : (o : Option ℕ) → option_map suc o ≡ None → o ≡ None
      none_behind None q = refl
      none_behind (Some n) q = absurd cc

      by_tag : (v : Bool) → is_tag l ≡ v → FirstTag l ls
      by_tag true t = record { tag = t; others = none_behind (peer_place ls) (sym (ap (λ b. if b then option_map suc (peer_place ls) else Some 0) t) ∙ e) }
      by_tag false t = absurd (let clash : Some 0 ≡ None = sym (ap (λ b. if b then option_map suc (peer_place ls) else Some 0) t) ∙ e in cc)

  none_met : (ls : List Device) (os : List (Option FarEnd)) (ns : List ℕ) → length os ≡ length ls → peer_place ls ≡ None
      → map held (all_meet devices device_linked peer_ends f ls os ns).fars ≡ map held os
  none_met [] [] ns long none = refl
  none_met [] (o ∷ os) ns long none = absurd cc
  none_met (l ∷ ls) [] ns long none = absurd cc
  none_met (l ∷ ls) (o ∷ os) ns long none =
      let t : FirstTag l ls = first_tag l ls none in
      let less : length os ≡ length ls = cc in
      let left : List ℕ = numbers_left (reply_at devices device_linked peer_ends l f o ns) ns in
      ap (λ x. x ∷ map held (all_meet devices device_linked peer_ends f ls os left).fars) (tag_held l o ns t.tag) ∙ ap (λ xs. held o ∷ xs) (none_met ls os left less t.others)

  abbrev LaterGrows : List Device → List (Option FarEnd) → Type 0
  LaterGrows ls os =
      (ms : List ℕ) (n : ℕ) → length os ≡ length ls → peers_in ls ≤ 1 → peer_place ls ≡ Some n
      → (more : List Accepted) × (map held (all_meet devices device_linked peer_ends f ls os ms).fars ≡ adding_at more n (map held os))

  one_met : (ls : List Device) (os : List (Option FarEnd)) (ns : List ℕ) (place : ℕ) → length os ≡ length ls → peers_in ls ≤ 1 → peer_place ls ≡ Some place
      → (more : List Accepted) × (map held (all_meet devices device_linked peer_ends f ls os ns).fars ≡ adding_at more place (map held os))
  one_met [] os ns place long few at = absurd cc
  one_met (l ∷ ls) [] ns place long few at = absurd cc
  one_met (l ∷ ls) (o ∷ os) ns place long few at = by_tag (is_tag l) refl (λ ms n less many there. one_met ls os ms n less many there)
    where
      left : List ℕ
      left = numbers_left (reply_at devices device_linked peer_ends l f o ns) ns

      less : length os ≡ length ls
      less = cc

      count : (v : Bool) → is_tag l ≡ v → (if v then peers_in ls else suc (peers_in ls)) ≤ 1
      count v t = subst (λ b. (if b then peers_in ls else suc (peers_in ls)) ≤ 1) t few

      found : (v : Bool) → is_tag l ≡ v → (if v then option_map suc (peer_place ls) else Some 0) ≡ Some place
      found v t = sym (ap (λ b. if b then option_map suc (peer_place ls) else Some 0) t) ∙ at

      behind : LaterGrows ls os → is_tag l ≡ true → (p : Option ℕ) → option_map suc p ≡ Some place → peer_place ls ≡ p
          → (more : List Accepted) × (map held (all_meet devices device_linked peer_ends f (l ∷ ls) (o ∷ os) ns).fars ≡ adding_at more place (held o ∷ map held os))
      behind later t None e q = absurd cc
      behind later t (Some n) e q =
          let rest = later left n less (count true t) q in
          let same : suc n ≡ place = cc in (
            rest.0,
            ap (λ x. x ∷ map held (all_meet devices device_linked peer_ends f ls os left).fars) (tag_held l o ns t) ∙ ap (λ xs. held o ∷ xs) rest.1
                ∙ ap (λ k. adding_at rest.0 k (held o ∷ map held os)) same,
          )

      by_tag : (v : Bool) → is_tag l ≡ v → LaterGrows ls os
          → (more : List Accepted) × (map held (all_meet devices device_linked peer_ends f (l ∷ ls) (o ∷ os) ns).fars ≡ adding_at more place (held o ∷ map held os))
      by_tag true t later = behind later t (peer_place ls) (found true t) refl
      by_tag false t later =
          let here : 0 ≡ place = (let e : Some 0 ≡ Some place = found false t in cc) in
          let none : peer_place ls ≡ None = none_counted ls (let one : suc (peers_in ls) ≤ 1 = count false t in omega arith) in
          let g : Grows (held o) (held (moved peer_ends (hands_over devices l f) o (first_number ns))) = moved_grows (hands_over devices l f) o (first_number ns) in (
            g.more,
            ap (λ x. x ∷ map held (all_meet devices device_linked peer_ends f ls os left).fars)
                (linked_held (device_linked (device_after devices device_linked peer_ends l f o ns)) (moved peer_ends (hands_over devices l f) o (first_number ns)) ∙ g.is)
                ∙ ap (λ xs. adding g.more (held o) ∷ xs) (none_met ls os left less none)
                ∙ ap (λ k. adding_at g.more k (held o ∷ map held os)) here,
          )

-- an event
same_grows : (p : Option ℕ) (before behind : List (Option Held)) → behind ≡ before → GrowsAt p before behind
same_grows None before behind e = e
same_grows (Some place) before behind e = ([], e ∙ sym (at_none place before))

then_grows : (p : Option ℕ) (a b c : List (Option Held)) → GrowsAt p a b → GrowsAt p b c → GrowsAt p a c
then_grows None a b c g h = h ∙ g
then_grows (Some place) a b c g h = (g.0 ++ h.0, h.1 ∙ ap (adding_at h.0 place) g.1 ∙ at_both g.0 h.0 place a)

frame_grows : (p : Option ℕ) (w : WholeWorld) (f : Signal) → length w.fars ≡ length w.field.listeners → peers_in w.field.listeners ≤ 1 → peer_place w.field.listeners ≡ p
    → GrowsAt p (map held w.fars) (map held (bench_air.happens w (Request f Pass)).fars)
frame_grows None w f long few at = none_met f w.field.listeners w.fars w.numbers long at
frame_grows (Some place) w f long few at = one_met f w.field.listeners w.fars w.numbers place long few at

event_grows : (p : Option ℕ) (w : WholeWorld) (e : Event) → length w.fars ≡ length w.field.listeners → peers_in w.field.listeners ≤ 1 → peer_place w.field.listeners ≡ p
    → GrowsAt p (map held w.fars) (map held (bench_air.happens w e).fars)
event_grows p w Reset long few at = same_grows p (map held w.fars) _ (all_rests w.fars)
event_grows p w (Request f Pass) long few at = frame_grows p w f long few at
event_grows p w (Request f Damage) long few at = same_grows p (map held w.fars) _ refl
event_grows p w (Request f Lose) long few at = same_grows p (map held w.fars) _ refl
event_grows p w (Request f Break) long few at = same_grows p (map held w.fars) _ (all_rests w.fars)
event_grows p w (Answer g Pass) long few at = same_grows p (map held w.fars) _ refl
event_grows p w (Answer g Damage) long few at = same_grows p (map held w.fars) _ refl
event_grows p w (Answer g Lose) long few at = same_grows p (map held w.fars) _ refl
event_grows p w (Answer g Break) long few at = same_grows p (map held w.fars) _ (all_rests w.fars)
event_grows p w (Clash g Pass) long few at = same_grows p (map held w.fars) _ refl
event_grows p w (Clash g Damage) long few at = same_grows p (map held w.fars) _ refl
event_grows p w (Clash g Lose) long few at = same_grows p (map held w.fars) _ refl
event_grows p w (Clash g Break) long few at = same_grows p (map held w.fars) _ (all_rests w.fars)

-- as many far ends as devices
reset_long : (w : WholeWorld) → length w.fars ≡ length w.field.listeners → (g : Device → Device) → length (map (rests peer_ends) w.fars) ≡ length (map g w.field.listeners)
reset_long w long g = length-map w.fars (rests peer_ends) ∙ long ∙ sym (length-map w.field.listeners g)

event_long : (w : WholeWorld) (e : Event) → length w.fars ≡ length w.field.listeners → length (bench_air.happens w e).fars ≡ length (bench_air.happens w e).field.listeners
event_long w Reset long = reset_long w long (λ l. devices.woken (devices.darkened l))
event_long w (Request f Pass) long = met_long f w.field.listeners w.fars w.numbers ∙ sym (met_many f w.field.listeners w.fars w.numbers)
  where
    met_many : (f : Signal) (ls : List Device) (os : List (Option FarEnd)) (ns : List ℕ) → length (all_meet devices device_linked peer_ends f ls os ns).listeners ≡ length ls
    met_many f [] os ns = refl
    met_many f (l ∷ ls) os ns = ap suc (met_many f ls (later_fars os) (numbers_left (reply_at devices device_linked peer_ends l f (first_far os) ns) ns))
event_long w (Request f Damage) long = long
event_long w (Request f Lose) long = long
event_long w (Request f Break) long = reset_long w long devices.darkened
event_long w (Answer g Pass) long = long
event_long w (Answer g Damage) long = long
event_long w (Answer g Lose) long = long
event_long w (Answer g Break) long = reset_long w long devices.darkened
event_long w (Clash g Pass) long = long
event_long w (Clash g Damage) long = long
event_long w (Clash g Lose) long = long
event_long w (Clash g Break) long = reset_long w long devices.darkened

-- So it is through any events.
pub all_grow : (es : List Event) (p : Option ℕ) (w : WholeWorld) → length w.fars ≡ length w.field.listeners → peers_in w.field.listeners ≤ 1 → peer_place w.field.listeners ≡ p
    → GrowsAt p (map held w.fars) (map held (replay bench_air w es).fars)
all_grow [] p w long few at = same_grows p (map held w.fars) (map held w.fars) refl
all_grow (e ∷ es) p w long few at =
    let v : WholeWorld = bench_air.happens w e in
    let stay = (one_event w e).stay in
    then_grows p (map held w.fars) (map held v.fars) (map held (replay bench_air v es).fars) (event_grows p w e long few at)
    (all_grow es p v (event_long w e long) (subst (λ n. n ≤ 1) (sym (count_stays w.field.listeners v.field.listeners stay)) few) (place_stays w.field.listeners v.field.listeners stay ∙ at))

pub all_long : (es : List Event) (w : WholeWorld) → length w.fars ≡ length w.field.listeners → length (replay bench_air w es).fars ≡ length (replay bench_air w es).field.listeners
all_long [] w long = long
all_long (e ∷ es) w long = all_long es (bench_air.happens w e) (event_long w e long)
