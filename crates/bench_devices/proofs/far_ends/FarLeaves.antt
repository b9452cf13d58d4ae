-- What talking to a peer leaves in the world with far ends.
use Rattle.std.proofs.Common.{◌≡◌, ℕ, zero, suc, List, [], ◌∷◌, Option, None, sym, ap, subst}
use Rattle.std.specs.List.{AllByRecursion}
use Rattle.nfc_base.specs.Signal.{Signal, whole_a}
use Rattle.nfc_base.specs.declared.frame.Tech.TheVariants.{A}
use Rattle.nfc_base.specs.declared.event.Event.{Event}
use Rattle.nfc_base.specs.declared.event.Event.TheVariants.{Reset, Request, Answer, Clash}
use Rattle.nfc_base.specs.declared.event.Fate.{Fate}
use Rattle.nfc_base.specs.declared.event.Fate.TheVariants.{Pass, Damage, Lose, Break}
use Rattle.air_core.specs.World.{stepped_by}
use Rattle.air_core.specs.Conversation.{Moment, replay}
use Rattle.air_core.specs.PlainTags.{IsAside}
use Rattle.air_core.proofs.PlainAside.{aside_silent}
use Rattle.nfc_base.specs.Choosing.{first_number}
use Rattle.far_air.specs.FarEnds.{FarTable, numbers_left, first_far, later_fars, reply_to}
use Rattle.far_air.specs.FarWorld.{FarWorld, device_after, reply_at, all_meet, far_requested, far_came_back, far_happens, far_air}
use Rattle.bench_devices.specs.declared.device.Device.{Device}
use Rattle.bench_devices.specs.Beside.{PeerAt, TalkLeaves}
use Rattle.bench_devices.specs.Device.{devices, device_linked}
use Rattle.bench_devices.specs.Keeping.{ghosts, EachAsked}
use Rattle.bench_devices.specs.LinkLaws.{FarLeaves}
use Rattle.bench_devices.proofs.far_ends.BesideLink.{leaves_all, leaves_both, dark_leaves, lit_leaves}
use Rattle.bench_devices.proofs.turns.QuietRats.{laws}
use Rattle.bench_devices.proofs.finding.SelectingKept.{due_asked}
use Rattle.bench_devices.proofs.far_ends.TalkTurns.{OneLeaves, AllLeave, aside_left, peer_left, all_same, all_more, at_more, at_first}

module _ {F : Type 0} (t : FarTable F) (own : List ℕ) where
  module _ (f : Signal) (whole : f ≡ whole_a f.bytes) where
    abbrev met : Device → Option F → List ℕ → Device
    met l o ns = device_after devices device_linked t l f o ns

    aside_meets : (l : Device) (o : Option F) (ns : List ℕ) → IsAside ghosts own l → OneLeaves l (met l o ns) × IsAside ghosts own (met l o ns)
    aside_meets l o ns a =
        let none : reply_at devices device_linked t l f o ns ≡ None = ap (λ u. reply_to t u o (first_number ns)) (aside_silent ghosts laws own A f whole tt l a).quiet in
        subst (λ r. OneLeaves l (stepped_by devices l f r) × IsAside ghosts own (stepped_by devices l f r)) (sym none) (aside_left own f whole l a)

    abbrev behind : Device → List Device → List (Option F) → List ℕ → List Device
    behind l ls os ns = (all_meet devices device_linked t f ls (later_fars os) (numbers_left (reply_at devices device_linked t l f (first_far os) ns) ns)).listeners

    all_meets : (ls : List Device) (os : List (Option F)) (ns : List ℕ) → AllByRecursion (IsAside ghosts own) ls → AllLeave own f whole ls (all_meet devices device_linked t f ls os ns).listeners
    all_meets [] os ns a = all_same own f whole [] tt
    all_meets (l ∷ ls) os ns a =
        all_more own f whole l (met l (first_far os) ns) ls (behind l ls os ns) (aside_meets l (first_far os) ns a.0)
        (all_meets ls (later_fars os) (numbers_left (reply_at devices device_linked t l f (first_far os) ns) ns) a.1)

    at_meets : (place : ℕ) (ls : List Device) (os : List (Option F)) (ns : List ℕ) → PeerAt own place ls → TalkLeaves own place ls (all_meet devices device_linked t f ls os ns).listeners
    at_meets place [] os ns a = absurd a
    at_meets zero (l ∷ ls) os ns a =
        at_first own f whole l (met l (first_far os) ns) ls (behind l ls os ns) a.0 (peer_left own f whole l (reply_at devices device_linked t l f (first_far os) ns) a.0)
        (all_meets ls (later_fars os) (numbers_left (reply_at devices device_linked t l f (first_far os) ns) ns) a.1)
    at_meets (suc place) (l ∷ ls) os ns a =
        at_more own f whole l (met l (first_far os) ns) place ls (behind l ls os ns) (aside_meets l (first_far os) ns a.0)
        (at_meets place ls (later_fars os) (numbers_left (reply_at devices device_linked t l f (first_far os) ns) ns) a.1)

  abbrev W : Type 0
  W = FarWorld Device F

  requested_leaves : (place : ℕ) (w : W) (f : Signal) (x : Fate) → f ≡ whole_a f.bytes → PeerAt own place w.field.listeners
      → TalkLeaves own place w.field.listeners (far_requested devices device_linked t w f x).field.listeners
  requested_leaves place w f Pass whole a = at_meets f whole place w.field.listeners w.fars w.numbers a
  requested_leaves place w f Damage whole a = leaves_all own place w.field.listeners a
  requested_leaves place w f Lose whole a = leaves_all own place w.field.listeners a
  requested_leaves place w f Break whole a = dark_leaves own place w.field.listeners a

  back_leaves : (place : ℕ) (w : W) (x : Fate) → PeerAt own place w.field.listeners → TalkLeaves own place w.field.listeners (far_came_back devices device_linked t w x).field.listeners
  back_leaves place w Pass a = leaves_all own place w.field.listeners a
  back_leaves place w Damage a = leaves_all own place w.field.listeners a
  back_leaves place w Lose a = leaves_all own place w.field.listeners a
  back_leaves place w Break a = dark_leaves own place w.field.listeners a

  abbrev IsWhole : Signal → Type 0
  IsWhole f = f ≡ whole_a f.bytes

  abbrev Leaves : ℕ → W → W → Type 0
  Leaves place w v = TalkLeaves own place w.field.listeners v.field.listeners

  abbrev happened : W → Event → W
  happened w e = far_happens devices device_linked t w e

  events_leave : (place : ℕ) (es : List Event) (w : W) → EachAsked IsWhole es → PeerAt own place w.field.listeners → Leaves place w (replay (far_air devices device_linked t) w es)
  events_leave place [] w h a = leaves_all own place w.field.listeners a
  events_leave place (Reset ∷ es) w h a =
      let x : Leaves place w (happened w Reset) = lit_leaves own place w.field.listeners a in
      leaves_both own place w.field.listeners (happened w Reset).field.listeners _ x (events_leave place es (happened w Reset) h x.at)
  events_leave place (Request f y ∷ es) w h a =
      let x : Leaves place w (happened w (Request f y)) = requested_leaves place w f y h.0 a in
      leaves_both own place w.field.listeners (happened w (Request f y)).field.listeners _ x (events_leave place es (happened w (Request f y)) h.1 x.at)
  events_leave place (Answer g y ∷ es) w h a =
      let x : Leaves place w (happened w (Answer g y)) = back_leaves place w y a in
      leaves_both own place w.field.listeners (happened w (Answer g y)).field.listeners _ x (events_leave place es (happened w (Answer g y)) h x.at)
  events_leave place (Clash g y ∷ es) w h a =
      let x : Leaves place w (happened w (Clash g y)) = back_leaves place w y a in
      leaves_both own place w.field.listeners (happened w (Clash g y)).field.listeners _ x (events_leave place es (happened w (Clash g y)) h x.at)

pub far_leaves : {F : Type 0} (t : FarTable F) → FarLeaves t
far_leaves {F} t own place at next old new notes os far after whole peer g =
    let P : Moment (FarWorld Device F) → Type 0 = λ m. TalkLeaves own place old.world.listeners m.world.field.listeners in
    subst P (sym g.moment) (events_leave t own place g.events _ (due_asked (λ f. f ≡ whole_a f.bytes) next whole [] g.events g.each) peer)
