-- What talking to a peer in the world with far ends leaves of the devices.
use Rattle.std.proofs.Common.{◌≡◌, ℕ, zero, suc, List, [], ◌∷◌, ◌++◌, Option, None, sym, ap, subst}
use Rattle.std.specs.List.{AllByRecursion}
use Rattle.nfc_base.specs.Signal.{Signal, whole_a}
use Rattle.nfc_base.specs.Far.{FarUse}
use Rattle.nfc_base.specs.declared.event.Event.{Event}
use Rattle.nfc_base.specs.declared.event.Event.TheVariants.{Reset, Request, Answer, Clash}
use Rattle.nfc_base.specs.declared.event.Fate.{Fate}
use Rattle.nfc_base.specs.declared.event.Fate.TheVariants.{Pass, Damage, Lose, Break}
use Rattle.nfc_base.specs.declared.frame.Tech.TheVariants.{A}
use Rattle.air_core.specs.World.{stepped_by}
use Rattle.air_core.specs.Conversation.{Note, Next, EachDue, receptions, replay}
use Rattle.air_core.specs.PlainTags.{IsAside}
use Rattle.air_core.proofs.PlainAside.{aside_silent}
use Rattle.nfc_base.specs.Choosing.{first_number}
use Rattle.far_air.specs.FarEnds.{first_far, later_fars, numbers_left, reply_to}
use Rattle.far_air.specs.FarWorld.{all_meet, device_after, reply_at, far_requested, far_came_back}
use Rattle.peer_air.specs.PeerFars.{peer_ends}
use Rattle.bench_devices.specs.declared.device.Device.{Device}
use Rattle.bench_devices.specs.Beside.{PeerAt, TalkLeaves}
use Rattle.bench_devices.specs.Device.{devices, device_linked}
use Rattle.bench_devices.specs.Keeping.{ghosts}
use Rattle.bench_devices.proofs.far_ends.BesideLink.{leaves_all, leaves_both, dark_leaves}
use Rattle.bench_devices.proofs.turns.QuietRats.{laws}
use Rattle.bench_devices.proofs.far_ends.TalkTurns.{OneLeaves, AllLeave, aside_left, peer_left, all_same, all_more, at_more, at_first}
use Rattle.bench_world.specs.World.{FarEnd, WholeWorld, bench_air}
use Rattle.bench_world.proofs.open_link.CallNotes.{IsPlainNext}

-- each request is a frame of whole bytes of NFC-A, and there is no reset
abbrev pub AreTalk : List Event → Type 0
AreTalk [] = Unit {0}
AreTalk (Reset ∷ es) = ⊥
AreTalk (Request f x ∷ es) = (f ≡ whole_a f.bytes) × AreTalk es
AreTalk (Answer g x ∷ es) = AreTalk es
AreTalk (Clash g x ∷ es) = AreTalk es

pub due_talk : (next : List Note → Next) → ((ns : List Note) → IsPlainNext (next ns)) → (es before : List Event) → EachDue next before es → AreTalk es
due_talk next plain [] before d = tt
due_talk next plain (Reset ∷ es) before d = (plain (receptions before)).lit d.0
due_talk next plain (Request f x ∷ es) before d = ((plain (receptions before)).asked f d.0, due_talk next plain es (before ++ Request f x ∷ []) d.1)
due_talk next plain (Answer g x ∷ es) before d = due_talk next plain es (before ++ Answer g x ∷ []) d
due_talk next plain (Clash g x ∷ es) before d = due_talk next plain es (before ++ Clash g x ∷ []) d

module _ (own : List ℕ) where
  module _ (f : Signal) (whole : f ≡ whole_a f.bytes) where
    abbrev After : Device → Option FarEnd → List ℕ → Device
    After l o ns = device_after devices device_linked peer_ends l f o ns

    abbrev Met : List Device → List (Option FarEnd) → List ℕ → List Device
    Met ls os ns = (all_meet devices device_linked peer_ends f ls os ns).listeners

    abbrev OneAnd : Device → Device → Type 0
    OneAnd l m = OneLeaves l m × IsAside ghosts own m

    no_reply : (l : Device) (o : Option FarEnd) (ns : List ℕ) → IsAside ghosts own l → After l o ns ≡ stepped_by devices l f None
    no_reply l o ns a = ap (λ (u : FarUse). stepped_by devices l f (reply_to peer_ends u o (first_number ns))) (aside_silent ghosts laws own A f whole tt l a).quiet

    all_met : (ls : List Device) (os : List (Option FarEnd)) (ns : List ℕ) → AllByRecursion (IsAside ghosts own) ls → AllLeave own f whole ls (Met ls os ns)
    all_met [] os ns a = all_same own f whole [] tt
    all_met (l ∷ ls) os ns a =
        let more : List ℕ = numbers_left (reply_at devices device_linked peer_ends l f (first_far os) ns) ns in
        let m : Device = After l (first_far os) ns in
        all_more own f whole l m ls (Met ls (later_fars os) more)
        (let k = aside_left own f whole l a.0 in let e = sym (no_reply l (first_far os) ns a.0) in subst (λ x. OneAnd l x) e k)
        (all_met ls (later_fars os) more a.1)

    at_met : (place : ℕ) (ls : List Device) (os : List (Option FarEnd)) (ns : List ℕ) → PeerAt own place ls → TalkLeaves own place ls (Met ls os ns)
    at_met place [] os ns a = absurd a
    at_met zero (l ∷ ls) os ns a =
        let more : List ℕ = numbers_left (reply_at devices device_linked peer_ends l f (first_far os) ns) ns in
        let reply : Option (List ℕ) = reply_at devices device_linked peer_ends l f (first_far os) ns in
        at_first own f whole l (stepped_by devices l f reply) ls (Met ls (later_fars os) more) a.0 (peer_left own f whole l reply a.0) (all_met ls (later_fars os) more a.1)
    at_met (suc place) (l ∷ ls) os ns a =
        let more : List ℕ = numbers_left (reply_at devices device_linked peer_ends l f (first_far os) ns) ns in
        let m : Device = After l (first_far os) ns in
        at_more own f whole l m place ls (Met ls (later_fars os) more)
        (let k = aside_left own f whole l a.0 in let e = sym (no_reply l (first_far os) ns a.0) in subst (λ x. OneAnd l x) e k)
        (at_met place ls (later_fars os) more a.1)

  module _ (place : ℕ) where
    abbrev Leaves : WholeWorld → WholeWorld → Type 0
    Leaves v w = TalkLeaves own place v.field.listeners w.field.listeners

    requested : (w : WholeWorld) (f : Signal) (x : Fate) → f ≡ whole_a f.bytes → PeerAt own place w.field.listeners → Leaves w (far_requested devices device_linked peer_ends w f x)
    requested w f Pass whole a = at_met f whole place w.field.listeners w.fars w.numbers a
    requested w f Damage whole a = leaves_all own place w.field.listeners a
    requested w f Lose whole a = leaves_all own place w.field.listeners a
    requested w f Break whole a = dark_leaves own place w.field.listeners a

    came_back : (w : WholeWorld) (x : Fate) → PeerAt own place w.field.listeners → Leaves w (far_came_back devices device_linked peer_ends w x)
    came_back w Pass a = leaves_all own place w.field.listeners a
    came_back w Damage a = leaves_all own place w.field.listeners a
    came_back w Lose a = leaves_all own place w.field.listeners a
    came_back w Break a = dark_leaves own place w.field.listeners a

    pub talk_leaves : (es : List Event) (w : WholeWorld) → AreTalk es → PeerAt own place w.field.listeners → Leaves w (replay bench_air w es)
    talk_leaves [] w t a = leaves_all own place w.field.listeners a
    talk_leaves (Reset ∷ es) w t a = absurd t
    talk_leaves (Request f x ∷ es) w t a =
        let v : WholeWorld = far_requested devices device_linked peer_ends w f x in
        let one = requested w f x t.0 a in
        leaves_both own place w.field.listeners v.field.listeners _ one (talk_leaves es v t.1 one.at)
    talk_leaves (Answer g x ∷ es) w t a =
        let v : WholeWorld = far_came_back devices device_linked peer_ends w x in
        let one = came_back w x a in
        leaves_both own place w.field.listeners v.field.listeners _ one (talk_leaves es v t one.at)
    talk_leaves (Clash g x ∷ es) w t a =
        let v : WholeWorld = far_came_back devices device_linked peer_ends w x in
        let one = came_back w x a in
        leaves_both own place w.field.listeners v.field.listeners _ one (talk_leaves es v t one.at)
