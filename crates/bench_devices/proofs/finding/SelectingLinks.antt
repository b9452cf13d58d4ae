-- Behind the reset that polling begins with, no Type 4 tag and no peer has a link.
use Rattle.std.proofs.Common.{◌≡◌, ℕ, List, [], ◌∷◌, ◌++◌, map, Bool, true, false, if◌then◌else◌, None, refl}
use Rattle.std.specs.List.{AllByRecursion}
use Rattle.nfc_base.specs.declared.event.Event.{Event}
use Rattle.nfc_base.specs.declared.event.Event.TheVariants.{Reset, Request, Answer, Clash}
use Rattle.nfc_base.specs.declared.event.Fate.{Fate}
use Rattle.nfc_base.specs.declared.event.Fate.TheVariants.{Pass, Damage, Lose, Break}
use Rattle.nfc_base.specs.Signal.{Signal}
use Rattle.nfc_base.specs.Trace.{back_of}
use Rattle.nfc_base.specs.Trace as backs
use Rattle.air_core.specs.World.{World, hears, stepped_by, requested, came_back, reset_by}
use Rattle.air_core.specs.Conversation.{EachDue, replay}
use Rattle.nfca_poll.specs.Enquiry.{enquiring}
use Rattle.nfca_poll.specs.Front.{Off, Idle}
use Rattle.nfca_poll.specs.Rounds.{device_of, picking}
use Rattle.bench_devices.specs.declared.device.Device.{Device}
use Rattle.bench_devices.specs.declared.device.Device.TheVariants.{T2, T4, Peer, T5, T3}
use Rattle.bench_devices.specs.Device.{devices}
use Rattle.bench_devices.specs.Device.{air}
use Rattle.bench_devices.specs.Phases.{IsTidy, AreTidy, IsUnasked}
use Rattle.bench_devices.specs.Keeping.{EachAsked}
use Rattle.air_core.proofs.Following.{light_is_no_request}
use Rattle.nfca_poll.specs.laws.OwnFrames.{BeginsAsCalls}
use Rattle.bench_devices.proofs.finding.Searching.{IsCall, asks_calls}
use Rattle.bench_devices.specs.Peers.{peer_machine, no_link}
use Rattle.bench_devices.proofs.kinds.Tidy.{left_free, peer_gives_up}
use Rattle.bench_devices.proofs.finding.SelectingCards.{device_unlinked, left_unlinked, stays_unlinked, reset_unlinked}
use Rattle.bench_devices.proofs.finding.SelectingKept.{due_asked}

abbrev pub IsUnlinked : Device → Type 0
IsUnlinked d = device_unlinked d ≡ true

abbrev pub AreUnlinked : List Device → Type 0
AreUnlinked ds = AllByRecursion IsUnlinked ds

-- nothing was asked of such a device
pub unasked : (d : Device) → IsUnlinked d → IsUnasked d
unasked (T2 d) u = tt
unasked (T4 d) u = u
unasked (Peer d) u = u
unasked (T5 p) u = tt
unasked (T3 p) u = tt

pub unlinked_amid : (before : List Device) (d : Device) (behind : List Device) → AreUnlinked (before ++ d ∷ behind) → IsUnlinked d
unlinked_amid [] d behind u = u.0
unlinked_amid (l ∷ ls) d behind u = unlinked_amid ls d behind u.1

-- a call, light and dark open none
either_unlinked : (v : Bool) (a b : Device) → IsUnlinked a → IsUnlinked b → IsUnlinked (if v then a else b)
either_unlinked true a b t u = t
either_unlinked false a b t u = u

step_unlinked : (f : Signal) → BeginsAsCalls f → (d : Device) → IsUnlinked d → IsUnlinked (stepped_by devices d f None)
step_unlinked f h d u = either_unlinked (hears devices d f) (devices.after d f None) d (stays_unlinked d f h u) u

dark_unlinked : (d : Device) → IsUnlinked d → IsUnlinked (devices.darkened d)
dark_unlinked (T2 d) u = refl
dark_unlinked (T4 d) u = left_unlinked d.front Off d.upper u
dark_unlinked (Peer d) u = refl
dark_unlinked (T5 p) u = refl
dark_unlinked (T3 p) u = refl

woken_unlinked : (d : Device) → IsUnlinked d → IsUnlinked (devices.woken d)
woken_unlinked (T2 d) u = refl
woken_unlinked (T4 d) u = left_unlinked d.front Idle d.upper u
woken_unlinked (Peer d) u = left_free peer_machine no_link peer_gives_up d.front Idle d.upper u
woken_unlinked (T5 p) u = refl
woken_unlinked (T3 p) u = refl

all_map : (P Q : Device → Type 0) (g : Device → Device) → ((d : Device) → P d → Q (g d)) → (ds : List Device) → AllByRecursion P ds → AllByRecursion Q (map g ds)
all_map P Q g h [] t = tt
all_map P Q g h (d ∷ ds) t = (h d t.0, all_map P Q g h ds t.1)

requested_unlinked : (w : World Device) (f : Signal) (x : Fate) → BeginsAsCalls f → AreUnlinked w.listeners → AreUnlinked (requested devices w f x).listeners
requested_unlinked w f Pass h u = all_map IsUnlinked IsUnlinked (λ l. stepped_by devices l f None) (step_unlinked f h) w.listeners u
requested_unlinked w f Damage h u = u
requested_unlinked w f Lose h u = u
requested_unlinked w f Break h u = all_map IsUnlinked IsUnlinked devices.darkened dark_unlinked w.listeners u

back_unlinked : (w : World Device) (x : Fate) → AreUnlinked w.listeners → AreUnlinked (came_back devices w x).listeners
back_unlinked w Pass u = u
back_unlinked w Damage u = u
back_unlinked w Lose u = u
back_unlinked w Break u = all_map IsUnlinked IsUnlinked devices.darkened dark_unlinked w.listeners u

events_unlinked : (es : List Event) (w : World Device) → EachAsked BeginsAsCalls es → AreUnlinked w.listeners → AreUnlinked (replay air w es).listeners
events_unlinked [] w q u = u
events_unlinked (Reset ∷ es) w q u =
    events_unlinked es (reset_by devices w) q (all_map IsUnlinked IsUnlinked (λ l. devices.woken (devices.darkened l)) (λ d t. woken_unlinked (devices.darkened d) (dark_unlinked d t)) w.listeners u)
events_unlinked (Request f x ∷ es) w q u = events_unlinked es (requested devices w f x) q.1 (requested_unlinked w f x q.0 u)
events_unlinked (Answer g x ∷ es) w q u = events_unlinked es (came_back devices w x) q (back_unlinked w x u)
events_unlinked (Clash g x ∷ es) w q u = events_unlinked es (came_back devices w x) q (back_unlinked w x u)

-- a reset of tidy devices leaves none
pub relit_unlinked : (ds : List Device) → AreTidy ds → AreUnlinked (map (λ l. devices.woken (devices.darkened l)) ds)
relit_unlinked ds t = all_map IsTidy IsUnlinked (λ l. devices.woken (devices.darkened l)) reset_unlinked ds t

-- so no device has one behind a call that selects
pub unlinked_behind : (id : List ℕ) (es : List Event) (w : World Device) → EachDue (enquiring (picking id)) [] es → back_of es ≡ backs.Nothing → (es ≡ [] → ⊥) → AreTidy w.listeners
    → AreUnlinked (replay air w es).listeners
unlinked_behind id [] w q fresh some t = absurd (some refl)
unlinked_behind id (Reset ∷ es) w q fresh some t =
    let calls : EachAsked BeginsAsCalls (Reset ∷ es) = due_asked BeginsAsCalls (enquiring (picking id)) (λ ns f e. let is : IsCall f = asks_calls (device_of id) ns f e in is.begins) [] (Reset ∷ es)
    q in
    events_unlinked es (reset_by devices w) calls (relit_unlinked w.listeners t)
unlinked_behind id (Request f x ∷ es) w q fresh some t = absurd (light_is_no_request f q.0)
unlinked_behind id (Answer g x ∷ es) w q fresh some t = absurd cc
unlinked_behind id (Clash g x ∷ es) w q fresh some t = absurd cc
