-- Behind a search by rounds that ended well each Type 5 tag stands in the light, isn't quiet and is in no round.
use Rattle.std.proofs.Common.{◌≡◌, List, [], ◌∷◌, map, if◌then◌else◌, None, refl, sym, subst, arith}
use Rattle.std.specs.List.{AllByRecursion}
use Rattle.nfc_base.specs.declared.event.Event.{Event}
use Rattle.nfc_base.specs.declared.event.Event.TheVariants.{Reset, Request, Answer, Clash}
use Rattle.nfc_base.specs.declared.event.Fate.TheVariants.{Pass, Damage, Lose, Break}
use Rattle.nfc_base.specs.declared.frame.Tech.TheVariants.{A, V, F}
use Rattle.nfc_base.specs.Signal.{Signal}
use Rattle.nfc_base.specs.Trace.{breaks, back_of}
use Rattle.nfc_base.specs.Trace as backs
use Rattle.air_core.specs.Joint.{same_tech}
use Rattle.air_core.specs.World.{World, stepped_by, stepped, reset_by}
use Rattle.air_core.specs.Conversation.{EachDue}
use Rattle.nfca_poll.specs.Enquiry.{enquiring}
use Rattle.nfca_poll.specs.Rounds.{all_devices, finding}
use Rattle.bench_devices.specs.declared.device.Device.{Device}
use Rattle.bench_devices.specs.declared.device.Device.TheVariants.{T2, T4, Peer, T5, T3}
use Rattle.bench_devices.specs.Device.{devices}
use Rattle.bench_devices.specs.Keeping.{EachAsked}
use Rattle.air_core.proofs.Following.{light_is_no_request}
use Rattle.air_core.proofs.LostField.{over}
use Rattle.bench_devices.proofs.finding.SelectingKept.{due_asked}
use Rattle.bench_devices.proofs.finding.Searching.{IsCall, asks_calls}
use Rattle.bench_devices.proofs.finding.Inventoried.{IsAwake}

abbrev AreAwake : List Device → Type 0
AreAwake ds = AllByRecursion IsAwake ds

-- a reset wakes each
woken : (ds : List Device) → AreAwake (map (λ l. devices.woken (devices.darkened l)) ds)
woken [] = tt
woken (T2 d ∷ ds) = (tt, woken ds)
woken (T4 d ∷ ds) = (tt, woken ds)
woken (T3 p ∷ ds) = (tt, woken ds)
woken (Peer d ∷ ds) = (tt, woken ds)
woken (T5 p ∷ ds) = ((refl, refl, refl), woken ds)

-- a frame of NFC-A leaves each as it was
step_leaves : (f : Signal) (d : Device) → f.tech ≡ A → IsAwake d → IsAwake (stepped_by devices d f None)
step_leaves f (T2 d) a h = subst (λ t. IsAwake (if same_tech A t then devices.after (T2 d) f None else T2 d)) (sym a) tt
step_leaves f (T4 d) a h = subst (λ t. IsAwake (if same_tech A t then devices.after (T4 d) f None else T4 d)) (sym a) tt
step_leaves f (T3 p) a h = subst (λ t. IsAwake (if same_tech F t then devices.after (T3 p) f None else T3 p)) (sym a) tt
step_leaves f (Peer d) a h = subst (λ t. IsAwake (if same_tech A t then devices.after (Peer d) f None else Peer d)) (sym a) tt
step_leaves f (T5 p) a h = subst (λ t. IsAwake (if same_tech V t then devices.after (T5 p) f None else T5 p)) (sym a) h

steps_leave : (f : Signal) (ds : List Device) → f.tech ≡ A → AreAwake ds → AreAwake (map (λ l. stepped_by devices l f None) ds)
steps_leave f [] a h = tt
steps_leave f (d ∷ ds) a h = (step_leaves f d a h.0, steps_leave f ds a h.1)

abbrev IsOfA : Signal → Type 0
IsOfA f = f.tech ≡ A

-- so do events of NFC-A with no Break among them
stay_awake : (es : List Event) (w : World Device) → EachAsked IsOfA es → breaks es ≡ 0 → AreAwake w.listeners → AreAwake (over devices es w).listeners
stay_awake [] w q b h = h
stay_awake (Reset ∷ es) w q b h = stay_awake es (reset_by devices w) q b (woken w.listeners)
stay_awake (Request f Pass ∷ es) w q b h = stay_awake es (stepped devices w f) q.1 (omega (arith, b)) (steps_leave f w.listeners q.0 h)
stay_awake (Request f Damage ∷ es) w q b h = stay_awake es w q.1 (omega (arith, b)) h
stay_awake (Request f Lose ∷ es) w q b h = stay_awake es w q.1 (omega (arith, b)) h
stay_awake (Request f Break ∷ es) w q b h = absurd (omega (arith, b))
stay_awake (Answer g Pass ∷ es) w q b h = stay_awake es w q (omega (arith, b)) h
stay_awake (Answer g Damage ∷ es) w q b h = stay_awake es w q (omega (arith, b)) h
stay_awake (Answer g Lose ∷ es) w q b h = stay_awake es w q (omega (arith, b)) h
stay_awake (Answer g Break ∷ es) w q b h = absurd (omega (arith, b))
stay_awake (Clash g Pass ∷ es) w q b h = stay_awake es w q (omega (arith, b)) h
stay_awake (Clash g Damage ∷ es) w q b h = stay_awake es w q (omega (arith, b)) h
stay_awake (Clash g Lose ∷ es) w q b h = stay_awake es w q (omega (arith, b)) h
stay_awake (Clash g Break ∷ es) w q b h = absurd (omega (arith, b))

-- A search begins with a reset. Where it has lost no field, all are awake at its end.
pub awake_behind : (es : List Event) (w : World Device) → EachDue (enquiring finding) [] es → back_of es ≡ backs.Nothing → breaks es ≡ 0 → (es ≡ [] → ⊥)
    → AllByRecursion IsAwake (over devices es w).listeners
awake_behind [] w q fresh b some = absurd (some refl)
awake_behind (Reset ∷ es) w q fresh b some =
    let of_a = due_asked IsOfA (enquiring finding) (λ ns f e. let is : IsCall f = asks_calls all_devices ns f e in is.of_a) [] (Reset ∷ es) q in
    stay_awake es (reset_by devices w) of_a b (woken w.listeners)
awake_behind (Request f x ∷ es) w q fresh b some = absurd (light_is_no_request f q.0)
awake_behind (Answer g x ∷ es) w q fresh b some = absurd cc
awake_behind (Clash g x ∷ es) w q fresh b some = absurd cc
