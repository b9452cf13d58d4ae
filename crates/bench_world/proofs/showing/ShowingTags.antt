-- Where no peer is placed no payload is handed over, whatever happens: numbers of PDUs decide nothing there.
use Rattle.std.proofs.Common.{◌≡◌, ℕ, Bool, true, false, if◌then◌else◌, List, [], ◌∷◌, Option, Some, None, refl, arith}
use Rattle.std.specs.List.{AllByRecursion}
use Rattle.nfc_base.specs.Far.{Untouched, Hands}
use Rattle.nfc_base.specs.Signal.{Signal}
use Rattle.nfc_base.specs.declared.event.Event.{Event}
use Rattle.nfc_base.specs.declared.event.Event.TheVariants.{Reset, Request, Answer, Clash}
use Rattle.nfc_base.specs.declared.event.Fate.{Fate}
use Rattle.nfc_base.specs.declared.event.Fate.TheVariants.{Pass, Damage, Lose, Break}
use Rattle.air_core.specs.World.{hands_over, hears}
use Rattle.far_air.specs.FarWorld.{far_happens}
use Rattle.far_air.specs.Staying.{NoPayload, NoPayloadAt, NoPayloads}
use Rattle.peer_air.specs.PeerFars.{peer_ends}
use Rattle.bench_devices.specs.declared.device.Device.{Device}
use Rattle.bench_devices.specs.declared.device.Device.TheVariants.{T2, T4, Peer, T5, T3}
use Rattle.bench_devices.specs.AnyFrame.{peers_in}
use Rattle.bench_devices.specs.Device.{device_after, device_darkened, device_linked, device_woken, devices, is_tag}
use Rattle.bench_devices.proofs.kinds.PeerLinks.{devices_link}
use Rattle.bench_world.specs.World.{FarEnd, WholeWorld}
use Rattle.bench_world.proofs.sizes.SizedWorld.{Above, AllSo, KeepBoth, happens_so}

abbrev IsTag : Device → Type 0
IsTag d = is_tag d ≡ true

abbrev IsAny : FarEnd → Type 0
IsAny l = Unit {0}

-- a tag stays one
after_tag : (d : Device) (f : Signal) (reply : Option (List ℕ)) → IsTag d → IsTag (device_after d f reply)
after_tag (T2 d) f reply h = refl
after_tag (T4 d) f reply h = refl
after_tag (Peer d) f reply h = absurd cc
after_tag (T5 p) f reply h = refl
after_tag (T3 p) f reply h = refl

woken_tag : (d : Device) → IsTag d → IsTag (device_woken d)
woken_tag (T2 d) h = refl
woken_tag (T4 d) h = refl
woken_tag (Peer d) h = absurd cc
woken_tag (T5 p) h = refl
woken_tag (T3 p) h = refl

dark_tag : (d : Device) → IsTag d → IsTag (device_darkened d)
dark_tag (T2 d) h = refl
dark_tag (T4 d) h = refl
dark_tag (Peer d) h = absurd cc
dark_tag (T5 p) h = refl
dark_tag (T3 p) h = refl

tags_keep : KeepBoth devices peer_ends IsTag IsAny
tags_keep = record {
  after = after_tag;
  woken = woken_tag;
  darkened = dark_tag;
  restarted = λ a general h. tt;
  left = λ a payload n h. tt;
  rested = λ a h. tt;
}

-- it has no link, and so it hands nothing over
no_link : (d : Device) → IsTag d → device_linked d ≡ true → ⊥
no_link (T2 d) h e = cc
no_link (T4 d) h e = cc
no_link (Peer d) h e = cc
no_link (T5 p) h e = cc
no_link (T3 p) h e = cc

hands_none : (d : Device) (f : Signal) (payload : List ℕ) → IsTag d → hands_over devices d f ≡ Hands payload → ⊥
hands_none d f payload h e = no_link d h (by (hears devices d f) e)
  where
    by : (v : Bool) → (if v then devices.handed d f else Untouched) ≡ Hands payload → device_linked d ≡ true
    by true k = devices_link.hands d f payload k
    by false k = absurd cc

none_at : (f : Signal) (ds : List Device) → AllByRecursion IsTag ds → NoPayload devices device_linked peer_ends f ds
none_at f [] h = tt
none_at f (d ∷ ds) h = (λ payload e. hands_none d f payload h.0 e, none_at f ds h.1)

none_by : (x : Fate) (f : Signal) (ds : List Device) → AllByRecursion IsTag ds → NoPayloadAt devices device_linked peer_ends x f ds
none_by Pass f ds h = none_at f ds h
none_by Damage f ds h = tt
none_by Lose f ds h = tt
none_by Break f ds h = tt

none_so : (es : List Event) (w : WholeWorld) → AllSo IsTag IsAny w → NoPayloads devices device_linked peer_ends w es
none_so [] w h = tt
none_so (Reset ∷ es) w h = none_so es (far_happens devices device_linked peer_ends w Reset) (happens_so devices device_linked peer_ends IsTag IsAny tags_keep w Reset h)
none_so (Request f x ∷ es) w h = (
  none_by x f w.field.listeners h.listeners,
  none_so es (far_happens devices device_linked peer_ends w (Request f x)) (happens_so devices device_linked peer_ends IsTag IsAny tags_keep w (Request f x) h),
)
none_so (Answer g x ∷ es) w h = none_so es (far_happens devices device_linked peer_ends w (Answer g x)) (happens_so devices device_linked peer_ends IsTag IsAny tags_keep w (Answer g x) h)
none_so (Clash g x ∷ es) w h = none_so es (far_happens devices device_linked peer_ends w (Clash g x)) (happens_so devices device_linked peer_ends IsTag IsAny tags_keep w (Clash g x) h)

-- no peer is placed
all_tags : (ds : List Device) → peers_in ds ≡ 0 → AllByRecursion IsTag ds
all_tags [] e = tt
all_tags (T2 d ∷ ds) e = (refl, all_tags ds e)
all_tags (T4 d ∷ ds) e = (refl, all_tags ds e)
all_tags (Peer d ∷ ds) e = absurd (omega (arith, e))
all_tags (T5 p ∷ ds) e = (refl, all_tags ds e)
all_tags (T3 p ∷ ds) e = (refl, all_tags ds e)

any_ends : (os : List (Option FarEnd)) → AllByRecursion (Above IsAny) os
any_ends [] = tt
any_ends (None ∷ os) = (tt, any_ends os)
any_ends (Some l ∷ os) = (tt, any_ends os)

pub none_handed : (w : WholeWorld) (es : List Event) → peers_in w.field.listeners ≡ 0 → NoPayloads devices device_linked peer_ends w es
none_handed w es none = none_so es w (record { listeners = all_tags w.field.listeners none; fars = any_ends w.fars })
