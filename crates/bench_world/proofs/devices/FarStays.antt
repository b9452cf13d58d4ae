-- Whatever happens in the world with far ends: each device stays one that may be placed, with all that is fixed of it, and has a link at most while it is
-- active.
use Rattle.std.proofs.Common.{◌≡◌, ℕ, List, [], ◌∷◌, length, Option, refl, sym, ◌∙◌, ap, subst}
use Rattle.nfc_base.specs.declared.event.Event.{Event}
use Rattle.nfc_base.specs.declared.event.Event.TheVariants.{Reset, Request, Answer, Clash}
use Rattle.nfc_base.specs.declared.event.Fate.TheVariants.{Pass, Damage, Lose, Break}
use Rattle.nfc_base.specs.Signal.{Signal}
use Rattle.nfc_base.specs.declared.frame.Tech.TheVariants.{A}
use Rattle.air_core.specs.World.{stepped_by}
use Rattle.air_core.specs.Conversation.{replay}
use Rattle.far_air.specs.FarEnds.{first_far, later_fars, numbers_left}
use Rattle.far_air.specs.FarWorld.{all_meet, reply_at}
use Rattle.peer_air.specs.PeerFars.{peer_ends}
use Rattle.bench_devices.specs.declared.device.Device.{Device}
use Rattle.bench_devices.specs.declared.device.Device.TheVariants.{T2, T4, Peer, T5, T3}
use Rattle.bench_devices.specs.Device.{devices, device_linked}
use Rattle.bench_devices.specs.Keeping.{Kept, kept, IsSound, StaysDevice, AllStayDevices}
use Rattle.bench_devices.specs.Phases.{AreTidy}
use Rattle.bench_devices.proofs.kinds.EveryFrame.{stays_step, event_stays}
use Rattle.bench_devices.proofs.kinds.PeerMade.{peer_kept}
use Rattle.bench_devices.proofs.kinds.Tidy.{stepped_tidy, events_tidy}
use Rattle.bench_world.specs.World.{FarEnd, WholeWorld, bench_air}

-- a frame, with whatever reply of a far end
kept_stays : (d e : Device) → kept e ≡ kept d → StaysDevice d e
kept_stays d e same = record { fixed = ap (λ (k : Kept). k.fixed) same; long = ap (λ (k : Kept). length k.store) same; sound = λ is. subst IsSound (sym same) is }

pub stays_any : (f : Signal) (reply : Option (List ℕ)) (d : Device) → StaysDevice d (stepped_by devices d f reply)
stays_any f reply (T2 d) = stays_step f (T2 d)
stays_any f reply (T4 d) = stays_step f (T4 d)
stays_any f reply (Peer d) = kept_stays (Peer d) (stepped_by devices (Peer d) f reply) (peer_kept d f reply)
stays_any f reply (T5 p) = stays_step f (T5 p)
stays_any f reply (T3 p) = stays_step f (T3 p)

-- what stays so and is as tidy
pub record StayAll (ds es : List Device) : Type 0 where
  pub stay : AllStayDevices ds es
  pub tidy : AreTidy ds → AreTidy es

pub all_still : (ds : List Device) → AllStayDevices ds ds
all_still [] = tt
all_still (d ∷ ds) = (record { fixed = refl; long = refl; sound = λ is. is }, all_still ds)

pub all_stay : (ds es xs : List Device) → AllStayDevices ds es → AllStayDevices es xs → AllStayDevices ds xs
all_stay [] [] [] p q = tt
all_stay [] [] (x ∷ xs) p q = absurd q
all_stay [] (e ∷ es) xs p q = absurd p
all_stay (d ∷ ds) [] xs p q = absurd p
all_stay (d ∷ ds) (e ∷ es) [] p q = absurd q
all_stay (d ∷ ds) (e ∷ es) (x ∷ xs) p q = (
  record { fixed = q.0.fixed ∙ p.0.fixed; long = q.0.long ∙ p.0.long; sound = λ is. q.0.sound (p.0.sound is) },
  all_stay ds es xs p.1 q.1,
)

met_stay : (f : Signal) (ds : List Device) (os : List (Option FarEnd)) (ns : List ℕ) → AllStayDevices ds (all_meet devices device_linked peer_ends f ds os ns).listeners
met_stay f [] os ns = tt
met_stay f (d ∷ ds) os ns = (
  stays_any f (reply_at devices device_linked peer_ends d f (first_far os) ns) d,
  met_stay f ds (later_fars os) (numbers_left (reply_at devices device_linked peer_ends d f (first_far os) ns) ns),
)

met_tidy : (f : Signal) (ds : List Device) (os : List (Option FarEnd)) (ns : List ℕ) → AreTidy ds → AreTidy (all_meet devices device_linked peer_ends f ds os ns).listeners
met_tidy f [] os ns t = tt
met_tidy f (d ∷ ds) os ns t = (
  stepped_tidy f (reply_at devices device_linked peer_ends d f (first_far os) ns) d t.0,
  met_tidy f ds (later_fars os) (numbers_left (reply_at devices device_linked peer_ends d f (first_far os) ns) ns) t.1,
)

-- one event
pub one_event : (w : WholeWorld) (e : Event) → StayAll w.field.listeners (bench_air.happens w e).field.listeners
one_event w Reset = record { stay = event_stays w.field Reset; tidy = λ t. events_tidy (Reset ∷ []) w.field t }
one_event w (Request f Pass) = record { stay = met_stay f w.field.listeners w.fars w.numbers; tidy = λ t. met_tidy f w.field.listeners w.fars w.numbers t }
one_event w (Request f Damage) = record { stay = event_stays w.field (Request f Damage); tidy = λ t. t }
one_event w (Request f Lose) = record { stay = event_stays w.field (Request f Lose); tidy = λ t. t }
one_event w (Request f Break) = record { stay = event_stays w.field (Request f Break); tidy = λ t. events_tidy (Request f Break ∷ []) w.field t }
one_event w (Answer g Pass) = record { stay = event_stays w.field (Answer g Pass); tidy = λ t. t }
one_event w (Answer g Damage) = record { stay = event_stays w.field (Answer g Damage); tidy = λ t. t }
one_event w (Answer g Lose) = record { stay = event_stays w.field (Answer g Lose); tidy = λ t. t }
one_event w (Answer g Break) = record { stay = event_stays w.field (Answer g Break); tidy = λ t. events_tidy (Answer g Break ∷ []) w.field t }
one_event w (Clash g Pass) = record { stay = event_stays w.field (Clash g Pass); tidy = λ t. t }
one_event w (Clash g Damage) = record { stay = event_stays w.field (Clash g Damage); tidy = λ t. t }
one_event w (Clash g Lose) = record { stay = event_stays w.field (Clash g Lose); tidy = λ t. t }
one_event w (Clash g Break) = record { stay = event_stays w.field (Clash g Break); tidy = λ t. events_tidy (Clash g Break ∷ []) w.field t }

-- and some
pub far_stay : (es : List Event) (w : WholeWorld) → StayAll w.field.listeners (replay bench_air w es).field.listeners
far_stay [] w = record { stay = event_stays w.field (Request (record { tech = A; bytes = []; tail = 0 }) Lose); tidy = λ t. t }
far_stay (e ∷ es) w =
    let one = one_event w e in
    let more = far_stay es (bench_air.happens w e) in
    record {
      stay = all_stay w.field.listeners (bench_air.happens w e).field.listeners (replay bench_air (bench_air.happens w e) es).field.listeners one.stay more.stay;
      tidy = λ t. more.tidy (one.tidy t);
    }
