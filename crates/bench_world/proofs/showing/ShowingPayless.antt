-- Events in which no device hands a payload over, one after another; and the numbers decide nothing in them.
use Rattle.std.proofs.Common.{◌≡◌, ℕ, List, [], ◌∷◌, ◌++◌, Bool, true, if◌then◌else◌, sym, ◌∙◌, ap, subst}
use Rattle.std.proofs.lemmas.List.{append-nil}
use Rattle.nfc_base.specs.Far.{Untouched, Hands}
use Rattle.nfc_base.specs.Signal.{Signal}
use Rattle.nfc_base.specs.declared.event.Event.{Event}
use Rattle.nfc_base.specs.declared.event.Event.TheVariants.{Reset, Request, Answer, Clash}
use Rattle.nfc_base.specs.declared.event.Fate.{Fate}
use Rattle.nfc_base.specs.declared.event.Fate.TheVariants.{Pass, Damage, Lose, Break}
use Rattle.air_core.specs.Joint.{Joint, Nothing, Single, Clashing}
use Rattle.air_core.specs.Quiet.{EachQuiet}
use Rattle.air_core.specs.World.{World}
use Rattle.air_core.specs.Conversation.{AreTurns, Ask, joint_events, move_events, replay, turn_events}
use Rattle.far_air.specs.Quietly.{NoneHands, QuietAt}
use Rattle.far_air.specs.Staying.{NoPayload, NoPayloadAt, NoPayloads}
use Rattle.far_air.proofs.OnField.{quiet_fields}
use Rattle.peer_air.specs.PeerFars.{peer_ends}
use Rattle.bench_devices.specs.declared.device.Device.{Device}
use Rattle.bench_devices.specs.Device.{device_linked, devices}
use Rattle.bench_world.specs.World.{WholeWorld, bench_air}

abbrev pub Payless : WholeWorld → List Event → Type 0
Payless w es = NoPayloads devices device_linked peer_ends w es

pub payless_append : (a b : List Event) (w : WholeWorld) → Payless w a → Payless (replay bench_air w a) b → Payless w (a ++ b)
payless_append [] b w p q = q
payless_append (Reset ∷ a) b w p q = payless_append a b (bench_air.happens w Reset) p q
payless_append (Request f x ∷ a) b w p q = (p.0, payless_append a b (bench_air.happens w (Request f x)) p.1 q)
payless_append (Answer g x ∷ a) b w p q = payless_append a b (bench_air.happens w (Answer g x)) p q
payless_append (Clash g x ∷ a) b w p q = payless_append a b (bench_air.happens w (Clash g x)) p q

-- where nothing at all is handed over
no_hands : (payload : List ℕ) → Untouched ≡ Hands payload → ⊥
no_hands payload e = cc

quiet_payless : (f : Signal) (ds : List Device) → EachQuiet devices f ds → NoPayload devices device_linked peer_ends f ds
quiet_payless f [] q = tt
quiet_payless f (d ∷ ds) q = ((λ payload e. no_hands payload (sym q.0 ∙ e)), quiet_payless f ds q.1)

quiet_at : (x : Fate) (f : Signal) (ds : List Device) → QuietAt devices x f ds → NoPayloadAt devices device_linked peer_ends x f ds
quiet_at Pass f ds q = quiet_payless f ds q
quiet_at Damage f ds q = tt
quiet_at Lose f ds q = tt
quiet_at Break f ds q = tt

abbrev Goes : List Event → Type 0
Goes es = (w : WholeWorld) → NoneHands devices w.field es → Payless w es

pub none_payless : (es : List Event) → Goes es
none_payless [] w n = tt
none_payless (Reset ∷ es) w n = none_payless es (bench_air.happens w Reset) n
none_payless (Request f x ∷ es) w n =
    let q = quiet_fields devices device_linked peer_ends w (Request f x ∷ []) (n.0, tt) in
    (quiet_at x f w.field.listeners n.0, none_payless es (bench_air.happens w (Request f x)) (subst (λ (z : World Device). NoneHands devices z es) (sym q.field) n.1))
none_payless (Answer g x ∷ es) w n =
    let q = quiet_fields devices device_linked peer_ends w (Answer g x ∷ []) tt in
    none_payless es (bench_air.happens w (Answer g x)) (subst (λ (z : World Device). NoneHands devices z es) (sym q.field) n)
none_payless (Clash g x ∷ es) w n =
    let q = quiet_fields devices device_linked peer_ends w (Clash g x ∷ []) tt in
    none_payless es (bench_air.happens w (Clash g x)) (subst (λ (z : World Device). NoneHands devices z es) (sym q.field) n)

-- one turn
joint_payless : (w : WholeWorld) (j : Joint) (y : Fate) → Payless w (joint_events j y)
joint_payless w Nothing y = tt
joint_payless w (Single g) y = tt
joint_payless w (Clashing g) y = tt

pub turn_payless : (w : WholeWorld) (f : Signal) (x y : Fate) → NoPayload devices device_linked peer_ends f w.field.listeners → Payless w (turn_events bench_air w f x y)
turn_payless w f Pass y n = (n, joint_payless (bench_air.happens w (Request f Pass)) (bench_air.joint w f) y)
turn_payless w f Damage y n = (tt, tt)
turn_payless w f Lose y n = (tt, tt)
turn_payless w f Break y n = (tt, tt)

pub one_turn : (w : WholeWorld) (f : Signal) (x y : Fate) → bench_air.lit w ≡ true → AreTurns bench_air w (turn_events bench_air w f x y)
one_turn w f x y lit =
    let E : List Event = turn_events bench_air w f x y in
    let e : move_events bench_air w (Ask f x y) ≡ E = ap (λ (v : Bool). if v then E else []) lit in
    record { moves = Ask f x y ∷ []; made = sym (append-nil (move_events bench_air w (Ask f x y)) ∙ e) }
