-- Whatever happens to the field, a Type 4 tag and a peer have a link at most while they are active.
use Rattle.std.proofs.Common.{◌≡◌, ◌⊎◌, inl, inr, ℕ, List, [], ◌∷◌, map, Bool, true, false, if◌then◌else◌, Option, None, refl, sym, subst}
use Rattle.nfc_base.specs.declared.event.Event.{Event}
use Rattle.nfc_base.specs.declared.event.Event.TheVariants.{Reset, Request, Answer, Clash}
use Rattle.nfc_base.specs.declared.event.Fate.{Fate}
use Rattle.nfc_base.specs.declared.event.Fate.TheVariants.{Pass, Damage, Lose, Break}
use Rattle.nfc_base.specs.Signal.{Signal}
use Rattle.air_core.specs.World.{World, hears, stepped_by, requested, came_back}
use Rattle.air_core.specs.Conversation.{Note, Next, Moment, Going, replay}
use Rattle.nfca_poll.specs.declared.upper.UpStep.{UpStep}
use Rattle.nfca_poll.specs.declared.upper.UpStep.TheVariants as steps
use Rattle.nfca_poll.specs.Levels.{levels}
use Rattle.nfca_poll.specs.Calls.{call_of}
use Rattle.nfca_poll.specs.Front.{Front, Off, Idle, Sleep, Ready, Active, front_next, is_active}
use Rattle.nfca_poll.specs.Fronted.{Fronted, left_at, active_after, after_by}
use Rattle.nfca_poll.specs.Upper.{UpperMachine}
use Rattle.bench_devices.specs.Cards.{T4Near}
use Rattle.bench_devices.specs.Peers.{PeerNear, peer_machine, no_link}
use Rattle.bench_devices.specs.declared.device.Device.{Device}
use Rattle.bench_devices.specs.declared.device.Device.TheVariants.{T2, T4, Peer, T5, T3}
use Rattle.bench_devices.specs.Device.{devices, t4_machine, is_unlinked}
use Rattle.bench_devices.specs.Device.{air}
use Rattle.bench_devices.specs.Phases.{IsTidy, AreTidy}

-- a front in a state, under which a machine has no link, or is active
module _ {U : Type 0} (m : UpperMachine U) (free : U → Bool) (gives_up : (u : U) → free (m.cleared u) ≡ true) where
  abbrev pub IsTidyAt : Front → U → Type 0
  IsTidyAt front u = (is_active front ≡ true) ⊎ (free u ≡ true)

  -- where a front leaves Active the link is given up
  pub left_tidy : (front next : Front) (u : U) → IsTidyAt front u → IsTidyAt next (left_at m front next u)
  left_tidy Off next u (inl a) = absurd cc
  left_tidy Off next u (inr n) = inr n
  left_tidy Idle next u (inl a) = absurd cc
  left_tidy Idle next u (inr n) = inr n
  left_tidy Sleep next u (inl a) = absurd cc
  left_tidy Sleep next u (inr n) = inr n
  left_tidy (Ready k starred) next u (inl a) = absurd cc
  left_tidy (Ready k starred) next u (inr n) = inr n
  left_tidy (Active starred) Off u t = inr (gives_up u)
  left_tidy (Active starred) Idle u t = inr (gives_up u)
  left_tidy (Active starred) Sleep u t = inr (gives_up u)
  left_tidy (Active starred) (Ready k other) u t = inr (gives_up u)
  left_tidy (Active starred) (Active other) u t = inl refl

  -- one without a link has none where its front goes elsewhere
  pub left_free : (front next : Front) (u : U) → free u ≡ true → free (left_at m front next u) ≡ true
  left_free Off next u n = n
  left_free Idle next u n = n
  left_free Sleep next u n = n
  left_free (Ready k starred) next u n = n
  left_free (Active starred) Off u n = gives_up u
  left_free (Active starred) Idle u n = gives_up u
  left_free (Active starred) Sleep u n = gives_up u
  left_free (Active starred) (Ready k other) u n = gives_up u
  left_free (Active starred) (Active other) u n = n

  -- so a device is tidy after each step of it
  abbrev IsTidyOne : Fronted U → Type 0
  IsTidyOne d = IsTidyAt d.front d.upper

  active_tidy : (s : UpStep) (starred : Bool) (id : List ℕ) (u v : U) (f : Signal) → IsTidyOne (active_after m s v (record { id = id; front = Active starred; upper = u }) f)
  active_tidy steps.Foreign starred id u v f = left_tidy (Active starred) (front_next (levels id) (Active starred) (call_of f)) u (inl refl)
  active_tidy steps.Quiet starred id u v f = inl refl
  active_tidy (steps.Reply g) starred id u v f = inl refl
  active_tidy (steps.Sleep g) starred id u v f = inr (gives_up v)
  active_tidy (steps.Idle g) starred id u v f = inr (gives_up v)

  after_tidy : (front : Front) (id : List ℕ) (u : U) (f : Signal) (reply : Option (List ℕ)) → IsTidyAt front u → IsTidyOne (after_by m front (record { id = id; front = front; upper = u }) f reply)
  after_tidy Off id u f reply t = left_tidy Off (front_next (levels id) Off (call_of f)) u t
  after_tidy Idle id u f reply t = left_tidy Idle (front_next (levels id) Idle (call_of f)) u t
  after_tidy Sleep id u f reply t = left_tidy Sleep (front_next (levels id) Sleep (call_of f)) u t
  after_tidy (Ready k starred) id u f reply t = left_tidy (Ready k starred) (front_next (levels id) (Ready k starred) (call_of f)) u t
  after_tidy (Active starred) id u f reply t = active_tidy (m.says u f reply) starred id u (m.after u f reply) f

-- what a Type 4 tag and a peer give up
pub four_gives_up : (u : T4Near) → is_unlinked (t4_machine.cleared u) ≡ true
four_gives_up u = refl

pub peer_gives_up : (u : PeerNear) → no_link (peer_machine.cleared u) ≡ true
peer_gives_up u = refl

either_tidy : (v : Bool) (a b : Device) → IsTidy a → IsTidy b → IsTidy (if v then a else b)
either_tidy true a b t u = t
either_tidy false a b t u = u

pub stepped_tidy : (f : Signal) (reply : Option (List ℕ)) (d : Device) → IsTidy d → IsTidy (stepped_by devices d f reply)
stepped_tidy f reply (T2 d) t = either_tidy (hears devices (T2 d) f) (devices.after (T2 d) f reply) (T2 d) tt tt
stepped_tidy f reply (T4 d) t = either_tidy (hears devices (T4 d) f) (devices.after (T4 d) f reply) (T4 d) (after_tidy t4_machine is_unlinked four_gives_up d.front d.id d.upper f None t) t
stepped_tidy f reply (Peer d) t =
    either_tidy (hears devices (Peer d) f) (devices.after (Peer d) f reply) (Peer d) (after_tidy peer_machine no_link peer_gives_up d.front d.id d.upper f reply t) t
stepped_tidy f reply (T5 p) t = either_tidy (hears devices (T5 p) f) (devices.after (T5 p) f reply) (T5 p) tt tt
stepped_tidy f reply (T3 p) t = either_tidy (hears devices (T3 p) f) (devices.after (T3 p) f reply) (T3 p) tt tt

-- and where light comes and goes
pub dark_tidy : (d : Device) → IsTidy d → IsTidy (devices.darkened d)
dark_tidy (T2 d) t = tt
dark_tidy (T4 d) t = left_tidy t4_machine is_unlinked four_gives_up d.front Off d.upper t
dark_tidy (Peer d) t = inr refl
dark_tidy (T5 p) t = tt
dark_tidy (T3 p) t = tt

pub woken_tidy : (d : Device) → IsTidy d → IsTidy (devices.woken d)
woken_tidy (T2 d) t = tt
woken_tidy (T4 d) t = left_tidy t4_machine is_unlinked four_gives_up d.front Idle d.upper t
woken_tidy (Peer d) t = left_tidy peer_machine no_link peer_gives_up d.front Idle d.upper t
woken_tidy (T5 p) t = tt
woken_tidy (T3 p) t = tt

pub all_tidy : (g : Device → Device) → ((d : Device) → IsTidy d → IsTidy (g d)) → (ds : List Device) → AreTidy ds → AreTidy (map g ds)
all_tidy g h [] t = tt
all_tidy g h (d ∷ ds) t = (h d t.0, all_tidy g h ds t.1)

requested_tidy : (w : World Device) (f : Signal) (x : Fate) → AreTidy w.listeners → AreTidy (requested devices w f x).listeners
requested_tidy w f Pass t = all_tidy (λ l. stepped_by devices l f None) (stepped_tidy f None) w.listeners t
requested_tidy w f Damage t = t
requested_tidy w f Lose t = t
requested_tidy w f Break t = all_tidy devices.darkened dark_tidy w.listeners t

back_tidy : (w : World Device) (x : Fate) → AreTidy w.listeners → AreTidy (came_back devices w x).listeners
back_tidy w Pass t = t
back_tidy w Damage t = t
back_tidy w Lose t = t
back_tidy w Break t = all_tidy devices.darkened dark_tidy w.listeners t

pub events_tidy : (es : List Event) (w : World Device) → AreTidy w.listeners → AreTidy (replay air w es).listeners
events_tidy [] w t = t
events_tidy (Reset ∷ es) w t = events_tidy es (air.happens w Reset) (all_tidy (λ l. devices.woken (devices.darkened l)) (λ d u. woken_tidy (devices.darkened d) (dark_tidy d u)) w.listeners t)
events_tidy (Request f x ∷ es) w t = events_tidy es (requested devices w f x) (requested_tidy w f x t)
events_tidy (Answer g x ∷ es) w t = events_tidy es (came_back devices w x) (back_tidy w x t)
events_tidy (Clash g x ∷ es) w t = events_tidy es (came_back devices w x) (back_tidy w x t)

-- whatever was due
pub going_tidy : (next : List Note → Next) (a b : Moment (World Device)) (ns : List Note) → Going air next a b ns → AreTidy a.world.listeners → AreTidy b.world.listeners
going_tidy next a b ns g t = subst (λ (m : Moment (World Device)). AreTidy m.world.listeners) (sym g.moment) (events_tidy g.events a.world t)
