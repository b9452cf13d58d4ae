-- What stays of the devices while a reader polls: resets, calls, inventories and the dark change no device but in its state.
use Rattle.std.proofs.Common.{◌≡◌, ℕ, List, [], ◌∷◌, ◌++◌, map, Bool, true, false, if◌then◌else◌, None, refl, ◌∙◌, ap}
use Rattle.nfc_base.specs.declared.frame.Tech.TheVariants.{A, V, F}
use Rattle.nfc_base.specs.declared.event.Event.{Event}
use Rattle.nfc_base.specs.declared.event.Event.TheVariants.{Reset, Request, Answer, Clash}
use Rattle.nfc_base.specs.declared.event.Fate.{Fate}
use Rattle.nfc_base.specs.declared.event.Fate.TheVariants.{Pass, Damage, Lose, Break}
use Rattle.nfc_base.specs.Signal.{Signal}
use Rattle.air_core.specs.Joint.{same_tech}
use Rattle.air_core.specs.World.{World, stepped_by, requested, came_back}
use Rattle.air_core.specs.Conversation.{Note, Next, Asks, EachDue, Moment, Going, replay, receptions}
use Rattle.nfca_poll.specs.Levels.{levels}
use Rattle.nfca_poll.specs.Calls.{call_of}
use Rattle.nfca_poll.specs.Front.{Front, Off, Idle, Sleep, Ready, Active, front_next}
use Rattle.nfca_poll.specs.Fronted.{left_at, active_after, after_by}
use Rattle.t2t_tag.specs.Store.{T2Memory}
use Rattle.bench_devices.specs.declared.device.Device.{Device}
use Rattle.bench_devices.specs.declared.device.Device.TheVariants.{T2, T4, Peer, T5, T3}
use Rattle.bench_devices.specs.Cards.{T4Near}
use Rattle.bench_devices.specs.Device.{devices, t2_machine, t4_machine, T4Did}
use Rattle.bench_devices.specs.Device.{air}
use Rattle.bench_devices.specs.Keeping.{Kept, kept, EachAsked}
use Rattle.nfca_poll.specs.laws.OwnFrames.{BeginsAsCalls}
use Rattle.bench_devices.specs.laws.LinkCalls.{no_command, says_at, did_at_call}
use Rattle.bench_devices.proofs.kinds.PeerMade.{peer_kept, peer_lit}
use Rattle.bench_devices.proofs.finding.SelectingCards.{carded, near, call_goes}

-- a frame that changes no device but in its state
abbrev pub IsHarmless : Signal → Type 0
IsHarmless f = (d : Device) → kept (stepped_by devices d f None) ≡ kept d

-- what is kept of a Type 4 tag stays where its front changes its state
kept_left : (front next at : Front) (id : List ℕ) (u : T4Near) → kept (T4 (near id at (left_at t4_machine front next u))) ≡ kept (T4 (near id front u))
kept_left Off next at id u = refl
kept_left Idle next at id u = refl
kept_left Sleep next at id u = refl
kept_left (Ready k starred) next at id u = refl
kept_left (Active starred) Off at id u = refl
kept_left (Active starred) Idle at id u = refl
kept_left (Active starred) Sleep at id u = refl
kept_left (Active starred) (Ready k other) at id u = refl
kept_left (Active starred) (Active other) at id u = refl

kept_said : (linked : Bool) (starred : Bool) (id : List ℕ) (u : T4Near) (f : Signal)
    → kept (T4 (active_after t4_machine (says_at linked) u (near id (Active starred) u) f)) ≡ kept (T4 (near id (Active starred) u))
kept_said false starred id u f = let next : Front = front_next (levels id) (Active starred) (call_of f) in kept_left (Active starred) next next id u
kept_said true starred id u f = refl

kept_card : (front : Front) (id : List ℕ) (u : T4Near) (f : Signal) → BeginsAsCalls f → kept (T4 (after_by t4_machine front (near id front u) f None)) ≡ kept (T4 (near id front u))
kept_card Off id u f h = refl
kept_card Idle id u f h = refl
kept_card Sleep id u f h = refl
kept_card (Ready k starred) id u f h = refl
kept_card (Active starred) id u f h =
    ap (λ (x : T4Did). kept (T4 (active_after t4_machine x.says x.after (near id (Active starred) u) f))) (did_at_call u f h) ∙ kept_said u.linked starred id u f

pub harmless_call : (f : Signal) → f.tech ≡ A → BeginsAsCalls f → IsHarmless f
harmless_call f a h (T2 d) =
    ap (λ t. kept (if same_tech A t then devices.after (T2 d) f None else T2 d)) a ∙ ap (λ x. kept (T2 x)) (call_goes d.front d.id d.upper f (no_command f h))
harmless_call f a h (T4 d) = ap (λ t. kept (if same_tech A t then devices.after (T4 d) f None else T4 d)) a ∙ kept_card d.front d.id d.upper f h
harmless_call f a h (Peer d) = peer_kept d f None
harmless_call f a h (T5 p) = ap (λ t. kept (if same_tech V t then devices.after (T5 p) f None else T5 p)) a
harmless_call f a h (T3 p) = ap (λ t. kept (if same_tech F t then devices.after (T3 p) f None else T3 p)) a

dark_stays : (front next : Front) (u : T2Memory) → left_at t2_machine front next u ≡ u
dark_stays Off next u = refl
dark_stays Idle next u = refl
dark_stays Sleep next u = refl
dark_stays (Ready k starred) next u = refl
dark_stays (Active starred) Off u = refl
dark_stays (Active starred) Idle u = refl
dark_stays (Active starred) Sleep u = refl
dark_stays (Active starred) (Ready k other) u = refl
dark_stays (Active starred) (Active other) u = refl

pub kept_dark : (d : Device) → kept (devices.darkened d) ≡ kept d
kept_dark (T2 d) = ap (λ u. kept (T2 (carded d.id d.front u))) (dark_stays d.front Off d.upper)
kept_dark (T4 d) = kept_left d.front Off Off d.id d.upper
kept_dark (Peer d) = refl
kept_dark (T5 p) = refl
kept_dark (T3 p) = refl

pub kept_lit : (d : Device) → kept (devices.woken d) ≡ kept d
kept_lit (T2 d) = ap (λ u. kept (T2 (carded d.id d.front u))) (dark_stays d.front Idle d.upper)
kept_lit (T4 d) = kept_left d.front Idle Idle d.id d.upper
kept_lit (Peer d) = peer_lit d
kept_lit (T5 p) = refl
kept_lit (T3 p) = refl

map_kept : (g : Device → Device) → ((d : Device) → kept (g d) ≡ kept d) → (ds : List Device) → map kept (map g ds) ≡ map kept ds
map_kept g h [] = refl
map_kept g h (d ∷ ds) = ap (λ k. k ∷ map kept (map g ds)) (h d) ∙ ap (λ ks. kept d ∷ ks) (map_kept g h ds)

pub kept_relit : (ds : List Device) → map kept (map (λ l. devices.woken (devices.darkened l)) ds) ≡ map kept ds
kept_relit ds = map_kept (λ l. devices.woken (devices.darkened l)) (λ d. kept_lit (devices.darkened d) ∙ kept_dark d) ds

-- it holds of all that may be due
pub due_asked : (P : Signal → Type 0) (next : List Note → Next) → ((ns : List Note) (f : Signal) → next ns ≡ Asks f → P f) → (before es : List Event) → EachDue next before es → EachAsked P es
due_asked P next h before [] q = tt
due_asked P next h before (Reset ∷ es) q = due_asked P next h (before ++ Reset ∷ []) es q.1
due_asked P next h before (Request f x ∷ es) q = (h (receptions before) f q.0, due_asked P next h (before ++ Request f x ∷ []) es q.1)
due_asked P next h before (Answer g x ∷ es) q = due_asked P next h (before ++ Answer g x ∷ []) es q
due_asked P next h before (Clash g x ∷ es) q = due_asked P next h (before ++ Clash g x ∷ []) es q

abbrev kept_in : World Device → List Kept
kept_in w = map kept w.listeners

requested_keeps : (w : World Device) (f : Signal) (x : Fate) → IsHarmless f → kept_in (requested devices w f x) ≡ kept_in w
requested_keeps w f Pass h = map_kept (λ l. stepped_by devices l f None) h w.listeners
requested_keeps w f Damage h = refl
requested_keeps w f Lose h = refl
requested_keeps w f Break h = map_kept devices.darkened kept_dark w.listeners

back_keeps : (w : World Device) (x : Fate) → kept_in (came_back devices w x) ≡ kept_in w
back_keeps w Pass = refl
back_keeps w Damage = refl
back_keeps w Lose = refl
back_keeps w Break = map_kept devices.darkened kept_dark w.listeners

pub events_keep : (es : List Event) (w : World Device) → EachAsked IsHarmless es → kept_in (replay air w es) ≡ kept_in w
events_keep [] w h = refl
events_keep (Reset ∷ es) w h = events_keep es (air.happens w Reset) h ∙ kept_relit w.listeners
events_keep (Request f x ∷ es) w h = events_keep es (requested devices w f x) h.1 ∙ requested_keeps w f x h.0
events_keep (Answer g x ∷ es) w h = events_keep es (came_back devices w x) h ∙ back_keeps w x
events_keep (Clash g x ∷ es) w h = events_keep es (came_back devices w x) h ∙ back_keeps w x

-- where each request that may be due is harmless, no device changed but in its state
pub going_keeps : (next : List Note → Next) (a b : Moment (World Device)) (ns : List Note) → ((ks : List Note) (f : Signal) → next ks ≡ Asks f → IsHarmless f) → Going air next a b ns
    → map kept b.world.listeners ≡ map kept a.world.listeners
going_keeps next a b ns h g = ap (λ (m : Moment (World Device)). kept_in m.world) g.moment ∙ events_keep g.events a.world (due_asked IsHarmless next h [] g.events g.each)
