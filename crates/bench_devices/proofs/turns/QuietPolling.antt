-- At what a reader asks while it polls no device hands anything over, so a conversation over listeners with a far end that answers
-- nothing is one over the quiet air.
use Rattle.std.proofs.Common.{◌≡◌, List, [], ◌∷◌, ◌++◌, Bool, true, false, if◌then◌else◌, None, Result, refl, sym, ◌∙◌, ap, subst}
use Rattle.nfc_base.specs.declared.event.Event.{Event}
use Rattle.nfc_base.specs.declared.event.Event.TheVariants.{Reset, Request, Answer, Clash}
use Rattle.nfc_base.specs.declared.event.Fate.{Fate}
use Rattle.nfc_base.specs.declared.event.Fate.TheVariants.{Pass, Damage, Lose, Break}
use Rattle.nfc_base.specs.declared.frame.Tech.TheVariants.{A, V}
use Rattle.nfc_base.specs.Far.{Untouched}
use Rattle.nfc_base.specs.Signal.{Signal}
use Rattle.nfc_base.specs.Trace.{by_fate}
use Rattle.air_core.specs.Joint.{joint, same_tech}
use Rattle.air_core.specs.Turn.{Air, moment}
use Rattle.air_core.specs.World.{Machine, World, hears, hands_over, answered_by, stepped_by, requested, came_back, reset_by, dark, quiet_air}
use Rattle.air_core.specs.Conversation.{Note, Next, Asks, Moment, Going, AreTurns, Move, Light, Ask, replay, trace_of, turn_events, joint_events, queue_after}
use Rattle.nfca_poll.specs.declared.fault.PollFault.{PollFault}
use Rattle.nfca_poll.specs.Enquiry.{Enquiry, progress, enquiring, answer_of, Enquires}
use Rattle.nfca_poll.specs.Muted.{mute_reply, muted}
use Rattle.nfca_poll.specs.laws.OwnFrames.{BeginsAsCalls}
use Rattle.nfca_poll.proofs.quiet.Eaches.{map_same, said_same}
use Rattle.bench_devices.specs.declared.device.Device.{Device}
use Rattle.bench_devices.specs.declared.device.Device.TheVariants.{T2, T4, Peer, T5, T3}
use Rattle.bench_devices.specs.Device.{air, devices}
use Rattle.bench_devices.specs.Keeping.{EachAsked}
use Rattle.bench_devices.proofs.finding.Inventoried.{all_of}
use Rattle.bench_devices.proofs.kinds.PeerCalls.{none_handed}
use Rattle.bench_devices.proofs.finding.SelectingKept.{due_asked}

-- what holds of each request of two parts
asked_first : (P : Signal → Type 0) (es fs : List Event) → EachAsked P (es ++ fs) → EachAsked P es
asked_first P [] fs h = tt
asked_first P (Reset ∷ es) fs h = asked_first P es fs h
asked_first P (Request f x ∷ es) fs h = (h.0, asked_first P es fs h.1)
asked_first P (Answer g x ∷ es) fs h = asked_first P es fs h
asked_first P (Clash g x ∷ es) fs h = asked_first P es fs h

asked_later : (P : Signal → Type 0) (es fs : List Event) → EachAsked P (es ++ fs) → EachAsked P fs
asked_later P [] fs h = h
asked_later P (Reset ∷ es) fs h = asked_later P es fs h
asked_later P (Request f x ∷ es) fs h = asked_later P es fs h.1
asked_later P (Answer g x ∷ es) fs h = asked_later P es fs h
asked_later P (Clash g x ∷ es) fs h = asked_later P es fs h

-- Two machines of devices, whose light and dark are the same.
module _ (m n : Machine Device) (dark_same : (l : Device) → n.darkened l ≡ m.darkened l) (reset_same : (l : Device) → n.woken (n.darkened l) ≡ m.woken (m.darkened l)) where
  -- at this frame each device does the same
  pub record IsAlike (f : Signal) : Type 0 where
    pub says : (l : Device) → answered_by n l f None ≡ answered_by m l f None
    pub steps : (l : Device) → stepped_by n l f None ≡ stepped_by m l f None

  -- devices in a world that was lit or not
  abbrev as_world : Bool → List Device → World Device
  as_world lit ls = record { lit = lit; listeners = ls }

  darks : (w : World Device) → dark n w ≡ dark m w
  darks w = ap (as_world false) (map_same n.darkened m.darkened w.listeners (all_of (λ l. n.darkened l ≡ m.darkened l) dark_same w.listeners))

  resets : (w : World Device) → reset_by n w ≡ reset_by m w
  resets w =
      ap (as_world true)
      (map_same (λ l. n.woken (n.darkened l)) (λ l. m.woken (m.darkened l)) w.listeners (all_of (λ l. n.woken (n.darkened l) ≡ m.woken (m.darkened l)) reset_same w.listeners))

  requests : (w : World Device) (f : Signal) (x : Fate) → IsAlike f → requested n w f x ≡ requested m w f x
  requests w f Pass h =
      ap (as_world w.lit)
      (map_same (λ l. stepped_by n l f None) (λ l. stepped_by m l f None) w.listeners (all_of (λ l. stepped_by n l f None ≡ stepped_by m l f None) h.steps w.listeners))
  requests w f Damage h = refl
  requests w f Lose h = refl
  requests w f Break h = darks w

  backs : (w : World Device) (x : Fate) → came_back n w x ≡ came_back m w x
  backs w Pass = refl
  backs w Damage = refl
  backs w Lose = refl
  backs w Break = darks w

  -- so events lead to the same
  replays : (es : List Event) (w : World Device) → EachAsked IsAlike es → replay (quiet_air n) w es ≡ replay (quiet_air m) w es
  replays [] w h = refl
  replays (Reset ∷ es) w h = replays es (reset_by n w) h ∙ ap (λ v. replay (quiet_air m) v es) (resets w)
  replays (Request f x ∷ es) w h = replays es (requested n w f x) h.1 ∙ ap (λ v. replay (quiet_air m) v es) (requests w f x h.0)
  replays (Answer g x ∷ es) w h = replays es (came_back n w x) h ∙ ap (λ v. replay (quiet_air m) v es) (backs w x)
  replays (Clash g x ∷ es) w h = replays es (came_back n w x) h ∙ ap (λ v. replay (quiet_air m) v es) (backs w x)

  -- what a turn is
  turn_same : (w : World Device) (f : Signal) (x y : Fate) → IsAlike f → turn_events (quiet_air n) w f x y ≡ turn_events (quiet_air m) w f x y
  turn_same w f x y h =
      ap (λ gs. Request f x ∷ by_fate x (joint_events (joint gs) y) [] [])
      (said_same (λ l. answered_by n l f None) (λ l. answered_by m l f None) w.listeners (all_of (λ l. answered_by n l f None ≡ answered_by m l f None) h.says w.listeners))

  -- and what moves are
  over : List (Move (quiet_air m)) → List (Move (quiet_air n))
  over [] = []
  over (Light ∷ ks) = Light ∷ over ks
  over (Ask f x y ∷ ks) = Ask f x y ∷ over ks

  traces : (ks : List (Move (quiet_air m))) (w : World Device) → EachAsked IsAlike (trace_of (quiet_air m) w ks) → trace_of (quiet_air n) w (over ks) ≡ trace_of (quiet_air m) w ks
  unfolding over
  traces [] w h = refl
  traces (Light ∷ ks) w h =
      ap (λ t. Reset ∷ t) (ap (λ v. trace_of (quiet_air n) v (over ks)) (resets w) ∙ traces ks (reset_by m w) h)
  traces (Ask f x y ∷ ks) w h = by_light w.lit h (λ v q. traces ks v q)
    where
      by_light : (v : Bool)
          → EachAsked IsAlike ((if v then turn_events (quiet_air m) w f x y else []) ++ trace_of (quiet_air m) (replay (quiet_air m) w (if v then turn_events (quiet_air m) w f x y else [])) ks)
          → ((u : World Device) → EachAsked IsAlike (trace_of (quiet_air m) u ks) → trace_of (quiet_air n) u (over ks) ≡ trace_of (quiet_air m) u ks)
          → (if v then turn_events (quiet_air n) w f x y else []) ++ trace_of (quiet_air n) (replay (quiet_air n) w (if v then turn_events (quiet_air n) w f x y else [])) (over ks)
          ≡ (if v then turn_events (quiet_air m) w f x y else []) ++ trace_of (quiet_air m) (replay (quiet_air m) w (if v then turn_events (quiet_air m) w f x y else [])) ks
      by_light false q more = more w q
      by_light true q more =
          let es : List Event = turn_events (quiet_air m) w f x y in
          let rest : List Event = trace_of (quiet_air m) (replay (quiet_air m) w es) ks in
          ap (λ t. t ++ trace_of (quiet_air n) (replay (quiet_air n) w t) (over ks)) (turn_same w f x y q.0)
          ∙ ap (λ t. es ++ t)
          (ap (λ v. trace_of (quiet_air n) v (over ks)) (replays es w (asked_first IsAlike es rest q)) ∙ more (replay (quiet_air m) w es) (asked_later IsAlike es rest q))

  turns_over : (w : World Device) (es : List Event) → EachAsked IsAlike es → AreTurns (quiet_air m) w es → AreTurns (quiet_air n) w es
  turns_over w es h t = record { moves = over t.moves; made = t.made ∙ sym (traces t.moves w (subst (EachAsked IsAlike) t.made h)) }

  -- A conversation in which they do the same at all that is asked is one with the other's.
  pub going_over : (next : List Note → Next) (a b : Moment (World Device)) (ns : List Note) → ((ks : List Note) (f : Signal) → next ks ≡ Asks f → IsAlike f)
      → Going (quiet_air m) next a b ns → Going (quiet_air n) next a b ns
  going_over next a b ns alike g =
      let h : EachAsked IsAlike g.events = due_asked IsAlike next alike [] g.events g.each in
      record {
        events = g.events;
        moment = g.moment ∙ ap (λ w. record { world = w; queue = queue_after a.queue g.events; trace = a.trace ++ g.events }) (sym (replays g.events a.world h));
        turns = turns_over a.world g.events h g.turns;
        each = g.each;
        fates = g.fates;
        fresh = g.fresh;
        known = g.known;
      }

-- at this frame no device hands anything over, whatever state it is in
abbrev pub HandsNone : Signal → Type 0
HandsNone f = (l : Device) → hands_over devices l f ≡ Untouched

either_none : (v : Bool) → (if v then Untouched else Untouched) ≡ Untouched
either_none true = refl
either_none false = refl

-- so at a call, and at a frame of NFC-V
pub call_hands_none : (f : Signal) → BeginsAsCalls f → HandsNone f
call_hands_none f h (T2 d) = either_none (hears devices (T2 d) f)
call_hands_none f h (T4 d) = either_none (hears devices (T4 d) f)
call_hands_none f h (Peer d) = by_tech (hears devices (Peer d) f)
  where
    by_tech : (v : Bool) → (if v then devices.handed (Peer d) f else Untouched) ≡ Untouched
    by_tech true = none_handed d.front d f h
    by_tech false = refl
call_hands_none f h (T5 p) = either_none (hears devices (T5 p) f)
call_hands_none f h (T3 p) = either_none (hears devices (T3 p) f)

pub other_hands_none : (f : Signal) → f.tech ≡ V → HandsNone f
other_hands_none f h (T2 d) = either_none (hears devices (T2 d) f)
other_hands_none f h (T4 d) = either_none (hears devices (T4 d) f)
other_hands_none f h (Peer d) = ap (λ t. if same_tech A t then devices.handed (Peer d) f else Untouched) h
other_hands_none f h (T5 p) = either_none (hears devices (T5 p) f)
other_hands_none f h (T3 p) = either_none (hears devices (T3 p) f)

-- Then the far end that answers nothing makes no difference.
says_same : (l : Device) (f : Signal) (v : Bool) → (if v then devices.handed l f else Untouched) ≡ Untouched
    → (if v then devices.answer l f (mute_reply (devices.handed l f)) else None) ≡ (if v then devices.answer l f None else None)
says_same l f true h = ap (λ u. devices.answer l f (mute_reply u)) h
says_same l f false h = refl

steps_same : (l : Device) (f : Signal) (v : Bool) → (if v then devices.handed l f else Untouched) ≡ Untouched
    → (if v then devices.after l f (mute_reply (devices.handed l f)) else l) ≡ (if v then devices.after l f None else l)
steps_same l f true h = ap (λ u. devices.after l f (mute_reply u)) h
steps_same l f false h = refl

quiet_alike : (f : Signal) → HandsNone f → IsAlike (muted devices) devices (λ l. refl) (λ l. refl) f
quiet_alike f h = record { says = λ l. sym (says_same l f (hears devices l f) (h l)); steps = λ l. sym (steps_same l f (hears devices l f) (h l)) }

mute_alike : (f : Signal) → HandsNone f → IsAlike devices (muted devices) (λ l. refl) (λ l. refl) f
mute_alike f h = record { says = λ l. says_same l f (hears devices l f) (h l); steps = λ l. steps_same l f (hears devices l f) (h l) }

-- what a call of polling did over the quiet air of the devices
module _ {S X : Type 0} (e : Enquiry S X) where
  pub record PollsQuietly (old : Air Device) (r : Result X PollFault) (new : Air Device) : Type 0 where
    pub notes : List Note
    pub going : Going air (enquiring e) (moment old) (moment new) notes
    pub comes : r ≡ answer_of e (progress e e.start notes)

  abbrev pub AsksQuietly : Type 0
  AsksQuietly = (ns : List Note) (f : Signal) → enquiring e ns ≡ Asks f → HandsNone f

  pub quietly : AsksQuietly → (old new : Air Device) (r : Result X PollFault) → Enquires e devices old r new → PollsQuietly old r new
  quietly q old new r t = record {
    notes = t.notes;
    going = going_over (muted devices) devices (λ l. refl) (λ l. refl) (enquiring e) (moment old) (moment new) t.notes (λ ns f due. quiet_alike f (q ns f due)) t.going;
    comes = t.comes;
  }

  pub mutely : AsksQuietly → (old new : Air Device) (r : Result X PollFault) → PollsQuietly old r new → Enquires e devices old r new
  mutely q old new r t = record {
    notes = t.notes;
    going = going_over devices (muted devices) (λ l. refl) (λ l. refl) (enquiring e) (moment old) (moment new) t.notes (λ ns f due. mute_alike f (q ns f due)) t.going;
    comes = t.comes;
  }
