-- One request, asked again and again of devices that stay as they are at it: what is heard of them.
use Rattle.std.proofs.Common.{◌≡◌, List, [], ◌∷◌, ◌++◌, map, filter_map, Bool, true, false, if◌then◌else◌, Option, Some, None, refl, sym, ◌∙◌, ap, subst, arith}
use Rattle.nfc_base.specs.declared.event.Event.{Event}
use Rattle.nfc_base.specs.declared.event.Event.TheVariants.{Reset, Request, Answer, Clash}
use Rattle.nfc_base.specs.declared.event.Fate.{Fate}
use Rattle.nfc_base.specs.declared.event.Fate.TheVariants.{Pass, Damage, Lose, Break}
use Rattle.nfc_base.specs.declared.event.Heard.{Heard}
use Rattle.nfc_base.specs.declared.event.Heard.TheVariants.{Whole, Collided, Damaged, Silent}
use Rattle.nfc_base.specs.Signal.{Signal}
use Rattle.nfc_base.specs.Trace.{breaks, heard_by}
use Rattle.air_core.specs.Joint.{Joint, Nothing, Single, Clashing, joint}
use Rattle.air_core.specs.World.{World, answered_by, stepped_by, stepped}
use Rattle.air_core.specs.Conversation.{Note, Lit, Got, Lost, note, replay, receptions, joint_events, joint_back, turn_events, turn_heard, Move, Light, Ask, trace_of}
use Rattle.nfca_poll.specs.Crowd.{Each}
use Rattle.nfca_poll.proofs.quiet.Eaches.{map_none}
use Rattle.bench_devices.specs.declared.device.Device.{Device}
use Rattle.bench_devices.specs.Device.{devices}
use Rattle.bench_devices.specs.Device.{air}
use Rattle.air_core.proofs.Following.{trace_first, turn_known}
use Rattle.air_core.proofs.LostField.{over}

in_some : (h k : Heard) → Some h ≡ Some k → h ≡ k
in_some h k e = cc

none_some : (h : Heard) → None ≡ Some h → ⊥
none_some h e = cc

-- each request is this one, and there is no reset
abbrev pub OnlyAsks : Signal → List Event → Type 0
OnlyAsks f [] = Unit {0}
OnlyAsks f (Reset ∷ es) = ⊥
OnlyAsks f (Request g x ∷ es) = (g ≡ f) × OnlyAsks f es
OnlyAsks f (Answer g x ∷ es) = OnlyAsks f es
OnlyAsks f (Clash g x ∷ es) = OnlyAsks f es

only_joint : (f : Signal) (j : Joint) (y : Fate) (es : List Event) → OnlyAsks f (joint_events j y ++ es) → OnlyAsks f es
only_joint f Nothing y es h = h
only_joint f (Single g) y es h = h
only_joint f (Clashing g) y es h = h

pub only_turn : (f : Signal) (w : World Device) (g : Signal) (x y : Fate) (es : List Event) → OnlyAsks f (turn_events air w g x y ++ es) → (g ≡ f) × OnlyAsks f es
only_turn f w g Pass y es h = (h.0, only_joint f (air.joint w g) y es h.1)
only_turn f w g Damage y es h = h
only_turn f w g Lose y es h = h
only_turn f w g Break y es h = h

-- what a turn may be heard as whose request is answered so
abbrev pub HeardOf : Joint → Heard → Type 0
HeardOf Nothing h = h ≡ Silent
HeardOf (Single g) (Whole k) = k ≡ g
HeardOf (Single g) (Collided k) = ⊥
HeardOf (Single g) Damaged = Unit {0}
HeardOf (Single g) Silent = Unit {0}
HeardOf (Clashing g) (Whole k) = ⊥
HeardOf (Clashing g) (Collided k) = Unit {0}
HeardOf (Clashing g) Damaged = Unit {0}
HeardOf (Clashing g) Silent = Unit {0}

silent_of : (j : Joint) → HeardOf j Silent
silent_of Nothing = refl
silent_of (Single g) = tt
silent_of (Clashing g) = tt

back_of_joint : (j : Joint) (y : Fate) (h : Heard) → heard_by Pass (joint_back j y) ≡ Some h → HeardOf j h
back_of_joint Nothing y h e = sym (in_some Silent h e)
back_of_joint (Single g) Pass h e = subst (HeardOf (Single g)) (in_some (Whole g) h e) refl
back_of_joint (Single g) Damage h e = subst (HeardOf (Single g)) (in_some Damaged h e) tt
back_of_joint (Single g) Lose h e = subst (HeardOf (Single g)) (in_some Silent h e) tt
back_of_joint (Single g) Break h e = absurd (none_some h e)
back_of_joint (Clashing g) Pass h e = subst (HeardOf (Clashing g)) (in_some (Collided g) h e) tt
back_of_joint (Clashing g) Damage h e = subst (HeardOf (Clashing g)) (in_some Damaged h e) tt
back_of_joint (Clashing g) Lose h e = subst (HeardOf (Clashing g)) (in_some Silent h e) tt
back_of_joint (Clashing g) Break h e = absurd (none_some h e)

pub heard_of_turn : (w : World Device) (f : Signal) (x y : Fate) (h : Heard) → turn_heard air w f x y ≡ Some h → HeardOf (air.joint w f) h
heard_of_turn w f Pass y h e = back_of_joint (air.joint w f) y h e
heard_of_turn w f Damage y h e = subst (HeardOf (air.joint w f)) (in_some Silent h e) (silent_of (air.joint w f))
heard_of_turn w f Lose y h e = subst (HeardOf (air.joint w f)) (in_some Silent h e) (silent_of (air.joint w f))
heard_of_turn w f Break y h e = absurd (none_some h e)

-- all that was heard up to the loss of the field
abbrev pub AllHeard : Joint → List Note → Type 0
AllHeard j [] = Unit {0}
AllHeard j (Lit ∷ ns) = ⊥
AllHeard j (Got h ∷ ns) = HeardOf j h × AllHeard j ns
AllHeard j (Lost ∷ ns) = Unit {0}

-- devices that stay as they are at a request
abbrev pub AllStay : Signal → List Device → Type 0
AllStay f ls = Each (λ l. stepped_by devices l f None ≡ l) ls

pub stepped_same : (f : Signal) (ls : List Device) → AllStay f ls → map (λ l. stepped_by devices l f None) ls ≡ ls
stepped_same f ls s = map_none (λ l. stepped_by devices l f None) ls s

back_stays : (w : World Device) (j : Joint) (y : Fate) (h : Heard) → heard_by Pass (joint_back j y) ≡ Some h → (over devices (joint_events j y) w).listeners ≡ w.listeners
back_stays w Nothing y h e = refl
back_stays w (Single g) Pass h e = refl
back_stays w (Single g) Damage h e = refl
back_stays w (Single g) Lose h e = refl
back_stays w (Single g) Break h e = absurd (none_some h e)
back_stays w (Clashing g) Pass h e = refl
back_stays w (Clashing g) Damage h e = refl
back_stays w (Clashing g) Lose h e = refl
back_stays w (Clashing g) Break h e = absurd (none_some h e)

pub turn_stays : (w : World Device) (f : Signal) (x y : Fate) (h : Heard) → turn_heard air w f x y ≡ Some h → AllStay f w.listeners → (over devices (turn_events air w f x y) w).listeners ≡ w.listeners
turn_stays w f Pass y h e s = back_stays (stepped devices w f) (air.joint w f) y h e ∙ stepped_same f w.listeners s
turn_stays w f Damage y h e s = refl
turn_stays w f Lose y h e s = refl
turn_stays w f Break y h e s = absurd (none_some h e)

-- where no Break is used, they are as they were
pub all_stay : (f : Signal) (es : List Event) (w : World Device) → OnlyAsks f es → AllStay f w.listeners → breaks es ≡ 0 → (over devices es w).listeners ≡ w.listeners
all_stay f [] w h s b = refl
all_stay f (Reset ∷ es) w h s b = absurd h
all_stay f (Request g Pass ∷ es) w h s b =
    let same : (stepped devices w g).listeners ≡ w.listeners = ap (λ k. map (λ l. stepped_by devices l k None) w.listeners) h.0 ∙ stepped_same f w.listeners s in
    all_stay f es (stepped devices w g) h.1 (subst (AllStay f) (sym same) s) (omega (arith, b)) ∙ same
all_stay f (Request g Damage ∷ es) w h s b = all_stay f es w h.1 s (omega (arith, b))
all_stay f (Request g Lose ∷ es) w h s b = all_stay f es w h.1 s (omega (arith, b))
all_stay f (Request g Break ∷ es) w h s b = absurd (omega (arith, b))
all_stay f (Answer g Pass ∷ es) w h s b = all_stay f es w h s (omega (arith, b))
all_stay f (Answer g Damage ∷ es) w h s b = all_stay f es w h s (omega (arith, b))
all_stay f (Answer g Lose ∷ es) w h s b = all_stay f es w h s (omega (arith, b))
all_stay f (Answer g Break ∷ es) w h s b = absurd (omega (arith, b))
all_stay f (Clash g Pass ∷ es) w h s b = all_stay f es w h s (omega (arith, b))
all_stay f (Clash g Damage ∷ es) w h s b = all_stay f es w h s (omega (arith, b))
all_stay f (Clash g Lose ∷ es) w h s b = all_stay f es w h s (omega (arith, b))
all_stay f (Clash g Break ∷ es) w h s b = absurd (omega (arith, b))

-- What is heard among devices that stay as they are.
module _ (f : Signal) (ls : List Device) (s : AllStay f ls) where
  abbrev pub joint_in : Joint
  joint_in = joint (filter_map (λ l. answered_by devices l f None) ls)

  abbrev pub behind : World Device → Signal → Fate → Fate → List (Move air) → List Event
  behind w g x y ks = trace_of air (over devices (turn_events air w g x y) w) ks

  module _ (w : World Device) (at : w.listeners ≡ ls) (g : Signal) (x y : Fate) (ks : List (Move air))
      (more : (over devices (turn_events air w g x y) w).listeners ≡ ls → OnlyAsks f (behind w g x y ks) → AllHeard joint_in (receptions (behind w g x y ks))) where
    heard_turn : (o : Option Heard) → turn_heard air w g x y ≡ o → g ≡ f → OnlyAsks f (behind w g x y ks) → AllHeard joint_in (note o ∷ receptions (behind w g x y ks))
    heard_turn None e same only = tt
    heard_turn (Some h) e same only =
        let there : air.joint w g ≡ joint_in = ap (λ (k : Signal). joint (filter_map (λ l. answered_by devices l k None) w.listeners)) same
        ∙ ap (λ ds. joint (filter_map (λ l. answered_by devices l f None) ds)) at in
        let stay : AllStay g w.listeners = subst (λ k. AllStay k w.listeners) (sym same) (subst (AllStay f) (sym at) s) in
        (subst (λ j. HeardOf j h) there (heard_of_turn w g x y h e), more (turn_stays w g x y h e stay ∙ at) only)

    heard_asked : OnlyAsks f (turn_events air w g x y ++ behind w g x y ks) → AllHeard joint_in (receptions (turn_events air w g x y ++ behind w g x y ks))
    heard_asked q =
        let k = only_turn f w g x y (behind w g x y ks) q in
        subst (AllHeard joint_in) (sym (turn_known air w g x y (behind w g x y ks) (trace_first air (over devices (turn_events air w g x y) w) ks))) (heard_turn (turn_heard air w g x y) refl k.0 k.1)

  pub all_heard : (ks : List (Move air)) (w : World Device) → w.listeners ≡ ls → OnlyAsks f (trace_of air w ks) → AllHeard joint_in (receptions (trace_of air w ks))
  all_heard [] w at q = tt
  all_heard (Light ∷ ks) w at q = absurd q
  all_heard (Ask g x y ∷ ks) w at q =
      by_light w.lit q (λ p. all_heard ks w at p) (λ p. heard_asked w at g x y ks (λ k o. all_heard ks (over devices (turn_events air w g x y) w) k o) p)
    where
      by_light : (v : Bool) → OnlyAsks f ((if v then turn_events air w g x y else []) ++ trace_of air (replay air w (if v then turn_events air w g x y else [])) ks)
          → (OnlyAsks f (trace_of air w ks) → AllHeard joint_in (receptions (trace_of air w ks)))
          → (OnlyAsks f (turn_events air w g x y ++ behind w g x y ks) → AllHeard joint_in (receptions (turn_events air w g x y ++ behind w g x y ks)))
          → AllHeard joint_in (receptions ((if v then turn_events air w g x y else []) ++ trace_of air (replay air w (if v then turn_events air w g x y else [])) ks))
      by_light false p same turn = same p
      by_light true p same turn = turn p
