-- What holds of all devices of a field and of all far ends above them stays true whatever happens, where no step of one breaks it.
use Rattle.std.proofs.Common.{◌≡◌, ℕ, zero, suc, List, [], ◌∷◌, ◌++◌, Bool, true, false, Option, Some, None, subst}
use Rattle.std.specs.Prelude.{get_or, map, IfSome}
use Rattle.std.specs.List.{AllByRecursion}
use Rattle.nfc_base.specs.declared.event.Event.{Event}
use Rattle.nfc_base.specs.declared.event.Event.TheVariants.{Reset, Request, Answer, Clash}
use Rattle.nfc_base.specs.declared.event.Fate.{Fate}
use Rattle.nfc_base.specs.declared.event.Fate.TheVariants.{Pass, Damage, Lose, Break}
use Rattle.nfc_base.specs.Signal.{Signal}
use Rattle.nfc_base.specs.Far.{FarUse, Untouched, Restarts, Hands}
use Rattle.nfc_base.specs.Choosing.{first_number}
use Rattle.air_core.specs.World.{Machine, hands_over, hears, stepped_by}
use Rattle.air_core.specs.Conversation.{replay}
use Rattle.far_air.specs.FarEnds.{FarTable, numbers_left, first_far, later_fars, moved, rests, by_link}
use Rattle.far_air.specs.FarWorld.{FarWorld, all_meet, reply_at, device_after, far_reset, far_dark, far_requested, far_came_back, far_happens, far_air}
use Rattle.llcp_link.proofs.Ranged.{either}

-- it holds of a far end, where there is one
abbrev pub Above : {F : Type 0} → (F → Type 0) → Option F → Type 0
Above Q o = IfSome o Q

-- No step of a device breaks P, and none of a far end Q.
pub record KeepBoth {L F : Type 0} (m : Machine L) (t : FarTable F) (P : L → Type 0) (Q : F → Type 0) : Type 0 where
  pub after : (l : L) (f : Signal) (reply : Option (List ℕ)) → P l → P (m.after l f reply)
  pub woken : (l : L) → P l → P (m.woken l)
  pub darkened : (l : L) → P l → P (m.darkened l)
  pub restarted : (a : F) (general : List ℕ) → Q a → Q (t.restarted a general)
  pub left : (a : F) (payload : List ℕ) (n : ℕ) → Q a → Q (t.left a payload n)
  pub rested : (a : F) → Q a → Q (t.rested a)

-- in a world they hold of all
pub record AllSo {L F : Type 0} (P : L → Type 0) (Q : F → Type 0) (w : FarWorld L F) : Type 0 where
  pub listeners : AllByRecursion P w.field.listeners
  pub fars : AllByRecursion (Above Q) w.fars

-- of lists
pub all_mapped : {X : Type 0} (P : X → Type 0) (f : X → X) → ((x : X) → P x → P (f x)) → (xs : List X) → AllByRecursion P xs → AllByRecursion P (map f xs)
all_mapped P f keeps [] h = tt
all_mapped P f keeps (x ∷ xs) h = (keeps x h.0, all_mapped P f keeps xs h.1)

pub all_more : {X : Type 0} (P : X → Type 0) (xs : List X) (y : X) → AllByRecursion P xs → P y → AllByRecursion P (xs ++ y ∷ [])
all_more P [] y h k = (k, tt)
all_more P (x ∷ xs) y h k = (h.0, all_more P xs y h.1 k)

pub all_among : {X : Type 0} (P : X → Type 0) (before : List X) (x : X) (behind : List X) → AllByRecursion P (before ++ x ∷ behind) → P x
all_among P [] x behind h = h.0
all_among P (y ∷ before) x behind h = all_among P before x behind h.1

module _ {F : Type 0} (Q : F → Type 0) where
  -- the far end at a place
  pub far_so : (os : List (Option F)) (place : ℕ) (a : F) → AllByRecursion (Above Q) os → get_or os place None ≡ Some a → Q a
  far_so [] place a h e = absurd cc
  far_so (o ∷ os) zero a h e = subst (Above Q) e h.0
  far_so (o ∷ os) (suc place) a h e = far_so os place a h.1 e

  pub first_so : (os : List (Option F)) → AllByRecursion (Above Q) os → Above Q (first_far os)
  first_so [] h = tt
  first_so (o ∷ os) h = h.0

  pub later_so : (os : List (Option F)) → AllByRecursion (Above Q) os → AllByRecursion (Above Q) (later_fars os)
  later_so [] h = tt
  later_so (o ∷ os) h = h.1

module _ {L F : Type 0} (m : Machine L) (linked : L → Bool) (t : FarTable F) (P : L → Type 0) (Q : F → Type 0) (k : KeepBoth m t P Q) where
  rests_so : (o : Option F) → Above Q o → Above Q (rests t o)
  rests_so None h = tt
  rests_so (Some a) h = k.rested a h

  by_link_so : (v : Bool) (o : Option F) → Above Q o → Above Q (by_link t v o)
  by_link_so true o h = h
  by_link_so false o h = rests_so o h

  moved_so : (u : FarUse) (o : Option F) (n : ℕ) → Above Q o → Above Q (moved t u o n)
  moved_so Untouched o n h = h
  moved_so (Restarts general) None n h = tt
  moved_so (Restarts general) (Some a) n h = k.restarted a general h
  moved_so (Hands payload) None n h = tt
  moved_so (Hands payload) (Some a) n h = k.left a payload n h

  stepped_so : (l : L) (f : Signal) (reply : Option (List ℕ)) → P l → P (stepped_by m l f reply)
  stepped_so l f reply h = either {X = L} P (hears m l f) (m.after l f reply) l (λ e. k.after l f reply h) (λ e. h)

  meet_so : (f : Signal) (ls : List L) (os : List (Option F)) (ns : List ℕ) → AllByRecursion P ls → AllByRecursion (Above Q) os
      → AllByRecursion P (all_meet m linked t f ls os ns).listeners × AllByRecursion (Above Q) (all_meet m linked t f ls os ns).fars
  meet_so f [] os ns h i = (tt, tt)
  meet_so f (l ∷ ls) os ns h i =
      let o : Option F = first_far os in
      let r : Option (List ℕ) = reply_at m linked t l f o ns in
      let one : Above Q o = first_so Q os i in
      let more = meet_so f ls (later_fars os) (numbers_left r ns) h.1 (later_so Q os i) in (
        (stepped_so l f r h.0, more.0),
        (by_link_so (linked (device_after m linked t l f o ns)) (moved t (hands_over m l f) o (first_number ns)) (moved_so (hands_over m l f) o (first_number ns) one), more.1),
      )

  dark_so : (w : FarWorld L F) → AllSo P Q w → AllSo P Q (far_dark m linked t w)
  dark_so w h = record { listeners = all_mapped P m.darkened k.darkened w.field.listeners h.listeners; fars = all_mapped (Above Q) (rests t) rests_so w.fars h.fars }

  reset_so : (w : FarWorld L F) → AllSo P Q w → AllSo P Q (far_reset m linked t w)
  reset_so w h = record {
    listeners = all_mapped P (λ l. m.woken (m.darkened l)) (λ l p. k.woken (m.darkened l) (k.darkened l p)) w.field.listeners h.listeners;
    fars = all_mapped (Above Q) (rests t) rests_so w.fars h.fars;
  }

  asked_so : (w : FarWorld L F) (f : Signal) (x : Fate) → AllSo P Q w → AllSo P Q (far_requested m linked t w f x)
  asked_so w f Pass h = let met = meet_so f w.field.listeners w.fars w.numbers h.listeners h.fars in record { listeners = met.0; fars = met.1 }
  asked_so w f Damage h = h
  asked_so w f Lose h = h
  asked_so w f Break h = dark_so w h

  came_so : (w : FarWorld L F) (x : Fate) → AllSo P Q w → AllSo P Q (far_came_back m linked t w x)
  came_so w Pass h = h
  came_so w Damage h = h
  came_so w Lose h = h
  came_so w Break h = dark_so w h

  pub happens_so : (w : FarWorld L F) (e : Event) → AllSo P Q w → AllSo P Q (far_happens m linked t w e)
  happens_so w Reset h = reset_so w h
  happens_so w (Request f x) h = asked_so w f x h
  happens_so w (Answer g x) h = came_so w x h
  happens_so w (Clash g x) h = came_so w x h

  -- whatever happens
  pub replay_so : (w : FarWorld L F) (es : List Event) → AllSo P Q w → AllSo P Q (replay (far_air m linked t) w es)
  replay_so w [] h = h
  replay_so w (e ∷ es) h = replay_so (far_happens m linked t w e) es (happens_so w e h)
