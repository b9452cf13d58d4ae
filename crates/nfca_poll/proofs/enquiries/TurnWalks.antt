-- What an enquiry keeps by each turn, in the words of the turns of its events.
use Rattle.std.proofs.Common.{◌≡◌, List, [], ◌∷◌, ◌++◌, length, drop, Option, Result, refl, sym, ◌∙◌, ap, subst, true}
use Rattle.std.proofs.lemmas.List.{append-nil}
use Rattle.nfc_base.specs.Signal.{Signal}
use Rattle.nfc_base.specs.Trace.{Back, Turn, back_of, turns, heard}
use Rattle.nfc_base.specs.Trace as backs
use Rattle.nfc_base.specs.declared.event.Event.{Event}
use Rattle.nfc_base.specs.declared.event.Event.TheVariants.{Reset, Request, Answer, Clash}
use Rattle.nfc_base.specs.declared.event.Fate.{Fate}
use Rattle.nfc_base.specs.declared.event.Fate.TheVariants.{Pass, Damage, Lose, Break}
use Rattle.air_core.specs.Joint.{Joint, Nothing, Single, Clashing}
use Rattle.air_core.specs.World.{Machine, World}
use Rattle.air_core.specs.Turn.{Air, moment}
use Rattle.air_core.specs.Conversation.{AirModel, note, LightUp, Asks, joint_events, joint_back, replay, turn_events, turn_heard}
use Rattle.air_core.proofs.Turns.{back_of-append}
use Rattle.nfca_poll.specs.declared.fault.PollFault.{PollFault}
use Rattle.nfca_poll.specs.Muted.{mute_air}
use Rattle.nfca_poll.specs.Enquiry.{Enquiry, Progress, Reaches, progress, Enquires}
use Rattle.nfca_poll.proofs.enquiries.EnquiryWalks.{after, holds, turn_fresh}
use Rattle.nfca_poll.proofs.enquiries.EnquiryEnds.{events_gained}

pub turns-append : (a b : List Event) → back_of b ≡ backs.Nothing → turns (a ++ b) ≡ turns a ++ turns b
turns-append [] b h = refl
turns-append (Reset ∷ a) b h = turns-append a b h
turns-append (Request f x ∷ a) b h =
    let T : Back → List Turn → List Turn = λ k ts. record { request = f; fate = x; back = k } ∷ ts in
    ap (λ k. T k (turns (a ++ b))) (back_of-append a b h) ∙ ap (T (back_of a)) (turns-append a b h)
turns-append (Answer g x ∷ a) b h = turns-append a b h
turns-append (Clash g x ∷ a) b h = turns-append a b h

pub joint_turns : (f : Signal) (x : Fate) (j : Joint) (y : Fate) → turns (Request f x ∷ joint_events j y) ≡ record { request = f; fate = x; back = joint_back j y } ∷ []
joint_turns f x Nothing y = refl
joint_turns f x (Single g) y = refl
joint_turns f x (Clashing g) y = refl

-- the turn that some events are
pub record IsTurn {W : Type 0} (m : AirModel W) (w : W) (f : Signal) (x y : Fate) : Type 0 where
  pub turn : Turn
  pub made : turns (turn_events m w f x y) ≡ turn ∷ []
  pub request : turn.request ≡ f
  pub hears : heard turn ≡ turn_heard m w f x y

pub turn_of : {W : Type 0} (m : AirModel W) (w : W) (f : Signal) (x y : Fate) → IsTurn m w f x y
turn_of m w f Pass y = record { turn = record { request = f; fate = Pass; back = joint_back (m.joint w f) y }; made = joint_turns f Pass (m.joint w f) y; request = refl; hears = refl }
turn_of m w f Damage y = record { turn = record { request = f; fate = Damage; back = backs.Nothing }; made = refl; request = refl; hears = refl }
turn_of m w f Lose y = record { turn = record { request = f; fate = Lose; back = backs.Nothing }; made = refl; request = refl; hears = refl }
turn_of m w f Break y = record { turn = record { request = f; fate = Break; back = backs.Nothing }; made = refl; request = refl; hears = refl }

module _ {S X : Type 0} (e : Enquiry S X) {L : Type 0} (m : Machine L) (P : Progress S → List Turn → Type 0)
    (begins : P (Reaches e.start) [])
    (lights : (s : S) (ts : List Turn) → P (Reaches s) ts → e.next s ≡ LightUp → P (Reaches (e.light s)) ts)
    (asks : (s : S) (ts : List Turn) (t : Turn) → P (Reaches s) ts → e.next s ≡ Asks t.request → P (after e (Reaches s) (note (heard t))) (ts ++ t ∷ [])) where
  abbrev At : Progress S → List Event → Type 0
  At p es = P p (turns es)

  lit : (s : S) (es : List Event) → At (Reaches s) es → e.next s ≡ LightUp → At (Reaches (e.light s)) (es ++ Reset ∷ [])
  lit s es k q =
      let Q : List Turn → Type 0 = λ ts. P (Reaches (e.light s)) ts in
      subst Q (sym (turns-append es (Reset ∷ []) refl ∙ append-nil (turns es))) (lights s (turns es) k q)

  asked : (w : World L) (s : S) (es : List Event) (f : Signal) (x y : Fate) → At (Reaches s) es → e.next s ≡ Asks f → (replay (mute_air m) w es).lit ≡ true
      → At (after e (Reaches s) (note (turn_heard (mute_air m) (replay (mute_air m) w es) f x y))) (es ++ turn_events (mute_air m) (replay (mute_air m) w es) f x y)
  asked w s es f x y k q l =
      let v : World L = replay (mute_air m) w es in
      let i : IsTurn (mute_air m) v f x y = turn_of (mute_air m) v f x y in
      let fs : List Event = turn_events (mute_air m) v f x y in
      let Q : List Turn → Type 0 = λ ts. P (after e (Reaches s) (note (turn_heard (mute_air m) v f x y))) ts in
      let R : Option _ → Type 0 = λ h. P (after e (Reaches s) (note h)) (turns es ++ i.turn ∷ []) in
      subst Q (sym (turns-append es fs (turn_fresh (mute_air m) v f x y) ∙ ap (λ ts. turns es ++ ts) i.made))
      (subst R i.hears (asks s (turns es) i.turn k (q ∙ ap Asks (sym i.request))))

  -- it holds of what the call has come to, and of the turns that it made
  pub turns_hold : (old new : Air L) (r : Result X PollFault) → (q : Enquires e m old r new) → P (progress e e.start q.notes) (turns (drop (length old.trace) new.trace))
  turns_hold old new r q =
      let Q : List Event → Type 0 = λ es. P (progress e e.start q.notes) (turns es) in
      subst Q (sym (events_gained e m old new r q))
      (holds e (mute_air m) (moment old).world At begins lit (asked (moment old).world) (moment old) (moment new) q.notes refl q.going)
