-- A field is lost by a Break alone.
use Rattle.std.proofs.Common.{◌≡◌, ◌+◌, ◌<◌, List, ◌++◌, length, drop, inr, sym, ◌∙◌, ap, append_assoc, arith, None, Err}
use Rattle.nfc_base.specs.declared.event.Event.{Event}
use Rattle.nfc_base.specs.declared.event.Fate.{Fate}
use Rattle.nfc_base.specs.declared.event.Fate.TheVariants.{Pass, Damage, Lose, Break}
use Rattle.nfc_base.specs.Signal.{Signal}
use Rattle.nfc_base.specs.Trace.{breaks, heard_by}
use Rattle.air_core.specs.Joint.{Joint, Nothing, Single, Clashing}
use Rattle.air_core.specs.World.{Machine, World}
use Rattle.air_core.specs.Turn.{Air, moment}
use Rattle.air_core.specs.Conversation.{Moment, TurnsTo, first_fate, later_fates, turn_events, turn_heard, joint_events, joint_back}
use Rattle.nfca_poll.specs.declared.fault.PollFault.{PollFault}
use Rattle.nfca_poll.specs.declared.fault.PollFault.TheVariants.{Nobody, Disturbed, FieldLost, Memory, NotFound, BadAnswer}
use Rattle.nfca_poll.specs.Muted.{mute_air, AskEnds}
use Rattle.nfca_poll.specs.Enquiry.{Enquiry, LosesByBreak}
use Rattle.nfca_poll.specs.Poll as poll
use Rattle.nfca_poll.specs.Poll.{Outcome}
use Rattle.nfca_poll.specs.Seeking.{outcome}
use Rattle.nfca_poll.proofs.enquiries.Enquiring.{Reached}
use Rattle.nfca_poll.proofs.quiet.Crowding.{drop-front}
use Rattle.air_core.proofs.LostField.{breaks-append}

joint_breaks : (j : Joint) (y : Fate) → heard_by Pass (joint_back j y) ≡ None → 0 < breaks (joint_events j y)
joint_breaks Nothing y e = absurd cc
joint_breaks (Single g) Pass e = absurd cc
joint_breaks (Single g) Damage e = absurd cc
joint_breaks (Single g) Lose e = absurd cc
joint_breaks (Single g) Break e = omega arith
joint_breaks (Clashing g) Pass e = absurd cc
joint_breaks (Clashing g) Damage e = absurd cc
joint_breaks (Clashing g) Lose e = absurd cc
joint_breaks (Clashing g) Break e = omega arith

pub never_lost : (o : Outcome) → outcome o ≡ Err FieldLost → ⊥
never_lost poll.Nobody e = cc
never_lost poll.Disturbed e = cc
never_lost poll.BadAnswer e = cc
never_lost (poll.Found ls k) e = cc

module _ {L : Type 0} (m : Machine L) where
  pub turn_breaks : (w : World L) (f : Signal) (x y : Fate) → turn_heard (mute_air m) w f x y ≡ None → 0 < breaks (turn_events (mute_air m) w f x y)
  turn_breaks w f Pass y e = omega (arith, joint_breaks ((mute_air m).joint w f) y e)
  turn_breaks w f Damage y e = absurd cc
  turn_breaks w f Lose y e = absurd cc
  turn_breaks w f Break y e = omega arith

  module _ {S X : Type 0} (e : Enquiry S X) where
    lost_breaks : (old now new : Air L) (s : S) (f : Signal) → Reached e m old now s → TurnsTo (mute_air m) (moment now) (moment new) f None → 0 < breaks (drop (length old.trace) new.trace)
    lost_breaks old now new s f r t =
        let M : Moment (World L) → List Event = λ x. x.trace in
        let es : List Event = r.going.events in
        let ts : List Event = turn_events (mute_air m) (moment now).world f (first_fate now.fates) (first_fate (later_fates now.fates)) in
        let all : new.trace ≡ old.trace ++ (es ++ ts) = ap M t.moment ∙ ap (λ x. x ++ ts) (ap M r.going.moment) ∙ append_assoc old.trace es ts in
        let left : drop (length old.trace) new.trace ≡ es ++ ts = ap (drop (length old.trace)) all ∙ drop-front old.trace (es ++ ts) in
        let some : 0 < breaks ts = turn_breaks (moment now).world f (first_fate now.fates) (first_fate (later_fates now.fates)) (sym t.heard) in
        let sum : breaks (drop (length old.trace) new.trace) ≡ breaks es + breaks ts = ap breaks left ∙ breaks-append es ts in
        omega (arith, some, sum)

    pub lost_err : (old now new : Air L) (s : S) (f : Signal) (fault : PollFault) → Reached e m old now s → AskEnds m now f (Err fault) new → LosesByBreak {X = X} old (Err fault) new
    lost_err old now new s f Nobody r t q = absurd t
    lost_err old now new s f Disturbed r t q = absurd t
    lost_err old now new s f FieldLost r t q = inr (lost_breaks old now new s f r t)
    lost_err old now new s f Memory r t q = absurd cc
    lost_err old now new s f NotFound r t q = absurd t
    lost_err old now new s f BadAnswer r t q = absurd t
