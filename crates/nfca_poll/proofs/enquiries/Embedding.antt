-- An enquiry that makes another one as a part of it.
use Rattle.std.proofs.Common.{◌≡◌, List, [], ◌∷◌, ◌++◌, Option, Some, None, Result, Err, true, refl, sym, ◌∙◌, ap}
use Rattle.nfc_base.specs.Signal.{Signal}
use Rattle.nfc_base.specs.Trace.{back_of}
use Rattle.nfc_base.specs.Trace as backs
use Rattle.nfc_base.specs.declared.event.Event.{Event}
use Rattle.nfc_base.specs.declared.event.Event.TheVariants.{Reset, Request}
use Rattle.nfc_base.specs.declared.event.Fate.{Fate}
use Rattle.nfc_base.specs.declared.event.Fate.TheVariants.{Pass, Damage, Lose, Break}
use Rattle.nfc_base.specs.declared.event.Heard.{Heard}
use Rattle.air_core.specs.Joint.{Joint, Nothing, Single, Clashing}
use Rattle.air_core.specs.World.{Machine, World}
use Rattle.air_core.specs.Turn.{Air, moment}
use Rattle.air_core.specs.Conversation.{AirModel, Note, Lit, Got, Lost, note, Next, LightUp, Asks, IsDemand, receptions, EachDue, joint_events, replay, turn_events, turn_heard, Moment, Going}
use Rattle.air_core.proofs.Turns.{receptions-append, due-append, going_then}
use Rattle.nfca_poll.specs.declared.fault.PollFault.{PollFault}
use Rattle.nfca_poll.specs.declared.fault.PollFault.TheVariants as faults
use Rattle.nfca_poll.specs.Muted.{mute_air}
use Rattle.nfca_poll.specs.Enquiry.{Enquiry, Progress, Reaches, Loses, progress, due_of, enquiring, or_memory, answer_of, Enquires}
use Rattle.nfca_poll.proofs.enquiries.Enquiring.{Reached}
use Rattle.nfca_poll.proofs.enquiries.EnquiryWalks.{progress_more, after, turn_notes, turn_fresh, holds}

-- The outer enquiry, standing as the inner one stands, asks what the inner one asks, and goes on as it does.
pub record Embeds {T Y S X : Type 0} (i : Enquiry T Y) (e : Enquiry S X) (into : T → S) : Type 0 where
  pub next : (t : T) (n : Next) → i.next t ≡ n → IsDemand n → e.next (into t) ≡ n
  pub light : (t : T) → i.next t ≡ LightUp → e.light (into t) ≡ into (i.light t)
  pub step : (t : T) (f : Signal) (h : Heard) → i.next t ≡ Asks f → e.step (into t) h ≡ into (i.step t h)

joint_due : (next : List Note → Next) (before : List Event) (j : Joint) (y : Fate) → EachDue next before (joint_events j y)
joint_due next before Nothing y = tt
joint_due next before (Single g) y = tt
joint_due next before (Clashing g) y = tt

turn_due : {W : Type 0} (m : AirModel W) (next : List Note → Next) (before : List Event) (w : W) (f : Signal) (x y : Fate) → next (receptions before) ≡ Asks f
    → EachDue next before (turn_events m w f x y)
turn_due m next before w f Pass y h = (h, joint_due next (before ++ Request f Pass ∷ []) (m.joint w f) y)
turn_due m next before w f Damage y h = (h, tt)
turn_due m next before w f Lose y h = (h, tt)
turn_due m next before w f Break y h = (h, tt)

-- the outer progress
abbrev pub lifted : {T S : Type 0} → (T → S) → Progress T → Progress S
lifted into (Reaches t) = Reaches (into t)
lifted into Loses = Loses

-- what is known in two parts
abbrev pub progress_on : {S X : Type 0} → Enquiry S X → Progress S → List Note → Progress S
progress_on e (Reaches s) ks = progress e s ks
progress_on e Loses ks = Loses

pub progress_then : {S X : Type 0} (e : Enquiry S X) (a : S) (ns ks : List Note) → progress e a (ns ++ ks) ≡ progress_on e (progress e a ns) ks
progress_then e a [] ks = refl
progress_then e a (Lit ∷ ns) ks = progress_then e (e.light a) ns ks
progress_then e a (Got h ∷ ns) ks = progress_then e (e.step a h) ns ks
progress_then e a (Lost ∷ ns) ks = refl

module _ {T Y S X : Type 0} (i : Enquiry T Y) (e : Enquiry S X) (into : T → S) (law : Embeds i e into) where
  -- what the outer enquiry asks from there on
  abbrev outer : List Note → Next
  outer ns = due_of e (progress e (into i.start) ns)

  -- so far the outer enquiry has asked what was due, and has come to the same
  record Keeps (p : Progress T) (es : List Event) : Type 0 where
    pub due : EachDue outer [] es
    pub at : progress e (into i.start) (receptions es) ≡ lifted into p

  note_kept : (t : T) (f : Signal) (h : Option Heard) → i.next t ≡ Asks f → after e (Reaches (into t)) (note h) ≡ lifted into (after i (Reaches t) (note h))
  note_kept t f None q = refl
  note_kept t f (Some h) q = ap Reaches (law.step t f h q)

  more : (es a : List Event) (n : Note) → back_of a ≡ backs.Nothing → receptions a ≡ n ∷ []
      → progress e (into i.start) (receptions (es ++ a)) ≡ after e (progress e (into i.start) (receptions es)) n
  more es a n fresh known =
      ap (progress e (into i.start)) (receptions-append es a fresh ∙ ap (λ t. receptions es ++ t) known) ∙ progress_more e (into i.start) (receptions es) n

  resets : (t : T) (es : List Event) → Keeps (Reaches t) es → i.next t ≡ LightUp → Keeps (Reaches (i.light t)) (es ++ Reset ∷ [])
  resets t es k q = record {
    due = due-append outer [] es (Reset ∷ []) k.due (ap (due_of e) k.at ∙ law.next t LightUp q tt, tt);
    at = more es (Reset ∷ []) Lit refl refl ∙ ap (λ p. after e p Lit) k.at ∙ ap Reaches (law.light t q);
  }

  module _ {W : Type 0} (m : AirModel W) (w : W) where
    asks : (t : T) (es : List Event) (f : Signal) (x y : Fate) → Keeps (Reaches t) es → i.next t ≡ Asks f → m.lit (replay m w es) ≡ true
        → Keeps (after i (Reaches t) (note (turn_heard m (replay m w es) f x y))) (es ++ turn_events m (replay m w es) f x y)
    asks t es f x y k q l =
        let v : W = replay m w es in
        let h : Option Heard = turn_heard m v f x y in
        record {
          due = due-append outer [] es (turn_events m v f x y) k.due (turn_due m outer es v f x y (ap (due_of e) k.at ∙ law.next t (Asks f) q tt));
          at = more es (turn_events m v f x y) (note h) (turn_fresh m v f x y) (turn_notes m v f x y) ∙ ap (λ p. after e p (note h)) k.at ∙ note_kept t f h q;
        }

    kept : (old new : Moment W) (ns : List Note) → old.world ≡ w → (g : Going m (enquiring i) old new ns) → Keeps (progress i i.start ns) g.events
    kept = holds i m w Keeps (record { due = tt; at = refl }) resets asks

  module _ {L : Type 0} (m : Machine L) where
    -- what the outer enquiry has come to, once the inner one has come to this
    abbrev pub Arrives : Air L → Result Y PollFault → Air L → Progress T → Type 0
    Arrives old r new (Reaches t) = (r ≡ or_memory (i.ended t)) × Reached e m old new (into t)
    Arrives old r new Loses = (r ≡ Err faults.FieldLost) × Enquires e m old (Err faults.FieldLost) new

    arrives : (old mid new : Air L) (r : Result Y PollFault) (p : Progress T) (hs : List Note) (ks : List Note)
        → Going (mute_air m) (enquiring e) (moment old) (moment new) (hs ++ ks)
        → progress e e.start hs ≡ Reaches (into i.start) → progress e (into i.start) ks ≡ lifted into p → r ≡ answer_of i p → Arrives old r new p
    arrives old mid new r (Reaches t) hs ks g a b c = (c, record { notes = hs ++ ks; going = g; at = progress_then e e.start hs ks ∙ ap (λ p. progress_on e p ks) a ∙ b })
    arrives old mid new r Loses hs ks g a b c =
        (c, record { notes = hs ++ ks; going = g; comes = sym (ap (answer_of e) (progress_then e e.start hs ks ∙ ap (λ p. progress_on e p ks) a ∙ b)) })

    -- from where the inner enquiry begins in the outer one, to its end
    pub reached_then : (old mid new : Air L) (r : Result Y PollFault) → Reached e m old mid (into i.start) → (q : Enquires i m mid r new) → (p : Progress T) × Arrives old r new p
    reached_then old mid new r k q =
        let w : World L = (moment mid).world in
        let s : Keeps (progress i i.start q.notes) q.going.events = kept (mute_air m) w (moment mid) (moment new) q.notes refl q.going in
        let part : Going (mute_air m) outer (moment mid) (moment new) q.notes = record {
          events = q.going.events;
          moment = q.going.moment;
          turns = q.going.turns;
          each = s.due;
          fates = q.going.fates;
          fresh = q.going.fresh;
          known = q.going.known;
        } in
        let whole : Going (mute_air m) (enquiring e) (moment old) (moment new) (k.notes ++ q.notes) =
        going_then (mute_air m) (enquiring e) (enquiring e) outer (moment old) (moment mid) (moment new) k.notes q.notes (λ ns n due d. due)
        (λ ns. ap (due_of e) (progress_then e e.start k.notes ns ∙ ap (λ p. progress_on e p ns) k.at)) k.going part in (
          progress i i.start q.notes,
          arrives old mid new r (progress i i.start q.notes) k.notes q.notes whole k.at
              (ap (progress e (into i.start)) (sym q.going.known) ∙ s.at) q.comes,
        )
