-- An enquiry that keeps something of its state, the world and the events, by resets and by turns that are heard: it ends
-- with that, or it has lost the field.
use Rattle.std.proofs.Common.{◌≡◌, List, [], ◌∷◌, ◌++◌, Option, Some, None, Result, Err, refl, sym, ap, subst}
use Rattle.nfc_base.specs.Signal.{Signal}
use Rattle.nfc_base.specs.declared.event.Event.{Event}
use Rattle.nfc_base.specs.declared.event.Event.TheVariants.{Reset}
use Rattle.nfc_base.specs.declared.event.Fate.{Fate}
use Rattle.nfc_base.specs.declared.event.Heard.{Heard}
use Rattle.air_core.specs.Conversation.{AirModel, Note, note, LightUp, Asks, replay, turn_events, turn_heard, Moment, Going}
use Rattle.air_core.proofs.Turns.{replay-append}
use Rattle.nfca_poll.specs.declared.fault.PollFault.{PollFault}
use Rattle.nfca_poll.specs.declared.fault.PollFault.TheVariants.{FieldLost}
use Rattle.nfca_poll.specs.Enquiry.{Enquiry, Progress, Reaches, Loses, or_memory, progress, enquiring, answer_of}
use Rattle.nfca_poll.proofs.enquiries.EnquiryWalks.{after, holds}

module _ {S X : Type 0} (e : Enquiry S X) {W : Type 0} (m : AirModel W) (Inv : S → W → List Event → Type 0) where
  -- a reset keeps it, and a turn by any fates that is heard
  pub record Keeps : Type 0 where
    pub lights : (s : S) (w : W) (es : List Event) → Inv s w es → e.next s ≡ LightUp → Inv (e.light s) (m.happens w Reset) (es ++ Reset ∷ [])
    pub asks : (s : S) (w : W) (es : List Event) (f : Signal) (x y : Fate) (h : Heard) → Inv s w es → e.next s ≡ Asks f → Some h ≡ turn_heard m w f x y
        → Inv (e.step s h) (replay m w (turn_events m w f x y)) (es ++ turn_events m w f x y)

  -- how it ends
  pub data Ending (w : W) (es : List Event) : Result X PollFault → Type 0 where
    comes : (s : S) → Inv s w es → Ending w es (or_memory (e.ended s))
    loses : Ending w es (Err FieldLost)

  abbrev KeptBy : W → Progress S → List Event → Type 0
  KeptBy w (Reaches s) es = Inv s (replay m w es) es
  KeptBy w Loses es = Unit {0}

  lit_by : Keeps → (w : W) (s : S) (es : List Event) → KeptBy w (Reaches s) es → e.next s ≡ LightUp → KeptBy w (Reaches (e.light s)) (es ++ Reset ∷ [])
  lit_by keeps w s es k due =
      let I : W → Type 0 = λ v. Inv (e.light s) v (es ++ Reset ∷ []) in
      subst I (sym (replay-append m w es (Reset ∷ []))) (keeps.lights s (replay m w es) es k due)

  asked_by : Keeps → (w : W) (s : S) (es : List Event) (f : Signal) (x y : Fate) → KeptBy w (Reaches s) es → e.next s ≡ Asks f
      → (o : Option Heard) → o ≡ turn_heard m (replay m w es) f x y → KeptBy w (after e (Reaches s) (note o)) (es ++ turn_events m (replay m w es) f x y)
  asked_by keeps w s es f x y k due None q = tt
  asked_by keeps w s es f x y k due (Some h) q =
      let v : W = replay m w es in
      let I : W → Type 0 = λ u. Inv (e.step s h) u (es ++ turn_events m v f x y) in
      subst I (sym (replay-append m w es (turn_events m v f x y))) (keeps.asks s v es f x y h k due q)

  ends_by : (p : Progress S) (w : W) (es : List Event) → KeptBy w p es → Ending (replay m w es) es (answer_of e p)
  ends_by (Reaches s) w es k = comes s k
  ends_by Loses w es k = loses

  -- an enquiry, whole
  pub ending : Keeps → (old new : Moment W) (notes : List Note) (r : Result X PollFault) → Inv e.start old.world [] → (g : Going m (enquiring e) old new notes)
      → r ≡ answer_of e (progress e e.start notes)
      → Ending new.world g.events r
  ending keeps old new notes r start g c =
      let w : W = old.world in
      let k : KeptBy w (progress e e.start notes) g.events =
      holds e m w (KeptBy w) start (lit_by keeps w) (λ s es f x y k due lit. asked_by keeps w s es f x y k due (turn_heard m (replay m w es) f x y) refl) old new notes refl g in
      let world : new.world ≡ replay m w g.events = ap (λ (t : Moment W). t.world) g.moment in
      let E : W → Type 0 = λ v. Ending v g.events r in
      let R : Result X PollFault → Type 0 = λ x. Ending (replay m w g.events) g.events x in
      subst E (sym world) (subst R (sym c) (ends_by (progress e e.start notes) w g.events k))
