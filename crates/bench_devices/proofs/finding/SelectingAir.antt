-- What the notes of a reader tell of an enquiry: whether it has lost the field.
use Rattle.std.proofs.Common.{◌≡◌, List, [], ◌∷◌, length, drop, true, refl, ◌∙◌, ap}
use Rattle.nfc_base.specs.declared.event.Event.{Event}
use Rattle.air_core.specs.Conversation.{AirModel, with_events, Note, Lit, Got, Lost, Moment}
use Rattle.air_core.proofs.LostField.{lit_by, HasLost}
use Rattle.nfca_poll.proofs.quiet.Crowding.{drop-front}
use Rattle.nfca_poll.specs.Enquiry.{Enquiry, Progress, Reaches, Loses, progress}

-- an enquiry that has lost the field, and one that hasn't
pub loses : {S X : Type 0} (e : Enquiry S X) (s : S) (ns : List Note) → HasLost ns → progress e s ns ≡ Loses
loses e s [] h = absurd h
loses e s (Lit ∷ ns) h = loses e (e.light s) ns h
loses e s (Got g ∷ ns) h = loses e (e.step s g) ns h
loses e s (Lost ∷ ns) h = refl

no_state : {S : Type 0} (t : S) → ◌≡◌ {A = Progress S} Loses (Reaches t) → ⊥
no_state t q = cc

pub stays_lit : {S X : Type 0} (e : Enquiry S X) (s t : S) (ns : List Note) → progress e s ns ≡ Reaches t → lit_by true ns ≡ true
stays_lit e s t [] h = refl
stays_lit e s t (Lit ∷ ns) h = stays_lit e (e.light s) t ns h
stays_lit e s t (Got g ∷ ns) h = stays_lit e (e.step s g) t ns h
stays_lit e s t (Lost ∷ ns) h = absurd (no_state t h)

-- what is left of a field behind its trace
pub events_are : {W : Type 0} (a : AirModel W) (t u : Moment W) (es : List Event) → u ≡ with_events a t es → drop (length t.trace) u.trace ≡ es
events_are a t u es e = ap (λ (x : Moment _). drop (length t.trace) x.trace) e ∙ drop-front t.trace es
