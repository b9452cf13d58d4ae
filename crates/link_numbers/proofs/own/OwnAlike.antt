-- Two courses of requests among the same events: what is due turn by turn at both is due event by event.
use Rattle.std.proofs.Common.{◌≡◌, List, [], ◌∷◌, ◌++◌, append_assoc, refl, sym, ap, ◌∙◌}
use Rattle.nfc_base.specs.Signal.{Signal}
use Rattle.nfc_base.specs.Trace.{heard_by}
use Rattle.nfc_base.specs.Trace as backs
use Rattle.nfc_base.specs.declared.event.Event.{Event}
use Rattle.nfc_base.specs.declared.event.Event.TheVariants.{Request}
use Rattle.nfc_base.specs.declared.event.Fate.{Fate}
use Rattle.air_core.specs.Conversation.{Note, note, Next, LightUp, Over, Asks, receptions, EachDue}
use Rattle.link_numbers.specs.OwnShows.{GoesAlike}
use Rattle.link_numbers.specs.Shown.{requests_of}
use Rattle.link_numbers.proofs.own.OwnTurns.{Along, NoReset, Turn, along_events, along_last, along_more, asked_in, asked_of, events_due, heard_in, heard_of, on, requests_then, turns_of}

pub asked_more : (ts us : List Turn) → asked_in (ts ++ us) ≡ asked_in ts ++ asked_in us
asked_more [] us = refl
asked_more (t ∷ ts) us = ap (λ fs. t.request ∷ fs) (asked_more ts us)

-- nothing is due and a request is: not both
over_or : (f : Signal) → Over ≡ Asks f → ⊥
over_or f e = cc

module _ {C : Type 0} (moves : C → Note → C) (due : C → Next) where
  -- something is due at both, or both are over and stand the same
  pub data EndAlike (c d : C) : Type 0 where
    both_go : (f g : Signal) → due c ≡ Asks f → due d ≡ Asks g → EndAlike c d
    both_over : c ≡ d → due c ≡ Over → EndAlike c d

  abbrev pub past : C → List Note → C
  past c ns = on moves due c ns

  module _ (dark : (c : C) → due c ≡ LightUp → ⊥) (c d : C) (turned more : List Event)
      (law : (ts : List Turn) (tail : List Signal) → asked_in ts ++ tail ≡ requests_of (turned ++ more) → Along moves due c ts
      → Along moves due d ts × EndAlike (past c (heard_in ts)) (past d (heard_in ts))) where
    abbrev ts : List Turn
    ts = turns_of turned

    all_asked : asked_in ts ++ requests_of more ≡ requests_of (turned ++ more)
    all_asked = ap (λ fs. fs ++ requests_of more) (sym (asked_of turned)) ∙ sym (requests_then turned more)

    asks_next : Along moves due c ts → (f : Signal) (x : Fate) (tail : List Event)
        → more ≡ Request f x ∷ tail → due (past c (heard_in ts)) ≡ Asks f → due (past d (heard_in ts)) ≡ Asks f
    asks_next along f x tail is e =
        let t : Turn = record { request = f; heard = note (heard_by x backs.Nothing) } in
        let all : asked_in (ts ++ t ∷ []) ++ requests_of tail ≡ requests_of (turned ++ more) =
        ap (λ fs. fs ++ requests_of tail) (asked_more ts (t ∷ [])) ∙ append_assoc (asked_in ts) (f ∷ []) (requests_of tail)
        ∙ ap (λ es. asked_in ts ++ requests_of es) (sym is) ∙ all_asked in
        along_last moves due d ts t (law (ts ++ t ∷ []) (requests_of tail) all (along_more moves due c ts t along e)).0

    over_both : (a b : C) → EndAlike a b → due a ≡ Over → due b ≡ Over
    over_both a b (both_go f g e k) over = absurd (over_or f (sym over ∙ e))
    over_both a b (both_over same k) over = ap due (sym same) ∙ k

    back_over : (a b : C) → EndAlike a b → due b ≡ Over → due a ≡ Over
    back_over a b (both_go f g e k) over = absurd (over_or g (sym over ∙ k))
    back_over a b (both_over same k) over = k

    same_over : (a b : C) → EndAlike a b → due a ≡ Over → b ≡ a
    same_over a b (both_go f g e k) over = absurd (over_or f (sym over ∙ e))
    same_over a b (both_over same k) over = sym same

    pub go_alike : EachDue (λ ns. due (past c ns)) [] turned → GoesAlike due (past c) (past d) turned more
    go_alike each =
        let at : NoReset turned × Along moves due c ts = along_events moves due dark c turned each in
        let by = law ts (requests_of more) all_asked at.1 in
        let notes : receptions turned ≡ heard_in ts = heard_of turned at.0 in
        let c_at : past c (receptions turned) ≡ past c (heard_in ts) = ap (past c) notes in
        let d_at : past d (receptions turned) ≡ past d (heard_in ts) = ap (past d) notes in
        record {
          each = events_due moves due d turned at.0 by.0;
          asks = λ f x tail is e. ap due d_at ∙ asks_next at.1 f x tail is (ap due (sym c_at) ∙ e);
          over = λ e. ap due d_at ∙ over_both (past c (heard_in ts)) (past d (heard_in ts)) by.1 (ap due (sym c_at) ∙ e);
          over_back = λ e. ap due c_at ∙ back_over (past c (heard_in ts)) (past d (heard_in ts)) by.1 (ap due (sym d_at) ∙ e);
          stands = λ e. d_at ∙ same_over (past c (heard_in ts)) (past d (heard_in ts)) by.1 (ap due (sym c_at) ∙ e) ∙ sym c_at;
        }

  -- whatever isn't dark is as it is itself
  pub end_self : ((c : C) → due c ≡ LightUp → ⊥) → (c : C) → EndAlike c c
  end_self dark c = go (due c) refl
    where
      go : (n : Next) → due c ≡ n → EndAlike c c
      go Over e = both_over refl e
      go LightUp e = absurd (dark c e)
      go (Asks f) e = both_go f f e e
