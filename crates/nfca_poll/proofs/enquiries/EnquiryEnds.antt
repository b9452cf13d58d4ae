-- How an enquiry leaves the field, and how it ends: by what it keeps, or by a Break.
use Rattle.std.proofs.Common.{◌≡◌, ◌⊎◌, inl, inr, ◌<◌, List, [], ◌∷◌, ◌++◌, length, drop, true, Option, Some, None, Result, Ok, Err, refl, sym, ◌∙◌, ap, subst, arith}
use Rattle.nfc_base.specs.Signal.{Signal}
use Rattle.nfc_base.specs.Trace.{breaks}
use Rattle.nfc_base.specs.declared.event.Event.{Event}
use Rattle.nfc_base.specs.declared.event.Event.TheVariants.{Reset}
use Rattle.nfc_base.specs.declared.event.Fate.{Fate}
use Rattle.nfc_base.specs.declared.event.Heard.{Heard}
use Rattle.air_core.specs.World.{Machine, World}
use Rattle.air_core.specs.Turn.{Air, moment}
use Rattle.air_core.specs.Conversation.{note, LightUp, Asks, replay, turn_events, turn_heard, Moment}
use Rattle.air_core.proofs.Turns.{replay-append}
use Rattle.nfca_poll.specs.declared.fault.PollFault.{PollFault}
use Rattle.nfca_poll.specs.declared.fault.PollFault.TheVariants.{Nobody, Disturbed, FieldLost, Memory, NotFound, BadAnswer}
use Rattle.nfca_poll.specs.Muted.{mute_air}
use Rattle.nfca_poll.specs.Enquiry.{Enquiry, Progress, Reaches, Loses, progress, or_memory, answer_of, Enquires}
use Rattle.nfca_poll.specs.Rounds.{LeavesLit}
use Rattle.nfca_poll.proofs.quiet.Crowding.{drop-front}
use Rattle.nfca_poll.proofs.noise.Muting.{heard_lit}
use Rattle.nfca_poll.proofs.enquiries.LostField.{turn_breaks}
use Rattle.nfca_poll.proofs.enquiries.EnquiryWalks.{after, holds}
use Rattle.air_core.proofs.LostField.{breaks-append}

pub lit_leaves : {L X : Type 0} (r : Result X PollFault) (new : Air L) → new.lit ≡ true → LeavesLit r new
lit_leaves (Ok x) new l = l
lit_leaves (Err Nobody) new l = l
lit_leaves (Err Disturbed) new l = l
lit_leaves (Err FieldLost) new l = tt
lit_leaves (Err Memory) new l = tt
lit_leaves (Err NotFound) new l = l
lit_leaves (Err BadAnswer) new l = l

module _ {S X : Type 0} (e : Enquiry S X) {L : Type 0} (m : Machine L) where
  -- the events of an enquiry are what its trace has gained
  pub events_gained : (old new : Air L) (r : Result X PollFault) → (q : Enquires e m old r new) → drop (length old.trace) new.trace ≡ q.going.events
  events_gained old new r q =
      let T : Moment (World L) → List Event = λ x. x.trace in ap (drop (length old.trace)) (ap T q.going.moment) ∙ drop-front old.trace q.going.events

  -- once something was asked or reset, and the field isn't lost, it is lit
  abbrev LitSince : World L → Progress S → List Event → Type 0
  LitSince w (Reaches s) es = (s ≡ e.start) ⊎ ((replay (mute_air m) w es).lit ≡ true)
  LitSince w Loses es = Unit {0}

  lit_reset : (w : World L) (s : S) (es : List Event) → LitSince w (Reaches s) es → e.next s ≡ LightUp → LitSince w (Reaches (e.light s)) (es ++ Reset ∷ [])
  lit_reset w s es k q = inr (ap (λ v. v.lit) (replay-append (mute_air m) w es (Reset ∷ [])))

  lit_by : (w : World L) (s : S) (es : List Event) (f : Signal) (x y : Fate) (h : Option Heard) → h ≡ turn_heard (mute_air m) (replay (mute_air m) w es) f x y → (replay (mute_air m) w es).lit ≡ true
      → LitSince w (after e (Reaches s) (note h)) (es ++ turn_events (mute_air m) (replay (mute_air m) w es) f x y)
  lit_by w s es f x y None q l = tt
  lit_by w s es f x y (Some h) q l =
      let v : World L = replay (mute_air m) w es in
      inr (ap (λ u. u.lit) (replay-append (mute_air m) w es (turn_events (mute_air m) v f x y)) ∙ heard_lit m v f x y h l q)

  lit_turn : (w : World L) (s : S) (es : List Event) (f : Signal) (x y : Fate) → LitSince w (Reaches s) es → e.next s ≡ Asks f → (replay (mute_air m) w es).lit ≡ true
      → LitSince w (after e (Reaches s) (note (turn_heard (mute_air m) (replay (mute_air m) w es) f x y))) (es ++ turn_events (mute_air m) (replay (mute_air m) w es) f x y)
  lit_turn w s es f x y k q l = lit_by w s es f x y (turn_heard (mute_air m) (replay (mute_air m) w es) f x y) refl l

  lit_end : (w : World L) (es : List Event) (r : Result X PollFault) (new : Air L) (p : Progress S) → e.ended e.start ≡ None → LitSince w p es → (moment new).world ≡ replay (mute_air m) w es
      → r ≡ answer_of e p → LeavesLit r new
  lit_end w es r new (Reaches s) n (inl same) world q =
      let P : Result X PollFault → Type 0 = λ t. LeavesLit t new in
      let none : r ≡ Err Memory = q ∙ ap (λ t. or_memory (e.ended t)) same ∙ ap or_memory n in
      subst P (sym none) tt
  lit_end w es r new (Reaches s) n (inr l) world q = lit_leaves r new (ap (λ v. v.lit) world ∙ l)
  lit_end w es r new Loses n k world q = let P : Result X PollFault → Type 0 = λ t. LeavesLit t new in subst P (sym q) tt

  pub leaves_lit : (old new : Air L) (r : Result X PollFault) → e.ended e.start ≡ None → Enquires e m old r new → LeavesLit r new
  leaves_lit old new r n q =
      let w : World L = (moment old).world in
      let V : Moment (World L) → World L = λ x. x.world in
      lit_end w q.going.events r new (progress e e.start q.notes) n
      (holds e (mute_air m) w (LitSince w) (inl refl) (lit_reset w) (lit_turn w) (moment old) (moment new) q.notes refl q.going) (ap V q.going.moment) q.comes

  module _ (G : S → Type 0) (begins : G e.start) (lights : (s : S) → G s → G (e.light s)) (steps : (s : S) (h : Heard) → G s → G (e.step s h)) where
    -- where it is lost, a Break was used
    abbrev Stands : Progress S → List Event → Type 0
    Stands (Reaches s) es = G s
    Stands Loses es = 0 < breaks es

    stands_by : (w : World L) (s : S) (es : List Event) (f : Signal) (x y : Fate) (h : Option Heard) → h ≡ turn_heard (mute_air m) w f x y → G s
        → Stands (after e (Reaches s) (note h)) (es ++ turn_events (mute_air m) w f x y)
    stands_by w s es f x y None q k = omega (arith, turn_breaks m w f x y (sym q), breaks-append es (turn_events (mute_air m) w f x y))
    stands_by w s es f x y (Some h) q k = steps s h k

    -- an enquiry ends as it stands, or it has lost the field by a Break
    abbrev pub Ends : Air L → Result X PollFault → Air L → Type 0
    Ends old r new = ((s : S) × G s × (r ≡ or_memory (e.ended s))) ⊎ ((r ≡ Err FieldLost) × (0 < breaks (drop (length old.trace) new.trace)))

    ended_by : (old new : Air L) (r : Result X PollFault) (es : List Event) (p : Progress S) → Stands p es → drop (length old.trace) new.trace ≡ es → r ≡ answer_of e p → Ends old r new
    ended_by old new r es (Reaches s) k gained q = inl (s, k, q)
    ended_by old new r es Loses k gained q = inr (q, let B : List Event → Type 0 = λ t. 0 < breaks t in subst B (sym gained) k)

    pub ends : (old new : Air L) (r : Result X PollFault) → Enquires e m old r new → Ends old r new
    ends old new r q =
        let w : World L = (moment old).world in
        ended_by old new r q.going.events (progress e e.start q.notes)
        (holds e (mute_air m) w Stands begins (λ s es k due. lights s k)
        (λ s es f x y k due lit. stands_by (replay (mute_air m) w es) s es f x y (turn_heard (mute_air m) (replay (mute_air m) w es) f x y) refl k) (moment old) (moment new) q.notes refl q.going)
        (events_gained old new r q) q.comes
