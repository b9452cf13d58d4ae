-- A turn of a field of this project's listeners without noise, as its cards see it.
use Rattle.std.proofs.Common.{◌≡◌, ℕ, ◌+◌, List, [], ◌∷◌, ◌++◌, length, drop, map, filter_map, Bool, true, false, if◌then◌else◌, refl, sym, ◌∙◌, ap, subst, arith, Option, Some, None}
use Rattle.std.specs.List.{cons_option}
use Rattle.nfc_base.specs.declared.frame.Tech.{Tech}
use Rattle.nfc_base.specs.declared.frame.Tech.TheVariants.{A, V, F}
use Rattle.nfc_base.specs.Signal.{Signal}
use Rattle.nfc_base.specs.Trace.{noise, other_than_pass}
use Rattle.nfc_base.specs.declared.event.Event.{Event}
use Rattle.nfc_base.specs.declared.event.Event.TheVariants.{Reset, Request, Answer, Clash}
use Rattle.nfc_base.specs.declared.event.Heard.{Heard}
use Rattle.air_core.specs.Joint.{same_tech}
use Rattle.air_core.specs.World.{Machine, World, stepped_by, answered_by}
use Rattle.air_core.specs.Turn.{Air, moment}
use Rattle.air_core.specs.Conversation.{Moment, TurnsTo, first_fate, later_fates, turn_events}
use Rattle.nfca_poll.specs.declared.kind.Kind.{Kind}
use Rattle.nfca_poll.specs.Calls.{call_of}
use Rattle.nfca_poll.specs.Front.{Front, is_active}
use Rattle.nfca_poll.specs.Muted.{mute_reply, muted, mute_air}
use Rattle.nfca_poll.specs.Crowd.{Card, Each, StepsByFront, AreOurs, card_of, card_if, cards}
use Rattle.nfca_poll.proofs.quiet.Eaches.{IfSaid, onto_back}
use Rattle.nfca_poll.proofs.identifiers.Fitting.{card_next, card_says}

-- noise of some events and then others
pub noise-append : (a b : List Event) → noise (a ++ b) ≡ noise a + noise b
noise-append [] b = (let q : noise b ≡ 0 + noise b = omega arith in q)
noise-append (Reset ∷ a) b = noise-append a b
noise-append (Request f x ∷ a) b = ap (λ n. other_than_pass x + n) (noise-append a b) ∙ (let q : other_than_pass x + (noise a + noise b) ≡ (other_than_pass x + noise a) + noise b = omega arith in q)
noise-append (Answer f x ∷ a) b = ap (λ n. other_than_pass x + n) (noise-append a b) ∙ (let q : other_than_pass x + (noise a + noise b) ≡ (other_than_pass x + noise a) + noise b = omega arith in q)
noise-append (Clash f x ∷ a) b = ap (λ n. other_than_pass x + n) (noise-append a b) ∙ (let q : other_than_pass x + (noise a + noise b) ≡ (other_than_pass x + noise a) + noise b = omega arith in q)

pub drop-front : {X : Type 0} (a b : List X) → drop (length a) (a ++ b) ≡ b
drop-front [] b = refl
drop-front (x ∷ a) b = drop-front a b

module _ {L : Type 0} (m : Machine L) where
  -- the events of a turn
  abbrev pub events_of : Air L → Signal → List Event
  events_of a f = turn_events (mute_air m) (moment a).world f (first_fate a.fates) (first_fate (later_fates a.fates))

  pub turn_trace : (old new : Air L) (f : Signal) (h : Option Heard) → TurnsTo (mute_air m) (moment old) (moment new) f h → new.trace ≡ old.trace ++ events_of old f
  turn_trace old new f h t = let M : Moment (World L) → List Event = λ x. x.trace in ap M t.moment

  module _ {identifier : L → List ℕ} (ours : AreOurs m identifier) (f : Signal) (request : f.tech ≡ A) where
    abbrev pub step : L → L
    step l = stepped_by (muted m) l f None

    abbrev pub says : L → Option Signal
    says l = answered_by (muted m) l f None

    abbrev pub mapped : (Card → Card) → Option Card → Option Card
    mapped g None = None
    mapped g (Some c) = Some (g c)

    abbrev pub said_by : (Card → Option Signal) → Option Card → Option Signal
    said_by p None = None
    said_by p (Some c) = p c

    abbrev pub OneCard : L → Type 0
    OneCard l = (card_if ours (step l) ≡ mapped (card_next (call_of f)) (card_if ours l)) × (says l ≡ said_by (card_says (call_of f)) (card_if ours l))

    pub same_card : (id id' : List ℕ) (k k' : Kind) (x x' : Front) → id ≡ id' → k ≡ k' → x ≡ x' → ◌≡◌ {A = Card} (record { id = id; kind = k; front = x }) (record { id = id'; kind = k'; front = x' })
    same_card id id' k k' x x' p q r =
        let C : List ℕ → Kind → Front → Card = λ i j z. record { id = i; kind = j; front = z } in
        ap (λ i. C i k x) p ∙ ap (λ j. C id' j x) q ∙ ap (C id' k') r

    pub heard_by_it : (l : L) → m.tech l ≡ A → same_tech (m.tech l) f.tech ≡ true
    heard_by_it l t = ap (λ u. same_tech u f.tech) t ∙ ap (same_tech A) request

    pub not_heard : (l : L) (other : Tech) → same_tech other A ≡ false → m.tech l ≡ other → same_tech (m.tech l) f.tech ≡ false
    not_heard l other apart t = ap (λ u. same_tech u f.tech) t ∙ ap (same_tech other) request ∙ apart

    -- one that steps by its front's table
    pub table_card : (l : L) → m.tech l ≡ A → StepsByFront m identifier ours.kind ours.front l f → OneCard l
    table_card l t s =
        let none : mute_reply (m.handed l f) ≡ None = ap mute_reply s.untouched in
        let here : same_tech (m.tech l) A ≡ true = ap (λ u. same_tech u A) t in
        let goes : step l ≡ m.after l f None = ap (λ v. if v then m.after l f (mute_reply (m.handed l f)) else l) (heard_by_it l t) ∙ ap (m.after l f) none in
        let there : same_tech (m.tech (m.after l f None)) A ≡ true = ap (λ u. same_tech u A) (s.same_tech ∙ t) in
        let card : card_of ours (m.after l f None) ≡ card_next (call_of f) (card_of ours l) =
        same_card _ _ _ _ _ _ s.same_id s.same_kind s.goes in (
          ap (card_if ours) goes ∙ ap (λ v. if v then Some (card_of ours (m.after l f None)) else None) there ∙ ap Some card
              ∙ sym (ap (λ v. mapped (card_next (call_of f)) (if v then Some (card_of ours l) else None)) here),
          ap (λ v. if v then m.answer l f (mute_reply (m.handed l f)) else None) (heard_by_it l t) ∙ ap (m.answer l f) none ∙ s.says
              ∙ sym (ap (λ v. said_by (card_says (call_of f)) (if v then Some (card_of ours l) else None)) here),
        )

    pub other_card : (l : L) (other : Tech) → same_tech other A ≡ false → m.tech l ≡ other → OneCard l
    other_card l other apart t =
        let none : card_if ours l ≡ None = ap (λ v. if v then Some (card_of ours l) else None) (ap (λ u. same_tech u A) t ∙ apart) in
        let goes : step l ≡ l = ap (λ v. if v then m.after l f (mute_reply (m.handed l f)) else l) (not_heard l other apart t) in (
          ap (card_if ours) goes ∙ none ∙ sym (ap (mapped (card_next (call_of f))) none),
          ap (λ v. if v then m.answer l f (mute_reply (m.handed l f)) else None) (not_heard l other apart t) ∙ sym (ap (said_by (card_says (call_of f))) none),
        )

    pub one_card : (l : L) → IfSaid (λ c. is_active c.front ≡ false) (card_if ours l) → OneCard l
    one_card l i = by_tech (m.tech l) refl
      where
        by_tech : (t : Tech) → m.tech l ≡ t → OneCard l
        by_tech A t =
            let P : Bool → Type 0 = λ v. IfSaid (λ c. is_active c.front ≡ false) (if v then Some (card_of ours l) else None) in
            table_card l t (ours.steps l f t (subst P (ap (λ u. same_tech u A) t) i))
        by_tech V t = other_card l V refl t
        by_tech F t = other_card l F refl t

    cons_mapped : (g : Card → Card) (o : Option Card) (xs : List Card) → cons_option (mapped g o) (map g xs) ≡ map g (cons_option o xs)
    cons_mapped g None xs = refl
    cons_mapped g (Some c) xs = refl

    cons_said : (p : Card → Option Signal) (o : Option Card) (xs : List Card) → cons_option (said_by p o) (filter_map p xs) ≡ filter_map p (cons_option o xs)
    cons_said p None xs = refl
    cons_said p (Some c) xs = refl

    pub cards_step : (ls : List L) → Each (λ c. is_active c.front ≡ false) (cards ours ls)
        → (cards ours (map step ls) ≡ map (card_next (call_of f)) (cards ours ls)) × (filter_map says ls ≡ filter_map (card_says (call_of f)) (cards ours ls))
    cards_step [] i = (refl, refl)
    cards_step (l ∷ ls) i =
        let s : _ × _ = onto_back (λ c. is_active c.front ≡ false) (card_if ours l) (cards ours ls) i in
        let one : OneCard l = one_card l s.0 in
        let rest = cards_step ls s.1 in (
          ap (λ o. cons_option o (cards ours (map step ls))) one.0 ∙ ap (cons_option (mapped (card_next (call_of f)) (card_if ours l))) rest.0
              ∙ cons_mapped (card_next (call_of f)) (card_if ours l) (cards ours ls),
          ap (λ o. cons_option o (filter_map says ls)) one.1 ∙ ap (cons_option (said_by (card_says (call_of f)) (card_if ours l))) rest.1
              ∙ cons_said (card_says (call_of f)) (card_if ours l) (cards ours ls),
        )
