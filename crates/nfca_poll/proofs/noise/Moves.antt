-- A turn of a field of this project's listeners in any state, with or without noise, as its cards see it.
use Rattle.std.proofs.Common.{◌≡◌, ◌⊎◌, ℕ, List, [], ◌∷◌, map, filter_map, Bool, true, false, if◌then◌else◌, inl, inr, refl, sym, ◌∙◌, ap, subst, Option, Some, None}
use Rattle.std.specs.List.{cons_option}
use Rattle.nfc_base.specs.declared.frame.Tech.{Tech}
use Rattle.nfc_base.specs.declared.frame.Tech.TheVariants.{A, V, F}
use Rattle.nfc_base.specs.Signal.{Signal}
use Rattle.nfc_base.specs.Trace.{noise}
use Rattle.nfc_base.specs.declared.event.Heard.{Heard}
use Rattle.nfc_base.specs.declared.event.Heard.TheVariants.{Damaged, Silent}
use Rattle.air_core.specs.Joint.{joint, same_tech}
use Rattle.air_core.specs.World.{Machine, World}
use Rattle.air_core.specs.Turn.{Air, moment}
use Rattle.air_core.specs.Conversation.{TurnsTo}
use Rattle.nfca_poll.specs.declared.kind.Kind.{Kind}
use Rattle.nfca_poll.specs.Levels.{levels}
use Rattle.nfca_poll.specs.Calls.{Reading, call_of}
use Rattle.nfca_poll.specs.Front.{Front, Off, Idle, Sleep, Ready, Active, front_says, is_active}
use Rattle.nfca_poll.specs.Muted.{mute_reply, mute_air}
use Rattle.nfca_poll.specs.Crowd.{Card, Each, StepsByFront, AreOurs, card_of, card_if, cards}
use Rattle.nfca_poll.specs.AnyStart.{StaysActive, Pairs}
use Rattle.nfca_poll.proofs.quiet.Clashes.{Has, wrong_back}
use Rattle.nfca_poll.proofs.identifiers.HeardBits.{heard_of}
use Rattle.nfca_poll.proofs.identifiers.Fitting.{card_next, card_says}
use Rattle.nfca_poll.proofs.quiet.Choosing.{hears}
use Rattle.nfca_poll.proofs.quiet.Crowding.{events_of, step, says, mapped, said_by, OneCard, same_card, heard_by_it, table_card, other_card}
use Rattle.nfca_poll.proofs.noise.NoisyTurns as turns
use Rattle.nfca_poll.proofs.noise.NoisyTurns.{WorldWas, world_was}

-- A card that heard a call steps by its front's table; or, if it may, it was active and stays as it was.
abbrev pub Moves : Bool → Reading → Card → Card → Type 0
Moves may r c d = (d ≡ card_next r c) ⊎ ((may ≡ true) × (is_active c.front ≡ true) × (d ≡ c))

-- What a turn was, from some cards to others, by what was heard, and how many of its transmissions had noise.
pub data TurnOf (may : Bool) (r : Reading) (v u : List Card) : Heard → ℕ → Type 0 where
  passed : Pairs (Moves may r) v u → TurnOf may r v u (hears r v) 0
  unheard : u ≡ v → TurnOf may r v u Silent 1
  damaged : Pairs (Moves may r) v u → (g : Signal) → Has g (filter_map (card_says r) v) → TurnOf may r v u Damaged 1
  lost : Pairs (Moves may r) v u → (g : Signal) → Has g (filter_map (card_says r) v) → TurnOf may r v u Silent 1

-- the same of listeners, of which not each is a card
abbrev IfMoves : Bool → Reading → Option Card → Option Card → Type 0
IfMoves may r None None = Unit {0}
IfMoves may r None (Some d) = ⊥
IfMoves may r (Some c) None = ⊥
IfMoves may r (Some c) (Some d) = Moves may r c d

pairs_more : (may : Bool) (r : Reading) (o p : Option Card) (v u : List Card) → IfMoves may r o p → Pairs (Moves may r) v u → Pairs (Moves may r) (cons_option o v) (cons_option p u)
pairs_more may r None None v u i e = e
pairs_more may r None (Some d) v u i e = absurd i
pairs_more may r (Some c) None v u i e = absurd i
pairs_more may r (Some c) (Some d) v u i e = (i, e)

-- an active front says nothing
active_silent : (ls : List (List ℕ)) (kind : Kind) (front : Front) (r : Reading) → is_active front ≡ true → front_says ls kind front r ≡ None
active_silent ls kind Off r i = wrong_back (sym i)
active_silent ls kind Idle r i = wrong_back (sym i)
active_silent ls kind Sleep r i = wrong_back (sym i)
active_silent ls kind (Ready k s) r i = wrong_back (sym i)
active_silent ls kind (Active s) r i = refl

-- An active listener steps by its front's table at a frame; or, if it may, it stays as it was.
abbrev pub YieldsAt : {L : Type 0} {m : Machine L} {identifier : L → List ℕ} → AreOurs m identifier → Bool → Signal → L → Type 0
YieldsAt {m = m} {identifier = identifier} ours may f l =
    m.tech l ≡ A → is_active (ours.front l) ≡ true
    → StepsByFront m identifier ours.kind ours.front l f ⊎ ((may ≡ true) × StaysActive m identifier ours.kind ours.front l f)

module _ {L : Type 0} (m : Machine L) {identifier : L → List ℕ} (ours : AreOurs m identifier) (may : Bool) (f : Signal) (request : f.tech ≡ A) where
  abbrev OneMoves : L → Type 0
  OneMoves l = IfMoves may (call_of f) (card_if ours l) (card_if ours (step m ours f request l)) × (says m ours f request l ≡ said_by m ours f request (card_says (call_of f)) (card_if ours l))

  by_table : (l : L) → OneCard m ours f request l → OneMoves l
  by_table l o =
      let P : Option Card → Type 0 = λ x. IfMoves may (call_of f) (card_if ours l) x in
      (subst P (sym o.0) (steps (card_if ours l)), o.1)
    where
      steps : (x : Option Card) → IfMoves may (call_of f) x (mapped m ours f request (card_next (call_of f)) x)
      steps None = tt
      steps (Some d) = inl refl

  by_staying : (l : L) → may ≡ true → m.tech l ≡ A → is_active (ours.front l) ≡ true → StaysActive m identifier ours.kind ours.front l f → OneMoves l
  by_staying l e t i s =
      let none : mute_reply (m.handed l f) ≡ None = ap mute_reply s.untouched in
      let here : same_tech (m.tech l) A ≡ true = ap (λ u. same_tech u A) t in
      let heard : same_tech (m.tech l) f.tech ≡ true = heard_by_it m ours f request l t in
      let goes : step m ours f request l ≡ m.after l f None = ap (λ v. if v then m.after l f (mute_reply (m.handed l f)) else l) heard ∙ ap (m.after l f) none in
      let there : same_tech (m.tech (m.after l f None)) A ≡ true = ap (λ u. same_tech u A) (s.same_tech ∙ t) in
      let card : card_of ours (m.after l f None) ≡ card_of ours l = same_card m ours f request _ _ _ _ _ _ s.same_id s.same_kind s.same_front in
      let before : card_if ours l ≡ Some (card_of ours l) = ap (λ v. if v then Some (card_of ours l) else None) here in
      let behind : card_if ours (step m ours f request l) ≡ Some (card_of ours l) =
      ap (card_if ours) goes ∙ ap (λ v. if v then Some (card_of ours (m.after l f None)) else None) there ∙ ap Some card in
      let P : Option Card → Option Card → Type 0 = λ x y. IfMoves may (call_of f) x y in
      let Q : Option Card → Type 0 = λ x. P x (card_if ours (step m ours f request l)) in
      let R : Option Card → Type 0 = λ y. P (Some (card_of ours l)) y in (
        subst Q (sym before) (subst R (sym behind) (inr (e, i, refl))),
        ap (λ v. if v then m.answer l f (mute_reply (m.handed l f)) else None) heard ∙ ap (m.answer l f) none ∙ s.silent
            ∙ sym (ap (said_by m ours f request (card_says (call_of f))) before ∙ active_silent (levels (identifier l)) (ours.kind l) (ours.front l) (call_of f) i),
      )

  one_moves : (l : L) → YieldsAt ours may f l → OneMoves l
  one_moves l y = by_tech (m.tech l) refl (is_active (ours.front l)) refl
    where
      by_tech : (t : Tech) → m.tech l ≡ t → (v : Bool) → is_active (ours.front l) ≡ v → OneMoves l
      by_tech V t v i = by_table l (other_card m ours f request l V refl t)
      by_tech F t v i = by_table l (other_card m ours f request l F refl t)
      by_tech A t false i = by_table l (table_card m ours f request l t (ours.steps l f t i))
      by_tech A t true i =
          elim (y t i) [
            | inl s ↦ by_table l (table_card m ours f request l t s)
            | inr s ↦ by_staying l s.0 t i s.1
          ]

  cons_said : (p : Card → Option Signal) (o : Option Card) (xs : List Card) → cons_option (said_by m ours f request p o) (filter_map p xs) ≡ filter_map p (cons_option o xs)
  cons_said p None xs = refl
  cons_said p (Some d) xs = refl

  -- the cards of listeners that step, and what they say
  cards_move : (ls : List L) → Each (YieldsAt ours may f) ls
      → Pairs (Moves may (call_of f)) (cards ours ls) (cards ours (map (step m ours f request) ls))
      × (filter_map (says m ours f request) ls ≡ filter_map (card_says (call_of f)) (cards ours ls))
  cards_move [] y = (tt, refl)
  cards_move (l ∷ ls) y =
      let one : OneMoves l = one_moves l y.0 in
      let rest = cards_move ls y.1 in (
        pairs_more may (call_of f) (card_if ours l) (card_if ours (step m ours f request l)) (cards ours ls) (cards ours (map (step m ours f request) ls)) one.0 rest.0,
        ap (λ o. cons_option o (filter_map (says m ours f request) ls)) one.1 ∙ ap (cons_option (said_by m ours f request (card_says (call_of f)) (card_if ours l))) rest.1
            ∙ cons_said (card_says (call_of f)) (card_if ours l) (cards ours ls),
      )

  as_cards : (w v : World L) (h : Heard) (n : ℕ) → Each (YieldsAt ours may f) w.listeners → WorldWas m w f v h n → TurnOf may (call_of f) (cards ours w.listeners) (cards ours v.listeners) h n
  as_cards w _ _ _ y turns.passed =
      let s = cards_move w.listeners y in
      let P : List Signal → Type 0 = λ gs. TurnOf may (call_of f) (cards ours w.listeners) (cards ours (map (step m ours f request) w.listeners)) (heard_of (joint gs)) 0 in
      subst P (sym s.1) (passed s.0)
  as_cards w _ _ _ y turns.unheard = unheard refl
  as_cards w _ _ _ y (turns.damaged g h) =
      let s = cards_move w.listeners y in
      let H : List Signal → Type 0 = λ gs. Has g gs in
      damaged s.0 g (subst H s.1 h)
  as_cards w _ _ _ y (turns.lost g h) =
      let s = cards_move w.listeners y in
      let H : List Signal → Type 0 = λ gs. Has g gs in
      lost s.0 g (subst H s.1 h)

  pub turn_of : (old new : Air L) (h : Heard) → Each (YieldsAt ours may f) old.listeners → TurnsTo (mute_air m) (moment old) (moment new) f (Some h)
      → TurnOf may (call_of f) (cards ours old.listeners) (cards ours new.listeners) h (noise (events_of m old f))
  turn_of old new h y t = as_cards (moment old).world (moment new).world h (noise (events_of m old f)) y (world_was m old new f h t)
