-- A reset and a turn of a field of polled listeners, as its cards see them.
use Rattle.std.proofs.Common.{◌≡◌, ℕ, List, [], ◌∷◌, map, filter_map, Bool, true, false, if◌then◌else◌, inr, refl, sym, ◌∙◌, ap, subst, Option, Some, None}
use Rattle.std.specs.List.{cons_option}
use Rattle.nfc_base.specs.declared.frame.Tech.{Tech}
use Rattle.nfc_base.specs.declared.frame.Tech.TheVariants.{A, V, F}
use Rattle.nfc_base.specs.Signal.{Signal}
use Rattle.nfc_base.specs.declared.event.Heard.{Heard}
use Rattle.nfc_base.specs.declared.event.Heard.TheVariants.{Damaged, Silent}
use Rattle.air_core.specs.Joint.{joint, same_tech}
use Rattle.air_core.specs.World.{Machine, World, answers}
use Rattle.nfca_poll.specs.declared.kind.Kind.{Kind}
use Rattle.nfca_poll.specs.Calls.{Call, Calls, call_of}
use Rattle.nfca_poll.specs.Front.{Front, Idle, is_active}
use Rattle.nfca_poll.specs.Muted.{mute_reply, muted}
use Rattle.nfca_poll.specs.Crowd.{Card, with_front, StepsByFront, card_of, card_if, cards}
use Rattle.nfca_poll.specs.AnyStart.{AreUnlinked}
use Rattle.nfca_poll.specs.Polled.{WakesIdle, IsTidy, ArePolled, AreTidy}
use Rattle.nfca_poll.proofs.quiet.Clashes.{Has}
use Rattle.nfca_poll.proofs.identifiers.HeardBits.{heard_of}
use Rattle.nfca_poll.proofs.identifiers.Fitting.{card_next, card_says}
use Rattle.nfca_poll.proofs.quiet.Crowding.{step, says, mapped, said_by, OneCard, heard_by_it, not_heard, table_card, other_card}
use Rattle.nfca_poll.proofs.noise.NoisyTurns as turns
use Rattle.nfca_poll.proofs.noise.NoisyTurns.{TurnWas, passed, unheard, damaged, lost, WorldWas}

no_tech : (t : Tech) → same_tech t A ≡ false → t ≡ A → ⊥
no_tech A apart e = cc
no_tech V apart e = cc
no_tech F apart e = cc

-- a card that a reset has made idle
abbrev pub idled : Card → Card
idled c = with_front c Idle

abbrev idled_if : Option Card → Option Card
idled_if None = None
idled_if (Some c) = Some (idled c)

cons_idled : (o : Option Card) (xs : List Card) → cons_option (idled_if o) (map idled xs) ≡ map idled (cons_option o xs)
cons_idled None xs = refl
cons_idled (Some c) xs = refl

module _ {L : Type 0} (m : Machine L) {identifier : L → List ℕ} (polled : ArePolled m identifier) where
  abbrev wake : L → L
  wake l = m.woken (m.darkened l)

  waking_card : (l : L) → m.tech l ≡ A → IsTidy polled.ours.front polled.unlinked l → card_if polled.ours (wake l) ≡ idled_if (card_if polled.ours l)
  waking_card l t s =
      let k : WakesIdle m identifier polled.ours.kind polled.ours.front polled.unlinked l = polled.wakes l t s in
      let C : List ℕ → Kind → Front → Card = λ i j z. record { id = i; kind = j; front = z } in
      let card : card_of polled.ours (wake l) ≡ idled (card_of polled.ours l) =
      ap (λ i. C i (polled.ours.kind (wake l)) (polled.ours.front (wake l))) k.same_id
      ∙ ap (λ j. C (identifier l) j (polled.ours.front (wake l))) k.same_kind
      ∙ ap (C (identifier l) (polled.ours.kind l)) k.idle in
      ap (λ u. if same_tech u A then Some (card_of polled.ours (wake l)) else None) (polled.same_tech l ∙ t) ∙ ap Some card
      ∙ sym (ap (λ u. idled_if (if same_tech u A then Some (card_of polled.ours l) else None)) t)

  other_waking : (l : L) (other : Tech) → same_tech other A ≡ false → m.tech l ≡ other → card_if polled.ours (wake l) ≡ idled_if (card_if polled.ours l)
  other_waking l other apart t =
      ap (λ v. if v then Some (card_of polled.ours (wake l)) else None) (ap (λ u. same_tech u A) (polled.same_tech l ∙ t) ∙ apart)
      ∙ sym (ap (λ v. idled_if (if v then Some (card_of polled.ours l) else None)) (ap (λ u. same_tech u A) t ∙ apart))

  one_waking : (l : L) → (m.tech l ≡ A → IsTidy polled.ours.front polled.unlinked l) → card_if polled.ours (wake l) ≡ idled_if (card_if polled.ours l)
  one_waking l s = by_tech (m.tech l) refl
    where
      by_tech : (t : Tech) → m.tech l ≡ t → card_if polled.ours (wake l) ≡ idled_if (card_if polled.ours l)
      by_tech A t = waking_card l t (s t)
      by_tech V t = other_waking l V refl t
      by_tech F t = other_waking l F refl t

  -- a reset makes each NFC-A device idle
  pub reset_cards : (ls : List L) → AreTidy polled ls → cards polled.ours (map (λ l. m.woken (m.darkened l)) ls) ≡ map idled (cards polled.ours ls)
  reset_cards [] s = refl
  reset_cards (l ∷ ls) s =
      ap (λ o. cons_option o (cards polled.ours (map wake ls))) (one_waking l s.0) ∙ ap (cons_option (idled_if (card_if polled.ours l))) (reset_cards ls s.1)
      ∙ cons_idled (card_if polled.ours l) (cards polled.ours ls)

  -- and takes its link
  pub reset_unlinked : (ls : List L) → AreTidy polled ls → AreUnlinked m polled.unlinked (map (λ l. m.woken (m.darkened l)) ls)
  reset_unlinked [] s = tt
  reset_unlinked (l ∷ ls) s = ((λ t. (polled.wakes l (sym (polled.same_tech l) ∙ t) (s.0 (sym (polled.same_tech l) ∙ t))).no_link), reset_unlinked ls s.1)

  pub unlinked_tidy : (ls : List L) → AreUnlinked m polled.unlinked ls → AreTidy polled ls
  unlinked_tidy [] k = tt
  unlinked_tidy (l ∷ ls) k = ((λ t. inr (k.0 t)), unlinked_tidy ls k.1)

  module _ (f : Signal) (request : f.tech ≡ A) (c : Call) (call : call_of f ≡ Calls c) where
    abbrev next : L → L
    next l = step m polled.ours f request l

    -- one without a link steps by its front, whether it is active or not
    by_table : (l : L) → m.tech l ≡ A → polled.unlinked l ≡ true → StepsByFront m identifier polled.ours.kind polled.ours.front l f
    by_table l t k = by_state (is_active (polled.ours.front l)) refl
      where
        by_state : (v : Bool) → is_active (polled.ours.front l) ≡ v → StepsByFront m identifier polled.ours.kind polled.ours.front l f
        by_state true a = (polled.leaves l f c t k call).0 a
        by_state false a = polled.ours.steps l f t a

    still_unlinked : (l : L) → m.tech l ≡ A → polled.unlinked l ≡ true → polled.unlinked (next l) ≡ true
    still_unlinked l t k =
        let none : mute_reply (m.handed l f) ≡ None = ap mute_reply (by_table l t k).untouched in
        ap polled.unlinked (ap (λ v. if v then m.after l f (mute_reply (m.handed l f)) else l) (heard_by_it m polled.ours f request l t) ∙ ap (m.after l f) none) ∙ (polled.leaves l f c t k call).1

    one_steps : (l : L) → (m.tech l ≡ A → polled.unlinked l ≡ true) → OneCard m polled.ours f request l × (m.tech (next l) ≡ A → polled.unlinked (next l) ≡ true)
    one_steps l k = by_tech (m.tech l) refl
      where
        by_other : (other : Tech) → same_tech other A ≡ false → m.tech l ≡ other → OneCard m polled.ours f request l × (m.tech (next l) ≡ A → polled.unlinked (next l) ≡ true)
        by_other other apart t =
            let same : next l ≡ l = ap (λ v. if v then m.after l f (mute_reply (m.handed l f)) else l) (not_heard m polled.ours f request l other apart t) in
            (other_card m polled.ours f request l other apart t, (λ i. absurd (no_tech other apart (sym t ∙ sym (ap m.tech same) ∙ i))))

        by_tech : (t : Tech) → m.tech l ≡ t → OneCard m polled.ours f request l × (m.tech (next l) ≡ A → polled.unlinked (next l) ≡ true)
        by_tech A t = (table_card m polled.ours f request l t (by_table l t (k t)), (λ i. still_unlinked l t (k t)))
        by_tech V t = by_other V refl t
        by_tech F t = by_other F refl t

    cons_mapped : (g : Card → Card) (o : Option Card) (xs : List Card) → cons_option (mapped m polled.ours f request g o) (map g xs) ≡ map g (cons_option o xs)
    cons_mapped g None xs = refl
    cons_mapped g (Some d) xs = refl

    cons_said : (p : Card → Option Signal) (o : Option Card) (xs : List Card) → cons_option (said_by m polled.ours f request p o) (filter_map p xs) ≡ filter_map p (cons_option o xs)
    cons_said p None xs = refl
    cons_said p (Some d) xs = refl

    all_step : (ls : List L) → AreUnlinked m polled.unlinked ls
        → (cards polled.ours (map next ls) ≡ map (card_next (call_of f)) (cards polled.ours ls))
        × (filter_map (says m polled.ours f request) ls ≡ filter_map (card_says (call_of f)) (cards polled.ours ls)) × AreUnlinked m polled.unlinked (map next ls)
    all_step [] k = (refl, refl, tt)
    all_step (l ∷ ls) k =
        let one : OneCard m polled.ours f request l × (m.tech (next l) ≡ A → polled.unlinked (next l) ≡ true) = one_steps l k.0 in
        let rest = all_step ls k.1 in (
          ap (λ o. cons_option o (cards polled.ours (map next ls))) one.0.0
              ∙ ap (cons_option (mapped m polled.ours f request (card_next (call_of f)) (card_if polled.ours l))) rest.0
              ∙ cons_mapped (card_next (call_of f)) (card_if polled.ours l) (cards polled.ours ls),
          ap (λ o. cons_option o (filter_map (says m polled.ours f request) ls)) one.0.1
              ∙ ap (cons_option (said_by m polled.ours f request (card_says (call_of f)) (card_if polled.ours l))) rest.1
              ∙ cons_said (card_says (call_of f)) (card_if polled.ours l) (cards polled.ours ls),
          (one.1, rest.2),
        )

    -- a turn of a call
    pub call_turn : (w v : World L) (h : Heard) (n : ℕ) → AreUnlinked m polled.unlinked w.listeners → WorldWas m w f v h n
        → TurnWas (call_of f) (cards polled.ours w.listeners) (cards polled.ours v.listeners) h n × AreUnlinked m polled.unlinked v.listeners
    call_turn w _ _ _ k turns.passed =
        let s = all_step w.listeners k in
        let P : List Card → Heard → Type 0 = λ x h. TurnWas (call_of f) (cards polled.ours w.listeners) x h 0 in
        let Q : List Signal → Type 0 = λ gs. P (map (card_next (call_of f)) (cards polled.ours w.listeners)) (heard_of (joint gs)) in
        let R : List Card → Type 0 = λ x. P x (heard_of (joint (answers (muted m) w f))) in
        (subst R (sym s.0) (subst Q (sym s.1) passed), s.2)
    call_turn w _ _ _ k turns.unheard = (unheard, k)
    call_turn w _ _ _ k (turns.damaged g h) =
        let s = all_step w.listeners k in
        let H : List Signal → Type 0 = λ gs. Has g gs in
        let R : List Card → Type 0 = λ x. TurnWas (call_of f) (cards polled.ours w.listeners) x Damaged 1 in
        (subst R (sym s.0) (damaged g (subst H s.1 h)), s.2)
    call_turn w _ _ _ k (turns.lost g h) =
        let s = all_step w.listeners k in
        let H : List Signal → Type 0 = λ gs. Has g gs in
        let R : List Card → Type 0 = λ x. TurnWas (call_of f) (cards polled.ours w.listeners) x Silent 1 in
        (subst R (sym s.0) (lost g (subst H s.1 h)), s.2)
