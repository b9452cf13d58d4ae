-- A turn of a field of this project's listeners, with or without noise, as its cards see it.
use Rattle.std.proofs.Common.{◌≡◌, ℕ, ◌+◌, List, [], ◌∷◌, map, filter_map, false, inl, refl, sym, ◌∙◌, ap, subst, arith, Some}
use Rattle.nfc_base.specs.declared.frame.Tech.TheVariants.{A}
use Rattle.nfc_base.specs.Signal.{Signal}
use Rattle.nfc_base.specs.Trace.{heard_by, noise}
use Rattle.nfc_base.specs.declared.event.Fate.{Fate}
use Rattle.nfc_base.specs.declared.event.Fate.TheVariants.{Pass, Damage, Lose, Break}
use Rattle.nfc_base.specs.declared.event.Heard.{Heard}
use Rattle.nfc_base.specs.declared.event.Heard.TheVariants.{Damaged, Silent}
use Rattle.air_core.specs.Joint.{Joint, Nothing, Single, Clashing, joint}
use Rattle.air_core.specs.World.{Machine, World, stepped, answers}
use Rattle.air_core.specs.Turn.{Air, moment}
use Rattle.air_core.specs.Conversation.{Moment, TurnsTo, first_fate, later_fates, replay, turn_events, turn_heard, joint_events, joint_back}
use Rattle.nfca_poll.specs.Calls.{Reading, call_of}
use Rattle.nfca_poll.specs.Front.{is_active}
use Rattle.nfca_poll.specs.Muted.{muted, mute_air}
use Rattle.nfca_poll.specs.Crowd.{Card, Each, AreOurs, cards}
use Rattle.nfca_poll.proofs.quiet.Clashes.{Has}
use Rattle.nfca_poll.proofs.identifiers.HeardBits.{heard_of}
use Rattle.nfca_poll.proofs.identifiers.Fitting.{card_next, card_says}
use Rattle.nfca_poll.proofs.quiet.Choosing.{hears}
use Rattle.nfca_poll.proofs.quiet.Crowding.{events_of, cards_step}

-- What a turn was, from some cards to others, by what was heard, and how many of its transmissions had noise.
pub data TurnWas (r : Reading) (v : List Card) : List Card → Heard → ℕ → Type 0 where
  passed : TurnWas r v (map (card_next r) v) (hears r v) 0
  unheard : TurnWas r v v Silent 1
  damaged : (g : Signal) → Has g (filter_map (card_says r) v) → TurnWas r v (map (card_next r) v) Damaged 1
  lost : (g : Signal) → Has g (filter_map (card_says r) v) → TurnWas r v (map (card_next r) v) Silent 1

-- the same of listeners and their answers
pub data WorldWas {L : Type 0} (m : Machine L) (w : World L) (f : Signal) : World L → Heard → ℕ → Type 0 where
  passed : WorldWas m w f (stepped (muted m) w f) (heard_of (joint (answers (muted m) w f))) 0
  unheard : WorldWas m w f w Silent 1
  damaged : (g : Signal) → Has g (answers (muted m) w f) → WorldWas m w f (stepped (muted m) w f) Damaged 1
  lost : (g : Signal) → Has g (answers (muted m) w f) → WorldWas m w f (stepped (muted m) w f) Silent 1

heard_in : (h k : Heard) → Some h ≡ Some k → h ≡ k
heard_in h k e = cc

no_answers : Joint → Type 0
no_answers Nothing = ⊥
no_answers (Single g) = Unit {0}
no_answers (Clashing g) = Unit {0}

-- an answer comes from somebody
some_answer : (gs : List Signal) (j : Joint) → joint gs ≡ j → no_answers j → (g : Signal) × Has g gs
unfolding no_answers
some_answer [] j e n = absurd (subst no_answers (sym e) n)
some_answer (g ∷ gs) j e n = (g, inl refl)

module _ {L : Type 0} (m : Machine L) where
  by_joint : (w : World L) (f : Signal) (j : Joint) (y : Fate) (h : Heard) → joint (answers (muted m) w f) ≡ j → Some h ≡ heard_by Pass (joint_back j y)
      → WorldWas m w f (replay (mute_air m) (stepped (muted m) w f) (joint_events j y)) h (noise (joint_events j y))
  unfolding no_answers
  by_joint w f Nothing y h e k =
      let P : Heard → Type 0 = λ x. WorldWas m w f (stepped (muted m) w f) x 0 in
      subst P (ap heard_of e ∙ sym (heard_in h _ k)) passed
  by_joint w f (Single g) Pass h e k =
      let P : Heard → ℕ → Type 0 = λ x n. WorldWas m w f (stepped (muted m) w f) x n in
      let Q : Heard → Type 0 = λ x. P x 0 in
      subst (P h) (let q : 0 ≡ 0 + 0 = omega arith in q) (subst Q (ap heard_of e ∙ sym (heard_in h _ k)) passed)
  by_joint w f (Single g) Damage h e k =
      let a = some_answer (answers (muted m) w f) (Single g) e tt in
      let P : Heard → ℕ → Type 0 = λ x n. WorldWas m w f (stepped (muted m) w f) x n in
      let Q : Heard → Type 0 = λ x. P x 1 in
      subst (P h) (let q : 1 ≡ 1 + 0 = omega arith in q) (subst Q (sym (heard_in h _ k)) (damaged a.0 a.1))
  by_joint w f (Single g) Lose h e k =
      let a = some_answer (answers (muted m) w f) (Single g) e tt in
      let P : Heard → ℕ → Type 0 = λ x n. WorldWas m w f (stepped (muted m) w f) x n in
      let Q : Heard → Type 0 = λ x. P x 1 in
      subst (P h) (let q : 1 ≡ 1 + 0 = omega arith in q) (subst Q (sym (heard_in h _ k)) (lost a.0 a.1))
  by_joint w f (Single g) Break h e k = absurd cc
  by_joint w f (Clashing g) Pass h e k =
      let P : Heard → ℕ → Type 0 = λ x n. WorldWas m w f (stepped (muted m) w f) x n in
      let Q : Heard → Type 0 = λ x. P x 0 in
      subst (P h) (let q : 0 ≡ 0 + 0 = omega arith in q) (subst Q (ap heard_of e ∙ sym (heard_in h _ k)) passed)
  by_joint w f (Clashing g) Damage h e k =
      let a = some_answer (answers (muted m) w f) (Clashing g) e tt in
      let P : Heard → ℕ → Type 0 = λ x n. WorldWas m w f (stepped (muted m) w f) x n in
      let Q : Heard → Type 0 = λ x. P x 1 in
      subst (P h) (let q : 1 ≡ 1 + 0 = omega arith in q) (subst Q (sym (heard_in h _ k)) (damaged a.0 a.1))
  by_joint w f (Clashing g) Lose h e k =
      let a = some_answer (answers (muted m) w f) (Clashing g) e tt in
      let P : Heard → ℕ → Type 0 = λ x n. WorldWas m w f (stepped (muted m) w f) x n in
      let Q : Heard → Type 0 = λ x. P x 1 in
      subst (P h) (let q : 1 ≡ 1 + 0 = omega arith in q) (subst Q (sym (heard_in h _ k)) (lost a.0 a.1))
  by_joint w f (Clashing g) Break h e k = absurd cc

  pub by_fates : (w : World L) (f : Signal) (x y : Fate) (h : Heard) → Some h ≡ turn_heard (mute_air m) w f x y
      → WorldWas m w f (replay (mute_air m) w (turn_events (mute_air m) w f x y)) h (noise (turn_events (mute_air m) w f x y))
  by_fates w f Pass y h k =
      let P : ℕ → Type 0 = λ n. WorldWas m w f (replay (mute_air m) w (turn_events (mute_air m) w f Pass y)) h n in
      subst P (let q : noise (joint_events ((mute_air m).joint w f) y) ≡ 0 + noise (joint_events ((mute_air m).joint w f) y) = omega arith in q) (by_joint w f ((mute_air m).joint w f) y h refl k)
  by_fates w f Damage y h k =
      let P : Heard → ℕ → Type 0 = λ x n. WorldWas m w f w x n in
      let Q : Heard → Type 0 = λ x. P x 1 in
      subst (P h) (let q : 1 ≡ 1 + 0 = omega arith in q) (subst Q (sym (heard_in h _ k)) unheard)
  by_fates w f Lose y h k =
      let P : Heard → ℕ → Type 0 = λ x n. WorldWas m w f w x n in
      let Q : Heard → Type 0 = λ x. P x 1 in
      subst (P h) (let q : 1 ≡ 1 + 0 = omega arith in q) (subst Q (sym (heard_in h _ k)) unheard)
  by_fates w f Break y h k = absurd cc

  pub world_was : (old new : Air L) (f : Signal) (h : Heard) → TurnsTo (mute_air m) (moment old) (moment new) f (Some h)
      → WorldWas m (moment old).world f (moment new).world h (noise (events_of m old f))
  world_was old new f h t =
      let M : Moment (World L) → World L = λ x. x.world in
      let P : World L → Type 0 = λ w. WorldWas m (moment old).world f w h (noise (events_of m old f)) in
      subst P (sym (ap M t.moment)) (by_fates (moment old).world f (first_fate old.fates) (first_fate (later_fates old.fates)) h t.heard)

  module _ {identifier : L → List ℕ} (ours : AreOurs m identifier) (f : Signal) (request : f.tech ≡ A) where
    as_cards : (w v : World L) (h : Heard) (n : ℕ) → Each (λ c. is_active c.front ≡ false) (cards ours w.listeners) → WorldWas m w f v h n
        → TurnWas (call_of f) (cards ours w.listeners) (cards ours v.listeners) h n
    as_cards w _ _ _ i passed =
        let s = cards_step m ours f request w.listeners i in
        let P : List Card → Heard → Type 0 = λ x h. TurnWas (call_of f) (cards ours w.listeners) x h 0 in
        let Q : List Signal → Type 0 = λ gs. P (map (card_next (call_of f)) (cards ours w.listeners)) (heard_of (joint gs)) in
        let R : List Card → Type 0 = λ x. P x (heard_of (joint (answers (muted m) w f))) in
        subst R (sym s.0) (subst Q (sym s.1) passed)
    as_cards w _ _ _ i unheard = unheard
    as_cards w _ _ _ i (damaged g h) =
        let s = cards_step m ours f request w.listeners i in
        let H : List Signal → Type 0 = λ gs. Has g gs in
        let R : List Card → Type 0 = λ x. TurnWas (call_of f) (cards ours w.listeners) x Damaged 1 in
        subst R (sym s.0) (damaged g (subst H s.1 h))
    as_cards w _ _ _ i (lost g h) =
        let s = cards_step m ours f request w.listeners i in
        let H : List Signal → Type 0 = λ gs. Has g gs in
        let R : List Card → Type 0 = λ x. TurnWas (call_of f) (cards ours w.listeners) x Silent 1 in
        subst R (sym s.0) (lost g (subst H s.1 h))

    pub turn_was : (old new : Air L) (h : Heard) → TurnsTo (mute_air m) (moment old) (moment new) f (Some h) → Each (λ c. is_active c.front ≡ false) (cards ours old.listeners)
        → TurnWas (call_of f) (cards ours old.listeners) (cards ours new.listeners) h (noise (events_of m old f))
    turn_was old new h t i = as_cards (moment old).world (moment new).world h (noise (events_of m old f)) i (world_was old new f h t)
