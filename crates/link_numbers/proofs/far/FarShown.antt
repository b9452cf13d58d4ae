-- Two worlds in which the same turns are made, and what is the same behind them.
use Rattle.std.proofs.Common.{◌≡◌, ℕ, List, [], ◌∷◌, ◌++◌, Bool, true, false, Some, refl, sym, ◌∙◌, ap, subst}
use Rattle.air_core.specs.Conversation.{AirModel, Note, Next}
use Rattle.air_core.specs.World.{Machine}
use Rattle.dep_link.specs.Target.{TargetState}
use Rattle.far_air.specs.FarEnds.{FarTable}
use Rattle.far_air.specs.FarWorld.{FarWorld, far_dark, far_air, with_numbers}
use Rattle.link_numbers.proofs.far.FarCourse.{Made, AllLit, all_events, all_noted, all_world, made_events, made_note, made_world}
use Rattle.link_numbers.proofs.far.FarSolo.{DoesSo, here, leaving}

module _ {L F : Type 0} (m : Machine L) (linked : L → Bool) (t : FarTable F) where
  abbrev W : Type 0
  W = FarWorld L F

  abbrev air : AirModel W
  air = far_air m linked t

  -- There is the same light in both, and in the dark they are the same but for the numbers that are left.
  pub record SameDark (w v : W) : Type 0 where
    pub lit : v.field.lit ≡ w.field.lit
    pub dark : with_numbers (far_dark m linked t v) [] ≡ with_numbers (far_dark m linked t w) []

  pub dark_same : (w v : W) → SameDark w v → SameDark (far_dark m linked t w) (far_dark m linked t v)
  dark_same w v k = record { lit = refl; dark = ap (far_dark m linked t) k.dark }

  module _ {C : Type 0} (due : C → Next) (noted : C → Note → C) (End : C → Type 0) where
    -- The turns that are made from w are made from v too. Behind them both are the same in the dark, and at an end they are the same but for
    -- the numbers that are left.
    pub record Shown (w v : W) (c : C) (qs : List Made) : Type 0 where
      pub events : all_events air v qs ≡ all_events air w qs
      pub lit : AllLit air v qs
      pub alike : SameDark (all_world air w qs) (all_world air v qs)
      pub done : End (all_noted air due noted w c qs) → with_numbers (all_world air v qs) [] ≡ with_numbers (all_world air w qs) []

    -- no turn
    pub shown_none : (w v : W) (c : C) (qs : List Made) → qs ≡ [] → SameDark w v → (End c → with_numbers v [] ≡ with_numbers w []) → Shown w v c qs
    shown_none w v c qs e k same =
        subst (λ x. Shown w v c x) (sym e) (record { events = refl; lit = tt; alike = k; done = same })

    -- one turn more, at first
    pub shown_more : (w v w' v' : W) (c d : C) (q : Made) (qs : List Made) → v.field.lit ≡ true → made_events air v q ≡ made_events air w q → made_world air w q ≡ w' → made_world air v q ≡ v'
        → noted c (made_note air w q) ≡ d → Shown w' v' d qs → Shown w v c (q ∷ qs)
    shown_more w v w' v' c d q qs lit events to_w to_v to_d k = record {
      events = ap (λ es. es ++ all_events air (made_world air v q) qs) events
          ∙ ap (λ es. made_events air w q ++ es) (ap (λ z. all_events air z qs) to_v ∙ k.events ∙ ap (λ z. all_events air z qs) (sym to_w));
      lit = (lit, subst (λ z. AllLit air z qs) (sym to_v) k.lit);
      alike = subst (λ z. SameDark z (all_world air v (q ∷ qs))) (ap (λ z. all_world air z qs) (sym to_w))
          (subst (λ z. SameDark (all_world air w' qs) z) (ap (λ z. all_world air z qs) (sym to_v)) k.alike);
      done = λ e.
          let at : all_noted air due noted w c (q ∷ qs) ≡ all_noted air due noted w' d qs =
          ap (λ z. all_noted air due noted z (noted c (made_note air w q)) qs) to_w ∙ ap (λ z. all_noted air due noted w' z qs) to_d in
          ap (λ z. with_numbers (all_world air z qs) []) to_v ∙ k.done (subst End at e) ∙ ap (λ z. with_numbers (all_world air z qs) []) (sym to_w);
    }

  module _ (dev : TargetState → L) (does : DoesSo m linked t dev) where
    -- devices of targets that differ in what is left of their replies, with far ends of which the same stays
    pub left_dark : (s : TargetState) (l : List ℕ) (a b : F) (ns ks : List ℕ) → t.rested b ≡ t.rested a → SameDark (here m linked t dev s a ns) (here m linked t dev (leaving s l) b ks)
    left_dark s l a b ns ks e =
        let D : L → F → W = λ d c. record { field = record { lit = false; listeners = d ∷ [] }; fars = Some c ∷ []; numbers = [] } in
        record { lit = refl; dark = ap (λ d. D d (t.rested b)) (does.dark s l) ∙ ap (D (m.darkened (dev s))) e }

    pub same_dark : (s : TargetState) (a : F) (ns ks : List ℕ) → SameDark (here m linked t dev s a ns) (here m linked t dev s a ks)
    same_dark s a ns ks = record { lit = refl; dark = refl }
