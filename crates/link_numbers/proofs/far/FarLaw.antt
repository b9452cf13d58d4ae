-- The numbers that a peer's answers show are as good as the true ones, among others in the field that are silent.
use Rattle.std.proofs.Common.{◌≡◌, ℕ, ◌≤◌, List, [], ◌∷◌, ◌++◌, Bool, true, Some, refl, sym, ◌∙◌, ap, subst}
use Rattle.nfc_base.specs.Signal.{Signal}
use Rattle.nfc_base.specs.declared.event.Event.{Event}
use Rattle.nfc_base.specs.declared.event.Event.TheVariants.{Request}
use Rattle.nfc_base.specs.declared.event.Fate.{Fate}
use Rattle.air_core.specs.Conversation.{AirModel, Note, Next, LightUp, Asks, AreTurns, EachDue, receptions, replay}
use Rattle.air_core.specs.World.{Machine}
use Rattle.dep_link.specs.Asking.{Rests}
use Rattle.dep_link.specs.Exchange.{InStep}
use Rattle.dep_link.specs.Initiator.{InitState}
use Rattle.dep_link.specs.Payloads.{begins}
use Rattle.dep_link.specs.Target.{TargetState}
use Rattle.far_air.specs.FarEnds.{FarTable}
use Rattle.far_air.specs.FarWorld.{FarWorld, far_dark, far_air, with_numbers}
use Rattle.link_numbers.specs.Shown.{answers_of}
use Rattle.link_numbers.proofs.far.FarAlone.{Around, AreAround, AllAsk, IsAmid, IsSilent, all_same, amid, around_all, around_dark, darkened, is_placed, lit_amid, noted_alone, placed}
use Rattle.link_numbers.proofs.far.FarCourse.{AreMade, Dues, Made, all_events, all_known, all_replayed, all_turns, all_world, are_made, made_note, made_world, noted_all}
use Rattle.link_numbers.proofs.far.FarFit.{AllFit, AllOut, DuesFit, RepliesFit, all_fit, all_out, dues_fit}
use Rattle.link_numbers.proofs.far.FarRun as run
use Rattle.link_numbers.proofs.far.FarSame.{IsNumbered, begins_same}
use Rattle.link_numbers.proofs.far.FarShown.{SameDark, Shown}
use Rattle.link_numbers.proofs.far.FarShows.{shows}
use Rattle.link_numbers.proofs.far.FarSolo.{DoesSo, here}
use Rattle.link_numbers.proofs.far.FarWalk.{IsWhole}

module _ {L F : Type 0} (m : Machine L) (linked : L → Bool) (t : FarTable F) where
  abbrev W : Type 0
  W = FarWorld L F

  abbrev air : AirModel W
  air = far_air m linked t

  -- what is the same of two worlds of one device is the same in the midst of others
  module _ (Is : L → Type 0) (silent : (l : L) (f : Signal) → IsWhole f → Is l → IsSilent m linked t Is IsWhole l f) (dark : (l : L) → Is l → Is (m.darkened l)) where
    abbrev AmidOf : Around L F → W → W → Type 0
    AmidOf x w v = IsAmid m linked t Is IsWhole silent dark x w v

    dark_amid : (x : Around L F) (w w' v v' : W) → AmidOf x w w' → AmidOf x v v' → SameDark m linked t w' v' → SameDark m linked t w v
    dark_amid x w w' v v' a b e =
        let y : Around L F = around_dark m linked t x in
        let P : W → W = placed m linked t Is IsWhole silent dark y in
        let at : (z z' : W) → AmidOf x z z' → with_numbers (far_dark m linked t z) [] ≡ P (with_numbers (far_dark m linked t z') []) =
        λ z z' k. ap (λ u. with_numbers u []) (is_placed m linked t Is IsWhole silent dark y (far_dark m linked t z) (far_dark m linked t z') (darkened m linked t Is IsWhole silent dark x z z' k)) in
        record {
          lit = ap (λ (z : W). z.field.lit) (is_placed m linked t Is IsWhole silent dark x v v' b) ∙ e.lit ∙ sym (ap (λ (z : W). z.field.lit) (is_placed m linked t Is IsWhole silent dark x w w' a));
          dark = at v v' b ∙ ap P e.dark ∙ sym (at w w' a);
        }

    same_amid : (x : Around L F) (w w' v v' : W) → AmidOf x w w' → AmidOf x v v' → with_numbers v' [] ≡ with_numbers w' [] → with_numbers v [] ≡ with_numbers w []
    same_amid x w w' v v' a b e =
        let P : W → W = placed m linked t Is IsWhole silent dark x in
        ap (λ u. with_numbers u []) (is_placed m linked t Is IsWhole silent dark x v v' b) ∙ ap P e
        ∙ sym (ap (λ u. with_numbers u []) (is_placed m linked t Is IsWhole silent dark x w w' a))

    module _ (dev : TargetState → L) (does : DoesSo m linked t dev) {C : Type 0} (due : C → Next) (noted : C → Note → C)
        (Busy : C → InitState → Signal → Type 0) (Done : C → InitState → Type 0) (Off : C → Type 0) (Outs : C → Type 0) (laws : run.IsCarrying m linked t dev does due noted Busy Done Off Outs)
        (Good : F → Type 0) (reads : F → List ℕ → Bool) (numbered : IsNumbered t Good reads) (End : C → Type 0)
        (busy_goes_on : (c : C) (i : InitState) (f : Signal) → Busy c i f → End c → ⊥) (off_is_no_end : (c : C) → Off c → End c → ⊥)
        (Frames : C → Type 0) (frames : (c : C) (f : Signal) → Frames c → due c ≡ Asks f → IsWhole f) (frames_on : (c : C) (n : Note) → Frames c → Frames (noted c n))
        (never : (c : C) → due c ≡ LightUp → ⊥)
        (tail : (d : C) (j : InitState) (qs : List Made) (s : TargetState) (a : F) (ns ks : List ℕ) → Done d j → InStep j s → DuesFit m linked t due noted Outs (here m linked t dev s a ns) d qs
        → Shown m linked t due noted End (here m linked t dev s a ns) (here m linked t dev s a ks) d qs) where
      all_whole : (qs : List Made) (w : W) (c : C) → Frames c → Dues air due noted w c qs → AllAsk m linked t Is IsWhole silent dark qs
      all_whole [] w c k d = tt
      all_whole (q ∷ qs) w c k d =
          (frames c q.frame k d.1, all_whole qs (made_world air w q) (noted c (made_note air w q)) (frames_on c (made_note air w q) k) d.2)

      -- By these numbers the same turns are made from the world, and these are the same behind them.
      pub record ShowsWell (w : W) (ks : List ℕ) (c : C) (es : List Event) : Type 0 where
        pub turns : AreTurns air (with_numbers w ks) es
        pub alike : SameDark m linked t (replay air w es) (replay air (with_numbers w ks) es)
        pub done : End (noted_all noted c (receptions es)) → with_numbers (replay air (with_numbers w ks) es) [] ≡ with_numbers (replay air w es) []

      module _ (x : Around L F) (around : AreAround m linked t Is IsWhole x) (i : InitState) (s : TargetState) (a : F) (ns : List ℕ) (step : InStep i s) (most : 2 ≤ s.most) (ok : Good a)
          (c : C) (reply : List ℕ) (begins_so : run.Goes m linked t dev does due noted Busy Done Off Outs (Rests i reply) c) (starts : Frames c) (more : List Signal) where
        abbrev world : List ℕ → W
        world ks = amid m linked t x true (dev s) (Some a) ks

        abbrev apart : List ℕ → W
        apart ks = here m linked t dev s a ks

        amid_at : (ks : List ℕ) → AmidOf x (world ks) (apart ks)
        amid_at ks = record { lit = true; device = dev s; far = Some a; numbers = ks; here = refl; apart = refl; others = around }

        module _ (ks : List ℕ) (qs : List Made) (d : Dues air due noted (world ns) c qs) (fit : AllFit m linked t (world ns) qs) (outs : AllOut m linked t due noted Outs (world ns) c qs)
            (shown : ks ≡ shows (begins i.core.number) (answers_of (all_events air (world ns) qs) ++ more)) where
          whole : AllAsk m linked t Is IsWhole silent dark qs
          whole = all_whole qs (world ns) c starts d

          true_turns : (all_events air (world ns) qs ≡ all_events air (apart ns) qs)
              × AmidOf (around_all m linked t x (all_events air (apart ns) qs)) (all_world air (world ns) qs) (all_world air (apart ns) qs)
          true_turns = all_same m linked t Is IsWhole silent dark qs x (world ns) (apart ns) whole (amid_at ns)

          other_turns : (all_events air (world ks) qs ≡ all_events air (apart ks) qs)
              × AmidOf (around_all m linked t x (all_events air (apart ks) qs)) (all_world air (world ks) qs) (all_world air (apart ks) qs)
          other_turns = all_same m linked t Is IsWhole silent dark qs x (world ks) (apart ks) whole (amid_at ks)

          same : Shown m linked t due noted End (apart ns) (apart ks) c qs
          same =
              begins_same m linked t dev does due noted Busy Done Off Outs laws Good reads numbered End busy_goes_on off_is_no_end tail qs c i reply s a ns ks more begins_so step most ok
              (shown ∙ ap (λ es. shows (begins i.core.number) (answers_of es ++ more)) true_turns.0)
              (dues_fit m linked t Is IsWhole silent dark due noted Outs qs x (world ns) (apart ns) c whole (amid_at ns) d fit outs)

          same_events : all_events air (world ks) qs ≡ all_events air (world ns) qs
          same_events = other_turns.0 ∙ same.events ∙ sym true_turns.0

          other_amid : AmidOf (around_all m linked t x (all_events air (apart ns) qs)) (all_world air (world ks) qs) (all_world air (apart ks) qs)
          other_amid = subst (λ es. AmidOf (around_all m linked t x es) (all_world air (world ks) qs) (all_world air (apart ks) qs)) same.events other_turns.1

          shows_well : ShowsWell (world ns) ks c (all_events air (world ns) qs)
          shows_well = record {
            turns = subst (AreTurns air (world ks)) same_events (all_turns air (world ks) qs (lit_amid m linked t Is IsWhole silent dark qs x (world ks) (apart ks) whole (amid_at ks) same.lit));
            alike = subst (λ z. SameDark m linked t z (replay air (world ks) (all_events air (world ns) qs))) (sym (all_replayed air (world ns) qs))
                (subst (λ z. SameDark m linked t (all_world air (world ns) qs) z) (sym replayed)
                (dark_amid (around_all m linked t x (all_events air (apart ns) qs)) (all_world air (world ns) qs) (all_world air (apart ns) qs) (all_world air (world ks) qs) (all_world air
                (apart ks) qs)
                true_turns.1 other_amid same.alike));
            done = λ e.
                ap (λ z. with_numbers z []) replayed
                ∙ same_amid (around_all m linked t x (all_events air (apart ns) qs)) (all_world air (world ns) qs) (all_world air (apart ns) qs) (all_world air (world ks) qs) (all_world air
                (apart ks) qs)
                true_turns.1 other_amid (same.done (subst End (all_known air due noted (world ns) c qs
                ∙ noted_alone m linked t Is IsWhole silent dark due noted qs x (world ns) (apart ns) c whole (amid_at ns)) e))
                ∙ sym (ap (λ z. with_numbers z []) (all_replayed air (world ns) qs));
          }
            where
              replayed : replay air (world ks) (all_events air (world ns) qs) ≡ all_world air (world ks) qs
              replayed = ap (replay air (world ks)) (sym same_events) ∙ all_replayed air (world ks) qs

        pub far_law : (ks : List ℕ) (es : List Event) (next : List Note → Next) → ((hs : List Note) → next hs ≡ due (noted_all noted c hs)) → AreTurns air (world ns) es → EachDue next [] es
            → RepliesFit m linked t (world ns) es
            → ((before : List Event) (f : Signal) (x : Fate) (rest : List Event) → es ≡ before ++ Request f x ∷ rest → Outs (noted_all noted c (receptions before)))
            → ks ≡ shows (begins i.core.number) (answers_of es ++ more) → ShowsWell (world ns) ks c es
        far_law ks es next is turns each fit outs shown =
            let a : AreMade air due noted (world ns) c es = are_made air due noted never c next is (world ns) es turns each in
            subst (ShowsWell (world ns) ks c) (sym a.events)
            (shows_well ks a.made a.dues (all_fit m linked t a.made (world ns) (subst (RepliesFit m linked t (world ns)) a.events fit))
            (all_out m linked t due noted Outs c es outs a.made (world ns) [] a.events) (shown ∙ ap (λ z. shows (begins i.core.number) (answers_of z ++ more)) a.events))
