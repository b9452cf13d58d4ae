-- The numbers that a peer's answers show are as good as the true ones while a walk carries payloads to it, whoever gives them.
use Rattle.std.proofs.Common.{◌≡◌, ℕ, ◌≤◌, Bool, true, List, [], ◌∷◌, ◌++◌, Some, refl, ap, subst}
use Rattle.nfc_base.specs.Signal.{Signal}
use Rattle.nfc_base.specs.declared.event.Event.{Event}
use Rattle.nfc_base.specs.declared.event.Event.TheVariants.{Request}
use Rattle.nfc_base.specs.declared.event.Fate.{Fate}
use Rattle.air_core.specs.Conversation.{AirModel, AreTurns, EachDue, receptions, replay}
use Rattle.air_core.specs.World.{Machine}
use Rattle.dep_link.specs.Exchange.{InStep}
use Rattle.dep_link.specs.Initiator.{InitState}
use Rattle.dep_link.specs.Target.{TargetState}
use Rattle.far_air.specs.FarEnds.{FarTable}
use Rattle.far_air.specs.FarWorld.{FarWorld, far_air, with_numbers}
use Rattle.link_calls.specs.Walk.{Course, Giver, Walk, walk_at, walk_due, walk_due_at, walk_noted, walk_stand}
use Rattle.link_numbers.specs.Shown.{answers_of, far_shown, numbers, pieces_of}
use Rattle.dep_link.specs.Payloads.{begins}
use Rattle.dep_link.specs.Replies.{cut_up}
use Rattle.link_numbers.proofs.far.FarAlone.{Around, AreAround, IsSilent, amid}
use Rattle.link_numbers.proofs.far.FarCourse.{Made}
use Rattle.link_numbers.proofs.far.FarLaw.{far_law}
use Rattle.link_numbers.proofs.far.FarFit.{DuesFit, RepliesFit}
use Rattle.link_numbers.proofs.far.FarRun as run
use Rattle.link_numbers.proofs.far.FarSame.{IsNumbered}
use Rattle.link_numbers.proofs.far.FarShown.{SameDark, Shown, same_dark, shown_none}
use Rattle.link_numbers.proofs.far.FarShows.{answers_append}
use Rattle.link_numbers.proofs.far.FarSolo.{DoesSo, here}
use Rattle.link_numbers.proofs.far.FarWalk.{Busy, Done, HasCome, IsWholeWalk, Off, Outs, at_whole, busy_asks, busy_has_more, done_due, off_due, off_has_more, walk_all, walk_asks, walk_goes}
use Rattle.link_numbers.proofs.far.FarWalk.{walk_never, walk_starts, walk_whole, IsWhole}

module _ {L F : Type 0} (m : Machine L) (linked : L → Bool) (t : FarTable F) (dev : TargetState → L) (does : DoesSo m linked t dev)
    (Good : F → Type 0) (reads : F → List ℕ → Bool) (numbered : IsNumbered t Good reads)
    {W E : Type 0} (g : Giver W E) where
  abbrev air : AirModel (FarWorld L F)
  air = far_air m linked t

  abbrev C : Type 0
  C = Walk W E

  abbrev BusyAt : C → InitState → Signal → Type 0
  BusyAt c i f = Busy g c i f

  abbrev DoneAt : C → InitState → Type 0
  DoneAt c i = Done g c i

  abbrev OffAt : C → Type 0
  OffAt c = Off g c

  carries : run.IsCarrying m linked t dev does walk_due_at (walk_noted g) BusyAt DoneAt OffAt (Outs g)
  carries = record {
    asks = λ c i f b. busy_asks g c i f b;
    goes = λ c i f b n. walk_goes g c i f b n;
    off = λ c f o e. off_due g c f o e;
  }

  -- nothing is due at its end
  tail : (d : C) (j : InitState) (qs : List Made) (s : TargetState) (a : F) (ns ks : List ℕ) → DoneAt d j → InStep j s
      → DuesFit m linked t walk_due_at (walk_noted g) (Outs g) (here m linked t dev s a ns) d qs
      → Shown m linked t walk_due_at (walk_noted g) (HasCome g) (here m linked t dev s a ns) (here m linked t dev s a ks) d qs
  tail d j [] s a ns ks done step k =
      shown_none m linked t walk_due_at (walk_noted g) (HasCome g) (here m linked t dev s a ns) (here m linked t dev s a ks) d [] refl (same_dark m linked t dev does s a ns ks) (λ e. refl)
  tail d j (q ∷ qs) s a ns ks done step k = absurd (done_due g d j q.frame done k.1)

  module _ (Is : L → Type 0) (silent : (l : L) (f : Signal) → IsWhole f → Is l → IsSilent m linked t Is IsWhole l f) (dark : (l : L) → Is l → Is (m.darkened l))
      (x : Around L F) (around : AreAround m linked t Is IsWhole x) (i : InitState) (s : TargetState) (a : F) (ns : List ℕ) (step : InStep i s) (most : 2 ≤ s.most) (ok : Good a)
      (from : Course W E) (es more : List Event) where
    abbrev world : List ℕ → FarWorld L F
    world ks = amid m linked t x true (dev s) (Some a) ks

    -- the numbers that are shown, also by what stands behind
    abbrev ks : List ℕ
    ks = far_shown i.core.number (es ++ more)

    -- By them the same turns are made. Behind these both worlds have the same light, and are the same in the dark but for the numbers that are left; where the walk
    -- came to its end they are so at once.
    pub record WalksWell : Type 0 where
      pub turns : AreTurns air (with_numbers (world ns) ks) es
      pub alike : SameDark m linked t (replay air (world ns) es) (replay air (with_numbers (world ns) ks) es)
      pub done : HasCome g (walk_stand g from i (receptions es)) → with_numbers (replay air (with_numbers (world ns) ks) es) [] ≡ with_numbers (replay air (world ns) es) []

    pub walks_well : AreTurns air (world ns) es → EachDue (walk_due g from i) [] es → RepliesFit m linked t (world ns) es
        → ((before : List Event) (f : Signal) (y : Fate) (rest : List Event) → es ≡ before ++ Request f y ∷ rest → Outs g (walk_stand g from i (receptions before))) → WalksWell
    walks_well turns each fit outs =
        let k = far_law m linked t Is silent dark dev does walk_due_at (walk_noted g) BusyAt DoneAt OffAt (Outs g) carries Good reads numbered (HasCome g)
        (λ c j f b e. busy_has_more g c j f b e) (λ c o e. off_has_more g c o e) (IsWholeWalk g) (λ c f w e. walk_asks g c f w e) (λ c n w. walk_whole g c n w)
        (λ c e. walk_never g c e) tail x around i s a ns step most ok (walk_at g from i) [] (walk_starts g from i) (at_whole g from i) (answers_of more) ks es (walk_due g from i)
        (λ hs. ap walk_due_at (walk_all g (walk_at g from i) hs)) turns each fit
        (λ before f y rest e. subst (Outs g) (walk_all g (walk_at g from i) (receptions before)) (outs before f y rest e)) (ap (λ fs. numbers (cut_up (begins i.core.number) (pieces_of fs)))
        (answers_append es more)) in
        record { turns = k.turns; alike = k.alike; done = λ e. k.done (subst (HasCome g) (walk_all g (walk_at g from i) (receptions es)) e) }
