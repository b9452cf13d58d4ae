-- Turns of which each transmission passes.
use Rattle.std.proofs.Common.{◌≡◌, List, [], ◌∷◌, refl, ◌∙◌, ap}
use Rattle.std.specs.List.{AllByRecursion}
use Rattle.nfc_base.specs.Signal.{Signal}
use Rattle.nfc_base.specs.declared.event.Event.{Event}
use Rattle.nfc_base.specs.declared.event.Event.TheVariants.{Reset, Request, Answer, Clash}
use Rattle.nfc_base.specs.declared.event.Fate.{Fate}
use Rattle.nfc_base.specs.declared.event.Fate.TheVariants.{Pass}
use Rattle.air_core.specs.Conversation.{AirModel, first_fate, later_fates, queue_after, turn_events, turn_heard}
use Rattle.bench_devices.proofs.turns.Walk.{fated}

abbrev pub Passing : List Fate → Type 0
Passing fates = AllByRecursion (λ x. x ≡ Pass) fates

pub first_passes : (q : List Fate) → Passing q → first_fate q ≡ Pass
first_passes [] h = refl
first_passes (x ∷ q) h = h.0

pub later_passing : (q : List Fate) → Passing q → Passing (later_fates q)
later_passing [] h = tt
later_passing (x ∷ q) h = h.1

pub left_passing : (q : List Fate) (es : List Event) → Passing q → Passing (queue_after q es)
left_passing q [] h = h
left_passing q (Reset ∷ es) h = left_passing q es h
left_passing q (Request g x ∷ es) h = left_passing (later_fates q) es (later_passing q h)
left_passing q (Answer g x ∷ es) h = left_passing (later_fates q) es (later_passing q h)
left_passing q (Clash g x ∷ es) h = left_passing (later_fates q) es (later_passing q h)

module _ {W : Type 0} (m : AirModel W) where
  -- where all passes, such a turn passes
  pub fated_passes : (q : List Fate) (w : W) (f : Signal) → Passing q → fated m q w f ≡ turn_events m w f Pass Pass
  fated_passes q w f h =
      ap (λ z. turn_events m w f z (first_fate (later_fates q))) (first_passes q h) ∙ ap (turn_events m w f Pass) (first_passes (later_fates q) (later_passing q h))

  pub told_passes : (q : List Fate) (w : W) (f : Signal) → Passing q → turn_heard m w f (first_fate q) (first_fate (later_fates q)) ≡ turn_heard m w f Pass Pass
  told_passes q w f h =
      ap (λ z. turn_heard m w f z (first_fate (later_fates q))) (first_passes q h) ∙ ap (turn_heard m w f Pass) (first_passes (later_fates q) (later_passing q h))
