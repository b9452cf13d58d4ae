-- A command that selects a tag and is broken off at its first transmission changed no store: it is a reset and one request.
use Rattle.std.proofs.Common.{◌≡◌, List, [], ◌∷◌, ◌++◌, map, Bool, true, false, if◌then◌else◌, refl, sym, ◌∙◌, ap}
use Rattle.nfc_base.specs.Signal.{Signal}
use Rattle.nfc_base.specs.Trace.{back_of}
use Rattle.nfc_base.specs.Trace as backs
use Rattle.nfc_base.specs.declared.event.Event.{Event}
use Rattle.nfc_base.specs.declared.event.Event.TheVariants.{Reset, Request, Answer, Clash}
use Rattle.nfc_base.specs.declared.event.Fate.{Fate}
use Rattle.nfc_base.specs.declared.event.Fate.TheVariants.{Pass, Damage, Lose, Break}
use Rattle.air_core.specs.World.{requested, came_back}
use Rattle.air_core.specs.Conversation.{AirModel, Note, Lit, Lost, Over, LightUp, Asks, AreTurns, EachDue, FatesFrom, Move, Light, Ask, trace_of, turn_events, replay, receptions}
use Rattle.air_core.proofs.Following.{trace_first, light_is_no_request, over_is_no_request, over_is_no_light}
use Rattle.bench_script.specs.declared.command.DeviceId.{DeviceId}
use Rattle.bench_script.specs.declared.command.DeviceId.TheVariants.{A, V}
use Rattle.bench_devices.specs.declared.device.Device.{Device}
use Rattle.bench_devices.specs.Device.{BenchWorld, air, devices}
use Rattle.bench_devices.specs.Keeping.{kept}
use Rattle.bench_devices.specs.TagAsking.{tag_due}
use Rattle.bench_devices.proofs.finding.SelectingKept.{kept_dark, kept_relit}

-- Selecting begins with a reset, another one isn't due before a request, and behind a Break nothing is due.
no_request_first : (id : DeviceId) (asked : List Signal) (f : Signal) → tag_due id asked [] ≡ Asks f → ⊥
no_request_first (A id) asked f e = light_is_no_request f e
no_request_first (V id) asked f e = light_is_no_request f e

lit_once : (id : DeviceId) (asked : List Signal) → tag_due id asked (Lit ∷ []) ≡ LightUp → ⊥
lit_once (A id) asked e = light_is_no_request _ (sym e)
lit_once (V id) asked e = light_is_no_request _ (sym e)

over_behind : (id : DeviceId) (asked : List Signal) (ns : List Note) → tag_due id asked (Lit ∷ Lost ∷ ns) ≡ Over
over_behind (A id) asked ns = refl
over_behind (V id) asked ns = refl

-- in the dark all that stays of a device does, and whatever comes back
dark_keeps : (ds : List Device) → map kept (map devices.darkened ds) ≡ map kept ds
dark_keeps [] = refl
dark_keeps (d ∷ ds) = ap (λ k. k ∷ map kept (map devices.darkened ds)) (kept_dark d) ∙ ap (λ ks. kept d ∷ ks) (dark_keeps ds)

back_keeps : (w : BenchWorld) (x : Fate) → map kept (came_back devices w x).listeners ≡ map kept w.listeners
back_keeps w Pass = refl
back_keeps w Damage = refl
back_keeps w Lose = refl
back_keeps w Break = dark_keeps w.listeners

-- behind a reset no answer comes
behind_reset : {W : Type 0} (m : AirModel W) (w : W) (ks : List (Move m)) (es : List Event) → Reset ∷ es ≡ trace_of m w ks → back_of es ≡ backs.Nothing
behind_reset m w [] es made = absurd cc
behind_reset m w (Light ∷ ks) es made =
    let rest : es ≡ trace_of m (m.happens w Reset) ks = cc in
    ap back_of rest ∙ trace_first m (m.happens w Reset) ks
behind_reset m w (Ask f x y ∷ ks) es made = by_light (m.lit w) (behind_reset m w ks es) made
  where
    by_light : (v : Bool) → (Reset ∷ es ≡ trace_of m w ks → back_of es ≡ backs.Nothing)
        → Reset ∷ es ≡ (if v then turn_events m w f x y else []) ++ trace_of m (replay m w (if v then turn_events m w f x y else [])) ks → back_of es ≡ backs.Nothing
    by_light true dark e = absurd cc
    by_light false dark e = dark e

module _ (id : DeviceId) (asked : List Signal) where
  abbrev Keeps : BenchWorld → List Event → Type 0
  Keeps w es = map kept (replay air w es).listeners ≡ map kept w.listeners

  -- behind the Break
  behind_keep : (f : Signal) (before es : List Event) (w : BenchWorld) → EachDue (tag_due id asked) (Reset ∷ Request f Break ∷ before) es → Keeps w es
  behind_keep f before [] w each = refl
  behind_keep f before (Reset ∷ es) w each = absurd (over_is_no_light (sym (over_behind id asked (receptions before)) ∙ each.0))
  behind_keep f before (Request g x ∷ es) w each = absurd (over_is_no_request g (sym (over_behind id asked (receptions before)) ∙ each.0))
  behind_keep f before (Answer g x ∷ es) w each = behind_keep f (before ++ Answer g x ∷ []) es (air.happens w (Answer g x)) each ∙ back_keeps w x
  behind_keep f before (Clash g x ∷ es) w each = behind_keep f (before ++ Clash g x ∷ []) es (air.happens w (Clash g x)) each ∙ back_keeps w x

  -- behind the reset
  lit_keep : (es : List Event) (w : BenchWorld) → back_of es ≡ backs.Nothing → EachDue (tag_due id asked) (Reset ∷ []) es → FatesFrom (Break ∷ []) es → Keeps w es
  lit_keep [] w first each fates = refl
  lit_keep (Reset ∷ es) w first each fates = absurd (lit_once id asked each.0)
  lit_keep (Request f Pass ∷ es) w first each fates = absurd (let clash : ◌≡◌ {A = Fate} Pass Break = fates.0 in cc)
  lit_keep (Request f Damage ∷ es) w first each fates = absurd (let clash : ◌≡◌ {A = Fate} Damage Break = fates.0 in cc)
  lit_keep (Request f Lose ∷ es) w first each fates = absurd (let clash : ◌≡◌ {A = Fate} Lose Break = fates.0 in cc)
  lit_keep (Request f Break ∷ es) w first each fates = behind_keep f [] es (requested devices w f Break) each.1 ∙ dark_keeps w.listeners
  lit_keep (Answer g x ∷ es) w first each fates = absurd cc
  lit_keep (Clash g x ∷ es) w first each fates = absurd cc

  -- So all that stays of each device does.
  pub first_broken : {W : Type 0} (m : AirModel W) (begun : W) (es : List Event) (w : BenchWorld) → AreTurns m begun es → EachDue (tag_due id asked) [] es → FatesFrom (Break ∷ []) es → Keeps w es
  first_broken m begun [] w turns each fates = refl
  first_broken m begun (Reset ∷ es) w turns each fates = lit_keep es (air.happens w Reset) (behind_reset m begun turns.moves es turns.made) each.1 fates ∙ kept_relit w.listeners
  first_broken m begun (Request f x ∷ es) w turns each fates = absurd (no_request_first id asked f each.0)
  first_broken m begun (Answer g x ∷ es) w turns each fates = absurd (let clash : back_of (Answer g x ∷ es) ≡ backs.Nothing = ap back_of turns.made ∙ trace_first m begun turns.moves in cc)
  first_broken m begun (Clash g x ∷ es) w turns each fates = absurd (let clash : back_of (Clash g x ∷ es) ≡ backs.Nothing = ap back_of turns.made ∙ trace_first m begun turns.moves in cc)
