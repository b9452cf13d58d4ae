-- One peer alone in a lit field, turn by turn, in two worlds in which it does the same.
use Rattle.std.proofs.Common.{◌≡◌, ℕ, List, [], ◌∷◌, Bool, true, Option, Some, None, refl, sym, ◌∙◌, ap}
use Rattle.arrayvec.specs.ArrayVec.{ArrayVec}
use Rattle.nfc_base.specs.Choosing.{first_number, later_numbers}
use Rattle.nfc_base.specs.Far.{FarUse}
use Rattle.nfc_base.specs.Signal.{Signal, whole_a}
use Rattle.nfc_base.specs.Trace.{heard_at, heard_by}
use Rattle.nfc_base.specs.declared.event.Event.{Event}
use Rattle.nfc_base.specs.declared.event.Event.TheVariants.{Request, Answer}
use Rattle.nfc_base.specs.declared.event.Fate.{Fate}
use Rattle.nfc_base.specs.declared.event.Fate.TheVariants.{Pass}
use Rattle.nfc_base.specs.declared.event.Heard.TheVariants as heards
use Rattle.air_core.specs.Joint.{joint}
use Rattle.air_core.specs.Conversation.{note, joint_back, joint_events, replay}
use Rattle.air_core.specs.World.{Machine, hands_over, answered_by, stepped_by}
use Rattle.dep_link.specs.declared.target.TargetStep.TheVariants as steps
use Rattle.dep_link.specs.Frames.{air_frame}
use Rattle.dep_link.specs.Peers.{target_use}
use Rattle.dep_link.specs.Target.{TargetState, target_table, replied, reply_frame}
use Rattle.far_air.specs.FarEnds.{FarTable, numbers_left, reply_to, moved, by_link}
use Rattle.far_air.specs.FarWorld.{FarWorld, AllMet, met_first, meeting, far_stepped, far_came_back, far_air}
use Rattle.link_numbers.proofs.far.FarAlone.{alone}
use Rattle.link_numbers.proofs.far.FarCourse.{Made, made_events, made_note, made_world}

-- the target whose reply has these bytes left
abbrev pub leaving : TargetState → List ℕ → TargetState
leaving s l = record s { left = l }

module _ {L F : Type 0} (m : Machine L) (linked : L → Bool) (t : FarTable F) (dev : TargetState → L) where
  -- A device does what its target's table says, with its far end's reply; it has a link, and what is left of a reply goes in the dark.
  pub record DoesSo : Type 0 where
    pub hands : (s : TargetState) (f : Signal) → f ≡ whole_a f.bytes → hands_over m (dev s) f ≡ target_use (target_table s f).does
    pub replies : (s : TargetState) (f g : Signal) → f ≡ whole_a f.bytes → (target_table s f).does ≡ steps.Reply g
        → (answered_by m (dev s) f None ≡ Some g) × (stepped_by m (dev s) f None ≡ dev (target_table s f).state)
    pub delivers : (s : TargetState) (f : Signal) (p : ArrayVec ℕ) (r : List ℕ) → f ≡ whole_a f.bytes → (target_table s f).does ≡ steps.Deliver p
        → (answered_by m (dev s) f (Some r) ≡ Some (air_frame (reply_frame (target_table s f).state r)))
        × (stepped_by m (dev s) f (Some r) ≡ dev (replied (target_table s f).state r))
    pub has_link : (s : TargetState) → linked (dev s) ≡ true
    pub dark : (s : TargetState) (l : List ℕ) → m.darkened (dev (leaving s l)) ≡ m.darkened (dev s)

  -- the world of the device alone
  abbrev pub here : TargetState → F → List ℕ → FarWorld L F
  here s a ns = alone m linked t true (dev s) (Some a) ns

  -- A request that passes makes that world of this one, and is answered by g.
  pub record Stepped (w : FarWorld L F) (f : Signal) (v : FarWorld L F) (g : Signal) : Type 0 where
    pub world : far_stepped m linked t w f ≡ v
    pub said : (meeting m linked t w f).answers ≡ g ∷ []

  met_step : (w v : FarWorld L F) (f g : Signal) → v.field.lit ≡ w.field.lit
      → meeting m linked t w f ≡ record { listeners = v.field.listeners; fars = v.fars; answers = g ∷ []; numbers = v.numbers } → Stepped w f v g
  met_step w v f g lit e = record {
    world =
        ap (λ (z : AllMet L F). record { field = record { lit = w.field.lit; listeners = z.listeners }; fars = z.fars; numbers = z.numbers }) e
        ∙ ap (λ (b : Bool). record { field = record { lit = b; listeners = v.field.listeners }; fars = v.fars; numbers = v.numbers }) (sym lit);
    said = ap (λ (z : AllMet L F). z.answers) e;
  }

  module _ (does : DoesSo) (s : TargetState) (a : F) (ns : List ℕ) (f : Signal) (whole : f ≡ whole_a f.bytes) where
    -- how the device meets the frame, by what it hands over
    abbrev met_by : FarUse → AllMet L F
    met_by u =
        let r : Option (List ℕ) = reply_to t u (Some a) (first_number ns) in
        let d : L = stepped_by m (dev s) f r in
        met_first d (by_link t (linked d) (moved t u (Some a) (first_number ns))) (answered_by m (dev s) f r)
        (record { listeners = []; fars = []; answers = []; numbers = numbers_left r ns })

    abbrev met_as : L → Option F → Option Signal → List ℕ → AllMet L F
    met_as d o answer ks = met_first d o answer (record { listeners = []; fars = []; answers = []; numbers = ks })

    met_now : (d : L) (s' : TargetState) (o : F) (answer : Option Signal) (g : Signal) (ks : List ℕ) → d ≡ dev s' → answer ≡ Some g
        → met_as d (by_link t (linked d) (Some o)) answer ks ≡ met_as (dev s') (Some o) (Some g) ks
    met_now d s' o answer g ks e h =
        ap (λ z. met_as z (by_link t (linked z) (Some o)) answer ks) e
        ∙ ap (λ (b : Bool). met_as (dev s') (by_link t b (Some o)) answer ks) (does.has_link s')
        ∙ ap (λ z. met_as (dev s') (Some o) z ks) h

    pub step_says : (g : Signal) → (target_table s f).does ≡ steps.Reply g → Stepped (here s a ns) f (here (target_table s f).state a ns) g
    step_says g e =
        let k = does.replies s f g whole e in
        met_step (here s a ns) (here (target_table s f).state a ns) f g refl
        (ap met_by (does.hands s f whole ∙ ap target_use e) ∙ met_now (stepped_by m (dev s) f None) (target_table s f).state a (answered_by m (dev s) f None) g ns k.1 k.0)

    pub step_hands : (p : ArrayVec ℕ) (r : List ℕ) → (target_table s f).does ≡ steps.Deliver p → r ≡ t.reply a p.items (first_number ns)
        → Stepped (here s a ns) f (here (replied (target_table s f).state r) (t.left a p.items (first_number ns)) (later_numbers ns)) (air_frame (reply_frame (target_table s f).state r))
    step_hands p r e is =
        let k = does.delivers s f p r whole e in
        let s' : TargetState = replied (target_table s f).state r in
        let b : F = t.left a p.items (first_number ns) in
        let by_reply : List ℕ → AllMet L F = λ x. met_as (stepped_by m (dev s) f (Some x)) (by_link t (linked (stepped_by m (dev s) f (Some x))) (Some b)) (answered_by m (dev s) f (Some x))
        (later_numbers ns) in
        met_step (here s a ns) (here s' b (later_numbers ns)) f (air_frame (reply_frame (target_table s f).state r)) refl
        (ap met_by (does.hands s f whole ∙ ap target_use e) ∙ ap by_reply (sym is)
        ∙ met_now (stepped_by m (dev s) f (Some r)) s' b (answered_by m (dev s) f (Some r)) (air_frame (reply_frame (target_table s f).state r)) (later_numbers ns) k.1 k.0)

  -- the turn of a request that passes
  abbrev pub passing : Signal → Fate → Made
  passing f y = record { frame = f; fate = Pass; back = y }

  pub step_events : (w v : FarWorld L F) (f g : Signal) (y : Fate) → Stepped w f v g → made_events (far_air m linked t) w (passing f y) ≡ Request f Pass ∷ Answer g y ∷ []
  step_events w v f g y k = ap (λ gs. Request f Pass ∷ joint_events (joint gs) y) k.said

  pub step_note : (w v : FarWorld L F) (f g : Signal) (y : Fate) → Stepped w f v g → made_note (far_air m linked t) w (passing f y) ≡ note (heard_at y (heards.Whole g))
  step_note w v f g y k = ap (λ gs. note (heard_by Pass (joint_back (joint gs) y))) k.said

  pub step_world : (w v : FarWorld L F) (f g : Signal) (y : Fate) → Stepped w f v g → made_world (far_air m linked t) w (passing f y) ≡ far_came_back m linked t v y
  step_world w v f g y k =
      ap (λ gs. replay_back (joint_events (joint gs) y)) k.said ∙ ap (λ z. far_came_back m linked t z y) k.world
    where
      replay_back : List Event → FarWorld L F
      replay_back es = replay (far_air m linked t) (far_stepped m linked t w f) es
