-- A turn from its parts.
use Rattle.std.proofs.Common.{◌≡◌, ℕ, List, [], ◌∷◌, ◌++◌, Bool, true, Option, Some, None, Result, Ok, Err, refl, sym, ◌∙◌, ap, subst, inr, append-nil}
use Rattle.nfc_base.specs.Signal.{Signal}
use Rattle.nfc_base.specs.Trace.{heard_by, heard_at}
use Rattle.nfc_base.specs.declared.event.Event.{Event}
use Rattle.nfc_base.specs.declared.event.Event.TheVariants.{Request, Answer, Clash}
use Rattle.nfc_base.specs.declared.event.Fate.{Fate}
use Rattle.nfc_base.specs.declared.event.Fate.TheVariants.{Pass, Damage, Lose, Break}
use Rattle.nfc_base.specs.declared.event.Heard.{Heard}
use Rattle.nfc_base.specs.declared.event.Heard.TheVariants.{Whole, Collided, Damaged, Silent}
use Rattle.air_core.specs.Joint.{Joint, Nothing, Single, Clashing, joint}
use Rattle.air_core.specs.World.{Machine, World, came_back}
use Rattle.air_core.specs.Conversation.{first_fate, later_fates, joint_back, joint_events}
use Rattle.air_core.specs.private.Settling.{settled}
use Rattle.air_core.specs.Turn.{Air, world, after_event, brought, HearAll, HearSome, Passes, TurnBy, TurnIs, Transmits}
use Rattle.air_core.specs.declared.fault.AirFault.{AirFault}
use Rattle.air_core.specs.declared.fault.AirFault.TheVariants.{Memory}

air_of : {L : Type 0} (new : Air L) (w : World L) (fates : List Fate) (trace : List Event) → world new ≡ w → new.fates ≡ fates → new.trace ≡ trace
    → new ≡ record { lit = w.lit; listeners = w.listeners; fates = fates; trace = trace }
air_of {L} new w fates trace is f t =
    let B : World L → List Fate → List Event → Air L = λ v x y. record { lit = v.lit; listeners = v.listeners; fates = x; trace = y } in
    ap (λ v. B v new.fates new.trace) is ∙ ap (λ x. B w x new.trace) f ∙ ap (λ y. B w fates y) t

-- what is brought back is one event, or none
pub brought_appends : {L : Type 0} (m : Machine L) (a : Air L) (j : Joint) (y : Fate) → (brought m a j y).trace ≡ a.trace ++ joint_events j y
brought_appends m a Nothing y = sym (append-nil a.trace)
brought_appends m a (Single g) y = refl
brought_appends m a (Clashing g) y = refl

-- the air once a request has passed and these are the listeners
abbrev pub passed : {L : Type 0} → Air L → Signal → List L → Air L
passed old f ls = after_event old (Request f Pass) (later_fates old.fates) (record { lit = true; listeners = ls })

module _ {L A : Type 0} (m : Machine L) (restarts : A → List ℕ → A → Type 0) (steps : A → List ℕ → List ℕ → A → Type 0) (stops : A → List ℕ → A → Type 0) (is_stuck : A → Bool) (old : Air L)
    (f : Signal) (far : A) where
  turn_passes : (new : Air L) (far' : A) (answers : List Signal) (ls : List L) (j : Joint) (y : Fate) (heard : Option Heard)
      → old.lit ≡ true → first_fate old.fates ≡ Pass → HearAll m restarts steps f old.listeners far answers ls far' → j ≡ joint answers → y ≡ first_fate (later_fates old.fates)
      → heard ≡ heard_by Pass (joint_back j y) → new ≡ brought m (passed old f ls) j y → TurnIs m restarts steps old f far heard new far'
  turn_passes new far' answers ls j y heard lit pass all joins fate back left =
      let P : Fate → Type 0 = λ x. TurnBy m restarts steps x old f far heard new far' in
      let by : Passes m restarts steps old f far heard new far' = record {
        answers = answers;
        listeners = ls;
        all = all;
        back = back ∙ ap (λ t. heard_by Pass (joint_back t y)) joins ∙ ap (λ t. heard_by Pass (joint_back (joint answers) t)) fate;
        left = left ∙ ap (λ t. brought m (passed old f ls) t y) joins ∙ ap (brought m (passed old f ls) (joint answers)) fate;
      } in
      record { lit = lit; by = subst P (sym pass) by }

  hears : (begin : List L) (far' : A) (answers : List Signal) (ls : List L) → begin ≡ old.listeners → HearAll m restarts steps f begin far answers ls far'
      → HearAll m restarts steps f old.listeners far answers ls far'
  hears begin far' answers ls from all = let P : List L → Type 0 = λ t. HearAll m restarts steps f t far answers ls far' in subst P from all

  -- silence
  pub transmits_silence : (begin : List L) (new : Air L) (far' : A) (answers : List Signal) (ls : List L)
      → old.lit ≡ true → first_fate old.fates ≡ Pass → begin ≡ old.listeners → HearAll m restarts steps f begin far answers ls far' → Nothing ≡ joint answers
      → new ≡ passed old f ls → Transmits m restarts steps stops is_stuck old f far (Ok Silent) new far'
  transmits_silence begin new far' answers ls lit pass from all joins left = turn_passes new far' answers ls Nothing (first_fate (later_fates old.fates)) (Some Silent) lit pass
      (hears begin far' answers ls from all) joins refl refl left

  settles : (new : Air L) (far' : A) (r : Result Heard AirFault) (h : Heard) (y : Fate) (told : Fate → Option Heard)
      → told Pass ≡ Some h → told Damage ≡ Some Damaged → told Lose ≡ Some Silent → told Break ≡ None
      → r ≡ settled h y → ((heard : Option Heard) → heard ≡ told y → TurnIs m restarts steps old f far heard new far') → Transmits m restarts steps stops is_stuck old f far r new far'
  settles new far' r h y told a b c d is turn =
      let P : Result Heard AirFault → Type 0 = λ t. Transmits m restarts steps stops is_stuck old f far t new far' in
      subst P (sym is) (by_fate y turn)
    where
      by_fate : (x : Fate) → ((heard : Option Heard) → heard ≡ told x → TurnIs m restarts steps old f far heard new far') → Transmits m restarts steps stops is_stuck old f far (settled h x) new far'
      by_fate Pass t = t (Some h) (sym a)
      by_fate Damage t = t (Some Damaged) (sym b)
      by_fate Lose t = t (Some Silent) (sym c)
      by_fate Break t = inr (t None (sym d))

  -- one answer, or equal ones
  pub transmits_answer : (begin : List L) (new : Air L) (far' : A) (answers : List Signal) (ls : List L) (r : Result Heard AirFault) (g : Signal) (y : Fate)
      → old.lit ≡ true → first_fate old.fates ≡ Pass → begin ≡ old.listeners → HearAll m restarts steps f begin far answers ls far' → Single g ≡ joint answers → y ≡ first_fate (later_fates old.fates)
      → r ≡ settled (Whole g) y → world new ≡ came_back m (record { lit = true; listeners = ls }) y → new.fates ≡ later_fates (later_fates old.fates)
      → new.trace ≡ (old.trace ++ Request f Pass ∷ []) ++ Answer g y ∷ [] → Transmits m restarts steps stops is_stuck old f far r new far'
  transmits_answer begin new far' answers ls r g y lit pass from all joins fate is w q t =
      let left : new ≡ brought m (passed old f ls) (Single g) y = air_of new (came_back m (record { lit = true; listeners = ls }) y) (later_fates (later_fates old.fates))
      ((old.trace ++ Request f Pass ∷ []) ++ Answer g y ∷ []) w q t in
      settles new far' r (Whole g) y (λ z. heard_at z (Whole g)) refl refl refl refl is (λ heard e. turn_passes new far' answers ls (Single g) y heard lit pass (hears begin far' answers ls from all)
      joins fate e left)

  -- different ones
  pub transmits_clash : (begin : List L) (new : Air L) (far' : A) (answers : List Signal) (ls : List L) (r : Result Heard AirFault) (g : Signal) (y : Fate)
      → old.lit ≡ true → first_fate old.fates ≡ Pass → begin ≡ old.listeners → HearAll m restarts steps f begin far answers ls far' → Clashing g ≡ joint answers
      → y ≡ first_fate (later_fates old.fates)
      → r ≡ settled (Collided g) y → world new ≡ came_back m (record { lit = true; listeners = ls }) y → new.fates ≡ later_fates (later_fates old.fates)
      → new.trace ≡ (old.trace ++ Request f Pass ∷ []) ++ Clash g y ∷ [] → Transmits m restarts steps stops is_stuck old f far r new far'
  transmits_clash begin new far' answers ls r g y lit pass from all joins fate is w q t =
      let left : new ≡ brought m (passed old f ls) (Clashing g) y = air_of new (came_back m (record { lit = true; listeners = ls }) y) (later_fates (later_fates old.fates))
      ((old.trace ++ Request f Pass ∷ []) ++ Clash g y ∷ []) w q t in
      settles new far' r (Collided g) y (λ z. heard_at z (Collided g)) refl refl refl refl is
      (λ heard e. turn_passes new far' answers ls (Clashing g) y heard lit pass (hears begin far' answers ls from all) joins fate e left)

  -- a request at which the field is lost
  pub transmits_break : (new : Air L) (r : Result Heard AirFault) → old.lit ≡ true → first_fate old.fates ≡ Break → r ≡ settled Silent Break → world new ≡ came_back m (world old) Break
      → new.fates ≡ later_fates old.fates → new.trace ≡ old.trace ++ Request f Break ∷ [] → Transmits m restarts steps stops is_stuck old f far r new far
  transmits_break new r lit fate is w q t =
      let left : new ≡ after_event old (Request f Break) (later_fates old.fates) (came_back m (world old) Break) =
      air_of new (came_back m (world old) Break) (later_fates old.fates) (old.trace ++ Request f Break ∷ []) w q t in
      let P : Fate → Type 0 = λ x. TurnBy m restarts steps x old f far None new far in
      let by : TurnBy m restarts steps Break old f far None new far = record { back = refl; left = left; same = refl } in
      let R : Result Heard AirFault → Type 0 = λ z. Transmits m restarts steps stops is_stuck old f far z new far in
      let turn : TurnIs m restarts steps old f far None new far = record { lit = lit; by = subst P (sym fate) by } in
      subst R (sym is) (inr turn)

  -- a far end that stopped
  pub transmits_stop : (begin : List L) (new : Air L) (far' : A) (ls : List L)
      → old.lit ≡ true → first_fate old.fates ≡ Pass → begin ≡ old.listeners → HearSome m restarts steps stops is_stuck f begin far ls far'
      → new ≡ passed old f ls → Transmits m restarts steps stops is_stuck old f far (Err Memory) new far'
  transmits_stop begin new far' ls lit pass from some left =
      let P : List L → Type 0 = λ t. HearSome m restarts steps stops is_stuck f t far ls far' in
      (lit, inr (record { fate = pass; listeners = ls; some = subst P from some; left = left }))
