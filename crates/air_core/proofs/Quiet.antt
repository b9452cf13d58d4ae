-- Turns in which no listener asks anything of a far end are those of the quiet air.
use Rattle.std.proofs.Common.{◌≡◌, ℕ, List, [], ◌∷◌, ◌++◌, Bool, true, false, if◌then◌else◌, Option, Some, None, Result, Ok, Err, refl, sym, ◌∙◌, ap, subst, inl, inr, append_assoc}
use Rattle.std.specs.Prelude.{map}
use Rattle.std.specs.List.{filter_map, cons_option}
use Rattle.nfc_base.specs.Signal.{Signal}
use Rattle.nfc_base.specs.Far.{FarUse, Untouched, Hands, FarDid}
use Rattle.nfc_base.specs.Trace.{heard_by}
use Rattle.nfc_base.specs.declared.event.Event.TheVariants.{Request}
use Rattle.nfc_base.specs.declared.event.Event.{Event}
use Rattle.nfc_base.specs.declared.event.Fate.{Fate}
use Rattle.nfc_base.specs.declared.event.Fate.TheVariants.{Pass, Damage, Lose, Break}
use Rattle.nfc_base.specs.declared.event.Heard.{Heard}
use Rattle.air_core.specs.Joint.{Joint, Nothing, Single, Clashing, joint}
use Rattle.air_core.specs.World.{Machine, World, hands_over, answered_by, stepped_by, stepped, answers, hears, quiet_air}
use Rattle.air_core.specs.Conversation.{first_fate, later_fates, queue_after, joint_events, joint_back, replay, turn_events, turn_heard, Moment, TurnsTo}
use Rattle.air_core.specs.Turn.{Air, world, after_event, brought, Meets, HearAll, HearSome, Passes, TurnBy, TurnIs, Transmits, moment}
use Rattle.air_core.specs.declared.fault.AirFault.{AirFault}
use Rattle.air_core.specs.declared.fault.AirFault.TheVariants.{FieldLost, Memory}
use Rattle.air_core.proofs.Transmitting.{brought_appends}
pub use Rattle.air_core.specs.Quiet.{EachQuiet, QuietTurn, QuietTransmits, QuietReset}

module _ {L : Type 0} (m : Machine L) where
  -- listeners that never hand anything over are quiet at each frame
  pub quiet_always : ((l : L) (f : Signal) → m.handed l f ≡ Untouched) → (f : Signal) (ls : List L) → EachQuiet m f ls
  quiet_always q f [] = tt
  quiet_always q f (l ∷ ls) = (by_hearing (hears m l f), quiet_always q f ls)
    where
      by_hearing : (v : Bool) → (if v then m.handed l f else Untouched) ≡ Untouched
      by_hearing true = q l f
      by_hearing false = refl

  -- a quiet turn leads from one moment of the air to the next
  pub quiet_turns_to : {A : Type 0} (old new : Air L) (f : Signal) (far far' : A) (heard : Option Heard) → QuietTurn m old f far heard new far'
      → TurnsTo (quiet_air m) (moment old) (moment new) f heard
  quiet_turns_to old new f far far' heard t =
      let es : List Event = turn_events (quiet_air m) (world old) f (first_fate old.fates) (first_fate (later_fates old.fates)) in
      let M : World L → List Fate → List Event → Moment (World L) = λ w q xs. record { world = w; queue = q; trace = xs } in
      record {
        lit = t.lit;
        moment = ap (λ w. M w new.fates new.trace) t.after ∙ ap (λ q. M (replay (quiet_air m) (world old) es) q new.trace) t.fates
            ∙ ap (M (replay (quiet_air m) (world old) es) (queue_after old.fates es)) t.trace;
        heard = t.told;
      }

  -- what is brought back are the events of the joint answer
  brought_world : (a : Air L) (j : Joint) (y : Fate) → world (brought m a j y) ≡ replay (quiet_air m) (world a) (joint_events j y)
  brought_world a Nothing y = refl
  brought_world a (Single g) y = refl
  brought_world a (Clashing g) y = refl

  brought_fates : (a : Air L) (j : Joint) (y : Fate) → (brought m a j y).fates ≡ queue_after a.fates (joint_events j y)
  brought_fates a Nothing y = refl
  brought_fates a (Single g) y = refl
  brought_fates a (Clashing g) y = refl

  module _ {A : Type 0} (restarts : A → List ℕ → A → Type 0) (steps : A → List ℕ → List ℕ → A → Type 0) where
    -- what quiet listeners come to
    pub record HeardQuietly (f : Signal) (ls : List L) (far : A) (said : List Signal) (ls' : List L) (far' : A) : Type 0 where
      pub says : said ≡ filter_map (λ l. answered_by m l f None) ls
      pub left : ls' ≡ map (λ l. stepped_by m l f None) ls
      pub same : far' ≡ far

    hear_alone : (f : Signal) (l : L) (far : A) (answer : Option Signal) (l' : L) (mid : A) → hands_over m l f ≡ Untouched → Meets m restarts steps f l far answer l' mid
        → (mid ≡ far) × (answer ≡ answered_by m l f None) × (l' ≡ stepped_by m l f None)
    hear_alone f l far answer l' mid q step =
        let P : FarUse → Type 0 = λ u. FarDid restarts steps u far step.reply mid in
        let did : (mid ≡ far) × (step.reply ≡ None) = subst P q step.far in
        (did.0, step.says ∙ ap (answered_by m l f) did.1, step.left ∙ ap (stepped_by m l f) did.1)

    hear_quiet : (f : Signal) (ls : List L) (far : A) (said : List Signal) (ls' : List L) (far' : A) → EachQuiet m f ls → HearAll m restarts steps f ls far said ls' far'
        → HeardQuietly f ls far said ls' far'
    hear_quiet f [] far said ls' far' q h = record { says = h.0; left = h.1; same = h.2 }
    hear_quiet f (l ∷ ls) far said ls' far' q h =
        let one : (h.3 ≡ far) × (h.0 ≡ answered_by m l f None) × (h.2 ≡ stepped_by m l f None) = hear_alone f l far h.0 h.2 h.3 q.0 h.5 in
        let rest : HeardQuietly f ls h.3 h.1 h.4 far' = hear_quiet f ls h.3 h.1 h.4 far' q.1 h.6 in
        record {
          says = h.7 ∙ ap (λ o. cons_option o h.1) one.1 ∙ ap (cons_option (answered_by m l f None)) rest.says;
          left = h.8 ∙ ap (λ x. x ∷ h.4) one.2 ∙ ap (λ xs. stepped_by m l f None ∷ xs) rest.left;
          same = rest.same ∙ one.0;
        }

    quiet_passes : (old : Air L) (f : Signal) (far : A) (heard : Option Heard) (new : Air L) (far' : A) (y : Fate) → old.lit ≡ true → EachQuiet m f old.listeners
        → y ≡ first_fate (later_fates old.fates) → Passes m restarts steps old f far heard new far'
        → (world new ≡ replay (quiet_air m) (world old) (turn_events (quiet_air m) (world old) f Pass y))
        × (new.fates ≡ queue_after old.fates (turn_events (quiet_air m) (world old) f Pass y))
        × (new.trace ≡ old.trace ++ turn_events (quiet_air m) (world old) f Pass y)
        × (heard ≡ turn_heard (quiet_air m) (world old) f Pass y)
        × (far' ≡ far)
    quiet_passes old f far heard new far' y lit q e p =
        let h : HeardQuietly f old.listeners far p.answers p.listeners far' = hear_quiet f old.listeners far p.answers p.listeners far' q p.all in
        let w : World L = stepped m (world old) f in
        let j : Joint = joint (answers m (world old) f) in
        let joins : joint p.answers ≡ j = ap joint h.says in
        let B : Bool → List L → Air L = λ v ls. after_event old (Request f Pass) (later_fates old.fates) (record { lit = v; listeners = ls }) in
        let mid : Air L = after_event old (Request f Pass) (later_fates old.fates) w in
        let reached : B true p.listeners ≡ mid = ap (λ v. B v p.listeners) (sym lit) ∙ ap (B old.lit) h.left in
        let left : new ≡ brought m mid j y =
        p.left ∙ ap (λ a. brought m a (joint p.answers) (first_fate (later_fates old.fates))) reached ∙ ap (λ x. brought m mid x (first_fate (later_fates old.fates))) joins
        ∙ ap (brought m mid j) (sym e) in (
          ap world left ∙ brought_world mid j y,
          ap (λ a. a.fates) left ∙ brought_fates mid j y,
          ap (λ a. a.trace) left ∙ brought_appends m mid j y ∙ append_assoc old.trace (Request f Pass ∷ []) (joint_events j y),
          p.back ∙ ap (λ x. heard_by Pass (joint_back x (first_fate (later_fates old.fates)))) joins ∙ ap (λ x. heard_by Pass (joint_back j x)) (sym e),
          h.same,
        )

    quiet_by : (old : Air L) (f : Signal) (far : A) (heard : Option Heard) (new : Air L) (far' : A) (x : Fate) → old.lit ≡ true → EachQuiet m f old.listeners
        → TurnBy m restarts steps x old f far heard new far'
        → (world new ≡ replay (quiet_air m) (world old) (turn_events (quiet_air m) (world old) f x (first_fate (later_fates old.fates))))
        × (new.fates ≡ queue_after old.fates (turn_events (quiet_air m) (world old) f x (first_fate (later_fates old.fates))))
        × (new.trace ≡ old.trace ++ turn_events (quiet_air m) (world old) f x (first_fate (later_fates old.fates)))
        × (heard ≡ turn_heard (quiet_air m) (world old) f x (first_fate (later_fates old.fates)))
        × (far' ≡ far)
    quiet_by old f far heard new far' Pass lit q p = quiet_passes old f far heard new far' (first_fate (later_fates old.fates)) lit q refl p
    quiet_by old f far heard new far' Damage lit q p = (ap world p.left, ap (λ a. a.fates) p.left, ap (λ a. a.trace) p.left, p.back, p.same)
    quiet_by old f far heard new far' Lose lit q p = (ap world p.left, ap (λ a. a.fates) p.left, ap (λ a. a.trace) p.left, p.back, p.same)
    quiet_by old f far heard new far' Break lit q p = (ap world p.left, ap (λ a. a.fates) p.left, ap (λ a. a.trace) p.left, p.back, p.same)

    -- a turn over quiet listeners is one of the quiet air
    pub quiet_turn : (old : Air L) (f : Signal) (far : A) (heard : Option Heard) (new : Air L) (far' : A) → EachQuiet m f old.listeners
        → TurnIs m restarts steps old f far heard new far' → QuietTurn m old f far heard new far'
    quiet_turn old f far heard new far' q t =
        let k = quiet_by old f far heard new far' (first_fate old.fates) t.lit q t.by in
        record { lit = t.lit; after = k.0; fates = k.1; trace = k.2; told = k.3; same = k.4 }

    module _ (stops : A → List ℕ → A → Type 0) (is_stuck : A → Bool) where
      -- quiet listeners never meet a far end that stops
      pub quiet_goes_on : (f : Signal) (ls : List L) (far : A) (ls' : List L) (far' : A) → EachQuiet m f ls → HearSome m restarts steps stops is_stuck f ls far ls' far' → ⊥
      quiet_goes_on f [] far ls' far' q h = h
      quiet_goes_on f (l ∷ ls) far ls' far' q (l', later, e, inl here) = let s = here.0 in untouched s.payload (sym q.0 ∙ s.handed)
        where
          untouched : (payload : List ℕ) → Untouched ≡ Hands payload → ⊥
          untouched payload e = absurd cc
      quiet_goes_on f (l ∷ ls) far ls' far' q (l', later, e, inr on) = quiet_goes_on f ls on.1 later far' q.1 on.3

      -- a far end that never stops breaks no turn off
      pub endless_goes_on : ((a : A) (payload : List ℕ) (b : A) → stops a payload b → ⊥) → (f : Signal) (ls : List L) (far : A) (ls' : List L) (far' : A)
          → HearSome m restarts steps stops is_stuck f ls far ls' far' → ⊥
      endless_goes_on never f [] far ls' far' h = h
      endless_goes_on never f (l ∷ ls) far ls' far' (l', later, e, inl here) = let s = here.0 in never far s.payload far' s.far
      endless_goes_on never f (l ∷ ls) far ls' far' (l', later, e, inr on) = endless_goes_on never f ls on.1 later far' on.3

      -- what `transmit` answers over quiet listeners
      pub quiet_transmits : (old : Air L) (f : Signal) (far : A) (r : Result Heard AirFault) (new : Air L) (far' : A) → EachQuiet m f old.listeners
          → Transmits m restarts steps stops is_stuck old f far r new far' → QuietTransmits m old f far r new far'
      quiet_transmits old f far (Ok h) new far' q t = quiet_turn old f far (Some h) new far' q t
      quiet_transmits old f far (Err FieldLost) new far' q (inl dark) = inl dark
      quiet_transmits old f far (Err FieldLost) new far' q (inr t) = inr (quiet_turn old f far None new far' q t)
      quiet_transmits old f far (Err Memory) new far' q (lit, inl same) = (lit, same.0, same.1)
      quiet_transmits old f far (Err Memory) new far' q (lit, inr s) = absurd (quiet_goes_on f old.listeners far s.listeners far' q s.some)
