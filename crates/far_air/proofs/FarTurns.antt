-- A turn over the far end of one device is a turn of the world with far ends.
use Rattle.std.proofs.Common.{◌≡◌, ℕ, List, [], ◌∷◌, ◌++◌, Bool, true, Option, refl, sym, ◌∙◌, ap, subst, append_assoc, append-nil}
use Rattle.nfc_base.specs.Signal.{Signal}
use Rattle.nfc_base.specs.Trace.{heard_by}
use Rattle.nfc_base.specs.declared.event.Event.TheVariants.{Reset, Request, Answer, Clash}
use Rattle.nfc_base.specs.declared.event.Fate.{Fate}
use Rattle.nfc_base.specs.declared.event.Fate.TheVariants.{Pass, Damage, Lose, Break}
use Rattle.nfc_base.specs.declared.event.Heard.{Heard}
use Rattle.air_core.specs.Joint.{Joint, Nothing, Single, Clashing, joint}
use Rattle.air_core.specs.World.{Machine, World, reset_by, dark}
use Rattle.air_core.specs.Conversation.{Moment, Note, Next, first_fate, later_fates, joint_events, joint_back, turn_events, turn_heard, with_events}
use Rattle.air_core.specs.Turn.{Air, world, moment, after_event, brought, Passes, TurnBy, TurnIs}
use Rattle.air_core.specs.laws.Turning.{events-append, going_start, going_turn, going_then}
use Rattle.air_core.specs.Speaking.{DueTurns}
use Rattle.nfc_base.specs.Choosing.{Choosing}
use Rattle.far_air.specs.FarEnds.{FarTable}
use Rattle.far_air.specs.FarWorld.{FarWorld, AllMet, far_air}
use Rattle.far_air.specs.FarLaws.{IsFarTable, IsLinked, IsOfTable, with_far, shown, seen, seen_at, seen_with}
use Rattle.far_air.specs.FarTurns.{QuietBut, FarTurn, FarTurns, FarResets, FarGoing, FarGoesOn, FarGoesThen, AllQuietBut, SpeaksFar}
use Rattle.far_air.proofs.Showing.{shown_dark, shown_reset}
use Rattle.far_air.proofs.Meeting.{all_met, meet_at, met_at}

module _ {L F : Type 0} (m : Machine L) (linked : L → Bool) (t : FarTable F) (links : IsLinked m linked) (laws : IsFarTable t) where
  -- what comes back
  back_seen : (a : Air L) (j : Joint) (y : Fate) (os : List (Option F)) (ns : List ℕ)
      → seen_at linked t (moment (brought m a j y)) os ns ≡ with_events (far_air m linked t) (seen_at linked t (moment a) os ns) (joint_events j y)
  back_seen a Nothing y os ns = ap (λ z. record { world = seen linked t (world a) os ns; queue = a.fates; trace = z }) (sym (append-nil a.trace))
  back_seen a (Single g) Pass os ns = refl
  back_seen a (Single g) Damage os ns = refl
  back_seen a (Single g) Lose os ns = refl
  back_seen a (Single g) Break os ns =
      ap (λ z. record { world = record { field = dark m (world a); fars = z; numbers = ns }; queue = later_fates a.fates; trace = a.trace ++ Answer g Break ∷ [] })
      (sym (shown_dark m linked t links laws a.listeners os))
  back_seen a (Clashing g) Pass os ns = refl
  back_seen a (Clashing g) Damage os ns = refl
  back_seen a (Clashing g) Lose os ns = refl
  back_seen a (Clashing g) Break os ns =
      ap (λ z. record { world = record { field = dark m (world a); fars = z; numbers = ns }; queue = later_fates a.fates; trace = a.trace ++ Clash g Break ∷ [] })
      (sym (shown_dark m linked t links laws a.listeners os))

  module _ {A : Type 0} (restarts : A → List ℕ → A → Type 0) (steps : A → List ℕ → List ℕ → A → Type 0) (view : A → Choosing F) (kind : IsOfTable restarts steps t view)
      (old new : Air L) (f : Signal) (heard : Option Heard) (far after : A) (place : ℕ) (os : List (Option F)) where
    abbrev at : Air L → A → Moment (FarWorld L F)
    at a z = seen_with linked t (moment a) os place (view z)

    abbrev before_turn : Moment (FarWorld L F)
    before_turn = at old far

    abbrev ByFate : Fate → Type 0
    ByFate x =
        (at new after ≡ with_events (far_air m linked t) before_turn (turn_events (far_air m linked t) before_turn.world f x (first_fate (later_fates old.fates))))
        × (heard ≡ turn_heard (far_air m linked t) before_turn.world f x (first_fate (later_fates old.fates)))

    passes_far : old.lit ≡ true → QuietBut m f place old.listeners → Passes m restarts steps old f far heard new after → ByFate Pass
    passes_far lit q p =
        let y : Fate = first_fate (later_fates old.fates) in
        let j : Joint = joint p.answers in
        let c : Choosing F = view after in
        let mid : Air L = after_event old (Request f Pass) (later_fates old.fates) (record { lit = true; listeners = p.listeners }) in
        let met : meet_at m linked t links laws restarts steps view kind f old.listeners os place (view far) ≡ met_at m linked t links laws restarts steps view kind p.listeners p.answers os place c =
        all_met m linked t links laws restarts steps view kind f place old.listeners os far p.answers p.listeners after q p.all in
        let joins : joint (meet_at m linked t links laws restarts steps view kind f old.listeners os place (view far)).answers ≡ j = ap (λ (z : AllMet L F). joint z.answers) met in
        let reached : with_events (far_air m linked t) before_turn (Request f Pass ∷ []) ≡ at mid after =
        ap (λ (z : AllMet L F). record {
          world = record { field = record { lit = old.lit; listeners = z.listeners }; fars = z.fars; numbers = z.numbers };
          queue = later_fates old.fates;
          trace = old.trace ++ Request f Pass ∷ [];
        }) met
        ∙ ap (λ v. record {
          world = record { field = record { lit = v; listeners = p.listeners }; fars = shown linked t p.listeners (with_far os place c.end); numbers = c.numbers };
          queue = later_fates old.fates;
          trace = old.trace ++ Request f Pass ∷ [];
        }) lit in (
          ap (λ a. at a after) p.left
              ∙ back_seen mid j y (with_far os place c.end) c.numbers
              ∙ ap (λ a. with_events (far_air m linked t) a (joint_events j y)) (sym reached)
              ∙ events-append (far_air m linked t) before_turn (Request f Pass ∷ []) (joint_events j y)
              ∙ ap (λ z. with_events (far_air m linked t) before_turn (Request f Pass ∷ joint_events z y)) (sym joins),
          p.back ∙ ap (λ z. heard_by Pass (joint_back z y)) (sym joins),
        )

    turn_far : (x : Fate) → old.lit ≡ true → QuietBut m f place old.listeners → TurnBy m restarts steps x old f far heard new after → ByFate x
    turn_far Pass lit q p = passes_far lit q p
    turn_far Damage lit q p = (ap (λ a. at a after) p.left ∙ ap (at (after_event old (Request f Damage) (later_fates old.fates) (world old))) p.same, p.back)
    turn_far Lose lit q p = (ap (λ a. at a after) p.left ∙ ap (at (after_event old (Request f Lose) (later_fates old.fates) (world old))) p.same, p.back)
    turn_far Break lit q p = (
      ap (λ a. at a after) p.left
          ∙ ap (at (after_event old (Request f Break) (later_fates old.fates) (dark m (world old)))) p.same
          ∙ ap (λ z. record { world = record { field = dark m (world old); fars = z; numbers = (view far).numbers }; queue = later_fates old.fates; trace = old.trace ++ Request f Break ∷ [] })
          (sym (shown_dark m linked t links laws old.listeners (with_far os place (view far).end))),
      p.back,
    )

    pub far_turn : QuietBut m f place old.listeners → TurnIs m restarts steps old f far heard new after → FarTurn m linked t (moment old) (moment new) f heard place os (view far) (view after)
    far_turn q turn =
        let k : ByFate (first_fate old.fates) = turn_far (first_fate old.fates) turn.lit q turn.by in
        record { lit = turn.lit; moment = k.0; heard = k.1 }

pub far_turns : {L F A : Type 0} (m : Machine L) (linked : L → Bool) (t : FarTable F) (restarts : A → List ℕ → A → Type 0) (steps : A → List ℕ → List ℕ → A → Type 0) (view : A → Choosing F)
    → FarTurns m linked t restarts steps view
far_turns m linked t restarts steps view links laws kind old new f heard far after place os q turn =
    far_turn m linked t links laws restarts steps view kind old new f heard far after place os q turn

pub far_resets : {L F : Type 0} (m : Machine L) (linked : L → Bool) (t : FarTable F) → FarResets m linked t
far_resets m linked t links laws a os ns =
    ap (λ z. record { world = record { field = reset_by m a.world; fars = z; numbers = ns }; queue = a.queue; trace = a.trace ++ Reset ∷ [] }) (shown_reset m linked t links laws a.world.listeners os)

module _ {L F : Type 0} (m : Machine L) (linked : L → Bool) (t : FarTable F) where
  abbrev at_place : Moment (World L) → List (Option F) → ℕ → Choosing F → Moment (FarWorld L F)
  at_place a os place far = seen_with linked t a os place far

  pub far_goes_on : FarGoesOn m linked t
  far_goes_on next old mid new f heard notes place os far half after g due turn =
      going_turn (far_air m linked t) next (at_place old os place far) (at_place mid os place half) (at_place new os place after) f heard notes g due turn

  pub far_goes_then : FarGoesThen m linked t
  far_goes_then next first second old mid new notes more place os far half after one two g h =
      going_then (far_air m linked t) next first second (at_place old os place far) (at_place mid os place half) (at_place new os place after) notes more one two g h

  far_starts : (next : List Note → Next) (a : Moment (World L)) (place : ℕ) (os : List (Option F)) (far : Choosing F) → FarGoing m linked t next a a [] place os far far
  far_starts next a place os far = going_start (far_air m linked t) next (at_place a os place far)

  module _ (links : IsLinked m linked) (laws : IsFarTable t) {A : Type 0} (restarts : A → List ℕ → A → Type 0) (steps : A → List ℕ → List ℕ → A → Type 0) (view : A → Choosing F)
      (kind : IsOfTable restarts steps t view)
      (next : List Note → Next) (place : ℕ) (os : List (Option F)) (old : Air L) (far : A) where
    speaks_on : (ns seen : List Note) (mid : Air L) (half : A) (new : Air L) (after : A)
        → FarGoing m linked t next (moment old) (moment mid) seen place os (view far) (view half)
        → (d : DueTurns m restarts steps next seen mid half ns new after) → AllQuietBut m linked t restarts steps next place seen mid half ns new after d
        → FarGoing m linked t next (moment old) (moment new) (seen ++ ns) place os (view far) (view after)
    speaks_on [] seen mid half new after g d q =
        let P : List Note → Type 0 = λ z. FarGoing m linked t next (moment old) (moment new) z place os (view far) (view after) in
        let Q : A → Type 0 = λ z. FarGoing m linked t next (moment old) (moment new) seen place os (view far) (view z) in
        let R : Air L → Type 0 = λ z. FarGoing m linked t next (moment old) (moment z) seen place os (view far) (view half) in
        subst P (sym (append-nil seen)) (subst Q (sym d.1) (subst R (sym d.0) g))
    speaks_on (n ∷ ns) seen mid half new after g (f, h, to, far_to, due, known, turn, rest) q =
        let one : FarTurn m linked t (moment mid) (moment to) f h place os (view half) (view far_to) =
        far_turns m linked t restarts steps view links laws kind mid to f h half far_to place os q.0 turn in
        let P : Note → Type 0 = λ z. FarGoing m linked t next (moment old) (moment to) (seen ++ z ∷ []) place os (view far) (view far_to) in
        let k : FarGoing m linked t next (moment old) (moment to) (seen ++ n ∷ []) place os (view far) (view far_to) =
        subst P (sym known) (far_goes_on next (moment old) (moment mid) (moment to) f h seen place os (view far) (view half) (view far_to) g due one) in
        let Q : List Note → Type 0 = λ z. FarGoing m linked t next (moment old) (moment new) z place os (view far) (view after) in
        subst Q (append_assoc seen (n ∷ []) ns) (speaks_on ns (seen ++ n ∷ []) to far_to new after k rest q.1)

pub speaks_far : {L F A : Type 0} (m : Machine L) (linked : L → Bool) (t : FarTable F) (restarts : A → List ℕ → A → Type 0) (steps : A → List ℕ → List ℕ → A → Type 0) (next : List Note → Next)
    (place : ℕ) (view : A → Choosing F)
    → SpeaksFar m linked t restarts steps next place view
speaks_far m linked t restarts steps next place view links laws kind old new far after notes s q os =
    speaks_on m linked t links laws restarts steps view kind next place os old far notes [] old far new after (far_starts m linked t next (moment old) place os (view far)) s.turns q
