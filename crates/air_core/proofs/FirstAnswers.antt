-- Laws of waits for a first whole answer: what the bad receptions lead to, and what is told at the end.
use Rattle.std.proofs.Common.{◌≡◌, ℕ, zero, suc, ◌<◌, ◌≤◌, inl, inr, List, [], ◌∷◌, ◌++◌, Bool, true, Option, Some, None, Result, Ok, Err, refl, sym, ◌∙◌, ap, subst, arith}
use Rattle.nfc_base.specs.Signal.{Signal}
use Rattle.nfc_base.specs.Trace.{is_bad_in_wait}
use Rattle.nfc_base.specs.declared.event.Heard.{Heard}
use Rattle.nfc_base.specs.declared.event.Heard.TheVariants.{Whole, Collided, Damaged, Silent}
use Rattle.nfc_base.specs.declared.tag_link.AskFault.{AskFault}
use Rattle.nfc_base.specs.declared.tag_link.AskFault.TheVariants.{FieldLost, SixBad, Memory, Protocol}
use Rattle.air_core.specs.World.{Machine}
use Rattle.air_core.specs.Turn.{Air, TurnIs, Transmits}
use Rattle.air_core.specs.Conversation.{Note, Got, Lost, Asks}
use Rattle.air_core.specs.Waits.{Standing, Asking, Broken, stand, due_at, waits_next}
use Rattle.air_core.specs.laws.Waiting.{stand_on}
use Rattle.air_core.specs.private.PlainWaits.{after_bad}
use Rattle.air_core.specs.Speaking.{Speaks}
use Rattle.air_core.specs.FirstAnswers.{TellsFirst, BadTurns, EndsWait, AsksFirst, TellsWait}
use Rattle.air_core.specs.declared.fault.AirFault.TheVariants as air
use Rattle.air_core.proofs.PlainTurns.{asking_bad}
use Rattle.air_core.proofs.Speaking.{SpeaksOn, on_start, on_turn, on_lost, on_dark, on_wanting}

-- what a turn of a wait comes to, by what was heard
abbrev pub ByHeard : (lost : Type 0) → (Signal → Type 0) → (bad : Type 0) → Option Heard → Type 0
ByHeard lost whole bad None = lost
ByHeard lost whole bad (Some (Whole g)) = whole g
ByHeard lost whole bad (Some (Collided g)) = bad
ByHeard lost whole bad (Some Damaged) = bad
ByHeard lost whole bad (Some Silent) = bad

pub by_bad : (lost : Type 0) (whole : Signal → Type 0) (bad : Type 0) (h : Heard) → is_bad_in_wait h ≡ true → ByHeard lost whole bad (Some h) → bad
by_bad lost whole bad (Whole g) e a = absurd cc
by_bad lost whole bad (Collided g) e a = a
by_bad lost whole bad Damaged e a = a
by_bad lost whole bad Silent e a = a

-- a bad reception is counted
bad_stands : (f : Signal) (bad : ℕ) (h : Heard) → is_bad_in_wait h ≡ true → stand bad (f ∷ []) (Got h ∷ []) ≡ after_bad f (suc bad)
bad_stands f bad (Whole g) e = absurd cc
bad_stands f bad (Collided g) e = refl
bad_stands f bad Damaged e = refl
bad_stands f bad Silent e = refl

-- what is made of the result of a wait
abbrev pub told_as : {R : Type 0} → (Signal → R) → (AskFault → R) → Result Signal AskFault → R
told_as told fails (Ok g) = told g
told_as told fails (Err e) = fails e

module _ {L A : Type 0} (m : Machine L) (restarts : A → List ℕ → A → Type 0) (steps : A → List ℕ → List ℕ → A → Type 0) (f : Signal) (old : Air L) (far : A) where
  abbrev Turns : ℕ → Air L → A → Type 0
  Turns = BadTurns m restarts steps f old far

  -- What is so at the start, and is kept by each bad reception, is so after them.
  module _ (On : Air L → A → ℕ → Type 0)
      (more : (mid : Air L) (half : A) (n : ℕ) → n < 6 → On mid half n → (new : Air L) (after : A) (h : Heard)
      → TurnIs m restarts steps mid f half (Some h) new after → is_bad_in_wait h ≡ true → On new after (suc n)) where
    pub on_bads : On old far 0 → (n : ℕ) → n ≤ 6 → (mid : Air L) (half : A) → Turns n mid half → On mid half n
    on_bads start zero most mid half t = let P : Air L → Type 0 = λ a. On a half 0 in let Q : A → Type 0 = λ a. On old a 0 in subst P (sym t.0) (subst Q (sym t.1) start)
    on_bads start (suc n) most mid half (last, rest, h, before, turn, bad) =
        more last rest n (omega (arith, most)) (on_bads start n (omega (arith, most)) last rest before) mid half h turn bad

  module _ (stops : A → List ℕ → A → Type 0) (is_stuck : A → Bool) where
    -- no wait has more bad receptions
    pub six_at_most : (bad : ℕ) (mid : Air L) (half : A) (new : Air L) (after : A) (r : Result Signal AskFault) → EndsWait m restarts steps f old far stops is_stuck bad mid half new after r → bad ≤ 6
    six_at_most bad mid half new after (Ok g) e = omega (arith, e.0)
    six_at_most bad mid half new after (Err FieldLost) e = omega (arith, e.0)
    six_at_most bad mid half new after (Err SixBad) e = omega (arith, e.0)
    six_at_most bad mid half new after (Err Memory) e = omega (arith, e.0)
    six_at_most bad mid half new after (Err Protocol) e = absurd e

  -- after so many bad receptions
  record Said (mid : Air L) (half : A) (bad : ℕ) : Type 0 where
    notes : List Note
    on : SpeaksOn m restarts steps (waits_next (f ∷ [])) old far mid half notes
    stands : stand 0 (f ∷ []) notes ≡ after_bad f bad

  said_first : Said old far 0
  said_first = record { notes = []; on = on_start m restarts steps (waits_next (f ∷ [])) old far; stands = refl }

  module _ (mid : Air L) (half : A) (bad : ℕ) (bound : bad < 6) (o : Said mid half bad) where
    stands_there : stand 0 (f ∷ []) o.notes ≡ Asking bad (f ∷ [])
    stands_there = o.stands ∙ asking_bad f bad bound

    due : waits_next (f ∷ []) o.notes ≡ Asks f
    due = ap due_at stands_there

    then_on : (n : Note) → stand 0 (f ∷ []) (o.notes ++ n ∷ []) ≡ stand bad (f ∷ []) (n ∷ [])
    then_on n = stand_on 0 (f ∷ []) o.notes bad (f ∷ []) stands_there [] (n ∷ [])

    module _ (new : Air L) (after : A) where
      said_turn : (h : Heard) → TurnIs m restarts steps mid f half (Some h) new after → SpeaksOn m restarts steps (waits_next (f ∷ [])) old far new after (o.notes ++ Got h ∷ [])
      said_turn h t = on_turn m restarts steps (waits_next (f ∷ [])) old far mid new half after o.notes f o.on h due t

      said_again : (h : Heard) → TurnIs m restarts steps mid f half (Some h) new after → is_bad_in_wait h ≡ true → Said new after (suc bad)
      said_again h t e = record { notes = o.notes ++ Got h ∷ []; on = said_turn h t; stands = then_on (Got h) ∙ bad_stands f bad h e }

  module _ (stops : A → List ℕ → A → Type 0) (is_stuck : A → Bool) {R : Type 0} (told : Signal → R) (fails : AskFault → R) where
    abbrev Tells : Air L → A → R → Type 0
    Tells new after r = TellsWait m restarts steps f old far stops is_stuck told fails new after r

    -- what a wait tells where it stands so
    tells : (new : Air L) (after : A) (ns : List Note) (s : Standing) (r : R) → Speaks m restarts steps (waits_next (f ∷ [])) old far new after ns → stand 0 (f ∷ []) ns ≡ s
        → TellsFirst told fails old.lit ns s r → Tells new after r
    tells new after ns s r speaks e a = record {
      notes = ns;
      mid = new;
      half = after;
      speaks = speaks;
      answers = subst (λ (x : Standing). TellsFirst told fails old.lit ns x r) (sym e) a;
      leaves = inl (refl, refl);
      whole = λ e. (refl, refl);
    }

    tells_lost : (bad : ℕ) → bad < 6 → (mid : Air L) (half : A) → Said mid half bad → (new : Air L) (after : A)
        → Transmits m restarts steps stops is_stuck mid f half (Err air.FieldLost) new after → Tells new after (fails FieldLost)
    tells_lost bad bound mid half o new after (inl d) =
        let s = on_dark m restarts steps (waits_next (f ∷ [])) old far mid new half after o.notes f o.on (fails FieldLost) (fails Memory) d.0 d.1 d.2 in
        tells new after o.notes (Asking bad (f ∷ [])) (fails FieldLost) s.0 (stands_there mid half bad bound o) s.1
    tells_lost bad bound mid half o new after (inr t) =
        tells new after (o.notes ++ Lost ∷ []) (Broken FieldLost (f ∷ [])) (fails FieldLost)
        (on_lost m restarts steps (waits_next (f ∷ [])) old far mid new half after o.notes f o.on (due mid half bad bound o) t) (then_on mid half bad bound o Lost) refl

    tells_end : (bad : ℕ) (mid : Air L) (half : A) → Said mid half bad → (new : Air L) (after : A) (r : Result Signal AskFault)
        → EndsWait m restarts steps f old far stops is_stuck bad mid half new after r → Tells new after (told_as told fails r)
    tells_end bad mid half o new after (Ok g) (bound, t) =
        tells new after (o.notes ++ Got (Whole g) ∷ []) (Asking 0 []) (told g) (said_turn mid half bad bound o new after (Whole g) t).speaks
        (then_on mid half bad bound o (Got (Whole g))) (o.notes, g, refl, refl)
    tells_end bad mid half o new after (Err FieldLost) (bound, t) = tells_lost bad bound mid half o new after t
    tells_end bad mid half o new after (Err Memory) (bound, t) =
        let s = on_wanting m restarts steps (waits_next (f ∷ [])) old far mid new half after o.notes f o.on (fails FieldLost) (fails Memory) stops is_stuck (due mid half bad bound o) t in
        record {
          notes = o.notes;
          mid = mid;
          half = half;
          speaks = o.on.speaks;
          answers = subst (λ (x : Standing). TellsFirst told fails old.lit o.notes x (fails Memory)) (sym (stands_there mid half bad bound o)) s.1;
          leaves = s.0;
          whole = λ e. absurd (e refl);
        }
    tells_end bad mid half o new after (Err SixBad) (six, same, rests) =
        let P : Air L → Type 0 = λ a. Tells a after (fails SixBad) in
        let Q : A → Type 0 = λ a. Tells mid a (fails SixBad) in
        subst P (sym same) (subst Q (sym rests) (tells mid half o.notes (Broken SixBad (f ∷ [])) (fails SixBad) o.on.speaks (o.stands ∙ ap (after_bad f) six) refl))
    tells_end bad mid half o new after (Err Protocol) e = absurd e

    -- A wait, by what was heard.
    pub tells_wait : (new : Air L) (after : A) (r : Result Signal AskFault) → AsksFirst m restarts steps f old far stops is_stuck new after r → Tells new after (told_as told fails r)
    tells_wait new after r a =
        tells_end a.bad a.mid a.half
        (on_bads Said said_again said_first a.bad (six_at_most stops is_stuck a.bad a.mid a.half new after r a.ends) a.mid a.half a.before)
        new after r a.ends
