-- A frame that reaches the listeners one by one: what is left of the list completes the whole.
use Rattle.std.proofs.Common.{◌≡◌, ℕ, ◌<◌, ◌≤◌, ◌+◌, List, [], ◌∷◌, ◌++◌, length, get_or, take, drop, refl, arith, subst, sym, ◌∙◌, Bool, Option, drop-cons, add-one, inl, inr}
use Rattle.std.proofs.lemmas.Grind.{common_steps}
use Rattle.std.proofs.Math.ListN.{set}
use Rattle.std.proofs.lemmas.List.{take_more_set, set_split}
use Rattle.nfc_base.specs.Signal.{Signal}
use Rattle.air_core.specs.Joint.{Joint, joint}
use Rattle.air_core.specs.World.{Machine, hands_over, stepped_by}
use Rattle.air_core.specs.Listening.{Stop}
use Rattle.std.specs.List.{cons_option}
use Rattle.air_core.specs.private.Joining.{joint_with}
use Rattle.air_core.specs.Turn.{Meets, HearAll, HearSome}
use Rattle.air_core.specs.declared.answers.Answers.{Answers}

module _ {L A : Type 0} (m : Machine L) (restarts : A → List ℕ → A → Type 0) (steps : A → List ℕ → List ℕ → A → Type 0) (f : Signal) where
  -- all of the listeners have met the frame, and this is what they came to
  pub record Whole (old : List L) (begin : A) (new : List L) (after : A) (comes : Joint) : Type 0 where
    pub answers : List Signal
    pub all : HearAll m restarts steps f old begin answers new after
    pub joint : comes ≡ joint answers

  -- what is left of the list completes the whole
  abbrev pub GoesOn : List L → A → List L → ℕ → Answers → A → Type 0
  GoesOn old begin items i so_far far =
      (more : List Signal) (ys : List L) (after : A) → HearAll m restarts steps f (drop i items) far more ys after → Whole old begin (take i items ++ ys) after (joint_with so_far more)

  pub go_on : (old : List L) (begin : A) (items : List L) (i : ℕ) (so_far next : Answers) (far mid : A) (d y : L) (answer : Option Signal)
      → i < length items → GoesOn old begin items i so_far far → Meets m restarts steps f (get_or items i d) far answer y mid
      → ((more : List Signal) → joint_with next more ≡ joint_with so_far (cons_option answer more))
      → GoesOn old begin (set items i y) (i + 1) next mid
  go_on old begin items i so_far next far mid d y answer lt so step joins more ys after h =
      let front : take (i + 1) (set items i y) ≡ take i items ++ y ∷ [] = take_more_set items i y lt in
      let split : drop i items ≡ get_or items i d ∷ drop (i + 1) items = rw add-one (drop-cons items i d lt) in
      let rest : drop (i + 1) (set items i y) ≡ drop (i + 1) items = grind (arith, common_steps) in
      let P : List L → Type 0 = λ zs. HearAll m restarts steps f zs mid more ys after in
      let h' : HearAll m restarts steps f (drop (i + 1) items) mid more ys after = subst P rest h in
      let Q : List L → Type 0 = λ zs. HearAll m restarts steps f zs far (cons_option answer more) (y ∷ ys) after in
      let whole : HearAll m restarts steps f (drop i items) far (cons_option answer more) (y ∷ ys) after = subst Q (sym split) (answer, more, y, mid, ys, step, h', refl, refl) in
      let w : Whole old begin (take i items ++ (y ∷ ys)) after (joint_with so_far (cons_option answer more)) = so (cons_option answer more) (y ∷ ys) after whole in
      let R : List L → Type 0 = λ zs. HearAll m restarts steps f old begin w.answers zs after in
      let same : take i items ++ (y ∷ ys) ≡ take (i + 1) (set items i y) ++ ys = grind (arith, common_steps, front) in
      record { answers = w.answers; all = subst R same w.all; joint = joins more ∙ w.joint }

  -- at the end of the list the steps are those of the whole
  pub ends : (old : List L) (begin : A) (items : List L) (i : ℕ) (so_far : Answers) (far : A)
      → length items ≤ i → GoesOn old begin items i so_far far → Whole old begin items far (joint_with so_far [])
  ends old begin items i so_far far le so =
      let none : drop i items ≡ [] = grind (arith, common_steps) in
      let P : List L → Type 0 = λ zs. HearAll m restarts steps f zs far [] [] far in
      let last : HearAll m restarts steps f (drop i items) far [] [] far = subst P (sym none) (refl, refl, refl) in
      let R : List L → Type 0 = λ zs. Whole old begin zs far (joint_with so_far []) in
      let all : take i items ++ [] ≡ items = grind (arith, common_steps) in
      subst R all (so [] [] far last)

  module _ (stops : A → List ℕ → A → Type 0) (is_stuck : A → Bool) where
    -- a stop in what is left of the list is one in the whole
    abbrev pub StopGoesOn : List L → A → List L → ℕ → A → Type 0
    StopGoesOn old begin items i far =
        (ys : List L) (after : A) → HearSome m restarts steps stops is_stuck f (drop i items) far ys after → HearSome m restarts steps stops is_stuck f old begin (take i items ++ ys) after

    pub stop_goes_on : (old : List L) (begin : A) (items : List L) (i : ℕ) (far mid : A) (d y : L) (answer : Option Signal)
        → i < length items → StopGoesOn old begin items i far → Meets m restarts steps f (get_or items i d) far answer y mid
        → StopGoesOn old begin (set items i y) (i + 1) mid
    stop_goes_on old begin items i far mid d y answer lt so step ys after h =
        let front : take (i + 1) (set items i y) ≡ take i items ++ y ∷ [] = take_more_set items i y lt in
        let split : drop i items ≡ get_or items i d ∷ drop (i + 1) items = rw add-one (drop-cons items i d lt) in
        let rest : drop (i + 1) (set items i y) ≡ drop (i + 1) items = grind (arith, common_steps) in
        let P : List L → Type 0 = λ zs. HearSome m restarts steps stops is_stuck f zs mid ys after in
        let h' : HearSome m restarts steps stops is_stuck f (drop (i + 1) items) mid ys after = subst P rest h in
        let Q : List L → Type 0 = λ zs. HearSome m restarts steps stops is_stuck f zs far (y ∷ ys) after in
        let whole : HearSome m restarts steps stops is_stuck f (drop i items) far (y ∷ ys) after = subst Q (sym split) (y, ys, refl, inr (answer, mid, step, h')) in
        let R : List L → Type 0 = λ zs. HearSome m restarts steps stops is_stuck f old begin zs after in
        let same : take i items ++ (y ∷ ys) ≡ take (i + 1) (set items i y) ++ ys = grind (arith, common_steps, front) in
        subst R same (so (y ∷ ys) after whole)

    set_at : (items : List L) (i : ℕ) (y : L) → i < length items → set items i y ≡ take i items ++ y ∷ drop (i + 1) items
    set_at items i y lt = rw add-one (set_split items i y lt)

    pub stops_here : (old : List L) (begin : A) (items : List L) (i : ℕ) (far : A) (d y : L) (after : A)
        → i < length items → StopGoesOn old begin items i far → Stop stops is_stuck (hands_over m (get_or items i d) f) (stepped_by m (get_or items i d) f) far y after
        → HearSome m restarts steps stops is_stuck f old begin (set items i y) after
    stops_here old begin items i far d y after lt so stop =
        let split : drop i items ≡ get_or items i d ∷ drop (i + 1) items = rw add-one (drop-cons items i d lt) in
        let P : List L → Type 0 = λ zs. HearSome m restarts steps stops is_stuck f zs far (y ∷ drop (i + 1) items) after in
        let here : HearSome m restarts steps stops is_stuck f (drop i items) far (y ∷ drop (i + 1) items) after = subst P (sym split) (y, drop (i + 1) items, refl, inl (stop, refl)) in
        let whole : take i items ++ (y ∷ drop (i + 1) items) ≡ set items i y = sym (set_at items i y lt) in
        let R : List L → Type 0 = λ zs. HearSome m restarts steps stops is_stuck f old begin zs after in
        subst R whole (so (y ∷ drop (i + 1) items) after here)
