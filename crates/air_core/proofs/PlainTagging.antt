-- Tags that take commands as they are sent: what such a tag does with a command however often it hears it in a row.
use Rattle.std.proofs.Common.{◌≡◌, ◌⊎◌, inl, inr, ℕ, zero, suc, List, Bool, true, false, Option, Some, None, refl, sym, ◌∙◌, ap}
use Rattle.nfc_base.specs.Signal.{Signal}
use Rattle.nfc_base.specs.Far.{Untouched}
use Rattle.nfc_base.specs.TagLinks.{TagKind, TagState, TagStep, plain_state, MayAsk}
use Rattle.air_core.specs.PlainTags.{heard_times, tag_step, Takes, PassesOver, IsPlainTag}
use Rattle.air_core.specs.declared.listener.Listener.{Ghosts}
use Rattle.air_core.proofs.PlainAside.{Laws}

module _ {L : Type 0} (k : Ghosts L) where
  -- However often the frame is heard in a row: nothing is asked of a far end, the answer is that of the tag's step, the
  -- store is that of its step and stays so, and a tag that answers stays selected.
  pub record IsSteady (l : L) (f : Signal) : Type 0 where
    pub quiet : (n : ℕ) → k.machine.handed (heard_times k l f n) f ≡ Untouched
    pub answer : (n : ℕ) → k.machine.answer (heard_times k l f n) f None ≡ (tag_step k l f).answer
    pub after : (n : ℕ) → plain_state (k.store (heard_times k l f (suc n))) ≡ (tag_step k l f).after
    pub again : (k.commands l (tag_step k l f).after f).after ≡ (tag_step k l f).after
    pub selected : (g : Signal) → (tag_step k l f).answer ≡ Some g → (n : ℕ) → k.is_selected (heard_times k l f (suc n)) ≡ true

  module _ (laws : Laws k) (kind : TagKind) (own : List ℕ) (l : L) (f : Signal) (may : MayAsk kind own f) (p : IsPlainTag k kind own l) where
    -- what a tag holds that is asked a command: what it held before, or what its step leaves
    abbrev HoldsEither : L → Type 0
    HoldsEither m = (k.store m ≡ k.store l) ⊎ (plain_state (k.store m) ≡ (tag_step k l f).after)

    -- a tag that was silent at the command, and is selected no more
    record HasGone (m : L) : Type 0 where
      pub off : k.is_selected m ≡ false
      pub silent : (tag_step k l f).answer ≡ None
      pub after : plain_state (k.store m) ≡ (tag_step k l f).after

    -- the tag while it goes on hearing the command
    record Stands (m : L) : Type 0 where
      pub holds : p.holds m ≡ true
      pub step : k.commands m ≡ k.commands l
      pub state : ((k.is_selected m ≡ true) × HoldsEither m) ⊎ HasGone m

    -- what it does with the command, and how it then stands
    record Does (m : L) : Type 0 where
      pub quiet : k.machine.handed m f ≡ Untouched
      pub answer : k.machine.answer m f None ≡ (tag_step k l f).answer
      pub after : plain_state (k.store (k.machine.after m f None)) ≡ (tag_step k l f).after
      pub selected : (g : Signal) → (tag_step k l f).answer ≡ Some g → k.is_selected (k.machine.after m f None) ≡ true
      pub stands : Stands (k.machine.after m f None)

    module _ (on : k.is_selected l ≡ true) where
      -- what the tag's step is, whether it heard the command or not
      same_step : (m : L) → k.commands m ≡ k.commands l → HoldsEither m → tag_step k m f ≡ tag_step k l f
      same_step m e (inl h) =
          let T : (TagState → Signal → TagStep) → TagStep = λ c. c (plain_state (k.store m)) f in
          ap T e ∙ ap (λ s. k.commands l (plain_state s) f) h
      same_step m e (inr h) =
          let T : (TagState → Signal → TagStep) → TagStep = λ c. c (plain_state (k.store m)) f in
          ap T e ∙ ap (λ s. k.commands l s f) h ∙ (p.takes l f may p.now on).again

      -- the tag once it has taken the command
      state_after : (m : L) → k.is_selected m ≡ true → ((g : Signal) → (tag_step k l f).answer ≡ Some g → k.is_selected (k.machine.after m f None) ≡ true)
          → plain_state (k.store (k.machine.after m f None)) ≡ (tag_step k l f).after
          → (v : Bool) → k.is_selected (k.machine.after m f None) ≡ v → (o : Option Signal) → (tag_step k l f).answer ≡ o
          → ((k.is_selected (k.machine.after m f None) ≡ true) × HoldsEither (k.machine.after m f None)) ⊎ HasGone (k.machine.after m f None)
      state_after m s stays after true e o says = inl (e, inr after)
      state_after m s stays after false e None says = inr (record { off = e; silent = says; after = after })
      state_after m s stays after false e (Some g) says = absurd (let still : k.is_selected (k.machine.after m f None) ≡ true = stays g says in cc)

      does_selected : (m : L) → Stands m → k.is_selected m ≡ true → HoldsEither m → Does m
      does_selected m s is h =
          let t : Takes k m f = p.takes m f may s.holds is in
          let e : tag_step k m f ≡ tag_step k l f = same_step m s.step h in
          let after : plain_state (k.store (k.machine.after m f None)) ≡ (tag_step k l f).after = t.after ∙ ap (λ x. x.after) e in
          let stays : (g : Signal) → (tag_step k l f).answer ≡ Some g → k.is_selected (k.machine.after m f None) ≡ true = λ g says. t.selected g (ap (λ x. x.answer) e ∙ says) in
          record {
            quiet = t.quiet;
            answer = t.answer ∙ ap (λ x. x.answer) e;
            after = after;
            selected = stays;
            stands = record {
              holds = p.kept m f may s.holds;
              step = (laws.step_keeps m f None).commands' ∙ s.step;
              state = state_after m is stays after (k.is_selected (k.machine.after m f None)) refl (tag_step k l f).answer refl;
            };
          }

      does_left : (m : L) → Stands m → HasGone m → Does m
      does_left m s left =
          let o : PassesOver k m f = p.passes m f may s.holds left.off in
          let after : plain_state (k.store (k.machine.after m f None)) ≡ (tag_step k l f).after = ap plain_state o.store ∙ left.after in
          record {
            quiet = o.quiet;
            answer = o.silent ∙ sym left.silent;
            after = after;
            selected = λ g says. absurd (let clash : None ≡ Some g = sym left.silent ∙ says in cc);
            stands = record {
              holds = p.kept m f may s.holds;
              step = (laws.step_keeps m f None).commands' ∙ s.step;
              state = inr (record { off = o.rests; silent = left.silent; after = after });
            };
          }

      does : (m : L) → Stands m → Does m
      does m s = by_state s.state
        where
          by_state : ((k.is_selected m ≡ true) × HoldsEither m) ⊎ HasGone m → Does m
          by_state (inl h) = does_selected m s h.0 h.1
          by_state (inr left) = does_left m s left

      stands : (n : ℕ) → Stands (heard_times k l f n)
      stands zero = record { holds = p.now; step = refl; state = inl (on, inl refl) }
      stands (suc n) = (does (heard_times k l f n) (stands n)).stands

      -- A plain tag that is selected is steady.
      pub steady : IsSteady l f
      steady = record {
        quiet = λ n. (does (heard_times k l f n) (stands n)).quiet;
        answer = λ n. (does (heard_times k l f n) (stands n)).answer;
        after = λ n. (does (heard_times k l f n) (stands n)).after;
        again = ap (λ x. x.after) (p.takes l f may p.now on).again;
        selected = λ g says n. (does (heard_times k l f n) (stands n)).selected g says;
      }

    holds_heard : (n : ℕ) → p.holds (heard_times k l f n) ≡ true
    holds_heard zero = p.now
    holds_heard (suc n) = p.kept (heard_times k l f n) f may (holds_heard n)

    -- it stays a plain tag
    pub plain_heard : (n : ℕ) → IsPlainTag k kind own (heard_times k l f n)
    plain_heard n = record { holds = p.holds; now = holds_heard n; kept = p.kept; takes = p.takes; passes = p.passes }
