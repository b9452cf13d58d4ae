-- What a link to a plain tag shows after a wait.
use Rattle.std.proofs.Common.{◌≡◌, ℕ, zero, suc, ◌+◌, ◌*◌, ◌≤◌, ◌⊎◌, inl, inr, List, [], ◌++◌, length, drop, Option, None, refl, sym, ◌∙◌, ap, subst, arith}
use Rattle.std.specs.List.{AllByRecursion}
use Rattle.std.proofs.lemmas.List.{length-append, drop-append-le}
use Rattle.std.proofs.Math.Seq.{drop-append_seam}
use Rattle.nfc_base.specs.declared.frame.Tech.{Tech}
use Rattle.nfc_base.specs.declared.frame.Tech.TheVariants.{A, V, F}
use Rattle.nfc_base.specs.declared.event.Event.{Event}
use Rattle.nfc_base.specs.declared.tag_link.AskFault.{AskFault}
use Rattle.nfc_base.specs.Signal.{Signal}
use Rattle.nfc_base.specs.Trace.{noise}
use Rattle.nfc_base.specs.TagLinks.{Type4, TagState, TagStep, plain_state, after_all, passed, Leads, Obeys}
use Rattle.air_core.specs.Turn.{Air, world}
use Rattle.air_core.specs.Waits.{Standing}
use Rattle.air_core.specs.PlainTags.{plain_kind, heard_times, tag_step, HasPlainTag, MayTell}
use Rattle.air_core.specs.PlainLinks.{PlainSeen, at_place, obeyed_in, answered_in, Follows, stores_after, between, plain_view}
use Rattle.air_core.specs.private.PlainWaits.{times, Waited}
use Rattle.air_core.specs.declared.listener.Listener.{Ghosts}
use Rattle.air_core.proofs.PlainAside.{Laws}
use Rattle.air_core.proofs.PlainTagging.{IsSteady}
use Rattle.air_core.proofs.PlainTurns.{obeyed_append, answered_append, noise_append}
use Rattle.air_core.proofs.PlainStores.{after_times, place_is, store_heard}

passed_stays : (step : TagState → Signal → TagStep) (s : TagState) (f : Signal) → (step s f).after ≡ s → (n : ℕ) → AllByRecursion (λ x. x ≡ s.store) (passed step s (times f n))
passed_stays step s f e zero = tt
passed_stays step s f e (suc n) =
    let P : TagState → Type 0 = λ t. AllByRecursion (λ x. x ≡ s.store) (passed step t (times f n)) in
    (ap (λ t. t.store) e, subst P (sym e) (passed_stays step s f e n))

passed_times : (step : TagState → Signal → TagStep) (s : TagState) (f : Signal) → (step (step s f).after f).after ≡ (step s f).after → (n : ℕ)
    → AllByRecursion (λ x. x ≡ (step s f).after.store) (passed step s (times f n))
passed_times step s f e zero = tt
passed_times step s f e (suc n) = (refl, passed_stays step (step s f).after f e n)

only_times : (f : Signal) (n : ℕ) → AllByRecursion (λ d. d ≡ f) (times f n)
only_times f zero = tt
only_times f (suc n) = (refl, only_times f n)

length_times : (f : Signal) (n : ℕ) → length (times f n) ≡ n
length_times f zero = refl
length_times f (suc n) = ap suc (length_times f n)

pub never_type4 : (t : Tech) → plain_kind t ≡ Type4 → ⊥
never_type4 A e = absurd cc
never_type4 V e = absurd cc
never_type4 F e = absurd cc

module _ {L : Type 0} (k : Ghosts L) where
  -- the listener that a wait left: the tag once it has heard the command, and in the dark where the field was lost
  abbrev pub IsLeft : L → Signal → ℕ → L → Type 0
  IsLeft tag f heard left = (left ≡ heard_times k tag f heard) ⊎ (left ≡ k.machine.darkened (heard_times k tag f heard))

  pub heard_same : Laws k → (l : L) (f : Signal) (n : ℕ) → (k.machine.tech (heard_times k l f n) ≡ k.machine.tech l) × (k.identifier (heard_times k l f n) ≡ k.identifier l)
  heard_same laws l f zero = (refl, refl)
  heard_same laws l f (suc n) =
      ((laws.step_keeps (heard_times k l f n) f None).tech' ∙ (heard_same laws l f n).0, (laws.step_keeps (heard_times k l f n) f None).identifier' ∙ (heard_same laws l f n).1)

  -- what a link shows after a wait
  pub record Shown (a b : PlainSeen L) (f : Signal) (tag : L) (turns heard : ℕ) (done : List Signal) (events : List Event) : Type 0 where
    pub obeys : Obeys (plain_view k a) (plain_view k b) f
    pub least : length (plain_view k b).obeyed ≡ length (plain_view k a).obeyed + heard
    pub step : (plain_view k a).step (plain_view k a).state f ≡ tag_step k tag f
    pub after : (n : ℕ) → heard ≡ suc n → (plain_view k b).state ≡ ((plain_view k a).step (plain_view k a).state f).after
    pub either : ((plain_view k b).state.store ≡ (plain_view k a).state.store) ⊎ ((plain_view k b).state.store ≡ ((plain_view k a).step (plain_view k a).state f).after.store)
    pub answered : (plain_view k b).answered ≡ (plain_view k a).answered ++ done
    pub noise : (plain_view k b).noise ≡ (plain_view k a).noise + noise events
    pub long : length b.air.trace ≤ length a.air.trace + 2 * turns
    pub longer : length a.air.trace ≤ length b.air.trace
    pub images : Follows (plain_view k a).state.store (stores_after k a.place (world a.air) (between k a b)) (passed (plain_view k a).step (plain_view k a).state obeys.more)

  module _ (laws : Laws k) (old : Air L) (place : ℕ) (f : Signal) (t : HasPlainTag k old place) (may : MayTell k t.tag f) (steady : IsSteady k t.tag f) where
    commands_heard : (n : ℕ) → k.commands (heard_times k t.tag f n) ≡ k.commands t.tag
    commands_heard zero = refl
    commands_heard (suc n) = (laws.step_keeps (heard_times k t.tag f n) f None).commands' ∙ commands_heard n

    commands_dark : (n : ℕ) → k.commands (k.machine.darkened (heard_times k t.tag f n)) ≡ k.commands t.tag
    commands_dark n = (laws.dark_keeps (heard_times k t.tag f n)).0.commands' ∙ commands_heard n

    left_tech : (n : ℕ) (left : L) → IsLeft t.tag f n left → k.machine.tech left ≡ k.machine.tech t.tag
    left_tech n left (inl e) = ap k.machine.tech e ∙ (heard_same laws t.tag f n).0
    left_tech n left (inr e) = ap k.machine.tech e ∙ (laws.dark_keeps (heard_times k t.tag f n)).0.tech' ∙ (heard_same laws t.tag f n).0

    left_identifier : (n : ℕ) (left : L) → IsLeft t.tag f n left → k.identifier left ≡ k.identifier t.tag
    left_identifier n left (inl e) = ap k.identifier e ∙ (heard_same laws t.tag f n).1
    left_identifier n left (inr e) = ap k.identifier e ∙ (laws.dark_keeps (heard_times k t.tag f n)).0.identifier' ∙ (heard_same laws t.tag f n).1

    left_commands : (n : ℕ) (left : L) → IsLeft t.tag f n left → k.commands left ≡ k.commands t.tag
    left_commands n left (inl e) = ap k.commands e ∙ commands_heard n
    left_commands n left (inr e) = ap k.commands e ∙ commands_dark n

    left_store : (n : ℕ) (left : L) → IsLeft t.tag f n left → plain_state (k.store left) ≡ after_all (k.commands t.tag) (plain_state (k.store t.tag)) (times f n)
    left_store n left (inl e) = ap (λ l. plain_state (k.store l)) e ∙ store_heard k t.tag f steady n
    left_store n left (inr e) = ap (λ l. plain_state (k.store l)) e ∙ ap plain_state (laws.dark_keeps (heard_times k t.tag f n)).1 ∙ store_heard k t.tag f steady n

    module _ (new : Air L) (turns heard : ℕ) (s : Standing) (left : L) (done : List Signal) (w : Waited k old new place f t.tag turns heard s left done) (is : IsLeft t.tag f heard left)
        (start : ℕ) (last last' : Option Signal) (over over' : Option AskFault) (begun : start ≤ length old.trace) (none : over ≡ None) where
      abbrev before : PlainSeen L
      before = record { air = old; place = place; start = start; last = last; over = over }

      abbrev behind : PlainSeen L
      behind = record { air = new; place = place; start = start; last = last'; over = over' }

      was : {B : Type 0} (g : L → B) (d : B) → at_place g d old.listeners place ≡ g t.tag
      was g d = place_is k g d (k.identifier t.tag) old.listeners place t.tag t.alone

      now : {B : Type 0} (g : L → B) (d : B) → at_place g d new.listeners place ≡ g left
      now g d = place_is k g d (k.identifier t.tag) new.listeners place left w.alone

      since_new : drop start new.trace ≡ drop start old.trace ++ w.events
      since_new = ap (drop start) w.trace ∙ drop-append-le start old.trace w.events begun

      same_step : (plain_view k behind).step ≡ (plain_view k before).step
      same_step = now k.commands _ ∙ left_commands heard left is ∙ sym (was k.commands _)

      -- what the tag does, as the link shows it
      shown_step : (plain_view k before).step (plain_view k before).state f ≡ tag_step k t.tag f
      shown_step =
          let S : TagState → TagStep = λ x. (plain_view k before).step x f in
          let T : (TagState → Signal → TagStep) → TagStep = λ g. g (plain_state (k.store t.tag)) f in
          ap S (ap plain_state (was k.store [])) ∙ ap T (was k.commands _)

      shown_again : ((plain_view k before).step ((plain_view k before).step (plain_view k before).state f).after f).after ≡ ((plain_view k before).step (plain_view k before).state f).after
      shown_again =
          let S : TagStep → TagState = λ x. ((plain_view k before).step x.after f).after in
          let T : (TagState → Signal → TagStep) → TagState = λ g. (g (tag_step k t.tag f).after f).after in
          ap S shown_step ∙ ap T (was k.commands _) ∙ steady.again ∙ sym (ap (λ x. x.after) shown_step)

      shown_state : (plain_view k behind).state ≡ after_all (plain_view k before).step (plain_view k before).state (times f heard)
      shown_state =
          let S : TagState → TagState = λ x. after_all (k.commands t.tag) x (times f heard) in
          let T : (TagState → Signal → TagStep) → TagState = λ g. after_all g (plain_view k before).state (times f heard) in
          ap plain_state (now k.store []) ∙ left_store heard left is ∙ sym (ap S (ap plain_state (was k.store []))) ∙ sym (ap T (was k.commands _))

      same_tech : at_place k.machine.tech A new.listeners place ≡ at_place k.machine.tech A old.listeners place
      same_tech = now k.machine.tech A ∙ left_tech heard left is ∙ sym (was k.machine.tech A)

      shown_obeyed : (plain_view k behind).obeyed ≡ (plain_view k before).obeyed ++ times f heard
      shown_obeyed =
          let t0 : Tech = at_place k.machine.tech A old.listeners place in
          ap (λ u. obeyed_in u (drop start new.trace)) same_tech ∙ ap (obeyed_in t0) since_new ∙ obeyed_append t0 (drop start old.trace) w.events
          ∙ ap (λ xs. obeyed_in t0 (drop start old.trace) ++ xs) (ap (λ u. obeyed_in u w.events) (was k.machine.tech A) ∙ w.obeyed)

      leads : Leads (plain_view k before) (plain_view k behind) (times f heard)
      leads = record {
        kind = ap plain_kind same_tech;
        identifier = now k.identifier [] ∙ left_identifier heard left is ∙ sym (was k.identifier []);
        step = same_step;
        obeyed = shown_obeyed;
        store = ap (λ s. s.store) shown_state;
        state = λ h. shown_state;
        ended = λ e h. absurd (let before : over ≡ None = none in cc);
      }

      abbrev obeys : Obeys (plain_view k before) (plain_view k behind) f
      obeys = record {
        more = times f heard;
        leads = leads;
        steady = record {
          only = only_times f heard;
          same = passed_times (plain_view k before).step (plain_view k before).state f shown_again heard;
          most = λ e. absurd (never_type4 (at_place k.machine.tech A old.listeners place) e);
        };
      }

      after_heard : (n : ℕ) → heard ≡ suc n → (plain_view k behind).state ≡ ((plain_view k before).step (plain_view k before).state f).after
      after_heard n e =
          shown_state ∙ ap (λ n. after_all (plain_view k before).step (plain_view k before).state (times f n)) e
          ∙ after_times (plain_view k before).step (plain_view k before).state f shown_again n

      -- the tag holds what it held before the command or after it
      either_store : (n : ℕ) → heard ≡ n → ((plain_view k behind).state.store ≡ (plain_view k before).state.store)
          ⊎ ((plain_view k behind).state.store ≡ ((plain_view k before).step (plain_view k before).state f).after.store)
      either_store zero e = inl (ap (λ s. s.store) (shown_state ∙ ap (λ n. after_all (plain_view k before).step (plain_view k before).state (times f n)) e))
      either_store (suc n) e = inr (ap (λ s. s.store) (after_heard n e))

      shown_answered : (plain_view k behind).answered ≡ (plain_view k before).answered ++ done
      shown_answered = ap answered_in since_new ∙ answered_append (drop start old.trace) w.events w.fresh ∙ ap (λ xs. answered_in (drop start old.trace) ++ xs) w.answered

      shown_noise : (plain_view k behind).noise ≡ (plain_view k before).noise + noise w.events
      shown_noise = ap noise since_new ∙ noise_append (drop start old.trace) w.events

      length_new : length new.trace ≡ length old.trace + length w.events
      length_new = ap length w.trace ∙ length-append old.trace w.events

      shown_least : length (plain_view k behind).obeyed ≡ length (plain_view k before).obeyed + heard
      shown_least =
          ap length shown_obeyed ∙ length-append (plain_view k before).obeyed (times f heard)
          ∙ ap (λ n. length (plain_view k before).obeyed + n) (length_times f heard)

      all_between : between k before behind ≡ w.events
      all_between = ap (drop (length old.trace)) w.trace ∙ drop-append_seam old.trace w.events

      shown_images : Follows (plain_view k before).state.store (stores_after k place (world old) (between k before behind))
          (passed (plain_view k before).step (plain_view k before).state (times f heard))
      shown_images =
          let P : List Event → Type 0 = λ es. Follows (plain_view k before).state.store (stores_after k place (world old) es)
          (passed (plain_view k before).step (plain_view k before).state (times f heard)) in
          let Q : List ℕ → Type 0 = λ s. Follows s (stores_after k place (world old) w.events) (passed (plain_view k before).step (plain_state s) (times f heard)) in
          let R : (TagState → Signal → TagStep) → Type 0 = λ g. Follows (k.store t.tag) (stores_after k place (world old) w.events) (passed g (plain_state (k.store t.tag)) (times f heard)) in
          subst P (sym all_between) (subst Q (sym (was k.store [])) (subst R (sym (was k.commands _)) w.images))

      pub shown : Shown before behind f t.tag turns heard done w.events
      shown = record {
        obeys = obeys;
        least = shown_least;
        step = shown_step;
        after = after_heard;
        either = either_store heard refl;
        answered = shown_answered;
        noise = shown_noise;
        long = omega (arith, length_new, w.most);
        longer = omega (arith, length_new);
        images = shown_images;
      }
