-- How a wait of a plain tag goes on by one turn, and how it ends.
use Rattle.std.proofs.Common.{◌≡◌, ℕ, zero, suc, ◌+◌, ◌<◌, ◌≤◌, ◌⊎◌, inl, inr, List, [], ◌∷◌, ◌++◌, length, true, if◌then◌else◌, Option, Some, None, refl, sym, ◌∙◌, ap, subst, append-nil, arith}
use Rattle.std.proofs.Common.{false}
use Rattle.std.specs.Prelude.{map}
use Rattle.nfc_base.specs.declared.frame.Tech.{Tech}
use Rattle.nfc_base.specs.declared.event.Event.{Event}
use Rattle.nfc_base.specs.declared.event.Fate.{Fate}
use Rattle.nfc_base.specs.declared.event.Fate.TheVariants.{Pass, Damage, Lose, Break}
use Rattle.nfc_base.specs.declared.event.Heard.{Heard}
use Rattle.nfc_base.specs.declared.event.Heard.TheVariants.{Whole, Damaged, Silent}
use Rattle.nfc_base.specs.declared.tag_link.AskFault.TheVariants as ask
use Rattle.nfc_base.specs.Signal.{Signal}
use Rattle.nfc_base.specs.Far.{Untouched}
use Rattle.nfc_base.specs.TagLinks.{TagState, plain_state, IsNamedIn, after_all, passed}
use Rattle.nfc_base.specs.Trace.{Turn, back_of, noise}
use Rattle.nfc_base.specs.Trace as backs
use Rattle.air_core.specs.Joint.{same_tech}
use Rattle.air_core.specs.World.{hears, hands_over, stepped_by, quiet_air}
use Rattle.air_core.specs.Conversation.{note, replay, TurnsTo, first_fate, later_fates}
use Rattle.air_core.specs.Turn.{Air, moment, world}
use Rattle.air_core.specs.Quiet.{EachQuiet, QuietTurn}
use Rattle.air_core.specs.Waits.{Asking, Broken, stand}
use Rattle.air_core.specs.PlainTags.{heard_times, tag_step, IsAside, IsAlone, MayTell}
use Rattle.air_core.specs.PlainLinks.{obeyed_in, answered_in, Follows, stores_after}
use Rattle.air_core.specs.private.PlainWaits.{after_bad, times, Waited, GoesOn, Answered, Darkened}
use Rattle.air_core.specs.declared.listener.Listener.{Ghosts}
use Rattle.air_core.proofs.FirstAnswers.{ByHeard}
use Rattle.air_core.proofs.OneAir.{same_itself}
use Rattle.air_core.proofs.Quiet.{quiet_turns_to}
use Rattle.air_core.proofs.PlainAside.{Laws, IsUnmoved, aside_silent, may_tech, alone_quiet}
use Rattle.air_core.proofs.AloneTurns.{left_by, ComesTo, stepped_alone, comes_to}
use Rattle.air_core.proofs.PlainTagging.{IsSteady}
use Rattle.air_core.proofs.PlainStores.{newly, passed_more, pictures}
use Rattle.air_core.proofs.PlainTurns.{tag_events, tag_heard, tag_most, noise_append, times_more, asking_bad, extend}

module _ {L : Type 0} (k : Ghosts L) where
  -- what a turn comes to after some bad receptions, by what was heard
  abbrev pub Outcome : Air L → Air L → ℕ → Signal → L → ℕ → Option Heard → Type 0
  Outcome old new place f tag bad h = ByHeard (Darkened k old new place f tag) (λ g. Answered k old new place f tag g) (GoesOn k old new place f tag (suc bad)) h

  module _ (laws : Laws k) where
    heard_keeps : (l : L) (f : Signal) (n : ℕ) → (k.machine.tech (heard_times k l f n) ≡ k.machine.tech l) × (k.identifier (heard_times k l f n) ≡ k.identifier l)
    heard_keeps l f zero = (refl, refl)
    heard_keeps l f (suc n) = ((laws.step_keeps (heard_times k l f n) f None).tech' ∙ (heard_keeps l f n).0, (laws.step_keeps (heard_times k l f n) f None).identifier' ∙ (heard_keeps l f n).1)

    obeyed_once : (f : Signal) (t : Tech) (n : ℕ) (y : Fate) (o : Option Signal) → same_tech f.tech t ≡ true → times f n ++ obeyed_in t (tag_events f Pass y o) ≡ times f (suc n)
    obeyed_once f t n y None e =
        let u : Turn = record { request = f; fate = Pass; back = backs.Nothing } in
        ap (λ v. times f n ++ map (λ (z : Turn). z.request) (if v then u ∷ [] else [])) e ∙ times_more f n
    obeyed_once f t n y (Some g) e =
        let u : Turn = record { request = f; fate = Pass; back = backs.Single g y } in
        ap (λ v. times f n ++ map (λ (z : Turn). z.request) (if v then u ∷ [] else [])) e ∙ times_more f n

    module _ (old mid new : Air L) (place : ℕ) (f : Signal) (tag : L) (bad n : ℕ) (bound : bad < 6) (lit : mid.lit ≡ true) (start : old.lit ≡ true)
        (w : Waited k old mid place f tag bad n (after_bad f bad) (heard_times k tag f n) []) (calm : 0 < bad → ((tag_step k tag f).answer ≡ None) ⊎ (0 < noise w.events))
        (tech : same_tech f.tech (k.machine.tech tag) ≡ true) where
      abbrev held : TagState
      held = after_all (k.commands tag) (plain_state (k.store tag)) (times f n)

      same_passed : passed (k.commands tag) (plain_state (k.store tag)) (times f n) ≡ passed (k.commands tag) (plain_state (k.store tag)) (times f n) ++ []
      same_passed = sym (append-nil _)

      -- the wait goes on: the turn was bad
      goes_more : (h : Heard) (es : List Event) (n' : ℕ) → TurnsTo (quiet_air k.machine) (moment mid) (moment new) f (Some h)
          → new.trace ≡ mid.trace ++ es → back_of es ≡ backs.Nothing → length es ≤ 2 → IsAlone k (k.identifier tag) new.listeners place (heard_times k tag f n')
          → times f n ++ obeyed_in (k.machine.tech tag) es ≡ times f n' → answered_in es ≡ [] → stand bad (f ∷ []) (note (Some h) ∷ []) ≡ after_bad f (suc bad)
          → (zs : List (List ℕ)) → passed (k.commands tag) (plain_state (k.store tag)) (times f n') ≡ passed (k.commands tag) (plain_state (k.store tag)) (times f n) ++ zs
          → Follows held.store (stores_after k place (world mid) es) zs
          → new.lit ≡ true → ((tag_step k tag f).answer ≡ None) ⊎ (0 < noise es) → GoesOn k old new place f tag (suc bad)
      goes_more h es n' turn trace fresh short alone obeyed answered stands zs more images bright (inl none) = record {
        heard = n';
        waits = extend k old mid new place f tag bad n bad (after_bad f bad) (heard_times k tag f n) (Some h) es n' (after_bad f (suc bad)) (heard_times k tag f n') [] w (asking_bad f bad bound) turn
            trace fresh short alone obeyed answered stands zs more images;
        lit = bright ∙ sym start;
        begun = λ h. start;
        calm = λ h. inl none;
      }
      goes_more h es n' turn trace fresh short alone obeyed answered stands zs more images bright (inr noisy) = record {
        heard = n';
        waits = extend k old mid new place f tag bad n bad (after_bad f bad) (heard_times k tag f n) (Some h) es n' (after_bad f (suc bad)) (heard_times k tag f n') [] w (asking_bad f bad bound) turn
            trace fresh short alone obeyed answered stands zs more images;
        lit = bright ∙ sym start;
        begun = λ h. start;
        calm = λ h. inr (let e : noise (w.events ++ es) ≡ noise w.events + noise es = noise_append w.events es in omega (arith, e, noisy));
      }

      -- the field was lost
      darkens : (es : List Event) (n' : ℕ) → TurnsTo (quiet_air k.machine) (moment mid) (moment new) f None
          → new.trace ≡ mid.trace ++ es → back_of es ≡ backs.Nothing → length es ≤ 2 → IsAlone k (k.identifier tag) new.listeners place (k.machine.darkened (heard_times k tag f n'))
          → times f n ++ obeyed_in (k.machine.tech tag) es ≡ times f n' → answered_in es ≡ []
          → (zs : List (List ℕ)) → passed (k.commands tag) (plain_state (k.store tag)) (times f n') ≡ passed (k.commands tag) (plain_state (k.store tag)) (times f n) ++ zs
          → Follows held.store (stores_after k place (world mid) es) zs
          → 0 < noise es → new.lit ≡ false → Darkened k old new place f tag
      darkens es n' turn trace fresh short alone obeyed answered zs more images noisy dim = record {
        turns = suc bad;
        heard = n';
        waits = extend k old mid new place f tag bad n bad (after_bad f bad) (heard_times k tag f n) None es n' (Broken ask.FieldLost (f ∷ [])) (k.machine.darkened (heard_times k tag f n')) [] w
            (asking_bad f bad bound) turn trace fresh short alone obeyed answered refl zs more images;
        bound = omega (arith, bound);
        noisy = let e : noise (w.events ++ es) ≡ noise w.events + noise es = noise_append w.events es in omega (arith, e, noisy);
        dim = dim;
      }

      finish : (x y : Fate) (o : Option Signal) → (tag_step k tag f).answer ≡ o → TurnsTo (quiet_air k.machine) (moment mid) (moment new) f (tag_heard x y o)
          → new.trace ≡ mid.trace ++ tag_events f x y o → world new ≡ replay (quiet_air k.machine) (world mid) (tag_events f x y o)
          → IsAlone k (k.identifier tag) new.listeners place (left_by k (heard_times k tag f n) f x y o)
          → Follows held.store (stores_after k place (world mid) (tag_events f x y o)) (passed (k.commands tag) held (newly x f)) → Outcome old new place f tag bad (tag_heard x y o)
      finish Damage y o says turn trace after alone images =
          goes_more Silent (tag_events f Damage y o) n turn trace refl (tag_most f Damage y o) alone (append-nil (times f n)) refl refl [] same_passed images (ap (λ v. v.lit) after ∙ lit)
          (inr (omega arith))
      finish Lose y o says turn trace after alone images =
          goes_more Silent (tag_events f Lose y o) n turn trace refl (tag_most f Lose y o) alone (append-nil (times f n)) refl refl [] same_passed images (ap (λ v. v.lit) after ∙ lit)
          (inr (omega arith))
      finish Break y o says turn trace after alone images = darkens (tag_events f Break y o) n turn trace refl (tag_most f Break y o) alone (append-nil (times f n)) refl [] same_passed images
          (omega arith) (ap (λ v. v.lit) after)
      finish Pass y None says turn trace after alone images =
          goes_more Silent (tag_events f Pass y None) (suc n) turn trace refl (tag_most f Pass y None) alone (obeyed_once f (k.machine.tech tag) n y None tech) refl refl
          _ (passed_more (k.commands tag) (plain_state (k.store tag)) f n) images (ap (λ v. v.lit) after ∙ lit) (inl says)
      finish Pass Pass (Some g) says turn trace after alone images = record {
        turns = suc bad;
        heard = n;
        waits = extend k old mid new place f tag bad n bad (after_bad f bad) (heard_times k tag f n) (Some (Whole g)) (tag_events f Pass Pass (Some g)) (suc n) (Asking 0 [])
            (heard_times k tag f (suc n)) (f ∷ []) w (asking_bad f bad bound) turn trace refl
            (tag_most f Pass Pass (Some g)) alone (obeyed_once f (k.machine.tech tag) n Pass (Some g) tech) refl refl _ (passed_more (k.commands tag) (plain_state (k.store tag)) f n) images;
        bound = omega (arith, bound);
        lit = ap (λ v. v.lit) after ∙ lit;
        says = says;
      }
      finish Pass Damage (Some g) says turn trace after alone images =
          goes_more Damaged (tag_events f Pass Damage (Some g)) (suc n) turn trace refl (tag_most f Pass Damage (Some g)) alone (obeyed_once f (k.machine.tech tag) n Damage (Some g) tech) refl refl
          _ (passed_more (k.commands tag) (plain_state (k.store tag)) f n) images (ap (λ v. v.lit) after ∙ lit) (inr (omega arith))
      finish Pass Lose (Some g) says turn trace after alone images =
          goes_more Silent (tag_events f Pass Lose (Some g)) (suc n) turn trace refl (tag_most f Pass Lose (Some g)) alone (obeyed_once f (k.machine.tech tag) n Lose (Some g) tech) refl refl
          _ (passed_more (k.commands tag) (plain_state (k.store tag)) f n) images (ap (λ v. v.lit) after ∙ lit) (inr (omega arith))
      finish Pass Break (Some g) says turn trace after alone images =
          darkens (tag_events f Pass Break (Some g)) (suc n) turn trace refl (tag_most f Pass Break (Some g)) alone (obeyed_once f (k.machine.tech tag) n Break (Some g) tech) refl
          _ (passed_more (k.commands tag) (plain_state (k.store tag)) f n) images (omega arith) (ap (λ v. v.lit) after)

    module _ (old mid : Air L) (place : ℕ) (f : Signal) (tag : L) (bad : ℕ) (steady : IsSteady k tag f) (may : MayTell k tag f) (named : IsNamedIn (k.machine.tech tag) (k.identifier tag))
        (goes : GoesOn k old mid place f tag bad) where
      silent : (l : L) → IsAside k (k.identifier tag) l → IsUnmoved k laws (k.identifier tag) f l
      silent l a = aside_silent k laws (k.identifier tag) (k.machine.tech tag) f may named l a

      same : same_tech f.tech (k.machine.tech tag) ≡ true
      same = ap (λ t. same_tech t (k.machine.tech tag)) (may_tech k laws (k.identifier tag) (k.machine.tech tag) f may) ∙ same_itself (k.machine.tech tag)

      hearing : hears k.machine (heard_times k tag f goes.heard) f ≡ true
      hearing =
          ap (λ t. same_tech t f.tech) (heard_keeps tag f goes.heard).0
          ∙ ap (λ t. same_tech (k.machine.tech tag) t) (may_tech k laws (k.identifier tag) (k.machine.tech tag) f may) ∙ same_itself (k.machine.tech tag)

      hands : hands_over k.machine (heard_times k tag f goes.heard) f ≡ Untouched
      hands = ap (λ v. if v then k.machine.handed (heard_times k tag f goes.heard) f else Untouched) hearing ∙ steady.quiet goes.heard

      -- none of the listeners asks anything of a far end
      pub each_quiet : EachQuiet k.machine f mid.listeners
      each_quiet = alone_quiet k laws (k.identifier tag) f silent mid.listeners place (heard_times k tag f goes.heard) goes.waits.alone hands

      pub turned : {F : Type 0} (new : Air L) (h : Option Heard) (far far' : F) → bad < 6 → QuietTurn k.machine mid f far h new far' → Outcome old new place f tag bad h
      turned new h far far' bound t =
          let x : Fate = first_fate mid.fates in
          let y : Fate = first_fate (later_fates mid.fates) in
          let o : Option Signal = (tag_step k tag f).answer in
          let l : L = heard_times k tag f goes.heard in
          let c : ComesTo k (k.identifier tag) mid new place l f h x y o =
          comes_to k laws (k.identifier tag) f silent mid place l goes.waits.alone hearing o (steady.answer goes.heard) far far' new h t in
          let next : IsAlone k (k.identifier tag) (map (λ z. stepped_by k.machine z f None) mid.listeners) place (heard_times k tag f (suc goes.heard)) =
          stepped_alone k laws (k.identifier tag) f silent (world mid) place l goes.waits.alone hearing in
          let N : Option Heard → Type 0 = λ g. TurnsTo (quiet_air k.machine) (moment mid) (moment new) f g in
          let O : Option Heard → Type 0 = Outcome old new place f tag bad in
          let turn : N h = quiet_turns_to k.machine mid new f far far' h t in
          let start : old.lit ≡ true = sym goes.lit ∙ t.lit in
          subst O (sym c.told) (finish old mid new place f tag bad goes.heard bound t.lit start goes.waits goes.calm same x y o refl (subst N c.told turn) c.trace c.after c.alone
          (pictures k laws (k.identifier tag) tag f steady goes.heard (world mid) place goes.waits.alone next x y o))
