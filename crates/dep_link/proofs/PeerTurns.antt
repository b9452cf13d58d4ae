-- One turn with a peer that is alone in its field is a turn of the two tables, in which the far end does what the target asks of it.
use Rattle.std.proofs.Common.{◌≡◌, ◌⊎◌, inl, inr, arith, ℕ, List, [], ◌∷◌, ◌++◌, Bool, true, false, if◌then◌else◌, Option, Some, None, refl, sym, ◌∙◌, ap, subst}
use Rattle.std.specs.List.{AllByRecursion}
use Rattle.nfc_base.specs.declared.frame.Tech.TheVariants.{A}
use Rattle.nfc_base.specs.declared.event.Event.{Event}
use Rattle.nfc_base.specs.declared.event.Fate.{Fate}
use Rattle.nfc_base.specs.declared.event.Fate.TheVariants.{Pass, Damage, Lose, Break}
use Rattle.nfc_base.specs.declared.event.Heard.{Heard}
use Rattle.nfc_base.specs.declared.event.Heard.TheVariants as heards
use Rattle.nfc_base.specs.Trace.{noise}
use Rattle.nfc_base.specs.Signal.{Signal, whole_a}
use Rattle.nfc_base.specs.Far.{FarUse, Untouched, Restarts}
use Rattle.nfc_base.specs.LinkTurns.{MovedBy, settled, step, turned, IsTurn}
use Rattle.air_core.specs.Joint.{same_tech}
use Rattle.air_core.specs.World.{World, hears, hands_over, quiet_air}
use Rattle.air_core.specs.Conversation.{replay, first_fate, later_fates}
use Rattle.air_core.specs.Turn.{Air, world, TurnIs}
use Rattle.air_core.specs.Quiet.{EachQuiet, QuietTurn}
use Rattle.air_core.specs.PlainTags.{IsAside, IsAlone}
use Rattle.air_core.specs.declared.listener.Listener.{Ghosts}
use Rattle.air_core.proofs.PlainAside.{Laws, IsUnmoved, aside_silent}
use Rattle.air_core.proofs.PlainTurns.{tag_events, tag_heard, calm_events}
use Rattle.air_core.proofs.AloneTurns.{left_by, ComesTo, comes_to}
use Rattle.air_core.proofs.TableTurns.{passed_asked, same_events, same_heard, same_view}
use Rattle.dep_link.specs.declared.target.TargetStep.{TargetStep}
use Rattle.dep_link.specs.declared.target.TargetStep.TheVariants as steps
use Rattle.dep_link.specs.Target.{TargetState, target_table, darkened}
use Rattle.dep_link.specs.Exchange.{nfc_dep, target_does}
use Rattle.dep_link.specs.Answering.{reply_for, payload_handed, answering}
use Rattle.dep_link.specs.Peers.{target_use, answered_with, left_with, IsAsked, IsShort, heard_with, StepsByTarget, IsPeer}
use Rattle.dep_link.proofs.Answered.{handed_by, moved_by, hands_nothing, AnsweredTurn, answered_turn, Told}

module _ {L : Type 0} (k : Ghosts L) (laws : Laws k) (r : List ℕ) where
  -- the listeners under a far end that replies r
  abbrev pub told : Ghosts L
  told = record k { machine = answering k.machine r }

  reply_none : (u : FarUse) → u ≡ Untouched → reply_for r u ≡ None
  reply_none u e = ap (reply_for r) e

  pub told_laws : Laws told
  told_laws = record {
    step_keeps = λ l f reply. laws.step_keeps l f (reply_for r (k.machine.handed l f));
    dark_keeps = laws.dark_keeps;
    dark_rests = laws.dark_rests;
    rests = λ l bytes t a b.
        let q = laws.rests l bytes t a b in
        let e = reply_none (k.machine.handed l (whole_a bytes)) q.0 in (
          refl,
          ap (k.machine.answer l (whole_a bytes)) e ∙ q.1,
          ap (λ x. k.is_ready (k.machine.after l (whole_a bytes) x)) e ∙ q.2,
          ap (λ x. k.is_selected (k.machine.after l (whole_a bytes) x)) e ∙ q.3,
        );
    ignores = λ l other f t o.
        let q = laws.ignores l other f t o in (refl, ap (k.machine.answer l f) (reply_none (k.machine.handed l f) q.0) ∙ q.1);
  }

  aside_told : (own : List ℕ) (ls : List L) → AllByRecursion (IsAside k own) ls → AllByRecursion (IsAside told own) ls
  aside_told own [] a = tt
  aside_told own (l ∷ ls) a = (record { rests = a.0.rests; other = a.0.other }, aside_told own ls a.1)

  aside_back : (own : List ℕ) (ls : List L) → AllByRecursion (IsAside told own) ls → AllByRecursion (IsAside k own) ls
  aside_back own [] a = tt
  aside_back own (l ∷ ls) a = (record { rests = a.0.rests; other = a.0.other }, aside_back own ls a.1)

  pub alone_told : (own : List ℕ) (ls : List L) (place : ℕ) (l : L) → IsAlone k own ls place l → IsAlone told own ls place l
  alone_told own ls place l a =
      record { before = a.before; behind = a.behind; split = a.split; stands = a.stands; first = aside_told own a.before a.first; later = aside_told own a.behind a.later }

  pub alone_back : (own : List ℕ) (ls : List L) (place : ℕ) (l : L) → IsAlone told own ls place l → IsAlone k own ls place l
  alone_back own ls place l a =
      record { before = a.before; behind = a.behind; split = a.split; stands = a.stands; first = aside_back own a.before a.first; later = aside_back own a.behind a.later }

  -- which listener is left where something was heard, and whether the field is lit
  abbrev pub IsLeft : L → Signal → Bool → Option Heard → L → Type 0
  IsLeft l f lit (Some h) left = ((left ≡ l) ⊎ (left ≡ heard_with k l f r)) × (lit ≡ true)
  IsLeft l f lit None left = lit ≡ false

  pub left_is : (l : L) (f : Signal) (x y : Fate) (q : Option Signal) (w : World L) → w.lit ≡ true
      → IsLeft l f (replay (quiet_air told.machine) w (tag_events f x y q)).lit (tag_heard x y q) (left_by told l f x y q)
  left_is l f Pass y None w e = (inr refl, e)
  left_is l f Pass Pass (Some g) w e = (inr refl, e)
  left_is l f Pass Damage (Some g) w e = (inr refl, e)
  left_is l f Pass Lose (Some g) w e = (inr refl, e)
  left_is l f Pass Break (Some g) w e = refl
  left_is l f Damage y q w e = (inl refl, e)
  left_is l f Lose y q w e = (inl refl, e)
  left_is l f Break y q w e = refl

-- a step of the table is that of the listener
settled_answer : (first : ℕ) (r : List ℕ) (t : TargetState) (d : TargetStep) → (settled (nfc_dep first) r t (target_does d)).answer ≡ answered_with t r d
settled_answer first r t steps.Quiet = refl
settled_answer first r t (steps.Reply f) = refl
settled_answer first r t (steps.Restart general f) = refl
settled_answer first r t (steps.Deliver payload) = refl
settled_answer first r t (steps.Asleep f) = refl
settled_answer first r t (steps.Released f) = refl

settled_state : (first : ℕ) (r : List ℕ) (t : TargetState) (d : TargetStep) → (settled (nfc_dep first) r t (target_does d)).state ≡ left_with t r d
settled_state first r t steps.Quiet = refl
settled_state first r t (steps.Reply f) = refl
settled_state first r t (steps.Restart general f) = refl
settled_state first r t (steps.Deliver payload) = refl
settled_state first r t (steps.Asleep f) = refl
settled_state first r t (steps.Released f) = refl

-- what the target asks of the far end is what was handed over
settled_asks : (first : ℕ) (r : List ℕ) (t : TargetState) (d : TargetStep) → (settled (nfc_dep first) r t (target_does d)).asked ≡ payload_handed (target_use d)
settled_asks first r t steps.Quiet = refl
settled_asks first r t (steps.Reply f) = refl
settled_asks first r t (steps.Restart general f) = refl
settled_asks first r t (steps.Deliver payload) = refl
settled_asks first r t (steps.Asleep f) = refl
settled_asks first r t (steps.Released f) = refl

pub same_asked : (first : ℕ) (r : List ℕ) (t : TargetState) (f : Signal) (x y : Fate) → (turned (nfc_dep first) r t f x y).asked ≡ handed_by x (target_use (target_table t f).does)
same_asked first r t f Pass y =
    passed_asked (nfc_dep first) (step (nfc_dep first) r t f).state (step (nfc_dep first) r t f).asked f (step (nfc_dep first) r t f).answer y
    ∙ settled_asks first r (target_table t f).state (target_table t f).does
same_asked first r t f Damage y = refl
same_asked first r t f Lose y = refl
same_asked first r t f Break y = refl

module _ {L : Type 0} (k : Ghosts L) (laws : Laws k) (target : L → TargetState) where
  -- A turn with this listener, which is alone, as a turn of the two tables and of the air of its reply.
  pub record PeerTurn {F : Type 0} (steps : F → List ℕ → List ℕ → F → Type 0) (first : ℕ) (old new : Air L) (place : ℕ) (l : L) (f : Signal) (h : Option Heard) (far far' : F) : Type 0 where
    pub reply : List ℕ
    pub left : L
    pub alone : IsAlone k (k.identifier l) new.listeners place left
    pub turn : IsTurn (nfc_dep first) F IsShort steps (target l) old.trace far f h (target left) new.trace far'
    pub quiet : QuietTurn {A = Told} (answering k.machine reply) old f tt h new tt
    -- where nothing was handed over any reply would do
    pub any : (turned (nfc_dep first) turn.reply (target l) f turn.first turn.second).asked ≡ None → (r : List ℕ) → QuietTurn {A = Told} (answering k.machine r) old f tt h new tt
    pub same : turn.reply ≡ reply
    pub is : IsLeft k laws turn.reply l f new.lit h left
    -- where all passes, a target that says something is heard
    pub calm : noise (turned (nfc_dep first) turn.reply (target l) f turn.first turn.second).events ≡ 0
        → ((step (nfc_dep first) turn.reply (target l) f).answer ≡ None) ⊎ ((g : Signal) × (h ≡ Some (heards.Whole g)))

  calm_is : (first : ℕ) (r : List ℕ) (t : TargetState) (f : Signal) (x y : Fate) (h : Option Heard) → h ≡ tag_heard x y (step (nfc_dep first) r t f).answer
      → noise (turned (nfc_dep first) r t f x y).events ≡ 0 → ((step (nfc_dep first) r t f).answer ≡ None) ⊎ ((g : Signal) × (h ≡ Some (heards.Whole g)))
  calm_is first r t f x y h e n = go (calm_events f x y (step (nfc_dep first) r t f).answer (sym (ap noise (same_events (nfc_dep first) r t f x y)) ∙ n))
    where
      go : ((step (nfc_dep first) r t f).answer ≡ None) ⊎ ((g : Signal) × (tag_heard x y (step (nfc_dep first) r t f).answer ≡ Some (heards.Whole g)))
          → ((step (nfc_dep first) r t f).answer ≡ None) ⊎ ((g : Signal) × (h ≡ Some (heards.Whole g)))
      go (inl q) = inl q
      go (inr (g, q)) = inr (g, e ∙ q)

  whole_asked : (f : Signal) → IsAsked f → f ≡ whole_a f.bytes
  whole_asked f a = a.frame ∙ ap (λ (z : Signal). whole_a z.bytes) (sym a.frame)

  asked_aside : (k : Ghosts L) (laws : Laws k) (own : List ℕ) (f : Signal) → IsAsked f → (l : L) → IsAside k own l → IsUnmoved k laws own f l
  asked_aside k laws own f a l s = aside_silent k laws own A f (whole_asked f a) tt l s

  pub hears_asked : (l : L) (f : Signal) → IsAsked f → k.machine.tech l ≡ A → hears k.machine l f ≡ true
  hears_asked l f a e = ap (λ t. same_tech t f.tech) e ∙ ap (λ (z : Signal). same_tech A z.tech) a.frame

  pub each_quiet : (own : List ℕ) (f : Signal) → IsAsked f → (ls : List L) → AllByRecursion (IsAside k own) ls → EachQuiet k.machine f ls
  each_quiet own f a [] s = tt
  each_quiet own f a (l ∷ ls) s = ((asked_aside k laws own f a l s.0).quiet, each_quiet own f a ls s.1)

  module _ {F : Type 0} (restarts : F → List ℕ → F → Type 0) (steps : F → List ℕ → List ℕ → F → Type 0) where
    pub peer_turn : (first : ℕ) (old : Air L) (place : ℕ) (l : L) (f : Signal) (alone : IsAlone k (k.identifier l) old.listeners place l) (c : IsPeer k target l) (a : IsAsked f)
        → ((general : List ℕ) → target_use (target_table (target l) f).does ≡ Restarts general → ⊥)
        → (far far' : F) (new : Air L) (h : Option Heard) → TurnIs k.machine restarts steps old f far h new far' → PeerTurn steps first old new place l f h far far'
    peer_turn first old place l f alone c a never far far' new h turn =
        let own : List ℕ = k.identifier l in
        let x : Fate = first_fate old.fates in
        let y : Fate = first_fate (later_fates old.fates) in
        let s0 : StepsByTarget k target l f [] = c.steps_on [] tt f a [] (omega arith) in
        let heard : hears k.machine l f ≡ true = hears_asked l f a c.tech in
        let uses : hands_over k.machine l f ≡ target_use (target_table (target l) f).does = ap (λ v. if v then k.machine.handed l f else Untouched) heard ∙ s0.asks in
        let t : AnsweredTurn k.machine restarts steps f (hands_over k.machine l f) old far h new far' =
        answered_turn k.machine restarts steps f alone.before l alone.behind (each_quiet own f a alone.before alone.first) (each_quiet own f a alone.behind alone.later) old far h new far' alone.split
        turn in
        let r : List ℕ = t.reply in
        let s : StepsByTarget k target l f r = c.steps_on [] tt f a r t.short in
        let o : Option Signal = (step (nfc_dep first) r (target l) f).answer in
        let m : Ghosts L = told k laws r in
        let ml : Laws m = told_laws k laws r in
        let lone : IsAlone m own old.listeners place l = alone_told k laws r own old.listeners place l alone in
        let says : m.machine.answer l f None ≡ o = s.answer ∙ sym (settled_answer first r (target_table (target l) f).state (target_table (target l) f).does) in
        let comes : ComesTo m own old new place l f h x y o = comes_to m ml own f (asked_aside m ml own f a) old place l lone heard o says tt tt new h t.quiet in
        record {
          reply = r;
          left = left_by m l f x y o;
          alone = alone_back k laws r own new.listeners place (left_by m l f x y o) comes.alone;
          turn = record {
            reply = r;
            first = x;
            second = y;
            fits = t.short;
            answering =
                same_view (nfc_dep first) m target l f r x y (s.target_is ∙ sym (settled_state first r (target_table (target l) f).state (target_table (target l) f).does))
                (subst (λ (z : L). target (k.machine.darkened z) ≡ darkened (target z)) refl (c.cleared (record { frame = f; reply = r } ∷ []) (record { asked = a; short = t.short }, tt)))
                (c.cleared [] tt);
            heard_is = comes.told ∙ sym (same_heard (nfc_dep first) r (target l) f x y);
            events = comes.trace ∙ ap (λ (es : List Event). old.trace ++ es) (sym (same_events (nfc_dep first) r (target l) f x y));
            moved = subst (λ (p : Option (List ℕ)). MovedBy steps far p r far') (sym (same_asked first r (target l) f x y ∙ ap (handed_by x) (sym uses)))
                (moved_by restarts steps x (hands_over k.machine l f) far far' r (λ general e. never general (sym uses ∙ e)) t.moved);
          };
          quiet = t.quiet;
          any = λ e z. t.any (hands_nothing x (hands_over k.machine l f) (ap (handed_by x) uses ∙ sym (same_asked first r (target l) f x y) ∙ e)) z;
          same = refl;
          is =
              (let P : Bool → Type 0 = λ b. IsLeft k laws r l f b h (left_by m l f x y o) in
              let Q : Option Heard → Type 0 = λ z. IsLeft k laws r l f (replay (quiet_air m.machine) (world old) (tag_events f x y o)).lit z (left_by m l f x y o) in
              subst P (sym (ap (λ (w : World L). w.lit) comes.after)) (subst Q (sym comes.told) (left_is k laws r l f x y o (world old) turn.lit)));
          calm = calm_is first r (target l) f x y h comes.told;
        }
