-- The wait of ATR_REQ at a target, turn by turn.
use Rattle.std.proofs.Common.{◌≡◌, ℕ, zero, suc, ◌+◌, ◌<◌, ◌≤◌, inl, inr, List, [], ◌∷◌, ◌++◌, length, Bool, true, false, if◌then◌else◌, Option, Some, None, Result, Ok, Err, refl, sym, ◌∙◌, ap, subst}
use Rattle.std.proofs.Common.{arith, append_assoc, append-nil, length-append}
use Rattle.std.specs.List.{AllByRecursion}
use Rattle.nfc_base.specs.declared.frame.Tech.TheVariants.{A}
use Rattle.nfc_base.specs.declared.event.Event.{Event}
use Rattle.nfc_base.specs.declared.event.Fate.{Fate}
use Rattle.nfc_base.specs.declared.event.Fate.TheVariants.{Pass, Damage, Lose, Break}
use Rattle.nfc_base.specs.declared.event.Heard.{Heard}
use Rattle.nfc_base.specs.declared.event.Heard.TheVariants.{Whole, Damaged, Silent}
use Rattle.nfc_base.specs.declared.tag_link.AskFault.{AskFault}
use Rattle.nfc_base.specs.declared.tag_link.AskFault.TheVariants as faults
use Rattle.nfc_base.specs.declared.carrier.EndCause.{EndCause}
use Rattle.nfc_base.specs.declared.carrier.EndCause.TheVariants as cause
use Rattle.nfc_base.specs.Signal.{Signal}
use Rattle.nfc_base.specs.Far.{FarUse, Untouched, Restarts, Hands}
use Rattle.nfc_base.specs.LinkTurns.{arrived, bad_receptions}
use Rattle.nfc_base.specs.Trace.{is_bad_in_wait, breaks, noise}
use Rattle.air_core.specs.declared.fault.AirFault.TheVariants as air
use Rattle.air_core.specs.Joint.{same_tech}
use Rattle.air_core.specs.World.{World, hears, hands_over, quiet_air}
use Rattle.air_core.specs.Conversation.{note, replay, first_fate, later_fates}
use Rattle.air_core.specs.Turn.{Air, world, moment, TurnIs, HearSome, Transmits}
use Rattle.air_core.specs.laws.Turning.{going_start, going_turn}
use Rattle.air_core.specs.Quiet.{EachQuiet, QuietTurn}
use Rattle.air_core.specs.Waits.{Standing, Asking, Broken, stand, due_at, waits_next}
use Rattle.air_core.specs.laws.Waiting.{stand_on}
use Rattle.air_core.specs.PlainTags.{IsAside, IsAlone}
use Rattle.air_core.specs.private.PlainWaits.{after_bad}
use Rattle.air_core.specs.FirstAnswers.{EndsWait, AsksFirst}
use Rattle.air_core.specs.declared.listener.Listener.{Ghosts}
use Rattle.air_core.proofs.FirstAnswers.{ByHeard, by_bad, told_as, on_bads, six_at_most, tells_wait}
use Rattle.air_core.proofs.LostField.{breaks-append}
use Rattle.air_core.proofs.Quiet.{quiet_turns_to}
use Rattle.air_core.proofs.PlainAside.{Laws, IsUnmoved, aside_silent}
use Rattle.air_core.proofs.PlainTurns.{tag_events, tag_heard, asking_bad, noise_append}
use Rattle.air_core.proofs.AloneTurns.{left_by, ComesTo, comes_to}
use Rattle.arrayvec.specs.ArrayVec.{ArrayVec}
use Rattle.dep_link.specs.Sizes.{initiator_lr}
use Rattle.dep_link.specs.Frames.{air_frame, spelled}
use Rattle.dep_link.specs.Target.{TargetState, TargetTurn, target_table, framed, heeded, restarted, atr_res}
use Rattle.dep_link.specs.Initiator.{InitState, waiting}
use Rattle.dep_link.specs.Exchange.{InStep, IsCut}
use Rattle.dep_link.specs.Answering.{reply_for, payload_handed, answering, answering_air}
use Rattle.dep_link.specs.Peers.{target_use, answered_with, left_with}
use Rattle.dep_link.specs.Asking.{HasPeer}
use Rattle.dep_link.specs.Activating.{atr_req, atr_frame, told_atr, RestartedTimes, sent_times, HasTarget, AtrSent, AtrLost, IsActivated, AtrFails, AtrEnds, Activates}
use Rattle.dep_link.specs.AnyTarget.{told_initiator, cause_of, told_first, AsksAtr}
use Rattle.dep_link.proofs.Wire.{written_read, target_heeds}
use Rattle.dep_link.proofs.Begun.{in_step_first}
use Rattle.nfc_base.proofs.LinkTurns.{arrived_append, bads_append}
use Rattle.dep_link.proofs.Answered.{Told, HandsNothing, DidBy, AnsweredTurn, answered_turn, stopped_at}
use Rattle.dep_link.proofs.PeerTurns.{told, told_laws, alone_told, alone_back}

-- how many frames arrive in a turn whose request has this fate
abbrev arrivals : Fate → ℕ
arrivals Pass = 1
arrivals Damage = 0
arrivals Lose = 0
arrivals Break = 0

arrived_one : (f : Signal) (x y : Fate) (o : Option Signal) → length (arrived (tag_events f x y o)) ≡ arrivals x
arrived_one f Pass y None = refl
arrived_one f Pass Pass (Some g) = refl
arrived_one f Pass Damage (Some g) = refl
arrived_one f Pass Lose (Some g) = refl
arrived_one f Pass Break (Some g) = refl
arrived_one f Damage y o = refl
arrived_one f Lose y o = refl
arrived_one f Break y o = refl

-- of events that end so, with a transmission that didn't pass, or that lost the field
ends_noisy : (es before now : List Event) → es ≡ before ++ now → 0 < noise now → 0 < noise es
ends_noisy es before now e some = let n : noise es ≡ noise before + noise now = ap noise e ∙ noise_append before now in omega (arith, n, some)

ends_broken : (es before now : List Event) → es ≡ before ++ now → 0 < breaks now → 0 < breaks es
ends_broken es before now e some = let n : breaks es ≡ breaks before + breaks now = ap breaks e ∙ breaks-append before now in omega (arith, n, some)

module _ {F : Type 0} (restarts : F → List ℕ → F → Type 0) (steps : F → List ℕ → List ℕ → F → Type 0) (general : List ℕ) where
  none_more : (far far' : F) → far' ≡ far → (far0 : F) (n : ℕ) → RestartedTimes restarts general n far0 far → RestartedTimes restarts general (n + 0) far0 far'
  none_more far far' d far0 n t =
      let same : n ≡ n + 0 = omega arith in
      subst (λ (m : ℕ). RestartedTimes restarts general m far0 far') same (subst (λ (y : F). RestartedTimes restarts general n far0 y) (sym d) t)

  -- the far end was restarted once more where the frame arrived
  once_more : (x : Fate) (r : List ℕ) (u : FarUse) (far far' : F) → u ≡ Restarts general → DidBy restarts steps x u r far far' → (far0 : F) (n : ℕ) → RestartedTimes restarts general n far0 far
      → RestartedTimes restarts general (n + arrivals x) far0 far'
  once_more Pass r Untouched far far' e d far0 n t = absurd (cc)
  once_more Pass r (Hands payload) far far' e d far0 n t = absurd (cc)
  once_more Pass r (Restarts g) far far' e d far0 n t =
      let same : g ≡ general = cc in
      let one : suc n ≡ n + 1 = omega arith in
      subst (λ (m : ℕ). RestartedTimes restarts general m far0 far') one (far, t, subst (λ (z : List ℕ). restarts far z far') same d.0)
  once_more Damage r u far far' e d far0 n t = none_more far far' d far0 n t
  once_more Lose r u far far' e d far0 n t = none_more far far' d far0 n t
  once_more Break r u far far' e d far0 n t = none_more far far' d far0 n t

-- a turn in which something was said: where all passed it was heard
pub said_calm : (f g : Signal) (x y : Fate) → noise (tag_events f x y (Some g)) ≡ 0 → bad_receptions (tag_events f x y (Some g)) ≡ 0
said_calm f g Pass Pass z = refl
said_calm f g Pass Damage z = absurd (omega (arith, z))
said_calm f g Pass Lose z = absurd (omega (arith, z))
said_calm f g Pass Break z = absurd (omega (arith, z))
said_calm f g Damage y z = absurd (omega (arith, z))
said_calm f g Lose y z = absurd (omega (arith, z))
said_calm f g Break y z = absurd (omega (arith, z))

more_calm : (es : List Event) (f g : Signal) (x y : Fate) → (noise es ≡ 0 → bad_receptions es ≡ 0) → noise (es ++ tag_events f x y (Some g)) ≡ 0 → bad_receptions (es ++ tag_events f x y (Some g)) ≡ 0
more_calm es f g x y calm none =
    let all = noise_append es (tag_events f x y (Some g)) in
    let first : bad_receptions es ≡ 0 = calm (omega (arith, all, none)) in
    let second : bad_receptions (tag_events f x y (Some g)) ≡ 0 = said_calm f g x y (omega (arith, all, none)) in
    let sum = bads_append es (tag_events f x y (Some g)) refl in
    omega (arith, sum, first, second)

module _ {L F : Type 0} (k : Ghosts L) (target : L → TargetState) (restarts : F → List ℕ → F → Type 0) (old : Air L) (general : List ℕ) (t : HasTarget k target old general) (far0 : F) where
  -- Where the wait stands after so many bad receptions.
  pub record AtrOn (mid : Air L) (far : F) (bad : ℕ) : Type 0 where
    pub heard : ℕ
    pub alone : IsAlone k (k.identifier t.listener) mid.listeners t.place (sent_times k target t.listener (atr_frame general) heard)
    pub lit : mid.lit ≡ old.lit
    pub dim : mid.lit ≡ false → (mid ≡ old) × (far ≡ far0)
    pub sent : AtrSent k target restarts old mid general far0 far (after_bad (atr_frame general) bad)
    pub noisy : 0 < bad → 0 < noise sent.events

module _ {L F : Type 0} (k : Ghosts L) (laws : Laws k) (target : L → TargetState) (restarts : F → List ℕ → F → Type 0) (steps : F → List ℕ → List ℕ → F → Type 0) (old : Air L) (general : List ℕ)
    (short : length general ≤ 48) (t : HasTarget k target old general) (far0 : F) where
  abbrev pub f : Signal
  f = atr_frame general

  abbrev pub l : L
  l = t.listener

  abbrev pub own : TargetState
  own = target l

  abbrev pub answer : Signal
  answer = air_frame (atr_res own)

  abbrev pub Sent : Air L → F → Standing → Type 0
  Sent new far s = AtrSent k target restarts old new general far0 far s

  -- what the target does at ATR_REQ
  at_atr : (u : TargetState) → target_table u f ≡ framed (heeded u (atr_req general))
  at_atr u = target_heeds u (atr_req general) (refl, omega arith, short)

  same_id : (n : ℕ) → k.identifier (sent_times k target l f n) ≡ k.identifier l
  same_id zero = refl
  same_id (suc n) = (laws.step_keeps (sent_times k target l f n) f _).identifier' ∙ same_id n

  same_tech_is : (n : ℕ) → k.machine.tech (sent_times k target l f n) ≡ k.machine.tech l
  same_tech_is zero = refl
  same_tech_is (suc n) = (laws.step_keeps (sent_times k target l f n) f _).tech' ∙ same_tech_is n

  target_after : (n : ℕ) → target (sent_times k target l f (suc n)) ≡ restarted (target (sent_times k target l f n)) initiator_lr
  target_after n = (t.takes.steps n).target_is ∙ ap (λ (z : TargetTurn). left_with z.state [] z.does) (at_atr (target (sent_times k target l f n)))

  target_own : (n : ℕ) → target (sent_times k target l f (suc n)) ≡ restarted own initiator_lr
  target_own zero = target_after zero
  target_own (suc n) = target_after (suc n) ∙ ap (λ (u : TargetState). restarted u initiator_lr) (target_own n)

  atr_same : (n : ℕ) → atr_res (target (sent_times k target l f n)) ≡ atr_res own
  atr_same zero = refl
  atr_same (suc n) = ap atr_res (target_after n) ∙ atr_same n

  asks_far : (n : ℕ) → k.machine.handed (sent_times k target l f n) f ≡ Restarts general
  asks_far n = (t.takes.steps n).asks ∙ ap (λ (z : TargetTurn). target_use z.does) (at_atr (target (sent_times k target l f n)))

  says_own : (n : ℕ) → k.machine.answer (sent_times k target l f n) f (reply_for [] (k.machine.handed (sent_times k target l f n) f)) ≡ Some answer
  says_own n =
      (t.takes.steps n).answer ∙ ap (λ (z : TargetTurn). answered_with z.state [] z.does) (at_atr (target (sent_times k target l f n)))
      ∙ ap (λ v. Some (air_frame v)) (atr_same n)

  -- others are silent, and hand nothing over
  aside_in : (m : Ghosts L) (ml : Laws m) (x : L) → IsAside m (k.identifier l) x → IsUnmoved m ml (k.identifier l) f x
  aside_in m ml x s = aside_silent m ml (k.identifier l) A f refl tt x s

  all_quiet : (ls : List L) → AllByRecursion (IsAside k (k.identifier l)) ls → EachQuiet k.machine f ls
  all_quiet [] s = tt
  all_quiet (x ∷ ls) s = ((aside_in k laws x s.0).quiet, all_quiet ls s.1)

  abbrev pub On : Air L → F → ℕ → Type 0
  On mid far bad = AtrOn k target restarts old general t far0 mid far bad

  first_atr : On old far0 0
  first_atr = record {
    heard = 0;
    alone = t.alone;
    lit = refl;
    dim = λ e. (refl, refl);
    sent = record {
      notes = [];
      going = λ r. going_start (answering_air k.machine r) (waits_next (f ∷ [])) (moment old);
      stands = refl;
      events = [];
      trace = sym (append-nil old.trace);
      times = 0;
      arrived = refl;
      restarted = refl;
      calm = λ none. refl;
    };
    noisy = λ e. e;
  }

  -- the answer came
  abbrev pub Came : Air L → F → Signal → Type 0
  Came new far g =
      (n : ℕ) × (g ≡ answer) × (sent : Sent new far (Asking 0 [])) × (0 < sent.times) × (new.lit ≡ true) × IsAlone k (k.identifier l) new.listeners t.place (sent_times k target l f (suc n))

  -- what a turn comes to, by what was heard
  abbrev After : Air L → F → ℕ → Option Heard → Type 0
  After new far bad h = ByHeard (AtrLost k target restarts old new general far0 far) (λ g. Came new far g) (On new far (suc bad)) h

  nothing_in : (x : Fate) (u : FarUse) → u ≡ Restarts general → HandsNothing x u
  nothing_in Pass u e = ap payload_handed e
  nothing_in Damage u e = tt
  nothing_in Lose u e = tt
  nothing_in Break u e = tt

  module _ (mid : Air L) (far : F) (bad : ℕ) (bound : bad < 6) (o : On mid far bad) where
    abbrev now : L
    now = sent_times k target l f o.heard

    hears_atr : hears k.machine now f ≡ true
    hears_atr = ap (λ u. same_tech u A) (same_tech_is o.heard ∙ t.takes.tech)

    uses : hands_over k.machine now f ≡ Restarts general
    uses = ap (λ v. if v then k.machine.handed now f else Untouched) hears_atr ∙ asks_far o.heard

    asking : stand 0 (f ∷ []) o.sent.notes ≡ Asking bad (f ∷ [])
    asking = o.sent.stands ∙ asking_bad f bad bound

    module _ (new : Air L) (far' : F) where
      -- what is known of the wait then, with the arrivals and the events of this turn
      abbrev SentOn : Fate → List Event → Option Heard → Type 0
      SentOn x es h = (s : Standing) → stand bad (f ∷ []) (note h ∷ []) ≡ s → (sent : Sent new far' s) × (sent.times ≡ o.sent.times + arrivals x) × (sent.events ≡ o.sent.events ++ es)

      on_bad : (x : Fate) (es : List Event) (h : Option Heard) → SentOn x es h → stand bad (f ∷ []) (note h ∷ []) ≡ after_bad f (suc bad) → 0 < noise es → mid.lit ≡ true → (n : ℕ)
          → IsAlone k (k.identifier l) new.listeners t.place (sent_times k target l f n) → new.lit ≡ true → On new far' (suc bad)
      on_bad x es h s e some m n alone lit =
          let z = s (after_bad f (suc bad)) e in record {
            heard = n;
            alone = alone;
            lit = lit ∙ sym m ∙ o.lit;
            dim = λ d. absurd (cc);
            sent = z.0;
            noisy = λ _. ends_noisy z.0.events o.sent.events es z.2 some;
          }

      on_break : (x : Fate) (es : List Event) → SentOn x es None → 0 < breaks es → new.lit ≡ false → AtrLost k target restarts old new general far0 far'
      on_break x es s some lit = let z = s (Broken faults.FieldLost (f ∷ [])) refl in (z.0, ends_broken z.0.events o.sent.events es z.2 some, lit)

      finish : (x y : Fate) → SentOn x (tag_events f x y (Some answer)) (tag_heard x y (Some answer)) → mid.lit ≡ true
          → new.lit ≡ (replay (quiet_air (told k laws []).machine) (world mid) (tag_events f x y (Some answer))).lit
          → IsAlone k (k.identifier l) new.listeners t.place (left_by (told k laws []) now f x y (Some answer)) → After new far' bad (tag_heard x y (Some answer))
      finish Pass Pass s m lit alone = let z = s (Asking 0 []) refl in (o.heard, refl, z.0, (let e = z.1 in omega (arith, e)), lit ∙ m, alone)
      finish Pass Damage s m lit alone = on_bad Pass (tag_events f Pass Damage (Some answer)) (Some Damaged) s refl (omega arith) m (suc o.heard) alone (lit ∙ m)
      finish Pass Lose s m lit alone = on_bad Pass (tag_events f Pass Lose (Some answer)) (Some Silent) s refl (omega arith) m (suc o.heard) alone (lit ∙ m)
      finish Pass Break s m lit alone = on_break Pass (tag_events f Pass Break (Some answer)) s (omega arith) lit
      finish Damage y s m lit alone = on_bad Damage (tag_events f Damage y (Some answer)) (Some Silent) s refl (omega arith) m o.heard alone (lit ∙ m)
      finish Lose y s m lit alone = on_bad Lose (tag_events f Lose y (Some answer)) (Some Silent) s refl (omega arith) m o.heard alone (lit ∙ m)
      finish Break y s m lit alone = on_break Break (tag_events f Break y (Some answer)) s (omega arith) lit

      atr_turn : (h : Option Heard) → TurnIs k.machine restarts steps mid f far h new far' → After new far' bad h
      atr_turn h turn =
          let x : Fate = first_fate mid.fates in
          let y : Fate = first_fate (later_fates mid.fates) in
          let a : AnsweredTurn k.machine restarts steps f (hands_over k.machine now f) mid far h new far' =
          answered_turn k.machine restarts steps f o.alone.before now o.alone.behind (all_quiet o.alone.before o.alone.first) (all_quiet o.alone.behind o.alone.later) mid far h new far' o.alone.split
          turn in
          let q : (r : List ℕ) → QuietTurn {A = Told} (answering k.machine r) mid f tt h new tt = λ r. a.any (nothing_in x (hands_over k.machine now f) uses) r in
          let m : Ghosts L = told k laws [] in
          let ml : Laws m = told_laws k laws [] in
          let lone : IsAlone m (k.identifier l) mid.listeners t.place now = alone_told k laws [] (k.identifier l) mid.listeners t.place now o.alone in
          let c : ComesTo m (k.identifier l) mid new t.place now f h x y (Some answer) =
          comes_to m ml (k.identifier l) f (aside_in m ml) mid t.place now lone hears_atr (Some answer) (says_own o.heard) tt tt new h (q []) in
          let sent : SentOn x (tag_events f x y (Some answer)) h = λ s e. (
            record {
              notes = o.sent.notes ++ note h ∷ [];
              going = λ r.
                  going_turn (answering_air k.machine r) (waits_next (f ∷ [])) (moment old) (moment mid) (moment new) f h o.sent.notes (o.sent.going r) (ap due_at asking)
                  (quiet_turns_to (answering k.machine r) mid new f tt tt h (q r));
              stands = stand_on 0 (f ∷ []) o.sent.notes bad (f ∷ []) asking [] (note h ∷ []) ∙ e;
              events = o.sent.events ++ tag_events f x y (Some answer);
              trace = c.trace ∙ ap (λ (es : List Event). es ++ tag_events f x y (Some answer)) o.sent.trace ∙ append_assoc old.trace o.sent.events (tag_events f x y (Some answer));
              times = o.sent.times + arrivals x;
              arrived =
                  (let a1 = ap length (arrived_append o.sent.events (tag_events f x y (Some answer))) in
                  let a2 = length-append (arrived o.sent.events) (arrived (tag_events f x y (Some answer))) in
                  let a3 = arrived_one f x y (Some answer) in
                  let a4 = o.sent.arrived in omega (arith, a1, a2, a3, a4));
              restarted = once_more restarts steps general x a.reply (hands_over k.machine now f) far far' uses a.moved far0 o.sent.times o.sent.restarted;
              calm = λ none. more_calm o.sent.events f answer x y o.sent.calm none;
            },
            refl,
            refl,
          ) in
          subst (λ (z : Option Heard). After new far' bad z) (sym c.told)
          (finish x y (subst (λ (z : Option Heard). SentOn x (tag_events f x y (Some answer)) z) c.told sent) turn.lit (ap (λ (w : World L). w.lit) c.after)
          (alone_back k laws [] (k.identifier l) new.listeners t.place (left_by m now f x y (Some answer)) c.alone))

      module _ (stops : F → List ℕ → F → Type 0) (is_stuck : F → Bool) where
        atr_lost : Transmits k.machine restarts steps stops is_stuck mid f far (Err air.FieldLost) new far' → AtrFails k target restarts old new general far0 far' cause.FieldLost
        atr_lost (inl d) = let z = o.dim d.0 in inl (sym o.lit ∙ d.0, d.1 ∙ z.0, d.2 ∙ z.1)
        atr_lost (inr turn) = inr (atr_turn None turn)

        atr_memory : Transmits k.machine restarts steps stops is_stuck mid f far (Err air.Memory) new far' → AtrFails k target restarts old new general far0 far' cause.Memory
        atr_memory (lit, inl same) =
            let P : Air L → Type 0 = λ a. AtrFails k target restarts old a general far0 far' cause.Memory in
            let Q : F → Type 0 = λ y. AtrFails k target restarts old mid general far0 y cause.Memory in
            subst P (sym same.0) (subst Q (sym same.1) (bad, subst (λ (s : Standing). Sent mid far s) (asking_bad f bad bound) o.sent))
        atr_memory (lit, inr s) =
            let stop =
            stopped_at k.machine restarts steps f stops is_stuck o.alone.before now o.alone.behind far far' s.listeners (all_quiet o.alone.before o.alone.first)
            (all_quiet o.alone.behind o.alone.later)
            (subst (λ (ls : List L). HearSome k.machine restarts steps stops is_stuck f ls far s.listeners far') o.alone.split s.some) in
            absurd (never stop.0 (sym uses ∙ stop.1))
          where
            never : (p : List ℕ) → Restarts general ≡ Hands p → ⊥
            never p e = absurd (cc)

  -- the answer is read as the target's ATR_RES
  reads : (g : Signal) → g ≡ answer → spelled g ≡ Some (atr_res own)
  reads g e = ap spelled e ∙ written_read (atr_res own) t.takes.says

  told_own : (g : Signal) → g ≡ answer → told_atr (spelled g) ≡ Some (own.lr, record { items = own.general })
  told_own g e = ap told_atr (reads g e)

  atr_never : (new : Air L) (far : F) (g : Signal) → Came new far g → told_atr (spelled g) ≡ None → ⊥
  atr_never new far g a q = let z = told_own g a.1 in absurd (cc)

  -- ATR_RES came: the peer is activated
  atr_done : (new : Air L) (far : F) (g : Signal) → Came new far g → (told : ℕ × ArrayVec ℕ) → told_atr (spelled g) ≡ Some told
      → (sent : Sent new far (Asking 0 [])) × (0 < sent.times) × IsActivated k target new own (waiting told.0) told.1.items
  atr_done new far g (n, e, sent, some, lit, alone) told q =
      let z : Some told ≡ Some (own.lr, record { items = own.general }) = sym q ∙ told_own g e in
      let same : told ≡ (own.lr, record { items = own.general }) = cc in
      let code : told.0 ≡ own.lr = ap (λ (p : ℕ × ArrayVec ℕ). p.0) same in
      let x : L = sent_times k target l f (suc n) in
      let P : TargetState → Type 0 = λ u. InStep (waiting own.lr) u in
      let Q : TargetState → Type 0 = λ u. IsCut 0 u [] [] in
      let peer : HasPeer k target new (waiting own.lr) 0 [] [] = record {
        place = t.place;
        listener = x;
        selected = (t.takes.steps n).selected;
        alone = subst (λ (i : List ℕ). IsAlone k i new.listeners t.place x) (sym (same_id (suc n))) alone;
        is = t.takes.is n;
        step = subst P (sym (target_own n)) (in_step_first own initiator_lr general t.takes.busy);
        cut = subst Q (sym (target_own n)) refl;
      } in (
        sent,
        some,
        record {
          lit = lit;
          initiator = ap waiting code;
          told_own = ap (λ (p : ℕ × ArrayVec ℕ). p.1.items) same;
          peer = subst (λ (c : ℕ). HasPeer k target new (waiting c) 0 [] []) (sym code) peer;
        },
      )

  abbrev Ends : Air L → F → Result (InitState × ArrayVec ℕ) EndCause → Type 0
  Ends new far r = AtrEnds k target restarts old new general own far0 far r

  -- what is made of a whole answer
  ends_by : (new : Air L) (far : F) (g : Signal) → Came new far g → Ends new far (told_first g)
  ends_by new far g a = by_told (told_atr (spelled g)) refl
    where
      by_told : (x : Option (ℕ × ArrayVec ℕ)) → told_atr (spelled g) ≡ x → Ends new far (told_initiator x)
      by_told None e = absurd (atr_never new far g a e)
      by_told (Some p) e = atr_done new far g a p e

  module _ (stops : F → List ℕ → F → Type 0) (is_stuck : F → Bool) where
    ends_at : (bad : ℕ) (mid : Air L) (half : F) → On mid half bad → (new : Air L) (after : F) (r : Result Signal AskFault)
        → EndsWait k.machine restarts steps f old far0 stops is_stuck bad mid half new after r → Ends new after (told_as told_first (λ fault. Err (cause_of fault)) r)
    ends_at bad mid half o new after (Ok g) (bound, turn) = ends_by new after g (atr_turn mid half bad bound o new after (Some (Whole g)) turn)
    ends_at bad mid half o new after (Err faults.FieldLost) (bound, turn) = atr_lost mid half bad bound o new after stops is_stuck turn
    ends_at bad mid half o new after (Err faults.Memory) (bound, turn) = atr_memory mid half bad bound o new after stops is_stuck turn
    ends_at bad mid half o new after (Err faults.SixBad) (six, same, rests) =
        let N : ℕ → Type 0 = λ n. (sent : Sent mid half (after_bad f n)) × (0 < noise sent.events) in
        let P : Air L → Type 0 = λ a. Ends a after (Err cause.SixBad) in
        let Q : F → Type 0 = λ a. Ends mid a (Err cause.SixBad) in
        subst P (sym same) (subst Q (sym rests) (subst N six (o.sent, o.noisy (omega (arith, six)))))
    ends_at bad mid half o new after (Err faults.Protocol) e = absurd e

    -- a wait of ATR_REQ at the target
    atr_ends : (new : Air L) (after : F) (r : Result Signal AskFault) → AsksFirst k.machine restarts steps f old far0 stops is_stuck new after r
        → Ends new after (told_as told_first (λ fault. Err (cause_of fault)) r)
    atr_ends new after r a =
        ends_at a.bad a.mid a.half
        (on_bads k.machine restarts steps f old far0 On more_bad first_atr
        a.bad (six_at_most k.machine restarts steps f old far0 stops is_stuck a.bad a.mid a.half new after r a.ends) a.mid a.half a.before)
        new after r a.ends
      where
        more_bad : (mid : Air L) (half : F) (n : ℕ) → n < 6 → On mid half n → (next : Air L) (rest : F) (h : Heard)
            → TurnIs k.machine restarts steps mid f half (Some h) next rest → is_bad_in_wait h ≡ true → On next rest (suc n)
        more_bad mid half n bound o next rest h turn bad =
            by_bad (AtrLost k target restarts old next general far0 rest) (λ g. Came next rest g) (On next rest (suc n)) h bad (atr_turn mid half n bound o next rest (Some h) turn)

-- A wait of ATR_REQ, with listeners of any kind and at the target.
pub asked_atr : {L F : Type 0} (k : Ghosts L) (laws : Laws k) (target : L → TargetState) (restarts : F → List ℕ → F → Type 0) (steps : F → List ℕ → List ℕ → F → Type 0)
    (stops : F → List ℕ → F → Type 0) (is_stuck : F → Bool) (old : Air L) (general : List ℕ) → length general ≤ 48 → (far : F) (new : Air L) (after : F) (f : Signal) → f ≡ atr_frame general
    → (r : Result Signal AskFault) → AsksFirst k.machine restarts steps f old far stops is_stuck new after r → (result : Result (InitState × ArrayVec ℕ) EndCause)
    → told_as told_first (λ fault. Err (cause_of fault)) r ≡ result
    → AsksAtr k.machine restarts steps stops is_stuck old far new after general result × Activates k target restarts old new general far after result
asked_atr k laws target restarts steps stops is_stuck old general short far new after f is r a result e =
    let A : Signal → Type 0 = λ x. AsksFirst k.machine restarts steps x old far stops is_stuck new after r in
    let asks : A (atr_frame general) = subst A is a in
    let P : Result (InitState × ArrayVec ℕ) EndCause → Type 0 =
    λ x. AsksAtr k.machine restarts steps stops is_stuck old far new after general x × Activates k target restarts old new general far after x in
    subst P e (
      tells_wait k.machine restarts steps (atr_frame general) old far stops is_stuck told_first (λ fault. Err (cause_of fault)) new after r asks,
      λ t. atr_ends k laws target restarts steps old general short t far stops is_stuck new after r asks,
    )
