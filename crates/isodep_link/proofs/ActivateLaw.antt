-- The wait of RATS at a Type 4 tag that nothing was asked of, turn by turn.
use Rattle.std.proofs.Common.{◌≡◌, ℕ, suc, ◌<◌, ◌≤◌, inl, inr, List, [], ◌∷◌, ◌++◌, Bool, true, false, if◌then◌else◌, Option, Some, None, Result, Ok, Err, refl, sym, ◌∙◌, ap, subst, arith}
use Rattle.nfc_base.specs.declared.frame.Tech.TheVariants.{A}
use Rattle.nfc_base.specs.declared.event.Fate.{Fate}
use Rattle.nfc_base.specs.declared.event.Fate.TheVariants.{Pass, Damage, Lose, Break}
use Rattle.nfc_base.specs.declared.event.Heard.{Heard}
use Rattle.nfc_base.specs.declared.event.Heard.TheVariants.{Whole, Damaged, Silent}
use Rattle.nfc_base.specs.Trace.{is_bad_in_wait}
use Rattle.nfc_base.specs.declared.far.Mute.{Mute}
use Rattle.nfc_base.specs.declared.tag_link.AskFault.{AskFault}
use Rattle.nfc_base.specs.declared.tag_link.AskFault.TheVariants as ask
use Rattle.nfc_base.specs.Signal.{Signal}
use Rattle.nfc_base.specs.Far.{Untouched}
use Rattle.nfc_base.specs.TagLinks.{TagState, plain_state}
use Rattle.air_core.specs.declared.fault.AirFault.TheVariants as air
use Rattle.air_core.specs.Joint.{same_tech}
use Rattle.air_core.specs.World.{World, hears, quiet_air}
use Rattle.air_core.specs.Conversation.{Note, Got, note, replay, first_fate, later_fates}
use Rattle.air_core.specs.Turn.{Air, world, moment, TurnIs, Transmits}
use Rattle.air_core.specs.laws.Turning.{going_start, going_turn}
use Rattle.air_core.specs.Quiet.{EachQuiet, QuietTurn}
use Rattle.air_core.specs.Waits.{Standing, Asking, Broken, stand, due_at, waits_next}
use Rattle.air_core.specs.laws.Waiting.{stand_on}
use Rattle.air_core.specs.PlainTags.{heard_times, IsAside, IsAlone}
use Rattle.air_core.specs.private.PlainWaits.{after_bad}
use Rattle.air_core.specs.FirstAnswers.{EndsWait, AsksFirst}
use Rattle.air_core.specs.declared.listener.Listener.{Ghosts}
use Rattle.air_core.proofs.FirstAnswers.{ByHeard, by_bad, told_as, on_bads, six_at_most}
use Rattle.air_core.proofs.Quiet.{quiet_turns_to, quiet_turn, quiet_transmits}
use Rattle.air_core.proofs.PlainAside.{Laws, IsUnmoved, aside_silent, alone_quiet}
use Rattle.air_core.proofs.PlainTurns.{tag_events, tag_heard, asking_bad}
use Rattle.air_core.proofs.AloneTurns.{left_by, ComesTo, comes_to}
use Rattle.air_core.proofs.PlainViews.{heard_same}
use Rattle.isodep_link.specs.Sizes.{piece_size, ats_frame, most_code}
use Rattle.isodep_link.specs.Card.{CardState, activated}
use Rattle.isodep_link.specs.Reader.{waiting}
use Rattle.isodep_link.specs.Exchange.{InStep, IsCut}
use Rattle.isodep_link.specs.Activating.{reader_code, rats, ats_code, told_code, told_ats, AsksRats, HasFreshTag, IsActivated, RatsSent, RatsEnds, Activates}
use Rattle.isodep_link.specs.Muted.{mute_restarts, mute_steps}
use Rattle.isodep_link.proofs.AnyTag.{rats_any}
use Rattle.isodep_link.proofs.Session.{ready_first}
use Rattle.isodep_link.proofs.CardTurns.{Holds}

-- ATS is read as the code that it tells
ats_read : (code : ℕ) → code ≤ most_code → ats_code (ats_frame code) ≡ Some code
ats_read code h = ap (λ (n : ℕ). Some n) (omega (arith, h))

module _ {L : Type 0} (k : Ghosts L) (card : L → CardState) (tag : L → TagState) (old : Air L) (place : ℕ) (t : HasFreshTag k card tag old place) where
  -- Where the wait stands after so many bad receptions.
  pub record RatsOn (mid : Air L) (bad : ℕ) : Type 0 where
    pub heard : ℕ
    pub alone : IsAlone k (k.identifier t.listener) mid.listeners place (heard_times k t.listener rats heard)
    pub lit : mid.lit ≡ old.lit
    pub dim : mid.lit ≡ false → mid ≡ old
    pub sent : RatsSent k card tag old mid (after_bad rats bad)

module _ {L : Type 0} (k : Ghosts L) (laws : Laws k) (card : L → CardState) (tag : L → TagState) (holds : Holds k tag) (old : Air L) (place : ℕ) (t : HasFreshTag k card tag old place) where
  abbrev l : L
  l = t.listener

  abbrev ats : Signal
  ats = ats_frame t.takes.made.code

  abbrev pub On : Air L → ℕ → Type 0
  On mid bad = RatsOn k card tag old place t mid bad

  pub first_rats : On old 0
  first_rats = record {
    heard = 0;
    alone = t.alone;
    lit = refl;
    dim = λ e. refl;
    sent = record { notes = []; going = going_start (quiet_air k.machine) (waits_next (rats ∷ [])) (moment old); stands = refl };
  }

  -- the answer came, and the field was lost
  abbrev Came : Air L → Signal → Type 0
  Came new g =
      (n : ℕ) × (g ≡ ats) × (sent : RatsSent k card tag old new (Asking 0 [])) × (new.lit ≡ true) × IsAlone k (k.identifier l) new.listeners place (heard_times k l rats (suc n))
      × (before : List Note) × (sent.notes ≡ before ++ Got (Whole g) ∷ [])

  abbrev Lost : Air L → Type 0
  Lost new = RatsSent k card tag old new (Broken ask.FieldLost (rats ∷ [])) × (new.lit ≡ false)

  -- what a turn comes to, by what was heard
  abbrev pub After : Air L → ℕ → Option Heard → Type 0
  After new bad h = ByHeard (Lost new) (λ g. Came new g) (On new (suc bad)) h

  rats_aside : (own : List ℕ) (x : L) → IsAside k own x → IsUnmoved k laws own rats x
  rats_aside own x s = aside_silent k laws own A rats refl tt x s

  module _ (mid : Air L) (bad : ℕ) (bound : bad < 6) (o : On mid bad) where
    abbrev now : L
    now = heard_times k l rats o.heard

    hears_rats : hears k.machine now rats ≡ true
    hears_rats = ap (λ u. same_tech u A) ((heard_same k laws l rats o.heard).0 ∙ t.takes.tech)

    quiet_rats : EachQuiet k.machine rats mid.listeners
    quiet_rats =
        alone_quiet k laws (k.identifier l) rats (rats_aside (k.identifier l)) mid.listeners place now o.alone
        (ap (λ v. if v then k.machine.handed now rats else Untouched) hears_rats ∙ (t.takes.steps o.heard).quiet)

    module _ {F : Type 0} (far far' : F) (new : Air L) where
      sent_on : (h : Option Heard) → QuietTurn k.machine mid rats far h new far' → (s : Standing) → stand bad (rats ∷ []) (note h ∷ []) ≡ s → RatsSent k card tag old new s
      sent_on h q s e =
          let asks : stand 0 (rats ∷ []) o.sent.notes ≡ Asking bad (rats ∷ []) = o.sent.stands ∙ asking_bad rats bad bound in
          record {
            notes = o.sent.notes ++ note h ∷ [];
            going = going_turn (quiet_air k.machine) (waits_next (rats ∷ [])) (moment old) (moment mid) (moment new) rats h o.sent.notes o.sent.going (ap due_at asks)
                (quiet_turns_to k.machine mid new rats far far' h q);
            stands = stand_on 0 (rats ∷ []) o.sent.notes bad (rats ∷ []) asks [] (note h ∷ []) ∙ e;
          }

      bad_on : (h : Option Heard) → QuietTurn k.machine mid rats far h new far' → stand bad (rats ∷ []) (note h ∷ []) ≡ after_bad rats (suc bad)
          → (n : ℕ) → IsAlone k (k.identifier l) new.listeners place (heard_times k l rats n) → new.lit ≡ true → On new (suc bad)
      bad_on h q e n alone lit = record {
        heard = n;
        alone = alone;
        lit = lit ∙ sym q.lit ∙ o.lit;
        dim = λ d. absurd (cc);
        sent = sent_on h q (after_bad rats (suc bad)) e;
      }

      finish : (x y : Fate) → QuietTurn k.machine mid rats far (tag_heard x y (Some ats)) new far'
          → new.lit ≡ (replay (quiet_air k.machine) (world mid) (tag_events rats x y (Some ats))).lit
          → IsAlone k (k.identifier l) new.listeners place (left_by k now rats x y (Some ats)) → After new bad (tag_heard x y (Some ats))
      unfolding sent_on
      finish Pass Pass q lit alone = (o.heard, refl, sent_on (Some (Whole ats)) q (Asking 0 []) refl, lit ∙ q.lit, alone, o.sent.notes, refl)
      finish Pass Damage q lit alone = bad_on (Some Damaged) q refl (suc o.heard) alone (lit ∙ q.lit)
      finish Pass Lose q lit alone = bad_on (Some Silent) q refl (suc o.heard) alone (lit ∙ q.lit)
      finish Pass Break q lit alone = (sent_on None q (Broken ask.FieldLost (rats ∷ [])) refl, lit)
      finish Damage y q lit alone = bad_on (Some Silent) q refl o.heard alone (lit ∙ q.lit)
      finish Lose y q lit alone = bad_on (Some Silent) q refl o.heard alone (lit ∙ q.lit)
      finish Break y q lit alone = (sent_on None q (Broken ask.FieldLost (rats ∷ [])) refl, lit)

      pub rats_turn : (h : Option Heard) → QuietTurn k.machine mid rats far h new far' → After new bad h
      rats_turn h q =
          let x : Fate = first_fate mid.fates in
          let y : Fate = first_fate (later_fates mid.fates) in
          let c : ComesTo k (k.identifier l) mid new place now rats h x y (Some ats) =
          comes_to k laws (k.identifier l) rats (rats_aside (k.identifier l)) mid place now o.alone hears_rats (Some ats) (t.takes.steps o.heard).answer far far' new h q in
          subst (λ (z : Option Heard). After new bad z) (sym c.told)
          (finish x y (subst (λ (z : Option Heard). QuietTurn k.machine mid rats far z new far') c.told q) (ap (λ (w : World L). w.lit) c.after) c.alone)

    module _ {F : Type 0} (restarts : F → List ℕ → F → Type 0) (steps : F → List ℕ → List ℕ → F → Type 0) (far far' : F) (new : Air L) where
      after_rats : (h : Heard) → TurnIs k.machine restarts steps mid rats far (Some h) new far' → After new bad (Some h)
      after_rats h turn = rats_turn far far' new (Some h) (quiet_turn k.machine restarts steps mid rats far (Some h) new far' quiet_rats turn)

      module _ (stops : F → List ℕ → F → Type 0) (is_stuck : F → Bool) where
        rats_lost : Transmits k.machine restarts steps stops is_stuck mid rats far (Err air.FieldLost) new far' → RatsEnds k card tag old new place (Err ask.FieldLost)
        rats_lost (inl d) = inl (sym o.lit ∙ d.0, d.1 ∙ o.dim d.0)
        rats_lost (inr turn) = inr (rats_turn far far' new None (quiet_turn k.machine restarts steps mid rats far None new far' quiet_rats turn))

        rats_stopped : Transmits k.machine restarts steps stops is_stuck mid rats far (Err air.Memory) new far' → RatsEnds k card tag old new place (Err ask.Memory)
        rats_stopped turn =
            let q = quiet_transmits k.machine restarts steps stops is_stuck mid rats far (Err air.Memory) new far' quiet_rats turn in
            let P : Air L → Type 0 = λ a. RatsEnds k card tag old a place (Err ask.Memory) in
            subst P (sym q.1) (bad, (record { notes = o.sent.notes; going = o.sent.going; stands = o.sent.stands ∙ asking_bad rats bad bound }))

  -- ATS came: the tag is activated
  pub rats_done : (new : Air L) (bad : ℕ) (g : Signal) → After new bad (Some (Whole g)) → (c : ℕ) → ats_code g ≡ Some c → RatsEnds k card tag old new place (Ok c)
  rats_done new bad g (n, e, sent, lit, alone, before, last) c q =
      let x : L = heard_times k l rats (suc n) in
      let same : c ≡ t.takes.made.code = (let z : Some c ≡ Some t.takes.made.code = sym q ∙ ap ats_code e ∙ ats_read t.takes.made.code t.takes.small in cc) in
      let own : k.identifier x ≡ k.identifier l = (heard_same k laws l rats (suc n)).1 in
      let P : CardState → Type 0 = λ y. InStep (waiting t.takes.made.code) y in
      let Q : CardState → Type 0 = λ y. IsCut y [] [] in
      let ready : IsActivated k card tag new place (waiting t.takes.made.code) = record {
        has = record {
          listener = x;
          selected = (t.takes.steps n).selected;
          alone = subst (λ (i : List ℕ). IsAlone k i new.listeners place x) (sym own) alone;
          is = (t.takes.steps n).is;
          step = subst P (sym ((t.takes.steps n).card_is)) (ready_first t.takes.made reader_code t.takes.is_made).0;
          cut = subst Q (sym ((t.takes.steps n).card_is)) (ready_first t.takes.made reader_code t.takes.is_made).1;
        };
        own = ap (λ (y : CardState). piece_size y.code) (sym ((t.takes.steps n).card_is ∙ ap (λ (y : CardState). (activated y reader_code).state) t.takes.is_made.made));
        plain = (t.takes.steps n).tag_is ∙ ap plain_state (ap (λ (s : TagState). s.store) (sym ((t.takes.steps n).tag_is)) ∙ holds x);
      } in
      (sent, lit, subst (λ (z : ℕ). IsActivated k card tag new place (waiting z)) (sym same) ready, (before, g, last, q))

  -- own cards never answer RATS otherwise
  pub rats_never : (new : Air L) (bad : ℕ) (g : Signal) → After new bad (Some (Whole g)) → ats_code g ≡ None → ⊥
  rats_never new bad g (n, e, sent, lit, alone, before, last) q = let z : None ≡ Some t.takes.made.code = sym q ∙ ap ats_code e ∙ ats_read t.takes.made.code t.takes.small in absurd (cc)

  abbrev Ends : Air L → Result ℕ AskFault → Type 0
  Ends new r = RatsEnds k card tag old new place r

  -- what is made of a whole answer
  ends_by : (new : Air L) (bad : ℕ) (g : Signal) → After new bad (Some (Whole g)) → Ends new (told_ats g)
  ends_by new bad g a = by_code (ats_code g) refl
    where
      by_code : (x : Option ℕ) → ats_code g ≡ x → Ends new (told_code x)
      by_code None e = absurd (rats_never new bad g a e)
      by_code (Some c) e = rats_done new bad g a c e

  module _ {F : Type 0} (restarts : F → List ℕ → F → Type 0) (steps : F → List ℕ → List ℕ → F → Type 0) (stops : F → List ℕ → F → Type 0) (is_stuck : F → Bool) (far : F) where
    ends_at : (bad : ℕ) (mid : Air L) (half : F) → On mid bad → (new : Air L) (after : F) (r : Result Signal AskFault)
        → EndsWait k.machine restarts steps rats old far stops is_stuck bad mid half new after r → Ends new (told_as told_ats (λ fault. Err fault) r)
    ends_at bad mid half o new after (Ok g) (bound, turn) = ends_by new bad g (after_rats mid bad bound o restarts steps half after new (Whole g) turn)
    ends_at bad mid half o new after (Err ask.FieldLost) (bound, turn) = rats_lost mid bad bound o restarts steps half after new stops is_stuck turn
    ends_at bad mid half o new after (Err ask.Memory) (bound, turn) = rats_stopped mid bad bound o restarts steps half after new stops is_stuck turn
    ends_at bad mid half o new after (Err ask.SixBad) (six, same, rests) =
        subst (λ (a : Air L). Ends a (Err ask.SixBad)) (sym same) (subst (λ (n : ℕ). RatsSent k card tag old mid (after_bad rats n)) six o.sent)
    ends_at bad mid half o new after (Err ask.Protocol) e = absurd e

    -- a wait of RATS at the tag
    rats_ends : (new : Air L) (after : F) (r : Result Signal AskFault) → AsksFirst k.machine restarts steps rats old far stops is_stuck new after r
        → Ends new (told_as told_ats (λ fault. Err fault) r)
    rats_ends new after r a =
        ends_at a.bad a.mid a.half
        (on_bads k.machine restarts steps rats old far (λ mid half n. On mid n) more_bad first_rats
        a.bad (six_at_most k.machine restarts steps rats old far stops is_stuck a.bad a.mid a.half new after r a.ends) a.mid a.half a.before)
        new after r a.ends
      where
        more_bad : (mid : Air L) (half : F) (n : ℕ) → n < 6 → On mid n → (next : Air L) (rest : F) (h : Heard)
            → TurnIs k.machine restarts steps mid rats half (Some h) next rest → is_bad_in_wait h ≡ true → On next (suc n)
        more_bad mid half n bound o next rest h turn bad = by_bad (Lost next) (λ g. Came next g) (On next (suc n)) h bad (after_rats mid n bound o restarts steps half rest next h turn)

-- A wait of RATS, with listeners of any kind and at the tag.
pub asked_rats : {L : Type 0} (k : Ghosts L) (laws : Laws k) (card : L → CardState) (tag : L → TagState) → Holds k tag → (stops : Mute → List ℕ → Mute → Type 0) (is_stuck : Mute → Bool)
    → ((a b : Mute) (p : List ℕ) → stops a p b → ⊥) → (old : Air L) (place : ℕ) (far : Mute) (new : Air L) (after : Mute) (f : Signal) → f ≡ rats
    → (r : Result Signal AskFault) → AsksFirst k.machine mute_restarts mute_steps f old far stops is_stuck new after r → (result : Result ℕ AskFault)
    → told_as told_ats (λ fault. Err fault) r ≡ result → AsksRats k.machine old new result × Activates k card tag old new place result
asked_rats k laws card tag holds stops is_stuck never old place far new after f is r a result e =
    let A : Signal → Type 0 = λ x. AsksFirst k.machine mute_restarts mute_steps x old far stops is_stuck new after r in
    let asks : A rats = subst A is a in
    let P : Result ℕ AskFault → Type 0 = λ x. AsksRats k.machine old new x × Activates k card tag old new place x in
    subst P e (rats_any k.machine old far stops is_stuck never new after r asks, λ t. rats_ends k laws card tag holds old place t mute_restarts mute_steps stops is_stuck far new after r asks)
