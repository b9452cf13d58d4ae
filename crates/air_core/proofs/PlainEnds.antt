-- How the waits of a plain link begin, go on and end.
use Rattle.std.proofs.Common.{◌≡◌, ℕ, zero, suc, ◌<◌, inl, inr, List, [], ◌∷◌, Bool, true, false, Option, Some, None, Result, Ok, Err, refl, sym, ◌∙◌, ap, subst, append-nil, arith}
use Rattle.nfc_base.specs.declared.frame.Tech.{Tech}
use Rattle.nfc_base.specs.declared.frame.Tech.TheVariants.{A}
use Rattle.nfc_base.specs.declared.event.Heard.{Heard}
use Rattle.nfc_base.specs.declared.event.Heard.TheVariants.{Whole}
use Rattle.nfc_base.specs.Trace.{is_bad_in_wait}
use Rattle.nfc_base.specs.declared.tag_link.AskFault.{AskFault}
use Rattle.nfc_base.specs.declared.tag_link.AskFault.TheVariants as ask
use Rattle.nfc_base.specs.Signal.{Signal}
use Rattle.nfc_base.specs.TagLinks.{MayAsk}
use Rattle.air_core.specs.World.{quiet_air}
use Rattle.air_core.specs.Turn.{Air, moment, TurnIs, Transmits}
use Rattle.air_core.specs.declared.fault.AirFault.TheVariants.{FieldLost, Memory}
use Rattle.air_core.specs.laws.Turning.{going_start}
use Rattle.air_core.specs.Waits.{waits_next}
use Rattle.air_core.specs.PlainTags.{plain_kind, HasPlainTag, MayTell}
use Rattle.air_core.specs.PlainLinks.{at_place, MayAskAt}
use Rattle.air_core.specs.private.PlainWaits.{GoesOn, GoesFrom, Answered, Darkened, HasWaited}
use Rattle.air_core.specs.FirstAnswers.{EndsWait, AsksFirst}
use Rattle.air_core.specs.declared.listener.Listener.{Ghosts}
use Rattle.air_core.proofs.Quiet.{quiet_turn, quiet_goes_on}
use Rattle.air_core.proofs.PlainAside.{Laws}
use Rattle.air_core.proofs.PlainTagging.{IsSteady, steady}
use Rattle.air_core.proofs.PlainStores.{place_is}
use Rattle.air_core.proofs.FirstAnswers.{by_bad, on_bads, six_at_most}
use Rattle.air_core.proofs.PlainSteps.{Outcome, each_quiet, turned}

module _ {L : Type 0} (k : Ghosts L) where
  pub may_tell : (air : Air L) (place : ℕ) (f : Signal) (t : HasPlainTag k air place) → MayAskAt k air place f → MayTell k t.tag f
  may_tell air place f t may =
      let own : at_place k.identifier [] air.listeners place ≡ k.identifier t.tag = place_is k k.identifier [] (k.identifier t.tag) air.listeners place t.tag t.alone in
      let tech : at_place k.machine.tech A air.listeners place ≡ k.machine.tech t.tag = place_is k k.machine.tech A (k.identifier t.tag) air.listeners place t.tag t.alone in
      let P : List ℕ → Type 0 = λ i. MayAsk (plain_kind (k.machine.tech t.tag)) i f in
      let Q : Tech → Type 0 = λ u. MayAsk (plain_kind u) (at_place k.identifier [] air.listeners place) f in
      subst P own (subst Q tech may)

  pub steady_now : (laws : Laws k) (air : Air L) (place : ℕ) (f : Signal) (t : HasPlainTag k air place) → MayTell k t.tag f → IsSteady k t.tag f
  steady_now laws air place f t may = steady k laws (plain_kind (k.machine.tech t.tag)) (k.identifier t.tag) t.tag f may t.plain t.selected

  pub begins : (old : Air L) (place : ℕ) (f : Signal) → HasPlainTag k old place → GoesFrom k old old place f 0
  begins old place f t = record {
    tag = t;
    goes = record {
      heard = 0;
      waits = record {
        alone = t.alone;
        notes = [];
        going = going_start (quiet_air k.machine) (waits_next (f ∷ [])) (moment old);
        stands = refl;
        events = [];
        trace = sym (append-nil old.trace);
        fresh = refl;
        obeyed = refl;
        answered = refl;
        most = omega arith;
        images = tt;
      };
      lit = refl;
      begun = λ h. absurd (omega (arith, h));
      calm = λ h. absurd (omega (arith, h));
    };
  }

  module _ (laws : Laws k) {F : Type 0} (restarts : F → List ℕ → F → Type 0) (steps : F → List ℕ → List ℕ → F → Type 0) (stops : F → List ℕ → F → Type 0) (is_stuck : F → Bool)
      (old mid : Air L) (place : ℕ) (f : Signal) (bad : ℕ) (bound : bad < 6) (g : GoesFrom k old mid place f bad) (may : MayAskAt k old place f) (new : Air L) (far far' : F) where
    -- a turn was made
    pub goes_turn : (h : Option Heard) → TurnIs k.machine restarts steps mid f far h new far' → Outcome k old new place f g.tag.tag bad h
    goes_turn h turn =
        let tell : MayTell k g.tag.tag f = may_tell old place f g.tag may in
        let still : IsSteady k g.tag.tag f = steady_now laws old place f g.tag tell in
        turned k laws old mid place f g.tag.tag bad still tell g.tag.named g.goes new h far far' bound
        (quiet_turn k.machine restarts steps mid f far h new far' (each_quiet k laws old mid place f g.tag.tag bad still tell g.tag.named g.goes) turn)

    at_first : (n : ℕ) → GoesOn k old mid place f g.tag.tag n → mid.lit ≡ false → n ≡ 0
    at_first zero goes dim = refl
    at_first (suc n) goes dim = absurd (let lit : old.lit ≡ true = goes.begun (omega arith) in let same : mid.lit ≡ old.lit = goes.lit in cc)

    -- the field was dark, or was lost
    pub goes_lost : Transmits k.machine restarts steps stops is_stuck mid f far (Err FieldLost) new far' → HasWaited k old new place f (Err ask.FieldLost)
    goes_lost (inl dim) =
        let P : Air L → Type 0 = λ a. GoesOn k old a place f g.tag.tag bad in
        let Q : ℕ → Type 0 = λ n. GoesOn k old new place f g.tag.tag n in
        let dark : old.lit ≡ false = sym g.goes.lit ∙ dim.0 in
        record { tag = g.tag; ends = inl (dark, subst Q (at_first bad g.goes dim.0) (subst P (sym dim.1) g.goes)) }
    goes_lost (inr turn) = record { tag = g.tag; ends = inr (goes_turn None turn) }

    -- nothing more could be noted
    pub goes_stops : Transmits k.machine restarts steps stops is_stuck mid f far (Err Memory) new far' → HasWaited k old new place f (Err ask.Memory)
    goes_stops (lit, inl same) =
        let P : Air L → Type 0 = λ a. GoesOn k old a place f g.tag.tag bad in
        record { tag = g.tag; ends = record { lit = ap (λ (a : Air L). a.lit) same.0 ∙ lit; bad = bad; bound = bound; goes = subst P (sym same.0) g.goes } }
    goes_stops (lit, inr s) =
        let tell : MayTell k g.tag.tag f = may_tell old place f g.tag may in
        let still : IsSteady k g.tag.tag f = steady_now laws old place f g.tag tell in
        absurd (quiet_goes_on k.machine restarts steps stops is_stuck f mid.listeners far s.listeners far' (each_quiet k laws old mid place f g.tag.tag bad still tell g.tag.named g.goes) s.some)

  -- a wait of the tag, by its turns
  module _ (laws : Laws k) {F : Type 0} (restarts : F → List ℕ → F → Type 0) (steps : F → List ℕ → List ℕ → F → Type 0) (stops : F → List ℕ → F → Type 0) (is_stuck : F → Bool)
      (old : Air L) (place : ℕ) (f : Signal) (may : MayAskAt k old place f) where
    goes_more : (mid : Air L) (half : F) (n : ℕ) → n < 6 → GoesFrom k old mid place f n → (new : Air L) (after : F) (h : Heard)
        → TurnIs k.machine restarts steps mid f half (Some h) new after → is_bad_in_wait h ≡ true → GoesFrom k old new place f (suc n)
    goes_more mid half n bound g new after h turn bad =
        let tag : L = g.tag.tag in record {
          tag = g.tag;
          goes = by_bad (Darkened k old new place f tag) (λ x. Answered k old new place f tag x) (GoesOn k old new place f tag (suc n)) h bad
              (goes_turn laws restarts steps stops is_stuck old mid place f n bound g may new half after (Some h) turn);
        }

    goes_end : (bad : ℕ) (mid : Air L) (half : F) → GoesFrom k old mid place f bad → (far : F) (new : Air L) (after : F) (r : Result Signal AskFault)
        → EndsWait k.machine restarts steps f old far stops is_stuck bad mid half new after r → HasWaited k old new place f r
    goes_end bad mid half g far new after (Ok answer) (bound, turn) =
        record { tag = g.tag; ends = goes_turn laws restarts steps stops is_stuck old mid place f bad bound g may new half after (Some (Whole answer)) turn }
    goes_end bad mid half g far new after (Err ask.FieldLost) (bound, turn) = goes_lost laws restarts steps stops is_stuck old mid place f bad bound g may new half after turn
    goes_end bad mid half g far new after (Err ask.Memory) (bound, turn) = goes_stops laws restarts steps stops is_stuck old mid place f bad bound g may new half after turn
    goes_end bad mid half g far new after (Err ask.SixBad) (six, same, rests) =
        let P : Air L → Type 0 = λ a. HasWaited k old a place f (Err ask.SixBad) in
        let Q : ℕ → Type 0 = λ n. GoesOn k old mid place f g.tag.tag n in
        subst P (sym same) (record { tag = g.tag; ends = subst Q six g.goes })
    goes_end bad mid half g far new after (Err ask.Protocol) e = absurd e

    pub has_waited : HasPlainTag k old place → (far : F) (new : Air L) (after : F) (r : Result Signal AskFault)
        → AsksFirst k.machine restarts steps f old far stops is_stuck new after r → HasWaited k old new place f r
    has_waited t far new after r a =
        goes_end a.bad a.mid a.half
        (on_bads k.machine restarts steps f old far (λ mid half n. GoesFrom k old mid place f n) goes_more (begins old place f t)
        a.bad (six_at_most k.machine restarts steps f old far stops is_stuck a.bad a.mid a.half new after r a.ends) a.mid a.half a.before)
        far new after r a.ends
