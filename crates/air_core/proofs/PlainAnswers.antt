-- What `ask` of a link to a plain tag answers.
use Rattle.std.proofs.Common.{◌≡◌, ◌≢◌, ℕ, suc, ◌<◌, ◌≤◌, ◌⊎◌, inl, inr, List, [], ◌∷◌, ◌++◌, length, true, false, Option, Some, None, Ok, Err, refl, sym, ◌∙◌, ap, subst, append-nil, arith}
use Rattle.std.specs.Prelude.{not}
use Rattle.nfc_base.specs.declared.frame.Tech.TheVariants.{A}
use Rattle.nfc_base.specs.declared.tag_link.AskFault.{AskFault}
use Rattle.nfc_base.specs.declared.tag_link.AskFault.TheVariants.{FieldLost, SixBad, Memory, Protocol}
use Rattle.nfc_base.specs.Signal.{Signal}
use Rattle.nfc_base.specs.Trace.{noise}
use Rattle.nfc_base.specs.Links.{CountsOn}
use Rattle.nfc_base.specs.TagLinks.{IsNamedIn, Obeys, Rises, IsAnswer, IsFault}
use Rattle.air_core.specs.Turn.{Air}
use Rattle.air_core.specs.Waits.{Standing, Asking, Broken, stand}
use Rattle.air_core.specs.PlainTags.{plain_kind, heard_times, tag_step, IsAlone, IsPlainTag, MayTell}
use Rattle.air_core.specs.PlainLinks.{PlainSeen, at_place, counts_of, unanswered, StandsAt, answered_by_link, asked_on, plain_view, MayAskAt, IsPlainReady, PlainMoves}
use Rattle.air_core.specs.private.PlainWaits.{after_bad, Waited, EndsBy, HasWaited}
use Rattle.air_core.specs.declared.listener.Listener.{Ghosts}
use Rattle.air_core.proofs.PlainAside.{Laws}
use Rattle.air_core.proofs.PlainTurns.{asking_bad}
use Rattle.air_core.proofs.PlainEnds.{may_tell, steady_now}
use Rattle.air_core.proofs.PlainTagging.{IsSteady, plain_heard}
use Rattle.air_core.proofs.PlainViews.{never_type4, IsLeft, heard_same, Shown, shown}

pub none_here : (o : Option AskFault) → ((x : AskFault) → o ≡ Some x → ⊥) → o ≡ None
none_here None other = refl
none_here (Some x) other = absurd (other x refl)

pub counts_rise : (o o' : Option AskFault) → o ≡ None → CountsOn (counts_of o) (counts_of o')
counts_rise None o' e = record { breaks = omega arith; six_bad = omega arith; odd = omega arith }
counts_rise (Some x) o' e = absurd cc

counts_stay : (o : Option AskFault) → CountsOn (counts_of o) (counts_of o)
counts_stay o = record { breaks = omega arith; six_bad = omega arith; odd = omega arith }

pub none_left : (o : Option AskFault) (last : Option Signal) → o ≡ None → unanswered o last ≡ []
none_left None last e = refl
none_left (Some x) last e = absurd cc

module _ {L : Type 0} (k : Ghosts L) (laws : Laws k) (old new : Air L) (place start : ℕ) (last : Option Signal) (over : Option AskFault) (f g : Signal) (begun : over ≡ None)
    (ready : over ≡ None → IsPlainReady k (record { air = old; place = place; start = start; last = last; over = over })) (may : MayAskAt k old place f) (copied : g ≡ f) where
  abbrev before : PlainSeen L
  before = record { air = old; place = place; start = start; last = last; over = over }

  none_more : (p : PlainSeen L) → p.over ≡ None → asked_on k p ≡ answered_by_link k p
  none_more p e = ap (λ xs. answered_by_link k p ++ xs) (none_left p.over p.last e) ∙ append-nil (answered_by_link k p)

  bound : start ≤ length old.trace
  bound = (ready begun).start

  -- what a wait that failed left
  record Left (tag : L) (o : AskFault) : Type 0 where
    pub turns : ℕ
    pub heard : ℕ
    pub s : Standing
    pub left : L
    pub waits : Waited k old new place f tag turns heard s left []
    pub most : turns ≤ 6
    pub is : IsLeft k tag f heard left
    pub stands : StandsAt (Some o) new.lit s
    pub calm : (o ≡ Memory) ⊎ ((old.lit ≡ false) ⊎ (((tag_step k tag f).answer ≡ None) ⊎ (0 < noise waits.events)))

  left_of : (tag : L) (o : AskFault) → EndsBy k old new place f tag (Err o) → Left tag o
  left_of tag FieldLost (inl h) = record {
    turns = 0;
    heard = h.1.heard;
    s = Asking 0 (f ∷ []);
    left = heard_times k tag f h.1.heard;
    waits = h.1.waits;
    most = omega arith;
    is = inl refl;
    stands = (h.1.lit ∙ h.0, f, inr refl);
    calm = inr (inl h.0);
  }
  left_of tag FieldLost (inr h) = record {
    turns = h.turns;
    heard = h.heard;
    s = Broken FieldLost (f ∷ []);
    left = k.machine.darkened (heard_times k tag f h.heard);
    waits = h.waits;
    most = h.bound;
    is = inr refl;
    stands = (h.dim, f, inl refl);
    calm = inr (inr (inr h.noisy));
  }
  left_of tag SixBad h = record {
    turns = 6;
    heard = h.heard;
    s = after_bad f 6;
    left = heard_times k tag f h.heard;
    waits = h.waits;
    most = omega arith;
    is = inl refl;
    stands = (h.lit ∙ h.begun (omega arith), f, refl);
    calm = inr (inr (h.calm (omega arith)));
  }
  left_of tag Memory h = record {
    turns = h.bad;
    heard = h.goes.heard;
    s = after_bad f h.bad;
    left = heard_times k tag f h.goes.heard;
    waits = h.goes.waits;
    most = omega (arith, h.bound);
    is = inl refl;
    stands = (h.lit, f, h.bad, asking_bad f h.bad h.bound);
    calm = inl refl;
  }
  left_of tag Protocol h = absurd h

  module _ (reply : Signal) (h : HasWaited k old new place f (Ok reply)) where
    abbrev after_ok : PlainSeen L
    after_ok = record { air = new; place = place; start = start; last = Some g; over = over }

    tell : MayTell k h.tag.tag f
    tell = may_tell k old place f h.tag may

    steady : IsSteady k h.tag.tag f
    steady = steady_now k laws old place f h.tag tell

    shows : Shown k before after_ok f h.tag.tag h.ends.turns (suc h.ends.heard) (f ∷ []) h.ends.waits.events
    shows =
        shown k laws old place f h.tag tell steady new h.ends.turns (suc h.ends.heard) (Asking 0 []) (heard_times k h.tag.tag f (suc h.ends.heard)) (f ∷ []) h.ends.waits (inl refl)
        start last (Some g) over over bound begun

    pub ok_obeys : Obeys (plain_view k before) (plain_view k after_ok) f
    ok_obeys = shows.obeys

    pub ok_rises : Rises (plain_view k before) (plain_view k after_ok)
    ok_rises = record { counts = counts_stay over; noise = omega (arith, shows.noise) }

    pub ok_answer : IsAnswer (plain_view k before) (plain_view k after_ok) f reply
    ok_answer = record {
      begun = begun;
      stays = begun;
      lit = ap not h.ends.lit;
      answer = ap (λ x. x.answer) shows.step ∙ h.ends.says;
      after = shows.after h.ends.heard refl;
      answered = shows.answered;
      counts = refl;
      least = omega (arith, shows.least);
      once = λ e. absurd (never_type4 (at_place k.machine.tech A old.listeners place) e);
    }

    pub ok_ready : over ≡ None → IsPlainReady k after_ok
    ok_ready e =
        let n : ℕ = suc h.ends.heard in
        let left : L = heard_times k h.tag.tag f n in
        let keeps = heard_same k laws h.tag.tag f n in
        let own : k.identifier left ≡ k.identifier h.tag.tag = keeps.1 in
        let I : List ℕ → Type 0 = λ i. IsAlone k i new.listeners place left in
        let P : List ℕ → Type 0 = λ i. IsPlainTag k (plain_kind (k.machine.tech h.tag.tag)) i left in
        let Q : _ → Type 0 = λ u. IsPlainTag k (plain_kind u) (k.identifier left) left in
        let M : List ℕ → Type 0 = IsNamedIn (k.machine.tech h.tag.tag) in
        let N : _ → Type 0 = λ u. IsNamedIn u (k.identifier left) in
        record {
          start = omega (arith, bound, shows.longer);
          tag = record {
            tag = left;
            selected = steady.selected reply h.ends.says h.ends.heard;
            alone = subst I (sym own) h.ends.waits.alone;
            named = subst N (sym keeps.0) (subst M (sym own) h.tag.named);
            plain = subst Q (sym keeps.0) (subst P (sym own) (plain_heard k laws (plain_kind (k.machine.tech h.tag.tag)) (k.identifier h.tag.tag) h.tag.tag f tell h.tag.plain n));
          };
        }

    stands_ok : (o : Option AskFault) → o ≡ None → StandsAt o new.lit (stand 0 (f ∷ []) h.ends.waits.notes)
    stands_ok None e = h.ends.waits.stands
    stands_ok (Some x) e = absurd cc

    pub ok_moves : PlainMoves k before after_ok
    ok_moves = record {
      same = (refl, refl);
      asked = record {
        commands = f ∷ [];
        notes = h.ends.waits.notes;
        going = h.ends.waits.going;
        stands = λ e. stands_ok over e;
        told = none_more after_ok begun ∙ shows.answered ∙ ap (λ xs. xs ++ f ∷ []) (sym (none_more before begun));
        most = omega (arith, shows.long, h.ends.bound);
      };
      ended = λ x e. absurd cc;
      obeyed = record { commands = shows.obeys.more; leads = shows.obeys.leads; images = shows.images };
    }

  module _ (o : AskFault) (h : HasWaited k old new place f (Err o)) where
    abbrev after_err : PlainSeen L
    after_err = record { air = new; place = place; start = start; last = Some g; over = Some o }

    tell_err : MayTell k h.tag.tag f
    tell_err = may_tell k old place f h.tag may

    steady_err : IsSteady k h.tag.tag f
    steady_err = steady_now k laws old place f h.tag tell_err

    x : Left h.tag.tag o
    x = left_of h.tag.tag o h.ends

    shows_err : Shown k before after_err f h.tag.tag x.turns x.heard [] x.waits.events
    shows_err = shown k laws old place f h.tag tell_err steady_err new x.turns x.heard x.s x.left [] x.waits x.is start last (Some g) over (Some o) bound begun

    pub err_obeys : Obeys (plain_view k before) (plain_view k after_err) f
    err_obeys = shows_err.obeys

    pub err_rises : Rises (plain_view k before) (plain_view k after_err)
    err_rises = record { counts = counts_rise over (Some o) begun; noise = omega (arith, shows_err.noise) }

    same_answered : (plain_view k after_err).answered ≡ (plain_view k before).answered
    same_answered = shows_err.answered ∙ append-nil (plain_view k before).answered

    pub err_fault : IsFault (plain_view k before) (plain_view k after_err) f o
    err_fault = record { over = refl; store = shows_err.either; answered = same_answered }

    pub err_moves : PlainMoves k before after_err
    err_moves =
        let P : Standing → Type 0 = StandsAt (Some o) new.lit in
        record {
          same = (refl, refl);
          asked = record {
            commands = f ∷ [];
            notes = x.waits.notes;
            going = x.waits.going;
            stands = λ e. subst P (sym x.waits.stands) x.stands;
            told = ap (λ y. answered_by_link k after_err ++ y ∷ []) copied ∙ ap (λ ys. ys ++ f ∷ []) (same_answered ∙ sym (none_more before begun));
            most = omega (arith, shows_err.long, x.most);
          };
          ended = λ y e. absurd cc;
          obeyed = record { commands = shows_err.obeys.more; leads = shows_err.obeys.leads; images = shows_err.images };
        }

    -- where all transmissions passed, a tag that answers was heard
    pub err_calm : not old.lit ≡ false → (plain_view k after_err).noise ≡ (plain_view k before).noise → ((plain_view k before).step (plain_view k before).state f).answer ≢ None → o ≡ Memory
    err_calm lit quiet says = by_calm x.calm
      where
        by_calm : (o ≡ Memory) ⊎ ((old.lit ≡ false) ⊎ (((tag_step k h.tag.tag f).answer ≡ None) ⊎ (0 < noise x.waits.events))) → o ≡ Memory
        by_calm (inl memory) = memory
        by_calm (inr (inl dim)) = absurd (let bright : not old.lit ≡ true = ap not dim in cc)
        by_calm (inr (inr (inl none))) = absurd (says (ap (λ s. s.answer) shows_err.step ∙ none))
        by_calm (inr (inr (inr noisy))) = absurd (omega (arith, shows_err.noise, quiet, noisy))
