-- Of a tag behind the first turns of a list.
use Rattle.std.proofs.Common.{rules, ◌≡◌, ℕ, zero, suc, ◌<◌, List, [], ◌∷◌, ◌++◌, length, length-append, take, get_or, Bool, true, false, inl, inr, Option, Some, None, refl, sym, ap, subst, arith}
use Rattle.std.proofs.lemmas.List.{append-nil}
use Rattle.nfc_base.specs.Signal.{Signal}
use Rattle.nfc_base.specs.TagLinks.{TagState, TagStep, after_all, Obeys, IsAnswer, IsFault}
use Rattle.nfc_base.specs.declared.tag_link.AskFault.TheVariants.{FieldLost}
use Rattle.tag_steps.specs.declared.turn.Turn.{Turn}
use Rattle.tag_steps.specs.Replay.{Tag, AgreesFrom, commands_of, link_at}

pub after_one : (step : TagState → Signal → TagStep) (s : TagState) (cs : List Signal) (c : Signal) → after_all step s (cs ++ c ∷ []) ≡ (step (after_all step s cs) c).after
after_one step s [] c = refl
after_one step s (d ∷ cs) c = after_one step (step s d).after cs c

-- the commands of one turn more
pub one_more : (ts : List Turn) (n : ℕ) (t : Turn) → n < length ts → t ≡ get_or ts n t → commands_of (take (suc n) ts) ≡ commands_of (take n ts) ++ t.command ∷ []
one_more [] n t h e = absurd (omega (arith, h))
one_more (x ∷ ts) zero t h e = ap (λ (y : Turn). y.command ∷ []) (sym e)
one_more (x ∷ ts) (suc n) t h e = ap (λ cs. x.command ∷ cs) (one_more ts n t (omega (arith, h)) e)

-- the tag answered it so
pub answered_so : (step : TagState → Signal → TagStep) (s : TagState) (ts : List Turn) (n : ℕ) (t : Turn) → n < length ts → t ≡ get_or ts n t → AgreesFrom step s ts
    → (step (after_all step s (commands_of (take n ts))) t.command).answer ≡ Some t.answer
answered_so step s [] n t h e a = absurd (omega (arith, h))
answered_so step s (x ∷ ts) zero t h e a = let A : Turn → Type 0 = λ y. (step s y.command).answer ≡ Some y.answer in subst A (sym e) a.0
answered_so step s (x ∷ ts) (suc n) t h e a = answered_so step (step s x.command).after ts n t (omega (arith, h)) e a.1

-- Where the turns ran out the tag obeyed the command, or it didn't.
module _ (t : Tag) (last : Option Signal) (asked : List Signal) (c : Signal) where
  abbrev with_lost : Bool → Tag
  with_lost v = record t { lost = v }

  ran_out_by : (v : Bool) → Obeys (link_at (with_lost v) None last asked) (link_at (with_lost v) (Some FieldLost) (Some c) asked) c
  ran_out_by false = record {
    more = [];
    leads = record { kind = refl; identifier = refl; step = refl; obeyed = sym (append-nil asked); store = refl; state = λ n. search rules; ended = λ e q. search rules };
    steady = record { only = tt; same = tt; most = λ k. search rules };
  }
  ran_out_by true = record {
    more = c ∷ [];
    leads = record {
      kind = refl;
      identifier = refl;
      step = refl;
      obeyed = refl;
      store = ap (λ (s : TagState). s.store) (after_one t.step t.start asked c);
      state = λ n. search rules;
      ended = λ e q. search rules;
    };
    steady = record { only = (refl, tt); same = (refl, tt); most = λ k. search rules };
  }

  pub ran_out : Obeys (link_at t None last asked) (link_at t (Some FieldLost) (Some c) asked) c
  ran_out = ran_out_by t.lost

  lost_by : (v : Bool) → IsFault (link_at (with_lost v) None last asked) (link_at (with_lost v) (Some FieldLost) (Some c) asked) c FieldLost
  lost_by false = record { over = refl; store = inl refl; answered = refl }
  lost_by true = record { over = refl; store = inr (ap (λ (s : TagState). s.store) (after_one t.step t.start asked c)); answered = refl }

  pub lost_so : IsFault (link_at t None last asked) (link_at t (Some FieldLost) (Some c) asked) c FieldLost
  lost_so = lost_by t.lost

  -- Where a turn was left the tag answered.
  pub obeyed_so : Obeys (link_at t None last asked) (link_at t None (Some c) (asked ++ c ∷ [])) c
  obeyed_so = record {
    more = c ∷ [];
    leads = record {
      kind = refl;
      identifier = refl;
      step = refl;
      obeyed = refl;
      store = ap (λ (s : TagState). s.store) (after_one t.step t.start asked c);
      state = λ n. after_one t.step t.start asked c;
      ended = λ e q. search rules;
    };
    steady = record { only = (refl, tt); same = (refl, tt); most = λ k. search rules };
  }

  pub answer_so : (reply : Signal) → (t.step (after_all t.step t.start asked) c).answer ≡ Some reply → IsAnswer (link_at t None last asked) (link_at t None (Some c) (asked ++ c ∷ [])) c reply
  answer_so reply e = record {
    begun = refl;
    stays = refl;
    lit = refl;
    answer = e;
    after = after_one t.step t.start asked c;
    answered = refl;
    counts = refl;
    least = omega (arith, length-append asked (c ∷ []));
    once = λ k. refl;
  }
