-- Initiator and target in an exchange, turn by turn, with what the target's answers brought so far.
use Rattle.std.proofs.Common.{◌≡◌, ℕ, ◌+◌, ◌*◌, ◌≤◌, true, false, List, [], ◌∷◌, ◌++◌, length, Option, Some, None, refl, sym, ap, ◌∙◌, subst, arith}
use Rattle.nfc_base.specs.Signal.{Signal}
use Rattle.nfc_base.specs.declared.carrier.EndCause.TheVariants.{FieldLost, SixBad, Protocol, Memory}
use Rattle.nfc_base.specs.declared.event.Heard.TheVariants as heards
use Rattle.nfc_base.proofs.ExactlyOnce.{Lands, Goes}
use Rattle.air_core.specs.Conversation.{Got}
use Rattle.dep_pdu.specs.declared.frame.DepFrame.{DepFrame}
use Rattle.dep_pdu.specs.Spelling.{IsDepFrame}
use Rattle.dep_link.specs.declared.initiator.InitStep.{InitStep}
use Rattle.dep_link.specs.declared.initiator.InitStep.TheVariants as init_steps
use Rattle.dep_link.specs.declared.target.TargetStep.{TargetStep}
use Rattle.dep_link.specs.declared.target.TargetStep.TheVariants as steps
use Rattle.dep_link.specs.Asking.{Standing, Waits, Rests, Broken, Astray, goes_by, noted}
use Rattle.nfc_base.specs.Pieces.{pieces}
use Rattle.dep_link.specs.Exchange.{InStep, IsCut, nfc_dep, target_does, initiator_does, before_frames}
use Rattle.dep_link.specs.Frames.{air_frame, spelled}
use Rattle.dep_link.specs.Initiator.{InitState, begun, init_table, request}
use Rattle.dep_link.specs.Payloads.{Cut}
use Rattle.dep_link.specs.Replies.{taken_up, cut_up}
use Rattle.dep_link.specs.Sizes.{limit}
use Rattle.dep_link.specs.Target.{TargetState, TargetMove, TargetTurn, Does, Stays, Answers, Begins, Delivers, Sleeps, Frees, framed_does, replied, reply_frame, target_table}
use Rattle.dep_link.proofs.Handed.{asking_first}
use Rattle.dep_link.proofs.Hearing.{unheard_at, lost_at, damaged_at, answered_at}
use Rattle.dep_link.proofs.Landing.{lands_at}
use Rattle.nfc_base.proofs.Chains.{more, Fits}
use Rattle.dep_link.proofs.Standing.{dep_ends, Ask, asks, asking, Wait}
use Rattle.dep_link.proofs.Wire.{written_read}
use Rattle.link_numbers.proofs.far.Spoken.{Speaks, none_said, some_said, all_said, Spoken, cut_at, move_of, InRange, Said, move_said, Full, FullSaid, move_full}
use Rattle.link_numbers.proofs.far.Moving.{Turn, turn_at, range_at}

-- An exchange is under way, and f is due. U is the cut of the target's answers so far; past are the replies of earlier exchanges, given is
-- this one's, where its payload was handed over.
pub record Paired (i : InitState) (f : Signal) (t : TargetState) (U : Cut) (past : List (List ℕ)) (given : Option (List ℕ)) : Type 0 where
  pub most : ℕ
  pub busy : ℕ
  pub out : List ℕ
  pub ahead : ℕ
  pub ask : Ask most busy out i t given f ahead
  pub said : Spoken t past given U
  pub full : Full t given

-- The target answered a, which U has.
pub record Answering (i : InitState) (a : Signal) (t : TargetState) (U : Cut) (past : List (List ℕ)) (given : Option (List ℕ)) : Type 0 where
  pub most : ℕ
  pub busy : ℕ
  pub out : List ℕ
  pub ahead : ℕ
  pub wait : Wait most busy out i t given a ahead
  pub said : Spoken t past given U
  pub full : Full t given

-- What is owed of a target's step, by which it is t now, where U was the cut before it: it answers, or hands the payload over for the first
-- time and answers by any reply.
abbrev pub Passed : InitState → TargetState → Cut → List (List ℕ) → Option (List ℕ) → TargetStep → Type 0
Passed i t U past given steps.Quiet = ⊥
Passed i t U past given (steps.Reply a) = Answering i a t (cut_up U (before_frames (spelled a) [])) past given
Passed i t U past given (steps.Restart general a) = ⊥
Passed i t U past given (steps.Deliver payload) =
    (given ≡ None)
    × ((r : List ℕ) → length r ≤ limit → Answering i (air_frame (reply_frame t r)) (replied t r) (cut_up U (before_frames (spelled (air_frame (reply_frame t r))) [])) past (Some r))
Passed i t U past given (steps.Asleep a) = ⊥
Passed i t U past given (steps.Released a) = ⊥

-- where the exchange stands once the initiator noted what it heard
abbrev pub Comes : Standing → TargetState → Cut → List (List ℕ) → Option (List ℕ) → Type 0
Comes (Waits j g) t U past given = Paired j g t U past given
Comes (Rests j reply) t U past given = (given ≡ Some reply) × InStep j t × (U ≡ cut_at j.core.number [] (past ++ reply ∷ []))
Comes (Broken FieldLost) t U past given = Unit {0}
Comes (Broken SixBad) t U past given = Unit {0}
Comes (Broken Protocol) t U past given = ⊥
Comes (Broken Memory) t U past given = ⊥
Comes Astray t U past given = ⊥

pub begins_paired : (i : InitState) (t : TargetState) (out : List ℕ) (past : List (List ℕ)) (U : Cut) → length out ≤ limit → InStep i t → U ≡ cut_at i.core.number [] past
    → Paired (begun i out) (air_frame (request (begun i out).core)) t U past None
begins_paired i t out past U short s e = record {
  most = t.most;
  busy = t.busy;
  out = out;
  ahead = 2 * pieces i.core.most out;
  ask = asks refl refl (asking (omega arith) (asking_first i t out short s) (omega arith));
  said = e ∙ ap (λ (n : ℕ). cut_at n [] past) (sym s.expects);
  full = tt;
}

-- one frame more in the cut
cut_frame : (U : Cut) (v : DepFrame) → IsDepFrame v → cut_up U (before_frames (spelled (air_frame v)) []) ≡ taken_up U v
cut_frame U v r = ap (λ o. cut_up U (before_frames o [])) (written_read v r)

module _ (i : InitState) (f : Signal) (t : TargetState) (U : Cut) (past : List (List ℕ)) (g : Option (List ℕ)) where
  module _ (m k : ℕ) (out : List ℕ) (n : ℕ) where
    -- what the law of stop and wait says of the move
    abbrev LandsAs : TargetState → TargetStep → Type 0
    LandsAs u d = Lands (nfc_dep 0) out (Ask m k out) (Wait m k out) (more dep_ends m k out) (Fits dep_ends m k out) (IsCut 0) i t g f n u (target_does d)

    abbrev Landed : TargetMove → Type 0
    Landed x = LandsAs x.state (framed_does x.does)

    passes : (x : TargetMove) → Landed x → Said x.state g past U x.does → FullSaid x.state g x.does → Passed i x.state U past g (framed_does x.does)
    passes x l s q = go x.state x.does l s q
      where
        go : (u : TargetState) (d : Does) → Landed (record { state = u; does = d }) → Said u g past U d → FullSaid u g d → Passed i u U past g (framed_does d)
        go u Stays l s q = s
        go u (Answers v) l s q =
            record { most = m; busy = k; out = out; ahead = n; wait = l.0; said = subst (λ (c : Cut). Spoken u past g c) (sym (cut_frame U v s.0)) s.1; full = q }
        go u (Begins general v) l s q = s
        go u (Delivers xs) l s q = (
          s.0,
          λ r fits. record {
            most = m;
            busy = k;
            out = out;
            ahead = n + 2 * more dep_ends m k out r;
            wait = (l.2 r fits).0;
            said = subst (λ (c : Cut). Spoken (replied u r) past (Some r) c) (sym (cut_frame U (reply_frame u r) (s.1 r).0)) (s.1 r).1;
            full = q r;
          },
        )
        go u (Sleeps v) l s q = s
        go u (Frees v) l s q = s

  -- the request that is due passed
  pub passed : Paired i f t U past g → Passed i (target_table t f).state U past g (target_table t f).does
  passed p =
      subst (λ (y : TargetTurn). Passed i y.state U past g y.does) (sym turn.2)
      (passes p.most p.busy p.out p.ahead (move_of t turn.0) landed (move_said t g turn.0 past U range turn.1 p.said) (move_full t g turn.0 past U range turn.1 p.said p.full))
    where
      turn : Turn t g f
      turn = turn_at p.most p.busy p.out i t g f p.ahead p.ask

      range : InRange t
      range = range_at p.most p.busy p.out i t g f p.ahead p.ask

      landed : Landed p.most p.busy p.out p.ahead (move_of t turn.0)
      landed =
          subst (λ (y : TargetTurn). LandsAs p.most p.busy p.out p.ahead y.state y.does) turn.2 (lands_at 0 p.most p.busy p.out i t g f p.ahead p.ask)

-- how the initiator goes on
module _ (t : TargetState) (U : Cut) (past : List (List ℕ)) (g : Option (List ℕ)) (said : Spoken t past g U) (full : Full t g) (m k : ℕ) (out : List ℕ) where
  -- all of the reply was said where none of it is left
  rests : (j : InitState) (r : List ℕ) → g ≡ Some r → InStep j t → U ≡ cut_at j.core.number [] (past ++ r ∷ [])
  rests j r e s = go (subst (λ (o : Option (List ℕ)). Spoken t past o U) e said)
    where
      go : Speaks t r past U → U ≡ cut_at j.core.number [] (past ++ r ∷ [])
      go (none_said due unsent left is) = absurd (let e : true ≡ false = sym unsent ∙ s.all_sent in cc)
      go (some_said due unsent xs whole size rest is) = absurd (let e : true ≡ false = sym unsent ∙ s.all_sent in cc)
      go (all_said due unsent left is) = is ∙ ap (λ (n : ℕ). cut_at n [] (past ++ r ∷ [])) s.expects

  bad_comes : (j : InitState) (n : ℕ) (x : InitStep) → Goes (λ z. (q : ℕ) × Ask m k out j t g z q × (q ≤ n + 2)) (λ _. ⊥) (Unit {0}) (initiator_does x) → Comes (goes_by j x) t U past g
  bad_comes j n (init_steps.Send z) h = record { most = m; busy = k; out = out; ahead = h.0; ask = h.1; said = said; full = full }
  bad_comes j n (init_steps.Finished reply) h = absurd h
  bad_comes j n init_steps.SixBad h = tt
  bad_comes j n init_steps.Protocol h = h

  good_comes : (j : InitState) (n : ℕ) (x : InitStep) → Goes (λ z. (q : ℕ) × Ask m k out j t g z q × (q + 2 ≤ n)) (λ r. (g ≡ Some r) × InStep j t) ⊥ (initiator_does x)
      → Comes (goes_by j x) t U past g
  good_comes j n (init_steps.Send z) h = record { most = m; busy = k; out = out; ahead = h.0; ask = h.1; said = said; full = full }
  good_comes j n (init_steps.Finished reply) h = (h.0, h.1, rests j reply.items h.0 h.1)
  good_comes j n init_steps.SixBad h = absurd h
  good_comes j n init_steps.Protocol h = h

module _ (i : InitState) (f : Signal) (t : TargetState) (U : Cut) (past : List (List ℕ)) (g : Option (List ℕ)) where
  -- the request didn't pass, and nothing was heard
  pub unheard : Paired i f t U past g → Comes (noted (Waits i f) (Got heards.Silent)) t U past g
  unheard p =
      bad_comes t U past g p.said p.full p.most p.busy p.out (init_table i heards.Silent).state p.ahead (init_table i heards.Silent).does
      (unheard_at 0 p.most p.busy p.out i t g f p.ahead p.ask)

module _ (i : InitState) (a : Signal) (t : TargetState) (U : Cut) (past : List (List ℕ)) (g : Option (List ℕ)) (p : Answering i a t U past g) (f : Signal) where
  -- the answer was heard whole, damaged, or not at all
  pub heard : Comes (noted (Waits i f) (Got (heards.Whole a))) t U past g
  heard =
      good_comes t U past g p.said p.full p.most p.busy p.out (init_table i (heards.Whole a)).state p.ahead (init_table i (heards.Whole a)).does
      (answered_at 0 p.most p.busy p.out i t g a p.ahead p.wait).1

  pub damaged : Comes (noted (Waits i f) (Got heards.Damaged)) t U past g
  damaged =
      bad_comes t U past g p.said p.full p.most p.busy p.out (init_table i heards.Damaged).state p.ahead (init_table i heards.Damaged).does
      (damaged_at 0 p.most p.busy p.out i t g a p.ahead p.wait)

  pub lost : Comes (noted (Waits i f) (Got heards.Silent)) t U past g
  lost =
      bad_comes t U past g p.said p.full p.most p.busy p.out (init_table i heards.Silent).state p.ahead (init_table i heards.Silent).does
      (lost_at 0 p.most p.busy p.out i t g a p.ahead p.wait)
