-- When a listener is a peer: where what it stands in is kept by each frame of an exchange and by ATR_REQ, and there it
-- does what the target's table says. What `activate` leaves is what a link needs.
use Rattle.std.proofs.Common.{◌≡◌, ℕ, zero, suc, List, [], ◌∷◌, sym, ap, subst}
use Rattle.std.specs.List.{AllByRecursion}
use Rattle.nfc_base.specs.declared.frame.Tech.TheVariants.{A}
use Rattle.nfc_base.specs.Signal.{Signal}
use Rattle.air_core.specs.declared.listener.Listener.{Ghosts}
use Rattle.dep_pdu.specs.Spelling.{IsDepFrame}
use Rattle.dep_link.specs.Target.{TargetState, darkened, atr_res}
use Rattle.dep_link.specs.Sessions.{IsBusy}
use Rattle.dep_link.specs.Peers.{IsAsked, IsShort, Hearing, IsHearing, heard_with, reached, StepsByTarget, IsPeer}
use Rattle.air_core.specs.Turn.{Air}
use Rattle.dep_link.specs.Initiator.{InitState}
use Rattle.dep_link.specs.Asking.{HasPeer}
use Rattle.dep_link.specs.DepLinks.{IsInStep}
use Rattle.dep_link.specs.Activating.{atr_frame, sent_times, TakesAtr, IsActivated}

module _ {L : Type 0} (k : Ghosts L) (target : L → TargetState) where
  -- where this holds of a listener it does what the table says, and this holds again
  pub record KeepsTable (S : L → Type 0) : Type 0 where
    pub tech : (l : L) → S l → k.machine.tech l ≡ A
    pub steps : (l : L) → S l → (f : Signal) → IsAsked f → (r : List ℕ) → IsShort r
        → StepsByTarget k target l f r × S (heard_with k l f r)
    pub opens : (l : L) → S l → (general : List ℕ) → StepsByTarget k target l (atr_frame general) []
        × S (heard_with k l (atr_frame general) [])
    pub cleared : (l : L) → S l → target (k.machine.darkened l) ≡ darkened (target l)
    pub says : (l : L) → S l → IsDepFrame (atr_res (target l))
    pub busy : (l : L) → S l → IsBusy (target l)

  module _ (S : L → Type 0) (keeps : KeepsTable S) where
    reached_keeps : (hs : List Hearing) → AllByRecursion IsHearing hs → (l : L) → S l → S (reached k l hs)
    reached_keeps [] a l s = s
    reached_keeps (h ∷ hs) a l s = reached_keeps hs a.1 (heard_with k l h.frame h.reply)
        (keeps.steps l s h.frame a.0.asked h.reply a.0.short).1

    pub is_peer : (l : L) → S l → IsPeer k target l
    is_peer l s = record {
      tech = keeps.tech l s;
      steps_on = λ hs a f q r b. (keeps.steps (reached k l hs) (reached_keeps hs a l s) f q r b).0;
      cleared = λ hs a. keeps.cleared (reached k l hs) (reached_keeps hs a l s);
    }

    sent_keeps : (general : List ℕ) (l : L) → S l → (n : ℕ) → S (sent_times k target l (atr_frame general) n)
    sent_keeps general l s zero = s
    sent_keeps general l s (suc n) =
        (keeps.opens (sent_times k target l (atr_frame general) n) (sent_keeps general l s n) general).1

    pub takes_atr : (l : L) → S l → (general : List ℕ) → TakesAtr k target l general
    takes_atr l s general = record {
      tech = keeps.tech l s;
      says = keeps.says l s;
      busy = keeps.busy l s;
      steps = λ n. (keeps.opens (sent_times k target l (atr_frame general) n) (sent_keeps general l s n) general).0;
      is = λ n. is_peer (sent_times k target l (atr_frame general) (suc n)) (sent_keeps general l s (suc n));
    }

  -- behind an activation both ends are in step
  pub activated_in_step : (air : Air L) (own : TargetState) (i : InitState) (told : List ℕ)
      → IsActivated k target air own i told → IsInStep k target air i
  activated_in_step air own i told a = (
    a.lit,
    subst (λ n. HasPeer k target air i n [] []) (sym (ap (λ (j : InitState). j.core.number) a.initiator))
        a.peer,
  )
