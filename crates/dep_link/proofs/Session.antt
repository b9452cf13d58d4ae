-- In exchanges one after another, over every air, each payload is handed over once and in order; only the last, where no reply came,
-- may be missing.
use Rattle.std.proofs.Common.{ℕ, [], refl, ap}
use Rattle.nfc_base.proofs.Sessions.{KeepsEach, session_delivers}
use Rattle.dep_link.specs.Sizes.{limit}
use Rattle.nfc_base.specs.Pieces.{pieces}
use Rattle.dep_link.specs.Exchange.{nfc_dep, IsReady, next_exchange, frames_back}
use Rattle.dep_link.specs.Sessions.{activated_link, ActivatedReady, ActivatedHands}
use Rattle.dep_link.proofs.Handed.{handed_once}
use Rattle.dep_link.proofs.Begun.{in_step_first}

-- one exchange from where the next may begin
pub keeps_each : (first : ℕ) → KeepsEach (nfc_dep first) next_exchange (IsReady first) limit
keeps_each first = record {
  brings = λ w r. ap (λ c. c.payloads) r.1;
  out = λ w out. pieces w.asking.core.most out;
  back = λ w. frames_back w.answering;
  once = λ w q r f. handed_once first q.far w.asking w.answering w.delivered w.arrived q.payload q.fates f.replies f.payload r.0 r.1;
}

-- both ends are ready once the target took ATR_REQ
pub ready_first : ActivatedReady
ready_first t code b = (in_step_first t code [] b, refl)

-- Over every air: what is handed over from an activation on are the payloads swapped, each once and in order, of which only
-- the last may be missing, where no reply came.
pub hands_from_activation : ActivatedHands
hands_from_activation t code qs b f =
    session_delivers (nfc_dep 0) next_exchange (IsReady 0) limit (keeps_each 0) (activated_link t code) qs (ready_first t code b) f
