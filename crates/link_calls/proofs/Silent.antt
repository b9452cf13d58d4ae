-- RLS_REQ asks nothing of a far end, and fails a closing by its cause alone.
use Rattle.std.proofs.Common.{◌≡◌, sym, ◌∙◌}
use Rattle.nfc_base.specs.Far.{Untouched}
use Rattle.nfc_base.specs.declared.carrier.EndCause.{EndCause}
use Rattle.nfc_base.specs.declared.carrier.EndCause.TheVariants as cause
use Rattle.air_core.specs.Turn.{Air}
use Rattle.air_core.specs.declared.listener.Listener.{Ghosts}
use Rattle.dep_link.specs.Target.{TargetState}
use Rattle.dep_link.specs.Initiator.{InitState}
use Rattle.dep_link.specs.DepLinks.{IsInStep}
use Rattle.dep_link.specs.Releasing.{TakesRls, rls_frame}
use Rattle.snep_core.specs.Accord.{AsideFails, PeerState}
use Rattle.snep_core.specs.Calling.{fault_of}
use Rattle.dep_link.proofs.Released.{rls_use}

-- where no listener hands anything over at it, the peer of an open link doesn't
pub takes_rls : {L : Type 0} (k : Ghosts L) (target : L → TargetState) (air : Air L) (i : InitState) → IsInStep k target air i → ((l : L) → k.machine.handed l rls_frame ≡ Untouched)
    → TakesRls k target air
takes_rls k target air i (lit, peer) quiet =
    record { place = peer.place; listener = peer.listener; alone = peer.alone; asks = quiet peer.listener ∙ sym (rls_use (target peer.listener)) }

pub aside_fails : (old new : PeerState) (c : EndCause) → new.service.accepted ≡ old.service.accepted → AsideFails old (fault_of c) new
aside_fails old new cause.FieldLost e = e
aside_fails old new cause.SixBad e = e
aside_fails old new cause.Protocol e = e
aside_fails old new cause.Memory e = e
