use Rattle.nfc_base.proofs.Locking.{no_bits}
use Rattle.nfc_base.proofs.locks.Locks.none.Goals as goal

pub returns : goal.returns
returns g c = no_bits _
