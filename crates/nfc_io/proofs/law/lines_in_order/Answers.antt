use Rattle.nfc_io.proofs.InOrder.{in_order}
use Rattle.nfc_io.proofs.law.lines_in_order.Goals as goal

pub returns : goal.returns
returns c = in_order
