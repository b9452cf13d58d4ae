use Rattle.std.proofs.Common.{ℕ, List}
use Rattle.dep_pdu.specs.Refusal.{dep_faults, head}
use Rattle.dep_pdu.specs.Reading.{frame_of}
use Rattle.dep_pdu.proofs.Readings.{exact}
use Rattle.dep_pdu.proofs.Rows.{told_by}
use Rattle.dep_pdu.proofs.frame.DepFrame.read_from.Goals as goal

pub returns-clause-ok : goal.returns-clause-ok
returns-clause-ok c =
    let b : List ℕ = c.args.bytes.now in
    exact b c.read_frame.result (told_by c.read_frame.result (dep_faults b) (frame_of (head b) b) c.read_frame.ensures)
