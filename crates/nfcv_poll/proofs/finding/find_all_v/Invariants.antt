use Rattle.std.proofs.Common.{◌≡◌, true}
use Rattle.nfca_poll.proofs.enquiries.Enquiring.{Reached}
use Rattle.nfcv_poll.specs.Search.{Runs, finding_all}
use Rattle.nfcv_poll.proofs.Falls.{left}
use Rattle.nfcv_poll.proofs.finding.find_all_v.Given as goal

abbrev pub invariant-requests : goal.invariant-requests
invariant-requests g l = record {
  lit : l.field.lit ≡ true;
  so_far : Reached finding_all g.L.Listener.machine l.fn.field l.field (Runs l.search);
}

abbrev pub decreases-requests : goal.decreases-requests
decreases-requests g l = left l.search
