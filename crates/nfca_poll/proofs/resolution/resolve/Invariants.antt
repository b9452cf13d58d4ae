use Rattle.std.proofs.Common.{◌≡◌, true}
use Rattle.nfca_poll.specs.Seeking.{resolution, seek_of}
use Rattle.nfca_poll.proofs.enquiries.SeekSteps.{potential}
use Rattle.nfca_poll.proofs.enquiries.Enquiring.{Reached}
use Rattle.nfca_poll.proofs.enquiries.FewAsked.{Counted}
use Rattle.nfca_poll.proofs.noise.ThroughNoise.{Holds}
use Rattle.nfca_poll.proofs.noise.NobodyIdle.{Sleepers}
use Rattle.nfca_poll.proofs.noise.AnyTurns.{Mixes}
use Rattle.nfca_poll.proofs.noise.Unlinked.{Frees}
use Rattle.nfca_poll.proofs.resolution.resolve.Given as goal

abbrev pub invariant-loop-heard : goal.invariant-loop-heard
invariant-loop-heard g l = record {
  lit : l.field.lit ≡ true;
  so_far : Reached resolution g.L.Listener.machine l.fn.field l.field (seek_of l.seeking);
  count : Counted g.L.Listener.machine l.fn.field l.field (seek_of l.seeking);
  noisy : Holds g.L.Listener.machine g.L.Listener.identifier l.fn.field l.field (seek_of l.seeking);
  nobody : Sleepers g.L.Listener.machine g.L.Listener.identifier l.fn.field l.field (seek_of l.seeking);
  any : Mixes g.L.Listener.machine g.L.Listener.identifier l.fn.field l.field (seek_of l.seeking);
  alone : Frees g.L.Listener.machine g.L.Listener.identifier l.fn.field l.field (seek_of l.seeking);
}

abbrev pub decreases-loop-heard : goal.decreases-loop-heard
decreases-loop-heard g l = potential (seek_of l.seeking)
