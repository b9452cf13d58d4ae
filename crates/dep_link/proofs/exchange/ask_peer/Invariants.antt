use Rattle.std.proofs.Common.{◌≡◌, ℕ, ◌≤◌, List, length, true}
use Rattle.nfc_base.specs.Signal.{Signal}
use Rattle.nfc_base.specs.StopAndWait.{Requests}
use Rattle.dep_link.specs.Frames.{air_frame}
use Rattle.dep_link.specs.Initiator.{InitState, begun, request}
use Rattle.dep_link.specs.Asking.{Waits, HasPeer}
use Rattle.dep_link.specs.AnyPeer.{IsBegun}
use Rattle.dep_link.proofs.Moves.{left_to_do}
use Rattle.dep_link.proofs.AnyPeer.{StandsSo}
use Rattle.dep_link.proofs.Swapping.{HasBytes, OnPeer}
use Rattle.dep_link.proofs.exchange.ask_peer.Given as goal

abbrev pub invariant-loop-heard : goal.invariant-loop-heard
invariant-loop-heard g l = record {
  out : l.initiator.out ≡ l.fn.initiator.out;
  bytes : HasBytes l.frame;
  said : (i : InitState) (out : List ℕ) → IsBegun i out l.fn.initiator l.fn.request
      → StandsSo g.L.Listener.machine g.A.Answerer.restarts g.A.Answerer.steps g.A.Answerer.stops g.A.Answerer.is_stuck l.fn.field l.fn.far i out l.field l.far (Waits l.initiator l.frame);
  goes : (i : InitState) (out : List ℕ) → l.fn.initiator ≡ begun i out → l.fn.request ≡ air_frame (request (begun i out).core) → length out ≤ 2178 → l.fn.field.lit ≡ true
      → (first : ℕ) (handed : List (List ℕ)) (arrived : List Signal) (t : HasPeer g.L.Listener g.L.PeerListener.target l.fn.field i first handed arrived)
      → OnPeer g.L.Listener g.L.PeerListener.target g.A.Answerer.steps t.listener i first handed arrived out l.fn.far l.fn.field l.field t.place l.far l.initiator (Requests l.frame)
      (Waits l.initiator l.frame);
}

abbrev pub decreases-loop-heard : goal.decreases-loop-heard
decreases-loop-heard g l = left_to_do l.initiator
