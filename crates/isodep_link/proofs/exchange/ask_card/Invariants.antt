use Rattle.std.proofs.Common.{ℕ, List, []}
use Rattle.nfc_base.specs.Signal.{Signal}
use Rattle.nfc_base.specs.StopAndWait.{Requests}
use Rattle.isodep_link.specs.Asking.{Waits, HasCardTag}
use Rattle.isodep_link.proofs.Moves.{left_to_do}
use Rattle.isodep_link.proofs.AskingLaw.{HasBytes, OnTag}
use Rattle.isodep_link.proofs.AnyTag.{CommandSaid}
use Rattle.isodep_link.proofs.exchange.ask_card.Given as goal

abbrev pub invariant-loop-heard : goal.invariant-loop-heard
invariant-loop-heard g l = record {
  bytes : HasBytes l.frame;
  said : CommandSaid g.L.Listener.machine l.fn.field l.field l.fn.reader l.command.bytes l.far l.reader l.frame;
  goes : (commands : List (List ℕ)) (arrived : List Signal) (t : HasCardTag g.L.Listener g.L.CardListener.card g.L.CardListener.tag l.fn.field l.place l.fn.reader commands arrived)
      → OnTag g.L.Listener g.L.CardListener.card g.L.CardListener.tag t.listener l.fn.reader commands arrived l.command.bytes l.fn.field l.field l.place l.reader (Requests l.frame)
      (Waits l.reader l.frame []);
}

abbrev pub decreases-loop-heard : goal.decreases-loop-heard
decreases-loop-heard g l = left_to_do l.reader
