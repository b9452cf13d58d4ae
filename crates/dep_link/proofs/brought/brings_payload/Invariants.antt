use Rattle.std.proofs.Common.{◌<◌, drop}
use Rattle.nfc_base.specs.LinkTurns.{arrived}
use Rattle.dep_link.specs.Payloads.{brings_payload}
use Rattle.dep_link.specs.Exchange.{frames_of}
use Rattle.dep_link.proofs.Brings.{Left}
use Rattle.dep_link.proofs.brought.brings_payload.Given as goal

abbrev pub invariant-loop-event : goal.invariant-loop-event
invariant-loop-event l = record {
  number : l.next < 4;
  left : Left l.next (frames_of (arrived (drop l.event-index l.events))) (brings_payload l.fn.first (frames_of (arrived l.events)));
}
