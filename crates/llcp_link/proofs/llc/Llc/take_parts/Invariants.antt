use Rattle.llcp_pdu.specs.Ranges.{AreParts}
use Rattle.llcp_pdu.specs.Views.{parts_in}
use Rattle.llcp_link.specs.Halting.{IsSame}
use Rattle.llcp_link.proofs.StepsSoFar.{SoFar}
use Rattle.llcp_link.proofs.llc.Llc.take_parts.Given as goal

abbrev pub invariant-inner : goal.invariant-inner
invariant-inner g l = record {
  range : AreParts (parts_in l.pdu-iterator);
  steps : SoFar g.S.Service.serving l.fn.self (parts_in l.inner) (parts_in l.pdu-iterator) l.self;
  same : IsSame l.fn.self l.self;
}
