use Rattle.link_calls.specs.Exchanging.{AreCarriable}
use Rattle.link_tests.proofs.exchange_tests.payloads_of.Given as goal

abbrev pub invariant-loop-row : goal.invariant-loop-row
invariant-loop-row l = AreCarriable l.payloads.items
