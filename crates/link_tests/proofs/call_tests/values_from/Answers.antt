use Rattle.link_tests.proofs.call_tests.values_from.Goals as goal

pub two_values-requires-clause-open_ : goal.two_values-requires-clause-open_
two_values-requires-clause-open_ g c = c.in_ok-initiator.ensures.open_
