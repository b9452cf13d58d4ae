use Rattle.link_tests.proofs.call_tests.message_over.Goals as goal

pub three_calls-requires-clause-open_ : goal.three_calls-requires-clause-open_
three_calls-requires-clause-open_ g c = c.in_ok-initiator.ensures.open_
