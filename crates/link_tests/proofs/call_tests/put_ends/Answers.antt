use Rattle.link_tests.proofs.call_tests.put_ends.Goals as goal

pub puts-requires-clause-open_ : goal.puts-requires-clause-open_
puts-requires-clause-open_ c = c.in_ok-initiator.ensures.open_
