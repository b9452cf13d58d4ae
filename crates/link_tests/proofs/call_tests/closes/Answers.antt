use Rattle.link_tests.proofs.call_tests.closes.Goals as goal

pub close_and_release-requires-clause-open_ : goal.close_and_release-requires-clause-open_
close_and_release-requires-clause-open_ c = c.requires.open_
