use Rattle.link_tests.proofs.call_tests.gets.Goals as goal

pub get_on-requires-clause-open_ : goal.get_on-requires-clause-open_
get_on-requires-clause-open_ c = c.requires.open_

pub returns-clause-open_ : goal.returns-clause-open_
returns-clause-open_ c = c.in_ok-value.ensures.ok.open_
