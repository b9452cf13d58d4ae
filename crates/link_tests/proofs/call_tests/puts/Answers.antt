use Rattle.link_tests.proofs.call_tests.puts.Goals as goal

pub put_on-requires-clause-open_ : goal.put_on-requires-clause-open_
put_on-requires-clause-open_ c = c.requires.open_

pub returns-clause-open_ : goal.returns-clause-open_
returns-clause-open_ c = c.in_ok-put_on.ensures.ok.open_
