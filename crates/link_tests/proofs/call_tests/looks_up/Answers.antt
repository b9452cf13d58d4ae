use Rattle.link_tests.proofs.call_tests.looks_up.Goals as goal

pub lookup_on-requires-clause-open_ : goal.lookup_on-requires-clause-open_
lookup_on-requires-clause-open_ c = c.requires.open_

pub returns-clause-open_ : goal.returns-clause-open_
returns-clause-open_ c = c.in_ok-sap.ensures.ok.open_
