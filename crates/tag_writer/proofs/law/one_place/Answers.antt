use Rattle.tag_writer.proofs.OnePlace.{one_place}
use Rattle.tag_writer.proofs.OneOutcome.{some_place, held_there}
use Rattle.tag_writer.proofs.law.one_place.Goals as goal

pub returns-clause-some : goal.returns-clause-some
returns-clause-some c = some_place

pub returns-clause-held : goal.returns-clause-held
returns-clause-held c = held_there

pub returns-clause-one : goal.returns-clause-one
returns-clause-one c = one_place
