use Rattle.tag_writer.proofs.OneWrite.{one_write, one_parts}
use Rattle.tag_writer.proofs.law.one_write_asked.Goals as goal

pub returns-clause-one : goal.returns-clause-one
returns-clause-one c = one_write

pub returns-clause-parts : goal.returns-clause-parts
returns-clause-parts c = one_parts
