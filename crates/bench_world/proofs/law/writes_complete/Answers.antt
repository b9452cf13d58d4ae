use Rattle.bench_world.proofs.calm.Complete.{writes_complete}
use Rattle.bench_world.proofs.calm.Written.{shown_is_written, valid_is_written}
use Rattle.bench_world.proofs.calm.ThreesComplete.{threes_write, threes_written}
use Rattle.bench_world.proofs.law.writes_complete.Goals as goal

pub returns-clause-told : goal.returns-clause-told
returns-clause-told c = writes_complete

pub returns-clause-shown : goal.returns-clause-shown
returns-clause-shown c = shown_is_written

pub returns-clause-written : goal.returns-clause-written
returns-clause-written c = valid_is_written

pub returns-clause-threes : goal.returns-clause-threes
returns-clause-threes c = threes_write

pub returns-clause-valid : goal.returns-clause-valid
returns-clause-valid c = threes_written
