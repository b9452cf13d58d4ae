use Rattle.bench_world.proofs.calm.Complete.{reads_complete}
use Rattle.bench_world.proofs.calm.ThreesComplete.{threes_read}
use Rattle.bench_world.proofs.law.reads_complete.Goals as goal

pub returns-clause-tags : goal.returns-clause-tags
returns-clause-tags c = reads_complete

pub returns-clause-threes : goal.returns-clause-threes
returns-clause-threes c = threes_read
