use Rattle.bench_world.proofs.calm.Complete.{finds_complete}
use Rattle.bench_world.proofs.calm.CompleteTags.{tags_complete}
use Rattle.bench_world.proofs.calm.CompleteThrees.{threes_complete}
use Rattle.bench_world.proofs.law.finds_complete.Goals as goal

pub returns-clause-finds : goal.returns-clause-finds
returns-clause-finds c = finds_complete

pub returns-clause-tags : goal.returns-clause-tags
returns-clause-tags c = tags_complete

pub returns-clause-threes : goal.returns-clause-threes
returns-clause-threes c = threes_complete
