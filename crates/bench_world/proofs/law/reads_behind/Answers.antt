use Rattle.bench_world.proofs.calm.BrokenRead.{broken_is_read, first_broken_is_read}
use Rattle.bench_world.proofs.calm.ReadBehind.{written_is_read, one_of_three_is_read}
use Rattle.bench_world.proofs.calm.ThreesComplete.{one_of_two_three, undisturbed_is_read_three, written_is_read_three, written_is_whole_three}
use Rattle.bench_world.proofs.law.reads_behind.Goals as goal

pub returns-clause-written : goal.returns-clause-written
returns-clause-written c = written_is_read

pub returns-clause-three : goal.returns-clause-three
returns-clause-three c = one_of_three_is_read

pub returns-clause-broken : goal.returns-clause-broken
returns-clause-broken c = broken_is_read

pub returns-clause-first : goal.returns-clause-first
returns-clause-first c = first_broken_is_read

pub returns-clause-written3 : goal.returns-clause-written3
returns-clause-written3 c = written_is_read_three

pub returns-clause-whole3 : goal.returns-clause-whole3
returns-clause-whole3 c = written_is_whole_three

pub returns-clause-two3 : goal.returns-clause-two3
returns-clause-two3 c = one_of_two_three

pub returns-clause-told3 : goal.returns-clause-told3
returns-clause-told3 c = undisturbed_is_read_three
