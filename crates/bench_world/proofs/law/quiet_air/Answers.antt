use Rattle.bench_world.proofs.calm.CompleteForging.{quiet_forgings}
use Rattle.bench_world.proofs.calm.CompleteRaws.{quiet_raws}
use Rattle.bench_world.proofs.calm.Quiet as quiet
use Rattle.bench_world.proofs.calm.QuietHearing as hearing
use Rattle.bench_world.proofs.calm.QuietLinks as links
use Rattle.bench_world.proofs.calm.CompleteLinkings.{quiet_linkings}
use Rattle.bench_world.proofs.calm.QuietWritten.{quiet_is_written}
use Rattle.bench_world.proofs.calm.ThreesComplete.{quiet_is_read_three, quiet_threes_read, quiet_threes_write, quiet_threes_written}
use Rattle.bench_world.proofs.law.quiet_air.Goals as goal

pub returns-clause-stays : goal.returns-clause-stays
returns-clause-stays c = quiet.quiet_stays

pub returns-clause-reads : goal.returns-clause-reads
returns-clause-reads c = quiet.quiet_reads

pub returns-clause-finds : goal.returns-clause-finds
returns-clause-finds c = quiet.quiet_finds

pub returns-clause-tags : goal.returns-clause-tags
returns-clause-tags c = quiet.quiet_tags

pub returns-clause-hears : goal.returns-clause-hears
returns-clause-hears c = hearing.quiet_hears

pub returns-clause-script : goal.returns-clause-script
returns-clause-script c = hearing.quiet_script

pub returns-clause-writes : goal.returns-clause-writes
returns-clause-writes c = quiet.quiet_writes

pub returns-clause-written : goal.returns-clause-written
returns-clause-written c = quiet_is_written

pub returns-clause-talks : goal.returns-clause-talks
returns-clause-talks c = links.quiet_talks

pub returns-clause-linkings : goal.returns-clause-linkings
returns-clause-linkings c = quiet_linkings

pub returns-clause-forgings : goal.returns-clause-forgings
returns-clause-forgings c = quiet_forgings

pub returns-clause-threes : goal.returns-clause-threes
returns-clause-threes c = quiet.quiet_threes

pub returns-clause-reads3 : goal.returns-clause-reads3
returns-clause-reads3 c = quiet_threes_read

pub returns-clause-writes3 : goal.returns-clause-writes3
returns-clause-writes3 c = quiet_threes_write

pub returns-clause-written3 : goal.returns-clause-written3
returns-clause-written3 c = quiet_threes_written

pub returns-clause-behind3 : goal.returns-clause-behind3
returns-clause-behind3 c = quiet_is_read_three

pub returns-clause-raws : goal.returns-clause-raws
returns-clause-raws c = quiet_raws
