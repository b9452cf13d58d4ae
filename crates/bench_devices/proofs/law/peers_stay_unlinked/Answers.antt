use Rattle.bench_devices.proofs.kinds.AnyFrame as any
use Rattle.bench_devices.proofs.turns.CalmDues as laws
use Rattle.bench_devices.proofs.turns.CalmThrees as threes
use Rattle.bench_devices.proofs.kinds.PeerLinks as links
use Rattle.bench_devices.proofs.law.peers_stay_unlinked.Goals as goal

pub returns-clause-links : goal.returns-clause-links
returns-clause-links c = links.devices_link

pub returns-clause-find : goal.returns-clause-find
returns-clause-find c = laws.calm_finding

pub returns-clause-crowd : goal.returns-clause-crowd
returns-clause-crowd c = laws.calm_crowding

pub returns-clause-select : goal.returns-clause-select
returns-clause-select c = laws.calm_selecting

pub returns-clause-read : goal.returns-clause-read
returns-clause-read c = laws.calm_reading

pub returns-clause-write : goal.returns-clause-write
returns-clause-write c = laws.calm_writing

pub returns-clause-none : goal.returns-clause-none
returns-clause-none c = laws.calm_unasked

pub returns-clause-sense : goal.returns-clause-sense
returns-clause-sense c = threes.calm_sensing

pub returns-clause-read_three : goal.returns-clause-read_three
returns-clause-read_three c = threes.calm_reading_three

pub returns-clause-write_three : goal.returns-clause-write_three
returns-clause-write_three c = threes.calm_writing_three

pub returns-clause-no_three : goal.returns-clause-no_three
returns-clause-no_three c = threes.calm_unasked_three

pub returns-clause-tags : goal.returns-clause-tags
returns-clause-tags c = any.tags_hand_nothing

pub returns-clause-one : goal.returns-clause-one
returns-clause-one c = any.one_peer_hands
