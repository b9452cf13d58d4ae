use Rattle.bench_devices.proofs.kinds.AnyFrame as any
use Rattle.bench_devices.proofs.kinds.EveryFrame as laws
use Rattle.bench_devices.proofs.kinds.Tidy.{events_tidy}
use Rattle.bench_devices.proofs.law.devices_stay.Goals as goal

pub returns-clause-stay : goal.returns-clause-stay
returns-clause-stay c = laws.devices_stay

pub returns-clause-images : goal.returns-clause-images
returns-clause-images c = laws.images_stay

pub returns-clause-aside : goal.returns-clause-aside
returns-clause-aside c = laws.aside_keeps

pub returns-clause-others : goal.returns-clause-others
returns-clause-others c = λ own t w es named beside asked. laws.others_keep own t named w es beside asked

pub returns-clause-tidy : goal.returns-clause-tidy
returns-clause-tidy c = λ w es. events_tidy es w

pub returns-clause-peers : goal.returns-clause-peers
returns-clause-peers c = any.peers_stay
