use Rattle.nfcv_poll.specs.Finding.{identifiers}
use Rattle.bench_devices.proofs.finding.CrowdFound.{crowd_cut, crowd_found}
use Rattle.bench_devices.proofs.crowding.sweep_tags.Goals as goal

pub returns-clause-tells : goal.returns-clause-tells
returns-clause-tells c fed =
    crowd_found c.args.field.now c.find_all_v.new.field (identifiers c.find_all_v.result) c.requires.idle.tame c.find_all_v.ensures.turns c.find_all_v.ensures.tags c.find_all_v.ensures.crowd
    c.find_all_v.ensures.ascending c.find_all_v.ensures.causes c.find_all_v.ensures.lost fed

pub returns-clause-cut : goal.returns-clause-cut
returns-clause-cut c starved =
    crowd_cut c.args.field.now c.find_all_v.new.field (identifiers c.find_all_v.result) c.requires.idle.tame c.find_all_v.ensures.turns c.find_all_v.ensures.tags c.find_all_v.ensures.crowd
    c.find_all_v.ensures.ascending c.find_all_v.ensures.causes c.find_all_v.ensures.lost
