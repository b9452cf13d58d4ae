use Rattle.std.proofs.Common.{rules}
use Rattle.bench_devices.proofs.selected.CardParts.{opened_at, opened_fresh, link_is}
use Rattle.bench_devices.proofs.reads.CardReading.{ends_linked, ends_unanswered, ends_cut, cut_unanswered}
use Rattle.bench_devices.proofs.reading.read_card.Goals as goal

pub read_linked-requires-clause-tag : goal.read_linked-requires-clause-tag
read_linked-requires-clause-tag c =
    (c.requires.0, link_is c.args.field.now c.args.place c.requires c.in-Ok.link (opened_at c.args.field.now c.args.place c.in-Ok.link c.in-Ok.ensures.turns) c.in-Ok.ensures.ok)

pub read_linked-requires-clause-fresh : goal.read_linked-requires-clause-fresh
read_linked-requires-clause-fresh c = opened_fresh c.args.field.now c.args.place c.in-Ok.link c.in-Ok.ensures.turns

pub returns-in-Ok-clause-tells : goal.returns-in-Ok-clause-tells
returns-in-Ok-clause-tells c =
    ends_linked c.args.field.now c.args.place c.requires c.in-Ok.link (opened_at c.args.field.now c.args.place c.in-Ok.link c.in-Ok.ensures.turns) c.in-Ok.ensures.ok
    c.read_linked.new.link.field.now _ (search rules) c.read_linked.result c.read_linked.ensures.tells

pub returns-in-Err-clause-tells : goal.returns-in-Err-clause-tells
returns-in-Err-clause-tells c =
    ends_unanswered c.args.field.now c.args.place c.requires c.activate.follows.lender-at-none c.activate.result c.in-Err.fault c.in-Err.is c.activate.follows.holds-at-none
    c.unanswered.result c.unanswered.ensures

pub returns-in-Ok-clause-cut : goal.returns-in-Ok-clause-cut
returns-in-Ok-clause-cut c =
    ends_cut c.args.field.now c.args.place c.requires c.in-Ok.link (opened_at c.args.field.now c.args.place c.in-Ok.link c.in-Ok.ensures.turns) c.in-Ok.ensures.ok
    c.read_linked.new.link.field.now _ (search rules) c.read_linked.result c.read_linked.ensures.cut

pub returns-in-Err-clause-cut : goal.returns-in-Err-clause-cut
returns-in-Err-clause-cut c =
    cut_unanswered c.args.field.now c.args.place c.requires c.activate.follows.lender-at-none c.activate.result c.in-Err.fault c.in-Err.is c.activate.follows.holds-at-none
    c.unanswered.result c.unanswered.ensures
