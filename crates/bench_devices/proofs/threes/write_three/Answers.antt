use Rattle.std.proofs.Common.{rules}
use Rattle.air_core.specs.Turn.{moment}
use Rattle.bench_devices.specs.Threes.{WritesThreeAt, CutThreeWriteAt}
use Rattle.bench_devices.proofs.selected.NewLinks.{given_back}
use Rattle.bench_devices.proofs.type3.ThreeTags.{has_three_tag}
use Rattle.bench_devices.proofs.threes.write_three.Goals as goal

pub on-link-requires : goal.on-link-requires
on-link-requires c = record { tag = has_three_tag c.args.field.now c.args.place c.args.id c.requires.0 c.requires.1 c.requires.2 }

pub returns-clause-tells : goal.returns-clause-tells
returns-clause-tells c =
    given_back (λ a b n. WritesThreeAt c.args.id (moment a) (moment b) n c.args.message.now c.write_behind.result) c.on-link.result.field.now c.write_behind.new.link.field.now c.args.field.now
    _ c.on-link.result.place c.args.place
    (search rules) (search rules) (search rules) c.write_behind.ensures.tells

pub returns-clause-cut : goal.returns-clause-cut
returns-clause-cut c =
    given_back (λ a b n. CutThreeWriteAt c.args.id (moment a) (moment b) n c.args.message.now c.write_behind.result) c.on-link.result.field.now c.write_behind.new.link.field.now c.args.field.now
    _ c.on-link.result.place c.args.place
    (search rules) (search rules) (search rules) c.write_behind.ensures.cut
