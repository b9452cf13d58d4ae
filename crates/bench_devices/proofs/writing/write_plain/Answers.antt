use Rattle.std.proofs.Common.{rules, subst}
use Rattle.air_core.specs.Turn.{moment}
use Rattle.bench_devices.specs.private.Linking.{IsPlainHow}
use Rattle.bench_devices.specs.Phases.{WritesAt, CutAtWrite}
use Rattle.bench_devices.proofs.selected.NewLinks.{given_back}
use Rattle.bench_devices.proofs.reads.ReadingTags.{has_tag}
use Rattle.bench_devices.proofs.writing.write_plain.Goals as goal

pub on-link-requires : goal.on-link-requires
on-link-requires c =
    record { tag = has_tag c.args.field.now c.args.place c.requires.0 c.requires.1 (subst IsPlainHow c.requires.2 c.requires.3, c.requires.4) }

pub returns-clause-tells : goal.returns-clause-tells
returns-clause-tells c =
    given_back (λ a b n. WritesAt (moment a) (moment b) n c.args.message.now c.write_by.result) c.on-link.result.field.now c.write_by.new.link.field.now c.args.field.now _ c.on-link.result.place
    c.args.place
    (search rules) (search rules) (search rules) c.write_by.ensures.tells

pub returns-clause-cut : goal.returns-clause-cut
returns-clause-cut c =
    given_back (λ a b n. CutAtWrite (moment a) (moment b) n c.args.message.now c.write_by.result) c.on-link.result.field.now c.write_by.new.link.field.now c.args.field.now _ c.on-link.result.place
    c.args.place
    (search rules) (search rules) (search rules) c.write_by.ensures.cut
