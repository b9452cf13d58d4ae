use Rattle.std.proofs.Common.{◌≡◌, length, sym, ◌∙◌, ap, subst}
use Rattle.air_core.specs.Turn.{Air}
use Rattle.bench_devices.specs.declared.device.Device.{Device}
use Rattle.bench_devices.specs.private.Linking.{seen_plain}
use Rattle.device_tests.specs.Threes.{HasThree}
use Rattle.device_tests.proofs.Threes.{has_three, three_ready, of_three}
use Rattle.device_tests.proofs.type_3_tests.write_and_read.Goals as goal

pub on-link-requires : goal.on-link-requires
on-link-requires c = record { tag = has_three c.args.field.now c.requires }

pub write3-requires-clause-ready : goal.write3-requires-clause-ready
write3-requires-clause-ready c over =
    three_ready (seen_plain c.on-link.result) (subst HasThree (sym c.on-link.ensures.field) c.requires) c.on-link.ensures.fresh.0
    (c.on-link.ensures.fresh.1 ∙ ap (λ (a : Air Device). length a.trace) (sym c.on-link.ensures.field))

pub write3-requires-clause-of : goal.write3-requires-clause-of
write3-requires-clause-of c = of_three (seen_plain c.on-link.result) (subst HasThree (sym c.on-link.ensures.field) c.requires) c.on-link.ensures.fresh.0
