use Rattle.std.proofs.Common.{◌≡◌, true, refl, arith}
use Rattle.std.proofs.lemmas.Grind.{common_steps}
use Rattle.t3t_tag.specs.Store.{T3State}
use Rattle.bench_devices.specs.Powered.{Powered}
use Rattle.device_tests.proofs.type_3_tests.tag_field.Goals as goal

pub returns : goal.returns
returns c =
    let p : Powered T3State = record { tag = c.in_ok-tag.tag; lit = true } in
    record { powered = p; listeners = grind (arith, common_steps); lit = refl; named = c.in_ok-tag.ensures }
