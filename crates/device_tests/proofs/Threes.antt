-- The link to a Type 3 tag that is alone in a lit field.
use Rattle.std.proofs.Common.{◌≡◌, [], refl, sym, ◌∙◌, ap, subst, length, arith}
use Rattle.nfc_base.specs.declared.frame.Tech.TheVariants.{A}
use Rattle.air_core.specs.Turn.{Air}
use Rattle.air_core.specs.PlainTags.{plain_kind, HasPlainTag}
use Rattle.air_core.specs.PlainLinks.{PlainSeen, IsPlainReady, at_place, plain_view}
use Rattle.t3t_access.specs.Talk.{IsOf}
use Rattle.bench_devices.specs.declared.device.Device.{Device}
use Rattle.bench_devices.specs.declared.device.Device.TheVariants.{T3}
use Rattle.bench_devices.specs.Device.{device_tech, device_id}
use Rattle.bench_devices.specs.Keeping.{ghosts}
use Rattle.bench_devices.proofs.kinds.TagThree.{plain_three}
use Rattle.device_tests.specs.Threes.{own_id, HasThree}

pub has_three : (a : Air Device) → HasThree a → HasPlainTag ghosts a 0
has_three a h = record {
  tag = T3 h.powered;
  selected = h.lit;
  alone = record { before = []; behind = []; split = h.listeners; stands = refl; first = tt; later = tt };
  named = ap length h.named;
  plain = plain_three h.powered;
}

pub three_ready : (p : PlainSeen Device) → HasThree p.air → p.place ≡ 0 → p.start ≡ length p.air.trace → IsPlainReady ghosts p
three_ready p h at start = record { start = omega (arith, start); tag = subst (HasPlainTag ghosts p.air) (sym at) (has_three p.air h) }

pub of_three : (p : PlainSeen Device) → HasThree p.air → p.place ≡ 0 → IsOf own_id (plain_view ghosts p)
of_three p h at = record {
  kind = ap (λ n. plain_kind (at_place device_tech A p.air.listeners n)) at ∙ ap (λ ls. plain_kind (at_place device_tech A ls 0)) h.listeners;
  named = ap (λ n. at_place device_id [] p.air.listeners n) at ∙ ap (λ ls. at_place device_id [] ls 0) h.listeners ∙ h.named;
}
