-- The selected Type 3 tag of a read or a write, as a link sees it.
use Rattle.std.proofs.Common.{◌≡◌, ℕ, List, [], length, sym, ◌∙◌, ap, subst, arith}
use Rattle.nfc_base.specs.declared.frame.Tech.TheVariants.{A, F}
use Rattle.nfc_base.specs.TagLinks.{TagState, LinkView, plain_state, IsNamedIn}
use Rattle.air_core.specs.Turn.{Air, moment}
use Rattle.air_core.specs.PlainTags.{plain_kind, IsPlainTag, HasPlainTag}
use Rattle.air_core.specs.PlainLinks.{PlainSeen, IsPlainReady, plain_view}
use Rattle.t3t_tag.specs.Linked.{t3_step}
use Rattle.t3t_tag.specs.Store.{IsT3Store}
use Rattle.t3t_access.specs.Own.{IsTag3}
use Rattle.t3t_access.specs.Talk.{IsOf}
use Rattle.bench_devices.specs.declared.device.Device.{Device}
use Rattle.bench_devices.specs.declared.device.Device.TheVariants.{T2, T4, Peer, T5, T3}
use Rattle.bench_devices.specs.Device.{device_tech, device_id, device_store, device_locks, device_commands}
use Rattle.bench_devices.specs.Keeping.{kept, IsSound, ghosts}
use Rattle.bench_devices.specs.private.Linking.{IsNew}
use Rattle.bench_devices.specs.Phases.{Stands}
use Rattle.bench_devices.specs.Sensing.{IsThree}
use Rattle.bench_devices.proofs.selected.NewLinks.{new_is}
use Rattle.bench_devices.proofs.reads.ReadingTags.{begun, seen, stands_alone}
use Rattle.bench_devices.proofs.kinds.TagThree.{plain_three}

plain_if : (d : Device) → device_tech d ≡ F → IsPlainTag ghosts (plain_kind (device_tech d)) (device_id d) d
plain_if (T2 d) f = absurd cc
plain_if (T4 d) f = absurd cc
plain_if (Peer d) f = absurd cc
plain_if (T5 p) f = absurd cc
plain_if (T3 p) f = plain_three p

eight_if : (d : Device) → device_tech d ≡ F → IsSound (kept d) → IsNamedIn (device_tech d) (device_id d)
eight_if (T2 d) f s = absurd cc
eight_if (T4 d) f s = absurd cc
eight_if (Peer d) f s = absurd cc
eight_if (T5 p) f s = absurd cc
eight_if (T3 p) f s = s.0

-- a view that shows such a device shows a Type 3 tag
tag_by : (id : List ℕ) (v : LinkView) (d : Device) → IsThree id d → v.kind ≡ plain_kind (device_tech d) → v.identifier ≡ device_id d → v.step ≡ device_commands d
    → v.state ≡ plain_state (device_store d) → IsSound (kept d) → IsT3Store (device_store d) → IsTag3 id (device_locks d) v
tag_by id v (T2 e) three kind named step state is store = absurd (let k = three.0 in cc)
tag_by id v (T4 e) three kind named step state is store = absurd (let k = three.0 in cc)
tag_by id v (Peer e) three kind named step state is store = absurd (let k = three.0 in cc)
tag_by id v (T5 p) three kind named step state is store = absurd (let k = three.0 in cc)
tag_by id v (T3 p) three kind named step state is store = record {
  of = record { kind = kind; named = named ∙ three.1 };
  size = ap length (sym three.1) ∙ is.0;
  store = subst (λ (s : TagState). IsT3Store s.store) (sym state) store;
  steps = λ s c may. ap (λ st. st s c) step ∙ ap (λ i. t3_step i p.tag.locked s c) three.1;
}

-- a Type 3 tag of an identifier is one of its kind
pub three_kind : (d : Device) → device_tech d ≡ F → plain_kind (device_tech d) ≡ plain_kind F
three_kind d f = ap plain_kind f

module _ (a : Air Device) (place : ℕ) (id : List ℕ) (d : Device) (s : Stands (moment a) place d) (three : IsThree id d) where
  pub has_three_tag : HasPlainTag ghosts a place
  has_three_tag = record {
    tag = d;
    selected = s.selected;
    alone = stands_alone a place d s;
    named = eight_if d three.0 s.sound;
    plain = plain_if d three.0;
  }

  pub shows_of : IsOf id (plain_view ghosts (begun a place))
  shows_of = record { kind = ap plain_kind (seen a place d s device_tech A) ∙ three_kind d three.0; named = seen a place d s device_id [] ∙ three.1 }

  pub shows_three : IsT3Store (device_store d) → IsTag3 id (device_locks d) (plain_view ghosts (begun a place))
  shows_three store =
      tag_by id (plain_view ghosts (begun a place)) d three (ap plain_kind (seen a place d s device_tech A)) (seen a place d s device_id []) (seen a place d s device_commands _)
      (ap plain_state (seen a place d s device_store [])) s.sound store

-- the link as it is made
module _ (p : PlainSeen Device) (is : IsNew p) (id : List ℕ) (one : (d : Device) × Stands (moment p.air) p.place d × IsThree id d) where
  pub new_three_ready : IsPlainReady ghosts p
  new_three_ready = record { start = omega (arith, is.start); tag = has_three_tag p.air p.place id one.0 one.1 one.2 }

  pub new_three_of : IsOf id (plain_view ghosts p)
  new_three_of = subst (λ x. IsOf id (plain_view ghosts x)) (new_is p is) (shows_of p.air p.place id one.0 one.1 one.2)
