-- The selected tag of a read, as a link sees it.
use Rattle.std.proofs.Common.{◌≡◌, ℕ, List, [], length, true, false, false, Some, None, refl, sym, ◌∙◌, ap, subst}
use Rattle.nfc_base.specs.declared.frame.Tech.TheVariants.{A}
use Rattle.nfc_base.specs.Signal.{Signal}
use Rattle.nfc_base.specs.TagLinks.{TagState, LinkView, plain_state, IsNamedIn}
use Rattle.air_core.specs.Turn.{Air, moment}
use Rattle.air_core.specs.PlainTags.{plain_kind, IsPlainTag, HasPlainTag, IsAlone}
use Rattle.air_core.specs.PlainLinks.{PlainSeen, at_place, plain_view}
use Rattle.air_core.proofs.PlainStores.{place_is}
use Rattle.t2t_tag.specs.Store.{IsT2Store}
use Rattle.t5t_tag.specs.Store.{IsT5Store}
use Rattle.tag_reader.specs.Kinds.{IsTag}
use Rattle.tag_reader.proofs.BlockLists.{blocks_asked}
use Rattle.tag_reader.proofs.SomeList.{some_list}
use Rattle.bench_devices.specs.declared.device.Device.{Device}
use Rattle.bench_devices.specs.declared.device.Device.TheVariants.{T2, T4, Peer, T5, T3}
use Rattle.bench_devices.specs.Device.{device_tech, device_id, device_store, device_commands, device_selected, how_of, size_of}
use Rattle.bench_devices.specs.private.Linking.{IsPlain}
use Rattle.bench_devices.specs.Keeping.{kept, IsSound, ghosts}
use Rattle.bench_devices.specs.Phases.{Stands}
use Rattle.bench_devices.specs.Reading.{AsksOf}
use Rattle.bench_devices.proofs.kinds.TagTwo.{plain_two}
use Rattle.bench_devices.proofs.kinds.TagFive.{plain_five}

-- nothing is read of what may not be
pub no_tag : false ≡ true → ⊥
no_tag e = cc

plain_device : (d : Device) → device_selected d ≡ true → IsPlain d → IsPlainTag ghosts (plain_kind (device_tech d)) (device_id d) d
plain_device (T2 d) s is = plain_two d s
plain_device (T4 d) s is = absurd is.0
plain_device (Peer d) s is = absurd (no_tag is.1)
plain_device (T5 p) s is = plain_five p
plain_device (T3 p) s is = absurd (no_tag is.1)

pub eight_bytes : (d : Device) → IsSound (kept d) → IsNamedIn (device_tech d) (device_id d)
eight_bytes (T2 d) is = tt
eight_bytes (T4 d) is = tt
eight_bytes (Peer d) is = tt
eight_bytes (T5 p) is = is.1
eight_bytes (T3 p) is = is.0

pub stands_alone : (a : Air Device) (place : ℕ) (d : Device) → Stands (moment a) place d → IsAlone ghosts (device_id d) a.listeners place d
stands_alone a place d s = record {
  before = s.before;
  behind = s.behind;
  split = ap (λ w. w.listeners) s.world;
  stands = s.at;
  first = s.first;
  later = s.later;
}

pub has_tag : (a : Air Device) (place : ℕ) (d : Device) → Stands (moment a) place d → IsPlain d → HasPlainTag ghosts a place
has_tag a place d s is = record {
  tag = d;
  selected = s.selected;
  alone = stands_alone a place d s;
  named = eight_bytes d s.sound;
  plain = plain_device d s.selected is;
}

-- a view that shows a device shows a tag of its kind
tag_by : (v : LinkView) (d : Device) → v.kind ≡ plain_kind (device_tech d) → v.identifier ≡ device_id d → v.step ≡ device_commands d
    → v.state ≡ plain_state (device_store d) → IsSound (kept d) → IsPlain d → IsTag (how_of d) (size_of d) v
tag_by v (T2 e) kind named step state is plain = record {
  kind = kind;
  named = tt;
  store = (refl, subst (λ (s : TagState). IsT2Store s.store) (sym state) is.2);
  steps = (e.upper.locked, λ s c h may. ap (λ st. st s c) step);
}
tag_by v (T4 e) kind named step state is plain = absurd plain.0
tag_by v (Peer e) kind named step state is plain = absurd (no_tag plain.1)
tag_by v (T3 p) kind named step state is plain = absurd (no_tag plain.1)
tag_by v (T5 p) kind named step state is plain = record {
  kind = kind;
  named = (named, is.1, is.2);
  store = subst (λ (s : TagState). IsT5Store p.tag.size s.store) (sym state) is.3;
  steps = (p.tag.locked, false, λ s c h may. ap (λ st. st s c) step);
}

-- each such device has a list of what a read asks of it
pub some_asked : (d : Device) → IsSound (kept d) → IsPlain d → (commands : List Signal) × AsksOf d commands
some_asked (T2 d) is plain = some_list (size_of (T2 d)) (device_store (T2 d)) (refl, is.2)
some_asked (T4 d) is plain = absurd plain.0
some_asked (Peer d) is plain = absurd (no_tag plain.1)
some_asked (T3 p) is plain = absurd (no_tag plain.1)
some_asked (T5 p) is plain = blocks_asked p.tag.id (size_of (T5 p)) (device_store (T5 p)) is.3

-- the link when it is made
abbrev pub begun : Air Device → ℕ → PlainSeen Device
begun a place = record { air = a; place = place; start = length a.trace; last = None; over = None }

module _ (a : Air Device) (place : ℕ) (d : Device) (s : Stands (moment a) place d) where
  pub seen : {B : Type 0} (f : Device → B) (o : B) → at_place f o a.listeners place ≡ f d
  seen f o = place_is ghosts f o (device_id d) a.listeners place d (stands_alone a place d s)

  pub shows_tag : IsPlain d → IsTag (how_of d) (size_of d) (plain_view ghosts (begun a place))
  shows_tag plain = tag_by (plain_view ghosts (begun a place)) d (ap plain_kind (seen device_tech A)) (seen device_id []) (seen device_commands _) (ap plain_state (seen device_store [])) s.sound plain

  pub shows_store : (plain_view ghosts (begun a place)).state.store ≡ device_store d
  shows_store = seen device_store []

  -- no other device stands there
  pub stands_one : (e : Device) → Stands (moment a) place e → e ≡ d
  stands_one e t =
      let there : at_place (λ x. Some x) None a.listeners place ≡ Some e = place_is ghosts (λ x. Some x) None (device_id e) a.listeners place e (stands_alone a place e t) in
      let same : Some e ≡ Some d = sym there ∙ seen (λ x. Some x) None in
      cc
