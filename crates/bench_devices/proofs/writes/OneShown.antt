-- Where all that a write asks was answered, it tells one thing.
use Rattle.std.proofs.Common.{◌≡◌, true, refl}
use Rattle.tag_reader.specs.Kinds.{IsStore}
use Rattle.tag_reader.proofs.Cards.{store_is}
use Rattle.bench_devices.specs.declared.device.Device.{Device}
use Rattle.bench_devices.specs.declared.device.Device.TheVariants.{T2, T4, Peer, T5, T3}
use Rattle.bench_devices.specs.Device.{device_store, how_of, size_of, may_be_read}
use Rattle.bench_devices.specs.Keeping.{kept, IsSound}
use Rattle.bench_devices.proofs.selected.CardLinks.{sound_tag}

-- a tag that may be placed has a store of its kind
pub kind_store : (d : Device) → may_be_read d ≡ true → IsSound (kept d) → IsStore (how_of d) (size_of d) (device_store d)
kind_store (T2 d) tag is = (refl, is.2)
kind_store (T4 d) tag is = store_is d.upper.tag (sound_tag d is)
kind_store (Peer d) tag is = absurd cc
kind_store (T5 p) tag is = is.3
kind_store (T3 p) tag is = absurd cc
