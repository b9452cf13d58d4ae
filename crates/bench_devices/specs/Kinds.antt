-- What a device is, which isn't what a reader sees it to be: a search tells of some kinds alone.
use Rattle.bench_devices.specs.declared.polling.SeenKind.{SeenKind}
use Rattle.bench_devices.specs.declared.polling.SeenKind.TheVariants as seen

-- a tag of one of these types, or a peer
pub data DeviceKind : Type 0 where
  T2Kind : DeviceKind
  T3Kind : DeviceKind
  T4Kind : DeviceKind
  PeerKind : DeviceKind
  T5Kind : DeviceKind

-- What a reader sees that a device of this kind is, which says nothing of a Type 3 tag: no search finds one.
abbrev pub seen_by : DeviceKind → SeenKind
seen_by T2Kind = seen.T2
seen_by T3Kind = seen.T5
seen_by T4Kind = seen.T4
seen_by PeerKind = seen.Peer
seen_by T5Kind = seen.T5

-- one thing of a device that a read and a write are of, another of one that they aren't
abbrev pub IfRead : DeviceKind → Type 0 → Type 0 → Type 0
IfRead T2Kind P Q = P
IfRead T3Kind P Q = Q
IfRead T4Kind P Q = P
IfRead PeerKind P Q = Q
IfRead T5Kind P Q = P
