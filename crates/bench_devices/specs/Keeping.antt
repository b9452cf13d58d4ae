-- What stays of a device: what no frame and no light ever changes of it, and its store, which a write may change.
use Rattle.std.specs.Prelude.{◌≡◌, ℕ, List, [], ◌∷◌, ◌++◌, map, length, slice_index, ◌<◌, ◌≤◌, Bool, Option, Some, None}
use Rattle.std.specs.List.{AllByRecursion}
use Rattle.nfc_base.specs.declared.event.Event.{Event}
use Rattle.nfc_base.specs.declared.event.Event.TheVariants.{Reset, Request, Answer, Clash}
use Rattle.nfc_base.specs.Signal.{Signal}
use Rattle.nfc_base.specs.declared.frame.Tech.{Tech}
use Rattle.nfc_base.specs.TagLinks.{MayAsk, IsNamedIn}
use Rattle.air_core.specs.World.{stepped_by}
use Rattle.air_core.specs.Conversation.{replay}
use Rattle.air_core.specs.PlainTags.{plain_kind, IsAside}
use Rattle.air_core.specs.declared.listener.Listener.{Ghosts}
use Rattle.nfca_poll.specs.Ident.{IsIdent}
use Rattle.t2t_tag.specs.Store.{IsT2Store}
use Rattle.t4t_tag.specs.Store.{IsT4Store}
use Rattle.t3t_tag.specs.Store as t3
use Rattle.t5t_tag.specs.Store.{IsT5Store, id_size}
use Rattle.tag_reader.specs.declared.how.How.{How}
use Rattle.tag_reader.specs.declared.how.How.TheVariants as hows
use Rattle.isodep_link.specs.Card.{CardState}
use Rattle.isodep_link.specs.Exchange.{IsMade}
use Rattle.bench_devices.specs.declared.device.Device.{Device}
use Rattle.bench_devices.specs.declared.device.Device.TheVariants as placed
use Rattle.dep_link.specs.Target.{TargetState}
use Rattle.bench_devices.specs.Kinds.{DeviceKind, T2Kind, T3Kind, T4Kind, PeerKind, T5Kind}
use Rattle.bench_devices.specs.Peers.{IsMadePeer}
use Rattle.bench_devices.specs.Device.{BenchWorld, air, devices, most_devices, device_id, device_store, device_locks}
use Rattle.bench_devices.specs.Device.{device_made, device_target, device_ready, device_selected, device_commands}
use Rattle.bench_devices.specs.Device.{how_of, size_of, kind_of}
use Rattle.bench_devices.specs.Placed.{device_with, IfPlaced}

-- the meanings of the bench's devices as listeners
abbrev pub ghosts : Ghosts Device
ghosts = record {
  machine = devices;
  identifier = device_id;
  store = device_store;
  is_ready = device_ready;
  is_selected = device_selected;
  commands = device_commands;
}

-- What no frame and no light changes of a device, whatever was sent; of a Type 4 tag also its code, its container, and
-- its card's end as it was made, and of a peer its end of NFC-DEP as it was made.
pub record Fixed : Type 0 where
  pub id : List ℕ
  pub kind : DeviceKind
  pub how : How
  pub size : ℕ
  pub locked : List Bool
  pub code : ℕ
  pub container : List ℕ
  pub made : CardState
  pub target : TargetState

abbrev pub code_of : Device → ℕ
code_of (placed.T2 d) = 0
code_of (placed.T4 d) = d.upper.tag.code
code_of (placed.Peer d) = 0
code_of (placed.T5 p) = 0
code_of (placed.T3 p) = 0

abbrev pub container_of : Device → List ℕ
container_of (placed.T2 d) = []
container_of (placed.T4 d) = d.upper.tag.container
container_of (placed.Peer d) = []
container_of (placed.T5 p) = []
container_of (placed.T3 p) = []

abbrev pub fixed : Device → Fixed
fixed d = record {
  id = device_id d;
  kind = kind_of d;
  how = how_of d;
  size = size_of d;
  locked = device_locks d;
  code = code_of d;
  container = container_of d;
  made = device_made d;
  target = device_target d;
}

-- what stays of a device through a read, whatever state it is in
pub record Kept : Type 0 where
  pub fixed : Fixed
  pub store : List ℕ

abbrev pub kept : Device → Kept
kept d = record { fixed = fixed d; store = device_store d }

-- A device as it may stand in the field: its store is one of its kind, and a peer has none. Of a Type 3 tag that is
-- whole blocks: what an Update made of its attribute block may be none that a new tag has.
abbrev pub IsSoundAs : DeviceKind → Kept → Type 0
IsSoundAs T2Kind k = IsIdent k.fixed.id × (k.fixed.size ≡ 16) × IsT2Store k.store
IsSoundAs T4Kind k =
    IsIdent k.fixed.id × (file : List ℕ) × (k.store ≡ k.fixed.container ++ file)
    × IsT4Store k.fixed.code k.fixed.container file
    × (k.fixed.made.code ≡ k.fixed.code) × IsMade k.fixed.made
IsSoundAs PeerKind k = IsIdent k.fixed.id × (k.store ≡ []) × IsMadePeer k.fixed.id k.fixed.target
IsSoundAs T5Kind k = (k.fixed.how ≡ hows.T5 k.fixed.id) × (length k.fixed.id ≡ id_size)
    × ((i : ℕ) → slice_index k.fixed.id i < 256) × IsT5Store k.fixed.size k.store
IsSoundAs T3Kind k = (length k.fixed.id ≡ t3.id_size) × ((i : ℕ) → slice_index k.fixed.id i < 256) × t3.IsBlocks k.store

abbrev pub IsSound : Kept → Type 0
IsSound k = IsSoundAs k.fixed.kind k

-- another device beside this one: of another identifier
abbrev pub IsApart : Kept → Kept → Type 0
IsApart k l = l.fixed.id ≡ k.fixed.id → ⊥

-- Devices as they may stand in the field: each may be placed, with an identifier of its own, and there are few.
abbrev pub AreSound : List Kept → Type 0
AreSound [] = Unit {0}
AreSound (k ∷ ks) = IsSound k × AllByRecursion (IsApart k) ks × AreSound ks

pub record AreTame (ks : List Kept) : Type 0 where
  pub sound : AreSound ks
  pub few : length ks ≤ most_devices

-- What frames may do to a device, whatever they are: what is fixed of it stays, and its store is as long, and one of
-- its kind still.
pub record StaysDevice (old new : Device) : Type 0 where
  pub fixed : fixed new ≡ fixed old
  pub long : length (device_store new) ≡ length (device_store old)
  pub sound : IsSound (kept old) → IsSound (kept new)

-- so each of some devices did
abbrev pub AllStayDevices : List Device → List Device → Type 0
AllStayDevices [] [] = Unit {0}
AllStayDevices (d ∷ ds) (e ∷ es) = StaysDevice d e × AllStayDevices ds es
AllStayDevices [] (e ∷ es) = ⊥
AllStayDevices (d ∷ ds) [] = ⊥

-- What a command may change of what stays: nothing; or the store of the device with an identifier.
pub data Changes : Type 0 where
  NoStore : Changes
  StoreOf : List ℕ → Changes

-- A device that a command may write kept all but its store; every other one, by its identifier, kept all.
pub record KeepsBut (id : List ℕ) (old new : Device) : Type 0 where
  pub stays : StaysDevice old new
  pub other : (device_id old ≡ id → ⊥) → kept new ≡ kept old

abbrev pub AllKeepBut : List ℕ → List Device → List Device → Type 0
AllKeepBut id [] [] = Unit {0}
AllKeepBut id (d ∷ ds) (e ∷ es) = KeepsBut id d e × AllKeepBut id ds es
AllKeepBut id [] (e ∷ es) = ⊥
AllKeepBut id (d ∷ ds) [] = ⊥

-- The images of a store: what the device with an identifier holds at first, and after each event.
abbrev pub held_by : Option Device → List ℕ
held_by None = []
held_by (Some d) = device_store d

abbrev pub images_of : List ℕ → BenchWorld → List Event → List (List ℕ)
images_of id w [] = held_by (device_with id w.listeners) ∷ []
images_of id w (e ∷ es) = held_by (device_with id w.listeners) ∷ images_of id (air.happens w e) es

-- a store that this device may have
abbrev pub IsStoreOf : Device → List ℕ → Type 0
IsStoreOf d store = IsSound (record { fixed = fixed d; store = store })

-- each image is a store that the device may have
abbrev pub AreImages : List ℕ → BenchWorld → List Event → Type 0
AreImages id w es = IfPlaced (λ d. AllByRecursion (IsStoreOf d) (images_of id w es)) (Unit {0})
    (device_with id w.listeners)

-- What some events left of what stays, by what may have changed.
abbrev pub LeavesDevices : Changes → BenchWorld → List Event → BenchWorld → Type 0
LeavesDevices NoStore old es new = map kept new.listeners ≡ map kept old.listeners
LeavesDevices (StoreOf id) old es new = AllKeepBut id old.listeners new.listeners × AreImages id old es

-- something holds of each request of some events
abbrev pub EachAsked : (Signal → Type 0) → List Event → Type 0
EachAsked P [] = Unit {0}
EachAsked P (Reset ∷ es) = EachAsked P es
EachAsked P (Request f x ∷ es) = P f × EachAsked P es
EachAsked P (Answer g x ∷ es) = EachAsked P es
EachAsked P (Clash g x ∷ es) = EachAsked P es

-- Whatever is sent: what is fixed of each device stays, ...
abbrev pub DevicesStay : Type 0
DevicesStay = (w : BenchWorld) (es : List Event) → AllStayDevices w.listeners (replay air w es).listeners

-- ... each image of each store is one of its device's kind, ...
abbrev pub ImagesStay : Type 0
ImagesStay = (w : BenchWorld) (es : List Event) (id : List ℕ) → AreSound (map kept w.listeners) → AreImages id w es

-- ... and a device that is aside keeps its store too, at each frame that another one may be asked.
abbrev pub AsideKeeps : Type 0
AsideKeeps =
    (own : List ℕ) (t : Tech) (f : Signal) (d : Device) → MayAsk (plain_kind t) own f → IsNamedIn t own
    → IsAside ghosts own d
    → kept (stepped_by devices d f None) ≡ kept d

-- So all that a device is asked leaves the others all that stays of them, whatever it does to its store.
abbrev pub IsAsideOf : List ℕ → Device → Type 0
IsAsideOf own d = (device_id d ≡ own → ⊥) → IsAside ghosts own d

abbrev pub OthersKeep : Type 0
OthersKeep =
    (own : List ℕ) (t : Tech) (w : BenchWorld) (es : List Event) → IsNamedIn t own
    → AllByRecursion (IsAsideOf own) w.listeners
    → EachAsked (MayAsk (plain_kind t) own) es → AllKeepBut own w.listeners (replay air w es).listeners
