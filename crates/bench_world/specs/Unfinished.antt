-- What a command leaves of what tags hold that want of memory cut off, wherever it did.
use Rattle.std.specs.Prelude.{◌≡◌, ℕ, List, [], map, Err}
use Rattle.nfc_base.specs.declared.event.Event.{Event}
use Rattle.tag_writer.specs.Law.{Stopped, last_store}
use Rattle.bench_script.specs.declared.command.Command.{Command}
use Rattle.bench_script.specs.declared.command.Command.TheVariants.{Raw, Write, Write3}
use Rattle.bench_script.specs.declared.command.DeviceId.{DeviceId}
use Rattle.bench_script.specs.declared.message.Msg.{Msg}
use Rattle.bench_script.specs.DeviceIds.{bytes_of}
use Rattle.bench_script.specs.Messages.{message_of}
use Rattle.bench_devices.specs.Device.{stable_of}
use Rattle.bench_devices.specs.Keeping.{AllKeepBut, AllStayDevices, held_by, images_of}
use Rattle.bench_devices.specs.Placed.{device_with, IfPlaced}
use Rattle.bench_world.specs.Legal.{State}
use Rattle.t3t_access.specs.declared.fault.T3Fault.TheVariants as fault
use Rattle.bench_world.specs.Threes.{KeepsStores3}
use Rattle.bench_world.specs.Writing.{KeepsStores}

-- A write that was cut off. From the start of the command on the stores of its tag are the old one, then such that hold
-- the empty message and equal the old one outside the message's place, then the new one; any part may be empty. The
-- last of them is what the tag holds then. All else that stays of the tag does, and every other device keeps all.
pub record WriteUnfinished (s : State) (id : DeviceId) (message : Msg) (cut : List Event) (t : State) : Type 0 where
  pub passes : IfPlaced (λ d. KeepsStores (message_of message) d Stopped s.world.field cut) (Unit {0})
      (device_with (bytes_of id) s.world.field.listeners)
  pub holds : held_by (device_with (bytes_of id) t.world.field.listeners)
      ≡ last_store [] (images_of (bytes_of id) s.world.field cut)
  pub others : AllKeepBut (bytes_of id) s.world.field.listeners t.world.field.listeners

-- Likewise of a Type 3 tag, whose stores are the old one, then such that say that a write is under way, then such that
-- hold the message.
pub record Write3Unfinished (s : State) (id : List ℕ) (message : Msg) (cut : List Event) (t : State) : Type 0 where
  pub passes : IfPlaced (λ d. KeepsStores3 (message_of message) d (Err fault.Memory) s.world.field cut) (Unit {0})
      (device_with id s.world.field.listeners)
  pub holds : held_by (device_with id t.world.field.listeners) ≡ last_store [] (images_of id s.world.field cut)
  pub others : AllKeepBut id s.world.field.listeners t.world.field.listeners

-- From this state a command was cut off, behind these events, and left that one. A write that was cut off is said
-- above. Frames that are sent as they are may have changed each store, which is one of its kind still. Any other
-- changes no store, no locked block, and not how much more time a device asks for; nor does it place a device or take
-- one away.
abbrev pub Unfinished : State → Command → List Event → State → Type 0
Unfinished s (Write id message) cut t = WriteUnfinished s id message cut t
Unfinished s (Write3 id message) cut t = Write3Unfinished s id message cut t
Unfinished s (Raw id frames) cut t = AllStayDevices s.world.field.listeners t.world.field.listeners
Unfinished s c cut t = map stable_of t.world.field.listeners ≡ map stable_of s.world.field.listeners
