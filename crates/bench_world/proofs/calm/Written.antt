-- A message is written where its tag takes it and none of the blocks that are written for it is locked.
use Rattle.std.proofs.Common.{◌≡◌, List, ℕ, true, false, Some, Ok, refl}
use Rattle.nfc_base.specs.TagLinks.{plain_state}
use Rattle.tag_writer.specs.Locks.{StepsBy}
use Rattle.tag_writer.proofs.Locking.{free_is_done}
use Rattle.bench_script.specs.declared.command.DeviceId.{DeviceId}
use Rattle.bench_script.specs.declared.message.Msg.{Msg}
use Rattle.bench_script.specs.DeviceIds.{bytes_of}
use Rattle.bench_script.specs.Messages.{message_of}
use Rattle.bench_devices.specs.declared.device.Device.{Device}
use Rattle.bench_devices.specs.declared.device.Device.TheVariants.{T2, T4, Peer, T5, T3}
use Rattle.bench_devices.specs.Device.{device_store, device_locks, device_commands, how_of, size_of, may_be_read}
use Rattle.bench_devices.specs.Keeping.{kept, IsSound}
use Rattle.bench_devices.specs.Placed.{device_with}
use Rattle.bench_devices.specs.Writing.{ShowsWrite}
use Rattle.bench_devices.proofs.writes.OneShown.{kind_store}
use Rattle.bench_devices.proofs.kinds.TagOrPeer.{as_read}
use Rattle.bench_world.specs.declared.entry.Answer.TheVariants as answers
use Rattle.bench_world.specs.declared.entry.Entry.{Entry}
use Rattle.bench_world.specs.Completing.{MayBeWritten, ShownIsWritten, ValidIsWritten}
use Rattle.bench_world.specs.Journal.{LeadsTo, asking_lines}
use Rattle.bench_world.specs.Legal.{State, Joins, first_state}
use Rattle.bench_world.specs.Writing.{TellsWrite}
use Rattle.bench_world.proofs.calm.Complete.{writes_complete}
use Rattle.bench_world.proofs.devices.Placing.{with_sound}
use Rattle.bench_world.proofs.devices.Reached.{IsReady, first_ready, ready_behind}
use Rattle.bench_world.proofs.tags.WriteTelling.{one_written}

-- the step of a device by its locked blocks
steps_by : (d : Device) → may_be_read d ≡ true → IsSound (kept d) → StepsBy (how_of d) (size_of d) (device_locks d) (device_commands d)
steps_by (T2 d) tag sound = λ s c is may. refl
steps_by (T4 d) tag sound = (d.upper.tag.code, sound.3.coded, λ s c is may. refl)
steps_by (Peer d) tag sound = absurd cc
steps_by (T5 p) tag sound = ((refl, sound.1, sound.2), false, λ s c is may. refl)
steps_by (T3 p) tag sound = absurd cc

shows_written : (message : List ℕ) (d : Device) → IsSound (kept d) → MayBeWritten message d → ShowsWrite message d (Ok tt)
shows_written message d sound may =
    free_is_done (how_of d) (size_of d) (device_locks d) (device_commands d) (plain_state (device_store d)) message (steps_by d may.0 sound) (kind_store d may.0 sound) may.1

-- So a write that tells what it comes to tells that.
pub told_written : (s : State) (e : Entry) (id : DeviceId) (m : Msg) (d : Device) → IsReady s.world.field.listeners → device_with (bytes_of id) s.world.field.listeners ≡ Some d
    → TellsWrite (message_of m) d e.answer → MayBeWritten (message_of m) d → e.answer ≡ answers.Written
told_written s e id m d ready placed tells may =
    let sound : IsSound (kept d) = with_sound s.world.field.listeners (bytes_of id) d ready.tame.sound placed in
    one_written (message_of m) d e.answer answers.Written tells (as_read d may.0 _ _ (Ok tt, shows_written (message_of m) d sound may, refl))

pub reached : (lines : List (List ℕ)) (numbers : List Joins) (journal : List Entry) (s : State) → LeadsTo lines numbers journal s → IsReady s.world.field.listeners
reached lines numbers journal s leads = ready_behind (asking_lines 1 lines) first_state s leads.given journal first_ready leads.numbered leads.steps

pub shown_is_written : ShownIsWritten
shown_is_written s t g e id m d step is placed tag named calm shows =
    one_written (message_of m) d e.answer answers.Written (writes_complete s t g e id m d step is placed named calm) (as_read d tag _ _ (Ok tt, shows, refl))

pub valid_is_written : ValidIsWritten
valid_is_written lines numbers journal s t g e id m d leads step is placed named calm may =
    told_written s e id m d (reached lines numbers journal s leads) placed (writes_complete s t g e id m d step is placed named calm) may
