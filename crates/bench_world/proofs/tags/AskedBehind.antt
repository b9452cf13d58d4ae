-- A tag was selected, and behind that a command asked it something: what its answer tells, whatever the command is.
use Rattle.std.proofs.Common.{◌≡◌, ℕ, ◌+◌, ◌<◌, List, ◌++◌, Result, Ok, Err, ◌∙◌, ap, arith}
use Rattle.nfc_base.specs.Signal.{Signal}
use Rattle.nfc_base.specs.Trace.{noise}
use Rattle.nfc_base.specs.declared.tag_link.AskFault.{AskFault}
use Rattle.nfc_base.specs.declared.tag_link.AskFault.TheVariants as asking
use Rattle.air_core.specs.Turn.{Air, moment}
use Rattle.air_core.specs.Conversation.{receptions}
use Rattle.air_core.specs.laws.Turning.{receptions-append}
use Rattle.air_core.proofs.PlainTurns.{noise_append}
use Rattle.nfca_poll.specs.declared.fault.PollFault.{PollFault}
use Rattle.nfca_poll.specs.declared.fault.PollFault.TheVariants as faults
use Rattle.bench_script.specs.declared.command.DeviceId.{DeviceId}
use Rattle.bench_script.specs.DeviceIds.{bytes_of}
use Rattle.bench_devices.specs.declared.device.Device.{Device}
use Rattle.bench_devices.specs.declared.polling.SeenKind.{SeenKind}
use Rattle.bench_devices.specs.Device.{seen_of}
use Rattle.bench_devices.specs.CardAsking.{tag_next}
use Rattle.bench_devices.specs.Answering.{TellsBy}
use Rattle.bench_devices.specs.Polling.{selecting}
use Rattle.bench_devices.specs.Placed.{device_with, OfPlaced}
use Rattle.bench_devices.specs.Keeping.{Changes}
use Rattle.bench_devices.specs.Phases.{AsksTag, SelectsAt}
use Rattle.bench_world.specs.declared.entry.Answer.{Answer}
use Rattle.bench_world.specs.declared.entry.Answer.TheVariants as answers
use Rattle.bench_world.specs.Answering.{TagTells, TellsFault}
use Rattle.bench_world.proofs.tags.Telling.{tells_as}
use Rattle.bench_world.proofs.tags.Legality.{selecting_more, lost_behind}

-- what is told of the command, and how its answer tells it
module _ {X : Type 0} (what : Changes) (IsAll : List Signal → Type 0) (Shows : X → Type 0) (Fails : AskFault → X → Type 0) (Tells : Device → Answer → Type 0)
    (old mid new : Air Device) (id : DeviceId) (place : ℕ) (x : X) (answer : Answer) (s : SelectsAt id place (moment old) (moment mid))
    (r : AsksTag what IsAll (tag_next (seen_of s.device)) (TellsBy (seen_of s.device) Shows Fails) Fails (moment mid) (moment new) x)
    (says : Shows x → OfPlaced (λ d. Tells d answer) (device_with (bytes_of id) old.listeners)) (fails : (e : AskFault) → Fails e x → TellsFault e answer)
    (lost : answer ≡ answers.FieldLost → Fails asking.FieldLost x) (six : answer ≡ answers.SixBad → Fails asking.SixBad x) where
  -- what is known of both parts
  known_of_both : receptions (s.selects.asked.going.events ++ r.asked.going.events) ≡ s.selects.asked.notes ++ r.asked.notes
  known_of_both =
      receptions-append s.selects.asked.going.events r.asked.going.events r.asked.going.fresh ∙ ap (λ t. t ++ receptions r.asked.going.events) s.selects.asked.going.known
      ∙ ap (λ t. s.selects.asked.notes ++ t) r.asked.going.known

  pub tells_behind : TagTells Tells id old.listeners r.commands (s.selects.asked.going.events ++ r.asked.going.events) answer
  tells_behind = record {
    polled = Ok (seen_of s.device);
    behind = r.asked.notes;
    selected = ap (selecting id) known_of_both ∙ selecting_more id s.selects.asked.notes r.asked.notes (Ok (seen_of s.device)) s.selects.told;
    cause = tt;
    ends = tells_as Shows Fails (λ a. OfPlaced (λ d. Tells d a) (device_with (bytes_of id) old.listeners)) TellsFault x answer says fails (seen_of s.device) r.commands r.asked.notes r.ends;
    lost = lost_behind answer s.selects.asked.going.events r.asked.going.events
        (λ some. let is : ◌≡◌ {A = Result SeenKind PollFault} (Ok (seen_of s.device)) (Err faults.FieldLost) = s.selects.lost.1 some in cc)
        (λ is. r.lost.0 (lost is), λ some. fails asking.FieldLost (r.lost.1 some));
    noisy = λ is.
        let rest : 0 < noise r.asked.going.events = r.noisy (six is) in
        let sum : noise (s.selects.asked.going.events ++ r.asked.going.events) ≡ noise s.selects.asked.going.events + noise r.asked.going.events =
        noise_append s.selects.asked.going.events r.asked.going.events in
        omega (arith, sum, rest);
  }
