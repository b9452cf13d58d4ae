-- What is answered where a link is opened, and the link that is open then (NFCIP-1, ISO/IEC 18092; NFC Forum LLCP 1.3;
-- that a link has a number is this project's own).
use Rattle.std.specs.Prelude.{◌≡◌, ◌↔◌, ◌⊎◌, ℕ, ◌<◌, List, [], ◌∷◌, Option, Some, None, Result, Ok, Err}
use Rattle.std.specs.List.{AllByRecursion}
use Rattle.nfc_base.specs.Trace.{noise, breaks}
use Rattle.nfc_base.specs.declared.event.Event.{Event}
use Rattle.nfc_base.specs.declared.tag_link.AskFault.{AskFault}
use Rattle.nfc_base.specs.declared.tag_link.AskFault.TheVariants as asking
use Rattle.air_core.specs.Conversation.{Note, receptions}
use Rattle.air_core.specs.Waits.{stand}
use Rattle.nfca_poll.specs.declared.fault.PollFault.{PollFault}
use Rattle.dep_link.specs.Activating.{atr_frame}
use Rattle.dep_link.specs.Initiator.{waiting}
use Rattle.dep_link.specs.Target.{TargetState}
use Rattle.llcp_pdu.specs.declared.general.LinkParams.{LinkParams}
use Rattle.llcp_pdu.specs.General.{general_bytes}
use Rattle.llcp_link.specs.State.{fresh_end, restarted}
use Rattle.snep_core.specs.Slots.{fresh_slots}
use Rattle.snep_core.specs.declared.silent.NoService.{NoService}
use Rattle.snep_core.specs.Talk.{EndState, silent}
use Rattle.bench_script.specs.declared.command.DeviceId.{DeviceId}
use Rattle.bench_devices.specs.declared.device.Device.{Device}
use Rattle.bench_devices.specs.declared.polling.SeenKind.{SeenKind}
use Rattle.bench_devices.specs.declared.polling.SeenKind.TheVariants as seen
use Rattle.bench_devices.specs.Answering.{HasPollCause, TellsStanding}
use Rattle.bench_devices.specs.Device.{device_target}
use Rattle.bench_devices.specs.Hearing.{IsAnswered}
use Rattle.bench_devices.specs.Polling.{Told, selecting}
use Rattle.bench_world.specs.declared.entry.Answer.{Answer}
use Rattle.bench_world.specs.declared.entry.Answer.TheVariants as answers
use Rattle.bench_world.specs.declared.entry.Loss.TheVariants as losses
use Rattle.bench_world.specs.Answering.{poll_answer}
use Rattle.bench_world.specs.Links.{OpenLink}

-- what an initiator says of its end of a link: LLCP 1.3, its MIU, and the services of link management and discovery
abbrev pub own_params : ℕ → LinkParams
own_params miu = record { version = 0x13; miu = miu; wks = 0x0003 }

abbrev pub own_general : ℕ → List ℕ
own_general miu = general_bytes (own_params miu)

-- the one value of a service with nothing to send
abbrev pub no_service : NoService
no_service = record {}

-- its end of a link, to which these general bytes were said
abbrev pub new_client : ℕ → ℕ → List ℕ → EndState
new_client miu window told = restarted silent (fresh_end miu window no_service) told

-- The link that ATR_REQ opens to a peer: an initiator that cuts to its LR code, and an end of this MIU and receive
-- window that begins a link with its general bytes.
abbrev pub link_to : ℕ → TargetState → ℕ → ℕ → OpenLink
link_to peer t miu window = record {
  peer = peer;
  initiator = waiting t.lr;
  client = new_client miu window t.general;
  slots = fresh_slots;
}

abbrev pub link_if : Option ℕ → Option Device → ℕ → ℕ → Option OpenLink
link_if (Some peer) (Some d) miu window = Some (link_to peer (device_target d) miu window)
link_if (Some peer) None miu window = None
link_if None d miu window = None

-- the answer that tells how a wait of ATR_REQ ended by a fault
abbrev pub TellsLoss : AskFault → Answer → Type 0
TellsLoss asking.FieldLost answer = answer ≡ answers.LinkEnded losses.FieldLost
TellsLoss asking.SixBad answer = answer ≡ answers.LinkEnded losses.SixBad
TellsLoss asking.Memory answer = ⊥
TellsLoss asking.Protocol answer = ⊥

-- What is answered once a device is selected: a tag has no link as peers do. To a peer that answered ATR_REQ a link is
-- open, under this number.
abbrev pub LinkEnds : ℕ → List ℕ → Result SeenKind PollFault → List Note → Answer → Type 0
LinkEnds n general (Ok seen.Peer) behind answer = TellsStanding (λ a. a ≡ answers.Linked n) TellsLoss
    (stand 0 (atr_frame general ∷ []) behind) answer
LinkEnds n general (Ok seen.T2) behind answer = answer ≡ answers.WrongKind
LinkEnds n general (Ok seen.T4) behind answer = answer ≡ answers.WrongKind
LinkEnds n general (Ok seen.T5) behind answer = answer ≡ answers.WrongKind
LinkEnds n general (Err e) behind answer = poll_answer e ≡ Some answer

-- the field was lost, while a device was selected or behind that
abbrev pub IsFieldLost : Answer → Type 0
IsFieldLost answer = (answer ≡ answers.FieldLost) ⊎ (answer ≡ answers.LinkEnded losses.FieldLost)

-- The law of the answer, over the devices that are placed: first a device is selected, then it is asked for a link. The
-- field is lost exactly where a Break was used, and without noise no wait has six bad receptions: each note behind the
-- selection is a whole answer.
pub record LinkTells (id : DeviceId) (ds : List Device) (n : ℕ) (general : List ℕ) (events : List Event)
    (answer : Answer) : Type 0 where
  pub polled : Result SeenKind PollFault
  pub behind : List Note
  pub selected : selecting id (receptions events) ≡ Told polled behind
  pub cause : HasPollCause id ds polled events
  pub ends : LinkEnds n general polled behind answer
  pub lost : IsFieldLost answer ↔ (0 < breaks events)
  pub noisy : answer ≡ answers.LinkEnded losses.SixBad → 0 < noise events
  pub calm : noise events ≡ 0 → AllByRecursion IsAnswered behind
