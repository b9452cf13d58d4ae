-- Finding every Type 5 tag of the bench: what is asked, and what is told of it (ISO/IEC 15693-3).
use Rattle.std.specs.Prelude.{◌≡◌, ◌↔◌, ◌<◌, ℕ, List, filter_map, Result, Err}
use Rattle.nfc_base.specs.Trace.{breaks, turns}
use Rattle.nfc_base.specs.declared.event.Event.{Event}
use Rattle.air_core.specs.World.{World}
use Rattle.air_core.specs.Conversation.{Note, Next, Moment, receptions}
use Rattle.nfca_poll.specs.declared.fault.PollFault.{PollFault}
use Rattle.nfca_poll.specs.declared.fault.PollFault.TheVariants as polling
use Rattle.nfca_poll.specs.Enquiry.{progress, enquiring, answer_of}
use Rattle.nfcv_poll.specs.Finding.{AreAscending, HasCauses}
use Rattle.nfcv_poll.specs.Search.{Begins, finding_all}
use Rattle.nfcv_poll.specs.Tags.{FoundIf}
use Rattle.nfcv_poll.specs.Crowd.{CrowdV}
use Rattle.bench_devices.specs.declared.device.Device.{Device}
use Rattle.bench_devices.specs.Crowded.{v_if}
use Rattle.bench_devices.specs.Keeping.{NoStore}
use Rattle.bench_devices.specs.Phases.{Asked, AskedPart}

-- what is due, by what was heard
abbrev pub crowding : List Note → Next
crowding ns = enquiring finding_all ns

-- what a search comes to, by what was heard
abbrev pub crowd_told : List Event → Result (List (List ℕ)) PollFault
crowd_told events = answer_of finding_all (progress finding_all Begins (receptions events))

-- What a search answers of the Type 5 tags that are placed, by what happened.
pub record CrowdTells (ds : List Device) (events : List Event) (r : Result (List (List ℕ)) PollFault) : Type 0 where
  pub told : r ≡ crowd_told events
  pub tags : FoundIf (filter_map v_if ds) r (turns events)
  pub crowd : CrowdV (filter_map v_if ds) r (turns events)
  pub ascending : AreAscending r
  pub causes : HasCauses (turns events) r
  pub lost : (r ≡ Err polling.FieldLost) ↔ (0 < breaks events)

-- A search asked what was due, and tells of all Type 5 tags.
pub record Crowds (old new : Moment (World Device)) (r : Result (List (List ℕ)) PollFault) : Type 0 where
  pub asked : Asked NoStore crowding old new
  pub tells : CrowdTells old.world.listeners asked.going.events r

-- So the field was searched, unless memory was wanting; then a front of it was.
abbrev pub CrowdsField : Moment (World Device) → Moment (World Device) → Result (List (List ℕ)) PollFault → Type 0
CrowdsField old new r = (r ≡ Err polling.Memory → ⊥) → Crowds old new r

abbrev pub CrowdCut : Moment (World Device) → Moment (World Device) → Result (List (List ℕ)) PollFault → Type 0
CrowdCut old new r = r ≡ Err polling.Memory → AskedPart NoStore crowding old new
