-- What a sending of payloads that were written by hand comes to where noise doesn't keep it from that: no Break was
-- used, no wait had six bad receptions, and polling had one round without noise (this project's own).
use Rattle.std.specs.Prelude.{◌≡◌, ℕ, List, length, Bool, true, false, Some, Ok}
use Rattle.nfc_base.specs.Trace.{breaks}
use Rattle.nfc_base.specs.declared.carrier.EndCause.TheVariants as cause
use Rattle.nfc_base.specs.declared.event.Event.{Event}
use Rattle.air_core.specs.Conversation.{Note, receptions}
use Rattle.link_calls.specs.Walk.{BrokenBy}
use Rattle.bench_script.specs.declared.command.Command.TheVariants.{Forge}
use Rattle.bench_script.specs.declared.command.DeviceId.TheVariants.{A}
use Rattle.bench_devices.specs.declared.device.Device.{Device}
use Rattle.bench_devices.specs.declared.polling.SeenKind.TheVariants.{Peer}
use Rattle.bench_devices.specs.Answering.{IsNamed}
use Rattle.bench_devices.specs.Device.{is_tag}
use Rattle.bench_devices.specs.Placed.{device_with}
use Rattle.bench_devices.specs.Polling.{Told, selecting}
use Rattle.bench_world.specs.declared.entry.Answer.{Answer}
use Rattle.bench_world.specs.declared.entry.Answer.TheVariants as answers
use Rattle.bench_world.specs.declared.entry.Entry.{Entry}
use Rattle.bench_world.specs.Completing.{IsQuietOnce}
use Rattle.bench_world.specs.Forging.{Forging, Activates, Exchanges, Unlinked, forge_stand}
use Rattle.bench_world.specs.Journal.{LeadsTo}
use Rattle.bench_world.specs.Legal.{State, Given, Joins, LegalStep}
use Rattle.bench_world.specs.Quiet.{AllPass}

-- a wait had six bad receptions: that of ATR_REQ, or one of an exchange
abbrev pub HadSixBad : Forging → Type 0
HadSixBad (Unlinked cause.SixBad) = Unit {0}
HadSixBad (Exchanges (BrokenBy cause.SixBad)) = Unit {0}
HadSixBad _ = ⊥

-- Nothing kept the payloads from their replies.
pub record IsUndisturbedForging (id : List ℕ) (payloads : List (List ℕ)) (es : List Event) : Type 0 where
  pub lit : breaks es ≡ 0
  pub round : IsQuietOnce (A id) es
  pub waits : (behind : List Note) → selecting (A id) (receptions es) ≡ Told (Ok Peer) behind
      → HadSixBad (forge_stand payloads (Activates 0) behind) → ⊥

-- So many replies are heard of a peer, and a tag has no link as peers do.
abbrev pub IsHeardOf : Bool → ℕ → Answer → Type 0
IsHeardOf true n answer = answer ≡ answers.WrongKind
IsHeardOf false n answer = (replies : List (List ℕ)) × (answer ≡ answers.Replies replies) × (length replies ≡ n)

-- The entry sends payloads to this device, which is placed.
pub record ForgesPlaced (s : State) (e : Entry) (id : List ℕ) (payloads : List (List ℕ)) (d : Device) : Type 0 where
  pub command : e.command ≡ Forge id payloads
  pub placed : device_with id s.world.field.listeners ≡ Some d
  pub named : IsNamed (A id) d

-- So it is answered wherever the lines of a script lead: a reply to each payload.
abbrev pub ForgingsComplete : Type 0
ForgingsComplete =
    (lines : List (List ℕ)) (numbers : List Joins) (journal : List Entry) (s t : State) (g : Given) (e : Entry)
    (id : List ℕ) (payloads : List (List ℕ)) (d : Device) → LeadsTo lines numbers journal s
    → LegalStep s g e t → ForgesPlaced s e id payloads d → IsUndisturbedForging id payloads e.events
    → IsHeardOf (is_tag d) (length payloads) e.answer

-- Whatever the noise, of a tag alone it's told that it has no link as peers do, and of a peer alone replies are, one of
-- each payload.
abbrev pub ForgedKindsTold : Type 0
ForgedKindsTold =
    (lines : List (List ℕ)) (numbers : List Joins) (journal : List Entry) (s t : State) (g : Given) (e : Entry)
    (id : List ℕ) (payloads : List (List ℕ)) (d : Device) → LeadsTo lines numbers journal s
    → LegalStep s g e t → ForgesPlaced s e id payloads d
    → (e.answer ≡ answers.WrongKind → is_tag d ≡ true) × ((replies : List (List ℕ)) → e.answer ≡ answers.Replies replies
    → (is_tag d ≡ false) × (length replies ≡ length payloads))

-- On quiet air, where no fate is left but Pass, nothing keeps them from that.
abbrev pub ForgesQuietly : State → Entry → Type 0
ForgesQuietly s e = (id : List ℕ) (payloads : List (List ℕ)) (d : Device) → ForgesPlaced s e id payloads d
    → IsHeardOf (is_tag d) (length payloads) e.answer

abbrev pub QuietForgings : Type 0
QuietForgings =
    (lines : List (List ℕ)) (numbers : List Joins) (journal : List Entry) (s t : State) (g : Given) (e : Entry)
    → LeadsTo lines numbers journal s → LegalStep s g e t → AllPass s.queue → ForgesQuietly s e
