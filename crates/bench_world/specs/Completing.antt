-- What a read, a write and a search answer where noise doesn't keep them from it: no Break was used, no wait had six
-- bad receptions, and polling had one round, of a Type 5 tag one try, without noise (rounds, tries and six receptions
-- are this project's own).
use Rattle.std.specs.Prelude.{◌≡◌, ◌<◌, ℕ, List, ◌∷◌, ◌++◌, filter_map, Some, Ok, true}
use Rattle.nfc_base.specs.Signal.{Signal}
use Rattle.nfc_base.specs.Trace.{Turn, turns, breaks}
use Rattle.nfc_base.specs.declared.event.Event.{Event}
use Rattle.nfc_base.specs.declared.tag_link.AskFault.TheVariants.{SixBad}
use Rattle.air_core.specs.Conversation.{Note, receptions}
use Rattle.air_core.specs.Waits.{Broken, stand}
use Rattle.nfca_poll.specs.Inventory.{tries, inventory_all, inventory_of}
use Rattle.nfca_poll.specs.RoundTrace.{rounds}
use Rattle.tag_writer.specs.Locks.{IsFreeFor}
use Rattle.isodep_link.specs.Asking as exchange
use Rattle.nfca_poll.specs.Crowd.{Each}
use Rattle.nfcv_poll.specs.Finding.{IsAscending}
use Rattle.nfcv_poll.specs.Passes.{passes, noise_in}
use Rattle.nfcv_poll.specs.Tags.{IsOneOf}
use Rattle.bench_script.specs.declared.command.Command.TheVariants.{Find, Crowd, Poll3, Read, Write}
use Rattle.t3t_access.specs.Polling.{sensf_req}
use Rattle.bench_script.specs.declared.command.DeviceId.{DeviceId}
use Rattle.bench_script.specs.declared.command.DeviceId.TheVariants.{A, V}
use Rattle.bench_script.specs.DeviceIds.{bytes_of}
use Rattle.bench_script.specs.Messages.{message_of}
use Rattle.bench_script.specs.declared.message.Msg.{Msg}
use Rattle.bench_devices.specs.declared.device.Device.{Device}
use Rattle.bench_devices.specs.Device.{device_store, device_locks, how_of, size_of, may_be_read}
use Rattle.bench_devices.specs.declared.polling.SeenKind.{SeenKind}
use Rattle.bench_devices.specs.declared.polling.SeenKind.TheVariants as seen
use Rattle.bench_devices.specs.Answering.{IsNamed}
use Rattle.bench_devices.specs.CardAsking.{Exchanges, card_stands}
use Rattle.bench_devices.specs.Crowded.{v_if, crowd_of, others_of}
use Rattle.bench_devices.specs.Noise.{noisy_tries, AreDisturbed}
use Rattle.bench_devices.specs.Placed.{device_with}
use Rattle.bench_devices.specs.Polling.{Told, selecting}
use Rattle.bench_devices.specs.Sensing.{sensed_of}
use Rattle.bench_devices.specs.Writing.{ShowsWrite}
use Rattle.bench_world.specs.Answering.{three_told}
use Rattle.bench_world.specs.declared.entry.Answer.{Answer}
use Rattle.bench_world.specs.declared.entry.Answer.TheVariants as answers
use Rattle.bench_world.specs.declared.entry.Entry.{Entry}
use Rattle.bench_world.specs.Crowded.{seen_all, is_crowd}
use Rattle.bench_world.specs.Journal.{LeadsTo}
use Rattle.bench_world.specs.Legal.{State, Given, Joins, LegalStep}
use Rattle.bench_world.specs.Reading.{TellsOf}
use Rattle.bench_world.specs.Writing.{TellsWrite}

-- One round of polling had no noise; of the four tries for a Type 5 tag, one had none.
abbrev pub IsQuietOnce : DeviceId → List Event → Type 0
IsQuietOnce (A id) es = AreDisturbed (rounds es) → ⊥
IsQuietOnce (V id) es = noisy_tries (inventory_of id) es < tries

-- A wait of what is asked of a tag that is seen to be of this kind had six bad receptions.
abbrev pub HadSixBad : SeenKind → List Signal → List Note → Type 0
HadSixBad seen.T2 asked ns = (left : List Signal) × (stand 0 asked ns ≡ Broken SixBad left)
HadSixBad seen.T4 asked ns = card_stands asked ns ≡ Exchanges (exchange.Broken SixBad)
HadSixBad seen.T5 asked ns = (left : List Signal) × (stand 0 asked ns ≡ Broken SixBad left)
HadSixBad seen.Peer asked ns = ⊥

-- Nothing kept the command of a tag, which asks this, from its answer.
pub record IsUndisturbed (id : DeviceId) (asked : List Signal) (es : List Event) : Type 0 where
  pub lit : breaks es ≡ 0
  pub round : IsQuietOnce id es
  pub waits : (kind : SeenKind) (behind : List Note) → selecting id (receptions es) ≡ Told (Ok kind) behind
      → HadSixBad kind asked behind → ⊥

-- So a read of a placed tag tells what its store holds: the message, or the fault that the store has.
abbrev pub ReadsComplete : Type 0
ReadsComplete =
    (s t : State) (g : Given) (e : Entry) (id : DeviceId) (d : Device) → LegalStep s g e t → e.command ≡ Read id
    → device_with (bytes_of id) s.world.field.listeners ≡ Some d
    → IsNamed id d → IsUndisturbed id g.asked e.events → TellsOf d e.answer

-- A write of a placed tag tells what it comes to by what the tag holds and by its locked blocks.
abbrev pub WritesComplete : Type 0
WritesComplete =
    (s t : State) (g : Given) (e : Entry) (id : DeviceId) (m : Msg) (d : Device) → LegalStep s g e t
    → e.command ≡ Write id m → device_with (bytes_of id) s.world.field.listeners ≡ Some d
    → IsNamed id d → IsUndisturbed id g.asked e.events → TellsWrite (message_of m) d e.answer

-- So a message is written where the tag holds one, is free to write, has room for it, takes updates of two bytes, and
-- refuses none of the writes.
abbrev pub ShownIsWritten : Type 0
ShownIsWritten =
    (s t : State) (g : Given) (e : Entry) (id : DeviceId) (m : Msg) (d : Device) → LegalStep s g e t
    → e.command ≡ Write id m → device_with (bytes_of id) s.world.field.listeners ≡ Some d
    → may_be_read d ≡ true → IsNamed id d → IsUndisturbed id g.asked e.events → ShowsWrite (message_of m) d (Ok tt)
    → e.answer ≡ answers.Written

-- A tag takes a message, which it has room for in the place of the one that it holds, and none of the blocks that are
-- written for it is locked. Of a Type 4 tag none is, and one update may bring two bytes.
abbrev pub MayBeWritten : List ℕ → Device → Type 0
MayBeWritten message d = (may_be_read d ≡ true) × IsFreeFor (how_of d) (size_of d) (device_locks d) (device_store d)
    message

-- It refuses none then, so the message is written, wherever the lines of a script lead.
abbrev pub ValidIsWritten : Type 0
ValidIsWritten =
    (lines : List (List ℕ)) (numbers : List Joins) (journal : List Entry) (s t : State) (g : Given) (e : Entry)
    (id : DeviceId) (m : Msg) (d : Device) → LeadsTo lines numbers journal s
    → LegalStep s g e t → e.command ≡ Write id m → device_with (bytes_of id) s.world.field.listeners ≡ Some d
    → IsNamed id d → IsUndisturbed id g.asked e.events
    → MayBeWritten (message_of m) d → e.answer ≡ answers.Written

-- A search lists the whole field: all NFC-A devices in crowd order, and the true Type 5 result.
abbrev pub whole_field : List Device → Answer
whole_field ds = answers.Found (seen_all (record { cards = crowd_of ds; others = others_of ds }))
    (is_crowd (others_of ds))

abbrev pub FindsComplete : Type 0
FindsComplete =
    (s t : State) (g : Given) (e : Entry) → LegalStep s g e t → e.command ≡ Find → breaks e.events ≡ 0
    → (AreDisturbed (rounds e.events) → ⊥)
    → noisy_tries inventory_all e.events < tries → e.answer ≡ whole_field s.world.field.listeners

-- All Type 5 tags that are placed are told, ascending by their identifiers as numbers, and so each once.
pub record TellsTags (ds : List Device) (answer : Answer) : Type 0 where
  pub tags : List (List ℕ)
  pub is : answer ≡ answers.Crowd tags
  pub ascending : IsAscending tags
  pub there : Each (λ i. IsOneOf i (filter_map v_if ds)) tags
  pub all : Each (λ i. IsOneOf i tags) (filter_map v_if ds)

-- One of the passes of a search met no noise: all its requests and answers passed.
pub record HasQuietPass (events : List Event) : Type 0 where
  pub before : List (List Turn)
  pub pass : List Turn
  pub behind : List (List Turn)
  pub parts : passes (turns events) ≡ before ++ pass ∷ behind
  pub quiet : noise_in pass ≡ 0

-- A search for Type 5 tags that keeps the field and has such a pass lists all of them.
abbrev pub TagsComplete : Type 0
TagsComplete =
    (s t : State) (g : Given) (e : Entry) → LegalStep s g e t → e.command ≡ Crowd → breaks e.events ≡ 0
    → HasQuietPass e.events
    → TellsTags s.world.field.listeners e.answer

-- A search for Type 3 tags that keeps the field, and of which one try met no noise, tells of all that are placed: none,
-- the one, or that there are several.
abbrev pub ThreesComplete : Type 0
ThreesComplete =
    (s t : State) (g : Given) (e : Entry) → LegalStep s g e t → e.command ≡ Poll3 → breaks e.events ≡ 0
    → noisy_tries sensf_req e.events < tries
    → e.answer ≡ three_told (sensed_of s.world.field.listeners)
