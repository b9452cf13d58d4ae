-- A write that was a success is one of a placed tag of the technology that its line names.
use Rattle.std.proofs.Common.{true, ◌≡◌, inl, inr, ℕ, List, length, Option, Some, None, Result, Ok, Err, refl, sym, ◌∙◌, ap, subst, arith}
use Rattle.air_core.specs.Conversation.{Note}
use Rattle.nfca_poll.specs.Ident.{IsIdent}
use Rattle.nfca_poll.specs.declared.fault.PollFault.{PollFault}
use Rattle.bench_script.specs.declared.command.Command.{Command}
use Rattle.bench_script.specs.declared.command.Command.TheVariants.{Write}
use Rattle.bench_script.specs.declared.command.DeviceId.{DeviceId}
use Rattle.bench_script.specs.declared.command.DeviceId.TheVariants.{A, V}
use Rattle.bench_script.specs.declared.message.Msg.{Msg}
use Rattle.bench_script.specs.DeviceIds.{bytes_of}
use Rattle.bench_script.specs.Messages.{message_of}
use Rattle.bench_script.specs.Script.{Spells, SpellsId}
use Rattle.bench_devices.specs.declared.device.Device.{Device}
use Rattle.bench_devices.specs.declared.device.Device.TheVariants.{T2, T4, Peer, T5, T3}
use Rattle.bench_devices.specs.declared.polling.SeenKind.{SeenKind}
use Rattle.bench_devices.specs.Answering.{IsNamed}
use Rattle.bench_devices.specs.Device.{device_id, may_be_read}
use Rattle.bench_devices.specs.Keeping.{kept, IsSound}
use Rattle.bench_devices.specs.Placed.{device_with, OfPlaced}
use Rattle.bench_world.specs.declared.entry.Answer.TheVariants as answers
use Rattle.bench_world.specs.declared.entry.Entry.{Entry}
use Rattle.bench_world.specs.Answering.{TagEnds, TagTells, TellsFault}
use Rattle.bench_world.specs.Legal.{State, Given, LegalStep, AnswerLaw, WritingLaw}
use Rattle.bench_world.specs.Writing.{TellsWrite}
use Rattle.bench_world.proofs.devices.Placing.{with_sound}
use Rattle.bench_world.proofs.devices.Reached.{IsReady}
use Rattle.bench_world.proofs.tags.Telling.{tells_either}
use Rattle.bench_world.proofs.calm.WriteBehind.{written_polled, written_failed}
use Rattle.bench_world.proofs.tags.WriteLegality.{found_named}

-- It was placed, since a write of nobody isn't a success.
pub written_placed : (id : DeviceId) (m : Msg) (s t : State) (g : Given) (e : Entry) → LegalStep s g e t → e.command ≡ Write id m → e.answer ≡ answers.Written
    → (tag : Device) × (device_with (bytes_of id) s.world.field.listeners ≡ Some tag)
written_placed id m s t g e step writing written = by_found (device_with (bytes_of id) s.world.field.listeners) refl
  where
    told : TagTells (TellsWrite (message_of m)) id s.world.field.listeners g.asked e.events answers.Written
    told =
        let L : Command → Type 0 = λ c. AnswerLaw s g c e.events e.answer in
        let law : WritingLaw s g.joins id m g.asked e.events e.answer = subst L writing step.answered in
        subst (TagTells (TellsWrite (message_of m)) id s.world.field.listeners g.asked e.events) written law.tells

    nobody : device_with (bytes_of id) s.world.field.listeners ≡ None → (r : Result SeenKind PollFault) (behind : List Note)
        → TagEnds (TellsWrite (message_of m)) id s.world.field.listeners g.asked r behind answers.Written → ⊥
    nobody none (Ok kind) behind ends =
        tells_either (λ a. OfPlaced (λ x. TellsWrite (message_of m) x a) (device_with (bytes_of id) s.world.field.listeners)) TellsFault answers.Written ⊥
        (λ t. subst (λ o. OfPlaced (λ x. TellsWrite (message_of m) x answers.Written) o) none t) (λ f is. absurd (written_failed f is)) kind g.asked behind ends
    nobody none (Err f) behind ends = written_polled f ends

    by_found : (o : Option Device) → device_with (bytes_of id) s.world.field.listeners ≡ o → (tag : Device) × (device_with (bytes_of id) s.world.field.listeners ≡ Some tag)
    by_found None is = absurd (nobody is told.polled told.behind told.ends)
    by_found (Some tag) is = (tag, is)

-- an NFC-A identifier has no eight bytes
not_eight : (id : List ℕ) → IsIdent id → length id ≡ 8 → ⊥
not_eight id ident long =
    elim ident.size [ inl four ↦ omega (arith, four, long) | inr more ↦ (elim more [ inl seven ↦ omega (arith, seven, long) | inr ten ↦ omega (arith, ten, long) ]) ]

-- What a line names by an identifier is of its technology.
named_by : (word : List ℕ) (id : DeviceId) (d : Device) → SpellsId word id → device_id d ≡ bytes_of id → IsSound (kept d) → may_be_read d ≡ true → IsNamed id d
named_by word (A id) (T2 d) spelled same sound read = (refl, same)
named_by word (A id) (T4 d) spelled same sound read = (refl, same)
named_by word (A id) (Peer d) spelled same sound read = (refl, same)
named_by word (A id) (T5 d) spelled same sound read =
    let long : length id ≡ 8 = ap length (sym same) ∙ sound.1 in
    absurd (not_eight id spelled.1 long)
named_by word (V id) (T2 d) spelled same sound read = absurd (not_eight id (subst IsIdent same sound.0) spelled.1)
named_by word (V id) (T4 d) spelled same sound read = absurd (not_eight id (subst IsIdent same sound.0) spelled.1)
named_by word (V id) (Peer d) spelled same sound read = absurd (not_eight id (subst IsIdent same sound.0) spelled.1)
named_by word (V id) (T5 d) spelled same sound read = (refl, same)
named_by word (V id) (T3 d) spelled same sound read = absurd cc
named_by word (A id) (T3 d) spelled same sound read = absurd cc

pub named_so : (line : List ℕ) (id : DeviceId) (m : Msg) → Spells line (Write id m) → (ds : List Device) (d : Device) → device_with (bytes_of id) ds ≡ Some d → IsReady ds → may_be_read d ≡ true
    → IsNamed id d
named_so line id m spelled ds d placed ready read = named_by spelled.0 id d spelled.3 (found_named (bytes_of id) ds d placed) (with_sound ds (bytes_of id) d ready.tame.sound placed) read
