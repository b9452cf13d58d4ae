-- What a write came to, and the answer that tells it.
use Rattle.std.proofs.Common.{◌≡◌, inl, inr, ℕ, false, List, Option, Some, Ok, Err, refl, sym, ◌∙◌, ap, subst}
use Rattle.nfc_base.specs.Signal.{Signal}
use Rattle.nfc_base.specs.TagLinks.{TagState, TagStep, plain_state}
use Rattle.nfc_base.specs.declared.event.Event.{Event}
use Rattle.nfc_base.specs.declared.tag_link.AskFault.{AskFault}
use Rattle.nfc_base.specs.declared.tag_link.AskFault.TheVariants as asking
use Rattle.air_core.specs.World.{World}
use Rattle.air_core.specs.Conversation.{Moment}
use Rattle.t3t_tag.specs.Linked.{t3_step}
use Rattle.tag_reader.specs.Kinds.{t2_step, t5_step}
use Rattle.tag_reader.specs.Files.{t4_link_step}
use Rattle.tag_writer.specs.declared.fault.WriteFault.TheVariants as writing
use Rattle.tag_writer.specs.Faults.{ending_of}
use Rattle.tag_writer.specs.Law.{Ending, WriteLaw}
use Rattle.tag_writer.specs.Outcome.{IsOutcome}
use Rattle.tag_writer.specs.WriteAsked.{IsWriteAsked}
use Rattle.tag_writer.proofs.OneOutcome.{one_outcome_by}
use Rattle.bench_devices.specs.declared.device.Device.{Device}
use Rattle.bench_devices.specs.declared.device.Device.TheVariants.{T2, T4, Peer, T5, T3}
use Rattle.bench_devices.specs.Kinds.{DeviceKind, T2Kind, T3Kind, T4Kind, PeerKind, T5Kind}
use Rattle.bench_devices.specs.Device.{BenchWorld, device_store, device_commands, how_of, size_of, kind_of}
use Rattle.bench_devices.specs.Peers.{no_commands}
use Rattle.bench_devices.specs.Keeping.{Fixed, fixed, Kept, kept, images_of}
use Rattle.bench_devices.specs.Phases.{WriteEnd, FailsWrite, Writes}
use Rattle.bench_devices.specs.Writing.{AsksWriteOf, ShowsWrite, KeepsWriteLaw}
use Rattle.bench_world.specs.declared.entry.Answer.{Answer}
use Rattle.bench_world.specs.declared.entry.Answer.TheVariants as answers
use Rattle.bench_world.specs.Answering.{written_by, MayEndWrite, TellsFault}
use Rattle.bench_world.specs.Writing.{TellsTag, TellsWrite, ending_told}
use Rattle.bench_devices.proofs.kinds.TagOrPeer.{one_if}
use Rattle.bench_world.proofs.lines.OneForm.{one_store_form}
use Rattle.bench_world.proofs.tags.Telling.{tells_either, no_answer, told_once}

-- What a device does with commands is a function of what stays of it.
commands_by : DeviceKind → Fixed → TagState → Signal → TagStep
commands_by T2Kind x = t2_step x.locked
commands_by T3Kind x = t3_step x.id x.locked
commands_by T4Kind x = t4_link_step x.code
commands_by PeerKind x = no_commands
commands_by T5Kind x = t5_step x.id x.size x.locked false

commands_are : (d : Device) → device_commands d ≡ commands_by (kind_of d) (fixed d)
unfolding commands_by
commands_are (T2 d) = refl
commands_are (T4 d) = refl
commands_are (Peer d) = refl
commands_are (T5 p) = refl
commands_are (T3 p) = refl

pub same_commands : (d e : Device) → kept d ≡ kept e → device_commands d ≡ device_commands e
same_commands d e same = commands_are d ∙ ap (λ (k : Kept). commands_by k.fixed.kind k.fixed) same ∙ sym (commands_are e)

-- So what is said of a write of one device is said of another of which the same stays.
module _ (d e : Device) (same : kept d ≡ kept e) (message : List ℕ) where
  pub asks_same : (commands : List Signal) → AsksWriteOf message d commands → AsksWriteOf message e commands
  asks_same commands asks =
      let P : Kept → (TagState → Signal → TagStep) → Type 0 = λ k step. IsWriteAsked k.fixed.how k.fixed.size step (plain_state k.store) message commands in
      subst (λ k. P k (device_commands e)) same (subst (P (kept d)) (same_commands d e same) asks)

  pub outcome_same : (r : WriteEnd) → ShowsWrite message d r → ShowsWrite message e r
  outcome_same r is =
      let P : Kept → (TagState → Signal → TagStep) → Type 0 = λ k step. IsOutcome k.fixed.how k.fixed.size step (plain_state k.store) message r in
      subst (λ k. P k (device_commands e)) same (subst (P (kept d)) (same_commands d e same) is)

  pub law_same : (ending : Ending) (w : BenchWorld) (es : List Event) → KeepsWriteLaw message d ending w es → KeepsWriteLaw message e ending w es
  law_same ending w es law =
      let P : Kept → Type 0 = λ k. WriteLaw k.fixed.how k.fixed.size k.store message ending (images_of k.fixed.id w es) in
      subst P same law

-- Where an answer tells of a write, memory wasn't wanting.
pub write_fed : (r : WriteEnd) (answer : Answer) → written_by r ≡ Some answer → r ≡ Err writing.Memory → ⊥
write_fed r answer told m = no_answer answer (sym (ap written_by m) ∙ told)

-- The answer tells of the fault of a wait, ...
pub fails_written : (r : WriteEnd) (answer : Answer) → written_by r ≡ Some answer → (e : AskFault) → FailsWrite e r → TellsFault e answer
fails_written r answer told asking.FieldLost is = told_once answer answers.FieldLost (sym told ∙ ap written_by is)
fails_written r answer told asking.SixBad is = told_once answer answers.SixBad (sym told ∙ ap written_by is)
fails_written r answer told asking.Memory is = absurd is
fails_written r answer told asking.Protocol is = absurd is

-- ... and only of such: what these answers tell of the write
abbrev IsFor : Answer → WriteEnd → Type 0
IsFor answers.FieldLost r = r ≡ Err writing.FieldLost
IsFor answers.SixBad r = r ≡ Err writing.SixBad
IsFor answers.Written r = r ≡ Ok tt
IsFor answer r = Unit {0}

is_for : (r : WriteEnd) (answer : Answer) → written_by r ≡ Some answer → IsFor answer r
is_for r answer told = by_end r (written_by r) refl told
  where
    by_end : (q : WriteEnd) (o : Option Answer) → written_by q ≡ o → o ≡ Some answer → IsFor answer q
    by_end (Ok done) o e t = subst (λ a. IsFor a (Ok done)) (told_once answers.Written answer (e ∙ t)) refl
    by_end (Err writing.NotNdef) o e t = subst (λ a. IsFor a (Err writing.NotNdef)) (told_once answers.NotNdef answer (e ∙ t)) tt
    by_end (Err writing.Version) o e t = subst (λ a. IsFor a (Err writing.Version)) (told_once answers.Version answer (e ∙ t)) tt
    by_end (Err writing.NoRead) o e t = subst (λ a. IsFor a (Err writing.NoRead)) (told_once answers.NoRead answer (e ∙ t)) tt
    by_end (Err writing.Sectors) o e t = subst (λ a. IsFor a (Err writing.Sectors)) (told_once answers.Sectors answer (e ∙ t)) tt
    by_end (Err writing.BadSize) o e t = subst (λ a. IsFor a (Err writing.BadSize)) (told_once answers.BadSize answer (e ∙ t)) tt
    by_end (Err writing.NoMessageTlv) o e t = subst (λ a. IsFor a (Err writing.NoMessageTlv)) (told_once answers.NoMessageTlv answer (e ∙ t)) tt
    by_end (Err writing.BadTlv) o e t = subst (λ a. IsFor a (Err writing.BadTlv)) (told_once answers.BadTlv answer (e ∙ t)) tt
    by_end (Err (writing.Refused code)) o e t = subst (λ a. IsFor a (Err (writing.Refused code))) (told_once (answers.Refused code) answer (e ∙ t)) tt
    by_end (Err writing.FieldLost) o e t = subst (λ a. IsFor a (Err writing.FieldLost)) (told_once answers.FieldLost answer (e ∙ t)) refl
    by_end (Err writing.SixBad) o e t = subst (λ a. IsFor a (Err writing.SixBad)) (told_once answers.SixBad answer (e ∙ t)) refl
    by_end (Err writing.Memory) o e t = absurd (no_answer answer (e ∙ t))
    by_end (Err writing.ReadOnly) o e t = subst (λ a. IsFor a (Err writing.ReadOnly)) (told_once answers.ReadOnly answer (e ∙ t)) tt
    by_end (Err (writing.TooLong room)) o e t = subst (λ a. IsFor a (Err (writing.TooLong room))) (told_once (answers.TooLong room) answer (e ∙ t)) tt
    by_end (Err writing.ShortMlc) o e t = subst (λ a. IsFor a (Err writing.ShortMlc)) (told_once answers.ShortMlc answer (e ∙ t)) tt
    by_end (Err writing.Protocol) o e t = absurd (no_answer answer (e ∙ t))

pub lost_written : (r : WriteEnd) (answer : Answer) → written_by r ≡ Some answer → answer ≡ answers.FieldLost → r ≡ Err writing.FieldLost
lost_written r answer told is = subst (λ a. IsFor a r) is (is_for r answer told)

pub six_written : (r : WriteEnd) (answer : Answer) → written_by r ≡ Some answer → answer ≡ answers.SixBad → r ≡ Err writing.SixBad
six_written r answer told is = subst (λ a. IsFor a r) is (is_for r answer told)

pub done_written : (r : WriteEnd) → written_by r ≡ Some answers.Written → r ≡ Ok tt
done_written r told = is_for r answers.Written told

-- how the stores stand is told alike
pub same_ending : (r : WriteEnd) (answer : Answer) → written_by r ≡ Some answer → ending_of r ≡ ending_told answer
same_ending (Ok done) answer t = ap ending_told (told_once answers.Written answer t)
same_ending (Err writing.NotNdef) answer t = ap ending_told (told_once answers.NotNdef answer t)
same_ending (Err writing.Version) answer t = ap ending_told (told_once answers.Version answer t)
same_ending (Err writing.NoRead) answer t = ap ending_told (told_once answers.NoRead answer t)
same_ending (Err writing.Sectors) answer t = ap ending_told (told_once answers.Sectors answer t)
same_ending (Err writing.BadSize) answer t = ap ending_told (told_once answers.BadSize answer t)
same_ending (Err writing.NoMessageTlv) answer t = ap ending_told (told_once answers.NoMessageTlv answer t)
same_ending (Err writing.BadTlv) answer t = ap ending_told (told_once answers.BadTlv answer t)
same_ending (Err (writing.Refused code)) answer t = ap ending_told (told_once (answers.Refused code) answer t)
same_ending (Err writing.FieldLost) answer t = ap ending_told (told_once answers.FieldLost answer t)
same_ending (Err writing.SixBad) answer t = ap ending_told (told_once answers.SixBad answer t)
same_ending (Err writing.Memory) answer t = absurd (no_answer answer t)
same_ending (Err writing.ReadOnly) answer t = ap ending_told (told_once answers.ReadOnly answer t)
same_ending (Err (writing.TooLong room)) answer t = ap ending_told (told_once (answers.TooLong room) answer t)
same_ending (Err writing.ShortMlc) answer t = ap ending_told (told_once answers.ShortMlc answer t)
same_ending (Err writing.Protocol) answer t = absurd (no_answer answer t)

-- No write ends by a frame that isn't allowed, so an answer tells of each.
never_odd : (e : AskFault) → FailsWrite e (Err writing.Protocol) → ⊥
never_odd asking.FieldLost h = cc
never_odd asking.SixBad h = cc
never_odd asking.Memory h = h
never_odd asking.Protocol h = h

pub may_write : (old new : Moment (World Device)) (d : Device) (message : List ℕ) (r : WriteEnd) → ((r ≡ Err writing.Memory → ⊥) → Writes old new d message r) → MayEndWrite r
may_write old new d message (Ok done) writes = inl refl
may_write old new d message (Err writing.NotNdef) writes = inl refl
may_write old new d message (Err writing.Version) writes = inl refl
may_write old new d message (Err writing.NoRead) writes = inl refl
may_write old new d message (Err writing.Sectors) writes = inl refl
may_write old new d message (Err writing.BadSize) writes = inl refl
may_write old new d message (Err writing.NoMessageTlv) writes = inl refl
may_write old new d message (Err writing.BadTlv) writes = inl refl
may_write old new d message (Err (writing.Refused code)) writes = inl refl
may_write old new d message (Err writing.FieldLost) writes = inl refl
may_write old new d message (Err writing.SixBad) writes = inl refl
may_write old new d message (Err writing.Memory) writes = inr refl
may_write old new d message (Err writing.ReadOnly) writes = inl refl
may_write old new d message (Err (writing.TooLong room)) writes = inl refl
may_write old new d message (Err writing.ShortMlc) writes = inl refl
may_write old new d message (Err writing.Protocol) writes =
    absurd (let w = (writes (λ e. cc)).told in tells_either (ShowsWrite message d) FailsWrite (Err writing.Protocol) ⊥ (λ s. s) never_odd _ w.commands w.asked.notes w.ends)

-- A write has one outcome, so one answer tells of it.
pub one_outcome_of : (message : List ℕ) (d : Device) (r q : WriteEnd) → ShowsWrite message d r → ShowsWrite message d q → r ≡ q
one_outcome_of message d r q a b =
    one_outcome_by (how_of d) (size_of d) (device_commands d) (plain_state (device_store d)) message r q (one_store_form (how_of d) (size_of d) (device_store d)) a b

one_of_tag : (message : List ℕ) (d : Device) (a b : Answer) → TellsTag message d a → TellsTag message d b → a ≡ b
one_of_tag message d a b p q = told_once a b (sym p.2 ∙ ap written_by (one_outcome_of message d p.0 q.0 p.1 q.1) ∙ q.2)

pub one_written : (message : List ℕ) (d : Device) (a b : Answer) → TellsWrite message d a → TellsWrite message d b → a ≡ b
one_written message d a b p q = one_if (kind_of d) (TellsTag message d) answers.WrongKind (one_of_tag message d) a b p q
