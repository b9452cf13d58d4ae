-- What a read tells behind a write of its tag.
use Rattle.std.proofs.Common.{◌≡◌, ◌⊎◌, inl, inr, ℕ, List, [], Bool, true, false, nat_eq, Some, Ok, refl, sym, ◌∙◌, ap, subst}
use Rattle.std.specs.Cmp.Lexicographic.{pointwise}
use Rattle.nfca_poll.proofs.quiet.OneLevel.{pointwise_self}
use Rattle.nfc_base.specs.declared.tag_link.AskFault.{AskFault}
use Rattle.nfc_base.specs.declared.tag_link.AskFault.TheVariants as asking
use Rattle.nfca_poll.specs.declared.fault.PollFault.{PollFault}
use Rattle.nfca_poll.specs.declared.fault.PollFault.TheVariants as faults
use Rattle.t5t_tag.proofs.Bytes.{equal_bytes}
use Rattle.tlv_area.specs.Form.{Form, Message}
use Rattle.tag_reader.specs.Kinds.{IsStoreForm}
use Rattle.tag_writer.specs.Place.{TakesNot}
use Rattle.tag_writer.specs.Law.{Written, IsEmptied, IsWritten, LeavesStore}
use Rattle.bench_script.specs.declared.command.Command.{Command}
use Rattle.bench_script.specs.declared.command.Command.TheVariants.{Read}
use Rattle.bench_script.specs.declared.command.DeviceId.{DeviceId}
use Rattle.bench_script.specs.declared.message.Msg.{Msg}
use Rattle.bench_script.specs.DeviceIds.{bytes_of}
use Rattle.bench_script.specs.Messages.{message_of}
use Rattle.bench_devices.specs.declared.device.Device.{Device}
use Rattle.bench_devices.specs.Device.{device_store, how_of, size_of, may_be_read}
use Rattle.bench_devices.proofs.kinds.TagOrPeer.{told_read, of_read, same_read}
use Rattle.bench_devices.specs.Keeping.{Fixed}
use Rattle.bench_devices.specs.Writing.{ShowsWrite, KeepsWriteLaw}
use Rattle.bench_world.specs.declared.entry.Answer.{Answer}
use Rattle.bench_world.specs.declared.entry.Answer.TheVariants as answers
use Rattle.bench_world.specs.Answering.{TellsFault, poll_answer}
use Rattle.bench_world.specs.Reading.{TellsOf}
use Rattle.bench_world.specs.Writing.{ending_told}
use Rattle.bench_world.specs.Legal.{AnswerLaw, ReadLaw}
use Rattle.bench_world.specs.Behind.{WritesThenReads, WrittenIsRead, OneOfThreeIsRead}
use Rattle.bench_world.proofs.lines.OneForm.{one_store_form}
use Rattle.bench_world.proofs.calm.WriteBehind.{Behind, images_behind, last_behind, tag_behind, told_of, last_all, all_as, all_three}
use Rattle.bench_world.proofs.devices.HeldOn.{IsAlike, steps_alike}

-- a message is no fault
message_polled : (message : List ℕ) (writable : Bool) (e : PollFault) → poll_answer e ≡ Some (answers.Message message writable) → ⊥
message_polled message writable faults.Nobody h = cc
message_polled message writable faults.Disturbed h = cc
message_polled message writable faults.FieldLost h = cc
message_polled message writable faults.Memory h = cc
message_polled message writable faults.NotFound h = cc
message_polled message writable faults.BadAnswer h = cc

message_failed : (message : List ℕ) (writable : Bool) (e : AskFault) → TellsFault e (answers.Message message writable) → ⊥
message_failed message writable asking.FieldLost h = cc
message_failed message writable asking.SixBad h = cc
message_failed message writable asking.Memory h = h
message_failed message writable asking.Protocol h = h

same_message : (a b : List ℕ) → ◌≡◌ {A = Form} (Message a) (Message b) → a ≡ b
same_message a b e = cc

same_or_not : (a b : List ℕ) → (a ≡ b) ⊎ (a ≡ b → ⊥)
same_or_not a b = by_test (pointwise nat_eq a b) refl
  where
    by_test : (v : Bool) → pointwise nat_eq a b ≡ v → (a ≡ b) ⊎ (a ≡ b → ⊥)
    by_test true e = inl (equal_bytes a b e)
    by_test false e = inr (λ same. let clash : false ≡ true = sym e ∙ ap (λ x. pointwise nat_eq x b) same ∙ pointwise_self b in cc)

module _ (id : DeviceId) (tag : Device) (m : Msg) (answer : Answer) (message : List ℕ) (r : WritesThenReads id tag m answer message) where
  abbrev images : List (List ℕ)
  images = images_behind tag r.before r.write

  abbrev last : List ℕ
  last = last_behind tag r.before r.write

  -- the tag behind the write
  behind : Behind id tag m r.before r.written r.write
  behind = tag_behind id tag m r.before r.written r.write_given r.write r.placed r.writes r.writing

  -- and when it is read
  at_read : IsAlike (bytes_of id) behind.device r.later.world.field.listeners
  at_read = steps_alike id r.written r.later r.given r.between behind.device r.goes_on r.alone behind.there

  read : ReadLaw r.later r.read_given.joins id r.read_given.asked r.read.events (answers.Message message r.writable)
  read =
      let L : Command → Answer → Type 0 = λ c a. AnswerLaw r.later r.read_given c r.read.events a in
      subst (L (Read id)) r.told (subst (λ c. L c r.read.answer) r.reading r.reads.answered)

  told_there : TellsOf at_read.device (answers.Message message r.writable)
  told_there =
      told_of TellsOf id r.later.world.field.listeners r.read_given.asked (answers.Message message r.writable) at_read.device at_read.found (message_polled message r.writable)
      (message_failed message r.writable)
      read.tells.polled read.tells.behind read.tells.ends

  -- it is a tag, since it told a message
  no_wrong : answers.Message message r.writable ≡ answers.WrongKind → ⊥
  no_wrong e = cc

  tag_there : may_be_read at_read.device ≡ true
  tag_there = told_read at_read.device _ _ no_wrong told_there

  is_one : may_be_read tag ≡ true
  is_one = same_read tag at_read.device (sym (at_read.alike.kind ∙ ap (λ (k : Fixed). k.kind) behind.same)) ∙ tag_there

  keeps : KeepsWriteLaw (message_of m) tag (ending_told answer) r.before.world.field r.write.events
  keeps = subst (λ a. KeepsWriteLaw (message_of m) tag (ending_told a) r.before.world.field r.write.events) r.answered (behind.keeps is_one)

  -- what it holds then has this form
  form : IsStoreForm (how_of tag) (size_of tag) last (Message message)
  form =
      let tells = of_read at_read.device tag_there _ _ told_there in
      let how : how_of at_read.device ≡ how_of tag = at_read.alike.how ∙ ap (λ (k : Fixed). k.how) behind.same in
      let size : size_of at_read.device ≡ size_of tag = at_read.alike.size ∙ ap (λ (k : Fixed). k.size) behind.same in
      let store : device_store at_read.device ≡ last = at_read.alike.store ∙ behind.store in
      subst (λ s. IsStoreForm (how_of tag) (size_of tag) s (Message message)) store
      (subst (λ n. IsStoreForm (how_of tag) n (device_store at_read.device) (Message message)) size
      (subst (λ h. IsStoreForm h (size_of at_read.device) (device_store at_read.device) (Message message)) how tells.0))

  one_message : (store a b : List ℕ) → IsStoreForm (how_of tag) (size_of tag) store (Message a) → IsStoreForm (how_of tag) (size_of tag) store (Message b) → a ≡ b
  one_message store a b p q = same_message a b (one_store_form (how_of tag) (size_of tag) store (Message a) (Message b) p q)

  pub new_is_read : answer ≡ answers.Written → message ≡ message_of m
  new_is_read done =
      let writes : ShowsWrite (message_of m) tag (Ok tt) = (behind.done (r.answered ∙ done)).shows in
      let passes = keeps.takes writes.place writes.takes in
      let left : LeavesStore (how_of tag) (size_of tag) (message_of m) writes.place (device_store tag) Written last =
      subst (λ a. LeavesStore (how_of tag) (size_of tag) (message_of m) writes.place (device_store tag) (ending_told a) last) done passes.leaves in
      one_message last message (message_of m) form left.holds

  module _ (old : List ℕ) (held : IsStoreForm (how_of tag) (size_of tag) (device_store tag) (Message old)) (not_old : message ≡ old → ⊥) (not_empty : message ≡ [] → ⊥)
      (not_new : message ≡ message_of m → ⊥) where
    abbrev TellsOther : List ℕ → Type 0
    TellsOther s = IsStoreForm (how_of tag) (size_of tag) s (Message message) → ⊥

    old_other : (s : List ℕ) → s ≡ device_store tag → TellsOther s
    old_other s same h = not_old (one_message (device_store tag) message old (subst (λ x. IsStoreForm (how_of tag) (size_of tag) x (Message message)) same h) held)

    untaken : TakesNot (how_of tag) (size_of tag) (device_store tag) (message_of m)
    untaken place takes =
        last_all TellsOther (device_store tag) images (old_other (device_store tag) refl)
        (all_three (λ s. s ≡ device_store tag) (IsEmptied (how_of tag) (size_of tag) place (device_store tag)) (IsWritten (how_of tag) (size_of tag) (message_of m) place (device_store tag)) TellsOther
        old_other (λ s e h. not_empty (one_message s message [] h e.empty)) (λ s n h. not_new (one_message s message (message_of m) h n.holds)) images (keeps.takes place takes).three) form

    no_other : ⊥
    no_other = last_all TellsOther (device_store tag) images (old_other (device_store tag) refl) (all_as (λ s. s ≡ device_store tag) TellsOther old_other images (keeps.stays untaken)) form

  pub one_of_three : (old : List ℕ) → IsStoreForm (how_of tag) (size_of tag) (device_store tag) (Message old) → (message ≡ old) ⊎ (message ≡ []) ⊎ (message ≡ message_of m)
  one_of_three old held = by_old (same_or_not message old) (same_or_not message []) (same_or_not message (message_of m))
    where
      by_old : (message ≡ old) ⊎ (message ≡ old → ⊥) → (message ≡ []) ⊎ (message ≡ [] → ⊥) → (message ≡ message_of m) ⊎ (message ≡ message_of m → ⊥)
          → (message ≡ old) ⊎ (message ≡ []) ⊎ (message ≡ message_of m)
      by_old (inl a) b c = inl a
      by_old (inr a) (inl b) c = inr (inl b)
      by_old (inr a) (inr b) (inl c) = inr (inr c)
      by_old (inr a) (inr b) (inr c) = absurd (no_other old held a b c)

pub written_is_read : WrittenIsRead
written_is_read id tag m message r = new_is_read id tag m answers.Written message r refl

pub one_of_three_is_read : OneOfThreeIsRead
one_of_three_is_read id tag m answer old message r held = one_of_three id tag m answer message r old held
