-- What a write of a placed tag leaves of it.
use Rattle.std.proofs.Common.{◌≡◌, ℕ, List, [], ◌∷◌, ◌++◌, true, Some, Result, Ok, Err, refl, sym, ◌∙◌, ap, subst}
use Rattle.std.specs.List.{AllByRecursion}
use Rattle.nfc_base.specs.Signal.{Signal}
use Rattle.nfc_base.specs.declared.event.Event.{Event}
use Rattle.nfc_base.specs.declared.tag_link.AskFault.{AskFault}
use Rattle.nfc_base.specs.declared.tag_link.AskFault.TheVariants as asking
use Rattle.air_core.specs.Conversation.{Note, replay}
use Rattle.nfca_poll.specs.declared.fault.PollFault.{PollFault}
use Rattle.nfca_poll.specs.declared.fault.PollFault.TheVariants as faults
use Rattle.nfc_base.specs.TagLinks.{PassInThree}
use Rattle.tag_writer.specs.Law.{last_store}
use Rattle.bench_script.specs.declared.command.Command.{Command}
use Rattle.bench_script.specs.declared.command.Command.TheVariants.{Write}
use Rattle.bench_script.specs.declared.command.DeviceId.{DeviceId}
use Rattle.bench_script.specs.declared.message.Msg.{Msg}
use Rattle.bench_script.specs.DeviceIds.{bytes_of}
use Rattle.bench_script.specs.Messages.{message_of}
use Rattle.bench_devices.specs.declared.device.Device.{Device}
use Rattle.bench_devices.specs.declared.polling.SeenKind.{SeenKind}
use Rattle.bench_devices.specs.Device.{BenchWorld, air, device_id, device_store, may_be_read}
use Rattle.bench_devices.proofs.kinds.TagOrPeer.{told_read, of_read}
use Rattle.bench_devices.specs.Keeping.{fixed, held_by, images_of, AllKeepBut}
use Rattle.bench_devices.specs.Placed.{device_with, OfPlaced, IfPlaced}
use Rattle.bench_devices.specs.Writing.{ShowsWrite, KeepsWriteLaw}
use Rattle.bench_world.specs.declared.entry.Answer.{Answer}
use Rattle.bench_world.specs.declared.entry.Answer.TheVariants as answers
use Rattle.bench_world.specs.Answering.{TagEnds, TagTells, TellsFault, poll_answer}
use Rattle.bench_world.specs.Writing.{TellsTag, TellsWrite, KeepsStores, ending_told}
use Rattle.bench_world.specs.declared.entry.Entry.{Entry}
use Rattle.bench_world.specs.Legal.{State, Given, LegalStep, FrontOf, AnswerLaw, WritingLaw, world_after, state_after}
use Rattle.bench_world.proofs.tags.Fronts.{field_after}
use Rattle.bench_world.proofs.tags.Telling.{tells_either}
use Rattle.bench_world.proofs.tags.WriteTelling.{done_written}
use Rattle.bench_world.proofs.tags.WriteLegality.{found_named}
use Rattle.bench_world.proofs.devices.HeldOn.{own_found}

-- the last image is what the device holds at last
pub last_image : (id : List ℕ) (w : BenchWorld) (es : List Event) (store : List ℕ) → last_store store (images_of id w es) ≡ held_by (device_with id (replay air w es).listeners)
last_image id w [] store = refl
last_image id w (e ∷ es) store = last_image id (air.happens w e) es (held_by (device_with id w.listeners))

-- An answer that tells of no fault tells of the device.
pub told_of : (Tells : Device → Answer → Type 0) (id : DeviceId) (ds : List Device) (asked : List Signal) (answer : Answer) (d : Device) → device_with (bytes_of id) ds ≡ Some d
    → ((e : PollFault) → poll_answer e ≡ Some answer → ⊥) → ((e : AskFault) → TellsFault e answer → ⊥) → (r : Result SeenKind PollFault) (behind : List Note)
    → TagEnds Tells id ds asked r behind answer → Tells d answer
told_of Tells id ds asked answer d found polled failed (Ok kind) behind ends =
    tells_either (λ a. OfPlaced (λ x. Tells x a) (device_with (bytes_of id) ds)) TellsFault answer (Tells d answer) (λ t. subst (λ o. OfPlaced (λ x. Tells x answer) o) found t)
    (λ e f. absurd (failed e f)) kind asked behind ends
told_of Tells id ds asked answer d found polled failed (Err e) behind ends = absurd (polled e ends)

-- a success is no fault
pub written_polled : (e : PollFault) → poll_answer e ≡ Some answers.Written → ⊥
written_polled faults.Nobody h = cc
written_polled faults.Disturbed h = cc
written_polled faults.FieldLost h = cc
written_polled faults.Memory h = cc
written_polled faults.NotFound h = cc
written_polled faults.BadAnswer h = cc

pub written_failed : (e : AskFault) → TellsFault e answers.Written → ⊥
written_failed asking.FieldLost h = cc
written_failed asking.SixBad h = cc
written_failed asking.Memory h = h
written_failed asking.Protocol h = h

-- lists of stores
pub last_all : (R : List ℕ → Type 0) (start : List ℕ) (xs : List (List ℕ)) → R start → AllByRecursion R xs → R (last_store start xs)
last_all R start [] r all = r
last_all R start (x ∷ xs) r all = last_all R x xs all.0 all.1

pub all_as : (P R : List ℕ → Type 0) → ((s : List ℕ) → P s → R s) → (xs : List (List ℕ)) → AllByRecursion P xs → AllByRecursion R xs
all_as P R says [] all = tt
all_as P R says (x ∷ xs) all = (says x all.0, all_as P R says xs all.1)

pub all_both : (R : List ℕ → Type 0) (xs ys : List (List ℕ)) → AllByRecursion R xs → AllByRecursion R ys → AllByRecursion R (xs ++ ys)
all_both R [] ys a b = b
all_both R (x ∷ xs) ys a b = (a.0, all_both R xs ys a.1 b)

pub all_three : (P Q S R : List ℕ → Type 0) → ((s : List ℕ) → P s → R s) → ((s : List ℕ) → Q s → R s) → ((s : List ℕ) → S s → R s) → (xs : List (List ℕ)) → PassInThree P Q S xs → AllByRecursion R xs
all_three P Q S R p q s xs t =
    subst (AllByRecursion R) (sym t.joined)
    (all_both R t.before (t.during ++ t.behind) (all_as P R p t.before t.olds) (all_both R t.during t.behind (all_as Q R q t.during t.empties) (all_as S R s t.behind t.news)))

-- the stores that the tag passes, and the last of them
abbrev pub images_behind : Device → State → Entry → List (List ℕ)
images_behind tag s e = images_of (device_id tag) s.world.field e.events

abbrev pub last_behind : Device → State → Entry → List ℕ
last_behind tag s e = last_store (device_store tag) (images_behind tag s e)

-- Where it was a success: what it is by the tag's store.
pub record Done (tag : Device) (m : Msg) : Type 0 where
  pub is_one : may_be_read tag ≡ true
  pub shows : ShowsWrite (message_of m) tag (Ok tt)

-- The tag is there still, the same but for its store, which is the last that it passed; they keep the law of a write.
pub record Behind (id : DeviceId) (tag : Device) (m : Msg) (s t : State) (e : Entry) : Type 0 where
  pub device : Device
  pub there : device_with (bytes_of id) t.world.field.listeners ≡ Some device
  pub same : fixed device ≡ fixed tag
  pub store : device_store device ≡ last_behind tag s e
  pub keeps : may_be_read tag ≡ true → KeepsWriteLaw (message_of m) tag (ending_told e.answer) s.world.field e.events
  pub done : e.answer ≡ answers.Written → Done tag m

module _ (id : DeviceId) (tag : Device) (m : Msg) (s t : State) (g : Given) (e : Entry) (placed : device_with (bytes_of id) s.world.field.listeners ≡ Some tag) (step : LegalStep s g e t)
    (writing : e.command ≡ Write id m) where
  law : WritingLaw s g.joins id m g.asked e.events e.answer
  law = let L : Command → Type 0 = λ c. AnswerLaw s g c e.events e.answer in subst L writing step.answered

  on_air : (world_after s g.joins (Write id m) e.events).field ≡ replay air s.world.field e.events
  on_air =
      let front : FrontOf s g (Write id m) e.events (Some e.answer) t = subst (λ c. FrontOf s g c e.events (Some e.answer) t) writing step.front in
      field_after s t g (Write id m) e.events (λ h. h) front

  found : (d : Device) × (device_with (bytes_of id) (replay air s.world.field e.events).listeners ≡ Some d) × (fixed d ≡ fixed tag)
  found =
      own_found (bytes_of id) (bytes_of id) s.world.field.listeners (replay air s.world.field e.events).listeners tag
      (subst (λ (w : BenchWorld). AllKeepBut (bytes_of id) s.world.field.listeners w.listeners) on_air law.stores.others) placed

  holds_last : device_store found.0 ≡ last_behind tag s e
  holds_last =
      let named : device_id tag ≡ bytes_of id = found_named (bytes_of id) s.world.field.listeners tag placed in
      sym (ap held_by found.1) ∙ ap (λ i. held_by (device_with i (replay air s.world.field e.events).listeners)) (sym named)
      ∙ sym (last_image (device_id tag) s.world.field e.events (device_store tag))

  found_there : device_with (bytes_of id) t.world.field.listeners ≡ Some found.0
  found_there =
      let after : t ≡ state_after s g.joins (Write id m) e.events (Some e.answer) = step.front.after ∙ ap (λ c. state_after s g.joins c e.events (Some e.answer)) writing in
      ap (λ (x : State). device_with (bytes_of id) x.world.field.listeners) after ∙ ap (λ (w : BenchWorld). device_with (bytes_of id) w.listeners) on_air ∙ found.1

  keeps_law : may_be_read tag ≡ true → KeepsWriteLaw (message_of m) tag (ending_told e.answer) s.world.field e.events
  keeps_law is_one = of_read tag is_one _ _ (subst (λ o. IfPlaced (λ d. KeepsStores (message_of m) d (ending_told e.answer) s.world.field e.events) (Unit {0}) o) placed law.stores.law)

  no_wrong : answers.Written ≡ answers.WrongKind → ⊥
  no_wrong e = cc

  is_done : e.answer ≡ answers.Written → Done tag m
  is_done written =
      let told : TagTells (TellsWrite (message_of m)) id s.world.field.listeners g.asked e.events answers.Written =
      subst (TagTells (TellsWrite (message_of m)) id s.world.field.listeners g.asked e.events) written law.tells in
      let by_tag : TellsWrite (message_of m) tag answers.Written =
      told_of (TellsWrite (message_of m)) id s.world.field.listeners g.asked answers.Written tag placed written_polled written_failed told.polled told.behind told.ends in
      let is_one : may_be_read tag ≡ true = told_read tag _ _ no_wrong by_tag in
      let tells : TellsTag (message_of m) tag answers.Written = of_read tag is_one _ _ by_tag in
      record { is_one = is_one; shows = subst (ShowsWrite (message_of m) tag) (done_written tells.0 tells.2) tells.1 }

  pub tag_behind : Behind id tag m s t e
  tag_behind = record { device = found.0; there = found_there; same = found.2; store = holds_last; keeps = keeps_law; done = is_done }
