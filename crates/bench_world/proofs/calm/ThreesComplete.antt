-- A read and a write of a Type 3 tag that noise doesn't keep from it answer as the tag stands, and a read behind a write tells what that left.
use Rattle.std.proofs.Common.{◌≡◌, ◌⊎◌, inl, inr, ℕ, ◌<◌, ◌≤◌, List, [], ◌∷◌, Bool, true, false, Some, Result, Ok, Err, refl, sym, ◌∙◌, ap, subst, arith}
use Rattle.nfc_base.specs.declared.event.Event.{Event}
use Rattle.nfc_base.specs.declared.tag_link.AskFault.{AskFault}
use Rattle.nfc_base.specs.declared.tag_link.AskFault.TheVariants as asking
use Rattle.nfc_base.specs.Signal.{Signal}
use Rattle.nfc_base.specs.Trace.{noise, breaks}
use Rattle.air_core.specs.Conversation.{Note, receptions, replay}
use Rattle.air_core.specs.Waits.{Standing, Asking, Broken, Astray, stand}
use Rattle.nfca_poll.specs.declared.fault.PollFault.{PollFault}
use Rattle.nfca_poll.specs.declared.fault.PollFault.TheVariants as faults
use Rattle.nfca_poll.specs.Inventory.{tries}
use Rattle.t3t_tag.specs.Form.{IsT3Form, T3Form, Message, Unfinished}
use Rattle.t3t_access.specs.OwnWriting.{IsBegun, IsNew}
use Rattle.t3t_access.specs.Polling.{sensf_req}
use Rattle.tag_writer.specs.Law.{last_store}
use Rattle.bench_script.specs.declared.command.Command.TheVariants.{Read3, Write3}
use Rattle.bench_script.specs.declared.command.DeviceId.TheVariants.{V}
use Rattle.bench_script.specs.declared.message.Msg.{Msg}
use Rattle.bench_script.specs.Messages.{message_of}
use Rattle.bench_devices.specs.declared.device.Device.{Device}
use Rattle.bench_devices.specs.declared.polling.SeenKind.TheVariants as seen
use Rattle.bench_devices.specs.Answering.{TellsStanding}
use Rattle.bench_devices.specs.Device.{BenchWorld, air, device_id, device_store, kind_of}
use Rattle.bench_devices.specs.Keeping.{AllKeepBut, Fixed, fixed, held_by, images_of}
use Rattle.bench_devices.specs.Kinds.{T3Kind}
use Rattle.bench_devices.specs.Noise.{noisy_tries}
use Rattle.bench_devices.specs.Placed.{IfPlaced, OfPlaced, device_with}
use Rattle.bench_devices.specs.Polling.{Told}
use Rattle.bench_devices.specs.Sensing.{AreNoisy, HasSought, IsNoThree, IsThree, found_if, has_three, seeking}
use Rattle.bench_devices.specs.Threes.{KeepsWrite3Law, ShowsThreeWriteOf}
use Rattle.bench_devices.proofs.finding.Sensed.{no_three}
use Rattle.bench_world.specs.declared.entry.Answer.{Answer}
use Rattle.bench_world.specs.declared.entry.Answer.TheVariants as answers
use Rattle.bench_world.specs.declared.entry.Entry.{Entry}
use Rattle.bench_world.specs.Answering.{TellsFault, poll_answer}
use Rattle.bench_world.specs.CompletingThrees.{HadSixBad3, IsPlaced3, IsUndisturbed3, OneOfTwo3IsRead, QuietThreesRead, QuietThreesWrite, QuietThreesWritten, Quiet3IsRead, ThreesRead, ThreesWrite}
use Rattle.bench_world.specs.CompletingThrees.{ThreesWritten, Undisturbed3IsRead, Written3IsRead, Written3IsWhole, Writes3ThenReads}
use Rattle.bench_world.specs.Legal.{AnswerLaw, FrontOf, Given, LegalStep, Read3Law, State, Writing3Law, state_after, world_after}
use Rattle.bench_world.specs.Quiet.{AllPass}
use Rattle.bench_world.specs.Threes.{KeepsStores3, TellsForm3, TellsRead3, TellsWrite3, ThreeEnds, ThreeTells, end_told}
use Rattle.bench_world.proofs.tags.Fronts.{field_after}
use Rattle.bench_world.proofs.devices.HeldOn.{IsAlike, own_found, steps_alike}
use Rattle.bench_world.proofs.lines.OneAnswer.{one_end}
use Rattle.bench_world.proofs.calm.Quiet.{few_noisy, no_breaks, no_noisy, quiet_of}
use Rattle.bench_world.proofs.tags.Telling.{tells_either}
use Rattle.bench_world.proofs.tags.ThreeLegality.{of_three, as_three, tech_three}
use Rattle.bench_world.proofs.tags.ThreeTelling.{begun_form, held_form, message_form, one_write_told, same_form}
use Rattle.bench_world.proofs.devices.WellStored.{with_all}
use Rattle.bench_world.proofs.calm.WriteBehind.{all_three, last_all, last_image}
use Rattle.bench_world.proofs.tags.WriteLegality.{found_named}

-- where it is placed, none of the devices isn't it
placed_there : (id : List ℕ) (ds : List Device) (d : Device) → device_with id ds ≡ Some d → kind_of d ≡ T3Kind → IsNoThree id ds → ⊥
placed_there id ds d found kind none = with_all (λ x. IsThree id x → ⊥) id ds d none found (tech_three d kind, found_named id ds d found)

pub is_there : (id : List ℕ) (ds : List Device) (d : Device) → device_with id ds ≡ Some d → kind_of d ≡ T3Kind → has_three id ds ≡ true
is_there id ds d found kind = by_value (has_three id ds) refl
  where
    by_value : (v : Bool) → has_three id ds ≡ v → has_three id ds ≡ true
    by_value true e = e
    by_value false e = absurd (placed_there id ds d found kind (no_three id ds e))

-- A command of a Type 3 tag that was kept from nothing tells of the tag.
module _ (Tells : Device → Answer → Type 0) (id : List ℕ) (ds : List Device) (asked : List Signal) (events : List Event) (answer : Answer) (t : ThreeTells Tells id ds asked events answer) (d : Device)
    (found : device_with id ds ≡ Some d) (kind : kind_of d ≡ T3Kind) where
  same_heard : found_if (has_three id ds) t.heard ≡ t.heard
  same_heard = ap (λ v. found_if v t.heard) (is_there id ds d found kind) ∙ by (t.heard)
    where
      by : (h : Result (Unit {0}) PollFault) → found_if true h ≡ h
      by (Ok x) = refl
      by (Err e) = refl

  abbrev Ends : Result (Unit {0}) PollFault → Type 0
  Ends r = ThreeEnds Tells id ds asked r t.behind answer

  says : OfPlaced (λ x. Tells x answer) (device_with id ds) → Tells d answer
  says h = subst (λ o. OfPlaced (λ x. Tells x answer) o) found h

  not_noisy : noisy_tries sensf_req events < tries → AreNoisy events → ⊥
  not_noisy calm n = let all : tries ≤ noisy_tries sensf_req events = n in omega (arith, all, calm)

  by_heard : (none : breaks events ≡ 0) → noisy_tries sensf_req events < tries → ((behind : List Note) → seeking id (receptions events) ≡ Told (Ok tt) behind → HadSixBad3 asked behind → ⊥)
      → (h : Result (Unit {0}) PollFault) → t.heard ≡ h → HasSought id ds h events → Ends h → Tells d answer
  by_heard none calm waits (Ok x) is cause ends = by_standing (stand 0 asked t.behind) refl ends
    where
      by_standing : (s : Standing) → stand 0 asked t.behind ≡ s → TellsStanding (λ a. OfPlaced (λ x. Tells x a) (device_with id ds)) TellsFault s answer → Tells d answer
      by_standing (Asking bad []) e h = says h
      by_standing (Asking bad (c ∷ cs)) e h = absurd h
      by_standing (Broken asking.FieldLost cs) e h = absurd (let some : 0 < breaks events = t.lost.0 h in omega (arith, none, some))
      by_standing (Broken asking.SixBad cs) e h = absurd (waits t.behind (t.sought ∙ ap (λ q. Told q t.behind) is) (cs, e))
      by_standing (Broken asking.Memory cs) e h = absurd h
      by_standing (Broken asking.Protocol cs) e h = absurd h
      by_standing Astray e h = absurd h
  by_heard none calm waits (Err faults.Nobody) is cause ends = absurd cause
  by_heard none calm waits (Err faults.Disturbed) is cause ends = absurd cause
  by_heard none calm waits (Err faults.FieldLost) is cause ends = absurd (let lost : answer ≡ answers.FieldLost = cc in let some : 0 < breaks events = t.lost.0 lost in omega (arith, none, some))
  by_heard none calm waits (Err faults.Memory) is cause ends = absurd cause
  by_heard none calm waits (Err faults.NotFound) is (inl missing) ends = absurd (placed_there id ds d found kind missing)
  by_heard none calm waits (Err faults.NotFound) is (inr noisy) ends = absurd (not_noisy calm noisy)
  by_heard none calm waits (Err faults.BadAnswer) is cause ends = absurd cause

  pub tells_undisturbed : IsUndisturbed3 id asked events → Tells d answer
  tells_undisturbed u =
      by_heard u.lit u.once u.waits t.heard refl (subst (λ q. HasSought id ds q events) same_heard t.cause) (subst Ends same_heard t.ends)

  -- without noise no wait has six bad receptions
  pub still_waits : noise events ≡ 0 → (behind : List Note) → seeking id (receptions events) ≡ Told (Ok tt) behind → HadSixBad3 asked behind → ⊥
  still_waits none behind told six =
      let same = one_end t.heard (Ok tt) t.behind behind (sym t.sought ∙ told) in
      let ends : ThreeEnds Tells id ds asked (Ok tt) behind answer =
      subst (λ ns. ThreeEnds Tells id ds asked (Ok tt) ns answer) same.1 (subst Ends (same_heard ∙ same.0) t.ends) in
      let is : answer ≡ answers.SixBad = subst (λ s. TellsStanding (λ a. OfPlaced (λ x. Tells x a) (device_with id ds)) TellsFault s answer) six.1 ends in
      let some : 0 < noise events = t.noisy is in
      omega (arith, none, some)

-- An answer that tells of no fault of polling or of a wait tells of the device.
told_three_of : (Tells : Device → Answer → Type 0) (id : List ℕ) (ds : List Device) (asked : List Signal) (events : List Event) (answer : Answer) → ThreeTells Tells id ds asked events answer
    → (d : Device)
    → device_with id ds ≡ Some d → ((e : PollFault) → poll_answer e ≡ Some answer → ⊥) → ((e : AskFault) → TellsFault e answer → ⊥) → Tells d answer
told_three_of Tells id ds asked events answer t d found polled failed = by_end (found_if (has_three id ds) t.heard) t.ends
  where
    by_end : (r : Result (Unit {0}) PollFault) → ThreeEnds Tells id ds asked r t.behind answer → Tells d answer
    by_end (Ok x) ends =
        tells_either (λ a. OfPlaced (λ x. Tells x a) (device_with id ds)) TellsFault answer (Tells d answer) (λ h. subst (λ o. OfPlaced (λ x. Tells x answer) o) found h)
        (λ e f. absurd (failed e f)) seen.T2 asked t.behind ends
    by_end (Err e) ends = absurd (polled e ends)

read_law : (s t : State) (g : Given) (e : Entry) (id : List ℕ) → LegalStep s g e t → e.command ≡ Read3 id → Read3Law s g.joins id g.asked e.events e.answer
read_law s t g e id step is = subst (λ c. AnswerLaw s g c e.events e.answer) is step.answered

write_law : (s t : State) (g : Given) (e : Entry) (id : List ℕ) (m : Msg) → LegalStep s g e t → e.command ≡ Write3 id m → Writing3Law s g.joins id m g.asked e.events e.answer
write_law s t g e id m step is = subst (λ c. AnswerLaw s g c e.events e.answer) is step.answered

pub threes_read : ThreesRead
threes_read s t g e id d step is p u =
    tells_undisturbed TellsRead3 id s.world.field.listeners g.asked e.events e.answer (read_law s t g e id step is).tells d p.found p.kind u

pub threes_write : ThreesWrite
threes_write s t g e id m d step is p u =
    tells_undisturbed (TellsWrite3 (message_of m)) id s.world.field.listeners g.asked e.events e.answer (write_law s t g e id m step is).tells d p.found p.kind u

-- where all is well it is a success
written_told : (m : List ℕ) (d : Device) (answer : Answer) → kind_of d ≡ T3Kind → ShowsThreeWriteOf m d (Ok tt) → TellsWrite3 m d answer → answer ≡ answers.Written
written_told m d answer kind shows told =
    one_write_told m d answer answers.Written told (as_three (kind_of d) kind _ ⊥ (record { end = Ok tt; shows = shows; told = refl }))

pub threes_written : ThreesWritten
threes_written s t g e id m d step is p u shows = written_told (message_of m) d e.answer p.kind shows (threes_write s t g e id m d step is p u)

-- So it is where no fate is left but Pass.
undisturbed : (es : List Event) (id : List ℕ) (asked : List Signal) → noise es ≡ 0 → ((behind : List Note) → seeking id (receptions es) ≡ Told (Ok tt) behind → HadSixBad3 asked behind → ⊥)
    → IsUndisturbed3 id asked es
undisturbed es id asked none waits = record { lit = no_breaks es none; once = few_noisy (noisy_tries sensf_req es) (no_noisy _ es none); waits = waits }

pub quiet_threes_read : QuietThreesRead
quiet_threes_read s t g e id d step is p pass =
    let none : noise e.events ≡ 0 = quiet_of s t g e (Read3 id) step is refl pass in
    let law = (read_law s t g e id step is).tells in
    threes_read s t g e id d step is p (undisturbed e.events id g.asked none (still_waits TellsRead3 id s.world.field.listeners g.asked e.events e.answer law d p.found p.kind none))

pub quiet_threes_write : QuietThreesWrite
quiet_threes_write s t g e id m d step is p pass =
    let none : noise e.events ≡ 0 = quiet_of s t g e (Write3 id m) step is refl pass in
    let law = (write_law s t g e id m step is).tells in
    threes_write s t g e id m d step is p
    (undisturbed e.events id g.asked none (still_waits (TellsWrite3 (message_of m)) id s.world.field.listeners g.asked e.events e.answer law d p.found p.kind none))

pub quiet_threes_written : QuietThreesWritten
quiet_threes_written s t g e id m d step is p pass shows = written_told (message_of m) d e.answer p.kind shows (quiet_threes_write s t g e id m d step is p pass)

-- A message is no fault of polling or of a wait, nor is what an unfinished write says.
message_polled : (m : List ℕ) (w : Bool) (e : PollFault) → poll_answer e ≡ Some (answers.Message m w) → ⊥
message_polled m w faults.Nobody h = cc
message_polled m w faults.Disturbed h = cc
message_polled m w faults.FieldLost h = cc
message_polled m w faults.Memory h = cc
message_polled m w faults.NotFound h = cc
message_polled m w faults.BadAnswer h = cc

message_failed : (m : List ℕ) (w : Bool) (e : AskFault) → TellsFault e (answers.Message m w) → ⊥
message_failed m w asking.FieldLost h = cc
message_failed m w asking.SixBad h = cc
message_failed m w asking.Memory h = h
message_failed m w asking.Protocol h = h

begun_polled : (e : PollFault) → poll_answer e ≡ Some answers.Unfinished → ⊥
begun_polled faults.Nobody h = cc
begun_polled faults.Disturbed h = cc
begun_polled faults.FieldLost h = cc
begun_polled faults.Memory h = cc
begun_polled faults.NotFound h = cc
begun_polled faults.BadAnswer h = cc

begun_failed : (e : AskFault) → TellsFault e answers.Unfinished → ⊥
begun_failed asking.FieldLost h = cc
begun_failed asking.SixBad h = cc
begun_failed asking.Memory h = h
begun_failed asking.Protocol h = h

-- A read behind a write: what it tells is the form of the store that the write left.
module _ (id : List ℕ) (tag : Device) (m : Msg) (answer told : Answer) (r : Writes3ThenReads id tag m answer told) where
  abbrev ds : List Device
  ds = r.before.world.field.listeners

  abbrev es : List Event
  es = r.write.events

  abbrev message : List ℕ
  message = message_of m

  law : Writing3Law r.before r.write_given.joins id m r.write_given.asked es r.write.answer
  law = write_law r.before r.written r.write_given r.write id m r.writes r.writing

  on_air : (world_after r.before r.write_given.joins (Write3 id m) es).field ≡ replay air r.before.world.field es
  on_air =
      let front : FrontOf r.before r.write_given (Write3 id m) es (Some r.write.answer) r.written =
      subst (λ c. FrontOf r.before r.write_given c es (Some r.write.answer) r.written) r.writing r.writes.front in
      field_after r.before r.written r.write_given (Write3 id m) es (λ h. h) front

  abbrev now : List Device
  now = (replay air r.before.world.field es).listeners

  found : (d : Device) × (device_with id now ≡ Some d) × (fixed d ≡ fixed tag)
  found = own_found id id ds now tag (subst (λ (w : BenchWorld). AllKeepBut id ds w.listeners) on_air law.stores.others) r.placed.found

  abbrev last : List ℕ
  last = last_store (device_store tag) (images_of (device_id tag) r.before.world.field es)

  holds_last : device_store found.0 ≡ last
  holds_last =
      let named : device_id tag ≡ id = found_named id ds tag r.placed.found in
      sym (ap held_by found.1) ∙ ap (λ i. held_by (device_with i now)) (sym named) ∙ sym (last_image (device_id tag) r.before.world.field es (device_store tag))

  found_there : device_with id r.written.world.field.listeners ≡ Some found.0
  found_there =
      let after : r.written ≡ state_after r.before r.write_given.joins (Write3 id m) es (Some r.write.answer) =
      r.writes.front.after ∙ ap (λ c. state_after r.before r.write_given.joins c es (Some r.write.answer)) r.writing in
      ap (λ (x : State). device_with id x.world.field.listeners) after ∙ ap (λ (w : BenchWorld). device_with id w.listeners) on_air ∙ found.1

  -- when it is read
  at_read : IsAlike id found.0 r.later.world.field.listeners
  at_read = steps_alike (V id) r.written r.later r.given r.between found.0 r.goes_on r.alone found_there

  kind_read : kind_of at_read.device ≡ T3Kind
  kind_read = at_read.alike.kind ∙ ap (λ (k : Fixed). k.kind) found.2 ∙ r.placed.kind

  store_read : device_store at_read.device ≡ last
  store_read = at_read.alike.store ∙ holds_last

  tells_read : ((e : PollFault) → poll_answer e ≡ Some told → ⊥) → ((e : AskFault) → TellsFault e told → ⊥) → TellsForm3 last told
  tells_read polled failed =
      let read : ThreeTells TellsRead3 id r.later.world.field.listeners r.read_given.asked r.read.events told =
      subst (ThreeTells TellsRead3 id r.later.world.field.listeners r.read_given.asked r.read.events) r.told' (read_law r.later r.after r.read_given r.read id r.reads r.reading).tells in
      let there : TellsRead3 at_read.device told = told_three_of TellsRead3 id r.later.world.field.listeners r.read_given.asked r.read.events told read at_read.device at_read.found polled failed in
      subst (λ s. TellsForm3 s told) store_read (of_three (kind_of at_read.device) kind_read _ ⊥ there)

  reads_placed : IsPlaced3 r.later id at_read.device
  reads_placed = record { found = at_read.found; kind = kind_read }

  pub tells_undisturbed_read : IsUndisturbed3 id r.read_given.asked r.read.events → TellsForm3 last told
  tells_undisturbed_read u =
      let there : TellsRead3 at_read.device told = subst (TellsRead3 at_read.device) r.told' (threes_read r.later r.after r.read_given r.read id at_read.device r.reads r.reading reads_placed u) in
      subst (λ s. TellsForm3 s told) store_read (of_three (kind_of at_read.device) kind_read _ ⊥ there)

  pub tells_quiet_read : AllPass r.later.queue → TellsForm3 last told
  tells_quiet_read pass =
      let there : TellsRead3 at_read.device told =
      subst (TellsRead3 at_read.device) r.told' (quiet_threes_read r.later r.after r.read_given r.read id at_read.device r.reads r.reading reads_placed pass) in
      subst (λ s. TellsForm3 s told) store_read (of_three (kind_of at_read.device) kind_read _ ⊥ there)

  keeps : KeepsWrite3Law message tag (end_told r.write.answer) r.before.world.field es
  keeps =
      of_three (kind_of tag) r.placed.kind _ _
      (subst (λ o. IfPlaced (λ d. KeepsStores3 message d (end_told r.write.answer) r.before.world.field es) (Unit {0}) o) r.placed.found law.stores.law)

  -- each store is the old one, says that a write is under way, or holds the message
  abbrev IsOneOf : List ℕ → Type 0
  IsOneOf s = (s ≡ device_store tag) ⊎ (IsT3Form s Unfinished ⊎ IsT3Form s (Message message))

  pub left : IsOneOf last
  left =
      last_all IsOneOf (device_store tag) (images_of (device_id tag) r.before.world.field es) (inl refl)
      (all_three (λ s. s ≡ device_store tag) (IsBegun message (device_store tag)) (IsNew message (device_store tag)) IsOneOf (λ s e. inl e) (λ s b. inr (inl b.form)) (λ s n. inr (inr n.form))
      (images_of (device_id tag) r.before.world.field es) keeps.three)

  -- behind a success it holds the message
  pub new_left : answer ≡ answers.Written → IsT3Form last (Message message)
  new_left done = new_form (subst (λ a. KeepsWrite3Law message tag (end_told a) r.before.world.field es) (r.answered ∙ done) keeps)
    where
      same_last : last_store (device_store tag) (images_of (device_id tag) r.before.world.field es) ≡ last
      same_last = refl

      new_form : KeepsWrite3Law message tag (Ok tt) r.before.world.field es → IsT3Form last (Message message)
      new_form k = k.leaves.form

same_message : (a b : List ℕ) → ◌≡◌ {A = T3Form} (Message a) (Message b) → a ≡ b
same_message a b e = cc

pub written_is_read_three : Written3IsRead
written_is_read_three id tag m message writable r =
    let told : Answer = answers.Message message writable in
    let store : List ℕ = last id tag m answers.Written told r in
    let here : IsT3Form store (Message message) =
    message_form store message writable (tells_read id tag m answers.Written told r (message_polled message writable) (message_failed message writable)) in
    same_message message (message_of m) (same_form store (Message message) (Message (message_of m)) here (new_left id tag m answers.Written told r refl))

pub written_is_whole_three : Written3IsWhole
written_is_whole_three id tag m r =
    let store : List ℕ = last id tag m answers.Written answers.Unfinished r in
    let here : IsT3Form store Unfinished = begun_form store (tells_read id tag m answers.Written answers.Unfinished r begun_polled begun_failed) in
    let clash : Unfinished ≡ Message (message_of m) = same_form store Unfinished (Message (message_of m)) here (new_left id tag m answers.Written answers.Unfinished r refl) in
    cc

pub one_of_two_three : OneOfTwo3IsRead
one_of_two_three id tag m answer message writable r = by_left (left id tag m answer (answers.Message message writable) r)
  where
    here : IsT3Form (last id tag m answer (answers.Message message writable) r) (Message message)
    here =
        message_form (last id tag m answer (answers.Message message writable) r) message writable
        (tells_read id tag m answer (answers.Message message writable) r (message_polled message writable) (message_failed message writable))

    by_left : (last id tag m answer (answers.Message message writable) r ≡ device_store tag)
        ⊎ (IsT3Form (last id tag m answer (answers.Message message writable) r) Unfinished ⊎ IsT3Form (last id tag m answer (answers.Message message writable) r) (Message (message_of m)))
        → IsT3Form (device_store tag) (Message message) ⊎ (message ≡ message_of m)
    by_left (inl old) = inl (subst (λ s. IsT3Form s (Message message)) old here)
    by_left (inr (inl begun)) = absurd (let clash : Message message ≡ Unfinished = same_form (last id tag m answer (answers.Message message writable) r) (Message message) Unfinished here begun in cc)
    by_left (inr (inr new)) = inr (same_message message (message_of m) (same_form (last id tag m answer (answers.Message message writable) r) (Message message) (Message (message_of m)) here new))

pub undisturbed_is_read_three : Undisturbed3IsRead
undisturbed_is_read_three id tag m told r u =
    held_form (last id tag m answers.Written told r) (message_of m) told (new_left id tag m answers.Written told r refl) (tells_undisturbed_read id tag m answers.Written told r u)

pub quiet_is_read_three : Quiet3IsRead
quiet_is_read_three id tag m told r pass =
    held_form (last id tag m answers.Written told r) (message_of m) told (new_left id tag m answers.Written told r refl) (tells_quiet_read id tag m answers.Written told r pass)
