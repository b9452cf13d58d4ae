-- On quiet air no reception is bad but the silences of polling, and a script without noise comes to what it should.
use Rattle.bench_world.specs.Legal.{ForgeLaw}
use Rattle.std.proofs.Common.{◌≡◌, ◌⊎◌, inl, inr, ℕ, List, [], ◌∷◌, ◌++◌, true, false, Option, Some, None, IsSome, Ok, refl, sym, ◌∙◌, ap, subst}
use Rattle.std.specs.List.{AllByRecursion}
use Rattle.nfc_base.specs.Signal.{Signal}
use Rattle.nfc_base.specs.LinkTurns.{bad_receptions}
use Rattle.nfc_base.specs.Trace.{noise}
use Rattle.nfc_base.specs.declared.event.Fate.{Fate}
use Rattle.air_core.specs.Conversation.{Note, Next, LightUp, AreTurns, FatesFrom, EachDue, Moment, receptions}
use Rattle.bench_script.specs.declared.command.Command.{Command}
use Rattle.bench_script.specs.declared.command.Command.TheVariants.{Skip, Fates, PlaceT2, PlaceT3, PlaceT4, PlaceT5, PlacePeer, Lock, Busy, Offer, Remove, Dump, Inbox, Find, Crowd, Poll3, Read, Read3}
use Rattle.bench_script.specs.declared.command.Command.TheVariants.{Write, Write3, Link, Forge, Raw, Put, Get, Lookup, OnPut, OnGet, Puts, Unlink}
use Rattle.bench_script.specs.declared.command.DeviceId.{DeviceId}
use Rattle.bench_script.specs.declared.command.DeviceId.TheVariants.{A, V}
use Rattle.bench_script.specs.declared.message.Msg.{Msg}
use Rattle.bench_script.specs.DeviceIds.{bytes_of}
use Rattle.bench_script.specs.Messages.{message_of}
use Rattle.bench_script.specs.Script.{Spells, SpellsId}
use Rattle.tag_reader.specs.Asked.{ToRead}
use Rattle.bench_devices.specs.declared.device.Device.{Device}
use Rattle.bench_devices.specs.Device.{BenchWorld, air, how_of, kind_of, may_be_read}
use Rattle.bench_devices.proofs.kinds.TagOrPeer.{read_or_not, of_read, of_unread, either_if}
use Rattle.isodep_link.proofs.Heeding.{AreBytes}
use Rattle.bench_world.specs.Reading.{ReadAsks}
use Rattle.bench_world.specs.Writing.{WriteAsks}
use Rattle.bench_devices.specs.Hearing.{IsAnswered}
use Rattle.bench_devices.specs.Keeping.{Kept, kept, IsSound}
use Rattle.bench_devices.specs.Placed.{IfPlaced, device_with}
use Rattle.bench_devices.specs.TagAsking.{tag_due}
use Rattle.bench_devices.proofs.selected.PlainHeard.{IsHeeded}
use Rattle.bench_devices.proofs.reads.ReadHeeded.{asked_heeded}
use Rattle.bench_devices.proofs.selected.SelectedHeard.{Heed, IsId, tag_hears}
use Rattle.bench_devices.proofs.writes.WriteHeeded.{write_heeded}
use Rattle.bench_world.specs.declared.entry.Answer.TheVariants as answers
use Rattle.bench_world.specs.declared.entry.Entry.{Entry}
use Rattle.bench_world.specs.Journal.{asking_lines}
use Rattle.bench_world.proofs.tags.Numbers.{UsesFars}
use Rattle.link_calls.specs.Asking.{LinkAsking}
use Rattle.bench_world.specs.Asked.{IsOnLink, asked_on_link}
use Rattle.bench_world.specs.Calls.{IfLinked, due_asked, due_if}
use Rattle.bench_world.specs.Links.{OpenLink}
use Rattle.bench_world.specs.Legal.{State, Given, LegalStep, AnswerLaw, LinkingLaw, AnswerBy, CallLaw, IsAskedBy, changed, due, due_by, first_state}
use Rattle.bench_world.specs.Quiet.{AllPass}
use Rattle.bench_world.specs.QuietHearing.{AllAlong, selected_by, AnswersAll, IsWellHeard, IsHeardIfQuiet, IsQuietLine, IsQuietEntry, QuietHears, QuietScript}
use Rattle.bench_world.proofs.calm.Complete.{of_first}
use Rattle.bench_world.proofs.calm.CompleteForging.{forges_quietly}
use Rattle.bench_world.proofs.calm.CompleteRaws.{raws_quietly}
use Rattle.bench_world.proofs.calm.CompleteLinkings.{links_quietly}
use Rattle.bench_world.proofs.tags.Fronts.{on_field}
use Rattle.bench_world.proofs.devices.Placing.{IsWith, is_with, with_sound}
use Rattle.bench_world.proofs.calm.ThreesComplete.{quiet_threes_read, quiet_threes_write, quiet_threes_written}
use Rattle.bench_world.specs.Threes.{AreWellStored}
use Rattle.bench_world.proofs.tags.SoughtHeard.{sought_answered}
use Rattle.bench_world.proofs.devices.WellStored.{stored_step}
use Rattle.bench_world.proofs.calm.Quiet.{quiet_stays, quiet_reads, quiet_writes, quiet_finds, quiet_tags, quiet_threes}
use Rattle.bench_world.proofs.calm.QuietLinks.{quiet_talks}
use Rattle.bench_world.proofs.calm.Written.{told_written}
use Rattle.bench_world.proofs.calm.WholeNotes.{all_unharmed, nothing_asked, whole_notes}
use Rattle.bench_world.proofs.open_link.Talks.{never_lit, off}
use Rattle.bench_world.proofs.lines.OneAnswer.{one_end}
use Rattle.bench_world.proofs.devices.Reached.{IsReadable, IsReady, message_bytes, ready_step, along, asking_all, first_ready}

-- The device that a command selects and then asks heeds what is asked.
abbrev start : State → Moment BenchWorld
start s = record { world = s.world.field; queue = s.queue; trace = [] }

heed : (s : State) (r : IsReady s.world.field.listeners) (id : DeviceId) (asked : List Signal) (Asks : Device → Type 0)
    → ((d : Device) → IsSound (kept d) → IsReadable d → Asks d → AllByRecursion (IsHeeded (how_of d)) asked)
    → IfPlaced Asks (asked ≡ []) (device_with (bytes_of id) s.world.field.listeners) → Heed asked (start s) r.tame r.tidy id
heed s r id asked Asks each asks d before behind split named =
    let w : IsWith s.world.field.listeners (bytes_of id) (kept d) = is_with s.world.field.listeners before (kept d) behind (bytes_of id) r.tame.sound split named in
    let here : Asks w.device = subst (λ o. IfPlaced Asks (asked ≡ []) o) w.found asks in
    let readable : IsReadable w.device = of_first IsReadable (bytes_of id) s.world.field.listeners w.device r.readable w.found in
    subst (λ (k : Kept). AllByRecursion (IsHeeded k.fixed.how) asked) w.same (each w.device (with_sound s.world.field.listeners (bytes_of id) w.device r.tame.sound w.found) readable here)

-- it heeds what a write asks of it, and nothing is asked of a peer
writes_heeded : (message : List ℕ) (d : Device) → (may_be_read d ≡ true) ⊎ (may_be_read d ≡ false) → (asked : List Signal) → IsSound (kept d) → IsReadable d → AreBytes message
    → WriteAsks message d asked
    → AllByRecursion (IsHeeded (how_of d)) asked
writes_heeded message d (inl tag) asked sound readable bytes asks = write_heeded message d asked tag sound readable bytes (of_read d tag _ _ asks)
writes_heeded message d (inr peer) asked sound readable bytes asks =
    subst (AllByRecursion (IsHeeded (how_of d))) (sym (of_unread d peer _ _ asks)) tt

-- a line names a device by an identifier that one may have
spelled_id : (s : State) (r : IsReady s.world.field.listeners) (asked : List Signal) (word : List ℕ) (id : DeviceId) → SpellsId word id → IsId asked (start s) r.tame r.tidy id
spelled_id s r asked word (A id) sp = sp.1
spelled_id s r asked word (V id) sp = sp.1

module _ (s t : State) (g : Given) (line : List ℕ) (e : Entry) (r : IsReady s.world.field.listeners) (well : AreWellStored s.world.field.listeners) (sp : Spells line e.command)
    (step : LegalStep s g e t)
    (pass : AllPass (changed s e.command).queue) where
  -- a command that itself changes nothing, selects a tag and asks it what it heeds
  tag_answered : (id : DeviceId) → (UsesFars e.command → ⊥) → (changed s e.command).queue ≡ s.queue → (changed s e.command).world.field ≡ s.world.field → due s g e.command ≡ tag_due id g.asked
      → IsId g.asked (start s) r.tame r.tidy id → Heed g.asked (start s) r.tame r.tidy id → AnswersAll id e
  tag_answered id quiet queue same next named heeds kind since told =
      tag_hears g.asked (start s) r.tame r.tidy id named heeds e.events (subst (λ q. AllPass q) queue pass)
      (subst (λ (w : BenchWorld). AreTurns air w e.events) same (on_field s t g e.command e.events quiet step.front).turns)
      (subst (λ q. FatesFrom q e.events) queue step.front.fates) (subst (λ d. EachDue d [] e.events) next step.front.each) kind since told

  read_answered : (id : DeviceId) → e.command ≡ Read id → AnswersAll id e
  read_answered id is =
      let spelled : Spells line (Read id) = let C : Command → Type 0 = λ c. Spells line c in subst C is sp in
      tag_answered id (λ h. subst UsesFars is h) (ap (λ c. (changed s c).queue) is) (ap (λ c. (changed s c).world.field) is) (ap (λ c. due s g c) is) (spelled_id s r g.asked spelled.0 id spelled.2)
      (heed s r id g.asked (λ d. ReadAsks d g.asked)
      (λ d sound bytes asks. either_if (kind_of d) _ _ _ (λ p. asked_heeded ToRead d g.asked sound bytes p) (λ none. subst (AllByRecursion (IsHeeded (how_of d))) (sym none) tt) asks)
      (subst (λ c. IsAskedBy s c g.asked) is step.front.asks))

  write_answered : (id : DeviceId) (m : Msg) → e.command ≡ Write id m → AnswersAll id e
  write_answered id m is =
      let spelled : Spells line (Write id m) = let C : Command → Type 0 = λ c. Spells line c in subst C is sp in
      tag_answered id (λ h. subst UsesFars is h) (ap (λ c. (changed s c).queue) is) (ap (λ c. (changed s c).world.field) is) (ap (λ c. due s g c) is) (spelled_id s r g.asked spelled.0 id spelled.3)
      (heed s r id g.asked (λ d. WriteAsks (message_of m) d g.asked)
      (λ d sound bytes asks. writes_heeded (message_of m) d (read_or_not d) g.asked sound bytes (message_bytes spelled.1 m spelled.4) asks)
      (subst (λ c. IsAskedBy s c g.asked) is step.front.asks))

  none : noise e.events ≡ 0
  none = (quiet_stays s t g e step pass).0

  link_answered : (i : List ℕ) (miu window : ℕ) → e.command ≡ Link i miu window → AnswersAll (A i) e
  link_answered i miu window is kind since told =
      let law : LinkingLaw s g.joins i miu window e.events e.answer = (let L : Command → Type 0 = λ c. AnswerLaw s g c e.events e.answer in subst L is step.answered) in
      let same = one_end law.tells.polled (Ok kind) law.tells.behind since (sym law.tells.selected ∙ told) in
      subst (AllByRecursion IsAnswered) same.1 (law.tells.calm none)

  forge_answered : (i : List ℕ) (payloads : List (List ℕ)) → e.command ≡ Forge i payloads → AnswersAll (A i) e
  forge_answered i payloads is kind since told =
      let law : ForgeLaw s g.joins i payloads e.events e.answer = (let L : Command → Type 0 = λ c. AnswerLaw s g c e.events e.answer in subst L is step.answered) in
      let same = one_end law.tells.polled (Ok kind) law.tells.behind since (sym law.tells.selected ∙ told) in
      subst (AllByRecursion IsAnswered) same.1 (law.tells.calm none)

  -- on the open link each is one; where none is open nothing is asked
  on_link : (next : OpenLink → List Note → Next) (Is : OpenLink → Type 0) (Else : Type 0) (o : Option OpenLink) → ((l : OpenLink) (ns : List Note) → next l ns ≡ LightUp → ⊥)
      → ((l : OpenLink) → Is l → bad_receptions e.events ≡ 0)
      → IfLinked o Is Else → EachDue (λ ns. due_if o (λ l. next l ns)) [] e.events → AllByRecursion IsAnswered (receptions e.events)
  on_link next Is Else None never calm law each = subst (AllByRecursion IsAnswered) (sym (nothing_asked [] e.events each)) tt
  on_link next Is Else (Some l) never calm law each = whole_notes (next l) (never l) [] e.events each none (calm l law)

  -- as the command is one of these
  abbrev lawful : Command → Type 0
  lawful c = AnswerLaw s g c e.events e.answer

  abbrev asked : Command → Type 0
  asked c = EachDue (due s g c) [] e.events

  talk_heard : (asking : LinkAsking) (c : Command) → asked_on_link c ≡ Some asking → lawful c → asked c → AllByRecursion IsAnswered (receptions e.events)
  talk_heard asking c asks law each =
      on_link (λ l ns. due_asked asking l g.joins.own ns) (λ l. CallLaw s g.joins l asking c e.events e.answer) (e.answer ≡ answers.NoLink) s.link
      (λ l ns. never_lit asking l g.joins.own ns) (λ l h. h.told.calm none) (subst (λ o. AnswerBy o s g c e.events e.answer) asks law)
      (subst (λ o. EachDue (λ ns. due_by o s g c ns) [] e.events) asks each)

  talked : (c : Command) → lawful c → asked c → IsOnLink c → AllByRecursion IsAnswered (receptions e.events)
  talked c law each on = by (asked_on_link c) refl on
    where
      by : (o : Option LinkAsking) → asked_on_link c ≡ o → IsSome o → AllByRecursion IsAnswered (receptions e.events)
      by None asks some = off some
      by (Some asking) asks some = talk_heard asking c asks law each

  by_command : (c : Command) → e.command ≡ c → (id : DeviceId) → selected_by c ≡ Some id → AnswersAll id e
  by_command Skip is id of = absurd cc
  by_command (Fates fates) is id of = absurd cc
  by_command (PlaceT2 i blocks head) is id of = absurd cc
  by_command (PlaceT3 i blocks head) is id of = absurd cc
  by_command (PlaceT4 i code container head) is id of = absurd cc
  by_command (PlaceT5 i blocks size head) is id of = absurd cc
  by_command (PlacePeer i lr miu rw limit) is id of = absurd cc
  by_command (Lock i block) is id of = absurd cc
  by_command (Busy i count times) is id of = absurd cc
  by_command (Offer i key value) is id of = absurd cc
  by_command (Remove i) is id of = absurd cc
  by_command (Dump i) is id of = absurd cc
  by_command (Inbox i) is id of = absurd cc
  by_command Find is id of = absurd cc
  by_command Crowd is id of = absurd cc
  by_command Poll3 is id of = absurd cc
  by_command (Read3 i) is id of = absurd cc
  by_command (Write3 i m) is id of = absurd cc
  by_command (Link i miu window) is id of = let same : A i ≡ id = cc in subst (λ x. AnswersAll x e) same (link_answered i miu window is)
  by_command (Forge i payloads) is id of = let same : A i ≡ id = cc in subst (λ x. AnswersAll x e) same (forge_answered i payloads is)
  by_command (Raw i frames) is id of = absurd cc
  by_command (OnPut slot m) is id of = absurd cc
  by_command (OnGet slot most key) is id of = absurd cc
  by_command (Puts puts) is id of = absurd cc
  by_command (Put m) is id of = absurd cc
  by_command (Get most key) is id of = absurd cc
  by_command (Lookup name) is id of = absurd cc
  by_command Unlink is id of = absurd cc
  by_command (Read i) is id of = let same : i ≡ id = cc in read_answered id (is ∙ ap Read same)
  by_command (Write i m) is id of = let same : i ≡ id = cc in write_answered id m (is ∙ ap (λ x. Write x m) same)

  well_heard : IsWellHeard e
  well_heard = record {
    unharmed = all_unharmed e.events none;
    answered = λ id of. by_command e.command refl id of;
    sought = sought_answered s t g line e r well sp step pass;
    talks = talked e.command step.answered step.front.each;
  }

-- Each entry is heard so from which on all passes.
abbrev IsAny : List ℕ → Type 0
IsAny line = Unit {0}

any_line : (lines : List (List ℕ)) → AllByRecursion IsAny lines
any_line [] = tt
any_line (l ∷ ls) = (tt, any_line ls)

pub quiet_hears : QuietHears
quiet_hears lines numbers journal last leads =
    subst (λ ns. AllAlong IsHeardIfQuiet first_state ns journal) leads.joins (along (λ s. IsReady s.world.field.listeners × AreWellStored s.world.field.listeners) IsAny IsHeardIfQuiet
    (λ s t g line e r any sp step. (λ pass. well_heard s t g line e r.0 r.1 sp step pass, (ready_step s t g line e sp step r.0, stored_step s t g e step r.0.tame.sound r.1)))
    (asking_lines 1 lines) first_state last leads.given journal (first_ready, tt) (asking_all IsAny 1 lines (any_line lines)) leads.numbered leads.steps)

-- A script without noise.
record IsCalm (s : State) : Type 0 where
  pub ready : IsReady s.world.field.listeners
  pub well : AreWellStored s.world.field.listeners
  pub queue : AllPass s.queue

join_pass : (xs ys : List Fate) → AllPass xs → AllPass ys → AllPass (xs ++ ys)
join_pass [] ys p q = q
join_pass (x ∷ xs) ys p q = (p.0, join_pass xs ys p.1 q)

passes_still : (s : State) (line : List ℕ) (c : Command) → AllPass s.queue → IsQuietLine line → Spells line c → AllPass (changed s c).queue
passes_still s line Skip h q sp = h
passes_still s line (Fates fates) h q sp = join_pass s.queue fates h (q fates sp)
passes_still s line (PlaceT2 id blocks head) h q sp = h
passes_still s line (PlaceT3 id blocks head) h q sp = h
passes_still s line (PlaceT4 id code container head) h q sp = h
passes_still s line (PlaceT5 id blocks size head) h q sp = h
passes_still s line (PlacePeer id lr miu rw limit) h q sp = h
passes_still s line (Lock id block) h q sp = h
passes_still s line (Busy id count times) h q sp = h
passes_still s line (Offer id key value) h q sp = h
passes_still s line (Remove id) h q sp = h
passes_still s line (Dump id) h q sp = h
passes_still s line (Inbox id) h q sp = h
passes_still s line Find h q sp = h
passes_still s line Crowd h q sp = h
passes_still s line Poll3 h q sp = h
passes_still s line (Read3 id) h q sp = h
passes_still s line (Write3 id m) h q sp = h
passes_still s line (Read id) h q sp = h
passes_still s line (Write id m) h q sp = h
passes_still s line (Link id miu window) h q sp = h
passes_still s line (Forge id payloads) h q sp = h
passes_still s line (Raw id frames) h q sp = h
passes_still s line (OnPut slot m) h q sp = h
passes_still s line (OnGet slot most key) h q sp = h
passes_still s line (Puts puts) h q sp = h
passes_still s line (Put m) h q sp = h
passes_still s line (Get most key) h q sp = h
passes_still s line (Lookup name) h q sp = h
passes_still s line Unlink h q sp = h

quiet_entry : (s t : State) (g : Given) (line : List ℕ) (e : Entry) → IsCalm s → IsQuietLine line → Spells line e.command → LegalStep s g e t → IsQuietEntry s e t × IsCalm t
quiet_entry s t g line e calm q sp step =
    let pass : AllPass (changed s e.command).queue = passes_still s line e.command calm.queue q sp in
    let on = quiet_stays s t g e step pass in (
      record {
        quiet = on.0;
        hears = well_heard s t g line e calm.ready calm.well sp step pass;
        reads = λ id d r. quiet_reads s t g e id d step r.command r.placed r.named calm.queue;
        writes = λ id m d w. quiet_writes s t g e id m d step w.command w.placed w.named calm.queue;
        written = λ id m d w may. told_written s e id m d calm.ready w.placed (quiet_writes s t g e id m d step w.command w.placed w.named calm.queue) may;
        finds = λ is. quiet_finds s t g e step is calm.queue;
        tags = λ is. quiet_tags s t g e step is calm.queue;
        threes = λ is. quiet_threes s t g e step is calm.queue;
        reads3 = λ id d is p. quiet_threes_read s t g e id d step is p calm.queue;
        writes3 = λ id m d is p. quiet_threes_write s t g e id m d step is p calm.queue;
        written3 = λ id m d is p shows. quiet_threes_written s t g e id m d step is p calm.queue shows;
        links = links_quietly s t g e calm.ready step calm.queue;
        forges = forges_quietly s t g e calm.ready step calm.queue;
        raws = raws_quietly s t g e step calm.queue;
        talks = quiet_talks s t g e step calm.queue;
      },
      record { ready = ready_step s t g line e sp step calm.ready; well = stored_step s t g e step calm.ready.tame.sound calm.well; queue = on.1 },
    )

pub quiet_script : QuietScript
quiet_script lines numbers journal last leads quiet =
    subst (λ ns. AllAlong IsQuietEntry first_state ns journal) leads.joins (along IsCalm IsQuietLine IsQuietEntry quiet_entry (asking_lines 1 lines) first_state last leads.given journal
    (record { ready = first_ready; well = tt; queue = tt }) (asking_all IsQuietLine 1 lines quiet) leads.numbered leads.steps)
