-- The lines of a script have at most one legal journal, by the same numbers of PDUs, whatever its fates are.
use Rattle.std.proofs.lemmas.Bool.{cases_lt}
use Rattle.std.proofs.Common.{◌⊎◌, inl, inr, ◌<◌, Bool, arith, ◌≡◌, ℕ, ◌+◌, List, [], ◌∷◌, map, length, Option, Some, None, refl, sym, ◌∙◌, ap, subst}
use Rattle.nfc_base.specs.Signal.{Signal}
use Rattle.nfc_base.specs.declared.event.Event.{Event}
use Rattle.air_core.specs.Conversation.{Over, receptions}
use Rattle.bench_script.specs.declared.command.Command.{Command}
use Rattle.bench_script.specs.declared.command.Command.TheVariants as commands
use Rattle.bench_script.specs.declared.command.Command.TheVariants.{Skip, Fates, PlaceT2, PlaceT3, PlaceT4, PlaceT5, PlacePeer, Lock, Busy, Offer, Remove, Dump, Inbox, Find, Crowd, Poll3, Read, Read3}
use Rattle.bench_script.specs.declared.command.Command.TheVariants.{Write, Write3, Link, Forge, Raw, Put, Get, Lookup, OnPut, OnGet, Unlink}
use Rattle.bench_devices.specs.declared.device.Device.{Device}
use Rattle.bench_world.specs.Alike.{IsToldSame}
use Rattle.bench_world.specs.Asked.{asked_on_link, slot_messages}
use Rattle.bench_world.specs.declared.entry.Answer.{Answer}
use Rattle.bench_world.specs.declared.entry.Answer.TheVariants.{Store}
use Rattle.bench_world.specs.declared.entry.Entry.{Entry}
use Rattle.std.specs.Prelude.{◌≤◌}
use Rattle.t3t_tag.specs.Store.{attributes}
use Rattle.t3t_access.specs.OwnWriting.{IsPutDue}
use Rattle.t3t_access.specs.Reading.{IsDue, first_checks}
use Rattle.t3t_access.specs.Writing.{first_asked}
use Rattle.bench_devices.specs.Kinds.{DeviceKind, T2Kind, T3Kind, T4Kind, PeerKind, T5Kind}
use Rattle.bench_devices.specs.Threes.{ReadAsksThree, WriteAsksThree, WriteAsksThreeOf}
use Rattle.bench_world.specs.Threes.{IfThree, TellsRead3, TellsWrite3}
use Rattle.bench_world.proofs.tags.ThreeTelling.{one_read_told, one_write_told}
use Rattle.bench_devices.specs.Device.{device_locks, device_store, device_commands, how_of, size_of, memory_in, kind_of}
use Rattle.bench_devices.proofs.kinds.TagOrPeer.{one_if}
use Rattle.bench_world.specs.Reading.{ReadAsks}
use Rattle.bench_world.specs.Writing.{WriteAsks}
use Rattle.bench_script.specs.DeviceIds.{bytes_of}
use Rattle.bench_devices.specs.Placed.{device_with, OfPlaced, IfPlaced}
use Rattle.bench_devices.specs.Reading.{AsksOf}
use Rattle.bench_devices.specs.Writing.{AsksWriteOf}
use Rattle.bench_script.specs.Messages.{message_of}
use Rattle.nfc_base.specs.TagLinks.{plain_state}
use Rattle.tag_writer.proofs.OneWrite.{one_write as one_write_list}
use Rattle.bench_world.specs.Legal.{State, Given, Joins, IsAskedBy, AnswerBy, AnswerLaw, CallLaw, FrontOf, EachLegal, world_at_start, changed, due, state_after, first_state}
use Rattle.snep_core.specs.Talk.{client_sap, sap_of_slot}
use Rattle.bench_script.specs.declared.command.DeviceId.TheVariants.{A}
use Rattle.link_calls.specs.Asking.{LinkAsking, Does, Closes, Finding, Getting, put_from, Putting}
use Rattle.bench_world.specs.Calls.{IsTold, told_asked}
use Rattle.bench_world.specs.Linking.{own_general}
use Rattle.bench_world.specs.World.{bench_air}
use Rattle.bench_world.specs.Journal.{NumberedLine, AreEntriesOf, asking_lines, LeadsTo}
use Rattle.bench_world.specs.private.SameCommands.{SameCommands}
use Rattle.bench_script.proofs.Spelling.{spells_one}
use Rattle.tag_reader.proofs.Lists.{one_list}
use Rattle.bench_world.proofs.lines.OneAnswer.{one_read, one_write, one_find, one_tags, one_three, one_threes, one_forge, one_raw, one_link, one_told_so, one_linked}
use Rattle.air_core.proofs.OneCourse.{one_course}

one_asked_of : (o : Option Device) (a b : List Signal) → IfPlaced (λ d. ReadAsks d a) (a ≡ []) o → IfPlaced (λ d. ReadAsks d b) (b ≡ []) o → a ≡ b
one_asked_of None a b p q = p ∙ sym q
one_asked_of (Some d) a b p q = one_if (kind_of d) (AsksOf d) [] (one_list (how_of d) (size_of d) (device_store d)) a b p q

one_written_of : (message : List ℕ) (o : Option Device) (a b : List Signal) → IfPlaced (λ d. WriteAsks message d a) (a ≡ []) o → IfPlaced (λ d. WriteAsks message d b) (b ≡ []) o → a ≡ b
one_written_of message None a b p q = p ∙ sym q
one_written_of message (Some d) a b p q =
    one_if (kind_of d) (AsksWriteOf message d) [] (one_write_list (how_of d) (size_of d) (device_commands d) (plain_state (device_store d)) message) a b p q

-- likewise of a Type 3 tag: as many are asked as are due
one_count : (P : ℕ → Type 0) (m n : ℕ) → ((k : ℕ) → k < m → P k) → (P m → ⊥) → ((k : ℕ) → k < n → P k) → (P n → ⊥) → m ≡ n
one_count P m n low none low' none' = by_order (cases_lt m n) (cases_lt n m)
  where
    by_order : (m < n) ⊎ (n ≤ m) → (n < m) ⊎ (m ≤ n) → m ≡ n
    by_order (inl less) other = absurd (none (low' m less))
    by_order (inr more) (inl less) = absurd (none' (low n less))
    by_order (inr more) (inr also) = omega (arith, more, also)

one_read_list : (id store : List ℕ) (a b : List Signal) → ReadAsksThree id store a → ReadAsksThree id store b → a ≡ b
one_read_list id store a b p q =
    p.list ∙ ap (first_checks id (attributes store)) (one_count (IsDue (attributes store)) p.count q.count p.due p.last q.due q.last) ∙ sym q.list

one_write_three : (id store : List ℕ) (locked : List Bool) (message : List ℕ) (a b : List Signal) → WriteAsksThree id store locked message a → WriteAsksThree id store locked message b → a ≡ b
one_write_three id store locked message a b p q =
    p.list ∙ ap (first_asked id (attributes store) message) (one_count (IsPutDue locked (attributes store) message) p.count q.count p.due p.last q.due q.last) ∙ sym q.list

one_three_of : (IsAll : Device → List Signal → Type 0) → ((d : Device) (a b : List Signal) → IsAll d a → IsAll d b → a ≡ b) → (o : Option Device) (a b : List Signal)
    → IfPlaced (λ d. IfThree (kind_of d) (IsAll d a) (a ≡ [])) (a ≡ []) o → IfPlaced (λ d. IfThree (kind_of d) (IsAll d b) (b ≡ [])) (b ≡ []) o → a ≡ b
one_three_of IsAll one None a b p q = p ∙ sym q
one_three_of IsAll one (Some d) a b p q = by_kind (kind_of d) p q
  where
    by_kind : (k : DeviceKind) → IfThree k (IsAll d a) (a ≡ []) → IfThree k (IsAll d b) (b ≡ []) → a ≡ b
    by_kind T2Kind x y = x ∙ sym y
    by_kind T3Kind x y = one d a b x y
    by_kind T4Kind x y = x ∙ sym y
    by_kind PeerKind x y = x ∙ sym y
    by_kind T5Kind x y = x ∙ sym y

-- a command asks one list of its tag
pub one_asked_by : (s : State) (c : Command) (a b : List Signal) → IsAskedBy s c a → IsAskedBy s c b → a ≡ b
one_asked_by s (Read id) a b p q = one_asked_of (device_with (bytes_of id) s.world.field.listeners) a b p q
one_asked_by s (Write id m) a b p q = one_written_of (message_of m) (device_with (bytes_of id) s.world.field.listeners) a b p q
one_asked_by s (Read3 id) a b p q = one_three_of (λ d xs. ReadAsksThree id (device_store d) xs) (λ d. one_read_list id (device_store d)) (device_with id s.world.field.listeners) a b p q
one_asked_by s (Write3 id m) a b p q =
    one_three_of (λ d xs. WriteAsksThreeOf id (message_of m) d xs) (λ d. one_write_three id (device_store d) (device_locks d) (message_of m)) (device_with id s.world.field.listeners) a b p q
one_asked_by s c a b p q = p ∙ sym q

-- a dump tells of one device
one_dump : (o : Option Device) (a b : Answer) → OfPlaced (λ d. a ≡ Store (memory_in d)) o → OfPlaced (λ d. b ≡ Store (memory_in d)) o → a ≡ b
one_dump None a b p q = absurd p
one_dump (Some d) a b p q = p ∙ sym q

-- what was asked on the open link is told by where it stands
one_called : (asked : LinkAsking) (s : State) (c : Command) (asks : List Signal) (j k : Joins) (events : List Event) (a b : Answer) → asked_on_link c ≡ Some asked
    → IsToldSame s c j k events → AnswerBy (Some asked) s (record { asked = asks; joins = j }) c events a → AnswerBy (Some asked) s (record { asked = asks; joins = k }) c events b → a ≡ b
one_called asked s c asks j k events a b is same p q =
    one_linked s.link (λ l. CallLaw s j l asked c events a) (λ l. CallLaw s k l asked c events b) a b
    (λ l open_ x y. one_told_so (told_asked asked l j.own events) events a b x.told (subst (λ o. IsTold o events b) (sym (same asked l is open_)) y.told)) p q

-- what happened decides what it answers, by any numbers of PDUs that tell the same on the open link
pub one_answer : (s : State) (c : Command) (asked : List Signal) (j k : Joins) (events : List Event) (a b : Answer) → IsToldSame s c j k events
    → AnswerLaw s (record { asked = asked; joins = j }) c events a → AnswerLaw s (record { asked = asked; joins = k }) c events b → a ≡ b
one_answer s Skip asked j k events a b same p q = absurd p
one_answer s (Fates fates) asked j k events a b same p q = p ∙ sym q
one_answer s (PlaceT2 id blocks head) asked j k events a b same p q = p ∙ sym q
one_answer s (PlaceT3 id blocks head) asked j k events a b same p q = p ∙ sym q
one_answer s (PlaceT4 id code container head) asked j k events a b same p q = p ∙ sym q
one_answer s (PlaceT5 id blocks size head) asked j k events a b same p q = p ∙ sym q
one_answer s (PlacePeer id lr miu rw limit) asked j k events a b same p q = p ∙ sym q
one_answer s (Lock id block) asked j k events a b same p q = p ∙ sym q
one_answer s (Busy id count times) asked j k events a b same p q = p ∙ sym q
one_answer s (Offer id key value) asked j k events a b same p q = p ∙ sym q
one_answer s (Remove id) asked j k events a b same p q = p ∙ sym q
one_answer s (Dump id) asked j k events a b same p q = one_dump (device_with (bytes_of id) s.world.field.listeners) a b p q
one_answer s (Inbox id) asked j k events a b same p q = p ∙ sym q
one_answer s Find asked j k events a b same p q = one_find s.world.field.listeners events a b p.tells q.tells
one_answer s Crowd asked j k events a b same p q = one_tags s.world.field.listeners events a b p.tells q.tells
one_answer s Poll3 asked j k events a b same p q = one_threes s.world.field.listeners events a b p.tells q.tells
one_answer s (Read3 id) asked j k events a b same p q = one_three TellsRead3 one_read_told id s.world.field.listeners asked events a b p.tells q.tells
one_answer s (Write3 id m) asked j k events a b same p q =
    one_three (TellsWrite3 (message_of m)) (one_write_told (message_of m)) id s.world.field.listeners asked events a b p.tells q.tells
one_answer s (Read id) asked j k events a b same p q = one_read id s.world.field.listeners asked events a b p.tells q.tells
one_answer s (Write id m) asked j k events a b same p q = one_write id s.world.field.listeners (message_of m) asked events a b p.tells q.tells
one_answer s (Link id miu window) asked j k events a b same p q = one_link (A id) s.world.field.listeners (length s.peers.links + 1) (own_general miu) events a b p.tells q.tells
one_answer s (Forge id payloads) asked j k events a b same p q = one_forge id s.world.field.listeners payloads events a b p.tells q.tells
one_answer s (Raw id frames) asked j k events a b same p q = one_raw id s.world.field.listeners frames events a b p.tells q.tells
one_answer s (Put m) asked j k events a b same p q = one_called (Does (put_from 0 (message_of m))) s (Put m) asked j k events a b refl same p q
one_answer s (Get most key) asked j k events a b same p q = one_called (Does (Getting client_sap most key)) s (Get most key) asked j k events a b refl same p q
one_answer s (Lookup name) asked j k events a b same p q = one_called (Does (Finding name)) s (Lookup name) asked j k events a b refl same p q
one_answer s (OnPut slot m) asked j k events a b same p q = one_called (Does (put_from slot (message_of m))) s (OnPut slot m) asked j k events a b refl same p q
one_answer s (OnGet slot most key) asked j k events a b same p q = one_called (Does (Getting (sap_of_slot slot) most key)) s (OnGet slot most key) asked j k events a b refl same p q
one_answer s (commands.Puts puts) asked j k events a b same p q = one_called (Does (Putting (slot_messages puts))) s (commands.Puts puts) asked j k events a b refl same p q
one_answer s Unlink asked j k events a b same p q = one_called Closes s Unlink asked j k events a b refl same p q

-- From a state a command is obeyed in one way by the same numbers.
module _ (s : State) (c : Command) (g h : Given) (es fs : List Event) (a b : Answer) (t u : State) (p : FrontOf s g c es (Some a) t) (q : FrontOf s h c fs (Some b) u)
    (done : due s g c (receptions es) ≡ Over) (over : due s h c (receptions fs) ≡ Over)
    (joins : h.joins ≡ g.joins) where
  same_given : h ≡ g
  same_given =
      ap (λ x. record { asked = x; joins = h.joins }) (one_asked_by s c h.asked g.asked q.asks p.asks) ∙ ap (λ j. record { asked = g.asked; joins = j }) joins

  pub same_events : es ≡ fs
  same_events =
      let r : FrontOf s g c fs (Some b) u = subst (λ k. FrontOf s k c fs (Some b) u) same_given q in
      let at_end : due s g c (receptions fs) ≡ Over = subst (λ k. due s k c (receptions fs) ≡ Over) same_given over in
      one_course bench_air (due s g c) (world_at_start s g.joins c) (changed s c).queue es fs p.turns r.turns p.fates r.fates p.each r.each done at_end

  pub same_answers : AnswerLaw s g c es a → AnswerLaw s h c fs b → a ≡ b
  same_answers x y = one_answer s c g.asked g.joins g.joins es a b (λ asking l at is. refl) x (subst (λ k. AnswerLaw s k c es b) same_given (subst (λ k. AnswerLaw s h c k b) (sym same_events) y))

  -- it leads to the same state
  pub same_state : a ≡ b → u ≡ t
  same_state told =
      q.after ∙ ap (λ j. state_after s j c fs (Some b)) joins ∙ ap (λ k. state_after s g.joins c k (Some b)) (sym same_events)
      ∙ ap (λ x. state_after s g.joins c es (Some x)) (sym told) ∙ sym p.after

-- entries of the same parts
same_entry : (j k : Entry) → j.line ≡ k.line → j.command ≡ k.command → j.events ≡ k.events → j.answer ≡ k.answer → j ≡ k
same_entry j k line command events answer =
    let E : ℕ → Command → List Event → Answer → Entry = λ n c es a. record { line = n; command = c; events = es; answer = a } in
    ap (λ n. E n j.command j.events j.answer) line ∙ ap (λ c. E k.line c j.events j.answer) command
    ∙ ap (λ es. E k.line k.command es j.answer) events ∙ ap (E k.line k.command k.events) answer

-- From one state on, two legal journals of the same lines and commands are the same, by the same numbers.
abbrev numbers_of : List Given → List Joins
numbers_of gs = map (λ (g : Given). g.joins) gs

-- lists that are equal have equal parts
first_numbers : (n m : Joins) (ns ms : List Joins) → n ∷ ns ≡ m ∷ ms → (m ≡ n) × (ns ≡ ms)
first_numbers n m ns ms e = (cc, cc)

pub one_journal : (s t u : State) (gs hs : List Given) (js ks : List Entry) → SameCommands js ks → numbers_of gs ≡ numbers_of hs → EachLegal s gs js t → EachLegal s hs ks u → js ≡ ks
one_journal s t u [] [] [] [] same joins p q = refl
one_journal s t u (g ∷ gs) hs [] ks same joins p q = absurd p
one_journal s t u [] (h ∷ hs) [] [] same joins p q = absurd q
one_journal s t u [] hs [] (k ∷ ks) same joins p q = absurd same
one_journal s t u [] hs (j ∷ js) ks same joins p q = absurd p
one_journal s t u (g ∷ gs) hs (j ∷ js) [] same joins p q = absurd same
one_journal s t u (g ∷ gs) [] (j ∷ js) (k ∷ ks) same joins p q = absurd q
one_journal s t u (g ∷ gs) (h ∷ hs) (j ∷ js) (k ∷ ks) same joins p q =
    let c : Command = j.command in
    let F : Command → Type 0 = λ x. FrontOf s h x k.events (Some k.answer) q.0 in
    let front : F c = subst F (sym same.1) q.1.front in
    let over : due s h c (receptions k.events) ≡ Over = subst (λ x. due s h x (receptions k.events) ≡ Over) (sym same.1) q.1.over in
    let law : AnswerLaw s h c k.events k.answer = subst (λ x. AnswerLaw s h x k.events k.answer) (sym same.1) q.1.answered in
    let both = first_numbers g.joins h.joins (numbers_of gs) (numbers_of hs) joins in
    let events : j.events ≡ k.events = same_events s c g h j.events k.events j.answer k.answer p.0 q.0 p.1.front front p.1.over over both.0 in
    let answer : j.answer ≡ k.answer = same_answers s c g h j.events k.events j.answer k.answer p.0 q.0 p.1.front front p.1.over over both.0 p.1.answered law in
    let mid : q.0 ≡ p.0 = same_state s c g h j.events k.events j.answer k.answer p.0 q.0 p.1.front front p.1.over over both.0 answer in
    ap (λ e. e ∷ js) (same_entry j k same.0 same.1 events answer)
    ∙ ap (λ es. k ∷ es) (one_journal p.0 t u gs hs js ks same.2 both.1 p.2 (subst (λ x. EachLegal x hs ks u) mid q.2))

-- entries of the same lines have the same commands
same_commands : (lines : List NumberedLine) (js ks : List Entry) → AreEntriesOf lines js → AreEntriesOf lines ks → SameCommands js ks
same_commands [] [] [] p q = tt
same_commands [] [] (k ∷ ks) p q = absurd q
same_commands [] (j ∷ js) ks p q = absurd p
same_commands (l ∷ ls) [] ks p q = absurd p
same_commands (l ∷ ls) (j ∷ js) [] p q = absurd q
same_commands (l ∷ ls) (j ∷ js) (k ∷ ks) p q = (p.0 ∙ sym q.0, spells_one l.text j.command k.command p.1 q.1, same_commands ls js ks p.2 q.2)

-- The lines of a script have at most one legal journal by the same numbers of PDUs.
pub one_legal : (lines : List (List ℕ)) (numbers : List Joins) (js ks : List Entry) (s t : State) → LeadsTo lines numbers js s → LeadsTo lines numbers ks t → js ≡ ks
one_legal lines numbers js ks s t p q =
    one_journal first_state s t p.given q.given js ks (same_commands (asking_lines 1 lines) js ks p.numbered q.numbered) (p.joins ∙ sym q.joins) p.steps q.steps
