-- A write that is broken off at one of its transmissions, and the read behind it.
use Rattle.std.proofs.Common.{◌≡◌, ◌⊎◌, inl, inr, ℕ, zero, suc, ◌<◌, ◌≤◌, List, [], ◌∷◌, true, Some, refl, sym, ◌∙◌, ap, subst, arith}
use Rattle.std.proofs.lemmas.Bool.{cases_lt}
use Rattle.nfc_base.specs.declared.frame.Tech.{Tech}
use Rattle.nfc_base.specs.declared.frame.Tech.TheVariants as techs
use Rattle.nfc_base.specs.Trace.{transmissions}
use Rattle.nfc_base.specs.declared.event.Event.{Event}
use Rattle.nfc_base.specs.declared.event.Event.TheVariants.{Reset, Request, Answer, Clash}
use Rattle.air_core.specs.Conversation.{Over, queue_after, receptions, replay, FatesFrom}
use Rattle.tlv_area.specs.Form.{Message}
use Rattle.tag_reader.specs.Kinds.{IsStoreForm}
use Rattle.tag_writer.specs.Law.{IsEmptied, IsWritten}
use Rattle.tag_writer.proofs.OneOutcome.{held_there}
use Rattle.bench_script.specs.declared.command.Command.TheVariants.{Write}
use Rattle.bench_script.specs.declared.command.DeviceId.{DeviceId}
use Rattle.bench_script.specs.declared.command.DeviceId.TheVariants.{A, V}
use Rattle.bench_script.specs.declared.message.Msg.{Msg}
use Rattle.bench_script.specs.DeviceIds.{bytes_of}
use Rattle.bench_script.specs.Messages.{message_of}
use Rattle.bench_devices.specs.declared.device.Device.{Device}
use Rattle.bench_devices.specs.declared.device.Device.TheVariants.{T2, T4, Peer, T5, T3}
use Rattle.bench_devices.specs.Answering.{IsNamed}
use Rattle.bench_devices.specs.Kinds.{DeviceKind, T2Kind, T3Kind, T4Kind, PeerKind, T5Kind}
use Rattle.bench_devices.specs.Device.{BenchWorld, air, device_id, device_store, device_tech, how_of, size_of, kind_of, may_be_read}
use Rattle.bench_devices.specs.Keeping.{Fixed, fixed, held_by}
use Rattle.bench_devices.specs.Placed.{device_with}
use Rattle.bench_devices.proofs.kinds.ImagesJoin.{held_kept}
use Rattle.bench_devices.proofs.kinds.TagOrPeer.{of_read, same_read}
use Rattle.bench_world.specs.Behind.{breaking, BreaksThenReads, TellsHeld, TellsOneOfThree, FirstBrokenIsRead, BrokenIsRead}
use Rattle.bench_world.specs.declared.entry.Entry.{Entry}
use Rattle.bench_world.specs.Legal.{State, FrontOf, world_at_start, due, state_after}
use Rattle.bench_world.specs.Quiet.{AllPass}
use Rattle.bench_world.specs.Reading.{TellsOf, Tells}
use Rattle.bench_world.specs.World.{bench_air}
use Rattle.bench_world.proofs.tags.FirstBroken.{first_broken}
use Rattle.bench_world.proofs.lines.OneForm.{tells_held}
use Rattle.bench_world.proofs.lines.OneJournal.{same_events}
use Rattle.bench_world.proofs.calm.Quiet.{quiet_reads}
use Rattle.bench_world.proofs.calm.WriteBehind.{Behind, Done, images_behind, last_behind, last_image, tag_behind, last_all, all_three}
use Rattle.bench_world.proofs.tags.WriteLegality.{found_named}

-- Where a command has more transmissions than pass before a Break, none of these fates is left.
pub none_left : (es : List Event) → queue_after [] es ≡ []
none_left [] = refl
none_left (Reset ∷ es) = none_left es
none_left (Request f x ∷ es) = none_left es
none_left (Answer g x ∷ es) = none_left es
none_left (Clash g x ∷ es) = none_left es

used_up : (n : ℕ) (es : List Event) → n < transmissions (λ _. 1) es → queue_after (breaking n) es ≡ []
used_up n [] more = absurd (omega (arith, more))
used_up n (Reset ∷ es) more = used_up n es more
used_up zero (Request f x ∷ es) more = none_left es
used_up (suc n) (Request f x ∷ es) more = used_up n es (omega (arith, more))
used_up zero (Answer g x ∷ es) more = none_left es
used_up (suc n) (Answer g x ∷ es) more = used_up n es (omega (arith, more))
used_up zero (Clash g x ∷ es) more = none_left es
used_up (suc n) (Clash g x ∷ es) more = used_up n es (omega (arith, more))

-- Where it has no more, it goes as if no fate were left.
all_pass : (n : ℕ) (es : List Event) → transmissions (λ _. 1) es ≤ n → FatesFrom (breaking n) es → FatesFrom [] es
all_pass n [] few f = tt
all_pass n (Reset ∷ es) few f = all_pass n es few f
all_pass zero (Request g x ∷ es) few f = absurd (omega (arith, few))
all_pass (suc n) (Request g x ∷ es) few f = (f.0, all_pass n es (omega (arith, few)) f.1)
all_pass zero (Answer g x ∷ es) few f = absurd (omega (arith, few))
all_pass (suc n) (Answer g x ∷ es) few f = (f.0, all_pass n es (omega (arith, few)) f.1)
all_pass zero (Clash g x ∷ es) few f = absurd (omega (arith, few))
all_pass (suc n) (Clash g x ∷ es) few f = (f.0, all_pass n es (omega (arith, few)) f.1)

-- what stays of a device tells its name
tech_by : DeviceKind → Tech
tech_by T2Kind = techs.A
tech_by T3Kind = techs.F
tech_by T4Kind = techs.A
tech_by PeerKind = techs.A
tech_by T5Kind = techs.V

tech_is : (d : Device) → device_tech d ≡ tech_by (kind_of d)
unfolding tech_by
tech_is (T2 d) = refl
tech_is (T4 d) = refl
tech_is (Peer d) = refl
tech_is (T5 p) = refl
tech_is (T3 p) = refl

same_name : (id : DeviceId) (d e : Device) → fixed e ≡ fixed d → IsNamed id d → IsNamed id e
same_name id d e same named = by_id id named
  where
    tech : device_tech e ≡ device_tech d
    tech = tech_is e ∙ ap (λ (k : Fixed). tech_by k.kind) same ∙ sym (tech_is d)

    by_id : (i : DeviceId) → IsNamed i d → IsNamed i e
    by_id (A i) n = (tech ∙ n.0, ap (λ (k : Fixed). k.id) same ∙ n.1)
    by_id (V i) n = (tech ∙ n.0, ap (λ (k : Fixed). k.id) same ∙ n.1)

module _ (id : DeviceId) (tag : Device) (m : Msg) (read : Entry) (r : BreaksThenReads id tag m read) where
  -- the state before the write that is broken off
  abbrev start : State
  start = record { world = r.before.world; queue = breaking r.passes; peers = r.before.peers; link = r.before.link }

  front : FrontOf start r.broken_given (Write id m) r.broken.events (Some r.broken.answer) r.broken_after
  front = subst (λ c. FrontOf start r.broken_given c r.broken.events (Some r.broken.answer) r.broken_after) r.again r.breaks.front

  whole_front : FrontOf r.before r.whole_given (Write id m) r.whole.events (Some r.whole.answer) r.whole_after
  whole_front = subst (λ c. FrontOf r.before r.whole_given c r.whole.events (Some r.whole.answer) r.whole_after) r.writing r.writes.front

  joins : r.broken_given.joins ≡ r.whole_given.joins
  joins = front.takes ∙ sym whole_front.takes

  -- if all its transmissions passed it would be the whole write
  quiet_front : FatesFrom [] r.broken.events
      → FrontOf r.before r.broken_given (Write id m) r.broken.events (Some r.broken.answer) (state_after r.before r.broken_given.joins (Write id m) r.broken.events (Some r.broken.answer))
  quiet_front quiet = record {
    accepted = front.accepted;
    asks = front.asks;
    takes = front.takes;
    turns = front.turns;
    fates = subst (λ q. FatesFrom q r.broken.events) (sym r.none) quiet;
    each = front.each;
    after = refl;
  }

  goes_on : transmissions (λ _. 1) r.broken.events ≤ r.passes → ⊥
  goes_on few =
      let over : due r.before r.whole_given (Write id m) (receptions r.whole.events) ≡ Over = subst (λ c. due r.before r.whole_given c (receptions r.whole.events) ≡ Over) r.writing r.writes.over in
      let over' : due r.before r.broken_given (Write id m) (receptions r.broken.events) ≡ Over = subst (λ c. due start r.broken_given c (receptions r.broken.events) ≡ Over) r.again r.breaks.over in
      let same : r.whole.events ≡ r.broken.events =
      same_events r.before (Write id m) r.whole_given r.broken_given r.whole.events r.broken.events r.whole.answer r.broken.answer r.whole_after
      (state_after r.before r.broken_given.joins (Write id m) r.broken.events (Some r.broken.answer)) whole_front (quiet_front (all_pass r.passes r.broken.events few front.fates)) over over' joins in
      let count : transmissions (λ _. 1) r.whole.events ≡ transmissions (λ _. 1) r.broken.events = ap (transmissions (λ _. 1)) same in
      let more : r.passes < transmissions (λ _. 1) r.whole.events = r.few in
      omega (arith, few, count, more)

  -- so it comes to the Break, and no fate is left behind it
  none_behind : r.broken_after.queue ≡ []
  none_behind =
      ap (λ (s : State). s.queue) front.after
      ∙ elim (cases_lt r.passes (transmissions (λ _. 1) r.broken.events)) [ inl comes ↦ used_up r.passes r.broken.events comes | inr few ↦ absurd (goes_on few) ]

  behind : Behind id tag m start r.broken_after r.broken
  behind = tag_behind id tag m start r.broken_after r.broken_given r.broken r.placed r.breaks r.again

  done : Done tag m
  done = (tag_behind id tag m r.before r.whole_after r.whole_given r.whole r.placed r.writes r.writing).done r.success

  -- what the tag held before
  held : (old : List ℕ) × IsStoreForm (how_of tag) (size_of tag) (device_store tag) (Message old)
  held = held_there (how_of tag) (size_of tag) (device_store tag) (message_of m) done.shows.place done.shows.takes.holds

  -- a store that holds the old message, the empty one, or the new one
  record HoldsOne (s : List ℕ) : Type 0 where
    pub message : List ℕ
    pub is : IsStoreForm (how_of tag) (size_of tag) s (Message message)
    pub three : (message ≡ held.0) ⊎ ((message ≡ []) ⊎ (message ≡ message_of m))

  old_one : (s : List ℕ) → s ≡ device_store tag → HoldsOne s
  old_one s same = record { message = held.0; is = subst (λ x. IsStoreForm (how_of tag) (size_of tag) x (Message held.0)) (sym same) held.1; three = inl refl }

  last_one : HoldsOne (last_behind tag start r.broken)
  last_one =
      last_all HoldsOne (device_store tag) (images_behind tag start r.broken) (old_one (device_store tag) refl)
      (all_three (λ s. s ≡ device_store tag) (IsEmptied (how_of tag) (size_of tag) done.shows.place (device_store tag))
      (IsWritten (how_of tag) (size_of tag) (message_of m) done.shows.place (device_store tag)) HoldsOne old_one
      (λ s e. record { message = []; is = e.empty; three = inr (inl refl) }) (λ s n. record { message = message_of m; is = n.holds; three = inr (inr refl) })
      (images_behind tag start r.broken) ((behind.keeps done.is_one).takes done.shows.place done.shows.takes).three)

  there_one : may_be_read behind.device ≡ true
  there_one = same_read behind.device tag (ap (λ (k : Fixed). k.kind) behind.same) ∙ done.is_one

  tells : TellsOf behind.device read.answer
  tells =
      let quiet : AllPass r.broken_after.queue = subst (λ q. AllPass q) (sym none_behind) tt in
      quiet_reads r.broken_after r.after r.read_given read id behind.device r.reads r.reading behind.there (same_name id tag behind.device behind.same r.named) quiet

  tells_tag : Tells (how_of tag) (size_of tag) (last_behind tag start r.broken) read.answer
  tells_tag =
      let how : how_of behind.device ≡ how_of tag = ap (λ (k : Fixed). k.how) behind.same in
      let size : size_of behind.device ≡ size_of tag = ap (λ (k : Fixed). k.size) behind.same in
      subst (λ s. Tells (how_of tag) (size_of tag) s read.answer) behind.store
      (subst (λ n. Tells (how_of tag) n (device_store behind.device) read.answer) size
      (subst (λ h. Tells h (size_of behind.device) (device_store behind.device) read.answer) how (of_read behind.device there_one _ _ tells)))

  told : TellsOneOfThree tag (message_of m) read
  told =
      let it = tells_held (how_of tag) (size_of tag) (last_behind tag start r.broken) read.answer last_one.message last_one.is tells_tag in
      record { old = held.0; held = held.1; message = last_one.message; writable = it.0; told = it.1; three = last_one.three }

  -- Where no transmission passes, the tag holds what it held before.
  same_store : r.passes ≡ 0 → last_behind tag start r.broken ≡ device_store tag
  same_store first =
      let field : BenchWorld = r.before.world.field in
      let es : List Event = r.broken.events in
      let keeps = first_broken id r.broken_given.asked bench_air (world_at_start start r.broken_given.joins (Write id m)) es field front.turns front.each
      (subst (λ n. FatesFrom (breaking n) es) first front.fates) in
      last_image (device_id tag) field es (device_store tag) ∙ held_kept (device_id tag) field.listeners (replay air field es).listeners keeps
      ∙ ap (λ i. held_by (device_with i field.listeners)) (found_named (bytes_of id) field.listeners tag r.placed) ∙ ap held_by r.placed

  first_told : r.passes ≡ 0 → TellsHeld tag read
  first_told first =
      let is : IsStoreForm (how_of tag) (size_of tag) (last_behind tag start r.broken) (Message held.0) =
      subst (λ s. IsStoreForm (how_of tag) (size_of tag) s (Message held.0)) (sym (same_store first)) held.1 in
      let it = tells_held (how_of tag) (size_of tag) (last_behind tag start r.broken) read.answer held.0 is tells_tag in
      record { old = held.0; held = held.1; writable = it.0; told = it.1 }

pub first_broken_is_read : FirstBrokenIsRead
first_broken_is_read id tag m read r first = first_told id tag m read r first

pub broken_is_read : BrokenIsRead
broken_is_read id tag m read r = told id tag m read r
