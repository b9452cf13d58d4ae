-- What selecting, reading and searching came to, and the answers that tell it.
use Rattle.std.proofs.Common.{◌≡◌, ◌↔◌, ◌⊎◌, inl, inr, ℕ, ◌<◌, List, [], ◌∷◌, Bool, Option, Some, None, IsSome, Result, Ok, Err, refl, sym, ◌∙◌, ap, subst}
use Rattle.nfc_base.specs.Signal.{Signal}
use Rattle.nfc_base.specs.declared.event.Event.{Event}
use Rattle.nfc_base.specs.declared.tag_link.AskFault.{AskFault}
use Rattle.nfc_base.specs.declared.tag_link.AskFault.TheVariants as asking
use Rattle.air_core.specs.World.{World}
use Rattle.air_core.specs.Conversation.{Moment, Note}
use Rattle.air_core.specs.Waits.{Standing, Asking, Broken, Astray, stand}
use Rattle.nfca_poll.specs.declared.fault.Picked.{Picked}
use Rattle.nfca_poll.specs.declared.fault.PollFault.{PollFault}
use Rattle.nfca_poll.specs.declared.fault.PollFault.TheVariants as faults
use Rattle.nfca_poll.specs.declared.inventory.Vcrowd.{Vcrowd}
use Rattle.tag_reader.specs.declared.fault.ReadFault.{ReadFault}
use Rattle.tag_reader.specs.declared.fault.ReadFault.TheVariants as reading
use Rattle.tag_reader.specs.declared.found.Found.{Found}
use Rattle.tag_reader.specs.declared.found.Site.{Site}
use Rattle.tag_reader.specs.declared.found.Site.TheVariants.{Area, File}
use Rattle.tag_reader.specs.declared.how.How.{How}
use Rattle.tag_reader.specs.declared.how.How.TheVariants as hows
use Rattle.tag_reader.specs.Access.{AccessBy, IsAccess}
use Rattle.tag_reader.specs.Reading.{IsSite}
use Rattle.isodep_link.specs.Asking as exchange
use Rattle.bench_script.specs.declared.command.DeviceId.{DeviceId}
use Rattle.bench_devices.specs.declared.device.Device.{Device}
use Rattle.bench_devices.specs.declared.polling.SeenKind.{SeenKind}
use Rattle.bench_devices.specs.declared.polling.SeenKind.TheVariants as seen
use Rattle.bench_devices.specs.declared.sweeping.Everybody.{Everybody}
use Rattle.bench_devices.specs.CardAsking.{CardStanding, Activates, Exchanges, card_stands}
use Rattle.bench_devices.specs.Answering.{HasPollCause, TellsStanding, TellsExchange, TellsCard, TellsBy, InventoryEnds, FindEnds, FindTells}
use Rattle.bench_devices.specs.Reading.{Shows, ShowsOf}
use Rattle.bench_devices.specs.Phases.{FailsRead, IsEnd, Reads, Searches, SearchesField}
use Rattle.bench_world.specs.declared.entry.Answer.{Answer}
use Rattle.bench_world.specs.declared.entry.Answer.TheVariants as answers
use Rattle.bench_world.specs.Answering.{poll_answer, read_answer, MayEnd, TellsFault, TellsFound}
use Rattle.bench_world.specs.Crowded.{seen_all, is_crowd}
use Rattle.bench_world.specs.Reading.{Tells}

-- Selecting a device ends by a fault that an answer tells of.
pub poll_told : (id : DeviceId) (ds : List Device) (e : PollFault) (es : List Event) → HasPollCause id ds (Err e) es → IsSome (poll_answer e)
poll_told id ds faults.Nobody es h = absurd h
poll_told id ds faults.Disturbed es h = refl
poll_told id ds faults.FieldLost es h = refl
poll_told id ds faults.Memory es h = absurd h
poll_told id ds faults.NotFound es h = refl
poll_told id ds faults.BadAnswer es h = absurd h

-- What tells of a read by where its waits stand, told in other words.
module _ {X Y : Type 0} (P : X → Type 0) (F : AskFault → X → Type 0) (Q : Y → Type 0) (G : AskFault → Y → Type 0) (x : X) (y : Y)
    (says : P x → Q y) (fails : (e : AskFault) → F e x → G e y) where
  standing_as : (s : Standing) → TellsStanding P F s x → TellsStanding Q G s y
  standing_as (Asking bad []) t = says t
  standing_as (Asking bad (c ∷ cs)) t = absurd t
  standing_as (Broken e cs) t = fails e t
  standing_as Astray t = absurd t

  exchange_as : (s : exchange.IsoStanding) → TellsExchange P F s x → TellsExchange Q G s y
  exchange_as (exchange.Waits i f cs) t = absurd t
  exchange_as (exchange.Rests i) t = says t
  exchange_as (exchange.Broken e) t = fails e t
  exchange_as exchange.Astray t = absurd t

  card_as : (s : CardStanding) → TellsCard P F s x → TellsCard Q G s y
  card_as (Activates bad) t = absurd t
  card_as (Exchanges s) t = exchange_as s t

  pub tells_as : (kind : SeenKind) (asked : List Signal) (ns : List Note) → TellsBy kind P F asked ns x → TellsBy kind Q G asked ns y
  tells_as seen.T2 asked ns t = standing_as (stand 0 asked ns) t
  tells_as seen.T4 asked ns t = card_as (card_stands asked ns) t
  tells_as seen.T5 asked ns t = standing_as (stand 0 asked ns) t
  tells_as seen.Peer asked ns t = says t

-- What tells of a read tells what the store holds, or a fault.
module _ {X : Type 0} (P : X → Type 0) (F : AskFault → X → Type 0) (x : X) (Q : Type 0) (says : P x → Q) (fails : (e : AskFault) → F e x → Q) where
  by_standing : (s : Standing) → TellsStanding P F s x → Q
  by_standing (Asking bad []) t = says t
  by_standing (Asking bad (c ∷ cs)) t = absurd t
  by_standing (Broken e cs) t = fails e t
  by_standing Astray t = absurd t

  by_exchange : (s : exchange.IsoStanding) → TellsExchange P F s x → Q
  by_exchange (exchange.Waits i f cs) t = absurd t
  by_exchange (exchange.Rests i) t = says t
  by_exchange (exchange.Broken e) t = fails e t
  by_exchange exchange.Astray t = absurd t

  by_card : (s : CardStanding) → TellsCard P F s x → Q
  by_card (Activates bad) t = absurd t
  by_card (Exchanges s) t = by_exchange s t

  pub tells_either : (kind : SeenKind) (asked : List Signal) (ns : List Note) → TellsBy kind P F asked ns x → Q
  tells_either seen.T2 asked ns t = by_standing (stand 0 asked ns) t
  tells_either seen.T4 asked ns t = by_card (card_stands asked ns) t
  tells_either seen.T5 asked ns t = by_standing (stand 0 asked ns) t
  tells_either seen.Peer asked ns t = says t

-- A read ends by what a store shows, or by the fault of a wait.
no_refusal : (code : ℕ) (e : AskFault) → FailsRead e (Err (reading.Refused code)) → ⊥
no_refusal code asking.FieldLost h = cc
no_refusal code asking.SixBad h = cc
no_refusal code asking.Memory h = h
no_refusal code asking.Protocol h = h

never_odd : (e : AskFault) → FailsRead e (Err reading.Protocol) → ⊥
never_odd asking.FieldLost h = cc
never_odd asking.SixBad h = cc
never_odd asking.Memory h = h
never_odd asking.Protocol h = h

-- so an answer tells of it
pub may_end : (old new : Moment (World Device)) (d : Device) (r : Result Found ReadFault) → ((r ≡ Err reading.Memory → ⊥) → Reads old new d r) → MayEnd r
may_end old new d (Ok found) reads = inl refl
may_end old new d (Err reading.NotNdef) reads = inl refl
may_end old new d (Err reading.Version) reads = inl refl
may_end old new d (Err reading.NoRead) reads = inl refl
may_end old new d (Err reading.Sectors) reads = inl refl
may_end old new d (Err reading.BadSize) reads = inl refl
may_end old new d (Err reading.NoMessageTlv) reads = inl refl
may_end old new d (Err reading.BadTlv) reads = inl refl
may_end old new d (Err (reading.Refused code)) reads =
    absurd (let r = reads (λ e. cc) in tells_either (ShowsOf d) FailsRead (Err (reading.Refused code)) ⊥ (λ s. s) (no_refusal code) _ r.commands r.asked.notes r.ends)
may_end old new d (Err reading.FieldLost) reads = inl refl
may_end old new d (Err reading.SixBad) reads = inl refl
may_end old new d (Err reading.Memory) reads = inr refl
may_end old new d (Err reading.Protocol) reads =
    absurd (let r = reads (λ e. cc) in tells_either (ShowsOf d) FailsRead (Err reading.Protocol) ⊥ (λ s. s) never_odd _ r.commands r.asked.notes r.ends)

-- whether writing is free
site_access : (how : How) (size : ℕ) (store : List ℕ) (site : Site) (writable : Bool) → IsSite how size store site writable → IsAccess how size store writable
site_access hows.T2 size store (Area m) writable is = subst (λ r. AccessBy r writable) (sym is.0) is.2
site_access hows.T2 size store (File m) writable is = absurd is.0
site_access hows.T4 size store (Area m) writable is = absurd (let no_area = is.0 in cc)
site_access hows.T4 size store (File m) writable is = (m, is.0, is.1)
site_access (hows.T5 id) size store (Area m) writable is = subst (λ r. AccessBy r writable) (sym is.0) is.2
site_access (hows.T5 id) size store (File m) writable is = absurd is.0

same_fault : (e f : PollFault) → ◌≡◌ {A = Result Everybody PollFault} (Err e) (Err f) → e ≡ f
same_fault e f h = cc

pub no_answer : (a : Answer) → None ≡ Some a → ⊥
no_answer a e = cc

pub told_once : (a b : Answer) → ◌≡◌ {A = Option Answer} (Some a) (Some b) → a ≡ b
told_once a b e = cc

-- the answer tells of the store what the read shows of it
pub shows_tells : (how : How) (size : ℕ) (store : List ℕ) (r : Result Found ReadFault) (answer : Answer) → read_answer r ≡ Some answer → Shows how size store r → Tells how size store answer
shows_tells how size store (Ok found) answer e is =
    subst (Tells how size store) (told_once (answers.Message found.message found.writable) answer e) (is.held, site_access how size store found.site found.writable is.site)
shows_tells how size store (Err reading.NotNdef) answer e is = subst (Tells how size store) (told_once answers.NotNdef answer e) is
shows_tells how size store (Err reading.Version) answer e is = subst (Tells how size store) (told_once answers.Version answer e) is
shows_tells how size store (Err reading.NoRead) answer e is = subst (Tells how size store) (told_once answers.NoRead answer e) is
shows_tells how size store (Err reading.Sectors) answer e is = subst (Tells how size store) (told_once answers.Sectors answer e) is
shows_tells how size store (Err reading.BadSize) answer e is = subst (Tells how size store) (told_once answers.BadSize answer e) is
shows_tells how size store (Err reading.NoMessageTlv) answer e is = subst (Tells how size store) (told_once answers.NoMessageTlv answer e) is
shows_tells how size store (Err reading.BadTlv) answer e is = subst (Tells how size store) (told_once answers.BadTlv answer e) is
shows_tells how size store (Err (reading.Refused code)) answer e is = absurd is
shows_tells how size store (Err reading.FieldLost) answer e is = absurd is
shows_tells how size store (Err reading.SixBad) answer e is = absurd is
shows_tells how size store (Err reading.Memory) answer e is = absurd is
shows_tells how size store (Err reading.Protocol) answer e is = absurd is

-- where an answer tells of it, memory wasn't wanting
pub fed_by : (r : Result Found ReadFault) (answer : Answer) → read_answer r ≡ Some answer → r ≡ Err reading.Memory → ⊥
fed_by r answer told m = no_answer answer (sym (ap read_answer m) ∙ told)

pub poll_fed : (e : PollFault) (answer : Answer) → poll_answer e ≡ Some answer → ◌≡◌ {A = Result Everybody PollFault} (Err e) (Err faults.Memory) → ⊥
poll_fed e answer told m = no_answer answer (sym (ap poll_answer (same_fault e faults.Memory m)) ∙ told)

-- and of a fault of a wait
pub fails_tells : (r : Result Found ReadFault) (answer : Answer) → read_answer r ≡ Some answer → (e : AskFault) → FailsRead e r → TellsFault e answer
fails_tells r answer told asking.FieldLost is = told_once answer answers.FieldLost (sym told ∙ ap read_answer is)
fails_tells r answer told asking.SixBad is = told_once answer answers.SixBad (sym told ∙ ap read_answer is)
fails_tells r answer told asking.Memory is = absurd is
fails_tells r answer told asking.Protocol is = absurd is

-- the field alone is told as lost
lost_only : (r : Result Found ReadFault) → read_answer r ≡ Some answers.FieldLost → r ≡ Err reading.FieldLost
lost_only (Ok found) e = absurd cc
lost_only (Err reading.NotNdef) e = absurd cc
lost_only (Err reading.Version) e = absurd cc
lost_only (Err reading.NoRead) e = absurd cc
lost_only (Err reading.Sectors) e = absurd cc
lost_only (Err reading.BadSize) e = absurd cc
lost_only (Err reading.NoMessageTlv) e = absurd cc
lost_only (Err reading.BadTlv) e = absurd cc
lost_only (Err (reading.Refused code)) e = absurd cc
lost_only (Err reading.FieldLost) e = refl
lost_only (Err reading.SixBad) e = absurd cc
lost_only (Err reading.Memory) e = absurd cc
lost_only (Err reading.Protocol) e = absurd cc

pub lost_told : (r : Result Found ReadFault) (answer : Answer) → read_answer r ≡ Some answer → (n : ℕ) → (r ≡ Err reading.FieldLost) ↔ (0 < n) → (answer ≡ answers.FieldLost) ↔ (0 < n)
lost_told r answer told n lost = (
  λ is. lost.0 (lost_only r (told ∙ ap Some is)),
  λ some. told_once answer answers.FieldLost (sym told ∙ ap read_answer (lost.1 some)),
)

-- likewise of six bad receptions
six_only : (r : Result Found ReadFault) → read_answer r ≡ Some answers.SixBad → r ≡ Err reading.SixBad
six_only (Ok found) e = absurd cc
six_only (Err reading.NotNdef) e = absurd cc
six_only (Err reading.Version) e = absurd cc
six_only (Err reading.NoRead) e = absurd cc
six_only (Err reading.Sectors) e = absurd cc
six_only (Err reading.BadSize) e = absurd cc
six_only (Err reading.NoMessageTlv) e = absurd cc
six_only (Err reading.BadTlv) e = absurd cc
six_only (Err (reading.Refused code)) e = absurd cc
six_only (Err reading.FieldLost) e = absurd cc
six_only (Err reading.SixBad) e = refl
six_only (Err reading.Memory) e = absurd cc
six_only (Err reading.Protocol) e = absurd cc

pub six_told : (r : Result Found ReadFault) (answer : Answer) → read_answer r ≡ Some answer → answer ≡ answers.SixBad → r ≡ Err reading.SixBad
six_told r answer told is = six_only r (told ∙ ap Some is)

-- How a search ended, and the answer that tells it.
module _ (r : Result Everybody PollFault) (answer : Answer) (told : TellsFound r answer) where
  told_end : (end : Result Everybody PollFault) → r ≡ end → TellsFound end answer
  told_end end is = subst (λ x. TellsFound x answer) is told

  inventory_told : (ds : List Device) (cards : List Picked) (others : Result Vcrowd PollFault) (es : List Event) → InventoryEnds IsEnd ds cards others es r
      → InventoryEnds TellsFound ds cards others es answer
  inventory_told ds cards (Ok others) es h = (h.0, told_end (Ok (record { cards = cards; others = others })) h.1)
  inventory_told ds cards (Err faults.Nobody) es h = absurd h
  inventory_told ds cards (Err faults.Disturbed) es h = (told_end (Err faults.Disturbed) h.0, h.1)
  inventory_told ds cards (Err faults.FieldLost) es h = told_end (Err faults.FieldLost) h
  inventory_told ds cards (Err faults.Memory) es h = absurd h
  inventory_told ds cards (Err faults.NotFound) es h = absurd h
  inventory_told ds cards (Err faults.BadAnswer) es h = absurd h

  find_told : (ds : List Device) (found : Result (List Picked) PollFault) (behind : List Note) (es : List Event) → FindEnds IsEnd ds found behind es r → FindEnds TellsFound ds found behind es answer
  find_told ds (Ok cards) behind es h = (h.0, h.1, h.2, h.3, inventory_told ds cards h.2 es h.4)
  find_told ds (Err faults.Nobody) behind es h = absurd h
  find_told ds (Err faults.Disturbed) behind es h = (told_end (Err faults.Disturbed) h.0, h.1)
  find_told ds (Err faults.FieldLost) behind es h = told_end (Err faults.FieldLost) h
  find_told ds (Err faults.Memory) behind es h = absurd h
  find_told ds (Err faults.NotFound) behind es h = absurd h
  find_told ds (Err faults.BadAnswer) behind es h = absurd h

  lost_found : (x : Result Everybody PollFault) → TellsFound x answer → answer ≡ answers.FieldLost → x ≡ Err faults.FieldLost
  lost_found (Ok e) t is = absurd (let k : answers.Found (seen_all e) (is_crowd e.others) ≡ answers.FieldLost = sym t ∙ is in cc)
  lost_found (Err faults.Nobody) t is = absurd t
  lost_found (Err faults.Disturbed) t is = absurd (let k : answers.Disturbed ≡ answers.FieldLost = sym t ∙ is in cc)
  lost_found (Err faults.FieldLost) t is = refl
  lost_found (Err faults.Memory) t is = absurd t
  lost_found (Err faults.NotFound) t is = absurd t
  lost_found (Err faults.BadAnswer) t is = absurd t

  pub found_told : (ds : List Device) (es : List Event) → FindTells IsEnd ds es r → FindTells TellsFound ds es answer
  found_told ds es t = record {
    found = t.found;
    behind = t.behind;
    searched = t.searched;
    ends = find_told ds t.found t.behind es t.ends;
    lost = (λ is. t.lost.0 (lost_found r told is), λ some. told_end (Err faults.FieldLost) (t.lost.1 some));
  }

-- A search that failed was disturbed, or the field was lost.
abbrev IsSearchFault : PollFault → Type 0
IsSearchFault e = (e ≡ faults.Disturbed) ⊎ (e ≡ faults.FieldLost)

module _ (ds : List Device) (e : PollFault) where
  inventory_fault : (cards : List Picked) (others : Result Vcrowd PollFault) (es : List Event) → InventoryEnds IsEnd ds cards others es (Err e) → IsSearchFault e
  inventory_fault cards (Ok others) es h = absurd (let k : ◌≡◌ {A = Result Everybody PollFault} (Err e) (Ok (record { cards = cards; others = others })) = h.1 in cc)
  inventory_fault cards (Err faults.Nobody) es h = absurd h
  inventory_fault cards (Err faults.Disturbed) es h = inl (same_fault e faults.Disturbed h.0)
  inventory_fault cards (Err faults.FieldLost) es h = inr (same_fault e faults.FieldLost h)
  inventory_fault cards (Err faults.Memory) es h = absurd h
  inventory_fault cards (Err faults.NotFound) es h = absurd h
  inventory_fault cards (Err faults.BadAnswer) es h = absurd h

  find_fault : (found : Result (List Picked) PollFault) (behind : List Note) (es : List Event) → FindEnds IsEnd ds found behind es (Err e) → IsSearchFault e
  find_fault (Ok cards) behind es h = inventory_fault cards h.2 es h.4
  find_fault (Err faults.Nobody) behind es h = absurd h
  find_fault (Err faults.Disturbed) behind es h = inl (same_fault e faults.Disturbed h.0)
  find_fault (Err faults.FieldLost) behind es h = inr (same_fault e faults.FieldLost h)
  find_fault (Err faults.Memory) behind es h = absurd h
  find_fault (Err faults.NotFound) behind es h = absurd h
  find_fault (Err faults.BadAnswer) behind es h = absurd h

-- so an answer tells of it
pub may_search : (old new : Moment (World Device)) (e : PollFault) → SearchesField old new (Err e) → IsSome (poll_answer e) ⊎ (e ≡ faults.Memory)
may_search old new faults.Nobody h = inl (none_told (find_fault old.world.listeners faults.Nobody _ _ _ (h (λ k. cc)).tells.ends))
  where
    none_told : IsSearchFault faults.Nobody → IsSome (poll_answer faults.Nobody)
    none_told (inl k) = absurd cc
    none_told (inr k) = absurd cc
may_search old new faults.Disturbed h = inl refl
may_search old new faults.FieldLost h = inl refl
may_search old new faults.Memory h = inr refl
may_search old new faults.NotFound h = inl refl
may_search old new faults.BadAnswer h = inl (none_told (find_fault old.world.listeners faults.BadAnswer _ _ _ (h (λ k. cc)).tells.ends))
  where
    none_told : IsSearchFault faults.BadAnswer → IsSome (poll_answer faults.BadAnswer)
    none_told (inl k) = absurd cc
    none_told (inr k) = absurd cc

-- and tells it so
pub fault_found : (old new : Moment (World Device)) (e : PollFault) (answer : Answer) → Searches old new (Err e) → poll_answer e ≡ Some answer → TellsFound (Err e) answer
fault_found old new faults.Nobody answer s told = absurd cc
fault_found old new faults.Disturbed answer s told = told_once answer answers.Disturbed (sym told)
fault_found old new faults.FieldLost answer s told = told_once answer answers.FieldLost (sym told)
fault_found old new faults.Memory answer s told = absurd cc
fault_found old new faults.NotFound answer s told = by_fault (find_fault old.world.listeners faults.NotFound s.tells.found s.tells.behind s.asked.going.events s.tells.ends)
  where
    by_fault : IsSearchFault faults.NotFound → ⊥
    by_fault (inl k) = cc
    by_fault (inr k) = cc
fault_found old new faults.BadAnswer answer s told = absurd cc
