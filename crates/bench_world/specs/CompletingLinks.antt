-- What commands of links answer where noise doesn't keep them from it: no Break was used, no wait had six bad
-- receptions, and where a link is opened, polling had one round without noise (why a server refuses, and what a peer
-- tells of a name, is from NFC Forum SNEP 1.0 and LLCP 1.3; rounds and six receptions are this project's own).
use Rattle.std.specs.Prelude.{◌≡◌, ◌↔◌, ℕ, ◌+◌, ◌≤◌, nat_lt, not, List, [], ◌∷◌, length, map, true, false, Option, Some}
use Rattle.std.specs.Prelude.{None, Ok, if◌then◌else◌}
use Rattle.nfc_base.specs.Signal.{Signal}
use Rattle.nfc_base.specs.Trace.{breaks}
use Rattle.nfc_base.specs.declared.event.Event.{Event}
use Rattle.nfc_base.specs.declared.tag_link.AskFault.TheVariants as asking
use Rattle.air_core.specs.Conversation.{Note, receptions}
use Rattle.air_core.specs.Waits.{Broken, stand}
use Rattle.dep_link.specs.Activating.{atr_frame}
use Rattle.llcp_link.specs.Names.{found}
use Rattle.snep_core.specs.Session.{Offer, value_of}
use Rattle.link_calls.specs.Asking.{LinkAsking, Does, Closes, Finding, Getting, Putting, put_from}
use Rattle.link_calls.specs.declared.request.SlotMessage.{SlotMessage}
use Rattle.bench_script.specs.declared.command.Command.{Command}
use Rattle.bench_script.specs.declared.command.Command.TheVariants.{Link}
use Rattle.bench_script.specs.declared.command.DeviceId.TheVariants.{A}
use Rattle.bench_devices.specs.declared.device.Device.{Device}
use Rattle.bench_devices.specs.declared.polling.SeenKind.TheVariants.{Peer}
use Rattle.bench_devices.specs.Answering.{IsNamed}
use Rattle.bench_devices.specs.Device.{is_tag}
use Rattle.bench_devices.specs.Placed.{device_with}
use Rattle.bench_devices.specs.Polling.{Told, selecting}
use Rattle.bench_world.specs.declared.entry.Answer.{Answer}
use Rattle.bench_world.specs.declared.entry.Answer.TheVariants as answers
use Rattle.bench_world.specs.declared.entry.Entry.{Entry}
use Rattle.bench_world.specs.declared.entry.SlotDone.{SlotDone}
use Rattle.bench_world.specs.Asked.{asked_on_link}
use Rattle.bench_world.specs.Calls.{HadSixBad, OfEnd}
use Rattle.bench_world.specs.Completing.{IsQuietOnce}
use Rattle.bench_world.specs.Journal.{LeadsTo}
use Rattle.bench_world.specs.Legal.{State, Given, Joins, LegalStep, peer_end_of}
use Rattle.bench_world.specs.Linking.{own_general}
use Rattle.bench_world.specs.Links.{OpenLink}
use Rattle.bench_world.specs.World.{FarEnd}

-- What a peer answers to a message that is put: its server takes one within its limit.
abbrev pub put_answer : List ℕ → FarEnd → Answer
put_answer m end = if nat_lt end.service.limit (length m) then answers.Reject else answers.Success

-- To several that are put at once, of each the same.
abbrev pub done_so : ℕ → SlotMessage → SlotDone
done_so limit w = record { slot = w.slot; success = not (nat_lt limit (length w.message)) }

abbrev pub puts_answer : List SlotMessage → FarEnd → Answer
puts_answer (w ∷ []) end = put_answer w.message end
puts_answer [] end = answers.Puts []
puts_answer (w ∷ v ∷ ws) end = answers.Puts (map (done_so end.service.limit) (w ∷ v ∷ ws))

-- What it answers to a get of at most so many bytes, by the first cause to refuse it: the key is longer than the limit;
-- the server has no values; none of this key; or a longer one.
abbrev pub value_answer : ℕ → Option (List ℕ) → Answer
value_answer most None = answers.NoValue
value_answer most (Some v) = if nat_lt most (length v) then answers.Excess else answers.Value v

abbrev pub table_answer : ℕ → List ℕ → List Offer → Answer
table_answer most key [] = answers.NotImplemented
table_answer most key (o ∷ os) = value_answer most (value_of key (o ∷ os))

abbrev pub get_answer : ℕ → List ℕ → FarEnd → Answer
get_answer most key end = if nat_lt end.service.limit (length key) then answers.Reject
    else table_answer most key end.service.table

-- A wait of a command on the open link had six bad receptions, by these numbers of PDUs and what happened.
abbrev pub HadSixBadBy : Option LinkAsking → OpenLink → List ℕ → List Event → Type 0
HadSixBadBy None l joins es = ⊥
HadSixBadBy (Some asked) l joins es = HadSixBad asked l joins es

abbrev pub HadSixBadOn : OpenLink → List ℕ → Command → List Event → Type 0
HadSixBadOn l joins c es = HadSixBadBy (asked_on_link c) l joins es

-- Nothing kept it from its answer.
pub record IsUndisturbedOn (l : OpenLink) (joins : List ℕ) (c : Command) (es : List Event) : Type 0 where
  pub lit : breaks es ≡ 0
  pub waits : HadSixBadOn l joins c es → ⊥

-- what a peer answers to what is asked
abbrev pub peer_answer : LinkAsking → FarEnd → Answer
peer_answer (Does (Putting ws)) end = puts_answer ws end
peer_answer (Does (Getting sap most key)) end = get_answer most key end
peer_answer (Does (Finding name)) end = answers.Sap (found end.bound name)
peer_answer Closes end = answers.Unlinked

-- Exactly so what is asked is answered as the peer answers it, and the link is closed.
abbrev pub IsComplete : LinkAsking → Type 0
IsComplete asked =
    (s t : State) (g : Given) (e : Entry) (l : OpenLink) → LegalStep s g e t → asked_on_link e.command ≡ Some asked
    → s.link ≡ Some l
    → OfEnd (λ end. (e.answer ≡ peer_answer asked end) ↔ IsUndisturbedOn l g.joins.own e.command e.events)
    (peer_end_of s l)

abbrev pub AskedComplete : Type 0
AskedComplete = (asked : LinkAsking) → IsComplete asked

-- so it is of one message and of several, of a get, a lookup and a close
abbrev pub PutsComplete : Type 0
PutsComplete = (slot : ℕ) (m : List ℕ) → IsComplete (Does (put_from slot m))

abbrev pub SeveralComplete : Type 0
SeveralComplete = (ws : List SlotMessage) → IsComplete (Does (Putting ws))

abbrev pub GetsComplete : Type 0
GetsComplete = (sap most : ℕ) (key : List ℕ) → IsComplete (Does (Getting sap most key))

abbrev pub LookupsComplete : Type 0
LookupsComplete = (name : List ℕ) → IsComplete (Does (Finding name))

abbrev pub UnlinksComplete : Type 0
UnlinksComplete = IsComplete Closes

-- each message is within the limit
abbrev pub EachWithin : ℕ → List SlotMessage → Type 0
EachWithin limit [] = Unit {0}
EachWithin limit (w ∷ ws) = (length w.message ≤ limit) × EachWithin limit ws

-- What is asked is valid where the peer has no cause to refuse it: each message or the key is within the limit, and the
-- key has a value, which isn't longer than the client takes. A lookup and a close always are.
abbrev pub IsValidAsking : LinkAsking → FarEnd → Type 0
IsValidAsking (Does (Putting ws)) end = EachWithin end.service.limit ws
IsValidAsking (Does (Getting sap most key)) end = (length key ≤ end.service.limit) × (value : List ℕ)
    × (value_of key end.service.table ≡ Some value) × (length value ≤ most)
IsValidAsking (Does (Finding name)) end = Unit {0}
IsValidAsking Closes end = Unit {0}

abbrev pub IsValidBy : Option LinkAsking → FarEnd → Type 0
IsValidBy None end = ⊥
IsValidBy (Some asked) end = IsValidAsking asked end

abbrev pub IsValid : FarEnd → Command → Type 0
IsValid end c = IsValidBy (asked_on_link c) end

-- all are told to be taken
abbrev pub all_taken : List SlotMessage → Answer
all_taken (w ∷ []) = answers.Success
all_taken [] = answers.Puts []
all_taken (w ∷ v ∷ ws) = answers.Puts (map (λ (x : SlotMessage). record { slot = x.slot; success = true }) (w ∷ v ∷ ws))

-- what a valid one is answered
abbrev pub IsOkAsking : LinkAsking → FarEnd → Answer → Type 0
IsOkAsking (Does (Putting ws)) end answer = answer ≡ all_taken ws
IsOkAsking (Does (Getting sap most key)) end answer =
    (value : List ℕ) × (value_of key end.service.table ≡ Some value) × (answer ≡ answers.Value value)
IsOkAsking (Does (Finding name)) end answer = answer ≡ answers.Sap (found end.bound name)
IsOkAsking Closes end answer = answer ≡ answers.Unlinked

abbrev pub IsOkBy : Option LinkAsking → FarEnd → Answer → Type 0
IsOkBy None end answer = ⊥
IsOkBy (Some asked) end answer = IsOkAsking asked end answer

abbrev pub IsOk : FarEnd → Command → Answer → Type 0
IsOk end c answer = IsOkBy (asked_on_link c) end answer

abbrev pub ValidIsOk : Type 0
ValidIsOk =
    (s t : State) (g : Given) (e : Entry) (l : OpenLink) (end : FarEnd) → LegalStep s g e t → s.link ≡ Some l
    → peer_end_of s l ≡ Some end → IsValid end e.command
    → IsUndisturbedOn l g.joins.own e.command e.events → IsOk end e.command e.answer

-- Nothing kept the opening of a link, by an initiator of this MIU, from its answer. Once a peer is selected, ATR_REQ
-- alone is waited for.
pub record IsUndisturbedOpening (id : List ℕ) (miu : ℕ) (es : List Event) : Type 0 where
  pub lit : breaks es ≡ 0
  pub round : IsQuietOnce (A id) es
  pub waits : (behind : List Note) (left : List Signal) → selecting (A id) (receptions es) ≡ Told (Ok Peer) behind
      → stand 0 (atr_frame (own_general miu) ∷ []) behind ≡ Broken asking.SixBad left → ⊥

-- what opening a link to a device is answered, by the number that the link has
abbrev pub link_answer : ℕ → Device → Answer
link_answer n d = if is_tag d then answers.WrongKind else answers.Linked n

-- The entry opens a link to this device, which is placed.
pub record OpensPlaced (s : State) (e : Entry) (id : List ℕ) (miu window : ℕ) (d : Device) : Type 0 where
  pub command : e.command ≡ Link id miu window
  pub placed : device_with id s.world.field.listeners ≡ Some d
  pub named : IsNamed (A id) d

-- So it is answered wherever the lines of a script lead.
abbrev pub LinkingsComplete : Type 0
LinkingsComplete =
    (lines : List (List ℕ)) (numbers : List Joins) (journal : List Entry) (s t : State) (g : Given) (e : Entry)
    (id : List ℕ) (miu window : ℕ) (d : Device) → LeadsTo lines numbers journal s → LegalStep s g e t
    → OpensPlaced s e id miu window d → IsUndisturbedOpening id miu e.events
    → e.answer ≡ link_answer (length s.peers.links + 1) d

-- Whatever the noise, of a tag alone it's told that it has none, and to a peer alone a link is opened, which has the
-- next number.
abbrev pub KindsTold : Type 0
KindsTold =
    (lines : List (List ℕ)) (numbers : List Joins) (journal : List Entry) (s t : State) (g : Given) (e : Entry)
    (id : List ℕ) (miu window : ℕ) (d : Device) → LeadsTo lines numbers journal s → LegalStep s g e t
    → OpensPlaced s e id miu window d → (e.answer ≡ answers.WrongKind → is_tag d ≡ true)
    × ((n : ℕ) → e.answer ≡ answers.Linked n → (is_tag d ≡ false) × (n ≡ length s.peers.links + 1))
