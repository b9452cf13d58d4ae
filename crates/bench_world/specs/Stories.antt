-- The story of each link of a bench: how it was opened and to which end, what happened while it was open, what was put
-- on it and how that was told, and what its peer accepted on it (NFC Forum SNEP 1.0; that links have numbers is this
-- project's own). A later command adds its case.
use Rattle.std.specs.Prelude.{ℕ, ◌+◌, zero, suc, drop, get_or, length, List, [], ◌∷◌, ◌++◌, if◌then◌else◌, Option, Some}
use Rattle.std.specs.Prelude.{None}
use Rattle.nfc_base.specs.declared.event.Event.{Event}
use Rattle.dep_link.specs.DepLinks.{brought}
use Rattle.llcp_link.specs.State.{restarted}
use Rattle.snep_core.specs.Links.{Told, Put}
use Rattle.snep_core.specs.Server.{Received as Accepted, serving}
use Rattle.snep_core.specs.Session.{Offer}
use Rattle.snep_core.specs.Talk.{sap_of_slot}
use Rattle.link_calls.specs.Asking.{LinkAsking, Does, Putting}
use Rattle.link_calls.specs.declared.request.SlotMessage.{SlotMessage}
use Rattle.bench_script.specs.declared.command.Command.{Command}
use Rattle.bench_script.specs.declared.command.Command.TheVariants as commands
use Rattle.bench_script.specs.DeviceIds.{bytes_of}
use Rattle.bench_world.specs.declared.entry.Answer.{Answer}
use Rattle.bench_world.specs.declared.entry.Answer.TheVariants as answers
use Rattle.bench_world.specs.declared.entry.Entry.{Entry}
use Rattle.bench_world.specs.declared.inbox.LinkRange.{LinkRange}
use Rattle.bench_world.specs.Asked.{asked_on_link}
use Rattle.bench_world.specs.Calls.{none_told, told_each}
use Rattle.bench_world.specs.Arrivals.{Arrival, arrivals_of}
use Rattle.bench_world.specs.World.{FarEnd}
use Rattle.bench_world.specs.Inbox.{gained_in}
use Rattle.bench_world.specs.Links.{OpenLink, end_numbered}
use Rattle.bench_world.specs.Linking.{own_general}
use Rattle.bench_world.specs.Forging.{forged_general, opens_link}
use Rattle.bench_world.specs.Peers.{placed_under}
use Rattle.bench_world.specs.Rawing.{raw_opens}
use Rattle.bench_world.specs.Legal.{State, Joins, changed, peer_end_of, first_state, state_after}

-- what happened of a command, by which numbers of PDUs, and what was told of it, nothing where it was cut off; an entry
-- is one
pub record Stretch : Type 0 where
  pub command : Command
  pub joins : Joins
  pub events : List Event
  pub told : Option Answer

abbrev pub stretch_of : Joins → Entry → Stretch
stretch_of joins e = record { command = e.command; joins = joins; events = e.events; told = Some e.answer }

-- how a link was opened: by the command `link`, and so between two ends of this project; by `forge`, which sends
-- payloads that were written by hand; or by `raw`, which sends frames that were
pub data Opener : Type 0 where
  ByLink : Opener
  ByForge : Opener
  ByRaw : Opener

-- a put on a link, with the SAP of the client that put it
pub record LinkPut : Type 0 where
  pub source : ℕ
  pub put : Put

-- The story of a link: its number; how it was opened; its peer, by its number among the peers; the general bytes that
-- were said to it, and its end as the link began; what happened in the entries behind, while the link was open, or, of
-- a link that began and ended within an entry, in that one; what arrived at its peer by that; what was put on it, in
-- order; and what the peer's list of accepted messages gained on it so far.
pub record Story : Type 0 where
  pub number : ℕ
  pub opener : Opener
  pub peer : ℕ
  pub general : List ℕ
  pub begun : FarEnd
  pub events : List Event
  pub arrivals : List Arrival
  pub puts : List LinkPut
  pub gained : List Accepted

-- How messages that were put were told of, in their order: by the answer, and where they were cut off they weren't.
abbrev pub told_in_order : List SlotMessage → Option Answer → List Told
told_in_order ws None = none_told ws
told_in_order ws (Some answer) = told_each ws answer

-- each is put from the SAP of its slot
abbrev pub puts_told : List SlotMessage → List Told → List LinkPut
puts_told (w ∷ ws) (t ∷ ts) = record { source = sap_of_slot w.slot; put = record { message = w.message; told = t } }
    ∷ puts_told ws ts
puts_told _ _ = []

-- what a stretch puts
abbrev pub puts_of : Option LinkAsking → Option Answer → List LinkPut
puts_of (Some (Does (Putting ws))) told = puts_told ws (told_in_order ws told)
puts_of asked told = []

abbrev pub puts_in : Command → Option Answer → List LinkPut
puts_in c told = puts_of (asked_on_link c) told

-- What the server of a peer accepted so far: it stands, or else this stayed of it.
abbrev pub accepted_of : Option FarEnd → Option FarEnd → List Accepted
accepted_of (Some end) stayed = end.service.accepted
accepted_of None (Some end) = end.service.accepted
accepted_of None None = []

-- so the peer with a number did, also one that was taken away
abbrev pub accepted_in : ℕ → State → List Accepted
accepted_in peer s = accepted_of (end_numbered peer s.peers.numbers s.world.fars) (get_or s.peers.gone peer None)

-- the range of the link with a number; the first is link 1
abbrev pub range_of : ℕ → List LinkRange → Option LinkRange
range_of zero ls = None
range_of (suc n) [] = None
range_of (suc zero) (l ∷ ls) = Some l
range_of (suc (suc n)) (l ∷ ls) = range_of (suc n) ls

-- What the list of a link's peer gained on it so far: what stands there in the link's range. An inbox tells just that.
abbrev pub gained_by : State → Option LinkRange → List Accepted
gained_by s None = []
gained_by s (Some l) = gained_in l (accepted_in l.peer s)

abbrev pub gained_on : State → ℕ → List Accepted
gained_on s number = gained_by s (range_of number s.peers.links)

-- the values that the server of the peer with a number gives
abbrev pub values_of : Option FarEnd → List Offer
values_of None = []
values_of (Some end) = end.service.table

abbrev pub values_in : ℕ → State → List Offer
values_in peer s = values_of (end_numbered peer s.peers.numbers s.world.fars)

-- the payloads that a stretch brought to a story's peer, counted from the link's beginning
abbrev pub brought_by : Stretch → Story → List (List ℕ)
brought_by x y = drop (length (brought 0 y.events)) (brought 0 (y.events ++ x.events))

-- what arrived at its peer in a stretch, from the state before it
abbrev pub arrived_by : State → Stretch → Story → List Arrival
arrived_by s x y = arrivals_of (values_in y.peer s) x.joins.far (brought_by x y)

-- a story goes on by a stretch, from the state before it to the one behind it
abbrev pub goes_on : State → Stretch → State → Story → Story
goes_on s x t y = record y {
  events = y.events ++ x.events;
  arrivals = y.arrivals ++ arrived_by s x y;
  puts = y.puts ++ puts_in x.command x.told;
  gained = gained_on t y.number;
}

-- the link that is open is the last one
abbrev pub last_goes_on : (Story → Story) → List Story → List Story
last_goes_on go [] = []
last_goes_on go (y ∷ []) = go y ∷ []
last_goes_on go (y ∷ z ∷ ys) = y ∷ last_goes_on go (z ∷ ys)

abbrev pub open_goes_on : Option OpenLink → (Story → Story) → List Story → List Story
open_goes_on None go ys = ys
open_goes_on (Some l) go ys = last_goes_on go ys

-- How a link begins in a stretch, if one does: `linked` tells its number, these general bytes were said to its peer,
-- and it is open behind the stretch; or it was opened so to the peer with an identifier, by these general bytes, and is
-- over where the stretch is.
pub data Beginning : Type 0 where
  NothingBegins : Beginning
  BeginsOpen : ℕ → List ℕ → Beginning
  BeginsAndEnds : Opener → List ℕ → List ℕ → Beginning

-- What begins in a command, by what happened in it and what was told: where `linked` is told, this link; and in a
-- `forge`, whatever it then tells, and in a `raw` of a peer, one that is over, where its ATR_REQ was answered.
abbrev pub beginning : Command → List Event → Option Answer → Beginning
beginning (commands.Link id miu window) events (Some (answers.Linked number)) = BeginsOpen number (own_general miu)
beginning (commands.Forge id payloads) events told = if opens_link id payloads events
    then BeginsAndEnds ByForge id forged_general else NothingBegins
beginning (commands.Raw id frames) events told = if raw_opens id frames events
    then BeginsAndEnds ByRaw (bytes_of id) forged_general else NothingBegins
beginning c events told = NothingBegins

abbrev pub begins_in : Stretch → Beginning
begins_in x = beginning x.command x.events x.told

-- the story of a link that begins so, to this end of its peer
abbrev pub new_story : ℕ → Opener → ℕ → List ℕ → FarEnd → Story
new_story number opener peer general end = record {
  number = number;
  opener = opener;
  peer = peer;
  general = general;
  begun = end;
  events = [];
  arrivals = [];
  puts = [];
  gained = [];
}

-- a story begins with a link that is open then, to this end of its peer
abbrev pub story_of : ℕ → List ℕ → ℕ → Option FarEnd → List Story
story_of number general peer None = []
story_of number general peer (Some end) = new_story number ByLink peer general end ∷ []

abbrev pub story_if : ℕ → List ℕ → Option OpenLink → State → List Story
story_if number general None t = []
story_if number general (Some l) t = story_of number general l.peer (peer_end_of t l)

-- A link that is over where its stretch is has the next number. Its peer's end, which stood so, began it with its
-- general bytes; and its story is what happened in the stretch.
abbrev pub whole_of : Opener → List ℕ → ℕ → ℕ → Option FarEnd → (Story → Story) → List Story
whole_of opener general number peer None go = []
whole_of opener general number peer (Some old) go = go
    (new_story number opener peer general (restarted serving old general)) ∷ []

abbrev pub story_within : Opener → List ℕ → Option ℕ → (Story → Story) → State → List Story
story_within opener general None go s = []
story_within opener general (Some peer) go s =
    whole_of opener general (length s.peers.links + 1) peer (end_numbered peer s.peers.numbers s.world.fars) go

-- what story begins in a stretch, from the state before it to the one behind it
abbrev pub begun_by : Beginning → (Story → Story) → State → State → List Story
begun_by NothingBegins go s t = []
begun_by (BeginsOpen number general) go s t = story_if number general t.link t
begun_by (BeginsAndEnds opener id general) go s t =
    story_within opener general (placed_under id s.world.field.listeners s.peers.numbers) go s

-- The stories behind a stretch. A link is open in it that was open once its command changed what it itself changes: one
-- that begins with a reset ended it.
abbrev pub stories_behind : State → Stretch → State → List Story → List Story
stories_behind s x t ys = open_goes_on (changed s x.command).link (goes_on s x t) ys
    ++ begun_by (begins_in x) (goes_on s x t) s t

-- the state behind an entry, by its numbers of PDUs
abbrev pub state_behind : State → Joins → Entry → State
state_behind s joins e = state_after s joins e.command e.events (Some e.answer)

-- the state behind some entries, and their stories, by their numbers of PDUs
abbrev pub state_from : State → List Joins → List Entry → State
state_from s [] es = s
state_from s (n ∷ ns) [] = s
state_from s (n ∷ ns) (e ∷ es) = state_from (state_behind s n e) ns es

abbrev pub stories_from : State → List Story → List Joins → List Entry → List Story
stories_from s ys [] es = ys
stories_from s ys (n ∷ ns) [] = ys
stories_from s ys (n ∷ ns) (e ∷ es) = stories_from (state_behind s n e)
    (stories_behind s (stretch_of n e) (state_behind s n e) ys) ns es

-- those of a journal; the first is that of link 1
abbrev pub stories_of : List Joins → List Entry → List Story
stories_of numbers journal = stories_from first_state [] numbers journal
