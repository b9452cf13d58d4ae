-- The law of links: what a peer accepts on a link is a prefix of what was put there and fits, which covers all that was
-- told to be taken, and at most one more; and it's what the payloads put that arrived there (NFC Forum SNEP 1.0; the
-- law is this project's own).
use Rattle.std.specs.Prelude.{◌≡◌, Bool, true, false, ℕ, ◌+◌, ◌==◌, nat_eq, not, ◌⊎◌, List, [], ◌∷◌, ◌++◌, map}
use Rattle.std.specs.Prelude.{if◌then◌else◌, Option, Some, None}
use Rattle.std.specs.List.{AllByRecursion}
use Rattle.snep_core.specs.Links.{Put, LinkAccepts}
use Rattle.snep_core.specs.Payloads.{accepted_from}
use Rattle.snep_core.specs.Server.{Received as Accepted}
use Rattle.nfc_base.specs.declared.event.Event.{Event}
use Rattle.bench_script.specs.declared.command.Command.{Command}
use Rattle.bench_script.specs.declared.command.Command.TheVariants as commands
use Rattle.bench_script.specs.declared.command.DeviceId.{DeviceId}
use Rattle.bench_script.specs.DeviceIds.{bytes_of}
use Rattle.bench_world.specs.declared.entry.Answer.{Answer}
use Rattle.bench_world.specs.declared.entry.Answer.TheVariants as answers
use Rattle.bench_world.specs.declared.entry.Entry.{Entry}
use Rattle.bench_world.specs.declared.entry.Received.{Received}
use Rattle.bench_world.specs.ByPayloads.{IfPayloads, IsByPayloads, IsFrontOfPayloads}
use Rattle.bench_world.specs.Inbox.{came_on_link, chosen, received_on}
use Rattle.bench_world.specs.Journal.{LeadsTo}
use Rattle.bench_world.specs.Legal.{State, Joins, CutShort, first_state}
use Rattle.bench_world.specs.Halting.{Halts}
use Rattle.bench_world.specs.Peers.{placed_under}
use Rattle.bench_world.specs.Stories.{Opener, ByLink, ByForge, ByRaw, Beginning, NothingBegins, BeginsOpen}
use Rattle.bench_world.specs.Stories.{BeginsAndEnds, LinkPut, Story, Stretch, accepted_in, beginning, state_from}
use Rattle.bench_world.specs.Stories.{stories_behind, stories_of}

-- what was put from a client's SAP
abbrev pub puts_from : ℕ → List LinkPut → List Put
puts_from client [] = []
puts_from client (p ∷ ps) = if p.source == client then p.put ∷ puts_from client ps else puts_from client ps

-- On a link that `link` opened: of each client's SAP, what was accepted from it is a prefix of the messages that were
-- put from it and are within the limit. The prefix covers all of them that were told to be taken, and at most one more,
-- which then is the last put, and wasn't answered. Payloads and frames that are written by hand are no puts of a
-- client: of such a link this says nothing.
abbrev pub AcceptsByOpener : Opener → Story → Type 0
AcceptsByOpener ByLink y = (client : ℕ) → LinkAccepts y.begun.service.limit (puts_from client y.puts)
    (accepted_from client y.gained)
AcceptsByOpener ByForge y = Unit {0}
AcceptsByOpener ByRaw y = Unit {0}

abbrev pub KeepsLinkLaw : Story → Type 0
KeepsLinkLaw y = AcceptsByOpener y.opener y

-- the links are numbered in order
abbrev pub AreCounted : ℕ → List Story → Type 0
AreCounted n [] = Unit {0}
AreCounted n (y ∷ ys) = (y.number ≡ n) × AreCounted (n + 1) ys

-- the numbers that `linked` told in a journal
abbrev pub told_link : Command → Answer → List ℕ
told_link (commands.Link id miu window) (answers.Linked number) = number ∷ []
told_link c answer = []

abbrev pub told_links : List Entry → List ℕ
told_links [] = []
told_links (e ∷ es) = told_link e.command e.answer ++ told_links es

-- and those of the stories of links that `link` opened
abbrev pub by_link : Opener → ℕ → List ℕ
by_link ByLink number = number ∷ []
by_link ByForge number = []
by_link ByRaw number = []

abbrev pub numbers_by_link : List Story → List ℕ
numbers_by_link [] = []
numbers_by_link (y ∷ ys) = by_link y.opener y.number ++ numbers_by_link ys

-- how the links of a journal were opened, by what happened in each entry and what it told
abbrev pub opener_of : Beginning → List Opener
opener_of NothingBegins = []
opener_of (BeginsOpen number general) = ByLink ∷ []
opener_of (BeginsAndEnds opener id general) = opener ∷ []

abbrev pub openers_in : List Entry → List Opener
openers_in [] = []
openers_in (e ∷ es) = opener_of (beginning e.command e.events (Some e.answer)) ++ openers_in es

-- each message that was gained on a link of this peer, as an inbox tells it
abbrev pub told_by_stories : List Story → ℕ → List Received
told_by_stories [] peer = []
told_by_stories (y ∷ ys) peer = (if nat_eq y.peer peer then received_on y.number y.gained else [])
    ++ told_by_stories ys peer

-- the number of the peer with an identifier
abbrev pub peer_under : DeviceId → State → Option ℕ
peer_under id s = placed_under (bytes_of id) s.world.field.listeners s.peers.numbers

-- What a peer's list gained outside all stories: what stands there in the range of none of its links. Frames that are
-- sent as they are may bring it, without a link.
abbrev pub gained_aside : State → ℕ → List Accepted
gained_aside s peer = chosen (λ n. not (came_on_link s.peers.links peer n)) 0 (accepted_in peer s)

-- An inbox tells first what its peer's list gained on no link, and then what it gained on each link so far, each
-- message once, and nothing else.
pub record TellsInbox (s : State) (so_far : List Story) (id : DeviceId) (answer : Answer) : Type 0 where
  pub peer : ℕ
  pub placed : peer_under id s ≡ Some peer
  pub told : answer ≡ answers.Inbox (received_on 0 (gained_aside s peer) ++ told_by_stories so_far peer)

-- So does each of a journal, by the entries before it.
abbrev pub InboxesTell : List Joins → List Entry → Type 0
InboxesTell numbers journal =
    (before : List Entry) (e : Entry) (behind : List Entry) (id : DeviceId) → journal ≡ before ++ e ∷ behind
    → e.command ≡ commands.Inbox id
    → TellsInbox (state_from first_state numbers before) (stories_of numbers before) id e.answer

-- Frames of a script's own are sent by a command.
abbrev pub is_raw : Command → Bool
is_raw (commands.Raw id frames) = true
is_raw c = false

-- As long as a journal sends no such frames, what stands in a peer's list came on its links: an inbox tells of no
-- others.
abbrev pub NothingAside : List Joins → List Entry → Type 0
NothingAside numbers journal =
    (before : List Entry) (behind : List Entry) (id : DeviceId) (peer : ℕ) → journal ≡ before ++ behind
    → AllByRecursion (λ (e : Entry). is_raw e.command ≡ false) before
    → peer_under id (state_from first_state numbers before) ≡ Some peer
    → gained_aside (state_from first_state numbers before) peer ≡ []

-- The links of a journal, by the numbers of PDUs of its entries. Each has its story, and its number, in order, from 1
-- on; an entry has one exactly where a link begins in it; and those that `link` opened are those that the answers
-- `linked` tell of.
pub record LinksAccept (numbers : List Joins) (journal : List Entry) : Type 0 where
  pub accept : AllByRecursion KeepsLinkLaw (stories_of numbers journal)
  pub arrived : AllByRecursion (IfPayloads IsByPayloads) (stories_of numbers journal)
  pub opened : map (λ (y : Story). y.opener) (stories_of numbers journal) ≡ openers_in journal
  pub linked : numbers_by_link (stories_of numbers journal) ≡ told_links journal
  pub counted : AreCounted 1 (stories_of numbers journal)
  pub inboxes : InboxesTell numbers journal
  pub aside : NothingAside numbers journal

-- So it is of each legal journal.
abbrev pub LinkLaw : Type 0
LinkLaw =
    (lines : List (List ℕ)) (numbers : List Joins) (journal : List Entry) (last : State)
    → LeadsTo lines numbers journal last
    → LinksAccept numbers journal

-- A command that want of memory cut off is one stretch more, of which nothing was told.
abbrev pub cut_stretch : Command → Joins → List Event → Stretch
cut_stretch c joins cut = record { command = c; joins = joins; events = cut; told = None }

-- Behind it, where something was done, the peers' lists keep the law of links too: its put counts as put, and wasn't
-- answered. Where nothing was done the links are as the journal left them.
abbrev pub CutLinkLaw : Type 0
CutLinkLaw =
    (lines : List (List ℕ)) (numbers : List Joins) (journal : List Entry) (last : State)
    → LeadsTo lines numbers journal last
    → (joins : Joins) (c : Command) (cut : List Event) (t : State)
    → CutShort joins last c cut t ⊎ Halts joins last c cut t
    → AllByRecursion KeepsLinkLaw (stories_behind last (cut_stretch c joins cut) t (stories_of numbers journal))

-- What arrived counts there too: what the peers' lists gained is the first of what the payloads put, and at least what
-- all payloads but the last put.
abbrev pub CutArrivalLaw : Type 0
CutArrivalLaw =
    (lines : List (List ℕ)) (numbers : List Joins) (journal : List Entry) (last : State)
    → LeadsTo lines numbers journal last
    → (joins : Joins) (c : Command) (cut : List Event) (t : State)
    → CutShort joins last c cut t ⊎ Halts joins last c cut t
    → AllByRecursion (IfPayloads IsFrontOfPayloads) (stories_behind last (cut_stretch c joins cut) t
    (stories_of numbers journal))
