-- Polling in a command: which request is due, and what it has come to (NFC Forum Digital Protocol). That a reset stands
-- before the first request is this project's own.
use Rattle.std.specs.Prelude.{List, [], ◌∷◌, ℕ, Option, Some, None, Result, Ok, Err}
use Rattle.air_core.specs.Conversation.{Note, Lit, Got, Lost, Next, Over, LightUp}
use Rattle.nfca_poll.specs.declared.fault.Picked.{Picked}
use Rattle.nfca_poll.specs.declared.fault.PollFault.{PollFault}
use Rattle.nfca_poll.specs.declared.fault.PollFault.TheVariants as faults
use Rattle.nfca_poll.specs.declared.inventory.Vcrowd.{Vcrowd}
use Rattle.nfca_poll.specs.Enquiry.{Enquiry}
use Rattle.nfca_poll.specs.Inventory.{inventory, picking_v}
use Rattle.nfca_poll.specs.Rounds.{finding, picking}
use Rattle.nfca_poll.specs.declared.kind.Kind.{Kind}
use Rattle.nfca_poll.specs.declared.kind.Kind.TheVariants as kinds
use Rattle.bench_script.specs.declared.command.DeviceId.{DeviceId}
use Rattle.bench_script.specs.declared.command.DeviceId.TheVariants.{A, V}
use Rattle.bench_devices.specs.declared.sweeping.Everybody.{Everybody}
use Rattle.bench_devices.specs.declared.polling.SeenKind.{SeenKind}
use Rattle.bench_devices.specs.declared.polling.SeenKind.TheVariants as seen

-- Where an enquiry is over, its answer and what the reader knows since; else what is due.
pub data Followed (X : Type 0) : Type 0 where
  Asks : Next → Followed X
  Told : Result X PollFault → List Note → Followed X

-- an enquiry that stands so, and by what it is over
abbrev pub followed : {S X : Type 0} → Enquiry S X → S → Option (Result X PollFault) → List Note → Followed X
followed e s (Some r) ns = Told r ns
followed e s None [] = Asks (e.next s)
followed e s None (Lit ∷ ns) = followed e (e.light s) (e.ended (e.light s)) ns
followed e s None (Got h ∷ ns) = followed e (e.step s h) (e.ended (e.step s h)) ns
followed e s None (Lost ∷ ns) = Told (Err faults.FieldLost) ns

-- an enquiry from its start on
abbrev pub follows : {S X : Type 0} → Enquiry S X → List Note → Followed X
follows e ns = followed e e.start (e.ended e.start) ns

-- what a reader sees a device to be, by SEL_RES
abbrev pub seen_kind : Kind → SeenKind
seen_kind kinds.T2 = seen.T2
seen_kind kinds.T4 = seen.T4
seen_kind kinds.Peer = seen.Peer

-- the kind by what was told
abbrev pub kind_by : {X : Type 0} → (X → SeenKind) → Followed X → Followed SeenKind
kind_by kind (Asks n) = Asks n
kind_by kind (Told (Ok x) ns) = Told (Ok (kind x)) ns
kind_by kind (Told (Err e) ns) = Told (Err e) ns

-- Selecting an NFC-V device: a reset, then the inventory of this identifier. What would be heard before the reset
-- belongs to no request: nothing is due then.
abbrev pub pick_v : List ℕ → List Note → Followed SeenKind
pick_v id [] = Asks LightUp
pick_v id (Lit ∷ ns) = kind_by (λ x. seen.T5) (follows (picking_v id) ns)
pick_v id (Got h ∷ ns) = Asks Over
pick_v id (Lost ∷ ns) = Told (Err faults.FieldLost) ns

-- selecting the device with an identifier, and what it is seen to be
abbrev pub selecting : DeviceId → List Note → Followed SeenKind
selecting (A id) ns = kind_by seen_kind (follows (picking id) ns)
selecting (V id) ns = pick_v id ns

-- Searching for all devices: those of NFC-A, in the order in which they are found, and then the inventory of NFC-V,
-- which follows in the lit field.
abbrev pub then_others : List Picked → Followed Vcrowd → Followed Everybody
then_others cards (Asks n) = Asks n
then_others cards (Told (Ok others) ns) = Told (Ok (record { cards = cards; others = others })) ns
then_others cards (Told (Err e) ns) = Told (Err e) ns

abbrev pub then_inventory : Followed (List Picked) → Followed Everybody
then_inventory (Asks n) = Asks n
then_inventory (Told (Ok cards) ns) = then_others cards (follows inventory ns)
then_inventory (Told (Err e) ns) = Told (Err e) ns

abbrev pub finding_all : List Note → Followed Everybody
finding_all ns = then_inventory (follows finding ns)

-- what is due, and nothing once it is over
abbrev pub asks : {X : Type 0} → Followed X → Next
asks (Asks n) = n
asks (Told r ns) = Over
