-- How selecting a device, a search and a read end, and the cause of each end. What tells of an end is the caller's: a
-- read and a search are told by their results, and a bench by its answers.
use Rattle.std.specs.Prelude.{◌≡◌, ◌↔◌, ◌⊎◌, ◌<◌, ◌≤◌, List, [], ◌∷◌, Result, Ok, Err}
use Rattle.std.specs.List.{AllByRecursion}
use Rattle.nfc_base.specs.Signal.{Signal}
use Rattle.nfc_base.specs.Trace.{breaks}
use Rattle.nfc_base.specs.declared.frame.Tech.TheVariants as techs
use Rattle.nfc_base.specs.declared.event.Event.{Event}
use Rattle.nfc_base.specs.declared.tag_link.AskFault.{AskFault}
use Rattle.air_core.specs.Conversation.{Note, receptions}
use Rattle.air_core.specs.Waits.{Standing, Asking, Broken, Astray, stand}
use Rattle.nfca_poll.specs.declared.fault.Picked.{Picked}
use Rattle.nfca_poll.specs.declared.fault.PollFault.{PollFault}
use Rattle.nfca_poll.specs.declared.fault.PollFault.TheVariants as faults
use Rattle.nfca_poll.specs.declared.inventory.Vcrowd.{Vcrowd}
use Rattle.nfca_poll.specs.declared.inventory.Vcrowd.TheVariants.{Nobody}
use Rattle.nfca_poll.specs.Inventory.{tries, inventory, inventory_all, inventory_of}
use Rattle.nfca_poll.specs.Rounds.{finding}
use Rattle.nfc_base.specs.Prefix.{IsPrefix}
use Rattle.isodep_link.specs.Asking as exchange
use Rattle.bench_script.specs.declared.command.DeviceId.{DeviceId}
use Rattle.bench_script.specs.declared.command.DeviceId.TheVariants.{A, V}
use Rattle.bench_devices.specs.declared.device.Device.{Device}
use Rattle.bench_devices.specs.declared.polling.SeenKind.{SeenKind}
use Rattle.bench_devices.specs.declared.polling.SeenKind.TheVariants as seen
use Rattle.bench_devices.specs.declared.sweeping.Everybody.{Everybody}
use Rattle.bench_devices.specs.CardAsking.{CardStanding, Activates, Exchanges, card_stands}
use Rattle.bench_devices.specs.Polling.{Told, follows}
use Rattle.bench_devices.specs.Crowded.{crowd_of, others_of}
use Rattle.bench_devices.specs.Device.{device_id, device_tech}
use Rattle.bench_devices.specs.Noise.{noisy_tries, MissedRound, GaveUp}

-- a device of this identifier, which is NFC-A or NFC-V by its length
abbrev pub IsNamed : DeviceId → Device → Type 0
IsNamed (A id) d = (device_tech d ≡ techs.A) × (device_id d ≡ id)
IsNamed (V id) d = (device_tech d ≡ techs.V) × (device_id d ≡ id)

-- none of these devices has this identifier
abbrev pub IsAbsent : DeviceId → List Device → Type 0
IsAbsent id ds = AllByRecursion (λ d. IsNamed id d → ⊥) ds

-- Nothing was found of an identifier: no NFC-A, or no NFC-V device has it, or the last round missed its end; for NFC-V
-- four tries had noise.
abbrev pub MissedBy : DeviceId → List Device → List Event → Type 0
MissedBy (A id) ds es = IsAbsent (A id) ds ⊎ MissedRound es
MissedBy (V id) ds es = IsAbsent (V id) ds ⊎ (tries ≤ noisy_tries (inventory_of id) es)

-- rounds are of NFC-A alone
abbrev pub IsGivenUp : DeviceId → List Event → Type 0
IsGivenUp (A id) es = GaveUp es
IsGivenUp (V id) es = ⊥

-- why selecting a device ended so, by the devices that are placed and what happened
abbrev pub HasPollCause : DeviceId → List Device → Result SeenKind PollFault → List Event → Type 0
HasPollCause id ds (Ok x) es = Unit {0}
HasPollCause id ds (Err faults.Nobody) es = ⊥
HasPollCause id ds (Err faults.Disturbed) es = IsGivenUp id es
HasPollCause id ds (Err faults.FieldLost) es = Unit {0}
HasPollCause id ds (Err faults.Memory) es = ⊥
HasPollCause id ds (Err faults.NotFound) es = MissedBy id ds es
HasPollCause id ds (Err faults.BadAnswer) es = ⊥

-- What tells of a read once its tag is selected, by where its waits stand at the end: all that it asks was answered,
-- and this tells what the store holds; or this tells of the fault that ended a wait.
abbrev pub TellsStanding : {X : Type 0} → (X → Type 0) → (AskFault → X → Type 0) → Standing → X → Type 0
TellsStanding Tells Fails (Asking bad []) x = Tells x
TellsStanding Tells Fails (Asking bad (c ∷ cs)) x = ⊥
TellsStanding Tells Fails (Broken e cs) x = Fails e x
TellsStanding Tells Fails Astray x = ⊥

-- Likewise of a Type 4 tag, whose activation is a wait too.
abbrev pub TellsExchange : {X : Type 0} → (X → Type 0) → (AskFault → X → Type 0) → exchange.IsoStanding → X → Type 0
TellsExchange Tells Fails (exchange.Waits i f cs) x = ⊥
TellsExchange Tells Fails (exchange.Rests i) x = Tells x
TellsExchange Tells Fails (exchange.Broken e) x = Fails e x
TellsExchange Tells Fails exchange.Astray x = ⊥

abbrev pub TellsCard : {X : Type 0} → (X → Type 0) → (AskFault → X → Type 0) → CardStanding → X → Type 0
TellsCard Tells Fails (Activates bad) x = ⊥
TellsCard Tells Fails (Exchanges s) x = TellsExchange Tells Fails s x

-- what tells of a read of a tag that is seen to be of this kind, by what was heard since it was selected; of a peer
-- nothing is asked
abbrev pub TellsBy : {X : Type 0} → SeenKind → (X → Type 0) → (AskFault → X → Type 0) → List Signal → List Note → X
    → Type 0
TellsBy seen.T2 Tells Fails asked ns x = TellsStanding Tells Fails (stand 0 asked ns) x
TellsBy seen.T4 Tells Fails asked ns x = TellsCard Tells Fails (card_stands asked ns) x
TellsBy seen.T5 Tells Fails asked ns x = TellsStanding Tells Fails (stand 0 asked ns) x
TellsBy seen.Peer Tells Fails asked ns x = Tells x

-- No wait has ended by a fault: commands are asked still, or all were answered.
abbrev pub IsUnbroken : Standing → Type 0
IsUnbroken (Asking bad cs) = Unit {0}
IsUnbroken (Broken e cs) = ⊥
IsUnbroken Astray = ⊥

-- Likewise of a Type 4 tag.
abbrev pub IsUnbrokenExchange : exchange.IsoStanding → Type 0
IsUnbrokenExchange (exchange.Waits i f cs) = Unit {0}
IsUnbrokenExchange (exchange.Rests i) = Unit {0}
IsUnbrokenExchange (exchange.Broken e) = ⊥
IsUnbrokenExchange exchange.Astray = ⊥

abbrev pub IsUnbrokenCard : CardStanding → Type 0
IsUnbrokenCard (Activates bad) = Unit {0}
IsUnbrokenCard (Exchanges s) = IsUnbrokenExchange s

-- so it is with a tag that is seen to be of this kind, by what was heard since it was selected
abbrev pub GoesOnBy : SeenKind → List Signal → List Note → Type 0
GoesOnBy seen.T2 asked ns = IsUnbroken (stand 0 asked ns)
GoesOnBy seen.T4 asked ns = IsUnbrokenCard (card_stands asked ns)
GoesOnBy seen.T5 asked ns = IsUnbroken (stand 0 asked ns)
GoesOnBy seen.Peer asked ns = Unit {0}

-- what the inventory told is so, or each of its four tries had noise
abbrev pub AreOthers : List Device → Vcrowd → List Event → Type 0
AreOthers ds others es = (others ≡ others_of ds) ⊎ ((others ≡ Nobody) × (tries ≤ noisy_tries inventory_all es))

-- how the inventory of a search ended, by what the search found
abbrev pub InventoryEnds : {X : Type 0} → (Result Everybody PollFault → X → Type 0) → List Device → List Picked
    → Result Vcrowd PollFault → List Event → X → Type 0
InventoryEnds Tells ds cards (Ok others) es x = AreOthers ds others es
    × Tells (Ok (record { cards = cards; others = others })) x
InventoryEnds Tells ds cards (Err faults.Nobody) es x = ⊥
InventoryEnds Tells ds cards (Err faults.Disturbed) es x =
    Tells (Err faults.Disturbed) x × (tries ≤ noisy_tries inventory_all es)
InventoryEnds Tells ds cards (Err faults.FieldLost) es x = Tells (Err faults.FieldLost) x
InventoryEnds Tells ds cards (Err faults.Memory) es x = ⊥
InventoryEnds Tells ds cards (Err faults.NotFound) es x = ⊥
InventoryEnds Tells ds cards (Err faults.BadAnswer) es x = ⊥

-- An inventory follows where the search for NFC-A devices ended well: it found the first of the crowd, and all of it
-- unless it missed its end. It was disturbed only where each of four rounds had noise. What was heard behind it is the
-- inventory's.
abbrev pub FindEnds : {X : Type 0} → (Result Everybody PollFault → X → Type 0) → List Device
    → Result (List Picked) PollFault → List Note → List Event → X → Type 0
FindEnds Tells ds (Ok cards) behind es x =
    IsPrefix cards (crowd_of ds) × ((cards ≡ crowd_of ds) ⊎ MissedRound es)
    × (others : Result Vcrowd PollFault) × (follows inventory behind ≡ Told others [])
    × InventoryEnds Tells ds cards others es x
FindEnds Tells ds (Err faults.Nobody) behind es x = ⊥
FindEnds Tells ds (Err faults.Disturbed) behind es x = Tells (Err faults.Disturbed) x × GaveUp es
FindEnds Tells ds (Err faults.FieldLost) behind es x = Tells (Err faults.FieldLost) x
FindEnds Tells ds (Err faults.Memory) behind es x = ⊥
FindEnds Tells ds (Err faults.NotFound) behind es x = ⊥
FindEnds Tells ds (Err faults.BadAnswer) behind es x = ⊥

-- The law of a search for all devices: first it finds those of NFC-A, then the inventory follows. The field is lost
-- exactly where a Break was used.
pub record FindTells {X : Type 0} (Tells : Result Everybody PollFault → X → Type 0) (ds : List Device)
    (events : List Event) (x : X) : Type 0 where
  pub found : Result (List Picked) PollFault
  pub behind : List Note
  pub searched : follows finding (receptions events) ≡ Told found behind
  pub ends : FindEnds Tells ds found behind events x
  pub lost : Tells (Err faults.FieldLost) x ↔ (0 < breaks events)
