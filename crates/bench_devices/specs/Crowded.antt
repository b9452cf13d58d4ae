-- The devices that stand in the bench's field, as polling finds them: those of NFC-A in crowd order, and the Type 5
-- tag, or that there are several.
use Rattle.std.specs.Prelude.{ℕ, List, [], ◌∷◌, filter_map, Option, Some, None}
use Rattle.nfca_poll.specs.declared.kind.Kind.TheVariants as kinds
use Rattle.nfca_poll.specs.declared.fault.Picked.{Picked}
use Rattle.nfca_poll.specs.declared.inventory.Vcrowd.{Vcrowd}
use Rattle.nfca_poll.specs.declared.inventory.Vcrowd.TheVariants as inventories
use Rattle.nfca_poll.specs.Crowd.{Card, crowd}
use Rattle.bench_devices.specs.declared.device.Device.{Device}
use Rattle.bench_devices.specs.declared.device.Device.TheVariants.{T2, T4, Peer, T5, T3}

-- an NFC-A device, and the identifier of an NFC-V one
abbrev pub card_if : Device → Option Card
card_if (T2 d) = Some (record { id = d.id; kind = kinds.T2; front = d.front })
card_if (T4 d) = Some (record { id = d.id; kind = kinds.T4; front = d.front })
card_if (Peer d) = Some (record { id = d.id; kind = kinds.Peer; front = d.front })
card_if (T5 p) = None
card_if (T3 p) = None

abbrev pub v_if : Device → Option (List ℕ)
v_if (T2 d) = None
v_if (T4 d) = None
v_if (Peer d) = None
v_if (T5 p) = Some p.tag.id
v_if (T3 p) = None

-- the NFC-A devices that stand in the field, in crowd order
abbrev pub crowd_of : List Device → List Picked
crowd_of ds = crowd (filter_map card_if ds)

-- what an inventory of NFC-V tells of these identifiers
abbrev pub inventory_of : List (List ℕ) → Vcrowd
inventory_of [] = inventories.Nobody
inventory_of (id ∷ []) = inventories.One id
inventory_of (id ∷ other ∷ more) = inventories.Crowd

abbrev pub others_of : List Device → Vcrowd
others_of ds = inventory_of (filter_map v_if ds)
