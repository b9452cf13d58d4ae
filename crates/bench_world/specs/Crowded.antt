-- The devices that a search found, as its answer lists them.
use Rattle.std.specs.Prelude.{List, [], ◌∷◌, ◌++◌, map, Bool, true, false}
use Rattle.nfca_poll.specs.declared.fault.Picked.{Picked}
use Rattle.nfca_poll.specs.declared.inventory.Vcrowd.{Vcrowd}
use Rattle.nfca_poll.specs.declared.inventory.Vcrowd.TheVariants as inventories
use Rattle.bench_script.specs.declared.command.DeviceId.TheVariants as ids
use Rattle.bench_devices.specs.declared.polling.SeenKind.TheVariants as seen
use Rattle.bench_devices.specs.declared.sweeping.Everybody.{Everybody}
use Rattle.bench_devices.specs.Polling.{seen_kind}
use Rattle.bench_world.specs.declared.entry.Seen.{Seen}

abbrev pub seen_card : Picked → Seen
seen_card p = record { id = ids.A p.id; kind = seen_kind p.kind }

abbrev pub seen_others : Vcrowd → List Seen
seen_others inventories.Nobody = []
seen_others (inventories.One id) = record { id = ids.V id; kind = seen.T5 } ∷ []
seen_others inventories.Crowd = []

abbrev pub is_crowd : Vcrowd → Bool
is_crowd inventories.Nobody = false
is_crowd (inventories.One id) = false
is_crowd inventories.Crowd = true

-- the devices that an answer lists
abbrev pub seen_all : Everybody → List Seen
seen_all e = map seen_card e.cards ++ seen_others e.others
