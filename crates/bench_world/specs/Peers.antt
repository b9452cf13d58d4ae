-- Peers among the devices of a bench: their numbers, the links that they had, and their far ends (NFC Forum LLCP 1.3,
-- SNEP 1.0; the numbers of peers and links are this project's own).
use Rattle.std.specs.Prelude.{ℕ, List, [], ◌∷◌, ◌++◌, length, slice_set, codes, nat_eq, if◌then◌else◌, Option, Some}
use Rattle.std.specs.Prelude.{None, option_map}
use Rattle.std.specs.Cmp.Lexicographic.{pointwise}
use Rattle.llcp_link.specs.State.{Bound, fresh_end}
use Rattle.snep_core.specs.Server.{fresh_server, offered}
use Rattle.far_air.specs.FarEnds.{first_far, later_fars, rests}
use Rattle.peer_air.specs.PeerFars.{peer_ends}
use Rattle.bench_devices.specs.declared.device.Device.{Device}
use Rattle.bench_devices.specs.Device.{device_id}
use Rattle.bench_world.specs.declared.inbox.LinkRange.{LinkRange}
use Rattle.bench_world.specs.World.{FarEnd}

-- Of each device, at its place, its number among the peers, and nothing of a tag. Peers are numbered from 0 on in the
-- order of placing over the whole run, so a number tells one of them for good. Of each peer so far, by its number, what
-- stayed of its far end where it was taken away, and nothing while it is placed. And the links so far, in order: the
-- first is link 1.
pub record Peers : Type 0 where
  pub numbers : List (Option ℕ)
  pub gone : List (Option FarEnd)
  pub links : List LinkRange

-- so many peers were placed so far, so the next one has this number
abbrev pub next_number : Peers → ℕ
next_number p = length p.gone

abbrev pub no_peers : Peers
no_peers = record { numbers = []; gone = []; links = [] }

-- one device more, a tag
abbrev pub with_tag : Peers → Peers
with_tag p = record { numbers = p.numbers ++ None ∷ []; gone = p.gone; links = p.links }

-- one device more, a peer
abbrev pub with_peer : Peers → Peers
with_peer p = record { numbers = p.numbers ++ Some (next_number p) ∷ []; gone = p.gone ++ None ∷ []; links = p.links }

-- what stands at the places of devices, without that of the first device that has an identifier; the others stay in
-- their order
abbrev pub without_place : {X : Type 0} → List ℕ → List Device → List (Option X) → List (Option X)
without_place id [] xs = xs
without_place id (d ∷ ds) xs = if pointwise nat_eq (device_id d) id then later_fars xs
    else first_far xs ∷ without_place id ds (later_fars xs)

-- what stands at the place of the first device that has an identifier
abbrev pub placed_under : {X : Type 0} → List ℕ → List Device → List (Option X) → Option X
placed_under id [] xs = None
placed_under id (d ∷ ds) xs = if pointwise nat_eq (device_id d) id then first_far xs
    else placed_under id ds (later_fars xs)

-- what stands at the places of devices, that at the place of the first device with an identifier being changed so
abbrev pub with_place_changed : {X : Type 0} → (X → X) → List ℕ → List Device → List (Option X) → List (Option X)
with_place_changed change id [] xs = xs
with_place_changed change id (d ∷ ds) xs =
    if pointwise nat_eq (device_id d) id then option_map change (first_far xs) ∷ later_fars xs
    else first_far xs ∷ with_place_changed change id ds (later_fars xs)

-- this under a number, where there is one
abbrev pub set_under : {X : Type 0} → Option ℕ → X → List X → List X
set_under None x xs = xs
set_under (Some n) x xs = slice_set xs n x

-- What stays of the far end of a device that is taken away is kept under its number.
abbrev pub with_gone : Option ℕ → Option FarEnd → List (Option FarEnd) → List (Option FarEnd)
with_gone number end os = set_under number (rests peer_ends end) os

-- the device with an identifier is taken away, from below these far ends; no number is given again
abbrev pub without_number : List ℕ → List Device → List (Option FarEnd) → Peers → Peers
without_number id ds fars p = record {
  numbers = without_place id ds p.numbers;
  gone = with_gone (placed_under id ds p.numbers) (placed_under id ds fars) p.gone;
  links = p.links;
}

-- under which name, and at which SAP, a SNEP server is reached
abbrev pub snep_name : List ℕ
snep_name = codes "urn:nfc:sn:snep"

abbrev pub snep_sap : ℕ
snep_sap = 4

abbrev pub snep_bound : Bound
snep_bound = record { name = snep_name; sap = snep_sap }

-- the far end of a new peer: an end of this MIU and receive window, with a server that takes messages of at most so
-- many bytes
abbrev pub new_end : ℕ → ℕ → ℕ → FarEnd
new_end miu window limit = record (fresh_end miu window (fresh_server limit)) { bound = snep_bound ∷ [] }

-- the far end whose server gives a key this value
abbrev pub end_offered : List ℕ → List ℕ → FarEnd → FarEnd
end_offered key value l = record l { service = record l.service { table = offered l.service.table key value } }
