-- What a link of payloads that were written by hand leaves of devices and of what peers accepted.
use Rattle.std.proofs.Common.{◌≡◌, ℕ, List, Bool, true, false, Option, Some, None, ap}
use Rattle.nfc_base.specs.declared.event.Event.{Event}
use Rattle.bench_script.specs.declared.command.Command.TheVariants.{Forge}
use Rattle.bench_script.specs.declared.command.DeviceId.{DeviceId}
use Rattle.bench_script.specs.DeviceIds.{bytes_of}
use Rattle.bench_world.specs.World.{FarEnd, Stable, stable}
use Rattle.bench_world.specs.Links.{with_link_if}
use Rattle.bench_world.specs.Peers.{placed_under}
use Rattle.bench_world.proofs.open_link.Unlinking.{same_numbers}
use Rattle.bench_world.specs.Legal.{State, Joins, ForgeCutLeaves, ForgeLeaves, changed, peers_forged, unlinked, world_after}

-- no peer comes or goes
pub forged_numbers : (b : Bool) (s : State) (id : DeviceId) (behind : List (Option FarEnd)) → (peers_forged b s id behind).numbers ≡ s.peers.numbers
forged_numbers false s id behind = same_numbers s.link s.peers s.world.fars
forged_numbers true s id behind = by (placed_under (bytes_of id) s.world.field.listeners s.peers.numbers)
  where
    by : (o : Option ℕ) → (with_link_if o s.world.fars behind (unlinked s).peers).numbers ≡ s.peers.numbers
    by None = same_numbers s.link s.peers s.world.fars
    by (Some n) = same_numbers s.link s.peers s.world.fars

-- no device changes in what stays of it
pub forge_devices : (b : Bool) (s : State) (joins : Joins) (id : List ℕ) (payloads : List (List ℕ)) (events : List Event) → ForgeLeaves b s joins id payloads events
    → (stable (world_after s joins (Forge id payloads) events)).devices ≡ (stable (changed s (Forge id payloads)).world).devices
forge_devices true s joins id payloads events law = law.devices
forge_devices false s joins id payloads events law = ap (λ (z : Stable). z.devices) law

pub cut_devices : (b : Bool) (s : State) (joins : Joins) (id : List ℕ) (payloads : List (List ℕ)) (events : List Event) → ForgeCutLeaves b s joins id payloads events
    → (stable (world_after s joins (Forge id payloads) events)).devices ≡ (stable (changed s (Forge id payloads)).world).devices
cut_devices true s joins id payloads events law = law.devices
cut_devices false s joins id payloads events law = ap (λ (z : Stable). z.devices) law
