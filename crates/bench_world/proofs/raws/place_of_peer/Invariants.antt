use Rattle.std.proofs.Common.{◌≡◌, ◌+◌, ℕ, drop}
use Rattle.std.specs.Prelude.{option_map}
use Rattle.bench_devices.specs.AnyFrame.{peer_place}
use Rattle.bench_world.proofs.raws.place_of_peer.Given as goal

-- none stands before
abbrev pub invariant-loop-place : goal.invariant-loop-place
invariant-loop-place l = peer_place l.devices ≡ option_map (λ (n : ℕ). l.place + n) (peer_place (drop l.place l.devices))
