-- A selected peer with a link does what its target's table says, whatever its end is in.
use Rattle.std.proofs.Common.{◌≡◌, ℕ, zero, suc, List, [], ◌∷◌, ◌++◌, length, true, refl, ap, subst}
use Rattle.std.specs.List.{AllByRecursion}
use Rattle.air_core.specs.PlainTags.{IsAside}
use Rattle.nfca_poll.specs.Front.{Front, Off, Idle, Sleep, Ready, Active, is_active}
use Rattle.dep_link.specs.laws.Moves.{same_self}
use Rattle.dep_link.specs.Peers.{IsPeer}
use Rattle.bench_devices.specs.declared.device.Device.{Device}
use Rattle.bench_devices.specs.declared.device.Device.TheVariants.{T2, T4, Peer, T5, T3}
use Rattle.bench_devices.specs.Beside.{PeerAt}
use Rattle.bench_devices.specs.Device.{device_end, device_linked, device_selected}
use Rattle.bench_devices.specs.Keeping.{ghosts}
use Rattle.bench_devices.specs.LinkLaws.{LinkedInStep}
use Rattle.bench_devices.specs.Peers.{PeerNear}
use Rattle.bench_devices.proofs.kinds.OpenPeer.{IsOpenPeer, peer_in, is_peer}
use Rattle.bench_devices.proofs.kinds.PeerHere.{cut_so}

open_by : (id : List ℕ) (front : Front) (u : PeerNear) → is_active front ≡ true → u.linked ≡ true → IsOpenPeer u.target (Peer (record { id = id; front = front; upper = u }))
open_by id Off u a linked = absurd cc
open_by id Idle u a linked = absurd cc
open_by id Sleep u a linked = absurd cc
open_by id (Ready k starred) u a linked = absurd cc
open_by id (Active starred) u a linked = record {
  id = id;
  starred = starred;
  now = u.target;
  is = ap (λ v. Peer (peer_in id starred v u.target)) linked;
  self = same_self u.target;
}

pub linked_is : (l : Device) → device_selected l ≡ true → device_linked l ≡ true → IsPeer ghosts device_end l
linked_is (T2 d) a linked = absurd cc
linked_is (T4 d) a linked = absurd cc
linked_is (Peer d) a linked = is_peer d.upper.target (Peer d) (open_by d.id d.front d.upper a linked)
linked_is (T5 p) a linked = absurd cc
linked_is (T3 p) a linked = absurd cc

beside : (own : List ℕ) (before : List Device) (l : Device) (behind : List Device) (place : ℕ) → PeerAt own place (before ++ l ∷ behind) → length before ≡ place
    → AllByRecursion (IsAside ghosts own) before × AllByRecursion (IsAside ghosts own) behind
beside own [] l behind zero a e = (tt, a.1)
beside own [] l behind (suc n) a e = absurd cc
beside own (b ∷ before) l behind zero a e = absurd cc
beside own (b ∷ before) l behind (suc n) a e =
    let less : length before ≡ n = cc in
    let rest = beside own before l behind n a.1 less in
    ((a.0, rest.0), rest.1)

pub linked_in_step : LinkedInStep
linked_in_step a place own before l behind i lit split stands at same selected linked step =
    let others = beside own before l behind place (subst (PeerAt own place) split at) stands in
    record {
      step = (
        lit,
        record {
          place = place;
          listener = l;
          selected = selected;
          alone = record {
            before = before;
            behind = behind;
            split = split;
            stands = stands;
            first = subst (λ id. AllByRecursion (IsAside ghosts id) before) same others.0;
            later = subst (λ id. AllByRecursion (IsAside ghosts id) behind) same others.1;
          };
          is = linked_is l selected linked;
          step = step;
          cut = cut_so i (device_end l) step;
        },
      );
      at = refl;
      linked = linked;
    }
