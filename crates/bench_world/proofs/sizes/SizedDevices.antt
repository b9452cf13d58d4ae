-- Whatever happens to them, the devices of a bench cut replies into pieces that are none too small, and the far ends above them have no
-- payload that is too long.
use Rattle.std.proofs.Common.{ℕ, List, Option, Some, None}
use Rattle.nfc_base.specs.Signal.{Signal}
use Rattle.nfca_poll.specs.Front.{Idle}
use Rattle.nfca_poll.specs.declared.upper.UpStep.TheVariants as steps
use Rattle.dep_link.specs.declared.target.TargetStep.{TargetStep}
use Rattle.dep_link.specs.declared.target.TargetStep.TheVariants as target
use Rattle.dep_link.specs.Sizes.{initiator_lr}
use Rattle.dep_link.specs.Target.{TargetState, target_table}
use Rattle.llcp_link.proofs.Ranged.{either}
use Rattle.peer_air.specs.PeerFars.{peer_ends}
use Rattle.bench_devices.specs.declared.device.Device.{Device}
use Rattle.bench_devices.specs.declared.device.Device.TheVariants.{T2, T4, Peer, T5, T3}
use Rattle.bench_devices.specs.Device.{device_after, device_busy, device_darkened, device_locked, device_woken, devices}
use Rattle.bench_devices.specs.Peers.{PeerDid, PeerNear, by_target, by_turn, delivered, given_up, peer_did, peer_machine, takes_frame}
use Rattle.bench_world.specs.Cutting.{CutsReplies, GivesShort, IsPiece}
use Rattle.bench_world.specs.World.{FarEnd}
use Rattle.bench_world.proofs.sizes.SizedFronts.{after_so, moved_so}
use Rattle.bench_world.proofs.sizes.SizedServer.{left_short, restarted_short, rested_short}
use Rattle.bench_world.proofs.sizes.SizedTargets.{piece_fits, replied_cuts, target_cuts}
use Rattle.bench_world.proofs.sizes.SizedWorld.{KeepBoth}

-- a peer above its front
abbrev Sized : PeerNear → Type 0
Sized u = IsPiece u.target.most

delivered_sized : (s : TargetState) (o : Option (List ℕ)) → IsPiece s.most → Sized (delivered s o).after
delivered_sized s None h = h
delivered_sized s (Some r) h = replied_cuts s r h

target_sized : (s : TargetState) (reply : Option (List ℕ)) (x : TargetStep) → IsPiece s.most → Sized (by_target s reply x).after
target_sized s reply target.Quiet h = h
target_sized s reply (target.Reply f) h = h
target_sized s reply (target.Restart general f) h = h
target_sized s reply (target.Deliver payload) h = delivered_sized s reply h
target_sized s reply (target.Asleep f) h = h
target_sized s reply (target.Released f) h = h

did_sized : (u : PeerNear) (f : Signal) (reply : Option (List ℕ)) → Sized u → Sized (peer_did u f reply).after
did_sized u f reply h =
    either {X = PeerDid} (λ d. Sized d.after) (takes_frame u f) (by_turn (target_table u.target f) reply) (record { says = steps.Foreign; after = u })
    (λ e. target_sized (target_table u.target f).state reply (target_table u.target f).does (target_cuts u.target f h)) (λ e. h)

given_sized : (u : PeerNear) → Sized u → Sized (given_up u)
given_sized u h = piece_fits initiator_lr

-- a device; a tag shows the target of none
after_sized : (d : Device) (f : Signal) (reply : Option (List ℕ)) → CutsReplies d → CutsReplies (device_after d f reply)
after_sized (T2 d) f reply h = piece_fits initiator_lr
after_sized (T4 d) f reply h = piece_fits initiator_lr
after_sized (Peer d) f reply h = after_so peer_machine Sized did_sized given_sized d.front d f reply h
after_sized (T5 p) f reply h = piece_fits initiator_lr
after_sized (T3 p) f reply h = piece_fits initiator_lr

woken_sized : (d : Device) → CutsReplies d → CutsReplies (device_woken d)
woken_sized (T2 d) h = piece_fits initiator_lr
woken_sized (T4 d) h = piece_fits initiator_lr
woken_sized (Peer d) h = moved_so peer_machine Sized did_sized given_sized d Idle h
woken_sized (T5 p) h = piece_fits initiator_lr
woken_sized (T3 p) h = piece_fits initiator_lr

dark_sized : (d : Device) → CutsReplies d → CutsReplies (device_darkened d)
dark_sized (T2 d) h = piece_fits initiator_lr
dark_sized (T4 d) h = piece_fits initiator_lr
dark_sized (Peer d) h = piece_fits initiator_lr
dark_sized (T5 p) h = piece_fits initiator_lr
dark_sized (T3 p) h = piece_fits initiator_lr

pub locked_sized : (block : ℕ) (d : Device) → CutsReplies d → CutsReplies (device_locked block d)
locked_sized block (T2 d) h = piece_fits initiator_lr
locked_sized block (T4 d) h = piece_fits initiator_lr
locked_sized block (Peer d) h = h
locked_sized block (T5 p) h = piece_fits initiator_lr
locked_sized block (T3 p) h = piece_fits initiator_lr

pub busy_sized : (count times : ℕ) (d : Device) → CutsReplies d → CutsReplies (device_busy count times d)
busy_sized count times (T2 d) h = piece_fits initiator_lr
busy_sized count times (T4 d) h = piece_fits initiator_lr
busy_sized count times (Peer d) h = h
busy_sized count times (T5 p) h = piece_fits initiator_lr
busy_sized count times (T3 p) h = piece_fits initiator_lr

-- no step of one of them, or of a far end, changes that
pub both_keep : KeepBoth devices peer_ends CutsReplies (λ (l : FarEnd). GivesShort l)
both_keep = record {
  after = after_sized;
  woken = woken_sized;
  darkened = dark_sized;
  restarted = λ l general h. restarted_short l general;
  left = left_short;
  rested = λ l h. rested_short l;
}
