-- What a peer's end of NFC-DEP was made as stays, whatever it hears and replies: its NFCID3, its LR code, its general bytes, and how
-- much more time it asks for.
use Rattle.std.proofs.Common.{◌≡◌, ◌≤◌, ℕ, nat_lt, List, [], length, drop, Bool, true, false, if◌then◌else◌, Option, Some, None, refl, ◌∙◌, ap}
use Rattle.nfc_base.specs.Signal.{Signal}
use Rattle.dep_pdu.specs.declared.frame.DepFrame.{DepFrame}
use Rattle.dep_pdu.specs.declared.frame.DepFrame.TheVariants.{Extend}
use Rattle.dep_link.specs.declared.target.TargetStep.{TargetStep}
use Rattle.dep_link.specs.declared.target.TargetStep.TheVariants as target
use Rattle.dep_link.specs.Frames.{spelled}
use Rattle.dep_link.specs.laws.Moves.{SameSelf, of_heeded}
use Rattle.dep_link.specs.Target.{TargetState, target_table, obeyed, grown, first_piece, replied, fresh, darkened, made_busy}
use Rattle.nfca_poll.specs.declared.upper.UpStep.{UpStep}
use Rattle.nfca_poll.specs.declared.upper.UpStep.TheVariants as steps
use Rattle.nfca_poll.specs.Calls.{call_of}
use Rattle.nfca_poll.specs.Front.{Front, Off, Idle, Sleep, Ready, Active, front_next}
use Rattle.nfca_poll.specs.Fronted.{Fronted, left_at, moved, active_after, after_by}
use Rattle.nfca_poll.specs.laws.FrontLaws as fronted
use Rattle.nfca_poll.specs.Levels.{levels}
use Rattle.air_core.specs.World.{hears, stepped_by}
use Rattle.isodep_link.specs.Card as ends
use Rattle.tag_reader.specs.declared.how.How.TheVariants as hows
use Rattle.bench_devices.specs.declared.device.Device.TheVariants.{Peer}
use Rattle.bench_devices.specs.Kinds.{PeerKind}
use Rattle.bench_devices.specs.Device.{devices}
use Rattle.bench_devices.specs.Keeping.{Kept, kept}
use Rattle.bench_devices.specs.laws.PeerUpper.{peer_upper}
use Rattle.bench_devices.specs.Peers.{PeerNear, by_target, delivered, peer_if, peer_did, takes_frame, peer_machine, made_near, near_busy, IsMadePeer}

-- what says the same of itself was made the same
abbrev made_of : List ℕ → ℕ → List ℕ → ℕ → ℕ → TargetState
made_of id lr general busy times = made_busy (fresh id lr general) busy times

same_made : (t u : TargetState) → SameSelf t u → darkened u ≡ darkened t
same_made t u same =
    ap (λ id. made_of id u.lr u.general u.busy u.times) same.named ∙ ap (λ lr. made_of t.id lr u.general u.busy u.times) same.code
    ∙ ap (λ general. made_of t.id t.lr general u.busy u.times) same.says ∙ ap (λ busy. made_of t.id t.lr t.general busy u.times) same.asks
    ∙ ap (made_of t.id t.lr t.general t.busy) same.longer

module _ (t : TargetState) where
  -- at any frame a target stays as it was made
  obeyed_made : (o : Option DepFrame) → darkened (obeyed t o).state ≡ darkened t
  obeyed_made None = refl
  obeyed_made (Some v) =
      of_heeded t (λ m. darkened m.state ≡ darkened t) (λ m k same. same_made t m.state same) (λ more pni xs h. grown_made more pni xs) v
    where
      grown_made : (more : Bool) (pni : ℕ) (xs : List ℕ) → darkened (grown t more pni xs).state ≡ darkened t
      grown_made true pni xs = refl
      grown_made false pni xs = refl

  table_made : (f : Signal) → darkened (target_table t f).state ≡ darkened t
  table_made f = obeyed_made (spelled f)

  -- and where a reply begins
  replied_made : (r : List ℕ) → darkened (replied t r) ≡ darkened t
  replied_made r = by_busy (nat_lt 0 t.busy)
    where
      by_busy : (v : Bool)
          → darkened (if v then record t { last = Some (Extend true t.times); left = r; unsent = true; due = t.busy; followed = false }
          else record t { last = Some (first_piece t r); left = drop t.most r; unsent = nat_lt t.most (length r); due = 0; followed = false }) ≡ darkened t
      by_busy true = refl
      by_busy false = refl

delivered_made : (t : TargetState) (reply : Option (List ℕ)) → made_near (delivered t reply).after ≡ darkened t
delivered_made t None = refl
delivered_made t (Some r) = replied_made t r

by_target_made : (t : TargetState) (reply : Option (List ℕ)) (does : TargetStep) → made_near (by_target t reply does).after ≡ darkened t
by_target_made t reply target.Quiet = refl
by_target_made t reply (target.Reply f) = refl
by_target_made t reply (target.Restart general f) = refl
by_target_made t reply (target.Deliver payload) = delivered_made t reply
by_target_made t reply (target.Asleep f) = refl
by_target_made t reply (target.Released f) = refl

did_made : (u : PeerNear) (f : Signal) (reply : Option (List ℕ)) (v : Bool) → made_near (peer_if v u f reply).after ≡ made_near u
did_made u f reply true = by_target_made (target_table u.target f).state reply (target_table u.target f).does ∙ table_made u.target f
did_made u f reply false = refl

left_made : (front next : Front) (u : PeerNear) → made_near (left_at peer_machine front next u) ≡ made_near u
left_made Off next u = refl
left_made Idle next u = refl
left_made Sleep next u = refl
left_made (Ready k starred) next u = refl
left_made (Active starred) Off u = refl
left_made (Active starred) Idle u = refl
left_made (Active starred) Sleep u = refl
left_made (Active starred) (Ready k other) u = refl
left_made (Active starred) (Active other) u = refl

plain_made : (d : Fronted PeerNear) (f : Signal) → made_near (moved peer_machine d (front_next (levels d.id) d.front (call_of f))).upper ≡ made_near d.upper
plain_made d f = left_made d.front (front_next (levels d.id) d.front (call_of f)) d.upper

active_made : (s : UpStep) (v : PeerNear) (d : Fronted PeerNear) (f : Signal) → made_near v ≡ made_near d.upper → made_near (active_after peer_machine s v d f).upper ≡ made_near d.upper
active_made steps.Foreign v d f e = plain_made d f
active_made steps.Quiet v d f e = e
active_made (steps.Reply g) v d f e = e
active_made (steps.Sleep g) v d f e = e
active_made (steps.Idle g) v d f e = e

after_made : (front : Front) (d : Fronted PeerNear) (f : Signal) (reply : Option (List ℕ)) → made_near (after_by peer_machine front d f reply).upper ≡ made_near d.upper
after_made Off d f reply = plain_made d f
after_made Idle d f reply = plain_made d f
after_made Sleep d f reply = plain_made d f
after_made (Ready k starred) d f reply = plain_made d f
after_made (Active starred) d f reply = active_made (peer_did d.upper f reply).says (peer_did d.upper f reply).after d f (did_made d.upper f reply (takes_frame d.upper f))

-- Nothing that stays of a peer changes at any frame, nor by light and dark.
abbrev keeps_peer : List ℕ → TargetState → Kept
keeps_peer id made = record {
  fixed = record { id = id; kind = PeerKind; how = hows.T2; size = 0; locked = []; code = 0; container = []; made = ends.fresh 0; target = made };
  store = [];
}

peer_after : (d : Fronted PeerNear) (f : Signal) (reply : Option (List ℕ)) → kept (devices.after (Peer d) f reply) ≡ kept (Peer d)
peer_after d f reply =
    ap (λ id. keeps_peer id (made_near (after_by peer_machine d.front d f reply).upper)) (fronted.step_keeps peer_upper d f reply).identifier' ∙ ap (keeps_peer d.id) (after_made d.front d f reply)

pub peer_kept : (d : Fronted PeerNear) (f : Signal) (reply : Option (List ℕ)) → kept (stepped_by devices (Peer d) f reply) ≡ kept (Peer d)
peer_kept d f reply = by_tech (hears devices (Peer d) f)
  where
    by_tech : (v : Bool) → kept (if v then devices.after (Peer d) f reply else Peer d) ≡ kept (Peer d)
    by_tech true = peer_after d f reply
    by_tech false = refl

pub peer_lit : (d : Fronted PeerNear) → kept (devices.woken (Peer d)) ≡ kept (Peer d)
peer_lit d = ap (keeps_peer d.id) (left_made d.front Idle d.upper)

-- One that asks for more time, no more often and by no greater value than it may, is one that may be made.
pub busy_made : (id : List ℕ) (u : PeerNear) (count times : ℕ) → count ≤ 5 → (1 ≤ times) × (times ≤ 59) → IsMadePeer id (made_near u) → IsMadePeer id (made_near (near_busy count times u))
busy_made id u count times few long is = record {
  lr = is.lr;
  miu = is.miu;
  code = is.code;
  size = is.size;
  few = few;
  some = long.0;
  longest = long.1;
  made = ap (λ t. made_busy t count times) is.made;
}
