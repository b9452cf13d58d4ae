use Rattle.std.proofs.Common.{◌≡◌, Some, rules, ◌∙◌, ap}
use Rattle.nfca_poll.specs.Ident.{IsIdent}
use Rattle.nfca_poll.specs.Front.{Off}
use Rattle.bench_devices.specs.Peers.{PeerNear, new_near}
use Rattle.bench_devices.specs.declared.device.Device.TheVariants.{Peer}
use Rattle.bench_devices.specs.Device.{device_darkened, new_peer}
use Rattle.bench_world.specs.Legal.{MayPlacePeer}
use Rattle.bench_world.specs.Peers.{with_peer}
use Rattle.bench_world.specs.World.{FarEnd}
use Rattle.bench_world.specs.Obeying.{Machines, state_at}
use Rattle.bench_world.proofs.devices.Placed.{with_more, peer_placed}
use Rattle.bench_world.proofs.peers.place_peer.Goals as goal

pub returns-in-Ok-put_in_peer-clause-ok : goal.returns-in-Ok-put_in_peer-clause-ok
returns-in-Ok-put_in_peer-clause-ok c =
    let old : Machines = c.args.machines.now in
    let near : PeerNear = new_near c.args.id.now c.args.lr c.args.miu in
    let front : c.new-2.result ≡ record { id = c.args.id.now; front = Off; upper = near } =
    c.new-2.ensures ∙ ap (λ i. record { id = i; front = Off; upper = c.new.result }) c.copy.ensures ∙ ap (λ (u : PeerNear). record { id = c.args.id.now; front = Off; upper = u }) c.new.ensures in
    let may : MayPlacePeer (state_at old) c.args.id.now c.args.lr c.args.miu c.args.rw c.args.limit = record {
      free = record { room = search rules; fresh = search rules };
      code = search rules;
      size = search rules;
      window = search rules;
      limit = search rules;
    } in
    let ident : IsIdent c.args.id.now = search rules in
    peer_placed old c.put_in_peer.new.self c.args.id.now c.args.lr c.args.miu c.args.rw c.args.limit c.requires ident may
    (c.in-Ok-put_in_peer.ensures.ok ∙ ap (λ d. with_more old (device_darkened (Peer d)) (Some c.in-Ok.end) (with_peer old.peers)) front
    ∙ ap (λ (e : FarEnd). with_more old (new_peer c.args.id.now c.args.lr c.args.miu) (Some e) (with_peer old.peers)) c.in-Ok.ensures)
