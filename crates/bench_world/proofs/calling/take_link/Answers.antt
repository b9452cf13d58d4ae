use Rattle.std.proofs.Common.{rules, ◌≡◌, List, Option, Some, None, refl, subst, map}
use Rattle.std.specs.Prelude.{get_or}
use Rattle.far_air.specs.FarEnds.{rests}
use Rattle.peer_air.specs.PeerFars.{peer_ends}
use Rattle.bench_world.specs.World.{FarEnd}
use Rattle.bench_world.specs.Links.{OpenLink, end_numbered}
use Rattle.bench_world.specs.Obeying.{Machines, IsSettled, under}
use Rattle.bench_world.specs.Peers.{Peers}
use Rattle.bench_world.proofs.open_link.Chosen.{found, is_there}
use Rattle.bench_world.proofs.calling.take_link.Goals as goal

pub unreachable-requires : goal.unreachable-requires
unreachable-requires c =
    let peers : Peers = record { numbers = c.machines.inside.numbers.items; gone = map (rests peer_ends) c.machines.inside.gone.items; links = c.machines.inside.links.items } in
    let old : Machines = under c.machines.inside.ends.items peers c.machines.inside.link c.machines.inside.field in
    let l : OpenLink = record { peer = c.peer.inside.peer; initiator = c.peer.inside.initiator; client = c.peer.inside.client.llc; slots = c.peer.inside.client.slots } in
    let is : c.args.machines.now ≡ old = search rules in
    let linked : c.machines.inside.link ≡ Some l = search rules in
    found old (subst IsSettled is c.requires) l linked
    (λ os. subst (λ xs. end_numbered l.peer xs os ≡ None) c.deref.ensures.value (c.in_default.ensures.none refl os))

pub unreachable-requires-in_default-take : goal.unreachable-requires-in_default-take
unreachable-requires-in_default-take c =
    let peers : Peers = record { numbers = c.machines.inside.numbers.items; gone = map (rests peer_ends) c.machines.inside.gone.items; links = c.machines.inside.links.items } in
    let old : Machines = under c.machines.inside.ends.items peers c.machines.inside.link c.machines.inside.field in
    let l : OpenLink = record { peer = c.peer.inside.peer; initiator = c.peer.inside.initiator; client = c.peer.inside.client.llc; slots = c.peer.inside.client.slots } in
    let is : c.args.machines.now ≡ old = search rules in
    let linked : c.machines.inside.link ≡ Some l = search rules in
    let at : (os : List (Option FarEnd)) → end_numbered l.peer old.peers.numbers os ≡ get_or os c.in-Some.place None =
    λ os. subst (λ xs. end_numbered l.peer xs os ≡ get_or os c.in-Some.place None) c.deref.ensures.value (c.in-Some.ensures.some os) in
    let none : c.index_mut.result.now ≡ None = search rules in
    is_there old (subst IsSettled is c.requires) l linked c.in-Some.place at c.index_mut.result.now c.index_mut.ensures.value none
