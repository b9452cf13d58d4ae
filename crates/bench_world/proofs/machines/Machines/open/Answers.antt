use Rattle.std.proofs.Common.{◌≡◌, ◌<◌, ℕ, List, length, get_or, Some, None, refl, sym, ◌∙◌, ap, subst, map}
use Rattle.std.proofs.lemmas.List.{length-map}
use Rattle.dep_link.specs.Activating.{by_cause}
use Rattle.llcp_link.specs.Answering.{Answers}
use Rattle.llcp_pdu.specs.General.{general_bytes}
use Rattle.snep_core.specs.Calling.{ClientState}
use Rattle.snep_core.specs.Server.{Received as Accepted, ServerState, messages_of, serving}
use Rattle.air_core.specs.Turn.{moment}
use Rattle.bench_devices.specs.Opening.{OpensAny}
use Rattle.bench_devices.specs.Phases.{Stands}
use Rattle.far_air.specs.FarEnds.{rests}
use Rattle.peer_air.specs.PeerFars.{peer_ends}
use Rattle.bench_world.specs.private.LinkedAt.{restarts, machines_at_start, moved_at, OpensAt}
use Rattle.bench_world.specs.Linking.{own_general, new_client}
use Rattle.bench_world.specs.Obeying.{Machines}
use Rattle.bench_world.specs.World.{FarEnd}
use Rattle.bench_world.proofs.open_link.OpensHere.{opens_ok, opens_err, never_odd}
use Rattle.bench_world.proofs.lines.Outcomes.{on_ok}
use Rattle.bench_world.proofs.devices.Peering.{any_other}
use Rattle.bench_world.proofs.machines.Machines.open.Goals as goal

pub not_opened-requires : goal.not_opened-requires
not_opened-requires c =
    let m : Machines = record {
      air = c.self.inside.field;
      ends = c.self.inside.ends.items;
      peers = record { numbers = c.self.inside.numbers.items; gone = map (rests peer_ends) c.self.inside.gone.items; links = c.self.inside.links.items };
      link = c.self.inside.link;
    } in
    let is : m ≡ c.args.self.now = c.self.view_is in
    let bytes : c.deref.result.now ≡ own_general c.args.miu = c.deref.ensures.0 ∙ c.general_write-general.ensures.bytes ∙ ap general_bytes c.own_params.ensures in
    let O : List ℕ → Type 0 = λ xs. OpensAny restarts (Answers serving 0) m.air c.in-Some-index_mut.end c.open_link.new.field c.open_link.new.far xs (by_cause c.open_link.result) in
    let asks : O (own_general c.args.miu) = subst O bytes c.open_link.ensures.tells in
    never_odd m c.args.place c.args.miu c.args.rw c.in-Some.peer c.in-Some-index_mut.end c.open_link.new.field c.open_link.new.far c.open_link.result asks c.in-Err.end c.in-Err.is c.requires.stands.0
    c.args.place
    (subst (λ (x : Machines). Stands (moment x.air) c.args.place c.requires.stands.0) (sym is) c.requires.stands.1) c.requires.stands.2

pub returns-in-Ok : goal.returns-in-Ok
returns-in-Ok c = λ peer far numbered there.
    let m : Machines = record {
      air = c.self.inside.field;
      ends = c.self.inside.ends.items;
      peers = record { numbers = c.self.inside.numbers.items; gone = map (rests peer_ends) c.self.inside.gone.items; links = c.self.inside.links.items };
      link = c.self.inside.link;
    } in
    let is : m ≡ c.args.self.now = c.self.view_is in
    let place : ℕ = c.args.place in
    let of_ends : place < length m.ends = subst (λ (x : Machines). place < length x.ends) (sym is) c.requires.end in
    let of_numbers : place < length m.peers.numbers = subst (λ (x : Machines). place < length x.peers.numbers) (sym is) c.requires.number in
    let number_at : get_or m.peers.numbers place None ≡ Some peer = subst (λ (x : Machines). get_or x.peers.numbers place None ≡ Some peer) (sym is) numbered in
    let far_at : get_or m.ends place None ≡ Some far = subst (λ (x : Machines). get_or x.ends place None ≡ Some far) (sym is) there in
    let same_number : Some c.in-Some.peer ≡ Some peer = sym c.in-Some.is ∙ c.index.ensures ∙ any_other m.peers.numbers place c.index.result.now None of_numbers ∙ number_at in
    let same_far : Some c.in-Some-index_mut.end ≡ Some far = sym c.in-Some-index_mut.is ∙ c.index_mut.ensures.value ∙ any_other m.ends place c.index_mut.result.now None of_ends ∙ far_at in
    let n : c.in-Some.peer ≡ peer = cc in
    let e : c.in-Some-index_mut.end ≡ far = cc in
    let bytes : c.deref.result.now ≡ own_general c.args.miu = c.deref.ensures.0 ∙ c.general_write-general.ensures.bytes ∙ ap general_bytes c.own_params.ensures in
    let O : List ℕ → Type 0 = λ xs. OpensAny restarts (Answers serving 0) m.air c.in-Some-index_mut.end c.open_link.new.field c.open_link.new.far xs (by_cause c.open_link.result) in
    let asks : O (own_general c.args.miu) = subst O bytes c.open_link.ensures.tells in
    let P : Machines → Type 0 = λ x. OpensAt x c.begin.new.self place c.args.miu c.args.rw peer far c.begin.result in
    let Q : ℕ → Type 0 = λ k. OpensAt m c.begin.new.self place c.args.miu c.args.rw k far c.begin.result in
    let R : FarEnd → Type 0 = λ x. OpensAt m c.begin.new.self place c.args.miu c.args.rw c.in-Some.peer x c.begin.result in
    let mid : Machines = moved_at m c.open_link.new.field place c.open_link.new.far in
    let start : length c.accepted-start.result.now ≡ length c.in-Some-index_mut.end.service.accepted =
    ap length c.accepted-start.ensures ∙ ap (λ (x : ServerState). length (messages_of x.accepted)) c.as_service.ensures
    ∙ length-map c.in-Some-index_mut.end.service.accepted (λ (r : Accepted). r.message) in
    let client : c.new_client-client.result.llc ≡ new_client c.args.miu c.args.rw c.in-Ok.told.items =
    ap (λ (x : ClientState). x.llc) c.new_client-client.ensures.new ∙ ap (new_client c.args.miu c.args.rw) c.deref-in-Ok.ensures.0 in
    subst P is (subst Q n (subst R e
    (opens_ok m place c.args.miu c.args.rw c.in-Some.peer c.in-Some-index_mut.end c.open_link.new.field c.open_link.new.far c.open_link.result asks c.in-Ok.initiator c.in-Ok.told c.in-Ok.is
    c.begin.result c.begin.new.self
    (on_ok c.begin.result (c.begin.new.self ≡ machines_at_start mid c.in-Some.peer (length c.accepted-start.result.now) c.in-Ok.initiator c.new_client-client.result.llc)
    (c.begin.new.self ≡ machines_at_start mid c.in-Some.peer (length c.in-Some-index_mut.end.service.accepted) c.in-Ok.initiator (new_client c.args.miu c.args.rw c.in-Ok.told.items))
    (λ b. b ∙ ap (λ k. machines_at_start mid c.in-Some.peer k c.in-Ok.initiator c.new_client-client.result.llc) start
    ∙ ap (machines_at_start mid c.in-Some.peer (length c.in-Some-index_mut.end.service.accepted) c.in-Ok.initiator) client) c.begin.ensures.opened)
    c.begin.ensures.ok c.begin.ensures.err c.begin.ensures.same)))

pub returns-in-Err : goal.returns-in-Err
returns-in-Err c = λ peer far numbered there.
    let m : Machines = record {
      air = c.self.inside.field;
      ends = c.self.inside.ends.items;
      peers = record { numbers = c.self.inside.numbers.items; gone = map (rests peer_ends) c.self.inside.gone.items; links = c.self.inside.links.items };
      link = c.self.inside.link;
    } in
    let is : m ≡ c.args.self.now = c.self.view_is in
    let place : ℕ = c.args.place in
    let of_ends : place < length m.ends = subst (λ (x : Machines). place < length x.ends) (sym is) c.requires.end in
    let of_numbers : place < length m.peers.numbers = subst (λ (x : Machines). place < length x.peers.numbers) (sym is) c.requires.number in
    let number_at : get_or m.peers.numbers place None ≡ Some peer = subst (λ (x : Machines). get_or x.peers.numbers place None ≡ Some peer) (sym is) numbered in
    let far_at : get_or m.ends place None ≡ Some far = subst (λ (x : Machines). get_or x.ends place None ≡ Some far) (sym is) there in
    let same_number : Some c.in-Some.peer ≡ Some peer = sym c.in-Some.is ∙ c.index.ensures ∙ any_other m.peers.numbers place c.index.result.now None of_numbers ∙ number_at in
    let same_far : Some c.in-Some-index_mut.end ≡ Some far = sym c.in-Some-index_mut.is ∙ c.index_mut.ensures.value ∙ any_other m.ends place c.index_mut.result.now None of_ends ∙ far_at in
    let n : c.in-Some.peer ≡ peer = cc in
    let e : c.in-Some-index_mut.end ≡ far = cc in
    let bytes : c.deref.result.now ≡ own_general c.args.miu = c.deref.ensures.0 ∙ c.general_write-general.ensures.bytes ∙ ap general_bytes c.own_params.ensures in
    let O : List ℕ → Type 0 = λ xs. OpensAny restarts (Answers serving 0) m.air c.in-Some-index_mut.end c.open_link.new.field c.open_link.new.far xs (by_cause c.open_link.result) in
    let asks : O (own_general c.args.miu) = subst O bytes c.open_link.ensures.tells in
    let mid : Machines = moved_at m c.open_link.new.field place c.open_link.new.far in
    let P : Machines → Type 0 = λ x. OpensAt x mid place c.args.miu c.args.rw peer far c.not_opened.result in
    let Q : ℕ → Type 0 = λ k. OpensAt m mid place c.args.miu c.args.rw k far c.not_opened.result in
    let R : FarEnd → Type 0 = λ x. OpensAt m mid place c.args.miu c.args.rw c.in-Some.peer x c.not_opened.result in
    subst P is (subst Q n (subst R e
    (opens_err m place c.args.miu c.args.rw c.in-Some.peer c.in-Some-index_mut.end c.open_link.new.field c.open_link.new.far c.open_link.result asks c.in-Err.end c.in-Err.is c.not_opened.result mid
    c.not_opened.ensures refl)))
