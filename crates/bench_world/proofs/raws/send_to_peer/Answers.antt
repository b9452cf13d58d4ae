use Rattle.std.proofs.Common.{rules, ◌≡◌, ◌<◌, ◌++◌, [], ◌∷◌, ℕ, length, get_or, if◌then◌else◌, Some, None, sym, ◌∙◌, ap, subst}
use Rattle.std.specs.Prelude.{slice_set}
use Rattle.std.proofs.lemmas.List.{length-map}
use Rattle.snep_core.specs.Server.{Received as Accepted, ServerState, messages_of}
use Rattle.bench_world.specs.declared.inbox.LinkRange.{LinkRange}
use Rattle.bench_world.specs.private.ForgedAt.{left_by}
use Rattle.bench_world.specs.private.RawAt.{RawSendsAll, RawSendsTo}
use Rattle.bench_world.specs.Obeying.{Machines}
use Rattle.bench_world.specs.World.{FarEnd}
use Rattle.bench_world.specs.contracts.machines.Machines.{the_view}
use Rattle.bench_world.proofs.forged.ForgeSends.{left_is}
use Rattle.bench_world.proofs.by_hand.RawSends.{raws_to}
use Rattle.bench_world.proofs.devices.Peering.{any_other}
use Rattle.bench_world.proofs.raws.send_to_peer.Goals as goal

pub returns : goal.returns
returns c = λ peer far numbered there.
    let m : Machines = the_view c.machines.inside in
    let is : m ≡ c.args.machines.now = c.machines.view_is in
    let place : ℕ = c.args.place in
    let of_ends : place < length m.ends = subst (λ (x : Machines). place < length x.ends) (sym is) c.requires.end in
    let of_numbers : place < length m.peers.numbers = subst (λ (x : Machines). place < length x.peers.numbers) (sym is) c.requires.number in
    let number_at : get_or m.peers.numbers place None ≡ Some peer = subst (λ (x : Machines). get_or x.peers.numbers place None ≡ Some peer) (sym is) numbered in
    let far_at : get_or m.ends place None ≡ Some far = subst (λ (x : Machines). get_or x.ends place None ≡ Some far) (sym is) there in
    let same_number : Some c.in-Some.peer ≡ Some peer = sym c.in-Some.is ∙ c.index.ensures ∙ any_other m.peers.numbers place c.index.result.now None of_numbers ∙ number_at in
    let same_far : Some c.in-Some-take.end ≡ Some far = sym c.in-Some-take.is ∙ c.take.ensures.value ∙ c.index_mut.ensures.value ∙ any_other m.ends place c.index_mut.result.now None of_ends
    ∙ far_at in
    let n : c.in-Some.peer ≡ peer = cc in
    let e : c.in-Some-take.end ≡ far = cc in
    let own : ℕ = c.in-Some.peer in
    let begun : FarEnd = c.in-Some-take.end in
    let over : FarEnd = c.into_end-end.result in
    let far_made : c.new-far.result ≡ record { end = begun; numbers = c.args.counts } = search rules in
    let start : length c.accepted-start.result.now ≡ length begun.service.accepted =
    ap length c.accepted-start.ensures ∙ ap (λ (x : ServerState). length (messages_of x.accepted)) c.as_service.ensures ∙ length-map begun.service.accepted (λ (r : Accepted). r.message) in
    let behind : length c.accepted.result.now ≡ length over.service.accepted =
    ap length c.accepted.ensures ∙ ap (λ (x : ServerState). length (messages_of x.accepted)) c.as_service-2.ensures ∙ length-map over.service.accepted (λ (r : Accepted). r.message) in
    let range : LinkRange = record { peer = own; start = length c.accepted-start.result.now; end = Some (length c.accepted.result.now) } in
    let added : c.add_opened.new.links.items ≡ (if c.is_ok.result then m.peers.links ++ range ∷ [] else m.peers.links) =
    c.add_opened.ensures ∙ ap (λ ls. if c.is_ok.result then ls ++ range ∷ [] else ls) c.reserve.ensures.items in
    let now : Machines = record {
      air = c.send_linked-sent.new.field;
      ends = slice_set (slice_set m.ends place c.take.new.self) place (Some over);
      peers = record { numbers = m.peers.numbers; gone = m.peers.gone; links = c.add_opened.new.links.items };
      link = m.link;
    } in
    let left : now ≡ left_by c.send_linked-sent.result m c.send_linked-sent.new.field place c.send_linked-sent.new.far.end own (length begun.service.accepted) =
    left_is m c.send_linked-sent.new.field place c.take.new.self over own (length c.accepted-start.result.now) (length c.accepted.result.now) c.add_opened.new.links.items behind
    c.send_linked-sent.result c.is_ok.result c.is_ok.ensures.value added
    ∙ ap (λ x. left_by c.send_linked-sent.result m c.send_linked-sent.new.field place x own (length c.accepted-start.result.now)) c.into_end-end.ensures
    ∙ ap (left_by c.send_linked-sent.result m c.send_linked-sent.new.field place c.send_linked-sent.new.far.end own) start in
    let sends : RawSendsAll m.air (record { end = begun; numbers = c.args.counts }) c.args.frames.now c.send_linked-sent.new.field c.send_linked-sent.new.far c.send_linked-sent.result =
    subst (λ f. RawSendsAll m.air f c.args.frames.now c.send_linked-sent.new.field c.send_linked-sent.new.far c.send_linked-sent.result) far_made c.send_linked-sent.ensures in
    let P : Machines → Type 0 = λ x. RawSendsTo x now place c.args.counts c.args.frames.now peer far c.told_raw.result in
    let Q : ℕ → Type 0 = λ k. RawSendsTo m now place c.args.counts c.args.frames.now k far c.told_raw.result in
    let R : FarEnd → Type 0 = λ x. RawSendsTo m now place c.args.counts c.args.frames.now own x c.told_raw.result in
    subst P is (subst Q n (subst R e
    (raws_to m now place c.args.counts c.args.frames.now own begun c.send_linked-sent.new.field c.send_linked-sent.new.far c.send_linked-sent.result c.told_raw.result sends c.told_raw.ensures left)))
