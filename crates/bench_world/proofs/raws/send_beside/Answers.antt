use Rattle.std.proofs.Common.{rules, ◌≡◌, ◌<◌, ℕ, length, get_or, Some, None, sym, ◌∙◌, ap, subst}
use Rattle.std.specs.Prelude.{slice_set}
use Rattle.bench_world.specs.private.LinkedAt.{moved_at}
use Rattle.bench_world.specs.Obeying.{Machines}
use Rattle.bench_world.specs.private.RawAt.{RawBeside, SendsCounted}
use Rattle.bench_world.specs.World.{FarEnd}
use Rattle.bench_world.specs.contracts.machines.Machines.{the_view}
use Rattle.bench_world.proofs.forged.ForgeSends.{set_twice}
use Rattle.bench_world.proofs.devices.Peering.{any_other}
use Rattle.bench_world.proofs.raws.send_beside.Goals as goal

pub returns : goal.returns
returns c = λ far there.
    let m : Machines = the_view c.machines.inside in
    let is : m ≡ c.args.machines.now = c.machines.view_is in
    let place : ℕ = c.args.place in
    let of_ends : place < length m.ends = subst (λ (x : Machines). place < length x.ends) (sym is) c.requires.end in
    let far_at : get_or m.ends place None ≡ Some far = subst (λ (x : Machines). get_or x.ends place None ≡ Some far) (sym is) there in
    let same_far : Some c.in-Some.end ≡ Some far = sym c.in-Some.is ∙ c.take.ensures.value ∙ c.index_mut.ensures.value ∙ any_other m.ends place c.index_mut.result.now None of_ends ∙ far_at in
    let e : c.in-Some.end ≡ far = cc in
    let begun : FarEnd = c.in-Some.end in
    let far_made : c.new-far.result ≡ record { end = begun; numbers = c.args.counts } = search rules in
    let now : Machines = record {
      air = c.send_each-came.new.field;
      ends = slice_set (slice_set m.ends place c.take.new.self) place (Some c.into_end.result);
      peers = m.peers;
      link = m.link;
    } in
    let left : now ≡ moved_at m c.send_each-came.new.field place c.send_each-came.new.far.end =
    ap (λ os. let x : Machines = record { air = c.send_each-came.new.field; ends = os; peers = m.peers; link = m.link } in x) (set_twice m.ends place c.take.new.self (Some c.into_end.result))
    ∙ ap (λ x. moved_at m c.send_each-came.new.field place x) c.into_end.ensures in
    let sends : SendsCounted m.air (record { end = begun; numbers = c.args.counts }) c.args.frames.now c.send_each-came.new.field c.send_each-came.new.far c.send_each-came.result =
    subst (λ f. SendsCounted m.air f c.args.frames.now c.send_each-came.new.field c.send_each-came.new.far c.send_each-came.result) far_made c.send_each-came.ensures in
    let P : Machines → Type 0 = λ x. RawBeside x now place c.args.counts c.args.frames.now far c.told_each.result in
    let R : FarEnd → Type 0 = λ x. RawBeside m now place c.args.counts c.args.frames.now x c.told_each.result in
    subst P is (subst R e (record { air = c.send_each-came.new.field; after = c.send_each-came.new.far; came = c.send_each-came.result; sends = sends; told = c.told_each.ensures; left = left }))
