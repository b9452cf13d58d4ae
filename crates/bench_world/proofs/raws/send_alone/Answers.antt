use Rattle.std.proofs.Common.{refl, subst}
use Rattle.bench_world.specs.Obeying.{Machines, under}
use Rattle.bench_world.specs.private.RawAt.{RawAlone}
use Rattle.bench_world.specs.contracts.machines.Machines.{the_view}
use Rattle.bench_world.proofs.raws.send_alone.Goals as goal

pub returns : goal.returns
returns c =
    let m : Machines = the_view c.machines.inside in
    let P : Machines → Type 0 = λ x. RawAlone x (under m.ends m.peers m.link c.send_each.new.field) c.args.frames.now c.told_each.result in
    subst P c.machines.view_is (record {
      air = c.send_each.new.field;
      first = record {};
      after = c.send_each.new.far;
      came = c.send_each.result;
      sends = c.send_each.ensures;
      told = c.told_each.ensures;
      left = refl;
    })
