use Rattle.std.proofs.Common.{◌≡◌, Result, IfOk, OnErr, sym, ◌∙◌, subst, map}
use Rattle.bench_script.specs.declared.command.Command.TheVariants.{Read3}
use Rattle.far_air.specs.FarEnds.{rests}
use Rattle.peer_air.specs.PeerFars.{peer_ends}
use Rattle.bench_world.specs.declared.bench.ObeyFault.{ObeyFault}
use Rattle.bench_world.specs.declared.entry.Answer.{Answer}
use Rattle.bench_world.specs.Obeying.{Machines, Obeyed, IsCutOff, link_ended}
use Rattle.bench_world.proofs.open_link.Unlinking.{upon, read_three_resets, reset_obeyed, reset_cut}
use Rattle.bench_world.proofs.threes.read_tag_three.Goals.{in-Ok, in-Err}
use Rattle.bench_world.proofs.threes.read_tag_three.Goals as goal

pub returns-clause-ok : goal.returns-clause-ok
returns-clause-ok c =
    let old : Machines = c.args.machines.now in
    let m : Machines = record {
      air = c.machines.inside.field;
      ends = c.machines.inside.ends.items;
      peers = record { numbers = c.machines.inside.numbers.items; gone = map (rests peer_ends) c.machines.inside.gone.items; links = c.machines.inside.links.items };
      link = c.machines.inside.link;
    } in
    let is : m ≡ link_ended old = c.machines.view_is ∙ c.end_link.ensures in
    let P : Result Answer ObeyFault → Type 0 = λ r. IfOk r (λ a. Obeyed old (upon m c.select_and_read.new.field) (Read3 c.args.id) a) in
    elim c.match-select_and_read.branch [
      | in-Ok w ↦ subst P (sym w.result-is) (reset_obeyed (Read3 c.args.id) (read_three_resets c.args.id) old c.requires c.select_and_read.new.field m w.in-Ok.answer is w.in-Ok.ensures.ok)
      | in-Err w ↦ subst P (sym w.result-is) tt
    ]

pub returns-clause-cut : goal.returns-clause-cut
returns-clause-cut c =
    let old : Machines = c.args.machines.now in
    let m : Machines = record {
      air = c.machines.inside.field;
      ends = c.machines.inside.ends.items;
      peers = record { numbers = c.machines.inside.numbers.items; gone = map (rests peer_ends) c.machines.inside.gone.items; links = c.machines.inside.links.items };
      link = c.machines.inside.link;
    } in
    let is : m ≡ link_ended old = c.machines.view_is ∙ c.end_link.ensures in
    let P : Result Answer ObeyFault → Type 0 = λ r. OnErr r (IsCutOff old (upon m c.select_and_read.new.field) (Read3 c.args.id)) in
    elim c.match-select_and_read.branch [
      | in-Ok w ↦ subst P (sym w.result-is) tt
      | in-Err w ↦ subst P (sym w.result-is) (reset_cut (Read3 c.args.id) (read_three_resets c.args.id) old c.requires c.select_and_read.new.field m is w.in-Err.ensures.cut)
    ]
