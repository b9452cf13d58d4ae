use Rattle.std.proofs.Common.{◌≡◌, Result, IfOk, OnErr, sym, ◌∙◌, subst, map}
use Rattle.bench_script.specs.declared.command.Command.TheVariants.{Crowd}
use Rattle.far_air.specs.FarEnds.{rests}
use Rattle.peer_air.specs.PeerFars.{peer_ends}
use Rattle.bench_world.specs.declared.bench.ObeyFault.{ObeyFault}
use Rattle.bench_world.specs.declared.entry.Answer.{Answer}
use Rattle.bench_world.specs.Obeying.{Machines, Obeyed, IsCutOff, link_ended}
use Rattle.bench_world.proofs.open_link.Unlinking.{upon, crowd_resets, reset_obeyed, reset_cut}
use Rattle.bench_world.proofs.asking.find_tags.Goals.{in-Ok, in-Err}
use Rattle.bench_world.proofs.asking.find_tags.Goals as goal

pub returns-clause-ok : goal.returns-clause-ok
returns-clause-ok c =
    let old : Machines = c.args.machines.now in
    let m : Machines = record {
      air = c.machines.inside.field;
      ends = c.machines.inside.ends.items;
      peers = record { numbers = c.machines.inside.numbers.items; gone = map (rests peer_ends) c.machines.inside.gone.items; links = c.machines.inside.links.items };
      link = c.machines.inside.link;
    } in
    let is : m ≡ link_ended old = c.machines.view_is ∙ c.end_link.ensures in
    let P : Result Answer ObeyFault → Type 0 = λ r. IfOk r (λ a. Obeyed old (upon m c.search_tags.new.field) Crowd a) in
    elim c.match-search_tags.branch [
      | in-Ok w ↦ subst P (sym w.result-is) (reset_obeyed Crowd crowd_resets old c.requires c.search_tags.new.field m w.in-Ok.answer is w.in-Ok.ensures.ok)
      | in-Err w ↦ subst P (sym w.result-is) tt
    ]

pub returns-clause-cut : goal.returns-clause-cut
returns-clause-cut c =
    let old : Machines = c.args.machines.now in
    let m : Machines = record {
      air = c.machines.inside.field;
      ends = c.machines.inside.ends.items;
      peers = record { numbers = c.machines.inside.numbers.items; gone = map (rests peer_ends) c.machines.inside.gone.items; links = c.machines.inside.links.items };
      link = c.machines.inside.link;
    } in
    let is : m ≡ link_ended old = c.machines.view_is ∙ c.end_link.ensures in
    let P : Result Answer ObeyFault → Type 0 = λ r. OnErr r (IsCutOff old (upon m c.search_tags.new.field) Crowd) in
    elim c.match-search_tags.branch [
      | in-Ok w ↦ subst P (sym w.result-is) tt
      | in-Err w ↦ subst P (sym w.result-is) (reset_cut Crowd crowd_resets old c.requires c.search_tags.new.field m is w.in-Err.ensures.cut)
    ]
