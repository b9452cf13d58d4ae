use Rattle.std.proofs.Common.{◌≡◌, inl, inr, ◌+◌, ◌<◌, length, Result, Ok, Err, OnErr, IsErrOf, sym, subst}
use Rattle.bench_script.specs.declared.command.Command.TheVariants.{Link}
use Rattle.bench_world.specs.declared.bench.ObeyFault.{ObeyFault}
use Rattle.bench_world.specs.declared.bench.ObeyFault.TheVariants as faults
use Rattle.bench_world.specs.declared.entry.Answer.{Answer}
use Rattle.bench_world.specs.Legal.{CutFront, no_joins}
use Rattle.bench_world.specs.Obeying.{Machines, Obeyed, link_ended, state_at}
use Rattle.bench_world.proofs.lines.Outcomes.{if_ok}
use Rattle.bench_world.proofs.open_link.Unlinking.{link_resets, behind_ended, front_ended, count_ended}
use Rattle.bench_world.proofs.linking.link.Goals as goal

-- what holds of each error holds of this one
of_err : {P : Type 0} (r : Result Answer ObeyFault) → IsErrOf r faults.Memory → OnErr r P → P
of_err (Ok a) e p = absurd (let clash : ◌≡◌ {A = Result Answer ObeyFault} (Ok a) (Err faults.Memory) = e in cc)
of_err (Err x) e p = p

pub select_and_open-requires-clause-few : goal.select_and_open-requires-clause-few
select_and_open-requires-clause-few c =
    let old : Machines = c.args.machines.now in
    let same : length (link_ended old).peers.links ≡ length old.peers.links = count_ended old.link old.peers old.ends in
    subst (λ (m : Machines). length m.peers.links + 1 < 4294967296) (sym c.end_link.ensures)
    (subst (λ n. n + 1 < 4294967296) (sym same) (c.is_full.ensures.room c.if-is_full.false))

pub returns-clause-ok : goal.returns-clause-ok
returns-clause-ok c =
    let old : Machines = c.args.machines.now in
    let new : Machines = c.select_and_open.new.machines in
    if_ok c.select_and_open.result (λ a. Obeyed c.end_link.new.self new (Link c.args.id.now c.args.miu c.args.rw) a) (λ a. Obeyed old new (Link c.args.id.now c.args.miu c.args.rw) a)
    (λ a o. behind_ended (Link c.args.id.now c.args.miu c.args.rw) (link_resets c.args.id.now c.args.miu c.args.rw) old c.requires new a
    (subst (λ m. Obeyed m new (Link c.args.id.now c.args.miu c.args.rw) a) c.end_link.ensures o)) c.select_and_open.ensures.ok

pub returns-clause-cut : goal.returns-clause-cut
returns-clause-cut c = λ e.
    let old : Machines = c.args.machines.now in
    let new : Machines = c.select_and_open.new.machines in
    inr (inl (front_ended (Link c.args.id.now c.args.miu c.args.rw) (link_resets c.args.id.now c.args.miu c.args.rw) old c.requires new
    (subst (λ m. CutFront no_joins (state_at m) (Link c.args.id.now c.args.miu c.args.rw) new.air.trace (state_at new)) c.end_link.ensures
    (of_err c.select_and_open.result e c.select_and_open.ensures.cut))))
