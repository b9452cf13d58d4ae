use Rattle.std.proofs.Common.{◌≡◌, ◌+◌, ◌<◌, length, Result, Ok, Err, OnErr, IsErrOf, sym, subst}
use Rattle.bench_script.specs.declared.command.Command.{Command}
use Rattle.bench_script.specs.declared.command.Command.TheVariants.{Forge}
use Rattle.bench_world.specs.declared.bench.ObeyFault.{ObeyFault}
use Rattle.bench_world.specs.declared.bench.ObeyFault.TheVariants as faults
use Rattle.bench_world.specs.declared.entry.Answer.{Answer}
use Rattle.bench_world.specs.private.ForgedAt.{ForgeStops}
use Rattle.bench_world.specs.Legal.{Joins, joins_for}
use Rattle.bench_world.specs.Obeying.{Machines, ObeyedBy, link_ended, state_at}
use Rattle.bench_world.proofs.forged.ForgeReset.{cut_by, forge_resets, stops_ended}
use Rattle.bench_world.proofs.lines.Outcomes.{if_ok}
use Rattle.bench_world.proofs.open_link.Unlinking.{behind_ended_by, count_ended}
use Rattle.bench_world.proofs.forging.forge.Goals as goal

-- what holds of each error holds of this one
of_err : {P : Type 0} (r : Result Answer ObeyFault) → IsErrOf r faults.Memory → OnErr r P → P
of_err (Ok a) e p = absurd (let clash : ◌≡◌ {A = Result Answer ObeyFault} (Ok a) (Err faults.Memory) = e in cc)
of_err (Err x) e p = p

pub select_and_send-requires-clause-few : goal.select_and_send-requires-clause-few
select_and_send-requires-clause-few c =
    let old : Machines = c.args.machines.now in
    let same : length (link_ended old).peers.links ≡ length old.peers.links = count_ended old.link old.peers old.ends in
    subst (λ (m : Machines). length m.peers.links + 1 < 4294967296) (sym c.end_link.ensures)
    (subst (λ n. n + 1 < 4294967296) (sym same) (c.is_full.ensures.room c.if-is_full.false))

pub returns-clause-ok : goal.returns-clause-ok
returns-clause-ok c =
    let old : Machines = c.args.machines.now in
    let new : Machines = c.select_and_send.new.machines in
    let x : Command = Forge c.args.id.now c.args.payloads.now in
    let joins : Joins = joins_for x c.args.joins in
    if_ok c.select_and_send.result (λ a. ObeyedBy joins c.end_link.new.self new x a) (λ a. ObeyedBy joins old new x a)
    (λ a o. behind_ended_by x (forge_resets c.args.id.now c.args.payloads.now) old c.requires new joins a (subst (λ m. ObeyedBy joins m new x a) c.end_link.ensures o)) c.select_and_send.ensures.ok

pub returns-clause-cut : goal.returns-clause-cut
returns-clause-cut c = λ e.
    let old : Machines = c.args.machines.now in
    let new : Machines = c.select_and_send.new.machines in
    let x : Command = Forge c.args.id.now c.args.payloads.now in
    let joins : Joins = joins_for x c.args.joins in
    cut_by joins (state_at old) c.args.id.now c.args.payloads.now new.air.trace (state_at new)
    (stops_ended joins c.args.id.now c.args.payloads.now old c.requires new
    (subst (λ m. ForgeStops joins (state_at m) x new.air.trace (state_at new)) c.end_link.ensures (of_err c.select_and_send.result e c.select_and_send.ensures.cut)))
