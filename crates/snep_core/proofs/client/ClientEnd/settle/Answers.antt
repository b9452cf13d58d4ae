use Rattle.std.proofs.Common.{rules, ◌≡◌, nat_lt, false}
use Rattle.snep_core.specs.Listening.{forgets}
use Rattle.snep_core.specs.Talk.{all_over, as_they_came, idle_after, most_idle, saps}
use Rattle.snep_core.proofs.jobs.Talking.{settle_gives_up}
use Rattle.snep_core.proofs.client.ClientEnd.settle.Goals as goal

pub returns-clause-step : goal.returns-clause-step
returns-clause-step c =
    let over : all_over c.args.jobs ≡ false = search rules in
    let late : nat_lt (idle_after c.args.gave c.args.idle) most_idle ≡ false = search rules in
    let forgot : c.forget_all.new.self.llc ≡ forgets (saps c.args.jobs) c.args.self.now.llc = search rules in
    (as_they_came c.args.jobs, settle_gives_up c.args.self.now.llc c.forget_all.new.self.llc c.args.jobs (idle_after c.args.gave c.args.idle) over late forgot)
