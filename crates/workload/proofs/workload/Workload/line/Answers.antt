use Rattle.std.proofs.Common.{◌≤◌, sym, ◌∙◌, arith}
use Rattle.workload.proofs.Places.{line_at}
use Rattle.workload.proofs.workload.Workload.line.Goals as goal

pub returns-in_default : goal.returns-in_default
returns-in_default c =
    let behind : 2 ≤ c.args.place = omega (arith, c.in_default) in
    c.round_line.ensures ∙ sym (line_at c.args.self.now.seed c.args.self.now.count c.args.place behind c.requires)
