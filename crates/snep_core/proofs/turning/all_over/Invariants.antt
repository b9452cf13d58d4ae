use Rattle.std.proofs.Common.{◌≡◌, drop}
use Rattle.snep_core.specs.Talk.{all_over}
use Rattle.snep_core.proofs.turning.all_over.Given as goal

abbrev pub invariant-jobs : goal.invariant-jobs
invariant-jobs l = all_over (drop l.one-index l.jobs) ≡ all_over l.jobs
