use Rattle.std.proofs.Common.{◌≡◌, ◌++◌, drop}
use Rattle.snep_core.specs.Talk.{saps}
use Rattle.snep_core.proofs.turning.saps_of.Given as goal

abbrev pub invariant-jobs : goal.invariant-jobs
invariant-jobs l = record {
  rest : l.saps.items ++ saps (drop l.one-index l.jobs) ≡ saps l.jobs;
}
