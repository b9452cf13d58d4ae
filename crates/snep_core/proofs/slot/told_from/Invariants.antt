use Rattle.std.proofs.Common.{◌≡◌, drop}
use Rattle.snep_core.specs.Slots.{job_from}
use Rattle.snep_core.proofs.slot.told_from.Given as goal

abbrev pub invariant-jobs : goal.invariant-jobs
invariant-jobs l = job_from l.sap (drop l.one-index l.jobs) ≡ job_from l.sap l.jobs
