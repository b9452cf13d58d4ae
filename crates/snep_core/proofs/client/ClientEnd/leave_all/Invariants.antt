use Rattle.std.proofs.Common.{◌≡◌, eqb, drop}
use Rattle.std.specs.List.{AllByRecursion, IsDistinct}
use Rattle.snep_core.specs.RepliesLeft.{IsBelowCountEnd}
use Rattle.snep_core.specs.Talk.{all_opening, leave_from}
use Rattle.snep_core.proofs.accord.AllJobs.{behind}
use Rattle.snep_core.proofs.jobs.Leaving.{AreSame}
use Rattle.snep_core.proofs.client.ClientEnd.leave_all.Given as goal

abbrev pub invariant-saps : goal.invariant-saps
invariant-saps l = record {
  spent : l.self.spent ≡ l.fn.self.spent;
  apart : IsDistinct eqb (drop l.sap-index l.saps);
  opens : all_opening (leave_from l.saps) l.fn.self.llc ≡ behind l.jobs.items (all_opening (leave_from (drop l.sap-index l.saps)) l.self.llc);
  others : AreSame l.fn.self.llc l.self.llc (drop l.sap-index l.saps);
  counted : AllByRecursion (IsBelowCountEnd l.fn.self.llc) (drop l.sap-index l.saps) → AllByRecursion (IsBelowCountEnd l.fn.self.llc) l.saps;
}
