use Rattle.std.proofs.Common.{◌≡◌, drop}
use Rattle.snep_core.specs.Talk.{some_open}
use Rattle.snep_core.proofs.client.ClientEnd.any_open.Given as goal

abbrev pub invariant-saps : goal.invariant-saps
invariant-saps l = some_open l.self.llc l.saps ≡ some_open l.self.llc (drop l.sap-index l.saps)
