use Rattle.std.proofs.Common.{◌≡◌, drop}
use Rattle.snep_core.specs.Listening.{forgets}
use Rattle.snep_core.proofs.client.ClientEnd.forget_all.Given as goal

abbrev pub invariant-saps : goal.invariant-saps
invariant-saps l = record {
  spent : l.self-inside.spent ≡ l.fn.self.spent;
  forgot : forgets (drop l.sap-index l.saps) l.self-inside.llc ≡ forgets l.saps l.fn.self.llc;
}
