use Rattle.std.proofs.Common.{◌≡◌, length}
use Rattle.snep_core.specs.Talk.{sends_some}
use Rattle.snep_core.proofs.client.ClientEnd.send_on.Given as goal

abbrev pub invariant-units : goal.invariant-units
invariant-units l = record {
  spent : l.self.spent ≡ l.fn.self.spent;
  sends : sends_some (length l.fn.bytes) l.miu l.fn.self.llc l.fn.sap l.most l.fn.bytes ≡ sends_some (length l.rest) l.miu l.self.llc l.fn.sap l.most l.rest;
}

abbrev pub decreases-units : goal.decreases-units
decreases-units l = length l.rest
