use Rattle.std.proofs.Common.{◌≡◌, ◌||◌, length}
use Rattle.llcp_link.specs.Asking.{forgotten}
use Rattle.snep_core.specs.Jobs.{has_byte, told_in}
use Rattle.snep_core.specs.Talk.{emptied, own_of, units_of}
use Rattle.snep_core.proofs.client.ClientEnd.hear_units.Given as goal

abbrev pub invariant-units : goal.invariant-units
invariant-units l = record {
  spent : l.self.spent ≡ l.fn.self.spent;
  told : told_in l.fn.waiting l.fn.first (units_of (own_of l.fn.sap l.fn.self.llc)) ≡ told_in l.fn.waiting l.job (units_of (own_of l.fn.sap l.self.llc));
  some : has_byte (units_of (own_of l.fn.sap l.fn.self.llc)) ≡ (l.some || has_byte (units_of (own_of l.fn.sap l.self.llc)));
  emptied_is : emptied l.self.llc l.fn.sap ≡ emptied l.fn.self.llc l.fn.sap;
  forgotten_is : forgotten l.self.llc l.fn.sap ≡ forgotten l.fn.self.llc l.fn.sap;
}

abbrev pub decreases-units : goal.decreases-units
decreases-units l = length (units_of (own_of l.fn.sap l.self.llc))
