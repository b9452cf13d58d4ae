use Rattle.std.proofs.Common.{◌≡◌, ◌≤◌, ℕ, ◌+◌, drop}
use Rattle.snep_core.specs.Slots.{AllFit, all_puts, puts_from}
use Rattle.snep_core.specs.Talk.{all_opening, client_sap, own_of}
use Rattle.snep_core.proofs.accord.AllJobs.{behind}
use Rattle.snep_core.proofs.jobs.SlotOpens.{AreCounted}
use Rattle.snep_core.proofs.client.ClientEnd.begin_all.Given as goal

abbrev pub invariant-slots : goal.invariant-slots
invariant-slots l = record {
  spent : l.self.spent ≡ l.fn.self.spent;
  sap_is : l.sap ≡ client_sap + l.slot-index;
  fit : AllFit (drop l.slot-index l.slots);
  opens : all_opening (all_puts l.slots) l.fn.self.llc ≡ behind l.jobs.items (all_opening (puts_from l.sap (drop l.slot-index l.slots)) l.self.llc);
  others : (t : ℕ) → l.sap ≤ t → own_of t l.self.llc ≡ own_of t l.fn.self.llc;
  counted : AreCounted l.fn.self.llc l.sap (drop l.slot-index l.slots) → AreCounted l.fn.self.llc client_sap l.slots;
}
