use Rattle.std.proofs.Common.{◌≡◌, ◌≤◌, ◌+◌, ◌++◌, length, take, drop}
use Rattle.snep_core.specs.Slots.{noted, noted_from, slot_count}
use Rattle.snep_core.specs.Talk.{client_sap}
use Rattle.snep_core.proofs.slot.note_all.Given as goal

abbrev pub invariant-slots : goal.invariant-slots
invariant-slots l = record {
  sap_is : l.sap ≡ client_sap + l.slot-index;
  few : length l.slots ≤ slot_count;
  told : noted l.jobs l.fn.slots ≡ take l.slot-index l.slots ++ noted_from l.sap l.jobs (drop l.slot-index l.slots);
}
