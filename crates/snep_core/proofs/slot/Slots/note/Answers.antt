use Rattle.std.proofs.Common.{length, ap, sym, subst, ◌∙◌}
use Rattle.snep_core.specs.Slots.{AllFit}
use Rattle.snep_core.specs.Talk.{client_sap}
use Rattle.snep_core.proofs.jobs.SlotPuts.{noted_fits, noted_length}
use Rattle.snep_core.proofs.slot.Slots.note.Goals as goal

pub invariant_of-self : goal.invariant_of-self
invariant_of-self c = (
  subst AllFit (sym c.note_all.ensures) (noted_fits c.args.jobs.now c.self.inside.all client_sap c.self.invariant.0),
  ap length c.note_all.ensures ∙ noted_length c.args.jobs.now c.self.inside.all client_sap ∙ c.self.invariant.1,
)
