use Rattle.std.proofs.Common.{length, ap, sym, subst, ◌∙◌}
use Rattle.std.proofs.lemmas.List.{length-map}
use Rattle.snep_core.specs.Slots.{AllFit, dropped_one}
use Rattle.snep_core.proofs.jobs.SlotPuts.{dropped_fits}
use Rattle.snep_core.proofs.slot.Slots.leave.Goals as goal

pub invariant_of-self : goal.invariant_of-self
invariant_of-self c = (
  subst AllFit (sym c.drop_staged.ensures) (dropped_fits c.self.inside.all c.self.invariant.0),
  ap length c.drop_staged.ensures ∙ length-map c.self.inside.all dropped_one ∙ c.self.invariant.1,
)
