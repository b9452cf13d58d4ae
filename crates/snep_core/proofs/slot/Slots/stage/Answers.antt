use Rattle.std.proofs.Common.{◌∙◌}
use Rattle.std.proofs.lemmas.List.{length-set}
use Rattle.snep_core.specs.Slots.{Staged}
use Rattle.snep_core.proofs.jobs.SlotPuts.{fits_set}
use Rattle.snep_core.proofs.slot.Slots.stage.Goals as goal

pub invariant_of-self : goal.invariant_of-self
invariant_of-self c = (
  fits_set c.self.inside.all c.args.slot c.args.message c.self.invariant.0 c.requires.message,
  length-set c.self.inside.all c.args.slot (Staged c.args.message) ∙ c.self.invariant.1,
)
