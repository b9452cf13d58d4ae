use Rattle.std.proofs.Common.{set, sym, subst, ◌∙◌}
use Rattle.std.proofs.lemmas.List.{length-set}
use Rattle.snep_core.specs.Slots.{AllFit}
use Rattle.snep_core.proofs.jobs.PutAlone.{ended_fits}
use Rattle.snep_core.proofs.slot.Slots.end_put.Goals as goal

pub invariant_of-self : goal.invariant_of-self
invariant_of-self c = (
  subst (λ y. AllFit (set c.self.inside.all c.args.slot y)) (sym c.end_put.ensures) (ended_fits c.self.inside.all c.args.slot c.index-self-slot.result c.args.ended c.self.invariant.0),
  length-set c.self.inside.all c.args.slot c.end_put.new.self ∙ c.self.invariant.1,
)
