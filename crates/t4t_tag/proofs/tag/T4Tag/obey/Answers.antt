use Rattle.std.proofs.Common.{◌≤◌, List, ℕ, length, subst, sym, arith}
use Rattle.t4t_tag.specs.Store.{T4State, IsSameTag}
use Rattle.t4t_tag.proofs.Steps.{same_tag, least_answer, most_answer}
use Rattle.t4t_tag.proofs.tag.T4Tag.obey.Goals as goal

pub returns-clause-least : goal.returns-clause-least
returns-clause-least c = subst (λ (a : List ℕ). 2 ≤ length a) (sym c.step.ensures.answer) (least_answer c.args.self.now c.args.command.now)

pub returns-clause-most : goal.returns-clause-most
returns-clause-most c = subst (λ (a : List ℕ). length a ≤ 258) (sym c.step.ensures.answer) (most_answer c.args.self.now c.args.command.now (omega (arith, c.type_inv.command 4)))

pub returns-clause-same : goal.returns-clause-same
returns-clause-same c = subst (λ (t : T4State). IsSameTag c.args.self.now t) (sym c.step.ensures.step) (same_tag c.args.self.now c.args.command.now)
