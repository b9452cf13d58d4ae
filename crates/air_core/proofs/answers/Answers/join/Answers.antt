use Rattle.std.proofs.Common.{◌≡◌, ◌∷◌, true, sym, ◌∙◌, ap, arith}
use Rattle.std.proofs.lemmas.Grind.{common_steps}
use Rattle.std.specs.List.{cons_option}
use Rattle.air_core.specs.Joint.{same_signal}
use Rattle.air_core.specs.Listening.{said_at}
use Rattle.air_core.specs.private.Joining.{joint_with, joined_with}
use Rattle.air_core.proofs.Joins.{joint_alike}
use Rattle.air_core.proofs.answers.Answers.join.Goals as goal

pub returns-else-ne-clause-joint : goal.returns-else-ne-clause-joint
returns-else-ne-clause-joint c more =
    let same : same_signal c.args.self.now.first c.args.self.now.next ≡ true = grind (arith, common_steps) in
    ap (λ j. joined_with j c.args.self.now.first more) c.in-Alike.is
    ∙ joint_alike c.args.self.now.first c.args.self.now.next more same
    ∙ ap (λ j. joined_with j c.args.self.now.first (c.args.self.now.next ∷ more)) (sym c.in-Alike.is)
    ∙ ap (λ v. joint_with c.args.self.now (cons_option (said_at v c.args.self.now.next) more)) (sym c.if-not-said.false)
