use Rattle.std.proofs.Common.{sym, subst, ◌∙◌, Option}
use Rattle.snep_core.specs.declared.job.Heard.{Heard}
use Rattle.snep_core.specs.Listening.{HearsUnits}
use Rattle.snep_core.proofs.connections.Owned.{lost_so}
use Rattle.snep_core.proofs.client.ClientEnd.hear.Goals as goal

pub returns-then-is_lost-clause-ok : goal.returns-then-is_lost-clause-ok
returns-then-is_lost-clause-ok c =
    let h =
    subst (λ (o : Option Heard). HearsUnits c.args.sap c.args.waiting c.args.self.now.llc c.args.job o c.hear_units.new.self.llc) c.in-Some.is c.in-Ok.ensures.ok in
    lost_so c.args.sap c.args.waiting c.args.self.now.llc c.hear_units.new.self.llc c.args.job c.in-Some.heard.job h.0 h.2
    (sym c.is_lost.ensures ∙ c.if-is_lost.true)
