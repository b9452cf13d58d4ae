use Rattle.std.proofs.Common.{rules, ◌≡◌, ◌⊎◌, ap, subst, ◌∙◌, Some, None}
use Rattle.llcp_link.specs.Asking.{connecting_refusal}
use Rattle.llcp_link.specs.declared.fault.LlcFault.{LlcFault}
use Rattle.llcp_link.specs.declared.fault.LlcFault.TheVariants.{Memory}
use Rattle.snep_core.specs.Talk.{connected}
use Rattle.snep_core.proofs.connections.Connecting.{connected_busy, connected_free}
use Rattle.snep_core.proofs.client.ClientEnd.connect.Goals as goal

pub returns-in-Ok-clause-ok : goal.returns-in-Ok-clause-ok
returns-in-Ok-clause-ok c =
    let same : c.self.inside.llc ≡ c.args.self.now.llc = search rules in
    connected_free c.args.sap c.self.inside.llc c.connect_from.new.self c.in-Ok.ensures.ok ∙ ap (λ z. connected z c.args.sap) same

pub returns-in-Err-Busy-clause-ok : goal.returns-in-Err-Busy-clause-ok
returns-in-Err-Busy-clause-ok c =
    let same : c.self.inside.llc ≡ c.args.self.now.llc = search rules in
    let kept : c.connect_from.new.self ≡ c.self.inside.llc = search rules in
    let busy =
    subst (λ (e : LlcFault). ((e ≡ Memory) × (connecting_refusal c.self.inside.llc c.args.sap ≡ None))
    ⊎ (connecting_refusal c.self.inside.llc c.args.sap ≡ Some e)) c.in-Err-Busy.field-0-is c.in-Err-Busy.ensures.err in
    connected_busy c.args.sap c.self.inside.llc c.connect_from.new.self kept busy ∙ ap (λ z. connected z c.args.sap) same
