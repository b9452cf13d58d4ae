use Rattle.std.proofs.Common.{rules, ◌≡◌, ◌∷◌}
use Rattle.llcp_pdu.specs.Params.{miux_in, rw_in, name_in}
use Rattle.llcp_pdu.specs.Views.{named, params_in, shown_param}
use Rattle.llcp_pdu.proofs.Latest.{later_heard}
use Rattle.llcp_pdu.proofs.connect.ConnectParams.new.Goals as goal

pub params-preserved : goal.params-preserved
params-preserved c =
    let all = params_in c.args.params.now in
    let left = params_in c.params.param-iterator in
    let behind = params_in c.next.new.self in
    let p = shown_param c.in-Some.param in
    let e : left ≡ p ∷ behind = search rules in record {
      miux = later_heard miux_in all left behind p c.params.said.miux c.hear.new.self.miux c.params.invariant.miux e (search rules);
      rw = later_heard rw_in all left behind p c.params.said.rw c.hear.new.self.rw c.params.invariant.rw e (search rules);
      name =
          later_heard name_in all left behind p (named c.params.said) (named c.hear.new.self) c.params.invariant.name e (search rules);
    }
