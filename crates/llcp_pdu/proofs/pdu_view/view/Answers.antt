use Rattle.std.proofs.Common.{rules, ◌<◌, slice_index, Ok}
use Rattle.llcp_pdu.proofs.Exact.{shows_exactly, shown_in_range, are_bytes}
use Rattle.llcp_pdu.proofs.pdu_view.view.Goals as goal

pub returns-in_err-header-clause-exact : goal.returns-in_err-header-clause-exact
returns-in_err-header-clause-exact c = shows_exactly c.from_residual.result c.args.bytes.now
    (are_bytes c.args.bytes.now (λ i. let h = c.type_inv.bytes i in let k : slice_index c.args.bytes.now i < 256 = search rules in k)) (search rules)

pub returns-in_err-read-clause-exact : goal.returns-in_err-read-clause-exact
returns-in_err-read-clause-exact c =
    shows_exactly c.from_residual-in_err-read.result c.args.bytes.now (are_bytes c.args.bytes.now (λ i. let h = c.type_inv.bytes i in let k : slice_index c.args.bytes.now i < 256 = search rules in k))
    (search rules)

pub returns-clause-exact : goal.returns-clause-exact
returns-clause-exact c =
    shows_exactly (Ok c.in_ok-read.read) c.args.bytes.now (are_bytes c.args.bytes.now (λ i. let h = c.type_inv.bytes i in let k : slice_index c.args.bytes.now i < 256 = search rules in k))
    (search rules)

pub returns-clause-range : goal.returns-clause-range
returns-clause-range c =
    shown_in_range c.in_ok-read.read c.args.bytes.now (are_bytes c.args.bytes.now (λ i. let h = c.type_inv.bytes i in let k : slice_index c.args.bytes.now i < 256 = search rules in k)) (search rules)
