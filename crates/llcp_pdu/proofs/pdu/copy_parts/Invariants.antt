use Rattle.std.proofs.Common.{◌≡◌, ◌++◌}
use Rattle.llcp_pdu.specs.Views.{parts_in}
use Rattle.llcp_pdu.proofs.pdu.copy_parts.Given as goal

abbrev pub invariant-inner : goal.invariant-inner
invariant-inner l = l.parts.items ++ parts_in l.view-iterator ≡ parts_in l.inner
