-- A peer whose server is bound where a client looks for it.
use Rattle.std.proofs.Common.{◌≡◌, ◌≤◌, true, List}
use Rattle.llcp_pdu.specs.Wire.{least_miu}
use Rattle.llcp_link.specs.Names.{is_bound}
use Rattle.llcp_link.specs.State.{Bound}
use Rattle.snep_core.specs.Accord.{PeerState}
use Rattle.snep_core.specs.Talk.{server_sap}

-- these names are bound there, the server is bound to its SAP, and the client's MIU on the link is one that can be said
abbrev pub IsReached : List Bound → PeerState → Type 0
IsReached names p = (p.bound ≡ names) × (is_bound server_sap p.bound ≡ true) × (least_miu ≤ p.far_miu)
