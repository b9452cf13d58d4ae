use Rattle.llcp_link.proofs.UnitsTold.{units_law}
use Rattle.llcp_link.proofs.law.units.Goals as goal

pub returns : goal.returns
returns g c = units_law g.S.Service.serving
