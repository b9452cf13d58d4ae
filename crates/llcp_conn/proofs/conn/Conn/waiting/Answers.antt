use Rattle.std.proofs.Common.{◌∙◌, ap}
use Rattle.llcp_conn.specs.Conn.{first}
use Rattle.llcp_conn.proofs.Fronts.{first_waits}
use Rattle.llcp_conn.proofs.conn.Conn.waiting.Goals as goal

pub returns : goal.returns
returns c = c.get.ensures ∙ first_waits c.self.inside.units.items c.self.inside.given ∙ ap (λ s. first s.queue) c.self.view_is
