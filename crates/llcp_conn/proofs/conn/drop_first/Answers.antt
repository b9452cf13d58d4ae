use Rattle.std.proofs.Common.{◌∙◌, ap, drop}
use Rattle.circular_buffer.specs.Buffer.{buffer}
use Rattle.llcp_conn.proofs.Fronts.{drop_next}
use Rattle.llcp_conn.proofs.conn.drop_first.Goals as goal

pub units-preserved : goal.units-preserved
units-preserved c =
    c.pop_front.ensures.items
    ∙ ap (λ b. buffer (drop 1 b.items) b.capacity) c.units.invariant
    ∙ ap (λ z. buffer z c.args.units.now.capacity) (drop_next c.units.counter c.args.units.now.items)
