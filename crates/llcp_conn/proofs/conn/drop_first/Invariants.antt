use Rattle.std.proofs.Common.{◌≡◌, ◌+◌, drop}
use Rattle.circular_buffer.specs.Buffer.{buffer}
use Rattle.llcp_conn.proofs.conn.drop_first.Given as goal

abbrev pub invariant-units : goal.invariant-units
invariant-units l = l.units ≡ buffer (drop l.counter l.fn.units.items) l.fn.units.capacity
