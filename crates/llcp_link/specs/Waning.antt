-- What is still to come on a connection that an end asked for, whatever the other end sends: an answer that is awaited,
-- and the acknowledgements of units.
use Rattle.std.specs.Prelude.{ℕ, ◌+◌, length, Option, Some, None}
use Rattle.llcp_link.specs.State.{OwnIs, Asking, Open, Refused, Leaving, Closed, OwnState}

abbrev pub pending_on : OwnIs → ℕ
pending_on Asking = 1
pending_on (Open c) = length c.flight + length c.queue
pending_on Refused = 0
pending_on Leaving = 1
pending_on Closed = 0

abbrev pub pending : Option OwnState → ℕ
pending None = 0
pending (Some o) = pending_on o.is
