-- An open connection that an end asked for, for who says from outside where two ends stand.
use Rattle.std.specs.Prelude.{ℕ, List}
use Rattle.llcp_conn.specs.Conn.{ConnState}
use Rattle.llcp_link.specs.State.{Open, OwnState}

-- from one SAP to another, with its end, and the units that were handed up on it and not yet taken away
abbrev pub opened : ℕ → ℕ → ConnState → List (List ℕ) → OwnState
opened here there c units = record { here = here; there = there; is = Open c; units = units }
