-- What the peers of links accepted on them, by the machines of a bench; for private calls: a bench says it of its
-- state.
use Rattle.std.specs.Prelude.{ℕ, List, [], get_or, Option, Some, None}
use Rattle.snep_core.specs.Server.{Received as Accepted}
use Rattle.bench_world.specs.declared.inbox.LinkRange.{LinkRange}
use Rattle.bench_world.specs.Inbox.{gained_in}
use Rattle.bench_world.specs.Links.{end_numbered}
use Rattle.bench_world.specs.Obeying.{Machines}
use Rattle.bench_world.specs.Stories.{accepted_of, range_of}
use Rattle.bench_world.specs.World.{FarEnd}

-- what the server of a far end accepted, where one stands
abbrev pub accepted_above : Option FarEnd → List Accepted
accepted_above None = []
accepted_above (Some end) = end.service.accepted

abbrev pub gained_above_by : Machines → Option LinkRange → List Accepted
gained_above_by m None = []
gained_above_by m (Some l) =
    gained_in l (accepted_of (end_numbered l.peer m.peers.numbers m.ends) (get_or m.peers.gone l.peer None))

-- so it is of the link with a number
abbrev pub gained_above : Machines → ℕ → List Accepted
gained_above m number = gained_above_by m (range_of number m.peers.links)
