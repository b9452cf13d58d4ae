use Rattle.std.proofs.Common.{◌≡◌, ◌++◌, drop}
use Rattle.bench_world.specs.Inbox.{is_in, chosen, received_on}
use Rattle.bench_world.proofs.inbox.add_range.Given as goal

-- what is told, and what is left to tell
abbrev pub invariant-places : goal.invariant-places
invariant-places l =
    l.told.items ++ received_on l.number (chosen (is_in l.link) l.place (drop l.place l.server.accepted))
    ≡ l.fn.told.items ++ received_on l.number (chosen (is_in l.link) 0 l.server.accepted)
