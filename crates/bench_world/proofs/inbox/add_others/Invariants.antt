use Rattle.std.proofs.Common.{◌≡◌, ◌++◌, drop, not}
use Rattle.bench_world.specs.Inbox.{came_on_link, chosen, received_on}
use Rattle.bench_world.proofs.inbox.add_others.Given as goal

-- what is told, and what is left to tell
abbrev pub invariant-places : goal.invariant-places
invariant-places l =
    l.told.items ++ received_on 0 (chosen (λ n. not (came_on_link l.links l.peer n)) l.place (drop l.place l.server.accepted))
    ≡ l.fn.told.items ++ received_on 0 (chosen (λ n. not (came_on_link l.links l.peer n)) 0 l.server.accepted)
