use Rattle.std.proofs.Common.{◌≡◌, ◌+◌, ◌++◌, drop}
use Rattle.bench_world.specs.Inbox.{told_by_links}
use Rattle.bench_world.proofs.inbox.add_ranges.Given as goal

-- what is told, and what is left to tell
abbrev pub invariant-links : goal.invariant-links
invariant-links l =
    l.told.items ++ told_by_links (l.i + 1) (drop l.i l.links) l.peer l.server.accepted
    ≡ l.fn.told.items ++ told_by_links 1 l.links l.peer l.server.accepted
