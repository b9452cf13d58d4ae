use Rattle.std.proofs.Common.{◌≡◌, drop}
use Rattle.bench_world.specs.Inbox.{came_on_link}
use Rattle.bench_world.proofs.inbox.came_on_link.Given as goal

-- what is left decides
abbrev pub invariant-links : goal.invariant-links
invariant-links l = came_on_link (drop l.link-index l.links) l.peer l.place ≡ came_on_link l.links l.peer l.place
