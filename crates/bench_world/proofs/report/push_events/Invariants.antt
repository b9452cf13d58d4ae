use Rattle.std.proofs.Common.{◌≡◌, ◌++◌, drop}
use Rattle.bench_world.specs.Report.{events_text}
use Rattle.bench_world.proofs.report.push_events.Given as goal

abbrev pub invariant-events : goal.invariant-events
invariant-events l = l.text.items ++ events_text l.line (drop l.event-index l.events) ≡ l.fn.text.items ++ events_text l.line l.events
