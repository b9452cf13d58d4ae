use Rattle.std.proofs.Common.{◌≡◌, ◌++◌, List, length}
use Rattle.nfc_base.specs.declared.event.Event.{Event}
use Rattle.nfc_base.specs.declared.frame.Tech.TheVariants.{A}
use Rattle.trace_audit.specs.Reading.{HaveTech, AreOnAir}
use Rattle.bench_world.specs.Report.{events_text}
use Rattle.trace_audit.proofs.reading.read_events.Given as goal

abbrev pub invariant-events : goal.invariant-events
invariant-events l = record {
  split : l.fn.report ≡ events_text l.line l.events.items ++ l.left;
  tech : (es : List Event) → HaveTech l.command l.last es → HaveTech l.command A (l.events.items ++ es);
  back : (es : List Event) → HaveTech l.command A (l.events.items ++ es) → HaveTech l.command l.last es;
  on_air : (es : List Event) → AreOnAir es → AreOnAir (l.events.items ++ es);
}

abbrev pub decreases-events : goal.decreases-events
decreases-events l = length l.left
