use Rattle.std.proofs.Common.{◌≡◌, drop, true, false}
use Rattle.link_numbers.specs.Shown.{answers_of, requests_of}
use Rattle.link_numbers.specs.Walking.{nothing, sent_all}
use Rattle.link_numbers.proofs.shown.numbers_shown.Given as goal

-- what is left of the events makes of each end what the whole makes of one that sent nothing
abbrev pub invariant-loop-event : goal.invariant-loop-event
invariant-loop-event l = record {
  own : sent_all false l.own (requests_of (drop l.event-index l.events)) ≡ sent_all false (nothing l.fn.first) (requests_of l.fn.events);
  far : sent_all true l.far (answers_of (drop l.event-index l.events)) ≡ sent_all true (nothing l.fn.first) (answers_of l.fn.events);
}
