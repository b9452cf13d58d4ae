-- With each line something of a report is read.
use Rattle.std.proofs.Common.{◌≡◌, ℕ, ◌+◌, ◌<◌, ◌≤◌, List, [], ◌∷◌, ◌++◌, length, ap, arith}
use Rattle.std.specs.Prelude.{codes}
use Rattle.std.specs.Fmt.{decimal}
use Rattle.std.proofs.lemmas.List.{length-append}
use Rattle.nfc_base.specs.declared.event.Event.{Event}
use Rattle.bench_world.specs.Report.{event_text, events_text, line_text}

pub line_some : (n : ℕ) (body : List ℕ) → 0 < length (line_text n body)
line_some n body = omega (arith, length-append ((decimal n ++ codes " ") ++ body) (codes "\n"))

pub events_some : (n : ℕ) (es : List Event) → length es ≤ length (events_text n es)
events_some n [] = omega arith
events_some n (e ∷ es) = omega (arith, length-append (line_text n (event_text e)) (events_text n es), line_some n (event_text e), events_some n es)

-- the events that were read
pub events_read : (n : ℕ) (es : List Event) (left behind : List ℕ) → left ≡ events_text n es ++ behind → length es + length behind ≤ length left
events_read n es left behind split = omega (arith, ap length split, length-append (events_text n es) behind, events_some n es)

-- ... and a line behind them
pub line_read : (n : ℕ) (body behind rest : List ℕ) → behind ≡ line_text n body ++ rest → length rest + 1 ≤ length behind
line_read n body behind rest split = omega (arith, ap length split, length-append (line_text n body) rest, line_some n body)
