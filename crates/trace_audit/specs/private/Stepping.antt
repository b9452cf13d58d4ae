-- What one line of a script does with a report: its entry is looked for at the front of what is left, as long as all
-- was good.
use Rattle.std.specs.Prelude.{◌≡◌, ℕ, ◌+◌, ◌≤◌, List, ◌++◌, length, ◌⊎◌, Bool, true, false}
use Rattle.nfc_base.specs.declared.event.Event.{Event}
use Rattle.bench_script.specs.declared.command.Command.{Command}
use Rattle.bench_script.specs.declared.command.Command.TheVariants.{Skip}
use Rattle.bench_script.specs.Script.{Spells}
use Rattle.bench_world.specs.declared.entry.Entry.{Entry}
use Rattle.bench_world.specs.Following.{FollowsAll, FollowsFront}
use Rattle.bench_world.specs.Obeying.{Benched, Obeys}
use Rattle.bench_world.specs.Report.{answer_text, line_text}
use Rattle.bench_world.specs.Showing.{MayShow}
use Rattle.trace_audit.specs.declared.stepping.Walk.{Walk}
use Rattle.trace_audit.specs.private.OnAir.{LastOnAir}
use Rattle.trace_audit.specs.ReadEvents.{AreRead}

-- The entry is the report's next lines: its events are those that were read, its answer's line comes behind, and these
-- are as many lines as are counted.
pub record StaysOn (old new : Benched) (line : ℕ) (c : Command) (left rest : List ℕ) (lines : ℕ) : Type 0 where
  pub events : List Event
  pub behind : List ℕ
  pub read : AreRead line c left events behind
  pub follows : FollowsAll old new line c events
  pub answered : behind ≡ line_text line (answer_text follows.entry.answer) ++ rest
  pub count : lines ≡ length events + 1

-- The events are those of an entry, but its answer's line doesn't come behind.
pub record StraysAtAnswer (old new : Benched) (line : ℕ) (c : Command) (left : List ℕ) (lines : ℕ) : Type 0 where
  pub events : List Event
  pub behind : List ℕ
  pub read : AreRead line c left events behind
  pub follows : FollowsAll old new line c events
  pub other : (rest : List ℕ) → behind ≡ line_text line (answer_text follows.entry.answer) ++ rest → ⊥
  pub count : lines ≡ length events

-- The events aren't those of an entry: so many of them begin one, and no more of them do.
pub record StraysAtEvent (old new : Benched) (line : ℕ) (c : Command) (left : List ℕ) (lines : ℕ) : Type 0 where
  pub events : List Event
  pub behind : List ℕ
  pub read : AreRead line c left events behind
  pub follows : FollowsFront old new line c events lines

-- how far the walk comes with an entry's answer, behind so many good lines
abbrev pub ComesBy : Bool → Entry → ℕ → List ℕ → Walk → Type 0
ComesBy false e good left w = (left ≡ line_text e.line (answer_text e.answer) ++ w.left.now) × (w.good ≡ good + 1)
ComesBy true e good left w = ((rest : List ℕ) → left ≡ line_text e.line (answer_text e.answer) ++ rest → ⊥)
    × (w.good ≡ good) × (w.left.now ≡ left)

abbrev pub ComesBehind : Entry → ℕ → List ℕ → Walk → Type 0
ComesBehind e good left w = ComesBy w.strayed e good left w

-- So many lines of the report are good beyond those before, and the next one may be, or isn't.
abbrev pub StepsTo : Bool → Benched → Benched → ℕ → Command → List ℕ → List ℕ → ℕ → Type 0
StepsTo false old new line c left rest lines = StaysOn old new line c left rest lines
StepsTo true old new line c left rest lines = StraysAtAnswer old new line c left lines
    ⊎ StraysAtEvent old new line c left lines

pub record StepsOn (old new : Benched) (line : ℕ) (c : Command) (w w' : Walk) : Type 0 where
  pub lines : ℕ
  pub good : w'.good ≡ w.good + lines
  pub step : StepsTo w'.strayed old new line c w.left.now w'.left.now lines

-- Behind the report's first fault a line is only obeyed; its entry is the last one.
pub record ObeysOn (old new : Benched) (line : ℕ) (c : Command) (w w' : Walk) : Type 0 where
  pub obeys : Obeys old new line c
  pub shows : MayShow old.state c
  pub on_air : LastOnAir new.journal
  pub same : w' ≡ w

abbrev pub TakesBy : Bool → Benched → Benched → ℕ → Command → Walk → Walk → Type 0
TakesBy false old new line c w w' = StepsOn old new line c w w'
TakesBy true old new line c w w' = ObeysOn old new line c w w'

-- A line that asks for nothing has no entry.
abbrev pub TakesLine : Benched → Benched → ℕ → Command → Walk → Walk → Type 0
TakesLine old new line Skip w w' = (new ≡ old) × (w' ≡ w)
TakesLine old new line c w w' = TakesBy w.strayed old new line c w w'

-- The line spells one command, and is taken so.
pub record AuditsLine (old new : Benched) (line : ℕ) (text : List ℕ) (w w' : Walk) : Type 0 where
  pub command : Command
  pub spells : Spells text command
  pub takes : TakesLine old new line command w w'

-- With each line that is good something of the report is left behind.
abbrev pub Shrinks : Walk → Walk → Type 0
Shrinks w w' = w'.good + length w'.left.now ≤ w.good + length w.left.now
