-- Sources and sinks in memory, whose calls fail as planned. This project's own.
use Rattle.std.specs.Prelude.{ℕ, List}
use Rattle.std.specs.List.{Contains}
use Rattle.nfc_io.specs.Counts.{count_up}

-- the numbers of the calls that fail, counted from 1, how many calls were made, and how many failed
pub record Plan : Type 0 where
  pub failing : List ℕ
  pub calls : ℕ
  pub faults : ℕ

-- no call was made yet
abbrev pub new_plan : List ℕ → Plan
new_plan failing = record { failing = failing; calls = 0; faults = 0 }

-- the number of the next call is one that fails
abbrev pub FailsNext : Plan → Type 0
FailsNext plan = Contains plan.failing (count_up plan.calls)

-- after a call that did not fail
abbrev pub after_call : Plan → Plan
after_call plan = record plan { calls = count_up plan.calls }

-- after a call that failed
abbrev pub after_fault : Plan → Plan
after_fault plan = record plan { calls = count_up plan.calls; faults = count_up plan.faults }

-- a source in memory: the bytes left, and its plan
pub record SourceInMemory : Type 0 where
  pub left : List ℕ
  pub plan : Plan

-- a sink in memory: the bytes taken, the most that it takes, and its plan
pub record SinkInMemory : Type 0 where
  pub taken : List ℕ
  pub limit : ℕ
  pub plan : Plan
