-- The commands that a work asks for, phase by phase.
use Rattle.std.specs.Prelude.{ℕ, zero, suc, ◌+◌, ◌≤◌, not, Bool, List, [], ◌∷◌, ◌++◌, length, map}
use Rattle.std.specs.List.{AllByRecursion, AllByRecursion-prop}
use Rattle.std.specs.Coded.{×_prop, Unit-prop, le_prop, Coded-set, coded_ℕ}
use Rattle.nfc_base.specs.Signal.{Signal, whole_a}
use Rattle.t4t_tag.specs.Spelling.{most_per_command, offset_end}
use Rattle.tlv_area.specs.declared.step.Step.{Step}
use Rattle.tlv_area.specs.Writing.{steps_of}
use Rattle.tag_reader.specs.declared.how.How.{How}
use Rattle.tag_reader.specs.declared.how.How.TheVariants.{T2, T4, T5}
use Rattle.tag_writer.specs.declared.phase.Phase.{Phase}
use Rattle.tag_writer.specs.declared.phase.Phase.TheVariants.{Prepared, Emptied, Filled}
use Rattle.tag_writer.specs.declared.work.Work.{Work}
use Rattle.tag_writer.specs.declared.work.Work.TheVariants.{Blocks, File}
use Rattle.tag_writer.specs.Puts.{block_command, update_command, updates}
use Rattle.tag_writer.specs.Works.{IsStepFor, steps_at}

-- the updates of a file behind a phase; the first one is made where the length isn't 0 yet
abbrev pub updates_in : Phase → List ℕ → ℕ → Bool → List Signal
updates_in phase message most close = updates update_command phase message most (not close)

-- the commands behind a phase, and all of them
abbrev pub commands_at : Phase → Work → List Signal
commands_at phase (Blocks how plan) = map (block_command how) (steps_at phase plan)
commands_at phase (File message most close) = updates_in phase message most close

abbrev pub all_commands : Work → List Signal
all_commands work = (commands_at Prepared work ++ commands_at Emptied work) ++ commands_at Filled work

-- the k-th of some commands, counted from 0
abbrev pub command_at : List Signal → ℕ → Signal
command_at [] k = whole_a []
command_at (c ∷ cs) zero = c
command_at (c ∷ cs) (suc k) = command_at cs k

-- Each of them can be spelled.
abbrev pub IsFit : Work → Type 0
IsFit (Blocks how plan) = AllByRecursion (IsStepFor how) (steps_of plan)
IsFit (File message most close) = (1 ≤ most) × ((most ≤ most_per_command) × (2 + length message ≤ offset_end))

-- A phase keeps it as a fact, which has one proof at most.
IsStepFor-prop : (how : How) (s : Step) → IsProp (IsStepFor how s)
IsStepFor-prop T2 s = ×_prop le_prop (Coded-set coded_ℕ (length s.content.items) 4)
IsStepFor-prop T4 s = λ x y. absurd x
IsStepFor-prop (T5 id) s = Unit-prop

pub IsFit-prop : (work : Work) → IsProp (IsFit work)
IsFit-prop (Blocks how plan) = AllByRecursion-prop (IsStepFor how) (IsStepFor-prop how) (steps_of plan)
IsFit-prop (File message most close) = ×_prop le_prop (×_prop le_prop le_prop)
