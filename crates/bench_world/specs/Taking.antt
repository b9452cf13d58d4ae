-- Which lines of a script are taken, by the lines alone: what each spells, and what the commands before it place, take
-- away and lock. What is sent plays no part in it. (Commands and their conditions are this project's own.)
use Rattle.std.specs.Prelude.{◌↔◌, ℕ, List, [], ◌∷◌}
use Rattle.bench_script.specs.declared.command.Command.{Command}
use Rattle.bench_script.specs.Script.{Spells}
use Rattle.bench_world.specs.declared.entry.Entry.{Entry}
use Rattle.bench_world.specs.Journal.{LeadsTo}
use Rattle.bench_world.specs.Legal.{State, Joins, Accepts, changed, first_state}

-- where a script stands behind some commands, as if nothing had been sent: these devices are placed, with these
-- identifiers and so many blocks
abbrev pub standing_from : State → List Command → State
standing_from s [] = s
standing_from s (c ∷ cs) = standing_from (changed s c) cs

abbrev pub standing_of : List Command → State
standing_of cs = standing_from first_state cs

-- a line spells a command that is accepted there
abbrev pub IsTaken : State → List ℕ → Type 0
IsTaken s line = (c : Command) × Spells line c × Accepts s c

-- each line spells its command
abbrev pub AreSpelled : List (List ℕ) → List Command → Type 0
AreSpelled [] [] = Unit {0}
AreSpelled (l ∷ ls) (c ∷ cs) = Spells l c × AreSpelled ls cs
AreSpelled [] (c ∷ cs) = ⊥
AreSpelled (l ∷ ls) [] = ⊥

-- each command is accepted behind those before it
abbrev pub AreAccepted : State → List Command → Type 0
AreAccepted s [] = Unit {0}
AreAccepted s (c ∷ cs) = Accepts s c × AreAccepted (changed s c) cs

-- The lines are taken, each behind those before it: they spell these commands.
pub record AreTaken (lines : List (List ℕ)) (commands : List Command) : Type 0 where
  pub spelled : AreSpelled lines commands
  pub accepted : AreAccepted first_state commands

-- The lines alone decide it: those of a legal journal are taken, and behind them a line is taken exactly where it is
-- taken in the state that the journal leads to, whatever was sent.
abbrev pub LinesDecide : Type 0
LinesDecide =
    (lines : List (List ℕ)) (numbers : List Joins) (journal : List Entry) (last : State)
    → LeadsTo lines numbers journal last
    → (commands : List Command) × AreTaken lines commands
    × ((line : List ℕ) → IsTaken last line ↔ IsTaken (standing_of commands) line)
