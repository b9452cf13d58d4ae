-- Journals of one script. No public contract speaks of these.
use Rattle.std.specs.Prelude.{◌≡◌, List, [], ◌∷◌}
use Rattle.bench_world.specs.declared.entry.Entry.{Entry}

-- The entries have the same lines and commands, in the same order: they are of one script.
abbrev pub SameCommands : List Entry → List Entry → Type 0
SameCommands [] [] = Unit {0}
SameCommands (j ∷ js) (k ∷ ks) = (j.line ≡ k.line) × (j.command ≡ k.command) × SameCommands js ks
SameCommands [] (k ∷ ks) = ⊥
SameCommands (j ∷ js) [] = ⊥
