-- The slots of a reader's clients that a line names.
use Rattle.std.specs.Prelude.{ℕ, List, [], ◌∷◌, Bool, true, ◌==◌, ◌&&◌, not}
use Rattle.std.specs.List.{list_any}
use Rattle.bench_script.specs.declared.command.SlotPut.{SlotPut}

-- one of the puts is of this client
abbrev pub has_slot : ℕ → List SlotPut → Bool
has_slot slot puts = list_any (λ p. p.slot == slot) puts

-- no two of them are of one client
abbrev pub have_own_slots : List SlotPut → Bool
have_own_slots [] = true
have_own_slots (p ∷ ps) = not (has_slot p.slot ps) && have_own_slots ps
