-- Which journals are legal for the lines of a script.
use Rattle.std.specs.Prelude.{◌≡◌, ℕ, ◌+◌, List, [], ◌∷◌, map, if◌then◌else◌}
use Rattle.bench_world.specs.declared.entry.Entry.{Entry}
use Rattle.bench_world.specs.Legal.{State, Given, Joins, EachLegal, first_state}
use Rattle.bench_script.specs.Script.{Spells, is_skipped}

-- a line with its number
pub record NumberedLine : Type 0 where
  pub number : ℕ
  pub text : List ℕ

-- the lines that ask for something, numbered from this number on; a line that asks for nothing counts too
abbrev pub asking_lines : ℕ → List (List ℕ) → List NumberedLine
asking_lines n [] = []
asking_lines n (l ∷ ls) = if is_skipped l then asking_lines (n + 1) ls
    else record { number = n; text = l } ∷ asking_lines (n + 1) ls

-- an entry for each line, in order, with its number and the command that it spells
abbrev pub AreEntriesOf : List NumberedLine → List Entry → Type 0
AreEntriesOf [] [] = Unit {0}
AreEntriesOf (l ∷ ls) (e ∷ es) = (e.line ≡ l.number) × Spells l.text e.command × AreEntriesOf ls es
AreEntriesOf [] (e ∷ es) = ⊥
AreEntriesOf (l ∷ ls) [] = ⊥

-- the entries of these lines, of which the first has this number
abbrev pub Numbered : ℕ → List (List ℕ) → List Entry → Type 0
Numbered n lines entries = AreEntriesOf (asking_lines n lines) entries

-- The journal is one that these lines may have, by these numbers of PDUs, a list an entry: an entry for each line that
-- asks for something, and each entry legal behind those before it; so it leads to this state.
pub record LeadsTo (lines : List (List ℕ)) (numbers : List Joins) (journal : List Entry) (last : State) : Type 0 where
  pub given : List Given
  pub joins : map (λ (g : Given). g.joins) given ≡ numbers
  pub numbered : Numbered 1 lines journal
  pub steps : EachLegal first_state given journal last

-- by some numbers
pub record Legal (lines : List (List ℕ)) (journal : List Entry) : Type 0 where
  pub numbers : List Joins
  pub last : State
  pub leads : LeadsTo lines numbers journal last
