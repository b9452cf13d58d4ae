-- One step of a Type 4 tag whose files C keeps (this project's own; the table is that of the tag's crate).
use Rattle.std.specs.Prelude.{◌≡◌, ℕ, ℤ, ◌≤◌, ◌==◌, ◌⊎◌, List, Option, Some, None, if◌then◌else◌}
use Rattle.t4t_tag.specs.declared.current.CurrentFile.{CurrentFile}
use Rattle.t4t_tag.specs.declared.current.CurrentFile.TheVariants.{NoFile, Container, Ndef}
use Rattle.t4t_tag.specs.Store.{T4State, IsT4Store, most_code, fresh, resumed}
use Rattle.t4t_tag.specs.Step.{t4_answer, t4_after}
use Rattle.zevlodek_c.specs.declared.showing.Told.{Told}
use Rattle.zevlodek_c.specs.declared.t4_tags.T4Standing.{T4Standing}
use Rattle.zevlodek_c.specs.Codes.{bad_argument, no_memory}
use Rattle.zevlodek_c.specs.Showing.{of_bool}
use Rattle.zevlodek_c.specs.Tags.{Stepped, answered_with, undone, is_set}

-- the file that a number names: none, the capability container, the NDEF file
abbrev pub current_of : ℕ → Option CurrentFile
current_of n =
    if n == 0 then Some NoFile
    else if n == 1 then Some Container
    else if n == 2 then Some Ndef
    else None

abbrev pub current_number : CurrentFile → ℕ
current_number NoFile = 0
current_number Container = 1
current_number Ndef = 2

-- the same, with no file where the number names none
abbrev pub file_or_none : Option CurrentFile → CurrentFile
file_or_none None = NoFile
file_or_none (Some c) = c

-- The tag with these files that stands so. How long the frames are that it takes concerns the link below it.
abbrev pub t4_held : List ℕ → List ℕ → T4Standing → T4State
t4_held container file s =
    resumed (fresh most_code container file) (is_set s.selected) (file_or_none (current_of s.current))

abbrev pub standing_of : T4State → T4Standing
standing_of t = record { selected = of_bool t.selected; current = current_number t.current }

-- what C keeps of a tag that a step changes
pub record T4Kept : Type 0 where
  pub file : List ℕ
  pub standing : T4Standing

-- what may be handed in: the files of a tag, and the number of a file that may be open
pub record IsT4Asked (container file : List ℕ) (s : T4Standing) : Type 0 where
  pub store : IsT4Store most_code container file
  pub open' : s.current ≤ 2

abbrev pub t4_stepped : List ℕ → List ℕ → T4Standing → List ℕ → List ℕ → Told → Stepped T4Kept
t4_stepped container file s command out told =
    let t = t4_held container file s in
    let u = t4_after t command in
    answered_with (t4_answer t command) 0 (record { file = file; standing = s })
    (record { file = u.file; standing = standing_of u }) out told

-- why there is no tag: it isn't one that may be handed in, or there is no memory
abbrev pub NoTag : Type 0 → ℤ → Type 0
NoTag IsAsked answer = ((IsAsked → ⊥) × (answer ≡ bad_argument)) ⊎ (answer ≡ no_memory)

-- What a step does: of a tag that may be handed in, its table's step; of what isn't one, nothing.
pub record T4Steps (container file : List ℕ) (s : T4Standing) (command out : List ℕ) (told : Told)
    (after : Stepped T4Kept) : Type 0 where
  pub taken : IsT4Asked container file s
      → (after ≡ t4_stepped container file s command out told)
      ⊎ (after ≡ undone no_memory (record { file = file; standing = s }) out told)
  pub refused : (IsT4Asked container file s → ⊥)
      → (after ≡ undone bad_argument (record { file = file; standing = s }) out told)
      ⊎ (after ≡ undone no_memory (record { file = file; standing = s }) out told)
