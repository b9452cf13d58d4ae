-- One step of a Type 5 tag whose memory C keeps (this project's own; the table is that of the tag's crate).
use Rattle.std.specs.Prelude.{◌≡◌, ℕ, ◌≤◌, ◌==◌, ◌⊎◌, List, length, Option, Some, None, if◌then◌else◌}
use Rattle.nfc_base.specs.Signal.{Signal, whole_v}
use Rattle.t5t_tag.specs.declared.round.Round.{Round}
use Rattle.t5t_tag.specs.Store.{T5State, IsT5Store, blocks_in, fresh, locked_too, resumed}
use Rattle.t5t_tag.specs.Step.{t5_answer, t5_after}
use Rattle.zevlodek_c.specs.declared.showing.Told.{Told}
use Rattle.zevlodek_c.specs.declared.t5_tags.T5Standing.{T5Standing}
use Rattle.zevlodek_c.specs.Codes.{bad_argument, no_memory}
use Rattle.zevlodek_c.specs.Showing.{of_bool}
use Rattle.zevlodek_c.specs.Tags.{Stepped, answered, undone, is_set, locked_from}

-- the round in which a tag is that stands so, if it is in one
abbrev pub round_of : T5Standing → Option Round
round_of s = if s.in_round == 0 then None else Some (record { slot = s.slot; current = s.current })

-- the tag that holds these bytes in blocks of this size, with a byte for each block, and stands so
abbrev pub t5_held : List ℕ → ℕ → List ℕ → List ℕ → T5Standing → T5State
t5_held id size memory locks s =
    resumed (locked_from locked_too (fresh id size memory) 0 locks) (is_set s.quiet) (round_of s)

abbrev pub standing_in : ℕ → Option Round → T5Standing
standing_in quiet None = record { quiet = quiet; in_round = 0; slot = 0; current = 0 }
standing_in quiet (Some r) = record { quiet = quiet; in_round = 1; slot = r.slot; current = r.current }

abbrev pub t5_standing_of : T5State → T5Standing
t5_standing_of t = standing_in (of_bool t.quiet) t.round

-- what C keeps of a tag that a step changes
pub record T5Kept : Type 0 where
  pub memory : List ℕ
  pub standing : T5Standing

-- what may be handed in: the store of a tag in blocks of this size, and a byte for each of its blocks
pub record IsT5Asked (size : ℕ) (memory locks : List ℕ) : Type 0 where
  pub store : IsT5Store size memory
  pub locks' : length locks ≡ blocks_in size memory

abbrev pub t5_kept : T5State → T5Kept
t5_kept t = record { memory = t.store; standing = t5_standing_of t }

abbrev pub t5_stepped : List ℕ → ℕ → List ℕ → List ℕ → T5Standing → Signal → List ℕ → Told → Stepped T5Kept
t5_stepped id size memory locks s command out told =
    let t = t5_held id size memory locks s in
    answered (t5_answer t command) (record { memory = memory; standing = s }) (t5_kept (t5_after t command)) out told

-- What a step does: of a tag and a frame that may be handed in, its table's step; else nothing.
pub record T5Steps (id : List ℕ) (size : ℕ) (memory locks : List ℕ) (s : T5Standing) (command out : List ℕ)
    (told : Told) (after : Stepped T5Kept) : Type 0 where
  pub taken : IsT5Asked size memory locks → length command ≤ 288
      → (after ≡ t5_stepped id size memory locks s (whole_v command) out told)
      ⊎ (after ≡ undone no_memory (record { memory = memory; standing = s }) out told)
  pub refused : (IsT5Asked size memory locks × (length command ≤ 288) → ⊥)
      → (after ≡ undone bad_argument (record { memory = memory; standing = s }) out told)
      ⊎ (after ≡ undone no_memory (record { memory = memory; standing = s }) out told)
