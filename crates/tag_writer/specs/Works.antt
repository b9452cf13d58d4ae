-- The steps of a work on blocks, and the updates of one on a file. No public contract speaks of these.
use Rattle.std.specs.Prelude.{◌≡◌, ℕ, ◌+◌, ◌*◌, ◌<◌, ◌≤◌, List, length}
use Rattle.t4t_tag.specs.Spelling.{most_per_command, offset_end}
use Rattle.tlv_area.specs.declared.step.Step.{Step}
use Rattle.tlv_area.specs.declared.step.Plan.{Plan}
use Rattle.tlv_area.specs.Writing.{made}
use Rattle.tag_reader.specs.declared.how.How.{How}
use Rattle.tag_reader.specs.declared.how.How.TheVariants.{T2, T4, T5}
use Rattle.tag_writer.specs.declared.phase.Phase.{Phase}
use Rattle.tag_writer.specs.declared.phase.Phase.TheVariants.{Prepared, Emptied, Filled}

-- a step that a command can ask for
abbrev pub IsStepFor : How → Step → Type 0
IsStepFor T2 s = (s.block < 256) × (length s.content.items ≡ 4)
IsStepFor T4 s = ⊥
IsStepFor (T5 id) s = Unit {0}

-- the steps behind a phase
abbrev pub steps_at : Phase → Plan → List Step
steps_at Prepared plan = made plan.close
steps_at Emptied plan = plan.fill
steps_at Filled plan = made plan.last

-- a piece of the message
pub record IsPieceAt (message : List ℕ) (most index : ℕ) : Type 0 where
  pub some : 1 ≤ most
  pub most' : most ≤ most_per_command
  pub begins : most * index < length message
  pub small : 2 + length message ≤ offset_end
