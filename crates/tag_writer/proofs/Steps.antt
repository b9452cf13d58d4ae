-- The steps of a plan as writes.
use Rattle.std.proofs.Common.{◌≡◌, ℕ, zero, suc, ◌<◌, List, [], ◌∷◌, length, sym, ap, get_or, arith}
use Rattle.tlv_area.specs.declared.step.Step.{Step}
use Rattle.tlv_area.specs.declared.step.Plan.{Plan}
use Rattle.tag_reader.specs.declared.how.How.{How}
use Rattle.tag_writer.specs.declared.phase.Phase.{Phase}
use Rattle.tag_writer.specs.declared.phase.Phase.TheVariants.{Prepared, Emptied, Filled}
use Rattle.tag_writer.specs.declared.work.Work.TheVariants.{Blocks}
use Rattle.tag_writer.specs.Puts.{block_puts, block_command}
use Rattle.tag_writer.specs.Puttings.{signal_at}
use Rattle.tag_writer.specs.Phases.{WriteJob, IsWork, next_at}
use Rattle.tag_writer.specs.Works.{steps_at}

-- the command of the k-th step
pub signal_of : (how : How) (size : ℕ) (steps : List Step) (k : ℕ) (s : Step) → k < length steps → s ≡ get_or steps k s → signal_at (block_puts how size steps) k ≡ block_command how s
signal_of how size [] k s low is = absurd (omega (arith, low))
signal_of how size (t ∷ steps) zero s low is = ap (block_command how) (sym is)
signal_of how size (t ∷ steps) (suc k) s low is = signal_of how size steps k s (omega (arith, low)) is

pub next_steps : (phase : Phase) (j : WriteJob) (how : How) (plan : Plan) → IsWork j (Blocks how plan) → next_at phase j ≡ block_puts how j.size (steps_at phase plan)
next_steps Prepared j how plan is = ap (λ p. p.close) is.parts
next_steps Emptied j how plan is = ap (λ p. p.fill) is.parts
next_steps Filled j how plan is = ap (λ p. p.last) is.parts
