-- The updates of a file, one by one.
use Rattle.std.proofs.Common.{◌≡◌, ℕ, Bool, List, ap}
use Rattle.tag_writer.specs.declared.phase.Phase.{Phase}
use Rattle.tag_writer.specs.declared.phase.Phase.TheVariants.{Prepared, Emptied, Filled}
use Rattle.tag_writer.specs.declared.work.Work.TheVariants.{File}
use Rattle.tag_writer.specs.Phases.{WriteJob, IsWork, next_at}
use Rattle.tag_writer.specs.Puts.{file_puts}

-- the updates of a job
pub next_updates : (phase : Phase) (j : WriteJob) (message : List ℕ) (most : ℕ) (close : Bool) → IsWork j (File message most close) → next_at phase j ≡ file_puts phase j.store message
next_updates Prepared j message most close is = ap (λ p. p.close) is.parts.parts
next_updates Emptied j message most close is = ap (λ p. p.fill) is.parts.parts
next_updates Filled j message most close is = ap (λ p. p.last) is.parts.parts
