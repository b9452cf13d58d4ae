-- An end of a link whose payloads have given numbers of PDUs, one number each (NFC Forum LLCP 1.3, aggregation; so that
-- a stored report can be followed, this is this project's own).
use Rattle.std.specs.Prelude.{◌≡◌, ◌≤◌, ℕ, List, length}
use Rattle.nfc_base.specs.Choosing.{Choosing, first_number, later_numbers}
use Rattle.llcp_link.specs.Serving.{Serving}
use Rattle.llcp_link.specs.State.{LlcState, restarted}
use Rattle.llcp_link.specs.Answering.{Answers, Stops}

-- a new link begins; it takes no number
abbrev pub RestartsCounted : {S : Type 0} → Serving S → Choosing (LlcState S) → List ℕ → Choosing (LlcState S) → Type 0
RestartsCounted m old general new = new ≡ record { end = restarted m old.end general; numbers = old.numbers }

-- One step: a payload is taken, and one is given that has as many PDUs as the next number says.
pub record AnswersCounted {S : Type 0} (m : Serving S) (old : Choosing (LlcState S)) (payload reply : List ℕ)
    (new : Choosing (LlcState S)) : Type 0 where
  pub answers : Answers m (first_number old.numbers) old.end payload reply new.end
  pub numbers : new.numbers ≡ later_numbers old.numbers

-- a step that want of memory left unfinished
abbrev pub StopsCounted : {S : Type 0} → Serving S → Choosing (LlcState S) → List ℕ → Choosing (LlcState S) → Type 0
StopsCounted m old payload new = Stops m old.end payload new.end

pub counted_fit : {S : Type 0} (m : Serving S) (a : Choosing (LlcState S)) (payload reply : List ℕ)
    (b : Choosing (LlcState S)) → AnswersCounted m a payload reply b → length reply ≤ 2178
counted_fit m a payload reply b h = h.answers.size
