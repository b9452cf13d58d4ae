-- The passes of a search for all Type 5 tags, and what they come to over a crowd (passes and their bounds are this
-- project's own).
use Rattle.std.specs.Prelude.{◌≤◌, ℕ, ◌+◌, ◌*◌, List, [], ◌∷◌, length, filter, Bool, if◌then◌else◌}
use Rattle.nfc_base.specs.Trace.{Turn, other_than_pass}
use Rattle.air_core.specs.Joint.{same_signal}
use Rattle.t5t_tag.specs.declared.command.T5Command.TheVariants.{NextSlot}
use Rattle.t5t_tag.specs.Slots.{last_slot}
use Rattle.t5t_tag.specs.Spelling.{command_frame}
use Rattle.nfcv_poll.specs.Finding.{is_answered_question, rounds_begun}
use Rattle.nfcv_poll.specs.Tags.{noise_back}

-- The turns of a search, pass by pass: a pass ends with a question who is left that is answered.
abbrev pub in_first : Turn → List (List Turn) → List (List Turn)
in_first t [] = (t ∷ []) ∷ []
in_first t (p ∷ ps) = (t ∷ p) ∷ ps

abbrev pub passes : List Turn → List (List Turn)
passes [] = []
passes (t ∷ ts) = if is_answered_question t then (t ∷ []) ∷ passes ts else in_first t (passes ts)

-- how many transmissions of some turns had another fate than Pass
abbrev pub noise_of : Turn → ℕ
noise_of t = other_than_pass t.fate + noise_back t.back

abbrev pub noise_in : List Turn → ℕ
noise_in [] = 0
noise_in (t ∷ ts) = noise_of t + noise_in ts

-- how many of them ask for the next slot
abbrev pub asks_next : Turn → Bool
asks_next t = same_signal t.request (command_frame NextSlot)

abbrev pub next_slots : List Turn → ℕ
next_slots ts = length (filter asks_next ts)

-- how many rounds a pass over a crowd makes at most: one, and one for each of eight pairs at each of fifteen lengths of
-- masks
abbrev pub crowd_rounds : ℕ
crowd_rounds = 121

-- a pass of no more rounds, and of no more slots
pub record IsShort (p : List Turn) : Type 0 where
  pub rounds : rounds_begun p ≤ crowd_rounds
  pub slots : next_slots p ≤ last_slot * crowd_rounds
