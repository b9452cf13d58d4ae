-- The tag that gave some answers: its store counts the commands that it was asked.
use Rattle.std.specs.Prelude.{ℕ, zero, suc, List, [], ◌∷◌, length, Option, Some, None, false}
use Rattle.nfc_base.specs.Signal.{Signal}
use Rattle.nfc_base.specs.TagLinks.{TagState, TagStep, plain_state}
use Rattle.tag_reader.specs.declared.how.How.{How}
use Rattle.tag_reader.specs.declared.how.How.TheVariants.{T2, T4, T5}
use Rattle.tag_reader.specs.Kinds.{kind_of}
use Rattle.tag_steps.specs.declared.turn.Turn.{Turn}
use Rattle.tag_steps.specs.Replay.{Tag}

abbrev pub id_of : How → List ℕ
id_of T2 = []
id_of T4 = []
id_of (T5 id) = id

abbrev pub answer_in : List Turn → ℕ → Option Signal
answer_in [] n = None
answer_in (t ∷ ts) zero = Some t.answer
answer_in (t ∷ ts) (suc n) = answer_in ts n

abbrev pub log_step : List Turn → TagState → Signal → TagStep
log_step turns s c = record { answer = answer_in turns (length s.store); after = record s { store = 0 ∷ s.store } }

abbrev pub logged : How → List Turn → Tag
logged how turns = record {
  kind = kind_of how;
  identifier = id_of how;
  start = plain_state [];
  step = log_step turns;
  lost = false;
}
