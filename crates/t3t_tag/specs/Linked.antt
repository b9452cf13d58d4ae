-- A Type 3 tag behind a link, of which the link's state shows the store.
use Rattle.std.specs.Prelude.{ℕ, List, Bool}
use Rattle.nfc_base.specs.Signal.{Signal}
use Rattle.nfc_base.specs.TagLinks.{TagState, TagStep}
use Rattle.t3t_tag.specs.Store.{T3State}
use Rattle.t3t_tag.specs.Step.{t3_answer, t3_after}

abbrev pub t3_memory : List ℕ → List Bool → TagState → T3State
t3_memory id locked s = record { id = id; store = s.store; locked = locked }

abbrev pub t3_step : List ℕ → List Bool → TagState → Signal → TagStep
t3_step id locked s f = record {
  answer = t3_answer (t3_memory id locked s) f;
  after = record s { store = (t3_after (t3_memory id locked s) f).store };
}
