-- The tag behind a chip of which nothing is known: it is what the chip answers, by how often it was asked.
use Rattle.std.specs.Prelude.{ℕ, suc, List, [], ◌∷◌, slice_index, Option, Some}
use Rattle.nfc_base.specs.Signal.{Signal}
use Rattle.nfc_base.specs.TagLinks.{TagState, TagStep, plain_state}
use Rattle.nfc_base.specs.declared.tag_link.AskFault.{AskFault}
use Rattle.nfc_base.specs.declared.tag_link.AskFault.TheVariants.{SixBad}
use Rattle.tag_reader.specs.declared.how.How.{How}
use Rattle.tag_reader.specs.declared.how.How.TheVariants.{T5}

-- The tag's store is one number: how often it was asked.
abbrev pub asked_so_often : ℕ → TagState
asked_so_often n = plain_state (n ∷ [])

-- A step, whatever the command is: the tag answers what the chip answers then, and was asked once more.
abbrev pub chip_step : (ℕ → Option Signal) → TagState → Signal → TagStep
chip_step answers s command = record {
  answer = answers (slice_index s.store 0);
  after = asked_so_often (suc (slice_index s.store 0));
}

-- the identifier by which a tag is addressed
abbrev pub identifier_of : How → List ℕ
identifier_of (T5 id) = id
identifier_of how = []

-- The link is over by want of an answer, or it isn't: so often an answer was wanting.
abbrev pub silences : Option AskFault → ℕ
silences (Some SixBad) = 1
silences fault = 0
