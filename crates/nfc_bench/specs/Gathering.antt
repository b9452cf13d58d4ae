-- Bytes that are gathered on their way into a sink. This project's own.
use Rattle.std.specs.Prelude.{◌≡◌, ℕ, List, ◌++◌, Option}
use Rattle.nfc_io.specs.Moves.{with_end}

-- Of a text the sink, which had taken so much before, gained all but what is left.
pub record IsWritten (text left : List ℕ) (before now : Option (List ℕ)) : Type 0 where
  pub given : List ℕ
  pub parts : text ≡ given ++ left
  pub taken : now ≡ with_end before given
