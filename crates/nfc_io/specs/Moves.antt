-- How bytes leave a source and come into a sink. This project's own.
use Rattle.std.specs.Prelude.{◌≡◌, ℕ, ◌<◌, List, ◌++◌, length, take, Option, Some, None}

-- bytes with these before them, where they are told
abbrev pub with_front : List ℕ → Option (List ℕ) → Option (List ℕ)
with_front got None = None
with_front got (Some rest) = Some (got ++ rest)

-- bytes with these after them, where they are told
abbrev pub with_end : Option (List ℕ) → List ℕ → Option (List ℕ)
with_end None bytes = None
with_end (Some old) bytes = Some (old ++ bytes)

-- a sink gained the first of these bytes, and not all of them
pub record GainsFront (old new : Option (List ℕ)) (bytes : List ℕ) : Type 0 where
  pub size : ℕ
  pub partial : size < length bytes
  pub gained : new ≡ with_end old (take size bytes)
