-- What stands behind the lines that a reader gave. This project's own.
use Rattle.std.specs.Prelude.{◌≡◌, ℕ, ◌+◌, ◌<◌, ◌≤◌, ◌⊎◌, List, [], ◌++◌, length, Bool, false, Option, IfSome}
use Rattle.nfc_io.specs.declared.rest.Rest.{Rest}
use Rattle.nfc_io.specs.declared.rest.Rest.TheVariants.{Whole, TooLong}
use Rattle.nfc_io.specs.Lines.{lines_of}
use Rattle.nfc_io.specs.Moves.{with_front}
use Rattle.nfc_io.specs.Reading.{Lined, new_lined, most_of_a_read, GaveLines, AreSpelled}

-- the bytes that are handed over
abbrev pub bytes_of : Rest → List ℕ
bytes_of (Whole bytes) = bytes.items
bytes_of (TooLong bytes) = bytes.items

-- Bytes were read behind those held, until there were more than so many: behind the source's end none, and in the last
-- read no more than one read brings.
pub record ReadsOn (most : ℕ) (is_ended : Bool) (held bytes : List ℕ) (left left' : Option (List ℕ)) : Type 0 where
  pub got : List ℕ
  pub parts : bytes ≡ held ++ got
  pub read : left ≡ with_front got left'
  pub wanted : (got ≡ []) ⊎ ((is_ended ≡ false) × (length bytes ≤ most + most_of_a_read))

-- These are all the bytes behind the lines, no more than so many, and the source is at its end; or there are more.
abbrev pub IsAll : ℕ → Bool → Option (List ℕ) → Rest → Type 0
IsAll most is_ended left' (Whole bytes) = (length bytes.items ≤ most)
    × (is_ended ≡ false → IfSome left' (λ rest. rest ≡ []))
IsAll most is_ended left' (TooLong bytes) = most < length bytes.items

-- A reader hands over what it holds, and what its source has behind that.
pub record HandsOver (most : ℕ) (a : Lined) (left left' : Option (List ℕ)) (rest : Rest) : Type 0 where
  pub on : ReadsOn most a.is_ended a.held (bytes_of rest) left left'
  pub all : IsAll most a.is_ended left' rest

-- Bytes of the source were read and aren't given, no more than are wanted and one read brings.
pub record TakesSome (most : ℕ) (left left' : Option (List ℕ)) : Type 0 where
  pub got : List ℕ
  pub read : left ≡ with_front got left'
  pub few : length got ≤ most + most_of_a_read

-- a rest that is whole
abbrev pub IsWhole : Rest → Type 0
IsWhole (Whole bytes) = Unit {0}
IsWhole (TooLong bytes) = ⊥

-- All that a source gave: the lines, each with its LF, and what is handed over behind them; or the last line lacks its
-- LF, and nothing is handed over. Where that is whole, the source is at its end, and these are its first lines.
pub record HasGivenAll (lines : List (List ℕ)) (left left' : Option (List ℕ)) (rest : Rest) : Type 0 where
  pub bytes : List ℕ
  pub read : left ≡ with_front bytes left'
  pub spelled : AreSpelled bytes lines (bytes_of rest)
  pub first : IsWhole rest → lines_of bytes ≡ lines ++ lines_of (bytes_of rest)
  pub ended : IsWhole rest → IfSome left' (λ rest. rest ≡ [])

-- However a source cuts its bytes, a reader gives them all: by lines, and then the rest.
abbrev pub GivesAll : Type 0
GivesAll =
    (lines : List (List ℕ)) (left mid left' : Option (List ℕ)) (b : Lined) (most : ℕ) (rest : Rest)
    → GaveLines lines new_lined left b mid → HandsOver most b mid left' rest → HasGivenAll lines left left' rest
