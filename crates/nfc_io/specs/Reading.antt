-- Lines that are read one by one. This project's own.
use Rattle.std.specs.Prelude.{◌≡◌, ℕ, ◌+◌, ◌<◌, ◌≤◌, ◌⊎◌, List, [], ◌∷◌, ◌++◌, length, take, slice_index, Bool, true}
use Rattle.std.specs.Prelude.{false, Option, Some, None, IfSome, Result, Ok, Err}
use Rattle.nfc_io.specs.declared.line_reader.LineStop.{LineStop}
use Rattle.nfc_io.specs.declared.line_reader.LineStop.TheVariants.{ReadFault, TooLong}
use Rattle.nfc_io.specs.declared.held.LineEnd.{LineEnd}
use Rattle.nfc_io.specs.declared.held.LineEnd.TheVariants.{Lf, Source}
use Rattle.nfc_io.specs.Lines.{lines_of, NoLf, joined}
use Rattle.nfc_io.specs.Moves.{with_front}

-- how many bytes a line may have, without its LF, and how many one read brings at most
abbrev pub longest : ℕ
longest = 4096

abbrev pub most_of_a_read : ℕ
most_of_a_read = 4096

-- A reader of lines: the last line that it gave, the bytes that were read and aren't given yet, whether the source came
-- to its end, and why the reader stopped.
pub record Lined : Type 0 where
  pub line : List ℕ
  pub held : List ℕ
  pub is_ended : Bool
  pub stop : Option LineStop

abbrev pub new_lined : Lined
new_lined = record { line = []; held = []; is_ended = false; stop = None }

-- These bytes were wanted: with those held before, what all reads but the last brought was no whole line and none too
-- long; and the last brought at most so many.
pub record AreWanted (held got : List ℕ) : Type 0 where
  pub front : List ℕ
  pub chunk : List ℕ
  pub parts : got ≡ front ++ chunk
  pub none : NoLf (held ++ front)
  pub short : length (held ++ front) ≤ longest
  pub size : length chunk ≤ most_of_a_read

-- Bytes were read behind those held, which make this text, and no more than was wanted; behind the source's end none.
pub record Fetches (is_ended : Bool) (held text : List ℕ) (left left' : Option (List ℕ)) : Type 0 where
  pub got : List ℕ
  pub parts : text ≡ held ++ got
  pub read : left ≡ with_front got left'
  pub wanted : (got ≡ []) ⊎ ((is_ended ≡ false) × AreWanted held got)

-- A text's first line was given: one that ends with LF, and what stands behind that is held; or the last, and nothing
-- is.
pub record GivesLine (text : List ℕ) (b : Lined) : Type 0 where
  pub parts : (text ≡ b.line ++ 10 ∷ b.held) ⊎ ((text ≡ b.line) × (b.held ≡ []) × (0 < length b.line)
      × (b.is_ended ≡ true))
  pub clean : NoLf b.line
  pub short : length b.line ≤ longest
  pub going : b.stop ≡ None

-- What a call came to, by the text that was held behind it.
abbrev pub ComesTo : Lined → List ℕ → Result Bool LineStop → Lined → Type 0
ComesTo a text (Ok true) b = GivesLine text b
ComesTo a text (Ok false) b = (text ≡ []) × (b ≡ record a { is_ended = true })
ComesTo a text (Err TooLong) b =
    (longest < length text) × NoLf (take (longest + 1) text) × (b ≡ record a { held = text; stop = Some TooLong })
ComesTo a text (Err ReadFault) b =
    (a.is_ended ≡ false) × (length text ≤ longest) × NoLf text × (b ≡ record a { held = text; stop = Some ReadFault })

-- One call: what it read, and what it came to.
pub record Advances (a b : Lined) (left left' : Option (List ℕ)) (result : Result Bool LineStop) : Type 0 where
  pub text : List ℕ
  pub fetched : Fetches a.is_ended a.held text left left'
  pub came : ComesTo a text result b
  pub ended : a.is_ended ≡ false → b.is_ended ≡ true → IfSome left' (λ rest. rest ≡ [])
  pub stays : a.is_ended ≡ true → b.is_ended ≡ true

-- What was found behind the last line: whether a byte stands there, which is held then.
abbrev pub Finds : Lined → List ℕ → Result Bool LineStop → Lined → Type 0
Finds a text (Ok true) b = (0 < length text) × (b ≡ record a { held = text })
Finds a text (Ok false) b = (text ≡ []) × (b ≡ record a { is_ended = true })
Finds a text (Err TooLong) b = ⊥
Finds a text (Err ReadFault) b = (a.is_ended ≡ false) × (text ≡ []) × (b ≡ record a { stop = Some ReadFault })

-- A look at whether something follows: it reads once where nothing is held and the source isn't known to be at its end,
-- and else not at all.
pub record Looks (a b : Lined) (left left' : Option (List ℕ)) (result : Result Bool LineStop) : Type 0 where
  pub got : List ℕ
  pub read : left ≡ with_front got left'
  pub wanted : (got ≡ []) ⊎ ((a.is_ended ≡ false) × (a.held ≡ []) × (length got ≤ most_of_a_read))
  pub found : Finds a (a.held ++ got) result b
  pub ended : a.is_ended ≡ false → b.is_ended ≡ true → IfSome left' (λ rest. rest ≡ [])

-- What the parts of a call do.

-- the first LF of a text is behind so many bytes
pub record HoldsLf (text : List ℕ) (n : ℕ) : Type 0 where
  pub within : n < length text
  pub lf : slice_index text n ≡ 10
  pub clean : NoLf (take n text)

-- one read got so many bytes behind those held; at none the source is at its end
pub record Gets (n : ℕ) (held text : List ℕ) (left left' : Option (List ℕ)) : Type 0 where
  pub got : List ℕ
  pub size : length got ≡ n
  pub few : n ≤ most_of_a_read
  pub parts : text ≡ held ++ got
  pub read : left ≡ with_front got left'
  pub end : n ≡ 0 → IfSome left' (λ rest. rest ≡ [])

-- where the text's first line ends
abbrev pub Reaches : Bool → List ℕ → Option (List ℕ) → LineEnd → Type 0
Reaches is_ended text left' (Lf n) = HoldsLf text n
Reaches is_ended text left' Source =
    NoLf text × (length text ≤ longest) × (is_ended ≡ false → IfSome left' (λ rest. rest ≡ []))

-- why it has none
abbrev pub Lacks : Bool → List ℕ → LineStop → Type 0
Lacks is_ended text TooLong = (longest < length text) × NoLf (take (longest + 1) text)
Lacks is_ended text ReadFault = (is_ended ≡ false) × (length text ≤ longest) × NoLf text

-- Calls, one after the other, that each gave a line: these lines, from one state of the reader and the source to
-- another.
abbrev pub GaveLines : List (List ℕ) → Lined → Option (List ℕ) → Lined → Option (List ℕ) → Type 0
GaveLines [] a left b left' = (b ≡ a) × (left' ≡ left)
GaveLines (l ∷ ls) a left b left' =
    (m : Lined) × (mid : Option (List ℕ)) × Advances a m left mid (Ok true) × (m.line ≡ l) × GaveLines ls m mid b left'

-- The bytes are these lines, each with its LF, and those held behind them; or the last line lacks its LF, and nothing
-- is held.
abbrev pub AreSpelled : List ℕ → List (List ℕ) → List ℕ → Type 0
AreSpelled bytes lines held =
    (bytes ≡ joined lines ++ held)
    ⊎ ((held ≡ []) × (before : List (List ℕ)) × (last : List ℕ) × (lines ≡ before ++ last ∷ [])
    × (bytes ≡ joined before ++ last))

-- What a reader has given since it was made, which is all that its source gave it but what it holds: only behind the
-- source's end may the last line lack its LF. Whatever follows, these lines are the first, and at the source's end
-- nothing follows.
pub record HasGiven (lines : List (List ℕ)) (left : Option (List ℕ)) (b : Lined) (left' : Option (List ℕ))
    : Type 0 where
  pub bytes : List ℕ
  pub read : left ≡ with_front bytes left'
  pub spelled : AreSpelled bytes lines b.held
  pub whole : b.is_ended ≡ false → bytes ≡ joined lines ++ b.held
  pub first : (more : List ℕ) → (b.is_ended ≡ true → more ≡ [])
      → lines_of (bytes ++ more) ≡ lines ++ lines_of (b.held ++ more)
  pub ended : b.is_ended ≡ true → IfSome left' (λ rest. rest ≡ [])

-- However a source cuts its bytes, the lines that are given are those of its bytes, in order.
abbrev pub GivesInOrder : Type 0
GivesInOrder =
    (lines : List (List ℕ)) (left left' : Option (List ℕ)) (b : Lined) → GaveLines lines new_lined left b left'
    → HasGiven lines left b left'
