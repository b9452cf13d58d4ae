-- How often a write writes at one address, and that it writes no content that stands there.
use Rattle.std.specs.Prelude.{◌≡◌, ◌≢◌, ℕ, ◌+◌, ◌*◌, ◌/◌, ◌<◌, ◌≤◌, ◌⊎◌, ◌==◌, if◌then◌else◌, List, [], ◌∷◌, length}
use Rattle.std.specs.Prelude.{take, drop, slice_index}
use Rattle.tag_reader.specs.declared.how.How.{How}
use Rattle.tag_reader.specs.declared.how.How.TheVariants.{T2, T4, T5}
use Rattle.tag_writer.specs.Puts.{Put, put_into}
use Rattle.tag_writer.specs.Place.{Place}

-- Where the message's length is written: the first address of the block that has its first byte or, in a file, that
-- byte's own.
abbrev pub home_at : How → ℕ → Place → ℕ
home_at T2 size place = 4 * (slice_index place.span 0 / 4)
home_at T4 size place = slice_index place.span 0
home_at (T5 id) size place = size * (slice_index place.span 0 / size)

-- how many bytes are written there
abbrev pub home_size : How → ℕ → ℕ
home_size T2 size = 4
home_size T4 size = 2
home_size (T5 id) size = size

-- a write of the length
abbrev pub IsHomePut : How → ℕ → Place → Put → Type 0
IsHomePut how size place p = (p.at ≡ home_at how size place) × (length p.bytes ≡ home_size how size)

-- two stores are the same but for the length's block or, in a file, its length
abbrev pub SameElsewhere : How → ℕ → Place → List ℕ → List ℕ → Type 0
SameElsewhere how size place s t = (a : ℕ) → (a < home_at how size place)
    ⊎ (home_at how size place + home_size how size ≤ a) →
    slice_index s a ≡ slice_index t a

-- how many of some writes begin at an address
abbrev pub writes_at : ℕ → List Put → ℕ
writes_at a [] = 0
writes_at a (p ∷ ps) = (if p.at == a then 1 else 0) + writes_at a ps

-- None of the writes, when it comes, brings what stands there already.
abbrev pub EachIsOther : List ℕ → List Put → Type 0
EachIsOther store [] = Unit {0}
EachIsOther store (p ∷ ps) = (take (length p.bytes) (drop p.at store) ≢ p.bytes) × EachIsOther (put_into store p) ps

-- so on a tag of blocks; the pieces of a message that goes into a file are all written
abbrev pub ChangesEach : How → List ℕ → List Put → Type 0
ChangesEach T2 store puts = EachIsOther store puts
ChangesEach T4 store puts = Unit {0}
ChangesEach (T5 id) store puts = EachIsOther store puts

-- The length is written twice at most, and each other block or offset once.
pub record AreFew (how : How) (size : ℕ) (store : List ℕ) (place : Place) (puts : List Put) : Type 0 where
  pub twice : writes_at (home_at how size place) puts ≤ 2
  pub once : (a : ℕ) → a ≢ home_at how size place → writes_at a puts ≤ 1
  pub changed : ChangesEach how store puts
