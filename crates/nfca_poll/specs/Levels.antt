-- The cascade levels of an NFC-A identifier (ISO/IEC 14443-3): one, two or three of five bytes each. The last level
-- has four bytes of the identifier, each earlier one the cascade tag and three; the fifth byte is BCC, their XOR.
use Rattle.std.specs.Prelude.{ℕ, List, [], ◌∷◌, ◌++◌, take, drop, length, slice_index, Bool, ◌==◌, if◌then◌else◌}
use Rattle.std.specs.Prelude.{bit_xor}
use Rattle.nfca_poll.specs.Ident.{cascade_tag}

-- the check byte of four bytes
abbrev pub bcc : List ℕ → ℕ
bcc bytes = bit_xor (bit_xor (bit_xor (slice_index bytes 0) (slice_index bytes 1)) (slice_index bytes 2))
    (slice_index bytes 3)

-- a level: four bytes and their check byte
abbrev pub level : List ℕ → List ℕ
level bytes = bytes ++ bcc bytes ∷ []

-- the levels of an identifier of 4, 7 or 10 bytes
abbrev pub levels : List ℕ → List (List ℕ)
levels id =
    if length id == 4 then level id ∷ []
    else if length id == 7 then level (cascade_tag ∷ take 3 id) ∷ level (drop 3 id) ∷ []
    else level (cascade_tag ∷ take 3 id) ∷ level (cascade_tag ∷ take 3 (drop 3 id)) ∷ level (drop 6 id) ∷ []

-- the identifier that some levels have: of each but the last the three bytes behind the cascade tag
abbrev pub identifier : List (List ℕ) → List ℕ
identifier [] = []
identifier (l ∷ []) = take 4 l
identifier (l ∷ m ∷ ls) = take 3 (drop 1 l) ++ identifier (m ∷ ls)

-- a level that says that another one follows
abbrev pub cascades : List ℕ → Bool
cascades l = slice_index l 0 == cascade_tag
