-- Identifiers as they are sent, and masks over them: low byte first, least significant bit first (ISO/IEC 15693-3).
use Rattle.std.specs.Prelude.{ℕ, ◌+◌, ◌-◌, ◌/◌, ◌%◌, ◌^◌, min, List, [], ◌∷◌, reverse, take, Bool, ◌&&◌, nat_eq, nat_le}
use Rattle.std.specs.Cmp.Lexicographic.{pointwise}

-- an identifier low byte first, from one with its high byte first, and back
abbrev pub low_first : List ℕ → List ℕ
low_first id = reverse id

-- how many bits a mask has at most
abbrev pub most_bits : ℕ
most_bits = 64

-- how many whole bytes hold so many bits
abbrev pub mask_size : ℕ → ℕ
mask_size bits = (bits + 7) / 8

-- bytes of which the lowest so many bits are kept, and all others are 0
abbrev pub kept : ℕ → List ℕ → List ℕ
kept bits [] = []
kept bits (b ∷ bs) = b % 2 ^ min bits 8 ∷ kept (bits - 8) bs

-- the mask of so many bits that an identifier answers to: its lowest bits in whole bytes, the unused bits 0
abbrev pub mask_of : List ℕ → ℕ → List ℕ
mask_of id bits = take (mask_size bits) (kept bits (low_first id))

-- whether a mask of so many bits asks for an identifier: none is longer than the identifier
abbrev pub asks_for : List ℕ → ℕ → List ℕ → Bool
asks_for id bits mask = nat_le bits most_bits && pointwise nat_eq mask (mask_of id bits)
