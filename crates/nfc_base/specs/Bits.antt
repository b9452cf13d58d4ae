-- The bits of a frame, in the order in which they are sent: least significant bit of each byte first (ISO/IEC 14443-3).
use Rattle.std.specs.Prelude.{ℕ, zero, suc, ◌+◌, ◌-◌, ◌*◌, ◌/◌, ◌%◌, List, [], ◌∷◌, ◌++◌, length, take, Bool, ◌==◌}
use Rattle.std.specs.Prelude.{if◌then◌else◌}
use Rattle.nfc_base.specs.declared.frame.Tech.{Tech}
use Rattle.nfc_base.specs.Signal.{Signal, signal}

-- the k lowest bits of a number, the lowest first
abbrev pub low_bits : ℕ → ℕ → List Bool
low_bits zero n = []
low_bits (suc k) n = (n % 2 == 1) ∷ low_bits k (n / 2)

-- the bits of bytes, eight to a byte
unfoldable pub bits_of : List ℕ → List Bool
bits_of [] = []
bits_of (b ∷ bs) = low_bits 8 b ++ bits_of bs

-- how many bits a frame has
abbrev pub bit_count : Signal → ℕ
bit_count f = if f.tail == 0 then 8 * length f.bytes else 8 * (length f.bytes - 1) + f.tail

-- the bits of a frame
abbrev pub bits : Signal → List Bool
bits f = take (bit_count f) (bits_of f.bytes)

-- the number that some bits stand for, the lowest first
abbrev pub number_of : List Bool → ℕ
number_of [] = 0
number_of (b ∷ bs) = (if b then 1 else 0) + 2 * number_of bs

-- bits as bytes, eight to a byte, the last byte filled up with 0
unfoldable pub packed : List Bool → List ℕ
packed [] = []
packed (a ∷ b ∷ c ∷ d ∷ e ∷ f ∷ g ∷ h ∷ rest) = number_of (a ∷ b ∷ c ∷ d ∷ e ∷ f ∷ g ∷ h ∷ []) ∷ packed rest
packed bs = number_of bs ∷ []

-- the frame of some bits
abbrev pub of_bits : Tech → List Bool → Signal
of_bits tech x = signal tech (packed x) (length x % 8)
