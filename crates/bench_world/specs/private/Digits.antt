-- The digits of all bytes.
use Rattle.std.specs.Prelude.{ℕ, List}
use Rattle.std.specs.List.{range_with_len}
use Rattle.hex.specs.Hex.{encode_upper}

-- the two digits of each byte from 0 to 255
abbrev pub all_pairs : List ℕ
all_pairs = encode_upper (range_with_len 0 256)
