-- Numbers of two bytes.
use Rattle.std.specs.Prelude.{ℕ, ◌+◌, ◌*◌, List, slice_index}

-- two bytes from one on, high first
abbrev pub word : List ℕ → ℕ → ℕ
word bytes at = slice_index bytes at * 256 + slice_index bytes (at + 1)
