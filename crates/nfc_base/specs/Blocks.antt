-- A memory in blocks of one size.
use Rattle.std.specs.Prelude.{ℕ, ◌+◌, ◌*◌, List, ◌++◌, take, drop}

-- the memory with the content of one block changed, by the size of a block and its number
abbrev pub with_block : ℕ → List ℕ → ℕ → List ℕ → List ℕ
with_block size memory block content = take (size * block) memory ++ content ++ drop (size * block + size) memory

-- the content of one block
abbrev pub block_of : ℕ → List ℕ → ℕ → List ℕ
block_of size memory block = take size (drop (size * block) memory)
