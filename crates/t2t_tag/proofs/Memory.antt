-- Blocks of a store.
use Rattle.std.proofs.Common.{ℕ, zero, suc, ◌+◌, List, [], ◌++◌}
use Rattle.t2t_tag.specs.Step.{rolled}

-- the content of some blocks from one on
abbrev pub blocks_from : List ℕ → ℕ → ℕ → List ℕ
blocks_from store block zero = []
blocks_from store block (suc n) = blocks_from store block n ++ rolled store (block + n)
