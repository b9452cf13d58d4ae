use Rattle.std.proofs.Common.{◌≡◌, ◌++◌, drop}
use Rattle.std.specs.List.{concat}
use Rattle.snep_core.proofs.session.Gathering.whole.Given as goal

abbrev pub invariant-pieces : goal.invariant-pieces
invariant-pieces l = l.whole.items ++ concat (drop l.piece-index l.piece-items) ≡ concat l.piece-items
