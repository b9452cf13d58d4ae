use Rattle.std.proofs.Common.{refl}
use Rattle.tag_tests.proofs.read_tests.read_t2.Goals as goal

pub read-outcome-requires-clause-of : goal.read-outcome-requires-clause-of
read-outcome-requires-clause-of c = record { kind = refl; named = tt }
