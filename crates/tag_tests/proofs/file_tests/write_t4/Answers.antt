use Rattle.std.proofs.Common.{refl}
use Rattle.tag_tests.proofs.file_tests.write_t4.Goals as goal

pub write-requires-clause-of : goal.write-requires-clause-of
write-requires-clause-of c = record { kind = refl; named = tt }
