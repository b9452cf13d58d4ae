use Rattle.std.proofs.Common.{refl}
use Rattle.far_air.proofs.law.two_frames.Goals as goal

pub returns : goal.returns
returns c = record { first = refl; begins = refl; second = refl; hands = refl; dark = refl }
