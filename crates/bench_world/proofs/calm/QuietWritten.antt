-- On quiet air a message is written where its tag takes it and none of the blocks that are written for it is locked.
use Rattle.bench_world.specs.Quiet.{QuietIsWritten}
use Rattle.bench_world.proofs.calm.Quiet.{quiet_writes}
use Rattle.bench_world.proofs.calm.Written.{told_written, reached}

pub quiet_is_written : QuietIsWritten
quiet_is_written lines numbers journal s t g e id m d leads step is placed named pass may =
    told_written s e id m d (reached lines numbers journal s leads) placed (quiet_writes s t g e id m d step is placed named pass) may
