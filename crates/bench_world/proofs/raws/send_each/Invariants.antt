use Rattle.std.proofs.Common.{drop}
use Rattle.bench_world.proofs.by_hand.RawSending.{Sending}
use Rattle.bench_world.proofs.raws.send_each.Given as goal

abbrev pub invariant-loop-frame : goal.invariant-loop-frame
invariant-loop-frame g l = Sending g.A.Answerer.restarts g.A.Answerer.steps l.fn.field l.fn.far l.frames (drop l.frame-index l.frames) l.field l.far l.told.items
