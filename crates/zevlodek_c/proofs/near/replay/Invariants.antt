use Rattle.std.proofs.Common.{length}
use Rattle.zevlodek_c.specs.Near.{Rests}
use Rattle.zevlodek_c.specs.NearReplaying.{IsGoing, Reaches, now_of}
use Rattle.zevlodek_c.proofs.near.replay.Given as goal

abbrev pub invariant-loop-rest : goal.invariant-loop-rest
invariant-loop-rest l = record {
  going : IsGoing l.client;
  reaches : Reaches (Rests l.fn.client.llc) l.fn.log (now_of l.client.llc l.came) l.rest;
}

abbrev pub decreases-loop-rest : goal.decreases-loop-rest
decreases-loop-rest l = length l.rest
