use Rattle.std.proofs.Common.{List, length, ◌++◌}
use Rattle.zevlodek_c.specs.Log.{SpellsTurns}
use Rattle.tag_steps.specs.declared.turn.Turn.{Turn}
use Rattle.zevlodek_c.proofs.log.turns_of.Given as goal

abbrev pub invariant-loop-rest : goal.invariant-loop-rest
invariant-loop-rest l = record {
  whole : (ts : List Turn) → SpellsTurns l.tech ts l.rest → SpellsTurns l.tech (l.turns.items ++ ts) l.initial.rest;
  over : (ts : List Turn) → SpellsTurns l.tech ts l.initial.rest → (more : List Turn) × SpellsTurns l.tech more l.rest;
}

abbrev pub decreases-loop-rest : goal.decreases-loop-rest
decreases-loop-rest l = length l.rest
