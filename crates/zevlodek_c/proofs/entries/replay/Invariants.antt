use Rattle.std.proofs.Common.{◌≡◌, List, length, Some}
use Rattle.zevlodek_c.specs.Entries.{Entry, IsEntryLog, SpellsEntries, takes_all}
use Rattle.zevlodek_c.proofs.entries.replay.Given as goal

abbrev pub invariant-loop-rest : goal.invariant-loop-rest
invariant-loop-rest g l = record {
  whole : IsEntryLog l.rest → IsEntryLog l.initial.rest;
  goes : (es : List Entry) → SpellsEntries es l.initial.rest → (more : List Entry) × SpellsEntries more l.rest
      × (takes_all g.E.Replayed.takes (Some l.fn.end) es ≡ takes_all g.E.Replayed.takes (Some l.now) more);
}

abbrev pub decreases-loop-rest : goal.decreases-loop-rest
decreases-loop-rest g l = length l.rest
