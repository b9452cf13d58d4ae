use Rattle.std.proofs.Common.{◌≡◌, ◌++◌, List, ℕ, length}
use Rattle.bench_script.specs.Script.{words_of, SpellEach, SpellsPayload}
use Rattle.bench_script.proofs.script.rows.payload_words.Given as goal

abbrev pub invariant-loop : goal.invariant-loop
invariant-loop l = record {
  before : List (List ℕ);
  split : words_of l.text ≡ before ++ words_of l.left;
  each : SpellEach SpellsPayload before l.payloads.items;
  count : length l.payloads.items ≡ l.counter;
}
