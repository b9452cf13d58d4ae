use Rattle.std.proofs.Common.{◌≡◌, ◌++◌, map, drop}
use Rattle.bench_script.specs.Script.{fate_letter}
use Rattle.bench_script.proofs.script.words.fates_word.Given as goal

abbrev pub invariant-loop-letter : goal.invariant-loop-letter
invariant-loop-letter l = map fate_letter l.fates.items ++ drop l.letter-index l.word ≡ l.word
