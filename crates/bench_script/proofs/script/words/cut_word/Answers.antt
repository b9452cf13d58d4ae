use Rattle.std.proofs.Common.{◌<◌, length, arith}
use Rattle.std.proofs.lemmas.List.{take_rest}
use Rattle.bench_script.proofs.Words.{words_cut}
use Rattle.bench_script.proofs.script.words.cut_word.Goals as goal

pub returns-then-b-eq32 : goal.returns-then-b-eq32
returns-then-b-eq32 c =
    let within : c.loop-i.i < length c.args.text.now = omega arith in
    rw take_rest (words_cut c.args.text.now c.loop-i.i within c.loop-i.invariant c.if-b-eq32.true)
