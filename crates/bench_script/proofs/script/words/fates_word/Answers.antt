use Rattle.std.proofs.Common.{◌<◌, ℕ, List, length, map, get_or, ◌∙◌, ap, arith}
use Rattle.bench_script.specs.Script.{fate_letter}
use Rattle.bench_script.proofs.Spelling.{letter_at}
use Rattle.bench_script.proofs.script.words.fates_word.Goals as goal

pub returns-in-None-clause-refused : goal.returns-in-None-clause-refused
returns-in-None-clause-refused c = λ is fates spelled.
    let i : ℕ = c.loop-letter.letter-index in
    let within : i < length (map fate_letter fates) = omega (arith, c.loop-letter-test.true, ap length spelled.letters) in
    let one = letter_at fates i 0 within in
    c.in-None.ensures one.0 (ap (λ (l : List ℕ). get_or l i 0) spelled.letters ∙ one.1)
