use Rattle.std.proofs.Common.{◌≡◌, sym, ◌∙◌, ap, arith, Ok}
use Rattle.std.proofs.lemmas.Grind.{common_steps}
use Rattle.std.specs.Fmt.{decimal}
use Rattle.std.proofs.lemmas.Fmt.{parse-decimal}
use Rattle.std.specs.Cmp.Lexicographic.{other_text}
use Rattle.nfc_bench.proofs.top.words.number_word.Goals as goal

pub returns-in_default : goal.returns-in_default
returns-in_default c = λ n small e.
    let read : c.parse.result ≡ Ok n = parse-decimal 16 n c.args.word.now c.parse.result small (omega arith) e c.parse.ensures.value.0 in
    cc

pub returns-else-eq : goal.returns-else-eq
returns-else-eq c = λ n small e.
    let read : c.parse.result ≡ Ok n = parse-decimal 16 n c.args.word.now c.parse.result small (omega arith) e c.parse.ensures.value.0 in
    let same : c.in-Ok.number ≡ n = cc in
    let written : c.as_slice.result.now ≡ decimal c.in-Ok.number = grind (arith, common_steps) in
    let alike : c.as_slice.result.now ≡ c.as_bytes.result.now = written ∙ ap decimal same ∙ sym e ∙ sym c.as_bytes.ensures.value in
    other_text c.as_slice.result.now c.as_bytes.result.now (sym c.if-eq.false ∙ c.eq.ensures) alike
