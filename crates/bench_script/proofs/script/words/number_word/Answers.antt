use Rattle.std.proofs.Common.{◌≡◌, ℕ, List, sym, ◌∙◌, ap, subst, arith, Ok}
use Rattle.std.proofs.lemmas.Grind.{common_steps}
use Rattle.std.specs.Fmt.{decimal}
use Rattle.std.specs.Str.{IsUtf8}
use Rattle.std.proofs.lemmas.Str.{IsUtf8-from_ascii}
use Rattle.std.proofs.lemmas.Fmt.{IsAscii-decimal, parse-decimal}
use Rattle.std.specs.Cmp.Lexicographic.{other_text}
use Rattle.bench_script.proofs.script.words.number_word.Goals as goal

pub returns-in_default : goal.returns-in_default
returns-in_default c = λ n small e. c.in_default.ensures.cases.0 (let P : List ℕ → Type 0 = λ t. IsUtf8 t in subst P (sym e) (IsUtf8-from_ascii (decimal n) (IsAscii-decimal n (omega arith))))

pub returns-in_default-parse : goal.returns-in_default-parse
returns-in_default-parse c = λ n small e.
    let text : c.in-Ok.digits.now ≡ c.args.word.now = c.in-Ok.ensures.cases.0 in
    let read : c.parse.result ≡ Ok n = parse-decimal 32 n c.in-Ok.digits.now c.parse.result small (omega arith) (text ∙ e) c.parse.ensures.value.0 in
    cc

pub returns : goal.returns
returns c = λ n small e.
    let text : c.in-Ok.digits.now ≡ c.args.word.now = c.in-Ok.ensures.cases.0 in
    let read : c.parse.result ≡ Ok n = parse-decimal 32 n c.in-Ok.digits.now c.parse.result small (omega arith) (text ∙ e) c.parse.ensures.value.0 in
    let same : c.in-Ok-parse.n ≡ n = cc in
    let written : c.as_bytes.result.now ≡ decimal c.in-Ok-parse.n = grind (arith, common_steps) in
    let alike : c.as_bytes.result.now ≡ c.args.word.now = written ∙ ap decimal same ∙ sym e in
    other_text c.as_bytes.result.now c.args.word.now (sym c.if-eq.false ∙ c.eq.ensures) alike
