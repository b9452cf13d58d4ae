use Rattle.std.proofs.Common.{◌≡◌, true, false, sym, ◌∙◌, subst, arith}
use Rattle.std.proofs.lemmas.Fmt.{decimal_injective}
use Rattle.workload.specs.Workload.{IsCount}
use Rattle.nfc_bench.proofs.Forms.{made_words}
use Rattle.nfc_bench.proofs.top.words.form_of_workload.Goals as goal

pub returns-then-count-clause-none : goal.returns-then-count-clause-none
returns-then-count-clause-none c = λ _ form of.
    let words = made_words c.args.seed.now c.args.count.now form of in
    let same : c.in_ok-count.count ≡ words.1 =
    decimal_injective c.in_ok-count.count words.1 (omega (arith, c.in_ok-count.ensures.1)) (omega (arith, words.5)) (sym c.in_ok-count.ensures.0 ∙ words.3) in
    omega (arith, same, words.5, c.if-count.true)

pub returns-in_err-workload-clause-none : goal.returns-in_err-workload-clause-none
returns-in_err-workload-clause-none c = λ _ form of.
    let words = made_words c.args.seed.now c.args.count.now form of in
    let same : c.in_ok-count.count ≡ words.1 =
    decimal_injective c.in_ok-count.count words.1 (omega (arith, c.in_ok-count.ensures.1)) (omega (arith, words.5)) (sym c.in_ok-count.ensures.0 ∙ words.3) in
    let some : false ≡ true = c.in_err-workload.ensures.valid.1 (subst IsCount (sym same) words.5) in
    absurd cc
