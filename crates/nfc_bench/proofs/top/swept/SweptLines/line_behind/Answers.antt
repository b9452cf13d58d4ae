use Rattle.std.proofs.Common.{◌≡◌, ◌+◌, ◌/◌, ◌%◌, ◌<◌, ℕ, List, sym, ◌∙◌, ap, subst, arith}
use Rattle.std.specs.Prelude.{codes}
use Rattle.bench_script.specs.Script.{most_fates}
use Rattle.nfc_bench.specs.Sweep.{Swept, fates_line}
use Rattle.nfc_bench.proofs.SweptLines.{whole_line, break_line, last_again, read_last}
use Rattle.nfc_bench.proofs.top.swept.SweptLines.line_behind.Goals as goal

pub returns-then-place-whole : goal.returns-then-place-whole
returns-then-place-whole c =
    let s : Swept = c.args.self.now in
    let same : c.self.inside.passes ≡ s.passes = ap (λ (x : Swept). x.passes) c.self.view_is in
    c.fates_line.ensures ∙ sym (whole_line s.passes c.args.place s.last s.read (subst (λ n. c.args.place < n / most_fates) same c.if-place-whole.true))

pub returns-then-place-whole-2 : goal.returns-then-place-whole-2
returns-then-place-whole-2 c =
    let s : Swept = c.args.self.now in
    let same : c.self.inside.passes ≡ s.passes = ap (λ (x : Swept). x.passes) c.self.view_is in
    c.fates_line-then-place-whole-2.ensures ∙ ap (λ n. fates_line (n % most_fates) (codes "B")) same
    ∙ sym (break_line s.passes c.args.place s.last s.read (c.if-place-whole-2.true ∙ ap (λ n. n / most_fates) same))

pub returns-then-place-whole-3 : goal.returns-then-place-whole-3
returns-then-place-whole-3 c =
    let s : Swept = c.args.self.now in
    let same : c.self.inside.passes ≡ s.passes = ap (λ (x : Swept). x.passes) c.self.view_is in
    c.copy_of.ensures ∙ ap (λ (x : Swept). x.last) c.self.view_is ∙ sym (last_again s.passes c.args.place s.last s.read (c.if-place-whole-3.true ∙ ap (λ n. n / most_fates + 1) same))

-- the last place
at_end : (place n : ℕ) → place < n + 3 → (place < n → ⊥) → (place ≡ n → ⊥) → (place ≡ n + 1 → ⊥) → place ≡ n + 2
at_end place n few a b d = omega (arith, few, a, b, d)

pub returns-else-place-whole-3 : goal.returns-else-place-whole-3
returns-else-place-whole-3 c =
    let s : Swept = c.args.self.now in
    let same : c.self.inside.passes / most_fates ≡ s.passes / most_fates = ap (λ (x : Swept). x.passes / most_fates) c.self.view_is in
    let first : c.args.place < s.passes / most_fates → ⊥ = λ less. omega (arith, less, same, c.if-place-whole.false) in
    let second : c.args.place ≡ s.passes / most_fates → ⊥ = λ is. c.if-place-whole-2.false (is ∙ sym same) in
    let third : c.args.place ≡ s.passes / most_fates + 1 → ⊥ = λ is. c.if-place-whole-3.false (is ∙ ap (λ n. n + 1) (sym same)) in
    c.copy_of-else-place-whole-3.ensures ∙ ap (λ (x : Swept). x.read) c.self.view_is
    ∙ sym (read_last s.passes c.args.place s.last s.read (at_end c.args.place (s.passes / most_fates) c.requires first second third))
