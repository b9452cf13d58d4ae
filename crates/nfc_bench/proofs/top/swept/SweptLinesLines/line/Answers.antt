use Rattle.std.proofs.Common.{◌≡◌, ◌+◌, ◌-◌, ◌/◌, ◌<◌, ◌≤◌, ◌++◌, ◌∷◌, [], ℕ, List, length, get_or, sym, ◌∙◌, ap, subst, arith}
use Rattle.bench_script.specs.Script.{most_fates}
use Rattle.nfc_bench.specs.Sweep.{Swept, break_lines}
use Rattle.nfc_bench.proofs.SweptLines.{sweep_count, line_before, line_behind}
use Rattle.nfc_bench.proofs.top.swept.SweptLinesLines.line.Goals as goal

pub returns-then-place-before : goal.returns-then-place-before
returns-then-place-before c =
    let s : Swept = c.args.self.now in
    let same : c.self.inside.before.lines ≡ s.before = ap (λ (x : Swept). x.before) c.self.view_is in
    let size : c.line_count-before.result ≡ length s.before = c.line_count-before.ensures.value ∙ ap length same in
    c.line_at.ensures ∙ ap (λ ls. get_or ls c.args.place []) same ∙ sym (line_before s.before s.last s.read s.passes c.args.place (omega (arith, size, c.if-place-before.true)))

pub line_behind-requires : goal.line_behind-requires
line_behind-requires c =
    let s : Swept = c.args.self.now in
    let size : c.line_count-before.result ≡ length s.before = c.line_count-before.ensures.value ∙ ap (λ (x : Swept). length x.before) c.self.view_is in
    omega (arith, size, c.if-place-before.false, c.requires, sweep_count s.before s.last s.read s.passes)

pub returns : goal.returns
returns c =
    let s : Swept = c.args.self.now in
    let size : c.line_count-before.result ≡ length s.before = c.line_count-before.ensures.value ∙ ap (λ (x : Swept). length x.before) c.self.view_is in
    c.line_behind.ensures ∙ ap (λ n. get_or (break_lines s.passes ++ s.last ∷ s.read ∷ []) (c.args.place - n) []) size
    ∙ sym (line_behind s.before s.last s.read s.passes c.args.place (omega (arith, size, c.if-place-before.false)))
