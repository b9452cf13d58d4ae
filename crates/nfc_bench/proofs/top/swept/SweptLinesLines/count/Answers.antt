use Rattle.std.proofs.Common.{◌≡◌, ◌+◌, ◌/◌, ℕ, List, length, sym, ◌∙◌, ap}
use Rattle.bench_script.specs.Script.{most_fates}
use Rattle.nfc_bench.specs.Sweep.{Swept}
use Rattle.nfc_bench.proofs.SweptLines.{sweep_count}
use Rattle.nfc_bench.proofs.top.swept.SweptLinesLines.count.Goals as goal

pub returns : goal.returns
returns c =
    let s : Swept = c.args.self.now in
    ap (λ n. n + c.self.inside.passes / most_fates + 3) c.line_count.ensures.value ∙ ap (λ (x : Swept). length x.before + x.passes / most_fates + 3) c.self.view_is
    ∙ sym (sweep_count s.before s.last s.read s.passes)
