use Rattle.std.proofs.Common.{◌≡◌, ◌<◌, ◌≤◌, ◌-◌, length, arith}
use Rattle.std.specs.Prelude.{slice_index_or}
use Rattle.std.proofs.lemmas.Grind.{common_steps}
use Rattle.bench_script.proofs.Frames.{cut_by_ends, whole_by_ends}
use Rattle.bench_script.proofs.script.rows.tail_parts.Goals as goal
use Rattle.bench_script.proofs.script.rows.tail_parts.Goals.{in_default-via-then-word-lt2, in_default-via-else-word-lt2+then-word-lt49}
use Rattle.bench_script.proofs.script.rows.tail_parts.Goals.{in_default-via-else-word-lt2+else-word-lt49+then-word-lt56+in_default-1, in_default-via-else-word-lt2+else-word-lt49+else-word-lt56}

pub returns-in-47 : goal.returns-in-47
returns-in-47 c =
    let slash : slice_index_or c.args.word.now (length c.args.word.now - 2) 0 ≡ 47 = grind (arith, common_steps) in
    let more : 49 ≤ slice_index_or c.args.word.now (length c.args.word.now - 1) 0 = grind (arith, common_steps) in
    let less : slice_index_or c.args.word.now (length c.args.word.now - 1) 0 < 56 = grind (arith, common_steps) in
    cut_by_ends c.args.word.now c.in-47.len_at_least slash more less

pub returns-in_default : goal.returns-in_default
returns-in_default c = elim c.in_default.branch [
  | in_default-via-then-word-lt2 w ↦ whole_by_ends c.args.word.now (λ two slash more less. grind (arith, common_steps))
  | in_default-via-else-word-lt2+then-word-lt49 w ↦ whole_by_ends c.args.word.now (λ two slash more less. grind (arith, common_steps))
  | in_default-via-else-word-lt2+else-word-lt49+then-word-lt56+in_default-1 w ↦ whole_by_ends c.args.word.now (λ two slash more less. grind (arith, common_steps))
  | in_default-via-else-word-lt2+else-word-lt49+else-word-lt56 w ↦ whole_by_ends c.args.word.now (λ two slash more less. grind (arith, common_steps))
]
